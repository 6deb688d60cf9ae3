use Rattle.std.proofs.Common.{◌≡◌, Some, true, take, drop, refl}
use Rattle.std.proofs.lemmas.List.{take_rest}
use Rattle.file_text.specs.declared.due.Due.TheVariants.{Nothing}
use Rattle.file_text.specs.inside.Machine.{at_gap, run}
use Rattle.file_text.specs.inside.Seen.{around_of, holder_of, state_of}
use Rattle.file_text.proofs.PassedRuns.{in-white, white-gap, run-as}
use Rattle.file_text.proofs.TagsPassWhole.{further}
use Rattle.file_text.proofs.scanner.Scanner.pass_gap.Goals as goal

pub returns-clause-same : goal.returns-clause-same
returns-clause-same c =
    let s = c.args.self.now in
    let bytes = c.args.bytes.now in
    let here : state_of s ≡ record { due = Nothing; spot = (around_of s, at_gap (holder_of s.tag) s.tag.attributes) } = rw (c.requires.due, c.requires.mode) refl in
    let more : run true (Some (state_of s)) (take c.in_ok-passed.passed (drop c.run_len-white.result bytes)) ≡ Some (state_of c.pass_whole_attribute.new.self) =
    rw (take_rest bytes c.run_len-white.result) at c.in_ok-passed.ensures.same in
    further bytes c.run_len-white.result c.in_ok-passed.passed (state_of s) (state_of s) (state_of c.pass_whole_attribute.new.self)
    (run-as _ here here (in-white (around_of s) (at_gap (holder_of s.tag) s.tag.attributes) bytes c.run_len-white.result (white-gap (holder_of s.tag) s.tag.attributes) c.run_len-white.ensures)) more
