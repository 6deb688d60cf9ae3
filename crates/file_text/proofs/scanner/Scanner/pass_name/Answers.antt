use Rattle.std.proofs.Common.{◌≡◌, refl, rules}
use Rattle.file_text.specs.declared.due.Due.TheVariants.{Nothing}
use Rattle.file_text.specs.inside.Machine.{in_name}
use Rattle.file_text.specs.inside.Seen.{around_of, state_of}
use Rattle.file_text.proofs.PassedRuns.{in-names, run-as}
use Rattle.file_text.proofs.scanner.Scanner.pass_name.Goals as goal

pub returns-clause-same : goal.returns-clause-same
returns-clause-same c =
    let s = c.args.self.now in
    let before : state_of s ≡ record { due = Nothing; spot = (around_of s, in_name s.tag.name.items) } = rw (c.requires.due, c.requires.mode) refl in
    let after : state_of (record s { tag = record s.tag { name = c.take_in.new.taken } }) ≡ record { due = Nothing; spot = (around_of s, in_name c.take_in.new.taken.items) } = rw (c.requires.due, c.requires.mode) refl in
    run-as _ before after (in-names (around_of s) s.tag.name.items c.take_in.new.taken.items c.args.bytes.now c.run_len-count.result c.run_len-count.ensures (search rules))
