use Rattle.std.proofs.Common.{◌≡◌, refl, rules}
use Rattle.file_text.specs.declared.due.Due.TheVariants.{Nothing}
use Rattle.file_text.specs.inside.Machine.{in_value}
use Rattle.file_text.specs.inside.Seen.{around_of, holder_of, state_of}
use Rattle.file_text.proofs.PassedRuns.{in-values, run-as}
use Rattle.file_text.proofs.scanner.Scanner.pass_value.Goals as goal

pub returns-clause-same : goal.returns-clause-same
returns-clause-same c =
    let s = c.args.self.now in
    let before : state_of s ≡ record { due = Nothing; spot = (around_of s, in_value (holder_of s.tag) s.tag.attributes s.tag.attribute.items s.tag.quote s.tag.value.items) } = rw (c.requires.due, c.requires.mode) refl in
    let after : state_of (record s { tag = record s.tag { value = c.take_in.new.taken } }) ≡ record { due = Nothing; spot = (around_of s, in_value (holder_of s.tag) s.tag.attributes s.tag.attribute.items s.tag.quote c.take_in.new.taken.items) } = rw (c.requires.due, c.requires.mode) refl in
    run-as _ before after (in-values (around_of s) (holder_of s.tag) s.tag.attributes s.tag.attribute.items s.tag.quote s.tag.value.items c.take_in.new.taken.items c.args.bytes.now c.run_len-count.result c.run_len-count.ensures
    (search rules))
