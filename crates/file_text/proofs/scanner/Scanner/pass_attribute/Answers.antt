use Rattle.std.proofs.Common.{◌≡◌, refl, rules}
use Rattle.file_text.specs.declared.due.Due.TheVariants.{Nothing}
use Rattle.file_text.specs.inside.Machine.{in_attribute}
use Rattle.file_text.specs.inside.Seen.{around_of, holder_of, state_of}
use Rattle.file_text.proofs.PassedRuns.{in-attributes, run-as}
use Rattle.file_text.proofs.scanner.Scanner.pass_attribute.Goals as goal

pub returns-clause-same : goal.returns-clause-same
returns-clause-same c =
    let s = c.args.self.now in
    let before : state_of s ≡ record { due = Nothing; spot = (around_of s, in_attribute (holder_of s.tag) s.tag.attributes s.tag.attribute.items) } = rw (c.requires.due, c.requires.mode) refl in
    let after : state_of (record s { tag = record s.tag { attribute = c.take_in.new.taken } }) ≡ record { due = Nothing; spot = (around_of s, in_attribute (holder_of s.tag) s.tag.attributes c.take_in.new.taken.items) } = rw (c.requires.due, c.requires.mode) refl in
    run-as _ before after (in-attributes (around_of s) (holder_of s.tag) s.tag.attributes s.tag.attribute.items c.take_in.new.taken.items c.args.bytes.now c.run_len-count.result c.run_len-count.ensures (search rules))
