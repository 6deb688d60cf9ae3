use Rattle.std.proofs.Common.{◌≡◌, refl}
use Rattle.file_text.specs.declared.due.Due.TheVariants.{Nothing}
use Rattle.file_text.specs.declared.mode.Mode.TheVariants as mode
use Rattle.file_text.specs.inside.Machine.{at_between, in_text_reference}
use Rattle.file_text.specs.inside.Seen.{around_of, state_of}
use Rattle.file_text.proofs.PassedRuns.{in-entity, past-entity, run-as}
use Rattle.file_text.proofs.scanner.Scanner.pass_text_reference.Goals as goal

pub returns-in-More-clause-same : goal.returns-in-More-clause-same
returns-in-More-clause-same c =
    let s = c.args.self.now in
    let before : state_of s ≡ record { due = Nothing; spot = (around_of s, in_text_reference c.args.read) } = rw (c.requires.due, c.requires.mode) refl in
    let after : state_of (record s { mode = mode.TextReference c.in-More.more }) ≡ record { due = Nothing; spot = (around_of s, in_text_reference c.in-More.more) } = rw c.requires.due refl in
    run-as _ before after (in-entity (around_of s) c.args.read c.in-More.more c.args.bytes.now c.entity_len-count.result.0 (rw c.in-More.is at c.entity_len-count.ensures))

pub returns-in-Done-clause-same : goal.returns-in-Done-clause-same
returns-in-Done-clause-same c =
    let s = c.args.self.now in
    let before : state_of s ≡ record { due = Nothing; spot = (around_of s, in_text_reference c.args.read) } = rw (c.requires.due, c.requires.mode) refl in
    let after : state_of (record s { mode = mode.Between }) ≡ record { due = Nothing; spot = (around_of s, at_between) } = rw c.requires.due refl in
    run-as _ before after (past-entity (around_of s) c.args.read _ c.args.bytes.now c.entity_len-count.result.0 (rw c.in-Done.is at c.entity_len-count.ensures))
