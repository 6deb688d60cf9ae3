use Rattle.std.proofs.Common.{◌≡◌, refl}
use Rattle.file_text.specs.declared.due.Due.TheVariants.{Nothing}
use Rattle.file_text.specs.declared.mode.Mode.TheVariants as mode
use Rattle.file_text.specs.inside.Machine.{in_comment}
use Rattle.file_text.specs.inside.Seen.{around_of, state_of}
use Rattle.file_text.proofs.PassedRuns.{in-body, run-as}
use Rattle.file_text.proofs.scanner.Scanner.pass_comment.Goals as goal

pub returns-clause-same : goal.returns-clause-same
returns-clause-same c =
    let s = c.args.self.now in
    let before : state_of s ≡ record { due = Nothing; spot = (around_of s, in_comment c.args.comment) } = rw (c.requires.due, c.requires.mode) refl in
    let after : state_of (record s { mode = mode.Comment c.body_len-count.result.1 }) ≡ record { due = Nothing; spot = (around_of s, in_comment c.body_len-count.result.1) } = rw c.requires.due refl in
    run-as _ before after (in-body (around_of s) c.args.comment c.body_len-count.result.1 c.args.bytes.now c.body_len-count.result.0 c.body_len-count.ensures)
