use Rattle.std.proofs.Common.{◌≡◌, ◌∙◌, sym, refl}
use Rattle.std.proofs.lemmas.Bool.{eqb-false}
use Rattle.file_text.specs.declared.due.Due.TheVariants.{Nothing}
use Rattle.file_text.specs.inside.Machine.{at_between}
use Rattle.file_text.specs.inside.Seen.{around_of, state_of}
use Rattle.file_text.proofs.PassedRuns.{in-text, in-white, white-between, run-as, open-around}
use Rattle.file_text.proofs.scanner.Scanner.text_len.Goals as goal

pub returns-then-is_empty-clause-same : goal.returns-then-is_empty-clause-same
returns-then-is_empty-clause-same c =
    let here : state_of c.args.self.now ≡ record { due = Nothing; spot = (around_of c.args.self.now, at_between) } = rw (c.requires.due, c.requires.mode) refl in
    run-as _ here here (in-white (around_of c.args.self.now) at_between c.args.bytes.now c.run_len.result white-between c.run_len.ensures)

pub returns-else-is_empty-clause-same : goal.returns-else-is_empty-clause-same
returns-else-is_empty-clause-same c =
    let here : state_of c.args.self.now ≡ record { due = Nothing; spot = (around_of c.args.self.now, at_between) } = rw (c.requires.due, c.requires.mode) refl in
    let o = open-around c.args.self.now (λ none. eqb-false _ 0 (sym c.is_empty.ensures ∙ c.if-is_empty.false) (c.args.self.now.frames.ok.0 ∙ none)) in
    run-as _ here here (in-text (around_of c.args.self.now) o.0 o.1 c.args.bytes.now c.run_len-else-is_empty.result o.2 c.run_len-else-is_empty.ensures)
