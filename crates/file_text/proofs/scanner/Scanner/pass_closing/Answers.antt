use Rattle.std.proofs.Common.{◌≡◌, ◌+◌, drop, [], take, refl}
use Rattle.std.proofs.lemmas.List.{drop_all, take_rest}
use Rattle.file_text.specs.declared.due.Due.TheVariants.{Nothing}
use Rattle.file_text.specs.declared.mode.Mode.TheVariants as mode
use Rattle.file_text.specs.inside.Machine.{in_closing}
use Rattle.file_text.specs.inside.Seen.{around_of, name_in, state_of}
use Rattle.file_text.proofs.PassedRuns.{in-closings, in-white, white-closing, run-as}
use Rattle.file_text.proofs.scanner.Scanner.pass_closing.Goals as goal

pub returns-then-matched-name-clause-same : goal.returns-then-matched-name-clause-same
returns-then-matched-name-clause-same c =
    let s = c.args.self.now in
    let here : state_of s ≡ record { due = Nothing; spot = (around_of s, in_closing (drop c.args.matched (name_in (around_of s)))) } = rw (c.requires.due, c.requires.mode) refl in
    let none : drop c.args.matched (name_in (around_of s)) ≡ [] = drop_all c.args.matched (name_in (around_of s)) (rw c.innermost_name-name.ensures at c.if-matched-name.true) in
    run-as _ here here (in-white (around_of s) (in_closing (drop c.args.matched (name_in (around_of s)))) c.args.bytes.now c.run_len.result (white-closing (drop c.args.matched (name_in (around_of s))) none) c.run_len.ensures)

pub returns-clause-same : goal.returns-clause-same
returns-clause-same c =
    let s = c.args.self.now in
    let place = c.args.matched + c.run_len-count.result in
    let before : state_of s ≡ record { due = Nothing; spot = (around_of s, in_closing (drop c.args.matched (name_in (around_of s)))) } = rw (c.requires.due, c.requires.mode) refl in
    let after : state_of (record s { mode = mode.Closing place }) ≡ record { due = Nothing; spot = (around_of s, in_closing (drop place (name_in (around_of s)))) } = rw c.requires.due refl in
    let same : take c.same_len-same.result (drop c.args.matched (name_in (around_of s))) ≡ take c.same_len-same.result c.args.bytes.now =
    rw (c.innermost_name-name.ensures, take_rest (name_in (around_of s)) c.args.matched) at c.same_len-same.ensures.same in
    run-as _ before after (in-closings (around_of s) (name_in (around_of s)) c.args.bytes.now c.args.matched c.same_len-same.result c.run_len-count.result same c.run_len-count.ensures c.same_len-same.ensures.bytes)
