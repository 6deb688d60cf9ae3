use Rattle.std.proofs.Common.{◌≡◌, ◌≢◌, length, eq-eqb, sym, ap, ◌∙◌, arith}
use Rattle.std.proofs.lemmas.Bool.{false≢true}
use Rattle.std.proofs.lemmas.List.{nil_from_length}
use Rattle.selftimed.proofs.FirstRun.{grown-first, runs-behind}
use Rattle.selftimed.proofs.TimesLeft.{tail-runs}
use Rattle.selftimed.proofs.running.add_behind.Goals as goal
use Rattle.selftimed.proofs.running.add_behind.Goals.{else-is_empty-via-then-is_empty+else-first-end, else-is_empty-via-else-is_empty}

pub returns-then-first-end-clause-ok : goal.returns-then-first-end-clause-ok
returns-then-first-end-clause-ok c =
    let none : length c.args.later.now ≡ 0 = grind (arith, c.if-is_empty.true, c.is_empty.ensures, c.as_slice.ensures) in
    grown-first c.args.first.now c.args.later.now c.args.firings c.args.end (nil_from_length c.args.later.now none) c.if-first-end.true

pub add-requires-clause-runs : goal.add-requires-clause-runs
add-requires-clause-runs c = tail-runs c.args.first.now c.args.later.now c.requires.runs

pub returns-clause-runs : goal.returns-clause-runs
returns-clause-runs c =
    let away : length c.args.later.now ≡ 0 → c.args.first.now.end ≢ c.args.end = elim c.else-is_empty.branch [
      | else-is_empty-via-then-is_empty+else-first-end w ↦ λ none. w.if-first-end.false
      | else-is_empty-via-else-is_empty w ↦ λ none same. false≢true (sym w.if-is_empty.false ∙ (c.is_empty.ensures ∙ eq-eqb (length c.as_slice.result.now) 0 (ap length c.as_slice.ensures ∙ none)))
    ] in
    runs-behind c.args.first.now c.add.new.self (c.requires.runs.some 0 (omega arith)) c.in_ok-add.ensures.runs c.args.later.now c.args.end c.args.firings c.requires.some c.requires.runs away c.in_ok-add.ensures.ok
