use Rattle.std.proofs.Common.{◌∷◌, refl, sym, ◌∙◌}
use Rattle.std.proofs.lemmas.Bool.{false≢true}
use Rattle.std.proofs.lemmas.List.{take_rest}
use Rattle.selftimed.proofs.TimesLeft.{first-begin, first-rest, first-whole, left-none, none-tail}
use Rattle.selftimed.proofs.shape.same_running_times.Goals as goal

pub returns-then-not-begin_with : goal.returns-then-not-begin_with
returns-then-not-begin_with c =
    let runs = c.in-Some.runs in (
      λ not. absurd (false≢true not),
      λ same. c.if-not-begin_with.ensures.1 (first-begin c.args.moment runs.first runs.later.now c.args.times.now (rw c.in-Some.ensures.0 same)),
    )

pub same_times-requires : goal.same_times-requires
same_times-requires c =
    let runs = c.in-Some.runs in
    none-tail c.args.moment runs.first runs.later.now (left-none c.args.moment (runs.first ∷ runs.later.now) c.args.running.now c.in-Some.ensures.1 c.in-Some.ensures.0 c.requires)

pub returns : goal.returns
returns c =
    let runs = c.in-Some.runs in (
      λ yes. rw (← c.in-Some.ensures.0) (first-whole c.args.moment runs.first runs.later.now c.args.times.now (c.if-not-begin_with.ensures.0 refl) (c.same_times.ensures.0 yes ∙ take_rest c.args.times.now runs.first.firings)),
      λ same. c.same_times.ensures.1 (first-rest c.args.moment runs.first runs.later.now c.args.times.now (rw c.in-Some.ensures.0 same) ∙ sym (take_rest c.args.times.now runs.first.firings)),
    )
