use Rattle.std.proofs.Common.{◌-◌, ◌∷◌, ◌++◌, List, ℕ, map, replicate, sym, ap, ◌∙◌}
use Rattle.selftimed.proofs.TimesLeft.{left-first, left-none, none-tail, times_left}
use Rattle.selftimed.proofs.shape.times_of.Goals as goal

pub push_left-requires : goal.push_left-requires
push_left-requires c =
    let runs = c.in-Some.runs in
    none-tail c.args.moment runs.first runs.later.now (left-none c.args.moment (runs.first ∷ runs.later.now) c.args.running.now c.in-Some.ensures.1 c.in-Some.ensures.0 c.requires)

pub returns : goal.returns
returns c =
    let runs = c.in-Some.runs in
    let times : List ℕ = replicate runs.first.firings (runs.first.end - c.args.moment) in
    let later : List ℕ = times_left c.args.moment runs.later.now in
    c.from_vec.ensures ∙ (c.in_ok-push_left.ensures ∙ (ap (λ (xs : List ℕ). xs ++ later) (c.in_ok-push_times.ensures ∙ ap (λ (xs : List ℕ). xs ++ times) c.new-row.ensures.items)
    ∙ (sym (left-first c.args.moment runs.first runs.later.now) ∙ ap (map (λ e. e - c.args.moment)) c.in-Some.ensures.0)))
