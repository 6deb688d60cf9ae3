use Rattle.std.proofs.Common.{◌≡◌, ℕ, ◌∷◌, ◌++◌, [], List, true, take, drop, sym, ap, ◌∙◌, subst}
use Rattle.std.proofs.lemmas.List.{take-append-drop, take_rest}
use Rattle.balance.specs.declared.walk.WalkStep.{WalkStep}
use Rattle.balance.specs.declared.walk.Link.{Link}
use Rattle.balance.specs.declared.search.Found.{Found}
use Rattle.balance.specs.Walks.{turned}
use Rattle.balance.specs.Repetition.{IsParted}
use Rattle.balance.specs.inside.Search.{IsWayTo, IsClosedBetween}
use Rattle.balance.proofs.closed.closed_walk.Goals as goal

-- two ways without the steps that both begin with
between : (found : List Found) (c : ℕ) (l : Link) (back on : List WalkStep) (n : ℕ) (walk : List WalkStep) → IsWayTo found l.target back → IsWayTo found l.source on
    → take n back ≡ take n on → IsParted (drop n back) (drop n on) → walk ≡ record { channel = c; forward = true } ∷ (turned (drop n back) ++ drop n on) → IsClosedBetween found c l walk
between found c l back on n walk to_target to_source same parted is = (
  take n back,
  drop n back,
  drop n on,
  subst (λ (w : List WalkStep). IsWayTo found l.target w) (sym (take-append-drop n back)) to_target,
  subst (λ (w : List WalkStep). IsWayTo found l.source w) (sym (take-append-drop n on) ∙ ap (λ (w : List WalkStep). w ++ drop n on) (sym same)) to_source,
  parted,
  is,
)

pub returns : goal.returns
returns c =
    let back : List WalkStep = c.in_ok-back.back.items in
    let on : List WalkStep = c.in_ok-on.on.items in
    let n : ℕ = c.common_steps-common.result in
    let e = c.deref.ensures.value in
    let e' = c.deref-2.ensures.value in
    let same : take n back ≡ take n on = ap (take n) (sym e) ∙ c.common_steps-common.ensures.same ∙ ap (take n) e' in
    let parted : IsParted (drop n back) (drop n on) =
    subst (λ (t : List WalkStep). IsParted (drop n back) (drop n t)) e' (subst (λ (t : List WalkStep). IsParted (drop n t) (drop n c.deref-2.result.now)) e c.common_steps-common.ensures.parted) in
    let step : WalkStep = record { channel = c.args.channel; forward = true } in
    let first : c.push.new.self.items ≡ step ∷ [] = c.in_ok-push.ensures.items ∙ ap (λ (t : List WalkStep). t ++ step ∷ []) c.new-walk.ensures.items in
    let turn : c.turn_back.new.walk.items ≡ step ∷ turned (drop n back) =
    c.in_ok-turn_back.ensures ∙ ap (λ (t : List WalkStep). c.push.new.self.items ++ turned t) (take_rest c.deref-3.result.now n ∙ ap (drop n) c.deref-3.ensures.value)
    ∙ ap (λ (t : List WalkStep). t ++ turned (drop n back)) first in
    let whole : c.from_vec.result ≡ step ∷ (turned (drop n back) ++ drop n on) =
    c.from_vec.ensures ∙ c.in_ok-extend_from_slice.ensures.items
    ∙ ap (λ (t : List WalkStep). c.turn_back.new.walk.items ++ t) (take_rest c.deref-4.result.now n ∙ ap (drop n) c.deref-4.ensures.value)
    ∙ ap (λ (t : List WalkStep). t ++ drop n on) turn in
    between c.args.found.now c.args.channel c.args.link back on n c.from_vec.result c.in_ok-back.ensures c.in_ok-on.ensures same parted whole
