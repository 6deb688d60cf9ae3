use Rattle.std.proofs.Common.{◌≡◌, ℕ, List, map, take, refl, ap, ◌∙◌, arith}
use Rattle.std.proofs.lemmas.List.{take_all}
use Rattle.pareto_search.specs.inside.Learning.{cap_of}
use Rattle.pareto_search.proofs.BoundsTold.{bound-told}
use Rattle.pareto_search.proofs.learning.bound_of.Goals as goal

pub returns : goal.returns
returns c =
    let t = c.args.telling.now in
    let all : take c.loop-channel.channel-index c.as_slice-channel-items.result.now ≡ t.bounding = take_all c.loop-channel.channel-index c.as_slice-channel-items.result.now (omega arith) ∙ c.as_slice-channel-items.ensures in
    bound-told t _ (c.loop-channel.invariant ∙ (ap (map (cap_of c.as_slice-capacities.result.now)) all ∙ ap (λ (ks : List ℕ). map (cap_of ks) t.bounding) c.as_slice-capacities.ensures)) refl
