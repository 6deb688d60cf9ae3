use Rattle.std.proofs.Common.{ap, ◌∙◌, refl, arith}
use Rattle.std.proofs.lemmas.List.Elements.{at_from_Contains}
use Rattle.pareto_search.specs.declared.known.Looped.{Looped}
use Rattle.pareto_search.proofs.point.take_loop.Goals as goal

pub loop-at-init : goal.loop-at-init
loop-at-init c =
    let place = at_from_Contains c.args.loops.now.items c.requires.0 c.requires.1 in
    (refl, (place.0, omega arith, place.1, λ d. ap (λ (l : Looped). l.place) (place.2 d) ∙ c.requires.2))
