use Rattle.std.proofs.Common.{rules}
use Rattle.walks.specs.declared.telling.Telling.{Telling}
use Rattle.walks.specs.Tellings.{HoldsBack}
use Rattle.walks.proofs.PlaceFound.{place-found}
use Rattle.walks.proofs.holding.held_by.Goals as goal

pub returns : goal.returns
returns c = place-found (λ (t : Telling). HoldsBack t c.args.capacities.now) c.args.tellings.now c.rposition.result (search rules) (λ i d is. search rules) (λ is i d below holds. search rules)
