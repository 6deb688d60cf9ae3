use Rattle.std.proofs.Common.{rules}
use Rattle.walks.specs.declared.telling.Telling.{Telling}
use Rattle.walks.specs.Tellings.{IsUnder}
use Rattle.walks.proofs.PlaceFound.{place-found}
use Rattle.walks.proofs.starting.newest_under.Goals as goal

pub returns : goal.returns
returns c = place-found (λ (t : Telling). IsUnder t.capacities c.args.goal.now) c.args.tellings.now c.rposition.result (search rules) (λ i d is. search rules) (λ is i d below under. search rules)
