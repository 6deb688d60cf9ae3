use Rattle.sd_base.proofs.LawfulIsRegular.{balanced}
use Rattle.storage.specs.BoundedNets.{bound}
use Rattle.storage.proofs.EasingKeepsSchedules.{eases-rates}
use Rattle.storage.proofs.RoundingKeepsNeeds.{bound-eases, more-eases}
use Rattle.storage.proofs.laws.rates_rise_with_capacities.Goals as goal

pub returns : goal.returns
returns c = λ net ds es p q x y laws most one other.
    eases-rates (bound net ds) (bound net es) (bound-eases net ds es (more-eases 0 net.channels ds es most)) laws.some_actor ((balanced net laws).fires 0 laws.some_actor) p q x y one other
