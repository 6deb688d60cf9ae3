use Rattle.sd_base.proofs.LawfulIsRegular.{regular}
use Rattle.sd_base.proofs.StartsMeetEnds.{tight}
use Rattle.sd_base.proofs.laws.each_firing_has_a_tight_need.Goals as goal

pub returns : goal.returns
returns c = λ net t a k laws inputs there later.
    let found = tight net (regular net laws) inputs t a k there later in
    (found.0, found.1, found.2.place, found.2.into, found.2.last, found.2.there, found.2.just)
