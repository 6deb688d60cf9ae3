use Rattle.std.proofs.lemmas.List.{get_or_default}
use Rattle.balance.specs.declared.ratio.Ratio.{Ratio}
use Rattle.balance.specs.inside.Ratios.{one}
use Rattle.balance.proofs.ratio.ratio_of.Goals as goal

none : Ratio
none = record { num = 0; den = 0 }

pub returns : goal.returns
unfolding none
returns c = get_or_default c.args.ratios.now c.args.actor none one c.requires
