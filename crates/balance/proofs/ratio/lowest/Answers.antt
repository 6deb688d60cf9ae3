use Rattle.std.proofs.lemmas.Nat.Gcd.{IsGcd-swap}
use Rattle.sd_base.proofs.LeastMultiplesDivide.{gcd_pos}
use Rattle.balance.proofs.LowestTermsAreOne.{lowest_by}
use Rattle.balance.proofs.ratio.lowest.Goals as goal

pub nonzero_div-result : goal.nonzero_div-result
nonzero_div-result c = gcd_pos c.args.den c.args.num c.gcd_wide-common.result c.requires (IsGcd-swap c.args.num c.args.den c.gcd_wide-common.result c.gcd_wide-common.ensures)

pub nonzero_div-result-2 : goal.nonzero_div-result-2
nonzero_div-result-2 c = gcd_pos c.args.den c.args.num c.gcd_wide-common.result c.requires (IsGcd-swap c.args.num c.args.den c.gcd_wide-common.result c.gcd_wide-common.ensures)

pub returns : goal.returns
returns c = lowest_by c.args.num c.args.den c.gcd_wide-common.result c.requires c.gcd_wide-common.ensures
