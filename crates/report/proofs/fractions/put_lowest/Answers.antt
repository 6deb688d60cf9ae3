use Rattle.report.proofs.LowestTermsAgree.{lowest-is}
use Rattle.report.proofs.fractions.put_lowest.Goals as goal

pub returns : goal.returns
returns c =
    let fraction = c.new.result in
    rw (lowest-is c.args.n c.args.d fraction.num fraction.den c.requires fraction.positive fraction.lowest c.new.ensures.same) c.put_fraction.ensures
