use Rattle.cert_checker.proofs.RateFaults.{first-starts, no-fault}
use Rattle.cert_checker.proofs.RateClaims.{claimed, lowest-stays, shown}
use Rattle.cert_checker.proofs.rates.check_lines.Goals as goal

pub returns-in-Some : goal.returns-in-Some
returns-in-Some g c =
    rw c.from-line.ensures (first-starts (g.F.Firing.net c.args.net.now) c.args.certificate.now (c.in_ok-is_joined.ensures.0 c.if-not-branch.false) (c.is_rate_line.ensures.0 c.if-not-is_rate_line.false)
    (c.is_schedule_line.ensures.0 c.if-not-is_schedule_line.false) c.in-Some.actor c.in-Some.ensures)

pub returns : goal.returns
returns g c =
    let joined = c.in_ok-is_joined.ensures.0 c.if-not-branch.false in
    let rate = c.is_rate_line.ensures.0 c.if-not-is_rate_line.false in
    let schedule = c.is_schedule_line.ensures.0 c.if-not-is_schedule_line.false in
    let cycle = c.in_ok-is_cycle_line.ensures.0 c.if-not-branch-2.false in
    let parts = lowest-stays c.args.certificate.now.rate.0 c.args.certificate.now.rate.1 c.new-rate.result.num c.new-rate.result.den rate.positive rate.lowest c.new-rate.ensures.common in (
      no-fault (g.F.Firing.net c.args.net.now) c.args.certificate.now joined rate schedule c.in_default.ensures cycle,
      (
        parts.0,
        parts.1,
        claimed (g.F.Firing.net c.args.net.now) c.args.certificate.now.rate.0 c.args.certificate.now.rate.1 c.new-rate.result.num c.new-rate.result.den parts
            (shown c.rate_is_shown.ensures (g.F.Firing.net c.args.net.now) c.know_laws.ensures c.args.certificate.now joined rate schedule c.in_default.ensures cycle),
      ),
    )
