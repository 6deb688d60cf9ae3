use Rattle.cert_checker.proofs.RateClaims.{rate-line}
use Rattle.cert_checker.proofs.schedules.is_rate_line.Goals as goal

pub returns-then-rate-ne0-2 : goal.returns-then-rate-ne0-2
returns-then-rate-ne0-2 c = rate-line c.args.rate c.gcd.result c.if-rate-ne0-2.true.0 c.if-rate-ne0-2.true.1 c.gcd.ensures
