use Rattle.std.proofs.Common.{true≢false, sym}
use Rattle.cert_checker.proofs.incident.are_incident.Goals as goal

pub returns-in-Some : goal.returns-in-Some
returns-in-Some g c = ((λ t. absurd (true≢false (sym t))), λ all. absurd (c.in-Some.ensures.none (all _ c.in-Some.ensures.place)))
