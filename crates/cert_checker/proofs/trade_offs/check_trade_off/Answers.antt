use Rattle.std.proofs.Common.{◌≤◌, Option, refl, subst, sym, ◌∙◌, true≢false}
use Rattle.sd_base.specs.declared.limits.TheConstants.{STORAGE}
use Rattle.storage.specs.IncidentActors.{AreIncident}
use Rattle.cert_checker.specs.declared.fault.Fault.{Fault}
use Rattle.cert_checker.specs.declared.verdict.Reason.TheVariants as reasons
use Rattle.cert_checker.specs.declared.verdict.Verdict.{Verdict}
use Rattle.cert_checker.specs.Verdicts.{IsToldVerdict}
use Rattle.cert_checker.specs.StorageLines.{members_line, points_line}
use Rattle.cert_checker.specs.StorageCertificates.{AreBelow, BeginsAtCorner, IsFrontClaim, IsTradeOff}
use Rattle.cert_checker.specs.StorageFaults.{IsTradeOffFault}
use Rattle.cert_checker.specs.inside.FirstFaults.{AreMembersRight, ArePointsRight, IsFaultOfMembers, IsFaultOfPoints, JudgesTold}
use Rattle.cert_checker.proofs.TradeOffFirsts.{corner-first, limit-first, members-first, points-first, points-line-first, incident-first}
use Rattle.cert_checker.proofs.ToldLines.{told-first}
use Rattle.cert_checker.proofs.trade_offs.check_trade_off.Goals as goal

pub returns-then-not-are_incident : goal.returns-then-not-are_incident
returns-then-not-are_incident g c =
    let net = g.F.Firing.net c.args.net.now in
    let cert = c.args.certificate.now in
    let version = c.args.version in
    subst (λ (v : Verdict). IsToldVerdict (IsTradeOffFault net version cert) (IsFrontClaim net cert) v) (sym c.rejected.ensures)
    (told-first (IsTradeOffFault net version cert) (IsFrontClaim net cert) 2 2 reasons.Connection (incident-first net version cert (λ all. true≢false (sym (c.are_incident.ensures.1 all) ∙ c.if-not-are_incident.true))) refl)

pub returns-then-certificate-gt-STORAGE : goal.returns-then-certificate-gt-STORAGE
returns-then-certificate-gt-STORAGE g c =
    let net = g.F.Firing.net c.args.net.now in
    let cert = c.args.certificate.now in
    let version = c.args.version in
    let incident : AreIncident net = c.are_incident.ensures.0 c.if-not-are_incident.false in
    subst (λ (v : Verdict). IsToldVerdict (IsTradeOffFault net version cert) (IsFrontClaim net cert) v) (sym c.rejected-then-certificate-gt-STORAGE.ensures)
    (told-first (IsTradeOffFault net version cert) (IsFrontClaim net cert) 4 4 reasons.Limit (limit-first net version cert incident c.if-certificate-gt-STORAGE.true) refl)

pub returns-then-not-begins_at : goal.returns-then-not-begins_at
returns-then-not-begins_at g c =
    let net = g.F.Firing.net c.args.net.now in
    let cert = c.args.certificate.now in
    let version = c.args.version in
    let incident : AreIncident net = c.are_incident.ensures.0 c.if-not-are_incident.false in
    let small : cert.limit ≤ STORAGE = c.if-certificate-gt-STORAGE.false in
    subst (λ (v : Verdict). IsToldVerdict (IsTradeOffFault net version cert) (IsFrontClaim net cert) v) (sym c.rejected-then-not-begins_at.ensures)
    (told-first (IsTradeOffFault net version cert) (IsFrontClaim net cert) (members_line version cert) c.members_line-line.result reasons.Member (corner-first net version cert incident small (λ b. true≢false (sym (c.begins_at.ensures.1 b) ∙ c.if-not-begins_at.true))) c.members_line-line.ensures)

pub returns-in-Some : goal.returns-in-Some
returns-in-Some g c =
    let net = g.F.Firing.net c.args.net.now in
    let cert = c.args.certificate.now in
    let version = c.args.version in
    let incident : AreIncident net = c.are_incident.ensures.0 c.if-not-are_incident.false in
    let small : cert.limit ≤ STORAGE = c.if-certificate-gt-STORAGE.false in
    let begins : BeginsAtCorner net cert = c.begins_at.ensures.0 c.if-not-begins_at.false in
    subst (λ (v : Verdict). IsToldVerdict (IsTradeOffFault net version cert) (IsFrontClaim net cert) v) (sym c.rejected-in-Some.ensures)
    (let first = subst (λ (o : Option Fault). JudgesTold (IsFaultOfMembers net version cert) (AreMembersRight net cert) o) c.in-Some.is c.in_ok-fault.ensures in
    told-first (IsTradeOffFault net version cert) (IsFrontClaim net cert) first.0 c.in-Some.fault.line c.in-Some.fault.reason (members-first net version cert incident small begins first.0 c.in-Some.fault.reason first.1) first.2)

pub returns-then-not-branch : goal.returns-then-not-branch
returns-then-not-branch g c =
    let net = g.F.Firing.net c.args.net.now in
    let cert = c.args.certificate.now in
    let version = c.args.version in
    let incident : AreIncident net = c.are_incident.ensures.0 c.if-not-are_incident.false in
    let small : cert.limit ≤ STORAGE = c.if-certificate-gt-STORAGE.false in
    let begins : BeginsAtCorner net cert = c.begins_at.ensures.0 c.if-not-begins_at.false in
    let right : AreMembersRight net cert = subst (λ (o : Option Fault). JudgesTold (IsFaultOfMembers net version cert) (AreMembersRight net cert) o) c.in_default.is c.in_ok-fault.ensures in
    subst (λ (v : Verdict). IsToldVerdict (IsTradeOffFault net version cert) (IsFrontClaim net cert) v) (sym c.rejected-then-not-branch.ensures)
    (told-first (IsTradeOffFault net version cert) (IsFrontClaim net cert) (points_line version cert) c.points_line-line.result reasons.Point (points-line-first net version cert incident small begins right (λ b. true≢false (sym (c.in_ok-are_below.ensures.1 b) ∙ c.if-not-branch.true))) c.points_line-line.ensures)

pub returns-in-Some-2 : goal.returns-in-Some-2
returns-in-Some-2 g c =
    let net = g.F.Firing.net c.args.net.now in
    let cert = c.args.certificate.now in
    let version = c.args.version in
    let incident : AreIncident net = c.are_incident.ensures.0 c.if-not-are_incident.false in
    let small : cert.limit ≤ STORAGE = c.if-certificate-gt-STORAGE.false in
    let begins : BeginsAtCorner net cert = c.begins_at.ensures.0 c.if-not-begins_at.false in
    let right : AreMembersRight net cert = subst (λ (o : Option Fault). JudgesTold (IsFaultOfMembers net version cert) (AreMembersRight net cert) o) c.in_default.is c.in_ok-fault.ensures in
    let below : AreBelow net cert = c.in_ok-are_below.ensures.0 c.if-not-branch.false in
    subst (λ (v : Verdict). IsToldVerdict (IsTradeOffFault net version cert) (IsFrontClaim net cert) v) (sym c.rejected-in-Some-2.ensures)
    (let first = subst (λ (o : Option Fault). JudgesTold (IsFaultOfPoints net version cert) (ArePointsRight net cert) o) c.in-Some-2.is c.in_ok-fault-2.ensures in
    told-first (IsTradeOffFault net version cert) (IsFrontClaim net cert) first.0 c.in-Some-2.fault.line c.in-Some-2.fault.reason (points-first net version cert incident small begins right below first.0 c.in-Some-2.fault.reason first.1) first.2)

pub returns : goal.returns
returns g c =
    let net = g.F.Firing.net c.args.net.now in
    let cert = c.args.certificate.now in
    let version = c.args.version in
    let incident : AreIncident net = c.are_incident.ensures.0 c.if-not-are_incident.false in
    let small : cert.limit ≤ STORAGE = c.if-certificate-gt-STORAGE.false in
    let begins : BeginsAtCorner net cert = c.begins_at.ensures.0 c.if-not-begins_at.false in
    let right : AreMembersRight net cert = subst (λ (o : Option Fault). JudgesTold (IsFaultOfMembers net version cert) (AreMembersRight net cert) o) c.in_default.is c.in_ok-fault.ensures in
    let below : AreBelow net cert = c.in_ok-are_below.ensures.0 c.if-not-branch.false in
    let points : ArePointsRight net cert = subst (λ (o : Option Fault). JudgesTold (IsFaultOfPoints net version cert) (ArePointsRight net cert) o) c.in_default-2.is c.in_ok-fault-2.ensures in
    let is : IsTradeOff net cert = record { incident = incident; limit = small; corner = begins; members = right; below = below; points = points } in (
      c.trade_off_is_shown.ensures.faultless net version cert is,
      (c.len.ensures, refl, c.trade_off_is_shown.ensures.front net cert c.in_ok-corner.corner.capacities c.requires.file c.in_ok-corner.ensures is),
    )
