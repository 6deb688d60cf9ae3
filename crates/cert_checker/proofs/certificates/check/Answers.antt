use Rattle.std.proofs.Common.{IfOk, subst, sym}
use Rattle.cert_text.specs.declared.certificates.Certificate.{Certificate}
use Rattle.cert_checker.specs.Certificates.{HasFewLines, IsCertificateClaim, IsCertificateFault}
use Rattle.cert_checker.specs.Verdicts.{IsToldVerdict, IsVerdict}
use Rattle.cert_checker.specs.RateCertificates.{IsRateClaim, IsRateFault, net_by}
use Rattle.cert_checker.proofs.ToldLines.{if-ok, told-verdict}
use Rattle.cert_checker.proofs.certificates.check.Goals as goal

pub returns-in-Rate-clause-told : goal.returns-in-Rate-clause-told
returns-in-Rate-clause-told c =
    let graph = c.args.graph.now in
    let gamma = c.args.gamma.now in
    let rate = c.in-Rate.certificate in
    let faults = IsRateFault graph gamma rate in
    let claims = IsRateClaim (net_by graph gamma rate) rate in
    subst (λ (x : Certificate). IfOk c.check_rate.result (IsToldVerdict (IsCertificateFault graph gamma c.args.version x) (IsCertificateClaim graph gamma x))) (sym c.in-Rate.is)
    (if-ok (IsVerdict faults claims) (IsToldVerdict faults claims) (told-verdict faults claims) c.check_rate.result c.check_rate.ensures)

pub returns-in-Rate-clause-exact : goal.returns-in-Rate-clause-exact
returns-in-Rate-clause-exact c = λ few.
    subst (λ (x : Certificate). IfOk c.check_rate.result (IsVerdict (IsCertificateFault c.args.graph.now c.args.gamma.now c.args.version x) (IsCertificateClaim c.args.graph.now c.args.gamma.now x))) (sym c.in-Rate.is) c.check_rate.ensures

pub returns-in-Storage-clause-told : goal.returns-in-Storage-clause-told
returns-in-Storage-clause-told c = subst (λ (x : Certificate). IfOk c.check_storage.result (IsToldVerdict (IsCertificateFault c.args.graph.now c.args.gamma.now c.args.version x) (IsCertificateClaim c.args.graph.now c.args.gamma.now x))) (sym c.in-Storage.is) c.check_storage.ensures.told

pub returns-in-Storage-clause-exact : goal.returns-in-Storage-clause-exact
returns-in-Storage-clause-exact c = λ few.
    subst (λ (x : Certificate). IfOk c.check_storage.result (IsVerdict (IsCertificateFault c.args.graph.now c.args.gamma.now c.args.version x) (IsCertificateClaim c.args.graph.now c.args.gamma.now x))) (sym c.in-Storage.is)
    (c.check_storage.ensures.exact (subst (HasFewLines c.args.version) c.in-Storage.is few))
