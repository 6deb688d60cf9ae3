use Rattle.std.proofs.Common.{sym, subst, arith}
use Rattle.sd_base.specs.Net.{Net}
use Rattle.sd_base.specs.Lawful.{Lawful}
use Rattle.storage.proofs.FileChannels.{file-plain}
use Rattle.storage.proofs.FileConnections.{file-connected, file-few}
use Rattle.cert_text.proofs.MembersNameInOrder.{names}
use Rattle.std.specs.Prelude.{IfOk}
use Rattle.sd_base.specs.FileNet.{net_of}
use Rattle.cert_checker.specs.Verdicts.{IsToldVerdict, IsVerdict}
use Rattle.cert_checker.specs.StorageCertificates.{IsFileNet, IsFrontClaim}
use Rattle.cert_checker.specs.StorageFaults.{IsTradeOffFault}
use Rattle.cert_checker.proofs.ToldLines.{exact, fault-inside, if-ok}
use Rattle.cert_checker.proofs.trade_offs.check_storage.Goals as goal

pub check_trade_off-requires-clause-file : goal.check_trade_off-requires-clause-file
check_trade_off-requires-clause-file c =
    let graph = c.args.graph.now in
    let gamma = c.args.gamma.now in
    let apart = c.args.certificate.now.no_overlap in
    subst IsFileNet (sym c.in_ok-net.ensures) (record {
      laws = subst Lawful c.in_ok-net.ensures c.in_ok-net.net.laws;
      plain = file-plain graph gamma apart;
      connected = file-connected graph gamma apart c.requires.connected;
      few = file-few graph gamma apart c.requires.rules;
    })

pub check_trade_off-requires-clause-orderly : goal.check_trade_off-requires-clause-orderly
check_trade_off-requires-clause-orderly c = (names c.args.certificate.now.members 0 _ c.requires.orderly.used).1

pub returns-clause-told : goal.returns-clause-told
returns-clause-told c = subst (λ (n : Net). IfOk c.check_trade_off.result (IsToldVerdict (IsTradeOffFault n c.args.version c.args.certificate.now) (IsFrontClaim n c.args.certificate.now))) c.in_ok-net.ensures c.check_trade_off.ensures

pub returns-clause-exact : goal.returns-clause-exact
returns-clause-exact c = λ few.
    let net = net_of c.args.graph.now c.args.gamma.now c.args.certificate.now.no_overlap in
    if-ok (IsToldVerdict (IsTradeOffFault net c.args.version c.args.certificate.now) (IsFrontClaim net c.args.certificate.now)) (IsVerdict (IsTradeOffFault net c.args.version c.args.certificate.now) (IsFrontClaim net c.args.certificate.now))
    (λ v told. exact (IsTradeOffFault net c.args.version c.args.certificate.now) (IsFrontClaim net c.args.certificate.now) v (λ l r fault. (let inside = fault-inside net c.args.version c.args.certificate.now l r fault in omega (arith, inside, few))) told)
    c.check_trade_off.result
    (subst (λ (n : Net). IfOk c.check_trade_off.result (IsToldVerdict (IsTradeOffFault n c.args.version c.args.certificate.now) (IsFrontClaim n c.args.certificate.now))) c.in_ok-net.ensures c.check_trade_off.ensures)
