-- The certificate of a worst rate is valid.
use Rattle.std.proofs.Common.{◌≡◌, subst}
use Rattle.automaton.specs.CriticalCycles.{weights}
use Rattle.cert_text.specs.declared.certificates.ScenarioCertificate.{ScenarioCertificate}
use Rattle.cert_checker.specs.ScenarioCertificates.{IsScenarioFault}
use Rattle.cert_checker.proofs.ScenarioFaults.{no-fault}
use Rattle.cert_maker.specs.ValidWorstRates.{WorstRatesAreValid}
use Rattle.cert_maker.specs.WorstCertificates.{nodes_on, potentials_from}
use Rattle.cert_maker.proofs.ListedPotentials.{fits, lists}
use Rattle.cert_maker.proofs.ListedWalks.{closed-walk}

pub worst-rates-valid : WorstRatesAreValid
worst-rates-valid file graph worst c is rate critical fit reached of line reason fault =
    let l = worst.rate.num in
    let w = worst.rate.den in
    let made : ScenarioCertificate = record {
      rate = (l, w);
      time = weights graph.edges worst.cycle;
      nodes = nodes_on graph worst.cycle;
      potentials = potentials_from graph.tokens 0 worst.potentials;
    } in
    let same : c ≡ made = λ i. record { rate = of.rate i; time = of.time i; nodes = of.nodes i; potentials = of.potentials i } in
    no-fault graph made
    (record { some = rate.some_round; positive = rate.some_time; lowest = rate.lowest })
    (closed-walk file graph is l w worst.cycle critical)
    (lists file graph is l w worst.potentials fit reached)
    (fits file graph is l w worst.potentials fit reached)
    line reason (subst (λ (x : ScenarioCertificate). IsScenarioFault graph x line reason) same fault)
