use Rattle.std.proofs.lemmas.Result.{err_from_is_err_and}
use Rattle.sd_command.proofs.command_lemmas.CertificatesArePut.{rate-stops, starts-spelled}
use Rattle.sd_steps.proofs.PathsConnectNets.{fed-inputs}
use Rattle.sd_command.proofs.command_lemmas.CyclesOver.{cycle-over}
use Rattle.sd_command.specs.commands.Rates.{IsOfRate, IsRateShown}
use Rattle.sd_command.specs.inside.MadeCertificates.{IsMadeOfRate}
use Rattle.sd_command.proofs.command_lemmas.LoopsReachRates.{rate-shown}
use Rattle.sd_command.proofs.command_lemmas.PutsArePlain.{certifies-plain, rate-plain}
use Rattle.sd_command.proofs.commands.rates.shown.Goals as goal

pub from_loop-requires-clause-inputs : goal.from_loop-requires-clause-inputs
from_loop-requires-clause-inputs g c = fed-inputs (g.F.Firing.net c.args.wired.now.net.now) c.requires.fed

pub critical_cycle-requires-clause-inputs : goal.critical_cycle-requires-clause-inputs
critical_cycle-requires-clause-inputs g c = fed-inputs (g.F.Firing.net c.args.wired.now.net.now) c.requires.fed

pub rate_text-requires-clause-cycle : goal.rate_text-requires-clause-cycle
rate_text-requires-clause-cycle g c =
    cycle-over c.args.graph.now (g.F.Firing.net c.args.wired.now.net.now) c.know_laws.ensures c.requires.named c.in_ok-cycle.cycle c.in_ok-cycle.ensures.holds

pub put_for-requires-clause-starts : goal.put_for-requires-clause-starts
put_for-requires-clause-starts g c =
    starts-spelled (g.F.Firing.net c.args.wired.now.net.now) c.args.table.now c.in_ok-schedule.schedule c.know_laws.ensures c.in_ok-schedule.ensures

pub put_for-requires-clause-channels : goal.put_for-requires-clause-channels
put_for-requires-clause-channels g c =
    let over = cycle-over c.args.graph.now (g.F.Firing.net c.args.wired.now.net.now) c.know_laws.ensures c.requires.named c.in_ok-cycle.cycle c.in_ok-cycle.ensures.holds in
    λ k d below. (over.steps k d below).channel

pub returns-in_err-put : goal.returns-in_err-put
returns-in_err-put g c =
    let p = err_from_is_err_and c.from_residual-in_err-put.result c.from_residual-in_err-put.ensures.1 in
    let shown = rate-shown (g.F.Firing.net c.args.wired.now.net.now) c.args.wanted.now.states c.args.table.now c.in_ok-schedule.schedule c.in_ok-cycle.cycle c.requires.found c.in_ok-schedule.ensures c.in_ok-cycle.ensures in
    rw (p.1, p.2) (rate-stops c.args.graph.now (g.F.Firing.net c.args.wired.now.net.now) c.args.distribution.now.capacities c.args.wanted.now c.in_ok-schedule.schedule c.in_ok-cycle.cycle shown c.in_err-put.field-0.0 c.in_err-put.ensures)

pub returns : goal.returns
returns g c =
    let net = g.F.Firing.net c.args.wired.now.net.now in
    let ds = c.args.distribution.now.capacities in
    let wanted = c.args.wanted.now in
    let schedule = c.in_ok-schedule.schedule in
    let cycle = c.in_ok-cycle.cycle in
    let is : IsRateShown net wanted.states schedule cycle = rate-shown net wanted.states c.args.table.now schedule cycle c.requires.found c.in_ok-schedule.ensures c.in_ok-cycle.ensures in record {
      schedule = schedule;
      cycle = cycle;
      shown = is;
      text = c.in_ok-text.ensures;
      put = certifies-plain (IsMadeOfRate net ds wanted schedule cycle) (IsOfRate net ds wanted schedule cycle) (rate-plain net ds wanted schedule cycle is) wanted.certificate c.in_ok-put.put c.in_ok-put.ensures;
    }
