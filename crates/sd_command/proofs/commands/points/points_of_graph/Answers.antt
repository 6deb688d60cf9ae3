use Rattle.std.proofs.Common.{◌-◌, ◌*◌, ◌≤◌, IfOk, length, subst, sym}
use Rattle.sd_base.specs.declared.limits.TheConstants.{NET_CHANNELS}
use Rattle.sd_base.specs.Net.{Net}
use Rattle.sd_base.specs.Connection.{IsConnected}
use Rattle.storage.specs.Distributions.{IsPlain}
use Rattle.storage.proofs.FileChannels.{file-plain}
use Rattle.report.specs.LinkTexts.{IsNamed}
use Rattle.cert_maker.specs.Links.{HasNoOrders}
use Rattle.sd_command.specs.commands.Points.{points_of}
use Rattle.sd_command.specs.inside.Goings.{Goes}
use Rattle.storage.proofs.FileConnections.{file-connected, file-few}
use Rattle.sd_command.proofs.command_lemmas.FileNetsHaveNoOrders.{net-orderless}
use Rattle.sd_steps.proofs.NetsStandOverGraphs.{net-over}
use Rattle.sd_command.specs.Entrances.{IsSearched}
use Rattle.sd_command.proofs.commands.points.points_of_graph.Goals as goal

pub points_of-requires-clause-named : goal.points_of-requires-clause-named
points_of-requires-clause-named g c = λ κs outlive. subst (λ (net : Net). IsNamed c.args.graph.now net) (sym c.in_ok-net-in-Sdf.ensures) (net-over c.args.graph.now c.args.gamma.now c.args.wanted.now.no_overlap)

pub points_of-requires-clause-plain : goal.points_of-requires-clause-plain
points_of-requires-clause-plain g c = λ κs outlive. subst IsPlain (sym c.in_ok-net-in-Sdf.ensures) (file-plain c.args.graph.now c.args.gamma.now c.args.wanted.now.no_overlap)

pub points_of-requires-clause-connected : goal.points_of-requires-clause-connected
points_of-requires-clause-connected g c = λ κs outlive.
    subst IsConnected (sym c.in_ok-net-in-Sdf.ensures) (file-connected c.args.graph.now c.args.gamma.now c.args.wanted.now.no_overlap c.requires.round.balanced.connected)

pub points_of-requires-clause-few : goal.points_of-requires-clause-few
points_of-requires-clause-few g c = λ κs outlive.
    subst (λ (net : Net). 2 * length net.channels ≤ NET_CHANNELS) (sym c.in_ok-net-in-Sdf.ensures) (file-few c.args.graph.now c.args.gamma.now c.args.wanted.now.no_overlap c.requires.rules)

pub returns-in_ok-net-in-Sdf-clause-goes : goal.returns-in_ok-net-in-Sdf-clause-goes
returns-in_ok-net-in-Sdf-clause-goes g c = λ faults.
    subst (λ (net : Net). Goes (points_of c.args.graph.now net c.args.wanted.now) c.points_of.result (c.points_of.new.steps.count - c.args.steps.now.count) faults faults) c.in_ok-net-in-Sdf.ensures (c.points_of.ensures.goes faults)

pub points_of-requires-in-Csdf-clause-named : goal.points_of-requires-in-Csdf-clause-named
points_of-requires-in-Csdf-clause-named g c = λ κs outlive. subst (λ (net : Net). IsNamed c.args.graph.now net) (sym c.in_ok-net-in-Csdf.ensures) (net-over c.args.graph.now c.args.gamma.now c.args.wanted.now.no_overlap)

pub points_of-requires-in-Csdf-clause-plain : goal.points_of-requires-in-Csdf-clause-plain
points_of-requires-in-Csdf-clause-plain g c = λ κs outlive. subst IsPlain (sym c.in_ok-net-in-Csdf.ensures) (file-plain c.args.graph.now c.args.gamma.now c.args.wanted.now.no_overlap)

pub points_of-requires-in-Csdf-clause-connected : goal.points_of-requires-in-Csdf-clause-connected
points_of-requires-in-Csdf-clause-connected g c = λ κs outlive.
    subst IsConnected (sym c.in_ok-net-in-Csdf.ensures) (file-connected c.args.graph.now c.args.gamma.now c.args.wanted.now.no_overlap c.requires.round.balanced.connected)

pub points_of-requires-in-Csdf-clause-few : goal.points_of-requires-in-Csdf-clause-few
points_of-requires-in-Csdf-clause-few g c = λ κs outlive.
    subst (λ (net : Net). 2 * length net.channels ≤ NET_CHANNELS) (sym c.in_ok-net-in-Csdf.ensures) (file-few c.args.graph.now c.args.gamma.now c.args.wanted.now.no_overlap c.requires.rules)

pub returns-in_ok-net-in-Csdf-clause-goes : goal.returns-in_ok-net-in-Csdf-clause-goes
returns-in_ok-net-in-Csdf-clause-goes g c = λ faults.
    subst (λ (net : Net). Goes (points_of c.args.graph.now net c.args.wanted.now) c.points_of-in-Csdf.result (c.points_of-in-Csdf.new.steps.count - c.args.steps.now.count) faults faults) c.in_ok-net-in-Csdf.ensures (c.points_of-in-Csdf.ensures.goes faults)

pub points_of-requires-clause-unordered : goal.points_of-requires-clause-unordered
points_of-requires-clause-unordered g c = λ κs outlive. subst HasNoOrders (sym c.in_ok-net-in-Sdf.ensures) (net-orderless c.args.graph.now c.args.gamma.now c.args.wanted.now.no_overlap)

pub points_of-requires-in-Csdf-clause-unordered : goal.points_of-requires-in-Csdf-clause-unordered
points_of-requires-in-Csdf-clause-unordered g c = λ κs outlive. subst HasNoOrders (sym c.in_ok-net-in-Csdf.ensures) (net-orderless c.args.graph.now c.args.gamma.now c.args.wanted.now.no_overlap)

pub returns-in_ok-net-in-Sdf-clause-entered : goal.returns-in_ok-net-in-Sdf-clause-entered
returns-in_ok-net-in-Sdf-clause-entered g c =
    subst (λ (net : Net). IfOk c.points_of.result (λ answer. IsSearched net c.args.wanted.now (g.G.Gate.entered c.args.parallel.now.gate.now) (c.points_of.new.steps.count - c.args.steps.now.count))) c.in_ok-net-in-Sdf.ensures c.points_of.ensures.entered

pub returns-in_ok-net-in-Csdf-clause-entered : goal.returns-in_ok-net-in-Csdf-clause-entered
returns-in_ok-net-in-Csdf-clause-entered g c =
    subst (λ (net : Net). IfOk c.points_of-in-Csdf.result (λ answer. IsSearched net c.args.wanted.now (g.G.Gate.entered c.args.parallel.now.gate.now) (c.points_of-in-Csdf.new.steps.count - c.args.steps.now.count))) c.in_ok-net-in-Csdf.ensures c.points_of-in-Csdf.ensures.entered
