use Rattle.std.proofs.Common.{◌-◌, ◌*◌, ◌≤◌, ◌∙◌, ℕ, List, IfOk, true, length, ap, subst, sym}
use Rattle.sd_base.specs.declared.limits.TheConstants.{NET_CHANNELS}
use Rattle.sd_base.specs.Net.{Net}
use Rattle.sd_base.specs.FileNet.{net_of}
use Rattle.sd_base.specs.Connection.{IsConnected}
use Rattle.storage.specs.Distributions.{IsPlain}
use Rattle.storage.proofs.FileChannels.{file-plain}
use Rattle.report.specs.LinkTexts.{IsNamed}
use Rattle.sd_command.specs.commands.Generations.{summary_of}
use Rattle.sd_command.specs.inside.Goings.{Goes}
use Rattle.storage.proofs.FileConnections.{file-connected, file-few}
use Rattle.sd_steps.proofs.NetsStandOverGraphs.{net-over}
use Rattle.pareto_search.specs.Entrances.{IsEvaluating}
use Rattle.sd_command.proofs.commands.generation.summary_of_graph.Goals as goal

pub summary_of-requires-clause-named : goal.summary_of-requires-clause-named
summary_of-requires-clause-named g c = λ κs outlive. subst (λ (net : Net). IsNamed c.args.made.now.graph net) (sym (c.in_ok-net.ensures ∙ ap (λ (v : List ℕ). net_of c.args.made.now.graph v true) c.as_slice.ensures)) (net-over c.args.made.now.graph c.args.made.now.gamma true)

pub summary_of-requires-clause-plain : goal.summary_of-requires-clause-plain
summary_of-requires-clause-plain g c = λ κs outlive. subst IsPlain (sym (c.in_ok-net.ensures ∙ ap (λ (v : List ℕ). net_of c.args.made.now.graph v true) c.as_slice.ensures)) (file-plain c.args.made.now.graph c.args.made.now.gamma true)

pub summary_of-requires-clause-connected : goal.summary_of-requires-clause-connected
summary_of-requires-clause-connected g c = λ κs outlive.
    subst IsConnected (sym (c.in_ok-net.ensures ∙ ap (λ (v : List ℕ). net_of c.args.made.now.graph v true) c.as_slice.ensures)) (file-connected c.args.made.now.graph c.args.made.now.gamma true c.requires.round.balanced.connected)

pub summary_of-requires-clause-few : goal.summary_of-requires-clause-few
summary_of-requires-clause-few g c = λ κs outlive.
    subst (λ (net : Net). 2 * length net.channels ≤ NET_CHANNELS) (sym (c.in_ok-net.ensures ∙ ap (λ (v : List ℕ). net_of c.args.made.now.graph v true) c.as_slice.ensures)) (file-few c.args.made.now.graph c.args.made.now.gamma true c.requires.rules)

pub returns-clause-goes : goal.returns-clause-goes
returns-clause-goes g c = λ faults.
    subst (λ (net : Net). Goes (summary_of c.args.made.now.seed c.args.made.now.graph c.args.made.now.gamma net c.args.limits) c.summary_of.result (c.summary_of.new.steps.count - c.args.steps.now.count) faults faults) (c.in_ok-net.ensures ∙ ap (λ (v : List ℕ). net_of c.args.made.now.graph v true) c.as_slice.ensures) (c.summary_of.ensures.goes faults)

pub returns-clause-entered : goal.returns-clause-entered
returns-clause-entered g c =
    subst (λ (net : Net). IfOk c.summary_of.result (λ answer. IsEvaluating net c.args.limits (g.G.Gate.entered c.args.parallel.now.gate.now) (c.summary_of.new.steps.count - c.args.steps.now.count)))
    (c.in_ok-net.ensures ∙ ap (λ (v : List ℕ). net_of c.args.made.now.graph v true) c.as_slice.ensures) c.summary_of.ensures.entered
