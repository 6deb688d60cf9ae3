use Rattle.std.proofs.Common.{◌-◌, IfOk, subst, arith}
use Rattle.std.proofs.lemmas.Result.{err_from_is_err_and}
use Rattle.sd_base.specs.declared.tables.GraphFile.{GraphFile}
use Rattle.sd_base.specs.declared.limits.Limits.{Limits}
use Rattle.gen_graph.specs.MadeGraphs.{made_graph}
use Rattle.sd_steps.specs.declared.stop.Stop.TheVariants as stop
use Rattle.sd_steps.specs.Balancings.{balancing}
use Rattle.sd_command.specs.commands.Generations.{summed, usual_limits}
use Rattle.sd_command.specs.inside.Goings.{Goes}
use Rattle.sd_command.proofs.command_lemmas.CommandsFollowSteps.{step_stops}
use Rattle.sd_command.specs.Entrances.{summed_entered}
use Rattle.sd_command.proofs.commands.generation.answer.Goals as goal

pub returns-in_err-graph-clause-goes : goal.returns-in_err-graph-clause-goes
returns-in_err-graph-clause-goes g c = λ faults.
    let p = err_from_is_err_and c.from_residual.result c.from_residual.ensures.1 in
    rw (p.1, p.2) (step_stops (balancing (made_graph c.args.seed c.args.actors)) _ _ (omega arith) stop.OutOfMemory faults tt)

pub returns-clause-goes : goal.returns-clause-goes
returns-clause-goes g c = λ faults.
    subst (λ (graph : GraphFile). Goes (summed c.args.seed (usual_limits c.args.limit) graph) c.summed.result (c.summed.new.steps.count - c.args.steps.now.count) faults faults) c.in_ok-graph.ensures.made
    (subst (λ (limits : Limits). Goes (summed c.args.seed limits c.in_ok-graph.graph) c.summed.result (c.summed.new.steps.count - c.args.steps.now.count) faults faults)
    c.usual_limits.ensures.value (c.summed.ensures.goes faults))

pub returns-clause-entered : goal.returns-clause-entered
returns-clause-entered g c =
    subst (λ (graph : GraphFile). IfOk c.summed.result (λ answer. summed_entered (usual_limits c.args.limit) graph (g.G.Gate.entered c.args.parallel.now.gate.now) (c.summed.new.steps.count - c.args.steps.now.count))) c.in_ok-graph.ensures.made
    (subst (λ (limits : Limits). IfOk c.summed.result (λ answer. summed_entered limits c.in_ok-graph.graph (g.G.Gate.entered c.args.parallel.now.gate.now) (c.summed.new.steps.count - c.args.steps.now.count)))
    c.usual_limits.ensures.value c.summed.ensures.entered)
