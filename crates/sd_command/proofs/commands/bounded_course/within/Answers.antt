use Rattle.std.proofs.Common.{◌≤◌, ◌-◌, ◌∙◌, ap, length, subst, sym, arith}
use Rattle.std.proofs.lemmas.Result.{err_from_is_err_and}
use Rattle.sd_base.specs.declared.limits.TheConstants.{NET_CHANNELS}
use Rattle.sd_base.specs.Net.{Net}
use Rattle.storage.specs.BoundedNets.{HasNoSpaces, bound}
use Rattle.storage.specs.Distributions.{CanHold}
use Rattle.sd_command.specs.inside.Goings.{Goes}
use Rattle.sd_command.specs.inside.Wants.{no_overlap_of, on_net}
use Rattle.sd_command.proofs.command_lemmas.WordsBoundGraphs.{few-bounded, file-spaceless}
use Rattle.sd_command.proofs.command_lemmas.LackStopsFirst.{lacks-first}
use Rattle.sd_command.proofs.commands.bounded_course.within.Goals as goal

pub new-requires-clause-none : goal.new-requires-clause-none
new-requires-clause-none g c = subst HasNoSpaces (sym c.requires.net) (file-spaceless c.args.bounded.now.graph.now c.args.bounded.now.gamma.now (no_overlap_of c.args.wanted.now))

pub new-requires-clause-can : goal.new-requires-clause-can
new-requires-clause-can g c = subst (λ (net : Net). CanHold net.channels c.args.bounded.now.distribution.now.capacities) (sym c.requires.net) c.requires.bounded.held

pub new-requires-clause-few : goal.new-requires-clause-few
new-requires-clause-few g c =
    subst (λ (net : Net). length (bound net c.args.bounded.now.distribution.now.capacities).channels ≤ NET_CHANNELS) (sym c.requires.net)
    (few-bounded c.args.bounded.now.graph.now c.args.bounded.now.gamma.now (no_overlap_of c.args.wanted.now) c.args.bounded.now.distribution.now.capacities c.requires.bounded)

pub on_net-requires-clause-net : goal.on_net-requires-clause-net
on_net-requires-clause-net g c = c.in_ok-net.ensures ∙ ap (λ (net : Net). bound net c.args.bounded.now.distribution.now.capacities) c.requires.net

pub returns-in_err-net-clause-goes : goal.returns-in_err-net-clause-goes
returns-in_err-net-clause-goes g c = λ faults.
    let p = err_from_is_err_and c.from_residual.result c.from_residual.ensures.1 in
    rw (p.1, p.2) (lacks-first c.args.wanted.now _ _ _ _ _ faults (omega arith))

pub returns-clause-goes : goal.returns-clause-goes
returns-clause-goes g c = λ faults.
    subst (λ (net : Net). Goes (on_net c.args.wanted.now c.args.bounded.now.graph.now c.args.bounded.now.gamma.now c.args.bounded.now.distribution.now net) c.on_net.result (c.on_net.new.steps.count - c.args.steps.now.count) faults faults)
    (c.in_ok-net.ensures ∙ ap (λ (net : Net). bound net c.args.bounded.now.distribution.now.capacities) c.requires.net) (c.on_net.ensures.goes faults)
