use Rattle.std.proofs.Common.{◌≡◌, ◌<◌, ◌≤◌, ◌-◌, ◌∙◌, ℕ, List, length, ap, subst, sym}
use Rattle.std.proofs.lemmas.List.{length-map}
use Rattle.sd_base.specs.declared.limits.TheConstants.{TOKENS}
use Rattle.sd_base.specs.declared.tables.ActorRow.{ActorRow}
use Rattle.sd_base.specs.FileNet.{net_of}
use Rattle.sd_base.specs.Net.{Net, channel_at}
use Rattle.cert_maker.specs.Links.{HasNoOrders}
use Rattle.report.specs.LinkTexts.{IsNamed}
use Rattle.storage.specs.BoundedNets.{bound}
use Rattle.sd_command.specs.declared.commands.wanted.Wanted.{Wanted}
use Rattle.sd_command.specs.commands.Expansions.{expansion_on}
use Rattle.sd_command.specs.commands.InOrders.{ordered_rate_on}
use Rattle.sd_steps.specs.Orderings.{NamedOrders}
use Rattle.sd_command.specs.inside.Goings.{Goes}
use Rattle.sd_command.specs.inside.Wants.{IsBounded, no_overlap_of}
use Rattle.sd_command.proofs.command_lemmas.LackStopsFirst.{nothing-run}
use Rattle.sd_command.proofs.command_lemmas.WordsBoundGraphs.{named-bounded, orderless-bounded}
use Rattle.sd_command.proofs.commands.bounded_course.on_net.Goals as goal

pub rate_of-requires-clause-named : goal.rate_of-requires-clause-named
rate_of-requires-clause-named g c =
    subst (λ (net : Net). IsNamed c.args.bounded.now.graph.now net) (sym c.requires.net)
    (named-bounded c.args.bounded.now.graph.now c.args.bounded.now.gamma.now (no_overlap_of c.args.wanted.now) c.args.bounded.now.distribution.now.capacities c.requires.bounded)

pub rate_of-requires-clause-unordered : goal.rate_of-requires-clause-unordered
rate_of-requires-clause-unordered g c = λ some.
    subst HasNoOrders (sym c.requires.net)
    (orderless-bounded c.args.bounded.now.graph.now c.args.bounded.now.gamma.now (no_overlap_of c.args.wanted.now) c.args.bounded.now.distribution.now.capacities c.requires.bounded)

pub rate_of-requires-clause-states : goal.rate_of-requires-clause-states
rate_of-requires-clause-states g c = rw c.in-Rate.is at c.requires.within

pub returns-in-Rate-clause-goes : goal.returns-in-Rate-clause-goes
returns-in-Rate-clause-goes g c = λ faults. rw c.in-Rate.is (c.rate_of.ensures.goes faults)

pub rate_in_order-requires-clause-net : goal.rate_in_order-requires-clause-net
rate_in_order-requires-clause-net g c =
    c.requires.net ∙ ap (λ (w : Wanted). bound (net_of c.args.bounded.now.graph.now c.args.bounded.now.gamma.now (no_overlap_of w)) c.args.bounded.now.distribution.now.capacities) c.in-Ordered.is

pub rate_in_order-requires-clause-bounded : goal.rate_in_order-requires-clause-bounded
rate_in_order-requires-clause-bounded g c =
    subst (λ (w : Wanted). IsBounded c.args.bounded.now.graph.now c.args.bounded.now.gamma.now (no_overlap_of w) c.args.bounded.now.distribution.now.capacities) c.in-Ordered.is c.requires.bounded

pub rate_in_order-requires-clause-states : goal.rate_in_order-requires-clause-states
rate_in_order-requires-clause-states g c = (rw c.in-Ordered.is at c.requires.within).0

pub rate_in_order-requires-clause-bare : goal.rate_in_order-requires-clause-bare
rate_in_order-requires-clause-bare g c = (rw c.in-Ordered.is at c.requires.within).1

pub returns-in-Ordered-clause-goes : goal.returns-in-Ordered-clause-goes
returns-in-Ordered-clause-goes g c = λ faults. rw c.in-Ordered.is
    (subst (λ (lists : NamedOrders). Goes (ordered_rate_on lists c.in-Ordered.rate c.args.bounded.now.graph.now c.args.bounded.now.gamma.now c.args.bounded.now.distribution.now (g.F.Firing.net c.args.net.now)) c.rate_in_order.result (c.rate_in_order.new.steps.count - c.args.steps.now.count) faults faults)
    c.as_slice.ensures (c.rate_in_order.ensures.goes faults))

pub time_of-requires-clause-named : goal.time_of-requires-clause-named
time_of-requires-clause-named g c =
    subst (λ (net : Net). IsNamed c.args.bounded.now.graph.now net) (sym c.requires.net)
    (named-bounded c.args.bounded.now.graph.now c.args.bounded.now.gamma.now (no_overlap_of c.args.wanted.now) c.args.bounded.now.distribution.now.capacities c.requires.bounded)

pub time_of-requires-clause-states : goal.time_of-requires-clause-states
time_of-requires-clause-states g c = (rw c.in-Rounds.is at c.requires.within).0

pub time_of-requires-clause-rounds : goal.time_of-requires-clause-rounds
time_of-requires-clause-rounds g c = (rw c.in-Rounds.is at c.requires.within).1

pub returns-in-Rounds-clause-goes : goal.returns-in-Rounds-clause-goes
returns-in-Rounds-clause-goes g c = λ faults. rw c.in-Rounds.is (c.time_of.ensures.goes faults)

pub expansion_of-requires-clause-actors : goal.expansion_of-requires-clause-actors
expansion_of-requires-clause-actors g c =
    subst (λ (net : Net). length c.args.bounded.now.graph.now.actors ≡ length net.times) (sym c.requires.net) (sym (length-map c.args.bounded.now.graph.now.actors (λ (a : ActorRow). a.times)))

pub expansion_of-requires-clause-tokens : goal.expansion_of-requires-clause-tokens
expansion_of-requires-clause-tokens g c =
    subst (λ (net : Net). (i : ℕ) → i < length net.channels → (channel_at net i).tokens ≤ TOKENS) (sym c.requires.net) c.requires.bounded.tokens

pub returns-in-Expansion-clause-goes : goal.returns-in-Expansion-clause-goes
returns-in-Expansion-clause-goes g c = λ faults. rw c.in-Expansion.is
    (subst (λ (output : List ℕ). Goes (expansion_on output c.args.bounded.now.graph.now c.args.bounded.now.gamma.now c.args.bounded.now.distribution.now (g.F.Firing.net c.args.net.now)) c.expansion_of.result (c.args.steps.now.count - c.args.steps.now.count) faults faults)
    c.as_str.ensures (nothing-run _ _ _ faults (c.expansion_of.ensures faults)))
