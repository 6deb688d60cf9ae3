use Rattle.std.proofs.Common.{◌≡◌, ◌-◌, ◌≤◌, ℕ, Bool, List, Option, Result, length, subst, sym, refl, arith}
use Rattle.std.specs.Option.{IsSome}
use Rattle.std.proofs.lemmas.Bool.{false≢true}
use Rattle.std.proofs.lemmas.Result.{err_from_is_err_and}
use Rattle.std.proofs.lemmas.List.{length-map}
use Rattle.sd_base.specs.declared.limits.TheConstants.{NET_CHANNELS}
use Rattle.sd_base.specs.declared.tables.ActorRow.{ActorRow}
use Rattle.sd_base.specs.declared.tables.GraphFile.{GraphFile}
use Rattle.sd_base.specs.FileNet.{net_of}
use Rattle.sd_base.specs.Lawful.{Lawful}
use Rattle.sd_base.specs.Net.{Net}
use Rattle.ordered.specs.NamedOrders.{lists_of}
use Rattle.ordered.specs.OrderedNets.{CanBeOrdered, ordered}
use Rattle.ordered.specs.Orders.{AreOrders}
use Rattle.report.specs.LinkTexts.{IsNamed}
use Rattle.storage.specs.BoundedNets.{bound}
use Rattle.sd_steps.specs.declared.answer.Answer.{Answer}
use Rattle.sd_steps.specs.declared.stop.Stop.{Stop}
use Rattle.sd_steps.specs.Courses.{Ending}
use Rattle.sd_steps.specs.Orderings.{NamedOrders, ordering}
use Rattle.sd_command.specs.commands.InOrders.{AdmitsInOrder, in_order}
use Rattle.sd_command.specs.commands.Throughputs.{rate_on}
use Rattle.sd_command.specs.inside.Goings.{Goes}
use Rattle.sd_command.proofs.command_lemmas.WordsBoundGraphs.{named-bounded}
use Rattle.sd_command.proofs.command_lemmas.CommandsFollowSteps.{step_stops, goes_on}
use Rattle.sd_command.proofs.command_lemmas.OrderedOver.{bound-can, ordered-over, ordered-room}
use Rattle.sd_command.proofs.commands.in_order.rate_in_order.Goals as goal

pub returns-in_err-orders-clause-goes : goal.returns-in_err-orders-clause-goes
returns-in_err-orders-clause-goes g c = λ faults.
    let p = err_from_is_err_and c.from_residual.result c.from_residual.ensures.1 in
    rw (p.1, p.2) (step_stops (ordering c.args.bounded.now.graph.now c.args.bounded.now.gamma.now c.args.lists.now) _ _ (omega arith) _ faults c.in_err-orders.ensures)

-- the orders by name are orders of the net
are-orders : (net : Net) (graph : GraphFile) (gamma : List ℕ) (apart : Bool) (ds : List (Option ℕ)) (lists : NamedOrders) (orders : List (List ℕ)) → net ≡ bound (net_of graph gamma apart) ds → orders ≡ lists_of graph.actors lists
    → AreOrders (bound (net_of graph gamma apart) ds) (lists_of graph.actors lists) → AreOrders net orders
are-orders net graph gamma apart ds lists orders is named are =
    subst (λ (n : Net). AreOrders n orders) (sym is) (subst (λ (ls : List (List ℕ)). AreOrders (bound (net_of graph gamma apart) ds) ls) (sym named) are)

pub new-requires-clause-can : goal.new-requires-clause-can
new-requires-clause-can g c = subst CanBeOrdered (sym c.requires.net) (bound-can c.args.bounded.now.graph.now c.args.bounded.now.gamma.now c.args.wanted.now.no_overlap c.args.bounded.now.distribution.now.capacities)

pub new-requires-clause-orders : goal.new-requires-clause-orders
new-requires-clause-orders g c =
    let graph = c.args.bounded.now.graph.now in
    let ds = c.args.bounded.now.distribution.now.capacities in
    let bounded : Net = bound (net_of graph c.args.bounded.now.gamma.now c.args.wanted.now.no_overlap) ds in
    are-orders (g.F.Firing.net c.args.net.now) graph c.args.bounded.now.gamma.now c.args.wanted.now.no_overlap ds c.args.lists.now c.in_ok-orders.orders.lists c.requires.net c.in_ok-orders.ensures.named
    (c.named_orders_fit.ensures.orders bounded graph.actors c.args.bounded.now.gamma.now c.args.lists.now (length-map graph.actors (λ (r : ActorRow). r.times)) refl c.in_ok-orders.ensures.whole)

pub new-requires-clause-few : goal.new-requires-clause-few
new-requires-clause-few g c =
    let graph = c.args.bounded.now.graph.now in
    let ds = c.args.bounded.now.distribution.now.capacities in
    let net : Net = bound (net_of graph c.args.bounded.now.gamma.now c.args.wanted.now.no_overlap) ds in
    let ls : List (List ℕ) = lists_of graph.actors c.args.lists.now in
    subst (λ (n : Net). length (ordered n c.in_ok-orders.orders.lists).channels ≤ NET_CHANNELS) (sym c.requires.net)
    (subst (λ (l : List (List ℕ)). length (ordered net l).channels ≤ NET_CHANNELS) (sym c.in_ok-orders.ensures.named)
    (ordered-room graph c.args.bounded.now.gamma.now c.args.wanted.now.no_overlap ds ls c.requires.bounded.rules c.requires.bounded.over
    (c.named_orders_fit.ensures.pairs graph.actors c.args.bounded.now.gamma.now c.args.lists.now c.in_ok-orders.ensures.whole)
    (c.ordered_nets_are_lawful.ensures.few net ls (subst Lawful c.requires.net c.know_laws.ensures))))

pub rate_of-requires-clause-named : goal.rate_of-requires-clause-named
rate_of-requires-clause-named g c =
    let graph = c.args.bounded.now.graph.now in
    let ds = c.args.bounded.now.distribution.now.capacities in
    let bounded : Net = bound (net_of graph c.args.bounded.now.gamma.now c.args.wanted.now.no_overlap) ds in
    let are =
    are-orders (g.F.Firing.net c.args.net.now) graph c.args.bounded.now.gamma.now c.args.wanted.now.no_overlap ds c.args.lists.now c.in_ok-orders.orders.lists c.requires.net c.in_ok-orders.ensures.named
    (c.named_orders_fit.ensures.orders bounded graph.actors c.args.bounded.now.gamma.now c.args.lists.now (length-map graph.actors (λ (r : ActorRow). r.times)) refl c.in_ok-orders.ensures.whole) in
    subst (λ (net : Net). IsNamed graph net) (sym c.in_ok-ordered.ensures.net)
    (ordered-over graph (g.F.Firing.net c.args.net.now) c.in_ok-orders.orders.lists c.know_laws.ensures are
    (subst (λ (net : Net). IsNamed graph net) (sym c.requires.net)
    (named-bounded graph c.args.bounded.now.gamma.now c.args.wanted.now.no_overlap c.args.bounded.now.distribution.now.capacities c.requires.bounded)))

pub rate_of-requires-clause-unordered : goal.rate_of-requires-clause-unordered
rate_of-requires-clause-unordered g c = λ some. absurd (false≢true (subst IsSome c.requires.bare some))

-- what goes with the net with orders
in-order : (net : Net) (orders : List (List ℕ)) (next : Net → Ending → ℕ → Type 0) (result : Result Answer Stop) (n faults : ℕ) → AdmitsInOrder net orders
    → Goes (next (ordered net orders)) result n faults faults → Goes (in_order net orders next) result n faults faults
in-order net orders next result n faults admits goes = record { ending = goes.ending; is = goes.is; came = (admits, goes.came); counted = goes.counted }

pub returns-clause-goes : goal.returns-clause-goes
returns-clause-goes g c = λ faults.
    let graph = c.args.bounded.now.graph.now in
    let gamma = c.args.bounded.now.gamma.now in
    let apart = c.args.wanted.now.no_overlap in
    let distribution = c.args.bounded.now.distribution.now in
    let net : Net = g.F.Firing.net c.args.net.now in
    let orders = c.in_ok-orders.orders.lists in
    let can = subst CanBeOrdered (sym c.requires.net) (bound-can graph gamma apart distribution.capacities) in
    let are =
    are-orders net graph gamma apart distribution.capacities c.args.lists.now orders c.requires.net c.in_ok-orders.ensures.named
    (c.named_orders_fit.ensures.orders (bound (net_of graph gamma apart) distribution.capacities) graph.actors gamma c.args.lists.now (length-map graph.actors (λ (r : ActorRow). r.times)) refl c.in_ok-orders.ensures.whole) in
    goes_on (ordering graph gamma c.args.lists.now) _ c.in_ok-orders.orders _ _ faults faults c.in_ok-orders.ensures
    (in-order net orders (rate_on c.args.wanted.now graph gamma distribution) _ _ faults (λ s. c.ordered_nets_keep_orders.ensures net orders s c.know_laws.ensures can are)
    (subst (λ (n : Net). Goes (rate_on c.args.wanted.now graph gamma distribution n) c.rate_of.result (c.rate_of.new.steps.count - c.args.steps.now.count) faults faults)
    c.in_ok-ordered.ensures.net (c.rate_of.ensures.goes faults)))
