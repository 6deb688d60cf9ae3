-- The words and files decide the orders of actors, and the net whose actors keep them.
use Rattle.std.proofs.Common.{◌≡◌, ◌≤◌, ◌+◌, ℕ, Bool, List, length, Option, Some, None, sym, ap, ◌∙◌, refl}
use Rattle.std.specs.Prelude.{slice_index}
use Rattle.std.proofs.lemmas.List.{length-map}
use Rattle.sd_base.specs.declared.limits.TheConstants.{NET_CHANNELS, ORDER_PAIRS}
use Rattle.sd_base.specs.declared.limits.Quantity.TheVariants as quantities
use Rattle.sd_base.specs.declared.tables.ActorRow.{ActorRow}
use Rattle.sd_base.specs.declared.tables.GraphFile.{GraphFile}
use Rattle.sd_base.specs.FileNet.{net_of}
use Rattle.sd_base.specs.Lawful.{Lawful, is_space_role, is_token_role}
use Rattle.sd_base.specs.Limits.{greatest_of}
use Rattle.sd_base.specs.Net.{Net}
use Rattle.sd_base.specs.Rates.{Rate}
use Rattle.sd_base.specs.Tables.{KeepsRules}
use Rattle.sd_base.proofs.ByteTestsDecide.{one-some, some-none}
use Rattle.escapes.specs.EscapedNames.{escaped_name}
use Rattle.storage.specs.BoundedNets.{bound}
use Rattle.ordered.specs.declared.orders.OrderError.{OrderError}
use Rattle.ordered.specs.declared.orders.OrderError.TheVariants as faults
use Rattle.ordered.specs.NamedOrders.{first_fault, lists_of}
use Rattle.ordered.specs.OrderedNets.{CanBeOrdered, order_channels, ordered, with_role}
use Rattle.ordered.specs.OrderedRates.{HasRateInOrder}
use Rattle.ordered.specs.Orders.{AreOrders}
use Rattle.report.specs.QuantityWords.{quantity_text}
use Rattle.report.specs.declared.refusal.Refusal.{Refusal}
use Rattle.report.specs.declared.refusal.Refusal.TheVariants.{Above, OrderCount, TwoProcessors, UnknownActor, UsageWords}
use Rattle.sd_steps.specs.ActorNames.{actor_shown}
use Rattle.sd_steps.specs.Orderings.{IsOrderRefusal, NamedOrders, count, elsewhere, ordering, pairs, unknown}
use Rattle.sd_laws.proofs.CommandsDecide.{Determines}
use Rattle.sd_command.proofs.command_lemmas.OrderedOver.{bound-can, ordered-room}

-- ---- the step

-- the refusal that tells of a fault of orders
told_of : GraphFile → List ℕ → OrderError → Refusal
told_of graph gamma (faults.Unknown name) = UnknownActor (escaped_name name)
told_of graph gamma (faults.Elsewhere name) = TwoProcessors (escaped_name name)
told_of graph gamma (faults.Count actor found) = OrderCount (actor_shown graph actor) found (slice_index gamma actor)
told_of graph gamma faults.TooManyPairs = Above None (quantity_text quantities.OrderPairs) (greatest_of quantities.OrderPairs)
told_of graph gamma faults.NoMemory = UsageWords

-- each refusal of orders tells of one such fault
record Faulty (graph : GraphFile) (gamma : List ℕ) (lists : NamedOrders) (r : Refusal) : Type 0 where
  fault : OrderError
  first : first_fault graph.actors gamma lists ≡ Some fault
  told : r ≡ told_of graph gamma fault

faulty : (graph : GraphFile) (gamma : List ℕ) (lists : NamedOrders) (r : Refusal) → IsOrderRefusal graph gamma lists r → Faulty graph gamma lists r
unfolding told_of
faulty graph gamma lists r (unknown name is e) = record { fault = faults.Unknown name; first = is; told = e }
faulty graph gamma lists r (elsewhere name is e) = record { fault = faults.Elsewhere name; first = is; told = e }
faulty graph gamma lists r (count actor found is e) = record { fault = faults.Count actor found; first = is; told = e }
faulty graph gamma lists r (pairs is e) = record { fault = faults.TooManyPairs; first = is; told = e }

pub ordering_determines : (graph : GraphFile) (gamma : List ℕ) (lists : NamedOrders) → Determines (ordering graph gamma lists)
ordering_determines graph gamma lists = record {
  one = λ o p is also. ap (λ (ls : List (List ℕ)). record { lists = ls }) (is.named ∙ sym also.named);
  refusal = λ r s is also.
      let a = faulty graph gamma lists r is in
      let b = faulty graph gamma lists s also in
      a.told ∙ ap (told_of graph gamma) (one-some (first_fault graph.actors gamma lists) a.fault b.fault a.first b.first) ∙ sym b.told;
  never = λ r o is gives. let a = faulty graph gamma lists r is in some-none (first_fault graph.actors gamma lists) a.fault a.first gives.whole;
}

-- ---- the net

-- what is known of ordered nets, and of orders by name
pub record OrderLaws : Type 0 where
  pub lawful : (net : Net) (orders : List (List ℕ)) → Lawful net → CanBeOrdered net → AreOrders net orders → length (ordered net orders).channels ≤ NET_CHANNELS → Lawful (ordered net orders)
  pub few : (net : Net) (orders : List (List ℕ)) → Lawful net
      → length (ordered net orders).channels ≤ length (with_role is_token_role net.channels) + (length net.times + (length (with_role is_space_role net.channels) + length (order_channels orders)))
  pub rate : (net : Net) (orders : List (List ℕ)) (p q : ℕ) → Lawful net → CanBeOrdered net → AreOrders net orders → Rate (ordered net orders) p q → HasRateInOrder net orders p q
  pub orders : (net : Net) (actors : List ActorRow) (gamma : List ℕ) (lists : NamedOrders) → length net.times ≡ length actors → net.round ≡ gamma → first_fault actors gamma lists ≡ None → AreOrders net (lists_of actors lists)
  pub pairs : (actors : List ActorRow) (gamma : List ℕ) (lists : NamedOrders) → first_fault actors gamma lists ≡ None → length (order_channels (lists_of actors lists)) ≤ ORDER_PAIRS

module _ (laws : OrderLaws) (graph : GraphFile) (gamma : List ℕ) (no_overlap : Bool) (ds : List (Option ℕ)) (lists : NamedOrders) (whole : first_fault graph.actors gamma lists ≡ None) where
  abbrev net : Net
  net = bound (net_of graph gamma no_overlap) ds

  -- orders of the bounded net
  pub are-orders : AreOrders (bound (net_of graph gamma no_overlap) ds) (lists_of graph.actors lists)
  are-orders = laws.orders net graph.actors gamma lists (length-map graph.actors (λ (r : ActorRow). r.times)) refl whole

  module _ (rules : KeepsRules graph) (over : length ds ≤ length graph.channels) (lawful : Lawful net) where
    pub few-ordered : length (ordered (bound (net_of graph gamma no_overlap) ds) (lists_of graph.actors lists)).channels ≤ NET_CHANNELS
    few-ordered = ordered-room graph gamma no_overlap ds (lists_of graph.actors lists) rules over (laws.pairs graph.actors gamma lists whole) (laws.few net (lists_of graph.actors lists) lawful)

    pub lawful-ordered : Lawful (ordered (bound (net_of graph gamma no_overlap) ds) (lists_of graph.actors lists))
    lawful-ordered = laws.lawful net (lists_of graph.actors lists) lawful (bound-can graph gamma no_overlap ds) are-orders few-ordered
