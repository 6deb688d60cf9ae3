-- The orders that words give to the actors of a graph.
use Rattle.std.specs.Prelude.{◌≡◌, ℕ, List, Some, None, slice_index}
use Rattle.sd_base.specs.declared.tables.GraphFile.{GraphFile}
use Rattle.sd_base.specs.declared.limits.Quantity.TheVariants as quantities
use Rattle.sd_base.specs.Limits.{greatest_of}
use Rattle.escapes.specs.EscapedNames.{escaped_name}
use Rattle.ordered.specs.declared.orders.OrderError.TheVariants as faults
use Rattle.ordered.specs.declared.orders.Orders.{Orders}
use Rattle.ordered.specs.NamedOrders.{first_fault, lists_of}
use Rattle.report.specs.QuantityWords.{quantity_text}
use Rattle.report.specs.declared.refusal.Refusal.{Refusal}
use Rattle.report.specs.declared.refusal.Refusal.TheVariants.{Above, OrderCount, TwoProcessors, UnknownActor}
use Rattle.sd_steps.specs.ActorNames.{actor_shown}
use Rattle.sd_steps.specs.Courses.{Step, deciding}

-- the orders of processors, by the names of actors
abbrev pub NamedOrders : Type 0
NamedOrders = List (List (List ℕ))

-- a refusal that is due to the first fault of orders
pub data IsOrderRefusal (graph : GraphFile) (gamma : List ℕ) (lists : NamedOrders) (refusal : Refusal) : Type 0 where
  unknown : (name : List ℕ) → first_fault graph.actors gamma lists ≡ Some (faults.Unknown name) → refusal ≡ UnknownActor (escaped_name name)
      → IsOrderRefusal graph gamma lists refusal
  elsewhere : (name : List ℕ) → first_fault graph.actors gamma lists ≡ Some (faults.Elsewhere name) → refusal ≡ TwoProcessors (escaped_name name)
      → IsOrderRefusal graph gamma lists refusal
  count : (actor found : ℕ) → first_fault graph.actors gamma lists ≡ Some (faults.Count actor found)
      → refusal ≡ OrderCount (actor_shown graph actor) found (slice_index gamma actor) → IsOrderRefusal graph gamma lists refusal
  pairs : first_fault graph.actors gamma lists ≡ Some faults.TooManyPairs
      → refusal ≡ Above None (quantity_text quantities.OrderPairs) (greatest_of quantities.OrderPairs) → IsOrderRefusal graph gamma lists refusal

-- the orders have no fault, and these are their actors
pub record GivesOrders (graph : GraphFile) (gamma : List ℕ) (lists : NamedOrders) (orders : Orders) : Type 0 where
  pub whole : first_fault graph.actors gamma lists ≡ None
  pub named : orders.lists ≡ lists_of graph.actors lists

abbrev pub ordering : GraphFile → List ℕ → NamedOrders → Step Orders
ordering graph gamma lists = deciding (λ orders. GivesOrders graph gamma lists orders) (λ refusal. IsOrderRefusal graph gamma lists refusal)
