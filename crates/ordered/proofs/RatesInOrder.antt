-- The rate of an ordered net is that of the schedules that keep the orders.
use Rattle.std.proofs.Common.{◌≡◌, ℕ, ◌≤◌, ◌<◌, List, length, subst, sym, arith}
use Rattle.sd_base.specs.Net.{Net}
use Rattle.sd_base.specs.Lawful.{Lawful}
use Rattle.sd_base.specs.Rates.{Rate}
use Rattle.ordered.specs.Orders.{AreOrders}
use Rattle.ordered.specs.OrderedNets.{CanBeOrdered, ordered}
use Rattle.ordered.specs.OrderedRates.{EarliestInOrder, HasRateInOrder}
use Rattle.ordered.proofs.FiringsHaveEntries.{times-many}
use Rattle.ordered.proofs.AdmissibleKeepsOrders.{admissible-both, admissible-ordered}

pub rate-in-order : (net : Net) (orders : List (List ℕ)) (p q : ℕ) → Lawful net → CanBeOrdered net → AreOrders net orders → Rate (ordered net orders) p q → HasRateInOrder net orders p q
rate-in-order net orders p q laws can are rate = record {
  slack = rate.slack;
  above = λ s t a admissible keeps below. rate.bounds.above s t a (admissible-ordered net laws can orders are s admissible keeps) (omega (arith, below, times-many net laws orders));
  below = λ t. let e = rate.bounds.below t in
      let both = admissible-both net laws can orders are e.0 e.1.admissible in (
        e.0,
        record {
          admissible = both.0;
          keeps = both.1;
          before = e.1.before;
          least = λ other admissible keeps a k there early. e.1.least other (admissible-ordered net laws can orders are other admissible keeps) a k there early;
        },
        λ a below. e.2 a (omega (arith, below, times-many net laws orders)),
      );
}
