-- The rates of new channels are within their limits.
use Rattle.std.proofs.Common.{◌≡◌, ℕ, suc, ◌≤◌, ◌<◌, List, [], length, ap, ◌∙◌, arith}
use Rattle.std.specs.Prelude.{slice_index, slice_index_or}
use Rattle.sd_base.specs.declared.limits.TheConstants.{RATE, ROUND}
use Rattle.sd_base.specs.Net.{Net}
use Rattle.sd_base.specs.Lawful.{Lawful}
use Rattle.sd_base.proofs.ElementsKeepPlaces.{entry-le-sum}
use Rattle.firing.specs.Csdf.{AreRates}
use Rattle.ordered.specs.Orders.{entry_at, AreOrders}
use Rattle.ordered.specs.OrderedNets.{order_channel, ordered}
use Rattle.ordered.specs.inside.Steps.{FitRates, pairs_from}
use Rattle.ordered.proofs.PairsAreNeighbours.{PairAt, pair-at}
use Rattle.ordered.proofs.GoodChannels.{Good, step-good, entry-actor, entry-named, named-phases, phases-here}

pub round-few : (net : Net) → Lawful net → (a : ℕ) → slice_index net.round a ≤ ROUND
round-few net laws a = omega (arith, entry-le-sum net.round a, laws.small_round)

listed-fit : (xs : List ℕ) (n : ℕ) → length xs ≡ n → n ≤ ROUND → ((p : ℕ) → slice_index xs p ≤ RATE) → AreRates xs
listed-fit xs n long few small = record { few = omega (arith, long); small = λ k d below. rw (Rattle.std.proofs.lemmas.List.get_or_default xs k d 0 below) (small k) }

module _ (net : Net) (laws : Lawful net) (orders : List (List ℕ)) (are : AreOrders net orders) where
  pub rates-fit : (l : ℕ) → l < length orders → FitRates (slice_index_or orders l [])
  rates-fit l listed p below =
      let some : 1 ≤ length (slice_index_or orders l []) = omega arith in
      let good : Good (ordered net orders) (order_channel (slice_index_or orders l []) (entry_at (slice_index_or orders l []) p) (entry_at (slice_index_or orders l []) (suc p))) = step-good net laws orders are l listed some p below in
      let one = phases-here net laws orders are (entry_at (slice_index_or orders l []) p) (entry-actor net laws orders are l listed some p) in
      let other = phases-here net laws orders are (entry_at (slice_index_or orders l []) (suc p)) (entry-actor net laws orders are l listed some (suc p)) in
      let named = named-phases net laws orders are (entry_at (slice_index_or orders l []) p) (entry-named net laws orders are l listed some p) in
      let also = named-phases net laws orders are (entry_at (slice_index_or orders l []) (suc p)) (entry-named net laws orders are l listed some (suc p)) in (
        listed-fit (order_channel (slice_index_or orders l []) (entry_at (slice_index_or orders l []) p) (entry_at (slice_index_or orders l []) (suc p))).made (slice_index net.round (entry_at (slice_index_or orders l []) p)) (good.made_phases ∙ (one ∙ named)) (round-few net laws (entry_at (slice_index_or orders l []) p)) good.small_made,
        listed-fit (order_channel (slice_index_or orders l []) (entry_at (slice_index_or orders l []) p) (entry_at (slice_index_or orders l []) (suc p))).taken (slice_index net.round (entry_at (slice_index_or orders l []) (suc p))) (good.taken_phases ∙ (other ∙ also)) (round-few net laws (entry_at (slice_index_or orders l []) (suc p))) good.small_taken,
      )

-- so are those of the channel of a listed pair
pub pair-fits : (order : List ℕ) → FitRates order → (pairs : List (ℕ × ℕ)) (i : ℕ) → pairs ≡ pairs_from order 0 (length order) → i < length pairs →
    (1 ≤ length order) × AreRates (order_channel order (slice_index_or pairs i (0, 0)).0 (slice_index_or pairs i (0, 0)).1).made × AreRates (order_channel order (slice_index_or pairs i (0, 0)).0 (slice_index_or pairs i (0, 0)).1).taken
pair-fits order fits pairs i so below =
    let at : PairAt order 0 (length order) (slice_index_or (pairs_from order 0 (length order)) i (0, 0)) = pair-at order 0 (length order) i (0, 0) (rw so at below) in
    let small : at.place < length order = omega (arith, at.below) in
    let is : slice_index_or pairs i (0, 0) ≡ (entry_at order at.place, entry_at order (suc at.place)) = ap (λ (ps : List (ℕ × ℕ)). slice_index_or ps i (0, 0)) so ∙ at.is in
    let fit = fits at.place small in
    (omega (arith, small), rw is fit.0, rw is fit.1)
