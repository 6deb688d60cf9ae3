-- Each firing of a named actor has its entry, and an ordered net takes and moves as much by it as before.
use Rattle.std.proofs.Common.{◌≡◌, ℕ, zero, suc, ◌+◌, ◌*◌, ◌%◌, ◌/◌, ◌≤◌, ◌<◌, Bool, true, false, List, [], length, map, subst, sym, refl, ap, ◌∙◌, arith, eq-eqb, eqb-true, div-add-mod'}
use Rattle.std.proofs.Math.Nat.{mod-eq_of_lt, mod_self, mod-lt}
use Rattle.std.specs.Prelude.{slice_index, slice_index_or, ◌==◌, ◌||◌, if◌then◌else◌, replicate}
use Rattle.std.specs.List.{list_any, range_with_len}
use Rattle.std.proofs.lemmas.List.{get_or-map, get_or-replicate, length-replicate}
use Rattle.std.proofs.lemmas.List.FromFn.{length-map-range_with_len, get_or-map-range_with_len}
use Rattle.sd_base.specs.Net.{Channel, Net, channel_at, phase_entry, total}
use Rattle.sd_base.specs.Schedules.{phases_at}
use Rattle.sd_base.specs.Lawful.{Lawful}
use Rattle.sd_base.proofs.SumsRepeatByTurns.{total-zero, total-suc}
use Rattle.sd_base.proofs.ElementsKeepPlaces.{any-place}
use Rattle.ordered.specs.Orders.{entry_at, fired, firing_at, AreOrders}
use Rattle.ordered.specs.OrderedNets.{is_named, phases_in, unrolled, ordered}
use Rattle.ordered.proofs.CountsRepeatByTurns.{Found, found-on}
use Rattle.ordered.proofs.RatesCountEntries.{entry-turns, is_of, of-turns, of-here}
use Rattle.ordered.proofs.UnrolledSumsAgree.{unrolled-entry, unrolled-total}

-- an order and the place of an actor in it
pub record Named (orders : List (List ℕ)) (a : ℕ) : Type 0 where
  pub order : ℕ
  pub listed : order < length orders
  pub place : ℕ
  pub below : place < length (slice_index_or orders order [])
  pub is : slice_index (slice_index_or orders order []) place ≡ a

pub named : (orders : List (List ℕ)) (a : ℕ) → is_named orders a ≡ true → Named orders a
named orders a is =
    let l = any-place (λ (order : List ℕ). list_any (λ b. b == a) order) [] orders is in
    let p = any-place (λ b. b == a) 0 (slice_index_or orders l.0 []) l.2 in
    record { order = l.0; listed = l.1; place = p.0; below = p.1; is = eqb-true (slice_index (slice_index_or orders l.0 []) p.0) a p.2 }

-- a place below the length of an order is its entry
pub entry-here : (order : List ℕ) (p : ℕ) → p < length order → entry_at order p ≡ slice_index order p
entry-here order p below = ap (slice_index order) (mod-eq_of_lt below)

-- the entry of a firing
pub record Entry (order : List ℕ) (a k : ℕ) : Type 0 where
  pub place : ℕ
  pub actor : entry_at order place ≡ a
  pub number : fired order a place ≡ k

pub entry-of : (order : List ℕ) (a p k : ℕ) → p < length order → entry_at order p ≡ a → Entry order a k
entry-of order a p k below here =
    let f : Found (is_of order a) k (suc k * length order) = found-on (is_of order a) (length order) (of-turns order a) p k below (of-here order a p here) in
    record { place = f.place; actor = eqb-true (entry_at order f.place) a f.here; number = f.number }

-- the firing of an entry by its place within a round
pub entry-round : (order : List ℕ) (m : ℕ) → 1 ≤ length order → (entry_at order (m % length order) ≡ entry_at order m) × (entry_at order (suc (m % length order)) ≡ entry_at order (suc m))
entry-round order m some =
    let whole : m % length order + m / length order * length order ≡ m = omega (arith, div-add-mod' m (length order)) in
    let more : suc (m % length order) + m / length order * length order ≡ suc m = omega (arith, whole) in (
      sym (entry-turns order (m % length order) (m / length order)) ∙ ap (entry_at order) whole,
      sym (entry-turns order (suc (m % length order)) (m / length order)) ∙ ap (entry_at order) more,
    )

pub ones-total : (n k : ℕ) → 1 ≤ n → total (replicate n 1) k ≡ k
ones-total n zero some = total-zero (replicate n 1)
ones-total n (suc k) some =
    let long : k % length {A = ℕ} (replicate n 1) ≡ k % n = ap (λ (m : ℕ). k % m) (length-replicate {A = ℕ} n 1) in
    let below : k % n < n = mod-lt k (omega arith) in
    let one : phase_entry (replicate n 1) k ≡ 1 = ap (slice_index (replicate n 1)) long ∙ get_or-replicate {A = ℕ} n (k % n) 1 0 below in
    total-suc (replicate n 1) k ∙ (omega (arith, one, ones-total n k some))

module _ (net : Net) (laws : Lawful net) (orders : List (List ℕ)) where
  phases-listed : (a : ℕ) → a < length net.times → slice_index (map length net.times) a ≡ phases_at net a
  phases-listed a below = get_or-map length net.times a [] 0 below

  pub some-phases : (a : ℕ) → a < length net.times → 1 ≤ phases_in net orders a
  some-phases a below = at (is_named orders a)
    where
      many : length (map length net.times) ≡ length net.times
      many = Rattle.std.proofs.lemmas.List.length-map net.times length

      at : (b : Bool) → 1 ≤ (if b then slice_index net.round a else phases_at net a)
      at true = laws.repetition.balances.fires a (rw many below)
      at false = laws.some_phase a below

  -- whole turns of the phases that the actor had
  pub whole-phases : (a : ℕ) → a < length net.times → phases_in net orders a % phases_at net a ≡ 0
  whole-phases a below = at (is_named orders a)
    where
      many : length (map length net.times) ≡ length net.times
      many = Rattle.std.proofs.lemmas.List.length-map net.times length

      at : (b : Bool) → (if b then slice_index net.round a else phases_at net a) % phases_at net a ≡ 0
      at true = rw (phases-listed a below) at (laws.repetition.balances.cycles a (rw many below))
      at false = mod_self (phases_at net a)

  pub times-here : (a : ℕ) → a < length net.times → slice_index_or (ordered net orders).times a [] ≡ unrolled (phases_in net orders a) (slice_index_or net.times a [])
  times-here a below = get_or-map-range_with_len (λ a. unrolled (phases_in net orders a) (slice_index_or net.times a [])) 0 (length net.times) a a [] below (omega arith)

  pub times-many : length (ordered net orders).times ≡ length net.times
  times-many = length-map-range_with_len (λ a. unrolled (phases_in net orders a) (slice_index_or net.times a [])) 0 (length net.times)

  -- a firing takes as long as before
  pub same-time : (a k : ℕ) → a < length net.times → phase_entry (slice_index_or (ordered net orders).times a []) k ≡ phase_entry (slice_index_or net.times a []) k
  same-time a k below = ap (λ (xs : List ℕ). phase_entry xs k) (times-here a below) ∙ unrolled-entry (phases_in net orders a) (slice_index_or net.times a []) (whole-phases a below) (some-phases a below) k

  -- a channel moves as much as before
  pub same-made : (i k : ℕ) → i < length net.channels → total (unrolled (phases_in net orders (channel_at net i).source) (channel_at net i).made) k ≡ total (channel_at net i).made k
  same-made i k below =
      let there = laws.sources i below in
      let long = laws.made_phases i below in
      unrolled-total (phases_in net orders (channel_at net i).source) (channel_at net i).made (rw long (whole-phases (channel_at net i).source there)) (some-phases (channel_at net i).source there) k

  pub same-taken : (i k : ℕ) → i < length net.channels → total (unrolled (phases_in net orders (channel_at net i).target) (channel_at net i).taken) k ≡ total (channel_at net i).taken k
  same-taken i k below =
      let there = laws.targets i below in
      let long = laws.taken_phases i below in
      unrolled-total (phases_in net orders (channel_at net i).target) (channel_at net i).taken (rw long (whole-phases (channel_at net i).target there)) (some-phases (channel_at net i).target there) k
