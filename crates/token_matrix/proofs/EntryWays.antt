-- The entries of a scenario's matrix are the times of its longest ways.
use Rattle.std.proofs.Common.{◌≡◌, ℕ, suc, ◌+◌, ◌*◌, ◌≤◌, ◌<◌, ◌⊎◌, List, [], length, Option, None, Some, subst, sym, ap, ◌∙◌, refl, inl, inr, arith}
use Rattle.std.specs.Prelude.{false, slice_index, slice_index_or}
use Rattle.std.proofs.lemmas.Bool.{cases_eq}
use Rattle.sd_base.specs.declared.limits.TheConstants.{TIME, ROUND}
use Rattle.sd_base.specs.declared.tables.GraphFile.{GraphFile}
use Rattle.sd_base.specs.declared.tables.SharedRow.{SharedRow}
use Rattle.sd_base.specs.Net.{channel_at}
use Rattle.sd_base.specs.FileNet.{net_of}
use Rattle.sd_base.specs.Lawful.{Lawful}
use Rattle.sd_base.specs.Scenarios.{shared_count}
use Rattle.sd_base.specs.Schedules.{time_of}
use Rattle.token_matrix.specs.Stamps.{AreStampsOf, first_of}
use Rattle.token_matrix.specs.Matrices.{IsMatrix, applied, apply_row, entry_at}
use Rattle.token_matrix.specs.Ways.{IsWay}
use Rattle.token_matrix.proofs.EntriesGiveStamps.{applied-at}
use Rattle.token_matrix.proofs.SpikesReadEntries.{spike, length-spike, at_none, at_some, spike-here, spike-there}
use Rattle.token_matrix.proofs.WayStamps.{way_stamp, LongestWay, longest_way}

module _ (shared : List SharedRow) (g : GraphFile) (gamma : List ℕ) (rows : List (List (Option ℕ))) (is : IsMatrix shared g gamma rows)
    (laws : Lawful (net_of g gamma false)) (timed : (a k : ℕ) → a < length (net_of g gamma false).times → 1 ≤ time_of (net_of g gamma false) a k)
    (inside : (i m : ℕ) → i < length (net_of g gamma false).channels → m < (channel_at (net_of g gamma false) i).tokens → first_of shared g i + m < shared_count shared)
    (covers : (p : ℕ) → p < shared_count shared → (i : ℕ) × (k : ℕ) × (i < length (net_of g gamma false).channels) × (k < (channel_at (net_of g gamma false) i).tokens) × (first_of shared g i + k ≡ p)) where
  top : ℕ
  top = suc (TIME * ROUND)

  spiked : ℕ → List ℕ
  spiked p = spike p top (shared_count shared)

  stamps : (p : ℕ) → AreStampsOf shared g gamma (spiked p) (applied rows (spiked p))
  unfolding spiked
  stamps p = (is.carries (spike p top (shared_count shared)) (applied rows (spike p top (shared_count shared))) (length-spike p top (shared_count shared))).1 refl

  after : (p q : ℕ) → q < shared_count shared → slice_index (applied rows (spiked p)) q ≡ apply_row (slice_index_or rows q []) (spiked p)
  after p q below = applied-at rows (spiked p) q (omega (arith, is.size))

  -- a way is no longer than its entry, which is there
  pub way_entry : (p q e : ℕ) (cs : List ℕ) → p < shared_count shared → q < shared_count shared → IsWay (net_of g gamma false) (first_of shared g) p q e cs →
      (d : ℕ) × (entry_at rows q p ≡ Some d) × (e ≤ d)
  unfolding spiked top
  way_entry p q e cs below here way = step (entry_at rows q p) refl
    where
      low : top + e ≤ apply_row (slice_index_or rows q []) (spike p top (shared_count shared))
      low =
          let a : slice_index (spike p top (shared_count shared)) p + e ≤ slice_index (applied rows (spike p top (shared_count shared))) q =
          way_stamp (net_of g gamma false) laws (first_of shared g) (shared_count shared) (spike p top (shared_count shared)) (applied rows (spike p top (shared_count shared))) (stamps p) p q e cs way in
          let b : slice_index (spike p top (shared_count shared)) p ≡ top = spike-here p top (shared_count shared) below in
          let c : slice_index (applied rows (spike p top (shared_count shared))) q ≡ apply_row (slice_index_or rows q []) (spike p top (shared_count shared)) = after p q here in
          omega arith

      step : (o : Option ℕ) → entry_at rows q p ≡ o → (d : ℕ) × (entry_at rows q p ≡ Some d) × (e ≤ d)
      step None at = absurd (let h : apply_row (slice_index_or rows q []) (spike p top (shared_count shared)) ≤ TIME * ROUND = at_none (TIME * ROUND) top (shared_count shared) p (slice_index_or rows q []) (λ k d there. is.short q k d there) at in
          let no : ⊥ = omega (arith, low) in no)
      step (Some d) at =
          let h : apply_row (slice_index_or rows q []) (spike p top (shared_count shared)) ≡ top + d = at_some (TIME * ROUND) top (shared_count shared) p d (slice_index_or rows q []) (λ k d there. is.short q k d there) (omega arith) below at in
          (d, at, omega (arith, low))

  -- each entry has a way that takes as long
  pub entry_way : (p q e : ℕ) → p < shared_count shared → q < shared_count shared → entry_at rows q p ≡ Some e →
      (cs : List ℕ) × IsWay (net_of g gamma false) (first_of shared g) p q e cs
  unfolding spiked top
  entry_way p q e below here at = found (covers q here)
    where
      high : slice_index (applied rows (spike p top (shared_count shared))) q ≡ top + e
      high = after p q here ∙ at_some (TIME * ROUND) top (shared_count shared) p e (slice_index_or rows q []) (λ k d there. is.short q k d there) (omega arith) below at

      found : (i : ℕ) × (k : ℕ) × (i < length (net_of g gamma false).channels) × (k < (channel_at (net_of g gamma false) i).tokens) × (first_of shared g i + k ≡ q) →
          (cs : List ℕ) × IsWay (net_of g gamma false) (first_of shared g) p q e cs
      found (i, k, place, there, same) = told (longest_way (net_of g gamma false) laws (first_of shared g) (shared_count shared) (spike p top (shared_count shared)) (applied rows (spike p top (shared_count shared))) (stamps p) timed i k place there)
        where
          told : LongestWay (net_of g gamma false) laws (first_of shared g) (shared_count shared) (spike p top (shared_count shared)) (applied rows (spike p top (shared_count shared))) (stamps p) (first_of shared g i + k) →
              (cs : List ℕ) × IsWay (net_of g gamma false) (first_of shared g) p q e cs
          told one = pick (cases_eq one.p p)
            where
              way : IsWay (net_of g gamma false) (first_of shared g) one.p q one.e one.cs
              way = subst (λ (n : ℕ). IsWay (net_of g gamma false) (first_of shared g) one.p n one.e one.cs) same one.way

              exact : slice_index (spike p top (shared_count shared)) one.p + one.e ≡ top + e
              exact = one.exact ∙ (ap (λ (n : ℕ). slice_index (applied rows (spike p top (shared_count shared))) n) same ∙ high)

              start-inside : one.p < shared_count shared
              start-inside = subst (λ (n : ℕ). n < shared_count shared) (sym one.is) (inside one.channel one.token one.below one.there)

              pick : (one.p ≡ p) ⊎ (one.p ≡ p → ⊥) → (cs : List ℕ) × IsWay (net_of g gamma false) (first_of shared g) p q e cs
              pick (inl there) =
                  let b : slice_index (spike p top (shared_count shared)) one.p ≡ top = ap (λ (n : ℕ). slice_index (spike p top (shared_count shared)) n) there ∙ spike-here p top (shared_count shared) below in
                  let time : one.e ≡ e = omega (arith, exact) in
                  (one.cs, subst (λ (n : ℕ). IsWay (net_of g gamma false) (first_of shared g) p q n one.cs) time (subst (λ (n : ℕ). IsWay (net_of g gamma false) (first_of shared g) n q one.e one.cs) there way))
              pick (inr apart) = absurd (
                  let z : slice_index (spike p top (shared_count shared)) one.p ≡ 0 = spike-there p top (shared_count shared) one.p apart in
                  let d = way_entry one.p q one.e one.cs start-inside here way in
                  let s : d.0 ≤ TIME * ROUND = is.short q one.p d.0 d.1 in
                  let no : ⊥ = omega (arith, exact, d.2) in no)
