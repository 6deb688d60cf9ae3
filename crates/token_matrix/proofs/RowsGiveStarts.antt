-- Rows by firing give the starts of a round for all stamps before it.
use Rattle.std.proofs.Common.{◌≡◌, ℕ, ◌+◌, ◌≤◌, ◌<◌, List, [], length, map, Option, Some, None, refl, sym, ap, subst, ◌∙◌, inl, inr, arith}
use Rattle.std.specs.Prelude.{slice_index, slice_index_or}
use Rattle.std.proofs.lemmas.List.{get_or-map, length-map}
use Rattle.sd_base.specs.Net.{Net, channel_at}
use Rattle.sd_base.specs.Schedules.{Schedule, count_of, start_of, end_of, time_of}
use Rattle.sd_base.specs.Lawful.{Lawful}
use Rattle.token_matrix.specs.Stamps.{IsTakenBy, HasStamp, AreRoundStarts}
use Rattle.token_matrix.specs.Matrices.{apply_row, applied}
use Rattle.token_matrix.specs.inside.RoundRows.{Table, row_at, HasEntry}
use Rattle.token_matrix.proofs.EntriesGiveStamps.{row-least, row-gives, Gives}

-- each firing's row is the greatest of those of the tokens that it takes
pub record AreRows (net : Net) (first : ℕ → ℕ) (count : ℕ) (rows : Table) : Type 0 where
  pub actors : length rows ≡ length net.times
  pub whole : (a : ℕ) → a < length net.times → length (slice_index_or rows a []) ≡ slice_index net.round a
  pub wide : (a j : ℕ) → a < length net.times → j < slice_index net.round a → length (row_at rows a j) ≡ count
  pub some : (a j : ℕ) → a < length net.times → j < slice_index net.round a → (p : ℕ) × (e : ℕ) × (slice_index_or (row_at rows a j) p None ≡ Some e)
  pub after : (i m j p e : ℕ) → i < length net.channels → j < slice_index net.round (channel_at net i).target → IsTakenBy (channel_at net i) m j → HasEntry net first rows i m p e
      → (d : ℕ) × (slice_index_or (row_at rows (channel_at net i).target j) p None ≡ Some d) × (e ≤ d)
  pub just : (a j p e : ℕ) → a < length net.times → j < slice_index net.round a → slice_index_or (row_at rows a j) p None ≡ Some e
      → (i : ℕ) × (m : ℕ) × (i < length net.channels) × ((channel_at net i).target ≡ a) × IsTakenBy (channel_at net i) m j × HasEntry net first rows i m p e

-- the starts that rows give
pub starts_by : Table → List ℕ → Schedule
starts_by rows x = map (λ row. applied row x) rows

module _ (net : Net) (laws : Lawful net) (first : ℕ → ℕ) (count : ℕ) (rows : Table) (are : AreRows net first count rows)
    (inside : (i m : ℕ) → i < length net.channels → m < (channel_at net i).tokens → first i + m < count) (x : List ℕ) (long : length x ≡ count) where
  count-is : (a : ℕ) → a < length net.times → count_of (starts_by rows x) a ≡ length (slice_index_or rows a [])
  unfolding starts_by
  count-is a actor =
      ap (λ (t : List ℕ). length t) (get_or-map (λ (row : List (List (Option ℕ))). applied row x) rows a [] [] (omega (arith, are.actors)))
      ∙ length-map (slice_index_or rows a []) (λ (r : List (Option ℕ)). apply_row r x)

  start-is : (a j : ℕ) → a < length net.times → j < length (slice_index_or rows a []) → start_of (starts_by rows x) a j ≡ apply_row (row_at rows a j) x
  unfolding starts_by
  start-is a j actor below =
      ap (λ (t : List ℕ). slice_index t j) (get_or-map (λ (row : List (List (Option ℕ))). applied row x) rows a [] [] (omega (arith, are.actors)))
      ∙ get_or-map (λ (r : List (Option ℕ)). apply_row r x) (slice_index_or rows a []) j [] 0 below

  gives : (a j : ℕ) → a < length net.times → j < slice_index net.round a → Gives (row_at rows a j) x
  gives a j actor below = elim (row-gives (row_at rows a j) x (are.wide a j actor below ∙ sym long)) [
    | inl g ↦ g
    | inr (free, none) ↦ (let s = are.some a j actor below in absurd (free s.0 s.1 s.2))
  ]

  -- the stamp of a token is what an entry of its row gives
  pub stamp_entry : (i m z : ℕ) → i < length net.channels → HasStamp net first x (starts_by rows x) i m z
      → (p : ℕ) × (e : ℕ) × (p < length x) × HasEntry net first rows i m p e × (slice_index x p + e ≡ z)
  stamp_entry i m z place (inl (initial, is)) =
      (first i + m, 0, (let h : first i + m < count = inside i m place initial in omega (arith, long)), inl (initial, refl, refl), (let h : slice_index x (first i + m) + 0 ≡ z = omega (arith, is) in h))
  stamp_entry i m z place (inr (k, put, there, is)) =
      let actor : (channel_at net i).source < length net.times = laws.sources i place in
      let counted : k < length (slice_index_or rows (channel_at net i).source []) = subst (λ (n : ℕ). k < n) (count-is (channel_at net i).source actor) there in
      let below : k < slice_index net.round (channel_at net i).source = subst (λ (n : ℕ). k < n) (are.whole (channel_at net i).source actor) counted in
      let g = gives (channel_at net i).source k actor below in
      let at : start_of (starts_by rows x) (channel_at net i).source k ≡ apply_row (row_at rows (channel_at net i).source k) x = start-is (channel_at net i).source k actor counted in (
        g.i,
        g.e + time_of net (channel_at net i).source k,
        g.within,
        inr (k, g.e, put, counted, g.entry, refl),
        (let h : slice_index x g.i + g.e ≡ apply_row (row_at rows (channel_at net i).source k) x = g.is in
            let f : slice_index x g.i + (g.e + time_of net (channel_at net i).source k) ≡ z = omega (arith, is) in f),
      )

  -- and no entry gives more
  pub entry_stamp : (i m p e : ℕ) → i < length net.channels → p < length x → HasEntry net first rows i m p e
      → (z : ℕ) × HasStamp net first x (starts_by rows x) i m z × (slice_index x p + e ≤ z)
  entry_stamp i m p e place within (inl (initial, at, none)) =
      (slice_index x (first i + m), inl (initial, refl), (let h : slice_index x p ≡ slice_index x (first i + m) = ap (λ (q : ℕ). slice_index x q) at in let g : slice_index x p + e ≤ slice_index x (first i + m) = omega arith in g))
  entry_stamp i m p e place within (inr (k, d, put, counted, entry, is)) =
      let actor : (channel_at net i).source < length net.times = laws.sources i place in
      let there : k < count_of (starts_by rows x) (channel_at net i).source = subst (λ (n : ℕ). k < n) (sym (count-is (channel_at net i).source actor)) counted in
      let at : start_of (starts_by rows x) (channel_at net i).source k ≡ apply_row (row_at rows (channel_at net i).source k) x = start-is (channel_at net i).source k actor counted in
      let least : slice_index x p + d ≤ apply_row (row_at rows (channel_at net i).source k) x = row-least (row_at rows (channel_at net i).source k) x p d entry within in (
        end_of net (starts_by rows x) (channel_at net i).source k,
        inr (k, put, there, refl),
        (let g : slice_index x p + e ≤ start_of (starts_by rows x) (channel_at net i).source k + time_of net (channel_at net i).source k = omega arith in g),
      )

  after_is : (i m j z : ℕ) → i < length net.channels → j < count_of (starts_by rows x) (channel_at net i).target → IsTakenBy (channel_at net i) m j
      → HasStamp net first x (starts_by rows x) i m z → z ≤ start_of (starts_by rows x) (channel_at net i).target j
  after_is i m j z place there takes stamp =
      let actor : (channel_at net i).target < length net.times = laws.targets i place in
      let counted : j < length (slice_index_or rows (channel_at net i).target []) = subst (λ (n : ℕ). j < n) (count-is (channel_at net i).target actor) there in
      let below : j < slice_index net.round (channel_at net i).target = subst (λ (n : ℕ). j < n) (are.whole (channel_at net i).target actor) counted in
      let s = stamp_entry i m z place stamp in
      let d = are.after i m j s.0 s.1 place below takes s.3 in
      let least : slice_index x s.0 + d.0 ≤ apply_row (row_at rows (channel_at net i).target j) x = row-least (row_at rows (channel_at net i).target j) x s.0 d.0 d.1 s.2 in
      let at : start_of (starts_by rows x) (channel_at net i).target j ≡ apply_row (row_at rows (channel_at net i).target j) x = start-is (channel_at net i).target j actor counted in
      omega (arith, s.4, d.2)

  starts-long : length (starts_by rows x) ≡ length net.times
  unfolding starts_by
  starts-long = length-map rows (λ (row : List (List (Option ℕ))). applied row x) ∙ are.actors

  pub are_starts : AreRoundStarts net first x (starts_by rows x)
  are_starts = record {
    actors = starts-long;
    whole = λ a actor. count-is a actor ∙ are.whole a actor;
    after = after_is;
    just = just_is;
  }
    where
      just_is : (a j : ℕ) → a < length net.times → j < count_of (starts_by rows x) a
          → (i : ℕ) × (m : ℕ) × (i < length net.channels) × ((channel_at net i).target ≡ a) × IsTakenBy (channel_at net i) m j × HasStamp net first x (starts_by rows x) i m (start_of (starts_by rows x) a j)
      just_is a j actor there =
          let counted : j < length (slice_index_or rows a []) = subst (λ (n : ℕ). j < n) (count-is a actor) there in
          let below : j < slice_index net.round a = subst (λ (n : ℕ). j < n) (are.whole a actor) counted in
          let g = gives a j actor below in
          let t = are.just a j g.i g.e actor below g.entry in
          let z = entry_stamp t.0 t.1 g.i g.e t.2 g.within t.5 in
          let at : start_of (starts_by rows x) a j ≡ apply_row (row_at rows a j) x = start-is a j actor counted in
          let there' : j < count_of (starts_by rows x) (channel_at net t.0).target = subst (λ (b : ℕ). j < count_of (starts_by rows x) b) (sym t.3) there in
          let up : z.0 ≤ start_of (starts_by rows x) a j = subst (λ (b : ℕ). z.0 ≤ start_of (starts_by rows x) b j) t.3 (after_is t.0 t.1 j z.0 t.2 there' t.4 z.1) in
          let low : slice_index x g.i + g.e ≤ z.0 = z.2 in
          let is : slice_index x g.i + g.e ≡ apply_row (row_at rows a j) x = g.is in
          (t.0, t.1, t.2, t.3, t.4, subst (λ (n : ℕ). HasStamp net first x (starts_by rows x) t.0 t.1 n) (let e : z.0 ≡ start_of (starts_by rows x) a j = omega arith in e) z.1)
