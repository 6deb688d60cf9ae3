-- Rows by firing, written one firing after another.
use Rattle.std.proofs.Common.{◌≡◌, ℕ, ◌+◌, ◌-◌, ◌≤◌, ◌<◌, ◌⊎◌, List, [], ◌∷◌, ◌++◌, length, Option, Some, None, refl, sym, ap, subst, ◌∙◌, inl, inr, ⊎_elim, arith, length-append}
use Rattle.std.specs.Prelude.{slice_index, slice_index_or}
use Rattle.std.proofs.lemmas.Bool.{cases_eq}
use Rattle.std.proofs.lemmas.List.{get_or_append_left, get_or-append_right}
use Rattle.sd_base.specs.Net.{Net, channel_at, total}
use Rattle.sd_base.specs.Lawful.{Lawful}
use Rattle.sd_base.specs.Untimed.{none_fired, one_more, CanFire}
use Rattle.sd_base.proofs.SumsRepeatByTurns.{total-le}
use Rattle.sd_base.proofs.ClosedCountsBoundRuns.{bump-same, bump-other, bump-more, bump-cases}
use Rattle.token_matrix.specs.Stamps.{IsTakenBy}
use Rattle.token_matrix.specs.inside.RoundRows.{Table, row_at, HasEntry, UpTo}
use Rattle.token_matrix.proofs.TokensHaveProducers.{put_earlier}
use Rattle.token_matrix.proofs.RowsGiveStarts.{AreRows}

-- the row of the next firing of a is the greatest of those of the tokens that it takes
pub record IsNextRow (net : Net) (first : ℕ → ℕ) (count : ℕ) (rows : Table) (a j : ℕ) (new : List (Option ℕ)) : Type 0 where
  pub wide : length new ≡ count
  pub some : (p : ℕ) × (e : ℕ) × (slice_index_or new p None ≡ Some e)
  pub after : (i m p e : ℕ) → i < length net.channels → (channel_at net i).target ≡ a → IsTakenBy (channel_at net i) m j → HasEntry net first rows i m p e
      → (d : ℕ) × (slice_index_or new p None ≡ Some d) × (e ≤ d)
  pub just : (p e : ℕ) → slice_index_or new p None ≡ Some e
      → (i : ℕ) × (m : ℕ) × (i < length net.channels) × ((channel_at net i).target ≡ a) × IsTakenBy (channel_at net i) m j × HasEntry net first rows i m p e

-- the same table with a row more for a
pub record HasRowMore (rows more : Table) (a : ℕ) (new : List (Option ℕ)) : Type 0 where
  pub long : length more ≡ length rows
  pub pushed : slice_index_or more a [] ≡ slice_index_or rows a [] ++ new ∷ []
  pub others : (b : ℕ) → (b ≡ a → ⊥) → slice_index_or more b [] ≡ slice_index_or rows b []

module _ (net : Net) (laws : Lawful net) (first : ℕ → ℕ) (count : ℕ) (rows more : Table) (v : ℕ → ℕ) (a : ℕ) (new : List (Option ℕ)) (up : UpTo net first count rows v)
    (actor : a < length net.times) (can : CanFire net v a) (next : IsNextRow net first count rows a (v a) new) (is : HasRowMore rows more a new) where
  pub row_on : (b k : ℕ) → k < length (slice_index_or rows b []) → row_at more b k ≡ row_at rows b k
  row_on b k below = ⊎_elim
      (λ (same : b ≡ a).
      let here : k < length (slice_index_or rows a []) = subst (λ (d : ℕ). k < length (slice_index_or rows d [])) same below in
      let at : row_at more a k ≡ row_at rows a k = ap (λ (t : List (List (Option ℕ))). slice_index_or t k []) is.pushed ∙ get_or_append_left (slice_index_or rows a []) (new ∷ []) [] k here in
      subst (λ (d : ℕ). row_at more d k ≡ row_at rows d k) (sym same) at)
      (λ (apart : b ≡ a → ⊥). ap (λ (t : List (List (Option ℕ))). slice_index_or t k []) (is.others b apart))
      (cases_eq b a)

  pub row_new : row_at more a (v a) ≡ new
  row_new =
      let past : length (slice_index_or rows a []) ≤ v a = omega (arith, up.whole a actor) in
      let none : v a - length (slice_index_or rows a []) ≡ 0 = omega (arith, up.whole a actor) in
      ap (λ (t : List (List (Option ℕ))). slice_index_or t (v a) []) is.pushed ∙ get_or-append_right (slice_index_or rows a []) (new ∷ []) (length (slice_index_or rows a [])) (v a) [] refl past
      ∙ ap (λ (n : ℕ). slice_index_or (new ∷ []) n []) none

  pub counts_on : (b : ℕ) → b < length net.times → length (slice_index_or more b []) ≡ one_more v a b
  counts_on b there = ⊎_elim
      (λ (same : b ≡ a). subst (λ (d : ℕ). length (slice_index_or more d []) ≡ one_more v a d) (sym same)
      (ap (λ (t : List (List (Option ℕ))). length t) is.pushed ∙ (let e : length (slice_index_or rows a [] ++ new ∷ []) ≡ v a + 1 = omega (arith, length-append (slice_index_or rows a []) (new ∷ []), up.whole a actor) in e) ∙ sym (bump-same v a)))
      (λ (apart : b ≡ a → ⊥). ap (λ (t : List (List (Option ℕ))). length t) (is.others b apart) ∙ up.whole b there ∙ sym (bump-other v a b apart))
      (cases_eq b a)

  pub entry_on : (i m p e : ℕ) → i < length net.channels → HasEntry net first rows i m p e → HasEntry net first more i m p e
  entry_on i m p e place (inl initial) = inl initial
  entry_on i m p e place (inr (k, d, put, counted, entry, sum)) =
      let source : (channel_at net i).source < length net.times = laws.sources i place in
      let on : row_at more (channel_at net i).source k ≡ row_at rows (channel_at net i).source k = row_on (channel_at net i).source k counted in
      inr (
        k,
        d,
        put,
        (let h : k < length (slice_index_or more (channel_at net i).source []) = omega (arith, counts_on (channel_at net i).source source, up.whole (channel_at net i).source source, bump-more v a (channel_at net i).source) in h),
        ap (λ (r : List (Option ℕ)). slice_index_or r p None) on ∙ entry,
        sum,
      )

  pub entry_back : (i m p e : ℕ) → i < length net.channels → m < (channel_at net i).tokens + total (channel_at net i).made (v (channel_at net i).source) → HasEntry net first more i m p e → HasEntry net first rows i m p e
  entry_back i m p e place made (inl initial) = inl initial
  entry_back i m p e place made (inr (k, d, put, counted, entry, sum)) =
      let source : (channel_at net i).source < length net.times = laws.sources i place in
      let early : k < length (slice_index_or rows (channel_at net i).source []) = subst (λ (n : ℕ). k < n) (sym (up.whole (channel_at net i).source source)) (put_earlier net v i m k made put) in
      let on : row_at more (channel_at net i).source k ≡ row_at rows (channel_at net i).source k = row_on (channel_at net i).source k early in
      inr (k, d, put, early, sym (ap (λ (r : List (Option ℕ)). slice_index_or r p None) on) ∙ entry, sum)

  fed_on : (i j : ℕ) → i < length net.channels → j < one_more v a (channel_at net i).target → total (channel_at net i).taken (j + 1) ≤ (channel_at net i).tokens + total (channel_at net i).made (v (channel_at net i).source)
  fed_on i j place below = ⊎_elim (λ (h : j < v (channel_at net i).target). up.fed i j place h)
      (λ (h : ((channel_at net i).target ≡ a) × (j ≡ v a)). subst (λ (n : ℕ). total (channel_at net i).taken (n + 1) ≤ (channel_at net i).tokens + total (channel_at net i).made (v (channel_at net i).source)) (sym h.1) (can i place h.0))
      (bump-cases v a (channel_at net i).target j below)

  pub rows_more : UpTo net first count more (one_more v a)
  rows_more = record {
    actors = is.long ∙ up.actors;
    whole = counts_on;
    fed = λ i j place below. (let made : total (channel_at net i).made (v (channel_at net i).source) ≤ total (channel_at net i).made (one_more v a (channel_at net i).source) = total-le (channel_at net i).made (bump-more v a (channel_at net i).source) in
        omega (arith, fed_on i j place below));
    wide = λ b j there below. wide_is b j there (bump-cases v a b j below);
    some = λ b j there below. some_is b j there (bump-cases v a b j below);
    after = λ i m j p e place below takes entry. (let made : total (channel_at net i).taken (j + 1) ≤ (channel_at net i).tokens + total (channel_at net i).made (v (channel_at net i).source) = fed_on i j place below in
        let least : m < total (channel_at net i).taken (j + 1) = takes.1 in
        after_is i m j p e place takes (entry_back i m p e place (omega arith) entry) (bump-cases v a (channel_at net i).target j below));
    just = λ b j p e there below entry. just_is b j p e there entry (bump-cases v a b j below);
  }
    where
      wide_is : (b j : ℕ) → b < length net.times → (j < v b) ⊎ ((b ≡ a) × (j ≡ v a)) → length (row_at more b j) ≡ count
      wide_is b j there (inl h) = ap (λ (r : List (Option ℕ)). length r) (row_on b j (subst (λ (n : ℕ). j < n) (sym (up.whole b there)) h)) ∙ up.wide b j there h
      wide_is b j there (inr (same, last)) = rw (same, last) (ap (λ (r : List (Option ℕ)). length r) row_new ∙ next.wide)

      some_is : (b j : ℕ) → b < length net.times → (j < v b) ⊎ ((b ≡ a) × (j ≡ v a)) → (p : ℕ) × (e : ℕ) × (slice_index_or (row_at more b j) p None ≡ Some e)
      some_is b j there (inl h) = let s = up.some b j there h in (s.0, s.1, ap (λ (r : List (Option ℕ)). slice_index_or r s.0 None) (row_on b j (subst (λ (n : ℕ). j < n) (sym (up.whole b there)) h)) ∙ s.2)
      some_is b j there (inr (same, last)) = rw (same, last) ((next.some).0, (next.some).1, ap (λ (r : List (Option ℕ)). slice_index_or r (next.some).0 None) row_new ∙ (next.some).2)

      after_is : (i m j p e : ℕ) → i < length net.channels → IsTakenBy (channel_at net i) m j → HasEntry net first rows i m p e → (j < v (channel_at net i).target) ⊎ (((channel_at net i).target ≡ a) × (j ≡ v a))
          → (d : ℕ) × (slice_index_or (row_at more (channel_at net i).target j) p None ≡ Some d) × (e ≤ d)
      after_is i m j p e place takes entry (inl h) =
          let d = up.after i m j p e place h takes entry in
          (d.0, ap (λ (r : List (Option ℕ)). slice_index_or r p None) (row_on (channel_at net i).target j (subst (λ (n : ℕ). j < n) (sym (up.whole (channel_at net i).target (laws.targets i place))) h)) ∙ d.1, d.2)
      after_is i m j p e place takes entry (inr (same, last)) =
          let d = next.after i m p e place same (subst (λ (n : ℕ). IsTakenBy (channel_at net i) m n) last takes) entry in
          (d.0, ap (λ (b : ℕ). slice_index_or (row_at more b j) p None) same ∙ ap (λ (n : ℕ). slice_index_or (row_at more a n) p None) last ∙ ap (λ (r : List (Option ℕ)). slice_index_or r p None) row_new ∙ d.1, d.2)

      just_is : (b j p e : ℕ) → b < length net.times → slice_index_or (row_at more b j) p None ≡ Some e → (j < v b) ⊎ ((b ≡ a) × (j ≡ v a))
          → (i : ℕ) × (m : ℕ) × (i < length net.channels) × ((channel_at net i).target ≡ b) × IsTakenBy (channel_at net i) m j × HasEntry net first more i m p e
      just_is b j p e there entry (inl h) =
          let on : row_at more b j ≡ row_at rows b j = row_on b j (subst (λ (n : ℕ). j < n) (sym (up.whole b there)) h) in
          let t = up.just b j p e there h (sym (ap (λ (r : List (Option ℕ)). slice_index_or r p None) on) ∙ entry) in
          (t.0, t.1, t.2, t.3, t.4, entry_on t.0 t.1 p e t.2 t.5)
      just_is b j p e there entry (inr (same, last)) =
          let on : row_at more b j ≡ new = ap (λ (d : ℕ). row_at more d j) same ∙ ap (λ (n : ℕ). row_at more a n) last ∙ row_new in
          let t = next.just p e (sym (ap (λ (r : List (Option ℕ)). slice_index_or r p None) on) ∙ entry) in
          (t.0, t.1, t.2, t.3 ∙ sym same, subst (λ (n : ℕ). IsTakenBy (channel_at net t.0) t.1 n) (sym last) t.4, entry_on t.0 t.1 p e t.2 t.5)

-- no rows are the rows of no firings
pub rows_none : (net : Net) (first : ℕ → ℕ) (count : ℕ) (rows : Table) → length rows ≡ length net.times → ((a : ℕ) → slice_index_or rows a [] ≡ []) → UpTo net first count rows none_fired
rows_none net first count rows long none = record {
  actors = long;
  whole = λ a actor. ap (λ (t : List (List (Option ℕ))). length t) (none a);
  fed = λ i j place below. absurd (let no : ⊥ = omega arith in no);
  wide = λ a j actor below. absurd (let no : ⊥ = omega arith in no);
  some = λ a j actor below. absurd (let no : ⊥ = omega arith in no);
  after = λ i m j p e place below takes entry. absurd (let no : ⊥ = omega arith in no);
  just = λ a j p e actor below entry. absurd (let no : ⊥ = omega arith in no);
}

-- after a whole round they are all rows
pub rows_all : (net : Net) (laws : Lawful net) (first : ℕ → ℕ) (count : ℕ) (rows : Table) (v : ℕ → ℕ) → ((a : ℕ) → a < length net.times → v a ≡ slice_index net.round a) → UpTo net first count rows v → AreRows net first count rows
rows_all net laws first count rows v all up = record {
  actors = up.actors;
  whole = λ a actor. up.whole a actor ∙ all a actor;
  wide = λ a j actor below. up.wide a j actor (subst (λ (n : ℕ). j < n) (sym (all a actor)) below);
  some = λ a j actor below. up.some a j actor (subst (λ (n : ℕ). j < n) (sym (all a actor)) below);
  after = λ i m j p e place below takes entry. up.after i m j p e place (subst (λ (n : ℕ). j < n) (sym (all (channel_at net i).target (laws.targets i place))) below) takes entry;
  just = λ a j p e actor below entry. up.just a j p e actor (subst (λ (n : ℕ). j < n) (sym (all a actor)) below) entry;
}
