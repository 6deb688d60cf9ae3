-- The rows of the tokens that are there stay theirs as tokens before them are taken and others are put.
use Rattle.std.proofs.Common.{◌≡◌, ℕ, ◌+◌, ◌-◌, ◌≤◌, ◌<◌, List, [], ◌++◌, length, drop, replicate, Option, refl, sym, ap, subst, ◌∙◌, ⊎_elim, arith, length-append, length-drop}
use Rattle.std.specs.Prelude.{slice_index_or}
use Rattle.std.proofs.lemmas.Bool.{cases_lt}
use Rattle.std.proofs.lemmas.List.{get_or-drop, get_or_append_left, get_or-append_right, get_or-replicate, length-replicate}
use Rattle.sd_base.specs.Net.{Net, channel_at, total}
use Rattle.sd_base.specs.Lawful.{Lawful}
use Rattle.sd_base.specs.Untimed.{CanFire}
use Rattle.token_matrix.specs.inside.RoundRows.{Table, HasEntry, UpTo, IsTokenRow, AreTokens}
use Rattle.token_matrix.proofs.RowsSoFar.{IsNextRow, HasRowMore, entry_on, entry_back}

-- ---- tokens that are taken, and tokens that are put

pub tokens_drop : (net : Net) (first : ℕ → ℕ) (count : ℕ) (table : Table) (i m : ℕ) (rows : List (List (Option ℕ))) (t : ℕ) → AreTokens net first count table i m rows → AreTokens net first count table i (m + t) (drop t rows)
tokens_drop net first count table i m rows t are = record {
  wide = λ k below. rw (get_or-drop t rows k []) (are.wide (t + k) (inside k below));
  each = λ k below. rw (get_or-drop t rows k []) (subst (λ (n : ℕ). IsTokenRow net first table i n (slice_index_or rows (t + k) [])) (let e : m + (t + k) ≡ m + t + k = omega arith in e) (are.each (t + k) (inside k below)));
}
  where
    inside : (k : ℕ) → k < length (drop t rows) → t + k < length rows
    inside k below = omega (arith, length-drop t rows)

pub tokens_put : (net : Net) (first : ℕ → ℕ) (count : ℕ) (table : Table) (i m : ℕ) (rows : List (List (Option ℕ))) (n : ℕ) (row : List (Option ℕ)) → length row ≡ count
    → ((k : ℕ) → k < n → IsTokenRow net first table i (m + length rows + k) row) → AreTokens net first count table i m rows → AreTokens net first count table i m (rows ++ replicate n row)
tokens_put net first count table i m rows n row long put are = record {
  wide = λ k below. ⊎_elim
      (λ (old : k < length rows). ap (λ (r : List (Option ℕ)). length r) (get_or_append_left rows (replicate n row) [] k old) ∙ are.wide k old)
      (λ (new : length rows ≤ k). ap (λ (r : List (Option ℕ)). length r) (last k new (below_new k below new)) ∙ long)
      (cases_lt k (length rows));
  each = λ k below. ⊎_elim
      (λ (old : k < length rows). subst (λ (r : List (Option ℕ)). IsTokenRow net first table i (m + k) r) (sym (get_or_append_left rows (replicate n row) [] k old)) (are.each k old))
      (λ (new : length rows ≤ k). subst (λ (r : List (Option ℕ)). IsTokenRow net first table i (m + k) r) (sym (last k new (below_new k below new)))
      (subst (λ (p : ℕ). IsTokenRow net first table i p row) (let e : m + length rows + (k - length rows) ≡ m + k = omega arith in e) (put (k - length rows) (below_new k below new))))
      (cases_lt k (length rows));
}
  where
    below_new : (k : ℕ) → k < length (rows ++ replicate n row) → length rows ≤ k → k - length rows < n
    below_new k below new = omega (arith, length-append rows (replicate n row), length-replicate n row)

    last : (k : ℕ) → length rows ≤ k → k - length rows < n → slice_index_or (rows ++ replicate n row) k [] ≡ row
    last k new below = get_or-append_right rows (replicate n row) (length rows) k [] refl new ∙ get_or-replicate n (k - length rows) row [] below

-- ---- one more firing changes no row of a token that is there
module _ (net : Net) (laws : Lawful net) (first : ℕ → ℕ) (count : ℕ) (rows more : Table) (v : ℕ → ℕ) (a : ℕ) (new : List (Option ℕ)) (up : UpTo net first count rows v)
    (actor : a < length net.times) (can : CanFire net v a) (next : IsNextRow net first count rows a (v a) new) (is : HasRowMore rows more a new) where
  pub row_kept : (i m : ℕ) (row : List (Option ℕ)) → i < length net.channels → m < (channel_at net i).tokens + total (channel_at net i).made (v (channel_at net i).source)
      → IsTokenRow net first rows i m row → IsTokenRow net first more i m row
  row_kept i m row place made of_old = record {
    after = λ j n p e at entry. of_old.after j n p e at (back j n p e at entry);
    just = λ p e at. (let t = of_old.just p e at in (t.0, t.1, t.2, on t.0 t.1 p e t.2 t.3));
  }
    where
      back : (j n p e : ℕ) → (j ≡ i) × (n ≡ m) → HasEntry net first more j n p e → HasEntry net first rows j n p e
      back j n p e (same, at) entry =
          let mine : HasEntry net first more i m p e = subst (λ (b : ℕ). HasEntry net first more b m p e) same (subst (λ (b : ℕ). HasEntry net first more j b p e) at entry) in
          let old : HasEntry net first rows i m p e = entry_back net laws first count rows more v a new up actor can next is i m p e place made mine in
          subst (λ (b : ℕ). HasEntry net first rows b n p e) (sym same) (subst (λ (b : ℕ). HasEntry net first rows i b p e) (sym at) old)

      on : (j n p e : ℕ) → (j ≡ i) × (n ≡ m) → HasEntry net first rows j n p e → HasEntry net first more j n p e
      on j n p e (same, at) entry = entry_on net laws first count rows more v a new up actor can next is j n p e (subst (λ (b : ℕ). b < length net.channels) (sym same) place) entry

  pub tokens_kept : (i m : ℕ) (line : List (List (Option ℕ))) → i < length net.channels → m + length line ≤ (channel_at net i).tokens + total (channel_at net i).made (v (channel_at net i).source)
      → AreTokens net first count rows i m line → AreTokens net first count more i m line
  tokens_kept i m line place made are = record {
    wide = are.wide;
    each = λ k below. row_kept i (m + k) (slice_index_or line k []) place (omega arith) (are.each k below);
  }
