-- The row of several tokens: the latest of their rows.
use Rattle.std.proofs.Common.{◌≡◌, ℕ, zero, suc, ◌+◌, ◌≤◌, ◌<◌, ◌↔◌, List, [], ◌∷◌, length, Option, Some, None, refl, sym, ap, subst, ◌∙◌, inl, inr, arith}
use Rattle.std.specs.Prelude.{slice_index_or}
use Rattle.sd_base.specs.Net.{Net, channel_at, total}
use Rattle.sd_base.specs.Schedules.{time_of}
use Rattle.token_matrix.specs.inside.LaterRows.{shifted}
use Rattle.token_matrix.specs.Stamps.{IsTakenBy, IsPutBy}
use Rattle.token_matrix.specs.inside.RoundRows.{Table, row_at, HasEntry, IsRowOf}
use Rattle.token_matrix.proofs.TokensHaveProducers.{one_producer}
use Rattle.token_matrix.proofs.RowsSoFar.{IsNextRow}

-- ---- later rows

pub shifted-at : (t : ℕ) (row : List (Option ℕ)) (p d : ℕ) → slice_index_or row p None ≡ Some d → slice_index_or (shifted t row) p None ≡ Some (d + t)
shifted-at t [] p d at = absurd (cc)
shifted-at t (None ∷ row) zero d at = absurd (cc)
shifted-at t (Some x ∷ row) zero d at = let e : x ≡ d = cc in ap (λ (n : ℕ). Some (n + t)) e
shifted-at t (x ∷ row) (suc p) d at = shifted-at t row p d at

pub shifted-from : (t : ℕ) (row : List (Option ℕ)) (p e : ℕ) → slice_index_or (shifted t row) p None ≡ Some e → (d : ℕ) × (slice_index_or row p None ≡ Some d) × (e ≡ d + t)
shifted-from t [] p e at = absurd (cc)
shifted-from t (None ∷ row) zero e at = absurd (cc)
shifted-from t (Some x ∷ row) zero e at = (x, refl, (let h : x + t ≡ e = cc in sym h))
shifted-from t (x ∷ row) (suc p) e at = shifted-from t row p e at

-- ---- the row of tokens

module _ (net : Net) (first : ℕ → ℕ) (rows : Table) where
  pub row_same : (P Q : ℕ → ℕ → Type 0) (row : List (Option ℕ)) → ((i m : ℕ) → P i m ↔ Q i m) → IsRowOf net first rows P row → IsRowOf net first rows Q row
  row_same P Q row iff of_p = record {
    after = λ i m p e holds entry. of_p.after i m p e ((iff i m).1 holds) entry;
    just = λ p e at. (let t = of_p.just p e at in (t.0, t.1, (iff t.0 t.1).0 t.2, t.3));
  }

  -- an initial token has the entry 0 in its own column alone
  pub row_initial : (i m : ℕ) (row : List (Option ℕ)) → m < (channel_at net i).tokens → slice_index_or row (first i + m) None ≡ Some 0
      → ((p e : ℕ) → slice_index_or row p None ≡ Some e → (p ≡ first i + m) × (e ≡ 0)) → IsRowOf net first rows (λ j n. (j ≡ i) × (n ≡ m)) row
  row_initial i m row initial here alone = record {
    after = λ j n p e holds entry. found p e (subst (λ (b : ℕ). HasEntry net first rows b m p e) holds.0 (subst (λ (b : ℕ). HasEntry net first rows j b p e) holds.1 entry));
    just = λ p e at. (i, m, (refl, refl), inl (initial, (alone p e at).0, (alone p e at).1));
  }
    where
      found : (p e : ℕ) → HasEntry net first rows i m p e → (d : ℕ) × (slice_index_or row p None ≡ Some d) × (e ≤ d)
      found p e (inl (low, at, none)) = (0, ap (λ (q : ℕ). slice_index_or row q None) at ∙ here, (let h : e ≤ 0 = omega (arith, none) in h))
      found p e (inr (k, d, put, counted, entry, is)) = absurd (let low : (channel_at net i).tokens + total (channel_at net i).made k ≤ m = put.0 in let no : ⊥ = omega arith in no)

  -- all tokens that one firing has put have its row, later by its time
  pub row_put : (T : ℕ → Type 0) (i k m : ℕ) → IsPutBy (channel_at net i) m k → T m → k < length (slice_index_or rows (channel_at net i).source [])
      → IsRowOf net first rows (λ j n. (j ≡ i) × IsPutBy (channel_at net i) n k × T n) (shifted (time_of net (channel_at net i).source k) (row_at rows (channel_at net i).source k))
  row_put T i k m put holds counted = record {
    after = λ j n p e is entry. found n p e is.1 (subst (λ (b : ℕ). HasEntry net first rows b n p e) is.0 entry);
    just = λ p e at. (let d = shifted-from (time_of net (channel_at net i).source k) (row_at rows (channel_at net i).source k) p e at in (i, m, (refl, put, holds), inr (k, d.0, put, counted, d.1, d.2)));
  }
    where
      found : (n p e : ℕ) → IsPutBy (channel_at net i) n k → HasEntry net first rows i n p e
          → (d : ℕ) × (slice_index_or (shifted (time_of net (channel_at net i).source k) (row_at rows (channel_at net i).source k)) p None ≡ Some d) × (e ≤ d)
      found n p e mine (inl (initial, at, none)) = absurd (let low : (channel_at net i).tokens + total (channel_at net i).made k ≤ n = mine.0 in let no : ⊥ = omega arith in no)
      found n p e mine (inr (l, d, other, counted', entry, is)) =
          let same : l ≡ k = one_producer net i n l k other mine in
          let here : slice_index_or (row_at rows (channel_at net i).source k) p None ≡ Some d = subst (λ (b : ℕ). slice_index_or (row_at rows (channel_at net i).source b) p None ≡ Some d) same entry in
          let time : time_of net (channel_at net i).source l ≡ time_of net (channel_at net i).source k = ap (λ (b : ℕ). time_of net (channel_at net i).source b) same in
          (d + time_of net (channel_at net i).source k, shifted-at (time_of net (channel_at net i).source k) (row_at rows (channel_at net i).source k) p d here, (let le : e ≤ d + time_of net (channel_at net i).source k = omega (arith, is) in le))

  -- the row of all tokens that a firing takes is that of the firing
  pub next_row : (count a j : ℕ) (row : List (Option ℕ)) → length row ≡ count → ((p : ℕ) × (e : ℕ) × (slice_index_or row p None ≡ Some e))
      → IsRowOf net first rows (λ i m. (i < length net.channels) × ((channel_at net i).target ≡ a) × IsTakenBy (channel_at net i) m j) row → IsNextRow net first count rows a j row
  next_row count a j row long some of_all = record {
    wide = long;
    some = some;
    after = λ i m p e place into takes entry. of_all.after i m p e (place, into, takes) entry;
    just = λ p e at. (let t = of_all.just p e at in (t.0, t.1, t.2.0, t.2.1, t.2.2, t.3));
  }
