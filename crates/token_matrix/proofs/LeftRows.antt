-- The rows of the tokens that are left after a round.
use Rattle.std.proofs.Common.{◌≡◌, ℕ, ◌+◌, ◌≤◌, ◌<◌, ◌↔◌, List, [], length, Option, Some, None, refl, sym, ap, subst, ◌∙◌, inl, inr, ⊎_elim, arith}
use Rattle.std.specs.Prelude.{slice_index, slice_index_or}
use Rattle.std.proofs.lemmas.Bool.{cases_lt}
use Rattle.sd_base.specs.Net.{Net, channel_at, total}
use Rattle.sd_base.specs.Schedules.{time_of}
use Rattle.sd_base.specs.Lawful.{Lawful}
use Rattle.sd_base.proofs.LawfulIsRegular.{balanced}
use Rattle.token_matrix.specs.Matrices.{entry_at}
use Rattle.token_matrix.specs.inside.RoundRows.{Table, row_at, HasEntry, IsRowOf}
use Rattle.token_matrix.proofs.TokensHaveProducers.{one_producer, producer}
use Rattle.token_matrix.proofs.OneRound.{Covers}
use Rattle.token_matrix.proofs.RowsGiveStarts.{AreRows}
use Rattle.token_matrix.specs.Stamps.{left_token}
use Rattle.token_matrix.proofs.RowsCarryStamps.{IsLeft}

module _ (net : Net) (first : ℕ → ℕ) (rows : Table) where
  -- a token has one entry in a column
  one_entry : (i m p e d : ℕ) → HasEntry net first rows i m p e → HasEntry net first rows i m p d → e ≡ d
  one_entry i m p e d (inl (h, at, is)) (inl (g, at', also)) = is ∙ sym also
  one_entry i m p e d (inl (h, at, is)) (inr (k, x, put, counted, entry, also)) = absurd (let low : (channel_at net i).tokens + total (channel_at net i).made k ≤ m = put.0 in let no : ⊥ = omega arith in no)
  one_entry i m p e d (inr (k, x, put, counted, entry, is)) (inl (g, at', also)) = absurd (let low : (channel_at net i).tokens + total (channel_at net i).made k ≤ m = put.0 in let no : ⊥ = omega arith in no)
  one_entry i m p e d (inr (k, x, put, counted, entry, is)) (inr (l, y, put', counted', entry', also)) =
      let same : k ≡ l = one_producer net i m k l put put' in
      let here : slice_index_or (row_at rows (channel_at net i).source l) p None ≡ Some x = subst (λ (b : ℕ). slice_index_or (row_at rows (channel_at net i).source b) p None ≡ Some x) same entry in
      let values : Some x ≡ Some y = sym here ∙ entry' in
      let value : x ≡ y = cc in
      is ∙ ap (λ (n : ℕ). n + time_of net (channel_at net i).source k) value ∙ ap (λ (n : ℕ). y + time_of net (channel_at net i).source n) same ∙ sym also

  -- the row of one token has its entries, and no others
  pub row_is : (i m : ℕ) (row : List (Option ℕ)) → IsRowOf net first rows (λ j n. (j ≡ i) × (n ≡ m)) row → (p e : ℕ) → (slice_index_or row p None ≡ Some e) ↔ HasEntry net first rows i m p e
  row_is i m row of_one p e = (there e, back)
    where
      there : (d : ℕ) → slice_index_or row p None ≡ Some d → HasEntry net first rows i m p d
      there d at = let t = of_one.just p d at in subst (λ (n : ℕ). HasEntry net first rows i n p d) t.2.1 (subst (λ (b : ℕ). HasEntry net first rows b t.1 p d) t.2.0 t.3)

      back : HasEntry net first rows i m p e → slice_index_or row p None ≡ Some e
      back entry =
          let d = of_one.after i m p e (refl, refl) entry in
          let same : d.0 ≡ e = one_entry i m p d.0 e (there d.0 d.1) entry in
          d.1 ∙ ap Some same

  -- a token that is there once the source has fired n times has an entry, where these firings' rows have one each
  pub token_entry : (i m n : ℕ) → length (slice_index_or rows (channel_at net i).source []) ≡ n
      → ((k : ℕ) → k < n → (p : ℕ) × (e : ℕ) × (slice_index_or (row_at rows (channel_at net i).source k) p None ≡ Some e))
      → m < (channel_at net i).tokens + total (channel_at net i).made n → (p : ℕ) × (e : ℕ) × HasEntry net first rows i m p e
  token_entry i m n many some below = ⊎_elim
      (λ (h : m < (channel_at net i).tokens). (first i + m, 0, inl (h, refl, refl)))
      (λ (h : (channel_at net i).tokens ≤ m).
      let k = producer net i m n h below in
      let s = some k.0 k.1 in
      (s.0, s.1 + time_of net (channel_at net i).source k.0, inr (k.0, s.1, k.2, subst (λ (x : ℕ). k.0 < x) (sym many) k.1, s.2, refl)))
      (cases_lt m (channel_at net i).tokens)

-- a row for each token that is left makes the matrix
pub is_left : (net : Net) (laws : Lawful net) (first : ℕ → ℕ) (count : ℕ) (rows : Table) (matrix : List (List (Option ℕ))) → AreRows net first count rows → Covers net first count
    → length matrix ≡ count → ((j : ℕ) → j < count → length (slice_index_or matrix j []) ≡ count)
    → ((i k : ℕ) → i < length net.channels → k < (channel_at net i).tokens → IsRowOf net first rows (λ j n. (j ≡ i) × (n ≡ left_token net i k)) (slice_index_or matrix (first i + k) []))
    → IsLeft net first count rows matrix
is_left net laws first count rows matrix are covers size square each = record {
  size = size;
  square = square;
  full = λ j below. full_at (covers j below);
  is = is_at;
}
  where
    is_at : (i k p e : ℕ) → i < length net.channels → k < (channel_at net i).tokens → (entry_at matrix (first i + k) p ≡ Some e) ↔ HasEntry net first rows i (left_token net i k) p e
    is_at i k p e place below = row_is net first rows i (left_token net i k) (slice_index_or matrix (first i + k) []) (each i k place below) p e

    full_at : {j : ℕ} → ((i : ℕ) × (k : ℕ) × (i < length net.channels) × (k < (channel_at net i).tokens) × (first i + k ≡ j)) → (p : ℕ) × (e : ℕ) × (entry_at matrix j p ≡ Some e)
    full_at (i, k, place, below, is) =
        let source : (channel_at net i).source < length net.times = laws.sources i place in
        let kept : total (channel_at net i).made (slice_index net.round (channel_at net i).source) ≡ total (channel_at net i).taken (slice_index net.round (channel_at net i).target) = (balanced net laws).kept i place in
        let t = token_entry net first rows i (left_token net i k) (slice_index net.round (channel_at net i).source) (are.whole (channel_at net i).source source) (λ n small. are.some (channel_at net i).source n source small) (omega arith) in
        (t.0, t.1, subst (λ (n : ℕ). entry_at matrix n t.0 ≡ Some t.1) is ((is_at i k t.0 t.1 place below).1 t.2))
