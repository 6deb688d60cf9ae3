-- The rows of the tokens that are left carry all stamps through a round.
use Rattle.std.proofs.Common.{◌≡◌, ℕ, ◌+◌, ◌≤◌, ◌<◌, ◌↔◌, List, [], length, Option, Some, sym, subst, ◌∙◌, inl, inr, arith}
use Rattle.std.specs.Prelude.{slice_index, slice_index_or}
use Rattle.std.proofs.lemmas.List.{length-map}
use Rattle.sd_base.specs.Net.{Net, channel_at}
use Rattle.sd_base.specs.Lawful.{Lawful}
use Rattle.sd_base.specs.Untimed.{IsRoundOrder}
use Rattle.token_matrix.specs.Stamps.{HasStamp, AreStamps, left_token}
use Rattle.token_matrix.specs.Matrices.{apply_row, applied, entry_at}
use Rattle.token_matrix.specs.inside.RoundRows.{Table, HasEntry}
use Rattle.token_matrix.proofs.EntriesGiveStamps.{row-least, row-gives, Gives, applied-at}
use Rattle.token_matrix.proofs.RowsGiveStarts.{AreRows, starts_by, are_starts, stamp_entry, entry_stamp}
use Rattle.token_matrix.proofs.OneRound.{Covers, one_stamps}

-- the matrix has for each shared token the row of the token that is left in its place
pub record IsLeft (net : Net) (first : ℕ → ℕ) (count : ℕ) (rows : Table) (matrix : List (List (Option ℕ))) : Type 0 where
  pub size : length matrix ≡ count
  pub square : (j : ℕ) → j < count → length (slice_index_or matrix j []) ≡ count
  pub full : (j : ℕ) → j < count → (p : ℕ) × (e : ℕ) × (entry_at matrix j p ≡ Some e)
  pub is : (i k p e : ℕ) → i < length net.channels → k < (channel_at net i).tokens → (entry_at matrix (first i + k) p ≡ Some e) ↔ HasEntry net first rows i (left_token net i k) p e

module _ (net : Net) (laws : Lawful net) (first : ℕ → ℕ) (count : ℕ) (rows : Table) (matrix : List (List (Option ℕ))) (are : AreRows net first count rows)
    (left : IsLeft net first count rows matrix) (inside : (i m : ℕ) → i < length net.channels → m < (channel_at net i).tokens → first i + m < count) where
  pub stamps_of : (x : List ℕ) → length x ≡ count → AreStamps net first count x (applied matrix x)
  stamps_of x long = record {
    before = long;
    after = length-map matrix (λ (r : List (Option ℕ)). apply_row r x) ∙ left.size;
    starts = starts_by rows x;
    round = are_starts net laws first count rows are inside x long;
    left = stays;
  }
    where
      stays : (i k : ℕ) → i < length net.channels → k < (channel_at net i).tokens → HasStamp net first x (starts_by rows x) i (left_token net i k) (slice_index (applied matrix x) (first i + k))
      stays i k place below =
          let here : first i + k < count = inside i k place below in
          let square : length (slice_index_or matrix (first i + k) []) ≡ count = left.square (first i + k) here in
          let f = left.full (first i + k) here in
          let g : Gives (slice_index_or matrix (first i + k) []) x = elim (row-gives (slice_index_or matrix (first i + k) []) x (square ∙ sym long)) [ inl g ↦ g | inr (free, none) ↦ absurd (free f.0 f.1 f.2) ] in
          let z = entry_stamp net laws first count rows are inside x long i (left_token net i k) g.i g.e place g.within ((left.is i k g.i g.e place below).0 g.entry) in
          let s = stamp_entry net laws first count rows are inside x long i (left_token net i k) z.0 place z.1 in
          let least : slice_index x s.0 + s.1 ≤ apply_row (slice_index_or matrix (first i + k) []) x = row-least (slice_index_or matrix (first i + k) []) x s.0 s.1 ((left.is i k s.0 s.1 place below).1 s.3) s.2 in
          let at : slice_index (applied matrix x) (first i + k) ≡ apply_row (slice_index_or matrix (first i + k) []) x = applied-at matrix x (first i + k) (omega (arith, left.size)) in
          let given : slice_index x g.i + g.e ≡ apply_row (slice_index_or matrix (first i + k) []) x = g.is in
          let low : slice_index x g.i + g.e ≤ z.0 = z.2 in
          let is : slice_index x s.0 + s.1 ≡ z.0 = s.4 in
          subst (λ (n : ℕ). HasStamp net first x (starts_by rows x) i (left_token net i k) n) (let e : z.0 ≡ slice_index (applied matrix x) (first i + k) = omega arith in e) z.1

  pub carries : (order : List ℕ) → IsRoundOrder net order → Covers net first count → (x y : List ℕ) → length x ≡ count → AreStamps net first count x y ↔ (y ≡ applied matrix x)
  carries order round covers x y long = (
    (λ are_y. one_stamps net laws first x count order round covers y (applied matrix x) are_y (stamps_of x long)),
    (λ is. subst (λ (z : List ℕ). AreStamps net first count x z) (sym is) (stamps_of x long)),
  )
