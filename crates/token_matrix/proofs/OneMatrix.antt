-- A scenario has one matrix.
use Rattle.std.proofs.Common.{◌≡◌, ℕ, suc, ◌+◌, ◌*◌, ◌≤◌, ◌<◌, List, [], length, Option, Some, None, refl, sym, ap, ◌∙◌, arith}
use Rattle.std.specs.Prelude.{slice_index, slice_index_or}
use Rattle.std.proofs.lemmas.List.{ext_get_or}
use Rattle.sd_base.specs.declared.tables.GraphFile.{GraphFile}
use Rattle.sd_base.specs.declared.tables.SharedRow.{SharedRow}
use Rattle.sd_base.specs.declared.limits.TheConstants.{TIME, ROUND}
use Rattle.sd_base.specs.Scenarios.{shared_count}
use Rattle.token_matrix.specs.Stamps.{AreStampsOf}
use Rattle.token_matrix.specs.Matrices.{apply_row, applied, IsMatrix}
use Rattle.token_matrix.proofs.EntriesGiveStamps.{applied-at}
use Rattle.token_matrix.proofs.SpikesReadEntries.{AreShort, at_none, at_some, length-spike, spike}

one_row : (b n : ℕ) (r s : List (Option ℕ)) → length r ≡ n → length s ≡ n → AreShort b r → AreShort b s
    → ((x : List ℕ) → length x ≡ n → apply_row r x ≡ apply_row s x) → r ≡ s
one_row b n r s long also short few same = ext_get_or None r s (long ∙ sym also) (λ i below.
    entry i (let g : i < n = omega arith in g) (slice_index_or r i None) (slice_index_or s i None) refl refl)
  where
    entry : (i : ℕ) → i < n → (o p : Option ℕ) → slice_index_or r i None ≡ o → slice_index_or s i None ≡ p → o ≡ p
    entry i below None None at at' = refl
    entry i below None (Some e) at at' = absurd (let h : apply_row r (spike i (suc b) n) ≤ b = at_none b (suc b) n i r short at in
        let g : apply_row s (spike i (suc b) n) ≡ suc b + e = at_some b (suc b) n i e s few (omega arith) below at' in
        let k : apply_row r (spike i (suc b) n) ≡ apply_row s (spike i (suc b) n) = same (spike i (suc b) n) (length-spike i (suc b) n) in let no : ⊥ = omega arith in no)
    entry i below (Some e) None at at' = absurd (let h : apply_row s (spike i (suc b) n) ≤ b = at_none b (suc b) n i s few at' in
        let g : apply_row r (spike i (suc b) n) ≡ suc b + e = at_some b (suc b) n i e r short (omega arith) below at in
        let k : apply_row r (spike i (suc b) n) ≡ apply_row s (spike i (suc b) n) = same (spike i (suc b) n) (length-spike i (suc b) n) in let no : ⊥ = omega arith in no)
    entry i below (Some e) (Some d) at at' =
        let h : apply_row s (spike i (suc b) n) ≡ suc b + d = at_some b (suc b) n i d s few (omega arith) below at' in
        let g : apply_row r (spike i (suc b) n) ≡ suc b + e = at_some b (suc b) n i e r short (omega arith) below at in
        let k : apply_row r (spike i (suc b) n) ≡ apply_row s (spike i (suc b) n) = same (spike i (suc b) n) (length-spike i (suc b) n) in
        ap (λ (m : ℕ). Some m) (let f : e ≡ d = omega arith in f)

pub one_matrix : (shared : List SharedRow) (g : GraphFile) (gamma : List ℕ) (m n : List (List (Option ℕ))) → IsMatrix shared g gamma m → IsMatrix shared g gamma n → m ≡ n
one_matrix shared g gamma m n is also = ext_get_or [] m n (is.size ∙ sym also.size) (λ j below.
    let here : j < shared_count shared = omega (arith, is.size) in
    one_row (TIME * ROUND) (shared_count shared) (slice_index_or m j []) (slice_index_or n j []) (is.square j here) (also.square j here)
    (λ k e at. is.short j k e at) (λ k e at. also.short j k e at) (λ x long. same x long j here))
  where
    same : (x : List ℕ) → length x ≡ shared_count shared → (j : ℕ) → j < shared_count shared → apply_row (slice_index_or m j []) x ≡ apply_row (slice_index_or n j []) x
    same x long j here =
        let stamps : AreStampsOf shared g gamma x (applied m x) = (is.carries x (applied m x) long).1 refl in
        let e : applied m x ≡ applied n x = (also.carries x (applied m x) long).0 stamps in
        sym (applied-at m x j (omega (arith, is.size))) ∙ ap (λ (y : List ℕ). slice_index y j) e ∙ applied-at n x j (omega (arith, also.size))
