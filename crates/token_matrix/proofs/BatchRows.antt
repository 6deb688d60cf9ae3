-- The rows of batches.
use Rattle.std.proofs.Common.{◌≡◌, ℕ, ◌+◌, ◌-◌, ◌≤◌, ◌<◌, List, [], ◌∷◌, ◌++◌, length, take, drop, replicate, Option, sym, ap, subst, ◌∙◌, arith, append_assoc, append-nil, length-append}
use Rattle.std.specs.Prelude.{slice_index_or}
use Rattle.std.proofs.lemmas.List.{take-append-le, drop-append-le, take-replicate, drop-replicate, length-replicate, get_or_append_left, get_or-replicate, drop-drop, take_more}
use Rattle.std.proofs.Math.Seq.{take-add}
use Rattle.token_matrix.specs.declared.batch.Batch.{Batch}
use Rattle.token_matrix.specs.inside.Batches.{rows_of}
use Rattle.token_matrix.specs.inside.LaterRows.{later_row, AreWide, IsRaised}
use Rattle.token_matrix.proofs.RaisedRows.{raised_one, raised_both}

pub rows_of-push : (bs : List Batch) (b : Batch) → rows_of (bs ++ b ∷ []) ≡ rows_of bs ++ replicate b.tokens b.row.value
rows_of-push [] b = append-nil (replicate b.tokens b.row.value)
rows_of-push (c ∷ bs) b = ap (λ (r : List (List (Option ℕ))). replicate c.tokens c.row.value ++ r) (rows_of-push bs b) ∙ sym (append_assoc (replicate c.tokens c.row.value) (rows_of bs) (replicate b.tokens b.row.value))

pub rows_of-more : (bs : List Batch) (i : ℕ) (b : Batch) → i < length bs → b ≡ slice_index_or bs i b → rows_of (take (i + 1) bs) ≡ rows_of (take i bs) ++ replicate b.tokens b.row.value
rows_of-more bs i b below is = ap rows_of (take_more bs i b below ∙ ap (λ (c : Batch). take i bs ++ c ∷ []) (sym is)) ∙ rows_of-push (take i bs) b

-- ---- tokens of the first batch
module _ (b : Batch) (rest : List Batch) (old : List (List (Option ℕ))) (is : old ≡ rows_of (b ∷ rest)) where
  pub first_wide : (n : ℕ) → AreWide n old → 1 ≤ b.tokens → n ≡ length b.row.value
  first_wide n wide some =
      let first : slice_index_or old 0 [] ≡ b.row.value = ap (λ (r : List (List (Option ℕ))). slice_index_or r 0 []) is ∙ get_or_append_left (replicate b.tokens b.row.value) (rows_of rest) [] 0 (omega (arith, length-replicate b.tokens b.row.value)) ∙ get_or-replicate b.tokens 0 b.row.value [] some in
      let many : length old ≡ b.tokens + length (rows_of rest) = ap (λ (r : List (List (Option ℕ))). length r) is ∙ omega (arith, length-append (replicate b.tokens b.row.value) (rows_of rest), length-replicate b.tokens b.row.value) in
      sym (wide 0 (omega arith)) ∙ ap (λ (r : List (Option ℕ)). length r) first

  first_rows : (t : ℕ) → t ≤ b.tokens → take t old ≡ replicate t b.row.value
  first_rows t few = ap (λ (r : List (List (Option ℕ))). take t r) is ∙ take-append-le t (replicate b.tokens b.row.value) (rows_of rest) (omega (arith, length-replicate b.tokens b.row.value)) ∙ take-replicate t b.tokens b.row.value few

  pub whole_raised : (tokens : ℕ) (a new : List (Option ℕ)) → 1 ≤ b.tokens → b.tokens ≤ tokens → AreWide (length a) old → new ≡ later_row a b.row.value → IsRaised (take (tokens - (tokens - b.tokens)) old) a new
  whole_raised tokens a new some few wide later =
      let all : tokens - (tokens - b.tokens) ≡ b.tokens = omega arith in
      rw all (rw (first_rows b.tokens (omega arith)) (rw later (raised_one b.tokens b.row.value a some (first_wide (length a) wide some))))

  pub part_raised : (tokens : ℕ) (a new : List (Option ℕ)) → 1 ≤ tokens → tokens < b.tokens → AreWide (length a) old → new ≡ later_row a b.row.value → IsRaised (take (tokens - 0) old) a new
  part_raised tokens a new some few wide later =
      let all : tokens - 0 ≡ tokens = omega arith in
      rw all (rw (first_rows tokens (omega arith)) (rw later (raised_one tokens b.row.value a some (first_wide (length a) wide (omega arith)))))

  pub part_left : (tokens : ℕ) (new : List (List (Option ℕ))) → tokens < b.tokens → new ≡ replicate (b.tokens - tokens) b.row.value ++ rows_of rest → new ≡ drop (tokens - 0) old
  part_left tokens new few left =
      let all : tokens - 0 ≡ tokens = omega arith in
      left ∙ sym (ap (λ (n : ℕ). drop n old) all ∙ ap (λ (r : List (List (Option ℕ))). drop tokens r) is ∙ drop-append-le tokens (replicate b.tokens b.row.value) (rows_of rest) (omega (arith, length-replicate b.tokens b.row.value))
      ∙ ap (λ (r : List (List (Option ℕ))). r ++ rows_of rest) (drop-replicate tokens b.tokens b.row.value))

-- tokens after tokens
pub taken_more : (old now new : List (List (Option ℕ))) (a b c : List (Option ℕ)) (t s : ℕ) → now ≡ drop t old → IsRaised (take t old) a b → new ≡ drop s now → IsRaised (take s now) b c → (new ≡ drop (t + s) old) × IsRaised (take (t + s) old) a c
taken_more old now new a b c t s rest first left second = (
  left ∙ ap (λ (r : List (List (Option ℕ))). drop s r) rest ∙ drop-drop s t old,
  subst (λ (r : List (List (Option ℕ))). IsRaised r a c) (ap (λ (r : List (List (Option ℕ))). take t old ++ take s r) rest ∙ sym (take-add t s old)) (raised_both (take t old) (take s now) a b c first second),
)
