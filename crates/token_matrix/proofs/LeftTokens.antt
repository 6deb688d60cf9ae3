-- The rows of the tokens that are left, one shared channel after another.
use Rattle.std.proofs.Common.{◌≡◌, ℕ, zero, suc, ◌+◌, ◌-◌, ◌≤◌, ◌<◌, true, List, [], ◌∷◌, ◌++◌, length, take, Option, Some, refl, sym, ap, subst, ◌∙◌, inl, inr, ⊎_elim, arith, length-append, bytes_eq}
use Rattle.std.specs.Prelude.{slice_get, slice_index_or}
use Rattle.std.proofs.lemmas.Bool.{cases_lt, cases_Bool}
use Rattle.std.proofs.lemmas.List.{get_or_append_left, get_or-append_right, take_more}
use Rattle.std.proofs.lemmas.Option.{slice_get-get_or, slice_get_within, get_or_from_slice_get}
use Rattle.std.proofs.lemmas.Slice.Eq.{bytes_eq-Decides}
use Rattle.sd_base.specs.declared.tables.GraphFile.{GraphFile}
use Rattle.sd_base.specs.declared.tables.ChannelRow.{ChannelRow}
use Rattle.sd_base.specs.declared.tables.SharedRow.{SharedRow}
use Rattle.sd_base.specs.Scenarios.{shared_count, Shares}
use Rattle.token_matrix.specs.Stamps.{no_row, first_token, first_of}
use Rattle.token_matrix.specs.inside.Tokens.{IsNumberOf, AreHeld, AreLeftRows}
use Rattle.token_matrix.proofs.NumbersCoverTokens.{RowsDiffer, later_differ, one_head}

-- the rows of the channels of the first n shared rows
pub record LeftSoFar (shared : List SharedRow) (g : GraphFile) (lines : List (List (List (Option ℕ)))) (rows : List (List (Option ℕ))) (n : ℕ) : Type 0 where
  pub long : length rows ≡ shared_count (take n shared)
  pub each : (s i k : ℕ) (row : SharedRow) → s < n → slice_get shared s ≡ Some row → i < length g.channels → (slice_index_or g.channels i no_row).name ≡ row.name → k < row.tokens
      → slice_index_or rows (shared_count (take s shared) + k) [] ≡ slice_index_or (slice_index_or lines i []) k []

pub count-append : (xs ys : List SharedRow) → shared_count (xs ++ ys) ≡ shared_count xs + shared_count ys
count-append [] ys = omega arith
count-append (x ∷ xs) ys = omega (arith, count-append xs ys)

count-more : (shared : List SharedRow) (s : ℕ) (row : SharedRow) → s < length shared → slice_index_or shared s row ≡ row → shared_count (take (s + 1) shared) ≡ shared_count (take s shared) + row.tokens
count-more shared s row below at =
    ap shared_count (take_more shared s row below) ∙ count-append (take s shared) (slice_index_or shared s row ∷ []) ∙ ap (λ (r : SharedRow). shared_count (take s shared) + (r.tokens + 0)) at ∙ omega arith

-- the rows before a place have no more tokens than those before a later one
count-le : (shared : List SharedRow) (s t : ℕ) → s ≤ t → shared_count (take s shared) ≤ shared_count (take t shared)
count-le shared zero t below = omega arith
count-le [] (suc s) zero below = omega arith
count-le [] (suc s) (suc t) below = omega arith
count-le (r ∷ shared) (suc s) zero below = absurd (omega arith)
count-le (r ∷ shared) (suc s) (suc t) below = omega (arith, count-le shared s t (omega arith))

-- the first token of a row's name comes after those of the rows before it
first-at : (shared : List SharedRow) (s : ℕ) (row : SharedRow) → RowsDiffer shared → slice_get shared s ≡ Some row → first_token shared row.name ≡ shared_count (take s shared)
first-at [] s row differ at = absurd (cc)
first-at (r ∷ shared) zero row differ at = let e : r ≡ row = cc in let same : bytes_eq r.name row.name ≡ true = (bytes_eq-Decides r.name row.name).1 (ap (λ (x : SharedRow). x.name) e) in rw same refl
first-at (r ∷ shared) (suc s) row differ at = elim (cases_Bool (bytes_eq r.name row.name)) [
  | inl same ↦ (let e : suc s ≡ 0 = one_head r row shared (suc s) differ at ((bytes_eq-Decides r.name row.name).0 same) in absurd (omega arith))
  | inr other ↦ rw other (ap (λ (n : ℕ). r.tokens + n) (first-at shared s row (later_differ r shared differ) at))
]

pub left_none : (shared : List SharedRow) (g : GraphFile) (lines : List (List (List (Option ℕ)))) → LeftSoFar shared g lines [] 0
left_none shared g lines = record { long = refl; each = λ s i k row below. absurd (omega arith) }

module _ (shared : List SharedRow) (g : GraphFile) (shares : Shares shared g) (lines : List (List (List (Option ℕ)))) (held : AreHeld g lines) where
  -- a shared row has one channel, with as many tokens
  pub some_channel : (s : ℕ) (row : SharedRow) → slice_get shared s ≡ Some row → (i : ℕ) × IsNumberOf g row.name i
  some_channel s row at = let c = shares.rows s row at in (c.0, (slice_get_within g.channels c.0 c.1 c.2, ap (λ (r : ChannelRow). r.name) (get_or_from_slice_get g.channels c.0 c.1 no_row c.2) ∙ c.3))

  one_channel : (i j : ℕ) (name : List ℕ) → IsNumberOf g name i → IsNumberOf g name j → i ≡ j
  one_channel i j name (here, is) (there, also) = shares.names_differ i j (slice_index_or g.channels i no_row) (slice_index_or g.channels j no_row) (slice_get-get_or g.channels i no_row here) (slice_get-get_or g.channels j no_row there) (is ∙ sym also)

  tokens-of : (s i : ℕ) (row : SharedRow) → slice_get shared s ≡ Some row → IsNumberOf g row.name i → length (slice_index_or lines i []) ≡ row.tokens
  tokens-of s i row at named =
      let c = shares.rows s row at in
      let here : slice_index_or g.channels c.0 no_row ≡ c.1 = get_or_from_slice_get g.channels c.0 c.1 no_row c.2 in
      let same : c.0 ≡ i = one_channel c.0 i row.name (slice_get_within g.channels c.0 c.1 c.2, ap (λ (r : ChannelRow). r.name) here ∙ c.3) named in
      held i named.0 ∙ ap (λ (j : ℕ). (slice_index_or g.channels j no_row).tokens) (sym same) ∙ ap (λ (r : ChannelRow). r.tokens) here ∙ c.4

  pub left_more : (n i : ℕ) (row : SharedRow) (rows more : List (List (Option ℕ))) → LeftSoFar shared g lines rows n → slice_get shared n ≡ Some row → IsNumberOf g row.name i → more ≡ rows ++ slice_index_or lines i []
      → LeftSoFar shared g lines more (n + 1)
  left_more n i row rows more so_far at named push = subst (λ (r : List (List (Option ℕ))). LeftSoFar shared g lines r (n + 1)) (sym push) (record {
    long = (let e : length (rows ++ slice_index_or lines i []) ≡ shared_count (take n shared) + row.tokens = omega (arith, length-append rows (slice_index_or lines i []), so_far.long, tokens-of n i row at named) in e ∙ sym counted);
    each = λ s j k r below there place is few. ⊎_elim
        (λ (old : s < n).
        let before : shared_count (take s shared) + k < length rows = omega (arith, so_far.long, count-le shared (s + 1) n (omega arith), count-more shared s r (slice_get_within shared s r there) (get_or_from_slice_get shared s r r there)) in
        get_or_append_left rows (slice_index_or lines i []) [] (shared_count (take s shared) + k) before ∙ so_far.each s j k r old there place is few)
        (λ (last : n ≤ s).
        let same : n ≡ s = omega arith in
        let one : row ≡ r = (let e : Some row ≡ Some r = sym at ∙ ap (λ (m : ℕ). slice_get shared m) same ∙ there in cc) in
        let channel : i ≡ j = one_channel i j row.name named (place, is ∙ ap (λ (x : SharedRow). x.name) (sym one)) in
        let off : shared_count (take s shared) ≡ length rows = ap (λ (m : ℕ). shared_count (take m shared)) (sym same) ∙ sym so_far.long in
        ap (λ (m : ℕ). slice_index_or (rows ++ slice_index_or lines i []) (m + k) []) off
        ∙ get_or-append_right rows (slice_index_or lines i []) (length rows) (length rows + k) [] refl (omega arith)
        ∙ ap (λ (m : ℕ). slice_index_or (slice_index_or lines i []) m []) (let e : length rows + k - length rows ≡ k = omega arith in e)
        ∙ ap (λ (m : ℕ). slice_index_or (slice_index_or lines m []) k []) channel)
        (cases_lt s n);
  })
    where
      counted : shared_count (take (n + 1) shared) ≡ shared_count (take n shared) + row.tokens
      counted = count-more shared n row (slice_get_within shared n row at) (get_or_from_slice_get shared n row row at)

  pub left_all : (n : ℕ) (rows : List (List (Option ℕ))) → length shared ≤ n → LeftSoFar shared g lines rows n → AreLeftRows shared g lines rows
  left_all n rows whole so_far = record {
    long = so_far.long ∙ ap shared_count (Rattle.std.proofs.lemmas.List.take_all n shared whole);
    each = λ i k place few. found i k place few (shares.channels i (slice_index_or g.channels i no_row) (slice_get-get_or g.channels i no_row place) (omega arith));
  }
    where
      found : (i k : ℕ) → i < length g.channels → k < (slice_index_or g.channels i no_row).tokens
          → ((s : ℕ) × (row : SharedRow) × (slice_get shared s ≡ Some row) × (row.name ≡ (slice_index_or g.channels i no_row).name) × (row.tokens ≡ (slice_index_or g.channels i no_row).tokens))
          → slice_index_or rows (first_of shared g i + k) [] ≡ slice_index_or (slice_index_or lines i []) k []
      found i k place few (s, row, at, named, tokens) =
          let first : first_of shared g i ≡ shared_count (take s shared) = ap (λ (n : List ℕ). first_token shared n) (sym named) ∙ first-at shared s row shares.rows_differ at in
          ap (λ (m : ℕ). slice_index_or rows (m + k) []) first
          ∙ so_far.each s i k row (let h : s < length shared = slice_get_within shared s row at in omega arith) at place (sym named) (subst (λ (m : ℕ). k < m) (sym tokens) few)
