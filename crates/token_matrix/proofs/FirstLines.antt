-- The shared tokens before a round.
use Rattle.std.proofs.Common.{◌≡◌, ℕ, ◌+◌, ◌-◌, ◌≤◌, ◌<◌, List, [], ◌∷◌, ◌++◌, length, replicate, Option, sym, ap, subst, ◌∙◌, ⊎_elim, arith}
use Rattle.std.specs.Prelude.{slice_index_or}
use Rattle.std.proofs.lemmas.Bool.{cases_lt}
use Rattle.std.proofs.lemmas.List.{get_or_append_left, get_or_push, length_push}
use Rattle.sd_base.specs.declared.tables.GraphFile.{GraphFile}
use Rattle.sd_base.specs.declared.tables.ChannelRow.{ChannelRow}
use Rattle.sd_base.specs.declared.tables.SharedRow.{SharedRow}
use Rattle.sd_base.specs.Scenarios.{shared_count, Shares}
use Rattle.token_matrix.specs.Stamps.{no_row, first_token, first_of}
use Rattle.token_matrix.specs.inside.LaterRows.{IsUnit}
use Rattle.token_matrix.specs.inside.Tokens.{IsFirstLine}
use Rattle.token_matrix.proofs.NumbersCoverTokens.{number_inside}

-- one token more
pub line_more : (size first n : ℕ) (line more : List (List (Option ℕ))) (row : List (Option ℕ)) → IsFirstLine size first n line → IsUnit size (first + n) row → more ≡ line ++ replicate 1 row → IsFirstLine size first (n + 1) more
line_more size first n line more row so_far unit push = subst (IsFirstLine size first (n + 1)) (sym push) (record {
  long = length_push line row ∙ omega (arith, so_far.long);
  each = λ k below. ⊎_elim
      (λ (old : k < n). subst (IsUnit size (first + k)) (sym (get_or_append_left line (row ∷ []) [] k (omega (arith, so_far.long)))) (so_far.each k old))
      (λ (last : n ≤ k). let same : n ≡ k = omega arith in
      subst (IsUnit size (first + k)) (sym (get_or_push line row [] k (so_far.long ∙ same))) (subst (λ (m : ℕ). IsUnit size (first + m) row) same unit))
      (cases_lt k n);
})

-- a channel's tokens are numbered below the count
pub inside_count : (shared : List SharedRow) (g : GraphFile) (i size : ℕ) (c : ChannelRow) → Shares shared g → size ≡ shared_count shared → i < length g.channels → c ≡ slice_index_or g.channels i c → 1 ≤ c.tokens → first_token shared c.name + c.tokens ≤ size
inside_count shared g i size c shares whole place is some =
    let here : slice_index_or g.channels i no_row ≡ c = sym (is ∙ Rattle.std.proofs.lemmas.List.get_or_default g.channels i c no_row place) in
    let last : first_of shared g i + (c.tokens - 1) < shared_count shared = number_inside shared g shares i (c.tokens - 1) place (let e : (slice_index_or g.channels i no_row).tokens ≡ c.tokens = ap (λ (r : ChannelRow). r.tokens) here in omega arith) in
    let first : first_of shared g i ≡ first_token shared c.name = ap (λ (r : ChannelRow). first_token shared r.name) here in
    omega arith
