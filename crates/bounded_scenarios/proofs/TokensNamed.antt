-- The tokens of the shared row of a name are those of the channel of that name.
use Rattle.std.proofs.Common.{◌≡◌, ℕ, zero, suc, ◌≤◌, ◌<◌, Bool, true, false, Option, Some, List, [], ◌∷◌, ⊎_elim, sym, ap, ◌∙◌, refl, arith}
use Rattle.std.specs.Prelude.{slice_get, if◌then◌else◌}
use Rattle.std.specs.Str.{bytes_eq}
use Rattle.std.proofs.lemmas.Bool.{cases_lt}
use Rattle.std.proofs.lemmas.Slice.Eq.{bytes_eq-Decides}
use Rattle.sd_base.specs.declared.tables.ChannelRow.{ChannelRow}
use Rattle.sd_base.specs.declared.tables.GraphFile.{GraphFile}
use Rattle.sd_base.specs.declared.tables.SharedRow.{SharedRow}
use Rattle.sd_base.specs.Scenarios.{Shares}
use Rattle.token_matrix.proofs.NumbersCoverTokens.{RowsDiffer, later_differ, one_head}

-- the tokens of the first row of a name, if there is one
abbrev pub tokens_named : List SharedRow → List ℕ → ℕ
tokens_named [] name = 0
tokens_named (row ∷ rows) name = if bytes_eq row.name name then row.tokens else tokens_named rows name

named-there : (rows : List SharedRow) (t : ℕ) (row : SharedRow) → RowsDiffer rows → slice_get rows t ≡ Some row → tokens_named rows row.name ≡ row.tokens
named-there [] t row differ at = absurd (cc)
named-there (r ∷ rest) t row differ at = step (bytes_eq r.name row.name) refl (λ s there. named-there rest s row (later_differ r rest differ) there)
  where
    head : (s : ℕ) → slice_get (r ∷ rest) s ≡ Some row → s ≡ 0 → r ≡ row
    head zero there none = (cc)
    head (suc s) there none = absurd (cc)

    tail : (s : ℕ) → slice_get (r ∷ rest) s ≡ Some row → bytes_eq r.name row.name ≡ false → (u : ℕ) × (slice_get rest u ≡ Some row)
    tail zero there other = let e : r ≡ row = cc in let same : bytes_eq r.name row.name ≡ true = (bytes_eq-Decides r.name row.name).1 (ap (λ (x : SharedRow). x.name) e) in absurd (cc)
    tail (suc s) there other = (s, there)

    step : (b : Bool) → bytes_eq r.name row.name ≡ b → ((s : ℕ) → slice_get rest s ≡ Some row → tokens_named rest row.name ≡ row.tokens) →
        (if bytes_eq r.name row.name then r.tokens else tokens_named rest row.name) ≡ row.tokens
    step true same next = rw same (ap (λ (x : SharedRow). x.tokens) (head t at (one_head r row rest t differ at ((bytes_eq-Decides r.name row.name).0 same))))
    step false other next = let later = tail t at other in rw other (next later.0 later.1)

named-nowhere : (rows : List SharedRow) (name : List ℕ) → ((t : ℕ) (row : SharedRow) → slice_get rows t ≡ Some row → row.name ≡ name → ⊥) → tokens_named rows name ≡ 0
named-nowhere [] name none = refl
named-nowhere (r ∷ rest) name none = step (bytes_eq r.name name) refl (named-nowhere rest name (λ t row at. none (suc t) row at))
  where
    step : (b : Bool) → bytes_eq r.name name ≡ b → tokens_named rest name ≡ 0 → (if bytes_eq r.name name then r.tokens else tokens_named rest name) ≡ 0
    step true same next = absurd (none 0 r refl ((bytes_eq-Decides r.name name).0 same))
    step false other next = rw other next

module _ (shared : List SharedRow) (g : GraphFile) (shares : Shares shared g) (i : ℕ) (c : ChannelRow) (at : slice_get g.channels i ≡ Some c) where
  none-named : c.tokens ≡ 0 → (t : ℕ) (row : SharedRow) → slice_get shared t ≡ Some row → row.name ≡ c.name → ⊥
  none-named none t row there same =
      let one = shares.rows t row there in
      let places : one.0 ≡ i = shares.names_differ one.0 i one.1 c one.2 at (one.3 ∙ same) in
      let is : one.1 ≡ c = (let h : ◌≡◌ {A = Option ChannelRow} (Some one.1) (Some c) = sym one.2 ∙ (ap (λ (n : ℕ). slice_get g.channels n) places ∙ at) in (cc)) in
      let tokens : one.1.tokens ≡ c.tokens = ap (λ (x : ChannelRow). x.tokens) is in
      omega (arith, tokens, none, one.4, one.5)

  pub tokens-named : tokens_named shared c.name ≡ c.tokens
  tokens-named = ⊎_elim
      (λ (none : c.tokens < 1). let zero_here : c.tokens ≡ 0 = omega arith in named-nowhere shared c.name (none-named zero_here) ∙ sym zero_here)
      (λ (some : 1 ≤ c.tokens). let row = shares.channels i c at some in ap (λ (n : List ℕ). tokens_named shared n) (sym row.3) ∙ (named-there shared row.0 row.1 shares.rows_differ row.2 ∙ row.4))
      (cases_lt c.tokens 1)
