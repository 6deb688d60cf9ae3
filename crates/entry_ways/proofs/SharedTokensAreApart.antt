-- Each shared token is one of one channel alone.
use Rattle.std.proofs.Common.{◌≡◌, ℕ, zero, suc, ◌+◌, ◌<◌, Bool, true, false, List, [], ◌∷◌, length, Some, refl, sym, ap, ◌∙◌, arith, bytes_eq}
use Rattle.std.specs.Prelude.{slice_get, slice_index_or}
use Rattle.std.proofs.lemmas.Option.{slice_get-get_or}
use Rattle.std.proofs.lemmas.Slice.Eq.{bytes_eq-Decides}
use Rattle.sd_base.specs.declared.tables.GraphFile.{GraphFile}
use Rattle.sd_base.specs.declared.tables.ChannelRow.{ChannelRow}
use Rattle.sd_base.specs.declared.tables.SharedRow.{SharedRow}
use Rattle.sd_base.specs.Scenarios.{Shares}
use Rattle.token_matrix.specs.Stamps.{first_token, first_of, no_row}
use Rattle.token_matrix.proofs.NumbersCoverTokens.{RowsDiffer, later_differ, one_head}

-- token m of one row and token n of another one have different numbers, where no two rows have one name
row-apart : (shared : List SharedRow) (s t m n : ℕ) (row other : SharedRow) → RowsDiffer shared → slice_get shared s ≡ Some row → slice_get shared t ≡ Some other → m < row.tokens
    → n < other.tokens
    → first_token shared row.name + m ≡ first_token shared other.name + n → row.name ≡ other.name
row-apart [] s t m n row other differ at there few less same = absurd (cc)
row-apart (r ∷ rest) s t m n row other differ at there few less same =
    step (λ k l here also alike. row-apart rest k l m n row other (later_differ r rest differ) here also few less alike) s t at there (bytes_eq r.name row.name)
    (bytes_eq r.name other.name) refl refl
  where
    -- the row of a name that is the head's
    head : (k : ℕ) (x : SharedRow) → slice_get (r ∷ rest) k ≡ Some x → bytes_eq r.name x.name ≡ true → r ≡ x
    head k x here is = at-none k here (one_head r x rest k differ here ((bytes_eq-Decides r.name x.name).0 is))
      where
        at-none : (k : ℕ) → slice_get (r ∷ rest) k ≡ Some x → k ≡ 0 → r ≡ x
        at-none zero here none = cc
        at-none (suc k) here none = absurd (cc)

    -- a row of another name stands behind
    behind : (k : ℕ) (x : SharedRow) → slice_get (r ∷ rest) k ≡ Some x → bytes_eq r.name x.name ≡ false → (l : ℕ) × (slice_get rest l ≡ Some x)
    behind zero x here off = absurd (let e : r ≡ x = cc in let is : bytes_eq r.name x.name ≡ true = (bytes_eq-Decides r.name x.name).1 (ap (λ (y : SharedRow). y.name) e) in (cc))
    behind (suc k) x here off = (k, here)

    step : ((k l : ℕ) → slice_get rest k ≡ Some row → slice_get rest l ≡ Some other → first_token rest row.name + m ≡ first_token rest other.name + n → row.name ≡ other.name)
        → (s t : ℕ) → slice_get (r ∷ rest) s ≡ Some row → slice_get (r ∷ rest) t ≡ Some other → (b d : Bool) → bytes_eq r.name row.name ≡ b → bytes_eq r.name other.name ≡ d
        → row.name ≡ other.name
    step next s t at there true true one two = sym ((bytes_eq-Decides r.name row.name).0 one) ∙ (bytes_eq-Decides r.name other.name).0 two
    step next s t at there true false one two = absurd (
        let few' : m < r.tokens = (let e : r ≡ row = head s row at one in rw e few) in
        let f : first_token (r ∷ rest) row.name ≡ 0 = rw one refl in
        let g : first_token (r ∷ rest) other.name ≡ r.tokens + first_token rest other.name = rw two refl in
        let no : ⊥ = omega (arith, same) in no)
    step next s t at there false true one two = absurd (
        let less' : n < r.tokens = (let e : r ≡ other = head t other there two in rw e less) in
        let f : first_token (r ∷ rest) row.name ≡ r.tokens + first_token rest row.name = rw one refl in
        let g : first_token (r ∷ rest) other.name ≡ 0 = rw two refl in
        let no : ⊥ = omega (arith, same) in no)
    step next s t at there false false one two =
        let a = behind s row at one in
        let b = behind t other there two in
        let f : first_token (r ∷ rest) row.name ≡ r.tokens + first_token rest row.name = rw one refl in
        let g : first_token (r ∷ rest) other.name ≡ r.tokens + first_token rest other.name = rw two refl in
        next a.0 b.0 a.1 b.1 (omega (arith, same))

-- of a graph that shares them: channels with tokens of one number are one
pub channels-apart : (shared : List SharedRow) (g : GraphFile) → Shares shared g → (i j m n : ℕ) → i < length g.channels → j < length g.channels
    → m < (slice_index_or g.channels i no_row).tokens → n < (slice_index_or g.channels j no_row).tokens → first_of shared g i + m ≡ first_of shared g j + n → i ≡ j
channels-apart shared g shares i j m n here there few less same =
    let c : ChannelRow = slice_index_or g.channels i no_row in
    let d : ChannelRow = slice_index_or g.channels j no_row in
    let at_c : slice_get g.channels i ≡ Some c = slice_get-get_or g.channels i no_row here in
    let at_d : slice_get g.channels j ≡ Some d = slice_get-get_or g.channels j no_row there in
    let x = shares.channels i c at_c (omega arith) in
    let y = shares.channels j d at_d (omega arith) in
    let alike : first_token shared x.1.name + m ≡ first_token shared y.1.name + n =
    ap (λ (l : List ℕ). first_token shared l + m) x.3 ∙ same ∙ ap (λ (l : List ℕ). first_token shared l + n) (sym y.3) in
    let named : x.1.name ≡ y.1.name = row-apart shared x.0 y.0 m n x.1 y.1 shares.rows_differ x.2 y.2 (omega (arith, x.4)) (omega (arith, y.4)) alike in
    shares.names_differ i j c d at_c at_d (sym x.3 ∙ named ∙ y.3)
