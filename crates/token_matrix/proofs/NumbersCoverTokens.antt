-- The numbers of the shared tokens are those below their count.
use Rattle.std.proofs.Common.{◌≡◌, ℕ, zero, suc, ◌+◌, ◌-◌, ◌≤◌, ◌<◌, Bool, true, false, List, [], ◌∷◌, length, drop, Some, refl, sym, ap, subst, ◌∙◌, inl, inr, arith, bytes_eq}
use Rattle.std.specs.Prelude.{slice_get, slice_index_or}
use Rattle.std.proofs.lemmas.Bool.{cases_lt, cases_Bool}
use Rattle.std.proofs.lemmas.List.{at_drop_more}
use Rattle.std.proofs.lemmas.Option.{slice_get_within, get_or_from_slice_get, slice_get-get_or}
use Rattle.std.proofs.lemmas.Slice.Eq.{bytes_eq-Decides}
use Rattle.sd_base.specs.declared.tables.GraphFile.{GraphFile}
use Rattle.sd_base.specs.declared.tables.ChannelRow.{ChannelRow}
use Rattle.sd_base.specs.declared.tables.SharedRow.{SharedRow}
use Rattle.token_matrix.specs.Stamps.{first_token, no_row, first_of}
use Rattle.sd_base.specs.Scenarios.{shared_count, Shares}

-- no two rows have one name
abbrev pub RowsDiffer : List SharedRow → Type 0
RowsDiffer shared = (s t : ℕ) (x y : SharedRow) → slice_get shared s ≡ Some x → slice_get shared t ≡ Some y → x.name ≡ y.name → s ≡ t

pub later_differ : (r : SharedRow) (rest : List SharedRow) → RowsDiffer (r ∷ rest) → RowsDiffer rest
later_differ r rest differ s t x y at there same = let e : suc s ≡ suc t = differ (suc s) (suc t) x y at there same in omega arith

pub one_head : (r row : SharedRow) (rest : List SharedRow) (s : ℕ) → RowsDiffer (r ∷ rest) → slice_get (r ∷ rest) s ≡ Some row → r.name ≡ row.name → s ≡ 0
one_head r row rest s differ at same = sym (differ 0 s r row refl at same)

-- the rows before a name's row are passed one after another
pub first_here : (shared : List SharedRow) (i : ℕ) (row : SharedRow) (name : List ℕ) → i < length shared → row ≡ slice_index_or shared i row → row.name ≡ name → first_token (drop i shared) name ≡ 0
first_here shared i row name below is named =
    at_drop_more (λ (l : List SharedRow). first_token l name) shared i row below ∙ ap (λ (r : SharedRow). first_token (r ∷ drop (i + 1) shared) name) (sym is)
    ∙ (let same : bytes_eq row.name name ≡ true = (bytes_eq-Decides row.name name).1 named in rw same refl)

pub first_on : (shared : List SharedRow) (i : ℕ) (row : SharedRow) (name : List ℕ) → i < length shared → row ≡ slice_index_or shared i row → (row.name ≡ name → ⊥) → first_token (drop i shared) name ≡ row.tokens + first_token (drop (i + 1) shared) name
first_on shared i row name below is other =
    at_drop_more (λ (l : List SharedRow). first_token l name) shared i row below ∙ ap (λ (r : SharedRow). first_token (r ∷ drop (i + 1) shared) name) (sym is)
    ∙ elim (cases_Bool (bytes_eq row.name name)) [ inl same ↦ absurd (other ((bytes_eq-Decides row.name name).0 same)) | inr off ↦ rw off refl ]

pub count_on : (shared : List SharedRow) (i : ℕ) (row : SharedRow) → i < length shared → row ≡ slice_index_or shared i row → shared_count (drop i shared) ≡ row.tokens + shared_count (drop (i + 1) shared)
count_on shared i row below is = at_drop_more (λ (l : List SharedRow). shared_count l) shared i row below ∙ ap (λ (r : SharedRow). r.tokens + shared_count (drop (i + 1) shared)) (sym is)

-- a row's tokens are numbered below the count
pub first_inside : (shared : List SharedRow) (s m : ℕ) (row : SharedRow) (name : List ℕ) → RowsDiffer shared → slice_get shared s ≡ Some row → row.name ≡ name → m < row.tokens
    → first_token shared name + m < shared_count shared
first_inside [] s m row name differ at named below = absurd (cc)
first_inside (r ∷ rest) s m row name differ at named below = step (λ t there. first_inside rest t m row name (later_differ r rest differ) there named below) (bytes_eq r.name name) refl
  where
    head : (s : ℕ) → slice_get (r ∷ rest) s ≡ Some row → s ≡ 0 → m < r.tokens
    head zero at none = let e : r ≡ row = cc in rw e below
    head (suc s) at none = absurd (cc)

    tail : (s : ℕ) → slice_get (r ∷ rest) s ≡ Some row → bytes_eq r.name name ≡ false → ((t : ℕ) → slice_get rest t ≡ Some row → first_token rest name + m < shared_count rest)
        → first_token rest name + m < shared_count rest
    tail zero at other next = let e : r ≡ row = cc in let same : bytes_eq r.name name ≡ true = (bytes_eq-Decides r.name name).1 (ap (λ (x : SharedRow). x.name) e ∙ named) in absurd (cc)
    tail (suc s) at other next = next s at

    step : ((t : ℕ) → slice_get rest t ≡ Some row → first_token rest name + m < shared_count rest) → (b : Bool) → bytes_eq r.name name ≡ b → first_token (r ∷ rest) name + m < shared_count (r ∷ rest)
    step next true same =
        let is : r.name ≡ row.name = (bytes_eq-Decides r.name name).0 same ∙ sym named in
        let h : m < r.tokens = head s at (one_head r row rest s differ at is) in
        rw same (omega arith)
    step next false other = let h : first_token rest name + m < shared_count rest = tail s at other next in rw other (omega arith)

-- each number below the count is that of a row's token
pub has_number : (shared : List SharedRow) (p : ℕ) → RowsDiffer shared → p < shared_count shared
    → (s : ℕ) × (m : ℕ) × (row : SharedRow) × (slice_get shared s ≡ Some row) × (m < row.tokens) × (first_token shared row.name + m ≡ p)
has_number [] p differ below = absurd (omega arith)
has_number (r ∷ rest) p differ below = elim (cases_lt p r.tokens) [
  | inl here ↦ (0, p, r, refl, here, (let same : bytes_eq r.name r.name ≡ true = (bytes_eq-Decides r.name r.name).1 refl in rw same (omega arith)))
  | inr past ↦ later (has_number rest (p - r.tokens) (later_differ r rest differ) (let e : p - r.tokens < shared_count rest = omega arith in e)) past
]
  where
    later : ((s : ℕ) × (m : ℕ) × (row : SharedRow) × (slice_get rest s ≡ Some row) × (m < row.tokens) × (first_token rest row.name + m ≡ p - r.tokens)) → r.tokens ≤ p
        → (s : ℕ) × (m : ℕ) × (row : SharedRow) × (slice_get (r ∷ rest) s ≡ Some row) × (m < row.tokens) × (first_token (r ∷ rest) row.name + m ≡ p)
    later (s, m, row, at, small, is) past = (suc s, m, row, at, small, step (bytes_eq r.name row.name) refl)
      where
        step : (b : Bool) → bytes_eq r.name row.name ≡ b → first_token (r ∷ rest) row.name + m ≡ p
        step true same = let e : suc s ≡ 0 = one_head r row rest (suc s) differ at ((bytes_eq-Decides r.name row.name).0 same) in absurd (cc)
        step false other = rw other (omega arith)

-- ---- of a graph that shares them

module _ (shared : List SharedRow) (g : GraphFile) (shares : Shares shared g) where
  pub number_inside : (i m : ℕ) → i < length g.channels → m < (slice_index_or g.channels i no_row).tokens → first_of shared g i + m < shared_count shared
  number_inside i m place below =
      let f = shares.channels i (slice_index_or g.channels i no_row) (slice_get-get_or g.channels i no_row place) (omega arith) in
      let few : m < f.1.tokens = subst (λ (n : ℕ). m < n) (sym f.4) below in
      first_inside shared f.0 m f.1 (slice_index_or g.channels i no_row).name shares.rows_differ f.2 f.3 few

  pub number_covers : (p : ℕ) → p < shared_count shared → (i : ℕ) × (m : ℕ) × (i < length g.channels) × (m < (slice_index_or g.channels i no_row).tokens) × (first_of shared g i + m ≡ p)
  number_covers p below = found (has_number shared p shares.rows_differ below)
    where
      found : ((s : ℕ) × (m : ℕ) × (row : SharedRow) × (slice_get shared s ≡ Some row) × (m < row.tokens) × (first_token shared row.name + m ≡ p))
          → (i : ℕ) × (m : ℕ) × (i < length g.channels) × (m < (slice_index_or g.channels i no_row).tokens) × (first_of shared g i + m ≡ p)
      found (s, m, row, at, small, is) = placed (shares.rows s row at)
        where
          placed : ((i : ℕ) × (c : ChannelRow) × (slice_get g.channels i ≡ Some c) × (c.name ≡ row.name) × (c.tokens ≡ row.tokens) × (1 ≤ row.tokens))
              → (i : ℕ) × (m : ℕ) × (i < length g.channels) × (m < (slice_index_or g.channels i no_row).tokens) × (first_of shared g i + m ≡ p)
          placed (i, c, at_c, named, tokens, some) = (i, m, within, (rw here (omega (arith, tokens))), (rw here (subst (λ (n : List ℕ). first_token shared n + m ≡ p) (sym named) is)))
            where
              within : i < length g.channels
              within = slice_get_within g.channels i c at_c

              here : slice_index_or g.channels i no_row ≡ c
              here = get_or_from_slice_get g.channels i c no_row at_c
