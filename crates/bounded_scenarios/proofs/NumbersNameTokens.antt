-- The shared token of a number: its channel's name, and its number there; and a map of such tokens as a map of their numbers.
use Rattle.std.proofs.Common.{◌≡◌, ℕ, zero, suc, ◌+◌, ◌-◌, ◌≤◌, ◌<◌, Bool, true, false, List, [], ◌∷◌, Some, refl, sym, ap, subst, ◌∙◌, arith}
use Rattle.std.specs.Str.{bytes_eq}
use Rattle.std.specs.Prelude.{slice_get, if◌then◌else◌, nat_lt}
use Rattle.std.proofs.lemmas.Bool.{lt-ltb, le-ltb}
use Rattle.std.proofs.lemmas.Slice.Eq.{bytes_eq-Decides}
use Rattle.sd_base.specs.declared.tables.SharedRow.{SharedRow}
use Rattle.token_matrix.specs.Stamps.{first_token}
use Rattle.token_matrix.proofs.NumbersCoverTokens.{RowsDiffer, later_differ, one_head}

-- the channel's name of a shared token
pub name_at : List SharedRow → ℕ → List ℕ
name_at [] n = []
name_at (row ∷ rows) n = if nat_lt n row.tokens then row.name else name_at rows (n - row.tokens)

-- its number there
pub place_at : List SharedRow → ℕ → ℕ
place_at [] n = n
place_at (row ∷ rows) n = if nat_lt n row.tokens then n else place_at rows (n - row.tokens)

in-first : (r : SharedRow) (rest : List SharedRow) (n : ℕ) → n < r.tokens → (name_at (r ∷ rest) n ≡ r.name) × (place_at (r ∷ rest) n ≡ n)
unfolding name_at place_at
in-first r rest n below = let lt : nat_lt n r.tokens ≡ true = lt-ltb n r.tokens below in (rw lt refl, rw lt refl)

in-rest : (r : SharedRow) (rest : List SharedRow) (n : ℕ) → r.tokens ≤ n → (name_at (r ∷ rest) n ≡ name_at rest (n - r.tokens)) × (place_at (r ∷ rest) n ≡ place_at rest (n - r.tokens))
unfolding name_at place_at
in-rest r rest n past = let lt : nat_lt n r.tokens ≡ false = le-ltb n r.tokens past in (rw lt refl, rw lt refl)

first-head : (r : SharedRow) (rest : List SharedRow) (name : List ℕ) → bytes_eq r.name name ≡ true → first_token (r ∷ rest) name ≡ 0
first-head r rest name same = rw same refl

first-tail : (r : SharedRow) (rest : List SharedRow) (name : List ℕ) → bytes_eq r.name name ≡ false → first_token (r ∷ rest) name ≡ r.tokens + first_token rest name
first-tail r rest name other = rw other refl

-- the token of a number is the one of the row
abbrev pub Says : List SharedRow → List ℕ → ℕ → ℕ → Type 0
Says shared name n m = (name_at shared n ≡ name) × (place_at shared n ≡ m)

pub token_is : (shared : List SharedRow) (s m : ℕ) (row : SharedRow) → RowsDiffer shared → slice_get shared s ≡ Some row → m < row.tokens →
    Says shared row.name (first_token shared row.name + m) m
token_is [] s m row differ at below = absurd (cc)
token_is (r ∷ rest) s m row differ at below = step (λ t there. token_is rest t m row (later_differ r rest differ) there below) (bytes_eq r.name row.name) refl
  where
    head : (s : ℕ) → slice_get (r ∷ rest) s ≡ Some row → s ≡ 0 → r ≡ row
    head zero at none = (cc)
    head (suc s) at none = absurd (cc)

    tail : (s : ℕ) → slice_get (r ∷ rest) s ≡ Some row → bytes_eq r.name row.name ≡ false →
        ((t : ℕ) → slice_get rest t ≡ Some row → Says rest row.name (first_token rest row.name + m) m) → Says rest row.name (first_token rest row.name + m) m
    tail zero at other next = let e : r ≡ row = cc in let same : bytes_eq r.name row.name ≡ true = (bytes_eq-Decides r.name row.name).1 (ap (λ (x : SharedRow). x.name) e) in absurd (cc)
    tail (suc s) at other next = next s at

    step : ((t : ℕ) → slice_get rest t ≡ Some row → Says rest row.name (first_token rest row.name + m) m) →
        (b : Bool) → bytes_eq r.name row.name ≡ b → Says (r ∷ rest) row.name (first_token (r ∷ rest) row.name + m) m
    step next true same =
        let is : r ≡ row = head s at (one_head r row rest s differ at ((bytes_eq-Decides r.name row.name).0 same)) in
        let small : m < r.tokens = subst (λ (x : SharedRow). m < x.tokens) (sym is) below in
        let start : m ≡ first_token (r ∷ rest) row.name + m = omega (arith, first-head r rest row.name same) in
        let one = in-first r rest m small in
        subst (λ (n : ℕ). Says (r ∷ rest) row.name n m) start (one.0 ∙ ap (λ (x : SharedRow). x.name) is, one.1)
    step next false other =
        let t = tail s at other next in
        let start : r.tokens + (first_token rest row.name + m) ≡ first_token (r ∷ rest) row.name + m = omega (arith, first-tail r rest row.name other) in
        let one = in-rest r rest (r.tokens + (first_token rest row.name + m)) (omega arith) in
        let less : r.tokens + (first_token rest row.name + m) - r.tokens ≡ first_token rest row.name + m = omega arith in
        subst (λ (n : ℕ). Says (r ∷ rest) row.name n m) start
        (one.0 ∙ (ap (λ (n : ℕ). name_at rest n) less ∙ t.0), one.1 ∙ (ap (λ (n : ℕ). place_at rest n) less ∙ t.1))

-- the number of the token that one stands for
pub renumbered : List SharedRow → List SharedRow → (List ℕ → ℕ → ℕ) → ℕ → ℕ
renumbered shared other to n = first_token other (name_at shared n) + to (name_at shared n) (place_at shared n)

pub renumbered-is : (shared other : List SharedRow) (to : List ℕ → ℕ → ℕ) (s m : ℕ) (row : SharedRow) → RowsDiffer shared → slice_get shared s ≡ Some row → m < row.tokens →
    renumbered shared other to (first_token shared row.name + m) ≡ first_token other row.name + to row.name m
unfolding renumbered
renumbered-is shared other to s m row differ at below =
    let t = token_is shared s m row differ at below in
    ap (λ (name : List ℕ). first_token other name + to name (place_at shared (first_token shared row.name + m))) t.0
    ∙ ap (λ (n : ℕ). first_token other row.name + to row.name n) t.1
