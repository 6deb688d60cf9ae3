-- The order of walks by a number: the channel numbers as digits from 1, in a base above each of them.
use Rattle.std.proofs.Common.{◌≡◌, ℕ, ◌+◌, ◌*◌, ◌<◌, ◌≤◌, List, [], ◌∷◌, ◌++◌, length, map, sym, refl, subst, inl, inr, arith}
use Rattle.std.proofs.Math.Nat.{mul-le-mul_right, mul-le-mul_left}
use Rattle.std.proofs.lemmas.Bool.{cases_lt, cases_order}
use Rattle.std.proofs.lemmas.Option.{slice_get_within}
use Rattle.balance.specs.declared.walk.WalkStep.{WalkStep}
use Rattle.balance.specs.declared.walk.Link.{Link}
use Rattle.balance.specs.inside.Search.{key_from}
use Rattle.balance.specs.Walks.{IsLinkWalk, LexLe, Precedes, step_to}

abbrev pub key : ℕ → List WalkStep → ℕ
key m ss = key_from m 0 ss

abbrev pub AllBelow : ℕ → List WalkStep → Type 0
AllBelow m [] = Unit {0}
AllBelow m (s ∷ ss) = (s.channel < m) × AllBelow m ss

pub walk_below : (ls : List Link) (m : ℕ) → length ls ≤ m → (ss : List WalkStep) (a b : ℕ) → IsLinkWalk ls a ss b → AllBelow m ss
walk_below ls m le [] a b h = tt
walk_below ls m le (s ∷ ss) a b (l, is, from, rest) = (
  (let lt : s.channel < length ls = slice_get_within ls s.channel l is in omega arith),
  walk_below ls m le ss (step_to l s.forward) b rest,
)

pub key-append : (m acc : ℕ) (xs ys : List WalkStep) → key_from m acc (xs ++ ys) ≡ key_from m (key_from m acc xs) ys
key-append m acc [] ys = refl
key-append m acc (x ∷ xs) ys = key-append m (acc * m + x.channel + 1) xs ys

pub key_grows : (m : ℕ) → 0 < m → (ss : List WalkStep) (acc : ℕ) → acc ≤ key_from m acc ss
key_grows m some [] acc = omega arith
key_grows m some (s ∷ ss) acc =
    let up : acc * 1 ≤ acc * m = mul-le-mul_left acc some in
    let rest : acc * m + s.channel + 1 ≤ key_from m (acc * m + s.channel + 1) ss = key_grows m some ss (acc * m + s.channel + 1) in
    omega arith

pub ahead : (m : ℕ) (xs ys : List WalkStep) → AllBelow m xs → length xs ≡ length ys → (a b : ℕ) → a < b → key_from m a xs < key_from m b ys
ahead m [] [] low same a b lt = lt
ahead m [] (y ∷ ys) low same a b lt = absurd (let no : ⊥ = omega arith in no)
ahead m (x ∷ xs) [] low same a b lt = absurd (let no : ⊥ = omega arith in no)
ahead m (x ∷ xs) (y ∷ ys) (here, low) same a b lt =
    let wide : (a + 1) * m ≤ b * m = mul-le-mul_right m (omega arith) in
    ahead m xs ys low (omega arith) (a * m + x.channel + 1) (b * m + y.channel + 1) (omega (arith, wide, here))

pub lex_from_key : (m : ℕ) (xs ys : List WalkStep) → AllBelow m ys → length xs ≡ length ys → (a : ℕ) → key_from m a xs ≤ key_from m a ys → LexLe xs ys
lex_from_key m [] ys low same a le = tt
lex_from_key m (x ∷ xs) [] low same a le = absurd (let no : ⊥ = omega arith in no)
lex_from_key m (x ∷ xs) (y ∷ ys) (here, low) same a le =
    elim (cases_order x.channel y.channel) [
      | inl eq ↦ inr (
        eq,
        lex_from_key m xs ys low (omega arith) (a * m + x.channel + 1)
            (subst (λ n. key_from m (a * m + x.channel + 1) xs ≤ key_from m (a * m + n + 1) ys) (sym eq) le),
      )
      | inr ne ↦ elim ne [
        | inl lt ↦ inl lt
        | inr gt ↦
            let over : key_from m (a * m + y.channel + 1) ys < key_from m (a * m + x.channel + 1) xs =
            ahead m ys xs low (omega arith) (a * m + y.channel + 1) (a * m + x.channel + 1) (omega arith) in
            absurd (omega arith)
      ]
    ]

pub longer_from_key : (m : ℕ) → 0 < m → (ys xs : List WalkStep) → AllBelow m ys → (a b : ℕ) → a ≤ b → length ys < length xs → key_from m a ys < key_from m b xs
longer_from_key m some ys [] low a b le lt = absurd (let no : ⊥ = omega arith in no)
longer_from_key m some ys (x ∷ xs) low a b le lt =
    let up : b * 1 ≤ b * m = mul-le-mul_left b some in
    elim (cases_lt (length ys) (length xs)) [
      | inl still ↦ longer_from_key m some ys xs low a (b * m + x.channel + 1) (omega arith) still
      | inr same ↦ ahead m ys xs low (omega arith) a (b * m + x.channel + 1) (omega arith)
    ]

-- the order of the numbers is the order of the walks
pub precedes_from_key : (m : ℕ) → 0 < m → (p q : List WalkStep) → AllBelow m q → key m p ≤ key m q → Precedes p q
precedes_from_key m some p q low le =
    elim (cases_order (length p) (length q)) [
      | inl same ↦ inr (same, lex_from_key m p q low same 0 le)
      | inr ne ↦ elim ne [
        | inl less ↦ inl less
        | inr more ↦
            let over : key m q < key m p = longer_from_key m some q p low 0 0 (omega arith) more in
            absurd (omega arith)
      ]
    ]

pub no_longer : (p q : List WalkStep) → Precedes p q → length p ≤ length q
no_longer p q h = elim h [ inl less ↦ omega arith | inr same ↦ omega (arith, same.0) ]

lex_same : (xs ys : List WalkStep) → length xs ≡ length ys → LexLe xs ys → LexLe ys xs → map (λ (s : WalkStep). s.channel) xs ≡ map (λ (s : WalkStep). s.channel) ys
lex_same [] [] same le ge = refl
lex_same [] (y ∷ ys) same le ge = absurd (let no : ⊥ = omega arith in no)
lex_same (x ∷ xs) [] same le ge = absurd le
lex_same (x ∷ xs) (y ∷ ys) same le ge =
    elim le [
      | inl lt ↦ elim ge [ inl gt ↦ absurd (omega arith) | inr eq ↦ absurd (omega (arith, eq.0)) ]
      | inr eq ↦ elim ge [
        | inl gt ↦ absurd (omega (arith, eq.0))
        | inr eq' ↦
            let rest = lex_same xs ys (omega arith) eq.1 eq'.1 in
            let here = eq.0 in
            cc
      ]
    ]

-- walks that precede each other go over the same channels
pub same_channels : (p q : List WalkStep) → Precedes p q → Precedes q p → map (λ (s : WalkStep). s.channel) p ≡ map (λ (s : WalkStep). s.channel) q
same_channels p q le ge =
    let a = no_longer p q le in
    let b = no_longer q p ge in
    elim le [
      | inl less ↦ absurd (omega arith)
      | inr same ↦ elim ge [ inl less ↦ absurd (omega arith) | inr back ↦ lex_same p q same.0 same.1 back.1 ]
    ]
