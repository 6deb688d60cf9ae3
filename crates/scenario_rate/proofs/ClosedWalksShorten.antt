-- A closed walk of more edges than there are nodes has a shorter one at its node.
use Rattle.std.proofs.Common.{◌≡◌, ◌≢◌, ℕ, zero, suc, ◌+◌, ◌-◌, ◌≤◌, ◌<◌, ◌⊎◌, List, [], ◌∷◌, ◌++◌, length, take, drop, sym, ap, subst, ◌∙◌, inl, inr, ⊎_elim, arith, length-append, length-drop}
use Rattle.std.proofs.lemmas.Bool.{cases_lt, cases_eq}
use Rattle.std.proofs.lemmas.List.{length-take-le}
use Rattle.automaton.specs.declared.graph.Edge.{Edge}
use Rattle.automaton.specs.CriticalCycles.{IsPath}
use Rattle.automaton.specs.SoundGraphs.{AreInside}
use Rattle.automaton.proofs.TwoAreTheSame.{pigeons}
use Rattle.automaton.proofs.WalksJoinAndRepeat.{path-append}
use Rattle.scenario_rate.specs.inside.Searches.{node_after}
use Rattle.scenario_rate.specs.inside.Choosing.{IsAmong, IsWalkAmong}
use Rattle.scenario_rate.proofs.LongWalksClose.{node-inside, cut-front, cut-back}

-- ---- two of some numbers are the same, or all differ

find_one : (f : ℕ → ℕ) (x n : ℕ) → ((i : ℕ) × (i < n) × (f i ≡ x)) ⊎ ((i : ℕ) → i < n → f i ≢ x)
find_one f x zero = inr (λ i below. absurd (omega arith))
find_one f x (suc n) = elim (find_one f x n) [
  | inl (i, below, is) ↦ inl (i, (let h : i < suc n = omega arith in h), is)
  | inr none ↦ elim (cases_eq (f n) x) [
    | inl same ↦ inl (n, omega arith, same)
    | inr apart ↦ inr (λ i below. ⊎_elim (λ (h : i < n). none i h) (λ (h : n ≤ i). let e : i ≡ n = omega arith in λ is. apart (ap f (sym e) ∙ is)) (cases_lt i n))
  ]
]

find_same : (f : ℕ → ℕ) (n : ℕ) → ((i : ℕ) × (j : ℕ) × (i < j) × (j < n) × (f i ≡ f j)) ⊎ ((i j : ℕ) → i < j → j < n → f i ≢ f j)
find_same f zero = inr (λ i j h below. absurd (omega arith))
find_same f (suc n) = elim (find_same f n) [
  | inl (i, j, h, below, is) ↦ inl (i, j, h, (let g : j < suc n = omega arith in g), is)
  | inr differ ↦ elim (find_one f (f n) n) [
    | inl (i, below, is) ↦ inl (i, n, below, omega arith, is)
    | inr none ↦ inr (λ i j h below. ⊎_elim (λ (g : j < n). differ i j h g) (λ (g : n ≤ j). let e : j ≡ n = omega arith in λ is. none i (omega arith) (is ∙ ap f e)) (cases_lt j n))
  ]
]

-- ---- walks over edges of a list

AllAmong : List ℕ → List ℕ → Type 0
AllAmong ts [] = Unit {0}
AllAmong ts (k ∷ ks) = IsAmong ts k × AllAmong ts ks

path_of : (es : List Edge) (ts ks : List ℕ) (u v : ℕ) → IsWalkAmong es ts u ks v → IsPath es u ks v
path_of es ts [] u v walk = walk
path_of es ts (k ∷ ks) u v (e, is, from, among, rest) = (e, is, from, path_of es ts ks e.to v rest)

among_of : (es : List Edge) (ts ks : List ℕ) (u v : ℕ) → IsWalkAmong es ts u ks v → AllAmong ts ks
unfolding AllAmong
among_of es ts [] u v walk = tt
among_of es ts (k ∷ ks) u v (e, is, from, among, rest) = (among, among_of es ts ks e.to v rest)

walk_of : (es : List Edge) (ts ks : List ℕ) (u v : ℕ) → IsPath es u ks v → AllAmong ts ks → IsWalkAmong es ts u ks v
unfolding AllAmong
walk_of es ts [] u v path all = path
walk_of es ts (k ∷ ks) u v (e, is, from, rest) (among, all) = (e, is, from, among, walk_of es ts ks e.to v rest all)

all-take : (ts : List ℕ) (n : ℕ) (ks : List ℕ) → AllAmong ts ks → AllAmong ts (take n ks)
unfolding AllAmong
all-take ts zero ks all = tt
all-take ts (suc n) [] all = tt
all-take ts (suc n) (k ∷ ks) (among, all) = (among, all-take ts n ks all)

all-drop : (ts : List ℕ) (n : ℕ) (ks : List ℕ) → AllAmong ts ks → AllAmong ts (drop n ks)
unfolding AllAmong
all-drop ts zero ks all = all
all-drop ts (suc n) [] all = tt
all-drop ts (suc n) (k ∷ ks) (among, all) = all-drop ts n ks all

all-append : (ts ks ls : List ℕ) → AllAmong ts ks → AllAmong ts ls → AllAmong ts (ks ++ ls)
unfolding AllAmong
all-append ts [] ls all more = more
all-append ts (k ∷ ks) ls (among, all) more = (among, all-append ts ks ls all more)

-- a walk without what it closes between two places of one node
pub cut : (es : List Edge) (ts ks : List ℕ) (u v i j : ℕ) → IsWalkAmong es ts u ks v → i < j → j ≤ length ks → node_after es ks v i ≡ node_after es ks v j → IsWalkAmong es ts u (take i ks ++ drop j ks) v
cut es ts ks u v i j walk order within same =
    let path : IsPath es u ks v = path_of es ts ks u v walk in
    let all : AllAmong ts ks = among_of es ts ks u v walk in
    let front : IsPath es u (take i ks) (node_after es ks v i) = cut-front es ks u v i path (omega arith) in
    let back : IsPath es (node_after es ks v j) (drop j ks) v = cut-back es ks u v j path within in
    walk_of es ts (take i ks ++ drop j ks) u v (path-append es (take i ks) (drop j ks) u (node_after es ks v i) v front (subst (λ (n : ℕ). IsPath es n (drop j ks) v) (sym same) back))
    (all-append ts (take i ks) (drop j ks) (all-take ts i ks all) (all-drop ts j ks all))

pub length-cut : (ks : List ℕ) (i j : ℕ) → i < j → j ≤ length ks → length (take i ks ++ drop j ks) ≡ i + (length ks - j)
length-cut ks i j order within = length-append (take i ks) (drop j ks) ∙ ap (λ (n : ℕ). n + length (drop j ks)) (length-take-le i ks (omega arith)) ∙ ap (λ (n : ℕ). i + n) (length-drop j ks)

pub record IsShort (es : List Edge) (ts : List ℕ) (n v : ℕ) : Type 0 where
  pub walk : List ℕ
  pub some : 1 ≤ length walk
  pub short : length walk ≤ n
  pub closed : IsWalkAmong es ts v walk v

pub shorten : (es : List Edge) (ts : List ℕ) (n : ℕ) → AreInside es n → (fuel v : ℕ) (ks : List ℕ) → length ks ≤ fuel → v < n → 1 ≤ length ks → IsWalkAmong es ts v ks v → IsShort es ts n v
shorten es ts n inside zero v ks few below some walk = absurd (omega arith)
shorten es ts n inside (suc fuel) v ks few below some walk = ⊎_elim
    (λ (short : length ks < n + 1). record { walk = ks; some = some; short = omega arith; closed = walk })
    (λ (long : n + 1 ≤ length ks). elim (find_same (λ i. node_after es ks v i) (suc n)) [
      | inl (i, j, order, within, same) ↦ (let size : length (take i ks ++ drop j ks) ≡ i + (length ks - j) = length-cut ks i j order (omega arith) in
          shorten es ts n inside fuel v (take i ks ++ drop j ks) (omega arith) below (omega arith) (cut es ts ks v v i j walk order (omega arith) same))
      | inr differ ↦ absurd (pigeons n (λ i. node_after es ks v i) (λ i h. node-inside es n inside ks v v i (path_of es ts ks v v walk) below) differ)
    ])
    (cases_lt (length ks) (n + 1))
