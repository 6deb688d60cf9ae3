-- Lists by phase: the phases of an actor, and lists that are widened to them.
use Rattle.std.proofs.Common.{◌≡◌, ◌⊎◌, ℕ, suc, ◌+◌, ◌≤◌, ◌<◌, Bool, List, [], ◌∷◌, length, map, max, drop, replicate, get_or, sum, inl, inr, sym, ap, ◌∙◌, arith}
use Rattle.std.specs.List.{All, AllByRecursion, list_all}
use Rattle.std.proofs.lemmas.List.{length-replicate, length-map, get_or-replicate, get_or-map, at_drop_more}
use Rattle.std.proofs.lemmas.List.Folds.{list_all-map}
use Rattle.std.proofs.lemmas.List.Sums.{get_or-le-sum_by}
use Rattle.std.proofs.lemmas.List.Elements.{All-replicate}
use Rattle.graph_reader.specs.declared.actors.Port.{Port}
use Rattle.graph_reader.specs.Sections.{longest, fits_phases, widened}

pub longest-some : (lists : List (List ℕ)) → 1 ≤ longest lists
longest-some [] = omega arith
longest-some (xs ∷ lists) = omega (arith, longest-some lists)

pub longest-few : (most : ℕ) (lists : List (List ℕ)) → 1 ≤ most → AllByRecursion (λ xs. length xs ≤ most) lists → longest lists ≤ most
longest-few most [] some all = some
longest-few most (xs ∷ lists) some all = omega (arith, all.0, longest-few most lists some all.1)

-- what a list has by phase, if it is of so many phases
abbrev pub Fits : ℕ → List ℕ → Type 0
Fits phases xs = (length xs ≡ phases) ⊎ (length xs ≤ 1)

-- a list with a number at least is widened to a number for each phase
pub widened-long : (phases : ℕ) (xs : List ℕ) → Fits phases xs → 1 ≤ length xs → length (widened phases xs) ≡ phases
widened-long phases [] fits some = absurd (omega (arith, some))
widened-long phases (x ∷ []) fits some = length-replicate {A = ℕ} phases x
widened-long phases (x ∷ (y ∷ xs)) (inl same) some = same
widened-long phases (x ∷ (y ∷ xs)) (inr few) some = absurd (omega (arith, few))

pub widened-all : (P : ℕ → Type 0) (phases : ℕ) (xs : List ℕ) → All P xs → All P (widened phases xs)
widened-all P phases [] all = all
widened-all P phases (x ∷ []) all = All-replicate P phases x (all 0 0 (omega arith))
widened-all P phases (x ∷ (y ∷ xs)) all = all

replicate-sum : (n x : ℕ) → 1 ≤ n → 1 ≤ x → 1 ≤ sum (replicate n x)
replicate-sum n x some up =
    let long : length (replicate n x) ≡ n = length-replicate {A = ℕ} n x in
    let first : get_or (replicate n x) 0 0 ≡ x = get_or-replicate {A = ℕ} n 0 x 0 (omega arith) in
    omega (arith, get_or-le-sum_by (λ (y : ℕ). y) (replicate n x) 0 0 (omega arith), first)

-- and what isn't 0 in sum stays so
pub widened-moves : (phases : ℕ) (xs : List ℕ) → 1 ≤ phases → 1 ≤ sum xs → 1 ≤ sum (widened phases xs)
widened-moves phases [] some up = up
widened-moves phases (x ∷ []) some up = replicate-sum phases x some (omega (arith, up))
widened-moves phases (x ∷ (y ∷ xs)) some up = up

pub some-long : (xs : List ℕ) → 1 ≤ sum xs → 1 ≤ length xs
some-long [] up = absurd (omega (arith, up))
some-long (x ∷ xs) up = omega arith

-- ---- the greatest length, port by port

pub phases-first : (m n : ℕ) (lists : List (List ℕ)) → m ≡ max n 1 → max m (longest lists) ≡ max n (longest lists)
phases-first m n lists is = omega (arith, longest-some lists)

pub phases-more : (ports : List Port) (i p q whole : ℕ) (x : Port) → i < length ports → x ≡ get_or ports i x → q ≡ max p (length x.rates) →
    max p (longest (map (λ (y : Port). y.rates) (drop i ports))) ≡ whole → max q (longest (map (λ (y : Port). y.rates) (drop (i + 1) ports))) ≡ whole
phases-more ports i p q whole x below here is so_far =
    let split : longest (map (λ (y : Port). y.rates) (drop i ports)) ≡ longest (map (λ (y : Port). y.rates) (get_or ports i x ∷ drop (i + 1) ports)) = at_drop_more (λ (ps : List Port). longest (map (λ (y : Port). y.rates) ps)) ports i x below in
    let first : length (get_or ports i x).rates ≡ length x.rates = ap (λ (y : Port). length y.rates) (sym here) in
    omega (arith, split, first, so_far, is)

pub port-short : (times : List ℕ) (ports : List Port) (i : ℕ) (x : Port) → All (λ xs. length xs ≤ 4096) (times ∷ map (λ (y : Port). y.rates) ports) → i < length ports → x ≡ get_or ports i x → length x.rates ≤ 4096
port-short times ports i x short below here =
    let count : length (map (λ (y : Port). y.rates) ports) ≡ length ports = length-map ports (λ (y : Port). y.rates) in
    let at : get_or (map (λ (y : Port). y.rates) ports) i [] ≡ (get_or ports i x).rates = get_or-map (λ (y : Port). y.rates) ports i x [] below in
    let few : length (get_or (map (λ (y : Port). y.rates) ports) i []) ≤ 4096 = short (suc i) [] (omega (arith, below, count)) in
    let first : length (get_or ports i x).rates ≡ length x.rates = ap (λ (y : Port). length y.rates) (sym here) in
    omega (arith, few, ap (λ (xs : List ℕ). length xs) at, first)

pub ports-fit : (phases : ℕ) (ports : List Port) (b : Bool) → b ≡ list_all (λ (y : Port). fits_phases phases y.rates) ports → b ≡ list_all (fits_phases phases) (map (λ (y : Port). y.rates) ports)
ports-fit phases ports b is = is ∙ sym (list_all-map (fits_phases phases) (λ (y : Port). y.rates) ports)
