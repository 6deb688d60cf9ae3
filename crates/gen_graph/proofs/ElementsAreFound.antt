-- Elements of a written tree are found again by their names.
use Rattle.std.proofs.Common.{◌≡◌, ℕ, suc, ◌+◌, ◌<◌, ◌≤◌, Bool, true, false, cond, List, [], ◌∷◌, ◌++◌, length, get_or, Some, refl, sym, ap, ◌∙◌, subst, arith}
use Rattle.std.specs.Str.{bytes_eq}
use Rattle.std.specs.List.{AllPairs, find}
use Rattle.std.proofs.lemmas.List.{append-nil}
use Rattle.std.proofs.lemmas.List.Elements.{filter-append}
use Rattle.file_text.specs.declared.tree.Attribute.{Attribute}
use Rattle.file_text.specs.Node.{Node, name_of}
use Rattle.file_text.specs.Grammar.{Each}
use Rattle.file_text.proofs.DistinctNamesStay.{each-append}
use Rattle.graph_reader.specs.TreeSteps.{children, named}
use Rattle.graph_reader.specs.Spelled.{Pairwise, EachTwo}
use Rattle.graph_reader.proofs.ElementsFormTrees.{list_of_nodes}
use Rattle.gen_graph.specs.GraphTrees.{element}

-- ---- texts

-- ---- names of elements

-- whether an element is named so
abbrev pub IsCalled : List ℕ → Bool → Node → Type 0
IsCalled word b e = bytes_eq (name_of e) word ≡ b

pub kept : (word : List ℕ) (es : List Node) → Each (IsCalled word true) es → named word es ≡ es
kept word [] are = refl
kept word (e ∷ es) are = rw are.0 (ap (λ (l : List Node). e ∷ l) (kept word es are.1))

pub dropped : (word : List ℕ) (es : List Node) → Each (IsCalled word false) es → named word es ≡ []
dropped word [] are = refl
dropped word (e ∷ es) are = rw are.0 (dropped word es are.1)

pub children_are : (word name : List ℕ) (given : List Attribute) (es : List Node) → children word (element name given es) ≡ named word es
unfolding children
children_are word name given es = ap (named word) (list_of_nodes es)

-- the first of two lists is found by a name, or the second
pub first_kept : (word : List ℕ) (xs ys : List Node) → Each (IsCalled word true) xs → Each (IsCalled word false) ys → named word (xs ++ ys) ≡ xs
first_kept word xs ys are others = filter-append (λ e. bytes_eq (name_of e) word) xs ys ∙ (ap (λ (l : List Node). l ++ named word ys) (kept word xs are) ∙ (ap (λ (l : List Node). xs ++ l) (dropped word ys others) ∙ append-nil xs))

pub second_kept : (word : List ℕ) (xs ys : List Node) → Each (IsCalled word false) xs → Each (IsCalled word true) ys → named word (xs ++ ys) ≡ ys
second_kept word xs ys others are = filter-append (λ e. bytes_eq (name_of e) word) xs ys ∙ (ap (λ (l : List Node). l ++ named word ys) (dropped word xs others) ∙ kept word ys are)

-- ---- what is read of elements

pub pair_both : {X : Type 0} (R : Node → X → Type 0) (es fs : List Node) (xs ys : List X) → Pairwise R es xs → Pairwise R fs ys → Pairwise R (es ++ fs) (xs ++ ys)
pair_both R [] fs [] ys first rest = rest
pair_both R [] fs (x ∷ xs) ys first rest = absurd first
pair_both R (e ∷ es) fs [] ys first rest = absurd first
pair_both R (e ∷ es) fs (x ∷ xs) ys first rest = (first.0, pair_both R es fs xs ys first.1 rest)

pub pair_perhaps : {X : Type 0} (R : Node → X → Type 0) (b : Bool) (e : Node) (x : X) → (b ≡ true → R e x) → Pairwise R (cond b (e ∷ []) []) (cond b (x ∷ []) [])
pair_perhaps R true e x is = (is refl, tt)
pair_perhaps R false e x is = tt

pub each_perhaps : {X : Type 0} (P : X → Type 0) (b : Bool) (x : X) → (b ≡ true → P x) → Each P (cond b (x ∷ []) [])
each_perhaps P true x is = (is refl, tt)
each_perhaps P false x is = tt

pub two_both : {X : Type 0} (R : X → X → Type 0) (xs ys : List X) → EachTwo R xs → EachTwo R ys → Each (λ x. Each (R x) ys) xs → EachTwo R (xs ++ ys)
two_both R [] ys first rest across = rest
two_both R (x ∷ xs) ys first rest across = (each-append (R x) xs ys first.0 across.0, two_both R xs ys first.1 rest across.1)

pub two_perhaps : {X : Type 0} (R : X → X → Type 0) (b : Bool) (x : X) → EachTwo R (cond b (x ∷ []) [])
two_perhaps R true x = (tt, tt)
two_perhaps R false x = tt

-- each two of a list, by their places
pub first_of_pairs : {X : Type 0} (R : X → X → Type 0) (x : X) (xs : List X) → AllPairs R (x ∷ xs) → (ys : List X) (k : ℕ) → ((j : ℕ) (d : X) → j < length ys → get_or ys j d ≡ get_or xs (k + j) d) → k + length ys ≤ length xs → Each (R x) ys
first_of_pairs R x xs all [] k at le = tt
first_of_pairs {X} R x xs all (y ∷ ys) k at le =
    let here : get_or xs (k + 0) y ≡ y = sym (at 0 y (omega arith)) in
    (subst (λ (z : X). R x z) here (all 0 (suc (k + 0)) y (omega arith) (omega arith)), first_of_pairs R x xs all ys (k + 1) (λ j d lt. at (suc j) d (omega arith) ∙ ap (λ n. get_or xs n d) (let same : k + suc j ≡ k + 1 + j = omega arith in same)) (omega arith))

pub rest_of_pairs : {X : Type 0} (R : X → X → Type 0) (x : X) (xs : List X) → AllPairs R (x ∷ xs) → AllPairs R xs
rest_of_pairs R x xs all i j d lt within = all (suc i) (suc j) d (omega arith) (omega arith)

pub two_from_pairs : {X : Type 0} (R : X → X → Type 0) (xs : List X) → AllPairs R xs → EachTwo R xs
two_from_pairs R [] all = tt
two_from_pairs R (x ∷ xs) all = (first_of_pairs R x xs all xs 0 (λ j d lt. ap (λ n. get_or xs n d) (let same : j ≡ 0 + j = omega arith in same)) (omega arith), two_from_pairs R xs (rest_of_pairs R x xs all))

-- ---- what is looked for

-- none in the first part is it
pub find_skip : {X : Type 0} (p : X → Bool) (xs ys : List X) → Each (λ x. p x ≡ false) xs → find p (xs ++ ys) ≡ find p ys
find_skip p [] ys none = refl
find_skip p (x ∷ xs) ys none = rw none.0 (find_skip p xs ys none.1)

pub find_here : {X : Type 0} (p : X → Bool) (x : X) (ys : List X) → p x ≡ true → find p (x ∷ ys) ≡ Some x
find_here p x ys is = rw is refl
