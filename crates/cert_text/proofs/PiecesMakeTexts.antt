-- The pieces that are written one after the other make the text.
use Rattle.std.proofs.Common.{◌≡◌, ℕ, ◌+◌, ◌<◌, ◌≤◌, List, [], ◌∷◌, ◌++◌, All, length, take, get_or, sym, ap, ◌∙◌, subst}
use Rattle.std.proofs.lemmas.List.{append_assoc, flat_map_more, take_all}
use Rattle.std.proofs.lemmas.List.Elements.{All-append, All-nil, All-cons, All-more}
use Rattle.std.specs.List.{flat_map}
use Rattle.std.specs.Prelude.{codes}
use Rattle.std.proofs.lemmas.Fmt.{decimal_digit}
use Rattle.sd_base.proofs.ElementsKeepPlaces.{flat_next}
use Rattle.cert_text.specs.NumberLines.{version_line}
use Rattle.cert_text.specs.ScenarioLines.{node_line, nodes_header, nodes_lines}

-- a piece more that is read
pub flat_more : {X : Type 0} (f : X → List ℕ) (whole old new : List ℕ) (xs : List X) (x : X) → whole ≡ flat_map f xs ++ old → old ≡ f x ++ new → whole ≡ flat_map f (xs ++ x ∷ []) ++ new
flat_more f whole old new xs x kept is =
    kept ∙ (ap (λ (l : List ℕ). flat_map f xs ++ l) is ∙ (sym (append_assoc (flat_map f xs) (f x) new) ∙ ap (λ (l : List ℕ). l ++ new) (flat_map_more f [] xs x)))

pub read-more : {X : Type 0} (f : X → List ℕ) (whole old new : List ℕ) (xs ys : List X) (x : X) → whole ≡ flat_map f xs ++ old → old ≡ f x ++ new → ys ≡ xs ++ x ∷ [] → whole ≡ flat_map f ys ++ new
read-more f whole old new xs ys x kept is pushed = flat_more f whole old new xs x kept is ∙ ap (λ zs. flat_map f zs ++ new) (sym pushed)

pub all-pushed : {X : Type 0} (P : X → Type 0) (xs ys : List X) (x : X) → All P xs → P x → ys ≡ xs ++ x ∷ [] → All P ys
all-pushed P xs ys x each one pushed = subst (All P) (sym pushed) (All-append P xs (x ∷ []) each (All-cons P x [] one (All-nil P)))

pub nodes-end : (time edges : ℕ) (first : ℕ × ℕ) (rest : List (ℕ × ℕ)) (whole mid new : List ℕ) → whole ≡ nodes_header time edges first ++ mid → length rest ≡ edges
    → mid ≡ flat_map node_line rest ++ new → whole ≡ nodes_lines time (first ∷ rest) ++ new
unfolding nodes_lines
nodes-end time edges first rest whole mid new is many entered =
    is ∙ (ap (λ (n : ℕ). nodes_header time n first ++ mid) (sym many) ∙ (ap (λ (l : List ℕ). nodes_header time (length rest) first ++ l) entered
    ∙ sym (append_assoc (nodes_header time (length rest) first) (flat_map node_line rest) new)))

pub version-small : (n : ℕ) → n < 10 → version_line n ≡ codes "sdf3-certificate " ++ ((48 + n) ∷ 10 ∷ [])
unfolding version_line
version-small n small = ap (λ (l : List ℕ). codes "sdf3-certificate " ++ (l ++ 10 ∷ [])) (decimal_digit n small)

-- what holds of each element so far
pub all-end : {X : Type 0} (P : X → Type 0) (xs : List X) (i : ℕ) → length xs ≤ i → All P (take i xs) → All P xs
all-end P xs i past all = subst (All P) (take_all i xs past) all

-- with the element that was taken
pub flat-item : {X : Type 0} (f : X → List ℕ) (start text new : List ℕ) (xs : List X) (i : ℕ) (x : X) → i < length xs → x ≡ get_or xs i x → text ≡ start ++ flat_map f (take i xs) → new ≡ text ++ f x → new ≡ start ++ flat_map f (take (i + 1) xs)
flat-item f start text new xs i x within is kept more = flat_next f start text new xs i x within kept (more ∙ ap (λ y. text ++ f y) is)

pub all-item : {X : Type 0} (P : X → Type 0) (xs : List X) (i : ℕ) (x : X) → i < length xs → x ≡ get_or xs i x → All P (take i xs) → P x → All P (take (i + 1) xs)
all-item P xs i x within is all one = All-more P xs i x within all (subst P is one)
