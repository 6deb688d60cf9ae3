-- Of channels that are gone through, the one on which most steps lack.
use Rattle.std.proofs.Common.{◌≡◌, ℕ, ◌+◌, ◌≤◌, ◌<◌, Option, Some, None, List, [], ◌∷◌, length, take, get_or, sym, subst, arith}
use Rattle.std.specs.Prelude.{All, Contains, MatchOption}
use Rattle.std.proofs.lemmas.List.{take_more}
use Rattle.std.proofs.lemmas.List.Elements.{All-more, All-weaker, Contains-append_left, Contains-push}
use Rattle.covers.specs.declared.lattice.Axis.{Axis}
use Rattle.walks.specs.inside.Lacks.{LacksMost, LacksNone, lack_of}

-- the one that was found lacks so many steps; where none was, it is no step
abbrev pub IsOne : List Axis → List ℕ → List ℕ → List ℕ → ℕ → Option ℕ → Type 0
IsOne axes goal ks channels most None = most ≡ 0
IsOne axes goal ks channels most (Some c) = Contains channels c × (lack_of axes goal ks c ≡ most) × (1 ≤ most)

-- and none lacks more
pub record IsFoundAmong (axes : List Axis) (goal ks channels : List ℕ) (most : ℕ) (found : Option ℕ) : Type 0 where
  pub all : All (λ (d : ℕ). lack_of axes goal ks d ≤ most) channels
  pub one : IsOne axes goal ks channels most found

le-along : (x y z : ℕ) → x ≤ y → y ≤ z → x ≤ z
le-along x y z a b = omega arith

le-same : (x y z : ℕ) → x ≤ y → z ≡ y → x ≤ z
le-same x y z a b = omega arith

zero-of : (x m : ℕ) → x ≤ m → m ≡ 0 → x ≡ 0
zero-of x m a b = omega arith

contains-more : (xs : List ℕ) (i x : ℕ) → i < length xs → Contains (take i xs) x → Contains (take (i + 1) xs) x
contains-more xs i x below has = subst (λ (ys : List ℕ). Contains ys x) (sym (take_more xs i 0 below)) (Contains-append_left (take i xs) (get_or xs i 0 ∷ []) x has)

contains-this : (xs : List ℕ) (i : ℕ) → i < length xs → Contains (take (i + 1) xs) (get_or xs i 0)
contains-this xs i below = subst (λ (ys : List ℕ). Contains ys (get_or xs i 0)) (sym (take_more xs i 0 below)) (Contains-push (take i xs) (get_or xs i 0))

one-more : (axes : List Axis) (goal ks channels : List ℕ) (i most : ℕ) (found : Option ℕ) → i < length channels → IsOne axes goal ks (take i channels) most found → IsOne axes goal ks (take (i + 1) channels) most found
one-more axes goal ks channels i most None below one = one
one-more axes goal ks channels i most (Some c) below one = (contains-more channels i c below one.0, one.1, one.2)

-- one on which no more steps lack
pub found-kept : (axes : List Axis) (goal ks channels : List ℕ) (i lack most : ℕ) (found : Option ℕ) → i < length channels → lack ≡ lack_of axes goal ks (get_or channels i 0) → lack ≤ most → IsFoundAmong axes goal ks (take i channels) most found → IsFoundAmong axes goal ks (take (i + 1) channels) most found
found-kept axes goal ks channels i lack most found below is less old = record {
  all = All-more (λ (d : ℕ). lack_of axes goal ks d ≤ most) channels i 0 below old.all (subst (λ (x : ℕ). x ≤ most) is less);
  one = one-more axes goal ks channels i most found below old.one;
}

-- one on which more do
pub found-new : (axes : List Axis) (goal ks channels : List ℕ) (i lack most : ℕ) (found : Option ℕ) → i < length channels → lack ≡ lack_of axes goal ks (get_or channels i 0) → most < lack → IsFoundAmong axes goal ks (take i channels) most found → IsFoundAmong axes goal ks (take (i + 1) channels) lack (Some (get_or channels i 0))
found-new axes goal ks channels i lack most found below is more old = record {
  all = All-more (λ (d : ℕ). lack_of axes goal ks d ≤ lack) channels i 0 below
      (All-weaker (λ (d : ℕ). lack_of axes goal ks d ≤ most) (λ (d : ℕ). lack_of axes goal ks d ≤ lack) (λ d le. le-along (lack_of axes goal ks d) most lack le (omega (arith, more))) (take i channels) old.all)
      (subst (λ (x : ℕ). x ≤ lack) is (omega arith));
  one = (contains-this channels i below, sym is, omega (arith, more));
}

-- all were
pub found-all : (axes : List Axis) (goal ks channels : List ℕ) (most : ℕ) (found : Option ℕ) → IsFoundAmong axes goal ks channels most found → MatchOption found (LacksNone axes goal ks channels) (LacksMost axes goal ks channels)
found-all axes goal ks channels most None h = λ i d below. zero-of (lack_of axes goal ks (get_or channels i d)) most (h.all i d below) h.one
found-all axes goal ks channels most (Some c) h = record {
  shown = h.one.0;
  some = le-same 1 most (lack_of axes goal ks c) h.one.2 h.one.1;
  most = λ i d below. le-same (lack_of axes goal ks (get_or channels i d)) most (lack_of axes goal ks c) (h.all i d below) h.one.1;
}
