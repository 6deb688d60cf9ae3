-- Rows that are found by their names.
use Rattle.std.proofs.Common.{◌≡◌, ℕ, suc, ◌+◌, Bool, true, false, not, cond, ◌&&◌, List, [], ◌∷◌, ◌++◌, length, map, Option, Some, None, inl, inr, nat_lt, slice_get, refl, sym, ap, ap₂, ◌∙◌, arith, lt-ltb, add-zero}
use Rattle.std.specs.List.{AllByRecursion, IsDistinct, find, list_any, position, position_or_len}
use Rattle.std.specs.Option.{option_map}
use Rattle.std.specs.Str.{bytes_eq}
use Rattle.std.proofs.lemmas.List.{map-append}
use Rattle.std.proofs.lemmas.List.Folds.{find_at}
use Rattle.std.proofs.lemmas.Option.{slice_get_cases}
use Rattle.std.proofs.lemmas.Slice.Eq.{bytes_eq-Decides}
use Rattle.std.proofs.lemmas.Bool.{or_parts}
use Rattle.sd_base.proofs.ElementsKeepPlaces.{any-map, push-all}
use Rattle.sd_base.proofs.ByteTestsDecide.{bytes_turned}
use Rattle.graph_reader.specs.declared.actors.Actor.{Actor}
use Rattle.graph_reader.specs.Sections.{is_among, numbered}
use Rattle.graph_reader.specs.Register.{AreNamed, tested}

prefix-map : {X Y : Type 0} (f : X → Y) (test : Y → Bool) (xs : List X) → position_or_len (λ x. test (f x)) xs ≡ position_or_len test (map f xs)
prefix-map f test [] = refl
prefix-map f test (x ∷ xs) = ap (λ n. cond (not (test (f x))) (1 + n) 0) (prefix-map f test xs)

length-mapped : {X Y : Type 0} (f : X → Y) (xs : List X) → length xs ≡ length (map f xs)
length-mapped f [] = refl
length-mapped f (x ∷ xs) = ap suc (length-mapped f xs)

position-map : {X Y : Type 0} (f : X → Y) (test : Y → Bool) (xs : List X) → position (λ x. test (f x)) xs ≡ position test (map f xs)
position-map f test xs = ap₂ (λ n len. cond (nat_lt n len) (Some n) None) (prefix-map f test xs) (length-mapped f xs)

module _ {K R : Type 0} (text : K → List ℕ) (name_of : R → List ℕ) (keys : List K) (rows : List R) (named : AreNamed (map name_of rows) (map text keys)) (name : List ℕ) where
  -- a name is among the keys exactly where a row has it
  pub key-among : list_any (λ k. bytes_eq name (text k)) keys ≡ is_among name (map name_of rows)
  key-among =
      any-map text (λ n. bytes_eq name n) keys ∙ ap (list_any (λ n. bytes_eq name n)) named.same ∙ (λ i. list_any (λ n. bytes_turned name n i) (map name_of rows))

  -- it has the number of the row
  pub key-number : position (λ k. bytes_eq name (text k)) keys ≡ position (λ r. bytes_eq (name_of r) name) rows
  key-number =
      position-map text (λ n. bytes_eq name n) keys ∙ ap (position (λ n. bytes_eq name n)) named.same
      ∙ (λ i. position (λ n. bytes_turned name n i) (map name_of rows)) ∙ sym (position-map name_of (λ n. bytes_eq n name) rows)

module _ {R : Type 0} (test : R → Bool) (rows : List R) where
  pub number-some : (k : ℕ) → position test rows ≡ Some k → position_or_len test rows ≡ k
  number-some k = go (nat_lt (position_or_len test rows) (length rows))
    where
      go : (b : Bool) → cond b (Some (position_or_len test rows)) None ≡ Some k → position_or_len test rows ≡ k
      go true e = cc (e)
      go false e = absurd (cc)

  pub number-none : position test rows ≡ None → slice_get rows (position_or_len test rows) ≡ None
  number-none e = elim ((slice_get_cases rows (position_or_len test rows)).1) [
    | inl h ↦
        let within : position test rows ≡ Some (position_or_len test rows) = ap (λ b. cond b (Some (position_or_len test rows)) None) (lt-ltb (position_or_len test rows) (length rows) h.1) in
        absurd (cc (within, e))
    | inr h ↦ h.1
  ]

  -- the row that is found is the one of the number
  pub found-some : (k : ℕ) → position test rows ≡ Some k → find test rows ≡ slice_get rows k
  found-some k e = find_at test rows ∙ ap (slice_get rows) (number-some k e)

  pub found-none : position test rows ≡ None → find test rows ≡ None
  found-none e = find_at test rows ∙ number-none e

-- no other row has the name
module _ {R : Type 0} (name_of : R → List ℕ) (test : R → Bool) (name : List ℕ) where
  abbrev has_name : R → Bool
  has_name r = bytes_eq (name_of r) name

  none-later : (first : List ℕ) (rows : List R) → first ≡ name → AllByRecursion (λ n. bytes_eq first n ≡ false) (map name_of rows) → find (λ r. has_name r && test r) rows ≡ None
  none-later first [] same apart = refl
  none-later first (r ∷ rows) same apart =
      let other : has_name r ≡ false = bytes_turned (name_of r) name ∙ ap (λ n. bytes_eq n (name_of r)) (sym same) ∙ apart.0 in
      rw other (none-later first rows same apart.1)

  pub alone : (rows : List R) → IsDistinct bytes_eq (map name_of rows) → find (λ r. has_name r && test r) rows ≡ tested test (find has_name rows)
  unfolding IsDistinct
  alone [] apart = refl
  alone (r ∷ rows) apart = go (has_name r) (test r) refl refl (alone rows apart.1)
    where
      go : (b t : Bool) → has_name r ≡ b → test r ≡ t → find (λ x. has_name x && test x) rows ≡ tested test (find has_name rows)
          → cond (b && t) (Some r) (find (λ x. has_name x && test x) rows) ≡ tested test (cond b (Some r) (find has_name rows))
      go true true here passes later = rw passes refl
      go true false here passes later = none-later (name_of r) rows ((bytes_eq-Decides (name_of r) name).0 here) apart.0 ∙ rw passes refl
      go false t here passes later = later

differ-more : (names : List (List ℕ)) (name : List ℕ) → is_among name names ≡ false → IsDistinct bytes_eq names → IsDistinct bytes_eq (names ++ name ∷ [])
unfolding IsDistinct
differ-more [] name new apart = (tt, tt)
differ-more (n ∷ names) name new apart =
    let p = or_parts (bytes_eq n name) (is_among name names) new in
    (push-all (λ m. bytes_eq n m ≡ false) names name apart.0 p.0, differ-more names name p.1 apart.1)

pub named-more : {K R : Type 0} (text : K → List ℕ) (name_of : R → List ℕ) (keys more : List K) (rows more_rows : List R) (key : K) (row : R) → AreNamed (map name_of rows) (map text keys)
    → is_among (name_of row) (map name_of rows) ≡ false → text key ≡ name_of row → more ≡ keys ++ key ∷ [] → more_rows ≡ rows ++ row ∷ [] → AreNamed (map name_of more_rows) (map text more)
named-more text name_of keys more rows more_rows key row named new same keys_are rows_are =
    let names : map name_of more_rows ≡ map name_of rows ++ name_of row ∷ [] = ap (map name_of) rows_are ∙ map-append name_of rows (row ∷ []) in
    let texts : map text more ≡ map text keys ++ text key ∷ [] = ap (map text) keys_are ∙ map-append text keys (key ∷ []) in
    record {
      same = texts ∙ ap₂ (λ l n. l ++ n ∷ []) named.same same ∙ sym names;
      differ = rw names (differ-more (map name_of rows) (name_of row) new named.differ);
    }

-- the number of an actor, and the actor
pub numbered-at : (actors : List Actor) (i : ℕ) (name : List ℕ)
    → numbered i name actors ≡ option_map {U = ℕ × Actor} (λ a. (i + position_or_len (λ (a : Actor). bytes_eq a.name name) actors, a)) (slice_get actors (position_or_len (λ (a : Actor). bytes_eq a.name name) actors))
numbered-at [] i name = refl
numbered-at (a ∷ actors) i name = go (bytes_eq a.name name) (numbered-at actors (i + 1) name)
  where
    rest : ℕ
    rest = position_or_len (λ (b : Actor). bytes_eq b.name name) actors

    go : (b : Bool) → numbered (i + 1) name actors ≡ option_map {U = ℕ × Actor} (λ x. (i + 1 + rest, x)) (slice_get actors rest)
        → cond b (Some (i, a)) (numbered (i + 1) name actors)
        ≡ option_map {U = ℕ × Actor} (λ x. (i + cond (not b) (1 + rest) 0, x)) (slice_get (a ∷ actors) (cond (not b) (1 + rest) 0))
    go true later = ap (λ n. Some (n, a)) (sym (add-zero i))
    go false later =
        let next : 1 + rest ≡ suc rest = omega arith in
        let number : i + 1 + rest ≡ i + (1 + rest) = omega arith in
        later ∙ ap (λ n. option_map {U = ℕ × Actor} (λ x. (n, x)) (slice_get actors rest)) number
        ∙ ap (λ k. option_map {U = ℕ × Actor} (λ x. (i + (1 + rest), x)) (slice_get (a ∷ actors) k)) (sym next)

abbrev pub is_named : List ℕ → Actor → Bool
is_named name a = bytes_eq a.name name

pub numbered-none : (actors : List Actor) (name : List ℕ) → position (is_named name) actors ≡ None → numbered 0 name actors ≡ None
numbered-none actors name e =
    numbered-at actors 0 name ∙ ap (option_map {U = ℕ × Actor} (λ a. (0 + position_or_len (is_named name) actors, a))) (number-none (is_named name) actors e)

pub numbered-some : (actors : List Actor) (name : List ℕ) (k : ℕ) (found : Option Actor) → position (is_named name) actors ≡ Some k → found ≡ slice_get actors k
    → option_map {U = ℕ × Actor} (λ a. (k, a)) found ≡ numbered 0 name actors
numbered-some actors name k found e is =
    let place : position_or_len (is_named name) actors ≡ k = number-some (is_named name) actors k e in
    let number : k ≡ 0 + position_or_len (is_named name) actors = omega arith in
    ap (option_map {U = ℕ × Actor} (λ a. (k, a))) (is ∙ ap (slice_get actors) (sym place))
    ∙ ap (λ n. option_map {U = ℕ × Actor} (λ a. (n, a)) (slice_get actors (position_or_len (is_named name) actors))) number ∙ sym (numbered-at actors 0 name)
