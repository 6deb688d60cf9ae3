-- Equal cycles are the same, and are listed once.
use Rattle.std.proofs.Common.{◌≡◌, ℕ, zero, suc, ◌<◌, Bool, true, false, ◌&&◌, List, [], ◌∷◌, ◌++◌, length, map, get_or, slice_get, Some, eqb, eq-eqb, refl, sym, ap, inl, inr, ◌∙◌, true≢false, if◌then◌else◌, arith}
use Rattle.std.specs.Cmp.{first_so, second_so}
use Rattle.std.specs.Cmp.Lexicographic.{pointwise}
use Rattle.std.specs.List.{IsDistinct, list_any, position_or_len}
use Rattle.std.specs.Option.{option_map}
use Rattle.std.proofs.lemmas.Bool.{eqb-true}
use Rattle.std.proofs.lemmas.List.{length-map, map-append}
use Rattle.std.proofs.lemmas.Map.Keys.{apart_from_distinct}
use Rattle.std.proofs.lemmas.Option.{slice_get-map}
use Rattle.sd_base.specs.declared.role.Role.{Role}
use Rattle.sd_base.specs.declared.role.Role.TheVariants.{Token, Own, Space, Order}
use Rattle.sd_base.specs.contracts.role.RolePartialEq.TheImpl as roles
use Rattle.sd_base.proofs.ElementsKeepPlaces.{place-none}
use Rattle.cert_text.specs.contracts.certificates.LinkStepPartialEq.TheImpl as steps
use Rattle.cert_maker.specs.contracts.listing.ListedCyclePartialEq.TheImpl as cycles
use Rattle.cert_text.specs.declared.certificates.LinkStep.{LinkStep}
use Rattle.cert_maker.specs.declared.listing.ListedCycle.{ListedCycle}
use Rattle.cert_text.specs.MemberLines.{cycle_at, no_cycle}
use Rattle.cert_text.specs.Orderly.{Differ}
use Rattle.cert_maker.specs.inside.Listing.{IsEntered, cycle_of, listed_of}

-- ---- the derived tests tell equality

role-same : (r s : Role) → (roles.ghosts).eq r s ≡ true → r ≡ s
role-same (Token a) (Token b) h = ap Token (eqb-true a b h)
role-same (Own a) (Own b) h = ap Own (eqb-true a b h)
role-same (Space a) (Space b) h = ap Space (eqb-true a b h)
role-same (Order a b) (Order c d) h = λ i. Order (eqb-true a c (first_so (eqb a c) (eqb b d) h) i) (eqb-true b d (second_so (eqb a c) (eqb b d) h) i)
role-same r s h = absurd (cc)

role-refl : (r : Role) → (roles.ghosts).eq r r ≡ true
role-refl (Token a) = eq-eqb a a refl
role-refl (Own a) = eq-eqb a a refl
role-refl (Space a) = eq-eqb a a refl
role-refl (Order a b) = λ i. eq-eqb a a refl i && eq-eqb b b refl i

step-same : (x y : LinkStep) → (steps.ghosts).eq x y ≡ true → x ≡ y
step-same x y h =
    let firing : (eqb x.to.actor y.to.actor && eqb x.to.number y.to.number) ≡ true = first_so (eqb x.to.actor y.to.actor && eqb x.to.number y.to.number) ((roles.ghosts).eq x.link y.link) h in
    let actor : x.to.actor ≡ y.to.actor = eqb-true x.to.actor y.to.actor (first_so (eqb x.to.actor y.to.actor) (eqb x.to.number y.to.number) firing) in
    let number : x.to.number ≡ y.to.number = eqb-true x.to.number y.to.number (second_so (eqb x.to.actor y.to.actor) (eqb x.to.number y.to.number) firing) in
    let link : x.link ≡ y.link = role-same x.link y.link (second_so (eqb x.to.actor y.to.actor && eqb x.to.number y.to.number) ((roles.ghosts).eq x.link y.link) h) in
    λ i. record { to = record { actor = actor i; number = number i }; link = link i }

step-refl : (x : LinkStep) → (steps.ghosts).eq x x ≡ true
step-refl x = λ i. (eq-eqb x.to.actor x.to.actor refl i && eq-eqb x.to.number x.to.number refl i) && role-refl x.link i

steps-same : (xs ys : List LinkStep) → pointwise (steps.ghosts).eq xs ys ≡ true → xs ≡ ys
steps-same [] [] h = refl
steps-same [] (y ∷ ys) h = absurd (true≢false (sym h))
steps-same (x ∷ xs) [] h = absurd (true≢false (sym h))
steps-same (x ∷ xs) (y ∷ ys) h =
    let here : (steps.ghosts).eq x y ≡ true = first_so ((steps.ghosts).eq x y) (pointwise (steps.ghosts).eq xs ys) h in
    let rest : pointwise (steps.ghosts).eq xs ys ≡ true = second_so ((steps.ghosts).eq x y) (pointwise (steps.ghosts).eq xs ys) h in
    λ i. step-same x y here i ∷ steps-same xs ys rest i

steps-refl : (xs : List LinkStep) → pointwise (steps.ghosts).eq xs xs ≡ true
steps-refl [] = refl
steps-refl (x ∷ xs) = λ i. step-refl x i && steps-refl xs i

listed-same : (x y : ListedCycle) → (cycles.ghosts).eq x y ≡ true → x ≡ y
listed-same x y h =
    let first_eq : Bool = eqb x.first.actor y.first.actor && eqb x.first.number y.first.number in
    let steps_eq : Bool = pointwise (steps.ghosts).eq x.steps y.steps in
    let later : (eqb x.rounds y.rounds && (first_eq && steps_eq)) ≡ true = second_so (eqb x.time y.time) (eqb x.rounds y.rounds && (first_eq && steps_eq)) h in
    let last : (first_eq && steps_eq) ≡ true = second_so (eqb x.rounds y.rounds) (first_eq && steps_eq) later in
    let firing : (eqb x.first.actor y.first.actor && eqb x.first.number y.first.number) ≡ true = first_so first_eq steps_eq last in
    let time : x.time ≡ y.time = eqb-true x.time y.time (first_so (eqb x.time y.time) (eqb x.rounds y.rounds && (first_eq && steps_eq)) h) in
    let rounds : x.rounds ≡ y.rounds = eqb-true x.rounds y.rounds (first_so (eqb x.rounds y.rounds) (first_eq && steps_eq) later) in
    let actor : x.first.actor ≡ y.first.actor = eqb-true x.first.actor y.first.actor (first_so (eqb x.first.actor y.first.actor) (eqb x.first.number y.first.number) firing) in
    let number : x.first.number ≡ y.first.number = eqb-true x.first.number y.first.number (second_so (eqb x.first.actor y.first.actor) (eqb x.first.number y.first.number) firing) in
    let steps_same : x.steps ≡ y.steps = steps-same x.steps y.steps (second_so first_eq steps_eq last) in
    λ i. record { time = time i; rounds = rounds i; first = record { actor = actor i; number = number i }; steps = steps_same i }

listed-refl : (x : ListedCycle) → (cycles.ghosts).eq x x ≡ true
listed-refl x = λ i. eq-eqb x.time x.time refl i && (eq-eqb x.rounds x.rounds refl i && ((eq-eqb x.first.actor x.first.actor refl i && eq-eqb x.first.number x.first.number refl i) && steps-refl x.steps i))

-- ---- cycles in a set

listed-at : (ks : List ListedCycle) (i : ℕ) → cycle_at (map cycle_of ks) i ≡ cycle_of (get_or ks i (listed_of no_cycle))
listed-at [] i = refl
listed-at (k ∷ ks) zero = refl
listed-at (k ∷ ks) (suc i) = listed-at ks i

-- the cycles of a set differ
pub distinct-differ : (ks : List ListedCycle) → IsDistinct (cycles.ghosts).eq ks → Differ (map cycle_of ks)
distinct-differ ks distinct i j less below same =
    let no : ListedCycle = listed_of no_cycle in
    let there : j < length ks = omega (arith, below, length-map ks cycle_of) in
    let apart : (cycles.ghosts).eq (get_or ks i no) (get_or ks j no) ≡ false = apart_from_distinct (cycles.ghosts).eq ks i j no distinct less there in
    let one : get_or ks i no ≡ get_or ks j no = ap listed_of (sym (listed-at ks i) ∙ same ∙ listed-at ks j) in
    true≢false (sym (listed-refl (get_or ks i no)) ∙ ap (λ (k : ListedCycle). (cycles.ghosts).eq (get_or ks i no) k) one ∙ apart)

-- a cycle that is found is the same
pub listed-there : (ks : List ListedCycle) (i : ℕ) (value k : ListedCycle) → slice_get ks i ≡ Some k → (cycles.ghosts).eq value k ≡ true → slice_get (map cycle_of ks) i ≡ Some (cycle_of value)
listed-there ks i value k there same =
    slice_get-map cycle_of ks i ∙ ap (option_map cycle_of) there ∙ ap (λ (c : ListedCycle). Some (cycle_of c)) (sym (listed-same value k same))

-- a cycle that is entered has its number
pub listed-entered : (old new : List ListedCycle) (value : ListedCycle) (i : ℕ) → new ≡ (if list_any ((cycles.ghosts).eq value) old then old else old ++ value ∷ []) → i ≡ position_or_len ((cycles.ghosts).eq value) old
    → i < length new → IsEntered (map cycle_of old) (cycle_of value) i (map cycle_of new)
listed-entered old new value i keys index within = by (list_any ((cycles.ghosts).eq value) old) refl
  where
    by : (b : Bool) → list_any ((cycles.ghosts).eq value) old ≡ b → IsEntered (map cycle_of old) (cycle_of value) i (map cycle_of new)
    by true is =
        let same : new ≡ old = keys ∙ ap (λ (b : Bool). if b then old else old ++ value ∷ []) is in
        inl (omega (arith, within, ap length same, length-map old cycle_of), ap (map cycle_of) same)
    by false is =
        let more : new ≡ old ++ value ∷ [] = keys ∙ ap (λ (b : Bool). if b then old else old ++ value ∷ []) is in
        inr (index ∙ place-none ((cycles.ghosts).eq value) old is ∙ sym (length-map old cycle_of), ap (map cycle_of) more ∙ map-append cycle_of old (value ∷ []))
