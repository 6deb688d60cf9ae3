-- The ends in a calendar.
use Rattle.std.proofs.Common.{◌≡◌, ℕ, ◌≤◌, ◌<◌, List, [], ◌∷◌, ◌++◌, length, refl, sym, ◌∙◌, ⊎_elim, arith}
use Rattle.std.specs.Prelude.{slice_index_or, Option, Some, None, IfSome, All, IsPermutation}
use Rattle.std.specs.List.{swap_remove}
use Rattle.std.proofs.lemmas.Bool.{cases_lt}
use Rattle.std.proofs.lemmas.List.{append-nil, get_or_default}
use Rattle.std.proofs.lemmas.List.Elements.{All-append, All-cons, All-nil, Contains-append_left, Contains-append_right}
use Rattle.std.proofs.lemmas.List.Sorted.{IsPermutation-append_comm, IsPermutation-swap_remove}
use Rattle.selftimed.specs.inside.EventQueues.{Entry, entry, IsSoonest, TakesDue}

-- ---- the soonest end of a list

pub soonest-new : (xs : List Entry) (soonest : Option ℕ) (e : Entry) → IfSome soonest (λ t. e.0.0 < t) → IsSoonest xs soonest → IsSoonest (xs ++ e ∷ []) (Some e.0.0)
soonest-new xs soonest e sooner is = (
  (e.1, Contains-append_right xs (e ∷ []) (entry e.0.0 e.1) (0, omega arith, refl)),
  All-append (λ (x : Entry). e.0.0 ≤ x.0.0) xs (e ∷ []) (rest soonest sooner is) (All-cons (λ (x : Entry). e.0.0 ≤ x.0.0) e [] (omega arith) (All-nil (λ (x : Entry). e.0.0 ≤ x.0.0))),
)
  where
    rest : (o : Option ℕ) → IfSome o (λ t. e.0.0 < t) → IsSoonest xs o → All (λ (x : Entry). e.0.0 ≤ x.0.0) xs
    rest None before none = rw none (All-nil (λ (x : Entry). e.0.0 ≤ x.0.0))
    rest (Some t) before some = λ k d place. omega (arith, some.1 k d place)

pub soonest-old : (xs : List Entry) (soonest : Option ℕ) (e : Entry) → (IfSome soonest (λ t. e.0.0 < t) → ⊥) → IsSoonest xs soonest → IsSoonest (xs ++ e ∷ []) soonest
soonest-old xs None e later is = absurd (later tt)
soonest-old xs (Some t) e later is = (
  (is.0.0, Contains-append_left xs (e ∷ []) (entry t is.0.0) is.0.1),
  All-append (λ (x : Entry). t ≤ x.0.0) xs (e ∷ []) is.1 (All-cons (λ (x : Entry). t ≤ x.0.0) e [] le (All-nil (λ (x : Entry). t ≤ x.0.0))),
)
  where
    le : t ≤ e.0.0
    le = ⊎_elim (λ (h : e.0.0 < t). absurd (later h)) (λ (h : t ≤ e.0.0). h) (cases_lt e.0.0 t)

-- ---- entries come and go in a list of few

pub added : (xs ys more : List Entry) (e : Entry) → ys ≡ [] → more ≡ xs ++ e ∷ [] → IsPermutation (e ∷ xs ++ ys) (more ++ ys)
added xs ys more e none is = rw none (rw (append-nil xs) (rw (append-nil more) (rw is (IsPermutation-append_comm (e ∷ []) xs))))

pub taken : (moment place : ℕ) (xs ys more : List Entry) (x : Entry) → ys ≡ [] → place < length xs → x ≡ slice_index_or xs place x → (slice_index_or xs place (entry 0 0)).0.0 ≤ moment → more ≡ swap_remove xs place x →
    TakesDue moment (xs ++ ys) (more ++ ys) (Some x.1)
taken moment place xs ys more x none below is past removed =
    let here : slice_index_or xs place (entry 0 0) ≡ x = get_or_default xs place (entry 0 0) x below ∙ sym is in
    rw none (rw (append-nil xs) (rw (append-nil more) (rw removed (x.0.0, (rw here at past), IsPermutation-swap_remove xs place x below is))))
