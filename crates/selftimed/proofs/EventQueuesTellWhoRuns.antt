-- What event queues say of the actors.
use Rattle.std.proofs.Common.{◌≡◌, ◌≢◌, ℕ, zero, suc, ◌+◌, ◌-◌, ◌≤◌, ◌<◌, true, List, [], ◌∷◌, length, Some, ⊎_elim, subst, sym, refl, ap, ◌∙◌, arith}
use Rattle.std.specs.Prelude.{slice_index, slice_index_or, slice_get, ◌==◌, Option, All, Contains, IsPermutation}
use Rattle.std.specs.List.{list_any, sum_by}
use Rattle.std.specs.Option.{is_some}
use Rattle.std.proofs.lemmas.Bool.{cases_lt, eq-eqb, eqb-true, false≢true}
use Rattle.std.proofs.lemmas.List.{get_or_past}
use Rattle.std.proofs.lemmas.List.Folds.{Any-from_list_any, list_any_at}
use Rattle.std.proofs.lemmas.List.Elements.{All-cons, All-contains}
use Rattle.std.proofs.lemmas.List.Sorted.{All-permutation, Contains-permutation, sum_by_pushed, sum_by_popped}
use Rattle.sd_base.specs.Net.{Net}
use Rattle.selftimed.specs.declared.actors.ActorState.{ActorState}
use Rattle.selftimed.specs.inside.Actors.{idle, running_in, IsFirstEnd, IsQuiet}
use Rattle.selftimed.specs.inside.EventQueues.{Entry, entry, IsSoonest, Announces, IsFirst, HasEntries, IsEventQueue}

-- an actor that runs is one of the list
pub runs-place : (actors : List ActorState) (a : ℕ) → 0 < length (running_in actors a) → a < length actors
runs-place actors a some = ⊎_elim
    (λ (h : a < length actors). h)
    (λ (past : length actors ≤ a).
    let none : length (running_in actors a) ≡ 0 = ap (λ (s : ActorState). length s.running) (get_or_past actors a idle past) in
    absurd (omega arith))
    (cases_lt a (length actors))

-- ---- what is listed

-- a test of numbers finds one of a list
pub has-number : (xs : List ℕ) (a : ℕ) → list_any (λ (x : ℕ). x == a) xs ≡ true → Contains xs a
has-number xs a holds =
    let found = Any-from_list_any (λ (x : ℕ). x == a) xs holds in
    subst (Contains xs) (eqb-true found.1 a found.4) (found.0, found.2, found.3)

pub number-found : (xs : List ℕ) (a : ℕ) → Contains xs a → list_any (λ (x : ℕ). x == a) xs ≡ true
number-found xs a (k, below, is) = list_any_at (λ (x : ℕ). x == a) xs k a below (eq-eqb (slice_index_or xs k a) a is)

-- each actor that runs has an entry with its first end
abbrev pub HasFirsts : List ActorState → List Entry → Type 0
HasFirsts actors ends = (a : ℕ) → 0 < length (running_in actors a) → Contains ends (entry (slice_index (running_in actors a) 0) a)

pub has-firsts : (actors : List ActorState) (ends : List Entry) → All (IsFirst actors) ends → HasEntries actors ends → HasFirsts actors ends
has-firsts actors ends firsts whole a some =
    let found = Any-from_list_any (λ (e : Entry). e.1 == a) ends (whole a some) in
    let e : Entry = found.1 in
    let has : Contains ends e = (found.0, found.2, found.3) in
    let first : IsFirst actors e = All-contains (IsFirst actors) ends e firsts has in
    subst (λ (x : ℕ). Contains ends (entry (slice_index (running_in actors x) 0) x)) (eqb-true e.1 a found.4)
    (subst (λ (y : ℕ). Contains ends (entry y e.1)) (sym first.1) has)

pub entries-found : (actors : List ActorState) (ends : List Entry) → HasFirsts actors ends → HasEntries actors ends
entries-found actors ends whole a some =
    let has : Contains ends (entry (slice_index (running_in actors a) 0) a) = whole a some in
    list_any_at (λ (e : Entry). e.1 == a) ends has.0 (entry (slice_index (running_in actors a) 0) a) has.1
    (eq-eqb (slice_index_or ends has.0 (entry (slice_index (running_in actors a) 0) a)).1 a (ap (λ (e : Entry). e.1) has.2))

-- an actor with a first end runs
pub busy-from : (runs : List ℕ) (first : Option ℕ) → first ≡ slice_get runs 0 → is_some first ≡ true → 0 < length runs
busy-from [] first is some = absurd (false≢true (sym (ap is_some is) ∙ some))
busy-from (end ∷ more) first is some = omega arith

-- ---- the soonest end

module _ (net : Net) (actors : List ActorState) (ends : List Entry) (touched : List ℕ) (event_queue : IsEventQueue net actors ends touched) where
  -- without an entry nothing runs
  pub quiet-from : ends ≡ [] → IsQuiet actors
  quiet-from none a place = ⊎_elim
      (λ (some : 0 < length (running_in actors a)).
      let found : Contains ends (entry (slice_index (running_in actors a) 0) a) = has-firsts actors ends event_queue.firsts event_queue.whole a some in
      let below : found.0 < length ends = found.1 in
      let short : length ends ≡ 0 = ap length none in
      absurd (omega arith))
      (λ (few : length (running_in actors a) ≤ 0). omega arith)
      (cases_lt 0 (length (running_in actors a)))

  pub first-from : (t : ℕ) → IsSoonest ends (Some t) → IsFirstEnd actors t
  first-from t soonest =
      let first : IsFirst actors (entry t soonest.0.0) = All-contains (IsFirst actors) ends (entry t soonest.0.0) event_queue.firsts soonest.0.1 in
      record {
        below = λ b place some. All-contains (λ (e : Entry). t ≤ e.0.0) ends (entry (slice_index (running_in actors b) 0) b) soonest.1 (has-firsts actors ends event_queue.firsts event_queue.whole b some);
        there = (soonest.0.0, runs-place actors soonest.0.0 first.0, first.0, first.1);
      }

-- ---- entries come and go

-- what a list holds besides an entry that is taken off
pub besides : (old new : List Entry) (x y : Entry) → IsPermutation old (x ∷ new) → y.1 ≢ x.1 → Contains old y → Contains new y
besides old new x y taken away has = step (Contains-permutation old (x ∷ new) y taken has)
  where
    step : Contains (x ∷ new) y → Contains new y
    step (zero, below, is) = absurd (away (ap (λ (e : Entry). e.1) (sym is)))
    step (suc k, below, is) = (k, omega arith, is)

later : (old new : List Entry) (x y : Entry) → IsPermutation (x ∷ old) new → Contains old y → Contains new y
later old new x y pushed (k, below, is) = Contains-permutation (x ∷ old) new y pushed (suc k, omega arith, is)

module _ (a : ℕ) (old new : List Entry) where
  pub announced-kept : (runs : List ℕ) (y : Entry) → Announces a runs old new → Contains old y → Contains new y
  announced-kept [] y same has = rw same has
  announced-kept (end ∷ more) y pushed has = later old new (entry end a) y pushed has

  pub announced-there : (runs : List ℕ) → Announces a runs old new → 0 < length runs → Contains new (entry (slice_index runs 0) a)
  announced-there [] same some = absurd (omega arith)
  announced-there (end ∷ more) pushed some = Contains-permutation (entry end a ∷ old) new (entry end a) pushed (0, omega arith, refl)

  pub announced-all : (runs : List ℕ) (P : Entry → Type 0) → Announces a runs old new → All P old → (0 < length runs → P (entry (slice_index runs 0) a)) → All P new
  announced-all [] P same all one = rw same all
  announced-all (end ∷ more) P pushed all one = All-permutation P (entry end a ∷ old) new pushed (All-cons P (entry end a) old (one (omega arith)) all)

-- 1 for an end that has come by a moment
pub due : ℕ → Entry → ℕ
due moment e = 1 - (e.0.0 - moment)

-- fewer ends are due once one is taken off and a later one is noted
pub fewer-due : (moment t a : ℕ) (runs : List ℕ) (old mid new : List Entry) → t ≤ moment → IsPermutation old (entry t a ∷ mid) → Announces a runs mid new → (0 < length runs → moment < slice_index runs 0) →
    sum_by (due moment) new < sum_by (due moment) old
unfolding due
fewer-due moment t a [] old mid new past taken same late =
    let popped : sum_by (due moment) mid + (1 - (t - moment)) ≡ sum_by (due moment) old = sum_by_popped (due moment) (entry t a) old mid taken in
    rw same (omega arith)
fewer-due moment t a (end ∷ more) old mid new past taken pushed late =
    let popped : sum_by (due moment) mid + (1 - (t - moment)) ≡ sum_by (due moment) old = sum_by_popped (due moment) (entry t a) old mid taken in
    let one : sum_by (due moment) new ≡ (1 - (end - moment)) + sum_by (due moment) mid = sum_by_pushed (due moment) (entry end a) mid new pushed in
    let after : moment < end = late (omega arith) in
    omega arith

-- ---- a list of all actors
