-- The actors of which firings start at an event are listed.
use Rattle.std.proofs.Common.{◌≡◌, ◌≢◌, ℕ, ◌+◌, ◌≤◌, ◌<◌, Bool, true, false, List, [], ◌∷◌, ◌++◌, length, ⊎_elim, sym, refl, ap, ◌∙◌, arith, set}
use Rattle.std.specs.Prelude.{All, nat_eq, slice_index_or, nat_lt, if◌then◌else◌}
use Rattle.std.specs.List.{list_any, IsDistinct}
use Rattle.std.proofs.lemmas.Bool.{cases_lt, cases_eq, eqb-true, false≢true, lt-ltb, le-ltb}
use Rattle.std.proofs.lemmas.Cmp.{nat_eq_equiv}
use Rattle.std.proofs.lemmas.List.{get_or-set_same, get_or-set_other}
use Rattle.std.proofs.lemmas.List.Elements.{All-contains, All-nil, All-push, All-weaker, Contains-push, Contains-append_left}
use Rattle.std.proofs.lemmas.List.Folds.{Any-from_list_any}
use Rattle.std.proofs.lemmas.Map.Keys.{IsDistinct-push}
use Rattle.sd_base.specs.Net.{Net}
use Rattle.sd_base.specs.Schedules.{count_of}
use Rattle.sd_base.specs.SelfTimed.{earliest}
use Rattle.selftimed.specs.declared.actors.ActorState.{ActorState}
use Rattle.selftimed.specs.inside.Actors.{idle, started_in, touched_in, HaveStarted}
use Rattle.selftimed.specs.Moves.{AreStarters}
use Rattle.selftimed.proofs.EventQueuesTellWhoRuns.{has-number, number-found}

is-false : (b : Bool) → (b ≡ true → ⊥) → b ≡ false
is-false true never = absurd (never refl)
is-false false never = refl

-- an actor that is to be looked at isn't among those that aren't
not-among : (now : List ActorState) (a : ℕ) (list : List ℕ) → All (λ b. touched_in now b ≡ false) list → touched_in now a ≡ true → list_any (nat_eq a) list ≡ false
not-among now a list calm on = is-false (list_any (nat_eq a) list) (λ is.
    let found = Any-from_list_any (nat_eq a) list is in
    let off : touched_in now found.1 ≡ false = All-contains (λ (b : ℕ). touched_in now b ≡ false) list found.1 calm (found.0, found.2, found.3) in
    false≢true (sym off ∙ rw (← eqb-true a found.1 found.4) on))

-- with the firings of one more actor
module _ (net : Net) (first now : List ActorState) (a n : ℕ) (s : ActorState) (list : List ℕ) (so_far : HaveStarted net first now list) (actor : a < length net.times) (place : a < length now) (count : s.started ≡ started_in now a + n)
    (same : started_in now a ≡ started_in first a) (on : touched_in now a ≡ true) (off : s.touched ≡ false) where
  started-other : (b : ℕ) → b ≢ a → started_in (set now a s) b ≡ started_in now b
  started-other b away = ap (λ (x : ActorState). x.started) (get_or-set_other now a b s idle away)

  started-here : started_in (set now a s) a ≡ started_in now a + n
  started-here = ap (λ (x : ActorState). x.started) (get_or-set_same now a s idle place) ∙ count

  still-calm : (b : ℕ) → touched_in now b ≡ false → touched_in (set now a s) b ≡ false
  still-calm b calm = ⊎_elim
      (λ (e : b ≡ a). rw e (ap (λ (x : ActorState). x.touched) (get_or-set_same now a s idle place) ∙ off))
      (λ (away : b ≢ a). ap (λ (x : ActorState). x.touched) (get_or-set_other now a b s idle away) ∙ calm)
      (cases_eq b a)

  still-starts : (b : ℕ) → started_in first b < started_in now b → started_in first b < started_in (set now a s) b
  still-starts b less = ⊎_elim
      (λ (e : b ≡ a). rw e (let here = started-here in omega (arith, rw e at less)))
      (λ (away : b ≢ a). rw (started-other b away) less)
      (cases_eq b a)

  all-start : All (λ b. started_in first b < started_in (set now a s) b) list
  all-start = All-weaker (λ (b : ℕ). started_in first b < started_in now b) (λ (b : ℕ). started_in first b < started_in (set now a s) b) still-starts list so_far.start

  all-calm : All (λ b. touched_in (set now a s) b ≡ false) list
  all-calm = All-weaker (λ (b : ℕ). touched_in now b ≡ false) (λ (b : ℕ). touched_in (set now a s) b ≡ false) still-calm list so_far.calm

  some-more : 0 < n → HaveStarted net first (set now a s) (list ++ a ∷ [])
  some-more some = record {
    actors = All-push (λ (b : ℕ). b < length net.times) list a so_far.actors actor;
    start = All-push (λ (b : ℕ). started_in first b < started_in (set now a s) b) list a all-start (let here = started-here in omega (arith, here, same));
    calm = All-push (λ (b : ℕ). touched_in (set now a s) b ≡ false) list a all-calm (ap (λ (x : ActorState). x.touched) (get_or-set_same now a s idle place) ∙ off);
    listed = λ b is less. ⊎_elim
        (λ (e : b ≡ a). rw e (number-found (list ++ a ∷ []) a (Contains-push list a)))
        (λ (away : b ≢ a). number-found (list ++ a ∷ []) b (Contains-append_left list (a ∷ []) b (has-number list b (so_far.listed b is (rw (started-other b away) at less)))))
        (cases_eq b a);
    once = IsDistinct-push nat_eq_equiv list a so_far.once (not-among now a list so_far.calm on);
  }

  none-more : n ≡ 0 → HaveStarted net first (set now a s) list
  none-more none = record {
    actors = so_far.actors;
    start = all-start;
    calm = all-calm;
    listed = λ b is less. ⊎_elim
        (λ (e : b ≡ a). rw e (so_far.listed a actor (let here = started-here in omega (arith, rw e at less))))
        (λ (away : b ≢ a). so_far.listed b is (rw (started-other b away) at less))
        (cases_eq b a);
    once = so_far.once;
  }

  pub started-more : (more : List ℕ) → more ≡ (if nat_lt 0 n then list ++ a ∷ [] else list) → HaveStarted net first (set now a s) more
  started-more more noted = ⊎_elim
      (λ (some : 0 < n). rw (noted ∙ ap (λ (x : Bool). if x then list ++ a ∷ [] else list) (lt-ltb 0 n some)) (some-more some))
      (λ (none : n ≤ 0). rw (noted ∙ ap (λ (x : Bool). if x then list ++ a ∷ [] else list) (le-ltb 0 n none)) (none-more (omega arith)))
      (cases_lt 0 n)

-- none has started since
pub none-started : (net : Net) (actors : List ActorState) → HaveStarted net actors actors []
unfolding IsDistinct
none-started net actors = record {
  actors = All-nil (λ (a : ℕ). a < length net.times);
  start = All-nil (λ (a : ℕ). started_in actors a < started_in actors a);
  calm = All-nil (λ (a : ℕ). touched_in actors a ≡ false);
  listed = λ a is less. absurd (omega arith);
  once = tt;
}

-- those that have started since are those that start at the moment
pub starters-at : (net : Net) (t : ℕ) (old new : List ActorState) (list : List ℕ) → ((a : ℕ) → a < length net.times → started_in old a ≡ count_of (earliest net t) a) →
    ((a : ℕ) → a < length net.times → started_in new a ≡ count_of (earliest net (t + 1)) a) → HaveStarted net old new list → AreStarters net t list
starters-at net t old new list before after started = record {
  actors = started.actors;
  start = λ k d below.
      let a : ℕ = slice_index_or list k d in
      let actor : a < length net.times = started.actors k d below in
      let less : started_in old a < started_in new a = started.start k d below in
      omega (arith, before a actor, after a actor);
  listed = λ a is less. started.listed a is (omega (arith, before a is, after a is));
  once = started.once;
}
