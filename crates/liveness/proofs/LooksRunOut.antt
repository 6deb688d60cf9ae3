-- Each look leaves fewer to look at, and the actors without a flag are stopped.
use Rattle.std.proofs.Common.{◌≡◌, ◌≢◌, ℕ, zero, suc, ◌+◌, ◌*◌, ◌≤◌, ◌<◌, Bool, true, false, Some, List, [], ◌∷◌, ◌++◌, length, set, replicate, ⊎_elim, subst, sym, refl, ap, ◌∙◌, arith}
use Rattle.std.specs.Prelude.{slice_index, if◌then◌else◌, Contains}
use Rattle.std.specs.List.{range_with_len}
use Rattle.std.proofs.lemmas.Bool.{cases_eq, cases_lt, cases_Bool, false≢true}
use Rattle.std.proofs.Math.Nat.{mul-le-mul_right}
use Rattle.std.proofs.lemmas.List.{length-set, length-replicate, get_or-set_same, get_or-set_other, get_or_past}
use Rattle.std.proofs.lemmas.List.FromFn.{length-range_with_len, get_or-range_with_len}
use Rattle.std.proofs.lemmas.List.Elements.{All-push, All-pop, All-contains, Contains-push, Contains-push_cases, Contains-append_left}
use Rattle.sd_base.specs.Net.{Net, channel_at}
use Rattle.sd_base.specs.Schedules.{Needs, Lacks}
use Rattle.sd_base.proofs.FiringOrdersEnd.{left_of}
use Rattle.firing.specs.declared.sums.Port.{Port}
use Rattle.firing.specs.declared.sums.Port.TheVariants.{Made}
use Rattle.firing.specs.Wiring.{IsListed}
use Rattle.firing.proofs.PlacesAreListed.{place_of}
use Rattle.liveness.specs.inside.UntimedRuns.{IsStopped}
use Rattle.liveness.specs.inside.Looks.{flag_of, AreFlags, FlagsTargets, LeavesFlags}

-- ---- flags

-- an actor's flag is put on
flag-here : (flagged : List Bool) (t : ℕ) (b : Bool) → t < length flagged → flag_of (set flagged t b) t ≡ b
flag-here flagged t b place = get_or-set_same flagged t b false place

flag-other : (flagged : List Bool) (t : ℕ) (b : Bool) (a : ℕ) → a ≢ t → flag_of (set flagged t b) a ≡ flag_of flagged a
flag-other flagged t b a away = get_or-set_other flagged t a b false away

flags-kept : (flagged : List Bool) (t a : ℕ) → t < length flagged → flag_of flagged a ≡ true → flag_of (set flagged t true) a ≡ true
flags-kept flagged t a place on = ⊎_elim
    (λ (e : a ≡ t). rw e (flag-here flagged t true place))
    (λ (away : a ≢ t). flag-other flagged t true a away ∙ on)
    (cases_eq a t)

-- one more actor is flagged
pub flags-more : (net : Net) (flagged : List Bool) (stack more : List ℕ) (t : ℕ) → t < length net.times → AreFlags net flagged stack → more ≡ (if flag_of flagged t then stack else stack ++ t ∷ []) → AreFlags net (set flagged t true) more
flags-more net flagged stack more t actor flags listed = ⊎_elim
    (λ (on : flag_of flagged t ≡ true).
    let same : more ≡ stack = rw on at listed in
    rw same (record {
      long = length-set flagged t true ∙ flags.long;
      within = flags.within;
      listed = λ a is. ⊎_elim
          (λ (e : a ≡ t). rw e (flags.listed t on))
          (λ (away : a ≢ t). flags.listed a (sym (flag-other flagged t true a away) ∙ is))
          (cases_eq a t);
    }))
    (λ (off : flag_of flagged t ≡ false).
    let longer : more ≡ stack ++ t ∷ [] = rw off at listed in
    rw longer (record {
      long = length-set flagged t true ∙ flags.long;
      within = All-push (λ (x : ℕ). x < length net.times) stack t flags.within actor;
      listed = λ a is. ⊎_elim
          (λ (e : a ≡ t). rw e (Contains-push stack t))
          (λ (away : a ≢ t). Contains-append_left stack (t ∷ []) a (flags.listed a (sym (flag-other flagged t true a away) ∙ is)))
          (cases_eq a t);
    }))
    (cases_Bool (flag_of flagged t))

pub stack-few : (b : Bool) (stack more : List ℕ) (t : ℕ) → more ≡ (if b then stack else stack ++ t ∷ []) → length more ≤ length stack + 1
stack-few true stack more t same = rw same (omega arith)
stack-few false stack more t longer = rw longer (omega (arith, Rattle.std.proofs.lemmas.List.length_push stack t))

-- the targets of the first n channels other than t are flagged, and no flag is taken off
pub record TargetsSoFar (net : Net) (t : ℕ) (channels : List ℕ) (old now : List Bool) (n : ℕ) : Type 0 where
  pub kept : (a : ℕ) → flag_of old a ≡ true → flag_of now a ≡ true
  pub there : (j : ℕ) → j < n → (channel_at net (slice_index channels j)).target ≢ t → flag_of now (channel_at net (slice_index channels j)).target ≡ true

pub targets-more : (net : Net) (t : ℕ) (channels : List ℕ) (old now : List Bool) (n b : ℕ) → b < length now → b ≡ (channel_at net (slice_index channels n)).target → TargetsSoFar net t channels old now n →
    TargetsSoFar net t channels old (set now b true) (n + 1)
targets-more net t channels old now n b place into so_far = record {
  kept = λ a is. flags-kept now b a place (so_far.kept a is);
  there = λ j h apart. ⊎_elim
      (λ (before : j < n). flags-kept now b (channel_at net (slice_index channels j)).target place (so_far.there j before apart))
      (λ (here : n ≤ j). let same : j ≡ n = omega arith in rw (same, ← into) (flag-here now b true place))
      (cases_lt j n);
}

pub targets-skip : (net : Net) (t : ℕ) (channels : List ℕ) (old now : List Bool) (n : ℕ) → (channel_at net (slice_index channels n)).target ≡ t → TargetsSoFar net t channels old now n →
    TargetsSoFar net t channels old now (n + 1)
targets-skip net t channels old now n into so_far = record {
  kept = so_far.kept;
  there = λ j h apart. ⊎_elim
      (λ (before : j < n). so_far.there j before apart)
      (λ (here : n ≤ j). let same : n ≡ j = omega arith in absurd (apart (subst (λ (k : ℕ). (channel_at net (slice_index channels k)).target ≡ t) same into)))
      (cases_lt j n);
}

-- ---- an actor is looked at

pub all-flagged : (net : Net) (counts : List ℕ) (flagged : List Bool) (stack : List ℕ) (n : ℕ) → n ≡ length net.times → flagged ≡ replicate n true → stack ≡ range_with_len 0 n → LeavesFlags net counts flagged stack
all-flagged net counts flagged stack n is trues range = record {
  flags = record {
    long = ap length trues ∙ (length-replicate n true ∙ is);
    within = λ k d below.
        let short : k < n = rw (range, length-range_with_len 0 n) at below in
        rw (range, get_or-range_with_len 0 n k d short) (omega arith);
    listed = λ a on. ⊎_elim
        (λ (actor : a < n). (a, rw (range, length-range_with_len 0 n) actor, rw (range, get_or-range_with_len 0 n a a actor) (omega arith)))
        (λ (past : n ≤ a). absurd (false≢true (sym (rw trues (get_or_past (replicate n true) a false (rw (length-replicate n true) past))) ∙ on)))
        (cases_lt a n);
  };
  stopped = λ a actor off.
      let on : flag_of flagged a ≡ true = rw trues (Rattle.std.proofs.lemmas.List.get_or-replicate n a true false (omega arith)) in
      absurd (false≢true (sym off ∙ on));
}

module _ (net : Net) (counts : List ℕ) (flagged : List Bool) (rest : List ℕ) (t : ℕ) (leaves : LeavesFlags net counts flagged (rest ++ t ∷ [])) where
  pub next-actor : t < length net.times
  next-actor = All-contains (λ (b : ℕ). b < length net.times) (rest ++ t ∷ []) t leaves.flags.within (Contains-push rest t)

  place : t < length flagged
  place = rw leaves.flags.long next-actor

  -- the next actor's flag is taken off
  pub flags-rest : AreFlags net (set flagged t false) rest
  flags-rest = record {
    long = length-set flagged t false ∙ leaves.flags.long;
    within = (All-pop (λ (b : ℕ). b < length net.times) (rest ++ t ∷ []) rest (Some t) refl leaves.flags.within).0;
    listed = λ a on. ⊎_elim
        (λ (e : a ≡ t).
        let off : flag_of (set flagged t false) a ≡ false = rw e (flag-here flagged t false place) in
        absurd (false≢true (sym off ∙ on)))
        (λ (away : a ≢ t). ⊎_elim
        (λ (has : Contains rest a). has)
        (λ (same : t ≡ a). absurd (away (sym same)))
        (Contains-push_cases rest t a (leaves.flags.listed a (sym (flag-other flagged t false a away) ∙ on))))
        (cases_eq a t);
  }

  -- it is stopped, and nothing fired
  pub looks-still : (new : List ℕ) → new ≡ counts → IsStopped net (slice_index new) t → LeavesFlags net new (set flagged t false) rest
  looks-still new same stopped = record {
    flags = flags-rest;
    stopped = λ a actor off. ⊎_elim
        (λ (e : a ≡ t). rw e stopped)
        (λ (away : a ≢ t). subst (λ (xs : List ℕ). IsStopped net (slice_index xs) a) (sym same) (leaves.stopped a actor (sym (flag-other flagged t false a away) ∙ off)))
        (cases_eq a t);
  }

  -- it fired, and is stopped; the actors into which its channels lead are flagged
  pub looks-fired : (new : List ℕ) (outputs : List ℕ) (now : List Bool) (stack : List ℕ) → IsListed net Made t outputs → IsStopped net (slice_index new) t → ((b : ℕ) → b ≢ t → slice_index new b ≡ slice_index counts b) →
      AreFlags net now stack → FlagsTargets net t outputs (set flagged t false) now → LeavesFlags net new now stack
  looks-fired new outputs now stack listed stopped others flags targets = record {
    flags = flags;
    stopped = λ a actor off. ⊎_elim
        (λ (e : a ≡ t). rw e stopped)
        (λ (away : a ≢ t). still a actor off away)
        (cases_eq a t);
  }
    where
      before : (a : ℕ) → flag_of now a ≡ false → a ≢ t → flag_of flagged a ≡ false
      before a off away = ⊎_elim
          (λ (on : flag_of flagged a ≡ true). absurd (false≢true (sym off ∙ targets.kept a (flag-other flagged t false a away ∙ on))))
          (λ (no : flag_of flagged a ≡ false). no)
          (cases_Bool (flag_of flagged a))

      still : (a : ℕ) → a < length net.times → flag_of now a ≡ false → a ≢ t → IsStopped net (slice_index new) a
      still a actor off away less =
          let here : slice_index new a ≡ slice_index counts a = others a away in
          let lack : Lacks net (slice_index counts) a (slice_index counts a) = leaves.stopped a actor (before a off away) (rw here at less) in
          ⊎_elim
          (λ (from : (channel_at net lack.0).source ≡ t).
          let at = place_of net Made t outputs listed lack.0 lack.1 from in
          let apart : (channel_at net (slice_index outputs at.0)).target ≢ t = rw (at.2, lack.2) away in
          let on : flag_of now (channel_at net (slice_index outputs at.0)).target ≡ true = targets.there at.0 at.1 apart in
          let mine : flag_of now a ≡ true = rw (at.2, lack.2) at on in
          absurd (false≢true (sym off ∙ mine)))
          (λ (other : (channel_at net lack.0).source ≢ t).
          let need : Needs (channel_at net lack.0) (slice_index counts a) (slice_index counts (channel_at net lack.0).source) = lack.3 in
          (lack.0, lack.1, lack.2, rw (here, others (channel_at net lack.0).source other) need))
          (cases_eq (channel_at net lack.0).source t)

-- ---- that it ends

-- a list of channels that rises is no longer than there are channels
rises : (net : Net) (port : Port) (a : ℕ) (xs : List ℕ) → IsListed net port a xs → (j : ℕ) → j < length xs → j ≤ slice_index xs j
rises net port a xs listed zero below = omega arith
rises net port a xs listed (suc j) below =
    let less : slice_index xs j < slice_index xs (suc j) = listed.rising j (suc j) (omega arith) below in
    omega (arith, rises net port a xs listed j (omega arith))

pub listed-few : (net : Net) (port : Port) (a : ℕ) (xs : List ℕ) → IsListed net port a xs → length xs ≤ length net.channels
listed-few net port a xs listed = ⊎_elim
    (λ (many : length net.channels < length xs).
    let high : length net.channels ≤ slice_index xs (length net.channels) = rises net port a xs listed (length net.channels) many in
    let low : slice_index xs (length net.channels) < length net.channels = listed.place (length net.channels) many in
    absurd (omega arith))
    (λ (few : length xs ≤ length net.channels). few)
    (cases_lt (length net.channels) (length xs))

-- what is left to look at: the firings left, each with a look at every channel, and the listed actors
pub looks_left : Net → List ℕ → List ℕ → ℕ
looks_left net counts stack = left_of net (slice_index counts) * (length net.channels + 1) + length stack

pub looks-less : (net : Net) (old new rest stack : List ℕ) (t : ℕ) → left_of net (slice_index new) < left_of net (slice_index old) → length stack ≤ length rest + length net.channels →
    looks_left net new stack < looks_left net old (rest ++ t ∷ [])
unfolding looks_left
looks-less net old new rest stack t less few =
    let scaled : (left_of net (slice_index new) + 1) * (length net.channels + 1) ≤ left_of net (slice_index old) * (length net.channels + 1) = mul-le-mul_right (length net.channels + 1) (omega arith) in
    let longer : length (rest ++ t ∷ []) ≡ length rest + 1 = Rattle.std.proofs.lemmas.List.length_push rest t in
    omega (arith, scaled, longer, few)

pub looks-one_less : (net : Net) (old new rest : List ℕ) (t : ℕ) → new ≡ old → looks_left net new rest < looks_left net old (rest ++ t ∷ [])
unfolding looks_left
looks-one_less net old new rest t same =
    let longer : length (rest ++ t ∷ []) ≡ length rest + 1 = Rattle.std.proofs.lemmas.List.length_push rest t in
    rw same (omega (arith, longer))
