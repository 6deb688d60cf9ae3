-- The channels that a member shows, as a list, and the bound that it gives for the rates of distributions that agree on them.
use Rattle.std.proofs.Common.{◌≡◌, ℕ, zero, suc, ◌+◌, ◌*◌, ◌≤◌, ◌<◌, ◌⊎◌, Option, None, Some, List, [], ◌∷◌, length, inl, inr, ⊎_elim, subst, sym, refl, ap, ◌∙◌, arith, mul-le-mul_left}
use Rattle.std.specs.Prelude.{slice_index, slice_index_or}
use Rattle.std.proofs.lemmas.Bool.{cases_lt}
use Rattle.std.proofs.Math.Nat.{le_of_mul-le-mul_left}
use Rattle.sd_base.specs.declared.role.Role.{Role}
use Rattle.sd_base.specs.declared.role.Role.TheVariants.{Token, Own, Space, Order}
use Rattle.sd_base.specs.Net.{Net, channel_at}
use Rattle.sd_base.specs.Lawful.{Lawful}
use Rattle.sd_base.specs.Rates.{Rate}
use Rattle.sd_base.specs.Schedules.{Lacks, Needs}
use Rattle.sd_base.specs.Untimed.{Blocks, CanFire}
use Rattle.sd_base.proofs.LawfulIsRegular.{timed, wired, balanced}
use Rattle.critical.specs.Bounds.{CyclesBoundTheRate}
use Rattle.critical.specs.declared.cycle.CycleStep.{CycleStep}
use Rattle.critical.specs.Cycles.{HoldsOn}
use Rattle.critical.specs.Spaces.{IsSpaceAt, no_step}
use Rattle.storage.specs.BoundedNets.{HasNoSpaces, bound, space_of}
use Rattle.storage.specs.ClosedLists.{AgreesOn}
use Rattle.storage.specs.Distributions.{AtMost, capacity_at}
use Rattle.storage.specs.ShownSpaces.{ShowsSpace}
use Rattle.storage.proofs.BoundedChannels.{space-bounded}
use Rattle.storage.proofs.NeedCyclesHold.{holds-on}
use Rattle.storage.proofs.BlockingStays.{blocks-still, can_or_lacks}
use Rattle.storage.proofs.BlockingForcesZero.{blocked-zero}
use Rattle.cert_text.specs.declared.certificates.LinkCycle.{LinkCycle}
use Rattle.cert_text.specs.declared.certificates.LinkStep.{LinkStep}
use Rattle.cert_text.specs.declared.certificates.MemberShown.{MemberShown}
use Rattle.cert_text.specs.declared.certificates.MemberShown.TheVariants.{Cycle, Blocked}
use Rattle.cert_text.specs.MemberLines.{cycle_at}
use Rattle.cert_checker.specs.LinkCycles.{AreAlong, IsAlong, IsCycleLine}
use Rattle.cert_checker.specs.Schedules.{IsRateLine}
use Rattle.cert_checker.specs.ShownChannels.{IsAlongSpace, IsShownBy, no_link}
use Rattle.cert_checker.specs.StorageCertificates.{AreBlocking, IsShownRight}

-- ---- the spaces of links

abbrev put : Role → List ℕ → List ℕ
put (Space c) xs = c ∷ xs
put (Token c) xs = xs
put (Own a) xs = xs
put (Order a b) xs = xs

abbrev spaces_in : List LinkStep → List ℕ
spaces_in [] = []
spaces_in (l ∷ ls) = put l.link (spaces_in ls)

-- x stands in the list
abbrev Stands : List ℕ → ℕ → Type 0
Stands xs x = (j : ℕ) × (j < length xs) × (slice_index xs j ≡ x)

abbrev IsLinkAt : List LinkStep → ℕ → ℕ → Type 0
IsLinkAt ls i c = (slice_index_or ls i no_link).link ≡ Space c

put-there : (r : Role) (xs : List ℕ) (c : ℕ) → Stands (put r xs) c → (r ≡ Space c) ⊎ Stands xs c
put-there (Space d) xs c (zero, below, is) = inl (ap Space is)
put-there (Space d) xs c (suc j, below, is) = inr (j, omega arith, is)
put-there (Token d) xs c has = inr has
put-there (Own d) xs c has = inr has
put-there (Order d e) xs c has = inr has

put-first : (r : Role) (xs : List ℕ) (c : ℕ) → r ≡ Space c → Stands (put r xs) c
put-first (Space d) xs c is = (zero, omega arith, cc)
put-first (Token d) xs c is = absurd (cc)
put-first (Own d) xs c is = absurd (cc)
put-first (Order d e) xs c is = absurd (cc)

put-later : (r : Role) (xs : List ℕ) (c : ℕ) → Stands xs c → Stands (put r xs) c
put-later (Space d) xs c (j, below, is) = (suc j, omega arith, is)
put-later (Token d) xs c has = has
put-later (Own d) xs c has = has
put-later (Order d e) xs c has = has

spaces-there : (ls : List LinkStep) (c : ℕ) → Stands (spaces_in ls) c → (i : ℕ) × (i < length ls) × IsLinkAt ls i c
spaces-there [] c (j, below, is) = absurd (omega arith)
spaces-there (l ∷ ls) c has = ⊎_elim (λ (h : l.link ≡ Space c). (zero, omega arith, h)) (λ (h : Stands (spaces_in ls) c). let later = spaces-there ls c h in (suc later.0, omega (arith, later.1), later.2)) (put-there l.link (spaces_in ls) c has)

spaces-all : (ls : List LinkStep) (i c : ℕ) → i < length ls → IsLinkAt ls i c → Stands (spaces_in ls) c
spaces-all [] i c below is = absurd (omega arith)
spaces-all (l ∷ ls) zero c below is = put-first l.link (spaces_in ls) c is
spaces-all (l ∷ ls) (suc i) c below is = put-later l.link (spaces_in ls) c (spaces-all ls i c (omega arith) is)

along-step : (net : Net) (ls : List LinkStep) (ss : List CycleStep) (i : ℕ) → AreAlong net ls ss → i < length ls → IsAlong net (slice_index_or ls i no_link) (slice_index_or ss i no_step)
along-step net [] ss i all below = absurd (omega arith)
along-step net (l ∷ ls) [] i all below = absurd all
along-step net (l ∷ ls) (s ∷ ss) zero all below = all.0
along-step net (l ∷ ls) (s ∷ ss) (suc i) all below = along-step net ls ss i all.1 (omega arith)

along-many : (net : Net) (ls : List LinkStep) (ss : List CycleStep) → AreAlong net ls ss → length ls ≡ length ss
along-many net [] [] all = refl
along-many net [] (s ∷ ss) all = absurd all
along-many net (l ∷ ls) [] all = absurd all
along-many net (l ∷ ls) (s ∷ ss) all = ap suc (along-many net ls ss all.1)

-- ---- numbers that pass a test

listed : (P : ℕ → Type 0) → ((c : ℕ) → P c ⊎ (P c → ⊥)) → (n : ℕ) → (xs : List ℕ) × ((j : ℕ) → j < length xs → P (slice_index xs j)) × ((c : ℕ) → c < n → P c → Stands xs c)
listed P decide zero = ([], λ j below. absurd (omega arith), λ c below is. absurd (omega arith))
listed P decide (suc n) =
    let old = listed P decide n in
    ⊎_elim
    (λ (here : P n). (
      n ∷ old.0,
      each old.0 old.1 here,
      λ c below is. ⊎_elim
          (λ (less : c < n). let at = old.2 c less is in (suc at.0, omega (arith, at.1), at.2))
          (λ (past : n ≤ c). (zero, omega arith, omega (arith, below, past)))
          (cases_lt c n),
    ))
    (λ (none : P n → ⊥). (
      old.0,
      old.1,
      λ c below is. ⊎_elim
          (λ (less : c < n). old.2 c less is)
          (λ (past : n ≤ c). let same : c ≡ n = omega (arith, below, past) in absurd (none (subst P same is)))
          (cases_lt c n),
    ))
    (decide n)
  where
    each : (xs : List ℕ) → ((j : ℕ) → j < length xs → P (slice_index xs j)) → P n → (j : ℕ) → j < length (n ∷ xs) → P (slice_index (n ∷ xs) j)
    each xs all here zero below = here
    each xs all here (suc j) below = all j (omega arith)

lacks-not_can : (net : Net) (v : ℕ → ℕ) (a : ℕ) → Lacks net v a (v a) → CanFire net v a → ⊥
lacks-not_can net v a lack can = let enough = can lack.0 lack.1 lack.2 in omega (arith, enough, lack.3)

capacity-some : (ds : List (Option ℕ)) (c : ℕ) → ((k : ℕ) × (capacity_at ds c ≡ Some k)) ⊎ (capacity_at ds c ≡ None)
capacity-some ds c = at (capacity_at ds c) refl
  where
    at : (o : Option ℕ) → capacity_at ds c ≡ o → ((k : ℕ) × (capacity_at ds c ≡ Some k)) ⊎ (capacity_at ds c ≡ None)
    at (Some k) is = inl (k, is)
    at None is = inr is

module _ (net : Net) (ds : List (Option ℕ)) (v : ℕ → ℕ) (c : ℕ) where
  shows-test : (k : ℕ) → capacity_at ds c ≡ Some k → c < length net.channels → ShowsSpace net ds v c ⊎ (ShowsSpace net ds v c → ⊥)
  shows-test k has place = ⊎_elim
      (λ (short : v (channel_at net c).source < slice_index net.round (channel_at net c).source). ⊎_elim
      (λ (can : CanFire net v (channel_at net c).source). ⊎_elim
      (λ (full : Needs (space_of c (channel_at net c) k) (v (channel_at net c).source) (v (channel_at net c).target)). inl (record { place = place; room = k; has = has; short = short; fed = can; full = full }))
      (λ (free : total_taken k ≤ total_free k). inr (λ shows. let same : shows.room ≡ k = room-one shows.room k shows.has has in let full = subst (λ (x : ℕ). Needs (space_of c (channel_at net c) x) (v (channel_at net c).source) (v (channel_at net c).target)) same shows.full in omega (arith, full, free)))
      (cases_lt (total_free k) (total_taken k)))
      (λ (lack : Lacks net v (channel_at net c).source (v (channel_at net c).source)). inr (λ shows. lacks-not_can net v (channel_at net c).source lack shows.fed))
      (can_or_lacks net v (channel_at net c).source))
      (λ (done : slice_index net.round (channel_at net c).source ≤ v (channel_at net c).source). inr (λ shows. omega (arith, shows.short, done)))
      (cases_lt (v (channel_at net c).source) (slice_index net.round (channel_at net c).source))
    where
      room-one : (a b : ℕ) → capacity_at ds c ≡ Some a → capacity_at ds c ≡ Some b → a ≡ b
      room-one a b one other = cc

      total_free : ℕ → ℕ
      total_free r = (space_of c (channel_at net c) r).tokens + Rattle.sd_base.specs.Net.total (space_of c (channel_at net c) r).made (v (channel_at net c).target)

      total_taken : ℕ → ℕ
      total_taken r = Rattle.sd_base.specs.Net.total (space_of c (channel_at net c) r).taken (v (channel_at net c).source + 1)

  shows-decide : ShowsSpace net ds v c ⊎ (ShowsSpace net ds v c → ⊥)
  shows-decide = ⊎_elim
      (λ (place : c < length net.channels). ⊎_elim
      (λ (room : (k : ℕ) × (capacity_at ds c ≡ Some k)). shows-test room.0 room.1 place)
      (λ (none : capacity_at ds c ≡ None). inr (λ shows. let no : Some shows.room ≡ None = sym shows.has ∙ none in cc))
      (capacity-some ds c))
      (λ (past : length net.channels ≤ c). inr (λ shows. omega (arith, shows.place, past)))
      (cases_lt c (length net.channels))

-- ---- the bound

-- a list of channels that a member shows, and a bound num/den of the rates of distributions that agree on them; one above 0
-- is its rate
pub record HasBound (net : Net) (fits : List (Option ℕ) → Type 0) (cycles : List LinkCycle) (ds : List (Option ℕ)) (shown : MemberShown) : Type 0 where
  pub list : List ℕ
  pub num : ℕ
  pub den : ℕ
  pub each : (j : ℕ) → j < length list → IsShownBy net cycles ds shown (slice_index list j)
  pub positive : 1 ≤ den
  pub bounds : (es : List (Option ℕ)) → fits es → AtMost ds es → AgreesOn list ds es → (p q : ℕ) → Rate (bound net es) p q → p * den ≤ num * q
  pub rate : 1 ≤ num → (rate : ℕ × ℕ) × (cycle : ℕ) × (shown ≡ Cycle rate cycle) × (num ≡ rate.0) × (den ≡ rate.1)

module _ (net : Net) (none : HasNoSpaces net) (fits : List (Option ℕ) → Type 0) (lawful : (es : List (Option ℕ)) → fits es → Lawful (bound net es)) (cycles : List LinkCycle) (ds : List (Option ℕ)) where
  by-cycle : CyclesBoundTheRate → (rate : ℕ × ℕ) (cycle : ℕ) → IsRateLine rate → IsCycleLine (bound net ds) rate (cycle_at cycles cycle) → HasBound net fits cycles ds (Cycle rate cycle)
  by-cycle law rate cycle line is = record {
    list = spaces_in (cycle_at cycles cycle).steps;
    num = rate.0;
    den = rate.1;
    each = each;
    positive = line.positive;
    bounds = bounds;
    rate = λ some. (rate, cycle, refl, refl, refl);
  }
    where
      each : (j : ℕ) → j < length (spaces_in (cycle_at cycles cycle).steps) → IsAlongSpace ds (cycle_at cycles cycle) (slice_index (spaces_in (cycle_at cycles cycle).steps) j)
      each j below =
          let at = spaces-there (cycle_at cycles cycle).steps (slice_index (spaces_in (cycle_at cycles cycle).steps) j) (j, below, refl) in
          let step : IsAlong (bound net ds) (slice_index_or (cycle_at cycles cycle).steps at.0 no_link) (slice_index_or is.cycle.steps at.0 no_step) = along-step (bound net ds) (cycle_at cycles cycle).steps is.cycle.steps at.0 is.spelled.steps at.1 in
          let room = space-bounded net none ds (slice_index_or is.cycle.steps at.0 no_step).channel (slice_index (spaces_in (cycle_at cycles cycle).steps) j) step.place (step.role ∙ at.2) in
          record { room = room.room; has = room.has; place = at.0; step = at.1; link = at.2 }

      bounds : (es : List (Option ℕ)) → fits es → AtMost ds es → AgreesOn (spaces_in (cycle_at cycles cycle).steps) ds es → (p q : ℕ) → Rate (bound net es) p q → p * rate.1 ≤ rate.0 * q
      bounds es fit most agrees p q of_rate =
          let holds : HoldsOn (bound net es) is.cycle = holds-on net ds es most is.cycle is.is.holds same in
          let bound_by : p * is.cycle.time ≤ is.cycle.rounds * q = law (bound net es) is.cycle p q (lawful es fit) holds of_rate in
          let up : rate.0 * (p * is.cycle.time) ≤ rate.0 * (is.cycle.rounds * q) = mul-le-mul_left rate.0 bound_by in
          let turned : p * (is.cycle.rounds * rate.1) ≡ p * (rate.0 * is.cycle.time) = ap (λ (x : ℕ). p * x) is.is.ratio in
          let scaled : is.cycle.rounds * (p * rate.1) ≤ is.cycle.rounds * (rate.0 * q) = omega arith in
          le_of_mul-le-mul_left scaled is.is.holds.some_round
        where
          same : (i c : ℕ) → i < length is.cycle.steps → IsSpaceAt (bound net ds) is.cycle.steps i c → capacity_at ds c ≡ capacity_at es c
          same i c below space =
              let many : length (cycle_at cycles cycle).steps ≡ length is.cycle.steps = along-many (bound net ds) (cycle_at cycles cycle).steps is.cycle.steps is.spelled.steps in
              let within : i < length (cycle_at cycles cycle).steps = omega arith in
              let step : IsAlong (bound net ds) (slice_index_or (cycle_at cycles cycle).steps i no_link) (slice_index_or is.cycle.steps i no_step) = along-step (bound net ds) (cycle_at cycles cycle).steps is.cycle.steps i is.spelled.steps within in
              let has = spaces-all (cycle_at cycles cycle).steps i c within (sym step.role ∙ space) in
              subst (λ (x : ℕ). capacity_at ds x ≡ capacity_at es x) has.2 (agrees has.0 has.1)

  by-counts : (counts : List ℕ) → AreBlocking (bound net ds) counts → length (bound net ds).times ≡ length net.times → HasBound net fits cycles ds (Blocked counts)
  by-counts counts is times =
      let all = listed (ShowsSpace net ds (slice_index counts)) (shows-decide net ds (slice_index counts)) (length net.channels) in
      record {
        list = all.0;
        num = 0;
        den = 1;
        each = λ j below. record { actors = is.actors; shows = all.1 j below };
        positive = omega arith;
        bounds = λ es fit most agrees p q of_rate.
            (let same : (c : ℕ) → ShowsSpace net ds (slice_index counts) c → capacity_at es c ≡ capacity_at ds c = λ c show. let has = all.2 c show.place show in subst (λ (x : ℕ). capacity_at es x ≡ capacity_at ds x) has.2 (sym (agrees has.0 has.1)) in
            let blocks : Blocks (bound net es) (slice_index counts) = blocks-still net ds es (slice_index counts) same is.blocks in
            let laws' : Lawful (bound net es) = lawful es fit in
            let zero_rate : p ≡ 0 = blocked-zero (bound net es) (timed (bound net es) laws') (wired (bound net es) laws') (balanced (bound net es) laws') (slice_index counts) blocks p q of_rate in
            omega arith);
        rate = λ some. absurd (omega arith);
      }

  pub shown-bound : CyclesBoundTheRate → (shown : MemberShown) → IsShownRight (bound net ds) cycles shown → HasBound net fits cycles ds shown
  shown-bound law (Cycle rate cycle) is = by-cycle law rate cycle is.0 is.1
  shown-bound law (Blocked counts) is = by-counts counts is refl
