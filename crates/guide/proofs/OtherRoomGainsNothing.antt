-- With the same room on the storage dependencies of a loop no firing starts sooner than round the loop, but for the entry and
-- a period; so no room elsewhere gives a greater rate.
use Rattle.std.proofs.Common.{◌≡◌, ℕ, zero, suc, ◌+◌, ◌-◌, ◌*◌, ◌/◌, ◌%◌, ◌≤◌, ◌<◌, Option, List, length, ⊎_elim, subst, sym, refl, ap, ◌∙◌, arith, mod-lt, div-add-mod', mul-le-mul_left}
use Rattle.std.specs.Prelude.{[], count_by, nat_lt, slice_index, slice_index_or}
use Rattle.std.proofs.Math.Nat.{le_of_mul-le-mul_left}
use Rattle.std.proofs.lemmas.Bool.{cases_lt}
use Rattle.sd_base.specs.declared.role.Role.TheVariants.{Space}
use Rattle.sd_base.specs.Net.{Channel, Net, channel_at}
use Rattle.sd_base.specs.Lawful.{Lawful}
use Rattle.sd_base.specs.Schedules.{time_of, Needs, LastNeed, Schedule, count_of, start_of, end_of, Admissible, Earliest, HasInputs}
use Rattle.sd_base.specs.SelfTimed.{earliest}
use Rattle.sd_base.specs.Connection.{IsConnected}
use Rattle.sd_base.specs.Rates.{IsLoop, IsLoopTable, Rate}
use Rattle.sd_base.specs.Untimed.{Blocks}
use Rattle.sd_base.proofs.LawfulIsRegular.{regular, timed, wired, balanced}
use Rattle.sd_base.proofs.RoundsKeepTokens.{last-shift}
use Rattle.sd_base.proofs.StartsMeetEnds.{tight, TightNeed}
use Rattle.sd_base.proofs.LoopRates.{count-all, slopes}
use Rattle.sd_base.proofs.FiringsKeepOrder.{is_actor}
use Rattle.sd_base.proofs.LoopPasses as passes
use Rattle.critical.specs.CriticalCycles.{InSecondPass}
use Rattle.storage.specs.BoundedNets.{bound}
use Rattle.storage.specs.Distributions.{capacity_at}
use Rattle.storage.specs.ShownSpaces.{ShowsSpace}
use Rattle.storage.proofs.SpaceChannels.{bound-front, bound-long, bound-space, each-bound}
use Rattle.storage.proofs.BlockingStays.{blocks-still}
use Rattle.storage.proofs.BlockingForcesZero.{blocked-zero}
use Rattle.guide.specs.Guides.{IsDependency}
use Rattle.guide.proofs.LiveNetsAreEvaluated.{bound-connected}
use Rattle.guide.proofs.LoopTables.{before_of, rounds_of, starts_of, loop-table}

-- a channel of a bounded net stands in the other one too, if it isn't the free space of a channel with another capacity there
shared : (net : Net) (ds es : List (Option ℕ)) (i : ℕ) → i < length (bound net ds).channels → ((c : ℕ) → (channel_at (bound net ds) i).role ≡ Space c → capacity_at es c ≡ capacity_at ds c) →
    (j : ℕ) × (j < length (bound net es).channels) × (channel_at (bound net es) j ≡ channel_at (bound net ds) i)
shared net ds es i below same =
    each-bound net ds (λ (x : Channel). ((c : ℕ) → x.role ≡ Space c → capacity_at es c ≡ capacity_at ds c) → (j : ℕ) × (j < length (bound net es).channels) × (channel_at (bound net es) j ≡ x))
    (λ k place agree. (k, omega (arith, bound-long net es), bound-front net es k place))
    (λ k room place has agree. bound-space net es k room place (agree k refl ∙ has))
    i below same

module _ (net : Net) (ds es : List (Option ℕ)) (entry period rounds : ℕ) (before : List ℕ) (starts : List (List ℕ)) (laws : Lawful (bound net ds)) (inputs : HasInputs (bound net ds))
    (table : IsLoopTable (bound net ds) entry period rounds before starts) (same : (c : ℕ) → IsDependency (bound net ds) entry period c → capacity_at es c ≡ capacity_at ds c) where
  -- the firings of an actor in a pass
  abbrev pass : ℕ → ℕ
  pass a = rounds * slice_index net.round a

  -- the earliest schedule up to and with the end of pass q
  abbrev up_to : ℕ → Schedule
  up_to q = earliest (bound net ds) (entry + q * period + 1)

  early : (t : ℕ) → Earliest (bound net ds) t (earliest (bound net ds) t)
  early = passes.early (bound net ds) laws inputs entry period rounds before starts table

  counts-at : (q a : ℕ) → count_of (up_to q) a ≡ count_of (earliest (bound net ds) (entry + 1)) a + q * pass a
  counts-at = passes.counts-at (bound net ds) laws inputs entry period rounds before starts table

  starts-after : (q t a k : ℕ) → count_of (up_to q) a ≤ k → k < count_of (earliest (bound net ds) t) a → entry + q * period < start_of (earliest (bound net ds) t) a k
  starts-after = passes.starts-after (bound net ds) laws inputs entry period rounds before starts table

  pass-on : (p q a k : ℕ) → k < count_of (up_to q) a → entry < end_of (bound net ds) (up_to q) a k → start_of (up_to (p + q)) a (k + p * pass a) ≡ start_of (up_to q) a k + p * period
  pass-on = passes.pass-on (bound net ds) laws inputs entry period rounds before starts table

  agree-at : (p q a k : ℕ) → k < count_of (up_to p) a → k < count_of (up_to q) a → start_of (up_to p) a k ≡ start_of (up_to q) a k
  agree-at = passes.agree-at (bound net ds) laws inputs entry period rounds before starts table

  -- a firing of r that starts no sooner than another one ends, which round the loop ends just then
  record Behind (r : Schedule) (a k q : ℕ) : Type 0 where
    actor : ℕ
    number : ℕ
    passes_on : ℕ
    there : number < count_of r actor
    here : number < count_of (up_to passes_on) actor
    ends : start_of r actor number + time_of (bound net ds) actor number ≤ start_of r a k
    just : start_of (up_to passes_on) actor number + time_of (bound net ds) actor number ≡ start_of (up_to q) a k
    takes : 1 ≤ time_of (bound net ds) actor number

  module _ (r : Schedule) (good : Admissible (bound net es) r) where
    -- what is tight in the second pass is a need in r, so many passes later
    moved : (a k q : ℕ) → k < count_of r a → k < count_of (up_to q) a → (j x : ℕ) → x + j * pass a ≡ k → count_of (up_to 1) a ≤ x → x < count_of (up_to 2) a → (i m : ℕ) →
        TightNeed (bound net ds) (up_to 2) a x i m → Behind r a k q
    moved a k q there now j x place from within i m need =
        let b : ℕ = (channel_at (bound net ds) i).source in
        let begins : entry + 1 * period < start_of (up_to 2) a x = starts-after 1 (entry + 2 * period + 1) a x from within in
        let first : entry + 1 * period + 1 ≡ entry + period + 1 = omega arith in
        let started : count_of (earliest (bound net ds) (entry + period + 1)) a ≤ x = subst (λ (t : ℕ). count_of (earliest (bound net ds) t) a ≤ x) first from in
        let second : InSecondPass (bound net ds) entry period a x = record { started = started; within = within } in
        let just_there : end_of (bound net ds) (up_to 2) b m ≡ start_of (up_to 2) (channel_at (bound net ds) i).target x =
        subst (λ (y : ℕ). end_of (bound net ds) (up_to 2) b m ≡ start_of (up_to 2) y x) (sym need.into) need.just in
        let held_up : (c : ℕ) → (channel_at (bound net ds) i).role ≡ Space c → IsDependency (bound net ds) entry period c = λ c role. record {
          channel = i;
          place = need.place;
          role = role;
          later = x;
          second = subst (λ (y : ℕ). InSecondPass (bound net ds) entry period y x) (sym need.into) second;
          tight = (m, need.last, need.there, just_there);
        } in
        let other = shared net ds es i need.place (λ c role. same c (held_up c role)) in
        let later : LastNeed (channel_at (bound net ds) i) (x + j * pass (channel_at (bound net ds) i).target) (m + j * pass b) =
        last-shift (bound net ds) (λ (y : ℕ). j * pass y) (passes.whole-passes (bound net ds) laws inputs entry period rounds before starts table j) i need.place x m need.last in
        let at_k : LastNeed (channel_at (bound net ds) i) k (m + j * pass b) =
        subst (λ (n : ℕ). LastNeed (channel_at (bound net ds) i) n (m + j * pass b)) (ap (λ (y : ℕ). x + j * pass y) need.into ∙ place) later in
        let there_target : k < count_of r (channel_at (bound net ds) i).target = subst (λ (y : ℕ). k < count_of r y) (sym need.into) there in
        let fed = subst (λ (y : Channel). k < count_of r y.target → Needs y k (m + j * pass b) → (m + j * pass b < count_of r y.source) × (end_of (bound net es) r y.source (m + j * pass b) ≤ start_of r y.target k)) other.2
        (good.fed other.0 k (m + j * pass b) other.1) there_target at_k.needed in
        let ends : end_of (bound net es) r b (m + j * pass b) ≤ start_of r a k = subst (λ (y : ℕ). end_of (bound net es) r b (m + j * pass b) ≤ start_of r y k) need.into fed.1 in
        let source : b < length net.times = laws.sources i need.place in
        let on_need : start_of (up_to (j + 2)) b (m + j * pass b) ≡ start_of (up_to 2) b m + j * period = pass-on j 2 b m need.there (omega (arith, need.just)) in
        let on_here : start_of (up_to (j + 2)) a (x + j * pass a) ≡ start_of (up_to 2) a x + j * period = pass-on j 2 a x within (omega arith) in
        let far : x + j * pass a < count_of (up_to (j + 2)) a = omega (arith, counts-at (j + 2) a, counts-at 2 a) in
        let now_there : x + j * pass a < count_of (up_to q) a = rw place now in
        let agree : start_of (up_to (j + 2)) a (x + j * pass a) ≡ start_of (up_to q) a (x + j * pass a) = agree-at (j + 2) q a (x + j * pass a) far now_there in
        let at_place : start_of (up_to q) a (x + j * pass a) ≡ start_of (up_to q) a k = ap (start_of (up_to q) a) place in
        let time : time_of (bound net ds) b (m + j * pass b) ≡ time_of (bound net ds) b m = passes.time-passes (bound net ds) laws inputs entry period rounds before starts table j b m source in
        record {
          actor = b;
          number = m + j * pass b;
          passes_on = j + 2;
          there = fed.0;
          here = omega (arith, counts-at (j + 2) b, counts-at 2 b, need.there);
          ends = ends;
          just = omega (arith, need.just);
          takes = (timed (bound net ds) laws).some b (m + j * pass b) source;
        }

    behind : (a k q : ℕ) → k < count_of r a → k < count_of (up_to q) a → count_of (up_to 1) a ≤ k → Behind r a k q
    behind a k q there now late =
        let actor : a < length net.times = is_actor (bound net es) r a k good there in
        let low : ℕ = count_of (up_to 1) a in
        let j : ℕ = (k - low) / pass a in
        let x : ℕ = low + (k - low) % pass a in
        let split : (k - low) / pass a * pass a + (k - low) % pass a ≡ k - low = div-add-mod' (k - low) (pass a) in
        let small : (k - low) % pass a < pass a = mod-lt (k - low) (passes.some-pass (bound net ds) laws inputs entry period rounds before starts table a actor) in
        let place : x + j * pass a ≡ k = omega arith in
        let from : count_of (up_to 1) a ≤ x = omega arith in
        let within : x < count_of (up_to 2) a = omega (arith, counts-at 2 a, counts-at 1 a) in
        let begins : entry + 1 * period < start_of (up_to 2) a x = starts-after 1 (entry + 2 * period + 1) a x from within in
        let found = tight (bound net ds) (regular (bound net ds) laws) inputs (entry + 2 * period + 1) a x within (omega arith) in
        moved a k q there now j x place from within found.0 found.1 found.2

    no-sooner : (fuel a k q : ℕ) → k < count_of r a → k < count_of (up_to q) a → start_of (up_to q) a k ≤ fuel → start_of (up_to q) a k ≤ start_of r a k + (entry + period)
    no-sooner zero a k q there now few = omega arith
    no-sooner (suc fuel) a k q there now few = ⊎_elim
        (λ (soon : k < count_of (up_to 1) a).
        let first : start_of (up_to q) a k ≡ start_of (up_to 1) a k = agree-at q 1 a k now soon in
        let begun : start_of (up_to 1) a k < entry + 1 * period + 1 = (early (entry + 1 * period + 1)).before a k soon in
        omega arith)
        (λ (late : count_of (up_to 1) a ≤ k).
        let back : Behind r a k q = behind a k q there now late in
        let further : start_of (up_to back.passes_on) back.actor back.number ≤ start_of r back.actor back.number + (entry + period) =
        no-sooner fuel back.actor back.number back.passes_on back.there back.here (omega (arith, back.just, back.takes)) in
        omega (arith, back.just, back.ends))
        (cases_lt k (count_of (up_to 1) a))

  -- before a moment the other net starts no more firings of an actor than go round the loop up to a period later
  few-by : (t : ℕ) (s : Schedule) → Earliest (bound net es) (t * period) s → count_of s 0 ≤ count_of (up_to (t + 1)) 0
  few-by t s is = ⊎_elim
      (λ (more : count_of (up_to (t + 1)) 0 < count_of s 0). absurd (
      let k : ℕ = count_of (up_to (t + 1)) 0 in
      let now : k < count_of (up_to (k + 1)) 0 = passes.enough-passes (bound net ds) laws inputs entry period rounds before starts table 0 k laws.some_actor in
      let late : entry + (t + 1) * period < start_of (up_to (k + 1)) 0 k = starts-after (t + 1) (entry + (k + 1) * period + 1) 0 k (omega arith) now in
      let soon : start_of s 0 k < t * period = is.before 0 k more in
      let sooner : start_of (up_to (k + 1)) 0 k ≤ start_of s 0 k + (entry + period) = no-sooner s is.admissible (start_of (up_to (k + 1)) 0 k) 0 k (k + 1) more now (omega arith) in
      omega arith))
      (λ (few : count_of s 0 ≤ count_of (up_to (t + 1)) 0). few)
      (cases_lt (count_of (up_to (t + 1)) 0) (count_of s 0))

  -- the rounds of the loop in a period are no less than the rate of the other net
  other-slower : (x y : ℕ) → Rate (bound net es) x y → x * period ≤ rounds * y
  other-slower x y rate =
      let round : ℕ = slice_index net.round 0 in
      let begun : ℕ = count_of (earliest (bound net ds) (entry + 1)) 0 in
      let slope : x * round * period ≤ y * (rounds * round) = slopes (x * round * period) (y * (rounds * round)) (y * (begun + rounds * round) + rate.slack) (λ t.
      let (s, is, many) = rate.bounds.below (t * period) in
      let reached : x * round * (t * period) ≤ y * count_of s 0 + rate.slack = many 0 laws.some_actor in
      let few : count_of s 0 ≤ begun + (t + 1) * (rounds * round) = omega (arith, few-by t s is, counts-at (t + 1) 0) in
      let scaled : y * count_of s 0 ≤ y * (begun + (t + 1) * (rounds * round)) = mul-le-mul_left y few in
      omega arith) in
      let scaled : round * (x * period) ≤ round * (rounds * y) = omega arith in
      le_of_mul-le-mul_left scaled ((balanced (bound net ds) laws).fires 0 laws.some_actor)

  -- nor more than that of its own
  own-faster : (p q : ℕ) → Rate (bound net ds) p q → rounds * q ≤ p * period
  own-faster p q rate =
      let round : ℕ = slice_index net.round 0 in
      let slope : q * (rounds * round) ≤ p * round * period = slopes (q * (rounds * round)) (p * round * period) (p * round * (entry + 1) + rate.slack) (λ t.
      let run : Earliest (bound net ds) (entry + t * period + 1) (up_to t) = early (entry + t * period + 1) in
      let most : q * count_by (λ m. nat_lt m (entry + t * period + 1)) (slice_index_or (up_to t) 0 []) ≤ p * round * (entry + t * period + 1) + rate.slack = rate.bounds.above (up_to t) (entry + t * period + 1) 0 run.admissible laws.some_actor in
      let many : count_of (up_to t) 0 ≤ count_by (λ m. nat_lt m (entry + t * period + 1)) (slice_index_or (up_to t) 0 []) = count-all (entry + t * period + 1) (slice_index_or (up_to t) 0 []) (λ k below. run.before 0 k below) in
      let scaled : q * (t * (rounds * round)) ≤ q * count_by (λ m. nat_lt m (entry + t * period + 1)) (slice_index_or (up_to t) 0 []) = mul-le-mul_left q (omega (arith, many, counts-at t 0)) in
      omega (arith, most, scaled)) in
      let scaled : round * (rounds * q) ≤ round * (p * period) = omega arith in
      le_of_mul-le-mul_left scaled ((balanced (bound net ds) laws).fires 0 laws.some_actor)

  slower : (p q x y : ℕ) → Rate (bound net ds) p q → Rate (bound net es) x y → x * q ≤ p * y
  slower p q x y own other =
      let one : q * (x * period) ≤ q * (rounds * y) = mul-le-mul_left q (other-slower x y other) in
      let two : y * (rounds * q) ≤ y * (p * period) = mul-le-mul_left y (own-faster p q own) in
      let scaled : period * (x * q) ≤ period * (p * y) = omega arith in
      le_of_mul-le-mul_left scaled table.loop.passes

-- no room elsewhere gives a greater rate
pub elsewhere-slower : (net : Net) (ds es : List (Option ℕ)) (entry period p q x y : ℕ) → Lawful (bound net ds) → HasInputs (bound net ds) → IsConnected net → IsLoop (bound net ds) entry period →
    ((c : ℕ) → IsDependency (bound net ds) entry period c → capacity_at es c ≡ capacity_at ds c) → Rate (bound net ds) p q → Rate (bound net es) x y → x * q ≤ p * y
elsewhere-slower net ds es entry period p q x y laws inputs connected loop same own other =
    let joined : IsConnected (bound net ds) = bound-connected net ds connected in
    slower net ds es entry period (rounds_of (bound net ds) entry period laws inputs joined loop) (before_of (bound net ds) entry) (starts_of (bound net ds) entry period) laws inputs (loop-table (bound net ds) entry period laws inputs joined loop) same p q x y own other

-- counts that block a bounded net block it with the same room on the channels that they show
pub counts-bound : (net : Net) (ds es : List (Option ℕ)) (v : ℕ → ℕ) (p q : ℕ) → Lawful (bound net es) → Blocks (bound net ds) v → ((c : ℕ) → ShowsSpace net ds v c → capacity_at es c ≡ capacity_at ds c) →
    Rate (bound net es) p q → p ≡ 0
counts-bound net ds es v p q laws blocks same rate =
    blocked-zero (bound net es) (timed (bound net es) laws) (wired (bound net es) laws) (balanced (bound net es) laws) v (blocks-still net ds es v same blocks) p q rate
