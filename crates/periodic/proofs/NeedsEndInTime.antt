-- The finite tests say that every need of every firing ends in time.
use Rattle.std.proofs.Common.{◌≡◌, ℕ, zero, suc, ◌+◌, ◌-◌, ◌*◌, ◌/◌, ◌%◌, ◌≤◌, ◌<◌, ◌⊎◌, List, [], length, inl, inr, ⊎_elim, subst, sym, refl, ap, ◌∙◌, arith, mod-lt, div-add-mod'}
use Rattle.std.proofs.lemmas.Bool.{cases_lt}
use Rattle.std.specs.Prelude.{slice_index_or}
use Rattle.sd_base.specs.Net.{Net, channel_at, total}
use Rattle.sd_base.specs.Schedules.{time_of, phases_at, Needs, LastNeed, count_of}
use Rattle.sd_base.proofs.SumsRepeatByTurns.{total-le, total-grows, needs-later, fewer-needed, total-zero}
use Rattle.sd_base.proofs.LawfulIsRegular.{IsOwn, OneByOne, Wired}
use Rattle.sd_base.proofs.FiringsKeepOrder.{one_time}
use Rattle.sd_base.proofs.StartsMeetEnds.{last_need}
use Rattle.sd_base.proofs.RoundsKeepTokens.{Whole, time-shift, needs-unshift}
use Rattle.periodic.specs.Periods.{start_at}
use Rattle.periodic.specs.inside.FiniteTests.{FirstNeedy, IsFed}
use Rattle.periodic.proofs.StartsComeAgain.{start-later}

-- when firing k of a ends
abbrev pub end_at : Net → ℕ → List (List ℕ) → ℕ → ℕ → ℕ
end_at net period starts a k = start_at period starts a k + time_of net a k

-- on each channel each needed firing has ended when the one that needs it starts
abbrev pub AllFed : Net → ℕ → List (List ℕ) → Type 0
AllFed net period starts =
    (i j m : ℕ) → i < length net.channels → Needs (channel_at net i) j m →
    end_at net period starts (channel_at net i).source m ≤ start_at period starts (channel_at net i).target j

-- some firing is the last one that is needed
pub some-last : (net : Net) → Wired net → (i j m : ℕ) → i < length net.channels → Needs (channel_at net i) j m → (n : ℕ) × (m ≤ n) × LastNeed (channel_at net i) j n
some-last net wired i j m place need =
    let want : ℕ = total (channel_at net i).taken (j + 1) in
    let far : ℕ = want * length (channel_at net i).made in
    let grows : want ≤ total (channel_at net i).made far = total-grows (channel_at net i).made want (wired.some_made i place) in
    let never : Needs (channel_at net i) j (m + far) → ⊥ = λ late.
    let le : total (channel_at net i).made far ≤ total (channel_at net i).made (m + far) = total-le (channel_at net i).made (omega arith) in omega arith in
    last_need (channel_at net i) j far m need never

module _ (net : Net) (own : OneByOne net) (wired : Wired net) (period : ℕ) (starts : List (List ℕ)) (whole : Whole net (count_of starts))
    (some : (a : ℕ) → a < length net.times → 0 < count_of starts a)
    (rise : (a k : ℕ) → a < length net.times → start_at period starts a k ≤ start_at period starts a (k + 1))
    (tests : (i : ℕ) → i < length net.channels → IsFed net period starts i) where
  turn-later : (a k : ℕ) → a < length net.times → start_at period starts a (k + count_of starts a) ≡ start_at period starts a k + period
  turn-later a k actor =
      let e : k + count_of starts a ≡ k + 1 * count_of starts a = omega arith in
      let later : start_at period starts a (k + 1 * count_of starts a) ≡ start_at period starts a k + 1 * period = start-later period (slice_index_or starts a []) k 1 (some a actor) in
      rw e (omega arith)

  end-later : (a k : ℕ) → a < length net.times → end_at net period starts a (k + count_of starts a) ≡ end_at net period starts a k + period
  end-later a k actor =
      let same : time_of net a (k + count_of starts a) ≡ time_of net a k = time-shift net (count_of starts) whole a k actor in
      omega (arith, turn-later a k actor)

  -- ---- the firings of an actor of several phases run one after another

  module _ (a i : ℕ) (mine : IsOwn net a i) (actor : a < length net.times) where
    own-first : Needs (channel_at net i) 0 0 → ⊥
    own-first need =
        let v : ℕ = count_of starts a in
        let last : LastNeed (channel_at net i) (v - 1 + 1) (v - 1) = mine.last (v - 1) in
        let e : v - 1 + 1 ≡ v = omega (arith, some a actor) in
        let enough : total (channel_at net i).taken (v + 1) ≤ (channel_at net i).tokens + total (channel_at net i).made v = rw e at last.enough in
        let to : v ≡ count_of starts (channel_at net i).target = ap (count_of starts) (sym mine.target) in
        let from : v ≡ count_of starts (channel_at net i).source = ap (count_of starts) (sym mine.source) in
        let swap : v + 1 ≡ 1 + count_of starts (channel_at net i).target = omega arith in
        let taken : total (channel_at net i).taken (1 + count_of starts (channel_at net i).target) ≡ total (channel_at net i).taken 1 + total (channel_at net i).taken (count_of starts (channel_at net i).target) =
        Rattle.sd_base.proofs.RoundsKeepTokens.taken-shift net (count_of starts) whole i mine.place 1 in
        let kept : total (channel_at net i).made (count_of starts (channel_at net i).source) ≡ total (channel_at net i).taken (count_of starts (channel_at net i).target) = whole.kept i mine.place in
        let there : total (channel_at net i).taken (1 + count_of starts (channel_at net i).target) ≤ (channel_at net i).tokens + total (channel_at net i).made (count_of starts (channel_at net i).source) =
        rw from at (rw swap at enough) in
        let none : total (channel_at net i).made 0 ≡ 0 = total-zero (channel_at net i).made in
        let short : (channel_at net i).tokens + total (channel_at net i).made 0 < total (channel_at net i).taken (0 + 1) = need in
        let one : total (channel_at net i).taken (0 + 1) ≡ total (channel_at net i).taken 1 = refl in
        omega arith

    own-tested : (r q k : ℕ) → r < count_of starts a → r + q * count_of starts a ≡ k + 1 → FirstNeedy (channel_at net i) (count_of starts a) r q → end_at net period starts a k ≤ start_at period starts a (k + 1)
    own-tested r q k below at first =
        let last : LastNeed (channel_at net i) (r + q * count_of starts a) k = rw at (mine.last k) in
        let test : end_at net period starts (channel_at net i).source k ≤ start_at period starts (channel_at net i).target (r + q * count_of starts (channel_at net i).target) =
        ((tests i mine.place).each r (rw mine.target below)).ends q k (rw mine.target first) (rw mine.target last) in
        let from : end_at net period starts a k ≤ start_at period starts (channel_at net i).target (r + q * count_of starts (channel_at net i).target) =
        subst (λ (b : ℕ). end_at net period starts b k ≤ start_at period starts (channel_at net i).target (r + q * count_of starts (channel_at net i).target)) mine.source test in
        let to : end_at net period starts a k ≤ start_at period starts a (r + q * count_of starts a) =
        subst (λ (b : ℕ). end_at net period starts a k ≤ start_at period starts b (r + q * count_of starts b)) mine.target from in
        rw at at to

    own-needs : (k : ℕ) → Needs (channel_at net i) (k + 1) 0
    own-needs k = fewer-needed (channel_at net i) (k + 1) 0 k (omega arith) (mine.last k).needed

    own-turns : (r q k : ℕ) → r < count_of starts a → r + q * count_of starts a ≡ k + 1 → end_at net period starts a k ≤ start_at period starts a (k + 1)
    own-turns r zero k below at =
        own-tested r zero k below at (record { needs = rw at (own-needs k); first = λ p less. absurd (omega arith) })
    own-turns r (suc q) k below at = ⊎_elim
        (λ (early : r + q * count_of starts a < 1).
        let none : r + q * count_of starts a ≡ 0 = omega arith in
        own-tested r (suc q) k below at (record {
          needs = rw at (own-needs k);
          first = λ p less need.
              let le : p * count_of starts a ≤ q * count_of starts a = Rattle.std.proofs.Common.mul-le-mul_right (count_of starts a) (omega arith) in
              let same : r + p * count_of starts a ≡ 0 = omega arith in
              own-first (rw same at need);
        }))
        (λ (later : 1 ≤ r + q * count_of starts a).
        let back : ℕ = r + q * count_of starts a - 1 in
        let before : r + q * count_of starts a ≡ back + 1 = omega arith in
        let here : back + count_of starts a ≡ k = omega arith in
        let next : back + 1 + count_of starts a ≡ k + 1 = omega arith in
        let le : end_at net period starts a back ≤ start_at period starts a (back + 1) = own-turns r q back below before in
        let left : end_at net period starts a k ≡ end_at net period starts a back + period = rw (sym here) (end-later a back actor) in
        let right : start_at period starts a (k + 1) ≡ start_at period starts a (back + 1) + period = rw (sym next) (turn-later a (back + 1) actor) in
        omega arith)
        (cases_lt (r + q * count_of starts a) 1)

    own-ends : (k : ℕ) → end_at net period starts a k ≤ start_at period starts a (k + 1)
    own-ends k =
        let turn : ℕ = count_of starts a in
        let split : (k + 1) % turn + (k + 1) / turn * turn ≡ k + 1 = omega (arith, div-add-mod' (k + 1) turn) in
        own-turns ((k + 1) % turn) ((k + 1) / turn) k (mod-lt (k + 1) (some a actor)) split

  -- the firings of an actor end in their order
  end-next : (a k : ℕ) → a < length net.times → end_at net period starts a k ≤ end_at net period starts a (k + 1)
  end-next a k actor = each (own.own a actor)
    where
      each : (phases_at net a ≤ 1) ⊎ ((i : ℕ) × IsOwn net a i) → end_at net period starts a k ≤ end_at net period starts a (k + 1)
      each (inl few) =
          let same : time_of net a k ≡ time_of net a (k + 1) = one_time (slice_index_or net.times a []) k (k + 1) few in
          omega (arith, rise a k actor)
      each (inr found) = omega (arith, own-ends a found.0 found.1 actor k)

  end-along : (a k d : ℕ) → a < length net.times → end_at net period starts a k ≤ end_at net period starts a (d + k)
  end-along a k zero actor = let e : 0 + k ≡ k = omega arith in rw e (omega arith)
  end-along a k (suc d) actor =
      let e : suc d + k ≡ (d + k) + 1 = omega arith in
      rw e (omega (arith, end-along a k d actor, end-next a (d + k) actor))

  ends-in_order : (a j k : ℕ) → a < length net.times → j ≤ k → end_at net period starts a j ≤ end_at net period starts a k
  ends-in_order a j k actor h =
      let e : (k - j) + j ≡ k = omega arith in
      subst (λ (n : ℕ). end_at net period starts a j ≤ end_at net period starts a n) e (end-along a j (k - j) actor)

  -- ---- each need on a channel

  module _ (i : ℕ) (place : i < length net.channels) where
    tested : (k q m : ℕ) → k < count_of starts (channel_at net i).target → FirstNeedy (channel_at net i) (count_of starts (channel_at net i).target) k q →
        Needs (channel_at net i) (k + q * count_of starts (channel_at net i).target) m →
        end_at net period starts (channel_at net i).source m ≤ start_at period starts (channel_at net i).target (k + q * count_of starts (channel_at net i).target)
    tested k q m below first need =
        let last = some-last net wired i (k + q * count_of starts (channel_at net i).target) m place need in
        let test : end_at net period starts (channel_at net i).source last.0 ≤ start_at period starts (channel_at net i).target (k + q * count_of starts (channel_at net i).target) =
        ((tests i place).each k below).ends q last.0 first last.2 in
        omega (arith, ends-in_order (channel_at net i).source m last.0 (wired.sources i place) last.1)

    by-turns : (k q m : ℕ) → k < count_of starts (channel_at net i).target → Needs (channel_at net i) (k + q * count_of starts (channel_at net i).target) m →
        end_at net period starts (channel_at net i).source m ≤ start_at period starts (channel_at net i).target (k + q * count_of starts (channel_at net i).target)
    by-turns k zero m below need = tested k zero m below (record {
      needs = fewer-needed (channel_at net i) (k + zero * count_of starts (channel_at net i).target) 0 m (omega arith) need;
      first = λ p less. absurd (omega arith);
    }) need
    by-turns k (suc q) m below need = ⊎_elim
        (λ (early : Needs (channel_at net i) (k + q * count_of starts (channel_at net i).target) 0).
        let target : ℕ = (channel_at net i).target in
        let source : ℕ = (channel_at net i).source in
        let e : k + suc q * count_of starts target ≡ (k + q * count_of starts target) + count_of starts target = omega arith in
        let right : start_at period starts target ((k + q * count_of starts target) + count_of starts target) ≡ start_at period starts target (k + q * count_of starts target) + period = turn-later target (k + q * count_of starts target) (wired.targets i place) in
        let back : Needs (channel_at net i) ((k + q * count_of starts target) + count_of starts target) m = rw e at need in
        rw e (⊎_elim
        (λ (small : m < count_of starts source).
        let le : end_at net period starts source 0 ≤ start_at period starts target (k + q * count_of starts target) = by-turns k q 0 below early in
        let left : end_at net period starts source (0 + count_of starts source) ≡ end_at net period starts source 0 + period = end-later source 0 (wired.sources i place) in
        omega (arith, ends-in_order source m (0 + count_of starts source) (wired.sources i place) (omega arith)))
        (λ (great : count_of starts source ≤ m).
        let less : ℕ = m - count_of starts source in
        let at_m : m ≡ less + count_of starts source = omega arith in
        let moved : Needs (channel_at net i) ((k + q * count_of starts target) + count_of starts target) (less + count_of starts source) = rw at_m at back in
        let le : end_at net period starts source less ≤ start_at period starts target (k + q * count_of starts target) = by-turns k q less below (needs-unshift net (count_of starts) whole i place (k + q * count_of starts target) less moved) in
        let left : end_at net period starts source (less + count_of starts source) ≡ end_at net period starts source less + period = end-later source less (wired.sources i place) in
        rw at_m (omega arith))
        (cases_lt m (count_of starts source))))
        (λ (enough : total (channel_at net i).taken (k + q * count_of starts (channel_at net i).target + 1) ≤ (channel_at net i).tokens + total (channel_at net i).made 0).
        tested k (suc q) m below (record {
          needs = fewer-needed (channel_at net i) (k + suc q * count_of starts (channel_at net i).target) 0 m (omega arith) need;
          first = λ p less lack.
              let le : p * count_of starts (channel_at net i).target ≤ q * count_of starts (channel_at net i).target = Rattle.std.proofs.Common.mul-le-mul_right (count_of starts (channel_at net i).target) (omega arith) in
              let later : Needs (channel_at net i) (k + q * count_of starts (channel_at net i).target) 0 = needs-later (channel_at net i) (k + p * count_of starts (channel_at net i).target) (k + q * count_of starts (channel_at net i).target) 0 (omega arith) lack in
              omega arith;
        }) need)
        (cases_lt ((channel_at net i).tokens + total (channel_at net i).made 0) (total (channel_at net i).taken (k + q * count_of starts (channel_at net i).target + 1)))

    one-fed : (j m : ℕ) → Needs (channel_at net i) j m → end_at net period starts (channel_at net i).source m ≤ start_at period starts (channel_at net i).target j
    one-fed j m need =
        let turn : ℕ = count_of starts (channel_at net i).target in
        let split : j % turn + j / turn * turn ≡ j = omega (arith, div-add-mod' j turn) in
        subst (λ (x : ℕ). end_at net period starts (channel_at net i).source m ≤ start_at period starts (channel_at net i).target x) split
        (by-turns (j % turn) (j / turn) m (mod-lt j (some (channel_at net i).target (wired.targets i place))) (rw split need))

  pub all-fed : AllFed net period starts
  all-fed i j m place need = one-fed i place j m need
