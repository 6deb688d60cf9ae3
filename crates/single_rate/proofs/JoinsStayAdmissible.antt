-- An admissible schedule of the expansion, joined, is one of the net: an actor's firings are those of its copies, sorted by their starts.
use Rattle.std.proofs.Common.{◌≡◌, ℕ, zero, suc, ◌+◌, ◌-◌, ◌*◌, ◌/◌, ◌%◌, ◌≤◌, ◌<◌, ◌⊎◌, inl, inr, ⊎_elim, Bool, true, false, List, [], length, sum, subst, sym, refl, ap, ◌∙◌, arith, mod-lt, div-add-mod'}
use Rattle.std.specs.Prelude.{slice_index, slice_index_or, nat_le, count_by}
use Rattle.std.proofs.lemmas.Bool.{cases_lt, leb-true, le-leb}
use Rattle.sd_base.specs.Net.{Channel, Net, channel_at, total}
use Rattle.sd_base.specs.Lawful.{Lawful}
use Rattle.sd_base.specs.Schedules.{time_of, phases_at, Needs, Schedule, Admissible, count_of, start_of, end_of}
use Rattle.sd_base.proofs.SumsRepeatByTurns.{total-le}
use Rattle.sd_base.proofs.LawfulIsRegular.{Wired, Balanced, wired, balanced}
use Rattle.sd_base.proofs.RoundsKeepTokens.{whole-rounds}
use Rattle.sd_base.proofs.FiringsKeepOrder.{one_time}
use Rattle.single_rate.specs.Expansions.{first_copy}
use Rattle.single_rate.specs.Firings.{TakesOf}
use Rattle.single_rate.proofs.TalliesGiveWeights.{tally, tally-le, weigh, weigh-alike, weigh-prefix, IsPrefix, prefix-tally, prefix-tells}
use Rattle.single_rate.proofs.TokensSuffice.{Moves, taken-made}
use Rattle.single_rate.proofs.LinksOrderCopies.{Unrolled, fed-by}
use Rattle.single_rate.proofs.CopiesCountFirings.{sum_over, sum_over-suc, tally-same, is_in, in-tells, in-from, count-copies}
use Rattle.single_rate.proofs.OwnLines.{OwnLine, one-by-one}
use Rattle.single_rate.proofs.RisingFrontsPass.{Rises, PassesBelow, rising-tells, rising-count}

-- by actor, the starts of s are those of the copies in u, and never fall
pub record IsJoined (net : Net) (u s : Schedule) : Type 0 where
  pub actors : length s ≡ length net.times
  pub rises : (a : ℕ) → Rises (slice_index_or s a [])
  pub counts : (g : ℕ → Bool) (a : ℕ) → a < length net.times → count_by g (slice_index_or s a []) ≡ sum_over (λ k. count_by g (slice_index_or u (first_copy net a + k) [])) (slice_index net.round a)

-- what has started by t
abbrev pub by_start : ℕ → ℕ → Bool
by_start t x = nat_le x t

pub by-start-down : (t : ℕ) → PassesBelow (by_start t)
by-start-down t = record { below = λ x y le holds. le-leb x t (let h : y ≤ t = leb-true y t holds in omega arith) }

-- a test of a firing and its start that an earlier firing passes where it has ended by then
pub record Falls (net : Net) (a : ℕ) (g : ℕ → ℕ → Bool) : Type 0 where
  pub earlier : (n x y : ℕ) → x + time_of net a n ≤ y → g (suc n) y ≡ true → g n x ≡ true

-- a function is at most its sum
pub sum-holds : (f : ℕ → ℕ) (n k : ℕ) → k < n → f k ≤ sum_over f n
sum-holds f zero k below = absurd (omega arith)
sum-holds f (suc n) k below = at (λ (h : k < n). sum-holds f n k h) (cases_lt k n)
  where
    at : (k < n → f k ≤ sum_over f n) → (k < n) ⊎ (n ≤ k) → f k ≤ sum_over f (suc n)
    at rest (inl early) = rw sum_over-suc (omega (arith, rest early))
    at rest (inr late) = let e : k ≡ n = omega arith in rw (e, sum_over-suc) (omega arith)

pub start-falls : (net : Net) (a t : ℕ) → Falls net a (λ n x. nat_le x t)
start-falls net a t = record { earlier = λ n x y ended holds. le-leb x t (let h : y ≤ t = leb-true y t holds in omega arith) }

end-falls : (net : Net) (a t : ℕ) → Falls net a (λ n x. nat_le (x + time_of net a n) t)
end-falls net a t = record { earlier = λ n x y ended holds. le-leb (x + time_of net a n) t (let h : y + time_of net a (suc n) ≤ t = leb-true (y + time_of net a (suc n)) t holds in omega arith) }

shifted-down : (d t : ℕ) → PassesBelow (λ x. nat_le (x + d) t)
shifted-down d t = record { below = λ x y le holds. le-leb (x + d) t (let h : y + d ≤ t = leb-true (y + d) t holds in omega arith) }

module _ (net big : Net) (laws : Lawful net) (un : Unrolled net big) (u : Schedule) (good : Admissible big u) where
  -- firing n of a is in the schedule
  pub record IsThere (a n : ℕ) : Type 0 where
    pub there : n / slice_index net.round a < count_of u (first_copy net a + n % slice_index net.round a)

  -- its start
  abbrev pub start_at : ℕ → ℕ → ℕ
  start_at a n = start_of u (first_copy net a + n % slice_index net.round a) (n / slice_index net.round a)

  -- that firing n of a has ended when firing j of b starts
  pub record Ended (a n b j : ℕ) : Type 0 where
    pub is : IsThere a n
    pub ended : start_at a n + time_of net a n ≤ start_at b j

  takes-after-core : (x j n : ℕ) → x < length net.channels → TakesOf (channel_at net x) j n → IsThere (channel_at net x).target j → Ended (channel_at net x).source n (channel_at net x).target j
  takes-after-core x j n place takes is =
      let a : ℕ = (channel_at net x).source in
      let b : ℕ = (channel_at net x).target in
      let bal : Balanced net = balanced net laws in
      let wir : Wired net = wired net laws in
      let ra : ℕ = slice_index net.round a in
      let rb : ℕ = slice_index net.round b in
      let some_a : 1 ≤ ra = bal.fires a (wir.sources x place) in
      let some_b : 1 ≤ rb = bal.fires b (wir.targets x place) in
      let ej : j % rb + j / rb * rb ≡ j = omega (arith, div-add-mod' j rb) in
      let en : n % ra + n / ra * ra ≡ n = omega (arith, div-add-mod' n ra) in
      let t1 : TakesOf (channel_at net x) (j % rb + j / rb * rb) n = subst (λ (y : ℕ). TakesOf (channel_at net x) y n) (sym ej) takes in
      let t2 : TakesOf (channel_at net x) (j % rb + j / rb * rb) (n % ra + n / ra * ra) = subst (λ (y : ℕ). TakesOf (channel_at net x) (j % rb + j / rb * rb) y) (sym en) t1 in
      let fed = fed-by net big un wir bal u good x (j % rb) (j / rb) (n % ra) (n / ra) place (mod-lt j some_b) (mod-lt n some_a) t2 is.there in
      record { is = record { there = fed.0 }; ended = subst (λ (y : ℕ). start_at a n + time_of net a y ≤ start_at b j) en fed.1 }

  -- a firing that takes of another one starts when that one has ended
  pub takes-after : (x a b j n : ℕ) → x < length net.channels → (channel_at net x).source ≡ a → (channel_at net x).target ≡ b → TakesOf (channel_at net x) j n → IsThere b j → Ended a n b j
  takes-after x a b j n place from into takes is =
      subst (λ (y : ℕ). Ended y n b j) from
      (subst (λ (y : ℕ). Ended (channel_at net x).source n y j) into
      (takes-after-core x j n place takes (subst (λ (y : ℕ). IsThere y j) (sym into) is)))

  abbrev pub tested : ℕ → (ℕ → ℕ → Bool) → ℕ → Bool
  tested a g n = is_in u (first_copy net a) (slice_index net.round a) g n

  -- with an own channel the firings that pass stand without a gap
  pub own-prefix : (a x : ℕ) → a < length net.times → OwnLine net a x → (g : ℕ → ℕ → Bool) → Falls net a g → IsPrefix (tested a g)
  own-prefix a x actor own g falls = record {
    before = λ n holds.
        let some : 1 ≤ slice_index net.round a = (balanced net laws).fires a actor in
        let is = in-tells u (first_copy net a) (slice_index net.round a) some g (suc n) holds in
        let before : Ended a n a (suc n) = takes-after x a a (suc n) n own.place own.source own.target (own.takes n) (record { there = is.there }) in
        in-from u (first_copy net a) (slice_index net.round a) some g n before.is.there (falls.earlier n (start_at a n) (start_at a (suc n)) before.ended is.passes);
  }

  -- what passes weighs as much as the first so many firings
  pub weighs : (a : ℕ) (xs : List ℕ) → a < length net.times → length xs ≡ phases_at net a → (g : ℕ → ℕ → Bool) → Falls net a g → (n : ℕ) → weigh (tested a g) xs n ≡ total xs (tally (tested a g) n)
  weighs a xs actor long g falls n = at (one-by-one net laws a actor)
    where
      at : (phases_at net a ≤ 1) ⊎ ((x : ℕ) × OwnLine net a x) → weigh (tested a g) xs n ≡ total xs (tally (tested a g) n)
      at (inl few) = weigh-alike (tested a g) xs n (omega arith)
      at (inr own) = weigh-prefix (tested a g) xs n (own-prefix a own.0 actor own.1 g falls)

  module _ (s : Schedule) (is : IsJoined net u s) where
    -- so many rounds have all firings of an actor
    abbrev pub rounds_of : ℕ → ℕ
    rounds_of a = sum_over (λ k. count_of u (first_copy net a + k)) (slice_index net.round a)

    counted : (a q : ℕ) → a < length net.times → rounds_of a ≤ q → (g : ℕ → Bool) → tally (tested a (λ n x. g x)) (q * slice_index net.round a) ≡ count_by g (slice_index_or s a [])
    counted a q actor enough g =
        count-copies u (first_copy net a) (slice_index net.round a) q g (λ k below. let h : count_of u (first_copy net a + k) ≤ rounds_of a = sum-holds (λ k. count_of u (first_copy net a + k)) (slice_index net.round a) k below in omega arith)
        ∙ sym (is.counts g a actor)

    within : (a q n : ℕ) → a < length net.times → rounds_of a ≤ q → IsThere a n → n < q * slice_index net.round a
    within a q n actor enough there =
        let r : ℕ = slice_index net.round a in
        let some : 1 ≤ r = (balanced net laws).fires a actor in
        let h : count_of u (first_copy net a + n % r) ≤ rounds_of a = sum-holds (λ k. count_of u (first_copy net a + k)) r (n % r) (mod-lt n some) in
        let below : n / r < count_of u (first_copy net a + n % r) = there.there in
        let more : (n / r + 1) * r ≤ q * r = Rattle.std.proofs.Common.mul-le-mul_right r (omega arith) in
        let rest : n % r < r = mod-lt n some in
        omega (arith, div-add-mod' n r)

    -- a firing before the count of those that ended by t ends by t
    ends-by : (a q t n : ℕ) → a < length net.times → rounds_of a ≤ q → n < tally (tested a (λ m x. nat_le (x + time_of net a m) t)) (q * slice_index net.round a) →
        (n < count_of s a) × (end_of net s a n ≤ t)
    ends-by a q t n actor enough below = at (one-by-one net laws a actor)
      where
        r : ℕ
        r = slice_index net.round a

        at : (phases_at net a ≤ 1) ⊎ ((x : ℕ) × OwnLine net a x) → (n < count_of s a) × (end_of net s a n ≤ t)
        at (inl few) =
            let d : ℕ = time_of net a 0 in
            let time : (m : ℕ) → time_of net a m ≡ time_of net a 0 = λ m. one_time (slice_index_or net.times a []) m 0 few in
            let same : tally (tested a (λ m x. nat_le (x + time_of net a m) t)) (q * slice_index net.round a) ≡ tally (tested a (λ m x. nat_le (x + time_of net a 0) t)) (q * slice_index net.round a) =
            tally-same (tested a (λ m x. nat_le (x + time_of net a m) t)) (tested a (λ m x. nat_le (x + time_of net a 0) t)) (q * slice_index net.round a) (λ m h. rw (time (m % slice_index net.round a + m / slice_index net.round a * slice_index net.round a)) refl) in
            let all : tally (tested a (λ m x. nat_le (x + time_of net a 0) t)) (q * slice_index net.round a) ≡ count_by (λ x. nat_le (x + time_of net a 0) t) (slice_index_or s a []) = counted a q actor enough (λ x. nat_le (x + time_of net a 0) t) in
            let told = rising-tells (slice_index_or s a []) (is.rises a) (λ x. nat_le (x + time_of net a 0) t) (shifted-down (time_of net a 0) t) n (omega arith) in
            let ends : start_of s a n + time_of net a 0 ≤ t = leb-true _ _ told.1 in
            (told.0, rw (time n) ends)
        at (inr own) =
            let some : 1 ≤ slice_index net.round a = (balanced net laws).fires a actor in
            let g : ℕ → ℕ → Bool = λ m x. nat_le (x + time_of net a m) t in
            let pre : IsPrefix (tested a (λ m x. nat_le (x + time_of net a m) t)) = own-prefix a own.0 actor own.1 (λ m x. nat_le (x + time_of net a m) t) (end-falls net a t) in
            let passes : tested a (λ m x. nat_le (x + time_of net a m) t) n ≡ true = prefix-tells _ pre n (q * slice_index net.round a) below in
            let one = in-tells u (first_copy net a) (slice_index net.round a) some (λ m x. nat_le (x + time_of net a m) t) n passes in
            let ended : start_at a n + time_of net a n ≤ t = leb-true _ _ one.passes in
            let by : IsPrefix (tested a (λ m x. nat_le x (start_at a n))) = own-prefix a own.0 actor own.1 (λ m x. nat_le x (start_at a n)) (start-falls net a (start_at a n)) in
            let here : tested a (λ m x. nat_le x (start_at a n)) n ≡ true = in-from u (first_copy net a) (slice_index net.round a) some (λ m x. nat_le x (start_at a n)) n one.there (le-leb (start_at a n) (start_at a n) (omega arith)) in
            let many : tally (tested a (λ m x. nat_le x (start_at a n))) (suc n) ≡ suc n = prefix-tally _ by n here in
            let early : n < q * slice_index net.round a = within a q n actor enough (record { there = one.there }) in
            let more : tally (tested a (λ m x. nat_le x (start_at a n))) (suc n) ≤ tally (tested a (λ m x. nat_le x (start_at a n))) (q * slice_index net.round a) = tally-le _ (suc n) (q * slice_index net.round a) (omega arith) in
            let all : tally (tested a (λ m x. nat_le x (start_at a n))) (q * slice_index net.round a) ≡ count_by (by_start (start_at a n)) (slice_index_or s a []) = counted a q actor enough (by_start (start_at a n)) in
            let told = rising-tells (slice_index_or s a []) (is.rises a) (by_start (start_at a n)) (by-start-down (start_at a n)) n (omega arith) in
            let sooner : start_of s a n ≤ start_at a n = leb-true _ _ told.1 in
            (told.0, omega arith)

    fed : (x j n : ℕ) → x < length net.channels → j < count_of s (channel_at net x).target → Needs (channel_at net x) j n →
        (n < count_of s (channel_at net x).source) × (end_of net s (channel_at net x).source n ≤ start_of s (channel_at net x).target j)
    fed x j n place below need =
        let c : Channel = channel_at net x in
        let a : ℕ = (channel_at net x).source in
        let b : ℕ = (channel_at net x).target in
        let from : a < length net.times = laws.sources x place in
        let into : b < length net.times = laws.targets x place in
        let t : ℕ = start_of s b j in
        let q : ℕ = rounds_of a + rounds_of b in
        let some_a : 1 ≤ slice_index net.round a = (balanced net laws).fires a from in
        let some_b : 1 ≤ slice_index net.round b = (balanced net laws).fires b into in
        let p : ℕ → Bool = tested b (λ m y. nat_le y t) in
        let e : ℕ → Bool = tested a (λ m y. nat_le (y + time_of net a m) t) in
        let feeds : (i m z : ℕ) → Moves (tested b (λ m y. nat_le y t)) (channel_at net x).taken 0 i z → Moves (λ k. true) (channel_at net x).made (channel_at net x).tokens m z → tested a (λ m y. nat_le (y + time_of net a m) t) m ≡ true =
        λ i m z takes makes.
        let one = in-tells u (first_copy net b) (slice_index net.round b) some_b (λ m y. nat_le y t) i takes.passes in
        let next : suc i ≡ i + 1 = omega arith in
        let after : suc m ≡ m + 1 = omega arith in
        let z_from : 0 + total (channel_at net x).taken i ≤ z = takes.from in
        let z_to : z < 0 + total (channel_at net x).taken (i + 1) = rw next at takes.to in
        let w_from : (channel_at net x).tokens + total (channel_at net x).made m ≤ z = makes.from in
        let w_to : z < (channel_at net x).tokens + total (channel_at net x).made (m + 1) = rw after at makes.to in
        let takes_of : TakesOf (channel_at net x) i m = record { takes = omega arith; makes = omega arith; not_after = omega arith; not_before = omega arith } in
        let done : Ended a m b i = takes-after x a b i m place refl refl takes_of (record { there = one.there }) in
        let started : start_at b i ≤ t = leb-true _ _ one.passes in
        let ended : start_at a m + time_of net a m ≤ start_at b i = done.ended in
        in-from u (first_copy net a) (slice_index net.round a) some_a (λ m y. nat_le (y + time_of net a m) t) m done.is.there (le-leb (start_at a m + time_of net a m) t (omega arith)) in
        let kept : total (channel_at net x).made (q * slice_index net.round a) ≡ total (channel_at net x).taken (q * slice_index net.round b) = (whole-rounds net q (wired net laws) (balanced net laws)).kept x place in
        let counted_by : weigh (tested b (λ m y. nat_le y t)) (channel_at net x).taken (q * slice_index net.round b) ≤ (channel_at net x).tokens + weigh (tested a (λ m y. nat_le (y + time_of net a m) t)) (channel_at net x).made (q * slice_index net.round a) =
        taken-made (tested b (λ m y. nat_le y t)) (tested a (λ m y. nat_le (y + time_of net a m) t)) (channel_at net x).taken (channel_at net x).made (channel_at net x).tokens feeds (q * slice_index net.round b) (q * slice_index net.round a) (omega arith) in
        let all_b : tally (tested b (λ m y. nat_le y t)) (q * slice_index net.round b) ≡ count_by (by_start t) (slice_index_or s b []) = counted b q into (omega arith) (by_start t) in
        let started : suc j ≤ count_by (by_start t) (slice_index_or s b []) = rising-count (slice_index_or s b []) (is.rises b) (by_start t) (by-start-down t) j below (le-leb t t (omega arith)) in
        let took : weigh (tested b (λ m y. nat_le y t)) (channel_at net x).taken (q * slice_index net.round b) ≡ total (channel_at net x).taken (tally (tested b (λ m y. nat_le y t)) (q * slice_index net.round b)) =
        weighs b (channel_at net x).taken into (laws.taken_phases x place) (λ m y. nat_le y t) (start-falls net b t) (q * slice_index net.round b) in
        let put : weigh (tested a (λ m y. nat_le (y + time_of net a m) t)) (channel_at net x).made (q * slice_index net.round a) ≡ total (channel_at net x).made (tally (tested a (λ m y. nat_le (y + time_of net a m) t)) (q * slice_index net.round a)) =
        weighs a (channel_at net x).made from (laws.made_phases x place) (λ m y. nat_le (y + time_of net a m) t) (end-falls net a t) (q * slice_index net.round a) in
        let more : total (channel_at net x).taken (j + 1) ≤ total (channel_at net x).taken (tally (tested b (λ m y. nat_le y t)) (q * slice_index net.round b)) = total-le (channel_at net x).taken (omega arith) in
        let less : n < tally (tested a (λ m y. nat_le (y + time_of net a m) t)) (q * slice_index net.round a) =
        ⊎_elim (λ (h : n < tally (tested a (λ m y. nat_le (y + time_of net a m) t)) (q * slice_index net.round a)). h)
        (λ (h : tally (tested a (λ m y. nat_le (y + time_of net a m) t)) (q * slice_index net.round a) ≤ n). absurd (let le : total (channel_at net x).made (tally (tested a (λ m y. nat_le (y + time_of net a m) t)) (q * slice_index net.round a)) ≤ total (channel_at net x).made n = total-le (channel_at net x).made h in omega arith))
        (cases_lt n (tally (tested a (λ m y. nat_le (y + time_of net a m) t)) (q * slice_index net.round a))) in
        ends-by a q t n from (omega arith) less

    pub joined-admissible : Admissible net s
    joined-admissible = record { actors = is.actors; rising = λ a k more. (is.rises a).next k more; fed = fed }
