-- The certificate of a rate is valid.
use Rattle.std.proofs.Common.{◌≡◌, ℕ, zero, suc, ◌+◌, ◌*◌, ◌/◌, ◌≤◌, ◌<◌, Bool, true, false, cond, Option, None, Some, List, [], ◌∷◌, length, map, slice_get, refl, sym, ap, subst, ◌∙◌, mul-le-mul, arith}
use Rattle.std.specs.Prelude.{◌==◌, slice_index_or}
use Rattle.std.specs.Int.{IsGcd}
use Rattle.std.specs.List.{find, range_with_len}
use Rattle.std.specs.Option.{option_map}
use Rattle.std.proofs.Math.Nat.{mul-div_cancel_left, dvd-zero}
use Rattle.std.proofs.lemmas.Bool.{eqb-true}
use Rattle.std.proofs.lemmas.Bool.Decides.{nat_tests}
use Rattle.std.proofs.lemmas.Nat.Gcd.{le_from_IsGcd}
use Rattle.sd_base.specs.declared.tables.ChannelRow.{ChannelRow}
use Rattle.sd_base.specs.Net.{Net}
use Rattle.sd_base.specs.FileNet.{net_of}
use Rattle.sd_base.specs.Lawful.{Lawful}
use Rattle.periodic.specs.declared.schedule.Periodic.{Periodic}
use Rattle.periodic.specs.Periods.{Holds}
use Rattle.periodic.specs.ScheduleLines.{LineHolds}
use Rattle.periodic.proofs.RightLinesDecide.{lines_decide}
use Rattle.critical.specs.declared.cycle.CycleStep.{CycleStep}
use Rattle.critical.specs.declared.cycle.FiringNo.{FiringNo}
use Rattle.critical.specs.declared.cycle.NeedCycle.{NeedCycle}
use Rattle.critical.specs.Cycles.{HoldsOn, IsChain}
use Rattle.storage.specs.BoundedNets.{bound}
use Rattle.cert_text.specs.declared.certificates.LinkCycle.{LinkCycle}
use Rattle.cert_text.specs.declared.certificates.RateCertificate.{RateCertificate}
use Rattle.cert_checker.specs.declared.verdict.Reason.{Reason}
use Rattle.cert_checker.specs.LinkCycles.{AreAlong, IsCycleLine}
use Rattle.cert_checker.specs.NumberedBuffers.{AreBuffers, capacities_in, capacity_in}
use Rattle.cert_checker.specs.RateCertificates.{IsJoined, IsLineFault, joined, rate, schedule, starts, cycle, IsRateFault, buffers, of_line, net_by}
use Rattle.cert_checker.specs.Schedules.{IsRateLine, IsScheduleLine}
use Rattle.cert_maker.specs.Links.{link_cycle, link_step}
use Rattle.cert_maker.specs.RateCertificates.{IsLowest, buffers_from}
use Rattle.cert_maker.specs.ValidCertificates.{AreGiven, RatesAreValid}

-- ---- buffers

-- the listed capacities belong to rows
buffers-right : (channels rows : List ChannelRow) (n : ℕ) (ds : List (Option ℕ)) → ((i : ℕ) (r : ChannelRow) → slice_get rows i ≡ Some r → slice_get channels (n + i) ≡ Some r) → AreGiven rows ds → AreBuffers channels (buffers_from n ds)
buffers-right channels [] n [] over given k d below = absurd (omega arith)
buffers-right channels [] n (x ∷ ds) over given k d below = absurd given
buffers-right channels (r ∷ rows) n [] over given k d below = absurd given
buffers-right channels (r ∷ rows) n (None ∷ ds) over given k d below =
    buffers-right channels rows (suc n) ds (λ i x there. subst (λ (j : ℕ). slice_get channels j ≡ Some x) (let e : n + suc i ≡ suc n + i = omega arith in e) (over (suc i) x there)) given k d below
buffers-right channels (r ∷ rows) n (Some room ∷ ds) over given zero d below = record {
  channel = r;
  there = subst (λ (j : ℕ). slice_get channels j ≡ Some r) (let e : n + 0 ≡ n = omega arith in e) (over 0 r refl);
  apart = given.0;
  covers = given.1;
  limited = given.2;
}
buffers-right channels (r ∷ rows) n (Some room ∷ ds) over given (suc k) d below =
    buffers-right channels rows (suc n) ds (λ i x there. subst (λ (j : ℕ). slice_get channels j ≡ Some x) (let e : n + suc i ≡ suc n + i = omega arith in e) (over (suc i) x there)) given.3 k d (omega arith)

given-right : (rows : List ChannelRow) (ds : List (Option ℕ)) → AreGiven rows ds → AreBuffers rows (buffers_from 0 ds)
given-right rows ds given = buffers-right rows rows 0 ds (λ i r there. subst (λ (j : ℕ). slice_get rows j ≡ Some r) (let e : i ≡ 0 + i = omega arith in e) there) given

given-long : (rows : List ChannelRow) (ds : List (Option ℕ)) → AreGiven rows ds → length ds ≡ length rows
given-long [] [] given = refl
given-long [] (d ∷ ds) given = absurd given
given-long (r ∷ rows) [] given = absurd given
given-long (r ∷ rows) (None ∷ ds) given = ap suc (given-long rows ds given)
given-long (r ∷ rows) (Some k ∷ ds) given = ap suc (given-long rows ds given.3)

passed-over : (k n i : ℕ) (bs : List (ℕ × ℕ)) → (n ≡ i → ⊥) → capacity_in ((n, k) ∷ bs) i ≡ capacity_in bs i
passed-over k n i bs other = go (n == i) refl
  where
    go : (b : Bool) → (n == i) ≡ b → option_map (λ (x : ℕ × ℕ). x.1) (cond b (Some (n, k)) (find (λ (x : ℕ × ℕ). x.0 == i) bs)) ≡ capacity_in bs i
    go true is = absurd (other (eqb-true n i is))
    go false is = refl

taken-here : (k n i : ℕ) (bs : List (ℕ × ℕ)) → n ≡ i → capacity_in ((n, k) ∷ bs) i ≡ Some k
taken-here k n i bs here = go (n == i) refl
  where
    go : (b : Bool) → (n == i) ≡ b → option_map (λ (x : ℕ × ℕ). x.1) (cond b (Some (n, k)) (find (λ (x : ℕ × ℕ). x.0 == i) bs)) ≡ Some k
    go true is = refl
    go false is = absurd (grind (arith, nat_tests, is, here))

none-before : (n i : ℕ) (ds : List (Option ℕ)) → i < n → capacity_in (buffers_from n ds) i ≡ None
none-before n i [] less = refl
none-before n i (None ∷ ds) less = none-before (suc n) i ds (omega arith)
none-before n i (Some k ∷ ds) less = passed-over k n i (buffers_from (suc n) ds) (λ e. omega arith) ∙ none-before (suc n) i ds (omega arith)

found-at : (n j : ℕ) (ds : List (Option ℕ)) → j < length ds → capacity_in (buffers_from n ds) (n + j) ≡ slice_index_or ds j None
found-at n j [] below = absurd (omega arith)
found-at n zero (None ∷ ds) below = none-before (suc n) (n + 0) ds (omega arith)
found-at n zero (Some k ∷ ds) below = taken-here k n (n + 0) (buffers_from (suc n) ds) (omega arith)
found-at n (suc j) (None ∷ ds) below =
    subst (λ (i : ℕ). capacity_in (buffers_from (suc n) ds) i ≡ slice_index_or ds j None) (let e : suc n + j ≡ n + suc j = omega arith in e) (found-at (suc n) j ds (omega arith))
found-at n (suc j) (Some k ∷ ds) below =
    passed-over k n (n + suc j) (buffers_from (suc n) ds) (λ same. omega arith)
    ∙ subst (λ (i : ℕ). capacity_in (buffers_from (suc n) ds) i ≡ slice_index_or ds j None) (let e : suc n + j ≡ n + suc j = omega arith in e) (found-at (suc n) j ds (omega arith))

in-range : (f : ℕ → Option ℕ) (a : ℕ) (ds : List (Option ℕ)) → ((j : ℕ) → j < length ds → f (a + j) ≡ slice_index_or ds j None) → map f (range_with_len a (length ds)) ≡ ds
in-range f a [] at = refl
in-range f a (d ∷ ds) at =
    let head : f a ≡ d = subst (λ (i : ℕ). f i ≡ d) (let e : a + 0 ≡ a = omega arith in e) (at 0 (omega arith)) in
    let tail = in-range f (a + 1) ds (λ j below. subst (λ (i : ℕ). f i ≡ slice_index_or ds j None) (let e : a + suc j ≡ a + 1 + j = omega arith in e) (at (suc j) (omega arith))) in
    λ i. head i ∷ tail i

-- the listed capacities are all
capacities-back : (rows : List ChannelRow) (ds : List (Option ℕ)) → AreGiven rows ds → capacities_in (length rows) (buffers_from 0 ds) ≡ ds
capacities-back rows ds given =
    subst (λ (n : ℕ). map (capacity_in (buffers_from 0 ds)) (range_with_len 0 n) ≡ ds) (given-long rows ds given) (in-range (capacity_in (buffers_from 0 ds)) 0 ds (λ j below. found-at 0 j ds below))

-- ---- ratios

cancel : (k a b : ℕ) → 1 ≤ k → k * a ≡ k * b → a ≡ b
cancel k a b some e = let pos : 0 < k = omega arith in sym (mul-div_cancel_left a pos) ∙ ap (λ (x : ℕ). x / k) e ∙ mul-div_cancel_left b pos

lowest-parts : (rounds period p q : ℕ) → 1 ≤ rounds → 1 ≤ period → p * period ≡ rounds * q → IsGcd p q 1 → (1 ≤ p) × (1 ≤ q)
lowest-parts rounds period zero zero some passes same is = absurd (let two : 2 ≤ 1 = le_from_IsGcd 0 0 1 2 is (omega arith) (dvd-zero 2) (dvd-zero 2) in omega (arith, two))
lowest-parts rounds period zero (suc q) some passes same is = absurd (let one : 1 ≤ suc q = omega arith in let more : 1 * 1 ≤ rounds * suc q = mul-le-mul some one in omega (arith, same, more))
lowest-parts rounds period (suc p) zero some passes same is = absurd (let one : 1 ≤ suc p = omega arith in let more : 1 * 1 ≤ suc p * period = mul-le-mul one passes in omega (arith, same, more))
lowest-parts rounds period (suc p) (suc q) some passes same is = (omega arith, omega arith)

ratio-along : (rounds period p q h w : ℕ) → 1 ≤ rounds → p * period ≡ rounds * q → h * period ≡ rounds * w → h * q ≡ p * w
ratio-along rounds period p q h w some same turn =
    let a : h * (rounds * q) ≡ h * (p * period) = ap (λ (x : ℕ). h * x) (sym same) in
    let b : p * (h * period) ≡ p * (rounds * w) = ap (λ (x : ℕ). p * x) turn in
    cancel rounds (h * q) (p * w) some (omega arith)

module _ (rounds period : ℕ) (some : 1 ≤ rounds) (passes : 1 ≤ period) (r : ℕ × ℕ) (is : IsLowest rounds period r) where
  lowest-line : IsRateLine r
  lowest-line = let parts = lowest-parts rounds period r.0 r.1 some passes is.same is.lowest in record { some = parts.0; positive = parts.1; lowest = is.lowest }

  cycle-ratio : (h w : ℕ) → h * period ≡ rounds * w → h * r.1 ≡ r.0 * w
  cycle-ratio h w same = ratio-along rounds period r.0 r.1 h w some is.same same

-- ---- the need cycle

along : (net : Net) (from : FiringNo) (steps : List CycleStep) → IsChain net from steps → AreAlong net (map (link_step net) steps) steps
along net from [] chain = tt
along net from (step ∷ steps) chain = (record { place = chain.0.place; role = refl; to = refl }, along net step.to steps chain.1)

pub cycle-line : (net : Net) (r : ℕ × ℕ) (n : NeedCycle) → HoldsOn net n → n.rounds * r.1 ≡ r.0 * n.time → IsCycleLine net r (link_cycle net n)
cycle-line net r n holds ratio = record {
  cycle = n;
  spelled = record { time = refl; rounds = refl; first = refl; steps = along net n.first n.steps holds.chain };
  is = record { holds = holds; ratio = ratio };
}

-- ---- no line is faulty

module _ (net : Net) (laws : Lawful net) (is_joined : IsJoined net) (s : Periodic) (n : NeedCycle) (holds : Holds net s.period s.rounds s.starts) (on : HoldsOn net n) (ratio : n.rounds * s.period ≡ s.rounds * n.time)
    (c : RateCertificate) (lowest : IsLowest s.rounds s.period c.rate) (keeps : c.schedule ≡ s) (bounds : c.cycle ≡ link_cycle net n) where
  schedule-line : IsScheduleLine net c.rate s
  schedule-line = record { passes = holds.passes; turns = holds.turns; actors = holds.listed.actors; ratio = sym lowest.same }

  lines : (a : ℕ) → a < length s.starts → LineHolds net s.period s.rounds s.starts a
  lines a below = (lines_decide net s.period s.rounds s.starts laws holds.passes holds.turns holds.listed.actors).1 holds a (omega (arith, below, holds.listed.actors))

  pub no-line-fault : (line : ℕ) (reason : Reason) → IsLineFault net c line reason → ⊥
  no-line-fault line reason (joined h il ir) = h is_joined
  no-line-fault line reason (rate h il ir) = h (lowest-line s.rounds s.period holds.turns holds.passes c.rate lowest)
  no-line-fault line reason (schedule h il ir) = h (subst (λ (x : Periodic). IsScheduleLine net c.rate x) (sym keeps) schedule-line)
  no-line-fault line reason (starts a below h il ir) = h (line-at a below)
    where
      line-at : (a : ℕ) → a < length c.schedule.starts → LineHolds net c.schedule.period c.schedule.rounds c.schedule.starts a
      line-at a = subst (λ (x : Periodic). a < length x.starts → LineHolds net x.period x.rounds x.starts a) (sym keeps) (lines a)
  no-line-fault line reason (cycle h il ir) =
      h (subst (λ (x : LinkCycle). IsCycleLine net c.rate x) (sym bounds) (cycle-line net c.rate n on (cycle-ratio s.rounds s.period holds.turns holds.passes c.rate lowest n.rounds n.time ratio)))

pub rates-valid : RatesAreValid
rates-valid graph gamma no_overlap ds s n c laws is_joined given holds on ratio is line reason fault = go line reason fault
  where
    of_net : net_by graph gamma c ≡ bound (net_of graph gamma no_overlap) ds
    of_net =
        ap (λ (b : Bool). bound (net_of graph gamma b) (capacities_in (length graph.channels) c.buffers)) is.overlap
        ∙ ap (λ (bs : List (ℕ × ℕ)). bound (net_of graph gamma no_overlap) (capacities_in (length graph.channels) bs)) is.buffers
        ∙ ap (λ (xs : List (Option ℕ)). bound (net_of graph gamma no_overlap) xs) (capacities-back graph.channels ds given)

    go : (line : ℕ) (reason : Reason) → IsRateFault graph gamma c line reason → ⊥
    go line reason (buffers h il ir) = h (subst (λ (bs : List (ℕ × ℕ)). AreBuffers graph.channels bs) (sym is.buffers) (given-right graph.channels ds given))
    go line reason (of_line right h) =
        no-line-fault (bound (net_of graph gamma no_overlap) ds) laws is_joined s n holds on ratio c is.rate is.keeps is.bounds line reason
        (subst (λ (net : Net). IsLineFault net c line reason) of_net h)
