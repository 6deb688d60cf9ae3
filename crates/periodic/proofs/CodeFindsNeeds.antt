-- The needs that the tests look at, as the code finds them.
use Rattle.std.proofs.Common.{◌≡◌, ℕ, ◌+◌, ◌-◌, ◌*◌, ◌/◌, ◌%◌, ◌^◌, ◌≤◌, ◌<◌, ◌↔◌, true, leb-true, le-leb, List, [], length, sum, ⊎_elim, subst, sym, refl, ap, ◌∙◌, arith, mod-lt, div-add-mod', div-le_self, mul-le-mul, mul-le-mul_right}
use Rattle.std.proofs.Math.Nat.{div-lt_iff_lt-mul}
use Rattle.std.specs.Prelude.{slice_index, slice_index_or, nat_le, IsTrue}
use Rattle.std.proofs.lemmas.Bool.{cases_lt}
use Rattle.std.proofs.lemmas.List.Sums.{get_or-le-sum_by}
use Rattle.sd_base.specs.Net.{Channel, Net, channel_at, total}
use Rattle.sd_base.specs.Schedules.{time_of, phases_at, Needs, LastNeed, IsNeed, count_of}
use Rattle.sd_base.specs.Lawful.{Lawful}
use Rattle.sd_base.proofs.SumsRepeatByTurns.{total-zero, total-le, total-grows, total-whole, total-times, total-turn, one-last-need}
use Rattle.sd_base.proofs.LawfulIsRegular.{wired, balanced}
use Rattle.sd_base.proofs.RoundsKeepTokens.{Whole, whole-rounds, whole-times, need-by_rounds}
use Rattle.firing.proofs.PortSums.{wanted-rest, need-some}
use Rattle.periodic.specs.Periods.{start_in, start_at}
use Rattle.periodic.specs.ScheduleLines.{HasTurn}
use Rattle.periodic.specs.inside.FiniteTests.{FirstNeedy, InTime}

-- ---- the first firing of its residue that needs anything

pub needy-now : (c : Channel) (turn k first tokens : ℕ) → first ≡ total c.taken (k + 1) → tokens ≡ c.tokens → tokens < first → FirstNeedy c turn k 0
needy-now c turn k first tokens at_first at_tokens short =
    let none : total c.made 0 ≡ 0 = total-zero c.made in
    let e : k + 0 * turn ≡ k = omega arith in
    record { needs = rw e (omega arith); first = λ p less. absurd (omega arith) }

-- what p turns more take
turns-take : (c : Channel) (turn k p w : ℕ) → turn ≡ w * length c.taken → total c.taken (k + p * turn + 1) ≡ total c.taken (k + 1) + p * total c.taken turn
turns-take c turn k p w whole =
    let e : k + p * turn + 1 ≡ (k + 1) + p * turn = omega arith in
    let turns : p * turn ≡ (p * w) * length c.taken = rw whole (omega arith) in
    let more : total c.taken ((k + 1) + p * turn) ≡ total c.taken (k + 1) + total c.taken (p * turn) = total-whole c.taken (k + 1) (p * turn) (p * w) turns in
    let times : total c.taken (p * turn) ≡ p * total c.taken turn = total-times c.taken turn w p whole in
    rw (e, more, times) refl

pub needy-later : (c : Channel) (turn k first tokens all w : ℕ) → first ≡ total c.taken (k + 1) → tokens ≡ c.tokens → all ≡ total c.taken turn → first ≤ tokens → 0 < all →
    turn ≡ w * length c.taken → FirstNeedy c turn k ((tokens - first) / all + 1)
needy-later c turn k first tokens all w at_first at_tokens at_all enough some whole =
    let q : ℕ = (tokens - first) / all in
    let none : total c.made 0 ≡ 0 = total-zero c.made in
    let split : (tokens - first) / all * all + (tokens - first) % all ≡ tokens - first = omega (arith, div-add-mod' (tokens - first) all) in
    let rest : (tokens - first) % all < all = mod-lt (tokens - first) some in
    record {
      needs =
          let here : total c.taken (k + (q + 1) * turn + 1) ≡ total c.taken (k + 1) + (q + 1) * total c.taken turn = turns-take c turn k (q + 1) w whole in
          let more : (q + 1) * total c.taken turn ≡ q * all + all = rw (← at_all) (omega arith) in
          omega arith;
      first = λ p less need.
          let here : total c.taken (k + p * turn + 1) ≡ total c.taken (k + 1) + p * total c.taken turn = turns-take c turn k p w whole in
          let le : p * all ≤ q * all = mul-le-mul_right all (omega arith) in
          let same : p * total c.taken turn ≡ p * all = rw at_all refl in
          omega arith;
    }

-- a turn of whole rounds is whole cycles of the phases
pub turn-whole : (net : Net) (laws : Lawful net) (i rounds turn : ℕ) → i < length net.channels → turn ≡ rounds * slice_index net.round (channel_at net i).target →
    (w : ℕ) × (turn ≡ w * length (channel_at net i).taken)
turn-whole net laws i rounds turn place at =
    let whole : Whole net (λ a. rounds * slice_index net.round a) = whole-rounds net rounds (wired net laws) (balanced net laws) in
    rw at (whole.taken i place)

pub turn-takes : (net : Net) (laws : Lawful net) (i rounds turn all : ℕ) → i < length net.channels → turn ≡ rounds * slice_index net.round (channel_at net i).target → 0 < turn →
    all ≡ total (channel_at net i).taken turn → 0 < all
turn-takes net laws i rounds turn all place at some at_all =
    let whole = turn-whole net laws i rounds turn place at in
    let w : ℕ = whole.0 in
    let turns : turn ≡ whole.0 * length (channel_at net i).taken = whole.1 in
    let grows : whole.0 ≤ total (channel_at net i).taken (whole.0 * length (channel_at net i).taken) = total-grows (channel_at net i).taken whole.0 (laws.some_taken i place) in
    let same : all ≡ total (channel_at net i).taken (whole.0 * length (channel_at net i).taken) = at_all ∙ ap (total (channel_at net i).taken) turns in
    ⊎_elim
    (λ (none : whole.0 < 1).
    let zero_turns : whole.0 ≡ 0 = omega arith in
    let nothing : whole.0 * length (channel_at net i).taken ≡ 0 = rw zero_turns (omega arith) in
    absurd (omega arith))
    (λ (h : 1 ≤ whole.0). omega arith)
    (cases_lt whole.0 1)

-- ---- the last need of a firing

pub lack-some : (c : Channel) (j taken tokens : ℕ) → taken ≡ total c.taken (j + 1) → tokens ≡ c.tokens → Needs c j 0 → tokens < taken
lack-some c j taken tokens at_taken at_tokens need =
    let none : total c.made 0 ≡ 0 = total-zero c.made in omega arith

pub turn-made : (c : Channel) (f turn : ℕ) → f ≡ length c.made → turn ≡ total c.made f → 1 ≤ sum c.made → 0 < turn
turn-made c f turn phases at some = rw (at, phases, total-turn) some

pub made-phases : (net : Net) (laws : Lawful net) (i source f : ℕ) → i < length net.channels → source ≡ (channel_at net i).source → f ≡ phases_at net source → f ≡ length (channel_at net i).made
made-phases net laws i source f place at phases = phases ∙ (ap (phases_at net) at ∙ sym (laws.made_phases i place))

pub last-is : (c : Channel) (j taken tokens f turn p : ℕ) → taken ≡ total c.taken (j + 1) → tokens ≡ c.tokens → tokens < taken → f ≡ length c.made → turn ≡ total c.made f → 0 < turn →
    total c.made p < taken - tokens - (taken - tokens - 1) / turn * turn → taken - tokens - (taken - tokens - 1) / turn * turn ≤ total c.made (p + 1) →
    IsNeed c j ((taken - tokens - 1) / turn * f + p + 1)
last-is c j taken tokens f turn p at_taken at_tokens short phases at_turn some below enough =
    let rest = wanted-rest (taken - tokens) turn some (omega arith) in
    let q : ℕ = (taken - tokens - 1) / turn in
    let e : q * f + p + 1 ≡ q * f + (p + 1) = omega arith in
    let back : p + 1 - 1 ≡ p = omega arith in
    rw e (need-some c j taken tokens f turn q (p + 1) at_taken at_tokens short phases at_turn rest.2 (omega arith) enough (rw back below))

-- it is no more than the firings of as many rounds
pub need-fits : (net : Net) (laws : Lawful net) (i j n : ℕ) → i < length net.channels → j < 2 ^ 96 → IsNeed (channel_at net i) j n → n ≤ 2 ^ 96 * 100000
need-fits net laws i j n place few need =
    let source : ℕ = (channel_at net i).source in
    let target : ℕ = (channel_at net i).target in
    let by_rounds : n ≤ (j / slice_index net.round target + 1) * slice_index net.round source = need-by_rounds net (wired net laws) (balanced net laws) i j n place need in
    let small : slice_index net.round source ≤ sum net.round = get_or-le-sum_by (λ (x : ℕ). x) net.round source 0 (rw (← (balanced net laws).actors) at (laws.sources i place)) in
    let round : sum net.round ≤ 100000 = laws.small_round in
    let turns : j / slice_index net.round target ≤ j = div-le_self j (slice_index net.round target) in
    let le : (j / slice_index net.round target + 1) * slice_index net.round source ≤ 2 ^ 96 * 100000 = mul-le-mul {n₁ = j / slice_index net.round target + 1} {m₁ = slice_index net.round source} {n₂ = 2 ^ 96} {m₂ = 100000} (omega arith) (omega arith) in
    omega arith

-- a turn has a firing
pub turn-some : (net : Net) (laws : Lawful net) (rounds : ℕ) (starts : List (List ℕ)) → 1 ≤ rounds → (a : ℕ) → a < length net.times → HasTurn net rounds starts a → 0 < count_of starts a
turn-some net laws rounds starts turns a actor listed =
    let le : 1 * 1 ≤ rounds * slice_index net.round a = mul-le-mul turns ((balanced net laws).fires a actor) in
    rw listed (omega arith)

-- the last need of a firing of a turn is of the same turn or an earlier one
pub last-near : (net : Net) (laws : Lawful net) (rounds : ℕ) (starts : List (List ℕ)) → 1 ≤ rounds → (i k q n : ℕ) → i < length net.channels →
    HasTurn net rounds starts (channel_at net i).source → HasTurn net rounds starts (channel_at net i).target →
    k < count_of starts (channel_at net i).target → LastNeed (channel_at net i) (k + q * count_of starts (channel_at net i).target) n → n / count_of starts (channel_at net i).source ≤ q
last-near net laws rounds starts turns i k q n place listed_from listed_to below last =
    let c : Channel = channel_at net i in
    let from : ℕ = count_of starts (channel_at net i).source in
    let to : ℕ = count_of starts (channel_at net i).target in
    let whole : Whole net (λ a. (q + 1) * (rounds * slice_index net.round a)) = whole-times net (λ a. rounds * slice_index net.round a) (q + 1) (whole-rounds net rounds (wired net laws) (balanced net laws)) in
    let kept : total c.made ((q + 1) * from) ≡ total c.taken ((q + 1) * to) = rw (listed_from, listed_to) (whole.kept i place) in
    let reach : total c.taken (k + q * to + 1) ≤ total c.taken ((q + 1) * to) = total-le c.taken (omega arith) in
    let short : c.tokens + total c.made n < total c.taken (k + q * to + 1) = last.needed in
    let less : n < (q + 1) * from = ⊎_elim (λ (h : n < (q + 1) * from). h)
    (λ (past : (q + 1) * from ≤ n). absurd (let le : total c.made ((q + 1) * from) ≤ total c.made n = total-le c.made past in omega arith))
    (cases_lt n ((q + 1) * from)) in
    let turn : n / from < q + 1 = (div-lt_iff_lt-mul (turn-some net laws rounds starts turns (channel_at net i).source (laws.sources i place) listed_from)).1 less in
    omega arith

-- the same, where the rows are read first
pub near-in_row : (net : Net) (laws : Lawful net) (rounds : ℕ) (starts : List (List ℕ)) → 1 ≤ rounds → (i k q n source target : ℕ) (from to : List ℕ) →
    i < length net.channels → HasTurn net rounds starts (channel_at net i).source → HasTurn net rounds starts (channel_at net i).target → source ≡ (channel_at net i).source → target ≡ (channel_at net i).target → from ≡ slice_index_or starts source [] → to ≡ slice_index_or starts target [] →
    k < count_of starts (channel_at net i).target → q ≤ 2000000001 → LastNeed (channel_at net i) (k + q * length to) n → n / length from ≤ 4294967296
near-in_row net laws rounds starts turns i k q n source target from to place listed_from listed_to at_source at_target at_from at_to below few last =
    let row_from : from ≡ slice_index_or starts (channel_at net i).source [] = at_from ∙ ap (λ (a : ℕ). slice_index_or starts a []) at_source in
    let row_to : to ≡ slice_index_or starts (channel_at net i).target [] = at_to ∙ ap (λ (a : ℕ). slice_index_or starts a []) at_target in
    let moved : LastNeed (channel_at net i) (k + q * count_of starts (channel_at net i).target) n = subst (λ (row : List ℕ). LastNeed (channel_at net i) (k + q * length row) n) row_to last in
    let near : n / count_of starts (channel_at net i).source ≤ q = last-near net laws rounds starts turns i k q n place listed_from listed_to below moved in
    rw row_from (omega arith)

-- where phases make some tokens, there are some phases
pub some-phases : (xs : List ℕ) (phases wanted : ℕ) → 1 ≤ wanted → wanted ≤ total xs phases → 0 < phases
some-phases xs phases wanted some enough = ⊎_elim
    (λ (less : 0 < phases). less)
    (λ (none : phases ≤ 0).
    let same : phases ≡ 0 = omega arith in
    let nothing : total xs phases ≡ 0 = rw same (total-zero xs) in
    absurd (omega arith))
    (cases_lt 0 phases)

-- ---- one test

first-one : (c : Channel) (turn k p q : ℕ) → FirstNeedy c turn k p → FirstNeedy c turn k q → p ≤ q
first-one c turn k p q one other = ⊎_elim (λ (less : q < p). absurd (one.first q less other.needs)) (λ (h : p ≤ q). h) (cases_lt q p)

-- the firing and its need are the only ones that the test speaks of
pub in-time : (net : Net) (period : ℕ) (starts : List (List ℕ)) (i k q n : ℕ) → FirstNeedy (channel_at net i) (count_of starts (channel_at net i).target) k q →
    LastNeed (channel_at net i) (k + q * count_of starts (channel_at net i).target) n →
    start_at period starts (channel_at net i).source n + time_of net (channel_at net i).source n ≤ start_at period starts (channel_at net i).target (k + q * count_of starts (channel_at net i).target) →
    InTime net period starts i k
in-time net period starts i k q n first last ends = record {
  ends = λ p m other_first other_last.
      let same : p ≡ q = omega (arith, first-one (channel_at net i) (count_of starts (channel_at net i).target) k p q other_first first, first-one (channel_at net i) (count_of starts (channel_at net i).target) k q p first other_first) in
      let moved : LastNeed (channel_at net i) (k + q * count_of starts (channel_at net i).target) m = rw same at other_last in
      let need : m ≡ n = omega (arith, one-last-need (channel_at net i) (k + q * count_of starts (channel_at net i).target) m n moved last, one-last-need (channel_at net i) (k + q * count_of starts (channel_at net i).target) n m last moved) in
      rw (same, need) ends;
}

pub in-time-decides : (net : Net) (period : ℕ) (starts : List (List ℕ)) (i k q n source target phases left time right : ℕ) (from to : List ℕ) →
    source ≡ (channel_at net i).source → target ≡ (channel_at net i).target → from ≡ slice_index_or starts source [] → to ≡ slice_index_or starts target [] →
    phases ≡ phases_at net source → time ≡ slice_index (slice_index_or net.times source []) (n % phases) → left ≡ start_in period from n → right ≡ start_in period to (k + q * length to) →
    FirstNeedy (channel_at net i) (length to) k q → LastNeed (channel_at net i) (k + q * length to) n →
    IsTrue (nat_le (left + time) right) ↔ InTime net period starts i k
in-time-decides net period starts i k q n source target phases left time right from to at_source at_target at_from at_to at_phases at_time at_left at_right first last =
    (λ yes. in-time net period starts i k q n there need (ends-in yes), ends-out)
  where
    row-to : to ≡ slice_index_or starts (channel_at net i).target []
    row-to = at_to ∙ ap (λ (a : ℕ). slice_index_or starts a []) at_target

    there : FirstNeedy (channel_at net i) (count_of starts (channel_at net i).target) k q
    there = subst (λ (row : List ℕ). FirstNeedy (channel_at net i) (length row) k q) row-to first

    need : LastNeed (channel_at net i) (k + q * count_of starts (channel_at net i).target) n
    need = subst (λ (row : List ℕ). LastNeed (channel_at net i) (k + q * length row) n) row-to last

    right-is : right ≡ start_at period starts (channel_at net i).target (k + q * count_of starts (channel_at net i).target)
    right-is = at_right ∙ ap (λ (row : List ℕ). start_in period row (k + q * length row)) row-to

    left-is : left ≡ start_at period starts (channel_at net i).source n
    left-is = at_left ∙ ap (λ (row : List ℕ). start_in period row n) (at_from ∙ ap (λ (a : ℕ). slice_index_or starts a []) at_source)

    time-is : time ≡ time_of net (channel_at net i).source n
    time-is = at_time ∙ (ap (λ (f : ℕ). slice_index (slice_index_or net.times source []) (n % f)) at_phases ∙ ap (λ (a : ℕ). time_of net a n) at_source)

    ends-in : nat_le (left + time) right ≡ true →
        start_at period starts (channel_at net i).source n + time_of net (channel_at net i).source n ≤ start_at period starts (channel_at net i).target (k + q * count_of starts (channel_at net i).target)
    ends-in passes =
        let le : left + time ≤ right = leb-true _ _ passes in
        omega (arith, left-is, right-is, time-is)

    ends-out : InTime net period starts i k → nat_le (left + time) right ≡ true
    ends-out test =
        let le : start_at period starts (channel_at net i).source n + time_of net (channel_at net i).source n ≤ start_at period starts (channel_at net i).target (k + q * count_of starts (channel_at net i).target) = test.ends q n there need in
        let here : left + time ≤ right = omega (arith, left-is, right-is, time-is) in
        le-leb _ _ here
