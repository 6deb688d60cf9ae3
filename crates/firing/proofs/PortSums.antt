-- Sums over firings as code computes them.
use Rattle.std.proofs.Common.{◌≡◌, ℕ, ◌+◌, ◌-◌, ◌*◌, ◌/◌, ◌%◌, ◌^◌, ◌≤◌, ◌<◌, List, length, sum, sym, refl, ap, ◌∙◌, arith, mod-lt, div-add-mod', div-le_self, div-mul-le_self, mul-le-mul, mul-le-mul_left, mul_assoc}
use Rattle.std.specs.Prelude.{slice_index}
use Rattle.std.proofs.Math.Nat.{mod-eq_of_lt}
use Rattle.std.proofs.lemmas.List.Sums.{get_or-le-sum_by}
use Rattle.sd_base.specs.Net.{Channel, Net, channel_at, phase_entry, total}
use Rattle.sd_base.specs.Schedules.{IsNeed}
use Rattle.sd_base.specs.Lawful.{Lawful}
use Rattle.sd_base.proofs.SumsRepeatByTurns.{total-zero, total-more, total-le, total-split, total-shift, total-turns, total-turn, total-bound}
use Rattle.firing.specs.declared.sums.Port.{Port}
use Rattle.firing.specs.declared.sums.Port.TheVariants.{Made, Taken}
use Rattle.firing.specs.Ports.{rates_at}
use Rattle.sd_base.proofs.LawfulIsRegular.{wired, balanced}
use Rattle.sd_base.proofs.RoundsKeepTokens.{need-by_rounds}

pub turn-none : (xs : List ℕ) → 0 ≡ total xs 0
turn-none xs = sym (total-zero xs)

pub turn-more : (xs : List ℕ) (n sum rate : ℕ) → sum ≡ total xs n → n < length xs → rate ≡ slice_index xs n → sum + rate ≡ total xs (n + 1)
turn-more xs n sum rate so_far below here =
    let same : phase_entry xs n ≡ slice_index xs n = ap (slice_index xs) (mod-eq_of_lt below) in
    rw total-more (omega arith)

-- whole turns and a rest
pub port-split : (xs : List ℕ) (n f turn rest : ℕ) → f ≡ length xs → turn ≡ total xs f → rest ≡ total xs (n % f) → n / f * turn + rest ≡ total xs n
port-split xs n f turn rest phases at_turn at_rest =
    rw (at_turn, at_rest, phases) (sym (total-split xs n))

pub turns-fit : (n f turn : ℕ) → turn ≤ f * 1000000 → n ≤ 2 ^ 96 → n / f * turn ≤ 2 ^ 96 * 1000000
turns-fit n f turn small few =
    let one : n / f * turn ≤ n / f * (f * 1000000) = mul-le-mul_left (n / f) small in
    let two : n / f * (f * 1000000) ≡ n / f * f * 1000000 = sym (mul_assoc (n / f) f 1000000) in
    let three : n / f * f ≤ n = div-mul-le_self n f in
    omega arith

-- ---- the need of a firing

pub turn-some : (xs : List ℕ) (f turn : ℕ) → f ≡ length xs → turn ≡ total xs f → 1 ≤ sum xs → 0 < turn
turn-some xs f turn phases at some = rw (at, phases, total-turn) some

-- what is wanted beyond whole turns
pub wanted-rest : (lack turn : ℕ) → 0 < turn → 1 ≤ lack →
    (1 ≤ lack - (lack - 1) / turn * turn) × (lack - (lack - 1) / turn * turn ≤ turn) × ((lack - 1) / turn * turn + (lack - (lack - 1) / turn * turn) ≡ lack)
wanted-rest lack turn some short =
    let split : (lack - 1) / turn * turn + (lack - 1) % turn ≡ lack - 1 = div-add-mod' (lack - 1) turn in
    let below : (lack - 1) % turn < turn = mod-lt (lack - 1) some in
    (omega arith, omega arith, omega arith)

pub need-none : (c : Channel) (j taken tokens : ℕ) → taken ≡ total c.taken (j + 1) → tokens ≡ c.tokens → taken ≤ tokens → IsNeed c j 0
need-none c j taken tokens at_taken at_tokens few = record { enough = omega arith; least = λ m below. absurd (omega arith) }

pub need-some : (c : Channel) (j taken tokens f turn q p : ℕ) → taken ≡ total c.taken (j + 1) → tokens ≡ c.tokens → tokens < taken → f ≡ length c.made → turn ≡ total c.made f →
    q * turn + (taken - tokens - q * turn) ≡ taken - tokens → 1 ≤ p → taken - tokens - q * turn ≤ total c.made p → total c.made (p - 1) < taken - tokens - q * turn →
    IsNeed c j (q * f + p)
need-some c j taken tokens f turn q p at_taken at_tokens short phases at_turn whole some enough least = record {
  enough =
      let here : total c.made (q * f + p) ≡ total c.made p + q * turn = made-at p in
      omega arith;
  least = λ m below.
      let here : total c.made (q * f + (p - 1)) ≡ total c.made (p - 1) + q * turn = made-at (p - 1) in
      let le : total c.made m ≤ total c.made (q * f + (p - 1)) = total-le c.made (omega arith) in
      omega arith;
}
  where
    made-at : (k : ℕ) → total c.made (q * f + k) ≡ total c.made k + q * turn
    made-at k =
        let turns : total c.made (q * length c.made) ≡ q * total c.made (length c.made) = total-turns c.made q in
        let shift : total c.made (k + q * length c.made) ≡ total c.made k + total c.made (q * length c.made) = total-shift c.made k q in
        let one : turn ≡ total c.made (length c.made) = at_turn ∙ ap (total c.made) phases in
        let place : q * f + k ≡ k + q * length c.made = rw phases (omega arith) in
        rw (place, shift, turns, one) refl

-- the need of a firing is no more than the firings of as many rounds
pub need-fits : (net : Net) (laws : Lawful net) (i j n : ℕ) → i < length net.channels → j ≤ 2 ^ 40 → IsNeed (channel_at net i) j n → n < 2 ^ 60
need-fits net laws i j n place few need =
    let source : ℕ = (channel_at net i).source in
    let target : ℕ = (channel_at net i).target in
    let r : ℕ = j / slice_index net.round target + 1 in
    let by_rounds : n ≤ (j / slice_index net.round target + 1) * slice_index net.round source = need-by_rounds net (wired net laws) (balanced net laws) i j n place need in
    let small : slice_index net.round source ≤ sum net.round = get_or-le-sum_by (λ (x : ℕ). x) net.round source 0 (rw (← (balanced net laws).actors) at (laws.sources i place)) in
    let round : sum net.round ≤ 100000 = laws.small_round in
    let turns : j / slice_index net.round target ≤ j = div-le_self j (slice_index net.round target) in
    let le : (j / slice_index net.round target + 1) * slice_index net.round source ≤ (2 ^ 40 + 1) * 100000 = mul-le-mul {n₁ = j / slice_index net.round target + 1} {m₁ = slice_index net.round source} {n₂ = 2 ^ 40 + 1} {m₂ = 100000} (omega arith) (omega arith) in
    omega arith

pub at_length : (xs : List ℕ) (f turn n : ℕ) → f ≡ length xs → turn ≡ total xs f → n ≤ turn → n ≤ total xs (length xs)
at_length xs f turn n phases at_turn small = rw (← phases) (rw (← at_turn) small)

-- ---- the sums of the first phases

pub rates-small : (net : Net) (laws : Lawful net) (port : Port) (i n : ℕ) → i < length net.channels → total (rates_at port (channel_at net i)) n ≤ n * 1000000
rates-small net laws Made i n place = total-bound (channel_at net i).made 1000000 n (λ p. laws.small_made i p place)
rates-small net laws Taken i n place = total-bound (channel_at net i).taken 1000000 n (λ p. laws.small_taken i p place)

pub whole-turn : (xs : List ℕ) (f wanted : ℕ) → f ≡ length xs → wanted ≤ total xs (length xs) → wanted ≤ total xs f
whole-turn xs f wanted phases enough = rw phases enough
