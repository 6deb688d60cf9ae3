-- On a connected net whole turns that keep the tokens of each channel are whole rounds.
use Rattle.std.proofs.Common.{◌≡◌, ℕ, ◌+◌, ◌-◌, ◌*◌, ◌/◌, ◌%◌, ◌≤◌, ◌<◌, List, [], ◌∷◌, length, map, sum, inl, inr, ⊎_elim, subst, sym, ap, ◌∙◌, arith, div-add-mod', mod-lt}
use Rattle.std.proofs.Math.Nat.{mul-sub, mul-mod_left, eq_of_mul-eq-mul_right, le_of_mul-le-mul_right, mul-le-mul}
use Rattle.std.specs.Prelude.{slice_index}
use Rattle.std.specs.List.{range_with_len}
use Rattle.std.proofs.lemmas.Bool.{cases_lt}
use Rattle.std.proofs.lemmas.List.{length-map}
use Rattle.std.proofs.lemmas.List.FromFn.{get_or-map-range_with_len, length-map-range_with_len}
use Rattle.sd_base.specs.Net.{Net, channel_at, total, Balances}
use Rattle.sd_base.specs.Schedules.{phases_at}
use Rattle.sd_base.specs.Lawful.{Lawful}
use Rattle.sd_base.specs.Connection.{IsWalk, IsConnected, ends_of}
use Rattle.sd_base.proofs.PathsAreWalks.{IsChannel, channel-of}
use Rattle.sd_base.proofs.SumsRepeatByTurns.{total-turns, total-turn, total-whole}
use Rattle.sd_base.proofs.LawfulIsRegular.{Wired, Balanced, wired, balanced, phases-read}
use Rattle.sd_base.proofs.RoundsKeepTokens.{Whole, whole-round, whole-rounds}

-- turns that a channel balances stand in one proportion
pub proportion_at : (x y g h m k : ℕ) → 0 < k → x * m ≡ y * k → g * m ≡ h * k → x * h ≡ y * g
proportion_at x y g h m k some one other =
    let first : (x * m) * g ≡ (y * k) * g = ap (λ (n : ℕ). n * g) one in
    let second : (g * m) * x ≡ (h * k) * x = ap (λ (n : ℕ). n * x) other in
    let scaled : (x * h) * k ≡ (y * g) * k = omega arith in
    eq_of_mul-eq-mul_right k some (x * h) (y * g) scaled

-- from a to b and from b to c gives from a to c
pub proportion-along : (x y z f g h : ℕ) → 0 < g → x * g ≡ y * f → y * h ≡ z * g → x * h ≡ z * f
proportion-along x y z f g h some one other =
    let first : (x * g) * h ≡ (y * f) * h = ap (λ (n : ℕ). n * h) one in
    let second : (y * h) * f ≡ (z * g) * f = ap (λ (n : ℕ). n * f) other in
    let scaled : (x * h) * g ≡ (z * f) * g = omega arith in
    eq_of_mul-eq-mul_right g some (x * h) (z * f) scaled

spread : (a b c d x y g h f e : ℕ) → a ≡ x * f → b ≡ y * e → c ≡ g * f → d ≡ h * e → x * h ≡ y * g → a * d ≡ b * c
spread a b c d x y g h f e at_a at_b at_c at_d same =
    let scaled : (x * h) * (f * e) ≡ (y * g) * (f * e) = ap (λ (n : ℕ). n * (f * e)) same in
    rw at_a (rw at_b (rw at_c (rw at_d (omega arith))))

turns-sum : (xs : List ℕ) (v q : ℕ) → v ≡ q * length xs → total xs v ≡ q * sum xs
turns-sum xs v q e = ap (total xs) e ∙ (total-turns xs q ∙ ap (λ (n : ℕ). q * n) (total-turn xs))

-- two whole vectors stand in proportion along each channel
channel-proportion : (net : Net) → Wired net → (v w : ℕ → ℕ) → Whole net v → Whole net w → (i : ℕ) → i < length net.channels →
    v (channel_at net i).source * w (channel_at net i).target ≡ v (channel_at net i).target * w (channel_at net i).source
channel-proportion net wires v w one other i place =
    let x = one.made i place in
    let y = one.taken i place in
    let g = other.made i place in
    let h = other.taken i place in
    let m : ℕ = sum (channel_at net i).made in
    let k : ℕ = sum (channel_at net i).taken in
    let moved : x.0 * m ≡ y.0 * k = sym (turns-sum (channel_at net i).made (v (channel_at net i).source) x.0 x.1) ∙ (one.kept i place ∙ turns-sum (channel_at net i).taken (v (channel_at net i).target) y.0 y.1) in
    let round : g.0 * m ≡ h.0 * k = sym (turns-sum (channel_at net i).made (w (channel_at net i).source) g.0 g.1) ∙ (other.kept i place ∙ turns-sum (channel_at net i).taken (w (channel_at net i).target) h.0 h.1) in
    spread (v (channel_at net i).source) (v (channel_at net i).target) (w (channel_at net i).source) (w (channel_at net i).target) x.0 y.0 g.0 h.0 (length (channel_at net i).made) (length (channel_at net i).taken)
    x.1 y.1 g.1 h.1 (proportion_at x.0 y.0 g.0 h.0 m k (wires.some_taken i place) moved round)

module _ (net : Net) (wires : Wired net) (bal : Balanced net) (v : ℕ → ℕ) (whole : Whole net v) where
  abbrev Proportional : ℕ → Type 0
  Proportional a = v 0 * slice_index net.round a ≡ v a * slice_index net.round 0

  -- a walk keeps the proportion to actor 0
  walk-proportion : (a : ℕ) (walk : List ℕ) (b : ℕ) → IsWalk (ends_of net) a walk b → Proportional a → Proportional b
  walk-proportion a [] b same here = subst Proportional same here
  walk-proportion a (i ∷ walk) b (e, is, inl (from, rest)) here =
      let at : IsChannel net i e = channel-of net i e is in
      let known : Proportional (channel_at net i).source = subst Proportional (from ∙ sym at.source) here in
      let along = channel-proportion net wires v (slice_index net.round) whole (whole-round net wires bal) i at.place in
      walk-proportion e.1 walk b rest (subst Proportional at.target
      (proportion-along (v 0) (v (channel_at net i).source) (v (channel_at net i).target) (slice_index net.round 0) (slice_index net.round (channel_at net i).source) (slice_index net.round (channel_at net i).target) (bal.fires (channel_at net i).source (wires.sources i at.place)) known along))
  walk-proportion a (i ∷ walk) b (e, is, inr (from, rest)) here =
      let at : IsChannel net i e = channel-of net i e is in
      let known : Proportional (channel_at net i).target = subst Proportional (from ∙ sym at.target) here in
      let along = channel-proportion net wires v (slice_index net.round) whole (whole-round net wires bal) i at.place in
      walk-proportion e.0 walk b rest (subst Proportional at.source
      (proportion-along (v 0) (v (channel_at net i).target) (v (channel_at net i).source) (slice_index net.round 0) (slice_index net.round (channel_at net i).target) (slice_index net.round (channel_at net i).source) (bal.fires (channel_at net i).target (wires.targets i at.place)) known (sym along)))

  pub in-proportion : IsConnected net → (a : ℕ) → a < length net.times → v 0 * slice_index net.round a ≡ v a * slice_index net.round 0
  in-proportion connected a actor = let found = connected a actor in walk-proportion 0 found.0 a found.1 (omega arith)

-- whole turns less fewer whole turns
turns-minus : (v w q p f : ℕ) → w ≤ v → v ≡ q * f → w ≡ p * f → v - w ≡ (q - p) * f
turns-minus v w q p f le one other =
    let less : f * (q - p) ≡ f * q - f * p = mul-sub f q p in
    let swapped : (q - p) * f ≡ f * (q - p) = Rattle.std.proofs.Math.Nat.mul_comm (q - p) f in
    let parts : v - w ≡ f * q - f * p = omega arith in
    parts ∙ (sym less ∙ sym swapped)

total-minus : (xs : List ℕ) (v w p : ℕ) → w ≤ v → w ≡ p * length xs → total xs v ≡ total xs (v - w) + total xs w
total-minus xs v w p le turns =
    let e : (v - w) + w ≡ v = omega arith in
    subst (λ (n : ℕ). total xs n ≡ total xs (v - w) + total xs w) e (total-whole xs (v - w) w p turns)

whole-minus : (net : Net) → Wired net → (v w : ℕ → ℕ) → Whole net v → Whole net w → ((a : ℕ) → a < length net.times → w a ≤ v a) → Whole net (λ a. v a - w a)
whole-minus net wires v w one other le = record {
  kept = λ i place.
      let source : ℕ = (channel_at net i).source in
      let target : ℕ = (channel_at net i).target in
      let made = other.made i place in
      let taken = other.taken i place in
      omega (
        arith,
        one.kept i place,
        other.kept i place,
        total-minus (channel_at net i).made (v source) (w source) made.0 (le source (wires.sources i place)) made.1,
        total-minus (channel_at net i).taken (v target) (w target) taken.0 (le target (wires.targets i place)) taken.1,
      );
  made = λ i place.
      let q = one.made i place in
      let p = other.made i place in
      (q.0 - p.0, turns-minus (v (channel_at net i).source) (w (channel_at net i).source) q.0 p.0 (length (channel_at net i).made) (le (channel_at net i).source (wires.sources i place)) q.1 p.1);
  taken = λ i place.
      let q = one.taken i place in
      let p = other.taken i place in
      (q.0 - p.0, turns-minus (v (channel_at net i).target) (w (channel_at net i).target) q.0 p.0 (length (channel_at net i).taken) (le (channel_at net i).target (wires.targets i place)) q.1 p.1);
  times = λ a actor.
      let q = one.times a actor in
      let p = other.times a actor in
      (q.0 - p.0, turns-minus (v a) (w a) q.0 p.0 (phases_at net a) (le a actor) q.1 p.1);
}

-- a vector as the list over the actors
abbrev listed : Net → (ℕ → ℕ) → List ℕ
listed net y = map y (range_with_len 0 (length net.times))

-- a whole vector in which each actor fires is no less than the round
least-whole : (net : Net) → Lawful net → (y : ℕ → ℕ) → Whole net y → ((a : ℕ) → a < length net.times → 1 ≤ y a) → (a : ℕ) → a < length net.times → slice_index net.round a ≤ y a
least-whole net laws y whole fires a actor =
    let least : slice_index net.round a ≤ slice_index (listed net y) a = laws.repetition.least (listed net y) balances a (omega (arith, many)) in
    omega (arith, read a actor)
  where
    many : length (map length net.times) ≡ length net.times
    many = length-map net.times length

    read : (b : ℕ) → b < length net.times → slice_index (listed net y) b ≡ y b
    read b below = get_or-map-range_with_len y 0 (length net.times) b b 0 below (omega arith)

    balances : Balances (map length net.times) net.channels (listed net y)
    balances = record {
      actors = length-map-range_with_len y 0 (length net.times) ∙ sym many;
      fires = λ b below. rw (read b (omega (arith, many))) (fires b (omega (arith, many)));
      cycles = λ b below.
          let is : b < length net.times = omega (arith, many) in
          let turns = whole.times b is in
          rw (read b is) (rw (phases-read net b is) (rw turns.1 (mul-mod_left turns.0 (phases_at net b))));
      kept = λ i below.
          let makes : slice_index (listed net y) (channel_at net i).source ≡ y (channel_at net i).source = read (channel_at net i).source (laws.sources i below) in
          let takes : slice_index (listed net y) (channel_at net i).target ≡ y (channel_at net i).target = read (channel_at net i).target (laws.targets i below) in
          ap (total (channel_at net i).made) makes ∙ (whole.kept i below ∙ sym (ap (total (channel_at net i).taken) takes));
    }

module _ (net : Net) (laws : Lawful net) (connected : IsConnected net) (v : ℕ → ℕ) (whole : Whole net v) where
  -- how many rounds fit into the firings of actor 0
  pub rounds_in : ℕ
  rounds_in = v 0 / slice_index net.round 0

  first-fires : 1 ≤ slice_index net.round 0
  first-fires = (balanced net laws).fires 0 laws.some_actor

  -- what is left over, in proportion to the rest of actor 0
  left-over : (a : ℕ) → a < length net.times →
      (rounds_in * slice_index net.round a ≤ v a) × ((v a - rounds_in * slice_index net.round a) * slice_index net.round 0 ≡ (v 0 % slice_index net.round 0) * slice_index net.round a)
  unfolding rounds_in
  left-over a actor =
      let g : ℕ = slice_index net.round 0 in
      let n : ℕ = v 0 / slice_index net.round 0 in
      let rest : ℕ = v 0 % slice_index net.round 0 in
      let h : ℕ = slice_index net.round a in
      let split : n * g + rest ≡ v 0 = div-add-mod' (v 0) (slice_index net.round 0) in
      let same : v 0 * h ≡ v a * g = in-proportion net (wired net laws) (balanced net laws) v whole connected a actor in
      let spread_out : (n * g + rest) * h ≡ v 0 * h = ap (λ (x : ℕ). x * h) split in
      let fits : n * h * g ≤ v a * g = omega arith in
      let le : n * h ≤ v a = le_of_mul-le-mul_right fits first-fires in
      let less : g * (v a - n * h) ≡ g * v a - g * (n * h) = mul-sub g (v a) (n * h) in
      let swapped : (v a - n * h) * g ≡ g * (v a - n * h) = Rattle.std.proofs.Math.Nat.mul_comm (v a - n * h) g in
      let parts : g * v a - g * (n * h) ≡ rest * h = omega arith in
      (le, swapped ∙ (less ∙ parts))

  -- nothing is left over: else the rests would make a round less than the least
  no-rest : v 0 % slice_index net.round 0 ≡ 0
  unfolding rounds_in
  no-rest = ⊎_elim
      (λ (some : 0 < v 0 % slice_index net.round 0). absurd (
      let n : ℕ = v 0 / slice_index net.round 0 in
      let split : n * slice_index net.round 0 + v 0 % slice_index net.round 0 ≡ v 0 = div-add-mod' (v 0) (slice_index net.round 0) in
      let below : v 0 % slice_index net.round 0 < slice_index net.round 0 = mod-lt (v 0) first-fires in
      let rests : Whole net (λ a. v a - n * slice_index net.round a) =
      whole-minus net (wired net laws) v (λ a. n * slice_index net.round a) whole (whole-rounds net n (wired net laws) (balanced net laws)) (λ a actor. (left-over a actor).0) in
      let fires : (a : ℕ) → a < length net.times → 1 ≤ v a - n * slice_index net.round a = λ a actor.
      rest-fires a actor some in
      let least : slice_index net.round 0 ≤ v 0 - n * slice_index net.round 0 = least-whole net laws (λ a. v a - n * slice_index net.round a) rests fires 0 laws.some_actor in
      omega arith))
      (λ (h : v 0 % slice_index net.round 0 ≤ 0). omega arith)
      (cases_lt 0 (v 0 % slice_index net.round 0))
    where
      rest-fires : (a : ℕ) → a < length net.times → 0 < v 0 % slice_index net.round 0 → 1 ≤ v a - v 0 / slice_index net.round 0 * slice_index net.round a
      rest-fires a actor some =
          let over : (v a - v 0 / slice_index net.round 0 * slice_index net.round a) * slice_index net.round 0 ≡ (v 0 % slice_index net.round 0) * slice_index net.round a = (left-over a actor).1 in
          let moves : 1 * 1 ≤ (v 0 % slice_index net.round 0) * slice_index net.round a = mul-le-mul some ((balanced net laws).fires a actor) in
          ⊎_elim
          (λ (none : v a - v 0 / slice_index net.round 0 * slice_index net.round a < 1). absurd (
          let zero_here : v a - v 0 / slice_index net.round 0 * slice_index net.round a ≡ 0 = omega arith in
          let nothing : (v a - v 0 / slice_index net.round 0 * slice_index net.round a) * slice_index net.round 0 ≡ 0 * slice_index net.round 0 = ap (λ (x : ℕ). x * slice_index net.round 0) zero_here in
          omega arith))
          (λ (h : 1 ≤ v a - v 0 / slice_index net.round 0 * slice_index net.round a). h)
          (cases_lt (v a - v 0 / slice_index net.round 0 * slice_index net.round a) 1)

  pub whole_rounds : (a : ℕ) → a < length net.times → v a ≡ rounds_in * slice_index net.round a
  whole_rounds a actor =
      let over : (v a - rounds_in * slice_index net.round a) * slice_index net.round 0 ≡ (v 0 % slice_index net.round 0) * slice_index net.round a = (left-over a actor).1 in
      let nothing : (v 0 % slice_index net.round 0) * slice_index net.round a ≡ 0 * slice_index net.round a = ap (λ (x : ℕ). x * slice_index net.round a) no-rest in
      let none : (v a - rounds_in * slice_index net.round a) * slice_index net.round 0 ≡ 0 * slice_index net.round 0 = omega arith in
      let gone : v a - rounds_in * slice_index net.round a ≡ 0 = eq_of_mul-eq-mul_right (slice_index net.round 0) first-fires (v a - rounds_in * slice_index net.round a) 0 none in
      omega (arith, (left-over a actor).0)
