-- Firings by whole rounds: they keep the tokens of each channel, and needs move with them.
use Rattle.std.proofs.Common.{◌≡◌, ℕ, ◌+◌, ◌*◌, ◌/◌, ◌%◌, ◌≤◌, ◌<◌, [], length, sym, ap, ◌∙◌, arith, div-add-mod', mod-lt, mul_assoc, ⊎_elim, List, subst}
use Rattle.std.proofs.lemmas.Bool.{cases_lt}
use Rattle.std.specs.Prelude.{slice_index, slice_index_or}
use Rattle.std.proofs.lemmas.List.{ext_get_or}
use Rattle.sd_base.specs.Net.{Net, channel_at, total, IsRepetitionOf}
use Rattle.sd_base.specs.Schedules.{time_of, phases_at, Needs, LastNeed, IsNeed}
use Rattle.sd_base.proofs.SumsRepeatByTurns.{total-le, total-whole, total-times, entry-shift}
use Rattle.sd_base.proofs.LawfulIsRegular.{Wired, Balanced}
use Rattle.sd_base.specs.declared.tables.GraphFile.{GraphFile}
use Rattle.sd_base.specs.Tables.{phases_of}

-- v firings of each actor are whole turns of its phases and keep the tokens of each channel
pub record Whole (net : Net) (v : ℕ → ℕ) : Type 0 where
  pub kept : (i : ℕ) → i < length net.channels →
      total (channel_at net i).made (v (channel_at net i).source) ≡ total (channel_at net i).taken (v (channel_at net i).target)
  pub made : (i : ℕ) → i < length net.channels → (q : ℕ) × (v (channel_at net i).source ≡ q * length (channel_at net i).made)
  pub taken : (i : ℕ) → i < length net.channels → (q : ℕ) × (v (channel_at net i).target ≡ q * length (channel_at net i).taken)
  pub times : (a : ℕ) → a < length net.times → (q : ℕ) × (v a ≡ q * phases_at net a)

pub turns-of : (v f : ℕ) → v % f ≡ 0 → (q : ℕ) × (v ≡ q * f)
turns-of v f whole = (v / f, omega (arith, div-add-mod' v f))

-- a round is whole
pub whole-round : (net : Net) → Wired net → Balanced net → Whole net (slice_index net.round)
whole-round net wired bal = record {
  kept = bal.kept;
  made = λ i place. rw (wired.made_phases i place) (turns-of (slice_index net.round (channel_at net i).source) (phases_at net (channel_at net i).source) (bal.cycles (channel_at net i).source (wired.sources i place)));
  taken = λ i place. rw (wired.taken_phases i place) (turns-of (slice_index net.round (channel_at net i).target) (phases_at net (channel_at net i).target) (bal.cycles (channel_at net i).target (wired.targets i place)));
  times = λ a actor. turns-of (slice_index net.round a) (phases_at net a) (bal.cycles a actor);
}

times-turns : (i v q f : ℕ) → v ≡ q * f → i * v ≡ (i * q) * f
times-turns i v q f e = rw e (sym (mul_assoc i q f))

-- whole turns stay whole when they are repeated
pub whole-times : (net : Net) (v : ℕ → ℕ) (n : ℕ) → Whole net v → Whole net (λ a. n * v a)
whole-times net v n whole = record {
  kept = λ i place.
      let made = whole.made i place in
      let taken = whole.taken i place in
      let there : total (channel_at net i).made (n * v (channel_at net i).source) ≡ n * total (channel_at net i).made (v (channel_at net i).source) = total-times (channel_at net i).made (v (channel_at net i).source) made.0 n made.1 in
      let here : total (channel_at net i).taken (n * v (channel_at net i).target) ≡ n * total (channel_at net i).taken (v (channel_at net i).target) = total-times (channel_at net i).taken (v (channel_at net i).target) taken.0 n taken.1 in
      there ∙ (ap (λ (x : ℕ). n * x) (whole.kept i place) ∙ sym here);
  made = λ i place. let made = whole.made i place in (n * made.0, times-turns n (v (channel_at net i).source) made.0 (length (channel_at net i).made) made.1);
  taken = λ i place. let taken = whole.taken i place in (n * taken.0, times-turns n (v (channel_at net i).target) taken.0 (length (channel_at net i).taken) taken.1);
  times = λ a actor. let times = whole.times a actor in (n * times.0, times-turns n (v a) times.0 (phases_at net a) times.1);
}

pub whole-rounds : (net : Net) (n : ℕ) → Wired net → Balanced net → Whole net (λ a. n * slice_index net.round a)
whole-rounds net n wired bal = whole-times net (slice_index net.round) n (whole-round net wired bal)

-- firings whole turns apart take one time
pub time-shift : (net : Net) (v : ℕ → ℕ) → Whole net v → (a k : ℕ) → a < length net.times → time_of net a (k + v a) ≡ time_of net a k
time-shift net v whole a k actor =
    let turns = whole.times a actor in
    rw turns.1 (entry-shift (slice_index_or net.times a []) k turns.0)

module _ (net : Net) (v : ℕ → ℕ) (whole : Whole net v) (i : ℕ) (place : i < length net.channels) where
  pub made-shift : (m : ℕ) → total (channel_at net i).made (m + v (channel_at net i).source) ≡ total (channel_at net i).made m + total (channel_at net i).made (v (channel_at net i).source)
  made-shift m = let made = whole.made i place in total-whole (channel_at net i).made m (v (channel_at net i).source) made.0 made.1

  pub taken-shift : (j : ℕ) → total (channel_at net i).taken (j + v (channel_at net i).target) ≡ total (channel_at net i).taken j + total (channel_at net i).taken (v (channel_at net i).target)
  taken-shift j = let taken = whole.taken i place in total-whole (channel_at net i).taken j (v (channel_at net i).target) taken.0 taken.1

  taken-after : (j : ℕ) → total (channel_at net i).taken (j + v (channel_at net i).target + 1) ≡ total (channel_at net i).taken (j + 1) + total (channel_at net i).taken (v (channel_at net i).target)
  taken-after j =
      let e : j + v (channel_at net i).target + 1 ≡ (j + 1) + v (channel_at net i).target = omega arith in
      rw e (taken-shift (j + 1))

  pub needs-shift : (j m : ℕ) → Needs (channel_at net i) j m → Needs (channel_at net i) (j + v (channel_at net i).target) (m + v (channel_at net i).source)
  needs-shift j m need =
      let kept : total (channel_at net i).made (v (channel_at net i).source) ≡ total (channel_at net i).taken (v (channel_at net i).target) = whole.kept i place in
      omega (arith, made-shift m, taken-after j)

  pub needs-unshift : (j m : ℕ) → Needs (channel_at net i) (j + v (channel_at net i).target) (m + v (channel_at net i).source) → Needs (channel_at net i) j m
  needs-unshift j m need =
      let kept : total (channel_at net i).made (v (channel_at net i).source) ≡ total (channel_at net i).taken (v (channel_at net i).target) = whole.kept i place in
      omega (arith, made-shift m, taken-after j)

  pub last-shift : (j m : ℕ) → LastNeed (channel_at net i) j m → LastNeed (channel_at net i) (j + v (channel_at net i).target) (m + v (channel_at net i).source)
  last-shift j m last =
      let kept : total (channel_at net i).made (v (channel_at net i).source) ≡ total (channel_at net i).taken (v (channel_at net i).target) = whole.kept i place in
      let e : m + v (channel_at net i).source + 1 ≡ (m + 1) + v (channel_at net i).source = omega arith in
      let enough : total (channel_at net i).taken (j + 1) ≤ (channel_at net i).tokens + total (channel_at net i).made (m + 1) = last.enough in
      record { needed = needs-shift j m last.needed; enough = rw e (omega (arith, made-shift (m + 1), taken-after j)) }

-- the need of a firing is no more than the firings of as many rounds as reach it
pub need-by_rounds : (net : Net) → Wired net → Balanced net → (i j n : ℕ) → i < length net.channels → IsNeed (channel_at net i) j n →
    n ≤ (j / slice_index net.round (channel_at net i).target + 1) * slice_index net.round (channel_at net i).source
need-by_rounds net wired bal i j n place need =
    let target : ℕ = (channel_at net i).target in
    let r : ℕ = j / slice_index net.round target + 1 in
    let whole : Whole net (λ (a : ℕ). r * slice_index net.round a) = whole-rounds net r wired bal in
    let kept : total (channel_at net i).made (r * slice_index net.round (channel_at net i).source) ≡ total (channel_at net i).taken (r * slice_index net.round target) = whole.kept i place in
    let split : j / slice_index net.round target * slice_index net.round target + j % slice_index net.round target ≡ j = div-add-mod' j (slice_index net.round target) in
    let below : j % slice_index net.round target < slice_index net.round target = mod-lt j (bal.fires target (wired.targets i place)) in
    let more : r * slice_index net.round target ≡ j / slice_index net.round target * slice_index net.round target + slice_index net.round target = omega arith in
    let reach : total (channel_at net i).taken (j + 1) ≤ total (channel_at net i).taken (r * slice_index net.round target) = total-le (channel_at net i).taken (omega arith) in
    ⊎_elim (λ (late : r * slice_index net.round (channel_at net i).source < n). absurd (
    let short : Needs (channel_at net i) j (r * slice_index net.round (channel_at net i).source) = need.least (r * slice_index net.round (channel_at net i).source) late in omega arith))
    (λ (h : n ≤ r * slice_index net.round (channel_at net i).source). h)
    (cases_lt (r * slice_index net.round (channel_at net i).source) n)

-- a graph has one round
pub one-repetition : (g : GraphFile) (v w : List ℕ) → IsRepetitionOf g v → IsRepetitionOf g w → v ≡ w
one-repetition g v w one other =
    ext_get_or 0 v w (one.balances.actors ∙ sym other.balances.actors)
    (λ i below.
    let actor : i < length (phases_of g) = subst (λ n. i < n) one.balances.actors below in
    let le : slice_index v i ≤ slice_index w i = one.least w other.balances i actor in
    let ge : slice_index w i ≤ slice_index v i = other.least v one.balances i actor in
    omega arith)
