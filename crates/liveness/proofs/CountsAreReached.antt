-- Counts that some order of firings reaches, and the tokens there.
use Rattle.std.proofs.Common.{◌≡◌, ℕ, ◌+◌, ◌≤◌, ◌<◌, List, [], ◌∷◌, length, replicate, ⊎_elim, sym, ap, ◌∙◌, arith}
use Rattle.std.specs.Prelude.{slice_index}
use Rattle.std.proofs.lemmas.Bool.{cases_eq}
use Rattle.std.proofs.lemmas.List.{get_or-replicate, length-replicate}
use Rattle.sd_base.specs.Net.{Net, channel_at, total}
use Rattle.sd_base.specs.Lawful.{Lawful}
use Rattle.sd_base.specs.Untimed.{none_fired, one_more, CanFire, Fires, counts_after, IsLive}
use Rattle.sd_base.proofs.LawfulIsRegular.{balanced}
use Rattle.sd_base.proofs.SumsRepeatByTurns.{total-zero, total-le}
use Rattle.sd_base.proofs.ClosedCountsBoundRuns.{bump-same, bump-other, bump-more}
use Rattle.liveness.specs.RoundAnswers.{AreReachedCounts}

-- no channel has given more tokens than it had
abbrev pub IsPaidAt : Net → (ℕ → ℕ) → ℕ → Type 0
IsPaidAt net v i = total (channel_at net i).taken (v (channel_at net i).target) ≤ (channel_at net i).tokens + total (channel_at net i).made (v (channel_at net i).source)

paid-more : (net : Net) (v : ℕ → ℕ) (a i : ℕ) → i < length net.channels → IsPaidAt net v i → CanFire net v a → IsPaidAt net (one_more v a) i
paid-more net v a i below paid can = ⊎_elim
    (λ (same : (channel_at net i).target ≡ a).
    let given : total (channel_at net i).taken (v a + 1) ≤ (channel_at net i).tokens + total (channel_at net i).made (v (channel_at net i).source) = can i below same in
    let now : one_more v a (channel_at net i).target ≡ v a + 1 = ap (one_more v a) same ∙ bump-same v a in
    rw now (omega (arith, makes)))
    (λ (apart : (channel_at net i).target ≡ a → ⊥).
    let now : one_more v a (channel_at net i).target ≡ v (channel_at net i).target = bump-other v a (channel_at net i).target apart in
    rw now (omega (arith, paid, makes)))
    (cases_eq (channel_at net i).target a)
  where
    makes : total (channel_at net i).made (v (channel_at net i).source) ≤ total (channel_at net i).made (one_more v a (channel_at net i).source)
    makes = total-le (channel_at net i).made (bump-more v a (channel_at net i).source)

paid-after : (net : Net) (order : List ℕ) (v : ℕ → ℕ) (i : ℕ) → i < length net.channels → Fires net v order → IsPaidAt net v i → IsPaidAt net (counts_after v order) i
paid-after net [] v i below fires paid = paid
paid-after net (a ∷ order) v i below fires paid = paid-after net order (one_more v a) i below fires.3 (paid-more net v a i below paid fires.2)

pub reached-paid : (net : Net) → Lawful net → (counts : List ℕ) → AreReachedCounts net counts → (i : ℕ) → i < length net.channels → IsPaidAt net (slice_index counts) i
reached-paid net laws counts reached i below =
    let none : IsPaidAt net none_fired i = rw total-zero (omega arith) in
    let paid : IsPaidAt net (counts_after none_fired reached.order) i = paid-after net reached.order none_fired i below reached.fires none in
    let source : counts_after none_fired reached.order (channel_at net i).source ≡ slice_index counts (channel_at net i).source = reached.reached (channel_at net i).source (laws.sources i below) in
    let target : counts_after none_fired reached.order (channel_at net i).target ≡ slice_index counts (channel_at net i).target = reached.reached (channel_at net i).target (laws.targets i below) in
    rw (source, target) at paid

-- ---- channel by channel

abbrev pub IsLevelAt : Net → (ℕ → ℕ) → ℕ → ℕ → Type 0
IsLevelAt net v i x = x + total (channel_at net i).taken (v (channel_at net i).target) ≡ (channel_at net i).tokens + total (channel_at net i).made (v (channel_at net i).source)

pub record LevelsBelow (net : Net) (v : ℕ → ℕ) (n : ℕ) (tokens : List ℕ) : Type 0 where
  pub many : length tokens ≡ n
  pub each : (i : ℕ) → i < n → IsLevelAt net v i (slice_index tokens i)

-- ---- where nothing has fired, and where a whole round has

pub none-reached : (net : Net) (counts : List ℕ) (n : ℕ) → counts ≡ replicate n 0 → length net.times ≡ n → AreReachedCounts net counts
none-reached net counts n zeros many = record {
  actors = ap length zeros ∙ (length-replicate {A = ℕ} n 0 ∙ sym many);
  order = [];
  fires = tt;
  reached = λ a is. sym (rw zeros (get_or-replicate {A = ℕ} n a 0 0 (omega (arith, many))));
}

pub whole-reached : (net : Net) (counts : List ℕ) → Lawful net → counts ≡ net.round → IsLive net → AreReachedCounts net counts
whole-reached net counts laws whole live = record {
  actors = ap length whole ∙ (balanced net laws).actors;
  order = live.0;
  fires = live.1.fires;
  reached = λ a is. live.1.whole a is ∙ ap (λ (xs : List ℕ). slice_index xs a) (sym whole);
}
