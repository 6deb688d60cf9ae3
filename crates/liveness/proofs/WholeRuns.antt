-- A whole run.
use Rattle.std.proofs.Common.{◌≡◌, ℕ, ◌+◌, ◌≤◌, ◌<◌, Option, List, [], length, map, replicate, ⊎_elim, subst, sym, ◌∙◌, arith}
use Rattle.std.specs.Prelude.{slice_index}
use Rattle.std.proofs.lemmas.Bool.{cases_lt}
use Rattle.std.proofs.lemmas.List.{length-map, length-replicate, get_or-map, get_or-replicate, get_or_past}
use Rattle.sd_base.specs.Net.{Channel, Net, nowhere, channel_at, total}
use Rattle.sd_base.specs.Untimed.{IsRoundOrder, IsLive, Closed, Blocks, IsEnd}
use Rattle.sd_base.specs.Lawful.{Lawful}
use Rattle.sd_base.proofs.SumsRepeatByTurns.{total-zero}
use Rattle.sd_base.proofs.LawfulIsRegular.{wired}
use Rattle.sd_base.proofs.ClosedCountsBoundRuns.{end-splits, live-unblocked}
use Rattle.sd_base.specs.Untimed.{NamesLacks, IsBlockedBy}
use Rattle.liveness.specs.inside.UntimedRuns.{IsNoted, IsRun}

-- the order that was noted is that of the run
pub noted-run : (net : Net) (counts tokens order : List ℕ) → IsNoted (λ fired. order ≡ fired) net counts tokens → IsRun net counts tokens order
noted-run net counts tokens order is = subst (IsRun net counts tokens) (sym is.noted) is.run

pub run-start : (net : Net) (counts tokens order : List ℕ) → counts ≡ replicate (length net.times) 0 → tokens ≡ map (λ (c : Channel). c.tokens) net.channels → order ≡ [] → IsRun net counts tokens order
run-start net counts tokens order zeros initial none = record {
  actors = rw zeros (length-replicate {A = ℕ} (length net.times) 0);
  fires = rw none tt;
  reached = λ a is. rw none (sym (zero a is));
  level = record {
    long = rw initial (length-map net.channels (λ (c : Channel). c.tokens));
    each = λ i place.
        let read : slice_index tokens i ≡ (channel_at net i).tokens = rw initial (get_or-map (λ (c : Channel). c.tokens) net.channels i nowhere 0 place) in
        level-none i place read;
  };
}
  where
    zero : (a : ℕ) → a < length net.times → slice_index counts a ≡ 0
    zero a is = rw zeros (get_or-replicate {A = ℕ} (length net.times) a 0 0 is)

    level-none : (i : ℕ) → i < length net.channels → slice_index tokens i ≡ (channel_at net i).tokens →
        slice_index tokens i + total (channel_at net i).taken (slice_index counts (channel_at net i).target) ≡ (channel_at net i).tokens + total (channel_at net i).made (slice_index counts (channel_at net i).source)
    level-none i place read =
        let target : slice_index counts (channel_at net i).target ≡ 0 = none-there (channel_at net i).target in
        let source : slice_index counts (channel_at net i).source ≡ 0 = none-there (channel_at net i).source in
        rw (target, source, total-zero, total-zero) (omega arith)
      where
        none-there : (a : ℕ) → slice_index counts a ≡ 0
        none-there a = ⊎_elim (λ (is : a < length net.times). zero a is) (λ (past : length net.times ≤ a). get_or_past counts a 0 (rw zeros (rw (length-replicate {A = ℕ} (length net.times) 0) past))) (cases_lt a (length net.times))

pub run-ends : (net : Net) (counts tokens order : List ℕ) → IsRun net counts tokens order → Closed net (slice_index counts) → IsEnd net (slice_index counts)
run-ends net counts tokens order run closed = record { order = order; fires = run.fires; counts = run.reached; closed = closed }

pub run-round : (net : Net) (counts tokens order : List ℕ) → IsRun net counts tokens order → ((a : ℕ) → a < length net.times → slice_index counts a ≡ slice_index net.round a) → IsRoundOrder net order
run-round net counts tokens order run whole = record { fires = run.fires; whole = λ a is. run.reached a is ∙ whole a is }

pub run-blocks : (net : Net) (counts tokens order : List ℕ) → IsRun net counts tokens order → Closed net (slice_index counts) → (((a : ℕ) → a < length net.times → slice_index counts a ≡ slice_index net.round a) → ⊥) → Blocks net (slice_index counts)
run-blocks net counts tokens order run closed short = ⊎_elim
    (λ (whole : (a : ℕ) → a < length net.times → slice_index counts a ≡ slice_index net.round a). absurd (short whole))
    (λ (blocks : Blocks net (slice_index counts)). blocks)
    (end-splits net (slice_index counts) (run-ends net counts tokens order run closed))

pub blocked-answer : (net : Net) (counts tokens order given : List ℕ) (lacks : List (Option ℕ)) → given ≡ counts → IsRun net counts tokens order → Closed net (slice_index counts) →
    (((a : ℕ) → a < length net.times → slice_index counts a ≡ slice_index net.round a) → ⊥) → NamesLacks net (slice_index counts) lacks → IsBlockedBy net given lacks
blocked-answer net counts tokens order given lacks same run closed short names = rw same (record {
  actors = run.actors;
  ends = run-ends net counts tokens order run closed;
  blocks = run-blocks net counts tokens order run closed short;
  names = names;
})

pub blocked-not_live : (net : Net) (counts tokens order : List ℕ) → Lawful net → IsRun net counts tokens order → Closed net (slice_index counts) →
    (((a : ℕ) → a < length net.times → slice_index counts a ≡ slice_index net.round a) → ⊥) → IsLive net → ⊥
blocked-not_live net counts tokens order laws run closed short live =
    live-unblocked net (wired net laws) live (slice_index counts) (run-blocks net counts tokens order run closed short)
