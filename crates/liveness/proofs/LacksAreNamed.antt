-- What is named of the actors below their round is their first lacking channels.
use Rattle.std.proofs.Common.{◌≡◌, ℕ, ◌+◌, ◌≤◌, ◌<◌, List, Option, Some, None, MatchOption, length, arith}
use Rattle.std.specs.Prelude.{slice_index, slice_index_or}
use Rattle.sd_base.specs.Net.{Net, channel_at, total}
use Rattle.sd_base.specs.Schedules.{Needs, Lacks}
use Rattle.sd_base.specs.Untimed.{Closed}
use Rattle.firing.specs.Wiring.{SufficesBefore, IsFirstLack, IsLevel}
use Rattle.firing.proofs.TokenMoves.{level-needs, level-feeds}
use Rattle.sd_base.specs.Untimed.{IsFirstLacking}

-- what is named of one actor
abbrev pub Named : Net → (ℕ → ℕ) → ℕ → Option ℕ → Type 0
Named net v a o = MatchOption o (slice_index net.round a ≤ v a) (λ i. (v a < slice_index net.round a) × IsFirstLacking net v a i)

pub name-lack : (net : Net) (counts tokens : List ℕ) (a : ℕ) (o : Option ℕ) → IsLevel net (slice_index counts) (slice_index counts) tokens → Closed net (slice_index counts) → a < length net.times →
    slice_index counts a < slice_index net.round a → MatchOption o (SufficesBefore net tokens a (slice_index counts a) (length net.channels)) (IsFirstLack net tokens a (slice_index counts a)) → Named net (slice_index counts) a o
name-lack net counts tokens a None level closed actor less enough = absurd (
    let lack : Lacks net (slice_index counts) a (slice_index counts a) = closed a actor less in
    let need : Needs (channel_at net lack.0) (slice_index counts a) (slice_index counts (channel_at net lack.0).source) = lack.3 in
    let feeds : total (channel_at net lack.0).taken (slice_index counts a + 1) ≤ (channel_at net lack.0).tokens + total (channel_at net lack.0).made (slice_index counts (channel_at net lack.0).source) =
    level-feeds net (slice_index counts) (slice_index counts) tokens a lack.0 level lack.1 lack.2 (enough lack.0 lack.1 lack.2) in
    omega arith)
name-lack net counts tokens a (Some i) level closed actor less first = (
  less,
  record {
    place = first.lacks.place;
    into = first.lacks.into;
    lacks = level-needs net (slice_index counts) (slice_index counts) tokens a i level first.lacks;
    first = λ k before into need.
        let place : i < length net.channels = first.lacks.place in
        let feeds : total (channel_at net k).taken (slice_index counts a + 1) ≤ (channel_at net k).tokens + total (channel_at net k).made (slice_index counts (channel_at net k).source) =
        level-feeds net (slice_index counts) (slice_index counts) tokens a k level (omega arith) into (first.first k before into) in
        omega arith;
  },
)

-- ---- actor by actor

pub record NamesBelow (net : Net) (v : ℕ → ℕ) (n : ℕ) (lacks : List (Option ℕ)) : Type 0 where
  pub many : length lacks ≡ n
  pub named : (a : ℕ) → a < n → Named net v a (slice_index_or lacks a None)
