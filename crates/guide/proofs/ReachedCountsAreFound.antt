-- Counts that some order of firings reaches, whichever it is, are reached by one that is found again.
use Rattle.std.proofs.Common.{◌≡◌, ℕ, ◌≤◌, ◌<◌, List, [], ◌∷◌, length, ⊎_elim, arith}
use Rattle.std.specs.Prelude.{slice_index}
use Rattle.std.proofs.Props.{props}
use Rattle.std.proofs.Math.Logic.{∥∥₁_elim}
use Rattle.std.proofs.lemmas.Bool.{cases_eq}
use Rattle.sd_base.specs.Net.{Net}
use Rattle.sd_base.specs.Lawful.{Lawful}
use Rattle.sd_base.specs.Untimed.{none_fired, one_more, Fires, counts_after, Closed}
use Rattle.sd_base.proofs.LawfulIsRegular.{Wired, wired}
use Rattle.sd_base.proofs.ClosedCountsBoundRuns.{bump-same, bump-other, run-below, run-within}
use Rattle.sd_base.proofs.FiringOrdersEnd.{end-exists}
use Rattle.liveness.specs.RoundAnswers.{AreReachedCounts}

-- the net whose round is so many firings
abbrev with_round : Net → List ℕ → Net
with_round net counts = record net { round = counts }

-- none of the counts is above its actor's firings in a round, or above any counts at which no actor below it can go on
record AreLeast (net : Net) (counts : List ℕ) : Type 0 where
  actors : length counts ≡ length net.times
  within : (a : ℕ) → a < length net.times → slice_index counts a ≤ slice_index net.round a
  least : (v : ℕ → ℕ) → Closed (with_round net counts) v → (a : ℕ) → a < length net.times → slice_index counts a ≤ v a

after-up : (order : List ℕ) (v : ℕ → ℕ) (b : ℕ) → v b ≤ counts_after v order b
after-up [] v b = omega arith
after-up (a ∷ order) v b =
    let more : v b ≤ one_more v a b = ⊎_elim (λ (same : b ≡ a). rw same (rw (bump-same v a) (omega arith))) (λ (apart : b ≡ a → ⊥). rw (bump-other v a b apart) (omega arith)) (cases_eq b a) in
    omega (arith, after-up order (one_more v a) b)

-- an order fires none more often than in the counts that it reaches
fires-least : (net : Net) (counts order : List ℕ) (v : ℕ → ℕ) → Fires net v order → ((a : ℕ) → a < length net.times → counts_after v order a ≤ slice_index counts a) → Fires (with_round net counts) v order
fires-least net counts [] v fires below = tt
fires-least net counts (a ∷ order) v fires below = (
  fires.0,
  (let up : one_more v a a ≤ counts_after (one_more v a) order a = after-up order (one_more v a) a in omega (arith, bump-same v a, below a fires.0)),
  fires.2,
  fires-least net counts order (one_more v a) fires.3 below,
)

fires-within : (net : Net) (counts order : List ℕ) (v : ℕ → ℕ) → ((a : ℕ) → a < length net.times → slice_index counts a ≤ slice_index net.round a) → Fires (with_round net counts) v order → Fires net v order
fires-within net counts [] v within fires = tt
fires-within net counts (a ∷ order) v within fires = (fires.0, omega (arith, fires.1, within a fires.0), fires.2, fires-within net counts order (one_more v a) within fires.3)

reached-least : (net : Net) → Lawful net → (counts : List ℕ) → AreReachedCounts net counts → AreLeast net counts
reached-least net laws counts reached = record {
  actors = reached.actors;
  within = λ a actor. omega (arith, reached.reached a actor, run-within net reached.order none_fired reached.fires (λ b is. omega arith) a actor);
  least = λ v closed a actor.
      let fires : Fires (with_round net counts) none_fired reached.order = fires-least net counts reached.order none_fired reached.fires (λ b is. omega (arith, reached.reached b is)) in
      omega (arith, reached.reached a actor, run-below (with_round net counts) v ends closed reached.order none_fired fires (λ b is. omega arith) a actor);
}
  where
    ends : Wired (with_round net counts)
    ends = let w = wired net laws in record { sources = w.sources; targets = w.targets; made_phases = w.made_phases; taken_phases = w.taken_phases; some_made = w.some_made; some_taken = w.some_taken }

least-reached : (net : Net) (counts : List ℕ) → AreLeast net counts → AreReachedCounts net counts
least-reached net counts are =
    let end = end-exists (with_round net counts) in
    record {
      actors = are.actors;
      order = end.1.order;
      fires = fires-within net counts end.1.order none_fired are.within end.1.fires;
      reached = λ a actor. omega (arith, end.1.counts a actor, are.least end.0 end.1.closed a actor, run-within (with_round net counts) end.1.order none_fired end.1.fires (λ b is. omega arith) a actor);
    }

pub reached-again : (net : Net) → Lawful net → (counts : List ℕ) → ∥ AreReachedCounts net counts ∥₁ → AreReachedCounts net counts
reached-again net laws counts reached = least-reached net counts (∥∥₁_elim reached (hlevel props) (reached-least net laws counts))
