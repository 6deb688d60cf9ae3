-- A scenario that has a matrix shares some token: going back from a firing of a round by what lets it start, one comes to a token that
-- was there.
use Rattle.std.proofs.Common.{◌≡◌, ℕ, zero, suc, ◌+◌, ◌≤◌, ◌<◌, false, List, length, map, Option, inl, inr, refl, arith}
use Rattle.std.specs.Prelude.{slice_index, replicate}
use Rattle.std.proofs.lemmas.List.{length-map, length-replicate}
use Rattle.sd_base.specs.declared.tables.GraphFile.{GraphFile}
use Rattle.sd_base.specs.declared.tables.SharedRow.{SharedRow}
use Rattle.sd_base.specs.FileNet.{net_of}
use Rattle.sd_base.specs.Net.{channel_at}
use Rattle.sd_base.specs.Scenarios.{shared_count}
use Rattle.sd_base.specs.Schedules.{Schedule, count_of, start_of}
use Rattle.token_matrix.specs.EntryWays.{CarriesStamps}
use Rattle.token_matrix.specs.Matrices.{IsMatrix, applied}
use Rattle.token_matrix.specs.Stamps.{AreRoundStarts, AreStampsOf, first_of}
use Rattle.token_matrix.proofs.GraphWays.{laws, takes-time}
use Rattle.token_matrix.proofs.GraphMatricesCarry.{inside}

module _ (shared : List SharedRow) (g : GraphFile) (gamma : List ℕ) (carries : CarriesStamps shared g gamma) (rows : List (List (Option ℕ))) (is : IsMatrix shared g gamma rows) where
  -- from a firing that starts at t at the latest
  back : (x : List ℕ) (starts : Schedule) → AreRoundStarts (net_of g gamma false) (first_of shared g) x starts → (t a k : ℕ) → a < length (net_of g gamma false).times
      → k < count_of starts a → start_of starts a k < t → 1 ≤ shared_count shared
  back x starts round zero a k actor there early = absurd (omega (arith, early))
  back x starts round (suc t) a k actor there early =
      let why = round.just a k actor there in
      elim why.5 [
        | inl stood ↦
            let below = inside g gamma carries.rules carries.kind shared carries.shares why.0 why.1 why.2 stood.0 in
            omega (arith, below)
        | inr put ↦
            let net = net_of g gamma false in
            let source = (channel_at net why.0).source in
            let actor_before = (laws shared g gamma carries rows is).sources why.0 why.2 in
            let time = takes-time shared g gamma carries rows is source put.0 actor_before in
            back x starts round t source put.0 actor_before put.2 (omega (arith, time, put.3, early))
      ]

  pub some-token : 1 ≤ shared_count shared
  some-token =
      let x : List ℕ = replicate (shared_count shared) 0 in
      let stamps : AreStampsOf shared g gamma x (applied rows x) = (is.carries x (applied rows x) (length-replicate (shared_count shared) 0)).1 refl in
      let kept = laws shared g gamma carries rows is in
      let many = length-map (net_of g gamma false).times (λ (t : List ℕ). length t) in
      let fires : 1 ≤ slice_index gamma 0 = kept.repetition.balances.fires 0 (omega (arith, kept.some_actor, many)) in
      let whole = stamps.round.whole 0 kept.some_actor in
      back x stamps.starts stamps.round (suc (start_of stamps.starts 0 0)) 0 0 kept.some_actor (omega (arith, fires, whole)) (omega arith)
