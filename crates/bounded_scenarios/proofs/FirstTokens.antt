-- A graph of which a round can be completed, and each of whose actors has an input, has a token at first: the first firing takes one.
use Rattle.std.proofs.Common.{◌≡◌, ℕ, ◌+◌, ◌≤◌, ◌<◌, false, List, [], ◌∷◌, length, map, sum, sym, ap, ◌∙◌, arith}
use Rattle.std.specs.Prelude.{slice_index, slice_index_or}
use Rattle.std.proofs.lemmas.List.{get_or-map, length-map}
use Rattle.sd_base.specs.declared.tables.ActorRow.{ActorRow}
use Rattle.sd_base.specs.declared.tables.GraphFile.{GraphFile}
use Rattle.sd_base.specs.declared.tables.SharedRow.{SharedRow}
use Rattle.sd_base.specs.FileNet.{net_of}
use Rattle.sd_base.specs.Lawful.{Lawful}
use Rattle.sd_base.specs.Net.{channel_at, total}
use Rattle.sd_base.specs.Scenarios.{shared_count}
use Rattle.sd_base.specs.Schedules.{HasInputs}
use Rattle.sd_base.specs.Untimed.{CanFire, Fires, IsLive, counts_after, none_fired}
use Rattle.sd_base.proofs.FileNets.{net_of-lawful}
use Rattle.sd_base.proofs.SumsRepeatByTurns.{total-turn, total-zero}
use Rattle.token_matrix.specs.EntryWays.{CarriesStamps}
use Rattle.token_matrix.specs.Stamps.{first_of}
use Rattle.token_matrix.proofs.GraphMatricesCarry.{inside}

pub no_actor : ActorRow
no_actor = record { name = []; phases = 0; times = [] }

pub first-rate : (xs : List ℕ) → length xs ≡ 1 → total xs 1 ≡ sum xs
first-rate xs one = ap (λ (n : ℕ). total xs n) (sym one) ∙ total-turn xs

module _ (shared : List SharedRow) (g : GraphFile) (gamma : List ℕ) (carries : CarriesStamps shared g gamma) where
  pub laws : Lawful (net_of g gamma false)
  laws = net_of-lawful g gamma false carries.rules carries.timed carries.gives carries.small

  pub one-phase : (a : ℕ) → a < length (net_of g gamma false).times → length (slice_index_or (net_of g gamma false).times a []) ≡ 1
  one-phase a actor =
      let many : length (map (λ (r : ActorRow). r.times) g.actors) ≡ length g.actors = length-map g.actors (λ (r : ActorRow). r.times) in
      let here : a < length g.actors = omega (arith, many) in
      ap (λ (t : List ℕ). length t) (get_or-map (λ (r : ActorRow). r.times) g.actors a no_actor [] here)
      ∙ (carries.timed a no_actor here ∙ (carries.rules.actors a no_actor here).one_phase carries.kind)

  first-takes : (a : ℕ) → a < length (net_of g gamma false).times → CanFire (net_of g gamma false) none_fired a → HasInputs (net_of g gamma false) →
      (i : ℕ) × (i < length (net_of g gamma false).channels) × (0 < (channel_at (net_of g gamma false) i).tokens)
  first-takes a actor can inputs =
      let into = inputs a actor in
      let fires = can into.0 into.1 into.2 in
      let one : length (channel_at (net_of g gamma false) into.0).taken ≡ 1 = laws.taken_phases into.0 into.1
      ∙ one-phase (channel_at (net_of g gamma false) into.0).target (laws.targets into.0 into.1) in
      let takes = first-rate (channel_at (net_of g gamma false) into.0).taken one in
      (into.0, into.1, omega (arith, fires, takes, laws.some_taken into.0 into.1, total-zero (channel_at (net_of g gamma false) into.0).made))

  from-order : (order : List ℕ) → Fires (net_of g gamma false) none_fired order → 1 ≤ counts_after none_fired order 0 → HasInputs (net_of g gamma false) → 1 ≤ shared_count shared
  from-order [] fires some inputs = absurd (omega (arith, some))
  from-order (a ∷ order) fires some inputs =
      let token = first-takes a fires.0 fires.2 inputs in
      let there : first_of shared g token.0 + 0 < shared_count shared = inside g gamma carries.rules carries.kind shared carries.shares token.0 0 token.1 token.2 in
      omega (arith, there)

  pub some-shared : IsLive (net_of g gamma false) → HasInputs (net_of g gamma false) → 1 ≤ shared_count shared
  some-shared live inputs =
      let whole = live.1.whole 0 laws.some_actor in
      let many = length-map (net_of g gamma false).times (λ (t : List ℕ). length t) in
      let fires : 1 ≤ slice_index gamma 0 = laws.repetition.balances.fires 0 (omega (arith, laws.some_actor, many)) in
      from-order live.0 live.1.fires (omega (arith, whole, fires)) inputs
