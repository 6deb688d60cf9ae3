-- The tables of a cyclo-static net and the net of its graph file.
use Rattle.std.proofs.Common.{◌≡◌, ℕ, ◌≤◌, ◌<◌, [], length, replicate, get_or, arith}
use Rattle.std.specs.Prelude.{slice_index, slice_index_or, All}
use Rattle.std.proofs.lemmas.List.{get_or-map, length-map, get_or-replicate, length-replicate}
use Rattle.sd_base.specs.declared.tables.GraphFile.{GraphFile}
use Rattle.sd_base.specs.declared.tables.ActorRow.{ActorRow}
use Rattle.sd_base.specs.declared.tables.ChannelRow.{ChannelRow}
use Rattle.sd_base.specs.Tables.{phases_of, KeepsRules}
use Rattle.firing.specs.Csdf.{AreRates}

nobody : ActorRow
nobody = record { name = []; phases = 0; times = [] }

few_phases : (g : GraphFile) → KeepsRules g → (a : ℕ) → a < length (phases_of g) → slice_index (phases_of g) a ≤ 4096
few_phases g rules a below =
    let there : a < length g.actors = rw length-map at below in
    let at : slice_index (phases_of g) a ≡ (get_or g.actors a nobody).phases = get_or-map (λ (r : ActorRow). r.phases) g.actors a nobody 0 there in
    rw at (rules.actors a nobody there).few_phases

-- the rates of a channel of the file are by phase, within their limits
pub made_are : (g : GraphFile) → KeepsRules g → All (λ (c : ChannelRow). AreRates c.made) g.channels
made_are g rules k d below =
    let row = rules.channels k d below in
    record { few = omega (arith, row.made.listed, few_phases g rules (slice_index_or g.channels k d).source row.source); small = row.made.limited }

pub taken_are : (g : GraphFile) → KeepsRules g → All (λ (c : ChannelRow). AreRates c.taken) g.channels
taken_are g rules k d below =
    let row = rules.channels k d below in
    record { few = omega (arith, row.taken.listed, few_phases g rules (slice_index_or g.channels k d).target row.target); small = row.taken.limited }

ones_are : (n : ℕ) → n ≤ 4096 → AreRates (replicate n 1)
ones_are n few = record {
  few = omega (arith, length-replicate {A = ℕ} n 1);
  small = λ k d below. rw (get_or-replicate {A = ℕ} n k 1 d (omega (arith, length-replicate {A = ℕ} n 1))) (omega arith);
}

-- and those of own channels
pub own_are : (g : GraphFile) → KeepsRules g → All (λ (a : ActorRow). AreRates (replicate a.phases 1)) g.actors
own_are g rules k d below = ones_are (slice_index_or g.actors k d).phases (rules.actors k d below).few_phases
