-- The tables that can be written so that they are read again, and what is said of a table that is read.
use Rattle.std.specs.Prelude.{◌≡◌, ◌≢◌, ℕ, ◌<◌, length, slice_index_or, All}
use Rattle.sd_base.specs.declared.tables.GraphFile.{GraphFile}
use Rattle.sd_base.specs.declared.tables.ChannelRow.{ChannelRow}
use Rattle.graph_reader.specs.WritableNames.{HasWritableNames}
use Rattle.gen_graph.specs.GraphTrees.{no_actor}

-- an actor without times has its phases from a channel, or has one
abbrev pub ShowsPhases : GraphFile → ℕ → Type 0
ShowsPhases g a = length (slice_index_or g.actors a no_actor).times ≡ 0 → All (λ (c : ChannelRow). (c.source ≢ a) × (c.target ≢ a)) g.channels → (slice_index_or g.actors a no_actor).phases ≡ 1

-- the table has names that can be written, and shows the phases of its actors
pub record IsWritable (g : GraphFile) : Type 0 where
  pub names : HasWritableNames g
  pub phases : (a : ℕ) → a < length g.actors → ShowsPhases g a
