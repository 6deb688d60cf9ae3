-- Names that a graph file can have.
use Rattle.std.specs.Prelude.{◌≢◌, ℕ, ◌≤◌, IsTrue, List, length, All}
use Rattle.std.specs.List.{AllPairs}
use Rattle.std.specs.Str.{IsUtf8}
use Rattle.sd_base.specs.declared.limits.TheConstants.{NAME_BYTES}
use Rattle.sd_base.specs.declared.tables.GraphFile.{GraphFile}
use Rattle.sd_base.specs.declared.tables.ActorRow.{ActorRow}
use Rattle.sd_base.specs.declared.tables.ChannelRow.{ChannelRow}
use Rattle.file_text.specs.Grammar.{is_character}

-- a name that isn't empty or too long, of characters that a text may have
pub record IsWritableName (name : List ℕ) : Type 0 where
  pub some : 1 ≤ length name
  pub short : length name ≤ NAME_BYTES
  pub characters : All (λ b. IsTrue (is_character b)) name
  pub utf8 : IsUtf8 name

-- the actors of a table have such names, and so have its channels; those of actors differ, and those of channels
pub record HasWritableNames (g : GraphFile) : Type 0 where
  pub actors : All (λ (a : ActorRow). IsWritableName a.name) g.actors
  pub channels : All (λ (c : ChannelRow). IsWritableName c.name) g.channels
  pub actors_differ : AllPairs (λ (a b : ActorRow). a.name ≢ b.name) g.actors
  pub channels_differ : AllPairs (λ (c d : ChannelRow). c.name ≢ d.name) g.channels
