-- The net of a graph file.
use Rattle.std.specs.Prelude.{ℕ, suc, Bool, not, ◌&&◌, ◌||◌, List, [], ◌∷◌, ◌++◌, map, replicate, if◌then◌else◌, ◌==◌, nat_lt}
use Rattle.std.specs.List.{list_any}
use Rattle.sd_base.specs.declared.role.Role.TheVariants.{Own}
use Rattle.sd_base.specs.declared.tables.GraphFile.{GraphFile}
use Rattle.sd_base.specs.declared.tables.ActorRow.{ActorRow}
use Rattle.sd_base.specs.declared.tables.ChannelRow.{ChannelRow}
use Rattle.sd_base.specs.Net.{Channel, Net, file_channels}

-- the own channel of an actor: its firings don't overlap
abbrev pub own_channel : ℕ → ℕ → Channel
own_channel a phases = record { source = a; target = a; made = replicate phases 1; taken = replicate phases 1; tokens = 1; size = 1; role = Own a }

-- a channel of the file leads from a to a
abbrev pub has_self_loop : List ChannelRow → ℕ → Bool
has_self_loop channels a = list_any (λ (c : ChannelRow). (c.source == a) && (c.target == a)) channels

-- an actor of several phases gets an own channel and, where no firings may overlap, one of one phase without a self-loop
abbrev pub gets_own : Bool → List ChannelRow → ℕ → ℕ → Bool
gets_own no_overlap channels a phases = nat_lt 1 phases || (no_overlap && not (has_self_loop channels a))

-- the own channels of the actors from a on
abbrev pub own_channels_from : Bool → List ChannelRow → ℕ → List ActorRow → List Channel
own_channels_from no_overlap channels a [] = []
own_channels_from no_overlap channels a (row ∷ rows) =
    if gets_own no_overlap channels a row.phases
    then own_channel a row.phases ∷ own_channels_from no_overlap channels (suc a) rows
    else own_channels_from no_overlap channels (suc a) rows

-- the net of a graph file with the repetition vector gamma: the channels of the file, then own channels by actor
abbrev pub net_of : GraphFile → List ℕ → Bool → Net
net_of g gamma no_overlap = record {
  times = map (λ (a : ActorRow). a.times) g.actors;
  channels = file_channels g ++ own_channels_from no_overlap g.channels 0 g.actors;
  round = gamma;
}
