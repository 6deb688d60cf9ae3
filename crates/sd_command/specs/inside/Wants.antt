-- What is done with the bounded net of a graph, by what words ask of it.
use Rattle.std.specs.Prelude.{◌≡◌, ℕ, ◌<◌, ◌≤◌, Bool, List, length, sum, Option, None}
use Rattle.sd_base.specs.declared.limits.TheConstants.{ROUND, TOKENS}
use Rattle.sd_base.specs.declared.tables.GraphFile.{GraphFile}
use Rattle.sd_base.specs.FileNet.{net_of}
use Rattle.sd_base.specs.Net.{IsRepetitionOf, channel_at}
use Rattle.sd_base.specs.Tables.{IsTimed, KeepsRules}
use Rattle.storage.specs.BoundedNets.{bound}
use Rattle.storage.specs.Distributions.{CanHold}
use Rattle.sd_words.specs.Asked.{AreRounds, AreStates}
use Rattle.sd_command.specs.declared.commands.wanted.Wanted.{Wanted}
use Rattle.sd_command.specs.declared.commands.wanted.Wanted.TheVariants as wants
use Rattle.sd_command.specs.commands.BoundedCourses.{OnNet}
use Rattle.sd_command.specs.commands.Expansions.{expansion_on}
use Rattle.sd_command.specs.commands.InOrders.{ordered_rate_on}
use Rattle.sd_command.specs.commands.LeastTimes.{time_on}
use Rattle.sd_command.specs.commands.Throughputs.{rate_on}

-- what is done with it
abbrev pub on_net : Wanted → OnNet
on_net (wants.Rate wanted) = rate_on wanted
on_net (wants.Ordered lists wanted) = ordered_rate_on lists wanted
on_net (wants.Rounds wanted) = time_on wanted
on_net (wants.Expansion output no_overlap) = expansion_on output

-- whether no firings of an actor may overlap
abbrev pub no_overlap_of : Wanted → Bool
no_overlap_of (wants.Rate wanted) = wanted.no_overlap
no_overlap_of (wants.Ordered lists wanted) = wanted.no_overlap
no_overlap_of (wants.Rounds wanted) = wanted.no_overlap
no_overlap_of (wants.Expansion output no_overlap) = no_overlap

-- its numbers are within their ranges, and it asks for no certificate of a rate by orders
abbrev pub IsWithin : Wanted → Type 0
IsWithin (wants.Rate wanted) = AreStates wanted.states
IsWithin (wants.Ordered lists wanted) = AreStates wanted.states × (wanted.certificate ≡ None)
IsWithin (wants.Rounds wanted) = AreStates wanted.states × AreRounds wanted.rounds
IsWithin (wants.Expansion output no_overlap) = Unit {0}

-- a graph within the rules, its repetition vector, and capacities that the channels of its net can have
pub record IsBounded (graph : GraphFile) (gamma : List ℕ) (no_overlap : Bool) (ds : List (Option ℕ)) : Type 0 where
  pub rules : KeepsRules graph
  pub timed : IsTimed graph
  pub counted : length gamma ≡ length graph.actors
  pub gives : IsRepetitionOf graph gamma
  pub small : sum gamma ≤ ROUND
  pub held : CanHold (net_of graph gamma no_overlap).channels ds
  pub over : length ds ≤ length graph.channels
  pub tokens : (i : ℕ) → i < length (bound (net_of graph gamma no_overlap) ds).channels → (channel_at (bound (net_of graph gamma no_overlap) ds) i).tokens ≤ TOKENS
