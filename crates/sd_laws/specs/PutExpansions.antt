-- What `expand` puts is read again as the expansion.
use Rattle.std.specs.Prelude.{◌≡◌, ℕ, Bool, true, List, Some, IsSome, Ok}
use Rattle.sd_base.specs.declared.tables.GraphFile.{GraphFile}
use Rattle.sd_base.specs.FileNet.{net_of}
use Rattle.sd_words.specs.declared.request.Request.TheVariants.{Expand}
use Rattle.sd_words.specs.Asked.{request_of}
use Rattle.storage.specs.BoundedNets.{bound}
use Rattle.storage.specs.NamedBuffers.{Buffer, capacities_of}
use Rattle.graph_reader.specs.Laws.{Gives}
use Rattle.balance.specs.Repetition.{IsRound}
use Rattle.gen_graph.specs.GraphTrees.{written}
use Rattle.sd_io.specs.Outside.{Files, file_under}
use Rattle.sd_steps.specs.declared.answer.Answer.{Answer}
use Rattle.sd_steps.specs.Courses.{Answered}
use Rattle.sd_command.specs.commands.Expansions.{IsExpansion, graph_put}
use Rattle.sd_command.specs.Requests.{course_of}

-- an answer puts under the name of the output a graph file, which is read as the expansion of the net of a graph file, bounded by
-- buffers, and as nothing else
pub record PutsExpansion (files : Files) (name output : List ℕ) (buffers : List Buffer) (no_overlap : Bool) (answer : Answer) : Type 0 where
  pub bytes : List ℕ
  pub graph : GraphFile
  pub gamma : List ℕ
  pub big : GraphFile
  pub there : file_under files name ≡ Some bytes
  pub given : Gives bytes true graph
  pub round : IsRound graph gamma
  pub expansion : IsExpansion (bound (net_of graph gamma no_overlap) (capacities_of graph.channels buffers)) graph big
  pub file : answer.put ≡ Some (graph_put output big)
  pub read : Gives (written big) true big
  pub no_other : (table : GraphFile) → Gives (written big) true table → table ≡ big

-- so does each answer of `expand`
abbrev pub ExpansionsAreRead : Type 0
ExpansionsAreRead =
    (words : List (List ℕ)) (files : Files) (name output : List ℕ) (buffers : List Buffer) (no_overlap : Bool) (answer : Answer) (n : ℕ) → IsSome files
    → request_of words ≡ Ok (Expand name output buffers no_overlap) → course_of words files (Answered answer) n → PutsExpansion files name output buffers no_overlap answer
