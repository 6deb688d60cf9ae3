-- The command `expand`.
use Rattle.std.specs.Prelude.{◌≡◌, ℕ, Bool, List, length, Some, None}
use Rattle.sd_base.specs.declared.tables.GraphFile.{GraphFile}
use Rattle.sd_base.specs.declared.limits.Quantity.{Quantity}
use Rattle.sd_base.specs.Limits.{greatest_of}
use Rattle.sd_base.specs.Net.{Net}
use Rattle.storage.specs.NamedBuffers.{Buffer}
use Rattle.single_rate.specs.Expansions.{expansion}
use Rattle.single_rate.specs.Limits.{excess}
use Rattle.single_rate.specs.Namings.{IsSameByNames}
use Rattle.gen_graph.specs.GraphTrees.{written}
use Rattle.report.specs.declared.refusal.Refusal.{Refusal}
use Rattle.report.specs.declared.refusal.Refusal.TheVariants.{Above}
use Rattle.report.specs.QuantityWords.{quantity_text}
use Rattle.report.specs.ExpansionTexts.{expanded_line}
use Rattle.sd_io.specs.Outside.{Files}
use Rattle.sd_steps.specs.declared.answer.Put.{Put}
use Rattle.sd_steps.specs.declared.file_kind.FileKind.TheVariants.{Output}
use Rattle.sd_command.specs.commands.BoundedCourses.{OnNet, on_file}
use Rattle.sd_steps.specs.Courses.{Step, deciding, Analysis, Ending, After, ends_by, printing}

-- the expansion of a net, which has the same schedules, self-timed execution and rates by the firings' names
pub record IsExpansion (net : Net) (graph big : GraphFile) : Type 0 where
  pub whole : excess net graph ≡ None
  pub is : big ≡ expansion net graph
  pub same : IsSameByNames net graph

-- it isn't a graph within its limits
pub record IsTooLarge (net : Net) (graph : GraphFile) (refusal : Refusal) : Type 0 where
  pub what : Quantity
  pub first : excess net graph ≡ Some what
  pub told : refusal ≡ Above None (quantity_text what) (greatest_of what)

abbrev pub expanding : Net → GraphFile → Step GraphFile
expanding net graph = deciding (λ big. IsExpansion net graph big) (λ refusal. IsTooLarge net graph refusal)

-- a graph, as the file that is put
abbrev pub graph_put : List ℕ → GraphFile → Put
graph_put output big = record { kind = Output; name = output; bytes = written big }

-- its numbers of actors and channels are told after it is put
abbrev pub telling_graph : List ℕ → GraphFile → Analysis
telling_graph output big = printing (expanded_line (length big.actors) (length big.channels)) (Some (graph_put output big))

-- the expansion of a bounded net under the name of the output; nothing is executed
abbrev pub expansion_on : List ℕ → OnNet
expansion_on output graph gamma distribution net =
    After (expanding net graph) λ big.
    ends_by (telling_graph output big)

abbrev pub expand : List ℕ → List ℕ → List Buffer → Bool → Files → Ending → ℕ → Type 0
expand name output buffers no_overlap = on_file name buffers no_overlap (expansion_on output)
