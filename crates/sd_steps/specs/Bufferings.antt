-- The capacities that words give to the channels of a graph.
use Rattle.std.specs.Prelude.{◌≡◌, ℕ, List, Some, None}
use Rattle.sd_base.specs.declared.tables.GraphFile.{GraphFile}
use Rattle.escapes.specs.EscapedNames.{escaped_name}
use Rattle.storage.specs.declared.buffers.BufferError.TheVariants as faults
use Rattle.storage.specs.declared.distribution.Distribution.{Distribution}
use Rattle.storage.specs.NamedBuffers.{Buffer, capacities_of, first_fault}
use Rattle.report.specs.declared.refusal.Refusal.{Refusal}
use Rattle.report.specs.declared.refusal.Refusal.TheVariants.{BelowTokens, SelfLoopBuffer, UnknownChannel}
use Rattle.sd_steps.specs.Courses.{Step, deciding}

-- a refusal that is due to the first buffer with a fault
pub data IsBufferRefusal (graph : GraphFile) (buffers : List Buffer) (refusal : Refusal) : Type 0 where
  unknown : (name : List ℕ) → first_fault graph.channels buffers ≡ Some (faults.Unknown name) → refusal ≡ UnknownChannel (escaped_name name)
      → IsBufferRefusal graph buffers refusal
  self_loop : (name : List ℕ) → first_fault graph.channels buffers ≡ Some (faults.SelfLoop name) → refusal ≡ SelfLoopBuffer (escaped_name name)
      → IsBufferRefusal graph buffers refusal
  below_tokens : (name : List ℕ) → first_fault graph.channels buffers ≡ Some (faults.BelowTokens name) → refusal ≡ BelowTokens (escaped_name name)
      → IsBufferRefusal graph buffers refusal

-- no buffer has a fault, and by channel these are the capacities
pub record GivesCapacities (graph : GraphFile) (buffers : List Buffer) (distribution : Distribution) : Type 0 where
  pub whole : first_fault graph.channels buffers ≡ None
  pub named : distribution.capacities ≡ capacities_of graph.channels buffers

abbrev pub buffering : GraphFile → List Buffer → Step Distribution
buffering graph buffers = deciding (λ distribution. GivesCapacities graph buffers distribution) (λ refusal. IsBufferRefusal graph buffers refusal)
