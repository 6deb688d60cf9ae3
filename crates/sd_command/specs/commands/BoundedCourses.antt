-- The course that commands share on the net of a graph whose named channels have a capacity.
use Rattle.std.specs.Prelude.{ℕ, Bool, true, List}
use Rattle.sd_base.specs.declared.tables.GraphFile.{GraphFile}
use Rattle.sd_base.specs.Net.{Net}
use Rattle.sd_base.specs.FileNet.{net_of}
use Rattle.storage.specs.declared.distribution.Distribution.{Distribution}
use Rattle.storage.specs.BoundedNets.{bound}
use Rattle.storage.specs.NamedBuffers.{Buffer}
use Rattle.sd_io.specs.Outside.{Files}
use Rattle.sd_steps.specs.Courses.{Ending, After}
use Rattle.sd_steps.specs.Bufferings.{buffering}
use Rattle.sd_steps.specs.Balancings.{balancing}
use Rattle.sd_steps.specs.Readings.{opening_graph}

-- what a command does with the bounded net of a graph, with the graph's repetition vector and the capacities of its channels
abbrev pub OnNet : Type 1
OnNet = GraphFile → List ℕ → Distribution → Net → Ending → ℕ → Type 0

-- that of a graph with these buffers
abbrev pub on_bounded : GraphFile → List Buffer → Bool → OnNet → Ending → ℕ → Type 0
on_bounded graph buffers no_overlap next =
    After (buffering graph buffers) λ distribution.
    After (balancing graph) λ gamma.
    next graph gamma distribution (bound (net_of graph gamma no_overlap) distribution.capacities)

-- and that of a graph file
abbrev pub on_file : List ℕ → List Buffer → Bool → OnNet → Files → Ending → ℕ → Type 0
on_file name buffers no_overlap next files =
    After (opening_graph files name true) λ graph.
    on_bounded graph buffers no_overlap next
