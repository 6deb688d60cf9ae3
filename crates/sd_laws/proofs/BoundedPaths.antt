-- What a command on the bounded net of a graph file has passed, and that it decides.
use Rattle.std.proofs.Common.{◌≡◌, ◌≤◌, ℕ, Bool, true, List, length, ap, subst, sym, ◌∙◌, arith, IsSome}
use Rattle.std.proofs.lemmas.List.{length-map}
use Rattle.sd_base.specs.declared.tables.GraphFile.{GraphFile}
use Rattle.sd_base.specs.Lawful.{Lawful}
use Rattle.sd_base.specs.FileNet.{net_of}
use Rattle.sd_base.specs.Net.{Net}
use Rattle.graph_reader.specs.Laws.{Gives}
use Rattle.balance.specs.Repetition.{IsRound}
use Rattle.storage.specs.declared.distribution.Distribution.{Distribution}
use Rattle.storage.specs.BoundedNets.{bound}
use Rattle.storage.specs.NamedBuffers.{Buffer}
use Rattle.ordered.specs.declared.orders.Orders.{Orders}
use Rattle.ordered.specs.OrderedNets.{ordered}
use Rattle.sd_io.specs.Outside.{Files}
use Rattle.sd_steps.specs.declared.file_kind.FileKind.TheVariants.{Graph}
use Rattle.sd_steps.specs.Balancings.{balancing}
use Rattle.sd_command.specs.commands.BoundedCourses.{OnNet, on_file}
use Rattle.sd_steps.specs.Bufferings.{GivesCapacities, buffering}
use Rattle.sd_steps.specs.Courses.{Ending}
use Rattle.sd_steps.specs.Orderings.{GivesOrders, NamedOrders}
use Rattle.sd_steps.specs.Readings.{opening_graph}
use Rattle.sd_steps.specs.Takings.{IsTaken}
use Rattle.sd_laws.proofs.CommandsDecide.{Decides, IsPast, after_decides, goes_past}
use Rattle.sd_laws.proofs.OneOrder.{OrderLaws, lawful-ordered}
use Rattle.sd_command.proofs.command_lemmas.WordsBoundGraphs.{AreSmall}
use Rattle.sd_laws.proofs.SharedSteps.{FileLaws, balancing_determines, bounded_net, buffering_determines, opening_determines}

-- a graph was read from the file, with these capacities and this repetition vector
pub record IsBoundedFile (files : Files) (name : List ℕ) (buffers : List Buffer) (graph : GraphFile) (gamma : List ℕ) (distribution : Distribution) : Type 0 where
  pub bytes : List ℕ
  pub taken : IsTaken files Graph name bytes
  pub given : Gives bytes true graph
  pub capacities : GivesCapacities graph buffers distribution
  pub round : IsRound graph gamma

-- a command came to its part on the net
pub record IsOnNet (files : Files) (name : List ℕ) (buffers : List Buffer) (no_overlap : Bool) (next : OnNet) (ending : Ending) (n : ℕ) : Type 0 where
  pub graph : GraphFile
  pub gamma : List ℕ
  pub distribution : Distribution
  pub file : IsBoundedFile files name buffers graph gamma distribution
  pub came : next graph gamma distribution (bound (net_of graph gamma no_overlap) distribution.capacities) ending n

pub on_the_net : (files : Files) (name : List ℕ) (buffers : List Buffer) (no_overlap : Bool) (next : OnNet) (ending : Ending) (n : ℕ) → IsPast ending n → on_file name buffers no_overlap next files ending n
    → IsOnNet files name buffers no_overlap next ending n
on_the_net files name buffers no_overlap next ending n past came =
    let opened = goes_past (opening_graph files name true) _ ending n past came in
    let buffered = goes_past (buffering opened.0 buffers) _ ending n past opened.2 in
    let balanced = goes_past (balancing opened.0) _ ending n past buffered.2 in
    record {
      graph = opened.0;
      gamma = balanced.0;
      distribution = buffered.0;
      file = record { bytes = opened.1.0; taken = opened.1.1; given = opened.1.2; capacities = buffered.1; round = balanced.1 };
      came = balanced.2;
    }

-- no channel has more than one capacity
over-on : (files : Files) (name : List ℕ) (buffers : List Buffer) (graph : GraphFile) (gamma : List ℕ) (distribution : Distribution) → IsBoundedFile files name buffers graph gamma distribution
    → length distribution.capacities ≤ length graph.channels
over-on files name buffers graph gamma distribution is =
    let many : length distribution.capacities ≡ length graph.channels = ap length is.capacities.named ∙ length-map graph.channels _ in omega (arith, many)

module _ (laws : FileLaws) where
  -- the bounded net keeps the laws of nets
  pub lawful_on : (files : Files) (name : List ℕ) (buffers : List Buffer) (no_overlap : Bool) (graph : GraphFile) (gamma : List ℕ) (distribution : Distribution) → AreSmall buffers
      → IsBoundedFile files name buffers graph gamma distribution → Lawful (bound (net_of graph gamma no_overlap) distribution.capacities)
  lawful_on files name buffers no_overlap graph gamma distribution small is =
      bounded_net laws is.bytes graph gamma no_overlap buffers distribution is.given is.round small is.capacities

  -- so does the net whose actors keep orders
  pub lawful_ordered_on : OrderLaws → (files : Files) (name : List ℕ) (buffers : List Buffer) (no_overlap : Bool) (lists : NamedOrders) (graph : GraphFile) (gamma : List ℕ) (distribution : Distribution) (orders : Orders) → AreSmall buffers
      → IsBoundedFile files name buffers graph gamma distribution → GivesOrders graph gamma lists orders → Lawful (ordered (bound (net_of graph gamma no_overlap) distribution.capacities) orders.lists)
  lawful_ordered_on known files name buffers no_overlap lists graph gamma distribution orders small is gives =
      let net : Net = bound (net_of graph gamma no_overlap) distribution.capacities in
      subst (λ (ls : List (List ℕ)). Lawful (ordered net ls)) (sym gives.named)
      (lawful-ordered known graph gamma no_overlap distribution.capacities lists gives.whole (laws.keeps is.bytes true graph is.given) (over-on files name buffers graph gamma distribution is) (lawful_on files name buffers no_overlap graph gamma distribution small is))

  -- the command decides where its part on the net does
  pub on_file_decides : (files : Files) → IsSome files → (name : List ℕ) (buffers : List Buffer) (no_overlap : Bool) (next : OnNet)
      → ((graph : GraphFile) (gamma : List ℕ) (distribution : Distribution) → IsBoundedFile files name buffers graph gamma distribution → Decides (next graph gamma distribution (bound (net_of graph gamma no_overlap) distribution.capacities)))
      → Decides (on_file name buffers no_overlap next files)
  on_file_decides files tells name buffers no_overlap next rest =
      after_decides (opening_graph files name true) _ (opening_determines laws files tells name true) (λ graph opened.
      after_decides (buffering graph buffers) _ (buffering_determines graph buffers) (λ distribution gives.
      after_decides (balancing graph) _ (balancing_determines laws graph (laws.keeps opened.0 true graph opened.2)) (λ gamma round.
      rest graph gamma distribution (record { bytes = opened.0; taken = opened.1; given = opened.2; capacities = gives; round = round }))))
