-- The capacities that words give bound a graph with its repetition vector.
use Rattle.std.proofs.Common.{◌≡◌, ◌<◌, ◌≤◌, ℕ, Bool, List, length, All, Option, subst, sym, ap, ◌∙◌, arith}
use Rattle.std.proofs.lemmas.List.{length-map}
use Rattle.sd_base.specs.declared.limits.TheConstants.{CAPACITY, NET_CHANNELS, TOKENS}
use Rattle.sd_base.specs.declared.tables.ActorRow.{ActorRow}
use Rattle.sd_base.specs.declared.tables.GraphFile.{GraphFile}
use Rattle.sd_base.specs.FileNet.{net_of}
use Rattle.sd_base.specs.Net.{channel_at}
use Rattle.sd_base.specs.Tables.{IsTimed, KeepsRules}
use Rattle.balance.specs.Repetition.{IsRound}
use Rattle.storage.specs.declared.distribution.Distribution.{Distribution}
use Rattle.storage.specs.BoundedNets.{HasNoSpaces, bound}
use Rattle.storage.specs.Distributions.{CanHold}
use Rattle.storage.specs.NamedBuffers.{Buffer}
use Rattle.storage.proofs.FileChannels.{file-plain, plain-no_spaces}
use Rattle.storage.proofs.NamedCapacities.{bounded-few, named-held}
use Rattle.storage.proofs.SmallSpaces.{bounded-few_tokens}
use Rattle.cert_maker.specs.Links.{HasNoOrders}
use Rattle.cert_maker.proofs.BoundNetsLackOrders.{bound-orderless}
use Rattle.report.specs.LinkTexts.{IsNamed}
use Rattle.sd_steps.specs.Bufferings.{GivesCapacities}
use Rattle.sd_command.specs.inside.Wants.{IsBounded}
use Rattle.sd_command.proofs.command_lemmas.FileNetsHaveNoOrders.{net-orderless}
use Rattle.sd_steps.proofs.NetsStandOverGraphs.{bound-over, net-over}

-- the capacities are those that words may name
abbrev pub AreSmall : List Buffer → Type 0
AreSmall bs = All (λ (b : Buffer). b.1 ≤ CAPACITY) bs

pub is-bounded : (graph : GraphFile) (gamma : List ℕ) (no_overlap : Bool) (buffers : List Buffer) (d : Distribution) → KeepsRules graph → IsTimed graph → IsRound graph gamma → AreSmall buffers → GivesCapacities graph buffers d
    → IsBounded graph gamma no_overlap d.capacities
is-bounded graph gamma no_overlap buffers d rules timed round small gives = record {
  rules = rules;
  timed = timed;
  counted = round.least.balances.actors ∙ length-map graph.actors (λ (a : ActorRow). a.phases);
  gives = round.least;
  small = round.fits;
  held = subst (λ (ds : List (Option ℕ)). CanHold (net_of graph gamma no_overlap).channels ds) (sym gives.named) (named-held graph gamma no_overlap buffers gives.whole small);
  over = let many : length d.capacities ≡ length graph.channels = ap length gives.named ∙ length-map graph.channels _ in omega (arith, many);
  tokens = subst (λ (ds : List (Option ℕ)). (i : ℕ) → i < length (bound (net_of graph gamma no_overlap) ds).channels → (channel_at (bound (net_of graph gamma no_overlap) ds) i).tokens ≤ TOKENS) (sym gives.named)
      (bounded-few_tokens graph gamma no_overlap buffers rules small);
}

pub file-spaceless : (graph : GraphFile) (gamma : List ℕ) (no_overlap : Bool) → HasNoSpaces (net_of graph gamma no_overlap)
file-spaceless graph gamma no_overlap = plain-no_spaces (net_of graph gamma no_overlap) (file-plain graph gamma no_overlap)

-- the bounded net has room, stands over the graph, and has no edges of orders
module _ (graph : GraphFile) (gamma : List ℕ) (no_overlap : Bool) (ds : List (Option ℕ)) (is : IsBounded graph gamma no_overlap ds) where
  pub few-bounded : length (bound (net_of graph gamma no_overlap) ds).channels ≤ NET_CHANNELS
  few-bounded = bounded-few graph gamma no_overlap ds is.rules is.over

  pub named-bounded : IsNamed graph (bound (net_of graph gamma no_overlap) ds)
  named-bounded = bound-over graph (net_of graph gamma no_overlap) ds is.over (net-over graph gamma no_overlap)

  pub orderless-bounded : HasNoOrders (bound (net_of graph gamma no_overlap) ds)
  orderless-bounded = bound-orderless (net_of graph gamma no_overlap) ds (net-orderless graph gamma no_overlap)
