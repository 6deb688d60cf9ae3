-- The steps of a walk go over channels of the graph.
use Rattle.std.proofs.Common.{◌≡◌, ℕ, ◌<◌, List, [], ◌∷◌, length, All, subst}
use Rattle.std.specs.List.{AllByRecursion}
use Rattle.std.proofs.lemmas.List.{length-map}
use Rattle.std.proofs.lemmas.List.Elements.{All-from_recursion}
use Rattle.std.proofs.lemmas.Option.{slice_get_within}
use Rattle.sd_base.specs.declared.tables.GraphFile.{GraphFile}
use Rattle.balance.specs.declared.walk.WalkStep.{WalkStep}
use Rattle.balance.specs.declared.walk.Link.{Link}
use Rattle.balance.specs.Walks.{IsLinkWalk, links_of, link_of, step_to}
use Rattle.balance.specs.Repetition.{IsUnbalanced, IsRatioTooLarge}

each : (ls : List Link) (n a b : ℕ) (ss : List WalkStep) → length ls ≡ n → IsLinkWalk ls a ss b → AllByRecursion (λ s. s.channel < n) ss
each ls n a b [] e h = tt
each ls n a b (s ∷ ss) e (l, is, from, rest) =
    (subst (λ (m : ℕ). s.channel < m) e (slice_get_within ls s.channel l is), each ls n (step_to l s.forward) b ss e rest)

walk-channels : (g : GraphFile) (a b : ℕ) (ss : List WalkStep) → IsLinkWalk (links_of g) a ss b → All (λ s. s.channel < length g.channels) ss
walk-channels g a b ss h =
    All-from_recursion (λ (s : WalkStep). s.channel < length g.channels) ss (each (links_of g) (length g.channels) a b ss (length-map g.channels link_of) h)

pub ratio_steps : (g : GraphFile) (p : List WalkStep) → IsRatioTooLarge g p → All (λ s. s.channel < length g.channels) p
ratio_steps g p h = walk-channels g 0 h.way.end p h.way.way.0

pub unbalanced_steps : (g : GraphFile) (w : List WalkStep) (num den : ℕ) → IsUnbalanced g w num den → All (λ s. s.channel < length g.channels) w
unbalanced_steps g w num den h = walk-channels g h.walk_over.link.source h.walk_over.link.source w h.walk_over.closed
