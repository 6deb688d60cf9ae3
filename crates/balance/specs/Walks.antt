-- Walks over the channels of a graph, their ratios and their order.
use Rattle.std.specs.Prelude.{◌≡◌, ℕ, ◌*◌, ◌<◌, ◌⊎◌, Bool, true, false, Option, Some, None, List, [], ◌∷◌, ◌++◌, not, map, sum, length, slice_get}
use Rattle.std.specs.Int.{IsGcd}
use Rattle.sd_base.specs.declared.tables.GraphFile.{GraphFile}
use Rattle.sd_base.specs.declared.tables.ChannelRow.{ChannelRow}
use Rattle.balance.specs.declared.walk.WalkStep.{WalkStep}
use Rattle.balance.specs.declared.walk.Link.{Link}

-- a channel by its ends, with the tokens that a whole cycle of its source's phases makes and one of its target's takes
abbrev pub link_of : ChannelRow → Link
link_of c = record { source = c.source; target = c.target; made = sum c.made; taken = sum c.taken }

-- the channels of a graph, in file order
abbrev pub links_of : GraphFile → List Link
links_of g = map link_of g.channels

-- where a step over a channel begins: at the source forwards, at the target backwards
abbrev pub step_from : Link → Bool → ℕ
step_from l true = l.source
step_from l false = l.target

-- where it ends
abbrev pub step_to : Link → Bool → ℕ
step_to l true = l.target
step_to l false = l.source

-- the ratio of a step is made to taken forwards, and taken to made backwards
abbrev pub step_num : Link → Bool → ℕ
step_num l true = l.made
step_num l false = l.taken

abbrev pub step_den : Link → Bool → ℕ
step_den l true = l.taken
step_den l false = l.made

-- the steps lead from actor a to actor b, each from where the one before ends
abbrev pub IsLinkWalk : List Link → ℕ → List WalkStep → ℕ → Type 0
IsLinkWalk ls a [] b = a ≡ b
IsLinkWalk ls a (s ∷ ss) b =
    (l : Link) × (slice_get ls s.channel ≡ Some l) × (a ≡ step_from l s.forward) × IsLinkWalk ls (step_to l s.forward) ss b

-- a step's part at a channel of the list; 1 past its end
abbrev pub num_at : Option Link → Bool → ℕ
num_at (Some l) f = step_num l f
num_at None f = 1

abbrev pub den_at : Option Link → Bool → ℕ
den_at (Some l) f = step_den l f
den_at None f = 1

-- the ratio of a walk is the product of the ratios of its steps: the numerators' product to the denominators'
abbrev pub walk_num : List Link → List WalkStep → ℕ
walk_num ls [] = 1
walk_num ls (s ∷ ss) = num_at (slice_get ls s.channel) s.forward * walk_num ls ss

abbrev pub walk_den : List Link → List WalkStep → ℕ
walk_den ls [] = 1
walk_den ls (s ∷ ss) = den_at (slice_get ls s.channel) s.forward * walk_den ls ss

-- n/d is N/D in lowest terms
abbrev pub IsLowest : ℕ → ℕ → ℕ → ℕ → Type 0
IsLowest n d N D = (n * D ≡ d * N) × IsGcd n d 1 × (0 < d)

-- the first walk's channel numbers come no later in the lexicographic order; for walks of one length
abbrev pub LexLe : List WalkStep → List WalkStep → Type 0
LexLe [] ys = Unit {0}
LexLe (x ∷ xs) [] = ⊥
LexLe (x ∷ xs) (y ∷ ys) = (x.channel < y.channel) ⊎ ((x.channel ≡ y.channel) × LexLe xs ys)

-- p has fewer steps than q, or as many and channel numbers that come no later
abbrev pub Precedes : List WalkStep → List WalkStep → Type 0
Precedes p q = (length p < length q) ⊎ ((length p ≡ length q) × LexLe p q)

-- the way to b: of all walks from actor 0 to b one that precedes each
abbrev pub IsWay : List Link → ℕ → List WalkStep → Type 0
IsWay ls b p = IsLinkWalk ls 0 p b × ((q : List WalkStep) → IsLinkWalk ls 0 q b → Precedes p q)

-- a walk back over the same channels
abbrev pub turned : List WalkStep → List WalkStep
turned [] = []
turned (s ∷ ss) = turned ss ++ record { channel = s.channel; forward = not s.forward } ∷ []
