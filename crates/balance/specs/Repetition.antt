-- The repetition vector of a graph, or why there is none within the limits.
use Rattle.std.specs.Prelude.{◌≡◌, ◌≢◌, ℕ, ◌*◌, ◌<◌, ◌≤◌, ◌⊎◌, true, Result, Ok, Err, Some, List, [], ◌∷◌, ◌++◌, sum, length, slice_get}
use Rattle.sd_base.specs.declared.limits.TheConstants.{RATIO, ROUND}
use Rattle.sd_base.specs.declared.tables.GraphFile.{GraphFile}
use Rattle.sd_base.specs.Tables.{KeepsRules}
use Rattle.sd_base.specs.Net.{IsRepetitionOf}
use Rattle.sd_base.specs.Connection.{AreConnected, Meets, graph_ends}
use Rattle.balance.specs.declared.walk.WalkStep.{WalkStep}
use Rattle.balance.specs.declared.walk.Link.{Link}
use Rattle.balance.specs.declared.refusal.BalanceError.{BalanceError}
use Rattle.balance.specs.declared.refusal.BalanceError.TheVariants.{Apart, RatioTooLarge, Unbalanced, RoundTooLarge, NoMemory}
use Rattle.balance.specs.Walks.{links_of, IsLinkWalk, IsWay, Precedes, walk_num, walk_den, IsLowest, turned}

-- a walk leads from actor 0 to each actor
abbrev pub IsConnected : GraphFile → Type 0
IsConnected g = AreConnected (length g.actors) (graph_ends g)

-- no part of a walk's ratio in lowest terms is above the limit
abbrev pub HasRatioWithinLimit : List Link → List WalkStep → Type 0
HasRatioWithinLimit ls p = (n : ℕ) × (d : ℕ) × IsLowest n d (walk_num ls p) (walk_den ls p) × (n ≤ RATIO) × (d ≤ RATIO)

-- some part is
abbrev pub HasRatioAboveLimit : List Link → List WalkStep → Type 0
HasRatioAboveLimit ls p = (n : ℕ) × (d : ℕ) × IsLowest n d (walk_num ls p) (walk_den ls p) × ((RATIO < n) ⊎ (RATIO < d))

-- the ratios of the ways are within the limit
abbrev pub WaysAreWithinLimit : List Link → Type 0
WaysAreWithinLimit ls = (b : ℕ) (p : List WalkStep) → IsWay ls b p → HasRatioWithinLimit ls p

-- no walk is unbalanced: each closed one has the ratio 1
abbrev pub IsConsistent : List Link → Type 0
IsConsistent ls = (a : ℕ) (ss : List WalkStep) → IsLinkWalk ls a ss a → walk_num ls ss ≡ walk_den ls ss

-- where a repetition vector is looked for: a connected graph whose ways are within the limit and that has no unbalanced
-- walk
pub record IsBalanced (g : GraphFile) : Type 0 where
  pub connected : IsConnected g
  pub within : WaysAreWithinLimit (links_of g)
  pub consistent : IsConsistent (links_of g)

-- v is the repetition vector, and a round is within its limit
pub record IsRound (g : GraphFile) (v : List ℕ) : Type 0 where
  pub balanced : IsBalanced g
  pub least : IsRepetitionOf g v
  pub fits : sum v ≤ ROUND

-- a round passes its limit
pub record IsRoundTooLarge (g : GraphFile) : Type 0 where
  pub balanced : IsBalanced g
  pub round : List ℕ
  pub least : IsRepetitionOf g round
  pub above : ROUND < sum round

-- no walk leads from actor 0 to b, the least such actor
pub record IsApart (g : GraphFile) (a b : ℕ) : Type 0 where
  pub first : a ≡ 0
  pub actor : b < length g.actors
  pub apart : Meets (graph_ends g) 0 b → ⊥
  pub least : (c : ℕ) → c < b → Meets (graph_ends g) 0 c

-- p is a way with a ratio above the limit, and precedes each other such way
pub record IsFirstAboveLimit (ls : List Link) (p : List WalkStep) : Type 0 where
  pub end : ℕ
  pub way : IsWay ls end p
  pub above : HasRatioAboveLimit ls p
  pub first : (b : ℕ) (q : List WalkStep) → IsWay ls b q → HasRatioAboveLimit ls q → Precedes p q

-- in a connected graph that way is the refusal's
pub record IsRatioTooLarge (g : GraphFile) (p : List WalkStep) : Type 0 where
  pub connected : IsConnected g
  pub way : IsFirstAboveLimit (links_of g) p

-- the ratio of the way to the source, times made to taken, is the ratio of the way to the target
abbrev pub IsKept : List Link → ℕ → Type 0
IsKept ls c = (l : Link) (p q : List WalkStep) → slice_get ls c ≡ Some l → IsWay ls l.source p → IsWay ls l.target q →
    walk_num ls p * l.made * walk_den ls q ≡ walk_num ls q * l.taken * walk_den ls p

-- two lists don't begin with the same step
abbrev pub IsParted : List WalkStep → List WalkStep → Type 0
IsParted [] ys = Unit {0}
IsParted (x ∷ xs) [] = Unit {0}
IsParted (x ∷ xs) (y ∷ ys) = x ≢ y

-- the path from a to b in the tree of ways: back along the way to a, as far as the ways have no step in common, then on
-- along the way to b
pub record IsTreePath (ls : List Link) (a b : ℕ) (path : List WalkStep) : Type 0 where
  pub common : List WalkStep
  pub back : List WalkStep
  pub on : List WalkStep
  pub from : IsWay ls a (common ++ back)
  pub to : IsWay ls b (common ++ on)
  pub parted : IsParted back on
  pub path_is : path ≡ turned back ++ on

-- along the channel, and back to where it begins through the tree: a closed walk whose ratio in lowest terms is
-- num/den, and not 1
pub record IsClosedOver (ls : List Link) (channel : ℕ) (walk : List WalkStep) (num den : ℕ) : Type 0 where
  pub link : Link
  pub over : slice_get ls channel ≡ Some link
  pub path : List WalkStep
  pub tree : IsTreePath ls link.target link.source path
  pub walk_is : walk ≡ record { channel = channel; forward = true } ∷ path
  pub closed : IsLinkWalk ls link.source walk link.source
  pub ratio : IsLowest num den (walk_num ls walk) (walk_den ls walk)
  pub not_one : num ≢ den

-- the walk over the first channel in file order that doesn't keep the ratios of the ways
pub record IsUnbalanced (g : GraphFile) (walk : List WalkStep) (num den : ℕ) : Type 0 where
  pub connected : IsConnected g
  pub within : WaysAreWithinLimit (links_of g)
  pub channel : ℕ
  pub fails : IsKept (links_of g) channel → ⊥
  pub first : (c : ℕ) → c < channel → IsKept (links_of g) c
  pub walk_over : IsClosedOver (links_of g) channel walk num den

-- when each refusal comes; want of memory is free
abbrev pub IsRefusal : GraphFile → BalanceError → Type 0
IsRefusal g (Apart a b) = IsApart g a b
IsRefusal g (RatioTooLarge path) = IsRatioTooLarge g path
IsRefusal g (Unbalanced walk num den) = IsUnbalanced g walk num den
IsRefusal g RoundTooLarge = IsRoundTooLarge g
IsRefusal g NoMemory = Unit {0}

-- an answer that fits the graph
abbrev pub IsBalanceAnswer : GraphFile → Result (List ℕ) BalanceError → Type 0
IsBalanceAnswer g (Ok v) = IsRound g v
IsBalanceAnswer g (Err e) = IsRefusal g e

-- at most one answer but want of memory fits a graph
abbrev pub HasOneAnswer : Type 0
HasOneAnswer = (g : GraphFile) → KeepsRules g → (x y : Result (List ℕ) BalanceError) → IsBalanceAnswer g x → IsBalanceAnswer g y →
    x ≢ Err NoMemory → y ≢ Err NoMemory → x ≡ y
