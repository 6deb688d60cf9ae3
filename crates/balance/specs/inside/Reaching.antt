-- Inside the crate: the actors between which and actor 0 paths lead. No public clause cites this.
use Rattle.std.specs.Prelude.{◌≡◌, ℕ, ◌<◌, ◌⊎◌, Bool, true, false, Some, List, [], ◌∷◌, ◌++◌, length, slice_get, slice_set}
use Rattle.balance.specs.declared.connection.Direction.{Direction}
use Rattle.balance.specs.declared.connection.Direction.TheVariants.{Along, Against}
use Rattle.sd_base.specs.Connection.{Reaches}
use Rattle.balance.specs.inside.Lists.{list_at}
use Rattle.balance.specs.inside.Search.{mark_at, trues}

-- where a pair begins and ends, in a direction
abbrev pub pair_from : Direction → ℕ × ℕ → ℕ
pair_from Along e = e.0
pair_from Against e = e.1

abbrev pub pair_to : Direction → ℕ × ℕ → ℕ
pair_to Along e = e.1
pair_to Against e = e.0

-- a path leads from actor 0 to v, or in the other direction from v to actor 0
abbrev pub Leads : Direction → List (ℕ × ℕ) → ℕ → Type 0
Leads Along ends v = Reaches ends 0 v
Leads Against ends v = Reaches ends v 0

-- paths lead to what is marked
abbrev pub AreLed : Direction → List (ℕ × ℕ) → List Bool → Type 0
AreLed d ends marks = (v : ℕ) → mark_at marks v ≡ true → Leads d ends v

-- no pair leads out of what is marked
abbrev pub AreClosed : Direction → List (ℕ × ℕ) → List Bool → Type 0
AreClosed d ends marks = (k : ℕ) (e : ℕ × ℕ) → slice_get ends k ≡ Some e → mark_at marks (pair_from d e) ≡ true → mark_at marks (pair_to d e) ≡ true

-- each actor's list has the ends of those of the first n pairs that begin at it
pub record AreFollowers (d : Direction) (ends : List (ℕ × ℕ)) (n actors : ℕ) (rows : List (List ℕ)) : Type 0 where
  pub size : length rows ≡ actors
  pub only : (a p u : ℕ) → slice_get (list_at rows a) p ≡ Some u →
      (k : ℕ) × (e : ℕ × ℕ) × (slice_get ends k ≡ Some e) × (pair_from d e ≡ a) × (pair_to d e ≡ u)
  pub whole : (k : ℕ) (e : ℕ × ℕ) → k < n → slice_get ends k ≡ Some e → (p : ℕ) × (slice_get (list_at rows (pair_from d e)) p ≡ Some (pair_to d e))

-- the queue has the marked actors, each once
pub record IsQueue (queue : List ℕ) (marks : List Bool) : Type 0 where
  pub queued : (v : ℕ) → mark_at marks v ≡ true → (j : ℕ) × (slice_get queue j ≡ Some v)
  pub marked : (j v : ℕ) → slice_get queue j ≡ Some v → mark_at marks v ≡ true
  pub count : trues marks ≡ length queue

-- an actor was marked, and queued where it was not marked before
abbrev pub IsMarked : ℕ → List ℕ → List Bool → List ℕ → List Bool → Type 0
IsMarked u queue marks queue' marks' =
    ((mark_at marks u ≡ false) × (queue' ≡ queue ++ u ∷ []) × (marks' ≡ slice_set marks u true))
    ⊎ ((mark_at marks u ≡ true) × (queue' ≡ queue) × (marks' ≡ marks))

-- the first n actors of a list were marked
pub record AreMarked (next : List ℕ) (n : ℕ) (queue : List ℕ) (marks : List Bool) (queue' : List ℕ) (marks' : List Bool) : Type 0 where
  pub is_queue : IsQueue queue' marks'
  pub size : length marks' ≡ length marks
  pub kept : (v : ℕ) → mark_at marks v ≡ true → mark_at marks' v ≡ true
  pub stays : (j v : ℕ) → slice_get queue j ≡ Some v → slice_get queue' j ≡ Some v
  pub all : (q u : ℕ) → q < n → slice_get next q ≡ Some u → mark_at marks' u ≡ true
  pub only : (v : ℕ) → mark_at marks' v ≡ true → (mark_at marks v ≡ true) ⊎ ((q : ℕ) × (slice_get next q ≡ Some v))
