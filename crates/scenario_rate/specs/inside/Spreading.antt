-- Steps that are brought back over edges, from nodes that wait in a queue.
use Rattle.std.specs.Prelude.{◌≡◌, ℕ, ◌+◌, ◌≤◌, ◌<◌, ◌⊎◌, List, [], ◌∷◌, length, slice_get, Option, Some, None}
use Rattle.automaton.specs.declared.graph.Edge.{Edge}
use Rattle.scenario_rate.specs.inside.Choosing.{IsAmong, steps_at, IsWithin, AreWalked, AreFew}

-- how much steps can still fall at the most
abbrev pub room_of : Option ℕ → ℕ
room_of None = 1026
room_of (Some d) = d

-- the same of all nodes together
abbrev pub room : List (Option ℕ) → ℕ
room [] = 0
room (o ∷ os) = room_of o + room os

-- the edges of the first n places of a list have each brought their starts nearer, and nodes that were brought nearer wait
pub record AreBrought (es : List Edge) (xs : List ℕ) (n : ℕ) (old new : List (Option ℕ)) (before after : List ℕ) : Type 0 where
  pub long : length new ≡ length old
  pub kept : (v d : ℕ) → steps_at old v ≡ Some d → IsWithin new v d
  pub changed : (v : ℕ) → (steps_at new v ≡ steps_at old v) ⊎ IsAmong after v
  pub waiting : (v : ℕ) → IsAmong before v → IsAmong after v
  pub inside : (v : ℕ) → IsAmong after v → IsAmong before v ⊎ (v < length old)
  pub over : (i k d : ℕ) (e : Edge) → i < n → slice_get xs i ≡ Some k → slice_get es k ≡ Some e → steps_at new e.to ≡ Some d → d < length old → IsWithin new e.from (d + 1) ⊎ IsAmong after e.to
  pub walked : (ts : List ℕ) (root : ℕ) → ((k : ℕ) → IsAmong xs k → IsAmong ts k) → AreWalked es ts root old → AreWalked es ts root new
  pub few : AreFew (length old) old → AreFew (length old) new
  pub spent : room new + length after ≤ room old + length before

-- steps of walks to a root, where each edge into a node that doesn't wait has brought its start nearer
pub record IsSpread (es : List Edge) (ts : List ℕ) (nodes root : ℕ) (steps : List (Option ℕ)) (queue : List ℕ) : Type 0 where
  pub long : length steps ≡ nodes
  pub walked : AreWalked es ts root steps
  pub few : AreFew nodes steps
  pub here : IsWithin steps root 0
  pub over : (k d : ℕ) (e : Edge) → IsAmong ts k → slice_get es k ≡ Some e → steps_at steps e.to ≡ Some d → d < nodes → IsWithin steps e.from (d + 1) ⊎ IsAmong queue e.to
