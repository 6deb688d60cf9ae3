-- Which pairs of actors aren't joined by a directed path, and which actors have no input.
use Rattle.std.specs.Prelude.{◌≡◌, ℕ, ◌<◌, ◌⊎◌, List, All, Any}
use Rattle.sd_base.specs.Connection.{Reaches}
use Rattle.balance.specs.declared.connection.ConnectError.{ConnectError}
use Rattle.balance.specs.declared.connection.ConnectError.TheVariants.{OneWay, NoMemory}

-- both actors of each pair are below the number of actors
abbrev pub AreActors : ℕ → List (ℕ × ℕ) → Type 0
AreActors actors ends = All (λ e. (e.0 < actors) × (e.1 < actors)) ends

-- x is the least actor that actor 0 doesn't reach
pub record IsFirstUnreached (actors : ℕ) (ends : List (ℕ × ℕ)) (x : ℕ) : Type 0 where
  pub actor : x < actors
  pub unreached : Reaches ends 0 x → ⊥
  pub least : (c : ℕ) → c < x → Reaches ends 0 c

-- actor 0 reaches each actor, and x is the least one that doesn't reach it
pub record IsFirstNotReaching (actors : ℕ) (ends : List (ℕ × ℕ)) (x : ℕ) : Type 0 where
  pub reached : (c : ℕ) → c < actors → Reaches ends 0 c
  pub actor : x < actors
  pub not_reaching : Reaches ends x 0 → ⊥
  pub least : (c : ℕ) → c < x → Reaches ends c 0

-- when each refusal comes; want of memory is free
abbrev pub IsConnectRefusal : ℕ → List (ℕ × ℕ) → ConnectError → Type 0
IsConnectRefusal actors ends (OneWay from to) =
    ((from ≡ 0) × IsFirstUnreached actors ends to) ⊎ ((to ≡ 0) × IsFirstNotReaching actors ends from)
IsConnectRefusal actors ends NoMemory = Unit {0}

-- some pair enters an actor
abbrev pub HasInput : List (ℕ × ℕ) → ℕ → Type 0
HasInput ends a = Any (λ e. e.1 ≡ a) ends

-- a is the least actor that no pair enters
pub record IsFirstWithoutInput (actors : ℕ) (ends : List (ℕ × ℕ)) (a : ℕ) : Type 0 where
  pub actor : a < actors
  pub none : HasInput ends a → ⊥
  pub least : (c : ℕ) → c < a → HasInput ends c
