-- How many steps lack to a goal.
use Rattle.std.specs.Prelude.{◌≡◌, ℕ, ◌-◌, ◌/◌, ◌≤◌, All, Contains, List, slice_index}
use Rattle.covers.specs.declared.lattice.Axis.{Axis}
use Rattle.walks.specs.Walks.{step_at}

-- the whole steps that the goal has more on the channel
abbrev pub lack_of : List Axis → List ℕ → List ℕ → ℕ → ℕ
lack_of axes goal ks c = (slice_index goal c - slice_index ks c) / step_at axes c

-- on none of the channels a step lacks
abbrev pub LacksNone : List Axis → List ℕ → List ℕ → List ℕ → Type 0
LacksNone axes goal ks channels = All (λ (d : ℕ). lack_of axes goal ks d ≡ 0) channels

-- some step lacks on the channel, and no more on any of the others
pub record LacksMost (axes : List Axis) (goal ks channels : List ℕ) (c : ℕ) : Type 0 where
  pub shown : Contains channels c
  pub some : 1 ≤ lack_of axes goal ks c
  pub most : All (λ (d : ℕ). lack_of axes goal ks d ≤ lack_of axes goal ks c) channels
