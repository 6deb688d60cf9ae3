-- Channels that ways out were counted on.
use Rattle.std.specs.Prelude.{◌≡◌, ℕ, ◌⊎◌, All, Bool, List, false, true, slice_index_or}
use Rattle.covers.specs.declared.lattice.Lattice.{Lattice}
use Rattle.covers.specs.declared.bound.Cap.{Cap}
use Rattle.covers.specs.declared.node.Node.{Node}
use Rattle.covers.specs.inside.Ways.{StaysWithin}

-- no cap with a way out is on a taken channel
abbrev pub AreApart : Lattice → Node → List Bool → List Cap → Type 0
AreApart lattice n taken caps = All (λ (cap : Cap). StaysWithin lattice n cap ⊎ (slice_index_or taken cap.channel false ≡ false)) caps

-- what was taken stays so, and each cap with a way out is on a taken channel
pub record AreTaken (lattice : Lattice) (n : Node) (caps : List Cap) (old new : List Bool) : Type 0 where
  pub kept : (c : ℕ) → slice_index_or old c false ≡ true → slice_index_or new c false ≡ true
  pub each : All (λ (cap : Cap). StaysWithin lattice n cap ⊎ (slice_index_or new cap.channel false ≡ true)) caps
