-- What is known between two calls of a search, and what an answer says.
use Rattle.std.specs.Prelude.{◌≡◌, ◌≢◌, ℕ, ◌<◌, ◌⊎◌, All, Contains, List, Option, length}
use Rattle.std.specs.Prelude.{None, Some}
use Rattle.std.specs.declared.cmp.Ordering.TheVariants.{Greater}
use Rattle.std.specs.Ordering.{nat_cmp}
use Rattle.std.specs.Cmp.Lexicographic.{slice_cmp}
use Rattle.covers.specs.declared.search.Search.{Search}
use Rattle.covers.specs.declared.search.Level.{Level}
use Rattle.covers.specs.Lattices.{IsAmong, storage_of}
use Rattle.covers.specs.Bounds.{AreEnough, IsCovered}
use Rattle.covers.specs.Nodes.{IsProper, LiesIn}

-- each vector of the lattice within the limit is covered by a bound in force, or lies in an open node whose least is at most
-- its storage; and the bounds that act cover what all do
pub record IsSearched (s : Search) : Type 0 where
  pub all : (ks : List ℕ) → IsAmong s.lattice ks → IsCovered s.bounds.items s.best ks ⊎ LiesIn s.lattice s.open.keys ks
  pub proper : All (IsProper s.lattice s.order) s.open.keys
  pub acting : AreEnough s.bounds.items s.best s.acting.items

-- each vector of the lattice within the limit is covered by a bound in force
abbrev pub IsSettled : Search → Type 0
IsSettled s = (ks : List ℕ) → IsAmong s.lattice ks → IsCovered s.bounds.items s.best ks

-- a vector of the lattice within the limit that no bound in force covers
pub record IsUncovered (s : Search) (ks : List ℕ) : Type 0 where
  pub among : IsAmong s.lattice ks
  pub free : IsCovered s.bounds.items s.best ks → ⊥

-- the vectors of the least storage that no bound in force covers: all of them, if they are fewer than asked for
pub record IsLevel (s : Search) (most : ℕ) (l : Level) : Type 0 where
  pub below : (ks : List ℕ) → IsAmong s.lattice ks → storage_of s.lattice.axes ks < l.storage → IsCovered s.bounds.items s.best ks
  pub each : All (IsUncovered s) l.vectors
  pub needed : All (λ (ks : List ℕ). storage_of s.lattice.axes ks ≡ l.storage) l.vectors
  pub some : 0 < length l.vectors
  pub whole : length l.vectors < most → (ks : List ℕ) → IsUncovered s ks → storage_of s.lattice.axes ks ≡ l.storage → Contains l.vectors ks

-- nothing is left, or a level
abbrev pub IsAnswer : Search → ℕ → Option Level → Type 0
IsAnswer s most None = IsSettled s
IsAnswer s most (Some l) = IsLevel s most l

-- the first vector is not after the second in lexicographic order
abbrev pub IsNotAfter : List ℕ → List ℕ → Type 0
IsNotAfter ks js = slice_cmp nat_cmp ks js ≢ Greater

-- nothing is left, or the lexicographically first vector that no bound in force covers
abbrev pub IsFirst : Search → Option (List ℕ) → Type 0
IsFirst s None = IsSettled s
IsFirst s (Some ks) = IsUncovered s ks × ((js : List ℕ) → IsUncovered s js → IsNotAfter ks js)

-- the lattice, the order, the bounds, which of them act, and the best rate stay
pub record IsSame (old new : Search) : Type 0 where
  pub lattice : new.lattice ≡ old.lattice
  pub order : new.order ≡ old.order
  pub bounds : new.bounds ≡ old.bounds
  pub acting : new.acting ≡ old.acting
  pub best : new.best ≡ old.best
