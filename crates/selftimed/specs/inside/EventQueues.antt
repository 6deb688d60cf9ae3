-- What an execution looks at next.
use Rattle.std.specs.Prelude.{◌≡◌, ℕ, ◌≤◌, ◌<◌, true, List, [], ◌∷◌, length, slice_index, ◌==◌, Option, Some, None, All, Contains, IsPermutation}
use Rattle.std.specs.List.{list_any}
use Rattle.std.specs.Ordering.{nat_cmp, ordering_then}
use Rattle.std.specs.declared.cmp.Ordering.{Ordering}
use Rattle.std.specs.declared.cmp.Reverse.{Reverse}
use Rattle.sd_base.specs.Net.{Net}
use Rattle.selftimed.specs.declared.actors.ActorState.{ActorState}
use Rattle.selftimed.specs.inside.Actors.{running_in, touched_in}

-- the first end of an actor's running firings, and the actor
abbrev pub Entry : Type 0
Entry = Reverse ℕ × ℕ

abbrev pub entry : ℕ → ℕ → Entry
entry end a = (record { 0 = end }, a)

-- the order in which the soonest end is the greatest
abbrev pub later_end : Entry → Entry → Ordering
later_end x y = ordering_then (nat_cmp y.0.0 x.0.0) (nat_cmp x.1 y.1)

-- the soonest of some ends
abbrev pub IsSoonest : List Entry → Option ℕ → Type 0
IsSoonest ends None = ends ≡ []
IsSoonest ends (Some t) = ((a : ℕ) × Contains ends (entry t a)) × All (λ (e : Entry). t ≤ e.0.0) ends

-- one end that has come by a moment is taken off; or none has come
abbrev pub TakesDue : ℕ → List Entry → List Entry → Option ℕ → Type 0
TakesDue moment old new None = (new ≡ old) × All (λ (e : Entry). moment < e.0.0) old
TakesDue moment old new (Some a) = (t : ℕ) × (t ≤ moment) × IsPermutation old (entry t a ∷ new)

-- the first of the ends of an actor's running firings is noted
abbrev pub Announces : ℕ → List ℕ → List Entry → List Entry → Type 0
Announces a [] old new = new ≡ old
Announces a (end ∷ more) old new = IsPermutation (entry end a ∷ old) new

-- an actor runs, and its first end is that of an entry
abbrev pub IsFirst : List ActorState → Entry → Type 0
IsFirst actors e = (0 < length (running_in actors e.1)) × (slice_index (running_in actors e.1) 0 ≡ e.0.0)

-- each actor that runs has an entry
abbrev pub HasEntries : List ActorState → List Entry → Type 0
HasEntries actors ends = (a : ℕ) → 0 < length (running_in actors a) → list_any (λ (e : Entry). e.1 == a) ends ≡ true

-- each touched actor is listed
pub record Lists (net : Net) (actors : List ActorState) (touched : List ℕ) : Type 0 where
  pub within : All (λ a. a < length net.times) touched
  pub listed : (a : ℕ) → touched_in actors a ≡ true → list_any (λ (x : ℕ). x == a) touched ≡ true

-- the event queue of an execution: the first ends of the actors that run, and the touched actors
pub record IsEventQueue (net : Net) (actors : List ActorState) (ends : List Entry) (touched : List ℕ) : Type 0 where
  pub firsts : All (IsFirst actors) ends
  pub whole : HasEntries actors ends
  pub lists : Lists net actors touched
