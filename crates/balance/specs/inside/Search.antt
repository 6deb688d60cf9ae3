-- Inside the crate: what the search for the ways has found so far. No public clause cites this.
use Rattle.std.specs.Prelude.{◌≡◌, ℕ, ◌+◌, ◌*◌, ◌<◌, ◌≤◌, ◌⊎◌, Bool, true, false, Some, None, List, [], ◌∷◌, ◌++◌, length, slice_get, slice_index_or, slice_set}
use Rattle.sd_base.specs.declared.limits.TheConstants.{PHASES, RATE}
use Rattle.balance.specs.declared.walk.WalkStep.{WalkStep}
use Rattle.balance.specs.declared.walk.Link.{Link}
use Rattle.balance.specs.declared.search.Found.{Found}
use Rattle.balance.specs.declared.search.Reach.{Reach}
use Rattle.balance.specs.inside.Lists.{list_at, appended}
use Rattle.balance.specs.Walks.{IsLinkWalk, IsWay, Precedes, step_to, step_from, turned}
use Rattle.balance.specs.Repetition.{IsParted}

-- a channel is put on the lists of both its ends, where these are two
pub record IsJoined (rows rows' : List (List ℕ)) (k : ℕ) (l : Link) : Type 0 where
  pub loop : l.source ≡ l.target → rows' ≡ rows
  pub joins : (l.source ≡ l.target → ⊥) → rows' ≡ appended (appended rows l.source k) l.target k

-- each actor's list has the channels before n that join it with another actor, in their order
pub record IsIncidence (ls : List Link) (n actors : ℕ) (rows : List (List ℕ)) : Type 0 where
  pub size : length rows ≡ actors
  pub below : (a p k : ℕ) → slice_get (list_at rows a) p ≡ Some k → k < n
  pub rising : (a p q k k' : ℕ) → p < q → slice_get (list_at rows a) p ≡ Some k → slice_get (list_at rows a) q ≡ Some k' → k < k'
  pub whole : (k : ℕ) (l : Link) (f : Bool) → k < n → slice_get ls k ≡ Some l → (l.source ≡ l.target → ⊥) →
      (p : ℕ) × (slice_get (list_at rows (step_from l f)) p ≡ Some k)

-- the channel numbers of a walk as digits from 1 in base m, after those of acc
abbrev pub key_from : ℕ → ℕ → List WalkStep → ℕ
key_from m acc [] = acc
key_from m acc (s ∷ ss) = key_from m (acc * m + s.channel + 1) ss

-- how many marks are set
abbrev pub trues : List Bool → ℕ
trues [] = 0
trues (true ∷ bs) = 1 + trues bs
trues (false ∷ bs) = trues bs

-- whether an actor is marked
abbrev pub mark_at : List Bool → ℕ → Bool
mark_at bs v = slice_index_or bs v false

-- each channel's ends are actors
pub record HasEnds (actors : ℕ) (ls : List Link) : Type 0 where
  pub source : (k : ℕ) (l : Link) → slice_get ls k ≡ Some l → l.source < actors
  pub target : (k : ℕ) (l : Link) → slice_get ls k ≡ Some l → l.target < actors

-- each channel moves tokens in a cycle of phases: so many phases of so many tokens at most
pub record HasSums (ls : List Link) : Type 0 where
  pub made : (k : ℕ) (l : Link) → slice_get ls k ≡ Some l → 0 < l.made
  pub taken : (k : ℕ) (l : Link) → slice_get ls k ≡ Some l → 0 < l.taken
  pub most_made : (k : ℕ) (l : Link) → slice_get ls k ≡ Some l → l.made ≤ PHASES * RATE
  pub most_taken : (k : ℕ) (l : Link) → slice_get ls k ≡ Some l → l.taken ≤ PHASES * RATE

-- what was found, with the way to it
pub record Entry : Type 0 where
  pub actor : ℕ
  pub way : List WalkStep

-- an entry's way is that of the place from which it was reached, and the step
abbrev pub IsReachedEntry : List Entry → ℕ → Entry → Reach → Type 0
IsReachedEntry es j e r = (r.place < j) × (d : Entry) × (slice_get es r.place ≡ Some d) × (e.way ≡ d.way ++ r.step ∷ [])

-- the entries of what was found; their ways are read off by the places before them
pub record AreEntries (found : List Found) (es : List Entry) : Type 0 where
  pub size : length es ≡ length found
  pub actor : (j : ℕ) (x : Found) (e : Entry) → slice_get found j ≡ Some x → slice_get es j ≡ Some e → e.actor ≡ x.actor
  pub root : (j : ℕ) (x : Found) (e : Entry) → slice_get found j ≡ Some x → slice_get es j ≡ Some e → x.reach ≡ None → e.way ≡ []
  pub reached : (j : ℕ) (x : Found) (e : Entry) (r : Reach) → slice_get found j ≡ Some x → slice_get es j ≡ Some e → x.reach ≡ Some r → IsReachedEntry es j e r

-- ways can be read off
abbrev pub HasEntries : List Found → Type 0
HasEntries found = (es : List Entry) × AreEntries found es

-- a search that has looked at all channels of the places before i, and at those below c of place i
pub record IsSearch (ls : List Link) (m : ℕ) (es : List Entry) (seen : ℕ → Bool) (i c : ℕ) : Type 0 where
  pub marked : (v : ℕ) → seen v ≡ true → (j : ℕ) × (x : Entry) × (slice_get es j ≡ Some x) × (x.actor ≡ v)
  pub listed : (j : ℕ) (x : Entry) → slice_get es j ≡ Some x → seen x.actor ≡ true
  pub walks : (j : ℕ) (x : Entry) → slice_get es j ≡ Some x → IsLinkWalk ls 0 x.way x.actor
  pub least : (j : ℕ) (x : Entry) (ss : List WalkStep) → slice_get es j ≡ Some x → IsLinkWalk ls 0 ss x.actor →
      key_from m 0 x.way ≤ key_from m 0 ss
  pub rising : (j k : ℕ) (x y : Entry) → slice_get es j ≡ Some x → slice_get es k ≡ Some y → j < k →
      key_from m 0 x.way < key_from m 0 y.way
  pub last : (j : ℕ) (x y : Entry) → slice_get es j ≡ Some x → slice_get es i ≡ Some y →
      key_from m 0 x.way ≤ key_from m 0 y.way * m + c
  pub looked : (s : WalkStep) (l : Link) (j : ℕ) (x : Entry) → slice_get ls s.channel ≡ Some l → slice_get es j ≡ Some x →
      x.actor ≡ step_from l s.forward → seen (step_to l s.forward) ≡ false → (i < j) ⊎ ((i ≡ j) × (c ≤ s.channel))

-- the same of a search's lists, where actor 0 is marked, and as many actors are as are found
pub record IsSearching (ls : List Link) (actors : ℕ) (found : List Found) (seen : List Bool) (i c : ℕ) : Type 0 where
  pub entries : List Entry
  pub read : AreEntries found entries
  pub search : IsSearch ls (length ls + 1) entries (mark_at seen) i c
  pub root : mark_at seen 0 ≡ true
  pub size : length seen ≡ actors
  pub count : trues seen ≡ length found

-- one channel was looked at from place i: a step to an actor that was not seen was taken
pub record IsTaken (found : List Found) (seen : List Bool) (found' : List Found) (seen' : List Bool) (i : ℕ) (s : WalkStep) (l : Link) : Type 0 where
  pub entry : Found
  pub new : Found
  pub here : slice_get found i ≡ Some entry
  pub from : entry.actor ≡ step_from l s.forward
  pub free : mark_at seen (step_to l s.forward) ≡ false
  pub list : found' ≡ found ++ new ∷ []
  pub to : new.actor ≡ step_to l s.forward
  pub reach : new.reach ≡ Some (record { place = i; step = s })
  pub marks : seen' ≡ slice_set seen (step_to l s.forward) true

-- or there was none
pub record IsPassed (found : List Found) (seen : List Bool) (found' : List Found) (seen' : List Bool) (i : ℕ) (l : Link) : Type 0 where
  pub same : found' ≡ found
  pub marks : seen' ≡ seen
  pub none : (y : Found) (f : Bool) → slice_get found i ≡ Some y → y.actor ≡ step_from l f → mark_at seen (step_to l f) ≡ true

abbrev pub IsLooked : List Found → List Bool → List Found → List Bool → ℕ → ℕ → Link → Type 0
IsLooked found seen found' seen' i c l =
    ((f : Bool) × IsTaken found seen found' seen' i (record { channel = c; forward = f }) l) ⊎ IsPassed found seen found' seen' i l

-- what the entries are at the search's end: the ways to all actors that a walk from actor 0 reaches, in their order
pub record IsTree (ls : List Link) (actors : ℕ) (es : List Entry) (seen : List Bool) : Type 0 where
  pub ways : (j : ℕ) (x : Entry) → slice_get es j ≡ Some x → IsWay ls x.actor x.way
  pub rising : (j k : ℕ) (x y : Entry) → slice_get es j ≡ Some x → slice_get es k ≡ Some y → j ≤ k → Precedes x.way y.way
  pub apart : (j k : ℕ) (x y : Entry) → slice_get es j ≡ Some x → slice_get es k ≡ Some y → j < k → x.actor ≡ y.actor → ⊥
  pub whole : (ss : List WalkStep) (v : ℕ) → IsLinkWalk ls 0 ss v → mark_at seen v ≡ true
  pub marked : (v : ℕ) → mark_at seen v ≡ true → (j : ℕ) × (x : Entry) × (slice_get es j ≡ Some x) × (x.actor ≡ v)
  pub within : (j : ℕ) (x : Entry) → slice_get es j ≡ Some x → x.actor < actors
  pub size : length seen ≡ actors

-- what the search has found at its end
pub record IsSearched (ls : List Link) (actors : ℕ) (found : List Found) (seen : List Bool) : Type 0 where
  pub entries : List Entry
  pub read : AreEntries found entries
  pub tree : IsTree ls actors entries seen

-- an actor is among what was found
abbrev pub IsFound : List Found → ℕ → Type 0
IsFound found a = (j : ℕ) × (x : Found) × (slice_get found j ≡ Some x) × (x.actor ≡ a)

-- the way to what was found at a place
abbrev pub IsWayAt : List Found → ℕ → List WalkStep → Type 0
IsWayAt found j way = (es : List Entry) (e : Entry) → AreEntries found es → slice_get es j ≡ Some e → way ≡ e.way

-- the way to a found actor
abbrev pub IsWayTo : List Found → ℕ → List WalkStep → Type 0
IsWayTo found a way = (j : ℕ) × (x : Found) × (slice_get found j ≡ Some x) × (x.actor ≡ a) × IsWayAt found j way

-- a walk over a channel and then back along one way that was found and on along another, without what both begin with
abbrev pub IsClosedBetween : List Found → ℕ → Link → List WalkStep → Type 0
IsClosedBetween found c l walk =
    (common : List WalkStep) × (back : List WalkStep) × (on : List WalkStep)
    × IsWayTo found l.target (common ++ back) × IsWayTo found l.source (common ++ on) × IsParted back on
    × (walk ≡ record { channel = c; forward = true } ∷ (turned back ++ on))
