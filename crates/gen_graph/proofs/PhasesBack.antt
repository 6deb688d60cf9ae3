-- The phases of the actors that are read, and the rows of the table.
use Rattle.std.proofs.Common.{◌≡◌, ◌≢◌, ◌⊎◌, ℕ, ◌+◌, ◌≤◌, Bool, true, false, cond, ◌==◌, List, [], ◌∷◌, ◌++◌, length, map, inl, inr, refl, sym, ap, ◌∙◌, subst, arith}
use Rattle.std.specs.Prelude.{slice_index}
use Rattle.std.specs.List.{All}
use Rattle.std.proofs.lemmas.Bool.{eqb-true, eq-eqb}
use Rattle.std.proofs.lemmas.List.Elements.{All-nil, All-cons}
use Rattle.sd_base.specs.declared.tables.ActorRow.{ActorRow}
use Rattle.sd_base.specs.declared.tables.ChannelRow.{ChannelRow}
use Rattle.file_text.specs.Grammar.{Each}
use Rattle.file_text.proofs.DistinctNamesStay.{each-append}
use Rattle.graph_reader.specs.declared.actors.Port.{Port}
use Rattle.graph_reader.specs.declared.properties.TimeEntry.{TimeEntry}
use Rattle.graph_reader.specs.declared.properties.SizeEntry.{SizeEntry}
use Rattle.graph_reader.specs.Sections.{times_at, size_at, longest, lists_of, phases_in, widened, actor_row, channel_row}
use Rattle.graph_reader.specs.Spelled.{IsEven}
use Rattle.gen_graph.specs.declared.direction.Direction.TheVariants.{Out, In}
use Rattle.gen_graph.proofs.ElementsAreFound.{each_perhaps}
use Rattle.gen_graph.proofs.ActorsBack.{actor_read, actors_read, channel_read, channels_read, port_read, ports_at, ports_read}
use Rattle.gen_graph.proofs.TimesBack.{HasTimes}
use Rattle.gen_graph.proofs.SizesBack.{HasSize}

-- ---- phases

-- a list of so many numbers, or of none
abbrev IsLong : ℕ → List ℕ → Type 0
IsLong p xs = (length xs ≡ 0) ⊎ (length xs ≡ p)

none_longest : (lists : List (List ℕ)) → Each (λ (xs : List ℕ). length xs ≡ 0) lists → longest lists ≡ 1
none_longest [] none = refl
none_longest (xs ∷ lists) none = let rest = none_longest lists none.1 in omega (arith, none.0, rest)

longest_is : (p : ℕ) (lists : List (List ℕ)) → 1 ≤ p → Each (IsLong p) lists → (longest lists ≡ p) ⊎ Each (λ (xs : List ℕ). length xs ≡ 0) lists
longest_is p [] some are = inr tt
longest_is p (xs ∷ lists) some (inl none, are) = elim (longest_is p lists some are) [
  | inl is ↦ inl (omega (arith, none, is, some))
  | inr all ↦ inr (none, all)
]
longest_is p (xs ∷ lists) some (inr long, are) = elim (longest_is p lists some are) [
  | inl is ↦ inl (omega (arith, long, is, some))
  | inr all ↦ let one = none_longest lists all in inl (omega (arith, long, one, some))
]

-- the ends of a channel at an actor have its phases
abbrev pub HasPhases : ℕ → ℕ → ChannelRow → Type 0
HasPhases a p c = (c.source ≡ a → length c.made ≡ p) × (c.target ≡ a → length c.taken ≡ p)

ports_long : (a i p : ℕ) (cs : List ChannelRow) → Each (HasPhases a p) cs → Each (λ (q : Port). length q.rates ≡ p) (ports_read a i cs)
ports_long a i p [] have = tt
ports_long a i p (c ∷ cs) have =
    each-append (λ (q : Port). length q.rates ≡ p) (ports_at a i c) (ports_read a (i + 1) cs)
    (each-append (λ (q : Port). length q.rates ≡ p) _ _ (each_perhaps (λ (q : Port). length q.rates ≡ p) (c.source == a) (port_read Out i c.made) (λ e. have.0.0 (eqb-true c.source a e)))
    (each_perhaps (λ (q : Port). length q.rates ≡ p) (c.target == a) (port_read In i c.taken) (λ e. have.0.1 (eqb-true c.target a e))))
    (ports_long a (i + 1) p cs have.1)

rates_long : (p : ℕ) (ps : List Port) → Each (λ (q : Port). length q.rates ≡ p) ps → Each (IsLong p) (map (λ (q : Port). q.rates) ps)
rates_long p [] are = tt
rates_long p (q ∷ ps) are = (inr are.0, rates_long p ps are.1)

-- an actor without ports is on no channel
no_ports : (a i : ℕ) (cs : List ChannelRow) → length (ports_read a i cs) ≡ 0 → All (λ (c : ChannelRow). (c.source ≢ a) × (c.target ≢ a)) cs
no_ports a i [] none = All-nil (λ (c : ChannelRow). (c.source ≢ a) × (c.target ≢ a))
no_ports a i (c ∷ cs) none =
    let at = apart (c.source == a) (c.target == a) none in
    All-cons (λ (c : ChannelRow). (c.source ≢ a) × (c.target ≢ a)) c cs ((λ e. differs c.source at.0 e), (λ e. differs c.target at.1 e)) (no_ports a (i + 1) cs at.2)
  where
    differs : (s : ℕ) → s == a ≡ false → s ≡ a → ⊥
    differs s other e = let is : s == a ≡ true = eq-eqb s a e in absurd (cc (other, is))

    apart : (b d : Bool) → length ((cond b (port_read Out i c.made ∷ []) [] ++ cond d (port_read In i c.taken ∷ []) []) ++ ports_read a (i + 1) cs) ≡ 0
        → (b ≡ false) × (d ≡ false) × (length (ports_read a (i + 1) cs) ≡ 0)
    apart true d none = absurd (omega (arith, none))
    apart false true none = absurd (omega (arith, none))
    apart false false none = (refl, refl, none)

none_from_rates : (p : ℕ) (ps : List Port) → 1 ≤ p → Each (λ (q : Port). length q.rates ≡ p) ps → Each (λ (xs : List ℕ). length xs ≡ 0) (map (λ (q : Port). q.rates) ps) → length ps ≡ 0
none_from_rates p [] some long none = refl
none_from_rates p (q ∷ ps) some long none = absurd (omega (arith, some, long.0, none.0))

module _ (all : List ChannelRow) (entries : List TimeEntry) (a : ℕ) (row : ActorRow) (some : 1 ≤ row.phases) (timed : (length row.times ≡ 0) ⊎ (length row.times ≡ row.phases)) (have : HasTimes entries row)
    (ends : Each (HasPhases a row.phases) all) (shows : length row.times ≡ 0 → All (λ (c : ChannelRow). (c.source ≢ a) × (c.target ≢ a)) all → row.phases ≡ 1) where
  lists_long : Each (IsLong row.phases) (lists_of entries (actor_read all a row))
  lists_long = (subst (IsLong row.phases) (sym have) timed, rates_long row.phases (ports_read a 0 all) (ports_long a 0 row.phases all ends))

  pub phases_back : phases_in entries (actor_read all a row) ≡ row.phases
  phases_back = elim (longest_is row.phases (lists_of entries (actor_read all a row)) some lists_long) [
    | inl is ↦ is
    | inr none ↦
        let untimed : length row.times ≡ 0 = sym (ap length have) ∙ none.0 in
        let bare = none_from_rates row.phases (ports_read a 0 all) some (ports_long a 0 row.phases all ends) none.1 in
        none_longest (lists_of entries (actor_read all a row)) none ∙ sym (shows untimed (no_ports a 0 all bare))
  ]

  even_lists : (lists : List (List ℕ)) → Each (IsLong row.phases) lists → Each (λ (xs : List ℕ). (length xs ≡ phases_in entries (actor_read all a row)) ⊎ (length xs ≤ 1)) lists
  even_lists [] are = tt
  even_lists (xs ∷ lists) (inl none, are) = (inr (omega (arith, none)), even_lists lists are)
  even_lists (xs ∷ lists) (inr long, are) = (inl (long ∙ sym phases_back), even_lists lists are)

  pub even_back : IsEven entries (actor_read all a row)
  even_back = even_lists (lists_of entries (actor_read all a row)) lists_long

-- a list of as many numbers as phases stays as it is
pub widened_back : (p : ℕ) (xs : List ℕ) → IsLong p xs → widened p xs ≡ xs
widened_back p [] is = refl
widened_back p (x ∷ []) (inl none) = absurd (omega (arith, none))
widened_back p (x ∷ []) (inr one) = rw (sym one) refl
widened_back p (x ∷ (y ∷ xs)) is = refl

-- ---- rows

module _ (all : List ChannelRow) (entries : List TimeEntry) where
  -- what is known of a row, by its number
  pub record IsRow (a : ℕ) (row : ActorRow) : Type 0 where
    pub some : 1 ≤ row.phases
    pub timed : (length row.times ≡ 0) ⊎ (length row.times ≡ row.phases)
    pub have : HasTimes entries row
    pub ends : Each (HasPhases a row.phases) all
    pub shows : length row.times ≡ 0 → All (λ (c : ChannelRow). (c.source ≢ a) × (c.target ≢ a)) all → row.phases ≡ 1

  abbrev pub AreRows : ℕ → List ActorRow → Type 0
  AreRows a [] = Unit {0}
  AreRows a (row ∷ rows) = IsRow a row × AreRows (a + 1) rows

  row_phases : (a : ℕ) (row : ActorRow) → IsRow a row → phases_in entries (actor_read all a row) ≡ row.phases
  row_phases a row is = phases_back all entries a row is.some is.timed is.have is.ends is.shows

  pub rows_even : (a : ℕ) (rows : List ActorRow) → AreRows a rows → Each (IsEven entries) (actors_read all a rows)
  rows_even a [] are = tt
  rows_even a (row ∷ rows) are = (even_back all entries a row are.0.some are.0.timed are.0.have are.0.ends are.0.shows, rows_even (a + 1) rows are.1)

  row_back : (a : ℕ) (row : ActorRow) → IsRow a row → actor_row entries (actor_read all a row) ≡ row
  row_back a row is =
      let same = row_phases a row is in
      ap (λ (n : ℕ). record { name = row.name; phases = n; times = widened n (times_at entries row.name) }) same
      ∙ ap (λ (ts : List ℕ). record { name = row.name; phases = row.phases; times = ts }) (ap (widened row.phases) is.have ∙ widened_back row.phases row.times is.timed)

  pub rows_back : (a : ℕ) (rows : List ActorRow) → AreRows a rows → map (actor_row entries) (actors_read all a rows) ≡ rows
  rows_back a [] are = refl
  rows_back a (row ∷ rows) are =
      ap (λ (r : ActorRow). r ∷ map (actor_row entries) (actors_read all (a + 1) rows)) (row_back a row are.0) ∙ ap (λ (l : List ActorRow). row ∷ l) (rows_back (a + 1) rows are.1)

  pub all_phases : (a : ℕ) (rows : List ActorRow) → AreRows a rows → map (phases_in entries) (actors_read all a rows) ≡ map (λ (r : ActorRow). r.phases) rows
  all_phases a [] are = refl
  all_phases a (row ∷ rows) are =
      ap (λ (n : ℕ). n ∷ map (phases_in entries) (actors_read all (a + 1) rows)) (row_phases a row are.0) ∙ ap (λ (l : List ℕ). row.phases ∷ l) (all_phases (a + 1) rows are.1)

-- a channel whose rates are of the phases of its ends
abbrev pub IsOfPhases : List ℕ → ChannelRow → Type 0
IsOfPhases phases c = (length c.made ≡ slice_index phases c.source) × (length c.taken ≡ slice_index phases c.target)

channel_row_back : (phases : List ℕ) (sizes : List SizeEntry) (i : ℕ) (c : ChannelRow) → IsOfPhases phases c → HasSize sizes c → channel_row phases sizes (channel_read i c) ≡ c
channel_row_back phases sizes i c long sized =
    ap (λ (xs : List ℕ). record { name = c.name; source = c.source; target = c.target; made = xs; taken = widened (slice_index phases c.target) c.taken; tokens = c.tokens; size = size_at sizes c.name }) (widened_back (slice_index phases c.source) c.made (inr long.0))
    ∙ (ap (λ (xs : List ℕ). record { name = c.name; source = c.source; target = c.target; made = c.made; taken = xs; tokens = c.tokens; size = size_at sizes c.name }) (widened_back (slice_index phases c.target) c.taken (inr long.1))
    ∙ ap (λ (n : ℕ). record { name = c.name; source = c.source; target = c.target; made = c.made; taken = c.taken; tokens = c.tokens; size = n }) sized)

pub channel_rows_back : (phases : List ℕ) (sizes : List SizeEntry) (i : ℕ) (cs : List ChannelRow) → Each (IsOfPhases phases) cs → Each (HasSize sizes) cs → map (channel_row phases sizes) (channels_read i cs) ≡ cs
channel_rows_back phases sizes i [] long sized = refl
channel_rows_back phases sizes i (c ∷ cs) long sized =
    ap (λ (d : ChannelRow). d ∷ map (channel_row phases sizes) (channels_read (i + 1) cs)) (channel_row_back phases sizes i c long.0 sized.0) ∙ ap (λ (l : List ChannelRow). c ∷ l) (channel_rows_back phases sizes (i + 1) cs long.1 sized.1)
