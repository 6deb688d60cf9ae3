-- The times that are read of a written table.
use Rattle.std.proofs.Common.{◌≡◌, ◌≢◌, ◌⊎◌, ℕ, ◌+◌, ◌≤◌, List, [], ◌∷◌, ◌++◌, length, inl, inr, refl, sym, ap, ◌∙◌, subst, arith}
use Rattle.std.specs.Prelude.{codes}
use Rattle.std.specs.List.{All}
use Rattle.std.proofs.lemmas.List.Elements.{All-head}
use Rattle.std.proofs.lemmas.List.Sums.{sum_by-cons}
use Rattle.sd_base.specs.declared.tables.Kind.{Kind}
use Rattle.sd_base.specs.declared.tables.Kind.TheVariants.{Sdf}
use Rattle.sd_base.specs.declared.tables.ActorRow.{ActorRow}
use Rattle.sd_base.specs.declared.tables.ChannelRow.{ChannelRow}
use Rattle.sd_base.specs.Tables.{ActorKeepsRules}
use Rattle.sd_base.proofs.ByteTestsDecide.{same_bytes, bytes_differ}
use Rattle.file_text.specs.Grammar.{Each}
use Rattle.file_text.proofs.DistinctNamesStay.{each-append}
use Rattle.graph_reader.specs.declared.field.Field.TheVariants as field
use Rattle.graph_reader.specs.declared.actors.Actor.{Actor}
use Rattle.graph_reader.specs.declared.properties.TimeEntry.{TimeEntry}
use Rattle.graph_reader.specs.Field.{word_of}
use Rattle.graph_reader.specs.TreeSteps
use Rattle.graph_reader.specs.Sections.{execution_of, counting_processor, is_default, times_at}
use Rattle.graph_reader.specs.Spelled.{Pairwise, EachTwo, HasNumbers, IsTimeEntry}
use Rattle.graph_reader.proofs.ElementPlaces.{Each-weaker}
use Rattle.graph_reader.proofs.ReadTreesAreSpelled.{TimesDiffer}
use Rattle.gen_graph.specs.GraphTrees.{numbers_text, ports_on, actor_node, actor_nodes, no_actor, channel_node, channel_nodes, processor_node, times_node, times_of, times_nodes, size_node, kind_word, properties_word, section_node, properties_node, application_node, graph_tree, written}
use Rattle.gen_graph.proofs.TreeTexts.{times_small}
use Rattle.gen_graph.proofs.NumbersBack.{spelled_back}
use Rattle.gen_graph.proofs.ElementsAreFound.{pair_both}
use Rattle.gen_graph.proofs.ActorsBack.{actors_read}

-- ---- times

abbrev time_read : List ℕ → List ℕ → List TimeEntry
time_read name [] = []
time_read name (t ∷ ts) = record { actor = name; times = t ∷ ts } ∷ []

abbrev pub times_read : List ActorRow → List TimeEntry
times_read [] = []
times_read (row ∷ rows) = time_read row.name row.times ++ times_read rows

-- an actor of that name is read
abbrev IsKnown : List Actor → ActorRow → Type 0
IsKnown actors row = Each (λ (a : Actor). a.name ≢ row.name) actors → ⊥

pub all_known : (cs : List ChannelRow) (a : ℕ) (rows : List ActorRow) → Each (IsKnown (actors_read cs a rows)) rows
all_known cs a [] = tt
all_known cs a (row ∷ rows) = ((λ none. none.0 refl), Each-weaker (IsKnown (actors_read cs (a + 1) rows)) (IsKnown (actors_read cs a (row ∷ rows))) rows (all_known cs (a + 1) rows) (λ r known none. known none.1))

-- times that an actor has
times_numbers : (k : Kind) (phases t : ℕ) (ts : List ℕ) → length (t ∷ ts) ≡ phases → phases ≤ 4096 → (k ≡ Sdf → phases ≡ 1) → All (λ t. (1 ≤ t) × (t ≤ 1000000000)) (t ∷ ts)
    → HasNumbers k field.Time 1 1000000000 (Rattle.gen_graph.specs.GraphTrees.leaf (codes "executionTime") (codes "time") (numbers_text (t ∷ ts))) (t ∷ ts)
unfolding TreeSteps.attribute word_of
times_numbers k phases t ts long few one all =
    let first = All-head (λ t. (1 ≤ t) × (t ≤ 1000000000)) t ts all in
    let moves = sum_by-cons (λ (x : ℕ). x) t ts in (
      numbers_text (t ∷ ts),
      refl,
      spelled_back k (t ∷ ts) (omega arith) (λ e. long ∙ one e) (times_small (t ∷ ts) all),
      record { within = all; few = omega (arith, long); moves = omega (arith, first.0, moves) },
    )

time_back : (k : Kind) (actors : List Actor) (row : ActorRow) → ActorKeepsRules k row → IsKnown actors row → (ts : List ℕ) → row.times ≡ ts
    → Pairwise (IsTimeEntry k actors) (times_of row.name ts) (time_read row.name ts)
unfolding times_node processor_node execution_of counting_processor is_default TreeSteps.first_child TreeSteps.children TreeSteps.attribute word_of
time_back k actors row keeps known [] is = tt
time_back k actors row keeps known (t ∷ ts) is =
    let all = subst (λ (l : List ℕ). All (λ n. (1 ≤ n) × (n ≤ 1000000000)) l) is keeps.times in
    let long = timed_long row.times row.phases (t ∷ ts) keeps.timed is (omega arith) in
    (record { actor = refl; known = known; times = times_numbers k row.phases t ts long keeps.few_phases keeps.one_phase all }, tt)
  where
    timed_long : (xs : List ℕ) (phases : ℕ) (ys : List ℕ) → (length xs ≡ 0) ⊎ (length xs ≡ phases) → xs ≡ ys → 1 ≤ length ys → length ys ≡ phases
    timed_long xs phases ys (inl none) is some = let same = ap length is in absurd (omega (arith, none, same, some))
    timed_long xs phases ys (inr all) is some = sym (ap length is) ∙ all

pub times_back : (k : Kind) (actors : List Actor) (rows : List ActorRow) → Each (ActorKeepsRules k) rows → Each (IsKnown actors) rows
    → Pairwise (IsTimeEntry k actors) (times_nodes rows) (times_read rows)
times_back k actors [] keep known = tt
times_back k actors (row ∷ rows) keep known =
    pair_both (IsTimeEntry k actors) (times_of row.name row.times) (times_nodes rows) (time_read row.name row.times) (times_read rows)
    (time_back k actors row keep.0 known.0 row.times refl) (times_back k actors rows keep.1 known.1)

-- a fact on names holds of the entries
entry_named : (P : List ℕ → Type 0) (name ts : List ℕ) → P name → Each (λ (t : TimeEntry). P t.actor) (time_read name ts)
entry_named P name [] is = tt
entry_named P name (t ∷ ts) is = (is, tt)

entries_named : (P : List ℕ → Type 0) (rows : List ActorRow) → Each (λ (r : ActorRow). P r.name) rows → Each (λ (t : TimeEntry). P t.actor) (times_read rows)
entries_named P [] each = tt
entries_named P (row ∷ rows) each = each-append (λ (t : TimeEntry). P t.actor) (time_read row.name row.times) (times_read rows) (entry_named P row.name row.times each.0) (entries_named P rows each.1)

entry_apart : (name ts : List ℕ) (rest : List TimeEntry) → Each (λ (t : TimeEntry). name ≢ t.actor) rest → EachTwo TimesDiffer rest → EachTwo TimesDiffer (time_read name ts ++ rest)
entry_apart name [] rest differ two = two
entry_apart name (t ∷ ts) rest differ two = (differ, two)

pub times_apart : (rows : List ActorRow) → EachTwo (λ (r s : ActorRow). r.name ≢ s.name) rows → EachTwo TimesDiffer (times_read rows)
times_apart [] two = tt
times_apart (row ∷ rows) two = entry_apart row.name row.times (times_read rows) (entries_named (λ name. row.name ≢ name) rows two.0) (times_apart rows two.1)

-- the times that are read for an actor
not_there : (name : List ℕ) (entries : List TimeEntry) → Each (λ (t : TimeEntry). name ≢ t.actor) entries → times_at entries name ≡ []
not_there name [] differ = refl
not_there name (t ∷ ts) differ = rw (bytes_differ t.actor name (λ e. differ.0 (sym e))) (not_there name ts differ.1)

entry_here : (name ts : List ℕ) (rest : List TimeEntry) → Each (λ (t : TimeEntry). name ≢ t.actor) rest → times_at (time_read name ts ++ rest) name ≡ ts
entry_here name [] rest differ = not_there name rest differ
entry_here name (t ∷ ts) rest differ = rw (same_bytes name) refl

entry_past : (name other ts : List ℕ) (rest : List TimeEntry) → other ≢ name → times_at (time_read other ts ++ rest) name ≡ times_at rest name
entry_past name other [] rest differ = refl
entry_past name other (t ∷ ts) rest differ = rw (bytes_differ other name differ) refl

abbrev pub HasTimes : List TimeEntry → ActorRow → Type 0
HasTimes entries row = times_at entries row.name ≡ row.times

still_timed : (row : ActorRow) (rest : List TimeEntry) (rows : List ActorRow) → Each (λ (r : ActorRow). row.name ≢ r.name) rows → Each (HasTimes rest) rows → Each (HasTimes (time_read row.name row.times ++ rest)) rows
still_timed row rest [] differ have = tt
still_timed row rest (r ∷ rows) differ have = (entry_past r.name row.name row.times rest differ.0 ∙ have.0, still_timed row rest rows differ.1 have.1)

pub times_found : (rows : List ActorRow) → EachTwo (λ (r s : ActorRow). r.name ≢ s.name) rows → Each (HasTimes (times_read rows)) rows
times_found [] two = tt
times_found (row ∷ rows) two = (
  entry_here row.name row.times (times_read rows) (entries_named (λ name. row.name ≢ name) rows two.0),
  still_timed row (times_read rows) rows two.0 (times_found rows two.1),
)
