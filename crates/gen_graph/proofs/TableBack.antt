-- The tree of a table spells it.
use Rattle.std.proofs.Common.{◌≡◌, ◌≢◌, ℕ, zero, suc, ◌+◌, ◌<◌, ◌≤◌, Bool, true, false, List, [], ◌∷◌, ◌++◌, length, map, get_or, Some, refl, sym, ap, ◌∙◌, subst, arith}
use Rattle.std.specs.Prelude.{IsTrue, codes, slice_index}
use Rattle.std.specs.Str.{bytes_eq}
use Rattle.std.specs.List.{All}
use Rattle.std.proofs.lemmas.List.Elements.{All-nil, All-cons, All-head, All-tail}
use Rattle.sd_base.specs.declared.tables.Kind.{Kind}
use Rattle.sd_base.specs.declared.tables.Kind.TheVariants.{Sdf, Csdf}
use Rattle.sd_base.specs.declared.tables.GraphFile.{GraphFile}
use Rattle.sd_base.specs.declared.tables.ActorRow.{ActorRow}
use Rattle.sd_base.specs.declared.tables.ChannelRow.{ChannelRow}
use Rattle.sd_base.specs.Tables.{KeepsRules, ActorKeepsRules, ChannelKeepsRules, PortKeepsRules, IsTimed, phases_of}
use Rattle.file_text.specs.Node.{Node}
use Rattle.file_text.specs.Grammar.{Each}
use Rattle.file_text.proofs.DistinctNamesStay.{each-append}
use Rattle.graph_reader.specs.declared.field.Field.TheVariants as field
use Rattle.graph_reader.specs.declared.actors.Actor.{Actor}
use Rattle.graph_reader.specs.declared.channels.Channel.{Channel}
use Rattle.graph_reader.specs.declared.properties.TimeEntry.{TimeEntry}
use Rattle.graph_reader.specs.Field.{word_of}
use Rattle.graph_reader.specs.TreeSteps
use Rattle.graph_reader.specs.Sections.{phases_in, channel_row, table, section_of, properties_of}
use Rattle.graph_reader.specs.Spelled.{Pairwise, EachTwo, ArePhased, HasNumbers, IsTimeEntry, IsSizeEntry, AreActors, AreChannels, IsEven, IsGraph, IsTable}
use Rattle.graph_reader.specs.Laws.{Gives}
use Rattle.graph_reader.proofs.SpelledTreesAreRead
use Rattle.gen_graph.specs.GraphTrees.{actor_node, actor_nodes, no_actor, channel_node, channel_nodes, times_node, times_of, times_nodes, size_node, kind_word, properties_word, section_node, properties_node, application_node, graph_tree, written}
use Rattle.graph_reader.specs.WritableNames.{IsWritableName}
use Rattle.gen_graph.specs.Writable.{IsWritable}
use Rattle.gen_graph.proofs.TreeTexts.{AreSmall, each_from_All, phases_count, spelled_text}
use Rattle.gen_graph.proofs.ElementsAreFound.{IsCalled, children_are, first_kept, second_kept, two_from_pairs}
use Rattle.gen_graph.proofs.ActorsBack.{AreRates, IsRated, actors_back, actors_long, actors_read, channels_read, few_ports, two_names_read}
use Rattle.gen_graph.proofs.ChannelsBack.{IsJoined, channels_apart, channels_back, channels_long}
use Rattle.gen_graph.proofs.TimesBack.{HasTimes, all_known, times_apart, times_back, times_found, times_read}
use Rattle.gen_graph.proofs.SizesBack.{IsSized, all_channels_known, size_read, sizes_apart, sizes_back, sizes_found}
use Rattle.gen_graph.proofs.PhasesBack.{AreRows, HasPhases, IsOfPhases, all_phases, channel_rows_back, rows_back, rows_even}

-- ---- what the rules say

small_rates : (rs : List ℕ) → All (λ r. r ≤ 1000000) rs → AreSmall rs
small_rates [] all = tt
small_rates (r ∷ rs) all = let first = All-head (λ r. r ≤ 1000000) r rs all in (omega (arith, first), small_rates rs (All-tail (λ r. r ≤ 1000000) r rs all))

from_0 : (rs : List ℕ) → All (λ r. r ≤ 1000000) rs → All (λ r. (0 ≤ r) × (r ≤ 1000000)) rs
from_0 [] all = All-nil (λ r. (0 ≤ r) × (r ≤ 1000000))
from_0 (r ∷ rs) all = let first = All-head (λ r. r ≤ 1000000) r rs all in All-cons (λ r. (0 ≤ r) × (r ≤ 1000000)) r rs (omega arith, first) (from_0 rs (All-tail (λ r. r ≤ 1000000) r rs all))

rates_back : (k : Kind) (phases : ℕ) (rates : List ℕ) → 1 ≤ phases → phases ≤ 4096 → (k ≡ Sdf → phases ≡ 1) → PortKeepsRules phases rates → AreRates k rates
rates_back k phases rates some few one keeps = record {
  some = omega (arith, keeps.listed);
  one = λ e. keeps.listed ∙ one e;
  small = small_rates rates keeps.limited;
  phased = record { within = from_0 rates keeps.limited; few = omega (arith, keeps.listed); moves = keeps.moves };
}

-- the phases at a place
record ArePhases (k : Kind) (phases : ℕ) : Type 0 where
  some : 1 ≤ phases
  few : phases ≤ 4096
  one : k ≡ Sdf → phases ≡ 1

phases_at : (k : Kind) (rows : List ActorRow) (a : ℕ) → a < length rows → Each (ActorKeepsRules k) rows → ArePhases k (slice_index (map (λ (r : ActorRow). r.phases) rows) a)
phases_at k [] a lt keep = absurd (omega arith)
phases_at k (row ∷ rows) zero lt keep = record { some = keep.0.some_phase; few = keep.0.few_phases; one = keep.0.one_phase }
phases_at k (row ∷ rows) (suc a) lt keep = phases_at k rows a (omega arith) keep.1

module _ (k : Kind) (rows : List ActorRow) (keep : Each (ActorKeepsRules k) rows) where
  abbrev phases : List ℕ
  phases = map (λ (r : ActorRow). r.phases) rows

  rated_by : (c : ChannelRow) → ChannelKeepsRules phases c → IsRated k c
  rated_by c keeps =
      let count = phases_count rows in
      let source = phases_at k rows c.source (omega (arith, keeps.source, count)) keep in
      let target = phases_at k rows c.target (omega (arith, keeps.target, count)) keep in
      record { made = rates_back k (slice_index phases c.source) c.made source.some source.few source.one keeps.made; taken = rates_back k (slice_index phases c.target) c.taken target.some target.few target.one keeps.taken }

  rated_all : (cs : List ChannelRow) → Each (ChannelKeepsRules phases) cs → Each (IsRated k) cs
  rated_all [] each = tt
  rated_all (c ∷ cs) each = (rated_by c each.0, rated_all cs each.1)

  joined_all : (cs : List ChannelRow) → Each (ChannelKeepsRules phases) cs → Each (λ (c : ChannelRow). IsWritableName c.name) cs → Each (IsJoined (length rows)) cs
  joined_all [] each names = tt
  joined_all (c ∷ cs) each names =
      let count = phases_count rows in
      (record { source = omega (arith, each.0.source, count); target = omega (arith, each.0.target, count); tokens = each.0.tokens; name = names.0 }, joined_all cs each.1 names.1)

  ends_all : (a p : ℕ) → slice_index phases a ≡ p → (cs : List ChannelRow) → Each (ChannelKeepsRules phases) cs → Each (HasPhases a p) cs
  ends_all a p is [] each = tt
  ends_all a p is (c ∷ cs) each = (((λ e. each.0.made.listed ∙ (ap (slice_index phases) e ∙ is)), (λ e. each.0.taken.listed ∙ (ap (slice_index phases) e ∙ is))), ends_all a p is cs each.1)

of_phases : (phases : List ℕ) (cs : List ChannelRow) → Each (ChannelKeepsRules phases) cs → Each (IsOfPhases phases) cs
of_phases ps [] each = tt
of_phases ps (c ∷ cs) each = ((each.0.made.listed, each.0.taken.listed), of_phases ps cs each.1)

sized_all : (phases : List ℕ) (cs : List ChannelRow) → Each (ChannelKeepsRules phases) cs → Each IsSized cs
sized_all ps [] each = tt
sized_all ps (c ∷ cs) each = ((each.0.some_size, each.0.size), sized_all ps cs each.1)

-- rows from a number on, of a whole list
rows_known : (k : Kind) (whole : List ActorRow) (cs : List ChannelRow) (entries : List TimeEntry) → Each (ChannelKeepsRules (map (λ (r : ActorRow). r.phases) whole)) cs
    → ((a : ℕ) → a < length whole → length (get_or whole a no_actor).times ≡ 0 → All (λ (c : ChannelRow). (c.source ≢ a) × (c.target ≢ a)) cs → (get_or whole a no_actor).phases ≡ 1)
    → Each (ActorKeepsRules k) whole
    → (a : ℕ) (rows : List ActorRow) → a + length rows ≡ length whole → ((j : ℕ) → j < length rows → (get_or whole (a + j) no_actor ≡ get_or rows j no_actor) × (slice_index (map (λ (r : ActorRow). r.phases) whole) (a + j) ≡ (get_or rows j no_actor).phases))
    → Each (ActorKeepsRules k) rows → Each (HasTimes entries) rows → AreRows cs entries a rows
rows_known k whole cs entries keeps shows all a [] long at keep have = tt
rows_known k whole cs entries keeps shows all a (row ∷ rows) long at keep have =
    let place : a + 0 ≡ a = omega arith in
    let here = at 0 (omega arith) in
    let same : get_or whole a no_actor ≡ row = subst (λ n. get_or whole n no_actor ≡ row) place here.0 in
    let phase : slice_index (map (λ (r : ActorRow). r.phases) whole) a ≡ row.phases = subst (λ n. slice_index (map (λ (r : ActorRow). r.phases) whole) n ≡ row.phases) place here.1 in (
      record {
        some = keep.0.some_phase;
        timed = keep.0.timed;
        have = have.0;
        ends = ends_all k whole all a row.phases phase cs keeps;
        shows = λ untimed none. sym (ap (λ (r : ActorRow). r.phases) same) ∙ shows a (omega arith) (ap (λ (r : ActorRow). length r.times) same ∙ untimed) none;
      },
      rows_known k whole cs entries keeps shows all (a + 1) rows (omega arith)
          (λ j lt. let next : a + suc j ≡ a + 1 + j = omega arith in subst (λ n. (get_or whole n no_actor ≡ get_or rows j no_actor) × (slice_index (map (λ (r : ActorRow). r.phases) whole) n ≡ (get_or rows j no_actor).phases)) next (at (suc j) (omega arith)))
          keep.1 have.1,
    )

phases_by : (rows : List ActorRow) (j : ℕ) → j < length rows → slice_index (map (λ (r : ActorRow). r.phases) rows) j ≡ (get_or rows j no_actor).phases
phases_by [] j lt = absurd (omega arith)
phases_by (row ∷ rows) zero lt = refl
phases_by (row ∷ rows) (suc j) lt = phases_by rows j (omega arith)

-- ---- sections

actors_called : (word : List ℕ) (b : Bool) → bytes_eq (codes "actor") word ≡ b → (cs : List ChannelRow) (a : ℕ) (rows : List ActorRow) → Each (IsCalled word b) (actor_nodes cs a rows)
unfolding actor_node
actors_called word b is cs a [] = tt
actors_called word b is cs a (row ∷ rows) = (is, actors_called word b is cs (a + 1) rows)

channels_called : (word : List ℕ) (b : Bool) → bytes_eq (codes "channel") word ≡ b → (rows : List ActorRow) (i : ℕ) (cs : List ChannelRow) → Each (IsCalled word b) (channel_nodes rows i cs)
unfolding channel_node
channels_called word b is rows i [] = tt
channels_called word b is rows i (c ∷ cs) = (is, channels_called word b is rows (i + 1) cs)

times_called : (word : List ℕ) (b : Bool) → bytes_eq (codes "actorProperties") word ≡ b → (rows : List ActorRow) → Each (IsCalled word b) (times_nodes rows)
unfolding times_node
times_called word b is [] = tt
times_called word b is (row ∷ rows) = each-append (IsCalled word b) (times_of row.name row.times) (times_nodes rows) (one_called row.name row.times) (times_called word b is rows)
  where
    one_called : (name ts : List ℕ) → Each (IsCalled word b) (times_of name ts)
    one_called name [] = tt
    one_called name (t ∷ ts) = (is, tt)

sizes_called : (word : List ℕ) (b : Bool) → bytes_eq (codes "channelProperties") word ≡ b → (cs : List ChannelRow) → Each (IsCalled word b) (map size_node cs)
unfolding size_node
sizes_called word b is [] = tt
sizes_called word b is (c ∷ cs) = (is, sizes_called word b is cs)

module _ (k : Kind) (rows : List ActorRow) (cs : List ChannelRow) (keeps : KeepsRules (record { kind = k; actors = rows; channels = cs })) (is : IsWritable (record { kind = k; actors = rows; channels = cs })) where
  abbrev g : GraphFile
  g = record { kind = k; actors = rows; channels = cs }

  keep : Each (ActorKeepsRules k) rows
  keep = each_from_All (ActorKeepsRules k) rows keeps.actors

  join : Each (ChannelKeepsRules (phases_of g)) cs
  join = each_from_All (ChannelKeepsRules (phases_of g)) cs keeps.channels

  actor_names : Each (λ (r : ActorRow). IsWritableName r.name) rows
  actor_names = each_from_All (λ (r : ActorRow). IsWritableName r.name) rows is.names.actors

  channel_names : Each (λ (c : ChannelRow). IsWritableName c.name) cs
  channel_names = each_from_All (λ (c : ChannelRow). IsWritableName c.name) cs is.names.channels

  two_actors : EachTwo (λ (r s : ActorRow). r.name ≢ s.name) rows
  two_actors = two_from_pairs (λ (r s : ActorRow). r.name ≢ s.name) rows is.names.actors_differ

  two_channels : EachTwo (λ (c d : ChannelRow). c.name ≢ d.name) cs
  two_channels = two_from_pairs (λ (c d : ChannelRow). c.name ≢ d.name) cs is.names.channels_differ

  abbrev whole : List Actor
  whole = actors_read cs 0 rows

  abbrev read_channels : List Channel
  read_channels = channels_read 0 cs

  are_rows : AreRows cs (times_read rows) 0 rows
  are_rows = rows_known k rows cs (times_read rows) join is.phases keep 0 rows (omega arith) (λ j lt. let place : j ≡ 0 + j = omega arith in (ap (λ n. get_or rows n no_actor) (sym place), ap (λ n. slice_index (map (λ (r : ActorRow). r.phases) rows) n) (sym place) ∙ phases_by rows j lt)) keep (times_found rows two_actors)

  are_actors : AreActors k (section_node g) whole
  unfolding section_node word_of
  are_actors = record {
    rows = subst (λ (es : List Node). Pairwise (Rattle.graph_reader.specs.Spelled.IsActor k) es whole)
        (sym (children_are (codes "actor") (kind_word k) _ (actor_nodes cs 0 rows ++ channel_nodes rows 0 cs)
        ∙ first_kept (codes "actor") (actor_nodes cs 0 rows) (channel_nodes rows 0 cs) (actors_called (codes "actor") true refl cs 0 rows) (channels_called (codes "actor") false refl rows 0 cs)))
        (actors_back k cs 0 rows keeps.few_channels (rated_all k rows keep cs join) actor_names);
    apart = two_names_read cs 0 rows two_actors;
    some = let long = actors_long cs 0 rows in let some = keeps.some_actor in omega (arith, long, some);
    few = let long = actors_long cs 0 rows in let few = keeps.few_actors in omega (arith, long, few);
    few_ports = few_ports cs rows keeps.few_channels;
  }

  are_channels : AreChannels whole (section_node g) read_channels
  unfolding section_node word_of
  are_channels = record {
    rows = subst (λ (es : List Node). Pairwise (Rattle.graph_reader.specs.Spelled.IsChannel whole) es read_channels)
        (sym (children_are (codes "channel") (kind_word k) _ (actor_nodes cs 0 rows ++ channel_nodes rows 0 cs)
        ∙ second_kept (codes "channel") (actor_nodes cs 0 rows) (channel_nodes rows 0 cs) (actors_called (codes "channel") false refl cs 0 rows) (channels_called (codes "channel") true refl rows 0 cs)))
        (channels_back cs rows keeps.few_channels two_actors 0 cs (omega arith) (λ i d lt. ap (λ n. get_or cs n d) (let same : 0 + i ≡ i = omega arith in same)) (joined_all k rows keep cs join channel_names));
    apart = channels_apart 0 cs (let few = keeps.few_channels in omega (arith, few)) two_channels;
    few = let long = channels_long 0 cs in let few = keeps.few_channels in omega (arith, long, few);
  }

  are_times : Pairwise (IsTimeEntry k whole) (TreeSteps.children (codes "actorProperties") (properties_node g)) (times_read rows)
  unfolding properties_node
  are_times =
      subst (λ (es : List Node). Pairwise (IsTimeEntry k whole) es (times_read rows))
      (sym (children_are (codes "actorProperties") (properties_word k) _ (times_nodes rows ++ map size_node cs)
      ∙ first_kept (codes "actorProperties") (times_nodes rows) (map size_node cs) (times_called (codes "actorProperties") true refl rows) (sizes_called (codes "actorProperties") false refl cs)))
      (times_back k whole rows keep (all_known cs 0 rows))

  are_sizes : Pairwise (IsSizeEntry read_channels) (TreeSteps.children (codes "channelProperties") (properties_node g)) (map size_read cs)
  unfolding properties_node
  are_sizes =
      subst (λ (es : List Node). Pairwise (IsSizeEntry read_channels) es (map size_read cs))
      (sym (children_are (codes "channelProperties") (properties_word k) _ (times_nodes rows ++ map size_node cs)
      ∙ second_kept (codes "channelProperties") (times_nodes rows) (map size_node cs) (times_called (codes "channelProperties") false refl rows) (sizes_called (codes "channelProperties") true refl cs)))
      (sizes_back read_channels cs (sized_all (phases_of g) cs join) (all_channels_known 0 cs))

  same_table : g ≡ table k whole read_channels (times_read rows) (map size_read cs)
  unfolding table
  same_table =
      let actors = rows_back cs (times_read rows) 0 rows are_rows in
      let phases = all_phases cs (times_read rows) 0 rows are_rows in
      let channels = channel_rows_back (phases_of g) (map size_read cs) 0 cs (of_phases (phases_of g) cs join) (sizes_found cs two_channels) in
      sym (ap (λ (rs : List ActorRow). record { kind = k; actors = rs; channels = map (channel_row (map (phases_in (times_read rows)) whole) (map size_read cs)) read_channels }) actors
      ∙ (ap (λ (ps : List ℕ). record { kind = k; actors = rows; channels = map (channel_row ps (map size_read cs)) read_channels }) phases
      ∙ ap (λ (ds : List ChannelRow). record { kind = k; actors = rows; channels = ds }) channels))

  one_section : (j : Kind) → j ≡ k → TreeSteps.children (word_of (section_of j)) (application_node g) ≡ section_node g ∷ []
  unfolding application_node section_node properties_node TreeSteps.children word_of
  one_section Sdf e = subst (λ (j : Kind). TreeSteps.children (word_of (section_of Sdf)) (application_node (record { kind = j; actors = rows; channels = cs })) ≡ section_node (record { kind = j; actors = rows; channels = cs }) ∷ []) e refl
  one_section Csdf e = subst (λ (j : Kind). TreeSteps.children (word_of (section_of Csdf)) (application_node (record { kind = j; actors = rows; channels = cs })) ≡ section_node (record { kind = j; actors = rows; channels = cs }) ∷ []) e refl

  one_properties : (j : Kind) → j ≡ k → TreeSteps.children (word_of (properties_of j)) (application_node g) ≡ properties_node g ∷ []
  unfolding application_node section_node properties_node TreeSteps.children word_of
  one_properties Sdf e = subst (λ (j : Kind). TreeSteps.children (word_of (properties_of Sdf)) (application_node (record { kind = j; actors = rows; channels = cs })) ≡ properties_node (record { kind = j; actors = rows; channels = cs }) ∷ []) e refl
  one_properties Csdf e = subst (λ (j : Kind). TreeSteps.children (word_of (properties_of Csdf)) (application_node (record { kind = j; actors = rows; channels = cs })) ≡ properties_node (record { kind = j; actors = rows; channels = cs }) ∷ []) e refl

  kind_told : (j : Kind) → j ≡ k → TreeSteps.attribute (word_of field.TypeWord) (graph_tree g) ≡ Some (word_of (section_of j))
  unfolding graph_tree TreeSteps.attribute word_of
  kind_told Sdf e = subst (λ (j : Kind). Some (kind_word j) ≡ Some (codes "sdf")) e refl
  kind_told Csdf e = subst (λ (j : Kind). Some (kind_word j) ≡ Some (codes "csdf")) e refl

  the_graph : (need_times : Bool) → (IsTrue need_times → IsTimed g) → IsGraph k need_times (application_node g) g
  the_graph need_times timed = record {
    section = section_node g;
    properties = Some (properties_node g);
    actors = whole;
    channels = read_channels;
    times = times_read rows;
    sizes = map size_read cs;
    one_section = one_section k refl;
    no_second = one_properties k refl;
    are_actors = are_actors;
    are_channels = are_channels;
    are_times = (are_times, times_apart rows two_actors);
    are_sizes = (are_sizes, sizes_apart cs two_channels);
    even = rows_even cs (times_read rows) 0 rows are_rows;
    is_table = same_table;
    timed = timed;
  }

  one_graph : TreeSteps.children (word_of field.ApplicationGraph) (graph_tree g) ≡ application_node g ∷ []
  unfolding graph_tree application_node TreeSteps.children word_of
  one_graph = refl

  root : Rattle.file_text.specs.Node.name_of (graph_tree g) ≡ word_of field.Sdf3
  unfolding graph_tree word_of
  root = refl

  pub tree_back : (need_times : Bool) → (IsTrue need_times → IsTimed g) → IsTable need_times (graph_tree g) g
  tree_back need_times timed = record { graph = application_node g; root = root; kind = kind_told k refl; one_graph = one_graph; is_graph = the_graph need_times timed }

-- what is written is read as the table
pub reads_back : (g : GraphFile) → KeepsRules g → IsWritable g → (need_times : Bool) → (IsTrue need_times → IsTimed g) → Gives (written g) need_times g
reads_back g keeps is need_times timed =
    (graph_tree g, spelled_text g keeps is, SpelledTreesAreRead.table_of need_times (graph_tree g) g (tree_back g.kind g.actors g.channels keeps is need_times timed))
