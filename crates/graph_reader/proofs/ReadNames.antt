-- The names of a table that is read can be written.
use Rattle.std.proofs.Common.{◌≡◌, ◌≢◌, ℕ, Bool, List, [], ◌∷◌, map, Result, Ok, Err, All, subst, sym, arith}
use Rattle.std.specs.Prelude.{IsTrue, IfOk}
use Rattle.std.specs.List.{AllPairs}
use Rattle.std.proofs.lemmas.List.Elements.{All-nil, All-cons}
use Rattle.std.proofs.lemmas.List.Kept.{AllPairs-cons}
use Rattle.std.proofs.lemmas.Result.{IfOk-at_ok}
use Rattle.sd_base.specs.declared.tables.Kind.{Kind}
use Rattle.sd_base.specs.declared.tables.GraphFile.{GraphFile}
use Rattle.sd_base.specs.declared.tables.ActorRow.{ActorRow}
use Rattle.sd_base.specs.declared.tables.ChannelRow.{ChannelRow}
use Rattle.sd_base.specs.Tables.{IsTimed}
use Rattle.file_text.specs.Node.{Node}
use Rattle.file_text.specs.Grammar.{Each}
use Rattle.graph_reader.specs.declared.field.Field.TheVariants as field
use Rattle.graph_reader.specs.declared.actors.Actor.{Actor}
use Rattle.graph_reader.specs.declared.channels.Channel.{Channel}
use Rattle.graph_reader.specs.Field.{word_of}
use Rattle.graph_reader.specs.declared.error.ReadError.{ReadError}
use Rattle.graph_reader.specs.TreeSteps.{children, Gives}
use Rattle.graph_reader.specs.Sections.{actor_row, channel_row, phases_in, section_of, table, table_of}
use Rattle.graph_reader.specs.Spelled.{EachTwo, Pairwise, HasName, IsActor, IsChannel, AreApart, IsGraph, IsTable}
use Rattle.graph_reader.specs.WritableNames.{HasWritableNames, IsWritableName}
use Rattle.graph_reader.specs.Laws.{ReadIsWritable}
use Rattle.file_text.specs.Values.{HasCharacters}
use Rattle.file_text.proofs.ValueTexts.{text-characters}
use Rattle.graph_reader.proofs.TablesKeepRules.{is_timed}
use Rattle.graph_reader.proofs.ReadTreesAreSpelled.{table_of as found}
use Rattle.graph_reader.proofs.ValuesAreCharacters.{attribute-characters, children-characters}

pub all-from_each : {X : Type 0} (P : X → Type 0) (xs : List X) → Each P xs → All P xs
all-from_each P [] each = All-nil P
all-from_each P (x ∷ xs) each = All-cons P x xs each.0 (all-from_each P xs each.1)

pairs-from_two : {X : Type 0} (R : X → X → Type 0) (xs : List X) → EachTwo R xs → AllPairs R xs
pairs-from_two R [] two = λ i j d less below. absurd (omega arith)
pairs-from_two R (x ∷ xs) two = AllPairs-cons R x xs (all-from_each (R x) xs two.0) (pairs-from_two R xs two.1)

each-map : {X Y : Type 0} (f : X → Y) (P : Y → Type 0) (xs : List X) → Each (λ x. P (f x)) xs → Each P (map f xs)
each-map f P [] each = tt
each-map f P (x ∷ xs) each = (each.0, each-map f P xs each.1)

two-map : {X Y : Type 0} (f : X → Y) (R : Y → Y → Type 0) (xs : List X) → EachTwo (λ x y. R (f x) (f y)) xs → EachTwo R (map f xs)
two-map f R [] two = tt
two-map f R (x ∷ xs) two = (each-map f (R (f x)) xs two.0, two-map f R xs two.1)

-- what is read of elements whose values are characters, one by one
pub each-read : {X : Type 0} (R : Node → X → Type 0) (P : X → Type 0) → ((e : Node) (x : X) → HasCharacters e → R e x → P x) → (es : List Node) (xs : List X) → Each HasCharacters es → Pairwise R es xs → Each P xs
each-read R P one [] [] good read = tt
each-read R P one [] (x ∷ xs) good read = absurd read
each-read R P one (e ∷ es) [] good read = tt
each-read R P one (e ∷ es) (x ∷ xs) good read = (one e x good.0 read.0, each-read R P one es xs good.1 read.1)

pub name-writable : (e : Node) (name : List ℕ) → HasCharacters e → HasName e name → IsWritableName name
name-writable e name good is =
    let value = attribute-characters (word_of field.Name) e name good is.has in
    record { some = is.some; short = is.short; characters = value.characters; utf8 = value.utf8 }

pub only-characters : (word : List ℕ) (e child : Node) → HasCharacters e → children word e ≡ child ∷ [] → HasCharacters child
only-characters word e child good one = (subst (Each HasCharacters) one (children-characters word e good)).0

apart-names : (channels : List Channel) → EachTwo AreApart channels → EachTwo (λ (c d : Channel). c.name ≢ d.name) channels
apart-names [] two = tt
apart-names (c ∷ cs) two = (each-names cs two.0, apart-names cs two.1)
  where
    each-names : (ds : List Channel) → Each (AreApart c) ds → Each (λ (d : Channel). c.name ≢ d.name) ds
    each-names [] each = tt
    each-names (d ∷ ds) each = (each.0.names, each-names ds each.1)

pub graph-names : (kind : Kind) (need_times : Bool) (e : Node) (t : GraphFile) → HasCharacters e → IsGraph kind need_times e t → HasWritableNames t
unfolding table
graph-names kind need_times e t good is = subst HasWritableNames (sym is.is_table) names
  where
    section : HasCharacters is.section
    section = only-characters (word_of (section_of kind)) e is.section good is.one_section

    actors : Each (λ (a : Actor). IsWritableName a.name) is.actors
    actors = each-read (IsActor kind) (λ (a : Actor). IsWritableName a.name) (λ x a fine read. name-writable x a.name fine read.name)
        (children (word_of field.Actor) is.section) is.actors (children-characters (word_of field.Actor) is.section section) is.are_actors.rows

    channels : Each (λ (c : Channel). IsWritableName c.name) is.channels
    channels = each-read (IsChannel is.actors) (λ (c : Channel). IsWritableName c.name) (λ x c fine read. name-writable x c.name fine read.name)
        (children (word_of field.Channel) is.section) is.channels (children-characters (word_of field.Channel) is.section section) is.are_channels.rows

    names : HasWritableNames (table kind is.actors is.channels is.times is.sizes)
    names = record {
      actors = all-from_each _ (map (actor_row is.times) is.actors) (each-map (actor_row is.times) (λ (r : ActorRow). IsWritableName r.name) is.actors actors);
      channels = all-from_each _ (map (channel_row (map (phases_in is.times) is.actors) is.sizes) is.channels) (each-map (channel_row (map (phases_in is.times) is.actors) is.sizes) (λ (r : ChannelRow). IsWritableName r.name) is.channels channels);
      actors_differ = pairs-from_two (λ (a b : ActorRow). a.name ≢ b.name) (map (actor_row is.times) is.actors) (two-map (actor_row is.times) (λ (a b : ActorRow). a.name ≢ b.name) is.actors is.are_actors.apart);
      channels_differ = pairs-from_two (λ (c d : ChannelRow). c.name ≢ d.name) (map (channel_row (map (phases_in is.times) is.actors) is.sizes) is.channels) (two-map (channel_row (map (phases_in is.times) is.actors) is.sizes) (λ (c d : ChannelRow). c.name ≢ d.name) is.channels (apart-names is.channels is.are_channels.apart));
    }

table-names : (need_times : Bool) (e : Node) (t : GraphFile) → HasCharacters e → IsTable need_times e t → HasWritableNames t
table-names need_times e t good is =
    graph-names t.kind need_times is.graph t (only-characters (word_of field.ApplicationGraph) e is.graph good is.one_graph) is.is_graph

-- the table that a tree gives has names that can be written
pub tree_names : (need_times : Bool) (e : Node) (t : GraphFile) → HasCharacters e → table_of need_times e ≡ Ok t → HasWritableNames t
tree_names need_times e t good gives =
    table-names need_times e t good
    (IfOk-at_ok (λ u. (IsTrue need_times → IsTimed u) → IsTable need_times e u) gives (found need_times e) (is_timed need_times e (Ok t) gives))

pub given_names : (need_times : Bool) (e : Node) (result : Result GraphFile ReadError) → HasCharacters e → Gives (λ t. t) result (table_of need_times e) → IfOk result HasWritableNames
given_names need_times e (Ok t) good gives = tree_names need_times e t good gives
given_names need_times e (Err error) good gives = tt

-- and so has a table that is read
pub writable : ReadIsWritable
writable bytes need_times t (e, is, gives) = tree_names need_times e t (text-characters e bytes is) gives
