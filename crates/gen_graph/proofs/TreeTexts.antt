-- The written text of a table spells its tree.
use Rattle.std.proofs.Common.{◌≡◌, ◌≢◌, ℕ, zero, suc, ◌+◌, ◌^◌, ◌%◌, ◌<◌, ◌≤◌, Bool, true, false, not, ◌&&◌, ◌==◌, cond, List, [], ◌∷◌, ◌++◌, length, map, get_or, inl, inr, refl, sym, ap, subst, arith}
use Rattle.std.specs.Prelude.{IsTrue, codes}
use Rattle.std.specs.Str.{bytes_eq}
use Rattle.std.specs.List.{All, list_all, flat_map}
use Rattle.std.specs.Fmt.{decimal}
use Rattle.std.proofs.lemmas.List.Elements.{All-head, All-tail}
use Rattle.std.proofs.lemmas.Bool.{and_parts, eqb-false, not-true, or_left, le-leb}
use Rattle.std.proofs.lemmas.Fmt.{decimal_by_steps, IsAscii-decimal}
use Rattle.std.proofs.lemmas.Str.{IsUtf8-append, IsUtf8-nil, IsUtf8-from_ascii}
use Rattle.sd_base.specs.declared.tables.Kind.{Kind}
use Rattle.sd_base.specs.declared.tables.Kind.TheVariants.{Sdf, Csdf}
use Rattle.sd_base.specs.declared.tables.GraphFile.{GraphFile}
use Rattle.sd_base.specs.declared.tables.ActorRow.{ActorRow}
use Rattle.sd_base.specs.declared.tables.ChannelRow.{ChannelRow}
use Rattle.sd_base.specs.Tables.{KeepsRules, ActorKeepsRules, ChannelKeepsRules, phases_of}
use Rattle.sd_base.proofs.ByteTestsDecide.{bytes_other}
use Rattle.file_text.specs.declared.tree.Attribute.{Attribute}
use Rattle.file_text.specs.Node.{Node}
use Rattle.file_text.specs.Grammar.{Each, byte, items_text, items_value, is_character, is_plain, IsQuoted, AreDistinct, IsAttribute, IsDeclaration, IsProlog, IsText}
use Rattle.file_text.proofs.DistinctNamesStay.{each-append}
use Rattle.gen_graph.specs.declared.direction.Direction.{Direction}
use Rattle.gen_graph.specs.declared.direction.Direction.TheVariants.{Out, In}
use Rattle.gen_graph.specs.NodeTexts.{element_text}
use Rattle.gen_graph.specs.GraphTrees.{attribute, element, leaf, numbers_text, port_name, direction_word, port_node, ports_on, ports_from, actor_node, actor_nodes, no_actor, channel_node, channel_nodes, processor_node, times_node, times_of, times_nodes, size_node, kind_word, properties_word, section_node, properties_node, application_node, graph_tree, written}
use Rattle.graph_reader.specs.WritableNames.{IsWritableName}
use Rattle.graph_reader.proofs.ElementPlaces.{Each-weaker}
use Rattle.gen_graph.specs.Writable.{IsWritable}
use Rattle.gen_graph.proofs.ValuesAreSpelled.{ascii_utf8}
use Rattle.gen_graph.proofs.ElementTexts.{word, IsGoodName, IsGoodValue, IsGoodAttribute, good_word, IsFine, good_nodes, depth_nodes, fine_both, line_of, element_utf8}

-- ---- lists

pub each_from_All : {X : Type 0} (P : X → Type 0) (xs : List X) → All P xs → Each P xs
each_from_All P [] all = tt
each_from_All P (x ∷ xs) all = (All-head P x xs all, each_from_All P xs (All-tail P x xs all))

-- ---- attributes whose names are this project's own

abbrev is_new : List ℕ → List Attribute → Bool
is_new name [] = true
is_new name (a ∷ rest) = not (bytes_eq a.name name) && is_new name rest

abbrev is_distinct : List Attribute → Bool
is_distinct [] = true
is_distinct (a ∷ rest) = is_new a.name rest && is_distinct rest

new_from : (name : List ℕ) (given : List Attribute) → is_new name given ≡ true → Each (λ (a : Attribute). a.name ≢ name) given
new_from name [] e = tt
new_from name (a ∷ rest) e =
    let both = and_parts (not (bytes_eq a.name name)) (is_new name rest) e in
    (bytes_other a.name name (not-true (bytes_eq a.name name) both.0), new_from name rest both.1)

distinct : (given : List Attribute) → is_distinct given ≡ true → AreDistinct given
distinct [] e = tt
distinct (a ∷ rest) e = let both = and_parts (is_new a.name rest) (is_distinct rest) e in (new_from a.name rest both.0, distinct rest both.1)

fine : (most : ℕ) (name : List ℕ) (given : List Attribute) (children : List Node) → IsGoodName name → Each IsGoodAttribute given → is_distinct given ≡ true → Each (IsFine most) children
    → IsFine (most + 1) (element name given children)
fine most name given children good each new inside =
    let deep = depth_nodes most children inside in
    ((good, each, distinct given new, good_nodes most children inside), omega arith)

-- ---- numbers

abbrev pub IsDigit : ℕ → Type 0
IsDigit b = (48 ≤ b) × (b ≤ 57)

pub digits_of : (n : ℕ) → n < 2 ^ 64 → Each IsDigit (decimal n)
digits_of n small =
    decimal_by_steps (λ k ds. Each IsDigit ds) (λ k lt. ((omega arith, omega arith), tt))
    (λ k ds le each. each-append IsDigit ds ((48 + k % 10) ∷ []) each ((omega arith, omega arith), tt)) n small

digit_stands : (b : ℕ) → IsDigit b → IsTrue (is_character b)
digit_stands b is = or_left _ _ (le-leb 32 b (omega (arith, is.0)))

pub number_good : (n : ℕ) → n < 2 ^ 64 → IsGoodValue (decimal n)
number_good n small = (Each-weaker IsDigit (λ b. IsTrue (is_character b)) (decimal n) (digits_of n small) digit_stands, IsUtf8-from_ascii (decimal n) (IsAscii-decimal n small))

pub both_good : (u v : List ℕ) → IsGoodValue u → IsGoodValue v → IsGoodValue (u ++ v)
both_good u v first rest = (each-append (λ b. IsTrue (is_character b)) u v first.0 rest.0, IsUtf8-append u v first.1 rest.1)

abbrev pub AreSmall : List ℕ → Type 0
AreSmall ns = Each (λ n. n < 2 ^ 64) ns

more_good : (ns : List ℕ) → AreSmall ns → IsGoodValue (flat_map (λ n. codes "," ++ decimal n) ns)
more_good [] small = (tt, IsUtf8-nil)
more_good (n ∷ ns) small = both_good (codes "," ++ decimal n) _ (both_good (codes ",") (decimal n) (good_word (codes ",") refl refl) (number_good n small.0)) (more_good ns small.1)

numbers_good : (ns : List ℕ) → AreSmall ns → IsGoodValue (numbers_text ns)
unfolding numbers_text
numbers_good [] small = (tt, IsUtf8-nil)
numbers_good (n ∷ ns) small = both_good (decimal n) _ (number_good n small.0) (more_good ns small.1)

port_name_good : (d : Direction) (i : ℕ) → i < 2 ^ 64 → IsGoodValue (port_name d i)
unfolding port_name
port_name_good Out i small = both_good (codes "o") (decimal i) (good_word (codes "o") refl refl) (number_good i small)
port_name_good In i small = both_good (codes "i") (decimal i) (good_word (codes "i") refl refl) (number_good i small)

direction_good : (d : Direction) → IsGoodValue (direction_word d)
direction_good Out = good_word (codes "out") refl refl
direction_good In = good_word (codes "in") refl refl

-- ---- rows

-- an actor and a channel whose names can be written, and whose numbers are no larger than code has them
pub record IsActorShown (a : ActorRow) : Type 0 where
  pub name : IsGoodValue a.name
  pub times : AreSmall a.times

pub record IsChannelShown (actors : ℕ) (c : ChannelRow) : Type 0 where
  pub name : IsGoodValue c.name
  pub source : c.source < actors
  pub target : c.target < actors
  pub made : AreSmall c.made
  pub taken : AreSmall c.taken
  pub tokens : c.tokens < 2 ^ 64
  pub size : c.size < 2 ^ 64

port_fine : (d : Direction) (i : ℕ) (rates : List ℕ) → i < 2 ^ 64 → AreSmall rates → IsFine 1 (port_node d i rates)
unfolding port_node
port_fine d i rates place small =
    fine 0 (codes "port") (attribute (codes "name") (port_name d i) ∷ attribute (codes "type") (direction_word d) ∷ attribute (codes "rate") (numbers_text rates) ∷ []) [] (word (codes "port") refl)
    ((word (codes "name") refl, port_name_good d i place), ((word (codes "type") refl, direction_good d), ((word (codes "rate") refl, numbers_good rates small), tt))) refl tt

perhaps : (most : ℕ) (b : Bool) (e : Node) → IsFine most e → Each (IsFine most) (cond b (e ∷ []) [])
perhaps most true e is = (is, tt)
perhaps most false e is = tt

ports_on_fine : (actors a i : ℕ) (c : ChannelRow) → i < 2 ^ 64 → IsChannelShown actors c → Each (IsFine 1) (ports_on a i c)
unfolding ports_on
ports_on_fine actors a i c place shown =
    fine_both 1 _ _ (perhaps 1 (c.source == a) (port_node Out i c.made) (port_fine Out i c.made place shown.made))
    (perhaps 1 (c.target == a) (port_node In i c.taken) (port_fine In i c.taken place shown.taken))

ports_fine : (actors a i : ℕ) (cs : List ChannelRow) → i + length cs ≤ 256 → Each (IsChannelShown actors) cs → Each (IsFine 1) (ports_from a i cs)
ports_fine actors a i [] few shown = tt
ports_fine actors a i (c ∷ cs) few shown = fine_both 1 (ports_on a i c) _ (ports_on_fine actors a i c (omega arith) shown.0) (ports_fine actors a (i + 1) cs (omega arith) shown.1)

actors_fine : (actors : ℕ) (channels : List ChannelRow) → length channels ≤ 256 → Each (IsChannelShown actors) channels → (a : ℕ) (rows : List ActorRow) → Each IsActorShown rows → Each (IsFine 2) (actor_nodes channels a rows)
unfolding actor_node
actors_fine actors channels few shown a [] each = tt
actors_fine actors channels few shown a (row ∷ rows) each = (
  fine 1 (codes "actor") (attribute (codes "name") row.name ∷ attribute (codes "type") row.name ∷ []) _ (word (codes "actor") refl) ((word (codes "name") refl, each.0.name), ((word (codes "type") refl, each.0.name), tt)) refl (ports_fine actors a 0 channels (omega arith) shown),
  actors_fine actors channels few shown (a + 1) rows each.1,
)

name_at : (rows : List ActorRow) (i : ℕ) → Each IsActorShown rows → i < length rows → IsGoodValue (get_or rows i no_actor).name
name_at [] i each lt = absurd (omega arith)
name_at (row ∷ rows) zero each lt = each.0.name
name_at (row ∷ rows) (suc i) each lt = name_at rows i each.1 (omega arith)

channels_fine : (rows : List ActorRow) → Each IsActorShown rows → (i : ℕ) (cs : List ChannelRow) → i + length cs ≤ 256 → Each (IsChannelShown (length rows)) cs → Each (IsFine 1) (channel_nodes rows i cs)
unfolding channel_node
channels_fine rows each i [] few shown = tt
channels_fine rows each i (c ∷ cs) few shown =
    let place : i < 2 ^ 64 = omega arith in (
      fine 0 (codes "channel") (
          attribute (codes "name") c.name ∷ attribute (codes "srcActor") (get_or rows c.source no_actor).name ∷ attribute (codes "srcPort") (port_name Out i)
          ∷ attribute (codes "dstActor") (get_or rows c.target no_actor).name ∷ attribute (codes "dstPort") (port_name In i) ∷ attribute (codes "initialTokens") (decimal c.tokens) ∷ []) [] (word (codes "channel") refl) (
            (word (codes "name") refl, shown.0.name),
            (
              (word (codes "srcActor") refl, name_at rows c.source each shown.0.source),
              (
                (word (codes "srcPort") refl, port_name_good Out i place),
                (
                  (word (codes "dstActor") refl, name_at rows c.target each shown.0.target),
                  (
                    (word (codes "dstPort") refl, port_name_good In i place),
                    ((word (codes "initialTokens") refl, number_good c.tokens shown.0.tokens), tt),
                  ),
                ),
              ),
            ),
          ) refl tt,
      channels_fine rows each (i + 1) cs (omega arith) shown.1,
    )

leaf_fine : (name key value : List ℕ) → IsGoodName name → IsGoodName key → IsGoodValue value → IsFine 1 (leaf name key value)
leaf_fine name key value good named valued = fine 0 name (attribute key value ∷ []) [] good ((named, valued), tt) refl tt

times_fine : (name : List ℕ) (times : List ℕ) → IsGoodValue name → AreSmall times → IsFine 3 (times_node name times)
unfolding times_node processor_node
times_fine name times good small =
    fine 2 (codes "actorProperties") (attribute (codes "actor") name ∷ []) (processor_node times ∷ []) (word (codes "actorProperties") refl) ((word (codes "actor") refl, good), tt) refl (
      fine 1 (codes "processor") (attribute (codes "type") (codes "p") ∷ attribute (codes "default") (codes "true") ∷ []) (leaf (codes "executionTime") (codes "time") (numbers_text times) ∷ []) (word (codes "processor") refl) ((word (codes "type") refl, good_word (codes "p") refl refl), ((word (codes "default") refl, good_word (codes "true") refl refl), tt)) refl
          (leaf_fine (codes "executionTime") (codes "time") (numbers_text times) (word (codes "executionTime") refl) (word (codes "time") refl) (numbers_good times small), tt),
      tt,
    )

times_of_fine : (name times : List ℕ) → IsGoodValue name → AreSmall times → Each (IsFine 3) (times_of name times)
times_of_fine name [] good small = tt
times_of_fine name (t ∷ ts) good small = (times_fine name (t ∷ ts) good small, tt)

all_times_fine : (rows : List ActorRow) → Each IsActorShown rows → Each (IsFine 3) (times_nodes rows)
all_times_fine [] each = tt
all_times_fine (row ∷ rows) each = fine_both 3 (times_of row.name row.times) _ (times_of_fine row.name row.times each.0.name each.0.times) (all_times_fine rows each.1)

deeper : (most more : ℕ) → most ≤ more → (es : List Node) → Each (IsFine most) es → Each (IsFine more) es
deeper most more le [] each = tt
deeper most more le (e ∷ es) each = ((each.0.0, omega (arith, each.0.1)), deeper most more le es each.1)

sizes_fine : (actors : ℕ) (cs : List ChannelRow) → Each (IsChannelShown actors) cs → Each (IsFine 2) (map size_node cs)
unfolding size_node
sizes_fine actors [] shown = tt
sizes_fine actors (c ∷ cs) shown = (
  fine 1 (codes "channelProperties") (attribute (codes "channel") c.name ∷ []) (leaf (codes "tokenSize") (codes "sz") (decimal c.size) ∷ []) (word (codes "channelProperties") refl) ((word (codes "channel") refl, shown.0.name), tt) refl
      (leaf_fine (codes "tokenSize") (codes "sz") (decimal c.size) (word (codes "tokenSize") refl) (word (codes "sz") refl) (number_good c.size shown.0.size), tt),
  sizes_fine actors cs shown.1,
)

-- ---- the tree

kind_named : (k : Kind) → IsGoodName (kind_word k)
kind_named Sdf = word (codes "sdf") refl
kind_named Csdf = word (codes "csdf") refl

properties_named : (k : Kind) → IsGoodName (properties_word k)
properties_named Sdf = word (codes "sdfProperties") refl
properties_named Csdf = word (codes "csdfProperties") refl

kind_good : (k : Kind) → IsGoodValue (kind_word k)
kind_good Sdf = good_word (codes "sdf") refl refl
kind_good Csdf = good_word (codes "csdf") refl refl

tree_fine : (g : GraphFile) → length g.channels ≤ 256 → Each IsActorShown g.actors → Each (IsChannelShown (length g.actors)) g.channels → IsFine 6 (graph_tree g)
unfolding graph_tree application_node section_node properties_node
tree_fine g few rows channels =
    let section = fine 2 (kind_word g.kind) (attribute (codes "name") (codes "g") ∷ attribute (codes "type") (codes "G") ∷ []) _ (kind_named g.kind)
    ((word (codes "name") refl, good_word (codes "g") refl refl), ((word (codes "type") refl, good_word (codes "G") refl refl), tt)) refl
    (fine_both 2 _ _ (actors_fine (length g.actors) g.channels few channels 0 g.actors rows) (deeper 1 2 (omega arith) _ (channels_fine g.actors rows 0 g.channels (omega arith) channels))) in
    let properties = fine 3 (properties_word g.kind) [] _ (properties_named g.kind) tt refl (fine_both 3 _ _ (all_times_fine g.actors rows) (deeper 2 3 (omega arith) _ (sizes_fine (length g.actors) g.channels channels))) in
    fine 5 (codes "sdf3") (attribute (codes "type") (kind_word g.kind) ∷ attribute (codes "version") (codes "1.0") ∷ []) (application_node g ∷ []) (word (codes "sdf3") refl)
    ((word (codes "type") refl, kind_good g.kind), ((word (codes "version") refl, good_word (codes "1.0") refl refl), tt)) refl (
      fine 4 (codes "applicationGraph") (attribute (codes "name") (codes "g") ∷ []) (section_node g ∷ properties_node g ∷ []) (word (codes "applicationGraph") refl) ((word (codes "name") refl, good_word (codes "g") refl refl), tt) refl
          ((section.0, omega (arith, section.1)), (properties, tt)),
      tt,
    )

-- ---- what a table that keeps the rules shows

small_from : (most : ℕ) → most < 2 ^ 64 → (ns : List ℕ) → All (λ n. n ≤ most) ns → AreSmall ns
small_from most bound ns all = Each-weaker (λ n. n ≤ most) (λ n. n < 2 ^ 64) ns (each_from_All (λ n. n ≤ most) ns all) (λ n le. omega arith)

pub times_small : (ns : List ℕ) → All (λ t. (1 ≤ t) × (t ≤ 1000000000)) ns → AreSmall ns
times_small ns all = Each-weaker (λ t. (1 ≤ t) × (t ≤ 1000000000)) (λ n. n < 2 ^ 64) ns (each_from_All (λ t. (1 ≤ t) × (t ≤ 1000000000)) ns all) (λ n le. omega (arith, le.1))

name_good : (name : List ℕ) → IsWritableName name → IsGoodValue name
name_good name is = (each_from_All (λ b. IsTrue (is_character b)) name is.characters, is.utf8)

pub actors_shown : (k : Kind) (rows : List ActorRow) → All (ActorKeepsRules k) rows → All (λ (a : ActorRow). IsWritableName a.name) rows → Each IsActorShown rows
actors_shown k [] keeps names = tt
actors_shown k (row ∷ rows) keeps names =
    let first = All-head (ActorKeepsRules k) row rows keeps in (
      record { name = name_good row.name (All-head (λ (a : ActorRow). IsWritableName a.name) row rows names); times = times_small row.times first.times },
      actors_shown k rows (All-tail (ActorKeepsRules k) row rows keeps) (All-tail (λ (a : ActorRow). IsWritableName a.name) row rows names),
    )

channels_shown : (n : ℕ) (phases : List ℕ) → length phases ≡ n → (rows : List ChannelRow) → All (ChannelKeepsRules phases) rows → All (λ (c : ChannelRow). IsWritableName c.name) rows → Each (IsChannelShown n) rows
channels_shown n phases same [] keeps names = tt
channels_shown n phases same (row ∷ rows) keeps names =
    let first = All-head (ChannelKeepsRules phases) row rows keeps in (
      record {
        name = name_good row.name (All-head (λ (c : ChannelRow). IsWritableName c.name) row rows names);
        source = subst (λ m. row.source < m) same first.source;
        target = subst (λ m. row.target < m) same first.target;
        made = small_from 1000000 (omega arith) row.made first.made.limited;
        taken = small_from 1000000 (omega arith) row.taken first.taken.limited;
        tokens = omega (arith, first.tokens);
        size = omega (arith, first.size);
      },
      channels_shown n phases same rows (All-tail (ChannelKeepsRules phases) row rows keeps) (All-tail (λ (c : ChannelRow). IsWritableName c.name) row rows names),
    )

pub phases_count : (rows : List ActorRow) → length (map (λ (a : ActorRow). a.phases) rows) ≡ length rows
phases_count [] = refl
phases_count (row ∷ rows) = ap suc (phases_count rows)

pub shown_tree : (g : GraphFile) → KeepsRules g → IsWritable g → IsFine 6 (graph_tree g)
shown_tree g keeps is =
    tree_fine g keeps.few_channels (actors_shown g.kind g.actors keeps.actors is.names.actors)
    (channels_shown (length g.actors) (phases_of g) (phases_count g.actors) g.channels keeps.channels is.names.channels)

-- ---- the whole text

is_literal : List ℕ → Bool
is_literal v = list_all (λ b. is_plain b && not (b == 34)) v

literal_items : (v : List ℕ) → is_literal v ≡ true → Each (IsQuoted 34) (map byte v)
unfolding is_literal
literal_items [] e = tt
literal_items (b ∷ bs) e =
    let both = and_parts (is_plain b && not (b == 34)) (is_literal bs) e in
    let first = and_parts (is_plain b) (not (b == 34)) both.0 in
    ((first.0, eqb-false b 34 (not-true (b == 34) first.1)), literal_items bs both.1)

literal_text : (v : List ℕ) → items_text (map byte v) ≡ v
literal_text [] = refl
literal_text (b ∷ bs) = ap (λ (t : List ℕ). b ∷ t) (literal_text bs)

literal_value : (v : List ℕ) → v ≡ items_value (map byte v)
literal_value [] = refl
literal_value (b ∷ bs) = ap (λ (t : List ℕ). b ∷ t) (literal_value bs)

-- an attribute in double quotes
quoted : (name value : List ℕ) → IsGoodName name → is_literal value ≡ true → IsAttribute (attribute name value) ((32 ∷ (name ++ ([] ++ (61 ∷ ([] ++ (34 ∷ [])))))) ++ (value ++ (34 ∷ [])))
quoted name value good plain = record {
  quote = 34;
  head = 32 ∷ (name ++ ([] ++ (61 ∷ ([] ++ (34 ∷ [])))));
  items = map byte value;
  is_head = record { gap = 32 ∷ []; before = []; after = []; is_gap = ((refl, tt), λ e. cc); is_name = good.0; white_before = tt; white_after = tt; is_quote = inl refl; spelled = refl };
  are_quoted = literal_items value plain;
  value = literal_value value;
  spelled = ap (λ (t : List ℕ). (32 ∷ (name ++ (61 ∷ 34 ∷ []))) ++ (t ++ 34 ∷ [])) (sym (literal_text value));
}

abbrev declared : List Attribute
declared = attribute (codes "version") (codes "1.0") ∷ attribute (codes "encoding") (codes "UTF-8") ∷ []

declaration : IsDeclaration declared (codes "<?xml version=\"1.0\" encoding=\"UTF-8\"?>")
unfolding is_literal
declaration = record {
  middle = codes " version=\"1.0\" encoding=\"UTF-8\"";
  gap = [];
  some = λ e. cc;
  are_attributes = (
    codes " version=\"1.0\"",
    codes " encoding=\"UTF-8\"",
    quoted (codes "version") (codes "1.0") (word (codes "version") refl) refl,
    (codes " encoding=\"UTF-8\"", [], quoted (codes "encoding") (codes "UTF-8") (word (codes "encoding") refl) refl, refl, refl),
    refl,
  );
  are_distinct = distinct declared refl;
  white = tt;
  spelled = refl;
}

abbrev pub header : List ℕ
header = codes "<?xml version=\"1.0\" encoding=\"UTF-8\"?>\n"

opens : IsProlog declared header
opens = record {
  start = [];
  declaration = codes "<?xml version=\"1.0\" encoding=\"UTF-8\"?>";
  misc = 10 ∷ [];
  is_start = inl refl;
  is_declaration = inr declaration;
  is_misc = (byte 10 ∷ [], (refl, tt), refl);
  spelled = refl;
}

pub spelled_text : (g : GraphFile) → KeepsRules g → IsWritable g → IsText (graph_tree g) (written g)
unfolding written
spelled_text g keeps is =
    let tree = shown_tree g keeps is in
    let line = line_of (graph_tree g) tree.0 in (
      declared,
      record {
        prolog = header;
        root = line.text;
        misc = 10 ∷ [];
        is_prolog = opens;
        is_root = line.spelled;
        is_misc = (byte 10 ∷ [], (refl, tt), refl);
        spelled = ap (λ (t : List ℕ). header ++ t) line.whole;
        shallow = omega (arith, tree.1);
        utf8 = IsUtf8-append header (element_text (graph_tree g)) (ascii_utf8 header refl) (element_utf8 (graph_tree g) tree.0);
      },
      (λ e. absurd (bytes_other (codes "version") (codes "encoding") refl e), (λ e. refl, tt)),
    )
