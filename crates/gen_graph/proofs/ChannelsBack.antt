-- The channels that are read of a written table.
use Rattle.std.proofs.Common.{◌≡◌, ◌≢◌, ℕ, zero, suc, ◌+◌, ◌<◌, ◌≤◌, Bool, true, false, cond, ◌&&◌, ◌==◌, List, [], ◌∷◌, ◌++◌, length, get_or, Some, refl, sym, ap, ◌∙◌, subst, arith}
use Rattle.std.specs.Str.{bytes_eq}
use Rattle.std.specs.List.{find}
use Rattle.std.proofs.lemmas.Bool.{eq-eqb}
use Rattle.sd_base.specs.declared.tables.ActorRow.{ActorRow}
use Rattle.sd_base.specs.declared.tables.ChannelRow.{ChannelRow}
use Rattle.sd_base.proofs.ByteTestsDecide.{same_bytes, bytes_differ}
use Rattle.file_text.specs.Grammar.{Each}
use Rattle.file_text.proofs.DistinctNamesStay.{each-append}
use Rattle.graph_reader.specs.declared.field.Field.TheVariants as field
use Rattle.graph_reader.specs.declared.actors.Direction.TheVariants as read
use Rattle.graph_reader.specs.declared.actors.Port.{Port}
use Rattle.graph_reader.specs.Field.{word_of}
use Rattle.graph_reader.specs.TreeSteps
use Rattle.graph_reader.specs.Sections.{is_port, numbered}
use Rattle.graph_reader.specs.Spelled.{Pairwise, EachTwo, IsEnd, IsChannel, AreApart}
use Rattle.gen_graph.specs.declared.direction.Direction.{Direction}
use Rattle.gen_graph.specs.declared.direction.Direction.TheVariants.{Out, In}
use Rattle.gen_graph.specs.GraphTrees.{port_name, no_actor, channel_node, channel_nodes}
use Rattle.graph_reader.specs.WritableNames.{IsWritableName}
use Rattle.gen_graph.proofs.NumbersBack.{number_back}
use Rattle.gen_graph.proofs.ElementsAreFound.{each_perhaps, find_skip, find_here}
use Rattle.gen_graph.proofs.ActorsBack.{actor_read, actors_read, as_read, channel_read, channels_read, end_read, numbered_back, port_read, ports_at, ports_read, same_place}

-- ---- channels

abbrev pub at_end : Direction → ChannelRow → ℕ
at_end Out c = c.source
at_end In c = c.target

abbrev pub rates_at : Direction → ChannelRow → List ℕ
rates_at Out c = c.made
rates_at In c = c.taken

own_port : (d : Direction) (i : ℕ) (rates : List ℕ) → is_port (as_read d) (port_name d i) (port_read d i rates) ≡ true
own_port Out i rates = rw (same_bytes (port_name Out i)) refl
own_port In i rates = rw (same_bytes (port_name In i)) refl

opposite_port : (i : ℕ) (rates : List ℕ) → i < 256 → is_port (as_read In) (port_name In i) (port_read Out i rates) ≡ false
opposite_port i rates lt = rw (bytes_differ (port_name Out i) (port_name In i) (λ e. let no = same_place Out In i i lt lt e in cc (no.0))) refl

here_found : (d : Direction) (a i : ℕ) (c : ChannelRow) (rest : List Port) → i < 256 → at_end d c == a ≡ true → find (is_port (as_read d) (port_name d i)) (ports_at a i c ++ rest) ≡ Some (port_read d i (rates_at d c))
here_found Out a i c rest lt is = rw is (find_here (is_port read.Out (port_name Out i)) (port_read Out i c.made) _ (own_port Out i c.made))
here_found In a i c rest lt is = rw is (past (c.source == a))
  where
    past : (b : Bool) → find (is_port read.In (port_name In i)) ((cond b (port_read Out i c.made ∷ []) [] ++ (port_read In i c.taken ∷ [])) ++ rest) ≡ Some (port_read In i c.taken)
    past true = rw (opposite_port i c.made lt) (find_here (is_port read.In (port_name In i)) (port_read In i c.taken) rest (own_port In i c.taken))
    past false = find_here (is_port read.In (port_name In i)) (port_read In i c.taken) rest (own_port In i c.taken)

-- the ports on a channel have no name with a later number
earlier : (d e : Direction) (i j : ℕ) (rates : List ℕ) → i < j → j < 256 → is_port (as_read d) (port_name d j) (port_read e i rates) ≡ false
earlier d e i j rates lt few = rw (bytes_differ (port_name e i) (port_name d j) (λ same. let no = same_place e d i j (omega arith) few same in omega (arith, no.1))) refl

skipped : (d : Direction) (a i j : ℕ) (c : ChannelRow) → i < j → j < 256 → Each (λ p. is_port (as_read d) (port_name d j) p ≡ false) (ports_at a i c)
skipped d a i j c lt few =
    each-append (λ p. is_port (as_read d) (port_name d j) p ≡ false) _ _
    (each_perhaps (λ p. is_port (as_read d) (port_name d j) p ≡ false) (c.source == a) (port_read Out i c.made) (λ e. earlier d Out i j c.made lt few))
    (each_perhaps (λ p. is_port (as_read d) (port_name d j) p ≡ false) (c.target == a) (port_read In i c.taken) (λ e. earlier d In i j c.taken lt few))

pub port_found : (d : Direction) (a i : ℕ) (cs : List ChannelRow) (k : ℕ) (c : ChannelRow) → i + length cs ≤ 256 → k < length cs → at_end d (get_or cs k c) == a ≡ true
    → find (is_port (as_read d) (port_name d (i + k))) (ports_read a i cs) ≡ Some (port_read d (i + k) (rates_at d (get_or cs k c)))
port_found d a i [] k e few lt is = absurd (omega arith)
port_found d a i (c ∷ cs) zero e few lt is =
    let place : i ≡ i + 0 = omega arith in
    subst (λ n. find (is_port (as_read d) (port_name d n)) (ports_read a i (c ∷ cs)) ≡ Some (port_read d n (rates_at d c))) place (here_found d a i c (ports_read a (i + 1) cs) (omega arith) is)
port_found d a i (c ∷ cs) (suc k) e few lt is =
    let place : i + 1 + k ≡ i + suc k = omega arith in
    find_skip (is_port (as_read d) (port_name d (i + suc k))) (ports_at a i c) (ports_read a (i + 1) cs) (skipped d a i (i + suc k) c (omega arith) (omega arith))
    ∙ subst (λ n. find (is_port (as_read d) (port_name d n)) (ports_read a (i + 1) cs) ≡ Some (port_read d n (rates_at d (get_or cs k e)))) place
    (port_found d a (i + 1) cs k e (omega arith) (omega arith) is)

pub record IsJoined (actors : ℕ) (c : ChannelRow) : Type 0 where
  pub source : c.source < actors
  pub target : c.target < actors
  pub tokens : c.tokens ≤ 1000000
  pub name : IsWritableName c.name

module _ (all : List ChannelRow) (rows : List ActorRow) (few : length all ≤ 256) (two : EachTwo (λ (r t : ActorRow). r.name ≢ t.name) rows) where
  same_row : (a : ℕ) → a == a ≡ true
  same_row a = eq-eqb a a refl

  actor_0 : (s : ℕ) → s < length rows → numbered 0 (get_or rows s no_actor).name (actors_read all 0 rows) ≡ Some (s, actor_read all s (get_or rows s no_actor))
  actor_0 s lt = let place : 0 + s ≡ s = omega arith in numbered_back all 0 rows s lt two ∙ ap (λ n. Some (n, actor_read all n (get_or rows s no_actor))) place

  port_0 : (d : Direction) (a i : ℕ) (c : ChannelRow) → i < length all → get_or all i c ≡ c → at_end d c ≡ a → find (is_port (as_read d) (port_name d i)) (ports_read a 0 all) ≡ Some (port_read d i (rates_at d c))
  port_0 d a i c lt at end =
      let place : 0 + i ≡ i = omega arith in
      let found = port_found d a 0 all i c (omega (arith, few)) lt (ap (λ (x : ChannelRow). at_end d x == a) at ∙ (ap (λ n. n == a) end ∙ same_row a)) in
      ap (λ n. find (is_port (as_read d) (port_name d n)) (ports_read a 0 all)) (sym place) ∙ (found ∙ (ap (λ n. Some (port_read d n (rates_at d (get_or all i c)))) place ∙ ap (λ (x : ChannelRow). Some (port_read d i (rates_at d x))) at))

  end_back : (i : ℕ) (c : ChannelRow) → i < length all → get_or all i c ≡ c → IsJoined (length rows) c
      → IsEnd (actors_read all 0 rows) read.Out field.SrcActor field.SrcPort (channel_node rows i c) (end_read Out i c.source c.made) × IsEnd (actors_read all 0 rows) read.In field.DstActor field.DstPort (channel_node rows i c) (end_read In i c.target c.taken)
  unfolding channel_node TreeSteps.attribute word_of
  end_back i c lt at joined = (
    record {
      actor_name = (get_or rows c.source no_actor).name;
      actor = actor_read all c.source (get_or rows c.source no_actor);
      port = port_read Out i c.made;
      has_actor = refl;
      is_actor = actor_0 c.source joined.source;
      has_port = refl;
      is_port = port_0 Out c.source i c lt at refl;
      rates = refl;
    },
    record {
      actor_name = (get_or rows c.target no_actor).name;
      actor = actor_read all c.target (get_or rows c.target no_actor);
      port = port_read In i c.taken;
      has_actor = refl;
      is_actor = actor_0 c.target joined.target;
      has_port = refl;
      is_port = port_0 In c.target i c lt at refl;
      rates = refl;
    },
  )

  channel_back : (i : ℕ) (c : ChannelRow) → i < length all → get_or all i c ≡ c → IsJoined (length rows) c → IsChannel (actors_read all 0 rows) (channel_node rows i c) (channel_read i c)
  unfolding channel_node TreeSteps.attribute word_of
  channel_back i c lt at joined =
      let ends = end_back i c lt at joined in
      record {
        name = record { has = refl; some = joined.name.some; short = joined.name.short };
        source = ends.0;
        target = ends.1;
        tokens = (number_back c.tokens (omega (arith, joined.tokens)), joined.tokens);
      }

  pub channels_back : (i : ℕ) (cs : List ChannelRow) → i + length cs ≡ length all → ((k : ℕ) (d : ChannelRow) → k < length cs → get_or all (i + k) d ≡ get_or cs k d) → Each (IsJoined (length rows)) cs
      → Pairwise (IsChannel (actors_read all 0 rows)) (channel_nodes rows i cs) (channels_read i cs)
  channels_back i [] whole at joined = tt
  channels_back i (c ∷ cs) whole at joined =
      let place : i + 0 ≡ i = omega arith in (
        channel_back i c (omega arith) (ap (λ n. get_or all n c) (sym place) ∙ at 0 c (omega arith)) joined.0,
        channels_back (i + 1) cs (omega arith) (λ k d lt. ap (λ n. get_or all n d) (let same : i + 1 + k ≡ i + suc k = omega arith in same) ∙ at (suc k) d (omega arith)) joined.1,
      )

-- ---- channels differ

no_same : (x : Bool) (p q : List ℕ) → p ≢ q → (x && bytes_eq p q) ≡ false
no_same true p q differ = bytes_differ p q differ
no_same false p q differ = refl

later_apart : (i : ℕ) (c : ChannelRow) (j : ℕ) (cs : List ChannelRow) → i < j → j + length cs ≤ 256 → Each (λ (d : ChannelRow). c.name ≢ d.name) cs → Each (AreApart (channel_read i c)) (channels_read j cs)
later_apart i c j [] lt few differ = tt
later_apart i c j (d ∷ cs) lt few differ = (
  record {
    names = differ.0;
    sources = no_same (c.source == d.source) (port_name Out i) (port_name Out j) (λ e. let same = same_place Out Out i j (omega arith) (omega arith) e in omega (arith, same.1));
    targets = no_same (c.target == d.target) (port_name In i) (port_name In j) (λ e. let same = same_place In In i j (omega arith) (omega arith) e in omega (arith, same.1));
  },
  later_apart i c (j + 1) cs (omega arith) (omega arith) differ.1,
)

pub channels_apart : (i : ℕ) (cs : List ChannelRow) → i + length cs ≤ 256 → EachTwo (λ (c d : ChannelRow). c.name ≢ d.name) cs → EachTwo AreApart (channels_read i cs)
channels_apart i [] few two = tt
channels_apart i (c ∷ cs) few two = (later_apart i c (i + 1) cs (omega arith) (omega arith) two.0, channels_apart (i + 1) cs (omega arith) two.1)

pub channels_long : (i : ℕ) (cs : List ChannelRow) → length (channels_read i cs) ≡ length cs
channels_long i [] = refl
channels_long i (c ∷ cs) = ap suc (channels_long (i + 1) cs)
