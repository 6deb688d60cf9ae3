-- What `expand` puts is read again as the expansion.
use Rattle.std.proofs.Common.{◌≡◌, ℕ, ◌+◌, ◌^◌, ◌≤◌, ◌<◌, Bool, true, false, List, ◌++◌, length, sum, All, Option, Some, None, IsSome, Ok, refl, sym, ap, subst, ◌∙◌, arith}
use Rattle.std.specs.Prelude.{IsTrue, slice_index_or, nat_lt, codes, if◌then◌else◌}
use Rattle.std.specs.List.{list_any}
use Rattle.std.specs.Fmt.{decimal}
use Rattle.std.proofs.lemmas.Bool.{ltb-false}
use Rattle.std.proofs.lemmas.Fmt.{length-decimal-le}
use Rattle.std.proofs.lemmas.List.{length-append, length-map}
use Rattle.std.proofs.lemmas.List.Elements.{All-append}
use Rattle.std.proofs.lemmas.List.Folds.{list_any_at}
use Rattle.std.proofs.lemmas.Str.{IsUtf8-append}
use Rattle.sd_base.specs.declared.limits.TheConstants.{ACTORS, CHANNELS, NAME_BYTES}
use Rattle.sd_base.specs.declared.limits.Quantity.TheVariants as quantities
use Rattle.sd_base.specs.declared.tables.Kind.TheVariants.{Sdf}
use Rattle.sd_base.specs.declared.tables.GraphFile.{GraphFile}
use Rattle.sd_base.specs.declared.tables.ActorRow.{ActorRow}
use Rattle.sd_base.specs.declared.tables.ChannelRow.{ChannelRow}
use Rattle.sd_base.specs.Tables.{KeepsRules}
use Rattle.sd_base.specs.Net.{Net}
use Rattle.sd_base.specs.FileNet.{net_of}
use Rattle.sd_base.specs.Lawful.{Lawful}
use Rattle.sd_base.proofs.LawfulIsRegular.{wired, balanced}
use Rattle.sd_base.proofs.ElementsKeepPlaces.{entry-le-sum}
use Rattle.file_text.specs.Grammar.{is_character}
use Rattle.graph_reader.specs.Laws.{Gives, ReadIsWritable}
use Rattle.graph_reader.specs.WritableNames.{HasWritableNames, IsWritableName}
use Rattle.graph_reader.proofs.ReadNames.{all-from_each}
use Rattle.gen_graph.specs.GraphTrees.{no_actor, written}
use Rattle.gen_graph.specs.Writable.{IsWritable}
use Rattle.gen_graph.proofs.ElementTexts.{good_word}
use Rattle.gen_graph.proofs.TreeTexts.{both_good, number_good}
use Rattle.gen_graph.proofs.TableBack.{reads_back}
use Rattle.storage.specs.BoundedNets.{bound}
use Rattle.storage.specs.NamedBuffers.{Buffer, capacities_of}
use Rattle.storage.proofs.SmallSpaces.{bounded-few_tokens}
use Rattle.balance.specs.Repetition.{IsRound}
use Rattle.single_rate.specs.Expansions.{copy_name, copy_row, copy_rows, expansion, link_row, link_rows, links_of}
use Rattle.single_rate.specs.Firings.{no_link}
use Rattle.single_rate.specs.Limits.{excess, has_long_name}
use Rattle.single_rate.proofs.CopyNames.{copies-differ, excess-tells, links-differ}
use Rattle.single_rate.proofs.ExpansionsUnroll.{length-rows, row-of, rows-at}
use Rattle.single_rate.proofs.ExpansionsKeepRules.{table-keeps, table-timed}
use Rattle.sd_words.proofs.AskedNumbersFit.{asked_within}
use Rattle.sd_words.specs.declared.request.Request.TheVariants.{Expand}
use Rattle.sd_words.specs.Asked.{request_of}
use Rattle.sd_io.specs.Outside.{Files, file_under}
use Rattle.sd_steps.specs.declared.answer.Answer.{Answer}
use Rattle.sd_steps.specs.Courses.{Answered}
use Rattle.sd_command.specs.commands.Expansions.{IsExpansion, expanding, expansion_on, graph_put}
use Rattle.sd_laws.specs.PutExpansions.{ExpansionsAreRead, PutsExpansion}
use Rattle.sd_command.specs.Requests.{course_of}
use Rattle.sd_laws.proofs.BoundedPaths.{lawful_on, on_the_net}
use Rattle.sd_laws.proofs.CommandsDecide.{goes_past}
use Rattle.sd_laws.proofs.RequestsGoOn.{of_request}
use Rattle.sd_command.proofs.command_lemmas.WordsBoundGraphs.{AreSmall}
use Rattle.sd_laws.proofs.SharedSteps.{FileLaws}

-- ---- names

-- a name with a dot and a number behind it
copy_writable : (name : List ℕ) (k : ℕ) → IsWritableName name → k < 2 ^ 64 → length (copy_name name k) ≤ NAME_BYTES → IsWritableName (copy_name name k)
unfolding copy_name
copy_writable name k good small short =
    let rest = both_good (codes ".") (decimal k) (good_word (codes ".") refl refl) (number_good k small) in
    record {
      some = omega (arith, good.some, length-append name (codes "." ++ decimal k));
      short = short;
      characters = All-append (λ b. IsTrue (is_character b)) name (codes "." ++ decimal k) good.characters (all-from_each (λ b. IsTrue (is_character b)) (codes "." ++ decimal k) rest.0);
      utf8 = IsUtf8-append name (codes "." ++ decimal k) good.utf8 rest.1;
    }

-- the name of a link
link_writable : (n : ℕ) → n < 1000 → IsWritableName (codes "e" ++ decimal n)
link_writable n few =
    let value = both_good (codes "e") (decimal n) (good_word (codes "e") refl refl) (number_good n (omega arith)) in
    let digits = length-decimal-le 3 n (omega arith) (omega arith) (omega arith) in
    record {
      some = omega (arith, length-append (codes "e") (decimal n));
      short = omega (arith, length-append (codes "e") (decimal n));
      characters = all-from_each (λ b. IsTrue (is_character b)) (codes "e" ++ decimal n) value.0;
      utf8 = value.1;
    }

-- ---- the table

-- no copy has a name that is too long
names_short : (net : Net) (g : GraphFile) → excess net g ≡ None → has_long_name net g ≡ false
unfolding excess
names_short net g e = at (nat_lt ACTORS (sum net.round)) (has_long_name net g) refl (nat_lt CHANNELS (length (links_of net))) e
  where
    at : (a b : Bool) → has_long_name net g ≡ b → (c : Bool) → (if a then Some quantities.Actors else if b then Some quantities.NameBytes else if c then Some quantities.Channels else None) ≡ None → has_long_name net g ≡ false
    at true b is c none = absurd (cc)
    at false true is c none = absurd (cc)
    at false false is c none = is

is_long : ActorRow → Bool
is_long a = nat_lt NAME_BYTES (length a.name)

module _ (net : Net) (laws : Lawful net) (g : GraphFile) (named : length g.actors ≡ length net.times) (fits : excess net g ≡ None) where
  actors-is : (expansion net g).actors ≡ copy_rows net g.actors
  unfolding expansion
  actors-is = refl

  channels-is : (expansion net g).channels ≡ link_rows 0 (links_of net)
  unfolding expansion
  channels-is = refl

  kind-is : (expansion net g).kind ≡ Sdf
  unfolding expansion
  kind-is = refl

  long-is : has_long_name net g ≡ list_any is_long (copy_rows net g.actors)
  unfolding has_long_name is_long
  long-is = refl

  copy-is : (name : List ℕ) (a k : ℕ) → (copy_row net name a k).name ≡ copy_name name k
  unfolding copy_row
  copy-is name a k = refl

  link-is : (m n : ℕ) → (link_row m (slice_index_or (links_of net) n no_link)).name ≡ codes "e" ++ decimal m
  unfolding link_row
  link-is m n = refl

  -- no row has a long name
  row-short : (y : ℕ) (d : ActorRow) → y < length (copy_rows net g.actors) → length (slice_index_or (copy_rows net g.actors) y d).name ≤ NAME_BYTES
  unfolding is_long
  row-short y d below = at (is_long (slice_index_or (copy_rows net g.actors) y d)) refl
    where
      at : (b : Bool) → is_long (slice_index_or (copy_rows net g.actors) y d) ≡ b → length (slice_index_or (copy_rows net g.actors) y d).name ≤ NAME_BYTES
      at true is = absurd (
          let some : list_any is_long (copy_rows net g.actors) ≡ true = list_any_at is_long (copy_rows net g.actors) y d below is in
          let none : list_any is_long (copy_rows net g.actors) ≡ false = sym long-is ∙ names_short net g fits in cc)
      at false is = ltb-false NAME_BYTES (length (slice_index_or (copy_rows net g.actors) y d).name) is

  rows-writable : All (λ (a : ActorRow). IsWritableName a.name) g.actors → All (λ (a : ActorRow). IsWritableName a.name) (copy_rows net g.actors)
  rows-writable good y d below =
      let row = row-of net (wired net laws) (balanced net laws) g named y below d in
      let name : List ℕ = (slice_index_or g.actors row.0 d).name in
      let is : (slice_index_or (copy_rows net g.actors) y d).name ≡ copy_name name row.1 = ap (λ (r : ActorRow). r.name) row.4 ∙ copy-is name row.0 row.1 in
      let short : length (copy_name name row.1) ≤ NAME_BYTES = omega (arith, row-short y d below, ap (λ (t : List ℕ). length t) is) in
      subst IsWritableName (sym is)
      (copy_writable name row.1 (good row.0 d (omega (arith, row.2, named))) (omega (arith, row.3, entry-le-sum net.round row.0, (excess-tells net g fits).0)) short)

  links-writable : All (λ (c : ChannelRow). IsWritableName c.name) (link_rows 0 (links_of net))
  links-writable n d below =
      let inside : n < length (links_of net) = omega (arith, length-rows 0 (links_of net)) in
      let row : slice_index_or (link_rows 0 (links_of net)) n d ≡ link_row (0 + n) (slice_index_or (links_of net) n no_link) = rows-at 0 (links_of net) n d inside in
      subst IsWritableName (sym (ap (λ (c : ChannelRow). c.name) row ∙ link-is (0 + n) n)) (link_writable (0 + n) (omega (arith, inside, (excess-tells net g fits).1)))

  -- the expansion can be written where the names of the graph can
  writable : HasWritableNames g → KeepsRules (expansion net g) → IsWritable (expansion net g)
  writable good keeps = record {
    names = record {
      actors = subst (λ (rows : List ActorRow). All (λ (a : ActorRow). IsWritableName a.name) rows) (sym actors-is) (rows-writable good.actors);
      channels = subst (λ (rows : List ChannelRow). All (λ (c : ChannelRow). IsWritableName c.name) rows) (sym channels-is) links-writable;
      actors_differ = copies-differ net laws g named fits good.actors_differ;
      channels_differ = links-differ net laws g named fits;
    };
    phases = λ a below untimed apart. (keeps.actors a no_actor below).one_phase kind-is;
  }

-- ---- the answer

module _ (laws : FileLaws) (names : ReadIsWritable) (words : List (List ℕ)) (shelf : Files) (tells : IsSome shelf) (name output : List ℕ) (buffers : List Buffer) (no_overlap : Bool)
    (asked : request_of words ≡ Ok (Expand name output buffers no_overlap)) where
  small : AreSmall buffers
  small = asked_within words (Expand name output buffers no_overlap) asked

  abbrev net_from : GraphFile → List ℕ → List (Option ℕ) → Net
  net_from graph gamma ds = bound (net_of graph gamma no_overlap) ds

  named-by : (graph : GraphFile) (gamma : List ℕ) (ds : List (Option ℕ)) → length graph.actors ≡ length (net_from graph gamma ds).times
  named-by graph gamma ds = sym (length-map graph.actors (λ (a : ActorRow). a.times))

  -- the expansion of a graph that was read, written and read again
  again : (bytes : List ℕ) (graph : GraphFile) (gamma : List ℕ) → Gives bytes true graph → Lawful (net_from graph gamma (capacities_of graph.channels buffers)) → excess (net_from graph gamma (capacities_of graph.channels buffers)) graph ≡ None
      → Gives (written (expansion (net_from graph gamma (capacities_of graph.channels buffers)) graph)) true (expansion (net_from graph gamma (capacities_of graph.channels buffers)) graph)
  again bytes graph gamma given lawful fits =
      let net : Net = net_from graph gamma (capacities_of graph.channels buffers) in
      let named : length graph.actors ≡ length net.times = named-by graph gamma (capacities_of graph.channels buffers) in
      let within = excess-tells net graph fits in
      let keeps : KeepsRules (expansion net graph) = table-keeps net lawful graph named within.0 within.1 (bounded-few_tokens graph gamma no_overlap buffers (laws.keeps bytes true graph given) small) in
      reads_back (expansion net graph) keeps (writable net lawful graph named fits (names bytes true graph given) keeps) true (λ yes. table-timed net lawful graph named)

  from_names : (answer : Answer) (bytes : List ℕ) (graph big : GraphFile) (gamma : List ℕ) (ds : List (Option ℕ)) → file_under shelf name ≡ Some bytes → Gives bytes true graph → IsRound graph gamma → ds ≡ capacities_of graph.channels buffers
      → Lawful (net_from graph gamma ds) → IsExpansion (net_from graph gamma ds) graph big → answer.put ≡ Some (graph_put output big) → PutsExpansion shelf name output buffers no_overlap answer
  from_names answer bytes graph big gamma ds there given round is lawful of put =
      let net : Net = net_from graph gamma (capacities_of graph.channels buffers) in
      let made : IsExpansion net graph big = subst (λ (xs : List (Option ℕ)). IsExpansion (net_from graph gamma xs) graph big) is of in
      let good : Lawful net = subst (λ (xs : List (Option ℕ)). Lawful (net_from graph gamma xs)) is lawful in
      let back : Gives (written big) true big = subst (λ (t : GraphFile). Gives (written t) true t) (sym made.is) (again bytes graph gamma given good made.whole) in
      record {
        bytes = bytes;
        graph = graph;
        gamma = gamma;
        big = big;
        there = there;
        given = given;
        round = round;
        expansion = made;
        file = put;
        read = back;
        no_other = λ table gives. laws.table (written big) true table big gives back;
      }

  pub read_again : (answer : Answer) (n : ℕ) → course_of words shelf (Answered answer) n → PutsExpansion shelf name output buffers no_overlap answer
  read_again answer n due =
      let came = of_request words shelf (Expand name output buffers no_overlap) asked (Answered answer) n tt due in
      let on = on_the_net shelf name buffers no_overlap (expansion_on output) (Answered answer) n tt came in
      let made = goes_past (expanding (net_from on.graph on.gamma on.distribution.capacities) on.graph) _ (Answered answer) n tt on.came in
      from_names answer on.file.bytes on.graph made.0 on.gamma on.distribution.capacities (on.file.taken.told tells) on.file.given on.file.round on.file.capacities.named
      (lawful_on laws shelf name buffers no_overlap on.graph on.gamma on.distribution small on.file) made.1 made.2.2

pub expansions_are_read : FileLaws → ReadIsWritable → ExpansionsAreRead
expansions_are_read laws names words shelf name output buffers no_overlap answer n tells asked due =
    read_again laws names words shelf tells name output buffers no_overlap asked answer n due
