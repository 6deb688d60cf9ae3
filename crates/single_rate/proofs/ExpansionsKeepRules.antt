-- The table of an expansion keeps the rules of graphs, and what is too large in it.
use Rattle.std.proofs.Common.{◌≡◌, ℕ, zero, suc, ◌+◌, ◌%◌, ◌≤◌, ◌<◌, inr, true, false, List, [], ◌∷◌, length, sum, subst, sym, refl, ap, ◌∙◌, arith, map, All, Some, None, mod-lt}
use Rattle.std.specs.Prelude.{slice_index, slice_index_or}
use Rattle.std.specs.List.{list_any}
use Rattle.std.proofs.lemmas.Bool.{lt-ltb, le-ltb}
use Rattle.std.proofs.lemmas.List.{get_or-map, length-map, length-replicate, get_or-replicate}
use Rattle.std.proofs.lemmas.List.Elements.{All-from_get_or}
use Rattle.sd_base.specs.declared.limits.TheConstants.{ACTORS, CHANNELS, RATE, TIME, TOKENS}
use Rattle.sd_base.specs.declared.limits.Quantity.TheVariants as quantities
use Rattle.sd_base.specs.declared.tables.Kind.TheVariants.{Sdf}
use Rattle.sd_base.specs.declared.tables.GraphFile.{GraphFile}
use Rattle.sd_base.specs.declared.tables.ActorRow.{ActorRow}
use Rattle.sd_base.specs.declared.tables.ChannelRow.{ChannelRow}
use Rattle.sd_base.specs.Tables.{ActorKeepsRules, PortKeepsRules, ChannelKeepsRules, KeepsRules, IsTimed, phases_of}
use Rattle.sd_base.specs.Net.{Channel, Net, channel_at, nowhere, total, file_channels, file_channel, Balances, IsRepetitionOf}
use Rattle.sd_base.specs.Schedules.{time_of, phases_at}
use Rattle.sd_base.specs.Lawful.{Lawful}
use Rattle.sd_base.proofs.LawfulIsRegular.{wired, balanced}
use Rattle.sd_base.proofs.FileNets.{file-at, file-length}
use Rattle.sd_base.proofs.ElementsKeepPlaces.{entry-le-sum}
use Rattle.single_rate.specs.declared.links.Link.{Link}
use Rattle.single_rate.specs.Expansions.{copy_row, copy_rows, expansion, link_row, link_rows, links_of}
use Rattle.single_rate.specs.Firings.{IsLink, no_link}
use Rattle.single_rate.specs.Limits.{Tells, excess, has_long_name}
use Rattle.single_rate.specs.Namings.{one_each}
use Rattle.single_rate.specs.declared.expansion.ExpandError.{ExpandError}
use Rattle.single_rate.specs.declared.expansion.ExpandError.TheVariants.{Limit, NoMemory}
use Rattle.single_rate.specs.inside.Parts.{AreMoreThan, IsLongIn, is_long}
use Rattle.single_rate.proofs.FirstCopies.{copy-small}
use Rattle.single_rate.proofs.LinkPlaces.{links-sound, back-within}
use Rattle.single_rate.proofs.ExpansionsUnroll.{many-copies, row-of, rows-at, no_channel, length-rows}

module _ (net : Net) (g : GraphFile) where
  pub excess-actors : ACTORS < sum net.round → excess net g ≡ Some quantities.Actors
  unfolding excess
  excess-actors large = rw (lt-ltb ACTORS (sum net.round) large) refl

  pub excess-names : sum net.round ≤ ACTORS → list_any is_long (copy_rows net g.actors) ≡ true → excess net g ≡ Some quantities.NameBytes
  unfolding excess has_long_name
  excess-names few long = rw (le-ltb ACTORS (sum net.round) few, long) refl

  pub excess-channels : sum net.round ≤ ACTORS → list_any is_long (copy_rows net g.actors) ≡ false → CHANNELS < length (links_of net) → excess net g ≡ Some quantities.Channels
  unfolding excess has_long_name
  excess-channels few short many = rw (le-ltb ACTORS (sum net.round) few, short, lt-ltb CHANNELS (length (links_of net)) many) refl

  pub excess-none : sum net.round ≤ ACTORS → list_any is_long (copy_rows net g.actors) ≡ false → length (links_of net) ≤ CHANNELS → excess net g ≡ None
  unfolding excess has_long_name
  excess-none few short within = rw (le-ltb ACTORS (sum net.round) few, short, le-ltb CHANNELS (length (links_of net)) within) refl

  pub expansion-is : (actors : List ActorRow) (channels : List ChannelRow) → actors ≡ copy_rows net g.actors → channels ≡ link_rows 0 (links_of net) → record { kind = Sdf; actors = actors; channels = channels } ≡ expansion net g
  unfolding expansion
  expansion-is actors channels e f = rw (e, f) refl

-- the refusal of a row tells of the name, and that of a link of the channels
pub long-told : (net : Net) (g : GraphFile) (e : ExpandError) → sum net.round ≤ ACTORS → IsLongIn (copy_rows net g.actors) e → Tells e (excess net g)
long-told net g NoMemory few is = tt
long-told net g (Limit what) few is = rw is.0 (excess-names net g few is.1)

pub many-told : (net : Net) (g : GraphFile) (e : ExpandError) → sum net.round ≤ ACTORS → list_any is_long (copy_rows net g.actors) ≡ false → AreMoreThan (length (links_of net)) e → Tells e (excess net g)
many-told net g NoMemory few short is = tt
many-told net g (Limit what) few short is = rw is.0 (excess-channels net g few short is.1)

module _ (net : Net) (laws : Lawful net) (g : GraphFile) (named : length g.actors ≡ length net.times) where
  abbrev no_row : ActorRow
  no_row = record { name = []; phases = 1; times = [] }

  -- what holds of each copy holds of each row
  each-row : (P : ActorRow → Type 0) → ((name : List ℕ) (a k : ℕ) → a < length net.times → k < slice_index net.round a → P (copy_row net name a k)) → All P (copy_rows net g.actors)
  each-row P holds = All-from_get_or P (copy_rows net g.actors) no_row (λ y below.
      let row = row-of net (wired net laws) (balanced net laws) g named y below no_row in
      subst P (sym row.4) (holds (slice_index_or g.actors row.0 no_row).name row.0 row.1 row.2 row.3))

  row-keeps : (name : List ℕ) (a k : ℕ) → a < length net.times → k < slice_index net.round a → ActorKeepsRules Sdf (copy_row net name a k)
  unfolding copy_row
  row-keeps name a k actor copy =
      let phase : k % phases_at net a < phases_at net a = mod-lt k (laws.some_phase a actor) in
      let some : 1 ≤ time_of net a k = laws.some_time a (k % phases_at net a) actor phase in
      let short : time_of net a k ≤ TIME = laws.short_times a (k % phases_at net a) actor phase in
      record {
        some_phase = omega arith;
        few_phases = omega arith;
        one_phase = λ kind. refl;
        timed = inr refl;
        times = All-from_get_or (λ t. (1 ≤ t) × (t ≤ TIME)) (time_of net a k ∷ []) 0 (λ i below. let first : i ≡ 0 = omega arith in rw first (some, short));
      }

  row-timed : (name : List ℕ) (a k : ℕ) → a < length net.times → k < slice_index net.round a → length (copy_row net name a k).times ≡ (copy_row net name a k).phases
  unfolding copy_row
  row-timed name a k actor copy = refl

  row-phases : (name : List ℕ) (a k : ℕ) → (copy_row net name a k).phases ≡ 1
  unfolding copy_row
  row-phases name a k = refl

  -- each row of the table has one phase
  phases-at : (y : ℕ) → y < sum net.round → slice_index (map (λ (a : ActorRow). a.phases) (copy_rows net g.actors)) y ≡ 1
  phases-at y below =
      let many : length (copy_rows net g.actors) ≡ sum net.round = many-copies net (wired net laws) (balanced net laws) g named in
      let row = row-of net (wired net laws) (balanced net laws) g named y (omega arith) no_row in
      get_or-map (λ (a : ActorRow). a.phases) (copy_rows net g.actors) y no_row 0 (omega arith) ∙ (ap (λ (r : ActorRow). r.phases) row.4 ∙ row-phases (slice_index_or g.actors row.0 no_row).name row.0 row.1)

  phases-many : length (map (λ (a : ActorRow). a.phases) (copy_rows net g.actors)) ≡ sum net.round
  phases-many = length-map (copy_rows net g.actors) (λ (a : ActorRow). a.phases) ∙ many-copies net (wired net laws) (balanced net laws) g named

  port-keeps : (phases : ℕ) → phases ≡ 1 → PortKeepsRules phases (1 ∷ [])
  port-keeps phases one = record { listed = sym one; limited = All-from_get_or (λ r. r ≤ RATE) (1 ∷ []) 0 (λ i below. let first : i ≡ 0 = omega arith in rw first (omega arith)); moves = omega arith }

  link-ends : (l : Link) (x k i : ℕ) → IsLink net l x k i → (l.source < sum net.round) × (l.target < sum net.round)
  link-ends l x k i is = (
    rw is.source (copy-small net laws (channel_at net x).source i (laws.sources x is.place) is.copy),
    rw is.target (copy-small net laws (channel_at net x).target k (laws.targets x is.place) is.firing),
  )

  link-keeps : (n : ℕ) (l : Link) (x k i : ℕ) → ((x : ℕ) → x < length net.channels → (channel_at net x).tokens ≤ TOKENS) → IsLink net l x k i → ChannelKeepsRules (map (λ (a : ActorRow). a.phases) (copy_rows net g.actors)) (link_row n l)
  unfolding link_row
  link-keeps n l x k i few is =
      let ends = link-ends l x k i is in
      let back : l.tokens ≤ (channel_at net x).tokens = back-within net (wired net laws) (balanced net laws) x is.place k i l.tokens is.firing is.copy is.takes in
      record {
        source = omega (arith, phases-many, ends.0);
        target = omega (arith, phases-many, ends.1);
        made = port-keeps _ (phases-at l.source ends.0);
        taken = port-keeps _ (phases-at l.target ends.1);
        tokens = omega (arith, few x is.place);
        some_size = omega arith;
        size = omega arith;
      }

  each-link : (P : ChannelRow → Type 0) → ((n : ℕ) (l : Link) (x k i : ℕ) → IsLink net l x k i → P (link_row n l)) → All P (link_rows 0 (links_of net))
  each-link P holds = All-from_get_or P (link_rows 0 (links_of net)) no_channel (λ n below.
      let inside : n < length (links_of net) = omega (arith, length-rows 0 (links_of net)) in
      let found = links-sound net (wired net laws) (balanced net laws) n inside in
      subst P (sym (rows-at 0 (links_of net) n no_channel inside)) (holds (0 + n) (slice_index_or (links_of net) n no_link) found.0 found.1 found.2 found.3))

  pub table-timed : IsTimed (expansion net g)
  unfolding expansion
  table-timed = each-row (λ (a : ActorRow). length a.times ≡ a.phases) row-timed

  some-copy : 1 ≤ sum net.round
  some-copy =
      let fires : 1 ≤ slice_index net.round 0 = (balanced net laws).fires 0 laws.some_actor in
      omega (arith, entry-le-sum net.round 0)

  pub table-keeps : sum net.round ≤ ACTORS → length (links_of net) ≤ CHANNELS → ((x : ℕ) → x < length net.channels → (channel_at net x).tokens ≤ TOKENS) → KeepsRules (expansion net g)
  unfolding expansion
  table-keeps few within tokens =
      let many : length (copy_rows net g.actors) ≡ sum net.round = many-copies net (wired net laws) (balanced net laws) g named in
      record {
        some_actor = omega (arith, some-copy);
        few_actors = omega arith;
        few_channels = omega (arith, length-rows 0 (links_of net));
        actors = each-row (ActorKeepsRules Sdf) row-keeps;
        channels = each-link (ChannelKeepsRules (map (λ (a : ActorRow). a.phases) (copy_rows net g.actors))) (λ n l x k i is. link-keeps n l x k i tokens is);
      }

  one-at : (y : ℕ) → y < sum net.round → slice_index (one_each net) y ≡ 1
  one-at y below = get_or-replicate (sum net.round) y 1 0 below

  -- on each link both ends move a token in a round
  link-kept : (n : ℕ) → n < length (links_of net) → total (slice_index_or (file_channels (expansion net g)) n nowhere).made (slice_index (one_each net) (slice_index_or (file_channels (expansion net g)) n nowhere).source)
      ≡ total (slice_index_or (file_channels (expansion net g)) n nowhere).taken (slice_index (one_each net) (slice_index_or (file_channels (expansion net g)) n nowhere).target)
  unfolding expansion link_row
  link-kept n inside =
      let found = links-sound net (wired net laws) (balanced net laws) n inside in
      let l : Link = slice_index_or (links_of net) n no_link in
      let ends = link-ends (slice_index_or (links_of net) n no_link) found.0 found.1 found.2 found.3 in
      let here : slice_index_or (file_channels (expansion net g)) n nowhere ≡ file_channel (0 + n) (link_row (0 + n) (slice_index_or (links_of net) n no_link)) =
      file-at 0 (link_rows 0 (links_of net)) n no_channel (omega (arith, length-rows 0 (links_of net))) ∙ ap (λ (c : ChannelRow). file_channel (0 + n) c) (rows-at 0 (links_of net) n no_channel inside) in
      subst (λ (c : Channel). total c.made (slice_index (one_each net) c.source) ≡ total c.taken (slice_index (one_each net) c.target)) (sym here)
      (rw (one-at (slice_index_or (links_of net) n no_link).source ends.0, one-at (slice_index_or (links_of net) n no_link).target ends.1) refl)

  phases-is : phases_of (expansion net g) ≡ map (λ (a : ActorRow). a.phases) (copy_rows net g.actors)
  unfolding expansion
  phases-is = refl

  channels-many : length (file_channels (expansion net g)) ≡ length (links_of net)
  unfolding expansion
  channels-many = file-length 0 (link_rows 0 (links_of net)) ∙ length-rows 0 (links_of net)

  one-balances : Balances (phases_of (expansion net g)) (file_channels (expansion net g)) (one_each net)
  one-balances = record {
    actors = length-replicate (sum net.round) 1 ∙ sym (ap length phases-is ∙ phases-many);
    fires = λ a below. (let b : a < sum net.round = omega (arith, ap length phases-is, phases-many) in omega (arith, one-at a b));
    cycles = λ a below. (let b : a < sum net.round = omega (arith, ap length phases-is, phases-many) in
        let one : slice_index (phases_of (expansion net g)) a ≡ 1 = ap (λ (ps : List ℕ). slice_index ps a) phases-is ∙ phases-at a b in
        rw (one, one-at a b) refl);
    kept = λ n below. link-kept n (omega (arith, channels-many));
  }

  pub table-round : IsRepetitionOf (expansion net g) (one_each net)
  table-round = record {
    balances = one-balances;
    least = λ w balances a below. (let b : a < sum net.round = omega (arith, ap length phases-is, phases-many) in omega (arith, one-at a b, balances.fires a below));
  }
