-- An ordered net keeps the laws of nets.
use Rattle.std.proofs.Common.{◌≡◌, ℕ, ◌+◌, ◌%◌, ◌≤◌, ◌<◌, Bool, true, false, List, [], length, map, subst, sym, refl, ap, ◌∙◌, arith}
use Rattle.std.proofs.Math.Nat.{mod-lt, mod_self, mod-mod_of_dvd, zero-mod}
use Rattle.std.specs.Prelude.{slice_index, slice_index_or, if◌then◌else◌}
use Rattle.std.proofs.lemmas.List.{length-map, get_or-map}
use Rattle.std.proofs.lemmas.Nat.Gcd.{dvd_of_mod-eq-zero}
use Rattle.sd_base.specs.declared.limits.TheConstants.{NET_CHANNELS, TIME}
use Rattle.sd_base.specs.Net.{Channel, Net, channel_at, total, Balances}
use Rattle.sd_base.specs.Schedules.{phases_at}
use Rattle.sd_base.specs.Lawful.{Lawful}
use Rattle.ordered.specs.Orders.{AreOrders}
use Rattle.ordered.specs.OrderedNets.{CanBeOrdered, is_named, phases_in, unrolled, rephased, ordered}
use Rattle.ordered.proofs.UnrolledSumsAgree.{unrolled-at}
use Rattle.ordered.proofs.ChannelsAreKeptOrNew.{Among, at-place, origin, kept-in}
use Rattle.ordered.proofs.FiringsHaveEntries.{some-phases, whole-phases, times-here, times-many, same-made, same-taken}
use Rattle.ordered.proofs.RolesApart.{roles-apart}
use Rattle.ordered.proofs.FilesFirst.{files-first}
use Rattle.ordered.proofs.GoodChannels.{Good, good, phases-here}
use Rattle.ordered.proofs.OwnChannels.{own-for}

module _ (net : Net) (laws : Lawful net) (can : CanBeOrdered net) (orders : List (List ℕ)) (are : AreOrders net orders) (few : length (ordered net orders).channels ≤ NET_CHANNELS) where
  each : (i : ℕ) → i < length (ordered net orders).channels → Good (ordered net orders) (channel_at (ordered net orders) i)
  each i below = good net laws orders are (channel_at (ordered net orders) i) (origin net orders (channel_at (ordered net orders) i) (at-place (ordered net orders).channels i below))

  below-old : (a : ℕ) → a < length (ordered net orders).times → a < length net.times
  below-old a below = rw (times-many net laws orders) at below

  time-at : (a p : ℕ) → a < length (ordered net orders).times → p < phases_at (ordered net orders) a →
      (1 ≤ slice_index (slice_index_or (ordered net orders).times a []) p) × (slice_index (slice_index_or (ordered net orders).times a []) p ≤ TIME)
  time-at a p below phase =
      let there : a < length net.times = below-old a below in
      let small : p < phases_in net orders a = rw (phases-here net laws orders are a there) at phase in
      let e : slice_index (slice_index_or (ordered net orders).times a []) p ≡ slice_index (slice_index_or net.times a []) (p % phases_at net a)
      = ap (λ (xs : List ℕ). slice_index xs p) (times-here net laws orders a there) ∙ unrolled-at (phases_in net orders a) (slice_index_or net.times a []) p small in
      let some = laws.some_phase a there in
      let turn : p % phases_at net a < phases_at net a = mod-lt p (omega arith) in
      rw e (laws.some_time a (p % phases_at net a) there turn, laws.short_times a (p % phases_at net a) there turn)

  listed : (a : ℕ) → a < length (ordered net orders).times → slice_index (map length (ordered net orders).times) a ≡ phases_in net orders a
  listed a below = get_or-map length (ordered net orders).times a [] 0 below ∙ phases-here net laws orders are a (below-old a below)

  many : length (map length (ordered net orders).times) ≡ length net.times
  many = length-map (ordered net orders).times length ∙ times-many net laws orders

  many-old : length (map length net.times) ≡ length net.times
  many-old = length-map net.times length

  cycle : (a : ℕ) → a < length net.times → slice_index net.round a % phases_in net orders a ≡ 0
  cycle a below = at (is_named orders a)
    where
      at : (b : Bool) → slice_index net.round a % (if b then slice_index net.round a else phases_at net a) ≡ 0
      at true = mod_self (slice_index net.round a)
      at false = rw (get_or-map length net.times a [] 0 below) at (laws.repetition.balances.cycles a (rw many-old below))

  balances : Balances (map length (ordered net orders).times) (ordered net orders).channels net.round
  balances = record {
    actors = laws.repetition.balances.actors ∙ (many-old ∙ sym many);
    fires = λ a below. laws.repetition.balances.fires a (omega (arith, below, many, many-old));
    cycles = λ a below. let there : a < length (ordered net orders).times = omega (arith, below, many, times-many net laws orders) in rw (listed a there) (cycle a (below-old a there));
    kept = λ i below. (each i below).kept;
  }

  back : (w : List ℕ) → Balances (map length (ordered net orders).times) (ordered net orders).channels w → Balances (map length net.times) net.channels w
  back w b = record {
    actors = b.actors ∙ (many ∙ sym many-old);
    fires = λ a below. b.fires a (omega (arith, below, many, many-old));
    cycles = λ a below.
        let there : a < length net.times = omega (arith, below, many-old) in
        let here : a < length (ordered net orders).times = omega (arith, there, times-many net laws orders) in
        let whole : slice_index w a % phases_in net orders a ≡ 0 = rw (listed a here) at (b.cycles a (omega (arith, there, many))) in
        let turn : slice_index w a % phases_in net orders a % phases_at net a ≡ slice_index w a % phases_at net a = mod-mod_of_dvd (phases_at net a) (slice_index w a) (dvd_of_mod-eq-zero (phases_at net a) (whole-phases net laws orders a there)) in
        rw (get_or-map length net.times a [] 0 there) (sym turn ∙ (ap (λ (n : ℕ). n % phases_at net a) whole ∙ zero-mod (phases_at net a)));
    kept = λ i below.
        let a : Among (ordered net orders).channels (rephased (phases_in net orders) (channel_at net i)) = kept-in net orders can i below in
        let k : total (rephased (phases_in net orders) (channel_at net i)).made (slice_index w (channel_at net i).source) ≡ total (rephased (phases_in net orders) (channel_at net i)).taken (slice_index w (channel_at net i).target)
        = subst (λ (c : Channel). total c.made (slice_index w c.source) ≡ total c.taken (slice_index w c.target)) a.is (b.kept a.place a.below) in
        sym (same-made net laws orders i (slice_index w (channel_at net i).source) below) ∙ (k ∙ same-taken net laws orders i (slice_index w (channel_at net i).target) below);
  }

  pub ordered-lawful : Lawful (ordered net orders)
  ordered-lawful = record {
    some_actor = omega (arith, laws.some_actor, times-many net laws orders);
    few_actors = omega (arith, laws.few_actors, times-many net laws orders);
    few_channels = few;
    some_phase = λ a below. let there = below-old a below in omega (arith, phases-here net laws orders are a there, some-phases net laws orders a there);
    some_time = λ a p below phase. (time-at a p below phase).0;
    short_times = λ a p below phase. (time-at a p below phase).1;
    sources = λ i below. (each i below).source;
    targets = λ i below. (each i below).target;
    made_phases = λ i below. (each i below).made_phases;
    taken_phases = λ i below. (each i below).taken_phases;
    small_made = λ i p below. (each i below).small_made p;
    small_taken = λ i p below. (each i below).small_taken p;
    some_made = λ i below. (each i below).some_made;
    some_taken = λ i below. (each i below).some_taken;
    few_tokens = λ i below. (each i below).few_tokens;
    some_size = λ i below. (each i below).some_size;
    small_size = λ i below. (each i below).small_size;
    one_by_one = λ a below more. let there = below-old a below in own-for net laws can orders a there (omega (arith, more, phases-here net laws orders are a there));
    roles_differ = roles-apart net laws orders are;
    files_first = files-first net laws orders are;
    repetition = record { balances = balances; least = λ w b a below. laws.repetition.least w (back w b) a (omega (arith, below, many, many-old)) };
    small_round = laws.small_round;
  }
