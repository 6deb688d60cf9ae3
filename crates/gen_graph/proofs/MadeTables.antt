-- A made graph keeps the rules, has its times, and can be written.
use Rattle.std.proofs.Common.{◌≡◌, ◌≢◌, ℕ, zero, suc, ◌+◌, ◌/◌, ◌%◌, ◌<◌, ◌≤◌, List, [], ◌∷◌, length, map, get_or, inr, refl, sym, ap, ◌∙◌, arith}
use Rattle.std.specs.Prelude.{IsTrue, codes, slice_index}
use Rattle.std.specs.List.{All, AllPairs}
use Rattle.std.specs.Fmt.{decimal}
use Rattle.std.proofs.lemmas.List.Elements.{All-nil, All-cons, All-head, All-tail}
use Rattle.std.proofs.lemmas.Fmt.{decimal_injective, length-decimal-le}
use Rattle.sd_base.specs.declared.tables.Kind.TheVariants.{Sdf}
use Rattle.sd_base.specs.declared.tables.ActorRow.{ActorRow}
use Rattle.sd_base.specs.declared.tables.ChannelRow.{ChannelRow}
use Rattle.sd_base.specs.Tables.{KeepsRules, ActorKeepsRules, PortKeepsRules, ChannelKeepsRules, IsTimed}
use Rattle.file_text.specs.Grammar.{is_character}
use Rattle.gen_graph.specs.declared.made.Drawn.{Drawn}
use Rattle.gen_graph.specs.MadeGraphs.{modulus, IsDrawn, drawn_after, drawn_for, next, number_below, made_actor, made_actors, common_multiple, made_channel, made_channels, chain_of, made_graph}
use Rattle.gen_graph.specs.GraphTrees.{no_actor}
use Rattle.graph_reader.specs.WritableNames.{IsWritableName}
use Rattle.graph_reader.proofs.ReadNames.{all-from_each}
use Rattle.gen_graph.specs.Writable.{IsWritable}
use Rattle.gen_graph.proofs.ElementTexts.{IsGoodValue, good_word}
use Rattle.gen_graph.proofs.TreeTexts.{both_good, number_good}

-- ---- draws

drawn_within : (x : ℕ) → IsDrawn (drawn_after x)
unfolding drawn_after number_below
drawn_within x = record { some_weight = omega arith; weight = omega arith; some_time = omega arith; time = omega arith }

draws_within : (x n : ℕ) → All IsDrawn (drawn_for x n)
draws_within x zero = All-nil IsDrawn
draws_within x (suc n) = All-cons IsDrawn (drawn_after x) (drawn_for (next (next x)) n) (drawn_within x) (draws_within (next (next x)) n)

draws_count : (x n : ℕ) → length (drawn_for x n) ≡ n
draws_count x zero = refl
draws_count x (suc n) = ap suc (draws_count (next (next x)) n)

-- ---- actors

actors_count : (i : ℕ) (ds : List Drawn) → length (made_actors i ds) ≡ length ds
actors_count i [] = refl
actors_count i (d ∷ ds) = ap suc (actors_count (i + 1) ds)

actor_keeps : (i : ℕ) (d : Drawn) → IsDrawn d → ActorKeepsRules Sdf (made_actor i d)
unfolding made_actor
actor_keeps i d is = record {
  some_phase = omega arith;
  few_phases = omega arith;
  one_phase = λ e. refl;
  timed = inr refl;
  times = All-cons (λ t. (1 ≤ t) × (t ≤ 1000000000)) d.time [] (is.some_time, omega (arith, is.time)) (All-nil (λ t. (1 ≤ t) × (t ≤ 1000000000)));
}

actors_keep : (i : ℕ) (ds : List Drawn) → All IsDrawn ds → All (ActorKeepsRules Sdf) (made_actors i ds)
actors_keep i [] are = All-nil (ActorKeepsRules Sdf)
actors_keep i (d ∷ ds) are = All-cons (ActorKeepsRules Sdf) (made_actor i d) (made_actors (i + 1) ds) (actor_keeps i d (All-head IsDrawn d ds are)) (actors_keep (i + 1) ds (All-tail IsDrawn d ds are))

actors_timed : (i : ℕ) (ds : List Drawn) → All (λ (a : ActorRow). length a.times ≡ a.phases) (made_actors i ds)
unfolding made_actor
actors_timed i [] = All-nil (λ (a : ActorRow). length a.times ≡ a.phases)
actors_timed i (d ∷ ds) = All-cons (λ (a : ActorRow). length a.times ≡ a.phases) (made_actor i d) (made_actors (i + 1) ds) refl (actors_timed (i + 1) ds)

phases_one : (i : ℕ) (ds : List Drawn) (k : ℕ) → k < length ds → slice_index (map (λ (a : ActorRow). a.phases) (made_actors i ds)) k ≡ 1
unfolding made_actor
phases_one i [] k lt = absurd (omega arith)
phases_one i (d ∷ ds) zero lt = refl
phases_one i (d ∷ ds) (suc k) lt = phases_one (i + 1) ds k (omega arith)

phases_count : (i : ℕ) (ds : List Drawn) → length (map (λ (a : ActorRow). a.phases) (made_actors i ds)) ≡ length ds
phases_count i [] = refl
phases_count i (d ∷ ds) = ap suc (phases_count (i + 1) ds)

-- ---- channels

abbrev IsWeight : ℕ → Type 0
IsWeight v = (1 ≤ v) × (v ≤ 3)

abbrev AreRates : ℕ → ℕ → Type 0
AreRates v w = IsWeight (common_multiple v w / v) × IsWeight (common_multiple v w / w)

rates_within : (v w : ℕ) → IsWeight v → IsWeight w → AreRates v w
unfolding common_multiple
rates_within zero w a b = absurd (omega (arith, a.0))
rates_within (suc zero) zero a b = absurd (omega (arith, b.0))
rates_within (suc zero) (suc zero) a b = ((omega arith, omega arith), (omega arith, omega arith))
rates_within (suc zero) (suc (suc zero)) a b = ((omega arith, omega arith), (omega arith, omega arith))
rates_within (suc zero) (suc (suc (suc zero))) a b = ((omega arith, omega arith), (omega arith, omega arith))
rates_within (suc zero) (suc (suc (suc (suc w)))) a b = absurd (omega (arith, b.1))
rates_within (suc (suc zero)) zero a b = absurd (omega (arith, b.0))
rates_within (suc (suc zero)) (suc zero) a b = ((omega arith, omega arith), (omega arith, omega arith))
rates_within (suc (suc zero)) (suc (suc zero)) a b = ((omega arith, omega arith), (omega arith, omega arith))
rates_within (suc (suc zero)) (suc (suc (suc zero))) a b = ((omega arith, omega arith), (omega arith, omega arith))
rates_within (suc (suc zero)) (suc (suc (suc (suc w)))) a b = absurd (omega (arith, b.1))
rates_within (suc (suc (suc zero))) zero a b = absurd (omega (arith, b.0))
rates_within (suc (suc (suc zero))) (suc zero) a b = ((omega arith, omega arith), (omega arith, omega arith))
rates_within (suc (suc (suc zero))) (suc (suc zero)) a b = ((omega arith, omega arith), (omega arith, omega arith))
rates_within (suc (suc (suc zero))) (suc (suc (suc zero))) a b = ((omega arith, omega arith), (omega arith, omega arith))
rates_within (suc (suc (suc zero))) (suc (suc (suc (suc w)))) a b = absurd (omega (arith, b.1))
rates_within (suc (suc (suc (suc v)))) w a b = absurd (omega (arith, a.1))

port_keeps : (phases r : ℕ) → phases ≡ 1 → IsWeight r → PortKeepsRules phases (r ∷ [])
port_keeps phases r one is = record {
  listed = sym one;
  limited = All-cons (λ n. n ≤ 1000000) r [] (omega (arith, is.1)) (All-nil (λ n. n ≤ 1000000));
  moves = let low = is.0 in omega arith;
}

channel_keeps : (phases : List ℕ) (i v w : ℕ) → ((k : ℕ) → k < length phases → slice_index phases k ≡ 1) → i + 1 < length phases → IsWeight v → IsWeight w → ChannelKeepsRules phases (made_channel i v w)
unfolding made_channel
channel_keeps phases i v w ones lt a b =
    let rates = rates_within v w a b in
    record {
      source = omega arith;
      target = lt;
      made = port_keeps (slice_index phases i) (common_multiple v w / v) (ones i (omega arith)) rates.0;
      taken = port_keeps (slice_index phases (i + 1)) (common_multiple v w / w) (ones (i + 1) lt) rates.1;
      tokens = omega arith;
      some_size = omega arith;
      size = omega arith;
    }

channels_keep : (phases : List ℕ) → ((k : ℕ) → k < length phases → slice_index phases k ≡ 1) → (i v : ℕ) (ds : List Drawn) → IsWeight v → All IsDrawn ds → i + 1 + length ds ≤ length phases
    → All (ChannelKeepsRules phases) (made_channels i v ds)
channels_keep phases ones i v [] a are le = All-nil (ChannelKeepsRules phases)
channels_keep phases ones i v (d ∷ ds) a are le =
    let first = All-head IsDrawn d ds are in
    All-cons (ChannelKeepsRules phases) (made_channel i v d.weight) (made_channels (i + 1) d.weight ds) (channel_keeps phases i v d.weight ones (omega arith) a (first.some_weight, first.weight))
    (channels_keep phases ones (i + 1) d.weight ds (first.some_weight, first.weight) (All-tail IsDrawn d ds are) (omega arith))

chain_keeps : (phases : List ℕ) → ((k : ℕ) → k < length phases → slice_index phases k ≡ 1) → (ds : List Drawn) → All IsDrawn ds → length ds ≤ length phases → All (ChannelKeepsRules phases) (chain_of ds)
chain_keeps phases ones [] are le = All-nil (ChannelKeepsRules phases)
chain_keeps phases ones (d ∷ ds) are le =
    let first = All-head IsDrawn d ds are in
    channels_keep phases ones 0 d.weight ds (first.some_weight, first.weight) (All-tail IsDrawn d ds are) (omega arith)

channels_count : (i v : ℕ) (ds : List Drawn) → length (made_channels i v ds) ≡ length ds
channels_count i v [] = refl
channels_count i v (d ∷ ds) = ap suc (channels_count (i + 1) d.weight ds)

chain_few : (ds : List Drawn) (n : ℕ) → length ds ≤ n → length (chain_of ds) ≤ n
chain_few [] n le = omega arith
chain_few (d ∷ ds) n le = let same = channels_count 0 d.weight ds in omega arith

-- ---- the graph

pub made_keeps : (seed n : ℕ) → 2 ≤ n → n ≤ 128 → KeepsRules (made_graph seed n)
unfolding made_graph
made_keeps seed n some few =
    let x = seed % modulus in
    let ds = drawn_for x n in
    let many = draws_count x n in
    let count = actors_count 0 ds in
    let all = phases_count 0 ds in
    record {
      some_actor = omega arith;
      few_actors = omega arith;
      few_channels = chain_few ds 256 (omega arith);
      actors = actors_keep 0 ds (draws_within x n);
      channels = chain_keeps (map (λ (a : ActorRow). a.phases) (made_actors 0 ds)) (λ k lt. phases_one 0 ds k (omega arith)) ds (draws_within x n) (omega arith);
    }

pub made_timed : (seed n : ℕ) → IsTimed (made_graph seed n)
unfolding made_graph
made_timed seed n = actors_timed 0 (drawn_for (seed % modulus) n)

-- ---- its names

name_written : (letter i : ℕ) → IsGoodValue (letter ∷ []) → i < 128 → IsWritableName (letter ∷ decimal i)
name_written letter i good lt =
    let value = both_good (letter ∷ []) (decimal i) good (number_good i (omega arith)) in
    let few = length-decimal-le 3 i (omega arith) (omega arith) (omega arith) in
    record {
      some = omega arith;
      short = omega arith;
      characters = all-from_each (λ b. IsTrue (is_character b)) (letter ∷ decimal i) value.0;
      utf8 = value.1;
    }

actor_names : (i : ℕ) (ds : List Drawn) → i + length ds ≤ 128 → All (λ (a : ActorRow). IsWritableName a.name) (made_actors i ds)
unfolding made_actor
actor_names i [] few = All-nil (λ (a : ActorRow). IsWritableName a.name)
actor_names i (d ∷ ds) few =
    All-cons (λ (a : ActorRow). IsWritableName a.name) (made_actor i d) (made_actors (i + 1) ds) (name_written 97 i (good_word (codes "a") refl refl) (omega arith)) (actor_names (i + 1) ds (omega arith))

channel_names : (i v : ℕ) (ds : List Drawn) → i + length ds ≤ 128 → All (λ (c : ChannelRow). IsWritableName c.name) (made_channels i v ds)
unfolding made_channel
channel_names i v [] few = All-nil (λ (c : ChannelRow). IsWritableName c.name)
channel_names i v (d ∷ ds) few =
    All-cons (λ (c : ChannelRow). IsWritableName c.name) (made_channel i v d.weight) (made_channels (i + 1) d.weight ds) (name_written 99 i (good_word (codes "c") refl refl) (omega arith)) (channel_names (i + 1) d.weight ds (omega arith))

chain_names : (ds : List Drawn) → length ds ≤ 128 → All (λ (c : ChannelRow). IsWritableName c.name) (chain_of ds)
chain_names [] few = All-nil (λ (c : ChannelRow). IsWritableName c.name)
chain_names (d ∷ ds) few = channel_names 0 d.weight ds (omega arith)

-- the name at each place is a letter and the place
plus-suc : (i k : ℕ) → i + 1 + k ≡ i + suc k
plus-suc i k = omega arith

actor_at : (i : ℕ) (ds : List Drawn) (k : ℕ) (d : ActorRow) → k < length ds → ((get_or (made_actors i ds) k d).name ≡ 97 ∷ decimal (i + k)) × ((get_or (made_actors i ds) k d).phases ≡ 1)
unfolding made_actor
actor_at i [] k e lt = absurd (omega arith)
actor_at i (d ∷ ds) zero e lt = (ap (λ n. 97 ∷ decimal n) (let same : i ≡ i + 0 = omega arith in same), refl)
actor_at i (d ∷ ds) (suc k) e lt = let rest = actor_at (i + 1) ds k e (omega arith) in (rest.0 ∙ ap (λ n. 97 ∷ decimal n) (plus-suc i k), rest.1)

channel_at : (i v : ℕ) (ds : List Drawn) (k : ℕ) (c : ChannelRow) → k < length ds → (get_or (made_channels i v ds) k c).name ≡ 99 ∷ decimal (i + k)
unfolding made_channel
channel_at i v [] k e lt = absurd (omega arith)
channel_at i v (d ∷ ds) zero e lt = ap (λ n. 99 ∷ decimal n) (let same : i ≡ i + 0 = omega arith in same)
channel_at i v (d ∷ ds) (suc k) e lt = channel_at (i + 1) d.weight ds k e (omega arith) ∙ ap (λ n. 99 ∷ decimal n) (plus-suc i k)

apart : (letter i j : ℕ) → i < j → j < 128 → letter ∷ decimal (0 + i) ≡ letter ∷ decimal (0 + j) → ⊥
apart letter i j lt few e =
    let numbers : decimal (0 + i) ≡ decimal (0 + j) = cc in
    let same = decimal_injective (0 + i) (0 + j) (omega arith) (omega arith) numbers in
    omega arith

actors_apart : (ds : List Drawn) → length ds ≤ 128 → AllPairs (λ (a b : ActorRow). a.name ≢ b.name) (made_actors 0 ds)
actors_apart ds few i j d lt within e =
    let count = actors_count 0 ds in
    apart 97 i j lt (omega arith) (sym (actor_at 0 ds i d (omega arith)).0 ∙ (e ∙ (actor_at 0 ds j d (omega arith)).0))

channels_apart : (v : ℕ) (ds : List Drawn) → length ds ≤ 128 → AllPairs (λ (a b : ChannelRow). a.name ≢ b.name) (made_channels 0 v ds)
channels_apart v ds few i j d lt within e =
    let count = channels_count 0 v ds in
    apart 99 i j lt (omega arith) (sym (channel_at 0 v ds i d (omega arith)) ∙ (e ∙ channel_at 0 v ds j d (omega arith)))

chain_apart : (ds : List Drawn) → length ds ≤ 128 → AllPairs (λ (a b : ChannelRow). a.name ≢ b.name) (chain_of ds)
chain_apart [] few = λ i j d lt within e. absurd (omega arith)
chain_apart (d ∷ ds) few = channels_apart d.weight ds (omega arith)

pub made_writable : (seed n : ℕ) → n ≤ 128 → IsWritable (made_graph seed n)
unfolding made_graph
made_writable seed n few =
    let x = seed % modulus in
    let ds = drawn_for x n in
    let many = draws_count x n in
    let count = actors_count 0 ds in
    record {
      names = record {
        actors = actor_names 0 ds (omega arith);
        channels = chain_names ds (omega arith);
        actors_differ = actors_apart ds (omega arith);
        channels_differ = chain_apart ds (omega arith);
      };
      phases = λ a lt none untouched. (actor_at 0 ds a no_actor (omega arith)).1;
    }
