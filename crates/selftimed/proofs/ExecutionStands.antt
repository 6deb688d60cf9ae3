-- The shape of an execution that stands against the earliest schedule.
use Rattle.std.proofs.Common.{◌≡◌, ℕ, suc, ◌+◌, ◌-◌, ◌%◌, ◌<◌, ◌⊎◌, List, [], length, map, replicate, ⊎_elim, sym, refl, ap, ◌∙◌, arith}
use Rattle.std.specs.Prelude.{slice_index, slice_index_or}
use Rattle.std.specs.List.{range_with_len}
use Rattle.std.proofs.lemmas.List.{ext_get_or, get_or-map, get_or-replicate, length-map, length-replicate, nil_from_length}
use Rattle.std.proofs.lemmas.List.FromFn.{get_or-map-range_with_len, length-map-range_with_len}
use Rattle.std.proofs.Math.Nat.{zero-mod}
use Rattle.sd_base.specs.Net.{Channel, Net, nowhere, channel_at, total}
use Rattle.sd_base.specs.Schedules.{Schedule, phases_at, count_of, end_of}
use Rattle.sd_base.specs.SelfTimed
use Rattle.sd_base.specs.SelfTimed.{earliest, ended_by, remaining_of, tokens_of, shape_of, shape_at}
use Rattle.sd_base.specs.Lawful.{Lawful}
use Rattle.sd_base.proofs.LawfulIsRegular.{regular}
use Rattle.sd_base.proofs.EndsDecideCounts.{ended-at-is}
use Rattle.selftimed.specs.declared.actors.ActorState.{ActorState}
use Rattle.selftimed.specs.declared.shape.Shape.{Shape}
use Rattle.selftimed.specs.inside.Actors.{idle, started_in, ended_in, running_in}
use Rattle.sd_base.proofs.SumsRepeatByTurns.{total-zero}
use Rattle.selftimed.specs.declared.engine.Stage.{Stage}
use Rattle.selftimed.specs.declared.engine.Stage.TheVariants.{Fresh, Running}
use Rattle.selftimed.specs.inside.Stands.{IsFresh, Stands}
use Rattle.selftimed.specs.EngineShapes.{form, first_shape}
use Rattle.selftimed.specs.inside.Standings.{phases_now, remaining_now, IsPast}
use Rattle.selftimed.proofs.MovesReachNextEvent.{inputs-from}

module _ (net : Net) (laws : Lawful net) (now most : ℕ) (actors : List ActorState) (tokens : List ℕ) (all : ℕ) (stands : Stands net now most actors tokens all) where
  abbrev s : Schedule
  s = earliest net (suc now)

  pub stands-past : IsPast now actors
  stands-past a k there below =
      let actor : a < length net.times = rw stands.stand.long at there in
      let counts : ended_in actors a + length (running_in actors a) ≡ started_in actors a = stands.stand.counts a actor in
      let ended = ended-at-is net (regular net laws) (inputs-from net stands.fed) now a in
      let later : now < end_of net s a (ended_in actors a + k) = ended.going (ended_in actors a + k) (omega (arith, stands.ended a actor)) (omega (arith, counts, stands.counts a actor)) in
      rw (stands.ends a k actor below) (omega arith)

  tokens-are : tokens ≡ map (tokens_of net now s) net.channels
  tokens-are = ext_get_or 0 tokens (map (tokens_of net now s) net.channels) (stands.stand.level.long ∙ sym (length-map net.channels (tokens_of net now s))) (λ i below.
      let place : i < length net.channels = rw stands.stand.level.long at below in
      let level : slice_index tokens i + total (channel_at net i).taken (started_in actors (channel_at net i).target) ≡ (channel_at net i).tokens + total (channel_at net i).made (ended_in actors (channel_at net i).source) = stands.stand.level.each i place in
      let here : slice_index tokens i + total (channel_at net i).taken (count_of s (channel_at net i).target) ≡ (channel_at net i).tokens + total (channel_at net i).made (ended_by net now s (channel_at net i).source) =
      rw (stands.counts (channel_at net i).target (laws.targets i place), stands.ended (channel_at net i).source (laws.sources i place)) at level in
      let read : slice_index (map (tokens_of net now s) net.channels) i ≡ tokens_of net now s (channel_at net i) = get_or-map (tokens_of net now s) net.channels i nowhere 0 place in
      rw read (omega arith))

  phases-are : phases_now net actors ≡ map (λ a. count_of s a % phases_at net a) (range_with_len 0 (length net.times))
  phases-are = ext_get_or 0 (phases_now net actors) (map (λ a. count_of s a % phases_at net a) (range_with_len 0 (length net.times)))
      (length-map-range_with_len (λ (a : ℕ). started_in actors a % phases_at net a) 0 (length net.times) ∙ sym (length-map-range_with_len (λ (a : ℕ). count_of s a % phases_at net a) 0 (length net.times)))
      (λ a below.
      let actor : a < length net.times = rw (length-map-range_with_len (λ (a : ℕ). started_in actors a % phases_at net a) 0 (length net.times)) at below in
      let left : slice_index (phases_now net actors) a ≡ started_in actors a % phases_at net a = get_or-map-range_with_len (λ (b : ℕ). started_in actors b % phases_at net b) 0 (length net.times) a a 0 actor (omega arith) in
      let right : slice_index (map (λ a. count_of s a % phases_at net a) (range_with_len 0 (length net.times))) a ≡ count_of s a % phases_at net a = get_or-map-range_with_len (λ (b : ℕ). count_of s b % phases_at net b) 0 (length net.times) a a 0 actor (omega arith) in
      left ∙ (ap (λ (n : ℕ). n % phases_at net a) (stands.counts a actor) ∙ sym right))

  times-are : (a : ℕ) → a < length net.times → map (λ e. e - now) (running_in actors a) ≡ remaining_of net now s a
  times-are a actor =
      let counts : ended_in actors a + length (running_in actors a) ≡ started_in actors a = stands.stand.counts a actor in
      let n : ℕ = count_of s a - ended_by net now s a in
      let long : length (running_in actors a) ≡ n = omega (arith, counts, stands.counts a actor, stands.ended a actor) in
      ext_get_or 0 (map (λ e. e - now) (running_in actors a)) (remaining_of net now s a)
      (length-map (running_in actors a) (λ e. e - now) ∙ (long ∙ sym (length-map-range_with_len (λ (k : ℕ). end_of net s a k - now) (ended_by net now s a) n)))
      (λ k below.
      let there : k < length (running_in actors a) = rw (length-map (running_in actors a) (λ (e : ℕ). e - now)) at below in
      let left : slice_index (map (λ e. e - now) (running_in actors a)) k ≡ slice_index (running_in actors a) k - now = get_or-map (λ (e : ℕ). e - now) (running_in actors a) k 0 0 there in
      let right : slice_index (remaining_of net now s a) k ≡ end_of net s a (ended_by net now s a + k) - now = get_or-map-range_with_len (λ (j : ℕ). end_of net s a j - now) (ended_by net now s a) n k (ended_by net now s a + k) 0 (rw long at there) refl in
      left ∙ (ap (λ (e : ℕ). e - now) (stands.ends a k actor there ∙ ap (λ (e : ℕ). end_of net s a (e + k)) (stands.ended a actor)) ∙ sym right))

  remaining-are : remaining_now now actors ≡ map (remaining_of net now s) (range_with_len 0 (length net.times))
  remaining-are = ext_get_or [] (remaining_now now actors) (map (remaining_of net now s) (range_with_len 0 (length net.times)))
      (length-map actors (λ (x : ActorState). map (λ e. e - now) x.running) ∙ (stands.stand.long ∙ sym (length-map-range_with_len (remaining_of net now s) 0 (length net.times))))
      (λ a below.
      let there : a < length actors = rw (length-map actors (λ (x : ActorState). map (λ e. e - now) x.running)) at below in
      let actor : a < length net.times = rw stands.stand.long at there in
      let left : slice_index_or (remaining_now now actors) a [] ≡ map (λ e. e - now) (running_in actors a) = get_or-map (λ (x : ActorState). map (λ e. e - now) x.running) actors a idle [] there in
      let right : slice_index_or (map (remaining_of net now s) (range_with_len 0 (length net.times))) a [] ≡ remaining_of net now s a = get_or-map-range_with_len (remaining_of net now s) 0 (length net.times) a a [] actor (omega arith) in
      left ∙ (times-are a actor ∙ sym right))

  shape-is : (ts ps : List ℕ) (rs : List (List ℕ)) → ts ≡ tokens → ps ≡ phases_now net actors → rs ≡ remaining_now now actors → form (record { tokens = ts; phases = ps; remaining = rs }) ≡ shape_at net now
  shape-is ts ps rs tokens_are phases_are remaining_are =
      let e : now + 1 ≡ suc now = omega arith in
      rw (e, tokens_are ∙ tokens-are, phases_are ∙ phases-are, remaining_are ∙ remaining-are) refl

  -- the lists that stand
  abbrev pub standing : Shape
  standing = record { tokens = tokens; phases = phases_now net actors; remaining = remaining_now now actors }

  pub stands-form : form standing ≡ shape_at net now
  stands-form = shape-is tokens (phases_now net actors) (remaining_now now actors) refl refl refl

-- what stands before the first event
module _ (net : Net) (laws : Lawful net) (most : ℕ) (actors : List ActorState) (tokens : List ℕ) (all : ℕ) (fresh : IsFresh net most actors tokens all) where
  none-runs : (a : ℕ) → a < length net.times → running_in actors a ≡ []
  none-runs a actor = nil_from_length (running_in actors a) (omega (arith, fresh.stand.counts a actor, fresh.started a actor))

  pub fresh-past : (moment : ℕ) → IsPast moment actors
  fresh-past moment a k there below =
      let actor : a < length net.times = rw fresh.stand.long at there in
      absurd (omega (arith, ap (λ (xs : List ℕ). length xs) (none-runs a actor)))

  first-tokens : tokens ≡ map (λ (c : Channel). c.tokens) net.channels
  first-tokens = ext_get_or 0 tokens (map (λ (c : Channel). c.tokens) net.channels) (fresh.stand.level.long ∙ sym (length-map net.channels (λ (c : Channel). c.tokens))) (λ i below.
      let place : i < length net.channels = rw fresh.stand.level.long at below in
      let level : slice_index tokens i + total (channel_at net i).taken (started_in actors (channel_at net i).target) ≡ (channel_at net i).tokens + total (channel_at net i).made (ended_in actors (channel_at net i).source) = fresh.stand.level.each i place in
      let target : started_in actors (channel_at net i).target ≡ 0 = fresh.started (channel_at net i).target (laws.targets i place) in
      let source : ended_in actors (channel_at net i).source ≡ 0 = omega (arith, fresh.stand.counts (channel_at net i).source (laws.sources i place), fresh.started (channel_at net i).source (laws.sources i place)) in
      let here : slice_index tokens i + total (channel_at net i).taken 0 ≡ (channel_at net i).tokens + total (channel_at net i).made 0 = rw (target, source) at level in
      let read : slice_index (map (λ (c : Channel). c.tokens) net.channels) i ≡ (channel_at net i).tokens = get_or-map (λ (c : Channel). c.tokens) net.channels i nowhere 0 place in
      omega (arith, read, here, total-zero (channel_at net i).taken, total-zero (channel_at net i).made))

  first-phases : phases_now net actors ≡ replicate (length net.times) 0
  first-phases = ext_get_or 0 (phases_now net actors) (replicate (length net.times) 0)
      (length-map-range_with_len (λ (a : ℕ). started_in actors a % phases_at net a) 0 (length net.times) ∙ sym (length-replicate {A = ℕ} (length net.times) 0))
      (λ a below.
      let actor : a < length net.times = rw (length-map-range_with_len (λ (a : ℕ). started_in actors a % phases_at net a) 0 (length net.times)) at below in
      let left : slice_index (phases_now net actors) a ≡ started_in actors a % phases_at net a = get_or-map-range_with_len (λ (b : ℕ). started_in actors b % phases_at net b) 0 (length net.times) a a 0 actor (omega arith) in
      let right : slice_index (replicate (length net.times) 0) a ≡ 0 = get_or-replicate {A = ℕ} (length net.times) a 0 0 actor in
      left ∙ (rw (fresh.started a actor) (zero-mod (phases_at net a)) ∙ sym right))

  first-remaining : (moment : ℕ) → remaining_now moment actors ≡ replicate (length net.times) []
  first-remaining moment = ext_get_or [] (remaining_now moment actors) (replicate (length net.times) [])
      (length-map actors (λ (x : ActorState). map (λ e. e - moment) x.running) ∙ (fresh.stand.long ∙ sym (length-replicate {A = List ℕ} (length net.times) [])))
      (λ a below.
      let there : a < length actors = rw (length-map actors (λ (x : ActorState). map (λ e. e - moment) x.running)) at below in
      let actor : a < length net.times = rw fresh.stand.long at there in
      let left : slice_index_or (remaining_now moment actors) a [] ≡ map (λ e. e - moment) (running_in actors a) = get_or-map (λ (x : ActorState). map (λ e. e - moment) x.running) actors a idle [] there in
      let right : slice_index_or (replicate (length net.times) []) a [] ≡ [] = get_or-replicate {A = List ℕ} (length net.times) a [] [] actor in
      left ∙ (ap (map (λ e. e - moment)) (none-runs a actor) ∙ sym right))

  pub fresh-form : (moment : ℕ) → form (record { tokens = tokens; phases = phases_now net actors; remaining = remaining_now moment actors }) ≡ first_shape net
  fresh-form moment = rw (first-tokens, first-phases, first-remaining moment) refl

-- where an engine stands, in its run or before it
module _ (net : Net) (laws : Lawful net) (stage : Stage) (now most : ℕ) (actors : List ActorState) (tokens : List ℕ) (all : ℕ) (fresh : stage ≡ Fresh → IsFresh net most actors tokens all) (stands : stage ≡ Running → Stands net now most actors tokens all) (here : (stage ≡ Fresh) ⊎ (stage ≡ Running)) where
  pub here-long : length actors ≡ length net.times
  here-long = ⊎_elim (λ (is : stage ≡ Fresh). (fresh is).stand.long) (λ (is : stage ≡ Running). (stands is).stand.long) here

  pub here-past : IsPast now actors
  here-past = ⊎_elim (λ (is : stage ≡ Fresh). fresh-past net laws most actors tokens all (fresh is) now) (λ (is : stage ≡ Running). stands-past net laws now most actors tokens all (stands is)) here

-- a shape that stands, compared with another one
module _ (tokens phases : List ℕ) (remaining : List (List ℕ)) (shape : SelfTimed.Shape) (is : form (record { tokens = tokens; phases = phases; remaining = remaining }) ≡ shape) where
  pub shape-read : (ts ps : List ℕ) (rs : List (List ℕ)) → ts ≡ tokens → ps ≡ phases → rs ≡ remaining → form (record { tokens = ts; phases = ps; remaining = rs }) ≡ shape
  shape-read ts ps rs tokens_are phases_are remaining_are = rw (tokens_are, phases_are, remaining_are) is

  pub shape-tokens : (other : Shape) → shape ≡ form other → tokens ≡ other.tokens
  shape-tokens other same = ap (λ (x : SelfTimed.Shape). x.tokens) (is ∙ same)

  pub shape-phases : (other : Shape) → shape ≡ form other → phases ≡ other.phases
  shape-phases other same = ap (λ (x : SelfTimed.Shape). x.phases) (is ∙ same)

  pub shape-remaining : (other : Shape) → shape ≡ form other → remaining ≡ other.remaining
  shape-remaining other same = ap (λ (x : SelfTimed.Shape). x.remaining) (is ∙ same)

  pub shape-same : (other : Shape) → tokens ≡ other.tokens → phases ≡ other.phases → remaining ≡ other.remaining → shape ≡ form other
  shape-same other tokens_are phases_are remaining_are = sym (shape-read other.tokens other.phases other.remaining (sym tokens_are) (sym phases_are) (sym remaining_are))
