-- The lists of a shape have, actor by actor, the phase and the times left of each actor.
use Rattle.std.proofs.Common.{◌≡◌, ◌≢◌, ℕ, ◌+◌, ◌-◌, ◌%◌, ◌≤◌, ◌<◌, List, [], ◌∷◌, ◌++◌, length, map, take, sym, refl, ap, ◌∙◌, arith}
use Rattle.std.specs.Prelude.{slice_index, slice_index_or}
use Rattle.std.specs.List.{range_with_len}
use Rattle.std.proofs.lemmas.List.{get_or-map, length-map, map_push, take_more, take_more_same, take-map}
use Rattle.std.proofs.lemmas.List.FromFn.{get_or-map-range_with_len, length-map-range_with_len, map-range_with_len_more}
use Rattle.sd_base.specs.Net.{Net}
use Rattle.sd_base.specs.Schedules.{phases_at}
use Rattle.selftimed.specs.declared.actors.ActorState.{ActorState}
use Rattle.selftimed.specs.inside.Actors.{idle, started_in, running_in}
use Rattle.selftimed.specs.inside.Standings.{phases_now, remaining_now, IsPast}

-- ---- phases

pub phases-length : (net : Net) (actors : List ActorState) (phases : List ℕ) → length actors ≡ length net.times → phases_now net actors ≡ phases → length phases ≡ length actors
phases-length net actors phases long same = ap length (sym same) ∙ (length-map-range_with_len (λ (a : ℕ). started_in actors a % phases_at net a) 0 (length net.times) ∙ sym long)

pub phase-at : (net : Net) (actors : List ActorState) (a : ℕ) → a < length net.times → slice_index (phases_now net actors) a ≡ started_in actors a % phases_at net a
phase-at net actors a below = get_or-map-range_with_len (λ (b : ℕ). started_in actors b % phases_at net b) 0 (length net.times) a a 0 below (omega arith)

module _ (net : Net) (actors : List ActorState) (a phase : ℕ) (one : ActorState) (read : slice_index_or actors a idle ≡ one) (is : phase ≡ one.started % phases_at net a) where
  pub phase-is : phase ≡ started_in actors a % phases_at net a
  phase-is = is ∙ ap (λ (s : ActorState). s.started % phases_at net a) (sym read)

  pub phases-more : (rows new : List ℕ) → rows ≡ map (λ b. started_in actors b % phases_at net b) (range_with_len 0 a) → new ≡ rows ++ phase ∷ [] → new ≡ map (λ b. started_in actors b % phases_at net b) (range_with_len 0 (a + 1))
  phases-more rows new rows_are push =
      let more : map (λ b. started_in actors b % phases_at net b) (range_with_len 0 (a + 1)) ≡ map (λ b. started_in actors b % phases_at net b) (range_with_len 0 a) ++ (started_in actors a % phases_at net a) ∷ [] = map-range_with_len_more (λ (b : ℕ). started_in actors b % phases_at net b) 0 a a (omega arith) in
      rw (push, rows_are, phase-is) (sym more)

  pub phases-differ : (phases : List ℕ) → a < length net.times → phase ≢ slice_index phases a → phases_now net actors ≢ phases
  phases-differ phases below away same = away (phase-is ∙ (sym (phase-at net actors a below) ∙ ap (λ (xs : List ℕ). slice_index xs a) same))

  pub phases-same : (phases : List ℕ) → a < length phases → map (λ b. started_in actors b % phases_at net b) (range_with_len 0 a) ≡ take a phases → phase ≡ slice_index phases a → map (λ b. started_in actors b % phases_at net b) (range_with_len 0 (a + 1)) ≡ take (a + 1) phases
  phases-same phases below rows_are here =
      let more : map (λ b. started_in actors b % phases_at net b) (range_with_len 0 (a + 1)) ≡ map (λ b. started_in actors b % phases_at net b) (range_with_len 0 a) ++ (started_in actors a % phases_at net a) ∷ [] = map-range_with_len_more (λ (b : ℕ). started_in actors b % phases_at net b) 0 a a (omega arith) in
      let then : take (a + 1) phases ≡ take a phases ++ slice_index phases a ∷ [] = take_more phases a 0 below in
      rw (more, then, rows_are, ← phase-is, here) refl

-- ---- remaining times

pub past-at : (moment : ℕ) (actors : List ActorState) (a : ℕ) (one : ActorState) (ends : List ℕ) → IsPast moment actors → a < length actors → slice_index_or actors a idle ≡ one → ends ≡ one.running →
    (k : ℕ) → k < length ends → moment ≤ slice_index ends k
past-at moment actors a one ends past place read is k below =
    let same : ends ≡ running_in actors a = is ∙ ap (λ (s : ActorState). s.running) (sym read) in
    rw same (past a k place (rw same at below))

pub remaining-more : (moment : ℕ) (actors : List ActorState) (a : ℕ) (one : ActorState) (ends row : List ℕ) (rows new : List (List ℕ)) → a < length actors → slice_index_or actors a idle ≡ one → ends ≡ one.running → row ≡ map (λ e. e - moment) ends →
    rows ≡ remaining_now moment (take a actors) → new ≡ rows ++ row ∷ [] → new ≡ remaining_now moment (take (a + 1) actors)
remaining-more moment actors a one ends row rows new place read is row_is rows_are push =
    let more : take (a + 1) actors ≡ take a actors ++ one ∷ [] = take_more actors a idle place ∙ ap (λ (s : ActorState). take a actors ++ s ∷ []) read in
    let pushed : remaining_now moment (take a actors ++ one ∷ []) ≡ remaining_now moment (take a actors) ++ map (λ e. e - moment) one.running ∷ [] = map_push (λ (s : ActorState). map (λ e. e - moment) s.running) (take a actors) one in
    rw (push, rows_are, row_is, is, more) (sym pushed)

module _ (moment : ℕ) (actors : List ActorState) (remaining : List (List ℕ)) (a : ℕ) (one : ActorState) (ends times : List ℕ) (place : a < length actors) (there : a < length remaining) (read : slice_index_or actors a idle ≡ one) (is : ends ≡ one.running) (row : slice_index_or remaining a [] ≡ times) where
  here : slice_index_or (remaining_now moment actors) a [] ≡ map (λ e. e - moment) ends
  here = get_or-map (λ (s : ActorState). map (λ e. e - moment) s.running) actors a idle [] place ∙ ap (map (λ e. e - moment)) (ap (λ (s : ActorState). s.running) read ∙ sym is)

  pub remaining-differ : map (λ e. e - moment) ends ≢ times → remaining_now moment actors ≢ remaining
  remaining-differ away same = away (sym here ∙ (ap (λ (xs : List (List ℕ)). slice_index_or xs a []) same ∙ row))

  pub remaining-same : remaining_now moment (take a actors) ≡ take a remaining → map (λ e. e - moment) ends ≡ times → remaining_now moment (take (a + 1) actors) ≡ take (a + 1) remaining
  remaining-same so_far same =
      let before : take a (remaining_now moment actors) ≡ remaining_now moment (take a actors) = take-map (λ (s : ActorState). map (λ e. e - moment) s.running) a actors in
      let after : take (a + 1) (remaining_now moment actors) ≡ remaining_now moment (take (a + 1) actors) = take-map (λ (s : ActorState). map (λ e. e - moment) s.running) (a + 1) actors in
      let long : length (remaining_now moment actors) ≡ length actors = length-map actors (λ (s : ActorState). map (λ e. e - moment) s.running) in
      sym after ∙ take_more_same (remaining_now moment actors) remaining a [] (rw long place) there (before ∙ so_far) (here ∙ (same ∙ sym row))
