-- The shapes of two executions are alike where all their actors are.
use Rattle.std.proofs.Common.{◌≡◌, ◌≢◌, ℕ, ◌-◌, ◌%◌, ◌≤◌, ◌<◌, List, [], length, map, sym, ap, ◌∙◌, arith}
use Rattle.std.specs.Prelude.{slice_index, slice_index_or}
use Rattle.std.proofs.lemmas.List.{ext_get_or, get_or-map, length-map}
use Rattle.std.proofs.lemmas.List.FromFn.{length-map-range_with_len}
use Rattle.sd_base.specs.Net.{Net}
use Rattle.sd_base.specs.Schedules.{phases_at}
use Rattle.selftimed.specs.declared.actors.ActorState.{ActorState}
use Rattle.selftimed.specs.inside.Actors.{idle, started_in, running_in}
use Rattle.selftimed.specs.inside.Standings.{phases_now, remaining_now}
use Rattle.selftimed.proofs.ShapesFollowActors.{phase-at}

-- the first n actors' next firings are in the same phases
abbrev pub PhasesAgree : Net → List ActorState → List ActorState → ℕ → Type 0
PhasesAgree net left right n = (a : ℕ) → a < n → started_in left a % phases_at net a ≡ started_in right a % phases_at net a

pub phases-agree : (net : Net) (left right : List ActorState) (n : ℕ) → length net.times ≤ n → PhasesAgree net left right n → phases_now net left ≡ phases_now net right
phases-agree net left right n whole agree = ext_get_or 0 (phases_now net left) (phases_now net right)
    (length-map-range_with_len (λ (a : ℕ). started_in left a % phases_at net a) 0 (length net.times) ∙ sym (length-map-range_with_len (λ (a : ℕ). started_in right a % phases_at net a) 0 (length net.times)))
    (λ a below.
    let actor : a < length net.times = rw (length-map-range_with_len (λ (a : ℕ). started_in left a % phases_at net a) 0 (length net.times)) at below in
    phase-at net left a actor ∙ (agree a (omega arith) ∙ sym (phase-at net right a actor)))

pub phases-apart : (net : Net) (left right : List ActorState) (a : ℕ) → a < length net.times → started_in left a % phases_at net a ≢ started_in right a % phases_at net a → phases_now net left ≢ phases_now net right
phases-apart net left right a actor away same = away (sym (phase-at net left a actor) ∙ (ap (λ (xs : List ℕ). slice_index xs a) same ∙ phase-at net right a actor))

-- the times left of the first n actors' running firings are the same
abbrev pub TimesAgree : ℕ → List ActorState → ℕ → List ActorState → ℕ → Type 0
TimesAgree now left then right n = (a : ℕ) → a < n → map (λ e. e - now) (running_in left a) ≡ map (λ e. e - then) (running_in right a)

times-at : (now : ℕ) (actors : List ActorState) (a : ℕ) → a < length actors → slice_index_or (remaining_now now actors) a [] ≡ map (λ e. e - now) (running_in actors a)
times-at now actors a place = get_or-map (λ (s : ActorState). map (λ e. e - now) s.running) actors a idle [] place

pub times-agree : (now : ℕ) (left : List ActorState) (then : ℕ) (right : List ActorState) (n : ℕ) → length left ≤ n → length right ≡ length left → TimesAgree now left then right n → remaining_now now left ≡ remaining_now then right
times-agree now left then right n whole long agree = ext_get_or [] (remaining_now now left) (remaining_now then right)
    (length-map left (λ (s : ActorState). map (λ e. e - now) s.running) ∙ (sym long ∙ sym (length-map right (λ (s : ActorState). map (λ e. e - then) s.running))))
    (λ a below.
    let place : a < length left = rw (length-map left (λ (s : ActorState). map (λ e. e - now) s.running)) at below in
    times-at now left a place ∙ (agree a (omega arith) ∙ sym (times-at then right a (omega arith))))

pub times-apart : (now : ℕ) (left : List ActorState) (then : ℕ) (right : List ActorState) (a : ℕ) → a < length left → length right ≡ length left → map (λ e. e - now) (running_in left a) ≢ map (λ e. e - then) (running_in right a) → remaining_now now left ≢ remaining_now then right
times-apart now left then right a place long away same = away (sym (times-at now left a place) ∙ (ap (λ (xs : List (List ℕ)). slice_index_or xs a []) same ∙ times-at then right a (omega arith)))
