-- How the sum of ends changes, and what it says of the times left.
use Rattle.std.proofs.Common.{◌≡◌, ℕ, suc, ◌+◌, ◌-◌, ◌*◌, ◌%◌, ◌^◌, ◌≤◌, ◌<◌, List, [], ◌∷◌, ◌++◌, length, map, replicate, take, sym, refl, ap, ◌∙◌, arith}
use Rattle.std.specs.Prelude.{slice_index, slice_index_or, sum}
use Rattle.std.proofs.Math.Nat.{mul-add}
use Rattle.std.proofs.lemmas.Nat.{mul-mod_second}
use Rattle.std.proofs.lemmas.List.{length-map, length-take-le, map_push}
use Rattle.std.proofs.lemmas.List.Folds.{sum_by-replicate}
use Rattle.std.proofs.lemmas.List.Sums.{sum_by-append, sum_by-cons}
use Rattle.selftimed.specs.declared.actors.ActorState.{ActorState}
use Rattle.selftimed.specs.inside.Actors.{idle}
use Rattle.selftimed.specs.inside.Standings.{remaining_now}
use Rattle.selftimed.specs.Fingerprints.{weight, fingerprint_of, running_fingerprint_of}
use Rattle.selftimed.proofs.FingerprintsFollowTokens.{mod-less, mod-sum, fingerprint-push}
use Rattle.selftimed.proofs.ShapesFollowActors.{remaining-more}

-- ---- the sum of ends

pub total-run : (ends : List ℕ) (total end n : ℕ) → total ≡ sum ends % 2 ^ 64 → (total + (end * n) % 2 ^ 64) % 2 ^ 64 ≡ sum (ends ++ replicate n end) % 2 ^ 64
total-run ends total end n is =
    let more : sum (ends ++ replicate n end) ≡ sum ends + end * n = sum_by-append (λ (x : ℕ). x) ends (replicate n end) ∙ (ap (λ (x : ℕ). sum ends + x) (sum_by-replicate (λ (x : ℕ). x) n end) ∙ omega arith) in
    rw is (mod-sum (sum ends) (end * n) (2 ^ 64) ∙ ap (λ (x : ℕ). x % 2 ^ 64) (sym more))

pub total-pop : (all front back : List ℕ) (total past : ℕ) → front ++ back ≡ all → total ≡ sum all % 2 ^ 64 → past ≡ sum front % 2 ^ 64 → (total + (2 ^ 64 - past)) % 2 ^ 64 ≡ sum back % 2 ^ 64
total-pop all front back total past parts is was =
    let sums : sum front + sum back ≡ sum all = sym (sum_by-append (λ (x : ℕ). x) front back) ∙ ap sum parts in
    rw (is, was) (mod-less (sum all) (sum back) (sum front) (2 ^ 64) (omega arith) (omega (arith, sums)))

-- ---- the times left

left-sum : (moment : ℕ) (ends : List ℕ) → ((k : ℕ) → k < length ends → moment ≤ slice_index ends k) → sum (map (λ e. e - moment) ends) + moment * length ends ≡ sum ends
left-sum moment [] past = omega arith
left-sum moment (e ∷ es) past =
    let here : moment ≤ e = past 0 (omega arith) in
    let rest : sum (map (λ x. x - moment) es) + moment * length es ≡ sum es = left-sum moment es (λ k below. past (suc k) (omega arith)) in
    let one : suc (length es) ≡ length es + 1 = omega arith in
    let times : moment * suc (length es) ≡ moment * length es + moment * 1 = ap (λ (n : ℕ). moment * n) one ∙ mul-add moment (length es) 1 in
    let left : sum ((e - moment) ∷ map (λ x. x - moment) es) ≡ (e - moment) + sum (map (λ x. x - moment) es) = sum_by-cons (λ (x : ℕ). x) (e - moment) (map (λ x. x - moment) es) in
    let all : sum (e ∷ es) ≡ e + sum es = sum_by-cons (λ (x : ℕ). x) e es in
    omega (arith, here, rest, times, left, all)

pub left-total : (moment total : ℕ) (ends : List ℕ) → ((k : ℕ) → k < length ends → moment ≤ slice_index ends k) → total ≡ sum ends % 2 ^ 64 →
    (total + (2 ^ 64 - (moment * length ends) % 2 ^ 64)) % 2 ^ 64 ≡ sum (map (λ e. e - moment) ends) % 2 ^ 64
left-total moment total ends past is =
    rw is (mod-less (sum ends) (sum (map (λ e. e - moment) ends)) (moment * length ends) (2 ^ 64) (omega arith) (left-sum moment ends past))

-- ---- the fingerprint of one more actor's running firings

pub running-more : (moment : ℕ) (actors : List ActorState) (a : ℕ) (one : ActorState) (fingerprint w left add : ℕ) → a < length actors → slice_index_or actors a idle ≡ one →
    fingerprint ≡ running_fingerprint_of (remaining_now moment (take a actors)) → w ≡ weight a → left ≡ sum (map (λ e. e - moment) one.running) % 2 ^ 64 → add ≡ (w * left) % 2 ^ 64 →
    (fingerprint + add) % 2 ^ 64 ≡ running_fingerprint_of (remaining_now moment (take (a + 1) actors))
running-more moment actors a one fingerprint w left add place read is weighs times added =
    let row : List ℕ = map (λ e. e - moment) one.running in
    let rows : List (List ℕ) = remaining_now moment (take a actors) in
    let more : rows ++ row ∷ [] ≡ remaining_now moment (take (a + 1) actors) = remaining-more moment actors a one one.running row rows (rows ++ row ∷ []) place read refl refl refl refl in
    let sums : map sum (rows ++ row ∷ []) ≡ map sum rows ++ sum row ∷ [] = map_push sum rows row in
    let long : length (map sum rows) ≡ a = length-map rows sum ∙ (length-map (take a actors) (λ (s : ActorState). map (λ e. e - moment) s.running) ∙ length-take-le a actors (omega arith)) in
    let add_is : add ≡ (w * sum row) % 2 ^ 64 = added ∙ (ap (λ (y : ℕ). (w * y) % 2 ^ 64) times ∙ mul-mod_second w (sum row) (2 ^ 64)) in
    fingerprint-push (map sum rows) (sum row) fingerprint w add is (weighs ∙ ap weight (sym long)) add_is ∙ (ap fingerprint_of (sym sums) ∙ ap running_fingerprint_of more)
