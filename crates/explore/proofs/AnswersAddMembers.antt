-- Each answer of a level adds one member, with its distribution and its cycle.
use Rattle.std.proofs.Common.{◌≡◌, ℕ, ◌+◌, ◌<◌, Option, List, [], ◌∷◌, ◌++◌, append_assoc, Result, drop, length, sym, ap, ◌∙◌, arith}
use Rattle.std.specs.Prelude.{slice_index_or}
use Rattle.std.proofs.lemmas.List.{drop_more, length-append, map-append}
use Rattle.lasso.specs.RunError.{RunError}
use Rattle.storage.specs.declared.distribution.Distribution.{Distribution}
use Rattle.evaluations.specs.declared.evaluating.Answered.{Answered}
use Rattle.evaluations.specs.declared.rated.Rated.{Rated}
use Rattle.evaluations.specs.Evaluating.{sum_of}
use Rattle.evaluations.specs.ShownCycles.{shows_cycle}
use Rattle.evaluations.proofs.FreshTasksFinish.{sum-more}
use Rattle.explore.specs.declared.exploration.Member.{Member}
use Rattle.explore.specs.Explorations.{capacities_of, cycles_in}
use Rattle.explore.specs.inside.Searches.{IsMemberAdded, answered_of}
use Rattle.explore.proofs.MembersStayKnown.{cycles-more}

-- the distributions of the answers that are left begin with that of the next one
pub rest-more : (answers : List Answered) (n : ℕ) (a : Answered) → n < length answers → a ≡ slice_index_or answers n a → answered_of (drop n answers) ≡ a.capacities.capacities ∷ answered_of (drop (n + 1) answers)
rest-more answers n a below is =
    ap answered_of (drop_more answers n a below)
    ∙ ap (λ (x : Answered). x.capacities.capacities ∷ answered_of (drop (n + 1) answers)) (sym is)

pub many-same : (old ms new : List Member) (done : List Answered) (a : Answered) → IsMemberAdded a ms new → length ms ≡ length old + length done → length new ≡ length old + length (done ++ a ∷ [])
many-same old ms new done a is same =
    let added : length new ≡ length (ms ++ is.member ∷ []) = ap (λ (xs : List Member). length xs) is.added in
    omega (arith, added, same, length-append ms (is.member ∷ []), length-append done (a ∷ []))

pub capacities-same : (old ms new : List Member) (done : List Answered) (a : Answered) → IsMemberAdded a ms new → capacities_of ms ≡ capacities_of old ++ answered_of done → capacities_of new ≡ capacities_of old ++ answered_of (done ++ a ∷ [])
capacities-same old ms new done a is same =
    ap capacities_of is.added
    ∙ (map-append (λ (m : Member). m.capacities.capacities) ms (is.member ∷ [])
    ∙ (ap (λ (ds : List (Option ℕ)). capacities_of ms ++ ds ∷ []) (ap (λ (d : Distribution). d.capacities) is.capacities)
    ∙ (ap (λ (dss : List (List (Option ℕ))). dss ++ a.capacities.capacities ∷ []) same
    ∙ (append_assoc (capacities_of old) (answered_of done) (a.capacities.capacities ∷ [])
    ∙ ap (λ (dss : List (List (Option ℕ))). capacities_of old ++ dss) (sym (map-append (λ (x : Answered). x.capacities.capacities) done (a ∷ [])))))))

pub cycles-same : (f : Result Rated RunError → ℕ) (old ms new : List Member) (done : List Answered) (a : Answered) → (is : IsMemberAdded a ms new) → shows_cycle is.member.shown ≡ f a.answer → cycles_in ms ≡ cycles_in old + sum_of f done → cycles_in new ≡ cycles_in old + sum_of f (done ++ a ∷ [])
cycles-same f old ms new done a is loops same =
    let added : cycles_in new ≡ cycles_in ms + shows_cycle is.member.shown = ap cycles_in is.added ∙ cycles-more ms is.member in
    omega (arith, added, loops, same, sum-more f done a)
