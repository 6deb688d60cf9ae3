use Rattle.std.proofs.Common.{◌≡◌, ℕ, drop, Option, List, add-one, ap, sym, subst, ◌∙◌, true≢false}
use Rattle.std.specs.Prelude.{slice_index_or, Contains}
use Rattle.std.proofs.lemmas.Option.{same_Some}
use Rattle.explore.specs.declared.exploration.Member.{Member}
use Rattle.explore.specs.Explorations.{capacities_of}
use Rattle.cert_maker.proofs.MembersHavePlaces.{capacities-at, one-later}
use Rattle.cert_maker.proofs.points.place_of.Goals as goal

pub loop-place-preserved : goal.loop-place-preserved
loop-place-preserved c = λ one.
    let ms : List Member = c.args.members.now in
    let ds : List (Option ℕ) = c.args.capacities.now.capacities in
    let i : ℕ = c.loop-place.place in
    let m : Member = c.index-members-place.result in
    subst (λ (j : ℕ). Contains (drop j (capacities_of ms)) ds) (sym (add-one i))
    (one-later (capacities_of ms) i ds (c.loop-place.invariant one) (λ at.
    let same : (slice_index_or ms i m).capacities.capacities ≡ ds = same_Some (slice_index_or ms i m).capacities.capacities ds (sym (capacities-at ms i m c.loop-place-test.true) ∙ at) in
    true≢false (sym (c.has.ensures.1 (ap (λ (x : Member). x.capacities.capacities) c.index-members-place.is ∙ same)) ∙ c.if-has.false)))
