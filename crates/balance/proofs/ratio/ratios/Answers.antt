use Rattle.std.proofs.Common.{◌≡◌, ◌<◌, ◌≤◌, ◌⊎◌, List, length, replicate, sym, subst, refl, ap, ◌∙◌, inl, inr, arith}
use Rattle.std.specs.Prelude.{MatchOption}
use Rattle.std.proofs.lemmas.Option.{slice_get_read}
use Rattle.balance.specs.declared.walk.WalkStep.{WalkStep}
use Rattle.balance.specs.declared.ratio.Ratio.{Ratio}
use Rattle.balance.specs.declared.search.Found.{Found}
use Rattle.balance.specs.inside.Search.{IsWayAt}
use Rattle.balance.specs.inside.Ratios.{one, IsRatedStep}
use Rattle.balance.proofs.WaysGetRatios.{IsRating, IsStepped, rating_start, rating_ready, rating_within, rating_more, rating_above, rating_all}
use Rattle.balance.proofs.ratio.ratios.Goals as goal

pub loop-place-init : goal.loop-place-init
loop-place-init c =
    let s = c.args.search.now in
    let size : c.len.result ≡ length s.seen.items = omega (arith, c.len.ensures, s.seen.ok.0) in
    let e : c.in_ok-ratios.ratios.items ≡ replicate (length s.seen.items) one = c.in_ok-ratios.ensures.ok ∙ ap (λ n. replicate n one) size in
    subst (λ (rs : List Ratio). IsRating c.args.links.now (length s.seen.items) s.found.items s.seen.items rs 0) (sym e)
    (rating_start c.args.links.now (length s.seen.items) s.found.items s.seen.items c.requires.tree)

pub way_ratio-ratio-requires-clause-rated : goal.way_ratio-ratio-requires-clause-rated
way_ratio-ratio-requires-clause-rated c =
    let s = c.args.search.now in
    let x : Found = c.index-found.result.now in
    let at = slice_get_read s.found.items (length s.found.items) c.loop-place.place x refl (omega (arith, c.loop-place-test.true, c.len-place-end.ensures, s.found.ok.0)) c.index-found.ensures in
    subst (λ (rs : List Ratio). MatchOption x.reach (Unit {0}) (λ r. IsRatedStep c.args.links.now rs r.step)) (sym c.deref.ensures.value)
    (rating_ready c.args.links.now (length s.seen.items) s.found.items s.seen.items c.loop-place.ratios.items c.loop-place.place x c.loop-place.invariant at)

pub returns-then-ratio-gt-RATIO_LIMIT-clause-refusal : goal.returns-then-ratio-gt-RATIO_LIMIT-clause-refusal
returns-then-ratio-gt-RATIO_LIMIT-clause-refusal c =
    let s = c.args.search.now in
    let x : Found = c.index-found.result.now in
    let q : Ratio = c.way_ratio-ratio.result in
    let at = slice_get_read s.found.items (length s.found.items) c.loop-place.place x refl (omega (arith, c.loop-place-test.true, c.len-place-end.ensures, s.found.ok.0)) c.index-found.ensures in
    let gives : MatchOption x.reach (q ≡ one) (λ r. IsStepped c.args.links.now c.loop-place.ratios.items r.step q) =
    subst (λ (rs : List Ratio). MatchOption x.reach (q ≡ one) (λ r. IsStepped c.args.links.now rs r.step q)) c.deref.ensures.value c.way_ratio-ratio.ensures in
    let over : (100000 < q.num) ⊎ (100000 < q.den) = elim c.then-ratio-gt-RATIO_LIMIT.either [ inl h ↦ inl h | inr h ↦ inr h.1 ] in
    let way : IsWayAt s.found.items c.loop-place.place c.from_vec.result =
    subst (λ (w : List WalkStep). IsWayAt s.found.items c.loop-place.place w) (sym c.from_vec.ensures)
    (subst (λ (found : List Found). IsWayAt found c.loop-place.place c.in_ok-path.path.items) c.deref-then-ratio-gt-RATIO_LIMIT.ensures.value c.in_ok-path.ensures) in
    rating_above c.args.links.now (length s.seen.items) s.found.items s.seen.items c.loop-place.ratios.items c.loop-place.place x q c.from_vec.result
    c.requires.sums c.loop-place.invariant at gives over way

pub index_mut-requires : goal.index_mut-requires
index_mut-requires c =
    let s = c.args.search.now in
    let x : Found = c.index-found.result.now in
    let at = slice_get_read s.found.items (length s.found.items) c.loop-place.place x refl (omega (arith, c.loop-place-test.true, c.len-place-end.ensures, s.found.ok.0)) c.index-found.ensures in
    let lt = rating_within c.args.links.now (length s.seen.items) s.found.items s.seen.items c.loop-place.ratios.items c.loop-place.place x c.loop-place.invariant at in
    omega (arith, lt, c.loop-place.ratios.ok.0)

pub loop-place-preserved : goal.loop-place-preserved
loop-place-preserved c =
    let s = c.args.search.now in
    let x : Found = c.index-found.result.now in
    let q : Ratio = c.way_ratio-ratio.result in
    let at = slice_get_read s.found.items (length s.found.items) c.loop-place.place x refl (omega (arith, c.loop-place-test.true, c.len-place-end.ensures, s.found.ok.0)) c.index-found.ensures in
    let gives : MatchOption x.reach (q ≡ one) (λ r. IsStepped c.args.links.now c.loop-place.ratios.items r.step q) =
    subst (λ (rs : List Ratio). MatchOption x.reach (q ≡ one) (λ r. IsStepped c.args.links.now rs r.step q)) c.deref.ensures.value c.way_ratio-ratio.ensures in
    rating_more c.args.links.now (length s.seen.items) s.found.items s.seen.items c.loop-place.ratios.items c.loop-place.place x q
    c.requires.sums c.loop-place.invariant at gives c.if-ratio-gt-RATIO_LIMIT.false c.if-ratio-gt-RATIO_LIMIT-2.false

pub returns-clause-ok : goal.returns-clause-ok
returns-clause-ok c =
    let s = c.args.search.now in
    let all : length s.found.items ≤ c.loop-place.place = omega (arith, c.loop-place-test.false, c.len-place-end.ensures, s.found.ok.0) in
    rating_all c.args.links.now (length s.seen.items) s.found.items s.seen.items c.loop-place.ratios.items c.loop-place.place c.loop-place.invariant all c.requires.connected
