use Rattle.std.proofs.Common.{◌<◌, rules, ◌+◌, List, length, sym, ap, ◌∙◌, subst, take, arith, refl}
use Rattle.std.specs.Prelude.{slice_index}
use Rattle.covers.specs.declared.survey.Toll.{Toll}
use Rattle.covers.specs.inside.Surveys.{AreTolls, Holds}
use Rattle.covers.proofs.BoundsNarrowNodes.{closed-here, narrow-here, tolls-all, tolls-more, tolls-past}
use Rattle.covers.proofs.survey.survey_node.Goals as goal
use Rattle.covers.proofs.survey.survey_node.Goals.{then-holds+in-Several+in_ok-push-in-Several, else-holds}

pub returns-in-Nowhere : goal.returns-in-Nowhere
returns-in-Nowhere c =
    let holds : Holds c.args.best.now c.args.node.now c.index-bounds-place.result = search rules in
    closed-here c.args.lattice.now c.args.bounds.now c.args.best.now c.args.node.now (slice_index c.args.acting.now c.loop-place.place-index) c.index-bounds-place.result (c.requires.below c.loop-place.place-index 0 (omega arith)) c.index-bounds-place.is holds c.in-Nowhere.ensures

pub returns-in-One : goal.returns-in-One
returns-in-One c =
    let holds : Holds c.args.best.now c.args.node.now c.index-bounds-place.result = search rules in
    narrow-here c.args.lattice.now c.args.bounds.now c.args.best.now c.args.node.now (slice_index c.args.acting.now c.loop-place.place-index) c.index-bounds-place.result c.in-One.way (c.requires.below c.loop-place.place-index 0 (omega arith)) c.index-bounds-place.is holds c.in-One.ensures

pub loop-place-preserved : goal.loop-place-preserved
loop-place-preserved c =
    let P = λ (tolls : List Toll). AreTolls c.args.lattice.now c.args.bounds.now c.args.best.now c.args.node.now (take (c.loop-place.place-index + 1) c.args.acting.now) tolls in
    let below : slice_index c.args.acting.now c.loop-place.place-index < length c.args.bounds.now = c.requires.below c.loop-place.place-index 0 (omega arith) in
    elim c.if-holds.branch [
      | then-holds+in-Several+in_ok-push-in-Several w ↦
          (let holds : Holds c.args.best.now c.args.node.now c.index-bounds-place.result = search rules in
          subst P (sym (ap (λ v. v.items) w.tolls-is ∙ w.in_ok-push-in-Several.ensures.items))
          (tolls-more c.args.lattice.now c.args.bounds.now c.args.best.now c.args.node.now c.args.acting.now c.loop-place.place-index c.index-bounds-place.result (record { cost = w.in-Several.cost; ways = w.in-Several.number; place = slice_index c.args.acting.now c.loop-place.place-index }) c.loop-place.tolls.items below c.index-bounds-place.is holds refl w.in-Several.ensures c.loop-place.invariant))
      | else-holds w ↦ subst P (sym (ap (λ v. v.items) w.tolls-is))
          (tolls-past c.args.lattice.now c.args.bounds.now c.args.best.now c.args.node.now c.args.acting.now c.loop-place.place-index c.index-bounds-place.result c.loop-place.tolls.items (omega arith) below c.index-bounds-place.is (λ h. search rules) c.loop-place.invariant)
    ]

pub returns : goal.returns
returns c = tolls-all c.args.lattice.now c.args.bounds.now c.args.best.now c.args.node.now c.args.acting.now c.loop-place.place-index c.loop-place.tolls.items (omega arith) c.loop-place.invariant
