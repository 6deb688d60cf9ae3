use Rattle.std.proofs.Common.{◌≡◌, ℕ, List, rules, subst, sym}
use Rattle.std.specs.Prelude.{All, Contains, slice_index}
use Rattle.std.proofs.lemmas.Result.{IfOk-weaker}
use Rattle.storage.specs.ShownSpaces.{ShowsSpace}
use Rattle.evaluations.specs.declared.shown.Shown.TheVariants.{Blocked}
use Rattle.pareto_search.specs.inside.Knowledge.{BoundsOn}
use Rattle.pareto_search.specs.inside.Vectors.{vector_of}
use Rattle.pareto_search.specs.inside.Waits.{StopsAll}
use Rattle.pareto_search.proofs.BoundingChannels.{all-contained, cycle-bounds, shown-among, shown-blocked, vector-evaluable, wait-bounds}
use Rattle.pareto_search.proofs.waits.bounding_of.Goals as goal

pub returns-in-Cycle-clause-shown : goal.returns-in-Cycle-clause-shown
returns-in-Cycle-clause-shown g c =
    let shown = c.args.rated.now.enlarge in
    IfOk-weaker c.copy_of.result (λ v. v ≡ shown) (λ v. All (Contains shown) v) (λ v same. subst (All (Contains shown)) (sym same) (all-contained shown)) c.copy_of.ensures

pub returns-in-Cycle-clause-bounds : goal.returns-in-Cycle-clause-bounds
returns-in-Cycle-clause-bounds g c =
    let shown = c.args.rated.now.enlarge in
    let of : List ℕ → Type 0 = BoundsOn (g.F.Firing.net c.args.base.now.exploring.now.net.now) c.args.base.now.corner.now.capacities c.args.base.now.lattice.now (vector_of c.args.capacities.now.capacities) c.args.rated.now.rate in
    IfOk-weaker c.copy_of.result (λ v. v ≡ shown) (λ v. BoundsOn (g.F.Firing.net c.args.base.now.exploring.now.net.now) c.args.base.now.corner.now.capacities c.args.base.now.lattice.now (vector_of c.args.capacities.now.capacities) c.args.rated.now.rate v)
    (λ v same. subst of (sym same) (cycle-bounds (g.F.Firing.net c.args.base.now.exploring.now.net.now) c.args.base.now.exploring.now.limits c.args.base.now.corner.now.capacities c.args.base.now.lattice.now c.requires.stands c.args.capacities.now.capacities c.requires.among c.requires.flat c.requires.evaluated.0 c.requires.evaluated.1.0 c.args.rated.now c.requires.evaluated.1.1 c.requires.evaluated.1.2)) c.copy_of.ensures

pub waiting_spaces-requires-clause-fits : goal.waiting_spaces-requires-clause-fits
waiting_spaces-requires-clause-fits g c = vector-evaluable (g.F.Firing.net c.args.base.now.exploring.now.net.now) c.args.base.now.exploring.now.limits c.args.base.now.corner.now.capacities c.args.base.now.lattice.now c.requires.stands c.args.capacities.now.capacities c.requires.among c.requires.flat

pub waiting_spaces-requires-clause-blocked : goal.waiting_spaces-requires-clause-blocked
waiting_spaces-requires-clause-blocked g c =
    let shown : c.args.rated.now.shown ≡ Blocked c.as_slice.result.now = search rules in
    let is = shown-blocked (g.F.Firing.net c.args.base.now.exploring.now.net.now) c.args.capacities.now.capacities c.args.base.now.exploring.now.limits.states c.requires.evaluated.0 c.requires.evaluated.1.0 c.args.rated.now c.as_slice.result.now c.requires.evaluated.1.1 c.requires.evaluated.1.2 shown in
    (is.0, is.1.blocked)

pub returns-in-Blocked-clause-shown : goal.returns-in-Blocked-clause-shown
returns-in-Blocked-clause-shown g c =
    let counts = c.as_slice.result.now in
    let shown : c.args.rated.now.shown ≡ Blocked c.as_slice.result.now = search rules in
    let is = shown-blocked (g.F.Firing.net c.args.base.now.exploring.now.net.now) c.args.capacities.now.capacities c.args.base.now.exploring.now.limits.states c.requires.evaluated.0 c.requires.evaluated.1.0 c.args.rated.now c.as_slice.result.now c.requires.evaluated.1.1 c.requires.evaluated.1.2 shown in
    IfOk-weaker c.waiting_spaces.result (λ v. All (ShowsSpace (g.F.Firing.net c.args.base.now.exploring.now.net.now) c.args.capacities.now.capacities (slice_index counts)) v) (λ v. All (Contains c.args.rated.now.enlarge) v)
    (λ v shows. shown-among (g.F.Firing.net c.args.base.now.exploring.now.net.now) c.args.capacities.now.capacities c.requires.evaluated.0 c.requires.evaluated.1.0 c.args.rated.now counts is.0 c.requires.evaluated.1.2 is.1 v shows) c.waiting_spaces.ensures.shown

pub returns-in-Blocked-clause-bounds : goal.returns-in-Blocked-clause-bounds
returns-in-Blocked-clause-bounds g c =
    IfOk-weaker c.waiting_spaces.result (λ v. StopsAll (g.F.Firing.net c.args.base.now.exploring.now.net.now) c.args.capacities.now.capacities v) (λ v. BoundsOn (g.F.Firing.net c.args.base.now.exploring.now.net.now) c.args.base.now.corner.now.capacities c.args.base.now.lattice.now (vector_of c.args.capacities.now.capacities) c.args.rated.now.rate v)
    (λ v stops. wait-bounds (g.F.Firing.net c.args.base.now.exploring.now.net.now) c.args.base.now.exploring.now.limits c.args.base.now.corner.now.capacities c.args.base.now.lattice.now c.requires.stands c.args.capacities.now.capacities c.requires.among c.requires.flat c.args.rated.now.rate v stops) c.waiting_spaces.ensures.stops
