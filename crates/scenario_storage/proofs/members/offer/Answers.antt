use Rattle.std.proofs.Common.{◌≤◌, ℕ, refl, subst, sym}
use Rattle.std.specs.Prelude.{All}
use Rattle.std.proofs.lemmas.Result.{on_ok_weaker}
use Rattle.scenario_storage.specs.declared.blocked.Blocked.{Blocked}
use Rattle.scenario_storage.specs.declared.point.ScenarioPoint.{ScenarioPoint}
use Rattle.scenario_storage.specs.inside.Blocked.{IsKept}
use Rattle.scenario_storage.specs.inside.Points.{IsTaken}
use Rattle.scenario_storage.proofs.RatingsStayKnown.{blocked-more, keeps-as, kept-known, late-all, none-known}
use Rattle.scenario_storage.proofs.members.offer.Goals as goal

pub take_point-requires-clause-rising : goal.take_point-requires-clause-rising
take_point-requires-clause-rising c = c.requires.4.known.rising

pub take_point-requires-clause-late : goal.take_point-requires-clause-late
take_point-requires-clause-late c =
    subst (λ (n : ℕ). All (λ (p : ScenarioPoint). p.total ≤ n) c.args.points.now.items) (sym c.point_of.ensures.total_is)
    (late-all c.requires.0 c.requires.1 c.requires.2 c.requires.3 c.args.total c.args.capacities c.args.rated c.args.points.now.items c.requires.4)

pub returns-in-Some-clause-known : goal.returns-in-Some-clause-known
returns-in-Some-clause-known c =
    on_ok_weaker {P = (IsTaken c.point_of.result c.args.points.now.items c.take_point.new.points.items)} c.take_point.result
    (λ taken file limit es best is.
    kept-known file limit es best c.args.total c.args.capacities c.args.rated c.args.points.now.items is c.in-Some.witness c.in-Some.is c.point_of.result c.point_of.ensures c.take_point.new.points.items taken)
    c.take_point.ensures

pub returns-in-Some-clause-keeps : goal.returns-in-Some-clause-keeps
returns-in-Some-clause-keeps c =
    on_ok_weaker {P = (IsTaken c.point_of.result c.args.points.now.items c.take_point.new.points.items)} c.take_point.result
    (λ taken. keeps-as c.args.total c.point_of.result c.args.points.now.items c.take_point.new.points.items c.point_of.ensures.total_is taken)
    c.take_point.ensures

pub returns-in-Some-clause-blocked : goal.returns-in-Some-clause-blocked
returns-in-Some-clause-blocked c =
    on_ok_weaker {P = (IsTaken c.point_of.result c.args.points.now.items c.take_point.new.points.items)} c.take_point.result (λ taken file limit es best is all. all) c.take_point.ensures

pub returns-in-None-clause-known : goal.returns-in-None-clause-known
returns-in-None-clause-known c =
    let one : Blocked = record { capacities = c.args.capacities; enlarge = c.args.rated.enlarge } in
    on_ok_weaker {P = (IsKept one c.args.blocked.now.items c.keep.new.blocked.items)} c.keep.result
    (λ kept file limit es best is. none-known file limit es best c.args.total c.args.capacities c.args.rated c.args.points.now.items is c.in-None.is c.args.points.now.items refl)
    c.keep.ensures

pub returns-in-None-clause-blocked : goal.returns-in-None-clause-blocked
returns-in-None-clause-blocked c =
    let one : Blocked = record { capacities = c.args.capacities; enlarge = c.args.rated.enlarge } in
    on_ok_weaker {P = (IsKept one c.args.blocked.now.items c.keep.new.blocked.items)} c.keep.result
    (λ kept file limit es best is all.
    blocked-more file limit es best c.args.total c.args.capacities c.args.rated c.args.points.now.items is c.if-blocks.true c.args.blocked.now.items c.keep.new.blocked.items kept all)
    c.keep.ensures

pub returns-in-None-2-clause-known : goal.returns-in-None-2-clause-known
returns-in-None-2-clause-known c = λ file limit es best is.
    none-known file limit es best c.args.total c.args.capacities c.args.rated c.args.points.now.items is c.in-None-2.is c.args.points.now.items refl
