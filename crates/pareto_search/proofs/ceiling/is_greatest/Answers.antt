use Rattle.std.proofs.Common.{sym, subst, arith}
use Rattle.std.specs.Prelude.{◌<◌, length}
use Rattle.std.proofs.lemmas.List.Elements.{All-contains, All-weaker}
use Rattle.std.proofs.lemmas.Option.{slice_get_within}
use Rattle.pareto_search.specs.declared.known.Looped.{Looped}
use Rattle.pareto_search.specs.inside.Knowledge.{IsLooped, IsTold}
use Rattle.pareto_search.proofs.CeilingKept.{looped-found}
use Rattle.pareto_search.proofs.ceiling.is_greatest.Goals as goal

pub loop_of-requires : goal.loop_of-requires
loop_of-requires g c =
    let tellings = c.args.known.now.tellings.items in
    let of = IsLooped (g.F.Firing.net c.args.base.now.exploring.now.net.now) c.args.base.now.exploring.now.limits.states c.args.base.now.corner.now.capacities tellings in
    All-weaker of (λ (l : Looped). l.place < length tellings) (λ l is. slice_get_within tellings l.place is.telling is.at) c.args.known.now.loops.items c.requires.known.1.loops

pub index-requires : goal.index-requires
index-requires g c =
    let tellings = c.args.known.now.tellings.items in
    let of = IsLooped (g.F.Firing.net c.args.base.now.exploring.now.net.now) c.args.base.now.exploring.now.limits.states c.args.base.now.corner.now.capacities tellings in
    let is = All-contains of c.args.known.now.loops.items c.in-Some.looped.now c.requires.known.1.loops c.in-Some.ensures in
    omega (arith, slice_get_within tellings c.in-Some.looped.now.place is.telling is.at, c.args.known.now.tellings.ok.0)

pub has_cycle-requires-clause-told : goal.has_cycle-requires-clause-told
has_cycle-requires-clause-told g c =
    let tellings = c.args.known.now.tellings.items in
    let of = IsLooped (g.F.Firing.net c.args.base.now.exploring.now.net.now) c.args.base.now.exploring.now.limits.states c.args.base.now.corner.now.capacities tellings in
    let is = All-contains of c.args.known.now.loops.items c.in-Some.looped.now c.requires.known.1.loops c.in-Some.ensures in
    subst (IsTold (g.F.Firing.net c.args.base.now.exploring.now.net.now) c.args.base.now.exploring.now.limits c.args.base.now.corner.now.capacities c.args.base.now.lattice.now) (sym c.index.ensures)
    (c.requires.known.1.told c.in-Some.looped.now.place c.index.result.now (slice_get_within tellings c.in-Some.looped.now.place is.telling is.at))

pub has_cycle-requires-clause-found : goal.has_cycle-requires-clause-found
has_cycle-requires-clause-found g c =
    let net = g.F.Firing.net c.args.base.now.exploring.now.net.now in
    let tellings = c.args.known.now.tellings.items in
    let of = IsLooped (g.F.Firing.net c.args.base.now.exploring.now.net.now) c.args.base.now.exploring.now.limits.states c.args.base.now.corner.now.capacities tellings in
    looped-found net c.args.base.now.exploring.now.limits.states c.args.base.now.corner.now.capacities tellings c.in-Some.looped.now c.index.result.now c.index.ensures
    (All-contains of c.args.known.now.loops.items c.in-Some.looped.now c.requires.known.1.loops c.in-Some.ensures)
