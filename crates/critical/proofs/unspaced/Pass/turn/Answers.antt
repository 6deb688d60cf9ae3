use Rattle.std.proofs.Common.{List, subst, sym, ◌∙◌, arith}
use Rattle.critical.specs.declared.walk.Met.{Met}
use Rattle.critical.specs.inside.Searches.{IsSearch}
use Rattle.critical.proofs.SearchTurns.{last-second, last-actor, last-near, last-soon, turns-popped, turns-pushed, round-pushed}
use Rattle.critical.proofs.unspaced.Pass.turn.Goals as goal

pub inputs_of-inputs-requires : goal.inputs_of-inputs-requires
inputs_of-inputs-requires g c =
    last-actor (g.F.Firing.net c.args.self.now.wired.now.net.now) c.args.self.now.table.now c.requires.pass.short c.args.met.now.items c.args.marks.now c.requires.so_far c.args.here c.requires.some c.requires.here

pub open_need-requires-clause-second : goal.open_need-requires-clause-second
open_need-requires-clause-second g c =
    last-second (g.F.Firing.net c.args.self.now.wired.now.net.now) c.args.self.now.table.now c.requires.pass.short c.args.met.now.items c.args.marks.now c.requires.so_far c.args.here c.requires.some c.requires.here

pub open_need-requires-clause-so_far : goal.open_need-requires-clause-so_far
open_need-requires-clause-so_far g c =
    subst (λ (xs : List Met). IsSearch (g.F.Firing.net c.args.self.now.wired.now.net.now) c.args.self.now.table.now xs c.args.marks.now) (sym c.as_slice.ensures.value) c.requires.so_far

pub met_next-next-requires-clause-near : goal.met_next-next-requires-clause-near
met_next-next-requires-clause-near g c =
    omega (arith, last-near (g.F.Firing.net c.args.self.now.wired.now.net.now) c.args.self.now.table.now c.requires.pass.short c.args.met.now.items c.args.marks.now c.requires.so_far c.args.here c.requires.some c.requires.here)

pub met_next-next-requires-clause-soon : goal.met_next-next-requires-clause-soon
met_next-next-requires-clause-soon g c =
    omega (arith, last-soon (g.F.Firing.net c.args.self.now.wired.now.net.now) c.args.self.now.table.now c.requires.pass.short c.args.met.now.items c.args.marks.now c.requires.so_far c.args.here c.requires.some c.requires.here)

pub class_of-class-requires-clause-second : goal.class_of-class-requires-clause-second
class_of-class-requires-clause-second g c = c.met_next-next.ensures.leads.need.read.second

pub returns-in_default : goal.returns-in_default
returns-in_default g c =
    turns-popped (g.F.Firing.net c.args.self.now.wired.now.net.now) c.args.self.now.table.now c.requires.pass.short c.args.met.now.items c.args.marks.now c.requires.so_far c.args.here c.requires.some c.requires.here
    c.as_slice.result.now c.pop.new.self.items c.args.met.now.len c.as_slice.ensures.value c.in_default.ensures c.args.met.now.ok.0 c.pop.ensures.rest

pub returns-in-Some-before : goal.returns-in-Some-before
returns-in-Some-before g c =
    round-pushed (g.F.Firing.net c.args.self.now.wired.now.net.now) c.args.self.now.table.now c.requires.pass.short c.args.met.now.items c.args.marks.now c.requires.so_far c.args.here c.requires.some c.requires.here
    c.as_slice.result.now c.push.new.self.items c.in-Some.need c.met_next-next.result c.as_slice.ensures.value c.in-Some.ensures c.met_next-next.ensures.leads c.met_next-next.ensures.firing c.met_next-next.ensures.channel c.in_ok-push.ensures.items
    c.in-Some-before.place (sym (rw c.class_of-class.ensures.class at c.mark-before.ensures.before) ∙ c.in-Some-before.is)

pub returns-in-None : goal.returns-in-None
returns-in-None g c =
    turns-pushed (g.F.Firing.net c.args.self.now.wired.now.net.now) c.args.self.now.table.now c.requires.pass.short c.args.met.now.items c.args.marks.now c.requires.so_far c.args.here c.requires.some c.requires.here
    c.as_slice.result.now c.push.new.self.items c.in-Some.need c.met_next-next.result c.as_slice.ensures.value c.in-Some.ensures c.met_next-next.ensures.leads c.met_next-next.ensures.firing c.met_next-next.ensures.channel c.in_ok-push.ensures.items
    c.mark-before.new.marks (sym (rw c.class_of-class.ensures.class at c.mark-before.ensures.before) ∙ c.in-None.is)
    (rw (c.class_of-class.ensures.class, c.len.ensures, c.args.met.now.ok.0) at c.in-None.ensures.after)
