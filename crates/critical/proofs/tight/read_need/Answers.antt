use Rattle.std.proofs.Common.{ℕ, ◌*◌, ap, arith}
use Rattle.critical.proofs.TightNeeds.{read-from, read-small}
use Rattle.critical.proofs.tight.read_need.Goals as goal

pub overflow_add-result : goal.overflow_add-result
overflow_add-result g c =
    let e = c.passes_on-passes.ensures in
    let reached = rw c.source-actor.ensures at e.reaches in
    let least = rw c.source-actor.ensures at e.least in
    let none = rw c.source-actor.ensures at e.none in
    omega (
      arith,
      ap (λ (x : ℕ). c.passes_on-passes.result * x) (rw c.source-actor.ensures at c.pass_of.ensures),
      read-small (g.F.Firing.net c.args.net.now) c.requires.table.laws c.args.table.now c.requires.table c.args.later c.requires.second c.args.channel c.args.number c.requires.place c.requires.target c.requires.last c.passes_on-passes.result reached least none,
    )

pub returns : goal.returns
returns g c =
    let e = c.passes_on-passes.ensures in
    rw (c.pass_of.ensures, c.source-actor.ensures)
    (read-from (g.F.Firing.net c.args.net.now) c.requires.table.laws c.args.table.now c.requires.table c.args.later c.requires.second c.args.channel c.args.number c.requires.place c.requires.target c.requires.last c.passes_on-passes.result
    (rw c.source-actor.ensures at e.reaches) (rw c.source-actor.ensures at e.least) (rw c.source-actor.ensures at e.none))
