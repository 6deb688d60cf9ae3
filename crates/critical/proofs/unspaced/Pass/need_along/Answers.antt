use Rattle.std.proofs.Common.{subst, sym}
use Rattle.critical.specs.inside.Searches.{IsNoSpace}
use Rattle.critical.proofs.SearchTurns.{left-space, left-slack, left-need}
use Rattle.critical.proofs.unspaced.Pass.need_along.Goals as goal

pub returns-then-is_space : goal.returns-then-is_space
returns-then-is_space g c =
    let space = c.if-is_space.ensures in
    left-space (g.F.Firing.net c.args.self.now.wired.now.net.now) c.args.self.now.table.now c.requires.pass.short c.args.met.now c.args.marks.now c.args.later c.requires.second c.args.channel space.0 space.1

pub returns-in_err-need : goal.returns-in_err-need
returns-in_err-need g c =
    rw c.from_residual.ensures
    (left-slack (g.F.Firing.net c.args.self.now.wired.now.net.now) c.args.self.now.table.now c.requires.pass.short c.args.met.now c.args.marks.now c.args.later c.requires.second c.args.channel c.in_err-need.ensures.need)

pub is_open-requires-clause-second : goal.is_open-requires-clause-second
is_open-requires-clause-second g c = c.in_ok-need.ensures.need.read.second

pub returns-then-is_open : goal.returns-then-is_open
returns-then-is_open g c = record {
  needs = record {
    tight = c.in_ok-need.ensures.need;
    unspaced = subst (IsNoSpace (g.F.Firing.net c.args.self.now.wired.now.net.now)) (sym c.in_ok-need.ensures.channel) c.if-is_space.ensures;
  };
  is_open = c.if-is_open.ensures;
}

pub returns-else-is_open : goal.returns-else-is_open
returns-else-is_open g c =
    left-need (g.F.Firing.net c.args.self.now.wired.now.net.now) c.args.self.now.table.now c.requires.pass.short c.args.met.now c.args.marks.now c.args.later c.requires.second c.args.channel
    c.in_ok-need.need c.in_ok-need.ensures.channel c.in_ok-need.ensures.need c.if-is_open.ensures
