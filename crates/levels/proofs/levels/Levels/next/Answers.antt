use Rattle.std.proofs.Common.{refl}
use Rattle.levels.specs.declared.levels.Levels.{Levels}
use Rattle.levels.proofs.SearchesSpread.{next-frontier}
use Rattle.levels.proofs.levels.Levels.next.Goals as goal

pub returns-clause-frontier : goal.returns-clause-frontier
returns-clause-frontier g c =
    let new : Levels _ = record c.args.self.now { waiting = c.next.new.self } in
    next-frontier c.args.self.now new c.in_ok-found.found c.in_ok-found.ensures refl (record { channels = refl; bounds = refl })
