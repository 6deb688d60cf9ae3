use Rattle.std.proofs.Common.{◌+◌, ◌*◌, ◌≤◌, ◌<◌, length, arith}
use Rattle.periodic.proofs.MovedBack.{InPass, in-pass, are-parts}
use Rattle.periodic.proofs.passes.Pass.parts.Goals as goal

pub returns : goal.returns
returns c =
    let pass = c.args.self.now in
    let turns = c.turns-turns.result in
    let early = c.split_at.result.0.now in
    let late = c.split_at.result.1.now in
    let begins : InPass pass.before (length pass.starts.now) 0 = in-pass pass.before (length pass.starts.now) 0 pass.some in
    let from : pass.before ≤ turns * length pass.starts.now = rw c.turns-turns.ensures.turns (omega (arith, begins.from)) in
    let under : turns * length pass.starts.now < pass.before + length pass.starts.now = rw c.turns-turns.ensures.turns (omega (arith, begins.below)) in
    let enough : turns * pass.period ≤ c.args.up = rw c.turns-turns.ensures.turns c.requires.up in
    are-parts pass.period pass.before turns c.args.up pass.starts.now early late c.split_at.ensures.by_index.0 (omega (arith, c.split_at.ensures.front_len)) (omega (arith, c.split_at.ensures.front_len, c.split_at.ensures.back_len)) enough
