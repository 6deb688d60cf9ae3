use Rattle.std.proofs.Common.{◌≡◌, length, sym, ◌∙◌}
use Rattle.std.proofs.lemmas.Bool.{eqb-true}
use Rattle.periodic.proofs.MovedBack.{least-late, least-parts}
use Rattle.periodic.proofs.passes.Pass.least.Goals as goal

pub returns-then-is_empty : goal.returns-then-is_empty
returns-then-is_empty c =
    let pass = c.args.self.now in
    let late = c.parts.result.0 in
    let early = c.parts.result.1 in
    let none : length early.starts.now ≡ 0 = eqb-true _ 0 (sym c.is_empty.ensures ∙ c.if-is_empty.true) in
    least-late pass.period pass.before c.args.up late.up early.up c.least.result pass.starts.now late.starts.now early.starts.now c.parts.ensures none c.least.ensures

pub returns-else-is_empty : goal.returns-else-is_empty
returns-else-is_empty c =
    let pass = c.args.self.now in
    let late = c.parts.result.0 in
    let early = c.parts.result.1 in
    rw c.min.ensures (least-parts pass.period pass.before c.args.up late.up early.up c.least-else-is_empty.result c.least-else-is_empty-2.result pass.starts.now late.starts.now early.starts.now c.parts.ensures c.least-else-is_empty.ensures c.least-else-is_empty-2.ensures)
