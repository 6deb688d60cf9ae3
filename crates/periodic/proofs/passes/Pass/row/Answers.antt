use Rattle.std.proofs.Common.{ℕ, ◌+◌, ◌-◌, List, ◌++◌, map, ap, arith, ◌∙◌}
use Rattle.periodic.proofs.MovedBack.{row-parts}
use Rattle.periodic.proofs.passes.Pass.row.Goals as goal

pub returns-clause-row : goal.returns-clause-row
returns-clause-row c =
    let pass = c.args.self.now in
    let late = c.parts.result.0 in
    let early = c.parts.result.1 in
    let made = row-parts pass.period pass.before c.args.up late.up early.up c.args.down pass.starts.now late.starts.now early.starts.now c.parts.ensures in
    c.from_vec.ensures
    ∙ (c.push_to-2.ensures.row
    ∙ (ap (λ (xs : List ℕ). xs ++ map (λ s. s + early.up - c.args.down) early.starts.now) (c.push_to.ensures.row ∙ ap (λ (xs : List ℕ). xs ++ map (λ s. s + late.up - c.args.down) late.starts.now) c.in_ok-row.ensures.items)
    ∙ made))

pub returns-clause-small : goal.returns-clause-small
returns-clause-small c = rw c.from_vec.ensures (c.push_to-2.ensures.small (c.push_to.ensures.small (rw c.in_ok-row.ensures.items (λ k. omega arith))))
