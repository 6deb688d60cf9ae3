use Rattle.std.proofs.Common.{ap, sym, ◌∙◌, arith}
use Rattle.storage.specs.declared.distribution.Distribution.{Distribution}
use Rattle.levels.specs.inside.Waiting.{IsCopy}
use Rattle.levels.proofs.ChildrenWaitOnce.{added-long, added-none, added-one, copied-apart, one-too-many}
use Rattle.levels.proofs.levels.Levels.admit.Goals as goal

pub returns-then-has-clause-added : goal.returns-then-has-clause-added
returns-then-has-clause-added g c = added-none c.args.child.now c.args.self.now.waiting (sym c.has.ensures.there ∙ c.if-has.true)

pub returns-then-self-clause-ended : goal.returns-then-self-clause-ended
returns-then-self-clause-ended g c =
    one-too-many c.args.child.now c.args.self.now.bounds c.args.self.now.found c.args.self.now.waiting c.if-self.true (sym c.has.ensures.there ∙ c.if-has.false) c.has.ensures.differ

pub put-requires : goal.put-requires
put-requires g c =
    let same : IsCopy c.args.child.now c.in_ok-found.found = record { capacities = ap (λ (d : Distribution). d.capacities) c.in_ok-found.ensures.capacities; total = c.in_ok-found.ensures.total; hint = c.in_ok-found.ensures.hint } in
    record { new = copied-apart c.args.child.now c.in_ok-found.found c.args.self.now.waiting same (sym c.has.ensures.there ∙ c.if-has.false) }

pub returns-clause-added : goal.returns-clause-added
returns-clause-added g c =
    let same : IsCopy c.args.child.now c.in_ok-found.found = record { capacities = ap (λ (d : Distribution). d.capacities) c.in_ok-found.ensures.capacities; total = c.in_ok-found.ensures.total; hint = c.in_ok-found.ensures.hint } in
    added-one c.args.child.now c.in_ok-found.found c.args.self.now.waiting c.put.new.self same c.in_ok-put.ensures

pub returns-clause-count : goal.returns-clause-count
returns-clause-count g c = let long = added-long c.in_ok-found.found c.args.self.now.waiting c.put.new.self c.in_ok-put.ensures in omega (arith, long)
