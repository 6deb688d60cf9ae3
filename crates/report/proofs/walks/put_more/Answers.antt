use Rattle.report.proofs.OneMoreElement.{steps_next, steps_end}
use Rattle.report.proofs.walks.put_more.Goals as goal

pub loop-step-preserved : goal.loop-step-preserved
loop-step-preserved c =
    steps_next _ _ _ _ _ _ _ _ c.loop-step-test.true c.loop-step.invariant c.in_ok-push_str.ensures.bytes c.in_ok-put_step.ensures

pub returns : goal.returns
returns c = steps_end _ _ _ _ _ c.loop-step-test.false c.loop-step.invariant
