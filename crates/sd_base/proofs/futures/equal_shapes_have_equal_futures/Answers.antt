use Rattle.sd_base.proofs.LawfulIsRegular.{regular}
use Rattle.sd_base.proofs.EqualShapesRepeat.{since-then, equal-futures}
use Rattle.sd_base.proofs.LoopsSpanRounds.{rounds, repeats-rounds, at-least_one}
use Rattle.sd_base.proofs.futures.equal_shapes_have_equal_futures.Goals as goal

pub returns-clause-futures : goal.returns-clause-futures
returns-clause-futures c = λ net r t laws fed later same. (since-then net (regular net laws) fed r t later same, equal-futures net (regular net laws) fed r t later same)

pub returns-clause-rounds : goal.returns-clause-rounds
returns-clause-rounds c = λ net r t laws fed connected event later same.
    (rounds net laws fed r t later same connected, at-least_one net laws fed r t later same connected event, repeats-rounds net laws fed r t later same connected)
