use Rattle.std.proofs.Common.{subst, arith}
use Rattle.sd_base.specs.declared.limits.Quantity.TheVariants.{Phases}
use Rattle.graph_reader.specs.TreeSteps.{Gives}
use Rattle.graph_reader.specs.NumberTexts.{count_in}
use Rattle.graph_reader.proofs.NumberDigits.{within-capped}
use Rattle.graph_reader.proofs.numbers.few_numbers.Goals as goal

pub returns : goal.returns
returns c =
    subst (λ read. Gives (λ n. n) c.within.result read)
    (within-capped Phases 4096 4097 (count_in c.args.items.now) c.count_in.result (omega arith) c.count_in.ensures) c.within.ensures.gives
