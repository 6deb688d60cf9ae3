use Rattle.std.proofs.Common.{subst}
use Rattle.graph_reader.specs.TreeSteps.{Gives}
use Rattle.graph_reader.specs.NumberTexts.{number, number_in}
use Rattle.graph_reader.proofs.NumberDigits.{formed-capped}
use Rattle.graph_reader.proofs.numbers.number.Goals as goal

pub returns-in-Some : goal.returns-in-Some
unfolding number
returns-in-Some c =
    subst (λ read. Gives (λ n. n) c.within.result read)
    (formed-capped c.args.meaning.now.what c.args.meaning.now.of.now c.args.meaning.now.quantity c.args.meaning.now.limit 1000000000000000 c.in-Some.n (number_in c.args.text.now) c.requires (rw c.as_bytes.ensures.value at c.in-Some.ensures))
    c.within.ensures.gives
