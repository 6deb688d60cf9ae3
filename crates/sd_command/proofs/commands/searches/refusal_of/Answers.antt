use Rattle.std.proofs.Common.{List, ℕ, Some, ap, refl}
use Rattle.std.proofs.lemmas.Result.{IfOk-weaker}
use Rattle.report.specs.declared.refusal.Refusal.TheVariants.{StatesSpent}
use Rattle.sd_command.specs.commands.Points.{states_spent, too_many_starts, distributions_spent}
use Rattle.sd_command.proofs.commands.searches.refusal_of.Goals as goal

pub returns-in-StatesSpent : goal.returns-in-StatesSpent
returns-in-StatesSpent c = λ net why.
    let refused = rw c.in-StatesSpent.is at why in
    states_spent c.in-StatesSpent.at.capacities refused.0 refused.1 refused.2 (ap (λ (t : List ℕ). StatesSpent c.args.limits.states (Some t)) c.in_ok-buffers_text-in-StatesSpent.ensures)

pub returns-in-TooManyStarts : goal.returns-in-TooManyStarts
returns-in-TooManyStarts c = λ net why.
    let refused = rw c.in-TooManyStarts.is at why in
    IfOk-weaker c.above.result _ _ (λ r is. too_many_starts c.in-TooManyStarts.at.capacities refused.0 refused.1 refused.2 is) c.above.ensures

pub returns-in-DistributionsSpent : goal.returns-in-DistributionsSpent
returns-in-DistributionsSpent c = λ net why.
    let refused = rw c.in-DistributionsSpent.is at why in
    distributions_spent refused.0 refused.1 refused.2 refl
