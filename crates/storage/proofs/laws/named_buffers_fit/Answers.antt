use Rattle.storage.proofs.NamedCapacities.{named-held, bounded-few}
use Rattle.storage.proofs.SmallSpaces.{bounded-few_tokens}
use Rattle.storage.proofs.laws.named_buffers_fit.Goals as goal

pub returns-clause-held : goal.returns-clause-held
returns-clause-held c = λ graph gamma no_overlap buffers none small. named-held graph gamma no_overlap buffers none small

pub returns-clause-few : goal.returns-clause-few
returns-clause-few c = λ graph gamma no_overlap ds keeps many. bounded-few graph gamma no_overlap ds keeps many

pub returns-clause-small : goal.returns-clause-small
returns-clause-small c = λ graph gamma no_overlap buffers keeps small. bounded-few_tokens graph gamma no_overlap buffers keeps small
