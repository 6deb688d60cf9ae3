use Rattle.std.proofs.lemmas.Bool.{false≢true}
use Rattle.liveness.proofs.round.run_to_end.Goals as goal

pub returns-clause-end : goal.returns-clause-end
returns-clause-end g c = record { short = λ whole. false≢true (c.if-is_whole.ensures.1 whole); names = c.in_ok-lacks.ensures }
