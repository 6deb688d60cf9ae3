use Rattle.sd_steps.proofs.TimedFiles.{linked_all, many_all}
use Rattle.sd_steps.proofs.scenario_steps.link.Goals as goal

pub returns-in-Ok : goal.returns-in-Ok
returns-in-Ok c = λ all are. linked_all c.args.file.now all c.args.matrices.now are c.in-Ok.graph c.in-Ok.ensures.product c.in-Ok.ensures.few

pub returns-in_ok-above-in-Err-Limit : goal.returns-in_ok-above-in-Err-Limit
returns-in_ok-above-in-Err-Limit c = λ all are. record {
  many = many_all c.args.file.now all c.args.matrices.now are (c.in-Err-Limit.ensures.limit (cc));
  told = c.in_ok-above-in-Err-Limit.ensures;
}
