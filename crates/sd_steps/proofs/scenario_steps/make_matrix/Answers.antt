use Rattle.std.proofs.Common.{false, subst, sym}
use Rattle.sd_base.specs.Net.{Net}
use Rattle.sd_base.specs.FileNet.{net_of}
use Rattle.report.specs.LinkTexts.{IsNamed}
use Rattle.sd_steps.proofs.PathsConnectNets.{fed-inputs}
use Rattle.sd_steps.proofs.NetsStandOverGraphs.{net-over}
use Rattle.sd_steps.proofs.scenario_steps.make_matrix.Goals as goal

pub matrix_of-requires-clause-inputs : goal.matrix_of-requires-clause-inputs
matrix_of-requires-clause-inputs c = fed-inputs (net_of c.args.graph.now c.args.gamma.now false) c.requires.fed

pub deadlock-requires-clause-named : goal.deadlock-requires-clause-named
deadlock-requires-clause-named c = subst (λ (net : Net). IsNamed c.args.graph.now net) (sym c.requires.net) (net-over c.args.graph.now c.args.gamma.now false)
