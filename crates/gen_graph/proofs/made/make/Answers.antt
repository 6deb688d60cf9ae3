use Rattle.std.proofs.Common.{sym, subst}
use Rattle.sd_base.specs.Tables.{KeepsRules, IsTimed}
use Rattle.gen_graph.specs.Writable.{IsWritable}
use Rattle.gen_graph.proofs.MadeTables.{made_keeps, made_timed, made_writable}
use Rattle.gen_graph.proofs.made.make.Goals as goal

pub returns-clause-keeps : goal.returns-clause-keeps
returns-clause-keeps c = subst KeepsRules (sym c.in_ok-graph.ensures) (made_keeps c.args.seed c.args.actors c.requires.some c.requires.few)

pub returns-clause-timed : goal.returns-clause-timed
returns-clause-timed c = subst IsTimed (sym c.in_ok-graph.ensures) (made_timed c.args.seed c.args.actors)

pub returns-clause-writable : goal.returns-clause-writable
returns-clause-writable c = subst IsWritable (sym c.in_ok-graph.ensures) (made_writable c.args.seed c.args.actors c.requires.few)
