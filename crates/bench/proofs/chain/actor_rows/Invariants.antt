use Rattle.std.proofs.Common.{◌≡◌, All, map, replicate}
use Rattle.sd_base.specs.declared.tables.ActorRow.{ActorRow}
use Rattle.sd_base.specs.declared.tables.Kind.TheVariants.{Sdf}
use Rattle.sd_base.specs.Tables.{ActorKeepsRules}
use Rattle.bench.proofs.chain.actor_rows.Given as goal

abbrev pub invariant-loop-actor : goal.invariant-loop-actor
invariant-loop-actor l = (map (λ (a : ActorRow). a.phases) l.rows ≡ replicate l._actor 1) × All (ActorKeepsRules Sdf) l.rows
