use Rattle.std.proofs.Common.{◌≢◌}
use Rattle.file_text.specs.declared.reference.Referred.TheVariants.{More, Done, Leaves}
use Rattle.file_text.proofs.EntitiesGoOn.{entity-begins, entity-more}
use Rattle.file_text.proofs.reference.entity_len.Goals as goal

pub loop-count-init : goal.loop-count-init
loop-count-init c = entity-begins c.args.read c.args.bytes.now

pub loop-count-preserved : goal.loop-count-preserved
loop-count-preserved c =
    let other : More c.in-More.more ≢ Leaves = λ e. cc in
    entity-more c.args.read c.loop-count.known (More c.in-More.more) c.args.bytes.now c.loop-count.count c.loop-count.invariant c.loop-count-test.true c.in-More.ensures other

pub returns-in-Done : goal.returns-in-Done
returns-in-Done c =
    let other : Done c.in-Done.c ≢ Leaves = λ e. cc in
    entity-more c.args.read c.loop-count.known (Done c.in-Done.c) c.args.bytes.now c.loop-count.count c.loop-count.invariant c.loop-count-test.true c.in-Done.ensures other
