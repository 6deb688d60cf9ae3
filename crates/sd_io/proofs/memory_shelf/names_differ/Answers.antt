use Rattle.std.proofs.Common.{◌∙◌, sym, true≢false}
use Rattle.sd_io.proofs.FileNames.{one_more_differs, own-name, twice}
use Rattle.sd_io.proofs.memory_shelf.names_differ.Goals as goal

pub returns-then-is_some : goal.returns-then-is_some
returns-then-is_some c =
    let own = own-name c.args.files.now c.loop-i.i c.index-files-i.result c.as_str.result.now c.loop-i-test.true c.index-files-i.is c.as_str.ensures in (
      (λ never. absurd (true≢false (sym never))),
      (λ differ. absurd (twice c.args.files.now c.loop-i.i c.as_str.result.now c.find.result c.loop-i-test.true own c.find.ensures (sym c.is_some.ensures ∙ c.if-is_some.true) differ)),
    )

pub loop-i-preserved : goal.loop-i-preserved
loop-i-preserved c =
    let own = own-name c.args.files.now c.loop-i.i c.index-files-i.result c.as_str.result.now c.loop-i-test.true c.index-files-i.is c.as_str.ensures in
    one_more_differs c.args.files.now c.loop-i.i c.as_str.result.now c.find.result c.loop-i-test.true own c.find.ensures (sym c.is_some.ensures ∙ c.if-is_some.false) c.loop-i.invariant
