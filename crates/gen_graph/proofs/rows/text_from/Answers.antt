use Rattle.std.proofs.Common.{◌++◌, sym, ◌∙◌}
use Rattle.std.specs.Prelude.{codes}
use Rattle.std.specs.Fmt.{decimal}
use Rattle.std.specs.String.{string_bytes}
use Rattle.std.proofs.lemmas.List.{append-nil}
use Rattle.sd_base.proofs.ElementsKeepPlaces.{flat_next, flat_end}
use Rattle.gen_graph.specs.GraphTrees.{numbers_text}
use Rattle.gen_graph.proofs.rows.text_from.Goals as goal

pub loop-number-init : goal.loop-number-init
loop-number-init c = c.in_ok-text.ensures.ok ∙ sym (append-nil (decimal c.args.first))

pub loop-number-preserved : goal.loop-number-preserved
loop-number-preserved c =
    flat_next (λ n. codes "," ++ decimal n) (decimal c.args.first) (string_bytes c.loop-number.text) (string_bytes c.write.new.self) c.args.rest.now c.loop-number.number-index 0
    c.loop-number-test.true c.loop-number.invariant c.in_ok-write.ensures.bytes

pub returns : goal.returns
unfolding numbers_text
returns c = flat_end (λ n. codes "," ++ decimal n) (decimal c.args.first) (string_bytes c.loop-number.text) c.args.rest.now c.loop-number.number-index c.loop-number-test.false c.loop-number.invariant
