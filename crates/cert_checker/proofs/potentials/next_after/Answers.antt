use Rattle.std.proofs.Common.{true≢false, sym, ◌∙◌}
use Rattle.cert_checker.proofs.PotentialListsDecide.{miss, take-next}
use Rattle.cert_checker.proofs.potentials.next_after.Goals as goal

pub returns-then-is_next : goal.returns-then-is_next
returns-then-is_next c =
    take-next c.args.graph.now c.args.potentials.now c.args.node c.args.next c.requires.so_far ((c.requires.marks.exact c.args.node).0 c.if-not-marks-node.false) (c.is_next.ensures.0 c.if-is_next.true)

pub returns : goal.returns
returns c = λ lists. absurd (true≢false (sym (c.is_next.ensures.1
    (miss c.args.graph.now c.args.potentials.now c.args.node c.args.next c.requires.so_far ((c.requires.marks.exact c.args.node).0 c.if-not-marks-node.false) lists)) ∙ c.if-is_next.false))
