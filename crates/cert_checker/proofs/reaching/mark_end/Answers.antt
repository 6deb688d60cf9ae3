use Rattle.std.proofs.Common.{length, sym, ◌∙◌}
use Rattle.cert_checker.proofs.MarksShowReached.{ends-inside, fewer-left, mark-read, mark-reached}
use Rattle.cert_checker.proofs.reaching.mark_end.Goals as goal

pub returns-clause-reached : goal.returns-clause-reached
returns-clause-reached c =
    let inside = ends-inside c.args.graph.now c.as_slice.result.now c.args.number (record { from = 0; to = 0; weight = 0 }) (length c.args.marks.now.items) c.requires.sound c.as_slice.ensures c.requires.number c.requires.size in
    mark-reached c.args.graph.now c.as_slice.result.now c.args.number (record { from = 0; to = 0; weight = 0 }) c.args.marks.now.items c.as_slice.ensures c.requires.number
    (sym (mark-read c.args.marks.now.items _ c.index.result.now inside.0 c.index.ensures) ∙ c.if-not-index.false) inside.1

pub returns-clause-fewer : goal.returns-clause-fewer
returns-clause-fewer c = λ t.
    (let inside = ends-inside c.args.graph.now c.as_slice.result.now c.args.number (record { from = 0; to = 0; weight = 0 }) (length c.args.marks.now.items) c.requires.sound c.as_slice.ensures c.requires.number c.requires.size in
    fewer-left c.args.marks.now.items _ inside.1
    (sym (mark-read c.args.marks.now.items _ c.index-else-not-index.result.now inside.1 c.index-else-not-index.ensures) ∙ c.if-index.false))
