use Rattle.std.proofs.Common.{arith, refl, ◌∙◌, ap, length, List}
use Rattle.sd_base.specs.declared.tables.ActorRow.{ActorRow}
use Rattle.report.specs.AnswerTexts.{number_line, repetition_header}
use Rattle.report.proofs.OneMoreElement.{lines_next, lines_start, lines_end}
use Rattle.report.proofs.answers.repetition_text.Goals as goal

pub loop-i-init : goal.loop-i-init
loop-i-init c = lines_start _ _ _ (c.in_ok-text.ensures ∙ ap (λ (rs : List ActorRow). repetition_header (length rs)) c.as_slice-actors.ensures)

pub loop-i-preserved : goal.loop-i-preserved
loop-i-preserved c =
    lines_next number_line _ _ _ _ _ _ _ _ _ 0 c.index-actors-i.result (omega (arith, c.loop-i-test.true, c.requires)) c.loop-i-test.true
    c.as_slice-actors.ensures c.as_str.ensures refl c.loop-i.invariant c.in_ok-put_number.ensures

pub returns : goal.returns
returns c =
    c.bytes_of.ensures
    ∙ lines_end (λ (a : ActorRow) n. number_line a.name n) _ _ c.args.graph.now.actors _ c.loop-i.i (omega (arith, c.loop-i-test.false, c.requires)) c.loop-i.invariant
