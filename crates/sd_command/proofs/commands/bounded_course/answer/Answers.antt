use Rattle.std.proofs.Common.{true, List, Ok, Err, arith}
use Rattle.std.proofs.lemmas.Result.{err_from_is_err_and}
use Rattle.storage.specs.NamedBuffers.{Buffer}
use Rattle.sd_io.specs.Outside.{Files}
use Rattle.sd_steps.specs.Readings.{opening_graph}
use Rattle.sd_command.specs.commands.BoundedCourses.{on_bounded}
use Rattle.sd_command.specs.inside.Wants.{no_overlap_of, on_net}
use Rattle.sd_command.proofs.command_lemmas.CommandsFollowSteps.{same_name, same_value, taking_stops, taken_on}
use Rattle.sd_command.proofs.commands.bounded_course.answer.Goals as goal

pub returns-in_err-graph-clause-answers : goal.returns-in_err-graph-clause-answers
returns-in_err-graph-clause-answers g c =
    let shelf : Files = g.S.Shelf.files c.args.shelf.now in
    let p = err_from_is_err_and c.from_residual.result c.from_residual.ensures.1 in
    rw (p.1, p.2) (record {
      goes =
          taking_stops (opening_graph shelf c.args.asked.now.graph true) _ _ (omega arith) _ _ _
          (same_name (λ name. opening_graph shelf name true) c.args.asked.now.graph _ (Err c.in_err-graph.field-0.0) _ _ c.as_str.ensures c.in_err-graph.ensures.takes);
      stays = c.in_err-graph.ensures.stays;
      grows = c.in_err-graph.ensures.grows;
    })

pub returns-clause-answers : goal.returns-clause-answers
returns-clause-answers g c =
    let shelf : Files = g.S.Shelf.files c.args.shelf.now in
    let wanted = c.args.asked.now.wanted in
    record {
      goes =
          taken_on (opening_graph shelf c.args.asked.now.graph true) _ c.in_ok-graph.graph _ _ _ _ _
          (same_name (λ name. opening_graph shelf name true) c.args.asked.now.graph _ (Ok c.in_ok-graph.graph) _ _ c.as_str.ensures c.in_ok-graph.ensures.takes)
          (same_value (λ (buffers : List Buffer). on_bounded c.in_ok-graph.graph buffers (no_overlap_of wanted) (on_net wanted)) c.args.asked.now.buffers _ _ _ _ _ c.as_slice.ensures (c.on_bounded.ensures.goes _));
      stays = c.in_ok-graph.ensures.stays;
      grows = c.in_ok-graph.ensures.grows;
    }
