use Rattle.std.proofs.Common.{◌≤◌, ◌∙◌, ℕ, List, length, ap, sym, subst}
use Rattle.sd_base.specs.declared.tables.SharedRow.{SharedRow}
use Rattle.scenario_storage.specs.ScenarioPoints.{IsRefusal}
use Rattle.report.specs.declared.refusal.Refusal.TheVariants.{EdgesAt}
use Rattle.report.specs.StorageTexts.{shared_buffers_list}
use Rattle.sd_command.specs.commands.ScenarioPoints.{edges}
use Rattle.sd_command.proofs.command_lemmas.ToldPoints.{can-tell-all, reachable-few}
use Rattle.sd_command.proofs.commands.scenario_points.search.Goals as goal

pub shared_buffers_text-requires : goal.shared_buffers_text-requires
shared_buffers_text-requires g c =
    subst (λ (rows : List SharedRow). length c.in-Err-Edges.at.capacities ≤ length rows) (sym c.as_slice.ensures)
    (reachable-few c.args.file.now c.args.limits.total c.in-Err-Edges.at.capacities (subst (IsRefusal c.args.file.now c.args.limits) c.in-Err-Edges.field-0-is c.in-Err-Edges.ensures.refused).0)

pub returns-in-Ok-clause-told : goal.returns-in-Ok-clause-told
returns-in-Ok-clause-told g c =
    can-tell-all c.args.file.now c.files_are_sound.ensures c.args.limits.total c.requires.bounded c.args.limits.distributions c.in-Ok.points.items c.in-Ok.ensures.points

pub returns-in_ok-shared_buffers_text-in-Err-Edges-clause-does :
    goal.returns-in_ok-shared_buffers_text-in-Err-Edges-clause-does
returns-in_ok-shared_buffers_text-in-Err-Edges-clause-does g c =
    let at = c.in-Err-Edges.at in
    let text = c.in_ok-shared_buffers_text-in-Err-Edges.ensures ∙ ap (λ (rows : List SharedRow). shared_buffers_list rows at.capacities) c.as_slice.ensures in
    edges at (subst (IsRefusal c.args.file.now c.args.limits) c.in-Err-Edges.field-0-is c.in-Err-Edges.ensures.refused)
    (ap (λ (n : ℕ). EdgesAt n c.in_ok-shared_buffers_text-in-Err-Edges.field-0) c.greatest.ensures ∙ ap (λ (t : List ℕ). EdgesAt _ t) text)
