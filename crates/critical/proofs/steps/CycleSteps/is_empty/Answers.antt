use Rattle.std.proofs.Common.{ap, ◌∙◌, List, length}
use Rattle.std.specs.Prelude.{◌==◌}
use Rattle.critical.specs.declared.cycle.CycleStep.{CycleStep}
use Rattle.critical.specs.declared.stretch.Stretch.{Stretch}
use Rattle.critical.proofs.StretchesGiveSteps.{none-where_none}
use Rattle.critical.proofs.steps.CycleSteps.is_empty.Goals as goal

pub returns : goal.returns
returns c =
    c.is_empty.ensures ∙ ap (λ (xs : List Stretch). length xs == 0) c.as_slice.ensures.value ∙ none-where_none c.self.inside.stretches.items
    ∙ ap (λ (steps : List CycleStep). length steps == 0) c.self.view_is
