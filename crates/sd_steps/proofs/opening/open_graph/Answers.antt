use Rattle.std.proofs.lemmas.Result.{err_from_is_err_and}
use Rattle.sd_steps.specs.declared.file_kind.FileKind.TheVariants.{Graph}
use Rattle.sd_steps.specs.Readings.{reading_graph}
use Rattle.sd_steps.specs.Takings.{taking}
use Rattle.sd_steps.proofs.StepsCompose.{taken_through, taking_through}
use Rattle.sd_steps.proofs.opening.open_graph.Goals as goal

pub returns-in_err-bytes-clause-takes : goal.returns-in_err-bytes-clause-takes
returns-in_err-bytes-clause-takes g c =
    let p = err_from_is_err_and c.from_residual.result c.from_residual.ensures.1 in
    rw (p.1, p.2) (taking_through (taking (g.S.Shelf.files c.args.shelf.now) Graph c.args.name.now) (λ bytes. reading_graph bytes c.args.times) _ _ _ c.in_err-bytes.ensures.takes)

pub returns-clause-takes : goal.returns-clause-takes
returns-clause-takes g c =
    taken_through (taking (g.S.Shelf.files c.args.shelf.now) Graph c.args.name.now) (λ bytes. reading_graph bytes c.args.times) c.in_ok-bytes.bytes _ c.read.result _ _ c.in_ok-bytes.ensures.takes c.as_slice.ensures c.read.ensures.does
