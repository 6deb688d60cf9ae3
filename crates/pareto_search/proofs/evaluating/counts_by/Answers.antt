use Rattle.std.proofs.Common.{◌<◌, length, refl, sym, ap, ◌∙◌}
use Rattle.std.proofs.lemmas.Option.{slice_get_read}
use Rattle.pareto_search.specs.inside.Learning.{counts_at}
use Rattle.pareto_search.proofs.evaluating.counts_by.Goals as goal

pub returns-in-None : goal.returns-in-None
returns-in-None c = rw c.in-None.is c.as_slice.ensures

pub returns-in-Some : goal.returns-in-Some
returns-in-Some c =
    let below : c.in-Some.place < length c.args.tellings.now = rw c.in-Some.is at c.requires in
    let at = slice_get_read c.args.tellings.now (length c.args.tellings.now) c.in-Some.place c.index-tellings-place.result refl below c.index-tellings-place.is in
    rw c.in-Some.is (c.counts_after.ensures ∙ sym (ap (counts_at c.args.starts.now) at))
