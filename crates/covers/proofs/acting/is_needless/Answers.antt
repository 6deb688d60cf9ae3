use Rattle.std.proofs.Common.{sym, rules, arith}
use Rattle.std.specs.Prelude.{slice_index}
use Rattle.std.proofs.lemmas.List.Elements.{Contains-get_or}
use Rattle.covers.specs.inside.Leaving.{Dominates}
use Rattle.covers.proofs.acting.is_needless.Goals as goal

pub returns-then-dominates : goal.returns-then-dominates
returns-then-dominates c = λ _.
    let has : Dominates c.args.best.now c.index-bounds-place.result c.args.bound.now = search rules in
    record {
      place = slice_index c.args.acting.now c.loop-place.place-index;
      bound = c.index-bounds-place.result;
      among = Contains-get_or c.args.acting.now c.loop-place.place-index 0 (omega arith);
      below = c.requires.below c.loop-place.place-index 0 (omega arith);
      here = sym c.index-bounds-place.is;
      has = has;
    }
