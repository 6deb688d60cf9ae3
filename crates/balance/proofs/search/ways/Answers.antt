use Rattle.std.proofs.Common.{length, List, Bool, subst, sym, arith, ◌≤◌, ◌+◌, true, false, replicate}
use Rattle.std.specs.Prelude.{slice_set}
use Rattle.balance.specs.declared.search.Found.{Found}
use Rattle.balance.specs.inside.Search.{IsSearching}
use Rattle.balance.proofs.SearchFindsWays.{started, place_past, finished}
use Rattle.balance.proofs.search.ways.Goals as goal
use Rattle.balance.proofs.search.ways.Goals.{then-place-len+in_ok-visit, else-place-len}

pub loop-place-init : goal.loop-place-init
loop-place-init c =
    let (x, list, root, none, marks) = c.in_ok-search.ensures in
    subst (λ (bs : List Bool). IsSearching c.args.links.now c.args.actors c.in_ok-search.search.found.items bs 0 0) (sym marks)
    (subst (λ (xs : List Found). IsSearching c.args.links.now c.args.actors xs (slice_set (replicate c.args.actors false) 0 true) 0 0) (sym list)
    (started c.args.links.now c.args.actors x c.requires.some root none))

pub loop-place-preserved : goal.loop-place-preserved
loop-place-preserved c = elim c.if-place-len.branch [
  | then-place-len+in_ok-visit w ↦
      rw w.search-is (subst (λ n. IsSearching c.args.links.now n w.visit.new.search.found.items w.visit.new.search.seen.items (c.loop-place.place + 1) 0) c.loop-place.invariant.size (w.in_ok-visit.ensures))
  | else-place-len w ↦
      let gone : length c.loop-place.search.found.items ≤ c.loop-place.place = omega (arith, w.if-place-len.false, c.len.ensures, c.loop-place.search.found.ok.0) in
      rw w.search-is (place_past c.args.links.now c.args.actors c.loop-place.search.found.items c.loop-place.search.seen.items c.loop-place.place gone c.loop-place.invariant)
]

pub returns : goal.returns
returns c = finished c.args.links.now c.args.actors c.loop-place.search.found.items c.loop-place.search.seen.items c.loop-place.place 0 c.loop-place-test.false c.loop-place.invariant
