use Rattle.std.proofs.Common.{◌≡◌, refl, ap, ◌∙◌, take, arith}
use Rattle.std.proofs.lemmas.List.{take_all}
use Rattle.covers.specs.Lattices.{corner_of}
use Rattle.covers.proofs.RootHoldsLattice.{rooted, tops_of}
use Rattle.covers.proofs.search.root.Goals as goal

pub returns : goal.returns
returns c =
    let done : take c.loop-axis.axis-index c.as_slice-axis-items.result.now ≡ c.args.lattice.now.axes = take_all c.loop-axis.axis-index c.as_slice-axis-items.result.now (omega arith) ∙ c.as_slice-axis-items.ensures in
    rooted c.args.lattice.now _ (c.loop-axis.invariant.lo ∙ ap corner_of done) (c.loop-axis.invariant.hi ∙ ap (tops_of c.args.lattice.now.limit) done) refl
