use Rattle.std.proofs.Common.{◌∷◌, sym, subst}
use Rattle.std.specs.Prelude.{All}
use Rattle.std.proofs.lemmas.List.Elements.{All-head}
use Rattle.covers.specs.declared.lattice.Lattice.{Lattice}
use Rattle.covers.specs.declared.search.Order.{Order}
use Rattle.covers.specs.Nodes.{IsProper}
use Rattle.covers.specs.Searches.{IsSame}
use Rattle.covers.specs.inside.Keeping.{IsKept, known}
use Rattle.covers.proofs.NoVectorIsLost.{enough-same, kept-known, kept-trans, same-trans}
use Rattle.covers.proofs.search.Search.next.Goals as goal

pub look-requires-clause-proper : goal.look-requires-clause-proper
look-requires-clause-proper c =
    let all : All (IsProper c.args.self.now.lattice c.args.self.now.order) (c.in-Some.node ∷ c.take.new.self.open.keys)
    = subst (All (IsProper c.args.self.now.lattice c.args.self.now.order)) c.in-Some.ensures.taken.0 (c.loop-node.invariant.kept.proper c.requires.proper) in
    let here : IsProper c.args.self.now.lattice c.args.self.now.order c.in-Some.node = All-head (IsProper c.args.self.now.lattice c.args.self.now.order) c.in-Some.node c.take.new.self.open.keys all in
    let same : IsSame c.args.self.now c.take.new.self = same-trans c.args.self.now c.loop-node.self c.take.new.self c.loop-node.invariant.same c.in-Some.ensures.same in
    subst (λ (l : Lattice). IsProper l c.take.new.self.order c.in-Some.node) (sym same.lattice) (subst (λ (o : Order). IsProper c.args.self.now.lattice o c.in-Some.node) (sym same.order) here)

pub look-requires-clause-enough : goal.look-requires-clause-enough
look-requires-clause-enough c =
    enough-same c.args.self.now c.take.new.self (same-trans c.args.self.now c.loop-node.self c.take.new.self c.loop-node.invariant.same c.in-Some.ensures.same) c.requires.enough

pub loop-node-preserved : goal.loop-node-preserved
loop-node-preserved c =
    let looked = rw c.in_default-2.is at c.in_ok-found.ensures.looked in
    let same : IsSame c.args.self.now c.take.new.self = same-trans c.args.self.now c.loop-node.self c.take.new.self c.loop-node.invariant.same c.in-Some.ensures.same in
    record {
      kept = kept-trans (known c.args.self.now) c.args.self.now.open.keys (c.in-Some.node ∷ c.take.new.self.open.keys) c.look.new.self.open.keys
          (subst (IsKept (known c.args.self.now) c.args.self.now.open.keys) c.in-Some.ensures.taken.0 c.loop-node.invariant.kept)
          (kept-known c.args.self.now c.take.new.self (c.in-Some.node ∷ c.take.new.self.open.keys) c.look.new.self.open.keys same looked.kept);
      same = same-trans c.args.self.now c.take.new.self c.look.new.self same c.in_ok-found.ensures.same;
    }
