use Rattle.std.proofs.Common.{◌≡◌, ℕ, List, Some, sym, subst, rules}
use Rattle.covers.specs.Searches.{IsFirst}
use Rattle.covers.proofs.FoundNodesDecide.{first-of, searched-first, searched-kept, settled-past}
use Rattle.covers.proofs.NoVectorIsLost.{same-trans}
use Rattle.covers.proofs.search.Search.first.Goals as goal

pub returns-in_default-clause-searched : goal.returns-in_default-clause-searched
returns-in_default-clause-searched c =
    let none = rw c.in_default.is at c.in_ok-node.ensures.next in
    searched-kept c.args.self.now c.next.new.self c.in_ok-node.ensures.same none.0 c.requires.searched

pub returns-in_default-clause-first : goal.returns-in_default-clause-first
returns-in_default-clause-first c =
    let none = rw c.in_default.is at c.in_ok-node.ensures.next in
    settled-past c.args.self.now c.next.new.self c.in_ok-node.ensures.same none.0 none.1 c.requires.searched

pub returns-clause-searched : goal.returns-clause-searched
returns-clause-searched c =
    let next = rw c.in-Some.is at c.in_ok-node.ensures.next in
    searched-first c.args.self.now c.next.new.self c.open_one.new.self c.args.self.now.lattice.limit c.in-Some.node (same-trans c.args.self.now c.next.new.self c.open_one.new.self c.in_ok-node.ensures.same c.in_ok-open_one.ensures.same) c.requires.searched next c.in_ok-open_one.ensures.opened

pub returns-clause-first : goal.returns-clause-first
returns-clause-first c =
    let next = rw c.in-Some.is at c.in_ok-node.ensures.next in
    let vector : c.from_vec-vector.result ≡ c.in-Some.node.lo.items = search rules in
    subst (λ (ks : List ℕ). IsFirst c.open_one.new.self (Some ks)) (sym vector)
    (first-of c.args.self.now c.next.new.self c.open_one.new.self c.args.self.now.lattice.limit c.in-Some.node (same-trans c.args.self.now c.next.new.self c.open_one.new.self c.in_ok-node.ensures.same c.in_ok-open_one.ensures.same) c.requires.searched c.requires.by_vectors next)
