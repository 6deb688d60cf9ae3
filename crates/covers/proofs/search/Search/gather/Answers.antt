use Rattle.std.proofs.Common.{refl}
use Rattle.covers.specs.Nodes.{IsProper}
use Rattle.covers.proofs.NodesGather.{gathered-all, gathering-more, gathering-none}
use Rattle.covers.proofs.NoVectorIsLost.{All-right, enough-same, proper-same, same-trans}
use Rattle.covers.proofs.search.Search.gather.Goals as goal

pub gather-init : goal.gather-init
gather-init c = record { so = gathering-none c.args.self.now c.args.total c.args.found.now.items; same = record { lattice = refl; order = refl; bounds = refl; acting = refl; best = refl } }

pub next-requires-clause-proper : goal.next-requires-clause-proper
next-requires-clause-proper c =
    proper-same c.args.self.now c.gather.self c.gather.self.open.keys c.gather.invariant.same
    (All-right (IsProper c.args.self.now.lattice c.args.self.now.order) c.gather.invariant.so.more c.gather.self.open.keys (c.gather.invariant.so.kept.proper c.requires.proper))

pub next-requires-clause-enough : goal.next-requires-clause-enough
next-requires-clause-enough c = enough-same c.args.self.now c.gather.self c.gather.invariant.same c.requires.enough

pub returns-in_default-clause-gathered : goal.returns-in_default-clause-gathered
returns-in_default-clause-gathered c =
    let none = rw c.in_default.is at c.in_ok-node.ensures.next in
    gathered-all c.args.self.now c.gather.self c.next.new.self c.args.total c.args.most c.args.found.now.items c.gather.found.items c.gather.invariant.same c.gather.invariant.so none.0 none.1

pub gather-preserved : goal.gather-preserved
gather-preserved c =
    let next = rw c.in-Some.is at c.in_ok-node.ensures.next in
    record {
      so = gathering-more c.args.self.now c.gather.self c.next.new.self c.args.total c.args.found.now.items c.gather.found.items c.push.new.self.items c.in-Some.node c.gather.invariant.same c.gather.invariant.so next c.in_ok-push.ensures.items;
      same = same-trans c.args.self.now c.gather.self c.next.new.self c.gather.invariant.same c.in_ok-node.ensures.same;
    }
