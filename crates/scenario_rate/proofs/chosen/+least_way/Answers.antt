use Rattle.std.proofs.Common.{◌≡◌, ◌-◌, ◌<◌, ℕ, List, suc, length, sym, subst, arith}
use Rattle.std.specs.Prelude.{slice_index_or}
use Rattle.std.proofs.lemmas.Option.{get_or_from_slice_get}
use Rattle.automaton.specs.declared.graph.Edge.{Edge}
use Rattle.scenario_rate.specs.inside.Choosing.{NoneNext, IsNextEdge, IsOnWay, IsLeastWay}
use Rattle.scenario_rate.proofs.NodesListEdges.{known_at}
use Rattle.scenario_rate.proofs.LeastWaysExtend.{some_next, on_way, least_more}
use Rattle.scenario_rate.proofs.chosen.+least_way.Goals as goal

pub next_edge-requires-clause-known : goal.next_edge-requires-clause-known
next_edge-requires-clause-known t c = known_at _ _ _ _ _ c.requires.way.2 c.args.node c.edges_at.result.now c.edges_at.ensures

pub unreachable-requires : goal.unreachable-requires
unreachable-requires t c =
    let e : c.args.left ≡ suc (c.args.left - 1) = omega (arith, c.if-left-eq0.false) in
    some_next c.args.edges.now c.requires.way.0 c.args.out_of.now c.args.steps.now (length c.args.steps.now) c.requires.way.1 c.args.node (c.args.left - 1) c.requires.way.2
    (subst (IsOnWay c.args.edges.now c.requires.way.0 c.args.steps.now (length c.args.steps.now) c.requires.way.1 c.args.node) e c.requires.way.3)
    (subst (λ (l : List ℕ). NoneNext c.args.edges.now l c.args.steps.now (c.args.left - 1) (length l)) c.edges_at.ensures c.in-None.ensures)

pub least_way-requires : goal.least_way-requires
least_way-requires t c =
    let e : c.args.left ≡ suc (c.args.left - 1) = omega (arith, c.if-left-eq0.false) in
    let n = subst (λ (l : List ℕ). IsNextEdge c.args.edges.now l c.args.steps.now (c.args.left - 1) (length l) c.in-Some.number) c.edges_at.ensures c.in-Some.ensures in
    let at : slice_index_or c.args.edges.now c.in-Some.number (record { from = 0; to = 0; weight = 0 }) ≡ n.edge = get_or_from_slice_get c.args.edges.now c.in-Some.number n.edge (record { from = 0; to = 0; weight = 0 }) n.is in (
      omega (arith, c.decreases, c.if-left-eq0.false),
      (
        c.requires.inside,
        (
          c.requires.long,
          (
            subst (λ (f : Edge). f.to < length c.args.steps.now) (sym at) (c.requires.inside.to c.in-Some.number n.edge n.is),
            (
              c.requires.way.0,
              c.requires.way.1,
              c.requires.way.2,
              subst (λ (f : Edge). IsOnWay c.args.edges.now c.requires.way.0 c.args.steps.now (length c.args.steps.now) c.requires.way.1 f.to (c.args.left - 1)) (sym at)
                  (on_way c.args.edges.now c.requires.way.0 c.args.out_of.now c.args.steps.now (length c.args.steps.now) c.requires.way.1 c.args.node (c.args.left - 1) c.requires.way.2
                  (subst (IsOnWay c.args.edges.now c.requires.way.0 c.args.steps.now (length c.args.steps.now) c.requires.way.1 c.args.node) e c.requires.way.3) c.in-Some.number n),
            ),
          ),
        ),
      ),
    )

pub returns : goal.returns
returns t c = λ list root listed way.
    (let e : c.args.left ≡ suc (c.args.left - 1) = omega (arith, c.if-left-eq0.false) in
    let n = subst (λ (l : List ℕ). IsNextEdge c.args.edges.now l c.args.steps.now (c.args.left - 1) (length l) c.in-Some.number) c.edges_at.ensures c.in-Some.ensures in
    let at : slice_index_or c.args.edges.now c.in-Some.number (record { from = 0; to = 0; weight = 0 }) ≡ n.edge = get_or_from_slice_get c.args.edges.now c.in-Some.number n.edge (record { from = 0; to = 0; weight = 0 }) n.is in
    let more : IsOnWay c.args.edges.now list c.args.steps.now (length c.args.steps.now) root c.args.node (suc (c.args.left - 1)) = subst (IsOnWay c.args.edges.now list c.args.steps.now (length c.args.steps.now) root c.args.node) e way in
    let rest = c.in_ok-way-in-Some.ensures list root listed
    (subst (λ (f : Edge). IsOnWay c.args.edges.now list c.args.steps.now (length c.args.steps.now) root f.to (c.args.left - 1)) (sym at) (on_way c.args.edges.now list c.args.out_of.now c.args.steps.now (length c.args.steps.now) root c.args.node (c.args.left - 1) listed more c.in-Some.number n)) in
    subst (λ (m : ℕ). IsLeastWay c.args.edges.now list root c.args.node m c.insert.new.self.items) (sym e)
    (subst (IsLeastWay c.args.edges.now list root c.args.node (suc (c.args.left - 1))) (sym c.in_ok-insert-in-Some.ensures.items)
    (least_more c.args.edges.now list c.args.out_of.now c.args.steps.now (length c.args.steps.now) root c.args.node (c.args.left - 1) listed more c.in-Some.number n c.in_ok-way-in-Some.way.items
    (subst (λ (f : Edge). IsLeastWay c.args.edges.now list root f.to (c.args.left - 1) c.in_ok-way-in-Some.way.items) at rest))))
