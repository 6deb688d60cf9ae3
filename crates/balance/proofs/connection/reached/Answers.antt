use Rattle.std.proofs.Common.{ℕ, ◌<◌, ◌≤◌, All, List, Bool, length, replicate, true, false, sym, refl, subst, arith}
use Rattle.std.specs.Prelude.{slice_set}
use Rattle.std.proofs.lemmas.Option.{slice_get_read}
use Rattle.balance.specs.inside.Lists.{list_at}
use Rattle.balance.specs.inside.Reaching.{AreMarked}
use Rattle.balance.proofs.SearchFindsWays.{mark_within}
use Rattle.balance.proofs.MarksFollowPaths.{IsReach, reach_start, reach_more, reach_past, reach_closed, followers_within, all_marked}
use Rattle.balance.proofs.connection.reached.Goals as goal
use Rattle.balance.proofs.connection.reached.Goals.{then-place-len+in_ok-mark_all, else-place-len}

pub loop-place-init : goal.loop-place-init
loop-place-init c =
    let marks : List Bool = slice_set (replicate c.args.actors false) 0 true in
    subst (λ (bs : List Bool). IsReach c.args.direction c.args.ends.now c.args.actors c.in_ok-marked.marked.queue.items bs 0) (sym c.in_ok-marked.ensures.1)
    (subst (λ (xs : List ℕ). IsReach c.args.direction c.args.ends.now c.args.actors xs marks 0) (sym c.in_ok-marked.ensures.0)
    (reach_start c.args.direction c.args.ends.now c.args.actors c.requires.some))

pub at-requires : goal.at-requires
at-requires c =
    let q = c.loop-place.marked.queue in
    let v : ℕ = c.index-from.result.now in
    let at = slice_get_read q.items (length q.items) c.loop-place.place v refl (omega (arith, c.if-place-len.true, c.len.ensures, q.ok.0)) c.index-from.ensures in
    let lt = mark_within c.loop-place.marked.marks.items v (c.loop-place.invariant.is_queue.marked c.loop-place.place v at) in
    let size = c.loop-place.invariant.size in
    let size' = c.in_ok-next.ensures.size in
    omega arith

pub mark_all-requires-clause-actors : goal.mark_all-requires-clause-actors
mark_all-requires-clause-actors c =
    let rows : List (List ℕ) = c.in_ok-next.next.rows.items in
    let within : All (λ v. v < c.args.actors) (list_at rows c.index-from.result.now) =
    followers_within c.args.direction c.args.ends.now (length c.args.ends.now) c.args.actors rows c.index-from.result.now c.requires.ends c.in_ok-next.ensures in
    subst (λ (t : List ℕ). All (λ v. v < length c.loop-place.marked.marks.items) t) (sym c.at.ensures)
    (subst (λ n. All (λ v. v < n) (list_at rows c.index-from.result.now)) (sym c.loop-place.invariant.size) within)

pub loop-place-preserved : goal.loop-place-preserved
loop-place-preserved c =
    let d = c.args.direction in
    let ends = c.args.ends.now in
    let r = c.loop-place.marked in
    let i : ℕ = c.loop-place.place in
    elim c.if-place-len.branch [
      | then-place-len+in_ok-mark_all w ↦
          let rows : List (List ℕ) = c.in_ok-next.next.rows.items in
          let v : ℕ = w.index-from.result.now in
          let new = w.mark_all.new.marked in
          let at = slice_get_read r.queue.items (length r.queue.items) i v refl (omega (arith, w.if-place-len.true, c.len.ensures, r.queue.ok.0)) w.index-from.ensures in
          let left : AreMarked (list_at rows v) (length (list_at rows v)) r.queue.items r.marks.items new.queue.items new.marks.items =
          subst (λ (t : List ℕ). AreMarked t (length t) r.queue.items r.marks.items new.queue.items new.marks.items) w.at.ensures w.in_ok-mark_all.ensures in
          rw w.marked-is (reach_more d ends c.args.actors rows r.queue.items new.queue.items r.marks.items new.marks.items i v c.in_ok-next.ensures at left c.loop-place.invariant)
      | else-place-len w ↦
          let gone : length r.queue.items ≤ i = omega (arith, w.if-place-len.false, c.len.ensures, r.queue.ok.0) in
          rw w.marked-is (reach_past d ends c.args.actors r.queue.items r.marks.items i gone c.loop-place.invariant)
    ]

pub returns-clause-all : goal.returns-clause-all
returns-clause-all c =
    let d = c.args.direction in
    let ends = c.args.ends.now in
    let r = c.loop-place.marked in
    all_marked d ends r.marks.items (reach_closed d ends c.args.actors r.queue.items r.marks.items c.loop-place.place c.loop-place-test.false c.loop-place.invariant) c.loop-place.invariant.root
