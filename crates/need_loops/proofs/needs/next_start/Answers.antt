use Rattle.std.proofs.Common.{◌≡◌, ℕ, List, ◌+◌, ◌-◌, length, ap, arith}
use Rattle.std.specs.Prelude.{slice_index, slice_index_or}
use Rattle.sd_base.specs.Schedules.{count_of, start_of}
use Rattle.need_loops.specs.declared.feeds.Feed.{Feed}
use Rattle.need_loops.proofs.DueRowsAreSelfTimed.{fed-first, fed-pause, fed-same, fed-later, fed-stuck, fed-all, feed-at, feed-source, feed-short, pause-short, row-at, row-last}
use Rattle.need_loops.proofs.needs.next_start.Goals as goal
use Rattle.need_loops.proofs.needs.next_start.Goals.{in-Some, in-None, then-feed-ne0+else-feed-row+then-start-end, then-feed-ne0+else-feed-row+else-start-end, else-feed-ne0}

-- what is read past the last feed
abbrev none : Feed
none = record { source = 0; time = 0; made = 0; taken = 0; firings = 0; left = 0 }

pub overflow_add-start : goal.overflow_add-start
overflow_add-start g c =
    let short = pause-short (g.F.Firing.net c.args.net.now) c.args.starts.now c.args.actor c.args.next.now c.requires.next c.know_laws.ensures c.requires.actor in
    let row = row-at c.args.starts.now c.args.actor c.index-starts-actor.result c.as_slice.result.now (omega (arith, c.requires.due.2.admissible.actors)) c.index-starts-actor.is c.as_slice.ensures in
    let last = row-last c.args.starts.now c.args.actor c.in-Some.last.now c.as_slice.result.now row c.in-Some.ensures.value in
    let soon = c.requires.due.2.by c.args.actor (count_of c.args.starts.now c.args.actor - 1) (omega (arith, last.0)) in
    omega (arith, last.1, c.requires.due.1)

pub loop-feed-init : goal.loop-feed-init
loop-feed-init g c =
    let row = row-at c.args.starts.now c.args.actor c.index-starts-actor.result c.as_slice.result.now (omega (arith, c.requires.due.2.admissible.actors)) c.index-starts-actor.is c.as_slice.ensures in
    elim c.match-last.branch [
      | in-Some w ↦
          let last = row-last c.args.starts.now c.args.actor w.in-Some.last.now c.as_slice.result.now row w.in-Some.ensures.value in
          rw w.start-is (rw (← last.1) (fed-pause (g.F.Firing.net c.args.net.now) c.args.starts.now c.args.actor c.args.next.now c.requires.next last.0))
      | in-None w ↦
          rw w.start-is (fed-first (g.F.Firing.net c.args.net.now) c.args.starts.now c.args.actor c.args.next.now c.requires.next (omega (arith, ap length row, w.in-None.ensures.item.3)))
    ]

pub bounds-starts-feed : goal.bounds-starts-feed
bounds-starts-feed g c =
    let there = feed-at c.deref-feed-items.result.now c.args.next.now.feeds.items c.loop-feed.feed-index none c.deref-feed-items.ensures.value c.loop-feed-test.true in
    omega (
      arith,
      c.requires.due.2.admissible.actors,
      feed-source (g.F.Firing.net c.args.net.now) c.args.starts.now c.args.actor c.args.next.now c.requires.next c.know_laws.ensures c.loop-feed.feed-index (slice_index_or c.deref-feed-items.result.now c.loop-feed.feed-index none) there,
    )

pub returns-then-feed-row : goal.returns-then-feed-row
returns-then-feed-row g c =
    let f : Feed = slice_index_or c.deref-feed-items.result.now c.loop-feed.feed-index none in
    let there = feed-at c.deref-feed-items.result.now c.args.next.now.feeds.items c.loop-feed.feed-index none c.deref-feed-items.ensures.value c.loop-feed-test.true in
    let source = feed-source (g.F.Firing.net c.args.net.now) c.args.starts.now c.args.actor c.args.next.now c.requires.next c.know_laws.ensures c.loop-feed.feed-index f there in
    let row = row-at c.args.starts.now f.source c.index-starts-feed.result c.as_slice-row.result.now (omega (arith, c.requires.due.2.admissible.actors)) c.index-starts-feed.is c.as_slice-row.ensures in
    fed-stuck (g.F.Firing.net c.args.net.now) c.args.starts.now c.args.actor c.args.next.now c.requires.next c.loop-feed.feed-index f there (omega (arith, ap length row))

pub overflow_add-end : goal.overflow_add-end
overflow_add-end g c =
    let f : Feed = slice_index_or c.deref-feed-items.result.now c.loop-feed.feed-index none in
    let there = feed-at c.deref-feed-items.result.now c.args.next.now.feeds.items c.loop-feed.feed-index none c.deref-feed-items.ensures.value c.loop-feed-test.true in
    let source = feed-source (g.F.Firing.net c.args.net.now) c.args.starts.now c.args.actor c.args.next.now c.requires.next c.know_laws.ensures c.loop-feed.feed-index f there in
    let short = feed-short (g.F.Firing.net c.args.net.now) c.args.starts.now c.args.actor c.args.next.now c.requires.next c.know_laws.ensures c.loop-feed.feed-index f there in
    let row = row-at c.args.starts.now f.source c.index-starts-feed.result c.as_slice-row.result.now (omega (arith, c.requires.due.2.admissible.actors)) c.index-starts-feed.is c.as_slice-row.ensures in
    let soon = c.requires.due.2.by f.source (f.firings - 1) (omega (arith, ap length row)) in
    rw row (omega (arith, c.requires.due.1))

pub loop-feed-preserved : goal.loop-feed-preserved
loop-feed-preserved g c =
    let f : Feed = slice_index_or c.deref-feed-items.result.now c.loop-feed.feed-index none in
    let there = feed-at c.deref-feed-items.result.now c.args.next.now.feeds.items c.loop-feed.feed-index none c.deref-feed-items.ensures.value c.loop-feed-test.true in
    let source = feed-source (g.F.Firing.net c.args.net.now) c.args.starts.now c.args.actor c.args.next.now c.requires.next c.know_laws.ensures c.loop-feed.feed-index f there in
    elim c.if-feed-ne0.branch [
      | then-feed-ne0+else-feed-row+then-start-end w ↦
          let row = row-at c.args.starts.now f.source w.index-starts-feed.result w.as_slice-row.result.now (omega (arith, c.requires.due.2.admissible.actors)) w.index-starts-feed.is w.as_slice-row.ensures in
          let ends : slice_index w.as_slice-row.result.now (f.firings - 1) + f.time ≡ start_of c.args.starts.now f.source (f.firings - 1) + f.time = ap (λ (r : List ℕ). slice_index r (f.firings - 1) + f.time) row in
          rw w.start-is (fed-later (g.F.Firing.net c.args.net.now) c.args.starts.now c.args.actor c.args.next.now c.requires.next c.loop-feed.feed-index c.loop-feed.start (slice_index w.as_slice-row.result.now (f.firings - 1) + f.time) f there c.loop-feed.invariant
          (omega (arith, w.if-start-end.true)) (omega (arith, w.if-feed-ne0.true)) (omega (arith, ap length row, w.if-feed-row.false)) ends)
      | then-feed-ne0+else-feed-row+else-start-end w ↦
          let row = row-at c.args.starts.now f.source w.index-starts-feed.result w.as_slice-row.result.now (omega (arith, c.requires.due.2.admissible.actors)) w.index-starts-feed.is w.as_slice-row.ensures in
          let ends : slice_index w.as_slice-row.result.now (f.firings - 1) + f.time ≡ start_of c.args.starts.now f.source (f.firings - 1) + f.time = ap (λ (r : List ℕ). slice_index r (f.firings - 1) + f.time) row in
          rw w.start-is (fed-same (g.F.Firing.net c.args.net.now) c.args.starts.now c.args.actor c.args.next.now c.requires.next c.loop-feed.feed-index c.loop-feed.start f there c.loop-feed.invariant
          (λ some. (omega (arith, ap length row, w.if-feed-row.false), omega (arith, w.if-start-end.false))))
      | else-feed-ne0 w ↦
          rw w.start-is (fed-same (g.F.Firing.net c.args.net.now) c.args.starts.now c.args.actor c.args.next.now c.requires.next c.loop-feed.feed-index c.loop-feed.start f there c.loop-feed.invariant (λ some. absurd (omega arith)))
    ]

pub returns : goal.returns
returns g c =
    fed-all (g.F.Firing.net c.args.net.now) c.args.starts.now c.args.actor c.args.next.now c.requires.next c.loop-feed.feed-index c.loop-feed.start (omega (arith, ap length c.deref-feed-items.ensures.value)) c.loop-feed.invariant
