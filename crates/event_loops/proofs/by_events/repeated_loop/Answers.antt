use Rattle.std.proofs.Common.{◌≡◌, ◌+◌, ◌-◌, ◌∙◌, length, drop, arith}
use Rattle.std.proofs.lemmas.List.{take_at}
use Rattle.sd_base.proofs.LoopRates.{table-rate}
use Rattle.loops.specs.StartRows.{AreStarts}
use Rattle.event_loops.specs.inside.Searching.{IsRepeat}
use Rattle.event_loops.proofs.by_events.repeated_loop.Goals as goal

pub first_repeat-requires-clause-runs : goal.first_repeat-requires-clause-runs
first_repeat-requires-clause-runs g c = rw c.requires.net c.requires.runs

pub first_repeat-requires-clause-trail : goal.first_repeat-requires-clause-trail
first_repeat-requires-clause-trail g c = record { fresh = c.in_ok-trail.ensures.stage; most_is = c.in_ok-trail.ensures.most }

pub first_repeat-requires-clause-period : goal.first_repeat-requires-clause-period
first_repeat-requires-clause-period g c = rw c.requires.net c.requires.period

pub loop_table-requires-clause-starts : goal.loop_table-requires-clause-starts
loop_table-requires-clause-starts g c =
    let repeat : IsRepeat (g.F.Firing.net c.args.wired.now.net.now) c.args.states c.first_repeat.new.trail.moment c.in_ok-end.end = rw c.requires.net at c.in_ok-end.ensures.found in
    let size : length c.first_repeat.new.starts ≡ c.in_ok-starts.starts.len = omega (arith, c.first_repeat.auto.starts, c.as_mut_slice.ensures.len) in
    let back : c.as_slice.result.now ≡ c.first_repeat.new.starts =
    c.as_slice.ensures.value ∙ take_at c.first_repeat.new.starts (drop (length c.first_repeat.new.starts) c.in_ok-starts.starts.items) c.in_ok-starts.starts.len size in
    let have : AreStarts (g.F.Firing.net c.args.wired.now.net.now) c.in_ok-end.end c.first_repeat.new.starts = rw c.requires.net at c.in_ok-end.ensures.starts in
    (c.in_ok-end.end, omega (arith, c.moment-entry.ensures, repeat.later), rw back have)

pub returns-clause-found : goal.returns-clause-found
returns-clause-found g c =
    let repeat : IsRepeat (g.F.Firing.net c.args.wired.now.net.now) c.args.states c.first_repeat.new.trail.moment c.in_ok-end.end = rw c.requires.net at c.in_ok-end.ensures.found in
    let end : c.in_ok-table.table.entry + c.in_ok-table.table.period ≡ c.in_ok-end.end = omega (arith, c.in_ok-table.ensures.entry, c.in_ok-table.ensures.period, c.moment-entry.ensures, repeat.later) in
    record {
      loop = c.in_ok-table.ensures.table;
      number = rw end repeat.number;
      few = rw end repeat.few;
      rate = table-rate (g.F.Firing.net c.args.wired.now.net.now) (g.met.F.Firing.lawful c.args.wired.now.net.now) c.requires.runs.inputs c.in_ok-table.table.entry c.in_ok-table.table.period c.in_ok-table.table.rounds c.in_ok-table.table.before c.in_ok-table.table.starts c.in_ok-table.ensures.table;
    }
