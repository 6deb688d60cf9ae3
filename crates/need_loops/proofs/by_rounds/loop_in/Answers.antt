use Rattle.std.proofs.Common.{◌≡◌, ◌^◌, ◌<◌, ◌∙◌, length, map, sum, ap, sym, arith}
use Rattle.std.proofs.lemmas.Option.{IfSome_then}
use Rattle.need_loops.proofs.RowsHoldAllStarts.{due-ascend, past-soon, known-starts, loop-found}
use Rattle.need_loops.proofs.by_rounds.loop_in.Goals as goal

pub starts_by-requires : goal.starts_by-requires
starts_by-requires g c = record {
  ascend = λ a there. due-ascend (g.F.Firing.net c.args.net.now) (g.met.F.Firing.lawful c.args.net.now) c.requires.inputs (2 ^ 60) c.args.starts.now c.requires.due a;
}

pub loop_by_rows-requires-clause-soon : goal.loop_by_rows-requires-clause-soon
loop_by_rows-requires-clause-soon g c =
    let soon : c.in-Some.until < 2 ^ 60 = past-soon (g.F.Firing.net c.args.net.now) (g.met.F.Firing.lawful c.args.net.now) c.requires.inputs (2 ^ 60) c.args.starts.now c.requires.due c.in-Some.until c.in-Some.ensures in
    omega (arith, c.in-Some-last_pair.ensures.later)

pub loop_by_rows-requires-clause-starts : goal.loop_by_rows-requires-clause-starts
loop_by_rows-requires-clause-starts g c =
    rw (c.in-Some-last_pair.ensures.later, c.as_slice-3.ensures.value) (known-starts (g.F.Firing.net c.args.net.now) (g.met.F.Firing.lawful c.args.net.now) c.requires.inputs (2 ^ 60) c.args.starts.now c.requires.due
    c.in-Some.until c.in-Some.ensures c.in_ok-known.known.items c.in_ok-known.ensures)

pub returns : goal.returns
returns g c =
    let total : c.starts_in.result ≡ sum (map length c.as_slice-3.result.now) =
    c.starts_in.ensures ∙ ap (λ rows. sum (map length rows)) (c.as_slice.ensures.value ∙ sym c.as_slice-3.ensures.value) in
    IfSome_then c.in_ok-found.found c.in_ok-found.ensures
    (λ table found. loop-found (g.F.Firing.net c.args.net.now) (g.met.F.Firing.lawful c.args.net.now) c.requires.inputs c.args.states c.starts_in.result c.as_slice-3.result.now table
    (omega (arith, c.requires.states)) total (omega (arith, c.if-starts_in-from.false, c.from.ensures, c.min.ensures)) (omega (arith, c.if-starts_in-from.false, c.from.ensures, c.min.ensures)) found)
