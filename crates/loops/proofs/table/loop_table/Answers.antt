use Rattle.std.proofs.Common.{◌≡◌, ◌<◌, ◌∙◌, [], length, refl, ap, arith}
use Rattle.std.specs.Prelude.{◌/◌, slice_index_or}
use Rattle.std.proofs.lemmas.List.{get_or_default}
use Rattle.loops.specs.StartRows.{AreBetween}
use Rattle.loops.proofs.StartsMakeTables.{between-table}
use Rattle.loops.proofs.RowsTellStarts.{starts-ascend}
use Rattle.loops.proofs.table.loop_table.Goals as goal

pub counts_by-requires : goal.counts_by-requires
counts_by-requires g c = record {
  ascend = λ a there.
      starts-ascend (g.F.Firing.net c.args.net.now) (g.met.F.Firing.lawful c.args.net.now) c.requires.inputs c.requires.starts.0 c.args.starts.now c.requires.starts.2 a (omega (arith, c.requires.starts.2.rows));
}

pub counts_by-requires-2 : goal.counts_by-requires-2
counts_by-requires-2 g c = record {
  ascend = λ a there.
      starts-ascend (g.F.Firing.net c.args.net.now) (g.met.F.Firing.lawful c.args.net.now) c.requires.inputs c.requires.starts.0 c.args.starts.now c.requires.starts.2 a (omega (arith, c.requires.starts.2.rows));
}

pub returns-clause-table : goal.returns-clause-table
returns-clause-table g c =
    let cut : AreBetween c.args.starts.now c.in_ok-before.before c.in_ok-until.until (length c.args.starts.now) c.from_vec.result =
    rw c.from_vec.ensures (rw (c.as_slice.ensures, c.as_slice-2.ensures) at c.in_ok-between.ensures) in
    let row : c.index.result.now ≡ slice_index_or c.from_vec.result 0 c.index.result.now = rw c.from_vec.ensures c.index.ensures in
    let place : 0 < length c.from_vec.result = omega (arith, cut.rows, c.requires.starts.2.rows, (g.met.F.Firing.lawful c.args.net.now).some_actor) in
    let count : c.len.result ≡ length (slice_index_or c.from_vec.result 0 []) = c.len.ensures ∙ ap length (row ∙ get_or_default c.from_vec.result 0 c.index.result.now [] place) in
    between-table (g.F.Firing.net c.args.net.now) (g.met.F.Firing.lawful c.args.net.now) c.requires.inputs c.args.entry c.args.period c.requires.starts.0 c.args.starts.now c.requires.starts.2 c.requires.starts.1
    c.in_ok-before.before c.in_ok-until.until c.in_ok-before.ensures c.in_ok-until.ensures c.requires.connected (c.len.result / c.round.result) c.from_vec.result c.requires.loops cut (rw count (rw c.round.ensures refl))
