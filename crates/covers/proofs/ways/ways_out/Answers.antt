use Rattle.std.proofs.Common.{◌≡◌, ◌+◌, None, sym, subst, take, rules, arith}
use Rattle.covers.specs.declared.ways.Ways.{Ways}
use Rattle.std.specs.Prelude.{All}
use Rattle.covers.specs.Bounds.{IsWithin}
use Rattle.covers.specs.inside.Ways.{AreWays}
use Rattle.covers.proofs.WaysLeadOut.{more-stays, more-way}
use Rattle.covers.proofs.ways.ways_out.Goals as goal
use Rattle.covers.proofs.ways.ways_out.Goals.{in-Some, in_default}

pub loop-cap-preserved : goal.loop-cap-preserved
loop-cap-preserved c =
    let lattice = c.args.lattice.now in
    let n = c.args.node.now in
    let caps = c.as_slice-cap-items.result.now in
    let i = c.loop-cap.cap-index in
    let P = λ (ways : Ways). AreWays c.args.lattice.now c.args.node.now (take (c.loop-cap.cap-index + 1) c.as_slice-cap-items.result.now) ways in
    elim c.match-way_out.branch [
      | in-Some w ↦ subst P (sym w.ways-is) (more-way lattice n caps i _ c.loop-cap.ways w.with-ways.result w.in-Some.way (omega arith) (subst (All (IsWithin n.lo.items)) (sym c.as_slice-cap-items.ensures) c.requires.covers) c.loop-cap.invariant w.in-Some.ensures w.with-ways.ensures)
      | in_default w ↦ subst P (sym w.ways-is) (let gone : c.way_out.result ≡ None = search rules in let here = rw gone at c.way_out.ensures in more-stays lattice n caps i _ c.loop-cap.ways (omega arith) c.loop-cap.invariant here)
    ]
