use Rattle.std.proofs.Common.{◌≡◌, ◌∙◌, length, map, sum, ap, sym, arith}
use Rattle.std.specs.Prelude.{IfSome}
use Rattle.sd_base.proofs.LoopRates.{table-rate}
use Rattle.need_loops.specs.inside.Growing.{IsGrowth}
use Rattle.need_loops.specs.inside.Showing.{IsLoopIn}
use Rattle.need_loops.proofs.FirstDue.{later-grown}
use Rattle.need_loops.proofs.by_moments.loop_by_moments.Goals as goal

pub returns-in-loop-look : goal.returns-in-loop-look
returns-in-loop-look g c =
    let answer : IfSome c.in_ok-table.field-0 (IsLoopIn (g.F.Firing.net c.args.wired.now.net.now) c.extend.new.self.starts.items) = c.in_ok-table.ensures in
    let found : IsLoopIn (g.F.Firing.net c.args.wired.now.net.now) c.extend.new.self.starts.items c.in-Some.table = rw c.in-Some.is at answer in
    let total : sum (map length c.extend.new.self.starts.items) ≡ c.starts_in-total.result =
    ap (λ rows. sum (map length rows)) (sym c.as_slice.ensures.value) ∙ sym c.starts_in-total.ensures in
    record {
      loop = found.loop;
      number = omega (arith, found.number, total, c.if-total-from.false, c.from.ensures, c.min-most.ensures, c.requires.some);
      few = omega (arith, found.few, total, c.if-total-from.false, c.from.ensures, c.min-most.ensures);
      rate = table-rate (g.F.Firing.net c.args.wired.now.net.now) (g.met.F.Firing.lawful c.args.wired.now.net.now) c.requires.inputs c.in-Some.table.entry c.in-Some.table.period c.in-Some.table.rounds c.in-Some.table.before c.in-Some.table.starts found.loop;
    }

pub loop-look-preserved : goal.loop-look-preserved
loop-look-preserved g c =
    let grown : IsGrowth (g.F.Firing.net c.args.wired.now.net.now) c.loop-look.pace.until c.extend.new.self = rw c.reach.ensures.until at c.in_ok-extend.ensures in
    record {
      grown = later-grown (g.F.Firing.net c.args.wired.now.net.now) c.loop-look.pace.until c.go_on.new.self.until c.extend.new.self c.go_on.ensures.further grown;
      soon = omega (arith, c.go_on.ensures.soon, c.if-pace-gt-LATEST.false);
    }
