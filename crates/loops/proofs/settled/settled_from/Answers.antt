use Rattle.std.proofs.Common.{arith}
use Rattle.loops.proofs.RowsSettle.{first-settled}
use Rattle.loops.proofs.settled.settled_from.Goals as goal

pub returns-then-unlike-more : goal.returns-then-unlike-more
returns-then-unlike-more g c =
    first-settled (g.F.Firing.net c.args.net.now) c.args.actor c.args.row.now c.args.more c.args.period c.unlike_of-unlike.result c.saturating_sub-later.result c.requires.rise c.unlike_of-unlike.ensures (omega (arith, c.if-unlike-eq0.false))
    (record {
      later = omega (arith, c.saturating_sub-later.ensures, c.end_of.ensures, c.from.ensures);
      earlier = λ after. absurd (omega (arith, c.if-unlike-more.true, c.if-unlike-eq0.false));
    })
    (λ x over. omega (arith, c.saturating_sub-later.ensures, c.end_of.ensures, c.from.ensures, over.later))

pub returns-then-earlier-later : goal.returns-then-earlier-later
returns-then-earlier-later g c =
    first-settled (g.F.Firing.net c.args.net.now) c.args.actor c.args.row.now c.args.more c.args.period c.unlike_of-unlike.result c.saturating_sub-later.result c.requires.rise c.unlike_of-unlike.ensures (omega (arith, c.if-unlike-eq0.false))
    (record {
      later = omega (arith, c.saturating_sub-later.ensures, c.end_of.ensures, c.from.ensures);
      earlier = λ after. omega (arith, c.end_of-earlier.ensures, c.if-earlier-later.true);
    })
    (λ x over. omega (arith, c.saturating_sub-later.ensures, c.end_of.ensures, c.from.ensures, over.later))

pub returns-else-earlier-later : goal.returns-else-earlier-later
returns-else-earlier-later g c =
    first-settled (g.F.Firing.net c.args.net.now) c.args.actor c.args.row.now c.args.more c.args.period c.unlike_of-unlike.result c.end_of-earlier.result c.requires.rise c.unlike_of-unlike.ensures (omega (arith, c.if-unlike-eq0.false))
    (record {
      later = omega (arith, c.saturating_sub-later.ensures, c.end_of.ensures, c.from.ensures, c.if-earlier-later.false);
      earlier = λ after. omega (arith, c.end_of-earlier.ensures);
    })
    (λ x over. omega (arith, c.end_of-earlier.ensures, over.earlier (omega (arith, c.if-unlike-more.false, c.if-unlike-eq0.false))))
