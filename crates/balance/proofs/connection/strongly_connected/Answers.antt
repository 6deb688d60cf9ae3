use Rattle.std.proofs.Common.{◌≡◌, ℕ, ◌<◌, List, Bool, length, true, subst, ap, arith}
use Rattle.balance.specs.inside.Search.{mark_at}
use Rattle.balance.proofs.MarksFollowPaths.{through}
use Rattle.balance.proofs.connection.strongly_connected.Goals as goal

-- the marks that the code reads
mark : (marks read : List Bool) (actors v : ℕ) → read ≡ marks → length marks ≡ actors → ((b : ℕ) → b < length read → mark_at read b ≡ true) → v < actors → mark_at marks v ≡ true
mark marks read actors v e size all lt =
    subst (λ (bs : List Bool). mark_at bs v ≡ true) e (all v (let s : length read ≡ length marks = ap (λ (bs : List Bool). length bs) e in omega arith))

pub returns-clause-connected : goal.returns-clause-connected
returns-clause-connected c =
    λ a b la lb.
    through c.args.ends.now a 0 b
    (c.in_ok-to_first.ensures.led a
    (mark c.in_ok-to_first.to_first.items c.deref-2.result.now c.args.actors a c.deref-2.ensures.value c.in_ok-to_first.ensures.size c.in_default-first_unmarked.ensures la))
    (c.in_ok-from_first.ensures.led b
    (mark c.in_ok-from_first.from_first.items c.deref.result.now c.args.actors b c.deref.ensures.value c.in_ok-from_first.ensures.size c.in_default.ensures lb))
