use Rattle.std.proofs.Common.{◌≡◌, ◌≤◌, ℕ, List, Option, inl, inr, ⊎_elim, subst, refl, arith}
use Rattle.sd_base.specs.Net.{Net}
use Rattle.entry_ways.specs.inside.Columns.{IsEndIn, IsLongest}
use Rattle.entry_ways.proofs.LatestEndsGiveLinks.{ends-none, ends-more}
use Rattle.entry_ways.proofs.LaterIsLongest.{longest-same}
use Rattle.entry_ways.proofs.column.latest_end.Goals as goal

pub loop-producer-init : goal.loop-producer-init
loop-producer-init g c = (omega arith, inr refl, ends-none (g.F.Firing.net c.args.chains.now.wired.now.net.now) (λ n. n) 0 c.args.rows.now c.args.channel 0 c.args.first)

pub loop-producer-preserved : goal.loop-producer-preserved
loop-producer-preserved g c =
    let net : Net = g.F.Firing.net c.args.chains.now.wired.now.net.now in
    let inv = c.loop-producer.invariant in
    let more = ends-more net (λ n. n) 0 c.args.rows.now c.args.channel 0 c.args.first c.loop-producer.producer c.loop-producer.latest inv.0 inv.2 in
    (omega (arith, inv.0), inl (omega (arith, c.loop-producer-test.true)), rw (c.later-latest.ensures, c.end_of.ensures) more)

pub returns : goal.returns
returns g c =
    let net : Net = g.F.Firing.net c.args.chains.now.wired.now.net.now in
    let rows : List (List (Option ℕ)) = c.args.rows.now in
    ⊎_elim
    (λ (within : c.loop-producer.producer ≤ c.args.end).
    let same : c.loop-producer.producer ≡ c.args.end = omega (arith, c.loop-producer-test.false) in
    subst (λ (n : ℕ). IsLongest (IsEndIn net rows c.args.channel c.args.first n) c.loop-producer.latest) same c.loop-producer.invariant.2)
    (λ (none : c.loop-producer.producer ≡ c.args.first).
    longest-same (IsEndIn net rows c.args.channel c.args.first c.loop-producer.producer) (IsEndIn net rows c.args.channel c.args.first c.args.end) c.loop-producer.latest
    (λ t (k, d, low, high, at, is). absurd (omega arith)) (λ t (k, d, low, high, at, is). absurd (omega (arith, c.loop-producer-test.false))) c.loop-producer.invariant.2)
    c.loop-producer.invariant.1
