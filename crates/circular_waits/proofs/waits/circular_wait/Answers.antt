use Rattle.std.proofs.Common.{ℕ, All, subst, sym, length}
use Rattle.std.specs.Prelude.{slice_index}
use Rattle.std.proofs.lemmas.Result.{IfOk-weaker}
use Rattle.sd_base.specs.Net.{Net, channel_at}
use Rattle.sd_base.specs.Untimed.{IsFirstLacking}
use Rattle.circular_waits.specs.CircularWaits.{IsCircularWait, WaitOnce}
use Rattle.circular_waits.specs.inside.Following.{after, AreNamedFrom, ComesBack, IsRoundFrom, IsShort}
use Rattle.circular_waits.proofs.RoundsAreWaits.{short-after, named-from, back-from, round-waits, round-firsts, round-once}
use Rattle.circular_waits.proofs.waits.circular_wait.Goals as goal

pub far_on-start-requires : goal.far_on-start-requires
far_on-start-requires g c =
    named-from (g.F.Firing.net c.args.net.now) c.know_laws.ensures (slice_index c.args.counts.now) c.requires.blocks c.args.lacks.now c.requires.names c.first_short-short.result c.first_short-short.ensures

pub round_from-requires-clause-named : goal.round_from-requires-clause-named
round_from-requires-clause-named g c =
    let net : Net = g.F.Firing.net c.args.net.now in
    let far : IsShort net (slice_index c.args.counts.now) (after net c.args.lacks.now (length net.times) c.first_short-short.result) =
    short-after net c.know_laws.ensures (slice_index c.args.counts.now) c.requires.blocks c.args.lacks.now c.requires.names (length net.times) c.first_short-short.result c.first_short-short.ensures in
    subst (AreNamedFrom net c.args.lacks.now) (sym c.far_on-start.ensures)
    (named-from net c.know_laws.ensures (slice_index c.args.counts.now) c.requires.blocks c.args.lacks.now c.requires.names (after net c.args.lacks.now (length net.times) c.first_short-short.result) far)

pub round_from-requires-clause-back : goal.round_from-requires-clause-back
round_from-requires-clause-back g c =
    let net : Net = g.F.Firing.net c.args.net.now in
    subst (ComesBack net c.args.lacks.now) (sym c.far_on-start.ensures)
    (back-from net c.know_laws.ensures (slice_index c.args.counts.now) c.requires.blocks c.args.lacks.now c.requires.names c.first_short-short.result c.first_short-short.ensures)

pub returns-clause-wait : goal.returns-clause-wait
returns-clause-wait g c =
    let net : Net = g.F.Firing.net c.args.net.now in
    let v : ℕ → ℕ = slice_index c.args.counts.now in
    let far : IsShort net v c.far_on-start.result =
    subst (IsShort net v) (sym c.far_on-start.ensures) (short-after net c.know_laws.ensures v c.requires.blocks c.args.lacks.now c.requires.names (length net.times) c.first_short-short.result c.first_short-short.ensures) in
    IfOk-weaker c.round_from.result (IsRoundFrom net c.args.lacks.now c.far_on-start.result) (λ channels. IsCircularWait net v channels)
    (λ channels round. round-waits net c.know_laws.ensures v c.requires.blocks c.args.lacks.now c.requires.names c.far_on-start.result far channels round) c.round_from.ensures

pub returns-clause-first : goal.returns-clause-first
returns-clause-first g c =
    let net : Net = g.F.Firing.net c.args.net.now in
    let v : ℕ → ℕ = slice_index c.args.counts.now in
    let far : IsShort net v c.far_on-start.result =
    subst (IsShort net v) (sym c.far_on-start.ensures) (short-after net c.know_laws.ensures v c.requires.blocks c.args.lacks.now c.requires.names (length net.times) c.first_short-short.result c.first_short-short.ensures) in
    IfOk-weaker c.round_from.result (IsRoundFrom net c.args.lacks.now c.far_on-start.result) (λ channels. All (λ i. IsFirstLacking net v (channel_at net i).target i) channels)
    (λ channels round. round-firsts net c.know_laws.ensures v c.requires.blocks c.args.lacks.now c.requires.names c.far_on-start.result far channels round) c.round_from.ensures

pub returns-clause-once : goal.returns-clause-once
returns-clause-once g c =
    let net : Net = g.F.Firing.net c.args.net.now in
    let v : ℕ → ℕ = slice_index c.args.counts.now in
    let far : IsShort net v c.far_on-start.result =
    subst (IsShort net v) (sym c.far_on-start.ensures) (short-after net c.know_laws.ensures v c.requires.blocks c.args.lacks.now c.requires.names (length net.times) c.first_short-short.result c.first_short-short.ensures) in
    IfOk-weaker c.round_from.result (IsRoundFrom net c.args.lacks.now c.far_on-start.result) (λ channels. WaitOnce net channels)
    (λ channels round. round-once net c.know_laws.ensures v c.requires.blocks c.args.lacks.now c.requires.names c.far_on-start.result far channels round) c.round_from.ensures
