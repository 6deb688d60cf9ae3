use Rattle.std.proofs.Common.{◌≡◌, ◌<◌, ◌≤◌, ℕ, Some, Option, length, ⊎_elim, refl, sym, ap, ◌∙◌, arith}
use Rattle.std.specs.Prelude.{slice_get}
use Rattle.std.proofs.lemmas.Bool.{cases_lt, false≢true}
use Rattle.std.proofs.lemmas.Option.{slice_get-get_or, slice_get_within}
use Rattle.sd_base.specs.declared.tables.ChannelRow.{ChannelRow}
use Rattle.bounded_scenarios.proofs.ScanStepsHold.{first-named}
use Rattle.bounded_scenarios.proofs.naming.channel_named.Goals as goal

pub returns-then-is_same : goal.returns-then-is_same
returns-then-is_same c =
    sym (first-named c.args.channels.now c.args.name.now c.loop-channel.channel-index c.channel-item.result
    (slice_get-get_or c.args.channels.now c.loop-channel.channel-index c.channel-item.result c.loop-channel-test.true ∙ ap Some (sym c.channel-item.is))
    (c.if-is_same.ensures.0 refl) c.loop-channel.invariant)

pub loop-channel-preserved : goal.loop-channel-preserved
loop-channel-preserved c = λ j d below at same. ⊎_elim
    (λ (less : j < c.loop-channel.channel-index). c.loop-channel.invariant j d less at same)
    (λ (last : c.loop-channel.channel-index ≤ j).
    let place : j ≡ c.loop-channel.channel-index = omega arith in
    let here : slice_get c.args.channels.now c.loop-channel.channel-index ≡ Some c.channel-item.result =
    slice_get-get_or c.args.channels.now c.loop-channel.channel-index c.channel-item.result c.loop-channel-test.true ∙ ap Some (sym c.channel-item.is) in
    let h : ◌≡◌ {A = Option ChannelRow} (Some d) (Some c.channel-item.result) = sym at ∙ (ap (λ (n : ℕ). slice_get c.args.channels.now n) place ∙ here) in
    let is : d ≡ c.channel-item.result = cc in
    false≢true (c.if-is_same.ensures.1 (sym (ap (λ (r : ChannelRow). r.name) is) ∙ same))) (cases_lt j c.loop-channel.channel-index)

pub unreachable-requires : goal.unreachable-requires
unreachable-requires c =
    let inside : c.requires.0 < length c.args.channels.now = slice_get_within c.args.channels.now c.requires.0 c.requires.1 c.requires.2 in
    c.loop-channel.invariant c.requires.0 c.requires.1 (omega (arith, c.loop-channel-test.false)) c.requires.2 c.requires.3
