use Rattle.std.proofs.Common.{◌≡◌, ◌≢◌, ◌∙◌, ap, sym, refl, Some, arith, rules}
use Rattle.std.specs.Prelude.{slice_get}
use Rattle.std.proofs.lemmas.Option.{slice_get_read}
use Rattle.sd_base.specs.declared.tables.ChannelRow.{ChannelRow}
use Rattle.test_scenarios.proofs.PrefixesExtend.{further}
use Rattle.test_scenarios.proofs.shared.is_new.Goals as goal

pub loop-before-preserved : goal.loop-before-preserved
loop-before-preserved c =
    let row = c.index-channels-before.result in
    let here : slice_get c.args.channels.now c.loop-before.before ≡ Some row =
    slice_get_read c.args.channels.now _ c.loop-before.before row refl (omega (arith, c.loop-before-test.true, c.requires)) c.index-channels-before.is in
    let told : c.as_str.result.now ≢ c.args.name.now = λ e. search rules in
    let other : row.name ≢ c.args.name.now = λ e. told (c.as_str.ensures ∙ (ap (λ (r : ChannelRow). r.name) (sym c.index-channels-before.is) ∙ e)) in
    further (λ _ (x : ChannelRow). x.name ≢ c.args.name.now) c.args.channels.now c.loop-before.before row here other c.loop-before.invariant
