use Rattle.std.proofs.Common.{◌≡◌, None, Some, List, Option, ℕ, refl, sym, ap, ◌∙◌, rules}
use Rattle.std.specs.Prelude.{slice_set}
use Rattle.std.proofs.lemmas.Result.{err_from_is_err_and}
use Rattle.levels.proofs.VisitsLeadToChildren.{child-ends, child-led}
use Rattle.levels.proofs.RoomAddsStorage.{set-back}
use Rattle.levels.proofs.VisitsLeadOn.{known-at, led-beyond, led-unbounded}
use Rattle.levels.proofs.levels.Levels.lead_by.Goals as goal

pub returns-in_default-clause-led : goal.returns-in_default-clause-led
returns-in_default-clause-led g c = λ cs over total rises.
    let gone : c.capacity_of.result ≡ None = search rules in
    led-unbounded cs c.args.self.now.bounds.total c.args.from.capacities c.args.channel c.args.hint c.args.self.now.waiting (sym c.capacity_of.ensures ∙ gone) rises

pub returns-in_default-stepped_up-clause-led : goal.returns-in_default-stepped_up-clause-led
returns-in_default-stepped_up-clause-led g c = λ cs over total rises.
    led-beyond cs c.args.self.now.channels over c.args.from.capacities c.args.channel c.in-Some.room c.requires.channel (sym c.capacity_of.ensures ∙ c.in-Some.is) c.channel-of_channel.result
    (c.channel-of_channel.ensures ∙ known-at cs c.args.self.now.channels c.args.channel c.channel-of_channel.result over c.requires.channel)
    c.args.self.now.bounds.total c.args.total c.args.hint c.args.self.now.waiting total (search rules)

pub returns-in_err-admit-clause-ended : goal.returns-in_err-admit-clause-ended
returns-in_err-admit-clause-ended g c =
    let p = err_from_is_err_and c.from_residual.result c.from_residual.ensures.1 in
    let raised = c.in-Some-stepped_up.ensures in
    rw (p.1, p.2)
    (child-ends c.args.self.now.channels c.args.self.now.bounds c.args.from.capacities c.args.channel c.in-Some.room c.in-Some-stepped_up.raised.room c.requires.channel (sym c.capacity_of.ensures ∙ c.in-Some.is) c.channel-of_channel.result c.channel-of_channel.ensures
    c.args.total c.args.hint _ c.with_room-capacities.ensures raised.0 raised.1 raised.2 refl c.args.self.now.found c.args.self.now.waiting c.in_err-admit.field-0.0 c.in_err-admit.ensures.ended)

pub returns-clause-back : goal.returns-clause-back
returns-clause-back g c =
    c.with_room.ensures
    ∙ (ap (λ (ds : List (Option ℕ)). slice_set ds c.args.channel (Some c.in-Some.room)) c.with_room-capacities.ensures
    ∙ set-back c.args.from.capacities c.args.channel c.in-Some.room c.in-Some-stepped_up.raised.room (sym c.capacity_of.ensures ∙ c.in-Some.is))

pub returns-clause-led : goal.returns-clause-led
returns-clause-led g c = λ cs over total rises.
    let raised = c.in-Some-stepped_up.ensures in
    child-led c.args.self.now.channels c.args.self.now.bounds c.args.from.capacities c.args.channel c.in-Some.room c.in-Some-stepped_up.raised.room c.requires.channel (sym c.capacity_of.ensures ∙ c.in-Some.is) c.channel-of_channel.result c.channel-of_channel.ensures
    c.args.total c.args.hint _ c.with_room-capacities.ensures raised.0 raised.1 raised.2 refl c.args.self.now.waiting c.admit.new.self.waiting c.in_ok-admit.ensures.added cs over total
