use Rattle.std.proofs.Common.{◌≡◌, ◌+◌, ◌++◌, ℕ, List, [], Option, Result, Ok, Err, length, take, drop, ap, sym, subst, ◌∙◌, arith}
use Rattle.std.specs.Prelude.{slice_index, slice_index_or}
use Rattle.std.proofs.lemmas.List.{take_at}
use Rattle.sd_base.specs.Untimed.{none_fired, counts_after}
use Rattle.token_matrix.specs.inside.LaterRows.{AreWithin, shifted}
use Rattle.std.specs.Result.{OnOk}
use Rattle.sd_base.specs.declared.memory.NoMemory.{NoMemory}
use Rattle.token_matrix.specs.inside.Lines.{ArePut}
use Rattle.token_matrix.specs.inside.RoundRows.{Stands}
use Rattle.token_matrix.proofs.FiringsMoveRows.{are_ready, row_within, stands_more}
use Rattle.token_matrix.proofs.OrdersFireInTurn.{fires_at, after_more, after_within}
use Rattle.token_matrix.proofs.round.fire.Goals as goal

pub inputs_of-requires : goal.inputs_of-requires
inputs_of-requires g c = (fires_at (g.F.Firing.net c.args.wired.now.net.now) none_fired c.args.order.now c.args.place c.requires.1.round.fires c.requires.1.within).actor

pub take_row-requires-clause-actor : goal.take_row-requires-clause-actor
take_row-requires-clause-actor g c = (fires_at (g.F.Firing.net c.args.wired.now.net.now) none_fired c.args.order.now c.args.place c.requires.1.round.fires c.requires.1.within).actor

pub take_row-requires-clause-ready : goal.take_row-requires-clause-ready
take_row-requires-clause-ready g c =
    let net = g.F.Firing.net c.args.wired.now.net.now in
    let f = fires_at net none_fired c.args.order.now c.args.place c.requires.1.round.fires c.requires.1.within in
    are_ready net c.know_laws.ensures c.requires.1.phases c.requires.0 c.args.size (counts_after none_fired (take c.args.place c.args.order.now)) c.args.lines.now (slice_index c.args.order.now c.args.place)
    c.requires.1.stands f.actor f.can

pub time-requires-clause-actor : goal.time-requires-clause-actor
time-requires-clause-actor g c = (fires_at (g.F.Firing.net c.args.wired.now.net.now) none_fired c.args.order.now c.args.place c.requires.1.round.fires c.requires.1.within).actor

pub time-requires-clause-phase : goal.time-requires-clause-phase
time-requires-clause-phase g c =
    let f = fires_at (g.F.Firing.net c.args.wired.now.net.now) none_fired c.args.order.now c.args.place c.requires.1.round.fires c.requires.1.within in
    omega (arith, c.requires.1.phases (slice_index c.args.order.now c.args.place) f.actor)

pub delay-requires-clause-within : goal.delay-requires-clause-within
delay-requires-clause-within g c =
    let net = g.F.Firing.net c.args.wired.now.net.now in
    let f = fires_at net none_fired c.args.order.now c.args.place c.requires.1.round.fires c.requires.1.within in
    subst (AreWithin _) (sym c.as_mut_slice.ensures.value)
    (row_within net c.know_laws.ensures c.requires.1.phases c.requires.0 c.args.size (counts_after none_fired (take c.args.place c.args.order.now)) c.args.lines.now (slice_index c.args.order.now c.args.place)
    c.requires.1.stands f.actor f.can c.in_ok-row.row.items c.in_ok-row.ensures.latest c.requires.1.fed
    (after_within net none_fired c.args.order.now c.args.place c.requires.1.round.fires (λ b there. omega arith)))

pub outputs_of-requires : goal.outputs_of-requires
outputs_of-requires g c = (fires_at (g.F.Firing.net c.args.wired.now.net.now) none_fired c.args.order.now c.args.place c.requires.1.round.fires c.requires.1.within).actor

pub put_tokens-requires-clause-actor : goal.put_tokens-requires-clause-actor
put_tokens-requires-clause-actor g c = (fires_at (g.F.Firing.net c.args.wired.now.net.now) none_fired c.args.order.now c.args.place c.requires.1.round.fires c.requires.1.within).actor

pub returns : goal.returns
returns g c = on c.put_tokens.result c.put_tokens.ensures
  where
    back : take c.in_ok-row.row.len (c.delay.new.row ++ drop (length c.delay.new.row) c.in_ok-row.row.items) ≡ c.delay.new.row
    back = take_at c.delay.new.row (drop (length c.delay.new.row) c.in_ok-row.row.items) c.in_ok-row.row.len (omega (arith, c.delay.auto.row, c.as_mut_slice.ensures.len))

    later : c.in_ok-row-2.row.value ≡ shifted (slice_index (slice_index_or (g.F.Firing.net c.args.wired.now.net.now).times (slice_index c.args.order.now c.args.place) []) 0) c.in_ok-row.row.items
    later = c.in_ok-row-2.ensures.ok ∙ c.from_vec.ensures ∙ back ∙ c.delay.ensures ∙ ap (λ (r : List (Option ℕ)). shifted c.time.result r) c.as_mut_slice.ensures.value ∙ ap (λ (t : ℕ). shifted t c.in_ok-row.row.items) c.time.ensures

    on : (r : Result (Unit {0}) NoMemory) → OnOk r (ArePut (g.F.Firing.net c.args.wired.now.net.now) (slice_index c.args.order.now c.args.place) c.in_ok-row-2.row.value c.take_row.new.lines c.put_tokens.new.lines)
        → OnOk r ((first : ℕ → ℕ) → Stands (g.F.Firing.net c.args.wired.now.net.now) first c.args.size (counts_after none_fired (take c.args.place c.args.order.now)) c.args.lines.now
        → Stands (g.F.Firing.net c.args.wired.now.net.now) first c.args.size (counts_after none_fired (take (c.args.place + 1) c.args.order.now)) c.put_tokens.new.lines)
    on (Ok o) put = λ first stands.
        let net = g.F.Firing.net c.args.wired.now.net.now in
        let f = fires_at net none_fired c.args.order.now c.args.place c.requires.1.round.fires c.requires.1.within in
        subst (λ (v : ℕ → ℕ). Stands net first c.args.size v c.put_tokens.new.lines) (sym (after_more none_fired c.args.order.now c.args.place c.requires.1.within))
        (stands_more net c.know_laws.ensures c.requires.1.phases first c.args.size (counts_after none_fired (take c.args.place c.args.order.now)) c.args.lines.now (slice_index c.args.order.now c.args.place)
        stands f.actor f.can c.in_ok-row.row.items c.in_ok-row.ensures.latest c.requires.1.fed c.in_ok-row-2.row.value later c.take_row.new.lines c.put_tokens.new.lines c.in_ok-row.ensures.taken put
        (omega (arith, c.put_tokens.auto.lines, c.take_row.auto.lines)))
    on (Err e) put = tt
