use Rattle.std.proofs.Common.{◌≡◌, ◌≤◌, ◌+◌, ◌*◌, ℕ, List, length, take, Option, Some, sym, subst, ◌∙◌, arith}
use Rattle.std.specs.Prelude.{slice_index}
use Rattle.std.proofs.lemmas.Result.{on_ok_weaker}
use Rattle.sd_base.specs.declared.limits.TheConstants.{TIME}
use Rattle.sd_base.specs.Net.{Net}
use Rattle.sd_base.specs.Untimed.{counts_after, none_fired}
use Rattle.entry_ways.specs.inside.Columns.{AreUpTo, HasStart, IsColumn, IsFedBy, IsLinkInto, IsLongest}
use Rattle.entry_ways.proofs.ColumnSteps.{column-more, link-small, next-fed, round-small, row-long, starts-small}
use Rattle.token_matrix.proofs.OrdersFireInTurn.{fires_at, after_more}
use Rattle.entry_ways.proofs.column.add_start.Goals as goal

pub index-requires : goal.index-requires
index-requires g c =
    let f = fires_at (g.F.Firing.net c.args.chains.now.wired.now.net.now) none_fired c.args.order.now c.args.place c.requires.order.fires c.requires.within in
    omega (arith, f.actor, c.requires.column.actors)

pub start_of-start-requires-clause-actor : goal.start_of-start-requires-clause-actor
start_of-start-requires-clause-actor g c = (fires_at (g.F.Firing.net c.args.chains.now.wired.now.net.now) none_fired c.args.order.now c.args.place c.requires.order.fires c.requires.within).actor

pub start_of-start-requires-clause-few : goal.start_of-start-requires-clause-few
start_of-start-requires-clause-few g c =
    let net : Net = g.F.Firing.net c.args.chains.now.wired.now.net.now in
    let a : ℕ = slice_index c.args.order.now c.args.place in
    let v : ℕ → ℕ = counts_after none_fired (take c.args.place c.args.order.now) in
    let f = fires_at net none_fired c.args.order.now c.args.place c.requires.order.fires c.requires.within in
    let row : length c.index.result.now ≡ v a = row-long net (slice_index c.args.chains.now.firsts.now) c.args.chains.now.token v c.args.rows.now.items c.requires.column a
    c.index.result.now f.actor c.index.ensures in
    omega (arith, c.len-firing.ensures, row, f.below, round-small net c.know_laws.ensures a f.actor)

pub start_of-start-requires-clause-fed : goal.start_of-start-requires-clause-fed
start_of-start-requires-clause-fed g c =
    let net : Net = g.F.Firing.net c.args.chains.now.wired.now.net.now in
    let number : ℕ → ℕ = slice_index c.args.chains.now.firsts.now in
    let p : ℕ = c.args.chains.now.token in
    let a : ℕ = slice_index c.args.order.now c.args.place in
    let v : ℕ → ℕ = counts_after none_fired (take c.args.place c.args.order.now) in
    let f = fires_at net none_fired c.args.order.now c.args.place c.requires.order.fires c.requires.within in
    let firing : c.len-firing.result ≡ v a = c.len-firing.ensures ∙ row-long net number p v c.args.rows.now.items c.requires.column a c.index.result.now f.actor c.index.ensures in
    λ i below into. subst (λ (rows : List (List (Option ℕ))). IsFedBy net rows i c.len-firing.result) {y = c.as_slice.result.now} (sym c.as_slice.ensures.value)
    (subst (λ (n : ℕ). IsFedBy net c.args.rows.now.items i n) {y = c.len-firing.result} (sym firing)
    (next-fed net c.know_laws.ensures number p v c.args.rows.now.items c.requires.column a f.can i below into))

pub push_start-requires : goal.push_start-requires
push_start-requires g c =
    let f = fires_at (g.F.Firing.net c.args.chains.now.wired.now.net.now) none_fired c.args.order.now c.args.place c.requires.order.fires c.requires.within in
    omega (arith, f.actor, c.requires.column.actors)

pub returns-clause-column : goal.returns-clause-column
returns-clause-column g c =
    let net : Net = g.F.Firing.net c.args.chains.now.wired.now.net.now in
    let number : ℕ → ℕ = slice_index c.args.chains.now.firsts.now in
    let p : ℕ = c.args.chains.now.token in
    let a : ℕ = slice_index c.args.order.now c.args.place in
    let v : ℕ → ℕ = counts_after none_fired (take c.args.place c.args.order.now) in
    let old : List (List (Option ℕ)) = c.args.rows.now.items in
    let start : Option ℕ = c.start_of-start.result in
    let f = fires_at net none_fired c.args.order.now c.args.place c.requires.order.fires c.requires.within in
    let firing : c.len-firing.result ≡ v a = c.len-firing.ensures ∙ row-long net number p v old c.requires.column a c.index.result.now f.actor c.index.ensures in
    let longest : IsLongest (IsLinkInto net number p old a (v a)) start =
    subst (λ (n : ℕ). IsLongest (IsLinkInto net number p old a n) start) {y = v a} firing
    (subst (λ (rows : List (List (Option ℕ))). IsLongest (IsLinkInto net number p rows a c.len-firing.result) start) {y = old} c.as_slice.ensures.value c.start_of-start.ensures) in
    on_ok_weaker c.push_start.result
    (λ (has : HasStart a start old c.push_start.new.rows.items).
    subst (λ (w : ℕ → ℕ). IsColumn net number p w c.push_start.new.rows.items) (sym (after_more none_fired c.args.order.now c.args.place c.requires.within))
    (column-more net c.know_laws.ensures number p v a start old c.push_start.new.rows.items c.requires.column f.actor f.below f.can longest has))
    c.push_start.ensures

pub returns-clause-small : goal.returns-clause-small
returns-clause-small g c =
    let net : Net = g.F.Firing.net c.args.chains.now.wired.now.net.now in
    let number : ℕ → ℕ = slice_index c.args.chains.now.firsts.now in
    let p : ℕ = c.args.chains.now.token in
    let a : ℕ = slice_index c.args.order.now c.args.place in
    let low : (t : ℕ) → c.start_of-start.result ≡ Some t → t ≤ TIME * (c.args.place + 1) = λ t at. (
    let bound : AreUpTo (TIME * c.args.place) c.as_slice.result.now = subst (λ (rows : List (List (Option ℕ))). AreUpTo (TIME * c.args.place) rows) {y = c.as_slice.result.now}
    (sym c.as_slice.ensures.value) c.requires.small in
    let most : t ≤ TIME * c.args.place + TIME =
    link-small net c.know_laws.ensures c.args.chains.now.traceable.phases number p c.as_slice.result.now (TIME * c.args.place) a c.len-firing.result t bound (c.start_of-start.ensures.just t at) in
    omega arith) in
    on_ok_weaker c.push_start.result
    (λ (has : HasStart a c.start_of-start.result c.args.rows.now.items c.push_start.new.rows.items).
    starts-small a c.start_of-start.result c.args.rows.now.items c.push_start.new.rows.items (TIME * c.args.place) (TIME * (c.args.place + 1)) c.requires.small (omega arith) low has)
    c.push_start.ensures
