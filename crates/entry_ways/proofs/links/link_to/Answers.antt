use Rattle.std.proofs.Common.{◌≡◌, ◌≤◌, ◌<◌, ℕ, List, ⊎_elim, sym, subst, arith}
use Rattle.std.specs.Prelude.{slice_index}
use Rattle.std.proofs.lemmas.Bool.{cases_lt}
use Rattle.firing.specs.declared.sums.Port.TheVariants.{Taken}
use Rattle.firing.proofs.PlacesAreListed.{place_of}
use Rattle.sd_base.specs.Net.{Net, channel_at}
use Rattle.entry_ways.specs.inside.Columns.{IsLink}
use Rattle.entry_ways.proofs.WaySteps.{exact-link, no-link, round-fed}
use Rattle.entry_ways.proofs.links.link_to.Goals as goal

pub link_on-requires-clause-fed : goal.link_on-requires-clause-fed
link_on-requires-clause-fed g c =
    let net : Net = g.F.Firing.net c.args.chains.now.wired.now.net.now in
    let channels : List ℕ = c.inputs_of-channel-items.result.now in
    let i : ℕ = slice_index channels c.loop-channel.channel-index in
    let listed = c.inputs_of-channel-items.ensures in
    let into : (channel_at net i).target ≡ c.args.actor = listed.there c.loop-channel.channel-index c.loop-channel-test.true in
    round-fed net c.know_laws.ensures (slice_index c.args.chains.now.firsts.now) c.args.chains.now.token c.args.rows.now c.requires.column i c.args.firing
    (listed.place c.loop-channel.channel-index c.loop-channel-test.true) (rw into c.requires.firing)

pub loop-channel-preserved : goal.loop-channel-preserved
loop-channel-preserved g c =
    let net : Net = g.F.Firing.net c.args.chains.now.wired.now.net.now in
    let number : ℕ → ℕ = slice_index c.args.chains.now.firsts.now in
    let p : ℕ = c.args.chains.now.token in
    let channels : List ℕ = c.inputs_of-channel-items.result.now in
    let n : ℕ = c.loop-channel.channel-index in
    λ k below link. ⊎_elim
    (λ (less : k < n). c.loop-channel.invariant k less link)
    (λ (last : n ≤ k).
    let same : k ≡ n = omega arith in
    no-link net number p c.args.rows.now (slice_index channels n) c.args.firing c.args.start c.link_on.result c.link_on.ensures c.in_default.not-Some
    (subst (λ (m : ℕ). IsLink net number p c.args.rows.now (slice_index channels m) c.args.firing c.args.start) same link))
    (cases_lt k n)

pub unreachable-requires : goal.unreachable-requires
unreachable-requires g c =
    let net : Net = g.F.Firing.net c.args.chains.now.wired.now.net.now in
    let number : ℕ → ℕ = slice_index c.args.chains.now.firsts.now in
    let p : ℕ = c.args.chains.now.token in
    let channels : List ℕ = c.inputs_of-channel-items.result.now in
    let link = exact-link net c.know_laws.ensures number p c.args.rows.now c.requires.column c.args.actor c.args.firing c.args.start c.requires.actor c.requires.firing c.requires.start in
    let l = place_of net Taken c.args.actor channels c.inputs_of-channel-items.ensures link.0 link.1 link.2 in
    c.loop-channel.invariant l.0 (omega (arith, l.1, c.loop-channel-test.false))
    (subst (λ (i : ℕ). IsLink net number p c.args.rows.now i c.args.firing c.args.start) {y = slice_index channels l.0} (sym l.2) link.3)
