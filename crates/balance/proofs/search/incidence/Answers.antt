use Rattle.std.proofs.Common.{◌≡◌, ℕ, List, length, Some, sym, subst, arith}
use Rattle.std.specs.Prelude.{slice_get, slice_index_or}
use Rattle.std.proofs.lemmas.Option.{slice_get-get_or}
use Rattle.balance.specs.declared.walk.Link.{Link}
use Rattle.balance.specs.inside.Search.{IsIncidence}
use Rattle.balance.proofs.IncidenceListChannels.{incidence_none, incidence_more}
use Rattle.balance.proofs.search.incidence.Goals as goal

none : Link
none = record { source = 0; target = 0; made = 0; taken = 0 }

pub loop-channel-init : goal.loop-channel-init
loop-channel-init c =
    subst (λ (rows : List (List ℕ)). IsIncidence c.args.links.now 0 c.args.actors rows) (sym c.in_ok-lists.ensures) (incidence_none c.args.links.now c.args.actors)

pub join-requires-clause-source : goal.join-requires-clause-source
unfolding none
join-requires-clause-source c =
    let k : ℕ = c.loop-channel.channel in
    let lt = c.requires.ends.source k (slice_index_or c.args.links.now k none) (slice_get-get_or c.args.links.now k none c.loop-channel-test.true) in
    let size = c.loop-channel.invariant.size in
    omega arith

pub join-requires-clause-target : goal.join-requires-clause-target
unfolding none
join-requires-clause-target c =
    let k : ℕ = c.loop-channel.channel in
    let lt = c.requires.ends.target k (slice_index_or c.args.links.now k none) (slice_get-get_or c.args.links.now k none c.loop-channel-test.true) in
    let size = c.loop-channel.invariant.size in
    omega arith

pub loop-channel-preserved : goal.loop-channel-preserved
unfolding none
loop-channel-preserved c =
    let ls : List Link = c.args.links.now in
    let k : ℕ = c.loop-channel.channel in
    let l : Link = slice_index_or ls k none in
    let at : slice_get ls k ≡ Some l = slice_get-get_or ls k none c.loop-channel-test.true in
    let low = c.requires.ends.source k l at in
    let high = c.requires.ends.target k l at in
    let size = c.loop-channel.invariant.size in
    incidence_more ls k c.args.actors c.loop-channel.lists.rows.items c.join.new.lists.rows.items l at (omega arith) (omega arith) c.in_ok-join.ensures c.loop-channel.invariant

pub returns : goal.returns
returns c =
    let e : c.loop-channel.channel ≡ length c.args.links.now = omega (arith, c.loop-channel-test.false, c.loop-channel.auto.channel-end) in
    subst (λ n. IsIncidence c.args.links.now n c.args.actors c.loop-channel.lists.rows.items) e c.loop-channel.invariant
