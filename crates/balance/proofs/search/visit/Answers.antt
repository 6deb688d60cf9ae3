use Rattle.std.proofs.Common.{◌≡◌, ℕ, ◌+◌, ◌<◌, List, length, Some, sym, refl, ap, subst, ◌∙◌, arith}
use Rattle.std.specs.Prelude.{slice_get, slice_index_or}
use Rattle.std.proofs.lemmas.Option.{slice_get_read, slice_get-get_or, slice_get_within}
use Rattle.balance.specs.declared.walk.Link.{Link}
use Rattle.balance.specs.declared.search.Found.{Found}
use Rattle.balance.specs.inside.Lists.{list_at}
use Rattle.balance.specs.inside.Search.{IsIncidence}
use Rattle.balance.proofs.SearchFindsWays.{found_within, looked_old}
use Rattle.balance.proofs.IncidenceListChannels.{IsVisit, visit_start, visit_more, visit_end}
use Rattle.balance.proofs.search.visit.Goals as goal

none : Link
none = record { source = 0; target = 0; made = 0; taken = 0 }

-- the channel that the code reads is on the actor's list, and is one of the links
listed : (rows : List (List ℕ)) (ks : List ℕ) (a p : ℕ) → ks ≡ list_at rows a → p < length ks → slice_get (list_at rows a) p ≡ Some (slice_index_or ks p 0)
listed rows ks a p e lt = subst (λ (t : List ℕ). slice_get t p ≡ Some (slice_index_or ks p 0)) e (slice_get-get_or ks p 0 lt)

channel : (ls : List Link) (n : ℕ) (rows : List (List ℕ)) (ks : List ℕ) (a p : ℕ) → IsIncidence ls (length ls) n rows → ks ≡ list_at rows a → p < length ks → slice_index_or ks p 0 < length ls
channel ls n rows ks a p incidence e lt = incidence.below a p (slice_index_or ks p 0) (listed rows ks a p e lt)

pub at-channel-items-requires : goal.at-channel-items-requires
at-channel-items-requires c =
    let s = c.args.search.now in
    let x : Found = c.index.result.now in
    let at : slice_get s.found.items c.args.place ≡ Some x = slice_get_read s.found.items (length s.found.items) c.args.place x refl c.requires.listed c.index.ensures in
    let lt : x.actor < length s.seen.items = found_within c.args.links.now (length s.seen.items) s.found.items s.seen.items c.args.place 0 c.requires.before c.args.place x at in
    let size = c.requires.incidence.size in
    omega arith

pub loop-channel-init : goal.loop-channel-init
loop-channel-init c =
    let s = c.args.search.now in
    let x : Found = c.index.result.now in
    let at : slice_get s.found.items c.args.place ≡ Some x = slice_get_read s.found.items (length s.found.items) c.args.place x refl c.requires.listed c.index.ensures in
    (x, at, refl, visit_start c.args.links.now (length s.seen.items) (list_at c.args.incidence.now.rows.items x.actor) s.found.items s.seen.items c.args.place c.requires.before)

pub bounds-links-channel : goal.bounds-links-channel
bounds-links-channel c =
    channel c.args.links.now (length c.args.search.now.seen.items) c.args.incidence.now.rows.items c.at-channel-items.result.now c.index.result.now.actor c.loop-channel.channel-index
    c.requires.incidence c.at-channel-items.ensures c.loop-channel-test.true

pub look-requires-clause-listed : goal.look-requires-clause-listed
look-requires-clause-listed c =
    let (x, at, same, visit) = c.loop-channel.invariant in
    slice_get_within c.loop-channel.search.found.items c.args.place x at

pub look-requires-clause-source : goal.look-requires-clause-source
unfolding none
look-requires-clause-source c =
    let (x, at, same, visit) = c.loop-channel.invariant in
    let k : ℕ = slice_index_or c.at-channel-items.result.now c.loop-channel.channel-index 0 in
    let lt : k < length c.args.links.now =
    channel c.args.links.now (length c.args.search.now.seen.items) c.args.incidence.now.rows.items c.at-channel-items.result.now c.index.result.now.actor c.loop-channel.channel-index
    c.requires.incidence c.at-channel-items.ensures c.loop-channel-test.true in
    subst (λ n. (slice_index_or c.args.links.now k none).source < n) (sym visit.search.size)
    (c.requires.ends.source k (slice_index_or c.args.links.now k none) (slice_get-get_or c.args.links.now k none lt))

pub look-requires-clause-target : goal.look-requires-clause-target
unfolding none
look-requires-clause-target c =
    let (x, at, same, visit) = c.loop-channel.invariant in
    let k : ℕ = slice_index_or c.at-channel-items.result.now c.loop-channel.channel-index 0 in
    let lt : k < length c.args.links.now =
    channel c.args.links.now (length c.args.search.now.seen.items) c.args.incidence.now.rows.items c.at-channel-items.result.now c.index.result.now.actor c.loop-channel.channel-index
    c.requires.incidence c.at-channel-items.ensures c.loop-channel-test.true in
    subst (λ n. (slice_index_or c.args.links.now k none).target < n) (sym visit.search.size)
    (c.requires.ends.target k (slice_index_or c.args.links.now k none) (slice_get-get_or c.args.links.now k none lt))

pub loop-channel-preserved : goal.loop-channel-preserved
unfolding none
loop-channel-preserved c =
    let (x, at, same, visit) = c.loop-channel.invariant in
    let ls : List Link = c.args.links.now in
    let n : ℕ = length c.args.search.now.seen.items in
    let rows : List (List ℕ) = c.args.incidence.now.rows.items in
    let a : ℕ = c.index.result.now.actor in
    let p : ℕ = c.loop-channel.channel-index in
    let k : ℕ = slice_index_or c.at-channel-items.result.now p 0 in
    let here : slice_get (list_at rows a) p ≡ Some k = listed rows c.at-channel-items.result.now a p c.at-channel-items.ensures c.loop-channel-test.true in
    let over : slice_get ls k ≡ Some (slice_index_or ls k none) =
    slice_get-get_or ls k none (channel ls n rows c.at-channel-items.result.now a p c.requires.incidence c.at-channel-items.ensures c.loop-channel-test.true) in
    let old = c.loop-channel.search in
    let new = c.look.new.search in
    let visit' : IsVisit ls n (list_at rows x.actor) old.found.items old.seen.items c.args.place p = subst (λ b. IsVisit ls n (list_at rows b) old.found.items old.seen.items c.args.place p) (sym same) visit in
    let here' : slice_get (list_at rows x.actor) p ≡ Some k = subst (λ b. slice_get (list_at rows b) p ≡ Some k) (sym same) here in
    let next : IsVisit ls n (list_at rows x.actor) new.found.items new.seen.items c.args.place (p + 1) =
    visit_more ls n rows old.found.items new.found.items old.seen.items new.seen.items c.args.place p k x (slice_index_or ls k none) c.requires.ends c.requires.incidence at here' over c.in_ok-look.ensures visit' in (
      x,
      looked_old old.found.items new.found.items old.seen.items new.seen.items c.args.place k (slice_index_or ls k none) c.in_ok-look.ensures c.args.place x at,
      same,
      subst (λ b. IsVisit ls n (list_at rows b) new.found.items new.seen.items c.args.place (p + 1)) same next,
    )

pub returns : goal.returns
returns c =
    let (x, at, same, visit) = c.loop-channel.invariant in
    let ls : List Link = c.args.links.now in
    let n : ℕ = length c.args.search.now.seen.items in
    let rows : List (List ℕ) = c.args.incidence.now.rows.items in
    let s = c.loop-channel.search in
    let p : ℕ = c.loop-channel.channel-index in
    let size : length c.at-channel-items.result.now ≡ length (list_at rows x.actor) =
    ap (λ (t : List ℕ). length t) c.at-channel-items.ensures ∙ ap (λ b. length (list_at rows b)) (sym same) in
    visit_end ls n rows s.found.items s.seen.items c.args.place p x c.requires.incidence at (omega (arith, size, c.loop-channel-test.false))
    (subst (λ b. IsVisit ls n (list_at rows b) s.found.items s.seen.items c.args.place p) (sym same) visit)
