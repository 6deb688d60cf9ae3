use Rattle.std.proofs.Common.{◌≡◌, ℕ, List, Some, length, sym, subst, ap, ◌∙◌, arith}
use Rattle.std.specs.Prelude.{slice_get, slice_index_or}
use Rattle.std.proofs.lemmas.Option.{slice_get_within, get_or_from_slice_get}
use Rattle.balance.specs.declared.walk.Link.{Link}
use Rattle.balance.specs.declared.search.Found.{Found}
use Rattle.balance.specs.inside.Search.{IsFound}
use Rattle.balance.specs.inside.Ratios.{IsClosedRefusal}
use Rattle.balance.proofs.LeastRounds.{small_at}
use Rattle.balance.proofs.FirstBreachRefuses.{ready, kept_refusal}
use Rattle.balance.proofs.closed.all_kept.Goals as goal

none : Link
none = record { source = 0; target = 0; made = 0; taken = 0 }

pub first_failing-requires-clause-small : goal.first_failing-requires-clause-small
first_failing-requires-clause-small c = small_at c.args.links.now (length c.args.search.now.seen.items) c.args.ratios.now c.requires.rated

pub offset_bounds-links-channel : goal.offset_bounds-links-channel
offset_bounds-links-channel c = (let lt = slice_get_within c.args.links.now c.in-Some.channel c.in-Some.ensures.0 c.in-Some.ensures.1 in omega arith)

pub bounds-links-channel : goal.bounds-links-channel
bounds-links-channel c = slice_get_within c.args.links.now c.in-Some.channel c.in-Some.ensures.0 c.in-Some.ensures.1

pub overflow_cast-channel : goal.overflow_cast-channel
overflow_cast-channel c = (let lt = slice_get_within c.args.links.now c.in-Some.channel c.in-Some.ensures.0 c.in-Some.ensures.1 in omega arith)

-- the channel that the code reads
read : (ls : List Link) (k : ℕ) (l : Link) → slice_get ls k ≡ Some l → slice_get ls k ≡ Some (slice_index_or ls k none)
read ls k l is = is ∙ ap (λ (x : Link). Some x) (sym (get_or_from_slice_get ls k l none is))

pub unbalanced-requires-clause-source : goal.unbalanced-requires-clause-source
unfolding none
unbalanced-requires-clause-source c =
    let s = c.args.search.now in
    let l : Link = slice_index_or c.args.links.now c.in-Some.channel none in
    let r = ready c.args.links.now (length s.seen.items) s.found.items s.seen.items c.args.ratios.now c.requires.sums c.requires.ends c.requires.tree c.requires.connected c.requires.rated
    c.in-Some.channel l (read c.args.links.now c.in-Some.channel c.in-Some.ensures.0 c.in-Some.ensures.1) in
    subst (λ (xs : List Found). IsFound xs l.source) (sym c.deref.ensures.value) r.source

pub unbalanced-requires-clause-target : goal.unbalanced-requires-clause-target
unfolding none
unbalanced-requires-clause-target c =
    let s = c.args.search.now in
    let l : Link = slice_index_or c.args.links.now c.in-Some.channel none in
    let r = ready c.args.links.now (length s.seen.items) s.found.items s.seen.items c.args.ratios.now c.requires.sums c.requires.ends c.requires.tree c.requires.connected c.requires.rated
    c.in-Some.channel l (read c.args.links.now c.in-Some.channel c.in-Some.ensures.0 c.in-Some.ensures.1) in
    subst (λ (xs : List Found). IsFound xs l.target) (sym c.deref.ensures.value) r.target

pub unbalanced-requires-clause-from : goal.unbalanced-requires-clause-from
unfolding none
unbalanced-requires-clause-from c =
    let s = c.args.search.now in
    (ready c.args.links.now (length s.seen.items) s.found.items s.seen.items c.args.ratios.now c.requires.sums c.requires.ends c.requires.tree c.requires.connected c.requires.rated
    c.in-Some.channel (slice_index_or c.args.links.now c.in-Some.channel none) (read c.args.links.now c.in-Some.channel c.in-Some.ensures.0 c.in-Some.ensures.1)).from

pub unbalanced-requires-clause-to : goal.unbalanced-requires-clause-to
unfolding none
unbalanced-requires-clause-to c =
    let s = c.args.search.now in
    (ready c.args.links.now (length s.seen.items) s.found.items s.seen.items c.args.ratios.now c.requires.sums c.requires.ends c.requires.tree c.requires.connected c.requires.rated
    c.in-Some.channel (slice_index_or c.args.links.now c.in-Some.channel none) (read c.args.links.now c.in-Some.channel c.in-Some.ensures.0 c.in-Some.ensures.1)).to

pub unbalanced-requires-clause-sums : goal.unbalanced-requires-clause-sums
unfolding none
unbalanced-requires-clause-sums c =
    let s = c.args.search.now in
    (ready c.args.links.now (length s.seen.items) s.found.items s.seen.items c.args.ratios.now c.requires.sums c.requires.ends c.requires.tree c.requires.connected c.requires.rated
    c.in-Some.channel (slice_index_or c.args.links.now c.in-Some.channel none) (read c.args.links.now c.in-Some.channel c.in-Some.ensures.0 c.in-Some.ensures.1)).sums

pub unbalanced-requires-clause-positive : goal.unbalanced-requires-clause-positive
unfolding none
unbalanced-requires-clause-positive c =
    let s = c.args.search.now in
    (ready c.args.links.now (length s.seen.items) s.found.items s.seen.items c.args.ratios.now c.requires.sums c.requires.ends c.requires.tree c.requires.connected c.requires.rated
    c.in-Some.channel (slice_index_or c.args.links.now c.in-Some.channel none) (read c.args.links.now c.in-Some.channel c.in-Some.ensures.0 c.in-Some.ensures.1)).positive

pub unbalanced-requires-clause-small : goal.unbalanced-requires-clause-small
unbalanced-requires-clause-small c = small_at c.args.links.now (length c.args.search.now.seen.items) c.args.ratios.now c.requires.rated

pub returns-clause-refusal : goal.returns-clause-refusal
unfolding none
returns-clause-refusal c =
    let s = c.args.search.now in
    let (l, at, fails, before) = c.in-Some.ensures in
    let same = get_or_from_slice_get c.args.links.now c.in-Some.channel l none at in
    let closed = subst (λ (x : Link). IsClosedRefusal s.found.items c.args.ratios.now c.in-Some.channel x c.in_ok-unbalanced.field-0) same
    (subst (λ (xs : List Found). IsClosedRefusal xs c.args.ratios.now c.in-Some.channel (slice_index_or c.args.links.now c.in-Some.channel none) c.in_ok-unbalanced.field-0) c.deref.ensures.value c.in_ok-unbalanced.ensures) in
    kept_refusal c.args.links.now (length s.seen.items) s.found.items s.seen.items c.args.ratios.now c.requires.sums c.requires.ends c.requires.tree c.requires.rated
    c.in-Some.channel l at fails before c.in_ok-unbalanced.field-0 closed
