use Rattle.std.proofs.Common.{◌≡◌, ◌∷◌, ◌++◌, [], List, Some, None, sym, subst, arith}
use Rattle.std.specs.Prelude.{slice_get, slice_index_or}
use Rattle.std.proofs.lemmas.Option.{slice_get-get_or}
use Rattle.balance.specs.declared.walk.WalkStep.{WalkStep}
use Rattle.balance.specs.declared.search.Found.{Found}
use Rattle.balance.specs.inside.Search.{IsWayAt}
use Rattle.balance.proofs.WaysReadBack.{IsReadBack, falls, read_more, read_whole}
use Rattle.balance.proofs.way.way_at.Goals as goal

none : Found
none = record { actor = 0; reach = None }

pub back-smaller : goal.back-smaller
unfolding none
back-smaller c =
    let found : List Found = c.args.found.now in
    falls found c.requires.read c.back.here (slice_index_or found c.back.here none) c.in-Some.reach (slice_get-get_or found c.back.here none c.back.invariant.0) c.in-Some.is

pub back-preserved : goal.back-preserved
unfolding none
back-preserved c =
    let found : List Found = c.args.found.now in
    let x : Found = slice_index_or found c.back.here none in
    let at : slice_get found c.back.here ≡ Some x = slice_get-get_or found c.back.here none c.back.invariant.0 in
    let lt = falls found c.requires.read c.back.here x c.in-Some.reach at c.in-Some.is in
    let low = c.back.invariant.0 in
    let more : IsReadBack found c.args.place c.in-Some.reach.place (c.back.way.items ++ c.in-Some.reach.step ∷ []) =
    read_more found c.args.place c.back.here x c.in-Some.reach c.back.way.items at c.in-Some.is c.back.invariant.1 in
    (omega arith, subst (λ (w : List WalkStep). IsReadBack found c.args.place c.in-Some.reach.place w) (sym c.in_ok-push.ensures.items) more)

pub returns : goal.returns
unfolding none
returns c =
    let found : List Found = c.args.found.now in
    let x : Found = slice_index_or found c.back.here none in
    let at : slice_get found c.back.here ≡ Some x = slice_get-get_or found c.back.here none c.back.invariant.0 in
    subst (λ (w : List WalkStep). IsWayAt found c.args.place w) (sym c.reverse.ensures.items) (read_whole found c.args.place c.back.here x c.back.way.items at c.in_default.is c.back.invariant.1)
