use Rattle.std.proofs.Common.{◌≡◌, ℕ, ◌+◌, ◌<◌, List, Some, sym, subst, ap, ◌∙◌, arith}
use Rattle.std.specs.Prelude.{slice_get, slice_index_or}
use Rattle.std.proofs.lemmas.Option.{slice_get-get_or}
use Rattle.balance.specs.inside.Lists.{appended}
use Rattle.balance.specs.inside.Reaching.{AreFollowers, pair_from, pair_to}
use Rattle.balance.proofs.MarksFollowPaths.{followers_more, pair_within}
use Rattle.balance.proofs.connection.followers.Goals as goal

pub loop-pair-preserved : goal.loop-pair-preserved
loop-pair-preserved c =
    let d = c.args.direction in
    let ends = c.args.ends.now in
    let k : ℕ = c.loop-pair.pair-index in
    let e : ℕ × ℕ = slice_index_or ends k (0, 0) in
    let at : slice_get ends k ≡ Some e = slice_get-get_or ends k (0, 0) c.loop-pair-test.true in
    let within = pair_within d c.args.actors ends k e c.requires at in
    let rows : List (List ℕ) = c.loop-pair.lists.rows.items in
    let low : pair_from d e < c.args.actors = within.0 in
    let size = c.loop-pair.invariant.size in
    let new : c.add.new.self.rows.items ≡ appended rows (pair_from d e) (pair_to d e) =
    c.in_ok-add.ensures ∙ ap (λ a. appended rows a c.directed-from.result.1) c.directed-from.ensures.from ∙ ap (λ u. appended rows (pair_from d e) u) c.directed-from.ensures.to in
    subst (λ (t : List (List ℕ)). AreFollowers d ends (k + 1) c.args.actors t) (sym new) (followers_more d ends k c.args.actors rows e at (omega arith) c.loop-pair.invariant)
