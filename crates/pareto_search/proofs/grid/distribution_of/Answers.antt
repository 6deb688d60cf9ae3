use Rattle.std.proofs.Common.{◌≡◌, ℕ, ◌+◌, ◌≤◌, ◌++◌, ◌∷◌, [], List, Option, None, length, take, min, add-one, sym, ap, ◌∙◌, arith}
use Rattle.std.specs.Prelude.{slice_index, slice_index_or}
use Rattle.pareto_search.specs.inside.Vectors.{bounded_by, with_room}
use Rattle.pareto_search.proofs.BoundedBy.{bounded-all, bounded-more}
use Rattle.pareto_search.proofs.grid.distribution_of.Goals as goal

pub loop-channel-preserved : goal.loop-channel-preserved
loop-channel-preserved c =
    let ds = c.args.corner.now.capacities in
    let ks = c.args.vector.now in
    let i = c.loop-channel.channel in
    let long : length c.as_slice-entries.result.now ≡ length ds = ap length c.as_slice-entries.ensures in
    let entry : c.with_room.result ≡ with_room (slice_index_or ds i None) (slice_index ks i) = rw c.as_slice-entries.ensures at c.with_room.ensures in
    let more : bounded_by (take (i + 1) ds) (take (i + 1) ks) ≡ bounded_by (take i ds) (take i ks) ++ with_room (slice_index_or ds i None) (slice_index ks i) ∷ [] = rw add-one (bounded-more ds ks i (omega arith) (omega arith)) in
    c.in_ok-push.ensures.ok
    ∙ (ap (λ (es : List (Option ℕ)). es ++ c.with_room.result ∷ []) c.loop-channel.invariant
    ∙ (ap (λ (e : Option ℕ). bounded_by (take i ds) (take i ks) ++ e ∷ []) entry ∙ sym more))

pub returns : goal.returns
returns c =
    let ds = c.args.corner.now.capacities in
    let ks = c.args.vector.now in
    let n = c.loop-channel.channel in
    let long : length c.as_slice-entries.result.now ≡ length ds = ap length c.as_slice-entries.ensures in
    let all : min (length ds) (length ks) ≤ n = omega arith in
    c.loop-channel.invariant ∙ bounded-all ds ks n all
