use Rattle.std.proofs.Common.{◌∷◌, ◌++◌, [], sym, subst, ap, ◌∙◌, arith, append-nil, append_assoc}
use Rattle.std.specs.Prelude.{slice_index}
use Rattle.std.proofs.lemmas.Bool.{false≢true}
use Rattle.selftimed.specs.inside.Ports.{AreOthers}
use Rattle.selftimed.proofs.PortRows.{others-none, others-push, others-pass}
use Rattle.selftimed.proofs.ports.push_others.Goals as goal
use Rattle.selftimed.proofs.ports.push_others.Goals.{then-is_other+in_ok-push, else-is_other}

pub loop-channel-init : goal.loop-channel-init
loop-channel-init c = ([], others-none c.args.own c.args.row.now, sym (append-nil c.args.channels.now.items))

pub loop-channel-preserved : goal.loop-channel-preserved
loop-channel-preserved c = elim c.if-is_other.branch [
  | then-is_other+in_ok-push w ↦
      let so_far = c.loop-channel.invariant in (
        so_far.0 ++ slice_index c.args.row.now c.loop-channel.channel-index ∷ [],
        others-push c.args.own c.args.row.now so_far.0 c.loop-channel.channel-index c.requires c.loop-channel-test.true (c.is_other.ensures.0 w.if-is_other.true) so_far.1,
        rw w.channels-is (w.in_ok-push.ensures.items ∙ (ap (λ ys. ys ++ slice_index c.args.row.now c.loop-channel.channel-index ∷ []) so_far.2 ∙ append_assoc c.args.channels.now.items so_far.0 (slice_index c.args.row.now c.loop-channel.channel-index ∷ []))),
      )
  | else-is_other w ↦
      let so_far = c.loop-channel.invariant in (
        so_far.0,
        others-pass c.args.own c.args.row.now so_far.0 c.loop-channel.channel-index (λ is. absurd (false≢true (sym w.if-is_other.false ∙ c.is_other.ensures.1 is))) so_far.1,
        rw w.channels-is so_far.2,
      )
]

pub returns : goal.returns
returns c =
    let so_far = c.loop-channel.invariant in
    (so_far.0, subst (λ n. AreOthers c.args.own c.args.row.now n so_far.0) (omega (arith, c.loop-channel-test.false, c.loop-channel.auto.channel-index-end)) so_far.1, so_far.2)
