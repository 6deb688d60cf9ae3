use Rattle.std.proofs.Common.{◌≡◌, ◌∙◌, sym, take, arith}
use Rattle.std.proofs.lemmas.List.{take_all}
use Rattle.sd_base.proofs.LawfulIsRegular.{balanced}
use Rattle.liveness.proofs.CountsAreReached.{whole-reached}
use Rattle.liveness.proofs.ending.whole_counts.Goals as goal

pub returns : goal.returns
returns g c =
    let net = g.F.Firing.net c.args.net.now in
    let all : take c.loop-actor.actor net.round ≡ net.round = take_all c.loop-actor.actor net.round (omega (arith, (balanced net c.know_laws.ensures).actors)) in
    let whole : c.from_vec.result ≡ net.round = c.from_vec.ensures ∙ (c.loop-actor.invariant ∙ all) in record {
      round = whole;
      reached = λ other laws same live. whole-reached other c.from_vec.result laws (whole ∙ sym same) live;
    }
