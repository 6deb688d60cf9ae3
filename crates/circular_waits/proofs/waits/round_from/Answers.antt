use Rattle.std.proofs.Common.{◌≡◌, ◌++◌, ◌<◌, ℕ, List, [], ◌∷◌, length, Some, subst, sym, ◌∙◌, rules}
use Rattle.sd_base.specs.Net.{Net}
use Rattle.circular_waits.specs.inside.Following.{IsFollowed, IsRoundFrom}
use Rattle.circular_waits.proofs.FollowingComesBack.{named-below, named-here, follow-on, closes-round}
use Rattle.circular_waits.proofs.waits.round_from.Goals as goal

pub bounds-lacks-actor : goal.bounds-lacks-actor
bounds-lacks-actor g c =
    let net : Net = g.F.Firing.net c.args.net.now in
    let inv = c.round.invariant in
    named-below net c.args.lacks.now c.round.actor (named-here net c.args.lacks.now c.args.start c.round.channels.items c.round.actor inv.followed c.requires.named)

pub unwrap-channel-requires : goal.unwrap-channel-requires
unwrap-channel-requires g c =
    let net : Net = g.F.Firing.net c.args.net.now in
    let inv = c.round.invariant in
    let named = named-here net c.args.lacks.now c.args.start c.round.channels.items c.round.actor inv.followed c.requires.named in
    rw named.2 (search rules)

pub source-actor-requires : goal.source-actor-requires
source-actor-requires g c =
    let net : Net = g.F.Firing.net c.args.net.now in
    let inv = c.round.invariant in
    let named = named-here net c.args.lacks.now c.args.start c.round.channels.items c.round.actor inv.followed c.requires.named in
    let both : Some named.0 ≡ Some c.unwrap-channel.result = sym named.2 ∙ c.unwrap-channel.ensures in
    let same : named.0 ≡ c.unwrap-channel.result = cc in
    subst (λ (i : ℕ). i < length net.channels) same named.1

pub returns-then-actor-start : goal.returns-then-actor-start
returns-then-actor-start g c =
    let net : Net = g.F.Firing.net c.args.net.now in
    let inv = c.round.invariant in
    let items : c.from_vec.result ≡ c.round.channels.items ++ c.unwrap-channel.result ∷ [] = c.from_vec.ensures ∙ c.in_ok-push.ensures.items in
    subst (IsRoundFrom net c.args.lacks.now c.args.start) (sym items)
    (closes-round net c.args.lacks.now c.args.start c.round.channels.items c.round.actor c.unwrap-channel.result inv.followed inv.away c.unwrap-channel.ensures
    (sym c.source-actor.ensures ∙ c.if-actor-start.true))

pub round-preserved : goal.round-preserved
round-preserved g c =
    let net : Net = g.F.Firing.net c.args.net.now in
    let inv = c.round.invariant in
    let on = follow-on net c.args.lacks.now c.args.start c.round.channels.items c.round.actor c.unwrap-channel.result inv.followed inv.away c.unwrap-channel.ensures in
    record {
      followed = subst (λ (xs : List ℕ). IsFollowed net c.args.lacks.now c.args.start xs c.source-actor.result) (sym c.in_ok-push.ensures.items)
          (subst (IsFollowed net c.args.lacks.now c.args.start (c.round.channels.items ++ c.unwrap-channel.result ∷ [])) (sym c.source-actor.ensures) on);
      away = λ some. c.if-actor-start.false;
    }
