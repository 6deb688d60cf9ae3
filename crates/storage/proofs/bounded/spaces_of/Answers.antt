use Rattle.std.proofs.Common.{arith, ◌≡◌, ◌-◌, ◌<◌, ◌++◌, Some, None, [], ◌∷◌, length, take}
use Rattle.storage.specs.Distributions.{capacity_at}
use Rattle.storage.proofs.SpaceChannels.{holds-at}
use Rattle.storage.proofs.SpaceSteps.{holds-below, no-space, one-space, spaces-push}
use Rattle.std.proofs.lemmas.List.{take_all}
use Rattle.storage.proofs.bounded.spaces_of.Goals as goal
use Rattle.storage.proofs.bounded.spaces_of.Goals.{in-Some+in_ok-push-in-Some, in-None}

pub overflow_cast-channel : goal.overflow_cast-channel
overflow_cast-channel g c =
    let has = rw c.as_slice.ensures at c.in-Some.is in
    let below : c.loop-channel.channel < length (g.F.Firing.net c.args.net.now).channels = holds-below (g.F.Firing.net c.args.net.now).channels c.args.capacities.now.capacities c.loop-channel.channel c.in-Some.room c.requires.can has in
    let few = c.know_laws.ensures.few_channels in
    omega arith

pub overflow_cast-channel-in-Some : goal.overflow_cast-channel-in-Some
overflow_cast-channel-in-Some g c =
    let has = rw c.as_slice.ensures at c.in-Some.is in
    let below : c.loop-channel.channel < length (g.F.Firing.net c.args.net.now).channels = holds-below (g.F.Firing.net c.args.net.now).channels c.args.capacities.now.capacities c.loop-channel.channel c.in-Some.room c.requires.can has in
    let few = c.know_laws.ensures.few_channels in
    omega arith

pub tokens-requires : goal.tokens-requires
tokens-requires g c =
    let has = rw c.as_slice.ensures at c.in-Some.is in
    holds-below (g.F.Firing.net c.args.net.now).channels c.args.capacities.now.capacities c.loop-channel.channel c.in-Some.room c.requires.can has

pub overflow_sub-room : goal.overflow_sub-room
overflow_sub-room g c =
    let has = rw c.as_slice.ensures at c.in-Some.is in
    let held = holds-at (g.F.Firing.net c.args.net.now).channels c.args.capacities.now.capacities c.loop-channel.channel c.in-Some.room c.requires.can has in
    let covers = held.1 in
    omega (arith, covers, c.tokens.ensures)

pub loop-channel-preserved : goal.loop-channel-preserved
loop-channel-preserved g c = elim c.match-as_slice-channel.branch [
  | in-Some+in_ok-push-in-Some w ↦
      let has : capacity_at c.args.capacities.now.capacities c.loop-channel.channel ≡ Some w.in-Some.room = rw c.as_slice.ensures at w.in-Some.is in
      let below : c.loop-channel.channel < length (g.F.Firing.net c.args.net.now).channels = holds-below (g.F.Firing.net c.args.net.now).channels c.args.capacities.now.capacities c.loop-channel.channel w.in-Some.room c.requires.can has in
      let pushed : c.match-as_slice-channel.spaces.items ≡ c.loop-channel.spaces.items ++ record { channel = c.loop-channel.channel; tokens = w.in-Some.room - w.tokens.result } ∷ [] = cc (w.in_ok-push-in-Some.ensures.items, w.spaces-is) in
      rw pushed (
        spaces-push (g.F.Firing.net c.args.net.now) c.loop-channel.spaces.items _ c.loop-channel.invariant.0 below,
        rw w.tokens.ensures (one-space (g.F.Firing.net c.args.net.now) c.loop-channel.spaces.items c.args.capacities.now.capacities c.loop-channel.channel w.in-Some.room below has c.loop-channel.invariant.1),
      )
  | in-None w ↦
      let has : capacity_at c.args.capacities.now.capacities c.loop-channel.channel ≡ None = rw c.as_slice.ensures at w.in-None.is in
      let below : c.loop-channel.channel < length c.args.capacities.now.capacities = omega (arith, c.len-channel-end.ensures) in
      rw w.spaces-is (c.loop-channel.invariant.0, no-space (g.F.Firing.net c.args.net.now) c.loop-channel.spaces.items c.args.capacities.now.capacities c.loop-channel.channel below has c.loop-channel.invariant.1)
]

pub returns-clause-over : goal.returns-clause-over
returns-clause-over g c = c.loop-channel.invariant.0

pub returns-clause-spaces : goal.returns-clause-spaces
returns-clause-spaces g c =
    let all : take c.loop-channel.channel c.args.capacities.now.capacities ≡ c.args.capacities.now.capacities = take_all c.loop-channel.channel c.args.capacities.now.capacities (omega (arith, c.len-channel-end.ensures)) in
    rw all at c.loop-channel.invariant.1
