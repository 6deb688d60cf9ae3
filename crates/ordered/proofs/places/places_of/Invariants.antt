use Rattle.std.proofs.Common.{◌++◌, length, map, take}
use Rattle.sd_base.specs.Lawful.{is_token_role, is_space_role}
use Rattle.ordered.specs.OrderedNets.{order_channels, owns_from, phases_in, rephased, with_role}
use Rattle.ordered.proofs.PlacesHoldChannels.{Holds}
use Rattle.ordered.proofs.places.places_of.Given as goal

abbrev pub invariant-loop-actor : goal.invariant-loop-actor
invariant-loop-actor g l =
    Holds (g.F.Firing.net l.net) l.orders.lists l.places.items
    (map (rephased (phases_in (g.F.Firing.net l.net) l.orders.lists)) (with_role is_token_role (g.F.Firing.net l.net).channels) ++ owns_from (g.F.Firing.net l.net) l.orders.lists 0 l.actor)

abbrev pub invariant-loop-order : goal.invariant-loop-order
invariant-loop-order g l =
    Holds (g.F.Firing.net l.net) l.orders.lists l.places.items
    (map (rephased (phases_in (g.F.Firing.net l.net) l.orders.lists)) (with_role is_token_role (g.F.Firing.net l.net).channels)
    ++ (owns_from (g.F.Firing.net l.net) l.orders.lists 0 (length (g.F.Firing.net l.net).times)
    ++ (map (rephased (phases_in (g.F.Firing.net l.net) l.orders.lists)) (with_role is_space_role (g.F.Firing.net l.net).channels) ++ order_channels (take l.order-index l.orders.lists))))
