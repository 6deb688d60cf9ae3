use Rattle.std.proofs.Common.{◌≡◌, ◌++◌, List, map, sym, subst}
use Rattle.sd_base.specs.Net.{Channel, Net}
use Rattle.sd_base.specs.Lawful.{Lawful}
use Rattle.storage.specs.BoundedNets.{spaces_from}
use Rattle.storage.specs.inside.SpaceLists.{space_in, with_spaces}
use Rattle.storage.proofs.BoundingKeepsLaws.{bound-lawful}
use Rattle.storage.proofs.bounded.Bounded.new.Goals as goal

with-lawful : (net : Net) (xs ys : List Channel) → xs ≡ ys → Lawful (record { times = net.times; channels = net.channels ++ ys; round = net.round }) → Lawful (record { times = net.times; channels = net.channels ++ xs; round = net.round })
with-lawful net xs ys same laws = subst (λ (zs : List Channel). Lawful (record { times = net.times; channels = net.channels ++ zs; round = net.round })) (sym same) laws

pub invariant_of-result : goal.invariant_of-result
unfolding with_spaces
invariant_of-result g c = record {
  over = c.in_ok-spaces.ensures.over;
  laws = with-lawful (g.F.Firing.net c.args.net.now) (map (space_in (g.F.Firing.net c.args.net.now)) c.in_ok-spaces.spaces.items) (spaces_from 0 (g.F.Firing.net c.args.net.now).channels c.args.capacities.now.capacities) c.in_ok-spaces.ensures.spaces
      (bound-lawful (g.F.Firing.net c.args.net.now) c.know_laws.ensures c.args.capacities.now.capacities c.requires.none c.requires.can c.requires.few);
}
