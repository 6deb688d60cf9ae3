-- Groups of the channels by their ends make the wiring of a net.
use Rattle.std.proofs.Common.{◌≡◌, ℕ, ◌<◌, List, [], ◌∷◌, length, map, subst, sym, refl, ap, ◌∙◌, arith}
use Rattle.std.specs.Prelude.{slice_index, slice_index_or}
use Rattle.std.proofs.lemmas.List.{get_or-map, length-map}
use Rattle.sd_base.specs.Net.{Channel, Net, channel_at, nowhere}
use Rattle.sd_base.specs.Lawful.{Lawful}
use Rattle.firing.specs.declared.sums.Port.{Port}
use Rattle.firing.specs.declared.sums.Port.TheVariants.{Made, Taken}
use Rattle.firing.specs.declared.wiring.Wiring.{Wiring}
use Rattle.firing.specs.Groups.{ArePlaces, AreGroups}
use Rattle.firing.specs.Wiring.{actor_at, IsListed, AreListed, IsWiringOf}

-- the pairs' parts are the actors at the ends
targets : (cs : List Channel) → map (λ (e : ℕ × ℕ). e.1) (map (λ (c : Channel). (c.source, c.target)) cs) ≡ map (actor_at Taken) cs
targets [] = refl
targets (c ∷ cs) = ap (λ (xs : List ℕ). c.target ∷ xs) (targets cs)

sources : (cs : List Channel) → map (λ (e : ℕ × ℕ). e.0) (map (λ (c : Channel). (c.source, c.target)) cs) ≡ map (actor_at Made) cs
sources [] = refl
sources (c ∷ cs) = ap (λ (xs : List ℕ). c.source ∷ xs) (sources cs)

at-place : (net : Net) (port : Port) (i : ℕ) → i < length net.channels → slice_index (map (actor_at port) net.channels) i ≡ actor_at port (channel_at net i)
at-place net port i below = get_or-map (actor_at port) net.channels i nowhere 0 below

same-length : (net : Net) (port : Port) → length (map (actor_at port) net.channels) ≡ length net.channels
same-length net port = length-map net.channels (actor_at port)

listed : (net : Net) (port : Port) (a : ℕ) (xs : List ℕ) → ArePlaces (map (actor_at port) net.channels) a xs → IsListed net port a xs
listed net port a xs places = record {
  rising = places.rising;
  place = λ j h. omega (arith, places.place j h, same-length net port);
  there = λ j h. sym (at-place net port (slice_index xs j) (omega (arith, places.place j h, same-length net port))) ∙ places.there j h;
  all = λ i h is. places.all i (omega (arith, same-length net port)) (at-place net port i h ∙ is);
}

pub grouped-listed : (net : Net) (port : Port) (rows : List (List ℕ)) → AreGroups (map (actor_at port) net.channels) (length net.times) rows → AreListed net port rows
grouped-listed net port rows groups = record {
  actors = groups.numbers;
  each = λ a h. listed net port a (slice_index_or rows a []) (groups.each a h);
}

pub wired : (net : Net) (w : Wiring) → AreGroups (map (actor_at Taken) net.channels) (length net.times) w.inputs → AreGroups (map (actor_at Made) net.channels) (length net.times) w.outputs → IsWiringOf net w
wired net w ins outs = record {
  inputs = subst (λ (list : List ℕ). AreGroups list (length net.times) w.inputs) (sym (targets net.channels)) ins;
  outputs = subst (λ (list : List ℕ). AreGroups list (length net.times) w.outputs) (sym (sources net.channels)) outs;
}

pub wired-inputs : (net : Net) (w : Wiring) → IsWiringOf net w → AreListed net Taken w.inputs
wired-inputs net w is = grouped-listed net Taken w.inputs (subst (λ (list : List ℕ). AreGroups list (length net.times) w.inputs) (targets net.channels) is.inputs)

pub wired-outputs : (net : Net) (w : Wiring) → IsWiringOf net w → AreListed net Made w.outputs
wired-outputs net w is = grouped-listed net Made w.outputs (subst (λ (list : List ℕ). AreGroups list (length net.times) w.outputs) (sources net.channels) is.outputs)

-- each end is an actor
pub ends-below : (net : Net) (port : Port) → Lawful net → (i : ℕ) → i < length (map (actor_at port) net.channels) → slice_index (map (actor_at port) net.channels) i < length net.times
ends-below net Made laws i below =
    let place : i < length net.channels = omega (arith, below, same-length net Made) in
    rw (at-place net Made i place) (laws.sources i place)
ends-below net Taken laws i below =
    let place : i < length net.channels = omega (arith, below, same-length net Taken) in
    rw (at-place net Taken i place) (laws.targets i place)
