-- What the rules of a graph table say of its links.
use Rattle.std.proofs.Common.{◌≡◌, ℕ, zero, suc, ◌*◌, ◌<◌, ◌≤◌, Some, List, [], ◌∷◌, length, map, sum, sym, refl, ap, subst, ◌∙◌, arith}
use Rattle.std.specs.Prelude.{slice_get, slice_index}
use Rattle.std.proofs.lemmas.Option.{same_Some, none-some, get_or_from_slice_get}
use Rattle.std.proofs.lemmas.List.{length-map, get_or-map}
use Rattle.std.proofs.lemmas.List.Sums.{sum_by-le}
use Rattle.sd_base.specs.declared.tables.GraphFile.{GraphFile}
use Rattle.sd_base.specs.declared.tables.ActorRow.{ActorRow}
use Rattle.sd_base.specs.declared.tables.ChannelRow.{ChannelRow}
use Rattle.sd_base.specs.Tables.{KeepsRules, ChannelKeepsRules, PortKeepsRules, phases_of, ActorKeepsRules}
use Rattle.sd_base.proofs.ElementsKeepPlaces.{all-get, get-there}
use Rattle.balance.specs.declared.walk.Link.{Link}
use Rattle.balance.specs.Walks.{links_of, link_of}
use Rattle.balance.specs.inside.Search.{HasEnds, HasSums}

-- an actor's phases are 1 to 4,096
pub phases_at : (g : GraphFile) → KeepsRules g → (a : ℕ) → a < length (phases_of g) → (1 ≤ slice_index (phases_of g) a) × (slice_index (phases_of g) a ≤ 4096)
phases_at g rules a lt =
    let size : length (phases_of g) ≡ length g.actors = length-map g.actors (λ (x : ActorRow). x.phases) in
    let lt' : a < length g.actors = omega arith in
    let (x, at) = get-there g.actors a lt' in
    let keeps : ActorKeepsRules g.kind x = all-get (λ (y : ActorRow). ActorKeepsRules g.kind y) g.actors a x rules.actors at in
    let e : slice_index (phases_of g) a ≡ x.phases = get_or-map (λ (y : ActorRow). y.phases) g.actors a x 0 lt' ∙ ap (λ (y : ActorRow). y.phases) (get_or_from_slice_get g.actors a x x at) in
    let le = keeps.some_phase in
    let few = keeps.few_phases in
    (omega arith, omega arith)

-- the channel of a link
pub link_at : (cs : List ChannelRow) (k : ℕ) (l : Link) → slice_get (map link_of cs) k ≡ Some l → (c : ChannelRow) × (slice_get cs k ≡ Some c) × (l ≡ link_of c)
link_at [] k l is = absurd (none-some l is)
link_at (c ∷ cs) zero l is = (c, refl, sym (same_Some (link_of c) l is))
link_at (c ∷ cs) (suc k) l is = link_at cs k l is

pub rules_at : (g : GraphFile) → KeepsRules g → (k : ℕ) (l : Link) → slice_get (links_of g) k ≡ Some l
    → (c : ChannelRow) × (slice_get g.channels k ≡ Some c) × (l ≡ link_of c) × ChannelKeepsRules (phases_of g) c
rules_at g rules k l is =
    let (c, at, same) = link_at g.channels k l is in
    (c, at, same, all-get (λ (x : ChannelRow). ChannelKeepsRules (phases_of g) x) g.channels k c rules.channels at)

-- a cycle of phases moves at most 4,096 times 1,000,000 tokens
port_limit : (g : GraphFile) → KeepsRules g → (a : ℕ) (rates : List ℕ) → a < length (phases_of g) → PortKeepsRules (slice_index (phases_of g) a) rates → sum rates ≤ 4096000000
port_limit g rules a rates lt keeps =
    let e = phases_at g rules a lt in
    let few : slice_index (phases_of g) a ≤ 4096 = e.1 in
    let size : length rates ≡ slice_index (phases_of g) a = keeps.listed in
    let le : sum rates ≤ length rates * 1000000 = sum_by-le (λ (x : ℕ). x) 1000000 rates keeps.limited in
    omega arith

pub has_sums : (g : GraphFile) → KeepsRules g → HasSums (links_of g)
has_sums g rules = record {
  made = λ k l is. (let (c, at, same, keeps) = rules_at g rules k l is in subst (λ (x : Link). 0 < x.made) (sym same) keeps.made.moves);
  taken = λ k l is. (let (c, at, same, keeps) = rules_at g rules k l is in subst (λ (x : Link). 0 < x.taken) (sym same) keeps.taken.moves);
  most_made = λ k l is. (let (c, at, same, keeps) = rules_at g rules k l is in
      subst (λ (x : Link). x.made ≤ 4096000000) (sym same) (port_limit g rules c.source c.made keeps.source keeps.made));
  most_taken = λ k l is. (let (c, at, same, keeps) = rules_at g rules k l is in
      subst (λ (x : Link). x.taken ≤ 4096000000) (sym same) (port_limit g rules c.target c.taken keeps.target keeps.taken));
}

pub has_ends : (g : GraphFile) → KeepsRules g → HasEnds (length g.actors) (links_of g)
has_ends g rules =
    let size : length (phases_of g) ≡ length g.actors = length-map g.actors (λ (a : ActorRow). a.phases) in
    record {
      source = λ k l is. (let (c, at, same, keeps) = rules_at g rules k l is in
          subst (λ n. l.source < n) size (subst (λ (x : Link). x.source < length (phases_of g)) (sym same) keeps.source));
      target = λ k l is. (let (c, at, same, keeps) = rules_at g rules k l is in
          subst (λ n. l.target < n) size (subst (λ (x : Link). x.target < length (phases_of g)) (sym same) keeps.target));
    }

-- the sums that the links need
pub channel_sums : (g : GraphFile) → KeepsRules g → (k : ℕ) (c : ChannelRow) → slice_get g.channels k ≡ Some c → (sum c.made ≤ 4096000000) × (sum c.taken ≤ 4096000000)
channel_sums g rules k c at =
    let keeps : ChannelKeepsRules (phases_of g) c = all-get (λ (x : ChannelRow). ChannelKeepsRules (phases_of g) x) g.channels k c rules.channels at in
    (port_limit g rules c.source c.made keeps.source keeps.made, port_limit g rules c.target c.taken keeps.target keeps.taken)
