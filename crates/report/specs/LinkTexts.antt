-- Actors, channels and links, as lines show them.
use Rattle.std.specs.Prelude.{◌≡◌, ℕ, ◌<◌, List, [], ◌++◌, length, slice_index_or, codes}
use Rattle.sd_base.specs.declared.role.Role.{Role}
use Rattle.sd_base.specs.declared.role.Role.TheVariants.{Token, Own, Space, Order}
use Rattle.sd_base.specs.declared.tables.GraphFile.{GraphFile}
use Rattle.sd_base.specs.declared.tables.ActorRow.{ActorRow}
use Rattle.sd_base.specs.Net.{Net, channel_at}
use Rattle.escapes.specs.EscapedNames.{escaped_name}
use Rattle.report.specs.ListTexts.{lines_of}
use Rattle.report.specs.WalkTexts.{no_channel}

-- what stands for an actor past the last one
abbrev pub no_actor : ActorRow
no_actor = record { name = []; phases = 0; times = [] }

-- the printed name of an actor, by its number
unfoldable pub actor_name : GraphFile → ℕ → List ℕ
actor_name g a = escaped_name (slice_index_or g.actors a no_actor).name

-- a line for each actor, of its name and what is given for it
abbrev pub actor_lines : {V : Type 0} → (List ℕ → V → List ℕ) → List ActorRow → List V → List ℕ
actor_lines line actors vs = lines_of (λ (a : ActorRow) v. line a.name v) actors vs

-- the printed name of a channel of the file, by its number
unfoldable pub channel_name : GraphFile → ℕ → List ℕ
channel_name g c = escaped_name (slice_index_or g.channels c no_channel).name

-- a channel of a net: that of the file, the own channel of an actor, the free space of a channel of the file, or an edge of a
-- processor's order
unfoldable pub link_text : GraphFile → Role → List ℕ
link_text g (Token c) = channel_name g c
link_text g (Own a) = actor_name g a ++ codes "/self"
link_text g (Space c) = channel_name g c ++ codes "/space"
link_text g (Order a b) = actor_name g a ++ (codes ">" ++ (actor_name g b ++ codes "/order"))

-- the role speaks of an actor or a channel of the graph
abbrev pub IsRoleIn : GraphFile → Role → Type 0
IsRoleIn g (Token c) = c < length g.channels
IsRoleIn g (Own a) = a < length g.actors
IsRoleIn g (Space c) = c < length g.channels
IsRoleIn g (Order a b) = (a < length g.actors) × (b < length g.actors)

-- the net's actors are those of the graph, and its channels stand for channels and actors of the graph
pub record IsNamed (g : GraphFile) (net : Net) : Type 0 where
  pub actors : length net.times ≡ length g.actors
  pub roles : (i : ℕ) → i < length net.channels → IsRoleIn g (channel_at net i).role
