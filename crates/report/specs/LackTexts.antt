-- The list of what each actor of a blocked net lacks.
use Rattle.std.specs.Prelude.{◌≡◌, ℕ, ◌<◌, List, ◌++◌, Option, None, length, slice_index, slice_index_or, IfSome, codes}
use Rattle.std.specs.Fmt.{decimal}
use Rattle.sd_base.specs.declared.role.Role.{Role}
use Rattle.sd_base.specs.declared.tables.GraphFile.{GraphFile}
use Rattle.sd_base.specs.Net.{Net, channel_at}
use Rattle.report.specs.ListTexts.{joined, pieces_of}
use Rattle.report.specs.LinkTexts.{actor_name, link_text}

-- an actor, its firings of those of a round, and the link on which it lacks tokens
unfoldable pub lack_text : GraphFile → ℕ → ℕ → ℕ → Role → List ℕ
lack_text g a fired round role =
    actor_name g a ++ (codes " " ++ (decimal fired ++ (codes " of " ++ (decimal round ++ (codes " lacks " ++ link_text g role)))))

abbrev pub lack_on : GraphFile → Net → ℕ → ℕ → ℕ → List ℕ
lack_on g net a fired i = lack_text g a fired (slice_index net.round a) (channel_at net i).role

-- the texts of all actors that lack something, with `, ` between
unfoldable pub lacks_list : GraphFile → Net → List ℕ → List (Option ℕ) → List ℕ
lacks_list g net counts lacks = joined (codes ", ") (pieces_of (λ a i. lack_on g net a (slice_index counts a) i) lacks (length net.times))

-- a count for each actor, and where it lacks tokens a channel of the net
pub record HasLacks (net : Net) (counts : List ℕ) (lacks : List (Option ℕ)) : Type 0 where
  pub counted : length counts ≡ length net.times
  pub actors : length lacks ≡ length net.times
  pub places : (a : ℕ) → a < length net.times → IfSome (slice_index_or lacks a None) (λ i. i < length net.channels)
