-- The single-rate expansion of a net: an actor for each firing of a round, and channels whose rates are 1.
use Rattle.std.specs.Prelude.{ℕ, suc, ◌+◌, ◌*◌, Bool, ◌&&◌, nat_lt, List, [], ◌∷◌, ◌++◌, map, sum, take, Option, Some, None, slice_index, codes}
use Rattle.std.specs.List.{find, flat_map, range_with_len}
use Rattle.std.specs.Fmt.{decimal}
use Rattle.sd_base.specs.declared.tables.Kind.TheVariants.{Sdf}
use Rattle.sd_base.specs.declared.tables.GraphFile.{GraphFile}
use Rattle.sd_base.specs.declared.tables.ActorRow.{ActorRow}
use Rattle.sd_base.specs.declared.tables.ChannelRow.{ChannelRow}
use Rattle.sd_base.specs.Net.{Channel, Net, total}
use Rattle.sd_base.specs.Schedules.{time_of}
use Rattle.single_rate.specs.declared.links.Link.{Link}

-- Tokens stand on a channel in the order in which they come and are taken in it: first the initial tokens, then those of each
-- firing of the source. Firing j of the target takes the tokens from number `total c.taken j` on, and firing n of the source
-- makes those from number `c.tokens + total c.made n` on: firing j takes a token that firing n made.
unfoldable pub takes_of : Channel → ℕ → ℕ → Bool
takes_of c j n =
    (nat_lt (total c.taken j) (total c.taken (j + 1)) && nat_lt (total c.made n) (total c.made (n + 1)))
    && (nat_lt (total c.taken j) (c.tokens + total c.made (n + 1)) && nat_lt (c.tokens + total c.made n) (total c.taken (j + 1)))

-- How many rounds before firing k of its target lies the latest firing of copy i of its source of which firing k takes a token,
-- where there is one: by whole rounds, firing k so many rounds on takes a token of firing i. There is none further back than
-- the channel has tokens.
unfoldable pub rounds_back : Net → Channel → ℕ → ℕ → Option ℕ
rounds_back net c k i = find (λ d. takes_of c (k + d * slice_index net.round c.target) i) (range_with_len 0 (c.tokens + 1))

-- the number of copy 0 of an actor: copies stand by actor and then by firing
unfoldable pub first_copy : Net → ℕ → ℕ
first_copy net a = sum (take a net.round)

-- a link from copy i of the source of a channel to copy k of its target, with a token for each round between, or none
abbrev pub link_over : Net → Channel → ℕ → ℕ → Option ℕ → List Link
link_over net c k i None = []
link_over net c k i (Some d) = record { source = first_copy net c.source + i; target = first_copy net c.target + k; tokens = d } ∷ []

-- that of the latest of its firings that firing k takes a token of, if there is one
unfoldable pub link_between : Net → Channel → ℕ → ℕ → List Link
link_between net c k i = link_over net c k i (rounds_back net c k i)

-- the links to copy k of the target of a channel, by copies of its source
unfoldable pub links_into : Net → Channel → ℕ → List Link
links_into net c k = flat_map (λ i. link_between net c k i) (range_with_len 0 (slice_index net.round c.source))

-- those of a channel, by copies of its target
unfoldable pub links_on : Net → Channel → List Link
links_on net c = flat_map (λ k. links_into net c k) (range_with_len 0 (slice_index net.round c.target))

-- those of a net, by channel
unfoldable pub links_of : Net → List Link
links_of net = flat_map (λ c. links_on net c) net.channels

-- link n as a channel with rates 1
unfoldable pub link_row : ℕ → Link → ChannelRow
link_row n l = record { name = codes "e" ++ decimal n; source = l.source; target = l.target; made = 1 ∷ []; taken = 1 ∷ []; tokens = l.tokens; size = 1 }

-- links as channels, from number n on
abbrev pub link_rows : ℕ → List Link → List ChannelRow
link_rows n [] = []
link_rows n (l ∷ ls) = link_row n l ∷ link_rows (n + 1) ls

-- the name of copy k of an actor
unfoldable pub copy_name : List ℕ → ℕ → List ℕ
copy_name name k = name ++ (codes "." ++ decimal k)

-- copy k of actor a: one phase, with the time of firing k
unfoldable pub copy_row : Net → List ℕ → ℕ → ℕ → ActorRow
copy_row net name a k = record { name = copy_name name k; phases = 1; times = time_of net a k ∷ [] }

-- what f gives for the copies of the actors from a on, by actor and then by firing
abbrev pub by_copies : {X Y : Type 0} → Net → (ℕ → X → ℕ → Y) → ℕ → List X → List Y
by_copies net f a [] = []
by_copies net f a (x ∷ xs) = map (λ k. f a x k) (range_with_len 0 (slice_index net.round a)) ++ by_copies net f (suc a) xs

-- the copies of the actors
unfoldable pub copy_rows : Net → List ActorRow → List ActorRow
copy_rows net actors = by_copies net (λ a (row : ActorRow) k. copy_row net row.name a k) 0 actors

-- the expansion of a net, whose actors have the names of the graph
unfoldable pub expansion : Net → GraphFile → GraphFile
expansion net g = record { kind = Sdf; actors = copy_rows net g.actors; channels = link_rows 0 (links_of net) }
