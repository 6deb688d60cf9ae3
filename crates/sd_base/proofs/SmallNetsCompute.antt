-- On small nets the definitions of self-timed execution compute to what is expected.
use Rattle.std.proofs.Common.{◌≡◌, ℕ, zero, suc, ◌<◌, ◌≤◌, [], ◌∷◌, refl, lit<, true, false, arith}
use Rattle.std.specs.Prelude.{slice_index}
use Rattle.sd_base.specs.declared.role.Role.TheVariants.{Token}
use Rattle.sd_base.specs.declared.tables.Kind.TheVariants.{Csdf}
use Rattle.sd_base.specs.declared.tables.GraphFile.{GraphFile}
use Rattle.sd_base.specs.FileNet.{net_of, own_channel}
use Rattle.sd_base.specs.Net.{Channel, Net, total}
use Rattle.sd_base.specs.Schedules.{Lacks}
use Rattle.sd_base.specs.Untimed.{Blocks, none_fired}
use Rattle.sd_base.specs.SelfTimed.{earliest, started_at, first_held_back, more_than_fed, ended_by, shape_at, events_by, starts_by}

abbrev one : ℕ → ℕ → ℕ → ℕ → ℕ → ℕ → Channel
one source made taken target tokens number = record { source = source; target = target; made = made ∷ []; taken = taken ∷ []; tokens = tokens; size = 1; role = Token number }

-- x of time 2 and y of time 3 in a ring with one token
abbrev ring : Net
ring = record { times = (2 ∷ []) ∷ (3 ∷ []) ∷ []; channels = one 0 1 1 1 0 0 ∷ one 1 1 1 0 1 1 ∷ []; round = 1 ∷ 1 ∷ [] }

ring-starts : earliest ring 8 ≡ (0 ∷ 5 ∷ []) ∷ (2 ∷ 7 ∷ []) ∷ []
unfolding earliest started_at first_held_back more_than_fed ended_by total
ring-starts = refl

ring-returns : shape_at ring 0 ≡ shape_at ring 5
unfolding earliest started_at first_held_back more_than_fed ended_by total
ring-returns = refl

ring-shape : shape_at ring 2 ≡ record { tokens = 0 ∷ 0 ∷ []; phases = 0 ∷ 0 ∷ []; remaining = [] ∷ (3 ∷ []) ∷ [] }
unfolding earliest started_at first_held_back more_than_fed ended_by total
ring-shape = refl

-- three firings of one actor of time 7 overlap
abbrev three : Net
three = record { times = (7 ∷ []) ∷ []; channels = one 0 1 1 0 3 0 ∷ []; round = 1 ∷ [] }

three-starts : earliest three 8 ≡ (0 ∷ 0 ∷ 0 ∷ 7 ∷ 7 ∷ 7 ∷ []) ∷ []
unfolding earliest started_at first_held_back more_than_fed ended_by total
three-starts = refl

three-returns : shape_at three 0 ≡ shape_at three 7
unfolding earliest started_at first_held_back more_than_fed ended_by total
three-returns = refl

-- two actors that wait for each other
abbrev pair : Net
pair = record { times = (1 ∷ []) ∷ (1 ∷ []) ∷ []; channels = one 0 1 1 1 0 0 ∷ one 1 1 1 0 0 1 ∷ []; round = 1 ∷ 1 ∷ [] }

pair-starts : earliest pair 5 ≡ [] ∷ [] ∷ []
unfolding earliest started_at first_held_back more_than_fed ended_by total
pair-starts = refl

pair-short : (a : ℕ) → none_fired a < slice_index pair.round a → none_fired a < 1
pair-short zero short = short
pair-short (suc zero) short = short
pair-short (suc (suc a)) short = absurd (omega arith)

pair-lacks : (a : ℕ) → a < 2 → none_fired a < 1 → Lacks pair none_fired a 0
unfolding total
pair-lacks zero below short = (1, lit< tt, refl, lit< tt)
pair-lacks (suc zero) below short = (0, lit< tt, refl, lit< tt)
pair-lacks (suc (suc a)) below short = absurd (omega arith)

pair-blocks : (a : ℕ) → a < 2 → 0 ≤ slice_index pair.round a
pair-blocks a below = omega arith

pair-blocked : Blocks pair none_fired
pair-blocked = record { within = pair-blocks; short = (0, lit< tt, lit< tt); closed = λ a below short. pair-lacks a below (pair-short a short) }

-- x of time 4 and y of time 5, each one firing at a time, in a ring with rates 2 and 1 and eight tokens
abbrev multi : Net
multi = record { times = (4 ∷ []) ∷ (5 ∷ []) ∷ []; channels = one 0 2 1 1 0 0 ∷ one 1 1 2 0 8 1 ∷ one 0 1 1 0 1 2 ∷ one 1 1 1 1 1 3 ∷ []; round = 1 ∷ 2 ∷ [] }

multi-starts : earliest multi 35 ≡ (0 ∷ 4 ∷ 8 ∷ 12 ∷ 16 ∷ 24 ∷ 34 ∷ []) ∷ (4 ∷ 9 ∷ 14 ∷ 19 ∷ 24 ∷ 29 ∷ 34 ∷ []) ∷ []
unfolding earliest started_at first_held_back more_than_fed ended_by total
multi-starts = refl

multi-returns : shape_at multi 24 ≡ shape_at multi 34
unfolding earliest started_at first_held_back more_than_fed ended_by total
multi-returns = refl

multi-ranks : events_by multi 24 ≡ 10
unfolding earliest started_at first_held_back more_than_fed ended_by total events_by
multi-ranks = refl

multi-begun : starts_by multi 24 ≡ 11
unfolding earliest started_at first_held_back more_than_fed ended_by total events_by
multi-begun = refl

-- a file of two actors, the second of two phases, and one channel
abbrev file : GraphFile
file = record {
  kind = Csdf;
  actors = record { name = 97 ∷ []; phases = 1; times = 1 ∷ [] } ∷ record { name = 98 ∷ []; phases = 2; times = 2 ∷ 3 ∷ [] } ∷ [];
  channels = record { name = 99 ∷ []; source = 0; target = 1; made = 1 ∷ []; taken = 1 ∷ 0 ∷ []; tokens = 4; size = 1 } ∷ [];
}

abbrev file_channel_0 : Channel
file_channel_0 = record { source = 0; target = 1; made = 1 ∷ []; taken = 1 ∷ 0 ∷ []; tokens = 4; size = 1; role = Token 0 }

file-overlaps : net_of file (1 ∷ 2 ∷ []) false ≡ record { times = (1 ∷ []) ∷ (2 ∷ 3 ∷ []) ∷ []; channels = file_channel_0 ∷ own_channel 1 2 ∷ []; round = 1 ∷ 2 ∷ [] }
file-overlaps = refl

file-keeps-apart : net_of file (1 ∷ 2 ∷ []) true ≡ record { times = (1 ∷ []) ∷ (2 ∷ 3 ∷ []) ∷ []; channels = file_channel_0 ∷ own_channel 0 1 ∷ own_channel 1 2 ∷ []; round = 1 ∷ 2 ∷ [] }
file-keeps-apart = refl

-- b starts at 0, 2 and 5: its firings don't overlap, and its second phase takes no token
file-starts : earliest (net_of file (1 ∷ 2 ∷ []) true) 6 ≡ (0 ∷ 1 ∷ 2 ∷ 3 ∷ 4 ∷ 5 ∷ []) ∷ (0 ∷ 2 ∷ 5 ∷ []) ∷ []
unfolding earliest started_at first_held_back more_than_fed ended_by total
file-starts = refl
