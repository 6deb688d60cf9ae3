-- The lines of a certificate: what stands on several lines.
use Rattle.std.specs.Prelude.{ℕ, ℤ, zero, suc, ◌+◌, List, [], ◌∷◌, ◌++◌, Bool, true, false, Ok, Err, codes, length, drop, nat_lt, ◌==◌, if◌then◌else◌}
use Rattle.std.specs.List.{list_any, position_or_len}
use Rattle.sd_base.specs.declared.limits.TheConstants.{START}
use Rattle.periodic.specs.declared.schedule.Periodic.{Periodic}
use Rattle.cert_text.specs.declared.certificates.LinkCycle.{LinkCycle}
use Rattle.cert_text.specs.declared.certificates.MemberLine.{MemberLine}
use Rattle.cert_text.specs.declared.certificates.MemberShown.{MemberShown}
use Rattle.cert_text.specs.declared.certificates.MemberShown.TheVariants.{Cycle, Blocked}
use Rattle.cert_text.specs.declared.certificates.PointLine.{PointLine}
use Rattle.cert_text.specs.declared.certificates.RateCertificate.{RateCertificate}
use Rattle.cert_text.specs.declared.certificates.StorageCertificate.{StorageCertificate}
use Rattle.cert_text.specs.declared.certificates.ScenarioCertificate.{ScenarioCertificate}
use Rattle.cert_text.specs.declared.reading.fault.Fault.TheVariants.{Form}
use Rattle.cert_text.specs.Reads.{Reads, ◌>>=◌, in_front, next_by, times_by, handing}
use Rattle.cert_text.specs.Fields.{is_digit}
use Rattle.cert_text.specs.Widths.{LONG_MAX}
use Rattle.cert_text.specs.CycleLines.{cycle_lines}
use Rattle.cert_text.specs.MemberLines.{blocked_line}
use Rattle.cert_text.specs.Spelling.{end_line}
use Rattle.cert_text.specs.LineForms.{same, worded_due, overlap_due, rate_due, numbers_due, buffers_due, schedule_line_due, step_due, header_due, capacities_due, numbered_rate_due, point_line_due, node_due, nodes_line_due, potential_due}

-- the last line, behind which nothing stands
abbrev pub nothing_behind : Bool → List (List ℕ) → Reads Bool
nothing_behind is_end [] = if is_end then Ok (true, []) else Err (Form, [])
nothing_behind is_end (line ∷ left) = if is_end then Err (Form, left) else Err (Form, line ∷ left)

unfoldable pub ending : List (List ℕ) → Reads Bool
ending [] = Err (Form, [])
ending (line ∷ left) = nothing_behind (same line end_line) left

unfoldable pub finish : {A : Type 0} → A → List (List ℕ) → Reads A
finish x lines = do
  last ← ending lines
  Ok (x, last.1)

-- lines of starts, up to one that doesn't begin with a digit
abbrev pub begins_with_digit : List ℕ → Bool
begins_with_digit [] = false
begins_with_digit (b ∷ rest) = is_digit b

abbrev pub at_digit : List (List ℕ) → Bool
at_digit [] = false
at_digit (line ∷ left) = begins_with_digit line

unfoldable pub actors_from : List (List ℕ) → Reads (List (List ℕ))
actors_from [] = Ok ([], [])
actors_from (line ∷ left) = if begins_with_digit line then (do
  starts ← in_front (numbers_due START line) left
  others ← actors_from left
  Ok (starts.0 ∷ others.0, others.1)) else Ok ([], line ∷ left)

unfoldable pub schedule_from : List (List ℕ) → Reads Periodic
schedule_from lines = do
  header ← next_by schedule_line_due lines
  starts ← actors_from header.1
  Ok (record { period = header.0.0; rounds = header.0.1; starts = starts.0 }, starts.1)

unfoldable pub cycle_from : List (List ℕ) → Reads LinkCycle
cycle_from lines = do
  header ← next_by header_due lines
  steps ← times_by (next_by step_due) header.0.steps header.1
  Ok (record { time = header.0.time; rounds = header.0.rounds; first = header.0.first; steps = steps.0 }, steps.1)

unfoldable pub rate_from : List (List ℕ) → Reads RateCertificate
rate_from lines = do
  overlap ← next_by overlap_due lines
  buffers ← next_by buffers_due overlap.1
  rate ← next_by rate_due buffers.1
  schedule ← schedule_from rate.1
  cycle ← cycle_from schedule.1
  finish (record { no_overlap = overlap.0; buffers = buffers.0; rate = rate.0; schedule = schedule.0; cycle = cycle.0 }) cycle.1

-- cycles are the same where their texts are
abbrev pub same_cycle : LinkCycle → LinkCycle → Bool
same_cycle a b = same (cycle_lines a) (cycle_lines b)

-- the number of a cycle among those that were read, and these with it
abbrev pub place_of : List LinkCycle → LinkCycle → ℕ
place_of cycles cycle = position_or_len (same_cycle cycle) cycles

abbrev pub with_cycle : List LinkCycle → LinkCycle → List LinkCycle
with_cycle cycles cycle = if list_any (same_cycle cycle) cycles then cycles else cycles ++ cycle ∷ []

-- a cycle that differs from those before it; else its first line is at fault
unfoldable pub new_cycle_from : List LinkCycle → List (List ℕ) → Reads (List LinkCycle)
new_cycle_from cycles lines = do
  cycle ← cycle_from lines
  if list_any (same_cycle cycle.0) cycles then Err (Form, drop 1 lines) else Ok (cycles ++ cycle.0 ∷ [], cycle.1)

unfoldable pub new_cycles_from : ℕ → List LinkCycle → List (List ℕ) → Reads (List LinkCycle)
new_cycles_from zero cycles lines = Ok (cycles, lines)
new_cycles_from (suc n) cycles lines = do
  more ← new_cycle_from cycles lines
  new_cycles_from n more.0 more.1

unfoldable pub cycles_from : List (List ℕ) → Reads (List LinkCycle)
cycles_from lines = do
  count ← next_by (worded_due (codes "cycles ")) lines
  new_cycles_from count.0 [] count.1

-- what a blocked member shows
unfoldable pub blocked_from : {S : Type 0} → S → List (List ℕ) → Reads (S × MemberShown)
blocked_from known lines = do
  counts ← next_by (numbers_due LONG_MAX) lines
  Ok ((known, Blocked counts.0), counts.1)

-- what a member shows by a cycle that is listed, after those that were read
unfoldable pub listed_from : List LinkCycle → List (List ℕ) → Reads (List LinkCycle × MemberShown)
listed_from cycles [] = Err (Form, [])
listed_from cycles (line ∷ left) = if same line blocked_line then blocked_from cycles left else (do
  rate ← in_front (rate_due line) left
  cycle ← cycle_from rate.1
  Ok ((with_cycle cycles cycle.0, Cycle rate.0 (place_of cycles cycle.0)), cycle.1))

-- or by the number of a cycle, which is one of the first `used` of `all` or the next one
unfoldable pub numbered_from : ℕ → ℕ → List (List ℕ) → Reads (ℕ × MemberShown)
numbered_from all used [] = Err (Form, [])
numbered_from all used (line ∷ left) = if same line blocked_line then blocked_from used left else (do
  rate ← in_front (numbered_rate_due used all line) left
  Ok ((if rate.0.1 == used then used + 1 else used, Cycle rate.0.0 rate.0.1), rate.1))

-- a member: its capacities and what it shows
unfoldable pub member_from : {S : Type 0} → (S → List (List ℕ) → Reads (S × MemberShown)) → S → List (List ℕ) → Reads (S × MemberLine)
member_from shown_from known lines = do
  capacities ← next_by capacities_due lines
  shown ← shown_from known capacities.1
  Ok ((shown.0.0, record { capacities = record { capacities = capacities.0 }; shown = shown.0.1 }), shown.1)

unfoldable pub members_from : {S : Type 0} → (S → List (List ℕ) → Reads (S × MemberShown)) → S → List (List ℕ) → Reads (S × List MemberLine)
members_from shown_from known lines = do
  count ← next_by (worded_due (codes "members ")) lines
  handing (member_from shown_from) count.0 known count.1

-- members that name each of so many cycles; where one isn't named, the next line is at fault
unfoldable pub naming_from : ℕ → List (List ℕ) → Reads (List MemberLine)
naming_from all lines = do
  members ← members_from (numbered_from all) 0 lines
  if nat_lt members.0.0 all then next_by (λ line. Err Form) members.1 else Ok (members.0.1, members.1)

-- a list of cycles, and members that name them
unfoldable pub named_from : List (List ℕ) → Reads (List LinkCycle × List MemberLine)
named_from lines = do
  cycles ← cycles_from lines
  members ← naming_from (length cycles.0) cycles.1
  Ok ((cycles.0, members.0), members.1)

unfoldable pub explored_from : ℕ → List (List ℕ) → Reads (List LinkCycle × List MemberLine)
explored_from version lines = if version == 1 then members_from listed_from [] lines else named_from lines

unfoldable pub point_from : List (List ℕ) → Reads PointLine
point_from lines = do
  header ← next_by point_line_due lines
  schedule ← schedule_from header.1
  Ok (record { total = header.0.0; rate = header.0.1; member = header.0.2; schedule = schedule.0 }, schedule.1)

unfoldable pub points_from : List (List ℕ) → Reads (List PointLine)
points_from lines = do
  count ← next_by (worded_due (codes "points ")) lines
  times_by point_from count.0 count.1

unfoldable pub storage_from : ℕ → List (List ℕ) → Reads StorageCertificate
storage_from version lines = do
  overlap ← next_by overlap_due lines
  limit ← next_by (worded_due (codes "limit ")) overlap.1
  explored ← explored_from version limit.1
  points ← points_from explored.1
  finish (record { no_overlap = overlap.0; limit = limit.0; cycles = explored.0.0; members = explored.0.1; points = points.0 }) points.1

unfoldable pub entered_from : ℕ × ℕ → ℕ → List (List ℕ) → Reads (List (ℕ × ℕ))
entered_from first edges lines = do
  nodes ← times_by (next_by node_due) edges lines
  Ok (first ∷ nodes.0, nodes.1)

unfoldable pub nodes_from : List (List ℕ) → Reads (ℕ × List (ℕ × ℕ))
nodes_from lines = do
  header ← next_by nodes_line_due lines
  nodes ← entered_from header.0.2 header.0.1 header.1
  Ok ((header.0.0, nodes.0), nodes.1)

unfoldable pub potentials_from : List (List ℕ) → Reads (List (ℕ × ℕ × ℤ))
potentials_from lines = do
  count ← next_by (worded_due (codes "potentials ")) lines
  times_by (next_by potential_due) count.0 count.1

unfoldable pub scenario_from : List (List ℕ) → Reads ScenarioCertificate
scenario_from lines = do
  rate ← next_by rate_due lines
  nodes ← nodes_from rate.1
  potentials ← potentials_from nodes.1
  finish (record { rate = rate.0; time = nodes.0.0; nodes = nodes.0.1; potentials = potentials.0 }) potentials.1
