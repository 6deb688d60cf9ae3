-- The lines of a certificate of a trade-off. Line 1 has the version, 2 the kind, 3 whether firings may overlap, 4 the limit. Then
-- come in version 2 that of the number of cycles, and the cycles; in both that of the number of members, the members, that of the
-- number of points, and the points.
use Rattle.std.specs.Prelude.{ℕ, ◌+◌, ◌≤◌, ◌==◌, List, map, take, sum, length, if◌then◌else◌}
use Rattle.cert_text.specs.declared.certificates.LinkCycle.{LinkCycle}
use Rattle.cert_text.specs.declared.certificates.MemberLine.{MemberLine}
use Rattle.cert_text.specs.declared.certificates.MemberShown.{MemberShown}
use Rattle.cert_text.specs.declared.certificates.MemberShown.TheVariants.{Cycle, Blocked}
use Rattle.cert_text.specs.declared.certificates.PointLine.{PointLine}
use Rattle.cert_text.specs.declared.certificates.StorageCertificate.{StorageCertificate}
use Rattle.cert_text.specs.MemberLines.{cycle_at}
use Rattle.cert_text.specs.declared.certificates.Certificate.TheVariants.{Storage}
use Rattle.cert_text.specs.Spelling.{spelling}

-- a cycle has a line for each step after its first
abbrev pub cycle_size : LinkCycle → ℕ
cycle_size cycle = 1 + length cycle.steps

-- version 1 has the cycle of a member after its rate, version 2 with its rate; counts come after a word
abbrev pub shown_size : ℕ → List LinkCycle → MemberShown → ℕ
shown_size version cycles (Cycle rate cycle) = if version == 1 then 1 + cycle_size (cycle_at cycles cycle) else 1
shown_size version cycles (Blocked counts) = 2

abbrev pub member_size : ℕ → List LinkCycle → MemberLine → ℕ
member_size version cycles member = 1 + shown_size version cycles member.shown

-- a point has its schedule, and a line of starts for each actor
abbrev pub point_size : PointLine → ℕ
point_size point = 2 + length point.schedule.starts

-- how many lines stand before that of the number of members
abbrev pub cycles_size : ℕ → List LinkCycle → ℕ
cycles_size version cycles = if version == 1 then 0 else 1 + sum (map cycle_size cycles)

-- that line
abbrev pub members_line : ℕ → StorageCertificate → ℕ
members_line version c = 5 + cycles_size version c.cycles

-- the first line of member i, or past the last one that of the number of points
abbrev pub member_line : ℕ → StorageCertificate → ℕ → ℕ
member_line version c i = members_line version c + 1 + sum (map (member_size version c.cycles) (take i c.members))

abbrev pub points_line : ℕ → StorageCertificate → ℕ
points_line version c = member_line version c (length c.members)

-- the first line of point i, or past the last one the end
abbrev pub point_line : ℕ → StorageCertificate → ℕ → ℕ
point_line version c i = points_line version c + 1 + sum (map point_size (take i c.points))

abbrev pub end_line : ℕ → StorageCertificate → ℕ
end_line version c = point_line version c (length c.points)

-- a text has no more lines than bytes
abbrev pub SpelledLinesFit : Type 0
SpelledLinesFit = (version : ℕ) (c : StorageCertificate) → end_line version c ≤ length (spelling version (Storage c))
