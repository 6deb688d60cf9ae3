-- The lines of the members and of the points of a trade-off.
use Rattle.std.specs.Prelude.{ℕ, List, [], ◌∷◌, ◌++◌, Option, Some, None, codes, slice_index_or, ◌==◌, if◌then◌else◌}
use Rattle.std.specs.List.{flat_map}
use Rattle.std.specs.Fmt.{decimal}
use Rattle.cert_text.specs.declared.certificates.LinkCycle.{LinkCycle}
use Rattle.cert_text.specs.declared.certificates.MemberLine.{MemberLine}
use Rattle.cert_text.specs.declared.certificates.MemberShown.{MemberShown}
use Rattle.cert_text.specs.declared.certificates.MemberShown.TheVariants.{Cycle, Blocked}
use Rattle.cert_text.specs.declared.certificates.PointLine.{PointLine}
use Rattle.cert_text.specs.NumberLines.{spaced, numbers_line, rate_line, fraction_then}
use Rattle.cert_text.specs.CycleLines.{cycle_lines}
use Rattle.cert_text.specs.ScheduleLines.{schedule_lines}

-- a capacity after a space, or a hyphen where the channel has none
unfoldable pub capacity_text : Option ℕ → List ℕ
capacity_text (Some capacity) = spaced capacity
capacity_text None = codes " -"

unfoldable pub member_line : List (Option ℕ) → List ℕ
member_line capacities = codes "member" ++ (flat_map capacity_text capacities ++ 10 ∷ [])

-- the line of a rate and of the number of a cycle
unfoldable pub numbered_rate_line : ℕ × ℕ → ℕ → List ℕ
numbered_rate_line rate cycle = codes "rate " ++ fraction_then rate (codes " " ++ (decimal cycle ++ 10 ∷ []))

unfoldable pub blocked_line : List ℕ
blocked_line = codes "blocked" ++ 10 ∷ []

-- what stands for a cycle past the last one
abbrev pub no_cycle : LinkCycle
no_cycle = record { time = 0; rounds = 0; first = record { actor = 0; number = 0 }; steps = [] }

abbrev pub cycle_at : List LinkCycle → ℕ → LinkCycle
cycle_at cycles i = slice_index_or cycles i no_cycle

-- what a member shows: version 1 lists its cycle, version 2 the cycle's number
unfoldable pub shown_lines : ℕ → List LinkCycle → MemberShown → List ℕ
shown_lines version cycles (Cycle rate cycle) = if version == 1 then rate_line rate ++ cycle_lines (cycle_at cycles cycle) else numbered_rate_line rate cycle
shown_lines version cycles (Blocked counts) = blocked_line ++ numbers_line counts

unfoldable pub member_lines : ℕ → List LinkCycle → MemberLine → List ℕ
member_lines version cycles member = member_line member.capacities.capacities ++ shown_lines version cycles member.shown

unfoldable pub point_line : ℕ → ℕ × ℕ → ℕ → List ℕ
point_line total rate member = codes "point " ++ (decimal total ++ (codes " " ++ fraction_then rate (codes " " ++ (decimal member ++ 10 ∷ []))))

unfoldable pub point_lines : PointLine → List ℕ
point_lines point = point_line point.total point.rate point.member ++ schedule_lines point.schedule
