-- The one spelling of a certificate in each version.
use Rattle.std.specs.Prelude.{ℕ, ℤ, List, [], ◌∷◌, ◌++◌, codes, length, ◌==◌, if◌then◌else◌}
use Rattle.std.specs.List.{flat_map}
use Rattle.cert_text.specs.declared.certificates.Certificate.{Certificate}
use Rattle.cert_text.specs.declared.certificates.Certificate.TheVariants.{Rate, Storage, Scenario}
use Rattle.cert_text.specs.declared.certificates.LinkCycle.{LinkCycle}
use Rattle.cert_text.specs.declared.certificates.MemberLine.{MemberLine}
use Rattle.cert_text.specs.declared.certificates.PointLine.{PointLine}
use Rattle.cert_text.specs.declared.certificates.RateCertificate.{RateCertificate}
use Rattle.cert_text.specs.declared.certificates.StorageCertificate.{StorageCertificate}
use Rattle.cert_text.specs.declared.certificates.ScenarioCertificate.{ScenarioCertificate}
use Rattle.cert_text.specs.NumberLines.{rate_line, limit_line, cycles_line, members_line, points_line, potentials_line, overlap_line, version_line}
use Rattle.cert_text.specs.BufferLines.{buffers_line}
use Rattle.cert_text.specs.CycleLines.{cycle_lines}
use Rattle.cert_text.specs.ScheduleLines.{schedule_lines}
use Rattle.cert_text.specs.MemberLines.{member_lines, point_lines}
use Rattle.cert_text.specs.ScenarioLines.{nodes_lines, potential_line}

-- the last line
unfoldable pub end_line : List ℕ
end_line = codes "end" ++ 10 ∷ []

-- a line with the word of a kind
unfoldable pub rate_kind : List ℕ
rate_kind = codes "throughput" ++ 10 ∷ []

unfoldable pub storage_kind : List ℕ
storage_kind = codes "storage" ++ 10 ∷ []

unfoldable pub scenario_kind : List ℕ
scenario_kind = codes "scenario" ++ 10 ∷ []

-- the lines after the first one
unfoldable pub rate_lines : RateCertificate → List ℕ
rate_lines c = rate_kind ++ (overlap_line c.no_overlap ++ (buffers_line c.buffers ++ (rate_line c.rate ++ (schedule_lines c.schedule ++ (cycle_lines c.cycle ++ end_line)))))

-- the list of the cycles, in version 2 alone
unfoldable pub cycle_list : ℕ → List LinkCycle → List ℕ
cycle_list version cycles = if version == 1 then [] else cycles_line (length cycles) ++ flat_map cycle_lines cycles

unfoldable pub member_list : ℕ → List LinkCycle → List MemberLine → List ℕ
member_list version cycles members = members_line (length members) ++ flat_map (member_lines version cycles) members

unfoldable pub point_list : List PointLine → List ℕ
point_list points = points_line (length points) ++ flat_map point_lines points

-- the lists of a trade-off, and the end
unfoldable pub storage_lists : ℕ → List LinkCycle → List MemberLine → List PointLine → List ℕ
storage_lists version cycles members points = cycle_list version cycles ++ (member_list version cycles members ++ (point_list points ++ end_line))

unfoldable pub storage_lines : ℕ → StorageCertificate → List ℕ
storage_lines version c = storage_kind ++ (overlap_line c.no_overlap ++ (limit_line c.limit ++ storage_lists version c.cycles c.members c.points))

unfoldable pub potential_list : List (ℕ × ℕ × ℤ) → List ℕ
potential_list potentials = potentials_line (length potentials) ++ flat_map potential_line potentials

unfoldable pub scenario_lines : ScenarioCertificate → List ℕ
scenario_lines c = scenario_kind ++ (rate_line c.rate ++ (nodes_lines c.time c.nodes ++ (potential_list c.potentials ++ end_line)))

-- the lines of a certificate after the first one
unfoldable pub lines_after : ℕ → Certificate → List ℕ
lines_after version (Rate c) = rate_lines c
lines_after version (Storage c) = storage_lines version c
lines_after version (Scenario c) = scenario_lines c

-- the whole text
unfoldable pub spelling : ℕ → Certificate → List ℕ
spelling version c = version_line version ++ lines_after version c
