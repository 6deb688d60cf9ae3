-- The texts of storage distributions and of Pareto points.
use Rattle.std.specs.Prelude.{ℕ, List, [], ◌∷◌, ◌++◌, Option, length, map, slice_index_or, codes}
use Rattle.std.specs.Fmt.{decimal}
use Rattle.sd_base.specs.declared.numbers.Fraction.{Fraction}
use Rattle.sd_base.specs.declared.tables.ChannelRow.{ChannelRow}
use Rattle.sd_base.specs.declared.tables.GraphFile.{GraphFile}
use Rattle.sd_base.specs.declared.tables.SharedRow.{SharedRow}
use Rattle.periodic.specs.declared.schedule.Periodic.{Periodic}
use Rattle.pareto_front.specs.declared.point.Point.{Point}
use Rattle.escapes.specs.EscapedNames.{escaped_name}
use Rattle.report.specs.ListTexts.{joined, lines_of, pieces_of}
use Rattle.report.specs.FractionTexts.{fraction_text}
use Rattle.report.specs.ScheduleTexts.{schedule_lines}

-- the name of a channel and its capacity
unfoldable pub buffer_text : List ℕ → ℕ → List ℕ
buffer_text name capacity = escaped_name name ++ (codes "=" ++ decimal capacity)

-- the same of a channel by its place among these names
abbrev pub buffer_on : List (List ℕ) → ℕ → ℕ → List ℕ
buffer_on names c capacity = buffer_text (slice_index_or names c []) capacity

-- texts with commas between, or `-` where there is none
unfoldable pub listed : List (List ℕ) → List ℕ
listed [] = codes "-"
listed (piece ∷ pieces) = joined (codes ",") (piece ∷ pieces)

-- the channels of these names that have a capacity
unfoldable pub capacities_list : List (List ℕ) → List (Option ℕ) → List ℕ
capacities_list names ds = listed (pieces_of (buffer_on names) ds (length ds))

-- those of a graph
unfoldable pub buffers_list : GraphFile → List (Option ℕ) → List ℕ
buffers_list g ds = capacities_list (map (λ (row : ChannelRow). row.name) g.channels) ds

-- those that scenarios share
unfoldable pub shared_buffers_list : List SharedRow → List (Option ℕ) → List ℕ
shared_buffers_list shared ds = capacities_list (map (λ (row : SharedRow). row.name) shared) ds

unfoldable pub points_header : ℕ → List ℕ
points_header n = codes "points " ++ (decimal n ++ 10 ∷ [])

-- the storage and the rate of a point
unfoldable pub point_line : ℕ → Fraction → List ℕ
point_line total rate = codes "point " ++ (decimal total ++ (codes " " ++ (fraction_text rate.num rate.den ++ 10 ∷ [])))

-- the list of a distribution
unfoldable pub buffers_line : List ℕ → List ℕ
buffers_line list = codes "buffers " ++ (list ++ 10 ∷ [])

-- a point, its distribution, and a schedule
unfoldable pub point_text : GraphFile → Point → Periodic → List ℕ
point_text g p schedule = point_line p.total p.rate ++ (buffers_line (buffers_list g p.capacities.capacities) ++ schedule_lines g schedule)

-- the text of Pareto points, each with its schedule
unfoldable pub points_lines : GraphFile → List Point → List Periodic → List ℕ
points_lines g points schedules = points_header (length points) ++ lines_of (point_text g) points schedules
