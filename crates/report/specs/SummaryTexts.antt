-- The text of a graph that was made from a number, and of its Pareto points.
use Rattle.std.specs.Prelude.{ℕ, List, [], ◌∷◌, ◌++◌, length, sum, codes}
use Rattle.std.specs.List.{flat_map}
use Rattle.std.specs.Fmt.{decimal}
use Rattle.sd_base.specs.declared.numbers.Fraction.{Fraction}
use Rattle.sd_base.specs.declared.tables.GraphFile.{GraphFile}
use Rattle.pareto_front.specs.declared.point.Point.{Point}
use Rattle.report.specs.FractionTexts.{fraction_text}

-- what was made, and how many points it has
unfoldable pub summary_header : ℕ → ℕ → ℕ → ℕ → ℕ → List ℕ
summary_header seed actors channels round points =
    codes "generated seed " ++ (decimal seed ++ (codes " actors " ++ (decimal actors ++ (codes " channels " ++ (decimal channels
    ++ (codes " round " ++ (decimal round ++ (codes "\npoints " ++ (decimal points ++ 10 ∷ [])))))))))

-- the storage and the rate of a point
unfoldable pub summary_line : ℕ → Fraction → List ℕ
summary_line total rate = decimal total ++ (codes " " ++ (fraction_text rate.num rate.den ++ 10 ∷ []))

abbrev pub point_summary : Point → List ℕ
point_summary p = summary_line p.total p.rate

-- the text of a graph with its repetition vector, and of its points
unfoldable pub summary_lines : ℕ → GraphFile → List ℕ → List Point → List ℕ
summary_lines seed g gamma points = summary_header seed (length g.actors) (length g.channels) (sum gamma) (length points) ++ flat_map point_summary points
