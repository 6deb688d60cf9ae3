-- What stands on several lines is read from its spelling.
use Rattle.std.proofs.Common.{◌≡◌, ℕ, ◌-◌, ◌<◌, ◌≤◌, true, false, List, [], ◌∷◌, ◌++◌, ℤ, All, length, Ok, refl, sym, ap, ◌∙◌, subst, arith, append_assoc, append-nil, decimal}
use Rattle.std.specs.Prelude.{codes}
use Rattle.std.specs.List.{flat_map, AllByRecursion}
use Rattle.std.proofs.lemmas.List.Elements.{recursion_from_All}
use Rattle.sd_base.specs.declared.limits.TheConstants.{START}
use Rattle.periodic.specs.declared.schedule.Periodic.{Periodic}
use Rattle.cert_text.specs.declared.certificates.LinkCycle.{LinkCycle}
use Rattle.cert_text.specs.declared.certificates.LinkStep.{LinkStep}
use Rattle.cert_text.specs.declared.certificates.PointLine.{PointLine}
use Rattle.cert_text.specs.declared.certificates.RateCertificate.{RateCertificate}
use Rattle.cert_text.specs.declared.certificates.ScenarioCertificate.{ScenarioCertificate}
use Rattle.cert_text.specs.CycleLines.{cycle_header, cycle_lines, step_line}
use Rattle.cert_text.specs.Limits.{IsLong, IsScheduleWithin, IsStepWithin, IsCycleWithin, IsPointWithin, IsNodeWithin, IsPotentialWithin, IsRateCertificateWithin, IsScenarioWithin}
use Rattle.cert_text.specs.LineForms.{worded_due, overlap_due, rate_due, buffers_due, numbers_due, schedule_line_due, step_due, header_due, point_line_due, node_due, nodes_line_due, potential_due}
use Rattle.cert_text.specs.MemberLines.{point_line, point_lines}
use Rattle.cert_text.specs.NumberLines.{numbers_line, rate_line, overlap_line, points_line, potentials_line}
use Rattle.cert_text.specs.BufferLines.{buffers_line}
use Rattle.cert_text.specs.Reads.{Reads, lines_of, next_by, times_by}
use Rattle.cert_text.specs.ScenarioLines.{node_line, nodes_header, nodes_lines, potential_line}
use Rattle.cert_text.specs.ScheduleLines.{schedule_header, schedule_lines}
use Rattle.cert_text.specs.Sections.{at_digit, begins_with_digit, actors_from, schedule_from, cycle_from, rate_from, finish, ending, point_from, points_from, entered_from, nodes_from, potentials_from, scenario_from}
use Rattle.cert_text.specs.Spellable.{AreStarts, HasText, IsCycleText, IsRateSpellable}
use Rattle.cert_text.specs.Spelling.{end_line, point_list, potential_list}
use Rattle.cert_text.proofs.ReadNumbers.{digits-of, digit-yes}
use Rattle.cert_text.proofs.ReadLines.{next-line, worded-closes, worded-read, overlap-closes, overlap-read, rate-closes, rate-read, point-closes, point-read, schedule-closes, schedule-read, header-closes, header-read, step-closes, step-read, node-closes, node-read, nodes-closes, nodes-read, potential-closes, potential-read}
use Rattle.cert_text.proofs.ReadEntries.{numbers-read, numbers-close, buffers-read, buffers-close}
use Rattle.cert_text.proofs.RepeatedReadsGoOn.{begins}

-- ---- so many times

module _ {A : Type 0} (f : List (List ℕ) → Reads A) (spell : A → List ℕ) (P : A → Type 0) (Q : List ℕ → Type 0)
    (reads : (x : A) (rest : List ℕ) → P x → Q rest → f (lines_of (spell x ++ rest)) ≡ Ok (x, lines_of rest)) (goes_on : (x : A) (rest : List ℕ) → Q (spell x ++ rest)) where
  further : (xs : List A) (rest : List ℕ) → Q rest → Q (flat_map spell xs ++ rest)
  further [] rest q = q
  further (x ∷ xs) rest q = subst Q (sym (append_assoc (spell x) (flat_map spell xs) rest)) (goes_on x (flat_map spell xs ++ rest))

  pub times-read : (xs : List A) (rest : List ℕ) → AllByRecursion P xs → Q rest → times_by f (length xs) (lines_of (flat_map spell xs ++ rest)) ≡ Ok (xs, lines_of rest)
  unfolding times_by
  times-read [] rest all q = refl
  times-read (x ∷ xs) rest all q =
      let first : f (lines_of (flat_map spell (x ∷ xs) ++ rest)) ≡ Ok (x, lines_of (flat_map spell xs ++ rest)) =
      ap (λ (l : List ℕ). f (lines_of l)) (append_assoc (spell x) (flat_map spell xs) rest) ∙ reads x (flat_map spell xs ++ rest) all.0 (further xs rest q) in
      rw (first, times-read xs rest all.1 q) refl

-- ---- schedules

starts-begin : (s : List ℕ) (rest : List ℕ) → AreStarts s → begins_with_digit (numbers_line s ++ rest) ≡ true
unfolding numbers_line
starts-begin [] rest h = absurd (omega (arith, h.some))
starts-begin (n ∷ ns) rest h =
    let low : n ≤ START = h.early 0 0 (omega arith) in
    let d = digits-of n (omega (arith, low)) in
    rw (d.parts) (digit-yes d.first d.low d.high)

no-actors : (lines : List (List ℕ)) → at_digit lines ≡ false → actors_from lines ≡ Ok ([], lines)
unfolding actors_from
no-actors [] none = refl
no-actors (l ∷ ls) none = rw none refl

line-begins : (s : List ℕ) → AreStarts s → begins_with_digit (numbers_line s) ≡ true
line-begins s h = rw append-nil at (starts-begin s [] h)

more-actors : (s : List ℕ) (ss : List (List ℕ)) (line : List ℕ) (lines left : List (List ℕ)) → begins_with_digit line ≡ true → numbers_due START line ≡ Ok s → actors_from lines ≡ Ok (ss, left) → actors_from (line ∷ lines) ≡ Ok (s ∷ ss, left)
unfolding actors_from
more-actors s ss line lines left digit read others = rw (digit, read, others) refl

actors-read : (ss : List (List ℕ)) (rest : List ℕ) → AllByRecursion AreStarts ss → begins_with_digit rest ≡ false → actors_from (lines_of (flat_map numbers_line ss ++ rest)) ≡ Ok (ss, lines_of rest)
actors-read [] rest all other = no-actors (lines_of rest) (sym (begins rest) ∙ other)
actors-read (s ∷ ss) rest all other =
    let s_is = all.0 in
    let closes = numbers-close START (omega arith) s s_is.some s_is.early in
    let whole : lines_of (flat_map numbers_line (s ∷ ss) ++ rest) ≡ numbers_line s ∷ lines_of (flat_map numbers_line ss ++ rest) = ap lines_of (append_assoc (numbers_line s) (flat_map numbers_line ss) rest) ∙ closes (flat_map numbers_line ss ++ rest) in
    rw whole (more-actors s ss (numbers_line s) (lines_of (flat_map numbers_line ss ++ rest)) (lines_of rest) (line-begins s s_is) (numbers-read START (omega arith) s s_is.some s_is.early) (actors-read ss rest all.1 other))

pub schedule-back : (s : Periodic) (rest : List ℕ) → IsScheduleWithin s → All AreStarts s.starts → begins_with_digit rest ≡ false → schedule_from (lines_of (schedule_lines s ++ rest)) ≡ Ok (s, lines_of rest)
unfolding schedule_from schedule_lines
schedule-back s rest within starts other =
    let body : List ℕ = flat_map numbers_line s.starts in
    let whole = append_assoc (schedule_header s.period s.rounds) body rest in
    let first = next-line schedule_line_due (schedule_header s.period s.rounds) (body ++ rest) (s.period, s.rounds) (schedule-closes s.period s.rounds within.period within.rounds) (schedule-read s.period s.rounds within.period within.rounds) in
    rw (whole, first, actors-read s.starts rest (recursion_from_All AreStarts s.starts starts) other) refl

-- ---- cycles

abbrev pub IsGoodStep : LinkStep → Type 0
IsGoodStep s = IsStepWithin s × HasText s

pub record IsGoodCycle (c : LinkCycle) : Type 0 where
  pub within : IsCycleWithin c
  pub text : IsCycleText c

pub cycle-back : (c : LinkCycle) (rest : List ℕ) → IsGoodCycle c → cycle_from (lines_of (cycle_lines c ++ rest)) ≡ Ok (c, lines_of rest)
unfolding cycle_from cycle_lines
cycle-back c rest good =
    let h = good.within in
    let n : ℕ = length c.steps in
    let header : List ℕ = cycle_header c.time c.rounds c.first n in
    let body : List ℕ = flat_map step_line c.steps in
    let whole = append_assoc header body rest in
    let first = next-line header_due header (body ++ rest) _ (header-closes c.time c.rounds c.first n h.time h.rounds h.first h.count) (header-read c.time c.rounds c.first n h.time h.rounds h.first h.count) in
    let each : AllByRecursion IsGoodStep c.steps = recursion_from_All IsGoodStep c.steps (λ k d less. (h.steps k d less, good.text k d less)) in
    let steps = times-read (next_by step_due) step_line IsGoodStep (λ l. Unit {0}) (λ s l g u. next-line step_due (step_line s) l s (step-closes s g.0) (step-read s g.0 g.1)) (λ s l. tt) c.steps rest each tt in
    rw (whole, first, steps) refl

pub cycle-begins : (c : LinkCycle) (rest : List ℕ) → begins_with_digit (cycle_lines c ++ rest) ≡ false
unfolding cycle_lines cycle_header
cycle-begins c rest = refl

-- ---- the end

pub finish-back : {A : Type 0} (x : A) → finish x (lines_of end_line) ≡ Ok (x, [])
unfolding finish ending lines_of end_line
finish-back x = refl

pub end-begins : begins_with_digit end_line ≡ false
unfolding end_line
end-begins = refl

-- ---- a rate

pub rate-back : (c : RateCertificate) → IsRateCertificateWithin c → IsRateSpellable c
    → rate_from (lines_of (overlap_line c.no_overlap ++ (buffers_line c.buffers ++ (rate_line c.rate ++ (schedule_lines c.schedule ++ (cycle_lines c.cycle ++ end_line)))))) ≡ Ok (c, [])
unfolding rate_from
rate-back c within spellable =
    let e : List ℕ = cycle_lines c.cycle ++ end_line in
    let d : List ℕ = schedule_lines c.schedule ++ e in
    let b : List ℕ = rate_line c.rate ++ d in
    let a : List ℕ = buffers_line c.buffers ++ b in
    let overlap = next-line overlap_due (overlap_line c.no_overlap) a c.no_overlap (overlap-closes c.no_overlap) (overlap-read c.no_overlap) in
    let buffers = next-line buffers_due (buffers_line c.buffers) b c.buffers (buffers-close c.buffers within.buffers) (buffers-read c.buffers spellable.buffers within.buffers) in
    let rate = next-line rate_due (rate_line c.rate) d c.rate (rate-closes c.rate within.rate) (rate-read c.rate within.rate) in
    let schedule = schedule-back c.schedule e within.schedule spellable.schedule (cycle-begins c.cycle end_line) in
    let cycle = cycle-back c.cycle end_line (record { within = within.cycle; text = spellable.cycle }) in
    rw (overlap, buffers, rate, schedule, cycle) (finish-back c)

-- ---- points

pub record IsGoodPoint (p : PointLine) : Type 0 where
  pub within : IsPointWithin p
  pub starts : All AreStarts p.schedule.starts

point-back : (p : PointLine) (rest : List ℕ) → IsGoodPoint p → begins_with_digit rest ≡ false → point_from (lines_of (point_lines p ++ rest)) ≡ Ok (p, lines_of rest)
unfolding point_from point_lines
point-back p rest good other =
    let h = good.within in
    let line : List ℕ = point_line p.total p.rate p.member in
    let whole = append_assoc line (schedule_lines p.schedule) rest in
    let first = next-line point_line_due line (schedule_lines p.schedule ++ rest) (p.total, p.rate, p.member) (point-closes p.total p.rate p.member h.total h.rate h.member) (point-read p.total p.rate p.member h.total h.rate h.member) in
    rw (whole, first, schedule-back p.schedule rest h.schedule good.starts other) refl

point-begins : (p : PointLine) (rest : List ℕ) → begins_with_digit (point_lines p ++ rest) ≡ false
unfolding point_lines point_line
point-begins p rest = refl

pub points-back : (ps : List PointLine) (rest : List ℕ) → IsLong (length ps) → All IsGoodPoint ps → begins_with_digit rest ≡ false → points_from (lines_of (point_list ps ++ rest)) ≡ Ok (ps, lines_of rest)
unfolding points_from point_list points_line
points-back ps rest many all other =
    let n : ℕ = length ps in
    let line : List ℕ = codes "points " ++ (decimal n ++ 10 ∷ []) in
    let body : List ℕ = flat_map point_lines ps in
    let whole = append_assoc line body rest in
    let first = next-line (worded_due (codes "points ")) line (body ++ rest) n (worded-closes (codes "points ") refl n many) (worded-read (codes "points ") refl n many) in
    let points = times-read point_from point_lines IsGoodPoint (λ l. begins_with_digit l ≡ false) point-back point-begins ps rest (recursion_from_All IsGoodPoint ps all) other in
    ap (λ (l : List ℕ). points_from (lines_of l)) whole ∙ rw (first, points) refl

-- ---- scenarios

nodes-back : (time : ℕ) (ns : List (ℕ × ℕ)) (rest : List ℕ) → 0 < length ns → IsLong time → IsLong (length ns - 1) → All IsNodeWithin ns → nodes_from (lines_of (nodes_lines time ns ++ rest)) ≡ Ok ((time, ns), lines_of rest)
unfolding nodes_from entered_from nodes_lines
nodes-back time [] rest some long edges all = absurd (omega (arith, some))
nodes-back time (n ∷ ns) rest some long edges all =
    let each = recursion_from_All IsNodeWithin (n ∷ ns) all in
    let many : IsLong (length ns) = omega (arith, edges) in
    let header : List ℕ = nodes_header time (length ns) n in
    let body : List ℕ = flat_map node_line ns in
    let whole = append_assoc header body rest in
    let first = next-line nodes_line_due header (body ++ rest) (time, length ns, n) (nodes-closes time (length ns) n long many each.0) (nodes-read time (length ns) n long many each.0) in
    let nodes = times-read (next_by node_due) node_line IsNodeWithin (λ l. Unit {0}) (λ m l h u. next-line node_due (node_line m) l m (node-closes m h) (node-read m h)) (λ m l. tt) ns rest each.1 tt in
    rw (whole, first, nodes) refl

potentials-back : (ps : List (ℕ × ℕ × ℤ)) (rest : List ℕ) → IsLong (length ps) → All IsPotentialWithin ps → potentials_from (lines_of (potential_list ps ++ rest)) ≡ Ok (ps, lines_of rest)
unfolding potentials_from potential_list potentials_line
potentials-back ps rest many all =
    let n : ℕ = length ps in
    let line : List ℕ = codes "potentials " ++ (decimal n ++ 10 ∷ []) in
    let body : List ℕ = flat_map potential_line ps in
    let whole = append_assoc line body rest in
    let first = next-line (worded_due (codes "potentials ")) line (body ++ rest) n (worded-closes (codes "potentials ") refl n many) (worded-read (codes "potentials ") refl n many) in
    let potentials = times-read (next_by potential_due) potential_line IsPotentialWithin (λ l. Unit {0}) (λ p l h u. next-line potential_due (potential_line p) l p (potential-closes p h) (potential-read p h)) (λ p l. tt) ps rest (recursion_from_All IsPotentialWithin ps all) tt in
    ap (λ (l : List ℕ). potentials_from (lines_of l)) whole ∙ rw (first, potentials) refl

pub scenario-back : (c : ScenarioCertificate) → IsScenarioWithin c → 0 < length c.nodes → scenario_from (lines_of (rate_line c.rate ++ (nodes_lines c.time c.nodes ++ (potential_list c.potentials ++ end_line)))) ≡ Ok (c, [])
unfolding scenario_from
scenario-back c within some =
    let b : List ℕ = potential_list c.potentials ++ end_line in
    let a : List ℕ = nodes_lines c.time c.nodes ++ b in
    let rate = next-line rate_due (rate_line c.rate) a c.rate (rate-closes c.rate within.rate) (rate-read c.rate within.rate) in
    let nodes = nodes-back c.time c.nodes b some within.time within.edges within.nodes in
    let potentials = potentials-back c.potentials end_line within.potential_count within.potentials in
    rw (rate, nodes, potentials) (finish-back c)
