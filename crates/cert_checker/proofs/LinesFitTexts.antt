-- A text has at least as many bytes as lines.
use Rattle.std.proofs.Common.{ℕ, ◌+◌, ◌≤◌, Bool, true, false, cond, List, [], ◌∷◌, ◌++◌, length, map, ap, arith, length-append}
use Rattle.std.specs.Prelude.{codes, sum, ◌==◌}
use Rattle.std.specs.List.{flat_map, sum_by}
use Rattle.std.specs.Fmt.{decimal}
use Rattle.std.proofs.lemmas.List.Concat.{length-flat_map}
use Rattle.std.proofs.lemmas.List.Sums.{sum-map, sum_by-cons}
use Rattle.std.proofs.Math.Seq.{take-length}
use Rattle.periodic.specs.declared.schedule.Periodic.{Periodic}
use Rattle.cert_text.specs.declared.certificates.Certificate.TheVariants.{Storage}
use Rattle.cert_text.specs.declared.certificates.LinkCycle.{LinkCycle}
use Rattle.cert_text.specs.declared.certificates.LinkStep.{LinkStep}
use Rattle.cert_text.specs.declared.certificates.MemberLine.{MemberLine}
use Rattle.cert_text.specs.declared.certificates.MemberShown.{MemberShown}
use Rattle.cert_text.specs.declared.certificates.MemberShown.TheVariants.{Cycle, Blocked}
use Rattle.cert_text.specs.declared.certificates.PointLine.{PointLine}
use Rattle.cert_text.specs.declared.certificates.StorageCertificate.{StorageCertificate}
use Rattle.cert_text.specs.NumberLines.{spaced, numbers_line, rate_line, fraction_then, limit_line, cycles_line, members_line, points_line, overlap_line, version_line}
use Rattle.cert_text.specs.CycleLines.{cycle_header, cycle_lines, link_text, step_line}
use Rattle.cert_text.specs.ScheduleLines.{schedule_header, schedule_lines}
use Rattle.cert_text.specs.MemberLines.{blocked_line, capacity_text, cycle_at, member_line, member_lines, numbered_rate_line, point_line, point_lines, shown_lines}
use Rattle.cert_text.specs.Spelling.{end_line, cycle_list, lines_after, member_list, point_list, spelling, storage_kind, storage_lines, storage_lists}
use Rattle.cert_checker.specs.StorageLines.{cycle_size, cycles_size, member_size, point_size, shown_size}
use Rattle.cert_checker.specs.StorageLines as sizes

-- ---- pieces of texts

after : (xs ys : List ℕ) (n : ℕ) → n ≤ length ys → n ≤ length (xs ++ ys)
after xs ys n long = omega (arith, length-append xs ys, long)

both : (xs ys : List ℕ) (m n : ℕ) → m ≤ length xs → n ≤ length ys → m + n ≤ length (xs ++ ys)
both xs ys m n one other = omega (arith, length-append xs ys, one, other)

by-le : {X : Type 0} (f g : X → ℕ) → ((x : X) → f x ≤ g x) → (xs : List X) → sum_by f xs ≤ sum_by g xs
by-le f g le [] = omega arith
by-le f g le (x ∷ xs) = omega (arith, sum_by-cons f x xs, sum_by-cons g x xs, le x, by-le f g le xs)

flat-long : {X : Type 0} (size : X → ℕ) (f : X → List ℕ) → ((x : X) → size x ≤ length (f x)) → (xs : List X) → sum (map size xs) ≤ length (flat_map f xs)
flat-long size f long xs = omega (arith, sum-map size xs, length-flat_map f xs, by-le size (λ x. length (f x)) long xs)

count-long : {X : Type 0} (f : X → List ℕ) → ((x : X) → 1 ≤ length (f x)) → (xs : List X) → length xs ≤ length (flat_map f xs)
count-long f long xs = omega (arith, length-flat_map f xs, ones xs)
  where
    ones : (ys : List _) → length ys ≤ sum_by (λ x. length (f x)) ys
    ones [] = omega arith
    ones (y ∷ ys) = omega (arith, sum_by-cons (λ x. length (f x)) y ys, long y, ones ys)

-- ---- lines

numbers-long : (ns : List ℕ) → 1 ≤ length (numbers_line ns)
unfolding numbers_line
numbers-long [] = omega arith
numbers-long (n ∷ ns) = after (decimal n) (flat_map spaced ns ++ 10 ∷ []) 1 (after (flat_map spaced ns) (10 ∷ []) 1 (omega arith))

rate-long : (r : ℕ × ℕ) → 1 ≤ length (rate_line r)
unfolding rate_line
rate-long r = after (codes "rate ") (fraction_then r (10 ∷ [])) 1 (after (decimal r.0) (codes "/" ++ (decimal r.1 ++ 10 ∷ [])) 1 (after (codes "/") (decimal r.1 ++ 10 ∷ []) 1 (after (decimal r.1) (10 ∷ []) 1 (omega arith))))

step-long : (s : LinkStep) → 1 ≤ length (step_line s)
unfolding step_line
step-long s = after (decimal s.to.actor) (codes " " ++ (decimal s.to.number ++ (codes " " ++ (link_text s.link ++ 10 ∷ [])))) 1
    (after (codes " ") (decimal s.to.number ++ (codes " " ++ (link_text s.link ++ 10 ∷ []))) 1
    (after (decimal s.to.number) (codes " " ++ (link_text s.link ++ 10 ∷ [])) 1
    (after (codes " ") (link_text s.link ++ 10 ∷ []) 1 (after (link_text s.link) (10 ∷ []) 1 (omega arith)))))

header-long : (time rounds : ℕ) (first : Rattle.critical.specs.declared.cycle.FiringNo.FiringNo) (steps : ℕ) → 1 ≤ length (cycle_header time rounds first steps)
unfolding cycle_header
header-long time rounds first steps =
    after (codes "cycle ") (decimal time ++ (codes " " ++ (decimal rounds ++ (codes " " ++ Rattle.cert_text.specs.CycleLines.firing_then first (decimal steps ++ 10 ∷ []))))) 1
    (after (decimal time) (codes " " ++ (decimal rounds ++ (codes " " ++ Rattle.cert_text.specs.CycleLines.firing_then first (decimal steps ++ 10 ∷ [])))) 1
    (after (codes " ") (decimal rounds ++ (codes " " ++ Rattle.cert_text.specs.CycleLines.firing_then first (decimal steps ++ 10 ∷ []))) 1
    (after (decimal rounds) (codes " " ++ Rattle.cert_text.specs.CycleLines.firing_then first (decimal steps ++ 10 ∷ [])) 1
    (after (codes " ") (Rattle.cert_text.specs.CycleLines.firing_then first (decimal steps ++ 10 ∷ [])) 1
    (after (decimal first.actor) (codes " " ++ (decimal first.number ++ (codes " " ++ (decimal steps ++ 10 ∷ [])))) 1
    (after (codes " ") (decimal first.number ++ (codes " " ++ (decimal steps ++ 10 ∷ []))) 1
    (after (decimal first.number) (codes " " ++ (decimal steps ++ 10 ∷ [])) 1
    (after (codes " ") (decimal steps ++ 10 ∷ []) 1
    (after (decimal steps) (10 ∷ []) 1 (omega arith))))))))))

cycle-long : (c : LinkCycle) → cycle_size c ≤ length (cycle_lines c)
unfolding cycle_lines
cycle-long c = both (cycle_header c.time c.rounds c.first (length c.steps)) (flat_map step_line c.steps) 1 (length c.steps) (header-long c.time c.rounds c.first (length c.steps)) (count-long step_line step-long c.steps)

-- ---- members and points

numbered-long : (r : ℕ × ℕ) (k : ℕ) → 1 ≤ length (numbered_rate_line r k)
unfolding numbered_rate_line
numbered-long r k =
    after (codes "rate ") (fraction_then r (codes " " ++ (decimal k ++ 10 ∷ []))) 1
    (after (decimal r.0) (codes "/" ++ (decimal r.1 ++ (codes " " ++ (decimal k ++ 10 ∷ [])))) 1
    (after (codes "/") (decimal r.1 ++ (codes " " ++ (decimal k ++ 10 ∷ []))) 1
    (after (decimal r.1) (codes " " ++ (decimal k ++ 10 ∷ [])) 1 (after (codes " ") (decimal k ++ 10 ∷ []) 1 (after (decimal k) (10 ∷ []) 1 (omega arith))))))

blocked-long : 1 ≤ length blocked_line
unfolding blocked_line
blocked-long = after (codes "blocked") (10 ∷ []) 1 (omega arith)

shown-long : (version : ℕ) (cs : List LinkCycle) (s : MemberShown) → shown_size version cs s ≤ length (shown_lines version cs s)
unfolding shown_lines
shown-long version cs (Cycle r k) = at (version == 1)
  where
    at : (b : Bool) → cond b (1 + cycle_size (cycle_at cs k)) 1 ≤ length (cond b (rate_line r ++ cycle_lines (cycle_at cs k)) (numbered_rate_line r k))
    at true = both (rate_line r) (cycle_lines (cycle_at cs k)) 1 (cycle_size (cycle_at cs k)) (rate-long r) (cycle-long (cycle_at cs k))
    at false = numbered-long r k
shown-long version cs (Blocked counts) = both blocked_line (numbers_line counts) 1 1 blocked-long (numbers-long counts)

member-long : (version : ℕ) (cs : List LinkCycle) (m : MemberLine) → member_size version cs m ≤ length (member_lines version cs m)
unfolding member_lines member_line
member-long version cs m =
    both (codes "member" ++ (flat_map capacity_text m.capacities.capacities ++ 10 ∷ [])) (shown_lines version cs m.shown) 1 (shown_size version cs m.shown)
    (after (codes "member") (flat_map capacity_text m.capacities.capacities ++ 10 ∷ []) 1 (after (flat_map capacity_text m.capacities.capacities) (10 ∷ []) 1 (omega arith))) (shown-long version cs m.shown)

schedule-long : (s : Periodic) → 1 + length s.starts ≤ length (schedule_lines s)
unfolding schedule_lines schedule_header
schedule-long s =
    both (codes "schedule " ++ (decimal s.period ++ (codes " " ++ (decimal s.rounds ++ 10 ∷ [])))) (flat_map numbers_line s.starts) 1 (length s.starts)
    (after (codes "schedule ") (decimal s.period ++ (codes " " ++ (decimal s.rounds ++ 10 ∷ []))) 1 (after (decimal s.period) (codes " " ++ (decimal s.rounds ++ 10 ∷ [])) 1 (after (codes " ") (decimal s.rounds ++ 10 ∷ []) 1 (after (decimal s.rounds) (10 ∷ []) 1 (omega arith)))))
    (count-long numbers_line numbers-long s.starts)

point-long : (p : PointLine) → point_size p ≤ length (point_lines p)
unfolding point_lines point_line
point-long p =
    let line : 1 ≤ length (codes "point " ++ (decimal p.total ++ (codes " " ++ fraction_then p.rate (codes " " ++ (decimal p.member ++ 10 ∷ []))))) =
    after (codes "point ") (decimal p.total ++ (codes " " ++ fraction_then p.rate (codes " " ++ (decimal p.member ++ 10 ∷ [])))) 1
    (after (decimal p.total) (codes " " ++ fraction_then p.rate (codes " " ++ (decimal p.member ++ 10 ∷ []))) 1
    (after (codes " ") (fraction_then p.rate (codes " " ++ (decimal p.member ++ 10 ∷ []))) 1
    (after (decimal p.rate.0) (codes "/" ++ (decimal p.rate.1 ++ (codes " " ++ (decimal p.member ++ 10 ∷ [])))) 1
    (after (codes "/") (decimal p.rate.1 ++ (codes " " ++ (decimal p.member ++ 10 ∷ []))) 1
    (after (decimal p.rate.1) (codes " " ++ (decimal p.member ++ 10 ∷ [])) 1 (after (codes " ") (decimal p.member ++ 10 ∷ []) 1 (after (decimal p.member) (10 ∷ []) 1 (omega arith)))))))) in
    let all : 1 + (1 + length p.schedule.starts) ≤ length ((codes "point " ++ (decimal p.total ++ (codes " " ++ fraction_then p.rate (codes " " ++ (decimal p.member ++ 10 ∷ []))))) ++ schedule_lines p.schedule) =
    both (codes "point " ++ (decimal p.total ++ (codes " " ++ fraction_then p.rate (codes " " ++ (decimal p.member ++ 10 ∷ []))))) (schedule_lines p.schedule) 1 (1 + length p.schedule.starts) line (schedule-long p.schedule) in
    omega (arith, all)

-- ---- the text

cycles-long : (version : ℕ) (cs : List LinkCycle) → cycles_size version cs ≤ length (cycle_list version cs)
unfolding cycle_list cycles_line
cycles-long version cs = at (version == 1)
  where
    at : (b : Bool) → cond b 0 (1 + sum (map cycle_size cs)) ≤ length (cond b [] ((codes "cycles " ++ (decimal (length cs) ++ 10 ∷ [])) ++ flat_map cycle_lines cs))
    at true = omega arith
    at false = both (codes "cycles " ++ (decimal (length cs) ++ 10 ∷ [])) (flat_map cycle_lines cs) 1 (sum (map cycle_size cs)) (after (codes "cycles ") (decimal (length cs) ++ 10 ∷ []) 1 (after (decimal (length cs)) (10 ∷ []) 1 (omega arith))) (flat-long cycle_size cycle_lines cycle-long cs)

members-long : (version : ℕ) (cs : List LinkCycle) (ms : List MemberLine) → 1 + sum (map (member_size version cs) ms) ≤ length (member_list version cs ms)
unfolding member_list members_line
members-long version cs ms =
    both (codes "members " ++ (decimal (length ms) ++ 10 ∷ [])) (flat_map (member_lines version cs) ms) 1 (sum (map (member_size version cs) ms))
    (after (codes "members ") (decimal (length ms) ++ 10 ∷ []) 1 (after (decimal (length ms)) (10 ∷ []) 1 (omega arith))) (flat-long (member_size version cs) (member_lines version cs) (member-long version cs) ms)

points-long : (ps : List PointLine) → 1 + sum (map point_size ps) ≤ length (point_list ps)
unfolding point_list points_line
points-long ps =
    both (codes "points " ++ (decimal (length ps) ++ 10 ∷ [])) (flat_map point_lines ps) 1 (sum (map point_size ps))
    (after (codes "points ") (decimal (length ps) ++ 10 ∷ []) 1 (after (decimal (length ps)) (10 ∷ []) 1 (omega arith))) (flat-long point_size point_lines point-long ps)

head-long : (version : ℕ) → 1 ≤ length (version_line version)
unfolding version_line
head-long version = after (codes "sdf3-certificate ") (decimal version ++ 10 ∷ []) 1 (after (decimal version) (10 ∷ []) 1 (omega arith))

kind-long : 1 ≤ length storage_kind
unfolding storage_kind
kind-long = after (codes "storage") (10 ∷ []) 1 (omega arith)

overlap-long : (b : Bool) → 1 ≤ length (overlap_line b)
unfolding overlap_line
overlap-long b = after (cond b (codes "no-overlap yes") (codes "no-overlap no")) (10 ∷ []) 1 (omega arith)

limit-long : (k : ℕ) → 1 ≤ length (limit_line k)
unfolding limit_line
limit-long k = after (codes "limit ") (decimal k ++ 10 ∷ []) 1 (after (decimal k) (10 ∷ []) 1 (omega arith))

end-long : 1 ≤ length end_line
unfolding end_line
end-long = after (codes "end") (10 ∷ []) 1 (omega arith)

pub lines-fit : (version : ℕ) (c : StorageCertificate) → sizes.end_line version c ≤ length (spelling version (Storage c))
unfolding spelling lines_after storage_lines storage_lists
lines-fit version c =
    let points = both (point_list c.points) end_line (1 + sum (map point_size c.points)) 1 (points-long c.points) end-long in
    let members = both (member_list version c.cycles c.members) (point_list c.points ++ end_line) (1 + sum (map (member_size version c.cycles) c.members)) (1 + sum (map point_size c.points) + 1) (members-long version c.cycles c.members) points in
    let cycles = both (cycle_list version c.cycles) (member_list version c.cycles c.members ++ (point_list c.points ++ end_line)) (cycles_size version c.cycles) (1 + sum (map (member_size version c.cycles) c.members) + (1 + sum (map point_size c.points) + 1)) (cycles-long version c.cycles) members in
    let one = both (limit_line c.limit) (cycle_list version c.cycles ++ (member_list version c.cycles c.members ++ (point_list c.points ++ end_line))) 1 _ (limit-long c.limit) cycles in
    let two = both (overlap_line c.no_overlap) (limit_line c.limit ++ (cycle_list version c.cycles ++ (member_list version c.cycles c.members ++ (point_list c.points ++ end_line)))) 1 _ (overlap-long c.no_overlap) one in
    let three = both storage_kind (overlap_line c.no_overlap ++ (limit_line c.limit ++ (cycle_list version c.cycles ++ (member_list version c.cycles c.members ++ (point_list c.points ++ end_line))))) 1 _ kind-long two in
    let four = both (version_line version) (storage_kind ++ (overlap_line c.no_overlap ++ (limit_line c.limit ++ (cycle_list version c.cycles ++ (member_list version c.cycles c.members ++ (point_list c.points ++ end_line)))))) 1 _ (head-long version) three in
    omega (arith, four, ap (λ (ms : List MemberLine). sum (map (member_size version c.cycles) ms)) (take-length c.members), ap (λ (ps : List PointLine). sum (map point_size ps)) (take-length c.points))
