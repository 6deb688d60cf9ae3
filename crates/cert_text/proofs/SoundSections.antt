-- What is read of several lines is spelled so, and within its limits.
use Rattle.std.proofs.Common.{◌≡◌, ℕ, zero, suc, ◌-◌, ◌<◌, Bool, true, false, List, [], ◌∷◌, ◌++◌, ℤ, All, length, Result, Ok, Err, refl, sym, ap, ◌∙◌, subst, arith, append_assoc, append-nil, decimal}
use Rattle.std.specs.Prelude.{◌==◌, if◌then◌else◌, codes}
use Rattle.std.specs.List.{flat_map, AllByRecursion}
use Rattle.std.proofs.lemmas.List.Elements.{All-from_recursion}
use Rattle.std.proofs.lemmas.Slice.Eq.{bytes_eq-Decides}
use Rattle.sd_base.specs.declared.limits.TheConstants.{START}
use Rattle.periodic.specs.declared.schedule.Periodic.{Periodic}
use Rattle.cert_text.specs.declared.certificates.LinkCycle.{LinkCycle}
use Rattle.cert_text.specs.declared.certificates.LinkStep.{LinkStep}
use Rattle.cert_text.specs.declared.certificates.PointLine.{PointLine}
use Rattle.cert_text.specs.declared.certificates.RateCertificate.{RateCertificate}
use Rattle.cert_text.specs.declared.certificates.ScenarioCertificate.{ScenarioCertificate}
use Rattle.cert_text.specs.declared.reading.cycles.CycleHeader.{CycleHeader}
use Rattle.cert_text.specs.declared.reading.fault.Fault.{Fault}
use Rattle.cert_text.specs.declared.reading.fault.Fault.TheVariants.{Form}
use Rattle.cert_text.specs.BufferLines.{buffers_line}
use Rattle.cert_text.specs.CycleLines.{cycle_header, cycle_lines, step_line}
use Rattle.cert_text.specs.Limits.{IsLong, IsRateWithin, IsScheduleWithin, IsNodeWithin, IsPotentialWithin, IsBufferWithin, IsRateCertificateWithin, IsScenarioWithin}
use Rattle.cert_text.specs.LineForms.{worded_due, overlap_due, rate_due, buffers_due, numbers_due, schedule_line_due, step_due, header_due, point_line_due, node_due, nodes_line_due, potential_due, same}
use Rattle.cert_text.specs.MemberLines.{point_line, point_lines}
use Rattle.cert_text.specs.NumberLines.{numbers_line, rate_line, overlap_line, points_line, potentials_line}
use Rattle.cert_text.specs.Reads.{Reads, ◌>>=◌, in_front, lines_of, next_by, onto, times_by}
use Rattle.cert_text.specs.ScenarioLines.{node_line, nodes_header, nodes_lines, potential_line}
use Rattle.cert_text.specs.ScheduleLines.{schedule_header, schedule_lines}
use Rattle.cert_text.specs.Sections.{begins_with_digit, actors_from, schedule_from, cycle_from, rate_from, nothing_behind, finish, ending, point_from, points_from, entered_from, nodes_from, potentials_from, scenario_from}
use Rattle.cert_text.specs.Spellable.{AreStarts, IsRateSpellable, Rise}
use Rattle.cert_text.specs.Spelling.{end_line, point_list, potential_list}
use Rattle.cert_text.proofs.EntriesAreReadInTurn.{numbers-sound, bind-ok}
use Rattle.cert_text.proofs.ReadSections.{IsGoodStep, IsGoodCycle, IsGoodPoint}
use Rattle.cert_text.proofs.SoundEntries.{buffers-line-sound}
use Rattle.cert_text.proofs.SoundLines.{worded-sound, overlap-sound, rate-sound, schedule-line-sound, IsHeaderWithin, header-sound, step-sound, point-line-sound, node-sound, nodes-line-sound, potential-sound}
use Rattle.cert_text.proofs.RepeatedReadsGoOn.{in-front-ok}

-- ---- lines as a text

abbrev pub joined : List (List ℕ) → List ℕ
joined lines = flat_map (λ (l : List ℕ). l) lines

pub joined-lines : (text : List ℕ) → joined (lines_of text) ≡ text
unfolding lines_of
joined-lines [] = refl
joined-lines (b ∷ bs) = split (b == 10) (lines_of bs) (joined-lines bs)
  where
    split : (feed : Bool) (ls : List (List ℕ)) → joined ls ≡ bs → joined (if feed then (b ∷ []) ∷ ls else onto b ls) ≡ b ∷ bs
    split true ls h = ap (λ (l : List ℕ). b ∷ l) h
    split false [] h = ap (λ (l : List ℕ). b ∷ l) h
    split false (l ∷ ls) h = ap (λ (l : List ℕ). b ∷ l) h

-- what was read of lines is their spelling, in front of those that are left
pub record Was {A : Type 0} (spell : A → List ℕ) (P : A → Type 0) (lines : List (List ℕ)) (x : A) (left : List (List ℕ)) : Type 0 where
  pub spelled : joined lines ≡ spell x ++ joined left
  pub fits : P x

abbrev pub reads : {A : Type 0} → A → List (List ℕ) → Reads A
reads x left = Ok (x, left)

pub reads-is : {A : Type 0} (a b : A × List (List ℕ)) → reads a.0 a.1 ≡ reads b.0 b.1 → a ≡ b
reads-is a b e = cc

pub next-was : {A : Type 0} (f : List ℕ → Result A Fault) (spell : A → List ℕ) (P : A → Type 0) → ((line : List ℕ) (x : A) → f line ≡ Ok x → (line ≡ spell x) × P x)
    → (lines : List (List ℕ)) (x : A) (left : List (List ℕ)) → next_by f lines ≡ Ok (x, left) → Was spell P lines x left
next-was f spell P each [] x left e = absurd cc
next-was f spell P each (line ∷ ls) x left e =
    let both = in-front-ok (f line) x ls left e in
    let s = each line x both.0 in
    record { spelled = ap (λ (l : List ℕ). l ++ joined ls) s.0 ∙ ap (λ (l : List (List ℕ)). spell x ++ joined l) both.1; fits = s.1 }

module _ {A : Type 0} (f : List (List ℕ) → Reads A) (spell : A → List ℕ) (P : A → Type 0) (each : (lines : List (List ℕ)) (x : A) (left : List (List ℕ)) → f lines ≡ Ok (x, left) → Was spell P lines x left) where
  pub times-was : (n : ℕ) (lines : List (List ℕ)) (xs : List A) (left : List (List ℕ)) → times_by f n lines ≡ Ok (xs, left) → (length xs ≡ n) × Was (flat_map spell) (AllByRecursion P) lines xs left
  unfolding times_by
  times-was zero lines xs left e =
      subst (λ (r : List A × List (List ℕ)). (length r.0 ≡ 0) × Was (flat_map spell) (AllByRecursion P) lines r.0 r.1) (reads-is ([], lines) (xs, left) e) (refl, record { spelled = refl; fits = tt })
  times-was (suc n) lines xs left e =
      let a = bind-ok (f lines) (λ x. times_by f n x.1 >>= λ r. reads (x.0 ∷ r.0) r.1) (xs, left) e in
      let b = bind-ok (times_by f n a.0.1) (λ r. reads (a.0.0 ∷ r.0) r.1) (xs, left) a.2 in
      let first = each lines a.0.0 a.0.1 a.1 in
      let rest = times-was n a.0.1 b.0.0 b.0.1 b.1 in
      subst (λ (r : List A × List (List ℕ)). (length r.0 ≡ suc n) × Was (flat_map spell) (AllByRecursion P) lines r.0 r.1) (reads-is (a.0.0 ∷ b.0.0, b.0.1) (xs, left) b.2)
      (ap (λ (k : ℕ). suc k) rest.0, record { spelled = first.spelled ∙ (ap (λ (l : List ℕ). spell a.0.0 ++ l) rest.1.spelled ∙ sym (append_assoc (spell a.0.0) (flat_map spell b.0.0) (joined b.0.1))); fits = (first.fits, rest.1.fits) })

-- ---- schedules

actors-was : (lines : List (List ℕ)) (ss : List (List ℕ)) (left : List (List ℕ)) → actors_from lines ≡ Ok (ss, left) → Was (flat_map numbers_line) (AllByRecursion AreStarts) lines ss left
unfolding actors_from
actors-was [] ss left e = subst (λ (r : List (List ℕ) × List (List ℕ)). Was (flat_map numbers_line) (AllByRecursion AreStarts) [] r.0 r.1) (reads-is ([], []) (ss, left) e) (record { spelled = refl; fits = tt })
actors-was (line ∷ ls) ss left e = split (begins_with_digit line) e (λ xs m h. actors-was ls xs m h)
  where
    split : (b : Bool) → (if b then (in_front (numbers_due START line) ls >>= λ starts. actors_from ls >>= λ others. reads (starts.0 ∷ others.0) others.1) else reads [] (line ∷ ls)) ≡ Ok (ss, left)
        → ((xs m : List (List ℕ)) → actors_from ls ≡ Ok (xs, m) → Was (flat_map numbers_line) (AllByRecursion AreStarts) ls xs m) → Was (flat_map numbers_line) (AllByRecursion AreStarts) (line ∷ ls) ss left
    split false h others = subst (λ (r : List (List ℕ) × List (List ℕ)). Was (flat_map numbers_line) (AllByRecursion AreStarts) (line ∷ ls) r.0 r.1) (reads-is ([], line ∷ ls) (ss, left) h) (record { spelled = refl; fits = tt })
    split true h others =
        let a = bind-ok (in_front (numbers_due START line) ls) (λ starts. actors_from ls >>= λ others. reads (starts.0 ∷ others.0) others.1) (ss, left) h in
        let both = in-front-ok (numbers_due START line) a.0.0 ls a.0.1 a.1 in
        let s = numbers-sound START line a.0.0 (omega arith) both.0 in
        let b = bind-ok (actors_from ls) (λ others. reads (a.0.0 ∷ others.0) others.1) (ss, left) a.2 in
        let rest = others b.0.0 b.0.1 b.1 in
        subst (λ (r : List (List ℕ) × List (List ℕ)). Was (flat_map numbers_line) (AllByRecursion AreStarts) (line ∷ ls) r.0 r.1) (reads-is (a.0.0 ∷ b.0.0, b.0.1) (ss, left) b.2)
        (record { spelled = ap (λ (l : List ℕ). l ++ joined ls) s.0 ∙ (ap (λ (l : List ℕ). numbers_line a.0.0 ++ l) rest.spelled ∙ sym (append_assoc (numbers_line a.0.0) (flat_map numbers_line b.0.0) (joined b.0.1))); fits = (record { some = s.1; early = s.2 }, rest.fits) })

pub record IsGoodSchedule (s : Periodic) : Type 0 where
  pub within : IsScheduleWithin s
  pub starts : All AreStarts s.starts

abbrev schedule_made : ℕ × ℕ → List (List ℕ) → Periodic
schedule_made header starts = record { period = header.0; rounds = header.1; starts = starts }

pub schedule-was : (lines : List (List ℕ)) (s : Periodic) (left : List (List ℕ)) → schedule_from lines ≡ Ok (s, left) → Was schedule_lines IsGoodSchedule lines s left
unfolding schedule_from schedule_lines
schedule-was lines s left e =
    let a = bind-ok (next_by schedule_line_due lines) (λ header. actors_from header.1 >>= λ starts. reads (schedule_made header.0 starts.0) starts.1) (s, left) e in
    let b = bind-ok (actors_from a.0.1) (λ starts. reads (schedule_made a.0.0 starts.0) starts.1) (s, left) a.2 in
    let first = next-was schedule_line_due (λ h. schedule_header h.0 h.1) (λ h. IsLong h.0 × IsLong h.1) schedule-line-sound lines a.0.0 a.0.1 a.1 in
    let rest = actors-was a.0.1 b.0.0 b.0.1 b.1 in
    let header : List ℕ = schedule_header a.0.0.0 a.0.0.1 in
    subst (λ (r : Periodic × List (List ℕ)). Was schedule_lines IsGoodSchedule lines r.0 r.1) (reads-is (schedule_made a.0.0 b.0.0, b.0.1) (s, left) b.2)
    (record {
      spelled = first.spelled ∙ (ap (λ (l : List ℕ). header ++ l) rest.spelled ∙ sym (append_assoc header (flat_map numbers_line b.0.0) (joined b.0.1)));
      fits = record { within = record { period = first.fits.0; rounds = first.fits.1 }; starts = All-from_recursion AreStarts b.0.0 rest.fits };
    })

-- ---- cycles

abbrev cycle_made : CycleHeader → List LinkStep → LinkCycle
cycle_made header steps = record { time = header.time; rounds = header.rounds; first = header.first; steps = steps }

step-was : (lines : List (List ℕ)) (s : LinkStep) (left : List (List ℕ)) → next_by step_due lines ≡ Ok (s, left) → Was step_line IsGoodStep lines s left
step-was = next-was step_due step_line IsGoodStep step-sound

pub cycle-was : (lines : List (List ℕ)) (c : LinkCycle) (left : List (List ℕ)) → cycle_from lines ≡ Ok (c, left) → Was cycle_lines IsGoodCycle lines c left
unfolding cycle_from cycle_lines
cycle-was lines c left e =
    let a = bind-ok (next_by header_due lines) (λ header. times_by (next_by step_due) header.0.steps header.1 >>= λ steps. reads (cycle_made header.0 steps.0) steps.1) (c, left) e in
    let b = bind-ok (times_by (next_by step_due) a.0.0.steps a.0.1) (λ steps. reads (cycle_made a.0.0 steps.0) steps.1) (c, left) a.2 in
    let h : CycleHeader = a.0.0 in
    let first = next-was header_due (λ (q : CycleHeader). cycle_header q.time q.rounds q.first q.steps) IsHeaderWithin header-sound lines h a.0.1 a.1 in
    let rest = times-was (next_by step_due) step_line IsGoodStep step-was h.steps a.0.1 b.0.0 b.0.1 b.1 in
    let each = All-from_recursion IsGoodStep b.0.0 rest.1.fits in
    let body : List ℕ = flat_map step_line b.0.0 in
    let many : h.steps ≡ length b.0.0 = sym rest.0 in
    let fits = first.fits in
    subst (λ (r : LinkCycle × List (List ℕ)). Was cycle_lines IsGoodCycle lines r.0 r.1) (reads-is (cycle_made h b.0.0, b.0.1) (c, left) b.2)
    (record {
      spelled = first.spelled ∙ (ap (λ (n : ℕ). cycle_header h.time h.rounds h.first n ++ joined a.0.1) many ∙ (ap (λ (l : List ℕ). cycle_header h.time h.rounds h.first (length b.0.0) ++ l) rest.1.spelled
          ∙ sym (append_assoc (cycle_header h.time h.rounds h.first (length b.0.0)) body (joined b.0.1))));
      fits = record {
        within = record { time = fits.time; rounds = fits.rounds; first = fits.first; count = omega (arith, many, fits.steps); steps = λ k d less. (each k d less).0 };
        text = λ k d less. (each k d less).1;
      };
    })

-- ---- the end

pub finish-was : {A : Type 0} (x y : A) (lines left : List (List ℕ)) → finish x lines ≡ Ok (y, left) → (x ≡ y) × (joined lines ≡ end_line)
unfolding finish ending
finish-was x y [] left e = absurd cc
finish-was {A} x y (line ∷ ls) left e = behind ls e
  where
    behind : (more : List (List ℕ)) → (nothing_behind (same line end_line) more >>= λ last. reads x last.1) ≡ Ok (y, left) → (x ≡ y) × (line ++ joined more ≡ end_line)
    behind [] h = split (same line end_line) refl h
      where
        split : (b : Bool) → same line end_line ≡ b → ((if b then reads true [] else Err (Form, [])) >>= λ last. reads x last.1) ≡ Ok (y, left) → (x ≡ y) × (line ++ [] ≡ end_line)
        split true test g = (ap (λ (r : A × List (List ℕ)). r.0) (reads-is (x, []) (y, left) g), append-nil line ∙ (bytes_eq-Decides line end_line).0 test)
        split false test g = absurd cc
    behind (l ∷ more) h = split (same line end_line) h
      where
        split : (b : Bool) → ((if b then Err (Form, more) else Err (Form, l ∷ more)) >>= λ (last : Bool × List (List ℕ)). reads x last.1) ≡ Ok (y, left) → (x ≡ y) × (line ++ joined (l ∷ more) ≡ end_line)
        split true g = absurd cc
        split false g = absurd cc

-- ---- a rate

pub overlap-was : (lines : List (List ℕ)) (o : Bool) (left : List (List ℕ)) → next_by overlap_due lines ≡ Ok (o, left) → Was overlap_line (λ b. Unit {0}) lines o left
overlap-was = next-was overlap_due overlap_line (λ b. Unit {0}) (λ line b e. (overlap-sound line b e, tt))

rate-line-was : (lines : List (List ℕ)) (r : ℕ × ℕ) (left : List (List ℕ)) → next_by rate_due lines ≡ Ok (r, left) → Was rate_line IsRateWithin lines r left
rate-line-was = next-was rate_due rate_line IsRateWithin rate-sound

abbrev AreBuffersWithin : List (ℕ × ℕ) → Type 0
AreBuffersWithin bs = Rise bs × All IsBufferWithin bs

abbrev rate_made : Bool → List (ℕ × ℕ) → ℕ × ℕ → Periodic → LinkCycle → RateCertificate
rate_made o b r s c = record { no_overlap = o; buffers = b; rate = r; schedule = s; cycle = c }

-- the lines behind the kind
abbrev pub rate_text : RateCertificate → List ℕ
rate_text c = overlap_line c.no_overlap ++ (buffers_line c.buffers ++ (rate_line c.rate ++ (schedule_lines c.schedule ++ (cycle_lines c.cycle ++ end_line))))

pub rate-was : (lines : List (List ℕ)) (c : RateCertificate) (left : List (List ℕ)) → rate_from lines ≡ Ok (c, left) → (joined lines ≡ rate_text c) × IsRateCertificateWithin c × IsRateSpellable c
unfolding rate_from
rate-was lines c left e =
    let o = bind-ok (next_by overlap_due lines) (λ o. next_by buffers_due o.1 >>= λ b. next_by rate_due b.1 >>= λ r. schedule_from r.1 >>= λ s. cycle_from s.1 >>= λ y. finish (rate_made o.0 b.0 r.0 s.0 y.0) y.1) (c, left) e in
    let b = bind-ok (next_by buffers_due o.0.1) (λ b. next_by rate_due b.1 >>= λ r. schedule_from r.1 >>= λ s. cycle_from s.1 >>= λ y. finish (rate_made o.0.0 b.0 r.0 s.0 y.0) y.1) (c, left) o.2 in
    let r = bind-ok (next_by rate_due b.0.1) (λ r. schedule_from r.1 >>= λ s. cycle_from s.1 >>= λ y. finish (rate_made o.0.0 b.0.0 r.0 s.0 y.0) y.1) (c, left) b.2 in
    let s = bind-ok (schedule_from r.0.1) (λ s. cycle_from s.1 >>= λ y. finish (rate_made o.0.0 b.0.0 r.0.0 s.0 y.0) y.1) (c, left) r.2 in
    let y = bind-ok (cycle_from s.0.1) (λ y. finish (rate_made o.0.0 b.0.0 r.0.0 s.0.0 y.0) y.1) (c, left) s.2 in
    let made : RateCertificate = rate_made o.0.0 b.0.0 r.0.0 s.0.0 y.0.0 in
    let end = finish-was made c y.0.1 left y.2 in
    let first = overlap-was lines o.0.0 o.0.1 o.1 in
    let second = next-was buffers_due buffers_line AreBuffersWithin buffers-line-sound o.0.1 b.0.0 b.0.1 b.1 in
    let third = rate-line-was b.0.1 r.0.0 r.0.1 r.1 in
    let fourth = schedule-was r.0.1 s.0.0 s.0.1 s.1 in
    let fifth = cycle-was s.0.1 y.0.0 y.0.1 y.1 in
    let whole : joined lines ≡ rate_text made = first.spelled ∙ ap (λ (l : List ℕ). overlap_line o.0.0 ++ l) (second.spelled ∙ ap (λ (l : List ℕ). buffers_line b.0.0 ++ l) (third.spelled ∙ ap (λ (l : List ℕ). rate_line r.0.0 ++ l) (fourth.spelled
    ∙ ap (λ (l : List ℕ). schedule_lines s.0.0 ++ l) (fifth.spelled ∙ ap (λ (l : List ℕ). cycle_lines y.0.0 ++ l) end.1)))) in
    subst (λ (q : RateCertificate). (joined lines ≡ rate_text q) × IsRateCertificateWithin q × IsRateSpellable q) end.0
    (whole, record { buffers = second.fits.1; rate = third.fits; schedule = fourth.fits.within; cycle = fifth.fits.within }, record { buffers = second.fits.0; schedule = fourth.fits.starts; cycle = fifth.fits.text })

-- ---- points

abbrev point_made : ℕ × (ℕ × ℕ) × ℕ → Periodic → PointLine
point_made h s = record { total = h.0; rate = h.1; member = h.2; schedule = s }

point-was : (lines : List (List ℕ)) (p : PointLine) (left : List (List ℕ)) → point_from lines ≡ Ok (p, left) → Was point_lines IsGoodPoint lines p left
unfolding point_from point_lines
point-was lines p left e =
    let h = bind-ok (next_by point_line_due lines) (λ h. schedule_from h.1 >>= λ s. reads (point_made h.0 s.0) s.1) (p, left) e in
    let s = bind-ok (schedule_from h.0.1) (λ s. reads (point_made h.0.0 s.0) s.1) (p, left) h.2 in
    let first = next-was point_line_due (λ q. point_line q.0 q.1 q.2) (λ q. IsLong q.0 × IsRateWithin q.1 × IsLong q.2) point-line-sound lines h.0.0 h.0.1 h.1 in
    let rest = schedule-was h.0.1 s.0.0 s.0.1 s.1 in
    let line : List ℕ = point_line h.0.0.0 h.0.0.1 h.0.0.2 in
    let fits = first.fits in
    subst (λ (r : PointLine × List (List ℕ)). Was point_lines IsGoodPoint lines r.0 r.1) (reads-is (point_made h.0.0 s.0.0, s.0.1) (p, left) s.2)
    (record {
      spelled = first.spelled ∙ (ap (λ (l : List ℕ). line ++ l) rest.spelled ∙ sym (append_assoc line (schedule_lines s.0.0) (joined s.0.1)));
      fits = record { within = record { total = fits.0; rate = fits.1; member = fits.2; schedule = rest.fits.within }; starts = rest.fits.starts };
    })

pub worded-was : (word : List ℕ) (lines : List (List ℕ)) (n : ℕ) (left : List (List ℕ)) → next_by (worded_due word) lines ≡ Ok (n, left) → Was (λ m. word ++ (decimal m ++ 10 ∷ [])) IsLong lines n left
worded-was word = next-was (worded_due word) (λ m. word ++ (decimal m ++ 10 ∷ [])) IsLong (worded-sound word)

-- so many of a kind, and how many
module _ {A : Type 0} (word : List ℕ) (f : List (List ℕ) → Reads A) (spell : A → List ℕ) (P : A → Type 0) (each : (lines : List (List ℕ)) (x : A) (left : List (List ℕ)) → f lines ≡ Ok (x, left) → Was spell P lines x left) where
  abbrev pub AreListed : List A → Type 0
  AreListed xs = IsLong (length xs) × All P xs

  pub list-was : (lines : List (List ℕ)) (xs : List A) (left : List (List ℕ)) → (next_by (worded_due word) lines >>= λ count. times_by f count.0 count.1) ≡ Ok (xs, left)
      → Was (λ ys. (word ++ (decimal (length ys) ++ 10 ∷ [])) ++ flat_map spell ys) AreListed lines xs left
  list-was lines xs left e =
      let a = bind-ok (next_by (worded_due word) lines) (λ count. times_by f count.0 count.1) (xs, left) e in
      let first = worded-was word lines a.0.0 a.0.1 a.1 in
      let rest = times-was f spell P each a.0.0 a.0.1 xs left a.2 in
      let many : a.0.0 ≡ length xs = sym rest.0 in
      let low = first.fits in
      let line : List ℕ = word ++ (decimal (length xs) ++ 10 ∷ []) in
      record {
        spelled = first.spelled ∙ (ap (λ (n : ℕ). (word ++ (decimal n ++ 10 ∷ [])) ++ joined a.0.1) many ∙ (ap (λ (l : List ℕ). line ++ l) rest.1.spelled ∙ sym (append_assoc line (flat_map spell xs) (joined left))));
        fits = (omega (arith, low, many), All-from_recursion P xs rest.1.fits);
      }

pub points-was : (lines : List (List ℕ)) (ps : List PointLine) (left : List (List ℕ)) → points_from lines ≡ Ok (ps, left) → Was point_list (λ qs. IsLong (length qs) × All IsGoodPoint qs) lines ps left
unfolding points_from point_list points_line
points-was lines ps left e = let h = list-was (codes "points ") point_from point_lines IsGoodPoint point-was lines ps left e in record { spelled = h.spelled; fits = h.fits }

-- ---- scenarios

abbrev nodes_made : ℕ → List (ℕ × ℕ) → ℕ × List (ℕ × ℕ)
nodes_made time nodes = (time, nodes)

abbrev AreNodesWithin : ℕ × List (ℕ × ℕ) → Type 0
AreNodesWithin n = IsLong n.0 × IsLong (length n.1 - 1) × All IsNodeWithin n.1 × (0 < length n.1)

nodes-was : (lines : List (List ℕ)) (n : ℕ × List (ℕ × ℕ)) (left : List (List ℕ)) → nodes_from lines ≡ Ok (n, left)
    → Was (λ m. nodes_lines m.0 m.1) AreNodesWithin lines n left
unfolding nodes_from entered_from nodes_lines
nodes-was lines n left e =
    let a = bind-ok (next_by nodes_line_due lines) (λ h. entered_from h.0.2 h.0.1 h.1 >>= λ m. reads (nodes_made h.0.0 m.0) m.1) (n, left) e in
    let b = bind-ok (entered_from a.0.0.2 a.0.0.1 a.0.1) (λ m. reads (nodes_made a.0.0.0 m.0) m.1) (n, left) a.2 in
    let d = bind-ok (times_by (next_by node_due) a.0.0.1 a.0.1) (λ m. reads (a.0.0.2 ∷ m.0) m.1) b.0 b.1 in
    let node : ℕ × ℕ = a.0.0.2 in
    let first = next-was nodes_line_due (λ q. nodes_header q.0 q.1 q.2) (λ q. IsLong q.0 × IsLong q.1 × IsNodeWithin q.2) nodes-line-sound lines a.0.0 a.0.1 a.1 in
    let rest = times-was (next_by node_due) node_line IsNodeWithin (next-was node_due node_line IsNodeWithin node-sound) a.0.0.1 a.0.1 d.0.0 d.0.1 d.1 in
    let ns : List (ℕ × ℕ) = d.0.0 in
    let fits = first.fits in
    let many : a.0.0.1 ≡ length ns = sym rest.0 in
    let inner : (node ∷ ns, d.0.1) ≡ b.0 = reads-is (node ∷ ns, d.0.1) b.0 d.2 in
    let outer : (nodes_made a.0.0.0 b.0.0, b.0.1) ≡ (n, left) = reads-is (nodes_made a.0.0.0 b.0.0, b.0.1) (n, left) b.2 in
    let both : (nodes_made a.0.0.0 (node ∷ ns), d.0.1) ≡ (n, left) = ap (λ (r : List (ℕ × ℕ) × List (List ℕ)). let q : (ℕ × List (ℕ × ℕ)) × List (List ℕ) = (nodes_made a.0.0.0 r.0, r.1) in q) inner ∙ outer in
    let header : List ℕ = nodes_header a.0.0.0 (length ns) node in
    subst (λ (r : (ℕ × List (ℕ × ℕ)) × List (List ℕ)). Was (λ m. nodes_lines m.0 m.1) AreNodesWithin lines r.0 r.1) both
    (record {
      spelled = first.spelled ∙ (ap (λ (k : ℕ). nodes_header a.0.0.0 k node ++ joined a.0.1) many ∙ (ap (λ (l : List ℕ). header ++ l) rest.1.spelled ∙ sym (append_assoc header (flat_map node_line ns) (joined d.0.1))));
      fits = (fits.0, omega (arith, many, fits.1), All-from_recursion IsNodeWithin (node ∷ ns) (fits.2, rest.1.fits), omega arith);
    })

potentials-was : (lines : List (List ℕ)) (ps : List (ℕ × ℕ × ℤ)) (left : List (List ℕ)) → potentials_from lines ≡ Ok (ps, left) → Was potential_list (λ qs. IsLong (length qs) × All IsPotentialWithin qs) lines ps left
unfolding potentials_from potential_list potentials_line
potentials-was lines ps left e =
    let h = list-was (codes "potentials ") (next_by potential_due) potential_line IsPotentialWithin (next-was potential_due potential_line IsPotentialWithin potential-sound) lines ps left e in
    record { spelled = h.spelled; fits = h.fits }

abbrev scenario_made : ℕ × ℕ → ℕ × List (ℕ × ℕ) → List (ℕ × ℕ × ℤ) → ScenarioCertificate
scenario_made r n p = record { rate = r; time = n.0; nodes = n.1; potentials = p }

abbrev pub scenario_text : ScenarioCertificate → List ℕ
scenario_text c = rate_line c.rate ++ (nodes_lines c.time c.nodes ++ (potential_list c.potentials ++ end_line))

pub scenario-was : (lines : List (List ℕ)) (c : ScenarioCertificate) (left : List (List ℕ)) → scenario_from lines ≡ Ok (c, left) → (joined lines ≡ scenario_text c) × IsScenarioWithin c × (0 < length c.nodes)
unfolding scenario_from
scenario-was lines c left e =
    let r = bind-ok (next_by rate_due lines) (λ r. nodes_from r.1 >>= λ n. potentials_from n.1 >>= λ p. finish (scenario_made r.0 n.0 p.0) p.1) (c, left) e in
    let n = bind-ok (nodes_from r.0.1) (λ n. potentials_from n.1 >>= λ p. finish (scenario_made r.0.0 n.0 p.0) p.1) (c, left) r.2 in
    let p = bind-ok (potentials_from n.0.1) (λ p. finish (scenario_made r.0.0 n.0.0 p.0) p.1) (c, left) n.2 in
    let made : ScenarioCertificate = scenario_made r.0.0 n.0.0 p.0.0 in
    let end = finish-was made c p.0.1 left p.2 in
    let first = rate-line-was lines r.0.0 r.0.1 r.1 in
    let second = nodes-was r.0.1 n.0.0 n.0.1 n.1 in
    let third = potentials-was n.0.1 p.0.0 p.0.1 p.1 in
    let whole : joined lines ≡ scenario_text made = first.spelled ∙ ap (λ (l : List ℕ). rate_line r.0.0 ++ l) (second.spelled ∙ ap (λ (l : List ℕ). nodes_lines n.0.0.0 n.0.0.1 ++ l) (third.spelled ∙ ap (λ (l : List ℕ). potential_list p.0.0 ++ l) end.1)) in
    let fits = second.fits in
    subst (λ (q : ScenarioCertificate). (joined lines ≡ scenario_text q) × IsScenarioWithin q × (0 < length q.nodes)) end.0
    (whole, record { rate = first.fits; time = fits.0; edges = fits.1; nodes = fits.2; potential_count = third.fits.0; potentials = third.fits.1 }, fits.3)
