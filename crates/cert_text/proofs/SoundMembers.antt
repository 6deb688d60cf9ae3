-- What is read of the cycles and the members of a trade-off is spelled so, in order, and within its limits.
use Rattle.std.proofs.Common.{◌≡◌, ◌⊎◌, ℕ, zero, suc, ◌+◌, ◌<◌, ◌≤◌, Bool, true, false, List, [], ◌∷◌, ◌++◌, Option, Some, None, All, length, drop, Ok, Err, refl, sym, ap, ◌∙◌, subst, arith, inl, inr, append_assoc, append-nil, decimal}
use Rattle.std.specs.Prelude.{◌==◌, if◌then◌else◌, codes, nat_lt}
use Rattle.std.specs.List.{flat_map, list_any, AllByRecursion}
use Rattle.std.proofs.lemmas.Bool.{eqb-true, ltb-false}
use Rattle.std.proofs.lemmas.List.Elements.{All-from_recursion, All-nil}
use Rattle.std.proofs.lemmas.Option.{same_Some}
use Rattle.cert_text.specs.declared.certificates.LinkCycle.{LinkCycle}
use Rattle.cert_text.specs.declared.certificates.MemberLine.{MemberLine}
use Rattle.cert_text.specs.declared.certificates.MemberShown.{MemberShown}
use Rattle.cert_text.specs.declared.certificates.MemberShown.TheVariants.{Cycle, Blocked}
use Rattle.cert_text.specs.declared.certificates.PointLine.{PointLine}
use Rattle.cert_text.specs.declared.certificates.StorageCertificate.{StorageCertificate}
use Rattle.cert_text.specs.declared.reading.fault.Fault.TheVariants.{Form}
use Rattle.cert_text.specs.CycleLines.{cycle_lines}
use Rattle.cert_text.specs.Found.{IsListed}
use Rattle.cert_text.specs.Limits.{IsLong, IsCapacityWithin, IsShownWithin, IsStorageWithin}
use Rattle.cert_text.specs.LineForms.{worded_due, overlap_due, rate_due, numbers_due, numbered_rate_due, capacities_due, same}
use Rattle.cert_text.specs.MemberLines.{blocked_line, member_line, member_lines, numbered_rate_line, shown_lines}
use Rattle.cert_text.specs.NumberLines.{cycles_line, limit_line, members_line, numbers_line, overlap_line}
use Rattle.cert_text.specs.Orderly.{Differ, IsStorageOrderly, used_by, used_with}
use Rattle.cert_text.specs.Reads.{Reads, ◌>>=◌, in_front, next_by, handing}
use Rattle.cert_text.specs.Sections.{cycle_from, same_cycle, place_of, with_cycle, new_cycle_from, new_cycles_from, cycles_from, blocked_from, listed_from, numbered_from, member_from, members_from, naming_from, named_from, explored_from, points_from, finish, storage_from}
use Rattle.cert_text.specs.Spellable.{AreShown, IsStorageSpellable}
use Rattle.cert_text.specs.Spelling.{cycle_list, member_list, point_list, end_line, storage_lists}
use Rattle.cert_text.proofs.EntriesAreReadInTurn.{numbers-sound, bind-ok}
use Rattle.cert_text.proofs.FoundCycles.{differ-more}
use Rattle.cert_text.proofs.ListedCycles.{listed-text, listed-cycle, listed-blocked}
use Rattle.cert_text.proofs.ReadMembers.{IsGoodMember, AreGood}
use Rattle.cert_text.proofs.ReadSections.{IsGoodCycle}
use Rattle.cert_text.proofs.SoundEntries.{capacities-line-sound}
use Rattle.cert_text.proofs.SoundLines.{rate-sound, numbered-sound, same-is}
use Rattle.cert_text.proofs.SoundSections.{joined, Was, reads, reads-is, next-was, worded-was, overlap-was, cycle-was, points-was, finish-was}
use Rattle.cert_text.proofs.PiecesMakeTexts.{all-pushed}
use Rattle.cert_text.proofs.RepeatedReadsGoOn.{in-front-ok}
use Rattle.cert_text.proofs.MembersNameInOrder.{used_next}

-- ---- the list of the cycles

-- cycles that were read after others
record AreNew (n : ℕ) (old : List LinkCycle) (lines : List (List ℕ)) (all : List LinkCycle) (left : List (List ℕ)) : Type 0 where
  cycles : List LinkCycle
  many : length cycles ≡ n
  made : all ≡ old ++ cycles
  spelled : joined lines ≡ flat_map cycle_lines cycles ++ joined left
  good : AllByRecursion IsGoodCycle cycles
  differ : Differ old → Differ all

abbrev one_new : List LinkCycle → List (List ℕ) → LinkCycle × List (List ℕ) → Reads (List LinkCycle)
one_new cycles lines c = if list_any (same_cycle c.0) cycles then Err (Form, drop 1 lines) else Ok (cycles ++ c.0 ∷ [], c.1)

new-cycle-was : (old : List LinkCycle) (lines : List (List ℕ)) (all : List LinkCycle) (left : List (List ℕ)) → new_cycle_from old lines ≡ Ok (all, left)
    → (c : LinkCycle) × (all ≡ old ++ c ∷ []) × (list_any (same_cycle c) old ≡ false) × Was cycle_lines IsGoodCycle lines c left
unfolding new_cycle_from
new-cycle-was old lines all left e =
    let a = bind-ok (cycle_from lines) (one_new old lines) (all, left) e in
    let h = cycle-was lines a.0.0 a.0.1 a.1 in
    split a.0.0 a.0.1 h (list_any (same_cycle a.0.0) old) refl a.2
  where
    split : (c : LinkCycle) (more : List (List ℕ)) → Was cycle_lines IsGoodCycle lines c more → (b : Bool) → list_any (same_cycle c) old ≡ b → (if b then Err (Form, drop 1 lines) else reads (old ++ c ∷ []) more) ≡ Ok (all, left)
        → (d : LinkCycle) × (all ≡ old ++ d ∷ []) × (list_any (same_cycle d) old ≡ false) × Was cycle_lines IsGoodCycle lines d left
    split c more h true test g = absurd cc
    split c more h false test g =
        let is = reads-is (old ++ c ∷ [], more) (all, left) g in
        (c, ap (λ (r : List LinkCycle × List (List ℕ)). r.0) (sym is), test, subst (λ (m : List (List ℕ)). Was cycle_lines IsGoodCycle lines c m) (ap (λ (r : List LinkCycle × List (List ℕ)). r.1) is) h)

new-cycles-was : (n : ℕ) (old : List LinkCycle) (lines : List (List ℕ)) (all : List LinkCycle) (left : List (List ℕ)) → new_cycles_from n old lines ≡ Ok (all, left) → AreNew n old lines all left
unfolding new_cycles_from
new-cycles-was zero old lines all left e =
    subst (λ (r : List LinkCycle × List (List ℕ)). AreNew 0 old lines r.0 r.1) (reads-is (old, lines) (all, left) e)
    (record { cycles = []; many = refl; made = sym (append-nil old); spelled = refl; good = tt; differ = λ h. h })
new-cycles-was (suc n) old lines all left e =
    let a = bind-ok (new_cycle_from old lines) (λ more. new_cycles_from n more.0 more.1) (all, left) e in
    let c = new-cycle-was old lines a.0.0 a.0.1 a.1 in
    let rest = new-cycles-was n a.0.0 a.0.1 all left a.2 in
    let first = c.3 in
    record {
      cycles = c.0 ∷ rest.cycles;
      many = ap (λ (k : ℕ). suc k) rest.many;
      made = rest.made ∙ (ap (λ (l : List LinkCycle). l ++ rest.cycles) c.1 ∙ append_assoc old (c.0 ∷ []) rest.cycles);
      spelled = first.spelled ∙ (ap (λ (l : List ℕ). cycle_lines c.0 ++ l) rest.spelled ∙ sym (append_assoc (cycle_lines c.0) (flat_map cycle_lines rest.cycles) (joined left)));
      good = (first.fits, rest.good);
      differ = λ h. rest.differ (differ-more old a.0.0 c.0 h c.2 c.1);
    }

-- the list of the cycles, with their number
record IsCycleList (lines : List (List ℕ)) (cycles : List LinkCycle) (left : List (List ℕ)) : Type 0 where
  spelled : joined lines ≡ cycles_line (length cycles) ++ (flat_map cycle_lines cycles ++ joined left)
  many : IsLong (length cycles)
  good : All IsGoodCycle cycles
  differ : Differ cycles

no-cycles : Differ []
no-cycles i j less within = absurd (omega (arith, within))

cycles-was : (lines : List (List ℕ)) (cycles : List LinkCycle) (left : List (List ℕ)) → cycles_from lines ≡ Ok (cycles, left) → IsCycleList lines cycles left
unfolding cycles_from cycles_line
cycles-was lines cycles left e =
    let a = bind-ok (next_by (worded_due (codes "cycles ")) lines) (λ count. new_cycles_from count.0 [] count.1) (cycles, left) e in
    let first = worded-was (codes "cycles ") lines a.0.0 a.0.1 a.1 in
    let h = new-cycles-was a.0.0 [] a.0.1 cycles left a.2 in
    let back : h.cycles ≡ cycles = sym h.made in
    let low = first.fits in
    let size : a.0.0 ≡ length cycles = sym h.many ∙ ap (λ (l : List LinkCycle). length l) back in
    record {
      spelled = first.spelled ∙ (ap (λ (n : ℕ). (codes "cycles " ++ (decimal n ++ 10 ∷ [])) ++ joined a.0.1) size
          ∙ ap (λ (l : List ℕ). (codes "cycles " ++ (decimal (length cycles) ++ 10 ∷ [])) ++ l) (h.spelled ∙ ap (λ (l : List LinkCycle). flat_map cycle_lines l ++ joined left) back));
      many = omega (arith, size, low);
      good = subst (All IsGoodCycle) back (All-from_recursion IsGoodCycle h.cycles h.good);
      differ = h.differ no-cycles;
    }

-- ---- what a member shows

abbrev blocked_made : {S : Type 0} → S → List ℕ → S × MemberShown
blocked_made known counts = (known, Blocked counts)

-- counts that show that a member is blocked
record IsBlocked (lines : List (List ℕ)) (counts : List ℕ) (left : List (List ℕ)) : Type 0 where
  spelled : joined lines ≡ numbers_line counts ++ joined left
  some : 0 < length counts
  within : All IsLong counts

blocked-was : {S : Type 0} (known : S) (lines : List (List ℕ)) (r : S × MemberShown) (left : List (List ℕ)) → blocked_from known lines ≡ Ok (r, left) → (counts : List ℕ) × (blocked_made known counts ≡ r) × IsBlocked lines counts left
unfolding blocked_from
blocked-was {S} known lines r left e =
    let a = bind-ok (next_by (numbers_due 18446744073709551615) lines) (λ counts. reads (blocked_made known counts.0) counts.1) (r, left) e in
    let h = next-was (numbers_due 18446744073709551615) numbers_line (λ counts. (0 < length counts) × All IsLong counts) (λ line counts g. let s = numbers-sound 18446744073709551615 line counts (omega arith) g in (s.0, (s.1, s.2))) lines a.0.0 a.0.1 a.1 in
    let is = reads-is (blocked_made known a.0.0, a.0.1) (r, left) a.2 in
    let counts : List ℕ = a.0.0 in
    let blocked : IsBlocked lines counts a.0.1 = record { spelled = h.spelled; some = h.fits.0; within = h.fits.1 } in
    (counts, ap (λ (q : (S × MemberShown) × List (List ℕ)). q.0) is, subst (λ (m : List (List ℕ)). IsBlocked lines counts m) (ap (λ (q : (S × MemberShown) × List (List ℕ)). q.1) is) blocked)

-- ---- by the numbers of cycles

-- the number of a cycle that was named before, or of the next one
record IsNamed (cycles : List LinkCycle) (all used : ℕ) (lines : List (List ℕ)) (next : ℕ) (what : MemberShown) (left : List (List ℕ)) : Type 0 where
  spelled : joined lines ≡ shown_lines 2 cycles what ++ joined left
  named : used_with used what ≡ Some next
  most : used ≤ all → next ≤ all
  within : IsShownWithin what
  shown : AreShown what

abbrev named_made : ℕ → (ℕ × ℕ) × ℕ → ℕ × MemberShown
named_made used r = (if r.1 == used then used + 1 else used, Cycle r.0 r.1)

grown : (all used i : ℕ) → i < all → (b : Bool) → (i == used) ≡ b → used ≤ all → (if b then used + 1 else used) ≤ all
grown all used i less true test le = let equal = eqb-true i used test in omega (arith, equal, less)
grown all used i less false test le = le

numbered-was : (cycles : List LinkCycle) (all used : ℕ) → IsLong all → (lines : List (List ℕ)) (r : ℕ × MemberShown) (left : List (List ℕ)) → numbered_from all used lines ≡ Ok (r, left) → IsNamed cycles all used lines r.0 r.1 left
unfolding numbered_from shown_lines
numbered-was cycles all used many [] r left e = absurd cc
numbered-was cycles all used many (line ∷ ls) r left e = split (same line blocked_line) refl e
  where
    split : (b : Bool) → same line blocked_line ≡ b → (if b then blocked_from used ls else (in_front (numbered_rate_due used all line) ls >>= λ q. reads (named_made used q.0) q.1)) ≡ Ok (r, left) → IsNamed cycles all used (line ∷ ls) r.0 r.1 left
    split true test g =
        let h = blocked-was used ls r left g in
        let b = h.2 in
        subst (λ (q : ℕ × MemberShown). IsNamed cycles all used (line ∷ ls) q.0 q.1 left) h.1 (record {
          spelled = ap (λ (l : List ℕ). l ++ joined ls) (same-is line blocked_line test) ∙ (ap (λ (l : List ℕ). blocked_line ++ l) b.spelled ∙ sym (append_assoc blocked_line (numbers_line h.0) (joined left)));
          named = refl;
          most = λ le. le;
          within = b.within;
          shown = b.some;
        })
    split false test g =
        let a = bind-ok (in_front (numbered_rate_due used all line) ls) (λ q. reads (named_made used q.0) q.1) (r, left) g in
        let both = in-front-ok (numbered_rate_due used all line) a.0.0 ls a.0.1 a.1 in
        let h = numbered-sound used all line a.0.0 many both.0 in
        let fits = h.1 in
        let is = reads-is (named_made used a.0.0, a.0.1) (r, left) a.2 in
        subst (λ (q : (ℕ × MemberShown) × List (List ℕ)). IsNamed cycles all used (line ∷ ls) q.0.0 q.0.1 q.1) is (record {
          spelled = ap (λ (l : List ℕ). l ++ joined ls) h.0 ∙ ap (λ (l : List (List ℕ)). numbered_rate_line a.0.0.0 a.0.0.1 ++ joined l) both.1;
          named = used_next used a.0.0.1 a.0.0.0 fits.1;
          most = grown all used a.0.0.1 fits.2 (a.0.0.1 == used) refl;
          within = fits.0;
          shown = tt;
        })

-- ---- by cycles that are listed

record IsListedSo (old : List LinkCycle) (lines : List (List ℕ)) (new : List LinkCycle) (what : MemberShown) (left : List (List ℕ)) : Type 0 where
  spelled : (later : List LinkCycle) → joined lines ≡ shown_lines 1 (new ++ later) what ++ joined left
  listed : IsListed old new what
  within : IsShownWithin what
  good : All IsGoodCycle old → All IsGoodCycle new

abbrev listed_made : List LinkCycle → ℕ × ℕ → LinkCycle → List LinkCycle × MemberShown
listed_made old rate c = (with_cycle old c, Cycle rate (place_of old c))

good-with : (old : List LinkCycle) (c : LinkCycle) → IsGoodCycle c → All IsGoodCycle old → All IsGoodCycle (with_cycle old c)
good-with old c good all = split (list_any (same_cycle c) old)
  where
    split : (b : Bool) → All IsGoodCycle (if b then old else old ++ c ∷ [])
    split true = all
    split false = all-pushed IsGoodCycle old (old ++ c ∷ []) c all good refl

blocked-text : (cycles : List LinkCycle) (line : List ℕ) (ls left : List (List ℕ)) (counts : List ℕ) → line ≡ blocked_line → joined ls ≡ numbers_line counts ++ joined left → joined (line ∷ ls) ≡ shown_lines 1 cycles (Blocked counts) ++ joined left
unfolding shown_lines
blocked-text cycles line ls left counts first rest = ap (λ (l : List ℕ). l ++ joined ls) first ∙ (ap (λ (l : List ℕ). blocked_line ++ l) rest ∙ sym (append_assoc blocked_line (numbers_line counts) (joined left)))

listed-was : (old : List LinkCycle) (lines : List (List ℕ)) (r : List LinkCycle × MemberShown) (left : List (List ℕ)) → listed_from old lines ≡ Ok (r, left) → IsListedSo old lines r.0 r.1 left
unfolding listed_from
listed-was old [] r left e = absurd cc
listed-was old (line ∷ ls) r left e = split (same line blocked_line) refl e
  where
    split : (b : Bool) → same line blocked_line ≡ b → (if b then blocked_from old ls else (in_front (rate_due line) ls >>= λ q. cycle_from q.1 >>= λ y. reads (listed_made old q.0 y.0) y.1)) ≡ Ok (r, left) → IsListedSo old (line ∷ ls) r.0 r.1 left
    split true test g =
        let h = blocked-was old ls r left g in
        let b = h.2 in
        let text : (later : List LinkCycle) → joined (line ∷ ls) ≡ shown_lines 1 (old ++ later) (Blocked h.0) ++ joined left = λ later. blocked-text (old ++ later) line ls left h.0 (same-is line blocked_line test) b.spelled in
        subst (λ (q : List LinkCycle × MemberShown). IsListedSo old (line ∷ ls) q.0 q.1 left) h.1 (record { spelled = text; listed = listed-blocked old h.0 b.some; within = b.within; good = λ all. all })
    split false test g =
        let a = bind-ok (in_front (rate_due line) ls) (λ q. cycle_from q.1 >>= λ y. reads (listed_made old q.0 y.0) y.1) (r, left) g in
        let both = in-front-ok (rate_due line) a.0.0 ls a.0.1 a.1 in
        let h = rate-sound line a.0.0 both.0 in
        let b = bind-ok (cycle_from a.0.1) (λ y. reads (listed_made old a.0.0 y.0) y.1) (r, left) a.2 in
        let y = cycle-was a.0.1 b.0.0 b.0.1 b.1 in
        let c : LinkCycle = b.0.0 in
        let mid : joined ls ≡ cycle_lines c ++ joined b.0.1 = ap (λ (l : List (List ℕ)). joined l) both.1 ∙ y.spelled in
        let is = reads-is (listed_made old a.0.0 c, b.0.1) (r, left) b.2 in
        subst (λ (q : (List LinkCycle × MemberShown) × List (List ℕ)). IsListedSo old (line ∷ ls) q.0.0 q.0.1 q.1) is (record {
          spelled = λ later. listed-text old (with_cycle old c) c refl later (line ++ joined ls) line (joined ls) (joined b.0.1) a.0.0 (place_of old c) refl h.0 mid refl;
          listed = listed-cycle old (with_cycle old c) c refl a.0.0 y.fits.text;
          within = h.1;
          good = good-with old c y.fits;
        })

-- ---- members

abbrev capacities_made : List (Option ℕ) → MemberShown → MemberLine
capacities_made cs what = record { capacities = record { capacities = cs }; shown = what }

-- the line of the capacities, and what stands behind it
record IsMemberRead {S : Type 0} (shown_from : S → List (List ℕ) → Reads (S × MemberShown)) (known : S) (lines : List (List ℕ)) (next : S) (m : MemberLine) (left : List (List ℕ)) : Type 0 where
  behind : List (List ℕ)
  spelled : joined lines ≡ member_line m.capacities.capacities ++ joined behind
  within : All IsCapacityWithin m.capacities.capacities
  shown : shown_from known behind ≡ Ok ((next, m.shown), left)

abbrev member_made : {S : Type 0} → List (Option ℕ) → S × MemberShown → S × MemberLine
member_made cs r = (r.0, capacities_made cs r.1)

member-was : {S : Type 0} (shown_from : S → List (List ℕ) → Reads (S × MemberShown)) (known : S) (lines : List (List ℕ)) (r : S × MemberLine) (left : List (List ℕ)) → member_from shown_from known lines ≡ Ok (r, left)
    → IsMemberRead shown_from known lines r.0 r.1 left
unfolding member_from
member-was {S} shown_from known lines r left e =
    let a = bind-ok (next_by capacities_due lines) (λ cs. shown_from known cs.1 >>= λ s. reads (member_made cs.0 s.0) s.1) (r, left) e in
    let b = bind-ok (shown_from known a.0.1) (λ s. reads (member_made a.0.0 s.0) s.1) (r, left) a.2 in
    let first = next-was capacities_due member_line (All IsCapacityWithin) capacities-line-sound lines a.0.0 a.0.1 a.1 in
    subst (λ (q : (S × MemberLine) × List (List ℕ)). IsMemberRead shown_from known lines q.0.0 q.0.1 q.1) (reads-is (member_made a.0.0 b.0.0, b.0.1) (r, left) b.2)
    (record { behind = a.0.1; spelled = first.spelled; within = first.fits; shown = b.1 })

abbrev handed : {S : Type 0} → MemberLine → S × List MemberLine → S × List MemberLine
handed m r = (r.0, m ∷ r.1)

-- one after the other, with what is known then
module _ {S : Type 0} (f : S → List (List ℕ) → Reads (S × MemberLine)) where
  abbrev Chain : S → List (List ℕ) → List MemberLine → S → List (List ℕ) → Type 0
  Chain s lines [] t left = (s ≡ t) × (lines ≡ left)
  Chain s lines (m ∷ ms) t left = (u : S) × (more : List (List ℕ)) × (f s lines ≡ Ok ((u, m), more)) × Chain u more ms t left

  handing-was : (n : ℕ) (s : S) (lines : List (List ℕ)) (r : S × List MemberLine) (left : List (List ℕ)) → handing f n s lines ≡ Ok (r, left) → (length r.1 ≡ n) × Chain s lines r.1 r.0 left
  unfolding handing
  handing-was zero s lines r left e =
      let made : S × List MemberLine = (s, []) in
      subst (λ (q : (S × List MemberLine) × List (List ℕ)). (length q.0.1 ≡ 0) × Chain s lines q.0.1 q.0.0 q.1) (reads-is (made, lines) (r, left) e) (refl, (refl, refl))
  handing-was (suc n) s lines r left e =
      let a = bind-ok (f s lines) (λ x. handing f n x.0.0 x.1 >>= λ xs. reads (handed x.0.1 xs.0) xs.1) (r, left) e in
      let b = bind-ok (handing f n a.0.0.0 a.0.1) (λ xs. reads (handed a.0.0.1 xs.0) xs.1) (r, left) a.2 in
      let rest = handing-was n a.0.0.0 a.0.1 b.0.0 b.0.1 b.1 in
      subst (λ (q : (S × List MemberLine) × List (List ℕ)). (length q.0.1 ≡ suc n) × Chain s lines q.0.1 q.0.0 q.1) (reads-is (handed a.0.0.1 b.0.0, b.0.1) (r, left) b.2)
      (ap (λ (k : ℕ). suc k) rest.0, (a.0.0.0, a.0.1, a.1, rest.1))

-- members that name cycles by their numbers
record AreNamed (cycles : List LinkCycle) (all used : ℕ) (lines : List (List ℕ)) (ms : List MemberLine) (next : ℕ) (left : List (List ℕ)) : Type 0 where
  spelled : joined lines ≡ flat_map (member_lines 2 cycles) ms ++ joined left
  named : used_by used ms ≡ Some next
  most : used ≤ all → next ≤ all
  good : AllByRecursion IsGoodMember ms

used-then : (used more next : ℕ) (m : MemberLine) (ms : List MemberLine) → used_with used m.shown ≡ Some more → used_by more ms ≡ Some next → used_by used (m ∷ ms) ≡ Some next
unfolding used_by
used-then used more next m ms first rest = rw (first, used_by) rest

member-text : (version : ℕ) (cycles : List LinkCycle) (m : MemberLine) (ms : List MemberLine) (lines behind more left : List (List ℕ)) → joined lines ≡ member_line m.capacities.capacities ++ joined behind
    → joined behind ≡ shown_lines version cycles m.shown ++ joined more → joined more ≡ flat_map (member_lines version cycles) ms ++ joined left → joined lines ≡ flat_map (member_lines version cycles) (m ∷ ms) ++ joined left
unfolding member_lines
member-text version cycles m ms lines behind more left first second third =
    let line : List ℕ = member_line m.capacities.capacities in
    let shown : List ℕ = shown_lines version cycles m.shown in
    let rest : List ℕ = flat_map (member_lines version cycles) ms in
    first ∙ (ap (λ (l : List ℕ). line ++ l) (second ∙ ap (λ (l : List ℕ). shown ++ l) third) ∙ (sym (append_assoc line shown (rest ++ joined left)) ∙ sym (append_assoc (line ++ shown) rest (joined left))))

named-chain : (cycles : List LinkCycle) (all : ℕ) → IsLong all → (ms : List MemberLine) (used : ℕ) (lines : List (List ℕ)) (next : ℕ) (left : List (List ℕ)) → Chain (member_from (numbered_from all)) used lines ms next left
    → AreNamed cycles all used lines ms next left
unfolding used_by
named-chain cycles all many [] used lines next left h = record { spelled = ap (λ (l : List (List ℕ)). joined l) h.1; named = ap Some h.0; most = λ le. let is = h.0 in omega (arith, is, le); good = tt }
named-chain cycles all many (m ∷ ms) used lines next left h =
    let a = member-was (numbered_from all) used lines (h.0, m) h.1 h.2 in
    let s = numbered-was cycles all used many a.behind (h.0, m.shown) h.1 a.shown in
    let rest = named-chain cycles all many ms h.0 h.1 next left h.3 in
    record {
      spelled = member-text 2 cycles m ms lines a.behind h.1 left a.spelled s.spelled rest.spelled;
      named = used-then used h.0 next m ms s.named rest.named;
      most = λ le. rest.most (s.most le);
      good = (record { within = record { capacities = a.within; shown = s.within }; shown = s.shown }, rest.good);
    }

-- members that list their cycles
record AreListedSo (old : List LinkCycle) (lines : List (List ℕ)) (ms : List MemberLine) (new : List LinkCycle) (left : List (List ℕ)) : Type 0 where
  more : List LinkCycle
  grown : new ≡ old ++ more
  spelled : (later : List LinkCycle) → joined lines ≡ flat_map (member_lines 1 (new ++ later)) ms ++ joined left
  used : used_by (length old) ms ≡ Some (length new)
  differ : Differ old → Differ new
  good : All IsGoodCycle old → All IsGoodCycle new
  members : AllByRecursion IsGoodMember ms

listed-chain : (ms : List MemberLine) (old : List LinkCycle) (lines : List (List ℕ)) (new : List LinkCycle) (left : List (List ℕ)) → Chain (member_from listed_from) old lines ms new left → AreListedSo old lines ms new left
unfolding used_by
listed-chain [] old lines new left h = record {
  more = [];
  grown = sym h.0 ∙ sym (append-nil old);
  spelled = λ later. ap (λ (l : List (List ℕ)). joined l) h.1;
  used = ap (λ (l : List LinkCycle). Some (length l)) h.0;
  differ = λ d. subst Differ h.0 d;
  good = λ g. subst (All IsGoodCycle) h.0 g;
  members = tt;
}
listed-chain (m ∷ ms) old lines new left h =
    let mid : List LinkCycle = h.0 in
    let a = member-was listed_from old lines (mid, m) h.1 h.2 in
    let s = listed-was old a.behind (mid, m.shown) h.1 a.shown in
    let l = s.listed in
    let rest = listed-chain ms mid h.1 new left h.3 in
    let text : (later : List LinkCycle) → joined a.behind ≡ shown_lines 1 (new ++ later) m.shown ++ joined h.1 = λ later.
    subst (λ (cs : List LinkCycle). joined a.behind ≡ shown_lines 1 cs m.shown ++ joined h.1) (sym (append_assoc mid rest.more later) ∙ ap (λ (cs : List LinkCycle). cs ++ later) (sym rest.grown)) (s.spelled (rest.more ++ later)) in
    record {
      more = l.more ++ rest.more;
      grown = rest.grown ∙ (ap (λ (cs : List LinkCycle). cs ++ rest.more) l.grown ∙ append_assoc old l.more rest.more);
      spelled = λ later. member-text 1 (new ++ later) m ms lines a.behind h.1 left a.spelled (text later) (rest.spelled later);
      used = used-then (length old) (length mid) (length new) m ms l.used rest.used;
      differ = λ d. rest.differ (l.differ d);
      good = λ g. rest.good (s.good g);
      members = (record { within = record { capacities = a.within; shown = s.within }; shown = l.shown }, rest.members);
    }

used-one : (used more : ℕ) (what : MemberShown) → used_with used what ≡ Some more → more ≤ used + 1
used-one used more (Cycle rate cycle) e = split (nat_lt cycle used) (cycle == used) e
  where
    split : (less same : Bool) → (if less then Some used else if same then Some (suc used) else None) ≡ Some more → more ≤ used + 1
    split true same h = let is = same_Some used more h in omega (arith, is)
    split false true h = let is = same_Some (suc used) more h in omega (arith, is)
    split false false h = absurd cc
used-one used more (Blocked counts) e = let is = same_Some used more e in omega (arith, is)

-- each member names one more cycle at most
pub used-most : (ms : List MemberLine) (used next : ℕ) → used_by used ms ≡ Some next → next ≤ used + length ms
unfolding used_by
used-most [] used next e = let is = same_Some used next e in omega (arith, is)
used-most (m ∷ ms) used next e = split (used_with used m.shown) refl e (λ more h. used-most ms more next h)
  where
    split : (o : Option ℕ) → used_with used m.shown ≡ o → elim o [ Some more ↦ used_by more ms | None ↦ None ] ≡ Some next → ((more : ℕ) → used_by more ms ≡ Some next → next ≤ more + length ms) → next ≤ used + length (m ∷ ms)
    split (Some more) with g others = let rest = others more g in let one = used-one used more m.shown with in omega (arith, rest, one)
    split None with g others = absurd cc

-- ---- the members, and the cycles with them

members-was : {S : Type 0} (shown_from : S → List (List ℕ) → Reads (S × MemberShown)) (known : S) (lines : List (List ℕ)) (r : S × List MemberLine) (left : List (List ℕ)) → members_from shown_from known lines ≡ Ok (r, left)
    → (behind : List (List ℕ)) × (joined lines ≡ members_line (length r.1) ++ joined behind) × IsLong (length r.1) × Chain (member_from shown_from) known behind r.1 r.0 left
unfolding members_from members_line
members-was shown_from known lines r left e =
    let a = bind-ok (next_by (worded_due (codes "members ")) lines) (λ count. handing (member_from shown_from) count.0 known count.1) (r, left) e in
    let first = worded-was (codes "members ") lines a.0.0 a.0.1 a.1 in
    let h = handing-was (member_from shown_from) a.0.0 known a.0.1 r left a.2 in
    let many : a.0.0 ≡ length r.1 = sym h.0 in
    let low = first.fits in
    (a.0.1, first.spelled ∙ ap (λ (n : ℕ). (codes "members " ++ (decimal n ++ 10 ∷ [])) ++ joined a.0.1) many, omega (arith, many, low), h.1)

-- what is read of a trade-off's cycles and members
pub record IsExploredSo (version : ℕ) (lines : List (List ℕ)) (cycles : List LinkCycle) (members : List MemberLine) (left : List (List ℕ)) : Type 0 where
  pub spelled : joined lines ≡ cycle_list version cycles ++ (member_list version cycles members ++ joined left)
  pub good : AreGood cycles members

listing-was : (lines : List (List ℕ)) (r : List LinkCycle × List MemberLine) (left : List (List ℕ)) → members_from listed_from [] lines ≡ Ok (r, left) → IsExploredSo 1 lines r.0 r.1 left
unfolding cycle_list member_list
listing-was lines r left e =
    let h = members-was listed_from [] lines r left e in
    let c = listed-chain r.1 [] h.0 r.0 left h.3 in
    let text : joined h.0 ≡ flat_map (member_lines 1 r.0) r.1 ++ joined left = rw append-nil at (c.spelled []) in
    let long = h.2 in
    let most : length r.0 ≤ length r.1 = let up = used-most r.1 0 (length r.0) c.used in omega (arith, up) in
    record {
      spelled = h.1 ∙ (ap (λ (l : List ℕ). members_line (length r.1) ++ l) text ∙ sym (append_assoc (members_line (length r.1)) (flat_map (member_lines 1 r.0) r.1) (joined left)));
      good = record {
        cycle_count = omega (arith, most, long);
        each_cycle = c.good (All-nil IsGoodCycle);
        member_count = long;
        each_member = All-from_recursion IsGoodMember r.1 c.members;
        differ = c.differ no-cycles;
        used = c.used;
      };
    }

abbrev pair_made : List LinkCycle → List MemberLine → List LinkCycle × List MemberLine
pair_made cycles members = (cycles, members)

-- members that name each cycle
record AreNaming (cycles : List LinkCycle) (all : ℕ) (lines : List (List ℕ)) (ms : List MemberLine) (left : List (List ℕ)) : Type 0 where
  spelled : joined lines ≡ member_list 2 cycles ms ++ joined left
  many : IsLong (length ms)
  used : used_by 0 ms ≡ Some all
  good : All IsGoodMember ms

abbrev naming_then : ℕ → (ℕ × List MemberLine) × List (List ℕ) → Reads (List MemberLine)
naming_then all members = if nat_lt members.0.0 all then next_by (λ line. Err Form) members.1 else Ok (members.0.1, members.1)

abbrev beside : List MemberLine → List (List ℕ) → List MemberLine × List (List ℕ)
beside ms left = (ms, left)

naming-last : (all next : ℕ) (ms : List MemberLine) (more : List (List ℕ)) (ns : List MemberLine) (left : List (List ℕ)) → naming_then all ((next, ms), more) ≡ Ok (ns, left) → (all ≤ next) × (beside ms more ≡ beside ns left)
naming-last all next ms more ns left e = split (nat_lt next all) refl e
  where
    split : (b : Bool) → nat_lt next all ≡ b → (if b then next_by (λ line. Err Form) more else reads ms more) ≡ Ok (ns, left) → (all ≤ next) × (beside ms more ≡ beside ns left)
    split false test g = (ltb-false next all test, reads-is (ms, more) (ns, left) g)
    split true test g = none more g
      where
        none : (lines : List (List ℕ)) → next_by (λ line. Err Form) lines ≡ reads ns left → (all ≤ next) × (beside ms more ≡ beside ns left)
        none [] h = absurd cc
        none (l ∷ ls) h = absurd cc

naming-was : (cycles : List LinkCycle) (all : ℕ) → IsLong all → (lines : List (List ℕ)) (ms : List MemberLine) (left : List (List ℕ)) → naming_from all lines ≡ Ok (ms, left) → AreNaming cycles all lines ms left
unfolding naming_from member_list
naming-was cycles all many lines ms left e =
    let a = bind-ok (members_from (numbered_from all) 0 lines) (naming_then all) (ms, left) e in
    let h = members-was (numbered_from all) 0 lines a.0.0 a.0.1 a.1 in
    let c = named-chain cycles all many a.0.0.1 0 h.0 a.0.0.0 a.0.1 h.3 in
    let last = naming-last all a.0.0.0 a.0.0.1 a.0.1 ms left a.2 in
    let top = c.most (omega arith) in
    let low = last.0 in
    let whole : a.0.0.0 ≡ all = omega (arith, top, low) in
    let body : List ℕ = flat_map (member_lines 2 cycles) a.0.0.1 in
    subst (λ (q : List MemberLine × List (List ℕ)). AreNaming cycles all lines q.0 q.1) last.1
    (record {
      spelled = h.1 ∙ (ap (λ (l : List ℕ). members_line (length a.0.0.1) ++ l) c.spelled ∙ sym (append_assoc (members_line (length a.0.0.1)) body (joined a.0.1)));
      many = h.2;
      used = c.named ∙ ap Some whole;
      good = All-from_recursion IsGoodMember a.0.0.1 c.good;
    })

named-was : (lines : List (List ℕ)) (r : List LinkCycle × List MemberLine) (left : List (List ℕ)) → named_from lines ≡ Ok (r, left) → IsExploredSo 2 lines r.0 r.1 left
unfolding named_from cycle_list
named-was lines r left e =
    let a = bind-ok (cycles_from lines) (λ cs. naming_from (length cs.0) cs.1 >>= λ ms. reads (pair_made cs.0 ms.0) ms.1) (r, left) e in
    let b = bind-ok (naming_from (length a.0.0) a.0.1) (λ ms. reads (pair_made a.0.0 ms.0) ms.1) (r, left) a.2 in
    let first = cycles-was lines a.0.0 a.0.1 a.1 in
    let rest = naming-was a.0.0 (length a.0.0) first.many a.0.1 b.0.0 b.0.1 b.1 in
    let line : List ℕ = cycles_line (length a.0.0) in
    let body : List ℕ = flat_map cycle_lines a.0.0 in
    subst (λ (q : (List LinkCycle × List MemberLine) × List (List ℕ)). IsExploredSo 2 lines q.0.0 q.0.1 q.1) (reads-is (pair_made a.0.0 b.0.0, b.0.1) (r, left) b.2)
    (record {
      spelled = first.spelled ∙ (ap (λ (l : List ℕ). line ++ (body ++ l)) rest.spelled ∙ sym (append_assoc line body (member_list 2 a.0.0 b.0.0 ++ joined b.0.1)));
      good = record { cycle_count = first.many; each_cycle = first.good; member_count = rest.many; each_member = rest.good; differ = first.differ; used = rest.used };
    })

pub explored-was : (version : ℕ) → (version ≡ 1) ⊎ (version ≡ 2) → (lines : List (List ℕ)) (r : List LinkCycle × List MemberLine) (left : List (List ℕ)) → explored_from version lines ≡ Ok (r, left) → IsExploredSo version lines r.0 r.1 left
unfolding explored_from
explored-was version (inl is) lines r left e = rw is (listing-was lines r left (rw is at e))
explored-was version (inr is) lines r left e = rw is (named-was lines r left (rw is at e))

-- ---- a trade-off

abbrev storage_made : Bool → ℕ → List LinkCycle × List MemberLine → List PointLine → StorageCertificate
storage_made o l r p = record { no_overlap = o; limit = l; cycles = r.0; members = r.1; points = p }

abbrev pub storage_text : ℕ → StorageCertificate → List ℕ
storage_text version c = overlap_line c.no_overlap ++ (limit_line c.limit ++ storage_lists version c.cycles c.members c.points)

pub storage-was : (version : ℕ) → (version ≡ 1) ⊎ (version ≡ 2) → (lines : List (List ℕ)) (c : StorageCertificate) (left : List (List ℕ)) → storage_from version lines ≡ Ok (c, left)
    → (joined lines ≡ storage_text version c) × IsStorageWithin c × IsStorageSpellable c × IsStorageOrderly c
unfolding storage_from storage_lists limit_line
storage-was version is lines c left e =
    let o = bind-ok (next_by overlap_due lines) (λ o. next_by (worded_due (codes "limit ")) o.1 >>= λ l. explored_from version l.1 >>= λ x. points_from x.1 >>= λ p. finish (storage_made o.0 l.0 x.0 p.0) p.1) (c, left) e in
    let l = bind-ok (next_by (worded_due (codes "limit ")) o.0.1) (λ l. explored_from version l.1 >>= λ x. points_from x.1 >>= λ p. finish (storage_made o.0.0 l.0 x.0 p.0) p.1) (c, left) o.2 in
    let x = bind-ok (explored_from version l.0.1) (λ x. points_from x.1 >>= λ p. finish (storage_made o.0.0 l.0.0 x.0 p.0) p.1) (c, left) l.2 in
    let p = bind-ok (points_from x.0.1) (λ p. finish (storage_made o.0.0 l.0.0 x.0.0 p.0) p.1) (c, left) x.2 in
    let made : StorageCertificate = storage_made o.0.0 l.0.0 x.0.0 p.0.0 in
    let end = finish-was made c p.0.1 left p.2 in
    let first = overlap-was lines o.0.0 o.0.1 o.1 in
    let second = worded-was (codes "limit ") o.0.1 l.0.0 l.0.1 l.1 in
    let third = explored-was version is l.0.1 x.0.0 x.0.1 x.1 in
    let fourth = points-was x.0.1 p.0.0 p.0.1 p.1 in
    let good = third.good in
    let points = fourth.fits in
    let line : List ℕ = codes "limit " ++ (decimal l.0.0 ++ 10 ∷ []) in
    let list : List ℕ = cycle_list version x.0.0.0 in
    let members : List ℕ = member_list version x.0.0.0 x.0.0.1 in
    let whole : joined lines ≡ overlap_line o.0.0 ++ (line ++ (list ++ (members ++ (point_list p.0.0 ++ end_line)))) = first.spelled ∙ ap (λ (t : List ℕ). overlap_line o.0.0 ++ t) (second.spelled ∙ ap (λ (t : List ℕ). line ++ t)
    (third.spelled ∙ ap (λ (t : List ℕ). list ++ (members ++ t)) (fourth.spelled ∙ ap (λ (t : List ℕ). point_list p.0.0 ++ t) end.1))) in
    subst (λ (q : StorageCertificate). (joined lines ≡ storage_text version q) × IsStorageWithin q × IsStorageSpellable q × IsStorageOrderly q) end.0 (
      whole,
      record {
        limit = second.fits;
        cycle_count = good.cycle_count;
        cycles = λ k d less. (good.each_cycle k d less).within;
        member_count = good.member_count;
        members = λ k d less. (good.each_member k d less).within;
        point_count = points.0;
        points = λ k d less. (points.1 k d less).within;
      },
      record { cycles = λ k d less. (good.each_cycle k d less).text; members = λ k d less. (good.each_member k d less).shown; points = λ k d less. (points.1 k d less).starts },
      record { differ = good.differ; used = good.used },
    )
