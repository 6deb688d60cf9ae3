-- The cycles and the members of a trade-off are read from their spellings.
use Rattle.std.proofs.Common.{◌≡◌, ◌⊎◌, ℕ, zero, suc, ◌+◌, ◌<◌, ◌≤◌, Bool, true, false, List, [], ◌∷◌, ◌++◌, Option, Some, None, All, length, take, Ok, refl, sym, ap, ◌∙◌, subst, arith, inl, inr, append_assoc, append-nil, length-append, length-take-le, get_or-take, take_all, decimal}
use Rattle.std.specs.Prelude.{◌==◌, ◌||◌, if◌then◌else◌, codes, nat_lt}
use Rattle.std.specs.List.{flat_map, list_any, AllByRecursion}
use Rattle.std.proofs.lemmas.Bool.{eqb-true, eqb-false, ltb-true, le-ltb}
use Rattle.std.proofs.lemmas.List.{take_more}
use Rattle.std.proofs.lemmas.List.Elements.{recursion_from_All}
use Rattle.std.proofs.lemmas.List.Sums.{position_or_len_is}
use Rattle.std.proofs.lemmas.Slice.Eq.{bytes_eq-Decides}
use Rattle.std.proofs.Math.ListN.{get_or-append}
use Rattle.std.proofs.Math.Seq.{get_or-append_seam}
use Rattle.std.proofs.lemmas.Option.{same_Some}
use Rattle.cert_text.specs.declared.certificates.LinkCycle.{LinkCycle}
use Rattle.cert_text.specs.declared.certificates.MemberLine.{MemberLine}
use Rattle.cert_text.specs.declared.certificates.MemberShown.{MemberShown}
use Rattle.cert_text.specs.declared.certificates.MemberShown.TheVariants.{Cycle, Blocked}
use Rattle.cert_text.specs.declared.certificates.StorageCertificate.{StorageCertificate}
use Rattle.cert_text.specs.CycleLines.{cycle_lines}
use Rattle.cert_text.specs.Limits.{IsLong, IsShownWithin, IsMemberWithin, IsStorageWithin}
use Rattle.cert_text.specs.LineForms.{worded_due, overlap_due, numbers_due, capacities_due, same}
use Rattle.cert_text.specs.MemberLines.{blocked_line, cycle_at, no_cycle, member_line, member_lines, numbered_rate_line, shown_lines}
use Rattle.cert_text.specs.NumberLines.{cycles_line, limit_line, members_line, numbers_line, overlap_line, rate_line}
use Rattle.cert_text.specs.Orderly.{Differ, IsStorageOrderly, used_by, used_with}
use Rattle.cert_text.specs.Reads.{Reads, lines_of, handing}
use Rattle.cert_text.specs.Sections.{cycle_from, same_cycle, place_of, with_cycle, new_cycle_from, new_cycles_from, cycles_from, blocked_from, listed_from, numbered_from, member_from, members_from, naming_from, named_from, explored_from, storage_from}
use Rattle.cert_text.specs.Spellable.{AreShown, IsStorageSpellable}
use Rattle.cert_text.specs.Spelling.{cycle_list, member_list, point_list, end_line, storage_lists}
use Rattle.cert_text.proofs.ReadLines.{next-line, worded-closes, worded-read, overlap-closes, overlap-read, rate-closes, rate-read, numbered-closes, numbered-read, blocked-closes}
use Rattle.cert_text.proofs.ReadEntries.{numbers-read, numbers-close, capacities-read, capacities-close, same-text}
use Rattle.cert_text.proofs.ReadSections.{IsGoodCycle, IsGoodPoint, cycle-back, points-back, end-begins, finish-back}
use Rattle.cert_text.proofs.ListedCycles.{new-at}
use Rattle.cert_text.proofs.MembersNameInOrder.{names, used_next}

-- ---- cycles with one text are one

abbrev reads-one : LinkCycle → List (List ℕ) → Reads LinkCycle
reads-one c left = Ok (c, left)

one-read : (c d : LinkCycle) (left : List (List ℕ)) → reads-one c left ≡ reads-one d left → c ≡ d
one-read c d left e = ap (λ (r : LinkCycle × List (List ℕ)). r.0) (pair_is (c, left) (d, left) e)
  where
    pair_is : (a b : LinkCycle × List (List ℕ)) → reads-one a.0 a.1 ≡ reads-one b.0 b.1 → a ≡ b
    pair_is a b e = cc

cycles-one : (c d : LinkCycle) → IsGoodCycle c → IsGoodCycle d → cycle_lines c ≡ cycle_lines d → c ≡ d
cycles-one c d first second text =
    one-read c d (lines_of []) (sym (cycle-back c [] first) ∙ (ap (λ (l : List ℕ). cycle_from (lines_of (l ++ []))) text ∙ cycle-back d [] second))

same-one : (c d : LinkCycle) → IsGoodCycle c → IsGoodCycle d → same_cycle c d ≡ true → c ≡ d
same-one c d first second test = cycles-one c d first second ((bytes_eq-Decides (cycle_lines c) (cycle_lines d)).0 test)

same-self : (c : LinkCycle) → same_cycle c c ≡ true
same-self c = (bytes_eq-Decides (cycle_lines c) (cycle_lines c)).1 refl

not-same : (c d : LinkCycle) → IsGoodCycle c → IsGoodCycle d → (d ≡ c → ⊥) → same_cycle c d ≡ false
not-same c d first second differ = split (same_cycle c d) refl
  where
    split : (b : Bool) → same_cycle c d ≡ b → same_cycle c d ≡ false
    split true e = absurd (differ (sym (same-one c d first second e)))
    split false e = e

apart : (known : List LinkCycle) (c : LinkCycle) → IsGoodCycle c → All IsGoodCycle known → ((i : ℕ) → i < length known → cycle_at known i ≡ c → ⊥) → list_any (same_cycle c) known ≡ false
apart [] c good all differ = refl
apart (d ∷ known) c good all differ =
    let first = not-same c d good (all 0 no_cycle (omega arith)) (differ 0 (omega arith)) in
    let rest = apart known c good (λ k e less. all (suc k) e (omega (arith, less))) (λ i less. differ (suc i) (omega (arith, less))) in
    rw (first, rest) refl

-- ---- the list of the cycles

new-cycles-back : (cs known : List LinkCycle) (rest : List ℕ) → All IsGoodCycle (known ++ cs) → Differ (known ++ cs) → new_cycles_from (length cs) known (lines_of (flat_map cycle_lines cs ++ rest)) ≡ Ok (known ++ cs, lines_of rest)
unfolding new_cycles_from new_cycle_from
new-cycles-back [] known rest all differ = rw (append-nil known) refl
new-cycles-back (c ∷ cs) known rest all differ =
    let size : length (known ++ c ∷ cs) ≡ length known + length (c ∷ cs) = length-append known (c ∷ cs) in
    let seam : cycle_at (known ++ c ∷ cs) (length known) ≡ c = get_or-append_seam known c cs no_cycle in
    let good : IsGoodCycle c = subst IsGoodCycle seam (all (length known) no_cycle (omega (arith, size))) in
    let before : All IsGoodCycle known = λ k d less. subst IsGoodCycle (get_or-append known (c ∷ cs) d k less) (all k d (omega (arith, less, size))) in
    let fresh = apart known c good before (λ i less e. differ i (length known) less (omega (arith, size)) (get_or-append known (c ∷ cs) no_cycle i less ∙ (e ∙ sym seam))) in
    let whole = append_assoc (cycle_lines c) (flat_map cycle_lines cs) rest in
    let first : cycle_from (lines_of (flat_map cycle_lines (c ∷ cs) ++ rest)) ≡ Ok (c, lines_of (flat_map cycle_lines cs ++ rest)) = ap (λ (l : List ℕ). cycle_from (lines_of l)) whole ∙ cycle-back c (flat_map cycle_lines cs ++ rest) good in
    let assoc : (known ++ c ∷ []) ++ cs ≡ known ++ c ∷ cs = append_assoc known (c ∷ []) cs in
    let others = new-cycles-back cs (known ++ c ∷ []) rest (subst (All IsGoodCycle) (sym assoc) all) (subst Differ (sym assoc) differ) in
    rw (first, fresh, others) (rw assoc refl)

pub cycles-back : (cs : List LinkCycle) (rest : List ℕ) → IsLong (length cs) → All IsGoodCycle cs → Differ cs → cycles_from (lines_of (cycles_line (length cs) ++ (flat_map cycle_lines cs ++ rest))) ≡ Ok (cs, lines_of rest)
unfolding cycles_from cycles_line
cycles-back cs rest many all differ =
    let n : ℕ = length cs in
    let first = next-line (worded_due (codes "cycles ")) (codes "cycles " ++ (decimal n ++ 10 ∷ [])) (flat_map cycle_lines cs ++ rest) n (worded-closes (codes "cycles ") refl n many) (worded-read (codes "cycles ") refl n many) in
    rw (first, new-cycles-back cs [] rest all differ) refl

-- ---- members

pub record IsGoodMember (m : MemberLine) : Type 0 where
  pub within : IsMemberWithin m
  pub shown : AreShown m.shown

-- members that are read with something known, which goes by how many cycles are named
module _ {S : Type 0} (f : S → List (List ℕ) → Reads (S × MemberLine)) (spell : MemberLine → List ℕ) (state : ℕ → S) (n : ℕ)
    (reads : (u v : ℕ) (m : MemberLine) (rest : List ℕ) → used_with u m.shown ≡ Some v → v ≤ n → IsGoodMember m → f (state u) (lines_of (spell m ++ rest)) ≡ Ok ((state v, m), lines_of rest)) where
  pub handing-back : (ms : List MemberLine) (u : ℕ) (rest : List ℕ) → used_by u ms ≡ Some n → AllByRecursion IsGoodMember ms → handing f (length ms) (state u) (lines_of (flat_map spell ms ++ rest)) ≡ Ok ((state n, ms), lines_of rest)
  unfolding handing used_by
  handing-back [] u rest used all = let same : u ≡ n = same_Some u n used in rw same refl
  handing-back (m ∷ ms) u rest used all = split (used_with u m.shown) refl used (λ v e. handing-back ms v rest e all.1)
    where
      split : (o : Option ℕ) → used_with u m.shown ≡ o → elim o [ Some more ↦ used_by more ms | None ↦ None ] ≡ Some n
          → ((v : ℕ) → used_by v ms ≡ Some n → handing f (length ms) (state v) (lines_of (flat_map spell ms ++ rest)) ≡ Ok ((state n, ms), lines_of rest))
          → handing f (length (m ∷ ms)) (state u) (lines_of (flat_map spell (m ∷ ms) ++ rest)) ≡ Ok ((state n, m ∷ ms), lines_of rest)
      split None with e more = absurd cc
      split (Some v) with e more =
          let first : f (state u) (lines_of (flat_map spell (m ∷ ms) ++ rest)) ≡ Ok ((state v, m), lines_of (flat_map spell ms ++ rest)) =
          ap (λ (l : List ℕ). f (state u) (lines_of l)) (append_assoc (spell m) (flat_map spell ms) rest) ∙ reads u v m (flat_map spell ms ++ rest) with (names ms v n e).0 all.0 in
          rw (first, more v e) refl

-- the capacities of a member, and what it shows
member-back : {S : Type 0} (shown_from : S → List (List ℕ) → Reads (S × MemberShown)) (version : ℕ) (cycles : List LinkCycle) (known next : S) (m : MemberLine) (rest : List ℕ) → IsGoodMember m
    → shown_from known (lines_of (shown_lines version cycles m.shown ++ rest)) ≡ Ok ((next, m.shown), lines_of rest) → member_from shown_from known (lines_of (member_lines version cycles m ++ rest)) ≡ Ok ((next, m), lines_of rest)
unfolding member_from member_lines
member-back shown_from version cycles known next m rest good shown =
    let cs : List (Option ℕ) = m.capacities.capacities in
    let line : List ℕ = member_line cs in
    let body : List ℕ = shown_lines version cycles m.shown in
    let whole = append_assoc line body rest in
    let first = next-line capacities_due line (body ++ rest) cs (capacities-close cs good.within.capacities) (capacities-read cs good.within.capacities) in
    rw (whole, first, shown) refl

blocked-back : {S : Type 0} (known : S) (counts : List ℕ) (rest : List ℕ) → 0 < length counts → All IsLong counts → blocked_from known (lines_of (numbers_line counts ++ rest)) ≡ Ok ((known, Blocked counts), lines_of rest)
unfolding blocked_from
blocked-back known counts rest some all =
    let limit : ℕ = 18446744073709551615 in
    let first = next-line (numbers_due 18446744073709551615) (numbers_line counts) rest counts (numbers-close 18446744073709551615 (omega arith) counts some all) (numbers-read 18446744073709551615 (omega arith) counts some all) in
    rw first refl

-- the cycle that a member names
module _ (u v i : ℕ) (rate : ℕ × ℕ) (named : used_with u (Cycle rate i) ≡ Some v) where
  pub named-below : i ≤ u
  named-below = split (nat_lt i u) refl (i == u) refl
    where
      split : (less : Bool) → nat_lt i u ≡ less → (same : Bool) → (i == u) ≡ same → i ≤ u
      split true l same s = let h = ltb-true i u l in omega (arith, h)
      split false l true s = let h = eqb-true i u s in omega (arith, h)
      split false l false s = let h : (let o : Option ℕ = None in o) ≡ Some v = rw (l, s) at named in absurd (cc h)

  pub named-then : (if i == u then u + 1 else u) ≡ v
  named-then = same_Some (if i == u then u + 1 else u) v (sym (used_next u i rate named-below) ∙ named)

  pub named-within : i < v
  named-within = split (i == u) refl named-then
    where
      split : (b : Bool) → (i == u) ≡ b → (if b then u + 1 else u) ≡ v → i < v
      split true s e = let h = eqb-true i u s in omega (arith, h, e)
      split false s e = let h = eqb-false i u s in let le = named-below in grind (arith, h, le, e)

-- ---- members that name cycles by their numbers

numbered-other : (rate : ℕ × ℕ) (i : ℕ) → same (numbered_rate_line rate i) blocked_line ≡ false
unfolding numbered_rate_line blocked_line
numbered-other rate i = refl

numbered-back : (cycles : List LinkCycle) (n : ℕ) → IsLong n → (u v : ℕ) (what : MemberShown) (rest : List ℕ) → used_with u what ≡ Some v → v ≤ n → IsShownWithin what → AreShown what
    → numbered_from n u (lines_of (shown_lines 2 cycles what ++ rest)) ≡ Ok ((v, what), lines_of rest)
unfolding numbered_from shown_lines
numbered-back cycles n many u v (Blocked counts) rest named most within shown =
    let equal = same_Some u v named in
    rw (append_assoc blocked_line (numbers_line counts) rest, blocked-closes (numbers_line counts ++ rest), same-text blocked_line, blocked-back u counts rest shown within, equal) refl
numbered-back cycles n many u v (Cycle rate i) rest named most within shown =
    let below = named-within u v i rate named in
    let small : IsLong i = omega (arith, below, most, many) in
    rw (numbered-closes rate i within small rest, numbered-other rate i, numbered-read u n rate i within small (named-below u v i rate named) (omega (arith, below, most)), named-then u v i rate named) refl

-- ---- members that list their cycles

rate-other : (rate : ℕ × ℕ) → same (rate_line rate) blocked_line ≡ false
unfolding rate_line blocked_line
rate-other rate = refl

any-at : (p : LinkCycle → Bool) (cs : List LinkCycle) (i : ℕ) → i < length cs → p (cycle_at cs i) ≡ true → list_any p cs ≡ true
any-at p [] i less h = absurd (omega (arith, less))
any-at p (c ∷ cs) zero less h = rw h refl
any-at p (c ∷ cs) (suc i) less h = split (p c) (any-at p cs i (omega (arith, less)) h)
  where
    split : (b : Bool) → list_any p cs ≡ true → (b || list_any p cs) ≡ true
    split true h = refl
    split false h = h

module _ (cycles : List LinkCycle) (good : All IsGoodCycle cycles) (differ : Differ cycles) where
  -- those that are listed before
  before-at : (u i : ℕ) → i < u → cycle_at (take u cycles) i ≡ cycle_at cycles i
  before-at u i less = get_or-take u cycles i no_cycle less

  before-good : (u : ℕ) → u ≤ length cycles → All IsGoodCycle (take u cycles)
  before-good u most k d less =
      let size : length (take u cycles) ≡ u = length-take-le u cycles most in
      subst IsGoodCycle (sym (get_or-take u cycles k d (omega (arith, less, size)))) (good k d (omega (arith, less, size, most)))

  new-listed : (u : ℕ) → u < length cycles → (place_of (take u cycles) (cycle_at cycles u) ≡ u) × (with_cycle (take u cycles) (cycle_at cycles u) ≡ take (u + 1) cycles)
  new-listed u less =
      let size : length (take u cycles) ≡ u = length-take-le u cycles (omega (arith, less)) in
      let none = apart (take u cycles) (cycle_at cycles u) (good u no_cycle less) (before-good u (omega (arith, less))) (λ k within e. differ k u (omega (arith, within, size)) less (sym (before-at u k (omega (arith, within, size))) ∙ e)) in
      (new-at (take u cycles) (cycle_at cycles u) none ∙ size, rw none (sym (take_more cycles u no_cycle less)))

  old-listed : (u i : ℕ) → i < u → u ≤ length cycles → (place_of (take u cycles) (cycle_at cycles i) ≡ i) × (with_cycle (take u cycles) (cycle_at cycles i) ≡ take u cycles)
  old-listed u i less most =
      let c : LinkCycle = cycle_at cycles i in
      let size : length (take u cycles) ≡ u = length-take-le u cycles most in
      let there : i < length (take u cycles) = omega (arith, less, size) in
      let yes : same_cycle c (cycle_at (take u cycles) i) ≡ true = rw (before-at u i less) (same-self c) in
      let others : (k : ℕ) → k < i → same_cycle c (cycle_at (take u cycles) k) ≡ false = λ k lower.
      not-same c (cycle_at (take u cycles) k) (good i no_cycle (omega (arith, less, most))) (before-good u most k no_cycle (omega (arith, lower, there)))
      (λ e. differ k i lower (omega (arith, less, most)) (sym (before-at u k (omega (arith, lower, less))) ∙ e)) in
      (position_or_len_is (same_cycle c) (take u cycles) i no_cycle (omega (arith, there)) others (λ h. yes), rw (any-at (same_cycle c) (take u cycles) i there yes) refl)

  listed-place : (u v i : ℕ) (rate : ℕ × ℕ) → used_with u (Cycle rate i) ≡ Some v → v ≤ length cycles
      → (place_of (take u cycles) (cycle_at cycles i) ≡ i) × (with_cycle (take u cycles) (cycle_at cycles i) ≡ take v cycles)
  listed-place u v i rate named most = split (i == u) refl (named-then u v i rate named)
    where
      split : (b : Bool) → (i == u) ≡ b → (if b then u + 1 else u) ≡ v → (place_of (take u cycles) (cycle_at cycles i) ≡ i) × (with_cycle (take u cycles) (cycle_at cycles i) ≡ take v cycles)
      split true s e =
          let is : i ≡ u = eqb-true i u s in
          let h = new-listed u (omega (arith, e, most)) in
          rw (is, ← e) h
      split false s e =
          let below = named-within u v i rate named in
          let h = old-listed u i (omega (arith, below, e)) (omega (arith, e, most)) in
          rw (← e) h

  listed-back : (u v : ℕ) (what : MemberShown) (rest : List ℕ) → used_with u what ≡ Some v → v ≤ length cycles → IsShownWithin what → AreShown what
      → listed_from (take u cycles) (lines_of (shown_lines 1 cycles what ++ rest)) ≡ Ok ((take v cycles, what), lines_of rest)
  unfolding listed_from shown_lines
  listed-back u v (Blocked counts) rest named most within shown =
      let equal = same_Some u v named in
      rw (append_assoc blocked_line (numbers_line counts) rest, blocked-closes (numbers_line counts ++ rest), same-text blocked_line, blocked-back (take u cycles) counts rest shown within, equal) refl
  listed-back u v (Cycle rate i) rest named most within shown =
      let c : LinkCycle = cycle_at cycles i in
      let at = listed-place u v i rate named most in
      let below = named-within u v i rate named in
      rw (append_assoc (rate_line rate) (cycle_lines c) rest, rate-closes rate within (cycle_lines c ++ rest), rate-other rate, rate-read rate within, cycle-back c rest (good i no_cycle (omega (arith, below, most))), at.0, at.1) refl

-- ---- the members, and the cycles with them

module _ {S : Type 0} (shown_from : S → List (List ℕ) → Reads (S × MemberShown)) (version : ℕ) (cycles : List LinkCycle) (state : ℕ → S) (n : ℕ)
    (reads : (u v : ℕ) (what : MemberShown) (rest : List ℕ) → used_with u what ≡ Some v → v ≤ n → IsShownWithin what → AreShown what → shown_from (state u) (lines_of (shown_lines version cycles what ++ rest)) ≡ Ok ((state v, what), lines_of rest)) where
  pub members-back : (ms : List MemberLine) (rest : List ℕ) → IsLong (length ms) → used_by 0 ms ≡ Some n → All IsGoodMember ms → members_from shown_from (state 0) (lines_of (member_list version cycles ms ++ rest)) ≡ Ok ((state n, ms), lines_of rest)
  unfolding members_from member_list members_line
  members-back ms rest many used all =
      let k : ℕ = length ms in
      let line : List ℕ = codes "members " ++ (decimal k ++ 10 ∷ []) in
      let body : List ℕ = flat_map (member_lines version cycles) ms in
      let whole = append_assoc line body rest in
      let first = next-line (worded_due (codes "members ")) line (body ++ rest) k (worded-closes (codes "members ") refl k many) (worded-read (codes "members ") refl k many) in
      let others = handing-back (member_from shown_from) (member_lines version cycles) state n
      (λ u v m left named most good. member-back shown_from version cycles (state u) (state v) m left good (reads u v m.shown left named most good.within.shown good.shown)) ms 0 rest used (recursion_from_All IsGoodMember ms all) in
      ap (λ (l : List ℕ). members_from shown_from (state 0) (lines_of l)) whole ∙ rw (first, others) refl

pub record AreGood (cycles : List LinkCycle) (members : List MemberLine) : Type 0 where
  pub cycle_count : IsLong (length cycles)
  pub each_cycle : All IsGoodCycle cycles
  pub member_count : IsLong (length members)
  pub each_member : All IsGoodMember members
  pub differ : Differ cycles
  pub used : used_by 0 members ≡ Some (length cycles)

listing-back : (cycles : List LinkCycle) (ms : List MemberLine) (rest : List ℕ) → AreGood cycles ms → members_from listed_from [] (lines_of (member_list 1 cycles ms ++ rest)) ≡ Ok ((cycles, ms), lines_of rest)
listing-back cycles ms rest h =
    let all : take (length cycles) cycles ≡ cycles = take_all (length cycles) cycles (omega arith) in
    rw all at (members-back listed_from 1 cycles (λ u. take u cycles) (length cycles) (listed-back cycles h.each_cycle h.differ) ms rest h.member_count h.used h.each_member)

naming-back : (cycles : List LinkCycle) (ms : List MemberLine) (rest : List ℕ) → AreGood cycles ms → naming_from (length cycles) (lines_of (member_list 2 cycles ms ++ rest)) ≡ Ok (ms, lines_of rest)
unfolding naming_from
naming-back cycles ms rest h =
    let n : ℕ = length cycles in
    rw (members-back (numbered_from n) 2 cycles (λ u. u) n (numbered-back cycles n h.cycle_count) ms rest h.member_count h.used h.each_member, le-ltb n n (omega arith)) refl

pub explored-back : (version : ℕ) → (version ≡ 1) ⊎ (version ≡ 2) → (cycles : List LinkCycle) (ms : List MemberLine) (rest : List ℕ) → AreGood cycles ms
    → explored_from version (lines_of (cycle_list version cycles ++ (member_list version cycles ms ++ rest))) ≡ Ok ((cycles, ms), lines_of rest)
unfolding explored_from named_from cycle_list
explored-back version (inl e) cycles ms rest h = rw e (listing-back cycles ms rest h)
explored-back version (inr e) cycles ms rest h =
    let n : ℕ = length cycles in
    let left : List ℕ = member_list 2 cycles ms ++ rest in
    rw (e, append_assoc (cycles_line n) (flat_map cycle_lines cycles) left, cycles-back cycles left h.cycle_count h.each_cycle h.differ, naming-back cycles ms rest h) refl

-- ---- a trade-off

pub storage-back : (version : ℕ) → (version ≡ 1) ⊎ (version ≡ 2) → (c : StorageCertificate) → IsStorageWithin c → IsStorageSpellable c → IsStorageOrderly c
    → storage_from version (lines_of (overlap_line c.no_overlap ++ (limit_line c.limit ++ storage_lists version c.cycles c.members c.points))) ≡ Ok (c, [])
unfolding storage_from storage_lists limit_line
storage-back version is c within spellable orderly =
    let d : List ℕ = point_list c.points ++ end_line in
    let b : List ℕ = cycle_list version c.cycles ++ (member_list version c.cycles c.members ++ d) in
    let limit : List ℕ = codes "limit " ++ (decimal c.limit ++ 10 ∷ []) in
    let good : AreGood c.cycles c.members = record {
      cycle_count = within.cycle_count;
      each_cycle = λ k e less. record { within = within.cycles k e less; text = spellable.cycles k e less };
      member_count = within.member_count;
      each_member = λ k e less. record { within = within.members k e less; shown = spellable.members k e less };
      differ = orderly.differ;
      used = orderly.used;
    } in
    let points : All IsGoodPoint c.points = λ k e less. record { within = within.points k e less; starts = spellable.points k e less } in
    let first = next-line overlap_due (overlap_line c.no_overlap) (limit ++ b) c.no_overlap (overlap-closes c.no_overlap) (overlap-read c.no_overlap) in
    let second = next-line (worded_due (codes "limit ")) limit b c.limit (worded-closes (codes "limit ") refl c.limit within.limit) (worded-read (codes "limit ") refl c.limit within.limit) in
    let third = explored-back version is c.cycles c.members d good in
    let fourth = points-back c.points end_line within.point_count points end-begins in
    rw (first, second, third, fourth) (finish-back c)
