-- Cycles that members list.
use Rattle.std.proofs.Common.{◌≡◌, ℕ, suc, ◌+◌, ◌<◌, Bool, true, false, List, [], ◌∷◌, ◌++◌, All, length, Some, refl, sym, ap, ◌∙◌, subst, append_assoc, arith, length-append}
use Rattle.std.specs.Prelude.{not, ◌||◌, ◌==◌, cond, if◌then◌else◌}
use Rattle.std.specs.List.{flat_map, list_any}
use Rattle.std.proofs.lemmas.Bool.{eqb-true, eqb-false}
use Rattle.std.proofs.lemmas.List.{append-nil}
use Rattle.std.proofs.lemmas.Slice.Eq.{bytes_eq-Decides}
use Rattle.std.proofs.Math.Seq.{get_or-append_seam}
use Rattle.cert_text.specs.declared.certificates.LinkCycle.{LinkCycle}
use Rattle.cert_text.specs.declared.certificates.MemberLine.{MemberLine}
use Rattle.cert_text.specs.declared.certificates.MemberShown.TheVariants.{Cycle, Blocked}
use Rattle.cert_text.specs.CycleLines.{cycle_lines}
use Rattle.cert_text.specs.Found.{AreListed, IsExplored, IsListed}
use Rattle.cert_text.specs.MemberLines.{cycle_at, member_lines, no_cycle, shown_lines}
use Rattle.cert_text.specs.NumberLines.{members_line, rate_line}
use Rattle.cert_text.specs.Orderly.{Differ, used_with}
use Rattle.cert_text.specs.Sections.{place_of, same_cycle, with_cycle}
use Rattle.cert_text.specs.Spellable.{IsCycleText}
use Rattle.cert_text.specs.Spelling.{cycle_list, member_list}
use Rattle.cert_text.proofs.FoundCycles.{differ-more}
use Rattle.cert_text.proofs.PiecesMakeTexts.{all-pushed}
use Rattle.cert_text.proofs.MembersNameInOrder.{used_next}

-- one that is known stands at its place, by its text
abbrev StandsAt : List LinkCycle → LinkCycle → List LinkCycle → ℕ → Type 0
StandsAt old c later place = (place < length old) × (cycle_lines (cycle_at (old ++ later) place) ≡ cycle_lines c)

known-at : (old : List LinkCycle) (c : LinkCycle) (later : List LinkCycle) → list_any (same_cycle c) old ≡ true → StandsAt old c later (place_of old c)
known-at [] c later h = absurd cc
known-at (d ∷ old) c later h = split (same_cycle c d) refl h (λ k. known-at old c later k)
  where
    split : (b : Bool) → same_cycle c d ≡ b → (b || list_any (same_cycle c) old) ≡ true → (list_any (same_cycle c) old ≡ true → StandsAt old c later (place_of old c))
        → StandsAt (d ∷ old) c later (cond (not b) (1 + place_of old c) 0)
    split true s h rest = (omega arith, sym ((bytes_eq-Decides (cycle_lines c) (cycle_lines d)).0 s))
    split false s h rest =
        let at = rest h in
        let next : 1 + place_of old c ≡ suc (place_of old c) = omega arith in
        (omega (arith, at.0), rw next at.1)

-- one that isn't stands after them
pub new-at : (old : List LinkCycle) (c : LinkCycle) → list_any (same_cycle c) old ≡ false → place_of old c ≡ length old
new-at [] c h = refl
new-at (d ∷ old) c h = split (same_cycle c d) refl h (λ k. new-at old c k)
  where
    split : (b : Bool) → same_cycle c d ≡ b → (b || list_any (same_cycle c) old) ≡ false → (list_any (same_cycle c) old ≡ false → place_of old c ≡ length old)
        → cond (not b) (1 + place_of old c) 0 ≡ length (d ∷ old)
    split true s h rest = absurd cc
    split false s h rest = let at = rest h in omega (arith, at)

module _ (old new : List LinkCycle) (c : LinkCycle) (is : new ≡ with_cycle old c) where
  stays : list_any (same_cycle c) old ≡ true → new ≡ old
  stays e = is ∙ rw e refl

  grows : list_any (same_cycle c) old ≡ false → new ≡ old ++ c ∷ []
  grows e = is ∙ rw e refl

  -- so the text of the cycle is that of the one at its place, whatever follows
  pub listed-at : (later : List LinkCycle) → cycle_lines (cycle_at (new ++ later) (place_of old c)) ≡ cycle_lines c
  listed-at later = split (list_any (same_cycle c) old) refl
    where
      split : (b : Bool) → list_any (same_cycle c) old ≡ b → cycle_lines (cycle_at (new ++ later) (place_of old c)) ≡ cycle_lines c
      split true e = rw (stays e) (known-at old c later e).1
      split false e =
          let whole : new ++ later ≡ old ++ c ∷ later = ap (λ (l : List LinkCycle). l ++ later) (grows e) ∙ append_assoc old (c ∷ []) later in
          rw (whole, new-at old c e) (ap cycle_lines (get_or-append_seam old c later no_cycle))

  pub listed-text : (later : List LinkCycle) (text line mid left : List ℕ) (rate : ℕ × ℕ) (number : ℕ) → text ≡ line ++ mid → line ≡ rate_line rate → mid ≡ cycle_lines c ++ left → number ≡ place_of old c
      → text ≡ shown_lines 1 (new ++ later) (Cycle rate number) ++ left
  unfolding shown_lines
  listed-text later text line mid left rate number first second third at =
      let place : cycle_lines (cycle_at (new ++ later) number) ≡ cycle_lines c = ap (λ (n : ℕ). cycle_lines (cycle_at (new ++ later) n)) at ∙ listed-at later in
      first ∙ (ap (λ (l : List ℕ). l ++ mid) second ∙ (ap (λ (l : List ℕ). rate_line rate ++ l) third
      ∙ (sym (append_assoc (rate_line rate) (cycle_lines c) left) ∙ ap (λ (l : List ℕ). (rate_line rate ++ l) ++ left) (sym place))))

  -- and it is one of those that are named, or the next one
  listed-used : (rate : ℕ × ℕ) → used_with (length old) (Cycle rate (place_of old c)) ≡ Some (length new)
  listed-used rate = split (list_any (same_cycle c) old) refl
    where
      split : (b : Bool) → list_any (same_cycle c) old ≡ b → used_with (length old) (Cycle rate (place_of old c)) ≡ Some (length new)
      split true e =
          let below = (known-at old c [] e).0 in
          used_next (length old) (place_of old c) rate (omega (arith, below)) ∙ ap Some (known (place_of old c == length old) refl)
        where
          known : (b : Bool) → (place_of old c == length old) ≡ b → (if b then length old + 1 else length old) ≡ length new
          known true q = let below = (known-at old c [] e).0 in let same = eqb-true (place_of old c) (length old) q in absurd (omega (arith, below, same))
          known false q = ap length (sym (stays e))
      split false e =
          let place = new-at old c e in
          used_next (length old) (place_of old c) rate (omega (arith, place)) ∙ ap Some (fresh (place_of old c == length old) refl)
        where
          fresh : (b : Bool) → (place_of old c == length old) ≡ b → (if b then length old + 1 else length old) ≡ length new
          fresh true q = let size = ap length (grows e) ∙ length-append old (c ∷ []) in omega (arith, size)
          fresh false q = absurd (eqb-false (place_of old c) (length old) q (new-at old c e))

  pub listed-cycle : (rate : ℕ × ℕ) → IsCycleText c → IsListed old new (Cycle rate (place_of old c))
  listed-cycle rate text = split (list_any (same_cycle c) old) refl
    where
      split : (b : Bool) → list_any (same_cycle c) old ≡ b → IsListed old new (Cycle rate (place_of old c))
      split true e = record {
        more = [];
        grown = stays e ∙ sym (append-nil old);
        texts = λ all. subst (λ (l : List LinkCycle). All IsCycleText l) (sym (stays e)) all;
        differ = λ all. subst Differ (sym (stays e)) all;
        shown = tt;
        used = listed-used rate;
      }
      split false e = record {
        more = c ∷ [];
        grown = grows e;
        texts = λ all. all-pushed IsCycleText old new c all text (grows e);
        differ = λ all. differ-more old new c all e (grows e);
        shown = tt;
        used = listed-used rate;
      }

pub listed-blocked : (old : List LinkCycle) (counts : List ℕ) → 0 < length counts → IsListed old old (Blocked counts)
listed-blocked old counts some = record { more = []; grown = sym (append-nil old); texts = λ all. all; differ = λ all. all; shown = some; used = refl }

-- what was read of members before cycles were found is read so with them too
pub text-grown : (whole rest : List ℕ) (old new more later : List LinkCycle) (ms : List MemberLine) → new ≡ old ++ more
    → ((l : List LinkCycle) → whole ≡ flat_map (member_lines 1 (old ++ l)) ms ++ rest) → whole ≡ flat_map (member_lines 1 (new ++ later)) ms ++ rest
text-grown whole rest old new more later ms grown text =
    subst (λ (cs : List LinkCycle). whole ≡ flat_map (member_lines 1 cs) ms ++ rest) (sym (append_assoc old more later) ∙ ap (λ (l : List LinkCycle). l ++ later) (sym grown)) (text (more ++ later))

-- the number of the members, and then they
pub listed-explored : (cycles : List LinkCycle) (members : List MemberLine) (count : ℕ) (text mid left : List ℕ) → text ≡ members_line count ++ mid → length members ≡ count → AreListed cycles members mid left
    → IsExplored 1 cycles members text left
unfolding cycle_list member_list
listed-explored cycles members count text mid left first many listed = record {
  spelled = first ∙ (ap (λ (l : List ℕ). members_line count ++ l) listed.spelled ∙ (sym (append_assoc (members_line count) (flat_map (member_lines 1 cycles) members) left)
      ∙ ap (λ (n : ℕ). (members_line n ++ flat_map (member_lines 1 cycles) members) ++ left) (sym many)));
  texts = listed.texts;
  differ = listed.differ;
  shown = listed.shown;
  used = listed.used;
}
