-- What is found while reading.
use Rattle.std.specs.Prelude.{◌≡◌, ◌⊎◌, ℕ, List, [], ◌∷◌, ◌++◌, All, length, Bool, false, not, if◌then◌else◌, Option, Some, None, Result, Ok, Err}
use denote.Ref.{Bor}
use Rattle.std.specs.BTreeMap.{BTreeMap, get}
use Rattle.std.specs.Cmp.Lexicographic.{slice_cmp}
use Rattle.std.specs.Ordering.{nat_cmp}
use Rattle.std.specs.List.{flat_map, list_any, position_or_len}
use Rattle.cert_text.specs.declared.certificates.LinkCycle.{LinkCycle}
use Rattle.cert_text.specs.declared.reading.fault.Fault.{Fault}
use Rattle.cert_text.specs.declared.reading.fault.Fault.TheVariants.{Memory}
use Rattle.cert_text.specs.declared.reading.found.FoundCycle.{FoundCycle}
use Rattle.cert_text.specs.CycleLines.{cycle_lines}
use Rattle.cert_text.specs.Digits.{IsNumeral}
use Rattle.cert_text.specs.Fields.{number_value}
use Rattle.cert_text.specs.Reads.{Reads, lines_of}
use Rattle.cert_text.specs.Spellable.{AreShown, IsCycleText}
use Rattle.cert_text.specs.LineForms.{same}
use Rattle.cert_text.specs.MemberLines.{member_lines}
use Rattle.cert_text.specs.Orderly.{Differ, used_by, used_with}
use Rattle.cert_text.specs.declared.certificates.MemberShown.{MemberShown}
use Rattle.cert_text.specs.Spelling.{cycle_list, member_list}
use Rattle.cert_text.specs.declared.certificates.MemberLine.{MemberLine}
use Rattle.cert_text.specs.Sections.{same_cycle, place_of, with_cycle}

-- the number of digits, if there are some
abbrev pub values_of : Option (Bor (List ℕ)) → Option ℕ
values_of None = None
values_of (Some digits) = Some (number_value digits.now)

abbrev pub IsNumeralSome : Option (Bor (List ℕ)) → Type 0
IsNumeralSome None = Unit {0}
IsNumeralSome (Some digits) = IsNumeral digits.now

-- the number of the first cycle of this text, if there is one
abbrev pub has_text : List ℕ → LinkCycle → Bool
has_text text cycle = same text (cycle_lines cycle)

abbrev pub number_of : List LinkCycle → List ℕ → Option ℕ
number_of cycles text = if list_any (has_text text) cycles then Some (position_or_len (has_text text) cycles) else None

-- each text has its cycle's number
abbrev pub HasTexts : BTreeMap (Bor (List ℕ)) ℕ → List LinkCycle → Type 0
HasTexts numbers cycles = (text : Bor (List ℕ)) → get (λ (a b : Bor (List ℕ)). slice_cmp nat_cmp a.now b.now) numbers text ≡ number_of cycles text.now

-- a cycle that was read is found among those before it, and its text is passed
abbrev pub FindsCycle : Result FoundCycle Fault → List LinkCycle → List LinkCycle → List ℕ → List ℕ → Reads LinkCycle → Type 0
FindsCycle (Ok found) old new text left read = (c : LinkCycle) × (read ≡ Ok (c, lines_of left)) × (found.number ≡ place_of old c) × (found.is_new ≡ not (list_any (same_cycle c) old)) × (new ≡ with_cycle old c) × (text ≡ cycle_lines c ++ left) × IsCycleText c
FindsCycle (Err e) old new text left read = (e ≡ Memory) ⊎ (read ≡ Err (e, lines_of left))

-- one that wasn't found before
abbrev pub IsNewCycle : List LinkCycle → List LinkCycle → List ℕ → List ℕ → Type 0
IsNewCycle old new text left = (c : LinkCycle) × (text ≡ cycle_lines c ++ left) × IsCycleText c × (list_any (same_cycle c) old ≡ false) × (new ≡ old ++ c ∷ [])

-- the cycles that are known before a member that lists its cycle, and after it
pub record IsListed (old new : List LinkCycle) (what : MemberShown) : Type 0 where
  pub more : List LinkCycle
  pub grown : new ≡ old ++ more
  pub texts : All IsCycleText old → All IsCycleText new
  pub differ : Differ old → Differ new
  pub shown : AreShown what
  pub used : used_with (length old) what ≡ Some (length new)

-- members that list their cycles, and these, each once
pub record AreListed (cycles : List LinkCycle) (members : List MemberLine) (text left : List ℕ) : Type 0 where
  pub spelled : text ≡ flat_map (member_lines 1 cycles) members ++ left
  pub texts : All IsCycleText cycles
  pub differ : Differ cycles
  pub shown : All (λ (m : MemberLine). AreShown m.shown) members
  pub used : used_by 0 members ≡ Some (length cycles)

-- the cycles and the members of a trade-off
pub record IsExplored (version : ℕ) (cycles : List LinkCycle) (members : List MemberLine) (text left : List ℕ) : Type 0 where
  pub spelled : text ≡ cycle_list version cycles ++ (member_list version cycles members ++ left)
  pub texts : All IsCycleText cycles
  pub differ : Differ cycles
  pub shown : All (λ (m : MemberLine). AreShown m.shown) members
  pub used : used_by 0 members ≡ Some (length cycles)
