-- The strict machine stops at the end of the name of a declared encoding other than UTF-8, and only there.
use Rattle.std.proofs.Common.{◌≡◌, ◌≢◌, ℕ, zero, suc, add-one, ◌+◌, ◌-◌, ◌<◌, ◌≤◌, ◌⊎◌, inl, inr, refl, sym, ◌∙◌, ap, subst, Bool, true, false, not, ◌&&◌, eqb, List, [], ◌∷◌, ◌++◌, append_assoc, append-nil, length, length-append, take, drop, slice_index, Option, Some, None, codes, bytes_eq, arith}
use Rattle.std.proofs.lemmas.Bool.{cases_Bool, cases_lt, cases_order, eq-eqb, eqb-false, not-true, and_parts}
use Rattle.std.proofs.lemmas.List.{take-append-drop, take-take, take_all, take_at, length-take-le, get_or-take, get_or_at, get_or-append_right}
use Rattle.std.proofs.Math.Seq.{drop-cons}
use Rattle.std.specs.Str.{str_to_ascii_lowercase}
use Rattle.sd_base.proofs.ByteTestsDecide.{bytes_same, bytes_other, some-none}
use Rattle.file_text.specs.declared.tree.Attribute.{Attribute}
use Rattle.file_text.specs.declared.class.Class.TheVariants.{Quote}
use Rattle.file_text.specs.declared.mode.Declaring.TheVariants as declaring
use Rattle.file_text.specs.declared.due.Due.{Due}
use Rattle.file_text.specs.declared.due.Due.TheVariants.{Nothing}
use Rattle.file_text.specs.Node.{Node}
use Rattle.file_text.specs.Grammar.{Each, Item, byte, entity, comment, IsQuoted, Entity, less, greater, ampersand, quotation, apostrophe, entity_text, items_text, items_value, IsNew, IsUtf8Name, IsText}
use Rattle.file_text.specs.Fault.{IsPrefix, LeavesAt, IsEncodingAt}
use Rattle.file_text.specs.inside.Exits.{BehindQuote}
use Rattle.file_text.specs.inside.Utf8.{due_after, due_along}
use Rattle.file_text.specs.inside.Machine.{class_of, Around, prolog, Shape, at_start, in_declaring, in_value, declaration, declares_other, Spot, advance, walk, State, both, move, run, start, table}
use Rattle.file_text.proofs.DistinctNamesStay.{new_name, each_right}
use Rattle.file_text.proofs.MachineWalks.{Along, then}
use Rattle.file_text.proofs.OverTags.{Allowed, over_attributes, over_head, over_value}
use Rattle.file_text.proofs.OverTexts.{over_start, ready_declaring}
use Rattle.file_text.proofs.ReadSoFar.{Has}
use Rattle.file_text.proofs.MachineSteps.{IsOther}
use Rattle.file_text.proofs.TidyRuns.{run_parts}
use Rattle.file_text.proofs.MachineReadsExactly.{finished, completes, parts, run-append, dead}
use Rattle.file_text.proofs.LeavingPlaces.{prefix_take, run_more}

-- a name that is new among attributes is none of theirs, so they may all be declared
new_allowed : (xs : List Attribute) → IsNew (codes "encoding") xs → Each (Allowed true) xs
new_allowed [] new = tt
new_allowed (x ∷ xs) new = ((λ e. absurd (new.0 e)), new_allowed xs new.1)

-- the text up to the value's closing quote
abbrev pub front : (bytes : List ℕ) (p : ℕ) → IsEncodingAt bytes p → List ℕ
front bytes p is = is.start ++ (codes "<?xml" ++ (is.middle ++ (is.head ++ items_text is.items)))

abbrev pub closing : (bytes : List ℕ) (p : ℕ) → IsEncodingAt bytes p → ℕ
closing bytes p is = p + length (items_text is.items)

front_first : (bytes : List ℕ) (p : ℕ) (is : IsEncodingAt bytes p) → bytes ≡ front bytes p is ++ (is.quote ∷ is.rest)
front_first bytes p is = is.spelled ∙ sym (simp append_assoc)

length_front : (bytes : List ℕ) (p : ℕ) (is : IsEncodingAt bytes p) → length (front bytes p is) ≡ closing bytes p is
length_front bytes p is =
    let regrouped : front bytes p is ≡ (is.start ++ (codes "<?xml" ++ (is.middle ++ is.head))) ++ items_text is.items = simp append_assoc in
    ap length regrouped ∙ length-append (is.start ++ (codes "<?xml" ++ (is.middle ++ is.head))) (items_text is.items) ∙ ap (λ n. n + length (items_text is.items)) (sym is.place)

take_front : (bytes : List ℕ) (p : ℕ) (is : IsEncodingAt bytes p) → take (closing bytes p is) bytes ≡ front bytes p is
take_front bytes p is =
    ap (λ t. take (closing bytes p is) t) (front_first bytes p is) ∙ take_at (front bytes p is) (is.quote ∷ is.rest) (closing bytes p is) (length_front bytes p is)

at_closing : (t u : List ℕ) (q n : ℕ) → length t ≡ n → slice_index (t ++ (q ∷ u)) n ≡ q
at_closing [] u q n e = rw (← e) refl
at_closing (x ∷ t) u q n e = rw (← e) (at_closing t u q (length t) refl)

quote_at : (bytes : List ℕ) (p : ℕ) (is : IsEncodingAt bytes p) → slice_index bytes (closing bytes p is) ≡ is.quote
quote_at bytes p is =
    ap (λ t. slice_index t (closing bytes p is)) (front_first bytes p is) ∙ at_closing (front bytes p is) is.rest is.quote (closing bytes p is) (length_front bytes p is)

closing_within : (bytes : List ℕ) (p : ℕ) (is : IsEncodingAt bytes p) → closing bytes p is < length bytes
closing_within bytes p is =
    let whole : length bytes ≡ length (front bytes p is) + suc (length is.rest) = ap length (front_first bytes p is) ∙ length-append (front bytes p is) (is.quote ∷ is.rest) in
    let same = length_front bytes p is in
    omega arith

-- the machine goes up to there
over_front : (bytes : List ℕ) (p : ℕ) (is : IsEncodingAt bytes p)
    → Along true prolog at_start (front bytes p is) prolog (in_value declaration is.attributes (codes "encoding") is.quote (items_value is.items))
over_front bytes p is =
    let (x, outer, declares, along_start) = over_start true is.start is.is_start in
    let (y, ready, along_middle) = over_attributes true prolog (in_declaring declaring.Xml) declaration [] is.attributes is.middle (ready_declaring prolog) is.are_distinct
    (new_allowed is.attributes is.is_new) is.are_attributes in
    let v : Shape = in_value declaration is.attributes (codes "encoding") is.quote (items_value is.items) in
    then true prolog at_start is.start prolog x (codes "<?xml" ++ (is.middle ++ (is.head ++ items_text is.items))) prolog v along_start
    (then true prolog x (codes "<?xml") prolog (in_declaring declaring.Xml) (is.middle ++ (is.head ++ items_text is.items)) prolog v declares
    (then true prolog (in_declaring declaring.Xml) is.middle prolog y (is.head ++ items_text is.items) prolog v along_middle
    (then true prolog y is.head prolog (in_value declaration is.attributes (codes "encoding") is.quote []) (items_text is.items) prolog v
    (over_head true prolog y declaration is.attributes (codes "encoding") is.quote is.head ready (new_name (codes "encoding") is.attributes is.is_new) is.is_head)
    (over_value true prolog declaration is.attributes (codes "encoding") is.quote [] is.items is.are_quoted))))

-- and stops there
is_other : (v : List ℕ) → (IsUtf8Name v → ⊥) → declares_other (codes "encoding") v ≡ true
is_other v other = elim (cases_Bool (bytes_eq (str_to_ascii_lowercase v) (codes "utf-8"))) [
  | inl e ↦ absurd (other (bytes_same (str_to_ascii_lowercase v) (codes "utf-8") e))
  | inr e ↦ rw e refl
]

stops_quote : (xs : List Attribute) (n : List ℕ) (q : ℕ) (v : List ℕ) (code : ℕ) → q ≡ code → class_of code ≡ Quote → declares_other n v ≡ true
    → advance true (prolog, in_value declaration xs n q v) q ≡ None
unfolding table
stops_quote xs n q v code e quote other =
    let class : class_of q ≡ Quote = ap class_of e ∙ quote in
    let same : eqb q q ≡ true = eq-eqb q q refl in
    rw class (rw same (rw other refl))

stops_here : (xs : List Attribute) (n : List ℕ) (q : ℕ) (v : List ℕ) → (q ≡ 34) ⊎ (q ≡ 39) → declares_other n v ≡ true → advance true (prolog, in_value declaration xs n q v) q ≡ None
stops_here xs n q v (inl e) other = stops_quote xs n q v 34 e refl other
stops_here xs n q v (inr e) other = stops_quote xs n q v 39 e refl other

-- what begins a text is gone along
not_dead : (t : List ℕ) → IsPrefix t → (o : Option State) → run false (Some start) t ≡ o → (s : State) × (run false (Some start) t ≡ Some s)
not_dead t is None e = absurd (dead t e is)
not_dead t is (Some s) e = (s, e)

pub viable_run : (t : List ℕ) → IsPrefix t → (s : State) × (run false (Some start) t ≡ Some s)
viable_run t is = not_dead t is (run false (Some start) t) refl

-- the strict run up to the closing quote, and over it
record Stopped (bytes : List ℕ) (c : ℕ) : Type 0 where
  state : State
  before : run true (Some start) (take c bytes) ≡ Some state
  over : run true (Some start) (take (c + 1) bytes) ≡ None

pub both-none_spot : (d : Option Due) (o : Option Spot) → o ≡ None → both d o ≡ None
both-none_spot None o e = refl
both-none_spot (Some d) o e = rw e refl

stopped : (bytes : List ℕ) (p : ℕ) (is : IsEncodingAt bytes p) → Stopped bytes (closing bytes p is)
stopped bytes p is =
    let c : ℕ = closing bytes p is in
    let v : List ℕ = items_value is.items in
    let (loose_state, loose_run) = viable_run (take c bytes) (prefix_take c (c + 1) bytes (omega arith) is.viable) in
    let due : due_along (Some Nothing) (take c bytes) ≡ Some loose_state.due = (parts false (take c bytes) loose_state loose_run).0 in
    let along : walk true (Some (prolog, at_start)) (take c bytes) ≡ Some (prolog, in_value declaration is.attributes (codes "encoding") is.quote v) =
    rw (take_front bytes p is) (rw append-nil at (over_front bytes p is [])) in
    let s : State = record { due = loose_state.due; spot = (prolog, in_value declaration is.attributes (codes "encoding") is.quote v) } in
    let before : run true (Some start) (take c bytes) ≡ Some s = run_parts true (take c bytes) ∙ rw (due, along) refl in
    let stops : advance true (prolog, in_value declaration is.attributes (codes "encoding") is.quote v) is.quote ≡ None =
    stops_here is.attributes (codes "encoding") is.quote v is.is_head.is_quote (is_other v is.other) in
    record {
      state = s;
      before = before;
      over = run_more true bytes c s (closing_within bytes p is) before
          ∙ ap (λ b. move true s b) (quote_at bytes p is)
          ∙ both-none_spot (due_after loose_state.due is.quote) (advance true s.spot is.quote) stops;
    }

-- behind a stop there is no run
none_behind : (bytes : List ℕ) (m n : ℕ) → m ≤ n → run true (Some start) (take m bytes) ≡ None → run true (Some start) (take n bytes) ≡ None
none_behind bytes m n le none =
    let split : take m bytes ++ drop m (take n bytes) ≡ take n bytes = ap (λ t. t ++ drop m (take n bytes)) (sym (take-take m n bytes le)) ∙ take-append-drop m (take n bytes) in
    ap (λ t. run true (Some start) t) (sym split) ∙ run-append true (Some start) (take m bytes) (drop m (take n bytes)) ∙ ap (λ o. run true o (drop m (take n bytes))) none

-- a strict run to where the bytes leave the grammar has met no such encoding
pub no_encoding : (bytes : List ℕ) (n : ℕ) (s : State) (p : ℕ) → run true (Some start) (take n bytes) ≡ Some s → LeavesAt bytes n → IsEncodingAt bytes p → ⊥
no_encoding bytes n s p here leaves is = elim (cases_lt (closing bytes p is) n) [
  | inl before ↦ some-none (run true (Some start) (take n bytes)) s here (none_behind bytes (closing bytes p is + 1) n (omega arith) (stopped bytes p is).over)
  | inr behind ↦ leaves.stops (let within = closing_within bytes p is in omega arith) (prefix_take (n + 1) (closing bytes p is + 1) bytes (omega arith) is.viable)
]

-- a text that is spelled declares none
pub spelled_no_encoding : (bytes : List ℕ) (e : Node) (p : ℕ) → IsText e bytes → IsEncodingAt bytes p → ⊥
spelled_no_encoding bytes e p (xs, spells, fits) is =
    let read = completes true xs e bytes spells fits in
    let whole : take (length bytes) bytes ≡ bytes = take_all (length bytes) bytes (omega arith) in
    let none = none_behind bytes (closing bytes p is + 1) (length bytes) (let within = closing_within bytes p is in omega arith) (stopped bytes p is).over in
    some-none (run true (Some start) bytes) (finished e) read (rw whole at none)

-- there is at most one closing quote
one_closing : (bytes : List ℕ) (m n : ℕ) → Stopped bytes m → Stopped bytes n → m ≡ n
one_closing bytes m n p q = elim (cases_order m n) [
  | inl same ↦ same
  | inr (inl lt) ↦ absurd (some-none (run true (Some start) (take n bytes)) q.state q.before (none_behind bytes (m + 1) n (omega arith) p.over))
  | inr (inr gt) ↦ absurd (some-none (run true (Some start) (take m bytes)) p.state p.before (none_behind bytes (n + 1) m (omega arith) q.over))
]

-- no quote stands in a value
abbrev pub Lacks : ℕ → List ℕ → Type 0
Lacks q t = Each (λ b. b ≢ q) t

lacks-append : (q : ℕ) (t u : List ℕ) → Lacks q t → Lacks q u → Lacks q (t ++ u)
lacks-append q [] u h k = k
lacks-append q (x ∷ t) u h k = (h.0, lacks-append q t u h.1 k)

lacks_byte : ℕ → List ℕ → Bool
lacks_byte q [] = true
lacks_byte q (b ∷ t) = not (eqb b q) && lacks_byte q t

lacks_from : (q : ℕ) (t : List ℕ) → lacks_byte q t ≡ true → Lacks q t
unfolding lacks_byte
lacks_from q [] e = tt
lacks_from q (b ∷ t) e =
    let split = and_parts (not (eqb b q)) (lacks_byte q t) e in
    (eqb-false b q (not-true (eqb b q) split.0), lacks_from q t split.1)

entity_lacks_code : (code : ℕ) (e : Entity) → (code ≡ 34) ⊎ (code ≡ 39) → lacks_byte code (entity_text e) ≡ true
unfolding lacks_byte
entity_lacks_code code less (inl is) = rw is refl
entity_lacks_code code greater (inl is) = rw is refl
entity_lacks_code code ampersand (inl is) = rw is refl
entity_lacks_code code quotation (inl is) = rw is refl
entity_lacks_code code apostrophe (inl is) = rw is refl
entity_lacks_code code less (inr is) = rw is refl
entity_lacks_code code greater (inr is) = rw is refl
entity_lacks_code code ampersand (inr is) = rw is refl
entity_lacks_code code quotation (inr is) = rw is refl
entity_lacks_code code apostrophe (inr is) = rw is refl

entity_lacks : (q : ℕ) (e : Entity) → (q ≡ 34) ⊎ (q ≡ 39) → Lacks q (entity_text e)
entity_lacks q e quote = lacks_from q (entity_text e) (entity_lacks_code q e quote)

pub items_lack : (q : ℕ) (items : List Item) → (q ≡ 34) ⊎ (q ≡ 39) → Each (IsQuoted q) items → Lacks q (items_text items)
items_lack q [] quote h = tt
items_lack q (byte b ∷ items) quote h = (h.0.1, items_lack q items quote h.1)
items_lack q (entity e ∷ items) quote h = lacks-append q (entity_text e) (items_text items) (entity_lacks q e quote) (items_lack q items quote h.1)
items_lack q (comment body ∷ items) quote h = absurd h.0

lacks_quote : (q : ℕ) (t u x : List ℕ) → x ≡ t ++ (q ∷ u) → Lacks q x → ⊥
lacks_quote q t u x e h = (each_right (λ b. b ≢ q) t (q ∷ u) (rw e at h)).0 refl

-- the text behind the last quote
pub last_quote : (q : ℕ) (t u x y : List ℕ) → t ++ (q ∷ x) ≡ u ++ (q ∷ y) → Lacks q x → Lacks q y → length t ≡ length u
last_quote q [] [] x y e h k = refl
last_quote q [] (z ∷ u) x y e h k = absurd (lacks_quote q u y x (let rest : x ≡ u ++ (q ∷ y) = cc in rest) h)
last_quote q (z ∷ t) [] x y e h k = absurd (lacks_quote q t x y (let rest : t ++ (q ∷ x) ≡ y = cc in sym rest) k)
last_quote q (z ∷ t) (w ∷ u) x y e h k = let rest : t ++ (q ∷ x) ≡ u ++ (q ∷ y) = cc in omega (arith, last_quote q t u x y rest h k)

lacks_index : (q : ℕ) (t : List ℕ) (k : ℕ) → Lacks q t → k < length t → slice_index t k ≢ q
lacks_index q [] k h lt = absurd (omega arith)
lacks_index q (x ∷ t) zero h lt = h.0
lacks_index q (x ∷ t) (suc k) h lt = lacks_index q t k h.1 (omega arith)

in_front : (bytes t u : List ℕ) (n k : ℕ) → take n bytes ≡ t ++ u → k < n → length t ≤ k → slice_index bytes k ≡ slice_index u (k - length t)
in_front bytes t u n k e lt le = sym (get_or-take n bytes k 0 lt) ∙ ap (λ s. slice_index s k) e ∙ get_or-append_right t u (length t) k 0 refl le

-- is the first one of the value
value_place : (bytes g items : List ℕ) (n q p : ℕ) → n ≤ length bytes → take n bytes ≡ (g ++ q ∷ []) ++ items → Lacks q items → BehindQuote bytes n q p → p ≡ length (g ++ q ∷ [])
value_place bytes g items n q p within e lacks is =
    let whole : n ≡ length (g ++ q ∷ []) + length items = sym (length-take-le n bytes within) ∙ ap length e ∙ length-append (g ++ q ∷ []) items in
    let size : length (g ++ q ∷ []) ≡ length g + 1 = length-append g (q ∷ []) in
    let quote : slice_index bytes (length g) ≡ q =
    sym (get_or-take n bytes (length g) 0 (omega arith)) ∙ ap (λ s. slice_index s (length g)) (e ∙ append_assoc g (q ∷ []) items) ∙ get_or_at g q items 0 (length g) refl in
    elim (cases_order p (length (g ++ q ∷ []))) [
      | inl same ↦ same
      | inr (inl lt) ↦ absurd (is.last (length g) (omega arith) (omega arith) quote)
      | inr (inr gt) ↦ absurd (let p_within = is.within in
          lacks_index q items (p - 1 - length (g ++ q ∷ [])) lacks (omega arith)
          (sym (in_front bytes (g ++ q ∷ []) items n (p - 1) e (omega arith) (omega arith)) ∙ is.behind (omega arith)))
    ]

split_at : (bytes : List ℕ) (n : ℕ) → n < length bytes → bytes ≡ take n bytes ++ (slice_index bytes n ∷ drop (n + 1) bytes)
split_at bytes n lt = sym (take-append-drop n bytes) ∙ ap (λ t. take n bytes ++ t) (rw add-one (drop-cons bytes n 0 lt))

-- what is read where another encoding is found is one that is declared
pub encoding_in : (bytes : List ℕ) (n p : ℕ) (a : Around) (x : Shape) → n < length bytes → IsPrefix (take (n + 1) bytes) → Has true a x (take n bytes) → IsOther x (slice_index bytes n)
    → BehindQuote bytes n (slice_index bytes n) p → IsEncodingAt bytes p
encoding_in bytes n p a (in_value declaration xs name q v) lt viable has (same, other) behind =
    let (is_prolog, (u, is_start, begun)) = has.tagged.is_front in
    let named : name ≡ codes "encoding" = bytes_same name (codes "encoding") (and_parts (bytes_eq name (codes "encoding")) (not (bytes_eq (str_to_ascii_lowercase v) (codes "utf-8"))) other).0 in
    let no_utf8 : bytes_eq (str_to_ascii_lowercase v) (codes "utf-8") ≡ false =
    not-true (bytes_eq (str_to_ascii_lowercase v) (codes "utf-8")) (and_parts (bytes_eq name (codes "encoding")) (not (bytes_eq (str_to_ascii_lowercase v) (codes "utf-8"))) other).1 in
    let head = has.is_head in
    let g : List ℕ = u ++ (codes "<?xml" ++ (has.tagged.middle ++ (head.gap ++ (name ++ (head.before ++ (61 ∷ head.after)))))) in
    let read : take n bytes ≡ (g ++ q ∷ []) ++ items_text has.items = rw (has.spelled, has.tagged.spelled, begun, head.spelled) (simp append_assoc) in
    let place : p ≡ length (g ++ q ∷ []) =
    value_place bytes g (items_text has.items) n q p (omega arith) read (items_lack q has.items head.is_quote has.are_quoted) (rw same at behind) in
    let size : n ≡ length (g ++ q ∷ []) + length (items_text has.items) = sym (length-take-le n bytes (omega arith)) ∙ ap length read ∙ length-append (g ++ q ∷ []) (items_text has.items) in
    record {
      start = u;
      attributes = xs;
      middle = has.tagged.middle;
      quote = q;
      head = has.head;
      items = has.items;
      rest = drop (n + 1) bytes;
      is_start = is_start;
      are_attributes = has.tagged.are_attributes;
      are_distinct = has.tagged.are_distinct;
      is_new = rw (← named) has.is_new;
      is_head = rw (← named) head;
      are_quoted = has.are_quoted;
      other = λ utf8. bytes_other (str_to_ascii_lowercase v) (codes "utf-8") no_utf8 (rw has.value_is utf8);
      spelled = split_at bytes n lt ∙ rw (same, has.spelled, has.tagged.spelled, begun) (simp append_assoc);
      place = place ∙ ap length (rw head.spelled (simp append_assoc));
      viable = subst (λ (m : ℕ). IsPrefix (take m bytes)) (omega arith) viable;
    }
encoding_in bytes n p a x lt viable has other behind = absurd other

-- the text before the opening quote
before_quote : (bytes : List ℕ) (p : ℕ) → IsEncodingAt bytes p → List ℕ
before_quote bytes p is = is.start ++ (codes "<?xml" ++ (is.middle ++ (is.is_head.gap ++ (codes "encoding" ++ (is.is_head.before ++ (61 ∷ is.is_head.after))))))

front_quote : (bytes : List ℕ) (p : ℕ) (is : IsEncodingAt bytes p) → front bytes p is ≡ before_quote bytes p is ++ (is.quote ∷ items_text is.items)
unfolding before_quote
front_quote bytes p is = rw is.is_head.spelled (simp append_assoc)

place_behind : (bytes : List ℕ) (p : ℕ) (is : IsEncodingAt bytes p) → p ≡ length (before_quote bytes p is) + 1
unfolding before_quote
place_behind bytes p is =
    let whole : is.start ++ (codes "<?xml" ++ (is.middle ++ is.head))
    ≡ (is.start ++ (codes "<?xml" ++ (is.middle ++ (is.is_head.gap ++ (codes "encoding" ++ (is.is_head.before ++ (61 ∷ is.is_head.after))))))) ++ is.quote ∷ [] =
    rw is.is_head.spelled (simp append_assoc) in
    is.place ∙ ap length whole
    ∙ length-append (is.start ++ (codes "<?xml" ++ (is.middle ++ (is.is_head.gap ++ (codes "encoding" ++ (is.is_head.before ++ (61 ∷ is.is_head.after))))))) (is.quote ∷ [])

-- such an encoding has one place
pub encoding_same : (bytes : List ℕ) (p q : ℕ) → IsEncodingAt bytes p → IsEncodingAt bytes q → p ≡ q
encoding_same bytes p q a b =
    let closings : closing bytes p a ≡ closing bytes q b = one_closing bytes (closing bytes p a) (closing bytes q b) (stopped bytes p a) (stopped bytes q b) in
    let quotes : a.quote ≡ b.quote = sym (quote_at bytes p a) ∙ ap (λ n. slice_index bytes n) closings ∙ quote_at bytes q b in
    let fronts : front bytes p a ≡ front bytes q b = sym (take_front bytes p a) ∙ ap (λ n. take n bytes) closings ∙ take_front bytes q b in
    let same : before_quote bytes p a ++ (a.quote ∷ items_text a.items) ≡ before_quote bytes q b ++ (a.quote ∷ items_text b.items) =
    sym (front_quote bytes p a) ∙ fronts ∙ front_quote bytes q b ∙ ap (λ x. before_quote bytes q b ++ (x ∷ items_text b.items)) (sym quotes) in
    let lacks : Lacks a.quote (items_text b.items) = rw quotes (items_lack b.quote b.items b.is_head.is_quote b.are_quoted) in
    let lengths = last_quote a.quote (before_quote bytes p a) (before_quote bytes q b) (items_text a.items) (items_text b.items) same (items_lack a.quote a.items a.is_head.is_quote a.are_quoted) lacks in
    place_behind bytes p a ∙ ap (λ n. n + 1) lengths ∙ sym (place_behind bytes q b)
