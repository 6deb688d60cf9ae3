-- A tag or an attribute that stands whole in front leads the machine behind it.
use Rattle.std.proofs.Common.{◌≡◌, ℕ, zero, suc, ◌+◌, ◌<◌, ◌⊎◌, inl, inr, true, false, List, [], ◌∷◌, ◌++◌, length, take, drop, slice_index, Option, Some, refl, sym, ap, ◌∙◌, subst, arith, append_assoc, append-nil}
use Rattle.std.proofs.Math.Seq.{take-add}
use Rattle.std.proofs.lemmas.List.{take_more}
use Rattle.file_text.specs.declared.tree.Attribute.{Attribute}
use Rattle.file_text.specs.declared.tree.Element.{Element}
use Rattle.file_text.specs.declared.due.Due.TheVariants.{Nothing}
use Rattle.file_text.specs.declared.characters.Run.TheVariants as run_of
use Rattle.file_text.specs.declared.scanner.Frame.{Frame}
use Rattle.file_text.specs.Grammar.{Each, is_name_start, IsName}
use Rattle.file_text.specs.inside.Utf8.{due_along}
use Rattle.file_text.specs.inside.AttributeNames.{has_name}
use Rattle.file_text.specs.inside.Machine.{Around, within, Opened, entered, ended, node_of, Shape, at_between, in_name, in_closing, at_gap, in_attribute, at_equals, in_value, at_valued, tag, table, walk, State, run, IsDue}
use Rattle.file_text.specs.inside.Runs.{IsRun}
use Rattle.file_text.specs.inside.Seen.{around_in, stack_on}
use Rattle.file_text.proofs.BytesSpellUtf8.{due_along-append}
use Rattle.file_text.proofs.TidyRuns.{run_both}
use Rattle.file_text.proofs.MachineReadsExactly.{run-append}
use Rattle.file_text.proofs.MachineWalks.{Along, then}
use Rattle.file_text.proofs.OverTags.{ready_name, over_attribute_name, over_equals, over_quote, over_end}
use Rattle.file_text.proofs.OverElements.{HasRoom, begins_between, over_begun, over_matched, tag_ends}
use Rattle.file_text.proofs.PassedRuns.{in-values}
use Rattle.file_text.proofs.ReaderMatchesMachine.{length-stack_on}

-- whole characters along which the machine goes
arrives : (a b : Around) (x y : Shape) (t : List ℕ) → IsDue t Nothing → Along true a x t b y
    → run true (Some (record { due = Nothing; spot = (a, x) })) t ≡ Some (record { due = Nothing; spot = (b, y) })
arrives a b x y t due along =
    let walks : walk true (Some (a, x)) t ≡ Some (b, y) = ap (walk true (Some (a, x))) (sym (append-nil t)) ∙ along [] in
    run_both true (Some Nothing) (Some (a, x)) t ∙ rw (due, walks) refl

-- bytes behind others
pub further : (bytes : List ℕ) (m n : ℕ) (s t u : State) → run true (Some s) (take m bytes) ≡ Some t → run true (Some t) (take n (drop m bytes)) ≡ Some u
    → run true (Some s) (take (m + n) bytes) ≡ Some u
further bytes m n s t u first more =
    ap (run true (Some s)) (take-add m n bytes) ∙ run-append true (Some s) (take m bytes) (take n (drop m bytes)) ∙ ap (λ (o : Option State). run true o (take n (drop m bytes))) first ∙ more

-- ---- which bytes stand in front

one-front : (bytes : List ℕ) (b : ℕ) → 1 < length bytes → slice_index bytes 0 ≡ b → take 1 bytes ≡ b ∷ []
one-front [] b some is = absurd (omega arith)
one-front (c ∷ t) b some is = let same : c ≡ b = is in rw same refl

two-front : (bytes : List ℕ) (b c : ℕ) → 1 < length bytes → slice_index bytes 0 ≡ b → slice_index bytes 1 ≡ c → take 2 bytes ≡ b ∷ (c ∷ [])
two-front [] b c some first second = absurd (omega arith)
two-front (x ∷ []) b c some first second = absurd (omega arith)
two-front (x ∷ (y ∷ t)) b c some first second = let one : x ≡ b = first in let two : y ≡ c = second in rw (one, two) refl

-- a run of bytes between others
between : (bytes front : List ℕ) (k n b : ℕ) → k + n < length bytes → take k bytes ≡ front → slice_index bytes (k + n) ≡ b → take (k + n + 1) bytes ≡ front ++ (take n (drop k bytes) ++ b ∷ [])
between bytes front k n b fits is end =
    take_more bytes (k + n) 0 fits ∙ ap (λ (c : ℕ). take (k + n) bytes ++ c ∷ []) end ∙ ap (λ (t : List ℕ). t ++ b ∷ []) (take-add k n bytes)
    ∙ append_assoc (take k bytes) (take n (drop k bytes)) (b ∷ []) ∙ ap (λ (t : List ℕ). t ++ (take n (drop k bytes) ++ b ∷ [])) is

name-whole : (name : List ℕ) → IsDue name Nothing → IsDue (name ++ 62 ∷ []) Nothing
name-whole name whole = due_along-append (Some Nothing) name (62 ∷ []) ∙ ap (λ (d : Option _). due_along d (62 ∷ [])) whole

name-stands : (t : List ℕ) (n : ℕ) → (n ≡ 0 → ⊥) → IsRun run_of.Name t n → is_name_start (slice_index t 0) ≡ true → IsName (take n t)
name-stands t zero some is starts = absurd (some refl)
name-stands [] (suc n) some is starts = absurd (let few = is.within in omega arith)
name-stands (b ∷ t) (suc n) some is starts = (starts, is.taken.1)

-- ---- tags

pub past-end-tag : (a : Around) (o : Opened) (os : List Opened) (bytes : List ℕ) (n : ℕ) → a ≡ within o os → slice_index bytes 0 ≡ 60 → slice_index bytes 1 ≡ 47
    → IsRun run_of.Name (drop 2 bytes) n → take n (drop 2 bytes) ≡ o.name → n + 2 < length bytes → slice_index bytes (n + 2) ≡ 62
    → run true (Some (record { due = Nothing; spot = (a, at_between) })) (take (n + 3) bytes) ≡ Some (record { due = Nothing; spot = (ended os (node_of o), at_between) })
unfolding table
past-end-tag a o os bytes n there first second is same long end =
    let turned : n + 2 ≡ 2 + n = omega arith in
    let size : n + 3 ≡ 2 + n + 1 = omega arith in
    let name = take n (drop 2 bytes) in
    let spelled : take (n + 3) bytes ≡ 60 ∷ (47 ∷ (name ++ 62 ∷ [])) =
    ap (λ (k : ℕ). take k bytes) size
    ∙ between bytes (60 ∷ (47 ∷ [])) 2 n 62 (omega arith) (two-front bytes 60 47 (omega arith) first second) (ap (slice_index bytes) (sym turned) ∙ end) in
    let along : Along true (within o os) at_between (60 ∷ (47 ∷ (o.name ++ 62 ∷ []))) (ended os (node_of o)) at_between =
    then true (within o os) at_between (60 ∷ 47 ∷ []) (within o os) (in_closing o.name) (o.name ++ 62 ∷ []) (ended os (node_of o)) at_between (λ rest. refl)
    (then true (within o os) (in_closing o.name) o.name (within o os) (in_closing []) (62 ∷ []) (ended os (node_of o)) at_between
    (over_matched true (within o os) o.name (subst (Each _) same is.taken)) (λ rest. refl)) in
    rw (there, spelled, same) (arrives (within o os) (ended os (node_of o)) at_between at_between (60 ∷ (47 ∷ (o.name ++ 62 ∷ [])))
    (name-whole o.name (subst (λ (t : List ℕ). IsDue t Nothing) same is.whole)) along)

pub past-start-tag : (a : Around) (bytes : List ℕ) (n : ℕ) → HasRoom a → slice_index bytes 0 ≡ 60 → is_name_start (slice_index bytes 1) ≡ true → (n ≡ 0 → ⊥)
    → IsRun run_of.Name (drop 1 bytes) n → n + 1 < length bytes → slice_index bytes (n + 1) ≡ 62
    → run true (Some (record { due = Nothing; spot = (a, at_between) })) (take (n + 2) bytes) ≡ Some (record { due = Nothing; spot = (entered a (take n (drop 1 bytes)) [], at_between) })
past-start-tag a [] n room first starts some is long end = absurd (omega arith)
past-start-tag a (b ∷ t) n room first starts some is long end =
    let bytes = b ∷ t in
    let name = take n t in
    let turned : n + 1 ≡ 1 + n = omega arith in
    let size : n + 2 ≡ 1 + n + 1 = omega arith in
    let spelled : take (n + 2) bytes ≡ 60 ∷ (name ++ 62 ∷ []) =
    ap (λ (k : ℕ). take k bytes) size ∙ between bytes (60 ∷ []) 1 n 62 (omega arith) (one-front bytes 60 (omega arith) first) (ap (slice_index bytes) (sym turned) ∙ end) in
    let named : IsName name = name-stands t n some is starts in
    rw spelled
    (arrives a (entered a name []) at_between at_between (60 ∷ (name ++ 62 ∷ [])) (name-whole name is.whole)
    (then true a at_between (60 ∷ name) a (in_name name) (62 ∷ []) (entered a name []) at_between
    (over_begun true a at_between name named (begins_between true a room)) (tag_ends true a (in_name name) name [] (ready_name a name))))

room-in : (os : List Opened) (root : Option Element) → 0 < length os → length os < 32 → HasRoom (around_in os root)
room-in [] root some few = absurd (omega arith)
room-in (o ∷ os) root some few = omega arith

pub has-room : (fs : List Frame) (root : Option Element) → 0 < length fs → length fs < 32 → HasRoom (around_in (stack_on [] fs) root)
has-room fs root some few = let size = length-stack_on [] fs in room-in (stack_on [] fs) root (omega arith) (omega arith)

-- ---- attributes

quote-whole : (q : ℕ) → (q ≡ 34) ⊎ (q ≡ 39) → IsDue (q ∷ []) Nothing
quote-whole q (inl e) = rw e refl
quote-whole q (inr e) = rw e refl

head-whole : (name : List ℕ) (q : ℕ) → IsDue name Nothing → (q ≡ 34) ⊎ (q ≡ 39) → IsDue (name ++ (61 ∷ (q ∷ []))) Nothing
head-whole name q whole quotes = due_along-append (Some Nothing) name (61 ∷ (q ∷ [])) ∙ ap (λ (d : Option _). due_along d (61 ∷ (q ∷ []))) whole ∙ quote-whole q quotes

pub past-attribute : (a : Around) (t : List ℕ) (xs : List Attribute) (bytes : List ℕ) (n v q : ℕ) → is_name_start (slice_index bytes 0) ≡ true → (n ≡ 0 → ⊥)
    → IsRun run_of.Name bytes n → n + 1 < length bytes → slice_index bytes n ≡ 61 → slice_index bytes (n + 1) ≡ q → (q ≡ 34) ⊎ (q ≡ 39)
    → IsRun (run_of.Value q) (drop (n + 2) bytes) v → n + 2 + v < length bytes → slice_index bytes (n + 2 + v) ≡ q → has_name (take n bytes) xs ≡ false
    → run true (Some (record { due = Nothing; spot = (a, at_gap (tag t) xs) })) (take (n + 2 + v + 1) bytes)
    ≡ Some (record { due = Nothing; spot = (a, at_valued (tag t) (xs ++ record { name = take n bytes; value = take v (drop (n + 2) bytes) } ∷ [])) })
past-attribute a t xs bytes n v q starts some is long equals quote quotes filled longer end new =
    let name = take n bytes in
    let value = take v (drop (n + 2) bytes) in
    let before : State = record { due = Nothing; spot = (a, at_gap (tag t) xs) } in
    let head : take (n + 2) bytes ≡ name ++ (61 ∷ (q ∷ [])) =
    ap (λ (k : ℕ). take k bytes) (let e : n + 2 ≡ n + 1 + 1 = omega arith in e) ∙ take_more bytes (n + 1) 0 long
    ∙ ap (λ (u : List ℕ). u ++ slice_index bytes (n + 1) ∷ []) (take_more bytes n 0 (omega arith)) ∙ append_assoc name (slice_index bytes n ∷ []) (slice_index bytes (n + 1) ∷ [])
    ∙ rw (equals, quote) refl in
    let spelled : take (n + 2 + v + 1) bytes ≡ (take (n + 2) bytes ++ value) ++ q ∷ [] =
    take_more bytes (n + 2 + v) 0 longer ∙ ap (λ (c : ℕ). take (n + 2 + v) bytes ++ c ∷ []) end ∙ ap (λ (u : List ℕ). u ++ q ∷ []) (take-add (n + 2) v bytes) in
    let begun : run true (Some before) (take (n + 2) bytes) ≡ Some (record { due = Nothing; spot = (a, in_value (tag t) xs name q []) }) =
    rw head (arrives a a (at_gap (tag t) xs) (in_value (tag t) xs name q []) (name ++ (61 ∷ (q ∷ []))) (head-whole name q is.whole quotes)
    (then true a (at_gap (tag t) xs) name a (in_attribute (tag t) xs name) (61 ∷ (q ∷ [])) a (in_value (tag t) xs name q [])
    (over_attribute_name true a (tag t) xs name (name-stands bytes n some is starts))
    (then true a (in_attribute (tag t) xs name) (61 ∷ []) a (at_equals (tag t) xs name) (q ∷ []) a (in_value (tag t) xs name q [])
    (over_equals true a (tag t) xs name [] new tt) (over_quote true a (tag t) xs name q quotes)))) in
    let closed : run true (Some (record { due = Nothing; spot = (a, in_value (tag t) xs name q value) })) (q ∷ []) ≡ Some (record { due = Nothing; spot = (a, at_valued (tag t) (xs ++ record { name = name; value = value } ∷ [])) }) =
    arrives a a (in_value (tag t) xs name q value) (at_valued (tag t) (xs ++ record { name = name; value = value } ∷ [])) (q ∷ []) (quote-whole q quotes) (over_end true a (tag t) xs name q value quotes tt) in
    let filling = in-values a (tag t) xs name q [] value (drop (n + 2) bytes) v filled refl in
    rw spelled
    (run-append true (Some before) (take (n + 2) bytes ++ value) (q ∷ []) ∙ ap (λ (o : Option State). run true o (q ∷ [])) (run-append true (Some before) (take (n + 2) bytes) value ∙ ap (λ (o : Option State). run true o value) begun ∙ filling) ∙ closed)
