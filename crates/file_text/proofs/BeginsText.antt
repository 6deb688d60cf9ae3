-- What the machine has read begins some text of the grammar.
use Rattle.std.proofs.Common.{◌≡◌, ℕ, zero, suc, ◌≤◌, refl, sym, ◌∙◌, ap, subst, false, List, [], ◌∷◌, ◌++◌, append_assoc, append-nil, Some, IsTrue, codes, arith}
use Rattle.file_text.specs.declared.tree.Attribute.{Attribute}
use Rattle.file_text.specs.declared.class.Class.TheVariants.{Wide}
use Rattle.file_text.specs.declared.mode.Mark.{Mark}
use Rattle.file_text.specs.declared.mode.Mark.TheVariants as mark_read
use Rattle.file_text.specs.declared.mode.Declaring.{Declaring}
use Rattle.file_text.specs.declared.mode.Declaring.TheVariants as declaring
use Rattle.file_text.specs.declared.mode.Comment.{Comment}
use Rattle.file_text.specs.declared.mode.Comment.TheVariants as part
use Rattle.file_text.specs.declared.reference.Reference.{Reference}
use Rattle.file_text.specs.declared.reference.Reference.TheVariants as reference
use Rattle.file_text.specs.declared.due.Due.{Due}
use Rattle.file_text.specs.declared.due.Due.TheVariants.{Nothing, Byte}
use Rattle.file_text.specs.Node.{node, no_node}
use Rattle.file_text.specs.Grammar.{Each, is_name_byte, IsName}
use Rattle.file_text.specs.inside.Utf8.{due_behind, due_along}
use Rattle.file_text.specs.inside.Machine.{Around, prolog, within, epilog, Opened, open_of, ended, node_of, Holder, declaration, tag, Shape, at_start, in_mark, at_first, in_declaring, at_between, at_markup, in_comment, in_name, at_gap, in_attribute, at_named, at_equals, in_value, in_value_reference, at_valued, at_slash, at_ending, in_text_reference, in_closing, table, follow, walk, IsTidyBetween, IsTidyComment, IsTidyShape, IsProper, IsTidy}
use Rattle.file_text.proofs.BytesSpellUtf8.{byte_due}
use Rattle.file_text.proofs.MachineWalks.{Along}
use Rattle.file_text.proofs.DistinctNamesStay.{each_right}
use Rattle.file_text.proofs.OverElements.{name_bytes, over_matched}
use Rattle.file_text.proofs.ReadSoFar.{IsOpen, Reached, IsHolder, Tagged, IsClosing, Has}
use Rattle.file_text.proofs.TextsEnd.{Finishes, by_way, Env, finish_between, finish_ended, finish_name, finish_gap, finish_valued, finish_value, finish_equals, finish_named, finish_attribute}
use Rattle.file_text.proofs.WholeCharacters.{wide-class}

-- the rest of a character
continued : ℕ → List ℕ
continued zero = []
continued (suc more) = 0x80 ∷ continued more

fill : Due → List ℕ
fill Nothing = []
fill (Byte low high more) = low ∷ continued more

continued_due : (more : ℕ) → due_along (Some (due_behind more)) (continued more) ≡ Some Nothing
unfolding continued
continued_due zero = refl
continued_due (suc more) = ap (λ d. due_along d (continued more)) (byte_due 0x80 0xBF more 0x80 (omega arith) (omega arith)) ∙ continued_due more

fill_due : (d : Due) → IsProper d → due_along (Some d) (fill d) ≡ Some Nothing
unfolding fill
fill_due Nothing proper = refl
fill_due (Byte low high more) proper =
    ap (λ d. due_along d (continued more)) (byte_due low high more low (omega arith) proper.1) ∙ continued_due more

abbrev AreWide : List ℕ → Type 0
AreWide t = Each (λ b. 128 ≤ b) t

continued_wide : (more : ℕ) → AreWide (continued more)
unfolding continued
continued_wide zero = tt
continued_wide (suc more) = (omega arith, continued_wide more)

fill_wide : (d : Due) → IsProper d → AreWide (fill d)
unfolding fill
fill_wide Nothing proper = tt
fill_wide (Byte low high more) proper = (proper.0, continued_wide more)

-- bytes of characters from U+0080 up, in a shape that collects them, and in one that they leave as it is
over_growing : (a : Around) (f : List ℕ → Shape) → ((n : List ℕ) (b : ℕ) → follow false (table a (f n) Wide b) ≡ Some (a, f (n ++ b ∷ [])))
    → (n t : List ℕ) → AreWide t → Along false a (f n) t a (f (n ++ t))
over_growing a f grows n [] h rest = rw append-nil refl
over_growing a f grows n (b ∷ t) h rest =
    ap (λ c. walk false (follow false (table a (f n) c b)) (t ++ rest)) (wide-class b h.0)
    ∙ ap (λ o. walk false o (t ++ rest)) (grows n b)
    ∙ over_growing a f grows (n ++ b ∷ []) t h.1 rest
    ∙ ap (λ m. walk false (Some (a, f m)) rest) (append_assoc n (b ∷ []) t)

over_same : (a : Around) (x : Shape) → ((b : ℕ) → follow false (table a x Wide b) ≡ Some (a, x)) → (t : List ℕ) → AreWide t → Along false a x t a x
over_same a x keeps [] h rest = refl
over_same a x keeps (b ∷ t) h rest =
    ap (λ c. walk false (follow false (table a x c b)) (t ++ rest)) (wide-class b h.0) ∙ ap (λ o. walk false o (t ++ rest)) (keeps b) ∙ over_same a x keeps t h.1 rest

-- a text that grows, with what is due of it
fill_growing : (d : Due) (a : Around) (f : List ℕ → Shape) (n : List ℕ) → IsProper d → ((m : List ℕ) (b : ℕ) → follow false (table a (f m) Wide b) ≡ Some (a, f (m ++ b ∷ [])))
    → ((m : List ℕ) → Finishes Nothing a (f m)) → Finishes d a (f n)
fill_growing d a f n proper grows finish =
    by_way d Nothing a (f n) (fill d) a (f (n ++ fill d)) (over_growing a f grows n (fill d) (fill_wide d proper)) (fill_due d proper) (finish (n ++ fill d))

fill_same : (d : Due) (a : Around) (x : Shape) → IsProper d → ((b : ℕ) → follow false (table a x Wide b) ≡ Some (a, x)) → Finishes Nothing a x → Finishes d a x
fill_same d a x proper keeps finish =
    by_way d Nothing a x (fill d) a x (over_same a x keeps (fill d) (fill_wide d proper)) (fill_due d proper) finish

-- where nothing is due
nothing_due : (d : Due) (a : Around) (x : Shape) → d ≡ Nothing → Finishes Nothing a x → Finishes d a x
nothing_due d a x none finish = subst (λ (e : Due). Finishes e a x) (sym none) finish

-- the names of open elements
open_names : (os : List Opened) (t : List ℕ) → IsOpen false os t → Each (λ o. IsName o.name) os
open_names [] t is = tt
open_names (o ∷ os) t (u, v, before, (p, w, is_tag, content, opening), spelled, deep) = (is_tag.is_name, open_names os u before)

reached_names : (a : Around) (t : List ℕ) → Reached false a t → Each (λ o. IsName o.name) (open_of a)
reached_names prolog t is = tt
reached_names (within o os) t is = open_names (o ∷ os) t is
reached_names (epilog e) t is = tt

prolog_names : (a : Around) → a ≡ prolog → Each (λ o. IsName o.name) (open_of a)
prolog_names a is = subst (λ (c : Around). Each (λ o. IsName o.name) (open_of c)) (sym is) tt

holder_names : (a : Around) (h : Holder) (t : List ℕ) → IsHolder false a h t → Each (λ o. IsName o.name) (open_of a)
holder_names a (tag n) t is = reached_names a is.0 is.1
holder_names a declaration t is = prolog_names a is.0

tagged_names : (a : Around) (h : Holder) (xs : List Attribute) (t : List ℕ) → Tagged false a h xs t → Each (λ o. IsName o.name) (open_of a)
tagged_names a h xs t is = holder_names a h is.front is.is_front

closing_names : (a : Around) (left t : List ℕ) → IsClosing false a left t → Each (λ o. IsName o.name) (open_of a)
closing_names prolog left t has = absurd has
closing_names (within o os) left t has = open_names (o ∷ os) has.0 has.3
closing_names (epilog e) left t has = absurd has

names : (a : Around) (x : Shape) (t : List ℕ) → Has false a x t → Each (λ o. IsName o.name) (open_of a)
names a at_start t has = prolog_names a has.0
names a (in_mark m) t has = prolog_names a has.0
names a at_first t has = prolog_names a has.0
names a (in_declaring d) t has = prolog_names a has.0
names a at_between t has = reached_names a t has
names a at_markup t has = reached_names a has.0 has.1
names a (in_comment k) t has = reached_names a has.0 has.2
names a (in_name n) t has = holder_names a (tag n) t has
names a (at_gap h xs) t has = tagged_names a h xs has.0 has.2
names a (in_attribute h xs n) t has = tagged_names a h xs has.0 has.2
names a (at_named h xs n) t has = tagged_names a h xs has.0 has.3
names a (at_equals h xs n) t has = tagged_names a h xs has.0 has.4
names a (in_value h xs n q v) t has = tagged_names a h xs has.front has.tagged
names a (in_value_reference h xs n q v r) t has = tagged_names a h xs has.1.front has.1.tagged
names a (at_valued h xs) t has = tagged_names a h xs t has
names a (at_slash n xs) t has = tagged_names a (tag n) xs has.0 has.2
names a at_ending t has = tagged_names a declaration has.0 has.1.0 has.1.2
names a (in_text_reference r) t has = reached_names a has.0 has.1
names a (in_closing left) t has = closing_names a left t has

-- the rest of an entity, and the character that it then stands for
reference_rest : Reference → List ℕ
reference_rest reference.Ampersand = codes "lt;"
reference_rest reference.L = codes "t;"
reference_rest reference.Lt = codes ";"
reference_rest reference.G = codes "t;"
reference_rest reference.Gt = codes ";"
reference_rest reference.A = codes "mp;"
reference_rest reference.Am = codes "p;"
reference_rest reference.Amp = codes ";"
reference_rest reference.Ap = codes "os;"
reference_rest reference.Apo = codes "s;"
reference_rest reference.Apos = codes ";"
reference_rest reference.Q = codes "uot;"
reference_rest reference.Qu = codes "ot;"
reference_rest reference.Quo = codes "t;"
reference_rest reference.Quot = codes ";"

reference_code : Reference → ℕ
reference_code reference.Ampersand = 60
reference_code reference.L = 60
reference_code reference.Lt = 60
reference_code reference.G = 62
reference_code reference.Gt = 62
reference_code reference.A = 38
reference_code reference.Am = 38
reference_code reference.Amp = 38
reference_code reference.Ap = 39
reference_code reference.Apo = 39
reference_code reference.Apos = 39
reference_code reference.Q = 34
reference_code reference.Qu = 34
reference_code reference.Quo = 34
reference_code reference.Quot = 34

value_reference_rest : (a : Around) (h : Holder) (xs : List Attribute) (n : List ℕ) (q : ℕ) (v : List ℕ) (r : Reference)
    → Along false a (in_value_reference h xs n q v r) (reference_rest r) a (in_value h xs n q (v ++ reference_code r ∷ []))
unfolding table reference_rest reference_code
value_reference_rest a h xs n q v reference.Ampersand rest = refl
value_reference_rest a h xs n q v reference.L rest = refl
value_reference_rest a h xs n q v reference.Lt rest = refl
value_reference_rest a h xs n q v reference.G rest = refl
value_reference_rest a h xs n q v reference.Gt rest = refl
value_reference_rest a h xs n q v reference.A rest = refl
value_reference_rest a h xs n q v reference.Am rest = refl
value_reference_rest a h xs n q v reference.Amp rest = refl
value_reference_rest a h xs n q v reference.Ap rest = refl
value_reference_rest a h xs n q v reference.Apo rest = refl
value_reference_rest a h xs n q v reference.Apos rest = refl
value_reference_rest a h xs n q v reference.Q rest = refl
value_reference_rest a h xs n q v reference.Qu rest = refl
value_reference_rest a h xs n q v reference.Quo rest = refl
value_reference_rest a h xs n q v reference.Quot rest = refl

text_reference_rest : (a : Around) (r : Reference) → Along false a (in_text_reference r) (reference_rest r) a at_between
unfolding table reference_rest
text_reference_rest a reference.Ampersand rest = refl
text_reference_rest a reference.L rest = refl
text_reference_rest a reference.Lt rest = refl
text_reference_rest a reference.G rest = refl
text_reference_rest a reference.Gt rest = refl
text_reference_rest a reference.A rest = refl
text_reference_rest a reference.Am rest = refl
text_reference_rest a reference.Amp rest = refl
text_reference_rest a reference.Ap rest = refl
text_reference_rest a reference.Apo rest = refl
text_reference_rest a reference.Apos rest = refl
text_reference_rest a reference.Q rest = refl
text_reference_rest a reference.Qu rest = refl
text_reference_rest a reference.Quo rest = refl
text_reference_rest a reference.Quot rest = refl

reference_due : (r : Reference) → due_along (Some Nothing) (reference_rest r) ≡ Some Nothing
unfolding reference_rest
reference_due reference.Ampersand = refl
reference_due reference.L = refl
reference_due reference.Lt = refl
reference_due reference.G = refl
reference_due reference.Gt = refl
reference_due reference.A = refl
reference_due reference.Am = refl
reference_due reference.Amp = refl
reference_due reference.Ap = refl
reference_due reference.Apo = refl
reference_due reference.Apos = refl
reference_due reference.Q = refl
reference_due reference.Qu = refl
reference_due reference.Quo = refl
reference_due reference.Quot = refl

-- before the root
ends_start : (a : Around) → a ≡ prolog → Finishes Nothing a at_start
unfolding table
ends_start a is = subst (λ (c : Around). Finishes Nothing c at_start) (sym is) (record { rest = codes "<a/>"; root = node (codes "a") [] no_node; reads = refl; whole = refl })

ends_mark : (a : Around) (m : Mark) (d : Due) → a ≡ prolog → IsTidyShape d a (in_mark m) → Finishes d a (in_mark m)
unfolding table
ends_mark a mark_read.First d is due = subst (λ (c : Around). Finishes d c (in_mark mark_read.First)) (sym is)
    (subst (λ (e : Due). Finishes e prolog (in_mark mark_read.First)) (sym due)
    (record { rest = 0xBB ∷ 0xBF ∷ codes "<a/>"; root = node (codes "a") [] no_node; reads = refl; whole = refl }))
ends_mark a mark_read.Second d is due = subst (λ (c : Around). Finishes d c (in_mark mark_read.Second)) (sym is)
    (subst (λ (e : Due). Finishes e prolog (in_mark mark_read.Second)) (sym due)
    (record { rest = 0xBF ∷ codes "<a/>"; root = node (codes "a") [] no_node; reads = refl; whole = refl }))
ends_mark a mark_read.Whole d is due = subst (λ (c : Around). Finishes d c (in_mark mark_read.Whole)) (sym is)
    (subst (λ (e : Due). Finishes e prolog (in_mark mark_read.Whole)) (sym due)
    (record { rest = codes "<a/>"; root = node (codes "a") [] no_node; reads = refl; whole = refl }))

ends_first : (a : Around) → a ≡ prolog → Finishes Nothing a at_first
unfolding table
ends_first a is = subst (λ (c : Around). Finishes Nothing c at_first) (sym is) (record { rest = codes "a/>"; root = node (codes "a") [] no_node; reads = refl; whole = refl })

ends_declaring : (a : Around) (d : Declaring) → Env a → Finishes Nothing a (in_declaring d)
unfolding table
ends_declaring a declaring.Question env =
    by_way Nothing Nothing a (in_declaring declaring.Question) (codes "xml ") a (at_gap declaration []) (λ rest. refl) refl (finish_gap a declaration [] env)
ends_declaring a declaring.X env =
    by_way Nothing Nothing a (in_declaring declaring.X) (codes "ml ") a (at_gap declaration []) (λ rest. refl) refl (finish_gap a declaration [] env)
ends_declaring a declaring.Xm env =
    by_way Nothing Nothing a (in_declaring declaring.Xm) (codes "l ") a (at_gap declaration []) (λ rest. refl) refl (finish_gap a declaration [] env)
ends_declaring a declaring.Xml env =
    by_way Nothing Nothing a (in_declaring declaring.Xml) (codes " ") a (at_gap declaration []) (λ rest. refl) refl (finish_gap a declaration [] env)

-- between tags and in comments
ends_between : (a : Around) (d : Due) → Env a → IsProper d → IsTidyBetween d a → Finishes d a at_between
unfolding table
ends_between prolog d env proper due = nothing_due d prolog at_between due (finish_between prolog env)
ends_between (within o os) d env proper due = fill_same d (within o os) at_between proper (λ b. refl) (finish_between (within o os) env)
ends_between (epilog e) d env proper due = nothing_due d (epilog e) at_between due (finish_between (epilog e) env)

ends_markup : (a : Around) → Env a → Finishes Nothing a at_markup
unfolding table
ends_markup a env = by_way Nothing Nothing a at_markup (codes "!---->") a at_between (λ rest. refl) refl (finish_between a env)

ends_comment : (a : Around) (k : Comment) (d : Due) → Env a → IsProper d → IsTidyComment d k → Finishes d a (in_comment k)
unfolding table
ends_comment a part.Bang d env proper due = nothing_due d a (in_comment part.Bang) due
    (by_way Nothing Nothing a (in_comment part.Bang) (codes "---->") a at_between (λ rest. refl) refl (finish_between a env))
ends_comment a part.Dash d env proper due = nothing_due d a (in_comment part.Dash) due
    (by_way Nothing Nothing a (in_comment part.Dash) (codes "--->") a at_between (λ rest. refl) refl (finish_between a env))
ends_comment a part.Body d env proper due = fill_same d a (in_comment part.Body) proper (λ b. refl)
    (by_way Nothing Nothing a (in_comment part.Body) (codes "-->") a at_between (λ rest. refl) refl (finish_between a env))
ends_comment a part.Hyphen d env proper due = nothing_due d a (in_comment part.Hyphen) due
    (by_way Nothing Nothing a (in_comment part.Hyphen) (codes "->") a at_between (λ rest. refl) refl (finish_between a env))
ends_comment a part.Hyphens d env proper due = nothing_due d a (in_comment part.Hyphens) due
    (by_way Nothing Nothing a (in_comment part.Hyphens) (codes ">") a at_between (λ rest. refl) refl (finish_between a env))

-- the ends of elements and of a declaration
ends_slash : (a : Around) (n : List ℕ) (xs : List Attribute) → Env a → Finishes Nothing a (at_slash n xs)
unfolding table
ends_slash a n xs env =
    by_way Nothing Nothing a (at_slash n xs) (codes ">") (ended (open_of a) (node n xs no_node)) at_between (λ rest. refl) refl
    (finish_ended (open_of a) (node n xs no_node) env.names env.whole)

ends_ending : (a : Around) → Env a → Finishes Nothing a at_ending
unfolding table
ends_ending a env = by_way Nothing Nothing a at_ending (codes ">") a at_between (λ rest. refl) refl (finish_between a env)

left_named : (p left n : List ℕ) → p ++ left ≡ n → IsName n → Each (λ b. IsTrue (is_name_byte b)) left
left_named p left n same named = each_right (λ b. IsTrue (is_name_byte b)) p left (rw same (name_bytes n named))

ends_closing : (a : Around) (left t : List ℕ) (d : Due) → Env a → IsClosing false a left t → due_along (Some d) left ≡ Some Nothing → Finishes d a (in_closing left)
unfolding table
ends_closing prolog left t d env has due = absurd has
ends_closing (within o os) left t d env (u, p, w, before, same, white, place, spelled) due =
    by_way d Nothing (within o os) (in_closing left) left (within o os) (in_closing []) (over_matched false (within o os) left (left_named p left o.name same env.names.0)) due
    (by_way Nothing Nothing (within o os) (in_closing []) (codes ">") (ended os (node_of o)) at_between (λ rest. refl) refl
    (finish_ended os (node_of o) env.names.1 env.whole.1))
ends_closing (epilog e) left t d env has due = absurd has

-- from each shape
finishes : (d : Due) (a : Around) (x : Shape) (t : List ℕ) → Env a → Has false a x t → IsTidy d a x → Finishes d a x
unfolding table
finishes d a at_start t env has tidy = nothing_due d a at_start tidy.shape (ends_start a has.0)
finishes d a (in_mark m) t env has tidy = ends_mark a m d has.0 tidy.shape
finishes d a at_first t env has tidy = nothing_due d a at_first tidy.shape (ends_first a has.0)
finishes d a (in_declaring m) t env has tidy = nothing_due d a (in_declaring m) tidy.shape (ends_declaring a m env)
finishes d a at_between t env has tidy = ends_between a d env tidy.proper tidy.shape
finishes d a at_markup t env has tidy = nothing_due d a at_markup tidy.shape (ends_markup a env)
finishes d a (in_comment k) t env has tidy = ends_comment a k d env tidy.proper tidy.shape
finishes d a (in_name n) t env has tidy = fill_growing d a (λ m. in_name m) n tidy.proper (λ m b. refl) (λ m. finish_name a m env)
finishes d a (at_gap h xs) t env has tidy = nothing_due d a (at_gap h xs) tidy.shape.0 (finish_gap a h xs env)
finishes d a (in_attribute h xs n) t env has tidy = fill_growing d a (λ m. in_attribute h xs m) n tidy.proper (λ m b. refl) (λ m. finish_attribute a h xs m env)
finishes d a (at_named h xs n) t env has tidy = nothing_due d a (at_named h xs n) tidy.shape.0 (finish_named a h xs n env)
finishes d a (at_equals h xs n) t env has tidy = nothing_due d a (at_equals h xs n) tidy.shape.0 (finish_equals a h xs n env)
finishes d a (in_value h xs n q v) t env has tidy =
    fill_growing d a (λ m. in_value h xs n q m) v tidy.proper (λ m b. refl) (λ m. finish_value a h xs n q m has.is_head.is_quote env)
finishes d a (in_value_reference h xs n q v r) t env has tidy = nothing_due d a (in_value_reference h xs n q v r) tidy.shape.0
    (by_way Nothing Nothing a (in_value_reference h xs n q v r) (reference_rest r) a (in_value h xs n q (v ++ reference_code r ∷ [])) (value_reference_rest a h xs n q v r) (reference_due r)
    (finish_value a h xs n q (v ++ reference_code r ∷ []) has.1.is_head.is_quote env))
finishes d a (at_valued h xs) t env has tidy = nothing_due d a (at_valued h xs) tidy.shape.0 (finish_valued a h xs env)
finishes d a (at_slash n xs) t env has tidy = nothing_due d a (at_slash n xs) tidy.shape.0 (ends_slash a n xs env)
finishes d a at_ending t env has tidy = nothing_due d a at_ending tidy.shape (ends_ending a env)
finishes d a (in_text_reference r) t env has tidy = nothing_due d a (in_text_reference r) tidy.shape
    (by_way Nothing Nothing a (in_text_reference r) (reference_rest r) a at_between (text_reference_rest a r) (reference_due r) (finish_between a env))
finishes d a (in_closing left) t env has tidy = ends_closing a left t d env has tidy.shape

-- wherever the machine stands, some text leads it to the end
pub ends : (d : Due) (a : Around) (x : Shape) (t : List ℕ) → Has false a x t → IsTidy d a x → Finishes d a x
ends d a x t has tidy = finishes d a x t (record { names = names a x t has; whole = tidy.whole }) has tidy
