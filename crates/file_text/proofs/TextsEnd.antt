-- From wherever the machine stands, some text leads it to the end of a text of the grammar.
use Rattle.std.proofs.Common.{◌≡◌, ◌≢◌, ℕ, zero, suc, ◌+◌, ◌<◌, ◌⊎◌, inl, inr, refl, ◌∙◌, ap, false, List, [], ◌∷◌, ◌++◌, length, length-append, Some, IsTrue, codes, arith}
use Rattle.file_text.specs.declared.tree.Attribute.{Attribute}
use Rattle.file_text.specs.declared.due.Due.{Due}
use Rattle.file_text.specs.declared.due.Due.TheVariants.{Nothing}
use Rattle.file_text.specs.Node.{Node, node, no_node}
use Rattle.file_text.specs.Grammar.{Each, is_name_byte, IsName, IsNew}
use Rattle.file_text.specs.inside.Utf8.{due_along}
use Rattle.file_text.specs.inside.AttributeNames.{has_name}
use Rattle.file_text.specs.inside.Machine.{Around, prolog, within, epilog, Opened, open_of, ended, node_of, Holder, declaration, tag, Shape, at_between, in_name, at_gap, in_attribute, at_named, at_equals, in_value, at_valued, table, follow, walk, IsDue, AreWhole}
use Rattle.file_text.proofs.BytesSpellUtf8.{due_along-append}
use Rattle.file_text.proofs.MachineWalks.{Along, at_name, over_name}
use Rattle.file_text.proofs.DistinctNamesStay.{new_name}
use Rattle.file_text.proofs.OverTags.{AllowedIn, Ready, ready_name, ready_gap, ready_valued, over_equals, over_end}
use Rattle.file_text.proofs.OverElements.{over_end_tag, empty_ends}
use Rattle.file_text.proofs.OverTexts.{declaration_ends}

-- some text leads to the end
pub record Finishes (due : Due) (a : Around) (x : Shape) : Type 0 where
  pub rest : List ℕ
  pub root : Node
  pub reads : walk false (Some (a, x)) rest ≡ Some (epilog root, at_between)
  pub whole : due_along (Some due) rest ≡ Some Nothing

-- by way of another place
pub by_way : (d e : Due) (a : Around) (x : Shape) (t : List ℕ) (c : Around) (y : Shape) → Along false a x t c y → due_along (Some d) t ≡ Some e → Finishes e c y → Finishes d a x
by_way d e a x t c y along due f = record {
  rest = t ++ f.rest;
  root = f.root;
  reads = along f.rest ∙ f.reads;
  whole = due_along-append (Some d) t f.rest ∙ ap (λ o. due_along o f.rest) due ∙ f.whole;
}

-- the elements around a place have names, and they are whole
pub record Env (a : Around) : Type 0 where
  pub names : Each (λ o. IsName o.name) (open_of a)
  pub whole : AreWhole (open_of a)

whole_end : (n : List ℕ) → IsDue n Nothing → due_along (Some Nothing) (60 ∷ (47 ∷ (n ++ ([] ++ 62 ∷ [])))) ≡ Some Nothing
whole_end n whole = due_along-append (Some Nothing) n (62 ∷ []) ∙ ap (λ o. due_along o (62 ∷ [])) whole

finish_all : (os : List Opened) (o : Opened) → Each (λ p. IsName p.name) (o ∷ os) → AreWhole (o ∷ os) → Finishes Nothing (within o os) at_between
finish_all [] o names whole =
    by_way Nothing Nothing (within o []) at_between (60 ∷ (47 ∷ (o.name ++ ([] ++ 62 ∷ [])))) (epilog (node_of o)) at_between
    (over_end_tag false o [] [] names.0 tt) (whole_end o.name whole.0)
    (record { rest = []; root = node_of o; reads = refl; whole = refl })
finish_all (p ∷ os) o names whole =
    by_way Nothing Nothing (within o (p ∷ os)) at_between (60 ∷ (47 ∷ (o.name ++ ([] ++ 62 ∷ [])))) (ended (p ∷ os) (node_of o)) at_between
    (over_end_tag false o (p ∷ os) [] names.0 tt) (whole_end o.name whole.0)
    (finish_all os (record { name = p.name; attributes = p.attributes; children = p.children ++ node_of o ∷ [] }) names.1 whole.1)

pub finish_between : (a : Around) → Env a → Finishes Nothing a at_between
unfolding table
finish_between prolog env = record { rest = codes "<a/>"; root = node (codes "a") [] no_node; reads = refl; whole = refl }
finish_between (within o os) env = finish_all os o env.names env.whole
finish_between (epilog e) env = record { rest = []; root = e; reads = refl; whole = refl }

pub finish_ended : (os : List Opened) (e : Node) → Each (λ p. IsName p.name) os → AreWhole os → Finishes Nothing (ended os e) at_between
finish_ended [] e names whole = record { rest = []; root = e; reads = refl; whole = refl }
finish_ended (o ∷ os) e names whole = finish_all os (record { name = o.name; attributes = o.attributes; children = o.children ++ e ∷ [] }) names whole

-- behind attributes
finish_tag : (a : Around) (y : Shape) (n : List ℕ) (xs : List Attribute) → Env a → Ready a y (tag n) xs → Finishes Nothing a y
finish_tag a y n xs env ready =
    by_way Nothing Nothing a y (codes "/>") (ended (open_of a) (node n xs no_node)) at_between (empty_ends false a y n xs ready) refl
    (finish_ended (open_of a) (node n xs no_node) env.names env.whole)

finish_declared : (a : Around) (y : Shape) (xs : List Attribute) → Env a → xs ≢ [] → Ready a y declaration xs → Finishes Nothing a y
finish_declared a y xs env some ready =
    by_way Nothing Nothing a y (codes "?>") a at_between (declaration_ends false a y xs some ready) refl (finish_between a env)

pub finish_name : (a : Around) (n : List ℕ) → Env a → Finishes Nothing a (in_name n)
finish_name a n env = finish_tag a (in_name n) n [] env (ready_name a n)

pub finish_gap : (a : Around) (h : Holder) (xs : List Attribute) → Env a → Finishes Nothing a (at_gap h xs)
unfolding table
finish_gap a (tag n) xs env = finish_tag a (at_gap (tag n) xs) n xs env (ready_gap a (tag n) xs)
finish_gap a declaration (x ∷ xs) env = finish_declared a (at_gap declaration (x ∷ xs)) (x ∷ xs) env (λ e. cc) (ready_gap a declaration (x ∷ xs))
finish_gap a declaration [] env =
    by_way Nothing Nothing a (at_gap declaration []) (97 ∷ 61 ∷ 34 ∷ 34 ∷ []) a (at_valued declaration (record { name = 97 ∷ []; value = [] } ∷ [])) (λ rest. refl) refl
    (finish_declared a (at_valued declaration (record { name = 97 ∷ []; value = [] } ∷ [])) (record { name = 97 ∷ []; value = [] } ∷ []) env (λ e. cc)
    (ready_valued a declaration (record { name = 97 ∷ []; value = [] } ∷ [])))

pub finish_valued : (a : Around) (h : Holder) (xs : List Attribute) → Env a → Finishes Nothing a (at_valued h xs)
unfolding table
finish_valued a (tag n) xs env = finish_tag a (at_valued (tag n) xs) n xs env (ready_valued a (tag n) xs)
finish_valued a declaration (x ∷ xs) env = finish_declared a (at_valued declaration (x ∷ xs)) (x ∷ xs) env (λ e. cc) (ready_valued a declaration (x ∷ xs))
finish_valued a declaration [] env =
    by_way Nothing Nothing a (at_valued declaration []) (32 ∷ []) a (at_gap declaration []) (λ rest. refl) refl (finish_gap a declaration [] env)

-- in an attribute
any_allowed : (h : Holder) (x : Attribute) → AllowedIn false h (x ∷ [])
any_allowed (tag n) x = tt
any_allowed declaration x = (tt, tt)

quote_due : (q : ℕ) → (q ≡ 34) ⊎ (q ≡ 39) → due_along (Some Nothing) (q ∷ []) ≡ Some Nothing
quote_due q (inl e) = rw e refl
quote_due q (inr e) = rw e refl

pub finish_value : (a : Around) (h : Holder) (xs : List Attribute) (n : List ℕ) (q : ℕ) (v : List ℕ) → (q ≡ 34) ⊎ (q ≡ 39) → Env a → Finishes Nothing a (in_value h xs n q v)
finish_value a h xs n q v quote env =
    by_way Nothing Nothing a (in_value h xs n q v) (q ∷ []) a (at_valued h (xs ++ record { name = n; value = v } ∷ []))
    (over_end false a h xs n q v quote (any_allowed h (record { name = n; value = v }))) (quote_due q quote)
    (finish_valued a h (xs ++ record { name = n; value = v } ∷ []) env)

pub finish_equals : (a : Around) (h : Holder) (xs : List Attribute) (n : List ℕ) → Env a → Finishes Nothing a (at_equals h xs n)
unfolding table
finish_equals a h xs n env =
    by_way Nothing Nothing a (at_equals h xs n) (34 ∷ []) a (in_value h xs n 34 []) (λ rest. refl) refl (finish_value a h xs n 34 [] (inl refl) env)

pub finish_named : (a : Around) (h : Holder) (xs : List Attribute) (n : List ℕ) → Env a → Finishes Nothing a (at_named h xs n)
unfolding table
finish_named a h xs n env =
    by_way Nothing Nothing a (at_named h xs n) (61 ∷ []) a (at_equals h xs n) (λ rest. refl) refl (finish_equals a h xs n env)

-- a name that is longer than all the others is new
names_size : List Attribute → ℕ
names_size [] = 0
names_size (x ∷ xs) = length x.name + names_size xs

letters : ℕ → List ℕ
letters zero = []
letters (suc k) = 97 ∷ letters k

letters_named : (k : ℕ) → Each (λ b. IsTrue (is_name_byte b)) (letters k)
unfolding letters
letters_named zero = tt
letters_named (suc k) = (refl, letters_named k)

letters_due : (k : ℕ) → due_along (Some Nothing) (letters k) ≡ Some Nothing
unfolding letters
letters_due zero = refl
letters_due (suc k) = letters_due k

length-letters : (k : ℕ) → length (letters k) ≡ k
unfolding letters
length-letters zero = refl
length-letters (suc k) = let more = length-letters k in omega arith

longer_new : (n : List ℕ) (xs : List Attribute) → names_size xs < length n → IsNew n xs
unfolding names_size
longer_new n [] long = tt
longer_new n (x ∷ xs) long = ((λ e. absurd (let same : length x.name ≡ length n = ap length e in omega arith)), longer_new n xs (omega arith))

pub finish_attribute : (a : Around) (h : Holder) (xs : List Attribute) (n : List ℕ) → Env a → Finishes Nothing a (in_attribute h xs n)
unfolding table
finish_attribute a h xs n env =
    let k : ℕ = suc (names_size xs) in
    let long : names_size xs < length (n ++ letters k) = omega (arith, length-append n (letters k), length-letters k) in
    let new : has_name (n ++ letters k) xs ≡ false = new_name (n ++ letters k) xs (longer_new (n ++ letters k) xs long) in
    by_way Nothing Nothing a (in_attribute h xs n) (letters k) a (in_attribute h xs (n ++ letters k))
    (over_name false a (λ m. in_attribute h xs m)
    (λ m c e. at_name (λ d. follow false (table a (in_attribute h xs m) d c) ≡ Some (a, in_attribute h xs (m ++ c ∷ []))) c e refl refl refl refl) n (letters k) (letters_named k))
    (letters_due k)
    (by_way Nothing Nothing a (in_attribute h xs (n ++ letters k)) (61 ∷ []) a (at_equals h xs (n ++ letters k))
    (over_equals false a h xs (n ++ letters k) [] new tt) refl (finish_equals a h xs (n ++ letters k) env))
