-- How the machine goes along pieces of a text that leave it in one kind of shape.
use Rattle.std.proofs.Common.{◌≡◌, ℕ, refl, sym, ◌∙◌, ap, Bool, List, [], ◌∷◌, ◌++◌, append_assoc, append-nil, Option, Some, None, IsTrue}
use Rattle.file_text.specs.declared.class.Class.{Class}
use Rattle.file_text.specs.declared.class.Class.TheVariants.{Wide, White, Letter, Digit, Hyphen}
use Rattle.file_text.specs.Grammar.{Each, is_white, is_name_start, is_name_byte, IsWhite, IsGap}
use Rattle.file_text.specs.inside.Machine.{class_of, Around, Shape, Spot, follow, advance, walk, table}
use Rattle.file_text.proofs.ClassesMatchGrammar.{white_of, start_of, name_of, by_white, by_start, by_name}

pub walk-none : (strict : Bool) (bs : List ℕ) → walk strict None bs ≡ None
walk-none strict [] = refl
walk-none strict (b ∷ bs) = refl

pub walk-append : (strict : Bool) (o : Option Spot) (xs ys : List ℕ) → walk strict o (xs ++ ys) ≡ walk strict (walk strict o xs) ys
walk-append strict None xs ys = sym (walk-none strict ys)
walk-append strict (Some s) [] ys = refl
walk-append strict (Some s) (x ∷ xs) ys = walk-append strict (advance strict s x) xs ys

-- the machine goes from a shape along a piece to another shape, whatever follows
abbrev pub Along : Bool → Around → Shape → List ℕ → Around → Shape → Type 0
Along strict a x t b y = (rest : List ℕ) → walk strict (Some (a, x)) (t ++ rest) ≡ walk strict (Some (b, y)) rest

pub stay : (strict : Bool) (a : Around) (x : Shape) → Along strict a x [] a x
stay strict a x rest = refl

-- one piece after another
pub then : (strict : Bool) (a : Around) (x : Shape) (t : List ℕ) (c : Around) (y : Shape) (u : List ℕ) (d : Around) (z : Shape)
    → Along strict a x t c y → Along strict c y u d z → Along strict a x (t ++ u) d z
then strict a x t c y u d z p q rest = rw append_assoc (p (u ++ rest) ∙ q rest)

-- the class of white
pub at_white : (P : Class → Type 0) (b : ℕ) → IsTrue (is_white b) → P White → P (class_of b)
at_white P b h w = by_white P w (class_of b) (sym (white_of b) ∙ h)

pub at_begin : (P : Class → Type 0) (b : ℕ) → IsTrue (is_name_start b) → P Letter → P Wide → P (class_of b)
at_begin P b h l w = by_start P l w (class_of b) (sym (start_of b) ∙ h)

pub at_name : (P : Class → Type 0) (b : ℕ) → IsTrue (is_name_byte b) → P Letter → P Digit → P Hyphen → P Wide → P (class_of b)
at_name P b h l d y w = by_name P l d y w (class_of b) (sym (name_of b) ∙ h)

-- white in a shape that it leaves as it is
pub over_white : (strict : Bool) (a : Around) (x : Shape) → ((b : ℕ) → follow strict (table a x White b) ≡ Some (a, x)) → (w : List ℕ) → IsWhite w → Along strict a x w a x
over_white strict a x keeps [] h rest = refl
over_white strict a x keeps (b ∷ w) h rest =
    ap (λ o. walk strict o (w ++ rest)) (at_white (λ c. follow strict (table a x c b) ≡ Some (a, x)) b h.0 (keeps b)) ∙ over_white strict a x keeps w h.1 rest

-- white of at least one character, which leads to such a shape
pub over_gap : (strict : Bool) (a : Around) (x y : Shape) → ((b : ℕ) → follow strict (table a x White b) ≡ Some (a, y))
    → ((b : ℕ) → follow strict (table a y White b) ≡ Some (a, y)) → (w : List ℕ) → IsGap w → Along strict a x w a y
over_gap strict a x y leads keeps [] h rest = absurd (h.1 refl)
over_gap strict a x y leads keeps (b ∷ w) h rest =
    ap (λ o. walk strict o (w ++ rest)) (at_white (λ c. follow strict (table a x c b) ≡ Some (a, y)) b h.0.0 (leads b)) ∙ over_white strict a y keeps w h.0.1 rest

-- the bytes of a name in a shape that collects them
pub over_name : (strict : Bool) (a : Around) (f : List ℕ → Shape)
    → ((n : List ℕ) (b : ℕ) → IsTrue (is_name_byte b) → follow strict (table a (f n) (class_of b) b) ≡ Some (a, f (n ++ b ∷ [])))
    → (n w : List ℕ) → Each (λ b. IsTrue (is_name_byte b)) w → Along strict a (f n) w a (f (n ++ w))
over_name strict a f grows n [] h rest = rw append-nil refl
over_name strict a f grows n (b ∷ w) h rest =
    ap (λ o. walk strict o (w ++ rest)) (grows n b h.0)
    ∙ over_name strict a f grows (n ++ b ∷ []) w h.1 rest
    ∙ ap (λ m. walk strict (Some (a, f m)) rest) (append_assoc n (b ∷ []) w)
