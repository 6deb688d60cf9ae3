-- The reader's own values, seen as the machine's.
use Rattle.std.proofs.Common.{◌≡◌, ℕ, zero, suc, ◌+◌, ◌-◌, ◌<◌, ◌≤◌, refl, sym, ◌∙◌, ap, false, ◌==◌, List, [], ◌∷◌, ◌++◌, length, drop, slice_get, slice_index_or, slice_set, Option, Some, None, arith}
use Rattle.std.proofs.lemmas.Bool.{eqb-false, lt-ltb, le-ltb}
use Rattle.file_text.specs.declared.tree.Element.{Element}
use Rattle.file_text.specs.declared.scanner.Frame.{Frame}
use Rattle.file_text.specs.declared.class.Class.{Class}
use Rattle.file_text.specs.declared.class.Class.TheVariants.{White, Less, Greater}
use Rattle.file_text.specs.declared.due.Due.TheVariants.{Nothing}
use Rattle.file_text.specs.Node.{Node}
use Rattle.file_text.specs.inside.Machine.{Around, prolog, within, epilog, Opened, open_of, ended, grown, in_name, in_closing, at_between, goes, leaves, too_deep, between_step, character_step, open_step, close_step, closing_step, spelled_at}
use Rattle.file_text.specs.inside.Seen.{opened_of, stack_on, around_in, is_closed, name_in}
use Rattle.file_text.proofs.ReadSoFar.{IsInside}

-- the stack of open elements
pub stack_on-push : (os : List Opened) (fs : List Frame) (f : Frame) → stack_on os (fs ++ f ∷ []) ≡ opened_of f ∷ stack_on os fs
stack_on-push os [] f = refl
stack_on-push os (g ∷ fs) f = stack_on-push (opened_of g ∷ os) fs f

pub length-stack_on : (os : List Opened) (fs : List Frame) → length (stack_on os fs) ≡ length fs + length os
length-stack_on os [] = omega arith
length-stack_on os (f ∷ fs) = let more = length-stack_on (opened_of f ∷ os) fs in omega arith

pub open_of-around : (os : List Opened) (root : Option Element) → open_of (around_in os root) ≡ os
open_of-around [] None = refl
open_of-around [] (Some e) = refl
open_of-around (o ∷ os) root = refl

-- an element that ends in the innermost one
pub grows : (os : List Opened) (fs : List Frame) (n : ℕ) (root : Option Element) (f g : Frame) (e : Node) → n + 1 ≡ length fs
    → opened_of g ≡ grown (opened_of (slice_index_or fs n f)) e → around_in (stack_on os (slice_set fs n g)) root ≡ ended (stack_on os fs) e
grows os [] n root f g e last like = absurd (omega arith)
grows os (h ∷ []) zero root f g e last like = ap (λ o. within o os) like
grows os (h ∷ []) (suc n) root f g e last like = absurd (omega arith)
grows os (h ∷ (i ∷ fs)) zero root f g e last like = absurd (omega arith)
grows os (h ∷ (i ∷ fs)) (suc n) root f g e last like = grows (opened_of h ∷ os) (i ∷ fs) n root f g e (omega arith) like

-- an element is open
inside_in : (os : List Opened) (root : Option Element) → 0 < length os → IsInside (around_in os root)
inside_in [] root some = absurd (omega arith)
inside_in (o ∷ os) root some = tt

deep_in : (os : List Opened) (root : Option Element) (b : ℕ) → 32 ≤ length os → open_step (around_in os root) b ≡ too_deep
deep_in [] root b deep = absurd (omega arith)
deep_in (o ∷ os) root b deep = rw (le-ltb (suc (length os)) 32 (omega arith)) refl

room_in : (os : List Opened) (root : Option Element) (b : ℕ) → length os < 32 → false ≡ is_closed (around_in os root) → open_step (around_in os root) b ≡ goes (around_in os root) (in_name (b ∷ []))
room_in [] None b room still = refl
room_in [] (Some e) b room still = cc
room_in (o ∷ os) root b room still = rw (lt-ltb (suc (length os)) 32 (omega arith)) refl

pub inside : (fs : List Frame) (root : Option Element) (n : ℕ) → n ≡ length fs → false ≡ (n == 0) → IsInside (around_in (stack_on [] fs) root)
inside fs root n size e = inside_in (stack_on [] fs) root (let stack = length-stack_on [] fs in let some = eqb-false n 0 (sym e) in omega arith)

pub between_inside : (a : Around) (c : Class) → IsInside a → (c ≡ White → ⊥) → (c ≡ Less → ⊥) → character_step a c ≡ between_step a c
between_inside prolog c is no_white no_less = absurd is
between_inside (epilog e) c is no_white no_less = absurd is
between_inside (within o os) White is no_white no_less = absurd (no_white refl)
between_inside (within o os) Less is no_white no_less = absurd (no_less refl)
between_inside (within o os) c is no_white no_less = refl

-- an element that begins
pub opens_deep : (fs : List Frame) (root : Option Element) (b n : ℕ) → n ≡ length fs → 32 ≤ n → open_step (around_in (stack_on [] fs) root) b ≡ too_deep
opens_deep fs root b n size deep = deep_in (stack_on [] fs) root b (let stack = length-stack_on [] fs in omega arith)

pub opens_here : (fs : List Frame) (root : Option Element) (b n : ℕ) → n ≡ length fs → n < 32 → false ≡ is_closed (around_in (stack_on [] fs) root)
    → open_step (around_in (stack_on [] fs) root) b ≡ goes (around_in (stack_on [] fs) root) (in_name (b ∷ []))
opens_here fs root b n size room still = room_in (stack_on [] fs) root b (let stack = length-stack_on [] fs in omega arith) still

-- an end tag that begins
pub closes_inside : (a : Around) → IsInside a → close_step a ≡ goes a (in_closing (drop 0 (name_in a)))
closes_inside prolog is = absurd is
closes_inside (within o os) is = refl
closes_inside (epilog e) is = absurd is

pub inside_open : (a : Around) → IsInside a → is_closed a ≡ false
inside_open prolog is = refl
inside_open (within o os) is = refl
inside_open (epilog e) is = absurd is

pub inside_untold : (a : Around) → IsInside a → spelled_at Nothing a at_between ≡ None
inside_untold prolog is = refl
inside_untold (within o os) is = refl
inside_untold (epilog e) is = absurd is

-- the name of the innermost element
last_name : (os : List Opened) (fs : List Frame) (f : Frame) (k : ℕ) (root : Option Element) → length fs ≡ suc k → Some f ≡ slice_get fs k → name_in (around_in (stack_on os fs) root) ≡ f.name
last_name os [] f k root size e = cc
last_name os (g ∷ []) f zero root size e = ap (λ (h : Frame). h.name) (let same : Some f ≡ Some g = e in let is : g ≡ f = cc in is)
last_name os (g ∷ []) f (suc k) root size e = absurd (omega arith)
last_name os (g ∷ h ∷ fs) f zero root size e = absurd (omega arith)
last_name os (g ∷ h ∷ fs) f (suc k) root size e = last_name (opened_of g ∷ os) (h ∷ fs) f k root (omega arith) e

no_last : (fs : List Frame) (f : Frame) → length fs ≡ 0 → Some f ≡ slice_get fs 0 → ⊥
no_last [] f size e = cc
no_last (g ∷ fs) f size e = absurd (omega arith)

suc-sub-one : (k : ℕ) → suc k - 1 ≡ k
suc-sub-one k = omega arith

last_at : (fs : List Frame) (f : Frame) (n : ℕ) (root : Option Element) → length fs ≡ n → Some f ≡ slice_get fs (n - 1) → name_in (around_in (stack_on [] fs) root) ≡ f.name
last_at fs f zero root size e = absurd (no_last fs f size e)
last_at fs f (suc k) root size e = last_name [] fs f k root size (rw (suc-sub-one k) at e)

pub innermost_name : (fs : List Frame) (f : Frame) (root : Option Element) → Some f ≡ slice_get fs (length fs - 1) → name_in (around_in (stack_on [] fs) root) ≡ f.name
innermost_name fs f root e = last_at fs f (length fs) root refl e

suc_one : (k : ℕ) → suc (k + 1) ≡ suc k + 1
suc_one k = omega arith

-- what is left of a name
pub drop_some : (t : List ℕ) (k x : ℕ) → slice_get t k ≡ Some x → drop k t ≡ x ∷ drop (k + 1) t
drop_some [] k x e = cc
drop_some (y ∷ t) zero x e = let same : y ≡ x = cc in rw same refl
drop_some (y ∷ t) (suc k) x e = drop_some t k x e ∙ ap (λ (n : ℕ). x ∷ drop n (y ∷ t)) (suc_one k)

pub drop_none : (t : List ℕ) (k : ℕ) → slice_get t k ≡ None → drop k t ≡ []
drop_none [] zero e = refl
drop_none [] (suc k) e = refl
drop_none (y ∷ t) zero e = cc
drop_none (y ∷ t) (suc k) e = drop_none t k e

pub closing_other : (a : Around) (c : Class) (b : ℕ) → (c ≡ White → ⊥) → (c ≡ Greater → ⊥) → closing_step a [] c b ≡ leaves
closing_other a White b no_white no_greater = absurd (no_white refl)
closing_other a Greater b no_white no_greater = absurd (no_greater refl)
closing_other a c b no_white no_greater = refl
