-- One more byte between tags or in a comment: what the machine says has been read is still so.
use Rattle.std.proofs.Common.{◌≡◌, ℕ, suc, inl, inr, refl, sym, ◌∙◌, subst, Bool, true, false, eqb, ltb, List, [], ◌∷◌, ◌++◌, append_assoc, append-nil, length, codes}
use Rattle.std.proofs.lemmas.Bool.{cases_Bool, eqb-false, ltb-true}
use Rattle.std.proofs.lemmas.List.{same_from_push}
use Rattle.file_text.specs.declared.class.Class.{Class}
use Rattle.file_text.specs.declared.class.Class.TheVariants.{Wide, White, Control, Letter, Hyphen, Less, Greater, Slash, Bang, Question, Ampersand}
use Rattle.file_text.specs.declared.mode.Mark.{Mark}
use Rattle.file_text.specs.declared.mode.Mark.TheVariants as mark_read
use Rattle.file_text.specs.declared.mode.Declaring.{Declaring}
use Rattle.file_text.specs.declared.mode.Declaring.TheVariants as declaring
use Rattle.file_text.specs.declared.mode.Comment.{Comment}
use Rattle.file_text.specs.declared.mode.Comment.TheVariants as part
use Rattle.file_text.specs.Grammar.{is_white, is_plain, IsName, byte, comment, mark}
use Rattle.file_text.specs.inside.Machine.{Around, prolog, within, epilog, at_start, in_mark, at_first, in_declaring, at_between, at_markup, in_comment, in_name, Step, goes, leaves, start_step, mark_step, first_step, declaring_step, between_step, close_step, open_step, markup_step, comment_step, follow}
use Rattle.file_text.proofs.ClassesMatchGrammar.{Known}
use Rattle.file_text.proofs.OverElements.{HasRoom}
use Rattle.file_text.proofs.ReadSoFar.{Reached, IsStartText, Clean, NoHyphen, Has, Holds}
use Rattle.file_text.proofs.TextsTakeOneMore.{gap_one, reached_item, open_item, clean_more, body_from_clean}
use Rattle.file_text.proofs.StepsStayTidy.{when_tidy}

-- what holds where a step leads
abbrev pub After : Bool → Step → List ℕ → Type 0
After strict s t = Holds strict (follow strict s) t

pub from_prolog : (strict : Bool) (a : Around) (t : List ℕ) → a ≡ prolog → Reached strict prolog t → Reached strict a t
from_prolog strict a t e reached = subst (λ (d : Around). Reached strict d t) (sym e) reached

-- the start alone
pub reached_start : (strict : Bool) (t : List ℕ) → IsStartText t → Reached strict prolog t
reached_start strict t is = (
  [],
  record {
    start = t;
    declaration = [];
    misc = [];
    is_start = is;
    is_declaration = inl (refl, refl);
    is_misc = ([], tt, refl);
    spelled = sym (append-nil t);
  },
  tt,
)

pub reached_white : (strict : Bool) (a : Around) (t : List ℕ) (c : Class) (b : ℕ) → Known c b → Reached strict a t → is_white b ≡ true → is_plain b ≡ true → Reached strict a (t ++ b ∷ [])
reached_white strict a t c b k reached white plain = reached_item strict a t (byte b) reached white plain

pub keeps_start : (strict : Bool) (a : Around) (t : List ℕ) (c : Class) (b : ℕ) → Known c b → Has strict a at_start t → After strict (start_step a c b) (t ++ b ∷ [])
keeps_start strict a t White b k (is, none) =
    reached_white strict a t White b k (from_prolog strict a t is (reached_start strict t (inl none))) k.white k.plain
keeps_start strict a t Less b k (is, none) = (is, ([], inl refl, rw (none, k.code) refl))
keeps_start strict a t Wide b k (is, none) =
    when_tidy (λ s. After strict s (t ++ b ∷ [])) b 0xEF (goes a (in_mark mark_read.First)) leaves (λ e. (is, rw (none, e) refl)) tt
keeps_start strict a t c b k has = tt

pub keeps_mark : (strict : Bool) (a : Around) (m : Mark) (t : List ℕ) (c : Class) (b : ℕ) → Known c b → Has strict a (in_mark m) t → After strict (mark_step a m c b) (t ++ b ∷ [])
keeps_mark strict a mark_read.First t Wide b k (is, read) =
    when_tidy (λ s. After strict s (t ++ b ∷ [])) b 0xBB (goes a (in_mark mark_read.Second)) leaves (λ e. (is, rw (read, e) refl)) tt
keeps_mark strict a mark_read.Second t Wide b k (is, read) =
    when_tidy (λ s. After strict s (t ++ b ∷ [])) b 0xBF (goes a (in_mark mark_read.Whole)) leaves (λ e. (is, rw (read, e) refl)) tt
keeps_mark strict a mark_read.Whole t White b k (is, read) =
    reached_white strict a t White b k (from_prolog strict a t is (reached_start strict t (inr read))) k.white k.plain
keeps_mark strict a mark_read.Whole t Less b k (is, read) = (is, (mark, inr refl, rw (read, k.code) refl))
keeps_mark strict a m t c b k has = tt

pub keeps_first : (strict : Bool) (a : Around) (t : List ℕ) (c : Class) (b : ℕ) → Known c b → Has strict a at_first t → After strict (first_step a c b) (t ++ b ∷ [])
keeps_first strict a t Question b k (is, (u, start, spelled)) = (is, (u, start, rw (spelled, k.code) (simp append_assoc)))
keeps_first strict a t Bang b k (is, (u, start, spelled)) =
    (u, codes "<!", from_prolog strict a u is (reached_start strict u start), refl, rw (spelled, k.code) (simp append_assoc))
keeps_first strict a t Letter b k (is, (u, start, spelled)) =
    (u, from_prolog strict a u is (reached_start strict u start), subst HasRoom (sym is) tt, (k.begins, tt), rw spelled (simp append_assoc))
keeps_first strict a t Wide b k (is, (u, start, spelled)) =
    (u, from_prolog strict a u is (reached_start strict u start), subst HasRoom (sym is) tt, (k.begins, tt), rw spelled (simp append_assoc))
keeps_first strict a t c b k has = tt

pub keeps_declaring : (strict : Bool) (a : Around) (d : Declaring) (t : List ℕ) (c : Class) (b : ℕ) → Known c b → Has strict a (in_declaring d) t → After strict (declaring_step a d c b) (t ++ b ∷ [])
keeps_declaring strict a declaring.Question t Letter b k (is, (u, start, spelled)) =
    when_tidy (λ s. After strict s (t ++ b ∷ [])) b 120 (goes a (in_declaring declaring.X)) leaves (λ e. (is, (u, start, rw (spelled, e) (simp append_assoc)))) tt
keeps_declaring strict a declaring.X t Letter b k (is, (u, start, spelled)) =
    when_tidy (λ s. After strict s (t ++ b ∷ [])) b 109 (goes a (in_declaring declaring.Xm)) leaves (λ e. (is, (u, start, rw (spelled, e) (simp append_assoc)))) tt
keeps_declaring strict a declaring.Xm t Letter b k (is, (u, start, spelled)) =
    when_tidy (λ s. After strict s (t ++ b ∷ [])) b 108 (goes a (in_declaring declaring.Xml)) leaves (λ e. (is, (u, start, rw (spelled, e) (simp append_assoc)))) tt
keeps_declaring strict a declaring.Xml t White b k (is, (u, start, spelled)) = (
  t,
  b ∷ [],
  record {
    front = t;
    middle = [];
    is_front = (is, (u, start, spelled));
    are_attributes = refl;
    are_distinct = tt;
    allowed = tt;
    spelled = sym (append-nil t);
  },
  gap_one b k.white,
  refl,
)
keeps_declaring strict a d t c b k has = tt

-- between tags
pub keeps_between : (strict : Bool) (a : Around) (t : List ℕ) (c : Class) (b : ℕ) → Known c b → Has strict a at_between t → After strict (between_step a c) (t ++ b ∷ [])
keeps_between strict a t White b k has = reached_white strict a t White b k has k.white k.plain
keeps_between strict a t Less b k has = (t, has, rw k.code refl)
keeps_between strict (within o os) t Control b k has = tt
keeps_between strict (within o os) t Ampersand b k has = (t, has, tt, rw k.code refl)
keeps_between strict (within o os) t c b k has = open_item strict o os t (byte b) has k.plain
keeps_between strict a t c b k has = tt

opens_here : (strict : Bool) (a : Around) (t : List ℕ) (b : ℕ) → Reached strict a t → HasRoom a → IsName (b ∷ []) → Has strict a (in_name (b ∷ [])) ((t ++ codes "<") ++ b ∷ [])
opens_here strict a t b reached room named = (t, reached, room, named, simp append_assoc)

keeps_open : (strict : Bool) (a : Around) (t : List ℕ) (b : ℕ) → Reached strict a t → IsName (b ∷ []) → After strict (open_step a b) ((t ++ codes "<") ++ b ∷ [])
keeps_open strict prolog t b reached named = opens_here strict prolog t b reached tt named
keeps_open strict (within o os) t b reached named = elim (cases_Bool (ltb (suc (length os)) 32)) [
  | inl e ↦ rw e (opens_here strict (within o os) t b reached (ltb-true (suc (length os)) 32 e) named)
  | inr e ↦ rw e tt
]
keeps_open strict (epilog e) t b reached named = tt

keeps_close : (strict : Bool) (a : Around) (t : List ℕ) (b : ℕ) → b ≡ 47 → Reached strict a t → After strict (close_step a) ((t ++ codes "<") ++ b ∷ [])
keeps_close strict prolog t b e reached = tt
keeps_close strict (within o os) t b e reached = (t, [], [], reached, refl, tt, inl refl, rw e (simp append_assoc))
keeps_close strict (epilog x) t b e reached = tt

pub keeps_markup : (strict : Bool) (a : Around) (t : List ℕ) (c : Class) (b : ℕ) → Known c b → Has strict a at_markup t → After strict (markup_step a c b) (t ++ b ∷ [])
keeps_markup strict a t Bang b k (u, reached, spelled) = (u, codes "<!", reached, refl, rw (spelled, k.code) (simp append_assoc))
keeps_markup strict a t Slash b k (u, reached, spelled) = rw spelled (keeps_close strict a u b k.code reached)
keeps_markup strict a t Letter b k (u, reached, spelled) = rw spelled (keeps_open strict a u b reached (k.begins, tt))
keeps_markup strict a t Wide b k (u, reached, spelled) = rw spelled (keeps_open strict a u b reached (k.begins, tt))
keeps_markup strict a t c b k has = tt

-- in a comment
no_hyphen_end : (body c : List ℕ) → NoHyphen body → body ≡ c ++ 45 ∷ 45 ∷ [] → ⊥
no_hyphen_end body c none e = none (c ++ 45 ∷ []) (e ∙ sym (append_assoc c (45 ∷ []) (45 ∷ [])))

one_hyphen_end : (body c : List ℕ) → NoHyphen body → body ++ 45 ∷ [] ≡ c ++ 45 ∷ 45 ∷ [] → ⊥
one_hyphen_end body c none e =
    none c (same_from_push body (c ++ 45 ∷ []) 45 45 (e ∙ sym (append_assoc c (45 ∷ []) (45 ∷ [])))).0

other_end : (t : List ℕ) (b : ℕ) → eqb b 45 ≡ false → NoHyphen (t ++ b ∷ [])
other_end t b other c e = eqb-false b 45 other (same_from_push t c b 45 e).1

-- a character that is no hyphen behind the body so far
body_goes : (strict : Bool) (a : Around) (t u body : List ℕ) (b : ℕ) → Reached strict a u → Clean (body ++ b ∷ []) → eqb b 45 ≡ false
    → t ≡ u ++ (codes "<!--" ++ body) → Has strict a (in_comment part.Body) (t ++ b ∷ [])
body_goes strict a t u body b reached clean other spelled =
    (u, codes "<!--" ++ (body ++ b ∷ []), reached, (body ++ b ∷ [], clean, other_end body b other, refl), rw spelled (simp append_assoc))

keeps_body : (strict : Bool) (a : Around) (t : List ℕ) (c : Class) (b : ℕ) → Known c b → Has strict a (in_comment part.Body) t → After strict (comment_step a part.Body c) (t ++ b ∷ [])
keeps_body strict a t Hyphen b k (u, v, reached, (body, clean, none, piece), spelled) = (
  u,
  codes "<!--" ++ (body ++ 45 ∷ []),
  reached,
  (body, clean_more body 45 clean refl (λ c e _. no_hyphen_end body c none e), none, refl),
  rw (spelled, piece, k.code) (simp append_assoc),
)
keeps_body strict a t Control b k has = tt
keeps_body strict a t c b k (u, v, reached, (body, clean, none, piece), spelled) =
    body_goes strict a t u body b reached (clean_more body b clean k.character (λ d e _. no_hyphen_end body d none e)) k.hyphen (rw piece at spelled)

keeps_hyphen : (strict : Bool) (a : Around) (t : List ℕ) (c : Class) (b : ℕ) → Known c b → Has strict a (in_comment part.Hyphen) t → After strict (comment_step a part.Hyphen c) (t ++ b ∷ [])
keeps_hyphen strict a t Hyphen b k (u, v, reached, (body, clean, none, piece), spelled) = (
  u,
  codes "<!--" ++ (body ++ 45 ∷ 45 ∷ []),
  reached,
  (body, subst Clean (append_assoc body (45 ∷ []) (45 ∷ [])) (clean_more (body ++ 45 ∷ []) 45 clean refl (λ c e _. one_hyphen_end body c none e)), refl),
  rw (spelled, piece, k.code) (simp append_assoc),
)
keeps_hyphen strict a t Control b k has = tt
keeps_hyphen strict a t c b k (u, v, reached, (body, clean, none, piece), spelled) =
    body_goes strict a t u (body ++ 45 ∷ []) b reached (clean_more (body ++ 45 ∷ []) b clean k.character (λ d e _. one_hyphen_end body d none e)) k.hyphen (rw piece at spelled)

hyphen_no_end : ◌≡◌ {A = ℕ} 45 62 → ⊥
hyphen_no_end e = cc

keeps_hyphens : (strict : Bool) (a : Around) (t : List ℕ) (c : Class) (b : ℕ) → Known c b → Has strict a (in_comment part.Hyphens) t → After strict (comment_step a part.Hyphens c) (t ++ b ∷ [])
keeps_hyphens strict a t Hyphen b k (u, v, reached, (body, clean, piece), spelled) = (
  u,
  codes "<!--" ++ ((body ++ 45 ∷ []) ++ 45 ∷ 45 ∷ []),
  reached,
  (body ++ 45 ∷ [], subst Clean (simp append_assoc) (clean_more (body ++ 45 ∷ 45 ∷ []) 45 clean refl (λ c e f. hyphen_no_end f)), refl),
  rw (spelled, piece, k.code) (simp append_assoc),
)
keeps_hyphens strict a t Greater b k (u, v, reached, (body, clean, piece), spelled) =
    let is = body_from_clean body clean in
    subst (λ (s : List ℕ). Reached strict a s) (rw (spelled, piece, k.code) (simp append_assoc)) (reached_item strict a u (comment body) reached is is)
keeps_hyphens strict a t Control b k has = tt
keeps_hyphens strict a t c b k (u, v, reached, (body, clean, piece), spelled) =
    body_goes strict a t u (body ++ 45 ∷ 45 ∷ []) b reached
    (clean_more (body ++ 45 ∷ 45 ∷ []) b clean k.character (λ d e f. eqb-false b 62 k.greater f)) k.hyphen (rw piece at spelled)

nothing_ends : (c : List ℕ) → [] ≡ c ++ 45 ∷ [] → ⊥
nothing_ends [] e = cc
nothing_ends (x ∷ c) e = cc

pub keeps_comment : (strict : Bool) (a : Around) (m : Comment) (t : List ℕ) (c : Class) (b : ℕ) → Known c b → Has strict a (in_comment m) t → After strict (comment_step a m c) (t ++ b ∷ [])
keeps_comment strict a part.Bang t Hyphen b k (u, v, reached, piece, spelled) = (u, codes "<!-", reached, refl, rw (spelled, piece, k.code) (simp append_assoc))
keeps_comment strict a part.Bang t c b k has = tt
keeps_comment strict a part.Dash t Hyphen b k (u, v, reached, piece, spelled) =
    (u, codes "<!--", reached, ([], tt, (λ c e. nothing_ends c e), refl), rw (spelled, piece, k.code) (simp append_assoc))
keeps_comment strict a part.Dash t c b k has = tt
keeps_comment strict a part.Body t c b k has = keeps_body strict a t c b k has
keeps_comment strict a part.Hyphen t c b k has = keeps_hyphen strict a t c b k has
keeps_comment strict a part.Hyphens t c b k has = keeps_hyphens strict a t c b k has
