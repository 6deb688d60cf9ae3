-- The texts of the entries that a loop writes with a separator between are joined by it.
use Rattle.std.proofs.Common.{◌≡◌, ℕ, ◌+◌, List, [], ◌∷◌, ◌++◌, Option, Some, None, length, refl, sym, ap, ◌∙◌, add-one}
use Rattle.std.specs.Prelude.{slice_index, slice_index_or, codes}
use Rattle.std.specs.List.{flat_map}
use Rattle.std.proofs.lemmas.List.{append_assoc, append-nil}
use Rattle.std.proofs.lemmas.Grind.{flat_map-append}
use Rattle.sd_base.specs.declared.tables.GraphFile.{GraphFile}
use Rattle.sd_base.specs.Net.{Net, channel_at}
use Rattle.sd_base.specs.declared.role.Role.{Role}
use Rattle.report.specs.ListTexts.{joined, piece_of, pieces_of}
use Rattle.report.specs.LackTexts.{lack_text, lack_on, lacks_list}
use Rattle.report.specs.StorageTexts.{buffer_on, capacities_list, listed}

-- what stands before the next piece
abbrev pub between : List ℕ → List (List ℕ) → List ℕ
between sep [] = []
between sep (piece ∷ pieces) = sep

joined-more : (sep : List ℕ) (pieces : List (List ℕ)) (piece : List ℕ) → joined sep (pieces ++ piece ∷ []) ≡ (joined sep pieces ++ between sep pieces) ++ piece
joined-more sep [] piece = append-nil piece
joined-more sep (first ∷ pieces) piece =
    let put : List ℕ → List ℕ = λ y. sep ++ y in
    let split : flat_map put (pieces ++ piece ∷ []) ≡ flat_map put pieces ++ flat_map put (piece ∷ []) = flat_map-append put pieces (piece ∷ []) in
    let last : flat_map put (piece ∷ []) ≡ sep ++ piece = append-nil (sep ++ piece) in
    ap (λ (l : List ℕ). first ++ l) (split ∙ ap (λ (l : List ℕ). flat_map put pieces ++ l) last)
    ∙ (sym (append_assoc first (flat_map put pieces) (sep ++ piece)) ∙ sym (append_assoc (first ++ flat_map put pieces) sep piece))

between-more : (sep : List ℕ) (pieces : List (List ℕ)) (piece : List ℕ) → between sep (pieces ++ piece ∷ []) ≡ sep
between-more sep [] piece = refl
between-more sep (first ∷ pieces) piece = refl

none-left : (o : Option ℕ) → ((i : ℕ) → o ≡ Some i → ⊥) → None ≡ o
none-left None none = refl
none-left (Some i) none = absurd (none i refl)

module _ (sep : List ℕ) (show : ℕ → ℕ → List ℕ) (entries : List (Option ℕ)) where
  pub text-start : (start : List ℕ) → start ≡ start ++ joined sep (pieces_of show entries 0)
  unfolding pieces_of
  text-start start = sym (append-nil start)

  pub between-start : [] ≡ between sep (pieces_of show entries 0)
  unfolding pieces_of
  between-start = refl

  pieces-next : (i : ℕ) (found : Option ℕ) → found ≡ slice_index_or entries i None → pieces_of show entries (i + 1) ≡ pieces_of show entries i ++ piece_of (show i) found
  unfolding pieces_of
  pieces-next i found same = rw add-one (ap (λ (o : Option ℕ). pieces_of show entries i ++ piece_of (show i) o) (sym same))

  pieces-skip : (i : ℕ) → ((k : ℕ) → slice_index_or entries i None ≡ Some k → ⊥) → pieces_of show entries i ≡ pieces_of show entries (i + 1)
  pieces-skip i none = sym (pieces-next i None (none-left (slice_index_or entries i None) none) ∙ append-nil (pieces_of show entries i))

  pieces-more : (i k : ℕ) → slice_index_or entries i None ≡ Some k → pieces_of show entries (i + 1) ≡ pieces_of show entries i ++ show i k ∷ []
  pieces-more i k some = pieces-next i (Some k) (sym some)

  pub text-skip : (i : ℕ) (start text : List ℕ) → ((k : ℕ) → slice_index_or entries i None ≡ Some k → ⊥) → text ≡ start ++ joined sep (pieces_of show entries i)
      → text ≡ start ++ joined sep (pieces_of show entries (i + 1))
  text-skip i start text none kept = kept ∙ ap (λ pieces. start ++ joined sep pieces) (pieces-skip i none)

  pub between-skip : (i : ℕ) (before : List ℕ) → ((k : ℕ) → slice_index_or entries i None ≡ Some k → ⊥) → before ≡ between sep (pieces_of show entries i)
      → before ≡ between sep (pieces_of show entries (i + 1))
  between-skip i before none kept = kept ∙ ap (between sep) (pieces-skip i none)

  pub text-more : (i k : ℕ) (start text before spaced piece new : List ℕ) → slice_index_or entries i None ≡ Some k → piece ≡ show i k
      → text ≡ start ++ joined sep (pieces_of show entries i) → before ≡ between sep (pieces_of show entries i) → spaced ≡ text ++ before → new ≡ spaced ++ piece
      → new ≡ start ++ joined sep (pieces_of show entries (i + 1))
  text-more i k start text before spaced piece new some here kept separates one other =
      let pieces = pieces_of show entries i in
      let written : spaced ≡ (start ++ joined sep pieces) ++ between sep pieces = one ∙ (ap (λ (l : List ℕ). l ++ before) kept ∙ ap (λ (l : List ℕ). (start ++ joined sep pieces) ++ l) separates) in
      let more : (joined sep pieces ++ between sep pieces) ++ show i k ≡ joined sep (pieces_of show entries (i + 1)) = sym (joined-more sep pieces (show i k)) ∙ ap (joined sep) (sym (pieces-more i k some)) in
      other ∙ (ap (λ (l : List ℕ). spaced ++ l) here ∙ (ap (λ (l : List ℕ). l ++ show i k) (written ∙ append_assoc start (joined sep pieces) (between sep pieces))
      ∙ (append_assoc start (joined sep pieces ++ between sep pieces) (show i k) ∙ ap (λ (l : List ℕ). start ++ l) more)))

  pub between-then : (i k : ℕ) (before : List ℕ) → slice_index_or entries i None ≡ Some k → before ≡ sep → before ≡ between sep (pieces_of show entries (i + 1))
  between-then i k before some is = is ∙ (sym (between-more sep (pieces_of show entries i) (show i k)) ∙ ap (between sep) (sym (pieces-more i k some)))

-- what an actor lacks
pub lack-here : (g : GraphFile) (net : Net) (counts : List ℕ) (a i fired round : ℕ) (role : Role) → fired ≡ slice_index counts a → round ≡ slice_index net.round a → role ≡ (channel_at net i).role
    → lack_text g a fired round role ≡ lack_on g net a (slice_index counts a) i
lack-here g net counts a i fired round role first second third = rw (first, second, third) refl

pub lacks-end : (g : GraphFile) (net : Net) (counts : List ℕ) (lacks : List (Option ℕ)) (n : ℕ) (text : List ℕ) → length net.times ≡ n
    → text ≡ joined (codes ", ") (pieces_of (λ a i. lack_on g net a (slice_index counts a) i) lacks n) → text ≡ lacks_list g net counts lacks
unfolding lacks_list
lacks-end g net counts lacks n text all kept = kept ∙ ap (λ (k : ℕ). joined (codes ", ") (pieces_of (λ a i. lack_on g net a (slice_index counts a) i) lacks k)) (sym all)

-- a list of no pieces is a hyphen
listed-none : (pieces : List (List ℕ)) (before start text new : List ℕ) → before ≡ between (codes ",") pieces → before ≡ [] → text ≡ start ++ joined (codes ",") pieces → new ≡ text ++ codes "-"
    → new ≡ start ++ listed pieces
unfolding listed
listed-none [] before start text new is none kept more = more ∙ ap (λ (l : List ℕ). l ++ codes "-") (kept ∙ append-nil start)
listed-none (piece ∷ pieces) before start text new is none kept more = absurd (cc (is, none))

listed-some : (pieces : List (List ℕ)) (before start text : List ℕ) → before ≡ between (codes ",") pieces → (before ≡ [] → ⊥) → text ≡ start ++ joined (codes ",") pieces → text ≡ start ++ listed pieces
unfolding listed
listed-some [] before start text is some kept = absurd (some is)
listed-some (piece ∷ pieces) before start text is some kept = kept

module _ (names : List (List ℕ)) (ds : List (Option ℕ)) (n : ℕ) (all : length ds ≡ n) (before start text : List ℕ) where
  pub buffers-none : (new : List ℕ) → before ≡ between (codes ",") (pieces_of (buffer_on names) ds n) → before ≡ [] → text ≡ start ++ joined (codes ",") (pieces_of (buffer_on names) ds n) → new ≡ text ++ codes "-"
      → new ≡ start ++ capacities_list names ds
  unfolding capacities_list
  buffers-none new is none kept more = listed-none (pieces_of (buffer_on names) ds n) before start text new is none kept more ∙ ap (λ (k : ℕ). start ++ listed (pieces_of (buffer_on names) ds k)) (sym all)

  pub buffers-some : before ≡ between (codes ",") (pieces_of (buffer_on names) ds n) → (before ≡ [] → ⊥) → text ≡ start ++ joined (codes ",") (pieces_of (buffer_on names) ds n) → text ≡ start ++ capacities_list names ds
  unfolding capacities_list
  buffers-some is some kept = listed-some (pieces_of (buffer_on names) ds n) before start text is some kept ∙ ap (λ (k : ℕ). start ++ listed (pieces_of (buffer_on names) ds k)) (sym all)
