-- The value of `--buffers`, part by part.
use Rattle.std.proofs.Common.{◌≡◌, ℕ, suc, ◌+◌, ◌<◌, true, false, cond, List, [], ◌∷◌, ◌++◌, length, get_or, drop, map, Some, None, sym, ap, ◌∙◌, subst, add-one, ◌≤◌}
use Rattle.std.specs.Option.{option_and_then}
use Rattle.std.specs.List.{list_any}
use Rattle.std.specs.Str.{bytes_eq}
use Rattle.std.proofs.Math.Seq.{drop-cons}
use Rattle.std.proofs.lemmas.List.{at_drop_all, get_or-map, length-map}
use Rattle.sd_base.proofs.ElementsKeepPlaces.{any-map}
use Rattle.sd_words.specs.Buffers.{Buffer, buffer_of, with_buffer, with_parts}

-- a name is among the keys exactly where a buffer has it
pub same_names : {K : Type 0} (text : K → List ℕ) (keys : List K) (bs : List Buffer) (name : List ℕ) → map text keys ≡ map (λ b. b.0) bs
    → list_any (λ k. bytes_eq name (text k)) keys ≡ list_any (λ b. bytes_eq name b.0) bs
same_names text keys bs name same = any-map text (bytes_eq name) keys ∙ (ap (list_any (bytes_eq name)) same ∙ sym (any-map (λ (b : Buffer). b.0) (bytes_eq name) bs))

-- the parts that are left begin with the next one
pub next-part : {P : Type 0} (now : P → List ℕ) (items : List P) (i : ℕ) (d : P) → i < length items → drop i (map now items) ≡ now (get_or items i d) ∷ drop (i + 1) (map now items)
next-part now items i d h =
    drop-cons (map now items) i [] (subst (λ n. i < n) (sym (length-map items now)) h)
    ∙ (ap (λ p. p ∷ drop (suc i) (map now items)) (get_or-map now items i d [] h) ∙ ap (λ k. now (get_or items i d) ∷ drop k (map now items)) (sym (add-one i)))

-- a part that is no buffer
pub part-none : (bs : List Buffer) (p : List ℕ) (ps : List (List ℕ)) → buffer_of p ≡ None → with_parts bs (p ∷ ps) ≡ None
unfolding with_parts
part-none bs p ps e = ap (option_and_then (λ b. option_and_then (λ more. with_parts more ps) (with_buffer bs b))) e

-- one whose channel another has
pub part-taken : (bs : List Buffer) (p : List ℕ) (ps : List (List ℕ)) (b : Buffer) → buffer_of p ≡ Some b → list_any (λ a. bytes_eq b.0 a.0) bs ≡ true → with_parts bs (p ∷ ps) ≡ None
unfolding with_parts with_buffer
part-taken bs p ps b e taken =
    ap (option_and_then (λ b. option_and_then (λ more. with_parts more ps) (with_buffer bs b))) e
    ∙ ap (λ t. option_and_then (λ more. with_parts more ps) (cond t None (Some (bs ++ b ∷ [])))) taken

-- one more buffer
pub part-new : (bs : List Buffer) (p : List ℕ) (ps : List (List ℕ)) (b : Buffer) → buffer_of p ≡ Some b → list_any (λ a. bytes_eq b.0 a.0) bs ≡ false
    → with_parts bs (p ∷ ps) ≡ with_parts (bs ++ b ∷ []) ps
unfolding with_parts with_buffer
part-new bs p ps b e new =
    ap (option_and_then (λ b. option_and_then (λ more. with_parts more ps) (with_buffer bs b))) e
    ∙ ap (λ t. option_and_then (λ more. with_parts more ps) (cond t None (Some (bs ++ b ∷ [])))) new

pub parts-end : (bs : List Buffer) (ps : List (List ℕ)) (i : ℕ) → length ps ≤ i → with_parts bs (drop i ps) ≡ Some bs
unfolding with_parts
parts-end bs ps i past = at_drop_all (with_parts bs) ps i past
