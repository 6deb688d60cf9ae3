use Rattle.std.proofs.Common.{◌≡◌, ◌≤◌, Some, ◌∙◌, ◌++◌, ◌∷◌, [], List, ℕ, Bor, true, false, not, sym, ap, map, subst, drop, ◌+◌, rules}
use Rattle.std.proofs.lemmas.List.{map-append, length-map}
use Rattle.std.specs.List.{list_any}
use Rattle.std.specs.Str.{bytes_eq}
use Rattle.std.specs.String.{string_bytes}
use Rattle.std.proofs.lemmas.Bool.{not-false, not-true}
use Rattle.sd_words.specs.Buffers.{with_parts}
use Rattle.sd_words.proofs.BufferParts.{next-part, part-none, part-taken, part-new, parts-end, same_names}
use Rattle.sd_words.proofs.buffers.buffers_of.Goals as goal

pub returns-in_default : goal.returns-in_default
returns-in_default c =
    let next = next-part (λ (p : Bor (List ℕ)). p.now) c.deref-part-items.result.now c.loop-part.part-index (record { ref_ptr = (0, 0); now = [] }) c.loop-part-test.true in
    let none = sym c.in_ok-buffer.ensures ∙ c.in_default.is in
    sym (ap (with_parts c.loop-part.buffers.items) next ∙ part-none _ _ _ none) ∙ c.loop-part.invariant.read

pub returns-then-not-branch : goal.returns-then-not-branch
returns-then-not-branch c =
    let next = next-part (λ (p : Bor (List ℕ)). p.now) c.deref-part-items.result.now c.loop-part.part-index (record { ref_ptr = (0, 0); now = [] }) c.loop-part-test.true in
    let some = sym c.in_ok-buffer.ensures ∙ c.in-Some.is in
    let old : not (list_any (λ k. bytes_eq c.in-Some.buffer.0 (string_bytes k)) c.loop-part.names.set.keys) ≡ false = search rules in
    let among = not-false _ (ap not (sym (same_names string_bytes c.loop-part.names.set.keys c.loop-part.buffers.items c.in-Some.buffer.0 c.loop-part.invariant.names)) ∙ old) in
    sym (ap (with_parts c.loop-part.buffers.items) next ∙ part-taken _ _ _ c.in-Some.buffer some among) ∙ c.loop-part.invariant.read

pub loop-part-preserved : goal.loop-part-preserved
loop-part-preserved c =
    let next = next-part (λ (p : Bor (List ℕ)). p.now) c.deref-part-items.result.now c.loop-part.part-index (record { ref_ptr = (0, 0); now = [] }) c.loop-part-test.true in
    let some = sym c.in_ok-buffer.ensures ∙ c.in-Some.is in
    let new : not (list_any (λ k. bytes_eq c.in-Some.buffer.0 (string_bytes k)) c.loop-part.names.set.keys) ≡ true = search rules in
    let among = not-true _ (ap not (sym (same_names string_bytes c.loop-part.names.set.keys c.loop-part.buffers.items c.in-Some.buffer.0 c.loop-part.invariant.names)) ∙ new) in
    let more : map string_bytes c.is_new.new.names.set.keys ≡ map string_bytes c.loop-part.names.set.keys ++ c.in-Some.buffer.0 ∷ [] = search rules in
    record {
      names = more ∙ (ap (λ ns. ns ++ c.in-Some.buffer.0 ∷ []) c.loop-part.invariant.names ∙ (sym (map-append _ c.loop-part.buffers.items (c.in-Some.buffer ∷ [])) ∙ ap (map (λ b. b.0)) (sym c.in_ok-push.ensures.items)));
      read = ap (λ bs. with_parts bs (drop (c.loop-part.part-index + 1) (map (λ (p : Bor (List ℕ)). p.now) c.deref-part-items.result.now))) c.in_ok-push.ensures.items ∙ (sym (ap (with_parts c.loop-part.buffers.items) next ∙ part-new _ _ _ c.in-Some.buffer some among) ∙ c.loop-part.invariant.read);
    }

pub returns : goal.returns
returns c =
    let end = parts-end c.loop-part.buffers.items (map (λ (p : Bor (List ℕ)). p.now) c.deref-part-items.result.now) c.loop-part.part-index
    (subst (λ n. n ≤ c.loop-part.part-index) (sym (length-map c.deref-part-items.result.now _)) c.loop-part-test.false) in
    ap Some c.from_vec.ensures ∙ (sym end ∙ c.loop-part.invariant.read)
