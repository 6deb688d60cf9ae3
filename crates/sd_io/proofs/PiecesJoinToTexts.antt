-- Pieces that are sent one after another are sent as one text.
use Rattle.std.proofs.Common.{◌≡◌, ℕ, ◌+◌, ◌-◌, ◌≤◌, List, ◌++◌, length, take, drop, Option, Some, None, refl, sym, ap, ◌∙◌}
use Rattle.std.proofs.Math.Seq.{take-add}
use Rattle.std.proofs.lemmas.List.{take-take, append_assoc}
use Rattle.sd_io.specs.Outside.{with_sent}

-- two pieces one after another are the two together
with_sent-twice : (p q : List ℕ) (o : Option (List ℕ)) → with_sent q (with_sent p o) ≡ with_sent (p ++ q) o
with_sent-twice p q None = refl
with_sent-twice p q (Some s) = ap (λ (l : List ℕ). Some l) (append_assoc s p q)

-- after the first d bytes and n of what is left, the first d + n are sent
pub sent_more : (start before after : Option (List ℕ)) (text : List ℕ) (d n : ℕ) → n ≤ length text - d
    → before ≡ with_sent (take d text) start → after ≡ with_sent (take n (take (length text - d) (drop d text))) before
    → after ≡ with_sent (take (d + n) text) start
sent_more start before after text d n few was is =
    is ∙ ap (λ (p : List ℕ). with_sent p before) (take-take n (length text - d) (drop d text) few)
    ∙ ap (λ (o : Option (List ℕ)). with_sent (take n (drop d text)) o) was
    ∙ with_sent-twice (take d text) (take n (drop d text)) start
    ∙ ap (λ (p : List ℕ). with_sent p start) (sym (take-add d n text))
