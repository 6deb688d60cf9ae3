-- Bytes that go on with an entity.
use Rattle.std.proofs.Common.{◌≡◌, ◌≢◌, ℕ, ◌+◌, ◌<◌, true, List, [], ◌∷◌, ◌++◌, length, take, slice_index, Option, Some, None, refl, ap, ◌∙◌, subst, sym, arith}
use Rattle.std.proofs.lemmas.List.{take_more}
use Rattle.file_text.specs.declared.due.Due.TheVariants.{Nothing}
use Rattle.file_text.specs.declared.reference.Reference.{Reference}
use Rattle.file_text.specs.declared.reference.Referred.{Referred}
use Rattle.file_text.specs.declared.reference.Referred.TheVariants.{More, Done, Leaves}
use Rattle.file_text.specs.declared.tree.Attribute.{Attribute}
use Rattle.file_text.specs.inside.Utf8.{due_along}
use Rattle.file_text.specs.inside.Machine.{Around, Holder, in_text_reference, in_value_reference, text_reference_step, value_reference_step, referred, table, Spot, follow, walk}
use Rattle.file_text.specs.inside.Runs.{IsPartOfEntity}
use Rattle.file_text.proofs.MachineWalks.{walk-append}
use Rattle.file_text.proofs.TidyRuns.{IsAsciiRead, ascii_read}
use Rattle.file_text.proofs.BytesSpellUtf8.{due_along-append, ascii_along}

pub entity-begins : (r : Reference) (bs : List ℕ) → IsPartOfEntity r bs 0 (More r)
entity-begins r bs = record { within = omega arith; whole = refl; read = λ e. cc; text = λ a. refl; value = λ a h xs name quote read. refl }

low : (b : ℕ) (s : Referred) → s ≢ Leaves → IsAsciiRead b s → b < 128
low b (More r) some ascii = ascii
low b (Done c) some ascii = ascii
low b Leaves some ascii = absurd (some refl)

at-end : (o : Option Spot) → walk true o [] ≡ o
at-end None = refl
at-end (Some s) = refl

text-step : (a : Around) (r : Reference) (b : ℕ) → walk true (Some (a, in_text_reference r)) (b ∷ []) ≡ follow true (text_reference_step a (referred r b))
unfolding table
text-step a r b = at-end (follow true (text_reference_step a (referred r b)))

value-step : (a : Around) (h : Holder) (xs : List Attribute) (name : List ℕ) (quote : ℕ) (read : List ℕ) (r : Reference) (b : ℕ) →
    walk true (Some (a, in_value_reference h xs name quote read r)) (b ∷ []) ≡ follow true (value_reference_step a h xs name quote read (referred r b))
unfolding table
value-step a h xs name quote read r b = at-end (follow true (value_reference_step a h xs name quote read (referred r b)))

pub entity-more : (from r : Reference) (made : Referred) (bs : List ℕ) (n : ℕ) → IsPartOfEntity from bs n (More r) → n < length bs → made ≡ referred r (slice_index bs n) → made ≢ Leaves → IsPartOfEntity from bs (n + 1) made
entity-more from r made bs n front some is read =
    let b : ℕ = slice_index bs n in
    let more : take (n + 1) bs ≡ take n bs ++ b ∷ [] = take_more bs n 0 some in
    let ascii : b < 128 = low b made read (subst (IsAsciiRead b) (sym is) (ascii_read r b)) in
    record {
      within = omega arith;
      whole = ap (due_along (Some Nothing)) more ∙ due_along-append (Some Nothing) (take n bs) (b ∷ []) ∙ ap (λ (d : Option _). due_along d (b ∷ [])) front.whole ∙ ascii_along b [] ascii;
      read = read;
      text = λ a.
          ap (walk true (Some (a, in_text_reference from))) more ∙ walk-append true (Some (a, in_text_reference from)) (take n bs) (b ∷ [])
          ∙ ap (λ (o : Option Spot). walk true o (b ∷ [])) (front.text a) ∙ text-step a r b ∙ ap (λ (s : Referred). follow true (text_reference_step a s)) (sym is);
      value = λ a h xs name quote value.
          ap (walk true (Some (a, in_value_reference h xs name quote value from))) more ∙ walk-append true (Some (a, in_value_reference h xs name quote value from)) (take n bs) (b ∷ [])
          ∙ ap (λ (o : Option Spot). walk true o (b ∷ [])) (front.value a h xs name quote value) ∙ value-step a h xs name quote value r b
          ∙ ap (λ (s : Referred). follow true (value_reference_step a h xs name quote value s)) (sym is);
    }
