use Rattle.std.proofs.Common.{◌≡◌, ◌+◌, ◌-◌, false, [], ◌∷◌, ◌++◌, take, drop, slice_index, refl, sym, ap, ◌∙◌, arith}
use Rattle.std.proofs.lemmas.List.{take_rest}
use Rattle.file_text.specs.declared.due.Due.TheVariants.{Nothing}
use Rattle.file_text.specs.declared.mode.Mode.TheVariants as mode
use Rattle.file_text.specs.declared.scanner.Held.TheVariants as held
use Rattle.file_text.specs.declared.characters.Run.TheVariants as run_of
use Rattle.file_text.specs.inside.AttributeNames.{has_name}
use Rattle.file_text.specs.inside.Machine.{at_gap, at_valued, tag}
use Rattle.file_text.specs.inside.Runs.{IsRun}
use Rattle.file_text.specs.inside.Seen.{around_of, state_of}
use Rattle.file_text.proofs.PassedRuns.{run-as}
use Rattle.file_text.proofs.TagsPassWhole.{past-attribute}
use Rattle.file_text.proofs.scanner.Scanner.pass_whole_attribute.Goals as goal

pub returns-clause-same : goal.returns-clause-same
returns-clause-same c =
    let s = c.args.self.now in
    let t = s.tag in
    let bytes = c.args.bytes.now in
    let n = c.run_len-count.result in
    let v = c.run_len.result in
    let q = slice_index bytes (n + 1) in
    let value-is : IsRun (run_of.Value q) (drop (n + 2) bytes) v = rw (take_rest bytes (n + 2)) at c.run_len.ensures in
    let less : n + 2 + v - (n + 2) ≡ v = omega arith in
    let name : c.text_of-name.result.now ≡ take n bytes = c.text_of-name.ensures in
    let value : c.text_of.result.now ≡ take v (drop (n + 2) bytes) = c.text_of.ensures ∙ ap (λ k. take k (drop (n + 2) bytes)) less in
    let is_tag : t.held ≡ held.Tag = c.is_tag.ensures c.if-not-is_tag.false in
    let added : c.add.new.self ≡ t.attributes ++ record { name = take n bytes; value = take v (drop (n + 2) bytes) } ∷ [] = c.in_ok-add.ensures ∙ rw (name, value) refl in
    let new : has_name (take n bytes) t.attributes ≡ false = rw name at (sym c.has.ensures ∙ c.if-has.false) in
    let before : state_of s ≡ record { due = Nothing; spot = (around_of s, at_gap (tag t.name.items) t.attributes) } = rw (c.requires.due, c.requires.mode, is_tag) refl in
    let after : state_of (record s { mode = mode.Valued; tag = record t { attributes = c.add.new.self } }) ≡ record { due = Nothing; spot = (around_of s, at_valued (tag t.name.items) (t.attributes ++ record { name = take n bytes; value = take v (drop (n + 2) bytes) } ∷ [])) } =
    rw (c.requires.due, is_tag, added) refl in
    run-as _ before after (past-attribute (around_of s) t.name.items t.attributes bytes n v q (sym c.is_name_start.ensures ∙ c.if-not-is_name_start.false)
    (λ none. omega (arith, none, c.if-count-eq0.false)) c.run_len-count.ensures (c.opens_value.ensures.within c.if-not-opens_value.false) (c.opens_value.ensures.equals c.if-not-opens_value.false) refl
    (c.opens_value.ensures.quote c.if-not-opens_value.false) value-is (omega (arith, c.if-end-bytes.false)) c.if-bytes-end.false new)
