use Rattle.std.proofs.Common.{ap, ◌∙◌, ◌++◌, sym, arith, List, ℕ, append-nil}
use Rattle.std.specs.String.{string_bytes}
use Rattle.std.specs.List.{flat_map}
use Rattle.std.specs.Slice.Iter.{chunks_rest}
use Rattle.std.proofs.lemmas.List.{nil_from_length}
use Rattle.report.specs.ScheduleTexts.{spaced}
use Rattle.report.proofs.NumbersAreSpaced.{spaced-next}
use Rattle.report.proofs.numbers.put_spaced.Goals as goal

pub put_some-requires : goal.put_some-requires
put_some-requires c = omega (arith, c.in-Some.ensures.steps.1.1)

pub loop-some-preserved : goal.loop-some-preserved
loop-some-preserved c = record {
  size = c.in-Some.ensures.steps.0 ∙ c.loop-some.invariant.size;
  written = spaced-next _ _ _ _ c.in-Some.some.now _ c.in-Some.ensures.steps.1.0 c.loop-some.invariant.written c.in_ok-put_some.ensures;
}

pub returns : goal.returns
returns c =
    sym (append-nil _)
    ∙ ap (λ (l : List ℕ). string_bytes c.loop-some.text ++ flat_map spaced l) (sym (nil_from_length (chunks_rest c.loop-some.some-iterator) c.in-None.ensures.steps.1.0))
    ∙ c.loop-some.invariant.written
