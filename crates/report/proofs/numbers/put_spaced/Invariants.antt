use Rattle.std.proofs.Common.{◌≡◌, ◌++◌}
use Rattle.std.specs.String.{string_bytes}
use Rattle.std.specs.List.{flat_map}
use Rattle.std.specs.Slice.Iter.{chunks_rest, chunks_size}
use Rattle.report.specs.ScheduleTexts.{spaced}
use Rattle.report.proofs.numbers.put_spaced.Given as goal

-- what is written and the numbers that are left are the text and all numbers
abbrev pub invariant-loop-some : goal.invariant-loop-some
invariant-loop-some l = record {
  size : chunks_size l.some-iterator ≡ 100;
  written : string_bytes l.text ++ flat_map spaced (chunks_rest l.some-iterator) ≡ string_bytes l.initial.text ++ flat_map spaced l.numbers;
}
