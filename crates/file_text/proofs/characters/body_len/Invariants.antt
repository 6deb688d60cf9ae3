use Rattle.std.proofs.Common.{◌-◌, length, take}
use Rattle.file_text.specs.inside.Runs.{IsPartOfBody, place_behind}
use Rattle.file_text.proofs.characters.body_len.Given as goal

abbrev pub invariant-loop-count : goal.invariant-loop-count
invariant-loop-count l = IsPartOfBody l.comment (place_behind l.comment (take l.count l.bytes)) l.bytes l.count

abbrev pub decreases-loop-count : goal.decreases-loop-count
decreases-loop-count l = length l.bytes - l.count
