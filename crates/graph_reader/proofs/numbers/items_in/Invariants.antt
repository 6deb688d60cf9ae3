use Rattle.std.proofs.Common.{◌≡◌, length, map}
use Rattle.std.specs.List.{slice_split}
use Rattle.std.specs.Option.{option_map}
use Rattle.graph_reader.specs.NumberTexts.{items_of}
use Rattle.graph_reader.specs.inside.Capped.{capped}
use Rattle.graph_reader.proofs.ItemLists.{after, comma}
use Rattle.graph_reader.proofs.numbers.items_in.Given as goal
use denote.Shadow.{shadow}
use denote.Text.{Utf8}

-- the items so far, before those of what is left
abbrev pub invariant-loop-first : goal.invariant-loop-first
invariant-loop-first l = record {
  text : shadow (Utf8 l.left);
  same : after l.items.items (items_of (slice_split comma l.left)) ≡ option_map (map capped) (items_of (slice_split comma l.text));
}

abbrev pub decreases-loop-first : goal.decreases-loop-first
decreases-loop-first l = length l.left
