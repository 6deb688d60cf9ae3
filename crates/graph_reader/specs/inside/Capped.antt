-- Numbers that are held at a greatest one, above which no limit stands.
use Rattle.std.specs.Prelude.{min}
use Rattle.graph_reader.specs.declared.numbers.TheConstants.{GREATEST}
use Rattle.graph_reader.specs.declared.numbers.Item.{Item}

-- an item whose numbers are
abbrev pub capped : Item → Item
capped i = record { count = min i.count GREATEST; value = min i.value GREATEST }
