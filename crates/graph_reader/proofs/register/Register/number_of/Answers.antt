use Rattle.std.proofs.Common.{◌∙◌}
use Rattle.std.specs.String.{string_bytes}
use Rattle.graph_reader.proofs.NamesFindRows.{key-number}
use Rattle.graph_reader.proofs.register.Register.number_of.Goals as goal

pub returns : goal.returns
returns g c =
    c.get_index_of.ensures.index
    ∙ rw (← c.self.view_is) (key-number string_bytes g.R.Named.name_of c.self.inside.names.keys c.self.inside.rows.items c.self.invariant c.args.name.now)
