use Rattle.std.proofs.Common.{◌∙◌}
use Rattle.std.specs.String.{string_bytes}
use Rattle.graph_reader.proofs.NamesFindRows.{key-among}
use Rattle.graph_reader.proofs.register.Register.has.Goals as goal

pub returns : goal.returns
returns g c =
    c.contains.ensures ∙ rw (← c.self.view_is) (key-among string_bytes g.R.Named.name_of c.self.inside.names.keys c.self.inside.rows.items c.self.invariant c.args.name.now)
