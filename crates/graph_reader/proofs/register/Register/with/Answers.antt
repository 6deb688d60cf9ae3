use Rattle.std.proofs.Common.{◌≡◌, ◌∙◌, ◌++◌, ◌∷◌, [], false, cond, map, ap, rules}
use Rattle.std.specs.List.{list_any}
use Rattle.std.specs.String.{string_bytes}
use Rattle.std.specs.Str.{bytes_eq}
use Rattle.graph_reader.specs.Sections.{is_among}
use Rattle.graph_reader.proofs.NamesFindRows.{key-among, named-more}
use Rattle.graph_reader.proofs.register.Register.with.Goals as goal

pub invariant_of-result : goal.invariant_of-result
invariant_of-result g c =
    let keys = c.self.inside.names.keys in
    let rows = c.self.inside.rows.items in
    let name_of = g.R.Named.name_of in
    let key = c.in_ok-name.name in
    let same : string_bytes key ≡ name_of c.args.row = search rules in
    let new : is_among (name_of c.args.row) (map name_of rows) ≡ false = rw c.self.view_is c.requires in
    let none : list_any (λ k. bytes_eq (string_bytes key) (string_bytes k)) keys ≡ false = key-among string_bytes name_of keys rows c.self.invariant (string_bytes key) ∙ rw same new in
    named-more string_bytes name_of keys c.insert.new.self.keys rows c.push.new.self.items key c.args.row c.self.invariant new same
    (c.in_ok-insert.ensures.keys ∙ ap (λ b. cond b keys (keys ++ key ∷ [])) none) c.in_ok-push.ensures.items
