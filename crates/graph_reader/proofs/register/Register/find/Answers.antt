use Rattle.std.proofs.Common.{◌≡◌, ◌∙◌, Bool, None, Some, map, refl, sym, ap}
use Rattle.std.specs.List.{IsDistinct, position}
use Rattle.std.specs.Str.{bytes_eq}
use Rattle.std.specs.String.{string_bytes}
use Rattle.graph_reader.specs.Register.{tested}
use Rattle.graph_reader.proofs.NamesFindRows.{alone, found-none, found-some, key-number}
use Rattle.graph_reader.proofs.register.Register.find.Goals as goal

pub returns-in_err-number-clause-row : goal.returns-in_err-number-clause-row
returns-in_err-number-clause-row g c =
    let has_name : g.row.R.Denot → Bool = λ r. bytes_eq (g.R.Named.name_of r) c.args.name.now in
    let number : c.get_index_of.result ≡ position has_name c.args.self.now =
    c.get_index_of.ensures.index ∙ rw (← c.self.view_is) (key-number string_bytes g.R.Named.name_of c.self.inside.names.keys c.self.inside.rows.items c.self.invariant c.args.name.now) in
    let none : position has_name c.args.self.now ≡ None = sym number ∙ c.in_err-number.was in
    rw c.from_residual.ensures (sym (found-none has_name c.args.self.now none))

pub returns-in_err-number-clause-alone : goal.returns-in_err-number-clause-alone
returns-in_err-number-clause-alone g c = λ test.
    let has_name : g.row.R.Denot → Bool = λ r. bytes_eq (g.R.Named.name_of r) c.args.name.now in
    let number : c.get_index_of.result ≡ position has_name c.args.self.now =
    c.get_index_of.ensures.index ∙ rw (← c.self.view_is) (key-number string_bytes g.R.Named.name_of c.self.inside.names.keys c.self.inside.rows.items c.self.invariant c.args.name.now) in
    let differ : IsDistinct bytes_eq (map g.R.Named.name_of c.args.self.now) = rw (← c.self.view_is) c.self.invariant.differ in
    let none : position has_name c.args.self.now ≡ None = sym number ∙ c.in_err-number.was in
    alone g.R.Named.name_of test c.args.name.now c.args.self.now differ ∙ ap (tested test) (found-none has_name c.args.self.now none) ∙ rw c.from_residual.ensures refl

pub returns-clause-row : goal.returns-clause-row
returns-clause-row g c =
    let has_name : g.row.R.Denot → Bool = λ r. bytes_eq (g.R.Named.name_of r) c.args.name.now in
    let number : c.get_index_of.result ≡ position has_name c.args.self.now =
    c.get_index_of.ensures.index ∙ rw (← c.self.view_is) (key-number string_bytes g.R.Named.name_of c.self.inside.names.keys c.self.inside.rows.items c.self.invariant c.args.name.now) in
    let some : position has_name c.args.self.now ≡ Some c.in_ok-number.number = sym number ∙ c.in_ok-number.was in
    c.get.ensures ∙ sym (found-some has_name c.args.self.now c.in_ok-number.number some)

pub returns-clause-alone : goal.returns-clause-alone
returns-clause-alone g c = λ test.
    let has_name : g.row.R.Denot → Bool = λ r. bytes_eq (g.R.Named.name_of r) c.args.name.now in
    let number : c.get_index_of.result ≡ position has_name c.args.self.now =
    c.get_index_of.ensures.index ∙ rw (← c.self.view_is) (key-number string_bytes g.R.Named.name_of c.self.inside.names.keys c.self.inside.rows.items c.self.invariant c.args.name.now) in
    let differ : IsDistinct bytes_eq (map g.R.Named.name_of c.args.self.now) = rw (← c.self.view_is) c.self.invariant.differ in
    let some : position has_name c.args.self.now ≡ Some c.in_ok-number.number = sym number ∙ c.in_ok-number.was in
    alone g.R.Named.name_of test c.args.name.now c.args.self.now differ ∙ ap (tested test) (found-some has_name c.args.self.now c.in_ok-number.number some ∙ sym c.get.ensures)
