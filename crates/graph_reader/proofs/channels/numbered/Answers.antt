use Rattle.std.proofs.Common.{◌≡◌, ◌∙◌, None, Some, sym, ap}
use Rattle.std.specs.List.{position}
use Rattle.std.specs.Option.{option_copied}
use Rattle.graph_reader.proofs.NamesFindRows.{is_named, numbered-none, numbered-some}
use Rattle.graph_reader.proofs.channels.numbered.Goals as goal

pub returns-in-None : goal.returns-in-None
returns-in-None c = sym (numbered-none c.args.actors.now c.args.name.now (sym c.number_of.ensures ∙ c.in-None.is))

pub returns-in-None-get : goal.returns-in-None-get
returns-in-None-get c =
    let at : position (is_named c.args.name.now) c.args.actors.now ≡ Some c.in-Some.number = sym c.number_of.ensures ∙ c.in-Some.is in
    numbered-some c.args.actors.now c.args.name.now c.in-Some.number None at (sym (ap option_copied c.in-None-get.is) ∙ c.get.ensures)

pub returns-in-Some-get : goal.returns-in-Some-get
returns-in-Some-get c =
    let at : position (is_named c.args.name.now) c.args.actors.now ≡ Some c.in-Some.number = sym c.number_of.ensures ∙ c.in-Some.is in
    numbered-some c.args.actors.now c.args.name.now c.in-Some.number (Some c.in-Some-get.actor.now) at (sym (ap option_copied c.in-Some-get.is) ∙ c.get.ensures)
