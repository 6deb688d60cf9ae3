use Rattle.std.proofs.Common.{◌≡◌, ◌∙◌, Bool, true, false, refl, sym, ap, rules}
use Rattle.std.specs.Option.{option_copied}
use Rattle.graph_reader.specs.declared.actors.Port.{Port}
use Rattle.graph_reader.specs.Sections.{is_same_direction}
use Rattle.graph_reader.specs.Register.{tested}
use Rattle.graph_reader.proofs.channels.port_named.Goals as goal

pub returns-in_err-port : goal.returns-in_err-port
returns-in_err-port c =
    let test : Port → Bool = λ p. is_same_direction c.args.direction p.direction in
    rw c.from_residual.ensures (sym (c.find.ensures.alone test ∙ ap (λ o. tested test (option_copied o)) c.in_err-port.was))

pub returns-then-is_same_direction : goal.returns-then-is_same_direction
returns-then-is_same_direction c =
    let test : Port → Bool = λ p. is_same_direction c.args.direction p.direction in
    let same : is_same_direction c.args.direction c.in_ok-port.port.now.direction ≡ true = search rules in
    sym (c.find.ensures.alone test ∙ ap (λ o. tested test (option_copied o)) c.in_ok-port.was ∙ rw same refl)

pub returns-else-is_same_direction : goal.returns-else-is_same_direction
returns-else-is_same_direction c =
    let test : Port → Bool = λ p. is_same_direction c.args.direction p.direction in
    let other : is_same_direction c.args.direction c.in_ok-port.port.now.direction ≡ false = search rules in
    sym (c.find.ensures.alone test ∙ ap (λ o. tested test (option_copied o)) c.in_ok-port.was ∙ rw other refl)
