use Rattle.cert_checker.proofs.joins.is_joined.Goals as goal

pub returns-then-strong : goal.returns-then-strong
returns-then-strong g c = (
  λ fed. record { strong = c.in_ok-strong.ensures.0 c.if-strong.true; inputs = c.has_inputs.ensures.0 fed },
  λ joined. c.has_inputs.ensures.1 joined.inputs,
)
