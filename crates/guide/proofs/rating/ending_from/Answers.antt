use Rattle.std.proofs.Common.{refl, ◌∙◌}
use Rattle.guide.proofs.rating.ending_from.Goals as goal

pub returns-then-are_whole : goal.returns-then-are_whole
returns-then-are_whole g c = (
  c.requires.order,
  record { fires = c.requires.fires; whole = λ a actor. c.requires.reached a actor ∙ c.if-are_whole.ensures refl a actor },
)
