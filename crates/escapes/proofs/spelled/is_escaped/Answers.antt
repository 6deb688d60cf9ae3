use Rattle.std.proofs.Common.{rules}
use Rattle.escapes.specs.SpelledNames.{is_escaped}
use Rattle.escapes.proofs.spelled.is_escaped.Goals.{then-rest-lt3, in-37+then-is_ascii_hexdigit+else-is_ascii_hexdigit-2, in-37+else-is_ascii_hexdigit, else-rest-lt3+in_default-1}
use Rattle.escapes.proofs.spelled.is_escaped.Goals as goal

pub returns-then-not-is_bare_byte : goal.returns-then-not-is_bare_byte
unfolding is_escaped
returns-then-not-is_bare_byte c = elim c.in-len1-up-1.branch [
  | then-rest-lt3 w ↦ search rules
  | in-37+then-is_ascii_hexdigit+else-is_ascii_hexdigit-2 w ↦ search rules
  | in-37+else-is_ascii_hexdigit w ↦ search rules
  | else-rest-lt3+in_default-1 w ↦ search rules
]
