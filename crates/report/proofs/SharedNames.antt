-- Names of shared channels, as lines show them.
use Rattle.std.proofs.Common.{◌≡◌, ◌≢◌, ℕ, Bool, cond, List, [], ◌∷◌, ◌++◌, codes, inl, inr, refl, ap}
use Rattle.std.specs.Char.{encode_utf8}
use Rattle.std.proofs.lemmas.Bool.Decides.{eqb_tells}
use Rattle.escapes.specs.EscapedNames.{escaped_name}
use Rattle.report.specs.WorstTexts.{shared_name}

none-shown : [] ≡ escaped_name []
unfolding escaped_name
none-shown = refl

-- a name that doesn't begin with the character 1 is shown as any name
pub shared-plain : (name : List ℕ) → ((rest : List ℕ) → name ≢ encode_utf8 1 ++ rest) → shared_name name ≡ escaped_name name
unfolding shared_name encode_utf8
shared-plain [] none = none-shown
shared-plain (b ∷ rest) none = elim (eqb_tells b 1) [
  | inl one ↦ absurd (none rest (ap (λ (x : ℕ). x ∷ rest) one.1))
  | inr other ↦ ap (λ (is : Bool). cond is (escaped_name rest ++ codes "/space") (escaped_name (b ∷ rest))) other.0
]
