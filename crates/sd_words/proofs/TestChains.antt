-- What a chain of tests has told.
use Rattle.std.proofs.Common.{◌≡◌, Bool, true, false, cond, ◌⊎◌, inl, inr, Result, Ok, Err, refl}
use Rattle.sd_words.specs.declared.request.UsageCause.{UsageCause}
use Rattle.sd_words.specs.Reading.{◌>>=◌}

-- a chain that ends well has gone through each step
pub bind-ok : {A B : Type 0} (r : Result A UsageCause) (f : A → Result B UsageCause) (y : B) → (r >>= f) ≡ Ok y → (x : A) × (r ≡ Ok x) × (f x ≡ Ok y)
bind-ok (Ok x) f y h = (x, refl, h)
bind-ok (Err cause) f y h = absurd (cc)

-- a test that may not hold
pub fails-ok : {A : Type 0} (b : Bool) (cause : UsageCause) (r : Result A UsageCause) (y : A) → cond b (Err cause) r ≡ Ok y → (b ≡ false) × (r ≡ Ok y)
fails-ok true cause r y h = absurd (cc)
fails-ok false cause r y h = (refl, h)

-- a test that has to hold
pub holds-ok : {A : Type 0} (b : Bool) (cause : UsageCause) (r : Result A UsageCause) (y : A) → cond b r (Err cause) ≡ Ok y → (b ≡ true) × (r ≡ Ok y)
holds-ok true cause r y h = (refl, h)
holds-ok false cause r y h = absurd (cc)

-- a choice
pub either-ok : {A : Type 0} (b : Bool) (r s : Result A UsageCause) (y : A) → cond b r s ≡ Ok y → ((b ≡ true) × (r ≡ Ok y)) ⊎ ((b ≡ false) × (s ≡ Ok y))
either-ok true r s y h = inl (refl, h)
either-ok false r s y h = inr (refl, h)
