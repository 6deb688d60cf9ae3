-- Values that are read in turn, of which one may pass its limit.
use Rattle.std.specs.Prelude.{List, [], ◌∷◌, ◌++◌, Bool, true, false, Result, Ok, Err}
use Rattle.cert_text.specs.declared.reading.fault.Fault.{Fault}
use Rattle.cert_text.specs.declared.reading.fault.Fault.TheVariants.{Large}
use Rattle.cert_text.specs.Reads.{◌>>=◌}

-- the list, unless one did
abbrev pub collected : {A : Type 0} → List A → Bool → Result (List A) Fault
collected xs true = Err Large
collected xs false = Ok xs

-- and one more
abbrev pub one_more : {A : Type 0} → Result (List A) Fault → Result A Fault → Result (List A) Fault
one_more xs x = xs >>= λ ys. x >>= λ y. Ok (ys ++ y ∷ [])
