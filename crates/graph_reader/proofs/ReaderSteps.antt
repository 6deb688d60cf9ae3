-- Steps one after another, as a reader takes them.
use Rattle.std.proofs.Common.{◌≡◌, Bool, true, false, cond, Result, Ok, Err, refl}
use Rattle.std.specs.Prelude.{IfOk}
use Rattle.graph_reader.specs.declared.error.ReadError.{ReadError}
use Rattle.graph_reader.specs.TreeSteps.{◌>>=◌}

-- a fact of a first step, used for the steps after it
pub then : {A B : Type 0} (P : A → Type 0) (Q : B → Type 0) (r : Result A ReadError) (f : A → Result B ReadError) → IfOk r P → ((x : A) → P x → IfOk (f x) Q) → IfOk (r >>= f) Q
then P Q (Ok x) f p q = q x p
then P Q (Err e) f p q = tt

-- a first step of which nothing is used
pub skip : {A B : Type 0} (Q : B → Type 0) (r : Result A ReadError) (f : A → Result B ReadError) → ((x : A) → IfOk (f x) Q) → IfOk (r >>= f) Q
skip Q (Ok x) f q = q x
skip Q (Err e) f q = tt

pub weaker : {A : Type 0} (P Q : A → Type 0) (r : Result A ReadError) → IfOk r P → ((x : A) → P x → Q x) → IfOk r Q
weaker P Q (Ok x) p q = q x p
weaker P Q (Err e) p q = tt

pub choice : {A : Type 0} (Q : A → Type 0) (b : Bool) (x y : Result A ReadError) → (b ≡ true → IfOk x Q) → (b ≡ false → IfOk y Q) → IfOk (cond b x y) Q
choice Q true x y p q = p refl
choice Q false x y p q = q refl

pub both : {A : Type 0} (P Q : A → Type 0) (r : Result A ReadError) → IfOk r P → IfOk r Q → IfOk r (λ x. P x × Q x)
both P Q (Ok x) p q = (p, q)
both P Q (Err e) p q = tt

-- a first step that is known, before the steps after it
pub then-ok : {A B : Type 0} (r : Result A ReadError) (f : A → Result B ReadError) (x : A) (y : Result B ReadError) → r ≡ Ok x → f x ≡ y → (r >>= f) ≡ y
then-ok r f x y e h = rw e h

-- a test that fails goes on with the second
pub passes : {A : Type 0} (b : Bool) (x y z : Result A ReadError) → b ≡ false → y ≡ z → cond b x y ≡ z
passes b x y z e h = rw e h
