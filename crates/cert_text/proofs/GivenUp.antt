-- Texts that are given up piece by piece.
use Rattle.std.proofs.Common.{◌≡◌, ℕ, ◌+◌, ◌<◌, ◌≤◌, List, ◌++◌, length, take, drop, inl, inr, refl, get_or, ap, sym, ◌∙◌, arith, length-append}
use Rattle.std.specs.List.{flat_map}
use Rattle.std.proofs.lemmas.Grind.{flat_map-append}
use Rattle.std.proofs.lemmas.List.{take-append-drop}
use Rattle.sd_base.specs.declared.limits.TheConstants.{CERTIFICATE_BYTES}
use Rattle.cert_text.specs.declared.error.CertError.{CertError}
use Rattle.cert_text.specs.declared.error.CertError.TheVariants.{TooLong}
use Rattle.cert_text.specs.Overlong.{GivesUp}
use Rattle.cert_text.proofs.PiecesMakeTexts.{flat-item}

flat-most : {X : Type 0} (f : X → List ℕ) (xs : List X) (n : ℕ) → length (flat_map f (take n xs)) ≤ length (flat_map f xs)
flat-most {X} f xs n =
    let whole : flat_map f xs ≡ flat_map f (take n xs) ++ flat_map f (drop n xs) = ap (λ (ys : List X). flat_map f ys) (sym (take-append-drop n xs)) ∙ flat_map-append f (take n xs) (drop n xs) in
    let size : length (flat_map f xs) ≡ length (flat_map f (take n xs)) + length (flat_map f (drop n xs)) = ap length whole ∙ length-append (flat_map f (take n xs)) (flat_map f (drop n xs)) in
    omega (arith, size)

-- after some pieces of a list the text is longer than it may be
pub up-at : {X : Type 0} (f : X → List ℕ) (text new : List ℕ) (xs : List X) (n : ℕ) (e : CertError) → new ≡ text ++ flat_map f (take n xs) → (e ≡ TooLong) × (CERTIFICATE_BYTES < length new) → GivesUp text (flat_map f xs) e
up-at f text new xs n e is (same, long) = inr (
  same,
  let all : length new ≡ length text + length (flat_map f (take n xs)) = ap length is ∙ length-append text (flat_map f (take n xs)) in
      omega (arith, all, flat-most f xs n, long),
)

-- within a piece
pub up-in : {X : Type 0} (f : X → List ℕ) (start text : List ℕ) (xs : List X) (n : ℕ) (x : X) (e : CertError) → n < length xs → x ≡ get_or xs n x → text ≡ start ++ flat_map f (take n xs) → GivesUp text (f x) e → GivesUp start (flat_map f xs) e
up-in f start text xs n x e below is kept (inl memory) = inl memory
up-in f start text xs n x e below is kept (inr (same, long)) =
    up-at f start (text ++ f x) xs (n + 1) e (flat-item f start text (text ++ f x) xs n x below is kept refl) (same, let size : length (text ++ f x) ≡ length text + length (f x) = length-append text (f x) in omega (arith, size, long))
