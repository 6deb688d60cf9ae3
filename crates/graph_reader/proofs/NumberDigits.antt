-- Cutting a number out of a text, and its value up to a greatest one.
use Rattle.std.proofs.Common.{◌≡◌, ℕ, suc, ◌+◌, ◌<◌, ◌≤◌, Bool, true, false, cond, List, [], ◌∷◌, length, take, drop, min, refl, sym, ap, ◌∙◌, arith, Option, Some, None, Result, Ok, Err, inl, inr}
use Rattle.std.specs.List.{fold, take_while, prefix_len}
use Rattle.std.proofs.lemmas.List.Folds.{length-prefix_len}
use Rattle.std.proofs.lemmas.Bool.{cases_lt, lt-ltb}
use Rattle.std.specs.Option.{option_map}
use Rattle.sd_base.specs.declared.limits.Quantity.{Quantity}
use Rattle.sd_base.specs.Numbers.{with_digit}
use Rattle.sd_base.proofs.CappedDigits
use Rattle.graph_reader.specs.declared.field.Field.{Field}
use Rattle.graph_reader.specs.declared.error.ReadError.{ReadError}
use Rattle.graph_reader.specs.declared.error.ReadError.TheVariants.{Limit}
use Rattle.graph_reader.specs.TreeSteps.{◌>>=◌}
use Rattle.graph_reader.specs.NumberTexts.{drop_while, value, within, formed}

drop-prefix_len : (p : ℕ → Bool) (xs : List ℕ) → drop (prefix_len p xs) xs ≡ drop_while p xs
drop-prefix_len p [] = refl
drop-prefix_len p (x ∷ xs) =
    elim (p x) as (λ b. drop (cond b (1 + prefix_len p xs) 0) (x ∷ xs) ≡ cond b (drop_while p xs) (x ∷ xs)) [
      | true ↦
          let one : 1 + prefix_len p xs ≡ suc (prefix_len p xs) = omega arith in
          rw one (drop-prefix_len p xs)
      | false ↦ refl
    ]

pub take_while_cut : (p : ℕ → Bool) (xs : List ℕ) (n : ℕ) → n ≡ length (take_while p xs) → take n xs ≡ take_while p xs
take_while_cut p xs n is = ap (λ k. take k xs) (is ∙ length-prefix_len p xs)

pub drop_while_cut : (p : ℕ → Bool) (xs : List ℕ) (n : ℕ) → n ≡ length (take_while p xs) → drop n xs ≡ drop_while p xs
drop_while_cut p xs n is = ap (λ k. drop k xs) (is ∙ length-prefix_len p xs) ∙ drop-prefix_len p xs

pub capped-all : (c : ℕ) (ds : List ℕ) (i n : ℕ) → length ds ≤ i → n ≤ c → min (fold with_digit n (drop i ds)) c ≡ min (fold with_digit 0 ds) c → n ≡ min (value ds) c
unfolding value
capped-all c ds i n past few h = CappedDigits.capped-all c ds i n past few h

-- a number that was held at a greatest one above the limit is within the limit if the number itself is
pub within-capped : (quantity : Quantity) (limit c n m : ℕ) → limit < c → m ≡ min n c → within quantity limit m ≡ within quantity limit n
unfolding within
within-capped quantity limit c n m lt is =
    let choose : Bool → ℕ → Result ℕ ReadError = λ b k. cond b (Err (Limit quantity)) (Ok k) in
    elim (cases_lt limit n) [
      | inl above ↦
          let other : limit < m = omega arith in
          ap (λ b. choose b m) (lt-ltb limit m other) ∙ sym (ap (λ b. choose b n) (lt-ltb limit n above))
      | inr below ↦
          let same : m ≡ n = omega arith in
          rw same refl
    ]

pub formed-capped : (what : Field) (of : List ℕ) (quantity : Quantity) (limit c m : ℕ) (o : Option ℕ) → limit < c → Some m ≡ option_map (λ n. min n c) o → within quantity limit m ≡ (formed what of o >>= λ n. within quantity limit n)
formed-capped what of quantity limit c m None lt e = absurd cc
formed-capped what of quantity limit c m (Some n) lt e =
    let same : m ≡ min n c = cc in
    within-capped quantity limit c n m lt same
