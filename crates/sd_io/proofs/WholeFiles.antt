-- What is read with one byte past the limit, and isn't past it, is all.
use Rattle.std.proofs.Common.{◌≡◌, ℕ, ◌+◌, ◌≤◌, List, [], ◌++◌, length, take, Option, Some, None, IfSome, arith, ap}
use Rattle.std.proofs.lemmas.Grind.{common_steps}
use Rattle.std.proofs.lemmas.List.{length-take}
use Rattle.std.specs.Option.{option_map}
use Rattle.sd_io.specs.Streams.{IsWithin}

pub whole-IsWithin : (known : Option (List ℕ)) (limit : ℕ) (bytes : List ℕ)
    → IfSome (option_map (take (limit + 1)) known) (λ xs. bytes ≡ [] ++ xs) → length bytes ≤ limit → IsWithin known limit (Some bytes)
whole-IsWithin None limit bytes is few = tt
whole-IsWithin (Some xs) limit bytes is few =
    let short : length xs ≤ limit = omega (arith, ap length is, length-take (limit + 1) xs) in
    let all : take (limit + 1) xs ≡ xs = grind (arith, common_steps) in
    grind (arith, common_steps)
