-- The number that digits spell, held at a greatest one.
use Rattle.std.proofs.Common.{◌≡◌, ℕ, ◌+◌, ◌*◌, ◌-◌, ◌<◌, ◌≤◌, List, [], ◌∷◌, length, get_or, drop, min, sym, ap, ◌∙◌, arith, add-one, drop-cons}
use Rattle.std.specs.List.{fold}
use Rattle.std.proofs.lemmas.List.{drop_all}
use Rattle.sd_base.specs.Numbers.{with_digit}

-- numbers that are the same up to a greatest one stay so with more digits
capped : (c : ℕ) (ds : List ℕ) (m n : ℕ) → min m c ≡ min n c → min (fold with_digit m ds) c ≡ min (fold with_digit n ds) c
capped c [] m n h = h
capped c (d ∷ ds) m n h =
    let next : min (with_digit m d) c ≡ min (with_digit n d) c = omega arith in
    capped c ds (with_digit m d) (with_digit n d) next

pub capped-more : (c : ℕ) (ds : List ℕ) (i n m : ℕ) → i < length ds → m ≡ min (n * 10 + (get_or ds i 0 - 48)) c → min (fold with_digit m (drop (i + 1) ds)) c ≡ min (fold with_digit n (drop i ds)) c
capped-more c ds i n m lt is =
    let first : drop i ds ≡ get_or ds i 0 ∷ drop (i + 1) ds = rw add-one (drop-cons ds i 0 lt) in
    let same : min m c ≡ min (with_digit n (get_or ds i 0)) c = omega arith in
    capped c (drop (i + 1) ds) m (with_digit n (get_or ds i 0)) same ∙ ap (λ t. min (fold with_digit n t) c) (sym first)

pub capped-all : (c : ℕ) (ds : List ℕ) (i n : ℕ) → length ds ≤ i → n ≤ c → min (fold with_digit n (drop i ds)) c ≡ min (fold with_digit 0 ds) c → n ≡ min (fold with_digit 0 ds) c
capped-all c ds i n past few h =
    let none : drop i ds ≡ [] = drop_all i ds past in
    let same : min n c ≡ min (fold with_digit 0 ds) c = sym (ap (λ t. min (fold with_digit n t) c) none) ∙ h in
    let here : n ≡ min n c = omega arith in
    here ∙ same
