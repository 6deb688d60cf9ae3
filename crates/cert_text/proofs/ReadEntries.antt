-- The entries of a line are read from their spellings.
use Rattle.std.proofs.Common.{◌≡◌, ℕ, zero, suc, ◌+◌, ◌^◌, ◌<◌, ◌≤◌, Bool, true, false, List, [], ◌∷◌, ◌++◌, Option, Some, None, All, length, Result, Ok, refl, sym, ap, ◌∙◌, subst, arith, append_assoc, length-append}
use Rattle.std.specs.Prelude.{not, ◌==◌, ◌&&◌, codes}
use Rattle.std.specs.List.{flat_map, AllByRecursion}
use Rattle.std.specs.Fmt.{decimal}
use Rattle.std.specs.Str.{bytes_eq}
use Rattle.std.proofs.lemmas.Bool.{le-leb, lt-ltb}
use Rattle.std.proofs.lemmas.List.Elements.{recursion_from_All}
use Rattle.std.proofs.lemmas.Slice.Eq.{bytes_eq-Decides}
use Rattle.cert_text.specs.declared.reading.fault.Fault.{Fault}
use Rattle.cert_text.specs.BufferLines.{buffer_text, buffers_line}
use Rattle.cert_text.specs.Fields.{behind, number_in, worded_in, is_other, limited, entries_of, each_by}
use Rattle.cert_text.specs.Limits.{IsBufferWithin, IsCapacityWithin}
use Rattle.cert_text.specs.LineForms.{numbers_due, buffer_in, buffer_limited, rises, some_buffers_due, buffers_due, hyphen_or_number_in, capacity_in, capacity_limited, capacities_due, same}
use Rattle.cert_text.specs.MemberLines.{capacity_text, member_line}
use Rattle.cert_text.specs.NumberLines.{spaced, numbers_line}
use Rattle.cert_text.specs.Spellable.{Rise}
use Rattle.cert_text.proofs.ReadNumbers.{behind-front, number-front, long-front, not-hyphen}
use Rattle.cert_text.proofs.ReadLines.{Closes, no_feed, closes-end, closes-word, closes-number, number-fed}

-- the text begins with a byte that isn't a digit
pub record Stops (text : List ℕ) : Type 0 where
  pub byte : ℕ
  pub left : List ℕ
  pub parts : text ≡ byte ∷ left
  pub other : is_other byte ≡ true

stops-in : (text rest : List ℕ) → Stops text → Stops (text ++ rest)
stops-in text rest h = record { byte = h.byte; left = h.left ++ rest; parts = ap (λ (l : List ℕ). l ++ rest) h.parts; other = h.other }

number-stops : (n : ℕ) (rest : List ℕ) → n < 10 ^ 64 → Stops rest → number_in (decimal n ++ rest) ≡ Ok (n, rest)
number-stops n rest small h = subst (λ (l : List ℕ). number_in (decimal n ++ l) ≡ Ok (n, l)) (sym h.parts) (number-front h.byte h.other n small h.left)

module _ {A : Type 0} (f : List ℕ → Result (A × List ℕ) Fault) (spell : A → List ℕ) (P : A → Type 0)
    (reads : (x : A) (rest : List ℕ) → P x → Stops rest → f (spell x ++ rest) ≡ Ok (x, rest)) (starts : (x : A) → Stops (spell x)) (fed : (x : A) → P x → no_feed (spell x) ≡ true) where
  assoc : (x : A) (xs : List A) → flat_map spell (x ∷ xs) ++ 10 ∷ [] ≡ spell x ++ (flat_map spell xs ++ 10 ∷ [])
  assoc x xs = append_assoc (spell x) (flat_map spell xs) (10 ∷ [])

  pub entries-stop : (xs : List A) → Stops (flat_map spell xs ++ 10 ∷ [])
  entries-stop [] = record { byte = 10; left = []; parts = refl; other = refl }
  entries-stop (x ∷ xs) = subst Stops (sym (assoc x xs)) (stops-in (spell x) (flat_map spell xs ++ 10 ∷ []) (starts x))

  pub entries-close : (xs : List A) → AllByRecursion P xs → Closes (flat_map spell xs ++ 10 ∷ [])
  entries-close [] all = closes-end
  entries-close (x ∷ xs) all = subst Closes (sym (assoc x xs)) (closes-word (spell x) (fed x all.0) (flat_map spell xs ++ 10 ∷ []) (entries-close xs all.1))

  pub entries-many : (xs : List A) → length xs < length (flat_map spell xs ++ 10 ∷ [])
  entries-many [] = omega arith
  entries-many (x ∷ xs) =
      let rest = entries-many xs in
      let s = starts x in
      let size : length (flat_map spell (x ∷ xs) ++ 10 ∷ []) ≡ length (spell x) + length (flat_map spell xs ++ 10 ∷ []) = ap length (assoc x xs) ∙ length-append (spell x) (flat_map spell xs ++ 10 ∷ []) in
      let first : length (spell x) ≡ suc (length s.left) = ap length s.parts in
      omega (arith, rest, size, first)

  pub entries-read : (xs : List A) (fuel : ℕ) → length xs ≤ fuel → AllByRecursion P xs → entries_of f fuel (flat_map spell xs ++ 10 ∷ []) ≡ Ok xs
  unfolding entries_of
  entries-read [] zero le all = refl
  entries-read [] (suc fuel) le all = refl
  entries-read (x ∷ xs) zero le all = absurd (omega (arith, le))
  entries-read (x ∷ xs) (suc fuel) le all =
      let long : 1 < length (flat_map spell (x ∷ xs) ++ 10 ∷ []) = omega (arith, entries-many (x ∷ xs)) in
      let first : f (flat_map spell (x ∷ xs) ++ 10 ∷ []) ≡ Ok (x, flat_map spell xs ++ 10 ∷ []) = ap f (assoc x xs) ∙ reads x (flat_map spell xs ++ 10 ∷ []) all.0 (entries-stop xs) in
      rw (lt-ltb 1 (length (flat_map spell (x ∷ xs) ++ 10 ∷ [])) long, first, entries-read xs fuel (omega (arith, le)) all.1) refl

pub each-within : {A : Type 0} (f : A → Result A Fault) (P : A → Type 0) → ((x : A) → P x → f x ≡ Ok x) → (xs : List A) → AllByRecursion P xs → each_by f xs ≡ Ok xs
unfolding each_by
each-within f P one [] all = refl
each-within f P one (x ∷ xs) all = rw (one x all.0, each-within f P one xs all.1) refl

-- ---- numbers

module _ (limit : ℕ) (small : limit < 10 ^ 64) where
  spaced-read : (n : ℕ) (rest : List ℕ) → n ≤ limit → Stops rest → worded_in (codes " ") (spaced n ++ rest) ≡ Ok (n, rest)
  unfolding worded_in spaced behind
  spaced-read n rest low h = number-stops n rest (omega arith) h

  spaced-starts : (n : ℕ) → Stops (spaced n)
  unfolding spaced
  spaced-starts n = record { byte = 32; left = decimal n; parts = refl; other = refl }

  spaced-fed : (n : ℕ) → n ≤ limit → no_feed (spaced n) ≡ true
  unfolding spaced
  spaced-fed n low = number-fed n (omega arith)

  pub numbers-read : (ns : List ℕ) → 0 < length ns → All (λ n. n ≤ limit) ns → numbers_due limit (numbers_line ns) ≡ Ok ns
  unfolding numbers_due numbers_line
  numbers-read [] some all = absurd (omega (arith, some))
  numbers-read (n ∷ ns) some all =
      let each = recursion_from_All (λ m. m ≤ limit) (n ∷ ns) all in
      let rest : List ℕ = flat_map spaced ns ++ 10 ∷ [] in
      let low : n ≤ limit = each.0 in
      let first = number-stops n rest (omega (arith, low)) (entries-stop (worded_in (codes " ")) spaced (λ m. m ≤ limit) spaced-read spaced-starts spaced-fed ns) in
      let many = entries-many (worded_in (codes " ")) spaced (λ m. m ≤ limit) spaced-read spaced-starts spaced-fed ns in
      let others = entries-read (worded_in (codes " ")) spaced (λ m. m ≤ limit) spaced-read spaced-starts spaced-fed ns (length rest) (omega (arith, many)) each.1 in
      let values = each-within (limited limit) (λ m. m ≤ limit) (λ m h. rw (le-leb m limit h) refl) (n ∷ ns) each in
      rw (first, others, values) refl

  pub numbers-close : (ns : List ℕ) → 0 < length ns → All (λ n. n ≤ limit) ns → Closes (numbers_line ns)
  unfolding numbers_line
  numbers-close [] some all = absurd (omega (arith, some))
  numbers-close (n ∷ ns) some all =
      let each = recursion_from_All (λ m. m ≤ limit) (n ∷ ns) all in
      let low : n ≤ limit = each.0 in
      closes-number n (omega (arith, low)) (flat_map spaced ns ++ 10 ∷ []) (entries-close (worded_in (codes " ")) spaced (λ m. m ≤ limit) spaced-read spaced-starts spaced-fed ns each.1)

-- ---- buffers

pub same-text : (text : List ℕ) → same text text ≡ true
same-text text = (bytes_eq-Decides text text).1 refl

buffer-read : (b : ℕ × ℕ) (rest : List ℕ) → IsBufferWithin b → Stops rest → buffer_in (buffer_text b ++ rest) ≡ Ok (b, rest)
unfolding buffer_in buffer_text behind
buffer-read b rest h s =
    rw (append_assoc (decimal b.0) (61 ∷ decimal b.1) rest, long-front 61 refl b.0 (omega (arith, h.channel)), number-stops b.1 rest (omega (arith, h.capacity)) s) refl

buffer-starts : (b : ℕ × ℕ) → Stops (buffer_text b)
unfolding buffer_text
buffer-starts b = record { byte = 32; left = decimal b.0 ++ (codes "=" ++ decimal b.1); parts = refl; other = refl }

fed-both : (v w : List ℕ) → no_feed v ≡ true → no_feed w ≡ true → no_feed (v ++ w) ≡ true
fed-both [] w first second = second
fed-both (b ∷ v) w first second = split (not (b == 10)) first (λ h. fed-both v w h second)
  where
    split : (t : Bool) → (t && no_feed v) ≡ true → (no_feed v ≡ true → no_feed (v ++ w) ≡ true) → (t && no_feed (v ++ w)) ≡ true
    split true h more = more h
    split false h more = absurd cc

buffer-fed : (b : ℕ × ℕ) → IsBufferWithin b → no_feed (buffer_text b) ≡ true
unfolding buffer_text
buffer-fed b h = fed-both (decimal b.0) (codes "=" ++ decimal b.1) (number-fed b.0 (omega (arith, h.channel))) (number-fed b.1 (omega (arith, h.capacity)))

buffer-limits : (b : ℕ × ℕ) → IsBufferWithin b → buffer_limited b ≡ Ok b
buffer-limits b h = rw (le-leb b.0 4294967295 h.channel, le-leb b.1 18446744073709551615 h.capacity) refl

rise-rises : (bs : List (ℕ × ℕ)) → Rise bs → rises bs ≡ true
unfolding rises
rise-rises [] h = refl
rise-rises (b ∷ []) h = refl
rise-rises (b ∷ c ∷ bs) h =
    let first : b.0 < c.0 = h 0 (omega arith) in
    let rest = rise-rises (c ∷ bs) (λ i less. let plus : suc i + 1 ≡ suc (i + 1) = omega arith in let next : suc i + 1 < length (b ∷ c ∷ bs) = omega (arith, less) in rw plus at (h (suc i) next)) in
    rw (lt-ltb b.0 c.0 first, rest) refl

not-none : (text left : List ℕ) (first : ℕ) → text ≡ first ∷ left → (first == 45) ≡ false → bytes_eq text (45 ∷ 10 ∷ []) ≡ false
not-none text left first is other = rw (is, other) refl

some-named : (b : ℕ × ℕ) (bs : List (ℕ × ℕ)) → IsBufferWithin b → same (buffers_line (b ∷ bs)) (buffers_line []) ≡ false
unfolding buffers_line buffer_text
some-named b bs h =
    let n = not-hyphen b.0 ((codes "=" ++ decimal b.1)) (omega (arith, h.channel)) in
    not-none (((decimal b.0 ++ (codes "=" ++ decimal b.1)) ++ flat_map buffer_text bs) ++ 10 ∷ []) ((n.1 ++ flat_map buffer_text bs) ++ 10 ∷ []) n.0 (ap (λ (l : List ℕ). (l ++ flat_map buffer_text bs) ++ 10 ∷ []) n.2) n.3

some-buffers-read : (b : ℕ × ℕ) (bs : List (ℕ × ℕ)) → Rise (b ∷ bs) → AllByRecursion IsBufferWithin (b ∷ bs) → some_buffers_due (buffers_line (b ∷ bs)) ≡ Ok (b ∷ bs)
unfolding some_buffers_due buffers_line
some-buffers-read b bs rise each =
    let rest : List ℕ = flat_map buffer_text bs ++ 10 ∷ [] in
    let word = behind-front (codes "buffers") (flat_map buffer_text (b ∷ bs) ++ 10 ∷ []) in
    let stop = entries-stop buffer_in buffer_text IsBufferWithin buffer-read buffer-starts buffer-fed bs in
    let first : buffer_in (flat_map buffer_text (b ∷ bs) ++ 10 ∷ []) ≡ Ok (b, rest) = ap buffer_in (append_assoc (buffer_text b) (flat_map buffer_text bs) (10 ∷ [])) ∙ buffer-read b rest each.0 stop in
    let many = entries-many buffer_in buffer_text IsBufferWithin buffer-read buffer-starts buffer-fed bs in
    let others = entries-read buffer_in buffer_text IsBufferWithin buffer-read buffer-starts buffer-fed bs (length rest) (omega (arith, many)) each.1 in
    let values = each-within buffer_limited IsBufferWithin buffer-limits (b ∷ bs) each in
    rw (word, first, others, rise-rises (b ∷ bs) rise, values) refl

pub buffers-read : (bs : List (ℕ × ℕ)) → Rise bs → All IsBufferWithin bs → buffers_due (buffers_line bs) ≡ Ok bs
unfolding buffers_due
buffers-read [] rise all = rw (same-text (buffers_line [])) refl
buffers-read (b ∷ bs) rise all = let each = recursion_from_All IsBufferWithin (b ∷ bs) all in rw (some-named b bs each.0) (some-buffers-read b bs rise each)

pub buffers-close : (bs : List (ℕ × ℕ)) → All IsBufferWithin bs → Closes (buffers_line bs)
unfolding buffers_line
buffers-close [] all = closes-word (codes "buffers -") refl (10 ∷ []) closes-end
buffers-close (b ∷ bs) all =
    closes-word (codes "buffers") refl (flat_map buffer_text (b ∷ bs) ++ 10 ∷ [])
    (entries-close buffer_in buffer_text IsBufferWithin buffer-read buffer-starts buffer-fed (b ∷ bs) (recursion_from_All IsBufferWithin (b ∷ bs) all))

-- ---- capacities

no-hyphen : (n : ℕ) (rest text left : List ℕ) (first : ℕ) → text ≡ first ∷ left → (first == 45) ≡ false → number_in text ≡ Ok (n, rest) → hyphen_or_number_in text ≡ Ok (Some n, rest)
unfolding hyphen_or_number_in
no-hyphen n rest text left first is other read = let again : number_in (first ∷ left) ≡ Ok (n, rest) = ap number_in (sym is) ∙ read in rw (is, other, again) refl

capacity-read : (c : Option ℕ) (rest : List ℕ) → IsCapacityWithin c → Stops rest → capacity_in (capacity_text c ++ rest) ≡ Ok (c, rest)
unfolding capacity_in hyphen_or_number_in capacity_text spaced behind
capacity-read None rest small s = refl
capacity-read (Some n) rest small s = let h = not-hyphen n rest (omega arith) in no-hyphen n rest (decimal n ++ rest) h.1 h.0 h.2 h.3 (number-stops n rest (omega arith) s)

capacity-starts : (c : Option ℕ) → Stops (capacity_text c)
unfolding capacity_text spaced
capacity-starts None = record { byte = 32; left = 45 ∷ []; parts = refl; other = refl }
capacity-starts (Some n) = record { byte = 32; left = decimal n; parts = refl; other = refl }

capacity-fed : (c : Option ℕ) → IsCapacityWithin c → no_feed (capacity_text c) ≡ true
unfolding capacity_text spaced
capacity-fed None small = refl
capacity-fed (Some n) small = number-fed n (omega arith)

capacity-limits : (c : Option ℕ) → IsCapacityWithin c → capacity_limited c ≡ Ok c
capacity-limits None small = refl
capacity-limits (Some n) small = rw (le-leb n 18446744073709551615 small) refl

pub capacities-read : (cs : List (Option ℕ)) → All IsCapacityWithin cs → capacities_due (member_line cs) ≡ Ok cs
unfolding capacities_due member_line
capacities-read cs all =
    let each = recursion_from_All IsCapacityWithin cs all in
    let rest : List ℕ = flat_map capacity_text cs ++ 10 ∷ [] in
    let many = entries-many capacity_in capacity_text IsCapacityWithin capacity-read capacity-starts capacity-fed cs in
    let entries = entries-read capacity_in capacity_text IsCapacityWithin capacity-read capacity-starts capacity-fed cs (length rest) (omega (arith, many)) each in
    rw (behind-front (codes "member") rest, entries) (each-within capacity_limited IsCapacityWithin capacity-limits cs each)

pub capacities-close : (cs : List (Option ℕ)) → All IsCapacityWithin cs → Closes (member_line cs)
unfolding member_line
capacities-close cs all =
    closes-word (codes "member") refl (flat_map capacity_text cs ++ 10 ∷ []) (entries-close capacity_in capacity_text IsCapacityWithin capacity-read capacity-starts capacity-fed cs (recursion_from_All IsCapacityWithin cs all))
