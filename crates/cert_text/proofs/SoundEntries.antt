-- What is read of the entries of a line is within its limits.
use Rattle.std.proofs.Common.{◌≡◌, ℕ, Bool, true, false, List, [], ◌∷◌, Option, Some, None, All, length, Result, Ok, Err, refl, subst, arith}
use Rattle.std.specs.Prelude.{if◌then◌else◌, codes}
use Rattle.std.specs.List.{AllByRecursion}
use Rattle.std.proofs.lemmas.List.Elements.{All-from_recursion, All-nil}
use Rattle.std.proofs.lemmas.Slice.Eq.{bytes_eq-Decides}
use Rattle.cert_text.specs.declared.reading.fault.Fault.{Fault}
use Rattle.cert_text.specs.declared.reading.fault.Fault.TheVariants.{Form}
use Rattle.cert_text.specs.BufferLines.{buffers_line}
use Rattle.cert_text.specs.Fields.{behind, entries_of, each_by}
use Rattle.cert_text.specs.Limits.{IsBufferWithin, IsCapacityWithin}
use Rattle.cert_text.specs.LineForms.{buffer_in, buffer_limited, buffers_due, capacities_due, capacity_in, capacity_limited, limited_long, limited_short, rises, same, some_buffers_due}
use Rattle.cert_text.specs.MemberLines.{member_line}
use Rattle.cert_text.specs.Reads.{◌>>=◌}
use Rattle.cert_text.specs.Spellable.{Rise}
use Rattle.cert_text.proofs.EntriesAreReadInTurn.{bind-ok, limited-is, capacities-sound}
use Rattle.cert_text.proofs.BuffersRise.{if_rising, buffers-sound}
use Rattle.cert_text.proofs.WordsLeaveTheRest.{fine, ok-is}

each-fits : {A : Type 0} (f : A → Result A Fault) (P : A → Type 0) → ((n x : A) → f n ≡ Ok x → P x) → (ns xs : List A) → each_by f ns ≡ Ok xs → AllByRecursion P xs
unfolding each_by
each-fits f P each [] xs e = subst (AllByRecursion P) (ok-is [] xs e) tt
each-fits f P each (n ∷ ns) xs e =
    let a = bind-ok (f n) (λ y. each_by f ns >>= λ ys. Ok (y ∷ ys)) xs e in
    let b = bind-ok (each_by f ns) (λ ys. Ok (a.0 ∷ ys)) xs a.2 in
    subst (AllByRecursion P) (ok-is (a.0 ∷ b.0) xs b.2) (each n a.0 a.1, each-fits f P each ns b.0 b.1)

buffer-fits : (n x : ℕ × ℕ) → buffer_limited n ≡ Ok x → IsBufferWithin x
buffer-fits n x e =
    let a = bind-ok (limited_short n.0) (λ channel. limited_long n.1 >>= λ capacity. Ok (channel, capacity)) x e in
    let b = bind-ok (limited_long n.1) (λ capacity. Ok (a.0, capacity)) x a.2 in
    let first = limited-is 4294967295 n.0 a.0 a.1 in
    let second = limited-is 18446744073709551615 n.1 b.0 b.1 in
    let made : ℕ × ℕ = (a.0, b.0) in
    subst IsBufferWithin (ok-is made x b.2) (record { channel = omega (arith, first.0, first.1); capacity = omega (arith, second.0, second.1) })

some-fits : (line : List ℕ) (bs : List (ℕ × ℕ)) → some_buffers_due line ≡ Ok bs → All IsBufferWithin bs
unfolding some_buffers_due
some-fits line bs read =
    let w = bind-ok (behind (codes "buffers") line) (λ x. buffer_in x >>= λ first. entries_of buffer_in (length first.1) first.1 >>= λ others. if_rising (first.0 ∷ others)) bs read in
    let f = bind-ok (buffer_in w.0) (λ first. entries_of buffer_in (length first.1) first.1 >>= λ others. if_rising (first.0 ∷ others)) bs w.2 in
    let o = bind-ok (entries_of buffer_in (length f.0.1) f.0.1) (λ others. if_rising (f.0.0 ∷ others)) bs f.2 in
    All-from_recursion IsBufferWithin bs (up (rises (f.0.0 ∷ o.0)) (f.0.0 ∷ o.0) o.2)
  where
    up : (test : Bool) (xs : List (ℕ × ℕ)) → (if test then each_by buffer_limited xs else Err Form) ≡ Ok bs → AllByRecursion IsBufferWithin bs
    up true xs e = each-fits buffer_limited IsBufferWithin buffer-fits xs bs e
    up false xs e = absurd cc

pub buffers-line-sound : (line : List ℕ) (bs : List (ℕ × ℕ)) → buffers_due line ≡ Ok bs → (line ≡ buffers_line bs) × (Rise bs × All IsBufferWithin bs)
unfolding buffers_due
buffers-line-sound line bs read = split (same line (buffers_line [])) refl read
  where
    split : (b : Bool) → same line (buffers_line []) ≡ b → (if b then fine [] else some_buffers_due line) ≡ Ok bs → (line ≡ buffers_line bs) × (Rise bs × All IsBufferWithin bs)
    split true test e =
        let is : [] ≡ bs = ok-is [] bs e in
        let text : line ≡ buffers_line [] = (bytes_eq-Decides line (buffers_line [])).0 test in
        subst (λ (xs : List (ℕ × ℕ)). (line ≡ buffers_line xs) × (Rise xs × All IsBufferWithin xs)) is (text, (λ i less. absurd (omega (arith, less)), All-nil IsBufferWithin))
    split false test e = let h = buffers-sound line bs e in (h.0, (h.1, some-fits line bs e))

capacity-fits : (n x : Option ℕ) → capacity_limited n ≡ Ok x → IsCapacityWithin x
capacity-fits None x e = subst IsCapacityWithin (ok-is None x e) tt
capacity-fits (Some n) x e =
    let a = bind-ok (limited_long n) (λ c. fine (Some c)) x e in
    let is = limited-is 18446744073709551615 n a.0 a.1 in
    subst IsCapacityWithin (ok-is (Some a.0) x a.2) (omega (arith, is.0, is.1))

pub capacities-line-sound : (line : List ℕ) (cs : List (Option ℕ)) → capacities_due line ≡ Ok cs → (line ≡ member_line cs) × All IsCapacityWithin cs
unfolding capacities_due
capacities-line-sound line cs read =
    let a = bind-ok (behind (codes "member") line) (λ rest. entries_of capacity_in (length rest) rest >>= λ ns. each_by capacity_limited ns) cs read in
    let b = bind-ok (entries_of capacity_in (length a.0) a.0) (λ ns. each_by capacity_limited ns) cs a.2 in
    (capacities-sound line cs read, All-from_recursion IsCapacityWithin cs (each-fits capacity_limited IsCapacityWithin capacity-fits b.0 cs b.2))
