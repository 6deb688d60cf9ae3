-- The bounded channels of a line are read while their numbers rise.
use Rattle.std.proofs.Common.{◌≡◌, ℕ, zero, suc, ◌+◌, ◌<◌, ◌≤◌, ◌^◌, Bool, true, false, List, [], ◌∷◌, ◌++◌, length, Result, Ok, Err, refl, sym, ap, ◌∙◌, subst, append_assoc, arith}
use Rattle.std.specs.Prelude.{nat_lt, if◌then◌else◌, ◌&&◌, codes}
use Rattle.std.specs.List.{flat_map, AllByRecursion}
use Rattle.std.specs.Fmt.{decimal}
use Rattle.std.proofs.lemmas.Bool.{ltb-true}
use Rattle.cert_text.specs.declared.reading.fault.Fault.{Fault}
use Rattle.cert_text.specs.declared.reading.fault.Fault.TheVariants.{Form}
use Rattle.cert_text.specs.Reads.{◌>>=◌}
use Rattle.cert_text.specs.BufferLines.{buffer_text, buffers_line}
use Rattle.cert_text.specs.Collected.{collected, one_more}
use Rattle.cert_text.specs.Fields.{behind, number_in, ended, entries_of, each_by}
use Rattle.cert_text.specs.LineForms.{buffer_in, buffer_limited, limited_short, limited_long, rises, some_buffers_due}
use Rattle.cert_text.specs.Spellable.{Rise}
use Rattle.cert_text.proofs.WordsLeaveTheRest.{behind-sound, ok-is}
use Rattle.cert_text.proofs.EntriesAreReadInTurn.{Goes, goes-more, goes-ends, each-more, bind-ok, limited-is, entries-sound}
use Rattle.cert_text.proofs.DigitsSpellValues.{number-sound}

abbrev pub if_rising : List (ℕ × ℕ) → Result (List (ℕ × ℕ)) Fault
if_rising bs = if rises bs then each_by buffer_limited bs else Err Form

-- the buffers that were read, the channel of the last one and whether they rise
pub record Rising (items : List (ℕ × ℕ)) (large rise : Bool) (last : ℕ) (text : List ℕ) (total : Result (List (ℕ × ℕ)) Fault) : Type 0 where
  pub front : List (ℕ × ℕ)
  pub newest : ℕ × ℕ
  pub last_is : last ≡ newest.0
  pub goes : Goes buffer_in if_rising (front ++ newest ∷ []) text total
  pub values : each_by buffer_limited (front ++ newest ∷ []) ≡ collected items large
  pub rising : rises (front ++ newest ∷ []) ≡ rise

and-left : (a b c : Bool) → (a && (b && c)) ≡ ((a && b) && c)
and-left true b c = refl
and-left false b c = refl

and-yes : (a : Bool) → (a && true) ≡ a
and-yes true = refl
and-yes false = refl

rises-more : (front : List (ℕ × ℕ)) (a b : ℕ × ℕ) → rises ((front ++ a ∷ []) ++ b ∷ []) ≡ (rises (front ++ a ∷ []) && nat_lt a.0 b.0)
unfolding rises
rises-more [] a b = and-yes (nat_lt a.0 b.0)
rises-more (c ∷ []) a b = rw (and-yes (nat_lt a.0 b.0), and-yes (nat_lt c.0 a.0)) refl
rises-more (c ∷ d ∷ ds) a b = rw (rises-more (d ∷ ds) a b) (and-left (nat_lt c.0 d.0) (rises ((d ∷ ds) ++ a ∷ [])) (nat_lt a.0 b.0))

pub rising-start : (line rest left : List ℕ) (items old_items : List (ℕ × ℕ)) (large old_large : Bool) (b : ℕ × ℕ) (value : Result (ℕ × ℕ) Fault) → behind (codes "buffers") line ≡ Ok rest → buffer_in rest ≡ Ok (b, left)
    → collected old_items old_large ≡ Ok [] → collected items large ≡ one_more (collected old_items old_large) value → value ≡ buffer_limited b → Rising items large true b.0 left (some_buffers_due line)
unfolding some_buffers_due rises each_by
rising-start line rest left items old_items large old_large b value word read none pushed is = record {
  front = [];
  newest = b;
  last_is = refl;
  goes = record { fuel = length left; enough = omega arith; goes = rw (word, read) refl };
  values = single (buffer_limited b) ∙ (ap (λ (v : Result (ℕ × ℕ) Fault). one_more (Ok []) v) (sym is) ∙ (ap (λ (r : Result (List (ℕ × ℕ)) Fault). one_more r value) (sym none) ∙ sym pushed));
  rising = refl;
}
  where
    single : (r : Result (ℕ × ℕ) Fault) → (r >>= λ y. Ok (y ∷ [])) ≡ one_more (Ok []) r
    single (Ok y) = refl
    single (Err e) = refl

pub rising-unworded : (line : List ℕ) (e : Fault) → behind (codes "buffers") line ≡ Err e → some_buffers_due line ≡ Err e
unfolding some_buffers_due
rising-unworded line e read = rw read refl

pub rising-none : (line rest : List ℕ) (e : Fault) → behind (codes "buffers") line ≡ Ok rest → buffer_in rest ≡ Err e → some_buffers_due line ≡ Err e
unfolding some_buffers_due
rising-none line rest e word read = rw (word, read) refl

pub rising-more : (items more_items : List (ℕ × ℕ)) (large more_large rise more_rise : Bool) (last next : ℕ) (text left : List ℕ) (total : Result (List (ℕ × ℕ)) Fault) (b : ℕ × ℕ) (value : Result (ℕ × ℕ) Fault)
    → Rising items large rise last text total → 1 < length text → buffer_in text ≡ Ok (b, left) → length left < length text → collected more_items more_large ≡ one_more (collected items large) value → value ≡ buffer_limited b
    → more_rise ≡ (rise && nat_lt last b.0) → next ≡ b.0 → Rising more_items more_large more_rise next left total
rising-more items more_items large more_large rise more_rise last next text left total b value h more read less pushed is up next_is = record {
  front = h.front ++ h.newest ∷ [];
  newest = b;
  last_is = next_is;
  goes = goes-more buffer_in if_rising (h.front ++ h.newest ∷ []) text total b left h.goes more read less;
  values = each-more buffer_limited (h.front ++ h.newest ∷ []) b ∙ (ap (λ (r : Result (List (ℕ × ℕ)) Fault). one_more r (buffer_limited b)) h.values ∙ (ap (λ (v : Result (ℕ × ℕ) Fault). one_more (collected items large) v) (sym is) ∙ sym pushed));
  rising = rises-more h.front h.newest b ∙ (ap (λ (r : Bool). r && nat_lt h.newest.0 b.0) h.rising ∙ (ap (λ (n : ℕ). rise && nat_lt n b.0) (sym h.last_is) ∙ sym up));
}

pub rising-falls : (items : List (ℕ × ℕ)) (large rise : Bool) (last : ℕ) (text left : List ℕ) (total : Result (List (ℕ × ℕ)) Fault) → Rising items large rise last text total → length text ≤ 1 → ended text ≡ Ok left → rise ≡ false → total ≡ Err Form
rising-falls items large rise last text left total h past end falls =
    goes-ends buffer_in if_rising (h.front ++ h.newest ∷ []) text left total h.goes past end ∙ rw (h.rising, falls) refl

pub rising-ends : (items : List (ℕ × ℕ)) (large rise : Bool) (last : ℕ) (text left : List ℕ) (total : Result (List (ℕ × ℕ)) Fault) → Rising items large rise last text total → length text ≤ 1 → ended text ≡ Ok left → rise ≡ true → total ≡ collected items large
rising-ends items large rise last text left total h past end up =
    goes-ends buffer_in if_rising (h.front ++ h.newest ∷ []) text left total h.goes past end ∙ rw (h.rising, up) h.values

-- ---- what is read is spelled so, and rises

rises-rise : (bs : List (ℕ × ℕ)) → rises bs ≡ true → Rise bs
unfolding rises
rises-rise [] e = λ i less. absurd (omega (arith, less))
rises-rise (b ∷ []) e = λ i less. absurd (omega (arith, less))
rises-rise (b ∷ c ∷ bs) e = each (nat_lt b.0 c.0) refl e (rises-rise (c ∷ bs))
  where
    each : (first : Bool) → nat_lt b.0 c.0 ≡ first → (first && rises (c ∷ bs)) ≡ true → (rises (c ∷ bs) ≡ true → Rise (c ∷ bs)) → Rise (b ∷ c ∷ bs)
    each true test all rest zero less = ltb-true b.0 c.0 test
    each true test all rest (suc i) less =
        let next : i + 1 < length (c ∷ bs) = omega (arith, less) in
        let plus : suc i + 1 ≡ suc (i + 1) = omega arith in
        rw plus (rest all i next)
    each false test all rest i less = absurd cc

abbrev AreSmall : ℕ × ℕ → Type 0
AreSmall b = (b.0 < 10 ^ 64) × (b.1 < 10 ^ 64)

buffer-sound : (text : List ℕ) (b : ℕ × ℕ) (left : List ℕ) → buffer_in text ≡ Ok (b, left) → AreSmall b → text ≡ buffer_text b ++ left
unfolding buffer_in buffer_text
buffer-sound text b left read small =
    let w = bind-ok (behind (codes " ") text) (λ x. number_in x >>= λ channel. behind (codes "=") channel.1 >>= λ y. number_in y >>= λ capacity. Ok ((channel.0, capacity.0), capacity.1)) (b, left) read in
    let n = bind-ok (number_in w.0) (λ channel. behind (codes "=") channel.1 >>= λ y. number_in y >>= λ capacity. Ok ((channel.0, capacity.0), capacity.1)) (b, left) w.2 in
    let s = bind-ok (behind (codes "=") n.0.1) (λ y. number_in y >>= λ capacity. Ok ((n.0.0, capacity.0), capacity.1)) (b, left) n.2 in
    let m = bind-ok (number_in s.0) (λ capacity. Ok ((n.0.0, capacity.0), capacity.1)) (b, left) s.2 in
    let made : (ℕ × ℕ) × List ℕ = ((n.0.0, m.0.0), m.0.1) in
    let both : made ≡ (b, left) = ok-is made (b, left) m.2 in
    let low : AreSmall (n.0.0, m.0.0) = subst AreSmall (sym (ap (λ (p : (ℕ × ℕ) × List ℕ). p.0) both)) small in
    let first = behind-sound (codes " ") text w.0 w.1 in
    let second = number-sound w.0 n.0.0 n.0.1 n.1 low.0 in
    let third = behind-sound (codes "=") n.0.1 s.0 s.1 in
    let fourth = number-sound s.0 m.0.0 m.0.1 m.1 low.1 in
    let inner : n.0.1 ≡ codes "=" ++ (decimal m.0.0 ++ m.0.1) = third ∙ ap (λ (l : List ℕ). codes "=" ++ l) fourth in
    let whole : text ≡ buffer_text (n.0.0, m.0.0) ++ m.0.1 = first ∙ ap (λ (l : List ℕ). 32 ∷ l) (second ∙ (ap (λ (l : List ℕ). decimal n.0.0 ++ l) inner ∙ sym (append_assoc (decimal n.0.0) (61 ∷ decimal m.0.0) m.0.1))) in
    subst (λ (p : (ℕ × ℕ) × List ℕ). text ≡ buffer_text p.0 ++ p.1) both whole

buffer-limited : (n x : ℕ × ℕ) → buffer_limited n ≡ Ok x → (n ≡ x) × AreSmall n
buffer-limited n x e =
    let a = bind-ok (limited_short n.0) (λ channel. limited_long n.1 >>= λ capacity. Ok (channel, capacity)) x e in
    let b = bind-ok (limited_long n.1) (λ capacity. Ok (a.0, capacity)) x a.2 in
    let first = limited-is 4294967295 n.0 a.0 a.1 in
    let second = limited-is 18446744073709551615 n.1 b.0 b.1 in
    let made : ℕ × ℕ = (a.0, b.0) in
    let is : made ≡ x = ok-is made x b.2 in
    let same : n ≡ made = ap (λ (k : ℕ). let p : ℕ × ℕ = (k, n.1) in p) first.0 ∙ ap (λ (k : ℕ). let p : ℕ × ℕ = (a.0, k) in p) second.0 in
    (same ∙ is, (omega (arith, first.1), omega (arith, second.1)))

each-buffer : (ns xs : List (ℕ × ℕ)) → each_by buffer_limited ns ≡ Ok xs → (ns ≡ xs) × AllByRecursion AreSmall ns
unfolding each_by
each-buffer [] xs e = (ok-is [] xs e, tt)
each-buffer (n ∷ ns) xs e =
    let a = bind-ok (buffer_limited n) (λ y. each_by buffer_limited ns >>= λ ys. Ok (y ∷ ys)) xs e in
    let b = bind-ok (each_by buffer_limited ns) (λ ys. Ok (a.0 ∷ ys)) xs a.2 in
    let first = buffer-limited n a.0 a.1 in
    let rest = each-buffer ns b.0 b.1 in
    (ap (λ (k : ℕ × ℕ). k ∷ ns) first.0 ∙ (ap (λ (ks : List (ℕ × ℕ)). a.0 ∷ ks) rest.0 ∙ ok-is (a.0 ∷ b.0) xs b.2), (first.1, rest.1))

pub buffers-sound : (line : List ℕ) (bs : List (ℕ × ℕ)) → some_buffers_due line ≡ Ok bs → (line ≡ buffers_line bs) × Rise bs
unfolding some_buffers_due buffers_line
buffers-sound line bs read =
    let w = bind-ok (behind (codes "buffers") line) (λ x. buffer_in x >>= λ first. entries_of buffer_in (length first.1) first.1 >>= λ others. if_rising (first.0 ∷ others)) bs read in
    let f = bind-ok (buffer_in w.0) (λ first. entries_of buffer_in (length first.1) first.1 >>= λ others. if_rising (first.0 ∷ others)) bs w.2 in
    let o = bind-ok (entries_of buffer_in (length f.0.1) f.0.1) (λ others. if_rising (f.0.0 ∷ others)) bs f.2 in
    let r = up (rises (f.0.0 ∷ o.0)) (f.0.0 ∷ o.0) refl o.2 in
    let each = each-buffer (f.0.0 ∷ o.0) bs r.1 in
    let word = behind-sound (codes "buffers") line w.0 w.1 in
    let first = buffer-sound w.0 f.0.0 f.0.1 f.1 each.1.0 in
    let rest = entries-sound buffer_in buffer_text AreSmall buffer-sound (length f.0.1) f.0.1 o.0 o.1 each.1.1 in
    let entries : w.0 ≡ flat_map buffer_text (f.0.0 ∷ o.0) ++ 10 ∷ [] = first ∙ (ap (λ (l : List ℕ). buffer_text f.0.0 ++ l) rest ∙ sym (append_assoc (buffer_text f.0.0) (flat_map buffer_text o.0) (10 ∷ []))) in
    let whole : line ≡ buffers_line (f.0.0 ∷ o.0) = word ∙ ap (λ (l : List ℕ). codes "buffers" ++ l) entries in
    subst (λ (xs : List (ℕ × ℕ)). (line ≡ buffers_line xs) × Rise xs) each.0 (whole, rises-rise (f.0.0 ∷ o.0) r.0)
  where
    up : (test : Bool) (xs : List (ℕ × ℕ)) → rises xs ≡ test → (if test then each_by buffer_limited xs else Err Form) ≡ Ok bs → (rises xs ≡ true) × (each_by buffer_limited xs ≡ Ok bs)
    up true xs is e = (is, e)
    up false xs is e = absurd cc
