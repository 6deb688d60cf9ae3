-- What is read of a line is spelled so, and within its limits.
use Rattle.std.proofs.Common.{◌≡◌, ◌⊎◌, ℕ, zero, suc, ◌^◌, ◌<◌, ◌≤◌, Bool, true, false, List, [], ◌∷◌, ◌++◌, ℤ, pos, negsuc, Result, Ok, Err, refl, sym, ap, ◌∙◌, subst, arith, inl, inr}
use Rattle.std.specs.Prelude.{◌==◌, ◌&&◌, if◌then◌else◌, codes, nat_lt, nat_le, slice_index}
use Rattle.std.specs.List.{AllByRecursion, list_all}
use Rattle.std.specs.Fmt.{decimal, signed_decimal}
use Rattle.std.proofs.lemmas.Bool.{eqb-true, ltb-true, leb-true}
use Rattle.std.proofs.lemmas.Slice.Eq.{bytes_eq-Decides}
use Rattle.sd_base.specs.declared.role.Role.{Role}
use Rattle.sd_base.specs.declared.role.Role.TheVariants.{Token, Own, Space, Order}
use Rattle.cert_text.specs.declared.certificates.LinkStep.{LinkStep}
use Rattle.cert_text.specs.declared.reading.cycles.CycleHeader.{CycleHeader}
use Rattle.cert_text.specs.declared.reading.fault.Fault.{Fault}
use Rattle.cert_text.specs.declared.reading.fault.Fault.TheVariants.{Form}
use Rattle.cert_text.specs.CycleLines.{step_line, link_text, cycle_header}
use Rattle.cert_text.specs.Fields.{behind, number_in, worded_in, limited, ended}
use Rattle.cert_text.specs.Limits.{IsShort, IsLong, IsPotential, IsRateWithin, IsFiringWithin, IsLinkWithin, IsStepWithin, IsNodeWithin, IsPotentialWithin}
use Rattle.cert_text.specs.LineForms.{worded_due, version_due, overlap_due, rate_due, schedule_line_due, last_short_due, link_due, step_due, header_due, among, numbered_rate_due, point_line_due, node_due, nodes_line_due, below_zero, last_lowered_due, last_raised_due, last_potential_due, potential_due, limited_short, limited_long, same}
use Rattle.cert_text.specs.MemberLines.{numbered_rate_line, point_line}
use Rattle.cert_text.specs.NumberLines.{rate_line, overlap_line, version_line}
use Rattle.cert_text.specs.Reads.{◌>>=◌}
use Rattle.cert_text.specs.ScenarioLines.{node_line, nodes_header, potential_line}
use Rattle.cert_text.specs.ScheduleLines.{schedule_header}
use Rattle.cert_text.specs.Spellable.{HasText}
use Rattle.cert_text.proofs.WordsLeaveTheRest.{behind-sound, ended-sound, fine, ok-is}
use Rattle.cert_text.proofs.EntriesAreReadInTurn.{bind-ok, limited-is, worded-number-sound}
use Rattle.cert_text.proofs.DigitsSpellValues.{number-sound}

-- ---- lines of words and numbers

-- a number, or one behind a word
pub data Piece : Type 0 where
  Number : Piece
  Worded : List ℕ → Piece

abbrev pub fields : {B : Type 0} → List Piece → List ℕ → (List ℕ → Result B Fault) → Result B Fault
fields [] text k = ended text >>= λ z. k []
fields (Number ∷ ps) text k = number_in text >>= λ n. fields ps n.1 (λ ns. k (n.0 ∷ ns))
fields (Worded w ∷ ps) text k = worded_in w text >>= λ n. fields ps n.1 (λ ns. k (n.0 ∷ ns))

abbrev pub spell : List Piece → List ℕ → List ℕ
spell [] ns = 10 ∷ []
spell (Number ∷ ps) [] = []
spell (Number ∷ ps) (n ∷ ns) = decimal n ++ spell ps ns
spell (Worded w ∷ ps) [] = []
spell (Worded w ∷ ps) (n ∷ ns) = w ++ (decimal n ++ spell ps ns)

abbrev pub AreSmall : List ℕ → Type 0
AreSmall ns = AllByRecursion (λ n. n < 10 ^ 64) ns

-- something of the numbers that stand in a line
abbrev pub Numbers : List Piece → (List ℕ → Type 0) → Type 0
Numbers [] K = K []
Numbers (Number ∷ ps) K = (n : ℕ) × Numbers ps (λ ns. K (n ∷ ns))
Numbers (Worded w ∷ ps) K = (n : ℕ) × Numbers ps (λ ns. K (n ∷ ns))

numbers-map : (ps : List Piece) (K L : List ℕ → Type 0) → ((ns : List ℕ) → K ns → L ns) → Numbers ps K → Numbers ps L
numbers-map [] K L f h = f [] h
numbers-map (Number ∷ ps) K L f h = (h.0, numbers-map ps (λ ns. K (h.0 ∷ ns)) (λ ns. L (h.0 ∷ ns)) (λ ns k. f (h.0 ∷ ns) k) h.1)
numbers-map (Worded w ∷ ps) K L f h = (h.0, numbers-map ps (λ ns. K (h.0 ∷ ns)) (λ ns. L (h.0 ∷ ns)) (λ ns k. f (h.0 ∷ ns) k) h.1)

fields-sound : {B : Type 0} (ps : List Piece) (text : List ℕ) (k : List ℕ → Result B Fault) (x : B) → fields ps text k ≡ Ok x → Numbers ps (λ ns. (AreSmall ns → text ≡ spell ps ns) × (k ns ≡ Ok x))
fields-sound [] text k x e = let a = bind-ok (ended text) (λ z. k []) x e in (λ s. ended-sound text a.0 a.1, a.2)
fields-sound (Number ∷ ps) text k x e =
    let a = bind-ok (number_in text) (λ n. fields ps n.1 (λ ns. k (n.0 ∷ ns))) x e in (
      a.0.0,
      numbers-map ps (λ ns. (AreSmall ns → a.0.1 ≡ spell ps ns) × (k (a.0.0 ∷ ns) ≡ Ok x)) (λ ns. (AreSmall (a.0.0 ∷ ns) → text ≡ spell (Number ∷ ps) (a.0.0 ∷ ns)) × (k (a.0.0 ∷ ns) ≡ Ok x))
          (λ ns h. (λ s. number-sound text a.0.0 a.0.1 a.1 s.0 ∙ ap (λ (l : List ℕ). decimal a.0.0 ++ l) (h.0 s.1), h.1)) (fields-sound ps a.0.1 (λ ns. k (a.0.0 ∷ ns)) x a.2),
    )
fields-sound (Worded w ∷ ps) text k x e =
    let a = bind-ok (worded_in w text) (λ n. fields ps n.1 (λ ns. k (n.0 ∷ ns))) x e in (
      a.0.0,
      numbers-map ps (λ ns. (AreSmall ns → a.0.1 ≡ spell ps ns) × (k (a.0.0 ∷ ns) ≡ Ok x)) (λ ns. (AreSmall (a.0.0 ∷ ns) → text ≡ spell (Worded w ∷ ps) (a.0.0 ∷ ns)) × (k (a.0.0 ∷ ns) ≡ Ok x))
          (λ ns h. (λ s. worded-number-sound w text a.0.0 a.0.1 a.1 s.0 ∙ ap (λ (l : List ℕ). w ++ (decimal a.0.0 ++ l)) (h.0 s.1), h.1)) (fields-sound ps a.0.1 (λ ns. k (a.0.0 ∷ ns)) x a.2),
    )

-- each number with its limit
abbrev pub limits : {B : Type 0} → List ℕ → List ℕ → (List ℕ → Result B Fault) → Result B Fault
limits [] [] k = k []
limits [] (n ∷ ns) k = Err Form
limits (l ∷ ls) [] k = Err Form
limits (l ∷ ls) (n ∷ ns) k = limited l n >>= λ m. limits ls ns (λ ms. k (m ∷ ms))

abbrev pub Bounds : List ℕ → List ℕ → Type 0
Bounds [] [] = Unit {0}
Bounds [] (n ∷ ns) = ⊥
Bounds (l ∷ ls) [] = ⊥
Bounds (l ∷ ls) (n ∷ ns) = (n ≤ l) × Bounds ls ns

pub limits-sound : {B : Type 0} (ls ns : List ℕ) (k : List ℕ → Result B Fault) (x : B) → limits ls ns k ≡ Ok x → Bounds ls ns × (k ns ≡ Ok x)
limits-sound [] [] k x e = (tt, e)
limits-sound [] (n ∷ ns) k x e = absurd cc
limits-sound (l ∷ ls) [] k x e = absurd cc
limits-sound (l ∷ ls) (n ∷ ns) k x e =
    let a = bind-ok (limited l n) (λ m. limits ls ns (λ ms. k (m ∷ ms))) x e in
    let is = limited-is l n a.0 a.1 in
    let h = limits-sound ls ns (λ ms. k (a.0 ∷ ms)) x a.2 in
    ((is.1, h.0), subst (λ (m : ℕ). k (m ∷ ns) ≡ Ok x) (sym is.0) h.1)

abbrev small_limits : List ℕ → Bool
small_limits ls = list_all (λ l. nat_lt l (10 ^ 64)) ls

bounds-small : (ls ns : List ℕ) → small_limits ls ≡ true → Bounds ls ns → AreSmall ns
bounds-small [] [] small h = tt
bounds-small [] (n ∷ ns) small h = absurd h
bounds-small (l ∷ ls) [] small h = absurd h
bounds-small (l ∷ ls) (n ∷ ns) small h = split (nat_lt l (10 ^ 64)) refl small (λ s. bounds-small ls ns s h.1)
  where
    split : (b : Bool) → nat_lt l (10 ^ 64) ≡ b → (b && small_limits ls) ≡ true → (small_limits ls ≡ true → AreSmall ns) → AreSmall (n ∷ ns)
    split true test s more = let up = ltb-true l (10 ^ 64) test in let low : n ≤ l = h.0 in (omega (arith, up, low), more s)
    split false test s more = absurd cc

-- a line of words and numbers
pub form-sound : {B : Type 0} (ps : List Piece) (ls line : List ℕ) (k : List ℕ → Result B Fault) (x : B) → small_limits ls ≡ true → fields ps line (λ ns. limits ls ns k) ≡ Ok x
    → Numbers ps (λ ns. Bounds ls ns × (line ≡ spell ps ns) × (k ns ≡ Ok x))
form-sound ps ls line k x small e =
    numbers-map ps (λ ns. (AreSmall ns → line ≡ spell ps ns) × (limits ls ns k ≡ Ok x)) (λ ns. Bounds ls ns × (line ≡ spell ps ns) × (k ns ≡ Ok x))
    (λ ns h. let b = limits-sound ls ns k x h.1 in (b.0, h.0 (bounds-small ls ns small b.0), b.1)) (fields-sound ps line (λ ns. limits ls ns k) x e)

-- limits of 32 and of 64 bits
abbrev short : ℕ
short = 4294967295

abbrev long : ℕ
long = 18446744073709551615

pub worded-sound : (word line : List ℕ) (n : ℕ) → worded_due word line ≡ Ok n → (line ≡ word ++ (decimal n ++ 10 ∷ [])) × IsLong n
unfolding worded_due
worded-sound word line n read =
    let h = fields-sound (Worded word ∷ []) line (λ ns. limited_long (slice_index ns 0)) n read in
    let is = limited-is long h.0 n h.1.1 in
    subst (λ (m : ℕ). (line ≡ word ++ (decimal m ++ 10 ∷ [])) × IsLong m) is.0 (h.1.0 (omega (arith, is.1), tt), is.1)

abbrev pair : ℕ → ℕ → ℕ × ℕ
pair n m = (n, m)

pub rate-sound : (line : List ℕ) (r : ℕ × ℕ) → rate_due line ≡ Ok r → (line ≡ rate_line r) × IsRateWithin r
unfolding rate_due rate_line
rate-sound line r read =
    let h = form-sound (Worded (codes "rate ") ∷ Worded (codes "/") ∷ []) (long ∷ long ∷ []) line (λ ns. Ok (slice_index ns 0, slice_index ns 1)) r refl read in
    let b = h.1.1 in
    subst (λ (q : ℕ × ℕ). (line ≡ rate_line q) × IsRateWithin q) (ok-is (pair h.0 h.1.0) r b.2) (b.1, record { num = b.0.0; den = b.0.1.0 })

pub schedule-line-sound : (line : List ℕ) (s : ℕ × ℕ) → schedule_line_due line ≡ Ok s → (line ≡ schedule_header s.0 s.1) × (IsLong s.0 × IsLong s.1)
unfolding schedule_line_due schedule_header
schedule-line-sound line s read =
    let h = form-sound (Worded (codes "schedule ") ∷ Worded (codes " ") ∷ []) (long ∷ long ∷ []) line (λ ns. Ok (slice_index ns 0, slice_index ns 1)) s refl read in
    let b = h.1.1 in
    subst (λ (q : ℕ × ℕ). (line ≡ schedule_header q.0 q.1) × (IsLong q.0 × IsLong q.1)) (ok-is (pair h.0 h.1.0) s b.2) (b.1, (b.0.0, b.0.1.0))

-- the numbers of the first line of a cycle
pub record IsHeaderWithin (c : CycleHeader) : Type 0 where
  pub time : IsLong c.time
  pub rounds : IsLong c.rounds
  pub first : IsFiringWithin c.first
  pub steps : IsLong c.steps

abbrev header_text : CycleHeader → List ℕ
header_text c = cycle_header c.time c.rounds c.first c.steps

abbrev header_made : List ℕ → CycleHeader
header_made ns = record { time = slice_index ns 0; rounds = slice_index ns 1; first = record { actor = slice_index ns 2; number = slice_index ns 3 }; steps = slice_index ns 4 }

pub header-sound : (line : List ℕ) (c : CycleHeader) → header_due line ≡ Ok c → (line ≡ cycle_header c.time c.rounds c.first c.steps) × IsHeaderWithin c
unfolding header_due cycle_header
header-sound line c read =
    let h = form-sound (Worded (codes "cycle ") ∷ Worded (codes " ") ∷ Worded (codes " ") ∷ Worded (codes " ") ∷ Worded (codes " ") ∷ []) (long ∷ long ∷ short ∷ long ∷ long ∷ []) line (λ ns. Ok (header_made ns)) c refl read in
    let b = h.1.1.1.1.1 in
    subst (λ (q : CycleHeader). (line ≡ header_text q) × IsHeaderWithin q) (ok-is (header_made (h.0 ∷ h.1.0 ∷ h.1.1.0 ∷ h.1.1.1.0 ∷ h.1.1.1.1.0 ∷ [])) c b.2)
    (b.1, record { time = b.0.0; rounds = b.0.1.0; first = record { actor = b.0.1.1.0; number = b.0.1.1.1.0 }; steps = b.0.1.1.1.1.0 })

abbrev point_made : List ℕ → ℕ × (ℕ × ℕ) × ℕ
point_made ns = (slice_index ns 0, (slice_index ns 1, slice_index ns 2), slice_index ns 3)

pub point-line-sound : (line : List ℕ) (p : ℕ × (ℕ × ℕ) × ℕ) → point_line_due line ≡ Ok p → (line ≡ point_line p.0 p.1 p.2) × (IsLong p.0 × IsRateWithin p.1 × IsLong p.2)
unfolding point_line_due point_line
point-line-sound line p read =
    let h = form-sound (Worded (codes "point ") ∷ Worded (codes " ") ∷ Worded (codes "/") ∷ Worded (codes " ") ∷ []) (long ∷ long ∷ long ∷ long ∷ []) line (λ ns. Ok (point_made ns)) p refl read in
    let b = h.1.1.1.1 in
    subst (λ (q : ℕ × (ℕ × ℕ) × ℕ). (line ≡ point_line q.0 q.1 q.2) × (IsLong q.0 × IsRateWithin q.1 × IsLong q.2)) (ok-is (point_made (h.0 ∷ h.1.0 ∷ h.1.1.0 ∷ h.1.1.1.0 ∷ [])) p b.2)
    (b.1, (b.0.0, record { num = b.0.1.0; den = b.0.1.1.0 }, b.0.1.1.1.0))

pub node-sound : (line : List ℕ) (n : ℕ × ℕ) → node_due line ≡ Ok n → (line ≡ node_line n) × IsNodeWithin n
unfolding node_due node_line
node-sound line n read =
    let h = form-sound (Number ∷ Worded (codes " ") ∷ []) (short ∷ short ∷ []) line (λ ns. Ok (slice_index ns 0, slice_index ns 1)) n refl read in
    let b = h.1.1 in
    subst (λ (q : ℕ × ℕ). (line ≡ node_line q) × IsNodeWithin q) (ok-is (pair h.0 h.1.0) n b.2) (b.1, record { state = b.0.0; token = b.0.1.0 })

abbrev nodes_made : List ℕ → ℕ × ℕ × (ℕ × ℕ)
nodes_made ns = (slice_index ns 0, slice_index ns 1, (slice_index ns 2, slice_index ns 3))

pub nodes-line-sound : (line : List ℕ) (n : ℕ × ℕ × (ℕ × ℕ)) → nodes_line_due line ≡ Ok n → (line ≡ nodes_header n.0 n.1 n.2) × (IsLong n.0 × IsLong n.1 × IsNodeWithin n.2)
unfolding nodes_line_due nodes_header node_line
nodes-line-sound line n read =
    let h = form-sound (Worded (codes "cycle ") ∷ Worded (codes " ") ∷ Worded (codes " ") ∷ Worded (codes " ") ∷ []) (long ∷ long ∷ short ∷ short ∷ []) line (λ ns. Ok (nodes_made ns)) n refl read in
    let b = h.1.1.1.1 in
    subst (λ (q : ℕ × ℕ × (ℕ × ℕ)). (line ≡ nodes_header q.0 q.1 q.2) × (IsLong q.0 × IsLong q.1 × IsNodeWithin q.2)) (ok-is (nodes_made (h.0 ∷ h.1.0 ∷ h.1.1.0 ∷ h.1.1.1.0 ∷ [])) n b.2)
    (b.1, (b.0.0, b.0.1.0, record { state = b.0.1.1.0; token = b.0.1.1.1.0 }))

-- the number of a cycle is checked first
among-is : (used all i j : ℕ) → among used all i ≡ Ok j → (i ≡ j) × (i ≤ used) × (i < all)
among-is used all i j e = split (nat_le i used) refl (nat_lt i all) refl e
  where
    split : (a : Bool) → nat_le i used ≡ a → (b : Bool) → nat_lt i all ≡ b → (if a && b then fine i else Err Form) ≡ Ok j → (i ≡ j) × (i ≤ used) × (i < all)
    split true a true b e = (ok-is i j e, leb-true i used a, ltb-true i all b)
    split true a false b e = absurd cc
    split false a b c e = absurd cc

abbrev numbered_then : ℕ → ℕ → List ℕ → Result ((ℕ × ℕ) × ℕ) Fault
numbered_then used all ns = among used all (slice_index ns 2) >>= λ i. limits (long ∷ long ∷ []) (slice_index ns 0 ∷ slice_index ns 1 ∷ []) (λ ms. Ok ((slice_index ms 0, slice_index ms 1), i))

pub numbered-sound : (used all : ℕ) (line : List ℕ) (r : (ℕ × ℕ) × ℕ) → IsLong all → numbered_rate_due used all line ≡ Ok r → (line ≡ numbered_rate_line r.0 r.1) × (IsRateWithin r.0 × (r.1 ≤ used) × (r.1 < all))
unfolding numbered_rate_due numbered_rate_line
numbered-sound used all line r many read =
    let h = fields-sound (Worded (codes "rate ") ∷ Worded (codes "/") ∷ Worded (codes " ") ∷ []) line (numbered_then used all) r read in
    let n : ℕ = h.0 in
    let d : ℕ = h.1.0 in
    let k : ℕ = h.1.1.0 in
    let b = h.1.1.1 in
    let a = bind-ok (among used all k) (λ i. limits (long ∷ long ∷ []) (n ∷ d ∷ []) (λ ms. Ok ((slice_index ms 0, slice_index ms 1), i))) r b.1 in
    let is = among-is used all k a.0 a.1 in
    let l = limits-sound (long ∷ long ∷ []) (n ∷ d ∷ []) (λ ms. Ok ((slice_index ms 0, slice_index ms 1), a.0)) r a.2 in
    let low : n ≤ long = l.0.0 in
    let below : d ≤ long = l.0.1.0 in
    let last : k < 10 ^ 64 = let up = is.2 in omega (arith, up, many) in
    let made : (ℕ × ℕ) × ℕ = ((n, d), a.0) in
    let same : ((n, d), k) ≡ made = ap (λ (j : ℕ). let q : (ℕ × ℕ) × ℕ = ((n, d), j) in q) is.0 in
    subst (λ (q : (ℕ × ℕ) × ℕ). (line ≡ numbered_rate_line q.0 q.1) × (IsRateWithin q.0 × (q.1 ≤ used) × (q.1 < all))) (same ∙ ok-is made r l.1)
    (b.0 (omega (arith, low), (omega (arith, below), (last, tt))), (record { num = low; den = below }, is.1, is.2))

-- ---- lines that are compared

pub same-is : (a b : List ℕ) → same a b ≡ true → a ≡ b
same-is a b e = (bytes_eq-Decides a b).0 e

pub version-sound : (line : List ℕ) (v : ℕ) → version_due line ≡ Ok v → (line ≡ version_line v) × ((v ≡ 1) ⊎ (v ≡ 2))
unfolding version_due
version-sound line v read = split (same line (version_line 1)) refl (same line (version_line 2)) refl read
  where
    split : (a : Bool) → same line (version_line 1) ≡ a → (b : Bool) → same line (version_line 2) ≡ b → (if a then fine 1 else if b then fine 2 else Err Form) ≡ Ok v → (line ≡ version_line v) × ((v ≡ 1) ⊎ (v ≡ 2))
    split true a b test e = let is : 1 ≡ v = ok-is 1 v e in (same-is line (version_line 1) a ∙ ap version_line is, inl (sym is))
    split false a true b e = let is : 2 ≡ v = ok-is 2 v e in (same-is line (version_line 2) b ∙ ap version_line is, inr (sym is))
    split false a false b e = absurd cc

pub overlap-sound : (line : List ℕ) (o : Bool) → overlap_due line ≡ Ok o → line ≡ overlap_line o
unfolding overlap_due
overlap-sound line o read = split (same line (overlap_line true)) refl (same line (overlap_line false)) refl read
  where
    split : (a : Bool) → same line (overlap_line true) ≡ a → (b : Bool) → same line (overlap_line false) ≡ b → (if a then fine true else if b then fine false else Err Form) ≡ Ok o → line ≡ overlap_line o
    split true a b test e = same-is line (overlap_line true) a ∙ ap overlap_line (ok-is true o e)
    split false a true b e = same-is line (overlap_line false) b ∙ ap overlap_line (ok-is false o e)
    split false a false b e = absurd cc

-- ---- steps

last-short-sound : (text : List ℕ) (n : ℕ) → last_short_due text ≡ Ok n → (text ≡ decimal n ++ 10 ∷ []) × IsShort n
unfolding last_short_due
last-short-sound text n read =
    let h = fields-sound (Number ∷ []) text (λ ns. limited_short (slice_index ns 0)) n read in
    let is = limited-is short h.0 n h.1.1 in
    subst (λ (m : ℕ). (text ≡ decimal m ++ 10 ∷ []) × IsShort m) is.0 (h.1.0 (omega (arith, is.1), tt), is.1)

-- a link that is read
record IsLinkRead (text : List ℕ) (l : Role) : Type 0 where
  spelled : text ≡ link_text l ++ 10 ∷ []
  within : IsLinkWithin l
  written : (a b : ℕ) → l ≡ Order a b → ⊥

link-of : (make : ℕ → Role) (text line : List ℕ) (l : Role) → ((n : ℕ) → text ≡ decimal n ++ 10 ∷ [] → IsShort n → IsLinkRead line (make n)) → (last_short_due text >>= λ n. Ok (make n)) ≡ Ok l → IsLinkRead line l
link-of make text line l each read =
    let a = bind-ok (last_short_due text) (λ n. Ok (make n)) l read in
    let s = last-short-sound text a.0 a.1 in
    subst (IsLinkRead line) (ok-is (make a.0) l a.2) (each a.0 s.0 s.1)

link-sound : (text : List ℕ) (l : Role) → link_due text ≡ Ok l → IsLinkRead text l
unfolding link_due link_text
link-sound [] l read = absurd cc
link-sound (b ∷ text) l read = split (b == 116) refl (b == 115) refl (b == 111) refl read
  where
    split : (x : Bool) → (b == 116) ≡ x → (y : Bool) → (b == 115) ≡ y → (z : Bool) → (b == 111) ≡ z
        → (if x then (last_short_due text >>= λ n. Ok (Token n)) else if y then (last_short_due text >>= λ n. Ok (Space n)) else if z then (last_short_due text >>= λ n. Ok (Own n)) else Err Form) ≡ Ok l → IsLinkRead (b ∷ text) l
    split true x y b1 z c1 e = link-of (λ n. Token n) text (b ∷ text) l (λ n t s. record { spelled = ap (λ (k : ℕ). k ∷ text) (eqb-true b 116 x) ∙ ap (λ (r : List ℕ). 116 ∷ r) t; within = s; written = λ i j q. cc }) e
    split false x true y z c1 e = link-of (λ n. Space n) text (b ∷ text) l (λ n t s. record { spelled = ap (λ (k : ℕ). k ∷ text) (eqb-true b 115 y) ∙ ap (λ (r : List ℕ). 115 ∷ r) t; within = s; written = λ i j q. cc }) e
    split false x false y true z e = link-of (λ n. Own n) text (b ∷ text) l (λ n t s. record { spelled = ap (λ (k : ℕ). k ∷ text) (eqb-true b 111 z) ∙ ap (λ (r : List ℕ). 111 ∷ r) t; within = s; written = λ i j q. cc }) e
    split false x false y false z e = absurd cc

abbrev step_made : ℕ → ℕ → Role → LinkStep
step_made i k l = record { to = record { actor = i; number = k }; link = l }

pub step-sound : (line : List ℕ) (s : LinkStep) → step_due line ≡ Ok s → (line ≡ step_line s) × (IsStepWithin s × HasText s)
unfolding step_due step_line
step-sound line s read =
    let a = bind-ok (number_in line) (λ actor. worded_in (codes " ") actor.1 >>= λ firing. behind (codes " ") firing.1 >>= λ y. link_due y >>= λ link. limited_short actor.0 >>= λ i. limited_long firing.0 >>= λ k. Ok (step_made i k link)) s read in
    let c = bind-ok (worded_in (codes " ") a.0.1) (λ firing. behind (codes " ") firing.1 >>= λ y. link_due y >>= λ link. limited_short a.0.0 >>= λ i. limited_long firing.0 >>= λ k. Ok (step_made i k link)) s a.2 in
    let d = bind-ok (behind (codes " ") c.0.1) (λ y. link_due y >>= λ link. limited_short a.0.0 >>= λ i. limited_long c.0.0 >>= λ k. Ok (step_made i k link)) s c.2 in
    let l = bind-ok (link_due d.0) (λ link. limited_short a.0.0 >>= λ i. limited_long c.0.0 >>= λ k. Ok (step_made i k link)) s d.2 in
    let m = limits-sound (short ∷ long ∷ []) (a.0.0 ∷ c.0.0 ∷ []) (λ ns. Ok (step_made (slice_index ns 0) (slice_index ns 1) l.0)) s l.2 in
    let low : a.0.0 ≤ short = m.0.0 in
    let high : c.0.0 ≤ long = m.0.1.0 in
    let link = link-sound d.0 l.0 l.1 in
    let first = number-sound line a.0.0 a.0.1 a.1 (omega (arith, low)) in
    let second = worded-number-sound (codes " ") a.0.1 c.0.0 c.0.1 c.1 (omega (arith, high)) in
    let third = behind-sound (codes " ") c.0.1 d.0 d.1 in
    let whole : line ≡ step_line (step_made a.0.0 c.0.0 l.0) = first ∙ ap (λ (t : List ℕ). decimal a.0.0 ++ t) (second ∙ ap (λ (t : List ℕ). 32 ∷ decimal c.0.0 ++ t) (third ∙ ap (λ (t : List ℕ). 32 ∷ t) link.spelled)) in
    subst (λ (q : LinkStep). (line ≡ step_line q) × (IsStepWithin q × HasText q)) (ok-is (step_made a.0.0 c.0.0 l.0) s m.1)
    (whole, (record { to = record { actor = low; number = high }; link = link.within }, link.written))

-- ---- potentials

last-number : (limit : ℕ) (text : List ℕ) (p : ℤ) (k : ℕ → Result ℤ Fault) → small_limits (limit ∷ []) ≡ true → (number_in text >>= λ n. ended n.1 >>= λ z. limited limit n.0 >>= λ size. k size) ≡ Ok p
    → (n : ℕ) × (n ≤ limit) × (text ≡ decimal n ++ 10 ∷ []) × (k n ≡ Ok p)
last-number limit text p k small read =
    let h = form-sound (Number ∷ []) (limit ∷ []) text (λ ns. k (slice_index ns 0)) p small read in
    (h.0, h.1.0.0, h.1.1, h.1.2)

lowered-is : (n : ℕ) (p : ℤ) → n ≤ 170141183460469231731687303715884105728 → below_zero n ≡ Ok p → (45 ∷ decimal n ≡ signed_decimal p) × IsPotential p
lowered-is zero p low e = absurd cc
lowered-is (suc n) p low e = subst (λ (q : ℤ). (45 ∷ decimal (suc n) ≡ signed_decimal q) × IsPotential q) (ok-is (negsuc n) p e) (refl, omega (arith, low))

size-sound : (text : List ℕ) (p : ℤ) → last_potential_due text ≡ Ok p → (text ≡ signed_decimal p ++ 10 ∷ []) × IsPotential p
unfolding last_potential_due last_lowered_due last_raised_due
size-sound [] p read = absurd cc
size-sound (b ∷ text) p read = split (b == 45) refl read
  where
    split : (x : Bool) → (b == 45) ≡ x → (if x then last_lowered_due text else last_raised_due (b ∷ text)) ≡ Ok p → (b ∷ text ≡ signed_decimal p ++ 10 ∷ []) × IsPotential p
    split true x e =
        let h = last-number 170141183460469231731687303715884105728 text p below_zero refl e in
        let is = lowered-is h.0 p h.1 h.3 in
        (ap (λ (k : ℕ). k ∷ text) (eqb-true b 45 x) ∙ (ap (λ (t : List ℕ). 45 ∷ t) h.2 ∙ ap (λ (t : List ℕ). t ++ 10 ∷ []) is.0), is.1)
    split false x e =
        let h = last-number 170141183460469231731687303715884105727 (b ∷ text) p (λ n. Ok (pos n)) refl e in
        subst (λ (q : ℤ). (b ∷ text ≡ signed_decimal q ++ 10 ∷ []) × IsPotential q) (ok-is (pos h.0) p h.3) (h.2, h.1)

abbrev potential_made : ℕ → ℕ → ℤ → ℕ × ℕ × ℤ
potential_made s t p = (s, t, p)

pub potential-sound : (line : List ℕ) (p : ℕ × ℕ × ℤ) → potential_due line ≡ Ok p → (line ≡ potential_line p) × IsPotentialWithin p
unfolding potential_due potential_line
potential-sound line p read =
    let a = bind-ok (number_in line) (λ state. worded_in (codes " ") state.1 >>= λ token. behind (codes " ") token.1 >>= λ y. last_potential_due y >>= λ size. limited_short state.0 >>= λ i. limited_short token.0 >>= λ k. Ok (potential_made i k size)) p read in
    let c = bind-ok (worded_in (codes " ") a.0.1) (λ token. behind (codes " ") token.1 >>= λ y. last_potential_due y >>= λ size. limited_short a.0.0 >>= λ i. limited_short token.0 >>= λ k. Ok (potential_made i k size)) p a.2 in
    let d = bind-ok (behind (codes " ") c.0.1) (λ y. last_potential_due y >>= λ size. limited_short a.0.0 >>= λ i. limited_short c.0.0 >>= λ k. Ok (potential_made i k size)) p c.2 in
    let l = bind-ok (last_potential_due d.0) (λ size. limited_short a.0.0 >>= λ i. limited_short c.0.0 >>= λ k. Ok (potential_made i k size)) p d.2 in
    let m = limits-sound (short ∷ short ∷ []) (a.0.0 ∷ c.0.0 ∷ []) (λ ns. Ok (potential_made (slice_index ns 0) (slice_index ns 1) l.0)) p l.2 in
    let low : a.0.0 ≤ short = m.0.0 in
    let high : c.0.0 ≤ short = m.0.1.0 in
    let size = size-sound d.0 l.0 l.1 in
    let first = number-sound line a.0.0 a.0.1 a.1 (omega (arith, low)) in
    let second = worded-number-sound (codes " ") a.0.1 c.0.0 c.0.1 c.1 (omega (arith, high)) in
    let third = behind-sound (codes " ") c.0.1 d.0 d.1 in
    let whole : line ≡ potential_line (potential_made a.0.0 c.0.0 l.0) = first ∙ ap (λ (t : List ℕ). decimal a.0.0 ++ t) (second ∙ ap (λ (t : List ℕ). 32 ∷ decimal c.0.0 ++ t) (third ∙ ap (λ (t : List ℕ). 32 ∷ t) size.0)) in
    subst (λ (q : ℕ × ℕ × ℤ). (line ≡ potential_line q) × IsPotentialWithin q) (ok-is (potential_made a.0.0 c.0.0 l.0) p m.1)
    (whole, record { state = low; token = high; potential = size.1 })
