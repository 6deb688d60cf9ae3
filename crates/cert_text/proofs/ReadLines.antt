-- Each line is one, and is read from its spelling.
use Rattle.std.proofs.Common.{◌≡◌, ℕ, suc, ◌^◌, ◌<◌, ◌≤◌, Bool, true, false, List, [], ◌∷◌, ◌++◌, ℤ, pos, negsuc, Result, Ok, refl, ◌∙◌, arith, inl, inr, ◌⊎◌}
use Rattle.std.specs.Prelude.{not, ◌==◌, ◌&&◌, if◌then◌else◌, codes}
use Rattle.std.specs.Fmt.{decimal, signed_decimal}
use Rattle.std.proofs.lemmas.Bool.{le-leb, lt-ltb, eqb-true}
use Rattle.sd_base.specs.declared.role.Role.{Role}
use Rattle.sd_base.specs.declared.role.Role.TheVariants.{Token, Own, Space, Order}
use Rattle.critical.specs.declared.cycle.FiringNo.{FiringNo}
use Rattle.cert_text.specs.declared.certificates.LinkStep.{LinkStep}
use Rattle.cert_text.specs.declared.reading.fault.Fault.{Fault}
use Rattle.cert_text.specs.CycleLines.{step_line, link_text, cycle_header}
use Rattle.cert_text.specs.Fields.{behind, worded_in, is_digit}
use Rattle.cert_text.specs.Limits.{IsShort, IsLong, IsPotential, IsRateWithin, IsFiringWithin, IsLinkWithin, IsStepWithin, IsNodeWithin, IsPotentialWithin}
use Rattle.cert_text.specs.LineForms.{worded_due, version_due, overlap_due, rate_due, schedule_line_due, last_short_due, link_due, step_due, header_due, numbered_rate_due, point_line_due, node_due, nodes_line_due, last_lowered_due, last_raised_due, last_potential_due, potential_due}
use Rattle.cert_text.specs.MemberLines.{numbered_rate_line, point_line, blocked_line}
use Rattle.cert_text.specs.NumberLines.{rate_line, overlap_line, version_line}
use Rattle.cert_text.specs.Reads.{lines_of, onto, next_by}
use Rattle.cert_text.specs.ScenarioLines.{node_line, nodes_header, potential_line}
use Rattle.cert_text.specs.ScheduleLines.{schedule_header}
use Rattle.cert_text.proofs.ReadNumbers.{behind-front, number-front, long-front, digits-of, not-hyphen, all_digits}
use Rattle.cert_text.proofs.PiecesMakeTexts.{version-small}

-- ---- lines

-- a line feed stands at its end alone
abbrev pub Closes : List ℕ → Type 0
Closes line = (rest : List ℕ) → lines_of (line ++ rest) ≡ line ∷ lines_of rest

abbrev pub no_feed : List ℕ → Bool
no_feed [] = true
no_feed (b ∷ bs) = not (b == 10) && no_feed bs

pub closes-end : Closes (10 ∷ [])
unfolding lines_of
closes-end rest = refl

pub closes-word : (w : List ℕ) → no_feed w ≡ true → (line : List ℕ) → Closes line → Closes (w ++ line)
unfolding lines_of
closes-word [] none line h rest = h rest
closes-word (b ∷ w) none line h rest = split (b == 10) none (λ n. closes-word w n line h rest)
  where
    split : (feed : Bool) → (not feed && no_feed w) ≡ true → (no_feed w ≡ true → lines_of ((w ++ line) ++ rest) ≡ (w ++ line) ∷ lines_of rest)
        → (if feed then (b ∷ []) ∷ lines_of ((w ++ line) ++ rest) else onto b (lines_of ((w ++ line) ++ rest))) ≡ (b ∷ w ++ line) ∷ lines_of rest
    split true n more = absurd cc
    split false n more = rw (more n) refl

digits-fed : (ds : List ℕ) → all_digits ds ≡ true → no_feed ds ≡ true
unfolding all_digits
digits-fed [] all = refl
digits-fed (d ∷ ds) all = split (is_digit d) refl (d == 10) refl all (λ h. digits-fed ds h)
  where
    split : (t : Bool) → is_digit d ≡ t → (feed : Bool) → (d == 10) ≡ feed → (t && all_digits ds) ≡ true → (all_digits ds ≡ true → no_feed ds ≡ true) → (not feed && no_feed ds) ≡ true
    split true e true f h more = let is = eqb-true d 10 f in let wrong : is_digit d ≡ false = rw is refl in absurd (cc (e, wrong))
    split true e false f h more = more h
    split false e feed f h more = absurd cc

pub number-fed : (n : ℕ) → n < 10 ^ 64 → no_feed (decimal n) ≡ true
number-fed n small = digits-fed (decimal n) ((digits-of n small).digits)

pub closes-number : (n : ℕ) → n < 10 ^ 64 → (line : List ℕ) → Closes line → Closes (decimal n ++ line)
closes-number n small line h = closes-word (decimal n) (number-fed n small) line h

pub closes-long : (n : ℕ) → IsLong n → (line : List ℕ) → Closes line → Closes (decimal n ++ line)
closes-long n small line h = closes-number n (omega arith) line h

-- so it is the next one
pub next-line : {A : Type 0} (f : List ℕ → Result A Fault) (line rest : List ℕ) (x : A) → Closes line → f line ≡ Ok x → next_by f (lines_of (line ++ rest)) ≡ Ok (x, lines_of rest)
next-line f line rest x closes read = rw (closes rest, read) refl

-- ---- lines of one number, or of none

module _ (word : List ℕ) (fed : no_feed word ≡ true) (n : ℕ) (small : IsLong n) where
  pub worded-closes : Closes (word ++ (decimal n ++ 10 ∷ []))
  worded-closes = closes-word word fed (decimal n ++ 10 ∷ []) (closes-long n small (10 ∷ []) closes-end)

  pub worded-read : worded_due word (word ++ (decimal n ++ 10 ∷ [])) ≡ Ok n
  unfolding worded_due worded_in
  worded-read = rw (behind-front word (decimal n ++ 10 ∷ []), long-front 10 refl n small, le-leb n 18446744073709551615 small) refl

pub version-closes : (v : ℕ) → (v ≡ 1) ⊎ (v ≡ 2) → Closes (version_line v)
unfolding version_line
version-closes v is = closes-word (codes "sdf3-certificate ") refl (decimal v ++ 10 ∷ []) (closes-number v (small is) (10 ∷ []) closes-end)
  where
    small : (v ≡ 1) ⊎ (v ≡ 2) → v < 10 ^ 64
    small (inl e) = omega arith
    small (inr e) = omega arith

pub version-read : (v : ℕ) → (v ≡ 1) ⊎ (v ≡ 2) → version_due (version_line v) ≡ Ok v
unfolding version_due
version-read v (inl e) = rw (e, version-small 1 (omega arith)) refl
version-read v (inr e) = rw (e, version-small 1 (omega arith), version-small 2 (omega arith)) refl

pub overlap-closes : (b : Bool) → Closes (overlap_line b)
unfolding overlap_line
overlap-closes true = closes-word (codes "no-overlap yes") refl (10 ∷ []) closes-end
overlap-closes false = closes-word (codes "no-overlap no") refl (10 ∷ []) closes-end

pub overlap-read : (b : Bool) → overlap_due (overlap_line b) ≡ Ok b
unfolding overlap_due overlap_line
overlap-read true = refl
overlap-read false = refl

pub blocked-closes : Closes blocked_line
unfolding blocked_line
blocked-closes = closes-word (codes "blocked") refl (10 ∷ []) closes-end

-- ---- rates

fraction-closes : (r : ℕ × ℕ) → IsRateWithin r → (line : List ℕ) → Closes line → Closes (decimal r.0 ++ (codes "/" ++ (decimal r.1 ++ line)))
fraction-closes r within line h = closes-long r.0 within.num (codes "/" ++ (decimal r.1 ++ line)) (closes-word (codes "/") refl (decimal r.1 ++ line) (closes-long r.1 within.den line h))

pub rate-closes : (r : ℕ × ℕ) → IsRateWithin r → Closes (rate_line r)
unfolding rate_line
rate-closes r within = closes-word (codes "rate ") refl _ (fraction-closes r within (10 ∷ []) closes-end)

pub rate-read : (r : ℕ × ℕ) → IsRateWithin r → rate_due (rate_line r) ≡ Ok r
unfolding rate_due rate_line worded_in behind
rate-read r within = rw (long-front 47 refl r.0 within.num, long-front 10 refl r.1 within.den, le-leb r.0 18446744073709551615 within.num, le-leb r.1 18446744073709551615 within.den) refl

pub numbered-closes : (r : ℕ × ℕ) (i : ℕ) → IsRateWithin r → IsLong i → Closes (numbered_rate_line r i)
unfolding numbered_rate_line
numbered-closes r i within small = closes-word (codes "rate ") refl _ (fraction-closes r within (codes " " ++ (decimal i ++ 10 ∷ [])) (worded-closes (codes " ") refl i small))

pub numbered-read : (used all : ℕ) (r : ℕ × ℕ) (i : ℕ) → IsRateWithin r → IsLong i → i ≤ used → i < all → numbered_rate_due used all (numbered_rate_line r i) ≡ Ok (r, i)
unfolding numbered_rate_due numbered_rate_line worded_in behind
numbered-read used all r i within small some less = rw (long-front 47 refl r.0 within.num, long-front 32 refl r.1 within.den, long-front 10 refl i small, le-leb i used some, lt-ltb i all less, le-leb r.0 18446744073709551615 within.num, le-leb r.1 18446744073709551615 within.den) refl

pub point-closes : (t : ℕ) (r : ℕ × ℕ) (i : ℕ) → IsLong t → IsRateWithin r → IsLong i → Closes (point_line t r i)
unfolding point_line
point-closes t r i total within small = closes-word (codes "point ") refl _ (closes-long t total _ (closes-word (codes " ") refl _ (fraction-closes r within (codes " " ++ (decimal i ++ 10 ∷ [])) (worded-closes (codes " ") refl i small))))

pub point-read : (t : ℕ) (r : ℕ × ℕ) (i : ℕ) → IsLong t → IsRateWithin r → IsLong i → point_line_due (point_line t r i) ≡ Ok (t, r, i)
unfolding point_line_due point_line worded_in behind
point-read t r i total within small = rw (long-front 32 refl t total, long-front 47 refl r.0 within.num, long-front 32 refl r.1 within.den, long-front 10 refl i small, le-leb t 18446744073709551615 total, le-leb r.0 18446744073709551615 within.num, le-leb r.1 18446744073709551615 within.den, le-leb i 18446744073709551615 small) refl

-- ---- schedules

pub schedule-closes : (p r : ℕ) → IsLong p → IsLong r → Closes (schedule_header p r)
unfolding schedule_header
schedule-closes p r period rounds = closes-word (codes "schedule ") refl _ (closes-long p period _ (worded-closes (codes " ") refl r rounds))

pub schedule-read : (p r : ℕ) → IsLong p → IsLong r → schedule_line_due (schedule_header p r) ≡ Ok (p, r)
unfolding schedule_line_due schedule_header worded_in behind
schedule-read p r period rounds = rw (long-front 32 refl p period, long-front 10 refl r rounds, le-leb p 18446744073709551615 period, le-leb r 18446744073709551615 rounds) refl

-- ---- cycles

firing-closes : (f : FiringNo) → IsFiringWithin f → (line : List ℕ) → Closes line → Closes (decimal f.actor ++ (codes " " ++ (decimal f.number ++ (codes " " ++ line))))
firing-closes f within line h =
    closes-long f.actor (omega (arith, within.actor)) _ (closes-word (codes " ") refl _ (closes-long f.number within.number _ (closes-word (codes " ") refl line h)))

pub header-closes : (time rounds : ℕ) (f : FiringNo) (steps : ℕ) → IsLong time → IsLong rounds → IsFiringWithin f → IsLong steps → Closes (cycle_header time rounds f steps)
unfolding cycle_header
header-closes time rounds f steps w h first n =
    closes-word (codes "cycle ") refl _ (closes-long time w _ (closes-word (codes " ") refl _ (closes-long rounds h _ (closes-word (codes " ") refl _ (firing-closes f first (decimal steps ++ 10 ∷ []) (closes-long steps n (10 ∷ []) closes-end))))))

pub header-read : (time rounds : ℕ) (f : FiringNo) (steps : ℕ) → IsLong time → IsLong rounds → IsFiringWithin f → IsLong steps → header_due (cycle_header time rounds f steps) ≡ Ok (record { time = time; rounds = rounds; first = f; steps = steps })
unfolding header_due cycle_header worded_in behind
header-read time rounds f steps w h first n = rw (
  long-front 32 refl time w,
  long-front 32 refl rounds h,
  long-front 32 refl f.actor (omega (arith, first.actor)),
  long-front 32 refl f.number first.number,
  long-front 10 refl steps n,
  le-leb time 18446744073709551615 w,
  le-leb rounds 18446744073709551615 h,
  le-leb f.actor 4294967295 first.actor,
  le-leb f.number 18446744073709551615 first.number,
  le-leb steps 18446744073709551615 n,
) refl

short-read : (n : ℕ) → IsShort n → last_short_due (decimal n ++ 10 ∷ []) ≡ Ok n
unfolding last_short_due
short-read n small = rw (long-front 10 refl n (omega arith), le-leb n 4294967295 small) refl

link-closes : (l : Role) → IsLinkWithin l → Closes (link_text l ++ 10 ∷ [])
unfolding link_text
link-closes (Token i) small = closes-word (codes "t") refl _ (closes-long i (omega arith) (10 ∷ []) closes-end)
link-closes (Space i) small = closes-word (codes "s") refl _ (closes-long i (omega arith) (10 ∷ []) closes-end)
link-closes (Own i) small = closes-word (codes "o") refl _ (closes-long i (omega arith) (10 ∷ []) closes-end)
link-closes (Order a b) small = closes-end

link-read : (l : Role) → IsLinkWithin l → ((a b : ℕ) → l ≡ Order a b → ⊥) → link_due (link_text l ++ 10 ∷ []) ≡ Ok l
unfolding link_due link_text
link-read (Token i) small text = rw (short-read i small) refl
link-read (Space i) small text = rw (short-read i small) refl
link-read (Own i) small text = rw (short-read i small) refl
link-read (Order a b) small text = absurd (text a b refl)

pub step-closes : (s : LinkStep) → IsStepWithin s → Closes (step_line s)
unfolding step_line
step-closes s within = firing-closes s.to within.to (link_text s.link ++ 10 ∷ []) (link-closes s.link within.link)

pub step-read : (s : LinkStep) → IsStepWithin s → ((a b : ℕ) → s.link ≡ Order a b → ⊥) → step_due (step_line s) ≡ Ok s
unfolding step_due step_line worded_in behind
step-read s within text = rw (long-front 32 refl s.to.actor (omega (arith, within.to.actor)), long-front 32 refl s.to.number within.to.number, link-read s.link within.link text, le-leb s.to.actor 4294967295 within.to.actor, le-leb s.to.number 18446744073709551615 within.to.number) refl

-- ---- nodes

pub node-closes : (n : ℕ × ℕ) → IsNodeWithin n → Closes (node_line n)
unfolding node_line
node-closes n within = closes-long n.0 (omega (arith, within.state)) _ (worded-closes (codes " ") refl n.1 (omega (arith, within.token)))

pub node-read : (n : ℕ × ℕ) → IsNodeWithin n → node_due (node_line n) ≡ Ok n
unfolding node_due node_line worded_in behind
node-read n within = rw (long-front 32 refl n.0 (omega (arith, within.state)), long-front 10 refl n.1 (omega (arith, within.token)), le-leb n.0 4294967295 within.state, le-leb n.1 4294967295 within.token) refl

pub nodes-closes : (time edges : ℕ) (n : ℕ × ℕ) → IsLong time → IsLong edges → IsNodeWithin n → Closes (nodes_header time edges n)
unfolding nodes_header
nodes-closes time edges n w k within = closes-word (codes "cycle ") refl _ (closes-long time w _ (closes-word (codes " ") refl _ (closes-long edges k _ (closes-word (codes " ") refl _ (node-closes n within)))))

pub nodes-read : (time edges : ℕ) (n : ℕ × ℕ) → IsLong time → IsLong edges → IsNodeWithin n → nodes_line_due (nodes_header time edges n) ≡ Ok (time, edges, n)
unfolding nodes_line_due nodes_header node_line worded_in behind
nodes-read time edges n w k within = rw (
  long-front 32 refl time w,
  long-front 32 refl edges k,
  long-front 32 refl n.0 (omega (arith, within.state)),
  long-front 10 refl n.1 (omega (arith, within.token)),
  le-leb time 18446744073709551615 w,
  le-leb edges 18446744073709551615 k,
  le-leb n.0 4294967295 within.state,
  le-leb n.1 4294967295 within.token,
) refl

-- ---- potentials

size-closes : (p : ℤ) → IsPotential p → Closes (signed_decimal p ++ 10 ∷ [])
size-closes (pos n) small = closes-number n (omega arith) (10 ∷ []) closes-end
size-closes (negsuc n) small = closes-word (codes "-") refl _ (closes-number (suc n) (omega arith) (10 ∷ []) closes-end)

raised : (text left : List ℕ) (b : ℕ) → text ≡ b ∷ left → (b == 45) ≡ false → last_potential_due text ≡ last_raised_due text
unfolding last_potential_due
raised text left b is other = rw (is, other) refl

size-read : (p : ℤ) → IsPotential p → last_potential_due (signed_decimal p ++ 10 ∷ []) ≡ Ok p
unfolding last_potential_due last_lowered_due last_raised_due
size-read (pos n) small =
    let h = not-hyphen n (10 ∷ []) (omega arith) in
    raised (decimal n ++ 10 ∷ []) h.1 h.0 h.2 h.3 ∙ rw (number-front 10 refl n (omega arith), le-leb n 170141183460469231731687303715884105727 small) refl
size-read (negsuc n) small = rw (number-front 10 refl (suc n) (omega arith), le-leb (suc n) 170141183460469231731687303715884105728 (omega arith)) refl

pub potential-closes : (p : ℕ × ℕ × ℤ) → IsPotentialWithin p → Closes (potential_line p)
unfolding potential_line
potential-closes p within = closes-long p.0 (omega (arith, within.state)) _ (closes-word (codes " ") refl _ (closes-long p.1 (omega (arith, within.token)) _ (closes-word (codes " ") refl _ (size-closes p.2 within.potential))))

pub potential-read : (p : ℕ × ℕ × ℤ) → IsPotentialWithin p → potential_due (potential_line p) ≡ Ok p
unfolding potential_due potential_line worded_in behind
potential-read p within = rw (long-front 32 refl p.0 (omega (arith, within.state)), long-front 32 refl p.1 (omega (arith, within.token)), size-read p.2 within.potential, le-leb p.0 4294967295 within.state, le-leb p.1 4294967295 within.token) refl
