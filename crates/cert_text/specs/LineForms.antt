-- Each kind of line: first its form, then the limits of its numbers.
use Rattle.std.specs.Prelude.{ℕ, ℤ, pos, negsuc, zero, suc, List, [], ◌∷◌, Bool, true, false, ◌&&◌, Option, Some, None, Result, Ok, Err, codes, length, nat_lt, nat_le, ◌==◌, if◌then◌else◌}
use Rattle.std.specs.Str.{bytes_eq}
use Rattle.sd_base.specs.declared.role.Role.{Role}
use Rattle.sd_base.specs.declared.role.Role.TheVariants.{Token, Own, Space}
use Rattle.cert_text.specs.declared.certificates.LinkStep.{LinkStep}
use Rattle.cert_text.specs.declared.reading.cycles.CycleHeader.{CycleHeader}
use Rattle.cert_text.specs.declared.reading.fault.Fault.{Fault}
use Rattle.cert_text.specs.declared.reading.fault.Fault.TheVariants.{Form}
use Rattle.cert_text.specs.Reads.{◌>>=◌}
use Rattle.cert_text.specs.Fields.{behind, number_in, worded_in, limited, ended, entries_of, each_by}
use Rattle.cert_text.specs.Widths.{SHORT_MAX, LONG_MAX, SIGNED_MAX, SIGNED_MIN}
use Rattle.cert_text.specs.NumberLines.{overlap_line, version_line}
use Rattle.cert_text.specs.BufferLines.{buffers_line}

-- limits of 32 and of 64 bits
abbrev pub limited_short : ℕ → Result ℕ Fault
limited_short n = limited SHORT_MAX n

abbrev pub limited_long : ℕ → Result ℕ Fault
limited_long n = limited LONG_MAX n

-- whether two texts are the same
abbrev pub same : List ℕ → List ℕ → Bool
same a b = bytes_eq a b

-- a word and a number
unfoldable pub worded_due : List ℕ → List ℕ → Result ℕ Fault
worded_due start line = do
  n ← worded_in start line
  z ← ended n.1
  limited_long n.0

unfoldable pub version_due : List ℕ → Result ℕ Fault
version_due line = if same line (version_line 1) then Ok 1 else if same line (version_line 2) then Ok 2 else Err Form

unfoldable pub overlap_due : List ℕ → Result Bool Fault
overlap_due line = if same line (overlap_line true) then Ok true else if same line (overlap_line false) then Ok false else Err Form

-- a rate
unfoldable pub rate_due : List ℕ → Result (ℕ × ℕ) Fault
rate_due line = do
  num ← worded_in (codes "rate ") line
  den ← worded_in (codes "/") num.1
  z ← ended den.1
  n ← limited_long num.0
  d ← limited_long den.0
  Ok (n, d)

-- numbers up to a limit, at least one
unfoldable pub numbers_due : ℕ → List ℕ → Result (List ℕ) Fault
numbers_due limit line = do
  first ← number_in line
  others ← entries_of (worded_in (codes " ")) (length first.1) first.1
  each_by (limited limit) (first.0 ∷ others)

-- bounded channels and their capacities
unfoldable pub buffer_in : List ℕ → Result ((ℕ × ℕ) × List ℕ) Fault
buffer_in text = do
  a ← behind (codes " ") text
  channel ← number_in a
  b ← behind (codes "=") channel.1
  capacity ← number_in b
  Ok ((channel.0, capacity.0), capacity.1)

abbrev pub buffer_limited : ℕ × ℕ → Result (ℕ × ℕ) Fault
buffer_limited b = do
  channel ← limited_short b.0
  capacity ← limited_long b.1
  Ok (channel, capacity)

unfoldable pub rises : List (ℕ × ℕ) → Bool
rises [] = true
rises (b ∷ []) = true
rises (b ∷ c ∷ bs) = nat_lt b.0 c.0 && rises (c ∷ bs)

unfoldable pub some_buffers_due : List ℕ → Result (List (ℕ × ℕ)) Fault
some_buffers_due line = do
  a ← behind (codes "buffers") line
  first ← buffer_in a
  others ← entries_of buffer_in (length first.1) first.1
  if rises (first.0 ∷ others) then each_by buffer_limited (first.0 ∷ others) else Err Form

unfoldable pub buffers_due : List ℕ → Result (List (ℕ × ℕ)) Fault
buffers_due line = if same line (buffers_line []) then Ok [] else some_buffers_due line

-- the first line of a schedule: the period and the rounds
unfoldable pub schedule_line_due : List ℕ → Result (ℕ × ℕ) Fault
schedule_line_due line = do
  period ← worded_in (codes "schedule ") line
  rounds ← worded_in (codes " ") period.1
  z ← ended rounds.1
  p ← limited_long period.0
  r ← limited_long rounds.0
  Ok (p, r)

-- a link, which is all that is left of a line
unfoldable pub last_short_due : List ℕ → Result ℕ Fault
last_short_due text = do
  n ← number_in text
  z ← ended n.1
  limited_short n.0

unfoldable pub link_due : List ℕ → Result Role Fault
link_due [] = Err Form
link_due (b ∷ text) = if b == 116 then (do
  channel ← last_short_due text
  Ok (Token channel)) else if b == 115 then (do
    channel ← last_short_due text
    Ok (Space channel)) else if b == 111 then (do
      actor ← last_short_due text
      Ok (Own actor)) else Err Form

unfoldable pub step_due : List ℕ → Result LinkStep Fault
step_due line = do
  actor ← number_in line
  firing ← worded_in (codes " ") actor.1
  b ← behind (codes " ") firing.1
  link ← link_due b
  i ← limited_short actor.0
  k ← limited_long firing.0
  Ok (record { to = record { actor = i; number = k }; link = link })

-- the numbers of the first line of a cycle, each within its limit
abbrev pub header_limited : ℕ → ℕ → ℕ → ℕ → ℕ → Result CycleHeader Fault
header_limited time rounds actor firing steps = do
  w ← limited_long time
  h ← limited_long rounds
  i ← limited_short actor
  k ← limited_long firing
  n ← limited_long steps
  Ok (record { time = w; rounds = h; first = record { actor = i; number = k }; steps = n })

-- the first line of a cycle: the time, the rounds, the first firing and the number of steps
unfoldable pub header_due : List ℕ → Result CycleHeader Fault
header_due line = do
  time ← worded_in (codes "cycle ") line
  rounds ← worded_in (codes " ") time.1
  actor ← worded_in (codes " ") rounds.1
  firing ← worded_in (codes " ") actor.1
  steps ← worded_in (codes " ") firing.1
  z ← ended steps.1
  header_limited time.0 rounds.0 actor.0 firing.0 steps.0

-- capacities, with a hyphen where a channel has none
unfoldable pub hyphen_or_number_in : List ℕ → Result (Option ℕ × List ℕ) Fault
hyphen_or_number_in [] = Err Form
hyphen_or_number_in (b ∷ text) = if b == 45 then Ok (None, text) else (do
  n ← number_in (b ∷ text)
  Ok (Some n.0, n.1))

unfoldable pub capacity_in : List ℕ → Result (Option ℕ × List ℕ) Fault
capacity_in text = do
  a ← behind (codes " ") text
  hyphen_or_number_in a

abbrev pub capacity_limited : Option ℕ → Result (Option ℕ) Fault
capacity_limited None = Ok None
capacity_limited (Some n) = do
  c ← limited_long n
  Ok (Some c)

unfoldable pub capacities_due : List ℕ → Result (List (Option ℕ)) Fault
capacities_due line = do
  a ← behind (codes "member") line
  capacities ← entries_of capacity_in (length a) a
  each_by capacity_limited capacities

-- a rate and the number of a cycle, which is one of the first `used` of `all` or the next one
abbrev pub among : ℕ → ℕ → ℕ → Result ℕ Fault
among used all i = if nat_le i used && nat_lt i all then Ok i else Err Form

unfoldable pub numbered_rate_due : ℕ → ℕ → List ℕ → Result ((ℕ × ℕ) × ℕ) Fault
numbered_rate_due used all line = do
  num ← worded_in (codes "rate ") line
  den ← worded_in (codes "/") num.1
  cycle ← worded_in (codes " ") den.1
  z ← ended cycle.1
  i ← among used all cycle.0
  n ← limited_long num.0
  d ← limited_long den.0
  Ok ((n, d), i)

-- the first line of a point: the storage, the rate and the number of its member
unfoldable pub point_line_due : List ℕ → Result (ℕ × (ℕ × ℕ) × ℕ) Fault
point_line_due line = do
  total ← worded_in (codes "point ") line
  num ← worded_in (codes " ") total.1
  den ← worded_in (codes "/") num.1
  member ← worded_in (codes " ") den.1
  z ← ended member.1
  t ← limited_long total.0
  n ← limited_long num.0
  m ← limited_long den.0
  i ← limited_long member.0
  Ok (t, (n, m), i)

-- a node: a state and a token
unfoldable pub node_due : List ℕ → Result (ℕ × ℕ) Fault
node_due line = do
  state ← number_in line
  token ← worded_in (codes " ") state.1
  z ← ended token.1
  s ← limited_short state.0
  t ← limited_short token.0
  Ok (s, t)

-- the first line of a cycle of nodes: the time, the number of edges and the first node
unfoldable pub nodes_line_due : List ℕ → Result (ℕ × ℕ × (ℕ × ℕ)) Fault
nodes_line_due line = do
  time ← worded_in (codes "cycle ") line
  edges ← worded_in (codes " ") time.1
  state ← worded_in (codes " ") edges.1
  token ← worded_in (codes " ") state.1
  z ← ended token.1
  w ← limited_long time.0
  n ← limited_long edges.0
  s ← limited_short state.0
  t ← limited_short token.0
  Ok (w, n, (s, t))

-- a potential of 128 bits with a sign, which is all that is left of a line; -0 isn't one
abbrev pub below_zero : ℕ → Result ℤ Fault
below_zero zero = Err Form
below_zero (suc n) = Ok (negsuc n)

unfoldable pub last_lowered_due : List ℕ → Result ℤ Fault
last_lowered_due text = do
  n ← number_in text
  z ← ended n.1
  size ← limited SIGNED_MIN n.0
  below_zero size

unfoldable pub last_raised_due : List ℕ → Result ℤ Fault
last_raised_due text = do
  n ← number_in text
  z ← ended n.1
  size ← limited SIGNED_MAX n.0
  Ok (pos size)

unfoldable pub last_potential_due : List ℕ → Result ℤ Fault
last_potential_due [] = Err Form
last_potential_due (b ∷ text) = if b == 45 then last_lowered_due text else last_raised_due (b ∷ text)

unfoldable pub potential_due : List ℕ → Result (ℕ × ℕ × ℤ) Fault
potential_due line = do
  state ← number_in line
  token ← worded_in (codes " ") state.1
  b ← behind (codes " ") token.1
  potential ← last_potential_due b
  s ← limited_short state.0
  t ← limited_short token.0
  Ok (s, t, potential)
