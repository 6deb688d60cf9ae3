-- Each firing is read as one of the second pass, a whole number of passes away: there is no other such.
use Rattle.std.proofs.Common.{◌≡◌, ℕ, ◌+◌, ◌-◌, ◌*◌, ◌%◌, ◌≤◌, ◌<◌, length, ⊎_elim, subst, sym, refl, ap, ◌∙◌, arith, mul-le-mul_right}
use Rattle.std.specs.Int.{div_ceil}
use Rattle.std.proofs.Math.Nat.{add-mul-mod_self_right, mod-eq_of_lt}
use Rattle.std.proofs.lemmas.Bool.{cases_lt}
use Rattle.std.proofs.lemmas.Grind.{div_ceil_times}
use Rattle.firing.specs.declared.table.LoopTable.{LoopTable}
use Rattle.critical.specs.declared.cycle.FiringNo.{FiringNo}
use Rattle.critical.specs.declared.tight.ReadNeed.{ReadNeed}
use Rattle.sd_base.specs.Net.{Net, channel_at}
use Rattle.sd_base.specs.Schedules.{LastNeed, count_of}
use Rattle.sd_base.proofs.SumsRepeatByTurns.{one-last-need}
use Rattle.critical.specs.inside.Trails.{IsShortLoop, IsSecond, IsReadFrom, IsTightNeed, second_of}
use Rattle.critical.proofs.PlacesTellFirings.{firing-same}
use Rattle.critical.proofs.PassesRepeat.{actors-same}
use Rattle.critical.proofs.TightNeeds.{read-from}

place-in_window : (s v w y z i j d : ℕ) → w + 1 ≡ v → s + d ≡ y → d < v → y + i * v ≡ z + j * v → (z + s * w) % v ≡ d
place-in_window s v w y z i j d more at small same =
    let scaled : s * (w + 1) ≡ s * v = ap (λ (x : ℕ). s * x) more in
    let whole : z + s * w + j * v ≡ d + (s + i) * v = omega arith in
    let one : (z + s * w + j * v) % v ≡ (z + s * w) % v = add-mul-mod_self_right (z + s * w) j v in
    let other : (d + (s + i) * v) % v ≡ d % v = add-mul-mod_self_right d (s + i) v in
    let least : d % v ≡ d = mod-eq_of_lt small in
    sym one ∙ (ap (λ (x : ℕ). x % v) whole ∙ (other ∙ least))

number_in : LoopTable → ℕ → ℕ → ℕ
number_in table a k = second_of table a + (k + second_of table a * (count_of table.starts a - 1)) % count_of table.starts a

pub read_in : LoopTable → FiringNo → FiringNo
read_in table x = record { actor = x.actor; number = number_in table x.actor x.number }

-- no other firing of the second pass is a whole number of passes away
pub read-is : (table : LoopTable) (y z : FiringNo) → IsSecond table y → (i j : ℕ) → z.actor ≡ y.actor → y.number + i * count_of table.starts y.actor ≡ z.number + j * count_of table.starts y.actor → read_in table z ≡ y
unfolding read_in number_in
read-is table y z second i j actor same =
    let place : (z.number + second_of table y.actor * (count_of table.starts y.actor - 1)) % count_of table.starts y.actor ≡ y.number - second_of table y.actor =
    place-in_window (second_of table y.actor) (count_of table.starts y.actor) (count_of table.starts y.actor - 1) y.number z.number i j (y.number - second_of table y.actor)
    (omega (arith, second.from, second.below)) (omega (arith, second.from)) (omega (arith, second.from, second.below)) same in
    let there : number_in table z.actor z.number ≡ number_in table y.actor z.number = ap (λ (a : ℕ). number_in table a z.number) actor in
    let number : number_in table y.actor z.number ≡ y.number = omega (arith, second.from) in
    firing-same (read_in table z) y actor (there ∙ number)

-- firings that lie whole passes apart are read as one
pub read-passes : (table : LoopTable) (x y : FiringNo) (n : ℕ) → x.actor ≡ y.actor → x.number ≡ y.number + n * count_of table.starts y.actor → read_in table x ≡ read_in table y
unfolding read_in number_in
read-passes table x y n actor apart =
    let s : ℕ = second_of table y.actor in
    let v : ℕ = count_of table.starts y.actor in
    let far : x.number + s * (v - 1) ≡ y.number + s * (v - 1) + n * v = omega (arith, apart) in
    let same : (x.number + s * (v - 1)) % v ≡ (y.number + s * (v - 1)) % v = ap (λ (k : ℕ). k % v) far ∙ add-mul-mod_self_right (y.number + s * (v - 1)) n v in
    let there : number_in table x.actor x.number ≡ number_in table y.actor x.number = ap (λ (a : ℕ). number_in table a x.number) actor in
    firing-same (read_in table x) (read_in table y) actor (there ∙ ap (λ (k : ℕ). s + k) same)

module _ (net : Net) (table : LoopTable) (loop : IsShortLoop net table) (later : FiringNo) (second : IsSecond table later) where
  -- a last need of a firing of the second pass can be read there
  pub need-read : (i m : ℕ) → i < length net.channels → (channel_at net i).target ≡ later.actor → LastNeed (channel_at net i) later.number m → (need : ReadNeed) × IsReadFrom net table i m need
  need-read i m place into last =
      let b : ℕ = (channel_at net i).source in
      let s : ℕ = second_of table b in
      let v : ℕ = count_of table.starts b in
      let n : ℕ = div_ceil (s - m) v in
      let actor : b < length table.starts = omega (arith, loop.laws.sources i place, actors-same net loop.laws loop.inputs table loop.loop) in
      let some : 1 ≤ v = loop.short.some b actor in
      let bounds = div_ceil_times (s - m) v some in
      let enough : s - m ≤ n * v = bounds.0 in
      let least : n * v < s - m + v = bounds.1 in
      let none : s ≤ m → n ≡ 0 = (λ (past : s ≤ m). ⊎_elim
      (λ (h : n < 1). let zero_passes : n ≡ 0 = omega arith in zero_passes)
      (λ (h : 1 ≤ n). let more : 1 * v ≤ n * v = mul-le-mul_right v h in absurd (omega arith))
      (cases_lt n 1)) in (
        record { channel = i; firing = record { actor = b; number = m + n * v }; passes = n },
        read-from net loop.laws table loop later second i m place into last n (omega arith) (λ early. omega arith) none,
      )

  -- tight needs on one channel are read as one firing
  pub one-need : (need other : ReadNeed) → IsTightNeed net table later need → IsTightNeed net table later other → other.channel ≡ need.channel → other.firing ≡ need.firing
  one-need need other is also same =
      let i : ℕ = need.channel in
      let last : LastNeed (channel_at net i) later.number also.number = subst (λ (c : ℕ). LastNeed (channel_at net c) later.number also.number) same also.last in
      let numbers : also.number ≡ is.number = omega (arith, one-last-need (channel_at net i) later.number is.number also.number is.last last, one-last-need (channel_at net i) later.number also.number is.number last is.last) in
      let actors : other.firing.actor ≡ need.firing.actor = sym also.read.source ∙ (ap (λ (c : ℕ). (channel_at net c).source) same ∙ is.read.source) in
      let there : is.number + other.passes * count_of table.starts need.firing.actor ≡ other.firing.number =
      ap (λ (k : ℕ). k + other.passes * count_of table.starts need.firing.actor) (sym numbers) ∙ (ap (λ (a : ℕ). also.number + other.passes * count_of table.starts a) (sym actors) ∙ also.read.read) in
      let one : read_in table other.firing ≡ need.firing = read-is table need.firing other.firing is.read.second other.passes need.passes actors (omega (arith, is.read.read)) in
      let itself : read_in table other.firing ≡ other.firing = read-is table other.firing other.firing also.read.second 0 0 refl refl in
      sym itself ∙ one
