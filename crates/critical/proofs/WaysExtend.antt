-- A way stays one when it gets a firing more that can be met next, and when it loses its last one.
use Rattle.std.proofs.Common.{◌≡◌, ℕ, suc, ◌+◌, ◌-◌, ◌*◌, ◌≤◌, ◌<◌, List, [], ◌∷◌, ◌++◌, length, take, ⊎_elim, subst, sym, refl, ap, ◌∙◌, arith}
use Rattle.std.proofs.lemmas.Bool.{cases_lt}
use Rattle.std.proofs.lemmas.List.{get_or_append_left, get_or_push, get_or-take, length_push, length-take-le}
use Rattle.firing.specs.declared.table.LoopTable.{LoopTable}
use Rattle.critical.specs.declared.walk.Met.{Met}
use Rattle.sd_base.specs.Net.{Net}
use Rattle.sd_base.specs.Schedules.{time_of}
use Rattle.critical.specs.inside.Trails.{IsShortLoop, IsSecond, IsTrail, Leads, met_at, none_met}
use Rattle.critical.specs.inside.Searches.{IsNoSpace, IsWay}
use Rattle.critical.proofs.MarkedFiringsRecur.{need-near, short-time}

-- m stands behind all of a way
pub record Extends (short long : List Met) (m : Met) : Type 0 where
  pub more : length long ≡ length short + 1
  pub same : (i : ℕ) → i < length short → met_at long i ≡ met_at short i
  pub last : met_at long (length short) ≡ m

pub extends-push : (old new : List Met) (m : Met) → new ≡ old ++ m ∷ [] → Extends old new m
extends-push old new m pushed = subst (λ (xs : List Met). Extends old xs m) (sym pushed) (record {
  more = length_push old m;
  same = λ i below. get_or_append_left old (m ∷ []) none_met i below;
  last = get_or_push old m none_met (length old) refl;
})

pub extends-pop : (old new : List Met) (n : ℕ) → n ≡ length old → 1 ≤ length old → new ≡ take (n - 1) old → Extends new old (met_at old (length old - 1))
extends-pop old new n long some rest =
    let fewer : length new ≡ n - 1 = ap length rest ∙ length-take-le (n - 1) old (omega arith) in
    let place : length new ≡ length old - 1 = omega arith in
    record {
      more = omega arith;
      same = λ i below. sym (ap (λ (xs : List Met). met_at xs i) rest ∙ get_or-take (n - 1) old i none_met (omega arith));
      last = ap (met_at old) place;
    }

module _ (short long : List Met) (m : Met) (more : Extends short long m) where
  pub each-more : (P : ℕ → Met → Type 0) → ((i : ℕ) → i < length short → P i (met_at short i)) → P (length short) m → (i : ℕ) → i < length long → P i (met_at long i)
  each-more P each new i below = ⊎_elim
      (λ (old : i < length short). subst (P i) (sym (more.same i old)) (each i old))
      (λ (late : length short ≤ i).
      let place : length short ≡ i = omega (arith, more.more) in
      subst (λ (k : ℕ). P k (met_at long k)) place (subst (P (length short)) (sym more.last) new))
      (cases_lt i (length short))

  pairs-more : (P : Met → Met → Type 0) → ((i : ℕ) → suc i < length short → P (met_at short i) (met_at short (suc i))) → ((i : ℕ) → suc i ≡ length short → P (met_at short i) m) →
      (i : ℕ) → suc i < length long → P (met_at long i) (met_at long (suc i))
  pairs-more P each new i below = ⊎_elim
      (λ (old : suc i < length short). subst (λ (x : Met). P x (met_at long (suc i))) (sym (more.same i (omega arith))) (subst (P (met_at short i)) (sym (more.same (suc i) old)) (each i old)))
      (λ (late : length short ≤ suc i).
      let place : length short ≡ suc i = omega (arith, more.more) in
      let last : met_at long (suc i) ≡ m = ap (met_at long) (sym place) ∙ more.last in
      subst (λ (x : Met). P x (met_at long (suc i))) (sym (more.same i (omega arith))) (subst (P (met_at short i)) (sym last) (new i (sym place))))
      (cases_lt (suc i) (length short))

  pub each-fewer : (P : ℕ → Met → Type 0) → ((i : ℕ) → i < length long → P i (met_at long i)) → (i : ℕ) → i < length short → P i (met_at short i)
  each-fewer P each i below = subst (P i) (more.same i below) (each i (omega (arith, more.more)))

  pairs-fewer : (P : Met → Met → Type 0) → ((i : ℕ) → suc i < length long → P (met_at long i) (met_at long (suc i))) → (i : ℕ) → suc i < length short → P (met_at short i) (met_at short (suc i))
  pairs-fewer P each i below =
      subst (λ (x : Met). P x (met_at short (suc i))) (more.same i (omega arith)) (subst (P (met_at long i)) (more.same (suc i) below) (each i (omega (arith, more.more))))

-- a firing that can be met next
pub record IsNext (net : Net) (table : LoopTable) (met : List Met) (m : Met) : Type 0 where
  pub second : IsSecond table m.firing
  pub leads : (i : ℕ) → suc i ≡ length met → Leads net table (met_at met i) m
  pub unspaced : (i : ℕ) → suc i ≡ length met → IsNoSpace net m.channel
  pub near : m.passes * table.rounds ≤ length met * 8000000
  pub soon : m.time ≤ length met * 1000000000

pub next-first : (net : Net) (table : LoopTable) (m : Met) → IsSecond table m.firing → m.passes ≡ 0 → m.time ≡ 0 → IsNext net table [] m
next-first net table m second passes time = record {
  second = second;
  leads = λ i none. absurd (omega arith);
  unspaced = λ i none. absurd (omega arith);
  near = let nothing : m.passes * table.rounds ≡ 0 * table.rounds = ap (λ (x : ℕ). x * table.rounds) passes in omega arith;
  soon = omega arith;
}

module _ (net : Net) (table : LoopTable) (loop : IsShortLoop net table) (met : List Met) (way : IsWay net table met) where
  pub next-of : (here m : Met) → 1 ≤ length met → here ≡ met_at met (length met - 1) → Leads net table here m → IsNoSpace net m.channel → IsNext net table met m
  next-of here m some last leads unspaced = record {
    second = leads.need.read.second;
    leads = λ i place.
        let e : length met - 1 ≡ i = omega arith in
        subst (λ (x : Met). Leads net table x m) (last ∙ ap (met_at met) e) leads;
    unspaced = λ i place. unspaced;
    near =
        let before : (met_at met (length met - 1)).passes * table.rounds ≤ (length met - 1) * 8000000 = way.near (length met - 1) (omega arith) in
        let here_too : here.passes * table.rounds ≤ (length met - 1) * 8000000 = subst (λ (x : Met). x.passes * table.rounds ≤ (length met - 1) * 8000000) (sym last) before in
        let sum : m.passes * table.rounds ≡ (here.passes + leads.passes) * table.rounds = ap (λ (x : ℕ). x * table.rounds) leads.on in
        let few : leads.passes * table.rounds ≤ 8000000 = need-near net table loop here.firing (record { channel = m.channel; firing = m.firing; passes = leads.passes }) leads.need in
        omega arith;
    soon =
        let before : (met_at met (length met - 1)).time ≤ (length met - 1) * 1000000000 = way.soon (length met - 1) (omega arith) in
        let here_too : here.time ≤ (length met - 1) * 1000000000 = subst (λ (x : Met). x.time ≤ (length met - 1) * 1000000000) (sym last) before in
        let takes : m.time ≡ here.time + time_of net m.firing.actor m.firing.number = leads.time in
        let little : time_of net m.firing.actor m.firing.number ≤ 1000000000 = short-time net table loop m.firing leads.need.read.second in
        omega arith;
  }

  pub way-on : (new : List Met) (m : Met) → Extends met new m → IsNext net table met m → IsWay net table new
  way-on new m more next = record {
    second = each-more met new m more (λ i y. IsSecond table y.firing) way.second next.second;
    leads = pairs-more met new m more (λ x y. Leads net table x y) way.leads next.leads;
    unspaced = pairs-more met new m more (λ x y. IsNoSpace net y.channel) way.unspaced next.unspaced;
    near = each-more met new m more (λ i y. y.passes * table.rounds ≤ i * 8000000) way.near next.near;
    soon = each-more met new m more (λ i y. y.time ≤ i * 1000000000) way.soon next.soon;
  }

  pub way-back : (new : List Met) (m : Met) → Extends new met m → IsWay net table new
  way-back new m more = record {
    second = each-fewer new met m more (λ i y. IsSecond table y.firing) way.second;
    leads = pairs-fewer new met m more (λ x y. Leads net table x y) way.leads;
    unspaced = pairs-fewer new met m more (λ x y. IsNoSpace net y.channel) way.unspaced;
    near = each-fewer new met m more (λ i y. y.passes * table.rounds ≤ i * 8000000) way.near;
    soon = each-fewer new met m more (λ i y. y.time ≤ i * 1000000000) way.soon;
  }

  pub way-trail : 1 ≤ length met → IsTrail net table (met_at met) (length met - 1)
  way-trail some = record {
    second = λ i le. way.second i (omega arith);
    leads = λ i less. way.leads i (omega arith);
    near = λ i le. way.near i (omega arith);
    soon = λ i le. way.soon i (omega arith);
  }
