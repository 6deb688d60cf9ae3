-- Entries of the rows by firing are short, and one of 0 leads to an earlier token.
use Rattle.std.proofs.Common.{◌≡◌, ℕ, zero, suc, ◌+◌, ◌*◌, ◌≤◌, ◌<◌, false, List, [], length, take, sum, Option, Some, None, refl, sym, ap, subst, ◌∙◌, inl, inr, ⊎_elim, arith, mod-lt}
use Rattle.std.specs.Prelude.{slice_index, slice_index_or}
use Rattle.std.proofs.lemmas.Bool.{cases_lt}
use Rattle.std.proofs.lemmas.List.{take_all}
use Rattle.std.proofs.lemmas.List.Sums.{sum_by_more}
use Rattle.sd_base.specs.declared.tables.Kind.TheVariants.{Sdf}
use Rattle.sd_base.specs.declared.tables.GraphFile.{GraphFile}
use Rattle.sd_base.specs.Tables.{KeepsWideRules, IsTimed}
use Rattle.sd_base.specs.Net.{Net, channel_at, total, IsRepetitionOf}
use Rattle.sd_base.specs.Schedules.{time_of}
use Rattle.sd_base.specs.Lawful.{Lawful}
use Rattle.sd_base.specs.FileNet.{net_of}
use Rattle.sd_base.specs.Untimed.{one_more, CanFire, IsRoundOrder}
use Rattle.sd_base.proofs.SumsRepeatByTurns.{total-grows}
use Rattle.sd_base.proofs.LawfulIsRegular.{timed, wired, balanced}
use Rattle.sd_base.proofs.RoundsKeepTokens.{whole-round}
use Rattle.sd_base.proofs.ClosedCountsBoundRuns.{bump-same, bump-more, bump-cases}
use Rattle.sd_base.proofs.FiringOrdersEnd.{sum_to, sum_to-le, sum_to-lt}
use Rattle.sd_base.proofs.FileNets.{net_of-lawful}
use Rattle.sd_base.specs.declared.tables.SharedRow.{SharedRow}
use Rattle.sd_base.specs.declared.limits.TheConstants.{TIME, ROUND}
use Rattle.sd_base.specs.Scenarios.{shared_count, Shares}
use Rattle.token_matrix.specs.Stamps.{first_of, left_token}
use Rattle.token_matrix.specs.Matrices.{entry_at, IsMatrix}
use Rattle.token_matrix.specs.inside.RoundRows.{Table, row_at, HasEntry, UpTo, Small}
use Rattle.token_matrix.proofs.RowsGiveStarts.{AreRows}
use Rattle.token_matrix.proofs.RowsCarryStamps.{IsLeft}
use Rattle.token_matrix.proofs.TokensHaveProducers.{put_earlier}
use Rattle.token_matrix.proofs.RowsSoFar.{IsNextRow, HasRowMore, row_on, row_new}
use Rattle.token_matrix.proofs.GraphMatricesCarry.{covers, matrix_carries}

sum-take : (xs : List ℕ) (n : ℕ) → n ≤ length xs → sum_to (slice_index xs) n ≡ sum (take n xs)
unfolding sum_to
sum-take xs zero within = refl
sum-take xs (suc n) within =
    let more : sum (take (n + 1) xs) ≡ sum (take n xs) + slice_index xs n = sum_by_more (λ (x : ℕ). x) xs n 0 within in
    let e : suc n ≡ n + 1 = omega arith in
    rw e (omega (arith, more, sum-take xs n (omega arith)))

-- no more firings than those of a round
pub few_firings : (net : Net) → Lawful net → (v : ℕ → ℕ) → ((a : ℕ) → a < length net.times → v a ≤ slice_index net.round a) → sum_to v (length net.times) ≤ ROUND
few_firings net laws v within =
    let all : sum_to v (length net.times) ≤ sum_to (slice_index net.round) (length net.times) = sum_to-le v (slice_index net.round) (length net.times) within in
    let long : length net.round ≡ length net.times = (balanced net laws).actors in
    let whole : sum_to (slice_index net.round) (length net.times) ≡ sum net.round = sum-take net.round (length net.times) (omega (arith, long)) ∙ ap sum (take_all (length net.times) net.round (omega (arith, long))) in
    let few : sum net.round ≤ ROUND = laws.small_round in
    omega arith

module _ (net : Net) (laws : Lawful net) (first : ℕ → ℕ) (rows : Table) (v : ℕ → ℕ) (small : Small net rows v) where
  pub short_time : (a k : ℕ) → a < length net.times → time_of net a k ≤ TIME
  short_time a k actor = laws.short_times a _ actor (mod-lt k (laws.some_phase a actor))

  -- the entry of a token that is there
  pub token_within : (i m p e : ℕ) → i < length net.channels → m < (channel_at net i).tokens + total (channel_at net i).made (v (channel_at net i).source)
      → HasEntry net first rows i m p e → e ≤ TIME * sum_to v (length net.times)
  token_within i m p e place made (inl (initial, at, none)) = omega (arith, none)
  token_within i m p e place made (inr (k, d, put, counted, entry, is)) =
      let source : (channel_at net i).source < length net.times = laws.sources i place in
      let below : d + TIME ≤ TIME * sum_to v (length net.times) = small (channel_at net i).source k p d source (put_earlier net v i m k made put) entry in
      let time : time_of net (channel_at net i).source k ≤ TIME = short_time (channel_at net i).source k source in
      omega (arith, is)

  -- an entry of the next firing's row
  pub next_within : (count a : ℕ) (new : List (Option ℕ)) → CanFire net v a → IsNextRow net first count rows a (v a) new
      → (p e : ℕ) → slice_index_or new p None ≡ Some e → e ≤ TIME * sum_to v (length net.times)
  next_within count a new can next p e at =
      let j = next.just p e at in
      let fed : total (channel_at net j.0).taken (v a + 1) ≤ (channel_at net j.0).tokens + total (channel_at net j.0).made (v (channel_at net j.0).source) = can j.0 j.2 j.3 in
      let takes : j.1 < total (channel_at net j.0).taken (v a + 1) = j.4.1 in
      token_within j.0 j.1 p e j.2 (omega arith) j.5

  -- one more firing
  pub small_more : (count a : ℕ) (new : List (Option ℕ)) (more : Table) → UpTo net first count rows v → a < length net.times → CanFire net v a → IsNextRow net first count rows a (v a) new
      → HasRowMore rows more a new → Small net more (one_more v a)
  small_more count a new more up actor can next is b k p e here fired entry = elim (bump-cases v a b k fired) [
    | inl less ↦ (let on : row_at more b k ≡ row_at rows b k = row_on net laws first count rows more v a new up actor can next is b k (subst (λ (n : ℕ). k < n) (sym (up.whole b here)) less) in
        let most : e + TIME ≤ TIME * sum_to v (length net.times) = small b k p e here less (sym (ap (λ (r : List (Option ℕ)). slice_index_or r p None) on) ∙ entry) in
        grown most)
    | inr (same, last) ↦ (let on : row_at more b k ≡ new = ap (λ (d : ℕ). row_at more d k) same ∙ ap (λ (n : ℕ). row_at more a n) last ∙ row_new net laws first count rows more v a new up actor can next is in
        let most : e ≤ TIME * sum_to v (length net.times) = next_within count a new can next p e (sym (ap (λ (r : List (Option ℕ)). slice_index_or r p None) on) ∙ entry) in
        raised most)
  ]
    where
      grows : sum_to v (length net.times) < sum_to (one_more v a) (length net.times)
      grows = sum_to-lt v (one_more v a) (length net.times) a (λ d there. bump-more v a d) actor (rw (bump-same v a) (omega arith))

      grown : e + TIME ≤ TIME * sum_to v (length net.times) → e + TIME ≤ TIME * sum_to (one_more v a) (length net.times)
      grown most = omega (arith, grows)

      raised : e ≤ TIME * sum_to v (length net.times) → e + TIME ≤ TIME * sum_to (one_more v a) (length net.times)
      raised most = omega (arith, grows)

module _ (net : Net) (laws : Lawful net) (first : ℕ → ℕ) (count : ℕ) (rows : Table) (are : AreRows net first count rows) where
  -- the entry of any token of the round
  pub short : Small net rows (slice_index net.round) → (i m p e : ℕ) → i < length net.channels → HasEntry net first rows i m p e → e ≤ TIME * ROUND
  short small i m p e place entry =
      let few : sum_to (slice_index net.round) (length net.times) ≤ ROUND = few_firings net laws (slice_index net.round) (λ a actor. omega arith) in
      let most : e ≤ TIME * sum_to (slice_index net.round) (length net.times) = within entry in
      omega arith
    where
      within : HasEntry net first rows i m p e → e ≤ TIME * sum_to (slice_index net.round) (length net.times)
      within (inl (initial, at, none)) = omega (arith, none)
      within (inr (k, d, put, counted, entry, is)) =
          let source : (channel_at net i).source < length net.times = laws.sources i place in
          let below : d + TIME ≤ TIME * sum_to (slice_index net.round) (length net.times) = small (channel_at net i).source k p d source (subst (λ (n : ℕ). k < n) (are.whole (channel_at net i).source source) counted) entry in
          let time : time_of net (channel_at net i).source k ≤ TIME = short_time net laws first rows (slice_index net.round) small (channel_at net i).source k source in
          omega (arith, is)

  -- a round takes at least one token of each channel
  some_taken : (i : ℕ) → i < length net.channels → 1 ≤ total (channel_at net i).taken (slice_index net.round (channel_at net i).target)
  some_taken i place =
      let t = (whole-round net (wired net laws) (balanced net laws)).taken i place in
      let fires : 1 ≤ slice_index net.round (channel_at net i).target = (balanced net laws).fires (channel_at net i).target (laws.targets i place) in
      let some : 1 ≤ t.0 = turns t.0 t.1 fires in
      let grows : t.0 ≤ total (channel_at net i).taken (t.0 * length (channel_at net i).taken) = total-grows (channel_at net i).taken t.0 (laws.some_taken i place) in
      rw (t.1) (omega arith)
    where
      turns : (q : ℕ) → slice_index net.round (channel_at net i).target ≡ q * length (channel_at net i).taken → 1 ≤ slice_index net.round (channel_at net i).target → 1 ≤ q
      turns zero is some = absurd (omega arith)
      turns (suc q) is some = omega arith

  -- an entry of 0 of a token that is left leads to an earlier token
  pub falls : (i k p : ℕ) → i < length net.channels → HasEntry net first rows i (left_token net i k) p 0 → first i + k < p
  falls i k p place (inl (initial, at, none)) = let some : 1 ≤ total (channel_at net i).taken (slice_index net.round (channel_at net i).target) = some_taken i place in omega (arith, at)
  falls i k p place (inr (n, d, put, counted, entry, is)) =
      let time : 1 ≤ time_of net (channel_at net i).source n = (timed net laws).some (channel_at net i).source n (laws.sources i place) in
      absurd (let no : ⊥ = omega (arith, is) in no)

-- rows by firing and the rows that are left make the matrix of a scenario's graph
pub is_matrix : (shared : List SharedRow) (g : GraphFile) (gamma : List ℕ) → KeepsWideRules g → g.kind ≡ Sdf → Shares shared g → IsTimed g → IsRepetitionOf g gamma → sum gamma ≤ ROUND
    → (order : List ℕ) → IsRoundOrder (net_of g gamma false) order → (rows : Table) (matrix : List (List (Option ℕ)))
    → Small (net_of g gamma false) rows (slice_index gamma)
    → AreRows (net_of g gamma false) (first_of shared g) (shared_count shared) rows → IsLeft (net_of g gamma false) (first_of shared g) (shared_count shared) rows matrix
    → IsMatrix shared g gamma matrix
is_matrix shared g gamma rules kind shares times gives small order round rows matrix short_rows are left = record {
  size = left.size;
  square = left.square;
  carries = λ x y long. matrix_carries g gamma rules kind shared shares times gives small order round rows matrix are left x y long;
  full = left.full;
  falls = λ j p entry. (let here : j < shared_count shared = inside j p 0 entry in let c = covers g gamma rules kind shared shares j here in
      let h : first_of shared g c.0 + c.1 < p = falls (net_of g gamma false) laws (first_of shared g) (shared_count shared) rows are c.0 c.1 p c.2 ((left.is c.0 c.1 p 0 c.2 c.3).0 (subst (λ (n : ℕ). entry_at matrix n p ≡ Some 0) (sym c.4) entry)) in
      omega (arith, c.4));
  short = λ j p e entry. (let here : j < shared_count shared = inside j p e entry in let c = covers g gamma rules kind shared shares j here in
      short (net_of g gamma false) laws (first_of shared g) (shared_count shared) rows are short_rows c.0 (left_token (net_of g gamma false) c.0 c.1) p e c.2 ((left.is c.0 c.1 p e c.2 c.3).0 (subst (λ (n : ℕ). entry_at matrix n p ≡ Some e) (sym c.4) entry)));
}
  where
    laws : Lawful (net_of g gamma false)
    laws = net_of-lawful g gamma false rules times gives small

    inside : (j p e : ℕ) → entry_at matrix j p ≡ Some e → j < shared_count shared
    inside j p e entry = ⊎_elim (λ (h : j < shared_count shared). h)
        (λ (past : shared_count shared ≤ j). absurd (
        let out : slice_index_or matrix j [] ≡ [] = Rattle.std.proofs.lemmas.List.get_or_past matrix j [] (let e : length matrix ≤ j = omega (arith, left.size) in e) in
        let no : entry_at matrix j p ≡ None = ap (λ (r : List (Option ℕ)). slice_index_or r p None) out in
        let f : None ≡ Some e = sym no ∙ entry in cc)) (cases_lt j (shared_count shared))
