-- A firing that is carried out on rows.
use Rattle.std.proofs.Common.{◌≡◌, ℕ, ◌+◌, ◌-◌, ◌*◌, ◌≤◌, ◌<◌, List, [], ◌∷◌, ◌++◌, length, set, drop, replicate, Option, Some, None, refl, sym, ap, subst, ◌∙◌, ⊎_elim, arith, length-append, length-drop}
use Rattle.std.specs.Prelude.{slice_index, slice_index_or}
use Rattle.std.proofs.lemmas.Bool.{cases_eq}
use Rattle.std.proofs.lemmas.List.{length-set, length-map, length-replicate, get_or-set_same, get_or-set_other}
use Rattle.sd_base.specs.declared.limits.TheConstants.{TIME, ROUND}
use Rattle.sd_base.specs.Net.{Net, channel_at, total}
use Rattle.sd_base.specs.Schedules.{time_of, HasInputs}
use Rattle.sd_base.specs.Lawful.{Lawful}
use Rattle.sd_base.specs.Untimed.{one_more, CanFire}
use Rattle.sd_base.proofs.ClosedCountsBoundRuns.{bump-same, bump-other}
use Rattle.sd_base.proofs.FiringOrdersEnd.{sum_to}
use Rattle.sd_base.proofs.SumsRepeatByTurns.{one-entry, total-more}
use Rattle.sd_base.proofs.ElementsKeepPlaces.{single-some}
use Rattle.token_matrix.specs.Stamps.{IsTakenBy, IsPutBy}
use Rattle.token_matrix.specs.inside.LaterRows.{shifted, AreWithin, Reaches}
use Rattle.token_matrix.specs.inside.Lines.{line_at, taken_on, made_on, HasOnePhase, AreReady, AreTaken, IsLatest, ArePut}
use Rattle.token_matrix.specs.inside.RoundRows.{Table, row_at, HasEntry, IsRowOf, IsTokenRow, AreTokens, Stands}
use Rattle.token_matrix.proofs.RowsSoFar.{IsNextRow, HasRowMore, rows_more, row_new}
use Rattle.token_matrix.proofs.OneRow.{row_put, row_same}
use Rattle.token_matrix.proofs.LeftRows.{token_entry}
use Rattle.token_matrix.proofs.EntryBounds.{few_firings, next_within, small_more}
use Rattle.token_matrix.proofs.TokenRowsStay.{tokens_drop, tokens_put, tokens_kept}

module _ (net : Net) (laws : Lawful net) (phases : HasOnePhase net) where
  -- the tokens of one more firing
  pub taken-more : (i n : ℕ) → i < length net.channels → total (channel_at net i).taken (n + 1) ≡ total (channel_at net i).taken n + taken_on net i
  taken-more i n place = total-more (channel_at net i).taken n ∙ ap (λ (x : ℕ). total (channel_at net i).taken n + x)
      (one-entry (channel_at net i).taken n (laws.taken_phases i place ∙ phases (channel_at net i).target (laws.targets i place)))

  pub made-more : (i n : ℕ) → i < length net.channels → total (channel_at net i).made (n + 1) ≡ total (channel_at net i).made n + made_on net i
  made-more i n place = total-more (channel_at net i).made n ∙ ap (λ (x : ℕ). total (channel_at net i).made n + x)
      (one-entry (channel_at net i).made n (laws.made_phases i place ∙ phases (channel_at net i).source (laws.sources i place)))

  -- each firing takes a token of each input
  takes_some : (i : ℕ) → i < length net.channels → 1 ≤ taken_on net i
  takes_some i place = single-some (channel_at net i).taken (slice_index (channel_at net i).taken 0) (laws.taken_phases i place ∙ phases (channel_at net i).target (laws.targets i place)) refl (laws.some_taken i place)

  -- a firing takes its time
  pub time-is : (a k : ℕ) → a < length net.times → time_of net a k ≡ slice_index (slice_index_or net.times a []) 0
  time-is a k actor = one-entry (slice_index_or net.times a []) k (phases a actor)

  module _ (first : ℕ → ℕ) (count : ℕ) (v : ℕ → ℕ) (lines : List (List (List (Option ℕ)))) (a : ℕ) (st : Stands net first count v lines) (actor : a < length net.times) (can : CanFire net v a) where
    fed : (i : ℕ) → i < length net.channels → (channel_at net i).target ≡ a → taken_on net i ≤ length (line_at lines i)
    fed i place into =
        let feeds : total (channel_at net i).taken (v a + 1) ≤ (channel_at net i).tokens + total (channel_at net i).made (v (channel_at net i).source) = can i place into in
        let more : total (channel_at net i).taken (v a + 1) ≡ total (channel_at net i).taken (v a) + taken_on net i = taken-more i (v a) place in
        let many : length (line_at lines i) + total (channel_at net i).taken (v a) ≡ (channel_at net i).tokens + total (channel_at net i).made (v (channel_at net i).source) =
        subst (λ (b : ℕ). length (line_at lines i) + total (channel_at net i).taken (v b) ≡ (channel_at net i).tokens + total (channel_at net i).made (v (channel_at net i).source)) into (st.many i place) in
        omega arith

    pub are_ready : AreReady net a count lines
    are_ready = record { long = st.long; wide = λ i place. (st.tokens i place).wide; enough = fed }

    -- the row of token k on a channel into a
    token_on : (i k : ℕ) → i < length net.channels → (channel_at net i).target ≡ a → k < taken_on net i → IsTokenRow net first st.table i (total (channel_at net i).taken (v a) + k) (slice_index_or (line_at lines i) k [])
    token_on i k place into below = subst (λ (b : ℕ). IsTokenRow net first st.table i (total (channel_at net i).taken (v b) + k) (slice_index_or (line_at lines i) k [])) into
        ((st.tokens i place).each k (let h : taken_on net i ≤ length (line_at lines i) = fed i place into in omega arith))

    module _ (row : List (Option ℕ)) (latest : IsLatest net a count lines row) where
      reached : (i m p e : ℕ) → i < length net.channels → (channel_at net i).target ≡ a → IsTakenBy (channel_at net i) m (v a) → HasEntry net first st.table i m p e → Reaches row p e
      reached i m p e place into takes entry =
          let low : total (channel_at net i).taken (v a) ≤ m = takes.0 in
          let high : m < total (channel_at net i).taken (v a + 1) = takes.1 in
          let more : total (channel_at net i).taken (v a + 1) ≡ total (channel_at net i).taken (v a) + taken_on net i = taken-more i (v a) place in
          let k : ℕ = m - total (channel_at net i).taken (v a) in
          let below : k < taken_on net i = omega arith in
          let at : m ≡ total (channel_at net i).taken (v a) + k = omega arith in
          let d = (token_on i k place into below).after i m p e (refl, at) entry in
          let r = latest.after i k p d.0 place into below d.1 in
          (r.0, r.1, (let h : e ≤ r.0 = omega (arith, d.2, r.2) in h))

      some : HasInputs net → (p : ℕ) × (e : ℕ) × (slice_index_or row p None ≡ Some e)
      some inputs =
          let i = inputs a actor in
          let below : 0 < taken_on net i.0 = takes_some i.0 i.1 in
          let more : total (channel_at net i.0).taken (v a + 1) ≡ total (channel_at net i.0).taken (v a) + taken_on net i.0 = taken-more i.0 (v a) i.1 in
          let feeds : total (channel_at net i.0).taken (v a + 1) ≤ (channel_at net i.0).tokens + total (channel_at net i.0).made (v (channel_at net i.0).source) = can i.0 i.1 i.2 in
          let source : (channel_at net i.0).source < length net.times = laws.sources i.0 i.1 in
          let t = token_entry net first st.table i.0 (total (channel_at net i.0).taken (v a)) (v (channel_at net i.0).source) (st.up.whole (channel_at net i.0).source source) (λ k h. st.up.some (channel_at net i.0).source k source h) (omega arith) in
          let r = reached i.0 (total (channel_at net i.0).taken (v a)) t.0 t.1 i.1 i.2 ((omega arith), (omega arith)) t.2 in
          (t.0, r.0, r.1)

      pub is_next : HasInputs net → IsNextRow net first count st.table a (v a) row
      is_next inputs = record {
        wide = latest.long;
        some = some inputs;
        after = λ i m p e place into takes entry. reached i m p e place into takes entry;
        just = λ p e at. taken_from p e (latest.just p e at);
      }
        where
          taken_from : (p e : ℕ) → ((i : ℕ) × (k : ℕ) × (i < length net.channels) × ((channel_at net i).target ≡ a) × (k < taken_on net i) × (slice_index_or (slice_index_or (line_at lines i) k []) p None ≡ Some e))
              → (i : ℕ) × (m : ℕ) × (i < length net.channels) × ((channel_at net i).target ≡ a) × IsTakenBy (channel_at net i) m (v a) × HasEntry net first st.table i m p e
          taken_from p e (i, k, place, into, below, entry) =
              let t = (token_on i k place into below).just p e entry in
              let more : total (channel_at net i).taken (v a + 1) ≡ total (channel_at net i).taken (v a) + taken_on net i = taken-more i (v a) place in
              let at : t.1 ≡ total (channel_at net i).taken (v a) + k = t.2.1 in
              (i, t.1, place, into, ((omega arith), (omega arith)), subst (λ (b : ℕ). HasEntry net first st.table b t.1 p e) t.2.0 t.3)

      -- its entries are no greater than the time of a round
      pub row_within : HasInputs net → ((b : ℕ) → b < length net.times → v b ≤ slice_index net.round b) → AreWithin (TIME * ROUND) row
      row_within inputs within p e at =
          let few : sum_to v (length net.times) ≤ ROUND = few_firings net laws v within in
          let most : e ≤ TIME * sum_to v (length net.times) = next_within net laws first st.table v st.small count a row can (is_next inputs) p e at in
          omega arith

      abbrev table : Table
      table = set st.table a (slice_index_or st.table a [] ++ row ∷ [])

      has_more : HasRowMore st.table table a row
      has_more = record {
        long = length-set st.table a (slice_index_or st.table a [] ++ row ∷ []);
        pushed = get_or-set_same st.table a (slice_index_or st.table a [] ++ row ∷ []) [] (let h : a < length st.table = omega (arith, st.up.actors) in h);
        others = λ b apart. get_or-set_other st.table a b (slice_index_or st.table a [] ++ row ∷ []) [] apart;
      }

      module _ (inputs : HasInputs net) (put : List (Option ℕ)) (later : put ≡ shifted (slice_index (slice_index_or net.times a []) 0) row) (mid new : List (List (List (Option ℕ)))) (taken : AreTaken net a lines mid) (given : ArePut net a put mid new) where
        -- what is left of a channel's tokens
        left_on : (i : ℕ) → i < length net.channels
            → AreTokens net first count st.table i (total (channel_at net i).taken (one_more v a (channel_at net i).target)) (line_at mid i)
            × (length (line_at mid i) + total (channel_at net i).taken (one_more v a (channel_at net i).target) ≡ (channel_at net i).tokens + total (channel_at net i).made (v (channel_at net i).source))
        left_on i place = ⊎_elim
            (λ (into : (channel_at net i).target ≡ a).
            let counts : one_more v a (channel_at net i).target ≡ v a + 1 = ap (one_more v a) into ∙ bump-same v a in
            let before : v (channel_at net i).target ≡ v a = ap v into in
            let more : total (channel_at net i).taken (v a + 1) ≡ total (channel_at net i).taken (v a) + taken_on net i = taken-more i (v a) place in
            let sum : total (channel_at net i).taken (v (channel_at net i).target) + taken_on net i ≡ total (channel_at net i).taken (one_more v a (channel_at net i).target) =
            ap (λ (n : ℕ). total (channel_at net i).taken n + taken_on net i) before ∙ sym more ∙ sym (ap (λ (n : ℕ). total (channel_at net i).taken n) counts) in
            let is : line_at mid i ≡ drop (taken_on net i) (line_at lines i) = taken.taken i place into in
            let enough : taken_on net i ≤ length (line_at lines i) = fed i place into in
            let long : length (line_at mid i) ≡ length (line_at lines i) - taken_on net i = ap (λ (l : List (List (Option ℕ))). length l) is ∙ length-drop (taken_on net i) (line_at lines i) in
            let many : length (line_at lines i) + total (channel_at net i).taken (v (channel_at net i).target) ≡ (channel_at net i).tokens + total (channel_at net i).made (v (channel_at net i).source) = st.many i place in (
              subst (λ (l : List (List (Option ℕ))). AreTokens net first count st.table i (total (channel_at net i).taken (one_more v a (channel_at net i).target)) l) (sym is)
                  (subst (λ (n : ℕ). AreTokens net first count st.table i n (drop (taken_on net i) (line_at lines i))) sum
                  (tokens_drop net first count st.table i (total (channel_at net i).taken (v (channel_at net i).target)) (line_at lines i) (taken_on net i) (st.tokens i place))),
              (let h : length (line_at mid i) + total (channel_at net i).taken (one_more v a (channel_at net i).target) ≡ (channel_at net i).tokens + total (channel_at net i).made (v (channel_at net i).source) = omega arith in h),
            ))
            (λ (away : (channel_at net i).target ≡ a → ⊥).
            let counts : one_more v a (channel_at net i).target ≡ v (channel_at net i).target = bump-other v a (channel_at net i).target away in
            let is : line_at mid i ≡ line_at lines i = taken.others i place away in
            rw (is, counts) (st.tokens i place, st.many i place))
            (cases_eq (channel_at net i).target a)

        -- the tokens that are put have the firing's row
        put_on : (i : ℕ) → i < length net.channels → (channel_at net i).source ≡ a → (k : ℕ) → k < made_on net i
            → IsTokenRow net first table i ((channel_at net i).tokens + total (channel_at net i).made (v a) + k) put
        put_on i place from k below =
            let more : total (channel_at net i).made (v a + 1) ≡ total (channel_at net i).made (v a) + made_on net i = made-more i (v a) place in
            let by : IsPutBy (channel_at net i) ((channel_at net i).tokens + total (channel_at net i).made (v a) + k) (v a) = ((omega arith), (omega arith)) in
            let counted : v a < length (slice_index_or table (channel_at net i).source []) =
            subst (λ (b : ℕ). v a < length (slice_index_or table b [])) (sym from) (subst (λ (l : List (List (Option ℕ))). v a < length l) (sym has_more.pushed) (let h : v a < length (slice_index_or st.table a [] ++ row ∷ []) = omega (arith, length-append (slice_index_or st.table a []) (row ∷ []), st.up.whole a actor) in h)) in
            let mine : row_at table (channel_at net i).source (v a) ≡ row =
            ap (λ (b : ℕ). row_at table b (v a)) from ∙ row_new net laws first count st.table table v a row st.up actor can (is_next inputs) has_more in
            let time : time_of net (channel_at net i).source (v a) ≡ slice_index (slice_index_or net.times a []) 0 = ap (λ (b : ℕ). time_of net b (v a)) from ∙ time-is a (v a) actor in
            let of : IsRowOf net first table (λ j n. (j ≡ i) × IsPutBy (channel_at net i) n (v a) × (n ≡ (channel_at net i).tokens + total (channel_at net i).made (v a) + k)) put =
            subst (λ (r : List (Option ℕ)). IsRowOf net first table (λ j n. (j ≡ i) × IsPutBy (channel_at net i) n (v a) × (n ≡ (channel_at net i).tokens + total (channel_at net i).made (v a) + k)) r)
            (ap (λ (r : List (Option ℕ)). shifted (time_of net (channel_at net i).source (v a)) r) mine ∙ ap (λ (t : ℕ). shifted t row) time ∙ sym later)
            (row_put net first table (λ n. n ≡ (channel_at net i).tokens + total (channel_at net i).made (v a) + k) i (v a) ((channel_at net i).tokens + total (channel_at net i).made (v a) + k) by refl counted) in
            row_same net first table (λ j n. (j ≡ i) × IsPutBy (channel_at net i) n (v a) × (n ≡ (channel_at net i).tokens + total (channel_at net i).made (v a) + k)) (λ j n. (j ≡ i) × (n ≡ (channel_at net i).tokens + total (channel_at net i).made (v a) + k)) put
            (λ j n. ((λ h. (h.0, h.2)), (λ h. (h.0, subst (λ (p : ℕ). IsPutBy (channel_at net i) p (v a)) (sym h.1) by, h.1)))) of

        put_wide : length put ≡ count
        put_wide = ap (λ (r : List (Option ℕ)). length r) later ∙ length-map row _ ∙ latest.long

        tokens_after : (i : ℕ) → i < length net.channels
            → AreTokens net first count table i (total (channel_at net i).taken (one_more v a (channel_at net i).target)) (line_at new i)
            × (length (line_at new i) + total (channel_at net i).taken (one_more v a (channel_at net i).target) ≡ (channel_at net i).tokens + total (channel_at net i).made (one_more v a (channel_at net i).source))
        tokens_after i place =
            let l = left_on i place in
            let many : length (line_at mid i) + total (channel_at net i).taken (one_more v a (channel_at net i).target) ≡ (channel_at net i).tokens + total (channel_at net i).made (v (channel_at net i).source) = l.1 in
            let kept : AreTokens net first count table i (total (channel_at net i).taken (one_more v a (channel_at net i).target)) (line_at mid i) =
            tokens_kept net laws first count st.table table v a row st.up actor can (is_next inputs) has_more i (total (channel_at net i).taken (one_more v a (channel_at net i).target)) (line_at mid i) place (omega arith) l.0 in
            ⊎_elim
            (λ (from : (channel_at net i).source ≡ a).
            let counts : one_more v a (channel_at net i).source ≡ v a + 1 = ap (one_more v a) from ∙ bump-same v a in
            let before : v (channel_at net i).source ≡ v a = ap v from in
            let more : total (channel_at net i).made (v a + 1) ≡ total (channel_at net i).made (v a) + made_on net i = made-more i (v a) place in
            let sum : total (channel_at net i).made (one_more v a (channel_at net i).source) ≡ total (channel_at net i).made (v a) + made_on net i = ap (λ (n : ℕ). total (channel_at net i).made n) counts ∙ more in
            let old : total (channel_at net i).made (v (channel_at net i).source) ≡ total (channel_at net i).made (v a) = ap (λ (n : ℕ). total (channel_at net i).made n) before in
            let is : line_at new i ≡ line_at mid i ++ replicate (made_on net i) put = given.put i place from in
            let long : length (line_at new i) ≡ length (line_at mid i) + made_on net i = ap (λ (b : List (List (Option ℕ))). length b) is ∙ omega (arith, length-append (line_at mid i) (replicate (made_on net i) put), length-replicate (made_on net i) put) in (
              subst (λ (b : List (List (Option ℕ))). AreTokens net first count table i (total (channel_at net i).taken (one_more v a (channel_at net i).target)) b) (sym is)
                  (tokens_put net first count table i (total (channel_at net i).taken (one_more v a (channel_at net i).target)) (line_at mid i) (made_on net i) put put_wide
                  (λ k below. subst (λ (n : ℕ). IsTokenRow net first table i n put) (let e : (channel_at net i).tokens + total (channel_at net i).made (v a) + k ≡ total (channel_at net i).taken (one_more v a (channel_at net i).target) + length (line_at mid i) + k = omega arith in e) (put_on i place from k below)) kept),
              (let h : length (line_at new i) + total (channel_at net i).taken (one_more v a (channel_at net i).target) ≡ (channel_at net i).tokens + total (channel_at net i).made (one_more v a (channel_at net i).source) = omega arith in h),
            ))
            (λ (away : (channel_at net i).source ≡ a → ⊥).
            let counts : one_more v a (channel_at net i).source ≡ v (channel_at net i).source = bump-other v a (channel_at net i).source away in
            let is : line_at new i ≡ line_at mid i = given.others i place away in
            rw (is, counts) (kept, l.1))
            (cases_eq (channel_at net i).source a)

        pub stands_more : length new ≡ length lines → Stands net first count (one_more v a) new
        stands_more long = record {
          table = table;
          up = rows_more net laws first count st.table table v a row st.up actor can (is_next inputs) has_more;
          small = small_more net laws first st.table v st.small count a row table st.up actor can (is_next inputs) has_more;
          long = long ∙ st.long;
          many = λ i place. (tokens_after i place).1;
          tokens = λ i place. (tokens_after i place).0;
        }
