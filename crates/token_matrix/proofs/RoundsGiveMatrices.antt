-- A round carried out on the rows of the shared tokens gives the matrix of a scenario's graph.
use Rattle.std.proofs.Common.{◌≡◌, ℕ, ◌+◌, ◌≤◌, ◌<◌, false, List, [], length, replicate, sum, Option, sym, ap, subst, ◌∙◌, ⊎_elim, arith}
use Rattle.std.specs.Prelude.{slice_index, slice_index_or}
use Rattle.std.proofs.lemmas.Bool.{cases_lt}
use Rattle.std.proofs.lemmas.List.{get_or-map, get_or-replicate, get_or_past, get_or_default, length-map, length-replicate}
use Rattle.sd_base.specs.declared.limits.TheConstants.{ROUND, STAMPS}
use Rattle.sd_base.specs.declared.tables.Kind.TheVariants.{Sdf}
use Rattle.sd_base.specs.declared.tables.GraphFile.{GraphFile}
use Rattle.sd_base.specs.declared.tables.ActorRow.{ActorRow}
use Rattle.sd_base.specs.declared.tables.SharedRow.{SharedRow}
use Rattle.sd_base.specs.Tables.{KeepsWideRules, IsTimed}
use Rattle.sd_base.specs.Net.{Net, channel_at, total, IsRepetitionOf}
use Rattle.sd_base.specs.Schedules.{HasInputs}
use Rattle.sd_base.specs.Lawful.{Lawful}
use Rattle.sd_base.specs.FileNet.{net_of}
use Rattle.sd_base.specs.Scenarios.{shared_count, Shares}
use Rattle.sd_base.specs.Untimed.{none_fired, counts_after, IsRoundOrder}
use Rattle.sd_base.proofs.SumsRepeatByTurns.{total-zero}
use Rattle.sd_base.proofs.LawfulIsRegular.{balanced}
use Rattle.sd_base.proofs.FiringOrdersEnd.{sum_to, sum_to-le}
use Rattle.sd_base.proofs.FileNets.{net_of-lawful}
use Rattle.liveness.specs.declared.round.Round.{Round}
use Rattle.liveness.specs.declared.round.Round.TheVariants.{Live}
use Rattle.liveness.specs.RoundAnswers.{IsRoundAnswer}
use Rattle.token_matrix.specs.Stamps.{no_row, first_of, left_token}
use Rattle.token_matrix.specs.Matrices.{IsSquare, IsMatrix}
use Rattle.token_matrix.specs.inside.LaterRows.{IsUnit}
use Rattle.token_matrix.specs.inside.Lines.{line_at, HasOnePhase}
use Rattle.token_matrix.specs.inside.RoundRows.{Table, Small, IsRowOf, AreTokens, StandsAfter, IsStart}
use Rattle.token_matrix.specs.inside.Tokens.{AreFirstLines, AreHeld, AreLeftRows}
use Rattle.token_matrix.proofs.RowsGiveStarts.{AreRows}
use Rattle.token_matrix.proofs.GraphMatricesCarry.{no_actor, channels-many, tokens-are, covers}
use Rattle.token_matrix.proofs.RowsSoFar.{rows_none, rows_all}
use Rattle.token_matrix.proofs.OneRow.{row_initial}
use Rattle.token_matrix.proofs.LeftRows.{is_left}
use Rattle.token_matrix.proofs.EntryBounds.{is_matrix}

-- what is answered of a live net, as an order of a net that it is
pub answered-order : (m net : Net) (round : Round) (order given : List ℕ) → IsRoundAnswer m round → round ≡ Live order → m ≡ net → given ≡ order → IsRoundOrder net given
answered-order m net round order given answer is same shown =
    subst (λ (x : Net). IsRoundOrder x given) same (subst (IsRoundOrder m) (sym shown) (subst (IsRoundAnswer m) is answer))

module _ (shared : List SharedRow) (g : GraphFile) (gamma : List ℕ) (rules : KeepsWideRules g) (kind : g.kind ≡ Sdf) (shares : Shares shared g) (timed : IsTimed g) (gives : IsRepetitionOf g gamma) (small : sum gamma ≤ ROUND)
    (order : List ℕ) (round : IsRoundOrder (net_of g gamma false) order) where
  abbrev net : Net
  net = net_of g gamma false

  laws : Lawful net
  laws = net_of-lawful g gamma false rules timed gives small

  one_phase : HasOnePhase net
  one_phase a actor =
      let here : a < length g.actors = omega (arith, length-map g.actors (λ (r : ActorRow). r.times)) in
      ap (λ (t : List ℕ). length t) (get_or-map (λ (r : ActorRow). r.times) g.actors a no_actor [] here) ∙ timed a no_actor here ∙ (rules.actors a no_actor here).one_phase kind

  abbrev no_rows : Table
  no_rows = replicate (length net.times) []

  none_at : (a : ℕ) → slice_index_or no_rows a [] ≡ []
  none_at a = ⊎_elim (λ (h : a < length net.times). get_or-replicate (length net.times) a [] [] h) (λ (h : length net.times ≤ a). get_or_past no_rows a [] (omega (arith, length-replicate (length net.times) (let e : List (List (Option ℕ)) = [] in e)))) (cases_lt a (length net.times))

  -- before the round
  pub is_start : HasInputs net → (lines : List (List (List (Option ℕ)))) → AreFirstLines shared g lines → IsStart net (first_of shared g) (shared_count shared) order lines
  is_start inputs lines are = record {
    round = round;
    phases = one_phase;
    fed = inputs;
    stands = record {
      table = no_rows;
      up = rows_none net (first_of shared g) (shared_count shared) no_rows (length-replicate (length net.times) []) none_at;
      small = λ b k p e actor below at. absurd (omega arith);
      long = are.long ∙ sym (channels-many g gamma rules kind);
      many = λ i place. (let here : i < length g.channels = omega (arith, channels-many g gamma rules kind) in
          let held : length (line_at lines i) ≡ (slice_index_or g.channels i no_row).tokens = (are.each i here).long in
          omega (arith, total-zero (channel_at net i).taken, total-zero (channel_at net i).made, tokens-are g gamma rules kind i here));
      tokens = λ i place. tokens_at i (omega (arith, channels-many g gamma rules kind)) place;
    };
  }
    where
      tokens_at : (i : ℕ) → i < length g.channels → i < length net.channels → AreTokens net (first_of shared g) (shared_count shared) no_rows i (total (channel_at net i).taken 0) (line_at lines i)
      tokens_at i here place =
          let f = are.each i here in
          let none : total (channel_at net i).taken 0 ≡ 0 = total-zero (channel_at net i).taken in record {
            wide = λ k below. (f.each k (omega (arith, f.long))).long;
            each = λ k below. (let few : k < (slice_index_or g.channels i no_row).tokens = omega (arith, f.long) in
                let u : IsUnit (shared_count shared) (first_of shared g i + k) (slice_index_or (line_at lines i) k []) = f.each k few in
                subst (λ (n : ℕ). IsRowOf net (first_of shared g) no_rows (λ j m. (j ≡ i) × (m ≡ n)) (slice_index_or (line_at lines i) k [])) (let e : k ≡ total (channel_at net i).taken 0 + k = omega arith in e)
                (row_initial net (first_of shared g) no_rows i k (slice_index_or (line_at lines i) k []) (let h : k < (channel_at net i).tokens = omega (arith, tokens-are g gamma rules kind i here) in h) u.here u.alone));
          }

  -- the same of a net that is this one, and after the round
  pub starts_at : HasInputs net → (m : Net) (n : ℕ) (given lines : List (List (List (Option ℕ)))) → m ≡ net → n ≡ shared_count shared → given ≡ lines → AreFirstLines shared g lines → IsStart m (first_of shared g) n order given
  starts_at inputs m n given lines same count is are =
      subst (λ (x : Net). IsStart x (first_of shared g) n order given) (sym same) (subst (λ (k : ℕ). IsStart net (first_of shared g) k order given) (sym count)
      (subst (IsStart net (first_of shared g) (shared_count shared) order) (sym is) (is_start inputs lines are)))

  pub ends_at : HasInputs net → (m : Net) (n : ℕ) (given lines new left : List (List (List (Option ℕ)))) → m ≡ net → n ≡ shared_count shared → given ≡ lines → AreFirstLines shared g lines → left ≡ new
      → ((first : ℕ → ℕ) → StandsAfter m first n [] given → StandsAfter m first n order new) → StandsAfter net (first_of shared g) (shared_count shared) order left
  ends_at inputs m n given lines new left same count is are kept ran =
      subst (StandsAfter net (first_of shared g) (shared_count shared) order) (sym kept) (subst (λ (k : ℕ). StandsAfter net (first_of shared g) k order new) count (subst (λ (x : Net). StandsAfter x (first_of shared g) n order new) same
      (ran (first_of shared g) (starts_at inputs m n given lines same count is are).stands)))

  module _ (lines : List (List (List (Option ℕ)))) (st : StandsAfter net (first_of shared g) (shared_count shared) order lines) where
    abbrev fired : ℕ → ℕ
    fired = counts_after none_fired order

    whole : (a : ℕ) → a < length net.times → fired a ≡ slice_index gamma a
    whole a actor = round.whole a actor

    taken-is : (i : ℕ) → i < length net.channels → total (channel_at net i).taken (fired (channel_at net i).target) ≡ total (channel_at net i).taken (slice_index gamma (channel_at net i).target)
    taken-is i place = ap (λ (n : ℕ). total (channel_at net i).taken n) (whole (channel_at net i).target (laws.targets i place))

    -- as many tokens as before
    many_left : (i : ℕ) → i < length net.channels → length (line_at lines i) ≡ (channel_at net i).tokens
    many_left i place =
        let kept : total (channel_at net i).made (slice_index gamma (channel_at net i).source) ≡ total (channel_at net i).taken (slice_index gamma (channel_at net i).target) = (balanced net laws).kept i place in
        let made : total (channel_at net i).made (fired (channel_at net i).source) ≡ total (channel_at net i).made (slice_index gamma (channel_at net i).source) = ap (λ (n : ℕ). total (channel_at net i).made n) (whole (channel_at net i).source (laws.sources i place)) in
        omega (arith, st.many i place, taken-is i place)

    pub lines_long : length lines ≡ length g.channels
    lines_long = st.long ∙ channels-many g gamma rules kind

    pub are_held : AreHeld g lines
    are_held i here = many_left i (omega (arith, channels-many g gamma rules kind)) ∙ tokens-are g gamma rules kind i here

    module _ (rows : List (List (Option ℕ))) (left : AreLeftRows shared g lines rows) where
      row-is : (i k : ℕ) → i < length net.channels → k < (channel_at net i).tokens → slice_index_or rows (first_of shared g i + k) [] ≡ slice_index_or (line_at lines i) k []
      row-is i k place few = let here : i < length g.channels = omega (arith, channels-many g gamma rules kind) in left.each i k here (omega (arith, tokens-are g gamma rules kind i here))

      square_at : (j : ℕ) → j < shared_count shared → length (slice_index_or rows j []) ≡ shared_count shared
      square_at j below =
          let c = covers g gamma rules kind shared shares j below in
          subst (λ (n : ℕ). length (slice_index_or rows n []) ≡ shared_count shared) c.4
          (ap (λ (r : List (Option ℕ)). length r) (row-is c.0 c.1 c.2 c.3) ∙ (st.tokens c.0 c.2).wide c.1 (let m : length (line_at lines c.0) ≡ (channel_at net c.0).tokens = many_left c.0 c.2 in let few : c.1 < (channel_at net c.0).tokens = c.3 in omega arith))

      pub is_square : shared_count shared ≤ STAMPS → IsSquare rows
      is_square few = record {
        few = omega (arith, left.long);
        square = λ k d below. ap (λ (r : List (Option ℕ)). length r) (get_or_default rows k d [] below) ∙ square_at k (omega (arith, left.long)) ∙ sym left.long;
      }

      are_rows : AreRows net (first_of shared g) (shared_count shared) st.table
      are_rows = rows_all net laws (first_of shared g) (shared_count shared) st.table fired whole st.up

      small_rows : Small net st.table (slice_index gamma)
      small_rows b k p e actor below at =
          let most = st.small b k p e actor (subst (λ (n : ℕ). k < n) (sym (whole b actor)) below) at in
          let same : sum_to fired (length net.times) ≤ sum_to (slice_index gamma) (length net.times) = sum_to-le fired (slice_index gamma) (length net.times) (λ a there. omega (arith, whole a there)) in
          omega arith

      each_row : (i k : ℕ) → i < length net.channels → k < (channel_at net i).tokens → IsRowOf net (first_of shared g) st.table (λ j n. (j ≡ i) × (n ≡ left_token net i k)) (slice_index_or rows (first_of shared g i + k) [])
      each_row i k place few =
          subst (λ (r : List (Option ℕ)). IsRowOf net (first_of shared g) st.table (λ j n. (j ≡ i) × (n ≡ left_token net i k)) r) (sym (row-is i k place few))
          (subst (λ (m : ℕ). IsRowOf net (first_of shared g) st.table (λ j n. (j ≡ i) × (n ≡ m + k)) (slice_index_or (line_at lines i) k [])) (taken-is i place)
          ((st.tokens i place).each k (let m : length (line_at lines i) ≡ (channel_at net i).tokens = many_left i place in omega arith)))

      -- after the round
      pub matrix_is : IsMatrix shared g gamma rows
      matrix_is = is_matrix shared g gamma rules kind shares timed gives small order round st.table rows small_rows are_rows
          (is_left net laws (first_of shared g) (shared_count shared) st.table rows are_rows (covers g gamma rules kind shared shares) left.long square_at each_row)
