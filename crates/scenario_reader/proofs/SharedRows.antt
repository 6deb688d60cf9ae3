-- The rows of the channels with tokens, which scenarios share.
use Rattle.std.proofs.Common.{◌≡◌, ◌≢◌, ℕ, zero, suc, ◌≤◌, Bool, true, false, cond, not, ◌==◌, ◌||◌, List, [], ◌∷◌, slice_get, Option, Some, None, Ok, refl, sym, ap, ap₂, ◌∙◌, subst, arith}
use Rattle.std.specs.Prelude.{IfOk}
use Rattle.std.specs.List.{AllByRecursion, list_any}
use Rattle.std.specs.Option.{option_or}
use Rattle.std.specs.Str.{bytes_eq}
use Rattle.std.proofs.lemmas.Bool.{eqb-true, eqb-false, eq-eqb, and_parts, or_right}
use Rattle.std.proofs.lemmas.Slice.Eq.{bytes_eq-Decides}
use Rattle.sd_base.specs.declared.tables.GraphFile.{GraphFile}
use Rattle.sd_base.specs.declared.tables.ChannelRow.{ChannelRow}
use Rattle.sd_base.specs.declared.tables.ScenarioRow.{ScenarioRow}
use Rattle.sd_base.specs.declared.tables.SharedRow.{SharedRow}
use Rattle.sd_base.specs.Scenarios.{Shares}
use Rattle.file_text.specs.Grammar.{Each}
use Rattle.graph_reader.specs.Spelled.{EachTwo}
use Rattle.graph_reader.proofs.ReaderSteps.{then, weaker}
use Rattle.graph_reader.proofs.NumberLists.{not-zero}
use Rattle.graph_reader.proofs.ReadTreesAreSpelled.{NamesDiffer}
use Rattle.scenario_reader.specs.ScenarioSections as files
use Rattle.scenario_reader.specs.ScenarioSpelled.{HasRow, AreAmong, AreSame}

-- ---- elements by their places

pub all-at : {X : Type 0} (P : X → Type 0) (xs : List X) (i : ℕ) (x : X) → AllByRecursion P xs → slice_get xs i ≡ Some x → P x
all-at P [] i x all at = absurd cc
all-at P (y ∷ xs) zero x all at = let same : y ≡ x = cc in subst P same all.0
all-at P (y ∷ xs) (suc i) x all at = all-at P xs i x all.1 at

pub each-at : {X : Type 0} (P : X → Type 0) (xs : List X) (i : ℕ) (x : X) → Each P xs → slice_get xs i ≡ Some x → P x
each-at P [] i x all at = absurd cc
each-at P (y ∷ xs) zero x all at = let same : y ≡ x = cc in subst P same all.0
each-at P (y ∷ xs) (suc i) x all at = each-at P xs i x all.1 at

-- elements that are pairwise different in what f gives stand at one place where it gives the same
pub one-place : {X Y : Type 0} (f : X → Y) (xs : List X) (i j : ℕ) (x y : X) → EachTwo (λ a b. f a ≢ f b) xs → slice_get xs i ≡ Some x → slice_get xs j ≡ Some y → f x ≡ f y → i ≡ j
one-place f [] i j x y two at to same = absurd cc
one-place f (z ∷ xs) zero zero x y two at to same = refl
one-place f (z ∷ xs) zero (suc j) x y two at to same =
    let first : z ≡ x = cc in
    absurd (each-at (λ b. f z ≢ f b) xs j y two.0 to (ap f first ∙ same))
one-place f (z ∷ xs) (suc i) zero x y two at to same =
    let first : z ≡ y = cc in
    absurd (each-at (λ b. f z ≢ f b) xs i x two.0 at (ap f first ∙ sym same))
one-place f (z ∷ xs) (suc i) (suc j) x y two at to same = ap suc (one-place f xs i j x y two.1 at to same)

-- ---- the rows of channels

-- a row's channel
pub record IsRowOf (channels : List ChannelRow) (row : SharedRow) : Type 0 where
  pub place : ℕ
  pub channel : ChannelRow
  pub at : slice_get channels place ≡ Some channel
  pub name : channel.name ≡ row.name
  pub tokens : channel.tokens ≡ row.tokens
  pub some : 1 ≤ row.tokens

later-row : (c : ChannelRow) (channels : List ChannelRow) (row : SharedRow) → IsRowOf channels row → IsRowOf (c ∷ channels) row
later-row c channels row is = record { place = suc is.place; channel = is.channel; at = is.at; name = is.name; tokens = is.tokens; some = is.some }

abbrev row_of : ChannelRow → SharedRow
row_of c = record { name = c.name; tokens = c.tokens }

pub row-from : (channels : List ChannelRow) (s : ℕ) (row : SharedRow) → slice_get (files.rows_of channels) s ≡ Some row → IsRowOf channels row
row-from [] s row at = absurd cc
row-from (c ∷ channels) s row at = cases (c.tokens == 0) refl (λ k. row-from channels k row) at
  where
    Later : Type 0
    Later = (k : ℕ) → slice_get (files.rows_of channels) k ≡ Some row → IsRowOf channels row

    here : (k : ℕ) → (c.tokens == 0) ≡ false → Later → slice_get (row_of c ∷ files.rows_of channels) k ≡ Some row → IsRowOf (c ∷ channels) row
    here zero some later is =
        let same : row_of c ≡ row = cc in
        let much : c.tokens ≢ 0 = eqb-false c.tokens 0 some in
        subst (IsRowOf (c ∷ channels)) same (record { place = 0; channel = c; at = refl; name = refl; tokens = refl; some = omega arith })
    here (suc k) some later is = later-row c channels row (later k is)

    cases : (b : Bool) → (c.tokens == 0) ≡ b → Later → slice_get (cond b (files.rows_of channels) (row_of c ∷ files.rows_of channels)) s ≡ Some row → IsRowOf (c ∷ channels) row
    cases true none later is = later-row c channels row (later s is)
    cases false some later is = here s some later is

later-has : (r : SharedRow) (rows : List SharedRow) (name : List ℕ) (tokens : ℕ) → HasRow rows name tokens → HasRow (r ∷ rows) name tokens
later-has r rows name tokens has = record { place = suc has.place; row = has.row; at = has.at; same_name = has.same_name; same_tokens = has.same_tokens }

pub row-there : (channels : List ChannelRow) (i : ℕ) (c : ChannelRow) → slice_get channels i ≡ Some c → 1 ≤ c.tokens → HasRow (files.rows_of channels) c.name c.tokens
row-there [] i c at some = absurd cc
row-there (d ∷ channels) zero c at some =
    let same : d ≡ c = cc in
    let much : (d.tokens == 0) ≡ false = not-zero d.tokens (subst (λ (x : ChannelRow). 1 ≤ x.tokens) (sym same) some) in
    subst (λ (x : ChannelRow). HasRow (files.rows_of (d ∷ channels)) x.name x.tokens) same (rw much (record { place = 0; row = row_of d; at = refl; same_name = refl; same_tokens = refl }))
row-there (d ∷ channels) (suc i) c at some = cases (d.tokens == 0) (row-there channels i c at some)
  where
    cases : (b : Bool) → HasRow (files.rows_of channels) c.name c.tokens → HasRow (cond b (files.rows_of channels) (row_of d ∷ files.rows_of channels)) c.name c.tokens
    cases true has = has
    cases false has = later-has (row_of d) (files.rows_of channels) c.name c.tokens has

-- rows of channels of different names have different names
abbrev pub RowsDiffer : SharedRow → SharedRow → Type 0
RowsDiffer r s = r.name ≢ s.name

rows-differ-from : (name : List ℕ) (channels : List ChannelRow) → Each (λ (c : ChannelRow). name ≢ c.name) channels → Each (λ (r : SharedRow). name ≢ r.name) (files.rows_of channels)
rows-differ-from name [] all = tt
rows-differ-from name (c ∷ channels) all = cases (c.tokens == 0) (rows-differ-from name channels all.1)
  where
    cases : (b : Bool) → Each (λ (r : SharedRow). name ≢ r.name) (files.rows_of channels) → Each (λ (r : SharedRow). name ≢ r.name) (cond b (files.rows_of channels) (row_of c ∷ files.rows_of channels))
    cases true later = later
    cases false later = (all.0, later)

pub rows-apart : (channels : List ChannelRow) → EachTwo NamesDiffer channels → EachTwo RowsDiffer (files.rows_of channels)
rows-apart [] two = tt
rows-apart (c ∷ channels) two = cases (c.tokens == 0) (rows-apart channels two.1)
  where
    cases : (b : Bool) → EachTwo RowsDiffer (files.rows_of channels) → EachTwo RowsDiffer (cond b (files.rows_of channels) (row_of c ∷ files.rows_of channels))
    cases true later = later
    cases false later = (rows-differ-from c.name channels two.0, later)

-- ---- rows that are the same

has-from_any : (r : SharedRow) (others : List SharedRow) → list_any (files.is_same_row r) others ≡ true → HasRow others r.name r.tokens
has-from_any r [] any = absurd cc
has-from_any r (s ∷ others) any = cases (files.is_same_row r s) refl (has-from_any r others) any
  where
    cases : (b : Bool) → files.is_same_row r s ≡ b → (list_any (files.is_same_row r) others ≡ true → HasRow others r.name r.tokens) → (b || list_any (files.is_same_row r) others) ≡ true → HasRow (s ∷ others) r.name r.tokens
    cases true same later is =
        let parts = and_parts (bytes_eq s.name r.name) (s.tokens == r.tokens) same in
        record { place = 0; row = s; at = refl; same_name = (bytes_eq-Decides s.name r.name).0 parts.0; same_tokens = eqb-true s.tokens r.tokens parts.1 }
    cases false other later is = later-has s others r.name r.tokens (later is)

none-stray : (rows others : List SharedRow) → files.stray rows others ≡ None → AreAmong rows others
none-stray [] others none = tt
none-stray (r ∷ rows) others none = cases (list_any (files.is_same_row r) others) refl (none-stray rows others) none
  where
    cases : (b : Bool) → list_any (files.is_same_row r) others ≡ b → (files.stray rows others ≡ None → AreAmong rows others) → cond (not b) (Some r) (files.stray rows others) ≡ None → AreAmong (r ∷ rows) others
    cases true any later is = (has-from_any r others any, later is)
    cases false any later is = absurd cc

pub among-itself : (rows : List SharedRow) → AreAmong rows rows
among-itself rows = go rows rows (λ s r at. record { place = s; row = r; at = at; same_name = refl; same_tokens = refl })
  where
    go : (all some : List SharedRow) → ((s : ℕ) (r : SharedRow) → slice_get some s ≡ Some r → HasRow all r.name r.tokens) → AreAmong some all
    go all [] there = tt
    go all (r ∷ some) there = (there 0 r refl, go all some (λ s q at. there (suc s) q at))

-- and back: a row that stands there is found, so that none is astray
any-from_has : (r : SharedRow) (others : List SharedRow) (k : ℕ) (row : SharedRow) → slice_get others k ≡ Some row → row.name ≡ r.name → row.tokens ≡ r.tokens → list_any (files.is_same_row r) others ≡ true
any-from_has r [] k row at name tokens = absurd cc
any-from_has r (s ∷ others) zero row at name tokens =
    let same : s ≡ row = cc in
    let names : bytes_eq s.name r.name ≡ true = (bytes_eq-Decides s.name r.name).1 (ap (λ (x : SharedRow). x.name) same ∙ name) in
    let counts : (s.tokens == r.tokens) ≡ true = eq-eqb s.tokens r.tokens (ap (λ (x : SharedRow). x.tokens) same ∙ tokens) in
    rw (names, counts) refl
any-from_has r (s ∷ others) (suc k) row at name tokens = or_right (files.is_same_row r s) (list_any (files.is_same_row r) others) (any-from_has r others k row at name tokens)

no-stray : (rows others : List SharedRow) → AreAmong rows others → files.stray rows others ≡ None
no-stray [] others all = refl
no-stray (r ∷ rows) others all =
    let any : list_any (files.is_same_row r) others ≡ true = any-from_has r others all.0.place all.0.row all.0.at all.0.same_name all.0.same_tokens in
    rw any (no-stray rows others all.1)

pub share-again : (shared rows : List SharedRow) → AreSame shared rows → files.share shared rows ≡ Ok shared
unfolding files.share
share-again shared rows same = ap₂ (λ first second. files.none_differs shared (option_or first second)) (no-stray shared rows same.there) (no-stray rows shared same.back)

none-differs : (shared rows : List SharedRow) (first second : Option SharedRow) → files.stray shared rows ≡ first → files.stray rows shared ≡ second → IfOk (files.none_differs shared (option_or first second)) (λ _. AreSame shared rows)
none-differs shared rows None None there back = record { there = none-stray shared rows there; back = none-stray rows shared back }
none-differs shared rows None (Some r) there back = tt
none-differs shared rows (Some r) second there back = tt

share : (shared rows : List SharedRow) → IfOk (files.share shared rows) (λ _. AreSame shared rows)
unfolding files.share
share shared rows = none-differs shared rows (files.stray shared rows) (files.stray rows shared) refl refl

-- each scenario has the shared rows
abbrev pub AllHave : List SharedRow → List ScenarioRow → Type 0
AllHave shared scenarios = Each (λ (s : ScenarioRow). AreSame shared (files.rows_of s.graph.channels)) scenarios

pub all-share : (shared : List SharedRow) (scenarios : List ScenarioRow) → IfOk (files.all_share shared scenarios) (λ read. (read ≡ shared) × AllHave shared scenarios)
unfolding files.all_share
all-share shared [] = (refl, tt)
all-share shared (s ∷ rest) =
    then (λ _. AreSame shared (files.rows_of s.graph.channels)) _ (files.share shared (files.rows_of s.graph.channels)) (λ _. files.all_share shared rest) (share shared (files.rows_of s.graph.channels)) (λ _ same.
    weaker (λ read. (read ≡ shared) × AllHave shared rest) (λ read. (read ≡ shared) × AllHave shared (s ∷ rest)) (files.all_share shared rest) (all-share shared rest) (λ read h. (h.0, (same, h.1))))

-- what is shared is what all scenarios have, and no two rows have one name
pub record IsShared (scenarios : List ScenarioRow) (shared : List SharedRow) : Type 0 where
  pub had : AllHave shared scenarios
  pub apart : EachTwo RowsDiffer shared

abbrev pub HasNames : ScenarioRow → Type 0
HasNames s = EachTwo NamesDiffer s.graph.channels

pub shared_of : (scenarios : List ScenarioRow) → AllByRecursion HasNames scenarios → IfOk (files.shared_of scenarios) (IsShared scenarios)
unfolding files.shared_of
shared_of [] names = record { had = tt; apart = tt }
shared_of (s ∷ rest) names =
    let shared = files.rows_of s.graph.channels in
    weaker (λ read. (read ≡ shared) × AllHave shared rest) (IsShared (s ∷ rest)) (files.all_share shared rest) (all-share shared rest) (λ read h.
    subst (IsShared (s ∷ rest)) (sym h.0) (record {
      had = (record { there = among-itself shared; back = among-itself shared }, h.1);
      apart = rows-apart s.graph.channels names.0;
    }))

-- ---- a scenario's graph shares the rows

pub shares : (shared : List SharedRow) (g : GraphFile) → EachTwo RowsDiffer shared → EachTwo NamesDiffer g.channels → AreSame shared (files.rows_of g.channels) → Shares shared g
shares shared g apart names same = record {
  rows = λ s row at.
      let has = each-at (λ (r : SharedRow). HasRow (files.rows_of g.channels) r.name r.tokens) shared s row same.there at in
      let is = row-from g.channels has.place has.row has.at in
      (is.place, is.channel, is.at, is.name ∙ has.same_name, is.tokens ∙ has.same_tokens, subst (λ n. 1 ≤ n) has.same_tokens is.some);
  channels = λ i c at some.
      let row = row-there g.channels i c at some in
      let has = each-at (λ (r : SharedRow). HasRow shared r.name r.tokens) (files.rows_of g.channels) row.place row.row same.back row.at in
      (has.place, has.row, has.at, has.same_name ∙ row.same_name, has.same_tokens ∙ row.same_tokens);
  rows_differ = λ s t x y at to same. one-place (λ (r : SharedRow). r.name) shared s t x y apart at to same;
  names_differ = λ i j c d at to same. one-place (λ (r : ChannelRow). r.name) g.channels i j c d names at to same;
}
