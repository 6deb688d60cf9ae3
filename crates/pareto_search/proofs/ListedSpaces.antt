-- The free spaces among channels are listed channel by channel.
use Rattle.std.proofs.Common.{◌≡◌, ℕ, ◌+◌, ◌≤◌, ◌<◌, List, [], ◌∷◌, ◌++◌, length, ⊎_elim, refl, sym, ◌∙◌, subst, arith}
use Rattle.std.specs.Prelude.{All, Contains, slice_index}
use Rattle.std.proofs.lemmas.Bool.{cases_lt}
use Rattle.std.proofs.lemmas.List.Elements.{All-nil, All-push, Contains-append_left, Contains-push}
use Rattle.sd_base.specs.declared.role.Role.{Role}
use Rattle.sd_base.specs.declared.role.Role.TheVariants.{Token, Own, Space, Order}
use Rattle.sd_base.specs.Net.{Net, channel_at}
use Rattle.circular_waits.specs.CircularWaits.{WaitsForSpace}
use Rattle.pareto_search.specs.inside.Waits.{AddsSpace}

-- the spaces are among the channels, and those of the first n are all there
pub record AreListed (net : Net) (channels : List ℕ) (n : ℕ) (spaces : List ℕ) : Type 0 where
  pub each : All (WaitsForSpace net channels) spaces
  pub all : (j c : ℕ) → j < n → (channel_at net (slice_index channels j)).role ≡ Space c → Contains spaces c

pub listed-none : (net : Net) (channels : List ℕ) → AreListed net channels 0 []
listed-none net channels = record { each = All-nil (WaitsForSpace net channels); all = λ j c below role. absurd (omega arith) }

pub listed-all : (net : Net) (channels : List ℕ) (n : ℕ) (spaces : List ℕ) → length channels ≤ n → AreListed net channels n spaces → (c : ℕ) → WaitsForSpace net channels c → Contains spaces c
listed-all net channels n spaces many is c (j, below, role) = is.all j c (omega (arith, many, below)) role

module _ (net : Net) (channels : List ℕ) (n : ℕ) (old : List ℕ) (is : AreListed net channels n old) where
  listed-other : (new : List ℕ) → new ≡ old → ((c : ℕ) → (channel_at net (slice_index channels n)).role ≡ Space c → ⊥) → AreListed net channels (n + 1) new
  listed-other new same other = record {
    each = subst (All (WaitsForSpace net channels)) (sym same) is.each;
    all = λ j c below role. subst (λ (xs : List ℕ). Contains xs c) (sym same) (⊎_elim
        (λ (less : j < n). is.all j c less role)
        (λ (last : n ≤ j). let here : j ≡ n = omega arith in absurd (other c (subst (λ (i : ℕ). (channel_at net (slice_index channels i)).role ≡ Space c) here role)))
        (cases_lt j n));
  }

  listed-space : (d : ℕ) → n < length channels → (channel_at net (slice_index channels n)).role ≡ Space d → AreListed net channels (n + 1) (old ++ d ∷ [])
  listed-space d inside own = record {
    each = All-push (WaitsForSpace net channels) old d is.each (n, inside, own);
    all = λ j c below role. ⊎_elim
        (λ (less : j < n). Contains-append_left old (d ∷ []) c (is.all j c less role))
        (λ (last : n ≤ j).
        let here : j ≡ n = omega arith in
        let both : Space d ≡ Space c = sym own ∙ subst (λ (i : ℕ). (channel_at net (slice_index channels i)).role ≡ Space c) here role in
        let same : d ≡ c = cc in
        subst (Contains (old ++ d ∷ [])) same (Contains-push old d))
        (cases_lt j n);
  }

  pub listed-more : (new : List ℕ) → n < length channels → AddsSpace old new (channel_at net (slice_index channels n)).role → AreListed net channels (n + 1) new
  listed-more new inside adds = by (channel_at net (slice_index channels n)).role refl adds
    where
      by : (role : Role) → (channel_at net (slice_index channels n)).role ≡ role → AddsSpace old new role → AreListed net channels (n + 1) new
      by (Token x) is_role same = listed-other new same (λ c role. let both : Token x ≡ Space c = sym is_role ∙ role in cc)
      by (Own a) is_role same = listed-other new same (λ c role. let both : Own a ≡ Space c = sym is_role ∙ role in cc)
      by (Space d) is_role same = subst (AreListed net channels (n + 1)) (sym same) (listed-space d inside is_role)
      by (Order a b) is_role same = listed-other new same (λ c role. let both : Order a b ≡ Space c = sym is_role ∙ role in cc)
