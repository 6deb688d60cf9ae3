-- Distributions of which none stands twice in a list can be put in order.
use Rattle.std.proofs.Common.{◌≡◌, ◌≢◌, ℕ, suc, ◌<◌, ◌⊎◌, Bool, true, false, Option, List, [], ◌∷◌, ◌++◌, length, inl, inr, ⊎_elim, refl, sym, ap, ◌∙◌, subst, arith}
use Rattle.std.specs.Prelude.{All, Contains, slice_index_or}
use Rattle.std.proofs.lemmas.Bool.{cases_order, true≢false}
use Rattle.std.proofs.lemmas.List.Elements.{All-cons, All-contains, All-weaker, Contains-append_cases, Contains-get_or}
use Rattle.sd_base.specs.Net.{Channel, Net}
use Rattle.sd_base.proofs.ContainedHavePlaces.{contains-cases, contains-here, contains-later}
use Rattle.storage.specs.CapacityOrder.{no_later}
use Rattle.storage.specs.Distributions.{storage_of}
use Rattle.storage.specs.StorageOrder.{AreInOrder, IsBefore}
use Rattle.storage.proofs.CapacityOrder.{no_later-antisym, no_later-total, no_later-trans}
use Rattle.explore.specs.Explorations.{AreFound}
use Rattle.explore.specs.Reachable.{IsReachable}
use Rattle.pareto_search.specs.Entrances.{AreApart}

-- ---- the order

pub not-later : (ds es : List (Option ℕ)) → ds ≢ es → no_later ds es ≡ true → no_later es ds ≡ false
not-later ds es apart early = at (no_later es ds) refl
  where
    at : (b : Bool) → no_later es ds ≡ b → no_later es ds ≡ false
    at true is = absurd (apart (no_later-antisym ds es early is))
    at false is = is

-- of two that differ one is before the other
before-either : (cs : List Channel) (ds es : List (Option ℕ)) → ds ≢ es → IsBefore cs ds es ⊎ IsBefore cs es ds
before-either cs ds es apart =
    ⊎_elim
    (λ (same : storage_of cs ds ≡ storage_of cs es).
    ⊎_elim
    (λ (early : no_later ds es ≡ true). inl (inr (same, not-later ds es apart early)))
    (λ (late : no_later es ds ≡ true). inr (inr (sym same, not-later es ds (λ equal. apart (sym equal)) late)))
    (no_later-total ds es))
    (λ (differ : (storage_of cs ds < storage_of cs es) ⊎ (storage_of cs es < storage_of cs ds)).
    ⊎_elim
    (λ (less : storage_of cs ds < storage_of cs es). inl (inl less))
    (λ (more : storage_of cs es < storage_of cs ds). inr (inl more))
    differ)
    (cases_order (storage_of cs ds) (storage_of cs es))

earlier-trans : (ds es fs : List (Option ℕ)) → no_later es ds ≡ false → no_later fs es ≡ false → no_later fs ds ≡ false
earlier-trans ds es fs one other = at (no_later fs ds) refl
  where
    at : (b : Bool) → no_later fs ds ≡ b → no_later fs ds ≡ false
    at true is =
        ⊎_elim
        (λ (early : no_later ds es ≡ true). absurd (true≢false (sym (no_later-trans fs ds es is early) ∙ other)))
        (λ (late : no_later es ds ≡ true). absurd (true≢false (sym late ∙ one)))
        (no_later-total ds es)
    at false is = is

before-trans : (cs : List Channel) (ds es fs : List (Option ℕ)) → IsBefore cs ds es → IsBefore cs es fs → IsBefore cs ds fs
before-trans cs ds es fs (inl less) (inl more) = inl (omega (arith, less, more))
before-trans cs ds es fs (inl less) (inr (same, later)) = inl (omega (arith, less, same))
before-trans cs ds es fs (inr (same, later)) (inl less) = inl (omega (arith, less, same))
before-trans cs ds es fs (inr (same, later)) (inr (equal, after)) = inr (same ∙ equal, earlier-trans ds es fs later after)

-- ---- one more

-- the distribution and the others, in order
record IsInserted (cs : List Channel) (ds : List (Option ℕ)) (others : List (List (Option ℕ))) : Type 0 where
  all : List (List (Option ℕ))
  order : AreInOrder cs all
  long : length all ≡ suc (length others)
  among : (es : List (Option ℕ)) → Contains all es → (ds ≡ es) ⊎ Contains others es

-- what is before the distribution and the others is before all
behind-all : (cs : List Channel) (ds es : List (Option ℕ)) (others all : List (List (Option ℕ))) → IsBefore cs es ds → All (IsBefore cs es) others → ((fs : List (Option ℕ)) → Contains all fs → (ds ≡ fs) ⊎ Contains others fs) → All (IsBefore cs es) all
behind-all cs ds es others all after order among = λ k d below. at (slice_index_or all k d) (among (slice_index_or all k d) (Contains-get_or all k d below))
  where
    at : (fs : List (Option ℕ)) → (ds ≡ fs) ⊎ Contains others fs → IsBefore cs es fs
    at fs (inl same) = subst (IsBefore cs es) same after
    at fs (inr old) = All-contains (IsBefore cs es) others fs order old

inserted : (cs : List Channel) (ds : List (Option ℕ)) (others : List (List (Option ℕ))) → AreInOrder cs others → ((es : List (Option ℕ)) → Contains others es → ds ≢ es) → IsInserted cs ds others
inserted cs ds [] order apart = record {
  all = ds ∷ [];
  order = (λ k d below. absurd (omega (arith, below)), tt);
  long = refl;
  among = λ es one. contains-cases ds [] es one;
}
inserted cs ds (es ∷ others) order apart = at (before-either cs ds es (apart es (contains-here es others))) (inserted cs ds others order.1 (λ fs one. apart fs (contains-later es others fs one)))
  where
    at : IsBefore cs ds es ⊎ IsBefore cs es ds → IsInserted cs ds others → IsInserted cs ds (es ∷ others)
    at (inl before) rest = record {
      all = ds ∷ es ∷ others;
      order = (All-cons (IsBefore cs ds) es others before (All-weaker (IsBefore cs es) (IsBefore cs ds) (λ fs after. before-trans cs ds es fs before after) others order.0), order);
      long = refl;
      among = λ fs one. contains-cases ds (es ∷ others) fs one;
    }
    at (inr after) rest = record {
      all = es ∷ rest.all;
      order = (behind-all cs ds es others rest.all after order.0 rest.among, rest.order);
      long = ap suc rest.long;
      among = λ fs one. ⊎_elim
          (λ (same : es ≡ fs). inr (subst (Contains (es ∷ others)) same (contains-here es others)))
          (λ (later : Contains rest.all fs). ⊎_elim
          (λ (same : ds ≡ fs). inl same)
          (λ (old : Contains others fs). inr (contains-later es others fs old))
          (rest.among fs later))
          (contains-cases es rest.all fs one);
    }

-- ---- all of them

-- as many, all of the list, in order
pub record IsSorted (cs : List Channel) (dss : List (List (Option ℕ))) : Type 0 where
  pub all : List (List (Option ℕ))
  pub order : AreInOrder cs all
  pub long : length all ≡ length dss
  pub among : (ds : List (Option ℕ)) → Contains all ds → Contains dss ds

pub sorted : (cs : List Channel) (dss : List (List (Option ℕ))) → AreApart dss → IsSorted cs dss
sorted cs [] apart = record { all = []; order = tt; long = refl; among = λ ds one. one }
sorted cs (ds ∷ dss) apart =
    let rest = sorted cs dss apart.1 in
    let more = inserted cs ds rest.all rest.order (λ es one. apart.0 es (rest.among es one)) in
    record {
      all = more.all;
      order = more.order;
      long = more.long ∙ ap suc rest.long;
      among = λ es one. ⊎_elim
          (λ (same : ds ≡ es). subst (Contains (ds ∷ dss)) same (contains-here ds dss))
          (λ (old : Contains rest.all es). contains-later ds dss es (rest.among es old))
          (more.among es one);
    }

-- reachable ones are found
pub found-sorted : (net : Net) (limit : ℕ) (dss : List (List (Option ℕ))) → AreApart dss → ((ds : List (Option ℕ)) → Contains dss ds → IsReachable net limit ds) → (found : List (List (Option ℕ))) × AreFound net limit found × (length found ≡ length dss)
found-sorted net limit dss apart reachable =
    let s = sorted net.channels dss apart in (s.all, record { order = s.order; reachable = λ ds one. reachable ds (s.among ds one) }, s.long)

-- ---- two lists

pub apart-append : (dss ess : List (List (Option ℕ))) → AreApart dss → AreApart ess → ((ds es : List (Option ℕ)) → Contains dss ds → Contains ess es → ds ≢ es) → AreApart (dss ++ ess)
apart-append [] ess one other between = other
apart-append (ds ∷ dss) ess one other between = (
  λ es there. ⊎_elim
      (λ (front : Contains dss es). one.0 es front)
      (λ (back : Contains ess es). between ds es (contains-here ds dss) back)
      (Contains-append_cases dss ess es there),
  apart-append dss ess one.1 other (λ fs es front back. between fs es (contains-later ds dss fs front) back),
)
