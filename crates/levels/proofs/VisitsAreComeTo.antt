-- The visits of a search are what is come to.
use Rattle.std.proofs.Common.{ℕ, zero, suc, ◌≤◌, ◌<◌, Option, List, inl, inr, subst, sym, arith}
use Rattle.std.specs.Prelude.{Contains, ◌↔◌}
use Rattle.std.proofs.lemmas.List.Elements.{All-contains}
use Rattle.sd_base.specs.Net.{Channel}
use Rattle.storage.specs.Distributions.{storage_of}
use Rattle.levels.specs.Visits.{AreVisits, IsComeTo, IsLedTo, Visit, first, next, visited}
use Rattle.sd_base.proofs.ContainedHavePlaces.{contains-map}

module _ (cs : List Channel) (start : List (Option ℕ)) (limit : ℕ) (visits : List Visit) (are : AreVisits cs start limit visits) where
  within : (ds : List (Option ℕ)) → Contains (visited visits) ds → storage_of cs ds ≤ limit
  within ds one = All-contains (λ (x : List (Option ℕ)). storage_of cs x ≤ limit) (visited visits) ds are.within one

  -- by the storage, since a visit needs less than what it leads to
  come : (n : ℕ) (ds : List (Option ℕ)) → storage_of cs ds < n → Contains (visited visits) ds → IsComeTo cs start limit visits ds
  come zero ds small one = absurd (omega (arith, small))
  come (suc n) ds small one = at (are.led ds one) (λ v less here. come n v.capacities (omega (arith, small, less)) here)
    where
      at : IsLedTo cs start visits ds → ((v : Visit) → storage_of cs v.capacities < storage_of cs ds → Contains (visited visits) v.capacities → IsComeTo cs start limit visits v.capacities) → IsComeTo cs start limit visits ds
      at (inl same) before = first ds same (within ds one)
      at (inr (v, here, leads)) before = next v ds (before v (are.rises v ds here leads) (contains-map (λ (x : Visit). x.capacities) visits v here)) here leads (within ds one)

  back : (ds : List (Option ℕ)) → IsComeTo cs start limit visits ds → Contains (visited visits) ds
  back _ (first ds same fits) = subst (Contains (visited visits)) (sym same) (are.begins (subst (λ (x : List (Option ℕ)). storage_of cs x ≤ limit) same fits))
  back _ (next v ds before here leads fits) = are.next v ds here leads fits

  pub come-visits : (ds : List (Option ℕ)) → Contains (visited visits) ds ↔ IsComeTo cs start limit visits ds
  come-visits ds = (λ one. come (suc (storage_of cs ds)) ds (omega arith) one, λ is. back ds is)
