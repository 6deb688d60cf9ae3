-- An exploration begins at the corner.
use Rattle.std.proofs.Common.{◌≡◌, ℕ, ◌≤◌, ◌<◌, Option, None, List, [], sym, subst, arith}
use Rattle.std.specs.Prelude.{All, Contains}
use Rattle.std.proofs.lemmas.List.Elements.{All-contains, All-nil}
use Rattle.sd_base.specs.declared.limits.Limits.{Limits}
use Rattle.sd_base.specs.Net.{Net}
use Rattle.storage.specs.Distributions.{storage_of}
use Rattle.storage.specs.Steps.{IsCorner}
use Rattle.sd_base.proofs.ContainedHavePlaces.{contains-none}
use Rattle.explore.specs.declared.exploration.Member.{Member}
use Rattle.levels.specs.declared.found.Found.{Found}
use Rattle.levels.specs.Frontiers.{IsFrontier}
use Rattle.explore.specs.declared.search.Search.{Search}
use Rattle.explore.specs.inside.Searches.{AreKnown, IsEnded, IsSearch}
use Rattle.explore.specs.inside.Hints.{IsHinted}

pub known-none : (net : Net) (states : ℕ) → AreKnown net states [] [] []
known-none net states = record {
  noted = tt;
  front = record { order = tt; covers = λ o one. absurd (contains-none o one); among = λ o one. one };
  tables = λ p one. absurd (contains-none p one);
}

-- where the corner is past the limit there is nothing
pub ended-none : (net : Net) (limits : Limits) (ds : List (Option ℕ)) → IsCorner net.channels ds → limits.total < storage_of net.channels ds → IsEnded net limits [] []
ended-none net limits ds is past = record {
  entries = [];
  known = known-none net limits.states;
  corner = ds;
  is_corner = is;
  visits = record {
    order = tt;
    within = All-nil (λ (es : List (Option ℕ)). storage_of net.channels es ≤ limits.total);
    begins = λ fits. absurd (omega (arith, past, fits));
    next = λ v es one leads fits. absurd (contains-none v one);
    rises = λ v es one leads. absurd (contains-none v one);
    led = λ es one. absurd (contains-none es one);
  };
  candidates = λ m one. absurd (contains-none m one);
  few = omega arith;
}

-- the corner waits
pub search-begun : (net : Net) (limits : Limits) (ds : List (Option ℕ)) (s : Search) → IsCorner net.channels ds → s.members.items ≡ [] → s.front ≡ [] → s.levels.bounds ≡ record { total = limits.total; distributions = limits.distributions } → IsFrontier net.channels ds 0 [] [] s.levels → All (λ (f : Found (Option ℕ)). f.hint ≡ None) s.levels.waiting → IsSearch net limits 0 [] s
search-begun net limits ds s is members front bounds frontier hints = record {
  entries = [];
  known = subst (λ (ms : List Member). AreKnown net limits.states ms [] s.front) (sym members) (subst (AreKnown net limits.states [] []) (sym front) (known-none net limits.states));
  corner = ds;
  is_corner = is;
  bounds = bounds;
  frontier = frontier;
  candidates = λ m one. absurd (contains-none m (subst (λ (ms : List Member). Contains ms m) members one));
  hinted = λ f one. subst (λ (hint : Option ℕ). IsHinted net limits.states s.members.items hint f.capacities.capacities) (sym (All-contains (λ (g : Found (Option ℕ)). g.hint ≡ None) s.levels.waiting f hints one)) tt;
}
