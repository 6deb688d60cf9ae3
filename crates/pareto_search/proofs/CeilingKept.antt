-- A bound on no channel with a rate that none passes is kept.
use Rattle.std.proofs.Common.{◌≡◌, ℕ, Option, Some, List, [], ◌∷◌, ◌++◌, length, take, refl, sym, ◌∙◌, subst}
use Rattle.std.specs.Prelude.{All, slice_get, slice_index_or}
use Rattle.std.proofs.lemmas.Option.{same_Some, slice_get_read, slice_get_within}
use Rattle.sd_base.specs.declared.limits.Limits.{Limits}
use Rattle.sd_base.specs.declared.numbers.Fraction.{Fraction}
use Rattle.sd_base.specs.Net.{Net}
use Rattle.lasso.specs.LoopAnswers.{IsFound}
use Rattle.storage.specs.BoundedNets.{bound}
use Rattle.covers.specs.declared.bound.Bound.{Bound}
use Rattle.covers.specs.declared.lattice.Lattice.{Lattice}
use Rattle.covers.specs.declared.search.Search.{Search}
use Rattle.covers.specs.Bounds.{IsAtMost, IsCovered}
use Rattle.covers.specs.Searches.{IsSearched}
use Rattle.covers.proofs.BoundsStayInForce.{covered-added}
use Rattle.walks.specs.declared.telling.Telling.{Telling}
use Rattle.pareto_search.specs.declared.known.Looped.{Looped}
use Rattle.pareto_search.specs.declared.searching.Searching.{Searching}
use Rattle.pareto_search.specs.inside.Ceilings.{BoundsAll}
use Rattle.pareto_search.specs.inside.Grounds.{IsGround}
use Rattle.pareto_search.specs.inside.Knowledge.{IsLooped}
use Rattle.pareto_search.specs.inside.Turns.{IsDue, IsStanding, IsValid}
use Rattle.pareto_search.specs.inside.Vectors.{bounded_by}
use Rattle.pareto_search.proofs.TellingsAreAbsorbed.{bounds-stay, valid-more}
use Rattle.pareto_search.proofs.WithinLimit.{among-lawful}

-- the loop that is kept for a place is that of the telling which is read there
pub looped-found : (net : Net) (states : ℕ) (corner : List (Option ℕ)) (tellings : List Telling) (l : Looped) (t : Telling) → t ≡ slice_index_or tellings l.place t → IsLooped net states corner tellings l → IsFound (bound net (bounded_by corner t.capacities)) states l.table
looped-found net states corner tellings l t read is =
    let at : slice_get tellings l.place ≡ Some t = slice_get_read tellings (length tellings) l.place t refl (slice_get_within tellings l.place is.telling is.at) read in
    let same : is.telling ≡ t = same_Some is.telling t (sym is.at ∙ at) in
    subst (λ (x : Telling). IsFound (bound net (bounded_by corner x.capacities)) states l.table) same is.found

module _ (net : Net) (limits : Limits) (corner : List (Option ℕ)) (lattice : Lattice) (base : IsGround net limits corner lattice) where
  -- such a bound is valid
  pub ceiling-valid : (b : Bound) → BoundsAll net b.rate → IsValid net corner lattice b
  ceiling-valid b all ks among covers x y rate = all (bounded_by corner ks) x y (among-lawful net limits corner lattice base ks among) rate

  -- and with a valid one more the search stands
  pub standing-more : (floor : ℕ) (s : Searching) (bs : Search) (b : Bound) → IsValid net corner lattice b → IsSearched bs → bs.order ≡ s.bounds.order → bs.lattice ≡ s.bounds.lattice → bs.bounds.items ≡ s.bounds.bounds.items ++ b ∷ [] → bs.best ≡ s.bounds.best
      → IsStanding net limits corner lattice floor s → IsStanding net limits corner lattice floor (record { bounds = bs; known = s.known; points = s.points; below = s.below; due = s.due })
  standing-more floor s bs b valid searched order lattice_same items best is = record {
    searched = searched;
    by_storage = order ∙ is.by_storage;
    lattice_is = lattice_same ∙ is.lattice_is;
    kept = bounds-stay s.bounds.bounds.items bs.bounds.items b items (take (length s.known.tellings.items) s.known.tellings.items) is.kept;
    valid = valid-more net corner lattice s.bounds.bounds.items bs.bounds.items b items is.valid valid;
    most = subst (λ (r : Fraction). All (λ (t : Telling). IsAtMost t.rate r) (take (length s.known.tellings.items) s.known.tellings.items)) (sym best) is.most;
    later = is.later;
    known = is.known;
    settled = λ ks among less. subst (λ (xs : List Bound). IsCovered xs s.below ks) (sym items) (covered-added s.bounds.bounds.items b s.below ks (is.settled ks among less));
    due = subst (λ (r : Fraction). IsDue lattice s.known.tellings.items s.below floor r s.due) (sym best) is.due;
    pointed = is.pointed;
  }
