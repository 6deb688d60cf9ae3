-- What a search learns leaves what was told and covered, and what is due where nothing faster can be told.
use Rattle.std.proofs.Common.{◌≡◌, ℕ, Option, List, [], ◌++◌, append_assoc, inl, inr, ⊎_elim, refl, sym, ap, ◌∙◌, subst}
use Rattle.std.specs.Prelude.{Contains}
use Rattle.std.proofs.lemmas.List.{append-nil}
use Rattle.std.proofs.lemmas.List.Elements.{All-contains, Contains-append_left}
use Rattle.sd_base.specs.declared.limits.Limits.{Limits}
use Rattle.sd_base.specs.declared.numbers.Fraction.{Fraction}
use Rattle.sd_base.specs.Net.{Net}
use Rattle.covers.specs.declared.lattice.Lattice.{Lattice}
use Rattle.walks.specs.declared.telling.Telling.{Telling}
use Rattle.pareto_search.specs.declared.known.Known.{Known}
use Rattle.pareto_search.specs.declared.searching.Due.{Due}
use Rattle.pareto_search.specs.declared.searching.Searching.{Searching}
use Rattle.pareto_search.specs.inside.Grounds.{IsGround}
use Rattle.pareto_search.specs.inside.Knowledge.{IsTold}
use Rattle.pareto_search.specs.inside.Turns.{HasFaster, IsOnward, IsSettling, IsStanding}
use Rattle.pareto_search.proofs.RateOrder.{above-from, above-never, most-on, most-same}
use Rattle.pareto_search.proofs.SlowCovered.{told-slow}

pub onward-same : (lattice : Lattice) (floor : ℕ) (s : Searching) → IsOnward lattice floor s s
onward-same lattice floor s = record {
  points = refl;
  below = refl;
  tellings = ([], sym (append-nil s.known.tellings.items));
  best = most-same s.bounds.best;
  covered = λ ks covered. covered;
  due = inl refl;
}

-- more was told
pub onward-told : (lattice : Lattice) (floor : ℕ) (s : Searching) (k : Known) (more : List Telling) → k.tellings.items ≡ s.known.tellings.items ++ more → IsOnward lattice floor s (record { bounds = s.bounds; known = k; points = s.points; below = s.below; due = s.due })
onward-told lattice floor s k more added = record {
  points = refl;
  below = refl;
  tellings = (more, added);
  best = most-same s.bounds.best;
  covered = λ ks covered. covered;
  due = inl refl;
}

pub faster-on : (lattice : Lattice) (floor : ℕ) (ts us more : List Telling) (best : Fraction) → us ≡ ts ++ more → HasFaster lattice floor ts best → HasFaster lattice floor us best
faster-on lattice floor ts us more best added has = (has.0, subst (λ (xs : List Telling). Contains xs has.0) (sym added) (Contains-append_left ts more has.0 has.1), has.2, has.3)

pub onward-on : (lattice : Lattice) (floor : ℕ) (s t u : Searching) → IsOnward lattice floor s t → IsOnward lattice floor t u → IsOnward lattice floor s u
onward-on lattice floor s t u one other = record {
  points = other.points ∙ one.points;
  below = other.below ∙ one.below;
  tellings = (
    one.tellings.0 ++ other.tellings.0,
    other.tellings.1 ∙ (ap (λ (xs : List Telling). xs ++ other.tellings.0) one.tellings.1 ∙ append_assoc s.known.tellings.items one.tellings.0 other.tellings.0),
  );
  best = most-on s.bounds.best t.bounds.best u.bounds.best one.best other.best;
  covered = λ ks covered. other.covered ks (one.covered ks covered);
  due =
      ⊎_elim
      (λ (later : u.due ≡ t.due).
      ⊎_elim
      (λ (first : t.due ≡ s.due). inl (later ∙ first))
      (λ (first : HasFaster lattice floor t.known.tellings.items s.bounds.best). inr (faster-on lattice floor t.known.tellings.items u.known.tellings.items other.tellings.0 s.bounds.best other.tellings.1 first))
      one.due)
      (λ (later : HasFaster lattice floor u.known.tellings.items t.bounds.best). inr (later.0, later.1, later.2, above-from s.bounds.best t.bounds.best later.0.rate one.best later.3))
      other.due;
}

module _ (net : Net) (limits : Limits) (corner : List (Option ℕ)) (lattice : Lattice) (base : IsGround net limits corner lattice) (due : Due) (s t : Searching) (is : IsSettling net limits corner lattice due s) (onward : IsOnward lattice due.total s t) (standing : IsStanding net limits corner lattice due.total t) where
  -- all within the storage that is due has no greater rate
  none-faster : HasFaster lattice due.total t.known.tellings.items s.bounds.best → ⊥
  none-faster has =
      let told : IsTold net limits corner lattice has.0 = All-contains (IsTold net limits corner lattice) t.known.tellings.items has.0 standing.known.told has.1 in
      above-never has.0.rate s.bounds.best has.3
      (told-slow net limits corner lattice base s.bounds.bounds.items is.standing.valid s.bounds.best has.0 told
      (is.closed has.0.capacities told.among has.2))

  pub settling-on : IsSettling net limits corner lattice due t
  settling-on = record {
    standing = standing;
    is_due =
        ⊎_elim
        (λ (same : t.due ≡ s.due). same ∙ is.is_due)
        (λ (has : HasFaster lattice due.total t.known.tellings.items s.bounds.best). absurd (none-faster has))
        onward.due;
    closed = λ ks among low. onward.covered ks (is.closed ks among low);
  }
