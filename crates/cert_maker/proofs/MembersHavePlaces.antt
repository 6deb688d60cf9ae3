-- Members by their places.
use Rattle.std.proofs.Common.{◌≡◌, ℕ, zero, suc, ◌+◌, ◌<◌, ◌≤◌, Option, Some, List, [], ◌∷◌, ◌++◌, length, take, drop, slice_get, ⊎_elim, refl, sym, ap, subst, ◌∙◌, arith}
use Rattle.std.specs.Prelude.{slice_index_or, Contains}
use Rattle.std.specs.List.{AllZip}
use Rattle.std.proofs.lemmas.List.{length_push, map-append, take_more, get_or_default}
use Rattle.std.proofs.lemmas.Slice.Zip.{all_zipped_more}
use Rattle.periodic.specs.declared.schedule.Periodic.{Periodic}
use Rattle.sd_base.proofs.ContainedHavePlaces.{contains-none, contains-cases}
use Rattle.pareto_front.specs.declared.point.Point.{Point}
use Rattle.explore.specs.declared.exploration.Member.{Member}
use Rattle.explore.specs.Explorations.{capacities_of}
use Rattle.cert_text.specs.declared.certificates.PointLine.{PointLine}
use Rattle.cert_maker.specs.StorageCertificates.{IsPointLine, schedules_of}
use Rattle.cert_maker.specs.inside.Lines.{ArePlaced}

-- what isn't at a place stands after it
pub one-later : (dss : List (List (Option ℕ))) (i : ℕ) (ds : List (Option ℕ)) → Contains (drop i dss) ds → (slice_get dss i ≡ Some ds → ⊥) → Contains (drop (suc i) dss) ds
one-later [] zero ds one other = absurd (contains-none ds one)
one-later [] (suc i) ds one other = absurd (contains-none ds one)
one-later (x ∷ xs) zero ds one other = ⊎_elim (λ (same : x ≡ ds). absurd (other (ap Some same))) (λ (later : Contains xs ds). later) (contains-cases x xs ds one)
one-later (x ∷ xs) (suc i) ds one other = one-later xs i ds one other

pub capacities-at : (ms : List Member) (i : ℕ) (d : Member) → i < length ms → slice_get (capacities_of ms) i ≡ Some (slice_index_or ms i d).capacities.capacities
capacities-at [] i d below = absurd (omega arith)
capacities-at (m ∷ ms) zero d below = refl
capacities-at (m ∷ ms) (suc i) d below = capacities-at ms i d (omega arith)

-- One more line: after the points of so many schedules comes point p, whose member has a place.
module _ (members : List Member) (points : List Point) (placed : ArePlaced (capacities_of members) points) (done : List Periodic) (lines : List PointLine)
    (p : Point) (below : length done < length points) (is : p ≡ slice_index_or points (length done) p) (line : PointLine) (s : Periodic) where
  pub more-lines : AllZip (IsPointLine members) (take (length done) points) lines → IsPointLine members p line → AllZip (IsPointLine members) (take (length (done ++ s ∷ [])) points) (lines ++ line ∷ [])
  more-lines right one =
      let next : take (length done + 1) points ≡ take (length done) points ++ p ∷ [] = take_more points (length done) p below ∙ ap (λ (q : Point). take (length done) points ++ q ∷ []) (sym is) in
      subst (λ (k : ℕ). AllZip (IsPointLine members) (take k points) (lines ++ line ∷ [])) (sym (length_push done s))
      (subst (λ (ps : List Point). AllZip (IsPointLine members) ps (lines ++ line ∷ [])) (sym next) (all_zipped_more (IsPointLine members) (take (length done) points) lines p line right one))

  pub more-schedules : schedules_of lines ≡ done → line.schedule ≡ s → schedules_of (lines ++ line ∷ []) ≡ done ++ s ∷ []
  more-schedules same one =
      map-append (λ (l : PointLine). l.schedule) lines (line ∷ []) ∙ ap (λ (ss : List Periodic). ss ++ line.schedule ∷ []) same ∙ ap (λ (x : Periodic). done ++ x ∷ []) one

  pub more-count : length lines ≡ length done → length (lines ++ line ∷ []) ≡ length (done ++ s ∷ [])
  more-count same = length_push lines line ∙ ap (λ (n : ℕ). n + 1) same ∙ sym (length_push done s)

  pub here : (place : ℕ) → ((k : ℕ) (d : Point) → length done ≤ k → k < length points → Contains (drop place (capacities_of members)) (slice_index_or points k d).capacities.capacities)
      → Contains (drop place (capacities_of members)) p.capacities.capacities
  here place left = subst (λ (q : Point). Contains (drop place (capacities_of members)) q.capacities.capacities) (sym is) (left (length done) p (omega arith) below)

  pub more-left : (place : ℕ) → slice_get (capacities_of members) place ≡ Some p.capacities.capacities
      → (k : ℕ) (d : Point) → length (done ++ s ∷ []) ≤ k → k < length points → Contains (drop place (capacities_of members)) (slice_index_or points k d).capacities.capacities
  more-left place at k d from within =
      placed.later (length done) k place d (omega (arith, from, length_push done s)) within
      (at ∙ ap (λ (q : Point). Some q.capacities.capacities) (is ∙ get_or_default points (length done) p d below))
