-- The shared channels whose free space is among channels that are marked for longest ways.
use Rattle.std.proofs.Common.{◌≡◌, false, ℕ, ◌<◌, ◌⊎◌, Bool, true, Option, List, [], length, inl, inr, ⊎_elim, refl, sym, ap, ◌∙◌, subst, arith}
use Rattle.std.specs.Prelude.{◌↔◌, replicate, slice_index_or}
use Rattle.std.proofs.lemmas.Bool.{true≢false}
use Rattle.std.proofs.lemmas.Option.{slice_get_within}
use Rattle.sd_base.specs.declared.tables.ScenarioFile.{ScenarioFile}
use Rattle.sd_base.proofs.ElementsKeepPlaces.{replicate-same}
use Rattle.token_matrix.specs.Stamps.{first_of}
use Rattle.entry_ways.specs.declared.marking.EntryPlace.{EntryPlace}
use Rattle.entry_ways.specs.WayMarks.{AreWayMarks, IsOnSome}
use Rattle.bounded_scenarios.specs.BoundedFiles.{bounded_file, bounded_graph}
use Rattle.bounded_scenarios.specs.StorageRates.{bounded_net}
use Rattle.scenario_storage.specs.inside.Ratings.{IsScenarioAt}
use Rattle.scenario_storage.specs.inside.Shown.{AreSpaceMarks, AreSpacesWithin, HasSpace, IsSpaceOn, spaces_from}

module _ (file : ScenarioFile) (gammas : List (List ℕ)) (ds : List (Option ℕ)) (s : ℕ) (entries : List EntryPlace) (sc : IsScenarioAt file gammas s) where
  -- no entries
  pub empty-marks : length entries ≡ 0 → (old : List Bool) → AreSpaceMarks file gammas ds s entries old old
  empty-marks none old = record {
    scenario = sc;
    ways = [];
    each = sym none;
    longest = λ k x at. absurd (let low = slice_get_within entries k x at in omega (arith, low, none));
    long = refl;
    marked = λ c below. (
      λ is. inl is,
      λ either. ⊎_elim (λ (h : slice_index_or old c false ≡ true). h) (λ (h : IsSpaceOn (spaces_from (length sc.row.graph.channels) ds) [] c). absurd (let low = h.2.1.1 in omega (arith, low))) either,
    );
  }

  pub space-marks : (start end : List Bool) →
      AreWayMarks (bounded_net file.shared ds sc.row.graph sc.gamma) (first_of (bounded_file file ds).shared (bounded_graph file.shared ds sc.row.graph)) entries start end →
      ((i : ℕ) → slice_index_or start i false ≡ true → ⊥) →
      (spaces : List (Option ℕ)) → spaces ≡ spaces_from (length sc.row.graph.channels) ds → AreSpacesWithin (length start) spaces → (old new : List Bool) → length new ≡ length old →
      ((c : ℕ) → c < length old → (slice_index_or new c false ≡ true) ↔ ((slice_index_or old c false ≡ true) ⊎ ((i : ℕ) × HasSpace spaces c i × (slice_index_or end i false ≡ true)))) → AreSpaceMarks file gammas ds s entries old new
  space-marks start end ways none spaces is within old new long marks = record {
    scenario = sc;
    ways = ways.ways;
    each = ways.each;
    longest = ways.longest;
    long = long;
    marked = λ c below. (
      λ now. ⊎_elim
          (λ (h : slice_index_or old c false ≡ true). inl h)
          (λ (h : (i : ℕ) × HasSpace spaces c i × (slice_index_or end i false ≡ true)).
          inr (h.0, subst (λ (xs : List (Option ℕ)). HasSpace xs c h.0) is h.1, ⊎_elim (λ (b : slice_index_or start h.0 false ≡ true). absurd (none h.0 b)) (λ (b : IsOnSome ways.ways h.0). b) ((ways.marked h.0 (within c h.0 h.1)).0 h.2)))
          ((marks c below).0 now),
      λ either. (marks c below).1 (⊎_elim
          (λ (h : slice_index_or old c false ≡ true). inl h)
          (λ (h : IsSpaceOn (spaces_from (length sc.row.graph.channels) ds) ways.ways c).
          let has : HasSpace spaces c h.0 = subst (λ (xs : List (Option ℕ)). HasSpace xs c h.0) (sym is) h.1 in
          inr (h.0, has, (ways.marked h.0 (within c h.0 has)).1 (inr h.2)))
          either),
    );
  }

-- of a list of false nothing is true
pub none-true : (n i : ℕ) (marks : List Bool) → marks ≡ replicate n false → slice_index_or marks i false ≡ true → ⊥
none-true n i marks is one = true≢false (sym one ∙ (ap (λ (xs : List Bool). slice_index_or xs i false) is ∙ replicate-same n i false))
