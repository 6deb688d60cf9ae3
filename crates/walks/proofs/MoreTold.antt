-- What is held back, and what walks come to, stays so as more is told; and a telling holds back its own capacities.
use Rattle.std.proofs.Common.{ℕ, ◌++◌, List, refl, arith}
use Rattle.std.specs.Prelude.{Contains}
use Rattle.std.proofs.lemmas.List.Elements.{Contains-append_left}
use Rattle.sd_base.proofs.ContainedHavePlaces.{get-contains}
use Rattle.sd_base.proofs.ElementsKeepPlaces.{get-left}
use Rattle.covers.specs.declared.lattice.Axis.{Axis}
use Rattle.walks.specs.declared.telling.Telling.{Telling}
use Rattle.walks.specs.Tellings.{HoldsBack, IsHeld, IsHeldAt}
use Rattle.walks.specs.Walks.{IsWalked, begin, begin_at, step}

pub held-more : (tellings more : List Telling) (ks : List ℕ) → IsHeld tellings ks → IsHeld (tellings ++ more) ks
held-more tellings more ks held = (held.0, Contains-append_left tellings more held.0 held.1, held.2)

pub held-at-more : (tellings more : List Telling) (ks : List ℕ) (place : ℕ) → IsHeldAt tellings ks place → IsHeldAt (tellings ++ more) ks place
held-at-more tellings more ks place held = (held.0, get-left tellings more place held.0 held.1, held.2)

pub walked-more : (axes : List Axis) (tellings more : List Telling) (corner goal ks : List ℕ) → IsWalked axes tellings corner goal ks → IsWalked axes (tellings ++ more) corner goal ks
walked-more axes tellings more corner goal _ begin = begin
walked-more axes tellings more corner goal _ (begin_at t told under) = begin_at t (Contains-append_left tellings more t told) under
walked-more axes tellings more corner goal _ (step ks t c walked told holds shown fits) =
    step ks t c (walked-more axes tellings more corner goal ks walked) (Contains-append_left tellings more t told) holds shown fits

-- what a telling at a place holds back, one of the tellings does
pub held-somewhere : (tellings : List Telling) (ks : List ℕ) (place : ℕ) → IsHeldAt tellings ks place → IsHeld tellings ks
held-somewhere tellings ks place held = (held.0, get-contains tellings place held.0 held.1, held.2)

pub holds-own : (t : Telling) → HoldsBack t t.capacities
holds-own t = record { most = λ c. omega arith; same = λ i d below. refl }

pub held-own : (tellings : List Telling) (t : Telling) → Contains tellings t → IsHeld tellings t.capacities
held-own tellings t told = (t, told, holds-own t)
