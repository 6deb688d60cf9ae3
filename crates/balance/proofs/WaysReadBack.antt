-- Ways read back from a place, step by step.
use Rattle.std.proofs.Common.{◌≡◌, ℕ, ◌<◌, Some, None, List, [], ◌∷◌, ◌++◌, reverse, sym, ap, ◌∙◌, append_assoc}
use Rattle.std.specs.Prelude.{slice_get}
use Rattle.std.proofs.lemmas.List.{reverse-append}
use Rattle.std.proofs.lemmas.Option.{same_Some}
use Rattle.balance.specs.declared.walk.WalkStep.{WalkStep}
use Rattle.balance.specs.declared.search.Found.{Found}
use Rattle.balance.specs.declared.search.Reach.{Reach}
use Rattle.balance.specs.inside.Search.{Entry, AreEntries, HasEntries, IsWayAt}
use Rattle.balance.proofs.SearchFindsWays.{entry_of}

-- the steps read so far, last first, are what the way to one place has more than the way to another
abbrev pub IsReadBack : List Found → ℕ → ℕ → List WalkStep → Type 0
IsReadBack found j k steps =
    (es : List Entry) (e d : Entry) → AreEntries found es → slice_get es j ≡ Some e → slice_get es k ≡ Some d → e.way ≡ d.way ++ reverse steps

-- a step leads from a place before
pub falls : (found : List Found) → HasEntries found → (j : ℕ) (x : Found) (r : Reach) → slice_get found j ≡ Some x → x.reach ≡ Some r → r.place < j
falls found (es, read) j x r at some = (let (e, here, same) = entry_of found es read j x at in (read.reached j x e r at here some).0)

pub read_more : (found : List Found) (j k : ℕ) (x : Found) (r : Reach) (steps : List WalkStep) → slice_get found k ≡ Some x → x.reach ≡ Some r → IsReadBack found j k steps
    → IsReadBack found j r.place (steps ++ r.step ∷ [])
read_more found j k x r steps at some back es e d read here there =
    let (y, place, same) = entry_of found es read k x at in
    let (lt, d', there', way) = read.reached k x y r at place some in
    let e' : d' ≡ d = same_Some d' d (sym there' ∙ there) in
    let turn : reverse (steps ++ r.step ∷ []) ≡ r.step ∷ reverse steps = reverse-append steps (r.step ∷ []) in
    back es e y read here place ∙ ap (λ (w : List WalkStep). w ++ reverse steps) way ∙ append_assoc d'.way (r.step ∷ []) (reverse steps)
    ∙ ap (λ (z : Entry). z.way ++ (r.step ∷ reverse steps)) e' ∙ ap (λ (w : List WalkStep). d.way ++ w) (sym turn)

pub read_whole : (found : List Found) (j k : ℕ) (x : Found) (steps : List WalkStep) → slice_get found k ≡ Some x → x.reach ≡ None → IsReadBack found j k steps
    → IsWayAt found j (reverse steps)
read_whole found j k x steps at none back es e read here =
    let (y, place, same) = entry_of found es read k x at in
    sym (back es e y read here place ∙ ap (λ (w : List WalkStep). w ++ reverse steps) (read.root k x y at place none))
