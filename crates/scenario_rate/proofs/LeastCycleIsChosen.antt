-- Root by root, the cycle chosen has the least node, then the fewest edges, then the least nodes on the way.
use Rattle.std.proofs.Common.{◌≡◌, ℕ, ◌+◌, ◌≤◌, ◌<◌, List, length, Option, sym, subst, ◌∙◌, ⊎_elim, arith}
use Rattle.std.proofs.lemmas.Bool.{cases_lt}
use Rattle.automaton.specs.declared.graph.Edge.{Edge}
use Rattle.automaton.specs.SoundGraphs.{AreInside}
use Rattle.scenario_rate.specs.declared.by_node.End.TheVariants.{From, To}
use Rattle.scenario_rate.specs.inside.ByNode.{list_at, AreByNode}
use Rattle.scenario_rate.specs.inside.Choosing.{IsWalkAmong, IsChosenOf, IsDistance, NoneBack, IsFewest, IsOnWay, IsLeastWay}
use Rattle.scenario_rate.proofs.NodesListEdges.{listed_as, listed_long}
use Rattle.scenario_rate.proofs.LeastWaysExtend.{none_short, on_way_back}
use Rattle.scenario_rate.proofs.ClosedWalksShorten.{shorten}

-- no closed walk leads through a node before the root
abbrev pub NoneBefore : List Edge → List ℕ → ℕ → Type 0
NoneBefore es ts root = (v : ℕ) → v < root → (ks : List ℕ) → 1 ≤ length ks → IsWalkAmong es ts v ks v → ⊥

pub none_more : (es : List Edge) (ts : List ℕ) (lists : List (List ℕ)) (nodes root : ℕ) (steps : List (Option ℕ)) → AreInside es nodes → AreByNode From es ts nodes lists → root < nodes → IsDistance es ts nodes root steps → NoneBack es (list_at lists root) steps (length (list_at lists root)) → NoneBefore es ts root → NoneBefore es ts (root + 1)
none_more es ts lists nodes root steps inside listed below distance none before v less ks some walk = ⊎_elim
    (λ (old : v < root). before v old ks some walk)
    (λ (last : root ≤ v).
    let same : v ≡ root = omega arith in
    let here : IsWalkAmong es ts root ks root = subst (λ (n : ℕ). IsWalkAmong es ts n ks n) same walk in
    let s = shorten es ts nodes inside (length ks) root ks (omega arith) below some here in
    none_short es ts lists steps nodes root listed distance none s.walk s.some (let h : length s.walk ≤ nodes = s.short in omega arith) s.closed)
    (cases_lt v root)

pub chosen_is : (es : List Edge) (ts : List ℕ) (lists : List (List ℕ)) (nodes root r : ℕ) (steps : List (Option ℕ)) (ks : List ℕ) → AreByNode From es ts nodes lists → IsDistance es ts nodes root steps → IsFewest es (list_at lists root) steps (length (list_at lists root)) r → NoneBefore es ts root
    → IsLeastWay es ts root root r ks → IsChosenOf es ts ks
chosen_is es ts lists nodes root r steps ks listed distance few before way =
    let on : IsOnWay es ts steps nodes root root r = on_way_back es ts lists steps nodes root listed distance r few in
    let long : length ks ≡ r = way.long in record {
      node = root;
      closed = way.walk;
      some = (let c : r ≡ few.steps_there + 1 = few.count in omega arith);
      least_node = λ v others some walk. ⊎_elim (λ (h : v < root). absurd (before v h others some walk)) (λ (h : root ≤ v). h) (cases_lt v root);
      fewest = λ others some walk. (let h : r ≤ length others = on.fewest others some walk in omega arith);
      least = λ others same walk. way.least others (same ∙ long) walk;
    }

-- ---- the same of the lists and the steps as they are read

module _ (es : List Edge) (ts : List ℕ) (nodes root : ℕ) (ins into outs out_of : List (List ℕ)) (found steps : List (Option ℕ)) (into_is : into ≡ ins) (out_is : out_of ≡ outs) (steps_is : steps ≡ found)
    (by_end : AreByNode To es ts nodes ins) (by_start : AreByNode From es ts nodes outs) (reached : (list : List ℕ) → AreByNode To es list (length into) into → IsDistance es list (length into) root found) where
  pub distance_read : IsDistance es ts nodes root steps
  distance_read =
      subst (λ (n : ℕ). IsDistance es ts n root steps) (listed_long To es ts nodes ins into into_is by_end)
      (subst (IsDistance es ts (length into) root) (sym steps_is) (reached ts (listed_as To es ts nodes ins into into_is by_end)))

  pub steps_long : length steps ≡ nodes
  steps_long = distance_read.long

  pub lists_read : AreByNode From es ts nodes out_of
  lists_read = subst (AreByNode From es ts nodes) (sym out_is) by_start

  module _ (list : List ℕ) (list_is : list ≡ list_at out_of root) where
    pub none_read : AreInside es nodes → root < nodes → NoneBack es list steps (length list) → NoneBefore es ts root → NoneBefore es ts (root + 1)
    none_read inside below none before =
        none_more es ts out_of nodes root steps inside lists_read below distance_read (subst (λ (l : List ℕ). NoneBack es l steps (length l)) list_is none) before

    module _ (r : ℕ) (few : IsFewest es list steps (length list) r) where
      few_read : IsFewest es (list_at out_of root) steps (length (list_at out_of root)) r
      few_read = subst (λ (l : List ℕ). IsFewest es l steps (length l) r) list_is few

      pub way_read : IsOnWay es ts steps (length steps) root root r
      way_read = subst (λ (n : ℕ). IsOnWay es ts steps n root root r) (sym steps_long) (on_way_back es ts out_of steps nodes root lists_read distance_read r few_read)

      pub lists_long : AreByNode From es ts (length steps) out_of
      lists_long = subst (λ (n : ℕ). AreByNode From es ts n out_of) (sym steps_long) lists_read

      pub chosen_read : (ks : List ℕ) → NoneBefore es ts root → ((all : List ℕ) (top : ℕ) → AreByNode From es all (length steps) out_of → IsOnWay es all steps (length steps) top root r → IsLeastWay es all top root r ks) → IsChosenOf es ts ks
      chosen_read ks before least = chosen_is es ts out_of nodes root r steps ks lists_read distance_read few_read before (least ts root lists_long way_read)
