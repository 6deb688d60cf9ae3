-- Sums over whole cycles of phases: a net is balanced by firings where its links are by cycles.
use Rattle.std.proofs.Common.{◌≡◌, ℕ, zero, suc, ◌+◌, ◌*◌, ◌/◌, ◌%◌, ◌<◌, ◌≤◌, Some, List, [], ◌∷◌, length, take, sum, sym, ap, subst, ◌∙◌, arith}
use Rattle.std.specs.Prelude.{slice_get, slice_index_or, slice_index}
use Rattle.std.proofs.Math.Nat.{div-add-mod', mul-mod_left, mul-pos}
use Rattle.std.proofs.lemmas.Nat.{mod-mul-add}
use Rattle.std.proofs.lemmas.List.{take_all}
use Rattle.std.proofs.lemmas.List.Sums.{sum_by_more}
use Rattle.std.proofs.lemmas.Option.{none-some, same_Some, slice_get_within, slice_get-map}
use Rattle.std.specs.Option.{option_map}
use Rattle.sd_base.specs.declared.tables.GraphFile.{GraphFile}
use Rattle.sd_base.specs.declared.tables.ChannelRow.{ChannelRow}
use Rattle.sd_base.specs.Tables.{KeepsRules, ChannelKeepsRules, phases_of}
use Rattle.sd_base.specs.Net.{total, phase_entry, Channel, nowhere, file_channel, file_channels_from, file_channels, Balances}
use Rattle.sd_base.proofs.SumsRepeatByTurns.{total-suc, total-zero}
use Rattle.sd_base.proofs.FileNets.{file-length}
use Rattle.sd_base.proofs.ElementsKeepPlaces.{get-there}
use Rattle.balance.specs.declared.walk.Link.{Link}
use Rattle.balance.specs.Walks.{links_of, link_of}
use Rattle.balance.proofs.WalksJoinAndTurn.{Balanced}
use Rattle.balance.proofs.RulesBoundLinks.{rules_at}

total_front : (xs : List ℕ) (k j : ℕ) → j ≤ length xs → total xs (k * length xs + j) ≡ total xs (k * length xs) + sum (take j xs)
total_front xs k zero le =
    let e : k * length xs + 0 ≡ k * length xs = omega arith in
    ap (total xs) e ∙ (let z : total xs (k * length xs) ≡ total xs (k * length xs) + 0 = omega arith in z)
total_front xs k (suc j) le =
    let e : k * length xs + suc j ≡ suc (k * length xs + j) = omega arith in
    let lt : j < length xs = omega arith in
    let rest : total xs (k * length xs + j) ≡ total xs (k * length xs) + sum (take j xs) = total_front xs k j (omega arith) in
    let place : (k * length xs + j) % length xs ≡ j = mod-mul-add k (length xs) j lt in
    let here : phase_entry xs (k * length xs + j) ≡ slice_index xs j = ap (λ n. slice_index xs n) place in
    let more : sum (take (j + 1) xs) ≡ sum (take j xs) + slice_index xs j = sum_by_more (λ (x : ℕ). x) xs j 0 lt in
    let same : sum (take (suc j) xs) ≡ sum (take (j + 1) xs) = (let e' : suc j ≡ j + 1 = omega arith in ap (λ n. sum (take n xs)) e') in
    ap (total xs) e ∙ total-suc xs (k * length xs + j) ∙ (omega (arith, rest, here, more, same))

-- over k whole cycles
pub total_cycles : (xs : List ℕ) (k : ℕ) → total xs (k * length xs) ≡ k * sum xs
total_cycles xs zero =
    let e : 0 * length xs ≡ 0 = omega arith in
    let z : 0 ≡ 0 * sum xs = omega arith in
    ap (total xs) e ∙ total-zero xs ∙ z
total_cycles xs (suc k) =
    let e : suc k * length xs ≡ k * length xs + length xs = omega arith in
    let front = total_front xs k (length xs) (omega arith) in
    let rest : total xs (k * length xs) ≡ k * sum xs = total_cycles xs k in
    let whole : sum (take (length xs) xs) ≡ sum xs = ap sum (take_all (length xs) xs (omega arith)) in
    ap (total xs) e ∙ front ∙ (omega (arith, rest, whole))

-- a number that leaves no remainder is a whole number of cycles
pub cycles_of : (n f : ℕ) → n % f ≡ 0 → n ≡ (n / f) * f
cycles_of n f e = omega (arith, div-add-mod' n f, e)

total_by : (xs : List ℕ) (f n q : ℕ) → length xs ≡ f → n ≡ q * f → total xs n ≡ q * sum xs
total_by xs f n q size e = ap (total xs) (e ∙ ap (λ t. q * t) (sym size)) ∙ total_cycles xs q

-- the channels of a graph as a net has them
file_at : (i : ℕ) (cs : List ChannelRow) (k : ℕ) (c : ChannelRow) → slice_get cs k ≡ Some c → slice_index_or (file_channels_from i cs) k nowhere ≡ file_channel (i + k) c
file_at i [] k c is = absurd (none-some c is)
file_at i (d ∷ cs) zero c is =
    let e : i ≡ i + 0 = omega arith in
    ap (λ (x : ChannelRow). file_channel i x) (same_Some d c is) ∙ ap (λ n. file_channel n c) e
file_at i (d ∷ cs) (suc k) c is =
    let e : i + 1 + k ≡ i + suc k = omega arith in
    file_at (i + 1) cs k c is ∙ ap (λ n. file_channel n c) e

-- what balances a graph's channels by firings balances its links by cycles
pub balanced_cycles : (g : GraphFile) → KeepsRules g → (w : List ℕ) → Balances (phases_of g) (file_channels g) w
    → Balanced (links_of g) (λ a. slice_index w a / slice_index (phases_of g) a)
balanced_cycles g rules w b k l is =
    let (c, at, same, keeps) = rules_at g rules k l is in
    let lt : k < length (file_channels g) =
    (let e = file-length 0 g.channels in let in_list = slice_get_within g.channels k c at in omega (arith, e, in_list)) in
    let ch : slice_index_or (file_channels g) k nowhere ≡ file_channel (0 + k) c = file_at 0 g.channels k c at in
    let kept : total c.made (slice_index w c.source) ≡ total c.taken (slice_index w c.target) =
    subst (λ (x : Channel). total x.made (slice_index w x.source) ≡ total x.taken (slice_index w x.target)) ch (b.kept k lt) in
    let fs : ℕ = slice_index (phases_of g) c.source in
    let ft : ℕ = slice_index (phases_of g) c.target in
    let left : total c.made (slice_index w c.source) ≡ (slice_index w c.source / fs) * sum c.made =
    total_by c.made fs (slice_index w c.source) (slice_index w c.source / fs) keeps.made.listed (cycles_of (slice_index w c.source) fs (b.cycles c.source keeps.source)) in
    let right : total c.taken (slice_index w c.target) ≡ (slice_index w c.target / ft) * sum c.taken =
    total_by c.taken ft (slice_index w c.target) (slice_index w c.target / ft) keeps.taken.listed (cycles_of (slice_index w c.target) ft (b.cycles c.target keeps.target)) in
    subst (λ (x : Link). (slice_index w x.source / slice_index (phases_of g) x.source) * x.made ≡ (slice_index w x.target / slice_index (phases_of g) x.target) * x.taken)
    (sym same) (sym left ∙ kept ∙ right)

-- and the other way round
pub balances_firings : (g : GraphFile) → KeepsRules g → (q : ℕ → ℕ) (v : List ℕ) → length v ≡ length (phases_of g)
    → ((a : ℕ) → a < length (phases_of g) → 1 ≤ slice_index (phases_of g) a) → ((a : ℕ) → 0 < q a)
    → ((a : ℕ) → a < length (phases_of g) → slice_index v a ≡ q a * slice_index (phases_of g) a)
    → Balanced (links_of g) q → Balances (phases_of g) (file_channels g) v
balances_firings g rules q v size some pos is even = record {
  actors = size;
  fires = λ a lt.
      (let e = is a lt in
      let p : 0 < q a * slice_index (phases_of g) a = mul-pos (pos a) (some a lt) in
      omega (arith, e, p));
  cycles = λ a lt. ap (λ n. n % slice_index (phases_of g) a) (is a lt) ∙ mul-mod_left (q a) (slice_index (phases_of g) a);
  kept = λ k lt.
      (let in_list : k < length g.channels = (let e = file-length 0 g.channels in omega (arith, e, lt)) in
      let (c, at) = get-there g.channels k in_list in
      let link : slice_get (links_of g) k ≡ Some (link_of c) = slice_get-map link_of g.channels k ∙ ap (option_map link_of) at in
      let (c', at', same, keeps') = rules_at g rules k (link_of c) link in
      let ce : c' ≡ c = same_Some c' c (sym at' ∙ at) in
      let keeps : ChannelKeepsRules (phases_of g) c = subst (λ (x : ChannelRow). ChannelKeepsRules (phases_of g) x) ce keeps' in
      let ch : slice_index_or (file_channels g) k nowhere ≡ file_channel (0 + k) c = file_at 0 g.channels k c at in
      let left : total c.made (slice_index v c.source) ≡ q c.source * sum c.made =
      total_by c.made (slice_index (phases_of g) c.source) (slice_index v c.source) (q c.source) keeps.made.listed (is c.source keeps.source) in
      let right : total c.taken (slice_index v c.target) ≡ q c.target * sum c.taken =
      total_by c.taken (slice_index (phases_of g) c.target) (slice_index v c.target) (q c.target) keeps.taken.listed (is c.target keeps.target) in
      let here : total c.made (slice_index v c.source) ≡ total c.taken (slice_index v c.target) = left ∙ even k (link_of c) link ∙ sym right in
      subst (λ (x : Channel). total x.made (slice_index v x.source) ≡ total x.taken (slice_index v x.target)) (sym ch) here);
}
