-- What each step of `repetition` decides.
use Rattle.std.proofs.Common.{◌≡◌, ℕ, ◌<◌, Bool, true, false, List, length, sym, refl, subst, ◌∙◌, arith}
use Rattle.std.proofs.lemmas.Bool.{false≢true}
use Rattle.sd_base.specs.declared.tables.GraphFile.{GraphFile}
use Rattle.balance.specs.declared.walk.WalkStep.{WalkStep}
use Rattle.balance.specs.declared.walk.Link.{Link}
use Rattle.balance.specs.declared.search.Found.{Found}
use Rattle.balance.specs.declared.refusal.BalanceError.{BalanceError}
use Rattle.balance.specs.declared.refusal.BalanceError.TheVariants.{Apart, RatioTooLarge, Unbalanced, RoundTooLarge, NoMemory}
use Rattle.sd_base.specs.Connection.{Meets, graph_ends}
use Rattle.balance.specs.Walks.{links_of, IsLinkWalk}
use Rattle.balance.proofs.StepsMatchEnds.{with_steps, without_steps}
use Rattle.balance.specs.Repetition.{IsConnected, IsApart, IsBalanced, WaysAreWithinLimit, IsRefusal}
use Rattle.balance.specs.inside.Search.{IsSearched, mark_at}
use Rattle.balance.specs.inside.Ratios.{IsLimitRefusal, IsKeptRefusal, IsRoundRefusal}

walk_to : (g : GraphFile) (actors : ℕ) (found : List Found) (seen : List Bool) → IsSearched (links_of g) actors found seen → (b : ℕ) → mark_at seen b ≡ true → Meets (graph_ends g) 0 b
walk_to g actors found seen tree b on = (let (j, x, at, end) = tree.tree.marked b on in without_steps g 0 b x.way (subst (λ n. IsLinkWalk (links_of g) 0 x.way n) end (tree.tree.ways j x at).0))

pub connected_from : (g : GraphFile) (found : List Found) (seen : List Bool) → IsSearched (links_of g) (length g.actors) found seen
    → ((b : ℕ) → b < length seen → mark_at seen b ≡ true) → IsConnected g
connected_from g found seen tree all b lt =
    walk_to g (length g.actors) found seen tree b (all b (let e = tree.tree.size in omega arith))

pub apart_from : (g : GraphFile) (found : List Found) (seen : List Bool) (b : ℕ) → IsSearched (links_of g) (length g.actors) found seen
    → b < length seen → mark_at seen b ≡ false → ((c : ℕ) → c < b → mark_at seen c ≡ true) → IsApart g 0 b
apart_from g found seen b tree lt off before = record {
  first = refl;
  actor = (let e = tree.tree.size in omega arith);
  apart = λ way. (let (ss, walk) = with_steps g 0 way.0 b way.1 in false≢true (sym off ∙ tree.tree.whole ss b walk));
  least = λ c below. walk_to g (length g.actors) found seen tree c (before c below);
}

pub by_limit : (g : GraphFile) → IsConnected g → (e : BalanceError) → IsLimitRefusal (links_of g) e → IsRefusal g e
by_limit g all (RatioTooLarge path) h = record { connected = all; way = h }
by_limit g all NoMemory h = tt
by_limit g all (Apart a b) h = absurd h
by_limit g all (Unbalanced walk num den) h = absurd h
by_limit g all RoundTooLarge h = absurd h

pub by_kept : (g : GraphFile) → IsConnected g → WaysAreWithinLimit (links_of g) → (e : BalanceError) → IsKeptRefusal (links_of g) e → IsRefusal g e
by_kept g all within (Unbalanced walk num den) (c, fails, first, over) =
    record { connected = all; within = within; channel = c; fails = fails; first = first; walk_over = over }
by_kept g all within NoMemory h = tt
by_kept g all within (Apart a b) h = absurd h
by_kept g all within (RatioTooLarge path) h = absurd h
by_kept g all within RoundTooLarge h = absurd h

pub by_round : (g : GraphFile) → IsBalanced g → (e : BalanceError) → IsRoundRefusal g e → IsRefusal g e
by_round g even RoundTooLarge (v, least, above) = record { balanced = even; round = v; least = least; above = above }
by_round g even NoMemory h = tt
by_round g even (Apart a b) h = absurd h
by_round g even (RatioTooLarge path) h = absurd h
by_round g even (Unbalanced walk num den) h = absurd h
