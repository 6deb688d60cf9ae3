-- The actors that are read of a written table, with their ports.
use Rattle.std.proofs.Common.{◌≡◌, ◌≢◌, ℕ, zero, suc, ◌+◌, ◌*◌, ◌<◌, ◌≤◌, Bool, true, false, cond, ◌==◌, List, [], ◌∷◌, ◌++◌, length, get_or, Some, inl, inr, refl, sym, ap, ◌∙◌, subst, arith}
use Rattle.std.specs.Prelude.{codes}
use Rattle.std.proofs.lemmas.Bool.{eqb-true, ne_eqb, cases_Bool}
use Rattle.std.proofs.lemmas.Fmt.{decimal_injective, length-decimal-le}
use Rattle.std.proofs.lemmas.List.Sums.{sum_by-cons}
use Rattle.sd_base.specs.declared.tables.Kind.{Kind}
use Rattle.sd_base.specs.declared.tables.Kind.TheVariants.{Sdf}
use Rattle.sd_base.specs.declared.tables.ActorRow.{ActorRow}
use Rattle.sd_base.specs.declared.tables.ChannelRow.{ChannelRow}
use Rattle.sd_base.proofs.ByteTestsDecide.{same_bytes, bytes_differ}
use Rattle.file_text.specs.Node.{Node}
use Rattle.file_text.specs.Grammar.{Each}
use Rattle.file_text.proofs.DistinctNamesStay.{each-append}
use Rattle.graph_reader.specs.declared.actors.Direction.{Direction as ReadDirection}
use Rattle.graph_reader.specs.declared.actors.Direction.TheVariants as read
use Rattle.graph_reader.specs.declared.actors.Port.{Port}
use Rattle.graph_reader.specs.declared.actors.Actor.{Actor}
use Rattle.graph_reader.specs.declared.channels.End.{End}
use Rattle.graph_reader.specs.declared.channels.Channel.{Channel}
use Rattle.graph_reader.specs.Field.{word_of}
use Rattle.graph_reader.specs.TreeSteps
use Rattle.graph_reader.specs.Sections.{numbered, port_count}
use Rattle.graph_reader.specs.Spelled.{Pairwise, EachTwo, ArePhased, IsPort, IsActor}
use Rattle.gen_graph.specs.declared.direction.Direction.{Direction}
use Rattle.gen_graph.specs.declared.direction.Direction.TheVariants.{Out, In}
use Rattle.gen_graph.specs.GraphTrees.{port_name, port_node, ports_on, ports_from, actor_node, actor_nodes, no_actor, numbers_text}
use Rattle.graph_reader.specs.WritableNames.{IsWritableName}
use Rattle.graph_reader.proofs.ElementPlaces.{Each-weaker}
use Rattle.graph_reader.proofs.ReadTreesAreSpelled.{PortsDiffer}
use Rattle.gen_graph.proofs.TreeTexts.{AreSmall}
use Rattle.gen_graph.proofs.NumbersBack.{spelled_back}
use Rattle.gen_graph.proofs.ElementsAreFound.{IsCalled, kept, children_are, pair_both, pair_perhaps, each_perhaps, two_both, two_perhaps}

-- ---- what is read

abbrev pub as_read : Direction → ReadDirection
as_read Out = read.Out
as_read In = read.In

abbrev pub port_read : Direction → ℕ → List ℕ → Port
port_read d i rates = record { name = port_name d i; direction = as_read d; rates = rates }

abbrev pub ports_at : ℕ → ℕ → ChannelRow → List Port
ports_at a i c = cond (c.source == a) (port_read Out i c.made ∷ []) [] ++ cond (c.target == a) (port_read In i c.taken ∷ []) []

abbrev pub ports_read : ℕ → ℕ → List ChannelRow → List Port
ports_read a i [] = []
ports_read a i (c ∷ cs) = ports_at a i c ++ ports_read a (i + 1) cs

abbrev pub actor_read : List ChannelRow → ℕ → ActorRow → Actor
actor_read cs a row = record { name = row.name; ports = ports_read a 0 cs }

abbrev pub actors_read : List ChannelRow → ℕ → List ActorRow → List Actor
actors_read cs a [] = []
actors_read cs a (row ∷ rows) = actor_read cs a row ∷ actors_read cs (a + 1) rows

abbrev pub end_read : Direction → ℕ → ℕ → List ℕ → End
end_read d i a rates = record { actor = a; port = port_name d i; rates = rates }

abbrev pub channel_read : ℕ → ChannelRow → Channel
channel_read i c = record { name = c.name; source = end_read Out i c.source c.made; target = end_read In i c.target c.taken; tokens = c.tokens }

abbrev pub channels_read : ℕ → List ChannelRow → List Channel
channels_read i [] = []
channels_read i (c ∷ cs) = channel_read i c ∷ channels_read (i + 1) cs

-- ---- names of ports

name_some : (d : Direction) (i : ℕ) → 1 ≤ length (port_name d i)
unfolding port_name
name_some Out i = omega arith
name_some In i = omega arith

name_short : (d : Direction) (i : ℕ) → i < 256 → length (port_name d i) ≤ 128
unfolding port_name
name_short Out i lt = let few = length-decimal-le 3 i (omega arith) (omega arith) (omega arith) in omega arith
name_short In i lt = let few = length-decimal-le 3 i (omega arith) (omega arith) (omega arith) in omega arith

first_of : List ℕ → ℕ
first_of [] = 0
first_of (b ∷ bs) = b

behind : List ℕ → List ℕ
behind [] = []
behind (b ∷ bs) = bs

pub same_place : (d e : Direction) (i j : ℕ) → i < 256 → j < 256 → port_name d i ≡ port_name e j → (d ≡ e) × (i ≡ j)
unfolding port_name first_of behind
same_place Out Out i j lt few same = (refl, decimal_injective i j (omega arith) (omega arith) (ap behind same))
same_place In In i j lt few same = (refl, decimal_injective i j (omega arith) (omega arith) (ap behind same))
same_place Out In i j lt few same = let first : ◌≡◌ {A = ℕ} 111 105 = ap first_of same in absurd (omega (arith, first))
same_place In Out i j lt few same = let first : ◌≡◌ {A = ℕ} 105 111 = ap first_of same in absurd (omega (arith, first))

-- a port is that of a channel from number i on
pub record IsFrom (i : ℕ) (p : Port) : Type 0 where
  pub direction : Direction
  pub number : ℕ
  pub from : i ≤ number
  pub few : number < 256
  pub name : p.name ≡ port_name direction number

ports_at_from : (a i : ℕ) (c : ChannelRow) → i < 256 → Each (IsFrom i) (ports_at a i c)
ports_at_from a i c lt =
    each-append (IsFrom i) _ _ (each_perhaps (IsFrom i) (c.source == a) (port_read Out i c.made) (λ e. record { direction = Out; number = i; from = omega arith; few = lt; name = refl }))
    (each_perhaps (IsFrom i) (c.target == a) (port_read In i c.taken) (λ e. record { direction = In; number = i; from = omega arith; few = lt; name = refl }))

ports_from_on : (a i : ℕ) (cs : List ChannelRow) → i + length cs ≤ 256 → Each (IsFrom i) (ports_read a i cs)
ports_from_on a i [] few = tt
ports_from_on a i (c ∷ cs) few =
    each-append (IsFrom i) (ports_at a i c) (ports_read a (i + 1) cs) (ports_at_from a i c (omega arith))
    (Each-weaker (IsFrom (i + 1)) (IsFrom i) (ports_read a (i + 1) cs) (ports_from_on a (i + 1) cs (omega arith)) (λ p is. record { direction = is.direction; number = is.number; from = omega (arith, is.from); few = is.few; name = is.name }))

later_differ : (d : Direction) (i : ℕ) (rates : List ℕ) → i < 256 → (ps : List Port) → Each (IsFrom (i + 1)) ps → Each (PortsDiffer (port_read d i rates)) ps
later_differ d i rates lt [] are = tt
later_differ d i rates lt (p ∷ ps) are =
    ((λ e. let same = same_place d are.0.direction i are.0.number lt are.0.few (e ∙ are.0.name) in omega (arith, same.1, are.0.from)), later_differ d i rates lt ps are.1)

ports_at_differ : (a i : ℕ) (c : ChannelRow) → i < 256 → EachTwo PortsDiffer (ports_at a i c)
ports_at_differ a i c lt =
    two_both PortsDiffer _ _ (two_perhaps PortsDiffer (c.source == a) (port_read Out i c.made)) (two_perhaps PortsDiffer (c.target == a) (port_read In i c.taken))
    (each_perhaps (λ p. Each (PortsDiffer p) (cond (c.target == a) (port_read In i c.taken ∷ []) [])) (c.source == a) (port_read Out i c.made) (λ e.
    each_perhaps (PortsDiffer (port_read Out i c.made)) (c.target == a) (port_read In i c.taken) (λ f same. let no = same_place Out In i i lt lt same in absurd (cc (no.0)))))

pub ports_differ : (a i : ℕ) (cs : List ChannelRow) → i + length cs ≤ 256 → EachTwo PortsDiffer (ports_read a i cs)
ports_differ a i [] few = tt
ports_differ a i (c ∷ cs) few =
    let later = ports_from_on a (i + 1) cs (omega arith) in
    two_both PortsDiffer (ports_at a i c) (ports_read a (i + 1) cs) (ports_at_differ a i c (omega arith)) (ports_differ a (i + 1) cs (omega arith))
    (each-append (λ p. Each (PortsDiffer p) (ports_read a (i + 1) cs)) _ _
    (each_perhaps (λ p. Each (PortsDiffer p) (ports_read a (i + 1) cs)) (c.source == a) (port_read Out i c.made) (λ e. later_differ Out i c.made (omega arith) _ later))
    (each_perhaps (λ p. Each (PortsDiffer p) (ports_read a (i + 1) cs)) (c.target == a) (port_read In i c.taken) (λ e. later_differ In i c.taken (omega arith) _ later)))

-- ---- ports

-- rates that are written are read
pub record AreRates (k : Kind) (rates : List ℕ) : Type 0 where
  pub some : 1 ≤ length rates
  pub one : k ≡ Sdf → length rates ≡ 1
  pub small : AreSmall rates
  pub phased : ArePhased 0 1000000 rates

pub record IsRated (k : Kind) (c : ChannelRow) : Type 0 where
  pub made : AreRates k c.made
  pub taken : AreRates k c.taken

port_back : (k : Kind) (d : Direction) (i : ℕ) (rates : List ℕ) → i < 256 → AreRates k rates → IsPort k (port_node d i rates) (port_read d i rates)
unfolding port_node TreeSteps.attribute word_of
port_back k Out i rates lt are = record {
  name = record { has = refl; some = name_some Out i; short = name_short Out i lt };
  direction = refl;
  rates = (numbers_text rates, refl, spelled_back k rates are.some are.one are.small, are.phased);
}
port_back k In i rates lt are = record {
  name = record { has = refl; some = name_some In i; short = name_short In i lt };
  direction = refl;
  rates = (numbers_text rates, refl, spelled_back k rates are.some are.one are.small, are.phased);
}

ports_back : (k : Kind) (a i : ℕ) (cs : List ChannelRow) → i + length cs ≤ 256 → Each (IsRated k) cs → Pairwise (IsPort k) (ports_from a i cs) (ports_read a i cs)
unfolding ports_on
ports_back k a i [] few are = tt
ports_back k a i (c ∷ cs) few are =
    pair_both (IsPort k) (ports_on a i c) (ports_from a (i + 1) cs) (ports_at a i c) (ports_read a (i + 1) cs)
    (pair_both (IsPort k) (cond (c.source == a) (port_node Out i c.made ∷ []) []) (cond (c.target == a) (port_node In i c.taken ∷ []) []) (cond (c.source == a) (port_read Out i c.made ∷ []) []) (cond (c.target == a) (port_read In i c.taken ∷ []) [])
    (pair_perhaps (IsPort k) (c.source == a) (port_node Out i c.made) (port_read Out i c.made) (λ e. port_back k Out i c.made (omega arith) are.0.made))
    (pair_perhaps (IsPort k) (c.target == a) (port_node In i c.taken) (port_read In i c.taken) (λ e. port_back k In i c.taken (omega arith) are.0.taken)))
    (ports_back k a (i + 1) cs (omega arith) are.1)

ports_called : (a i : ℕ) (cs : List ChannelRow) → Each (IsCalled (codes "port") true) (ports_from a i cs)
unfolding ports_on port_node
ports_called a i [] = tt
ports_called a i (c ∷ cs) =
    each-append (IsCalled (codes "port") true) _ _
    (each-append (IsCalled (codes "port") true) _ _ (each_perhaps (IsCalled (codes "port") true) (c.source == a) (port_node Out i c.made) (λ e. refl)) (each_perhaps (IsCalled (codes "port") true) (c.target == a) (port_node In i c.taken) (λ e. refl)))
    (ports_called a (i + 1) cs)

-- ---- actors

pub actor_back : (k : Kind) (cs : List ChannelRow) (a : ℕ) (row : ActorRow) → length cs ≤ 256 → Each (IsRated k) cs → IsWritableName row.name → IsActor k (actor_node cs a row) (actor_read cs a row)
unfolding actor_node TreeSteps.attribute word_of
actor_back k cs a row few are name = record {
  name = record { has = refl; some = name.some; short = name.short };
  ports = subst (λ (es : List Node). Pairwise (IsPort k) es (ports_read a 0 cs)) (sym (children_are (codes "port") (codes "actor") _ (ports_from a 0 cs) ∙ kept (codes "port") (ports_from a 0 cs) (ports_called a 0 cs))) (ports_back k a 0 cs (omega (arith, few)) are);
  apart = ports_differ a 0 cs (omega (arith, few));
}

pub actors_back : (k : Kind) (cs : List ChannelRow) (a : ℕ) (rows : List ActorRow) → length cs ≤ 256 → Each (IsRated k) cs → Each (λ (r : ActorRow). IsWritableName r.name) rows
    → Pairwise (IsActor k) (actor_nodes cs a rows) (actors_read cs a rows)
actors_back k cs a [] few are names = tt
actors_back k cs a (row ∷ rows) few are names = (actor_back k cs a row few are names.0, actors_back k cs (a + 1) rows few are names.1)

-- a fact on names holds of the actors that are read
pub names_read : (P : List ℕ → Type 0) (cs : List ChannelRow) (a : ℕ) (rows : List ActorRow) → Each (λ (r : ActorRow). P r.name) rows → Each (λ (x : Actor). P x.name) (actors_read cs a rows)
names_read P cs a [] each = tt
names_read P cs a (row ∷ rows) each = (each.0, names_read P cs (a + 1) rows each.1)

pub two_names_read : (cs : List ChannelRow) (a : ℕ) (rows : List ActorRow) → EachTwo (λ (r s : ActorRow). r.name ≢ s.name) rows → EachTwo (λ (x y : Actor). x.name ≢ y.name) (actors_read cs a rows)
two_names_read cs a [] two = tt
two_names_read cs a (row ∷ rows) two = (names_read (λ name. row.name ≢ name) cs (a + 1) rows two.0, two_names_read cs (a + 1) rows two.1)

pub actors_long : (cs : List ChannelRow) (a : ℕ) (rows : List ActorRow) → length (actors_read cs a rows) ≡ length rows
actors_long cs a [] = refl
actors_long cs a (row ∷ rows) = ap suc (actors_long cs (a + 1) rows)

-- the number of an actor
pub numbered_back : (cs : List ChannelRow) (a : ℕ) (rows : List ActorRow) (s : ℕ) → s < length rows → EachTwo (λ (r t : ActorRow). r.name ≢ t.name) rows
    → numbered a (get_or rows s no_actor).name (actors_read cs a rows) ≡ Some (a + s, actor_read cs (a + s) (get_or rows s no_actor))
numbered_back cs a [] s lt two = absurd (omega arith)
numbered_back cs a (row ∷ rows) zero lt two =
    let place : a ≡ a + 0 = omega arith in
    rw (same_bytes row.name) (ap (λ n. Some (n, actor_read cs n row)) place)
numbered_back cs a (row ∷ rows) (suc s) lt two =
    let place : a + 1 + s ≡ a + suc s = omega arith in
    let other = bytes_differ row.name (get_or rows s no_actor).name (each_at (λ (r : ActorRow). row.name ≢ r.name) rows s two.0 (omega arith)) in
    rw other (numbered_back cs (a + 1) rows s (omega arith) two.1 ∙ ap (λ n. Some (n, actor_read cs n (get_or rows s no_actor))) place)
  where
    each_at : (P : ActorRow → Type 0) (rows : List ActorRow) (s : ℕ) → Each P rows → s < length rows → P (get_or rows s no_actor)
    each_at P [] s each lt = absurd (omega arith)
    each_at P (row ∷ rows) zero each lt = each.0
    each_at P (row ∷ rows) (suc s) each lt = each_at P rows s each.1 (omega arith)

-- ---- how many ports

-- how often an actor among n from number a on is number s
abbrev hits : ℕ → ℕ → ℕ → ℕ
hits s a zero = 0
hits s a (suc n) = cond (s == a) 1 0 + hits s (a + 1) n

no_hit : (s a n : ℕ) → s < a → hits s a n ≡ 0
no_hit s a zero lt = refl
no_hit s a (suc n) lt = let rest = no_hit s (a + 1) n (omega arith) in rw (ne_eqb s a (λ e. omega arith)) (omega (arith, rest))

one_hit : (s a n : ℕ) → hits s a n ≤ 1
one_hit s a zero = omega arith
one_hit s a (suc n) = elim (cases_Bool (s == a)) [
  | inl e ↦ let same = eqb-true s a e in let none = no_hit s (a + 1) n (omega arith) in rw e (omega (arith, none))
  | inr e ↦ let rest = one_hit s (a + 1) n in rw e (omega (arith, rest))
]

-- the ports on channels from number i on, of actors from number a on
abbrev ports_of_all : ℕ → ℕ → List ChannelRow → List ActorRow → ℕ
ports_of_all a i cs [] = 0
ports_of_all a i cs (row ∷ rows) = length (ports_read a i cs) + ports_of_all (a + 1) i cs rows

length_both : {X : Type 0} (xs ys : List X) → length (xs ++ ys) ≡ length xs + length ys
length_both [] ys = omega arith
length_both (x ∷ xs) ys = let rest = length_both xs ys in omega (arith, rest)

length_perhaps : {X : Type 0} (b : Bool) (x : X) → length (cond b (x ∷ []) []) ≡ cond b 1 0
length_perhaps true x = refl
length_perhaps false x = refl

on_channel : (a i : ℕ) (c : ChannelRow) (cs : List ChannelRow) → length (ports_read a i (c ∷ cs)) ≡ cond (c.source == a) 1 0 + cond (c.target == a) 1 0 + length (ports_read a (i + 1) cs)
on_channel a i c cs =
    let whole = length_both (ports_at a i c) (ports_read a (i + 1) cs) in
    let both = length_both (cond (c.source == a) (port_read Out i c.made ∷ []) []) (cond (c.target == a) (port_read In i c.taken ∷ []) []) in
    let first = length_perhaps (c.source == a) (port_read Out i c.made) in
    let second = length_perhaps (c.target == a) (port_read In i c.taken) in
    omega (arith, whole, both, first, second)

split_ports : (a i : ℕ) (c : ChannelRow) (cs : List ChannelRow) (rows : List ActorRow)
    → ports_of_all a i (c ∷ cs) rows ≡ hits c.source a (length rows) + hits c.target a (length rows) + ports_of_all a (i + 1) cs rows
split_ports a i c cs [] = omega arith
split_ports a i c cs (row ∷ rows) = let here = on_channel a i c cs in let rest = split_ports (a + 1) i c cs rows in omega (arith, here, rest)

none_of_all : (a i : ℕ) (rows : List ActorRow) → ports_of_all a i [] rows ≡ 0
none_of_all a i [] = refl
none_of_all a i (row ∷ rows) = let rest = none_of_all (a + 1) i rows in omega (arith, rest)

all_ports_few : (a i : ℕ) (cs : List ChannelRow) (rows : List ActorRow) → ports_of_all a i cs rows ≤ 2 * length cs
all_ports_few a i [] rows = let none = none_of_all a i rows in omega (arith, none)
all_ports_few a i (c ∷ cs) rows =
    let split = split_ports a i c cs rows in
    let first = one_hit c.source a (length rows) in
    let second = one_hit c.target a (length rows) in
    let rest = all_ports_few a (i + 1) cs rows in
    omega (arith, split, first, second, rest)

count_ports : (cs : List ChannelRow) (a : ℕ) (rows : List ActorRow) → port_count (actors_read cs a rows) ≡ ports_of_all a 0 cs rows
count_ports cs a [] = refl
count_ports cs a (row ∷ rows) =
    let first = sum_by-cons (λ (x : Actor). length x.ports) (actor_read cs a row) (actors_read cs (a + 1) rows) in
    let rest = count_ports cs (a + 1) rows in
    omega (arith, first, rest)

pub few_ports : (cs : List ChannelRow) (rows : List ActorRow) → length cs ≤ 256 → port_count (actors_read cs 0 rows) ≤ 1024
few_ports cs rows few = let count = count_ports cs 0 rows in let all = all_ports_few 0 0 cs rows in omega (arith, count, all)
