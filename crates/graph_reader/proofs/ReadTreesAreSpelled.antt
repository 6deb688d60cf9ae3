-- What is read of a tree is what the tree spells.
use Rattle.std.proofs.Common.{◌≡◌, ◌≢◌, ◌⊎◌, ℕ, ◌+◌, ◌<◌, ◌≤◌, Bool, true, false, cond, nat_lt, nat_le, ◌==◌, ◌||◌, not, List, [], ◌∷◌, ◌++◌, length, map, Option, Some, None, Ok, refl, sym, ap, ◌∙◌, subst, inl, inr, arith}
use Rattle.std.specs.Prelude.{IfOk, IsTrue, codes}
use Rattle.std.specs.List.{list_any, list_all, find}
use Rattle.std.specs.Option.{option_to_list}
use Rattle.std.specs.Str.{bytes_eq}
use Rattle.std.proofs.lemmas.Bool.{cases_lt, ltb-false, eqb-false, eqb-true, leb-true, and_parts, or_cases, not-false}
use Rattle.std.proofs.lemmas.Slice.Eq.{bytes_eq-Decides}
use Rattle.std.proofs.lemmas.List.{length_push}
use Rattle.sd_base.specs.declared.limits.Quantity.TheVariants as quantity
use Rattle.sd_base.specs.declared.tables.Kind.{Kind}
use Rattle.sd_base.specs.declared.tables.Kind.TheVariants.{Sdf, Csdf}
use Rattle.sd_base.specs.declared.tables.GraphFile.{GraphFile}
use Rattle.sd_base.specs.declared.tables.ActorRow.{ActorRow}
use Rattle.sd_base.specs.declared.tables.ChannelRow.{ChannelRow}
use Rattle.sd_base.specs.Tables.{IsTimed}
use Rattle.file_text.specs.Node.{Node, name_of}
use Rattle.file_text.specs.Grammar.{Each}
use Rattle.graph_reader.specs.declared.field.Field.{Field}
use Rattle.graph_reader.specs.declared.field.Field.TheVariants as field
use Rattle.graph_reader.specs.declared.actors.Direction.{Direction}
use Rattle.graph_reader.specs.declared.actors.Direction.TheVariants.{In, Out}
use Rattle.graph_reader.specs.declared.actors.Port.{Port}
use Rattle.graph_reader.specs.declared.actors.Actor.{Actor}
use Rattle.graph_reader.specs.declared.channels.End.{End}
use Rattle.graph_reader.specs.declared.channels.Channel.{Channel}
use Rattle.graph_reader.specs.declared.properties.TimeEntry.{TimeEntry}
use Rattle.graph_reader.specs.declared.properties.SizeEntry.{SizeEntry}
use Rattle.graph_reader.specs.Field.{word_of}
use Rattle.graph_reader.specs.TreeSteps
use Rattle.graph_reader.specs.TreeSteps.{◌>>=◌, file}
use Rattle.graph_reader.specs.NumberTexts
use Rattle.graph_reader.specs.Sections
use Rattle.graph_reader.specs.Spelled
use Rattle.graph_reader.specs.Spelled.{Pairwise, EachTwo, Has, IsNumber, Spells, ArePhased, HasName}
use Rattle.graph_reader.proofs.ReaderSteps.{then, weaker, choice}
use Rattle.graph_reader.proofs.NumberLists.{within, number, found}
use Rattle.graph_reader.proofs.ElementPlaces.{AfterEach, Follows, each-gives, Related, two-from_after, count-from_after, Counted, few-from_counted, Each-from_none, Each-both, differ, port_count-cons, port_count-push}

pub required : (what : Field) (of : List ℕ) (e : Node) → IfOk (TreeSteps.required what of e) (Has what e)
unfolding TreeSteps.required
required what of e =
    let cases : (o : Option (List ℕ)) → IfOk (TreeSteps.present what of o) (λ v. o ≡ Some v) = λ o. elim o as (λ p. IfOk (TreeSteps.present what of p) (λ v. p ≡ Some v)) [ None ↦ tt | Some v ↦ refl ] in
    cases (TreeSteps.attribute (word_of what) e)

-- ---- names

-- a name that may be taken after earlier rows
abbrev pub IsNew : {X : Type 0} → (X → List ℕ) → List X → Node → List ℕ → Type 0
IsNew f earlier e name = HasName e name × Each (λ x. f x ≢ name) earlier

pub new_name : {X : Type 0} (f : X → List ℕ) (of : List ℕ) (earlier : List X) (e : Node) → IfOk (Sections.new_name of (map f earlier) e) (IsNew f earlier e)
unfolding Sections.new_name
new_name f of earlier e =
    then (Has field.Name e) (IsNew f earlier e) (TreeSteps.required field.Name of e) (Sections.tested_name of (map f earlier)) (required field.Name of e) (λ name has.
    choice (IsNew f earlier e) (length name == 0) _ _ (λ h. tt) (λ some_test.
    choice (IsNew f earlier e) (nat_lt 128 (length name)) _ _ (λ h. tt) (λ short_test.
    choice (IsNew f earlier e) (Sections.is_among name (map f earlier)) _ (Ok name) (λ h. tt) (λ none.
    let some : length name ≢ 0 = eqb-false (length name) 0 some_test in
    let short : length name ≤ 128 = ltb-false 128 (length name) short_test in
    (record { has = has; some = omega arith; short = short }, differ f name earlier none)))))

-- a name that is one of the rows, and none of the earlier ones
abbrev IsMention : {X Y : Type 0} → (X → List ℕ) → (Y → List ℕ) → Field → List X → List Y → Node → List ℕ → Type 0
IsMention f g what rows earlier e name = Has what e name × (Each (λ x. f x ≢ name) rows → ⊥) × Each (λ y. g y ≢ name) earlier

is-among-none : {X : Type 0} (f : X → List ℕ) (name : List ℕ) (xs : List X) → Each (λ x. f x ≢ name) xs → Sections.is_among name (map f xs) ≡ true → ⊥
is-among-none f name [] all h = cc
is-among-none f name (x ∷ xs) all h =
    let test = bytes_eq (f x) name in
    let cases : (b : Bool) → test ≡ b → (b || Sections.is_among name (map f xs)) ≡ true → ⊥ = λ b. elim b as (λ v. test ≡ v → (v || Sections.is_among name (map f xs)) ≡ true → ⊥) [
      | true ↦ λ e k. all.0 ((bytes_eq-Decides (f x) name).0 e)
      | false ↦ λ e k. is-among-none f name xs all.1 k
    ] in
    cases test refl h

mention : {X Y : Type 0} (f : X → List ℕ) (g : Y → List ℕ) (what : Field) (of : List ℕ) (rows : List X) (earlier : List Y) (e : Node) → IfOk (Sections.mention what of (map f rows) (map g earlier) e) (IsMention f g what rows earlier e)
unfolding Sections.mention
mention f g what of rows earlier e =
    then (Has what e) (IsMention f g what rows earlier e) (TreeSteps.required what of e) (Sections.tested_mention what (map f rows) (map g earlier)) (required what of e) (λ name has.
    choice (IsMention f g what rows earlier e) (not (Sections.is_among name (map f rows))) _ _ (λ h. tt) (λ known.
    choice (IsMention f g what rows earlier e) (Sections.is_among name (map g earlier)) _ (Ok name) (λ h. tt) (λ none.
    (has, (λ all. is-among-none f name rows all (not-false _ known)), differ g name earlier none))))

-- ---- actors

direction_in : (of word : List ℕ) → IfOk (Sections.direction_in of word) (λ d. word ≡ Spelled.direction_word d)
direction_in of word =
    choice (λ d. word ≡ Spelled.direction_word d) (bytes_eq word (codes "in")) (Ok In) _ (λ h. (bytes_eq-Decides word (codes "in")).0 h) (λ h.
    choice (λ d. word ≡ Spelled.direction_word d) (bytes_eq word (codes "out")) (Ok Out) _ (λ k. (bytes_eq-Decides word (codes "out")).0 k) (λ k. tt))

-- ports of an actor differ, and the ports of the graph are few
abbrev pub PortsDiffer : Port → Port → Type 0
PortsDiffer p q = p.name ≢ q.name

port_of : (kind : Kind) (actor : List ℕ) (before : ℕ) (done : List Port) (e : Node) → IfOk (Sections.port_of kind actor before done e) (λ p. Spelled.IsPort kind e p × Related PortsDiffer (Counted before 1024) done p)
unfolding Sections.port_of
port_of kind actor before done e =
    then (IsNew (λ (p : Port). p.name) done e) _ (Sections.new_name actor (map (λ (p : Port). p.name) done) e) _ (new_name (λ (p : Port). p.name) actor done e) (λ name new.
    then (λ m. (m ≡ before + length done + 1) × (before + length done + 1 ≤ 1024)) _ (NumberTexts.within quantity.Ports 1024 (before + length done + 1)) _ (within quantity.Ports 1024 (before + length done + 1)) (λ count few.
    then (Has field.TypeWord e) _ (TreeSteps.required field.TypeWord actor e) _ (required field.TypeWord actor e) (λ word typed.
    then (λ d. word ≡ Spelled.direction_word d) _ (Sections.direction_in actor word) _ (direction_in actor word) (λ direction word_is.
    then (Has field.Rate e) _ (TreeSteps.required field.Rate actor e) _ (required field.Rate actor e) (λ text has.
    then (λ ns. Spells kind text ns × ArePhased 0 1000000 ns) _ (NumberTexts.numbers kind 0 field.Rate actor quantity.Rate 1000000 text) _ (found kind 0 field.Rate actor quantity.Rate 1000000 text (omega arith)) (λ rates is.
    (record { name = new.0; direction = typed ∙ ap Some word_is; rates = (text, has, is.0, is.1) }, (new.1, few.1))))))))

-- an actor's ports are few after those of the earlier actors
abbrev pub PortsFit : ℕ → List Port → Type 0
PortsFit before ports = (0 < length ports) → before + length ports ≤ 1024

few-from_counted-ports : (before : ℕ) (ports : List Port) → AfterEach (Counted before 1024) [] ports → PortsFit before ports
few-from_counted-ports before [] after some = absurd (omega (arith, some))
few-from_counted-ports before (p ∷ ports) after some =
    let first : before + 0 + 1 ≤ 1024 = after.0 in
    let all = few-from_counted before 1024 [] (p ∷ ports) (omega arith) after in
    omega arith

abbrev pub ActorsDiffer : Actor → Actor → Type 0
ActorsDiffer a b = a.name ≢ b.name

abbrev pub ActorCounted : List Actor → Actor → Type 0
ActorCounted done a = (length done + 1 ≤ 128) × PortsFit (Sections.port_count done) a.ports

actor_of : (kind : Kind) (of : List ℕ) (done : List Actor) (e : Node) → IfOk (Sections.actor_of kind of done e) (λ a. Spelled.IsActor kind e a × Related ActorsDiffer ActorCounted done a)
unfolding Sections.actor_of
actor_of kind of done e =
    then (IsNew (λ (a : Actor). a.name) done e) _ (Sections.new_name of (map (λ (a : Actor). a.name) done) e) _ (new_name (λ (a : Actor). a.name) of done e) (λ name new.
    then (λ m. (m ≡ length done + 1) × (length done + 1 ≤ 128)) _ (NumberTexts.within quantity.Actors 128 (length done + 1)) _ (within quantity.Actors 128 (length done + 1)) (λ count few.
    then (Follows (Spelled.IsPort kind) (Related PortsDiffer (Counted (Sections.port_count done) 1024)) [] (TreeSteps.children (codes "port") e)) _ (TreeSteps.each (Sections.port_of kind name (Sections.port_count done)) [] (TreeSteps.children (codes "port") e)) _
    (each-gives (Spelled.IsPort kind) (Related PortsDiffer (Counted (Sections.port_count done) 1024)) (Sections.port_of kind name (Sections.port_count done)) (port_of kind name (Sections.port_count done)) [] (TreeSteps.children (codes "port") e)) (λ ports f.
    let pairs : Pairwise (Spelled.IsPort kind) (TreeSteps.children (codes "port") e) ports = subst (Pairwise (Spelled.IsPort kind) (TreeSteps.children (codes "port") e)) (sym f.1) f.2 in
    let after : AfterEach (Related PortsDiffer (Counted (Sections.port_count done) 1024)) [] ports = subst (AfterEach (Related PortsDiffer (Counted (Sections.port_count done) 1024)) []) (sym f.1) f.3 in
    let counted = count-from_after PortsDiffer (Counted (Sections.port_count done) 1024) ports after in
    (record { name = new.0; ports = pairs; apart = two-from_after PortsDiffer (Counted (Sections.port_count done) 1024) ports after }, (new.1, (few.1, few-from_counted-ports (Sections.port_count done) ports counted))))))

record AreFew (done actors : List Actor) : Type 0 where
  few : length done + length actors ≤ 128
  few_ports : Sections.port_count done + Sections.port_count actors ≤ 1024

are_few : (done actors : List Actor) → length done ≤ 128 → Sections.port_count done ≤ 1024 → AfterEach ActorCounted done actors → AreFew done actors
are_few done [] few few_ports after = record { few = omega arith; few_ports = omega arith }
are_few done (a ∷ actors) few few_ports after =
    let here : length done + 1 ≤ 128 = after.0.0 in
    let push = length_push done a in
    let count = port_count-push done a in
    let first = port_count-cons a actors in
    let ports : Sections.port_count done + length a.ports ≤ 1024 = elim (cases_lt 0 (length a.ports)) [ inl some ↦ after.0.1 some | inr none ↦ omega arith ] in
    let rest = are_few (done ++ a ∷ []) actors (omega arith) (omega arith) after.1 in
    record { few = omega (arith, rest.few); few_ports = omega (arith, rest.few_ports) }

some_actor : (of : List ℕ) (actors : List Actor) → IfOk (Sections.some_actor of actors) (λ read. (read ≡ actors) × (1 ≤ length actors))
some_actor of [] = tt
some_actor of (a ∷ rest) = (refl, omega arith)

actors_of : (kind : Kind) (of : List ℕ) (section : Node) → IfOk (Sections.actors_of kind of section) (Spelled.AreActors kind section)
unfolding Sections.actors_of
actors_of kind of section =
    let elements = TreeSteps.children (word_of field.Actor) section in
    let C = Related ActorsDiffer ActorCounted in
    then (Follows (Spelled.IsActor kind) C [] elements) (Spelled.AreActors kind section) (TreeSteps.each (Sections.actor_of kind of) [] elements) (Sections.some_actor of) (each-gives (Spelled.IsActor kind) C (Sections.actor_of kind of) (actor_of kind of) [] elements) (λ actors f.
    let pairs : Pairwise (Spelled.IsActor kind) elements actors = subst (Pairwise (Spelled.IsActor kind) elements) (sym f.1) f.2 in
    let after : AfterEach C [] actors = subst (AfterEach C []) (sym f.1) f.3 in
    let few = are_few [] actors (omega arith) (omega arith) (count-from_after ActorsDiffer ActorCounted actors after) in
    weaker (λ read. (read ≡ actors) × (1 ≤ length actors)) (Spelled.AreActors kind section) (Sections.some_actor of actors) (some_actor of actors) (λ read h.
    subst (Spelled.AreActors kind section) (sym h.0) (record {
      rows = pairs;
      apart = two-from_after ActorsDiffer ActorCounted actors after;
      some = h.1;
      few = omega (arith, few.few);
      few_ports = omega (arith, few.few_ports);
    })))

-- ---- channels

pub known : {A : Type 0} (what : Field) (name : List ℕ) (o : Option A) → IfOk (Sections.known what name o) (λ x. o ≡ Some x)
known what name None = tt
known what name (Some x) = refl

end_of : (actors : List Actor) (direction : Direction) (actor_word port_word : Field) (of : List ℕ) (e : Node) → IfOk (Sections.end_of actors direction actor_word port_word of e) (Spelled.IsEnd actors direction actor_word port_word e)
unfolding Sections.end_of
end_of actors direction actor_word port_word of e =
    then (Has actor_word e) _ (TreeSteps.required actor_word of e) _ (required actor_word of e) (λ actor_name has_actor.
    then (λ r. Sections.numbered 0 actor_name actors ≡ Some r) _ (Sections.known actor_word actor_name (Sections.numbered 0 actor_name actors)) _ (known actor_word actor_name (Sections.numbered 0 actor_name actors)) (λ actor is_actor.
    then (Has port_word e) _ (TreeSteps.required port_word of e) _ (required port_word of e) (λ port_name has_port.
    then (λ p. find (Sections.is_port direction port_name) actor.1.ports ≡ Some p) _ (Sections.known port_word port_name (find (Sections.is_port direction port_name) actor.1.ports)) _ (known port_word port_name (find (Sections.is_port direction port_name) actor.1.ports)) (λ port is_port.
    record { actor_name = actor_name; actor = actor.1; port = port; has_actor = has_actor; is_actor = is_actor; has_port = has_port; is_port = is_port; rates = refl }))))

unused : (what : Field) (e : End) (used : Bool) → IfOk (Sections.unused what e used) (λ x. (x ≡ e) × (used ≡ false))
unused what e used = choice (λ x. (x ≡ e) × (used ≡ false)) used _ (Ok e) (λ h. tt) (λ h. (refl, h))

tokens_in : (of : List ℕ) (o : Option (List ℕ)) → IfOk (Sections.tokens_in of o) (Spelled.AreTokens o)
tokens_in of None = refl
tokens_in of (Some text) = number field.InitialTokens of quantity.Tokens 1000000 text

abbrev ChannelCounted : List Channel → Channel → Type 0
ChannelCounted = Counted 0 256

channel_of : (of : List ℕ) (actors : List Actor) (done : List Channel) (e : Node) → IfOk (Sections.channel_of of actors done e) (λ c. Spelled.IsChannel actors e c × Related Spelled.AreApart ChannelCounted done c)
unfolding Sections.channel_of
channel_of of actors done e =
    then (IsNew (λ (c : Channel). c.name) done e) _ (Sections.new_name of (map (λ (c : Channel). c.name) done) e) _ (new_name (λ (c : Channel). c.name) of done e) (λ name new.
    then (λ m. (m ≡ length done + 1) × (length done + 1 ≤ 256)) _ (NumberTexts.within quantity.Channels 256 (length done + 1)) _ (within quantity.Channels 256 (length done + 1)) (λ count few.
    then (Spelled.IsEnd actors Out field.SrcActor field.SrcPort e) _ (Sections.end_of actors Out field.SrcActor field.SrcPort name e) _ (end_of actors Out field.SrcActor field.SrcPort name e) (λ start is_start.
    then (λ x. (x ≡ start) × (list_any (λ (c : Channel). Sections.is_same_port c.source start) done ≡ false)) _ (Sections.unused field.SrcPort start (list_any (λ (c : Channel). Sections.is_same_port c.source start) done)) _ (unused field.SrcPort start (list_any (λ (c : Channel). Sections.is_same_port c.source start) done)) (λ source source_is.
    then (Spelled.IsEnd actors In field.DstActor field.DstPort e) _ (Sections.end_of actors In field.DstActor field.DstPort name e) _ (end_of actors In field.DstActor field.DstPort name e) (λ stop is_stop.
    then (λ x. (x ≡ stop) × (list_any (λ (c : Channel). Sections.is_same_port c.target stop) done ≡ false)) _ (Sections.unused field.DstPort stop (list_any (λ (c : Channel). Sections.is_same_port c.target stop) done)) _ (unused field.DstPort stop (list_any (λ (c : Channel). Sections.is_same_port c.target stop) done)) (λ target target_is.
    then (Spelled.AreTokens (TreeSteps.attribute (word_of field.InitialTokens) e)) _ (Sections.tokens_in name (TreeSteps.attribute (word_of field.InitialTokens) e)) _ (tokens_in name (TreeSteps.attribute (word_of field.InitialTokens) e)) (λ tokens are_tokens.
    let sources : Each (λ (d : Channel). Sections.is_same_port d.source source ≡ false) done = subst (λ x. Each (λ (d : Channel). Sections.is_same_port d.source x ≡ false) done) (sym source_is.0) (Each-from_none (λ (c : Channel). Sections.is_same_port c.source start) done source_is.1) in
    let targets : Each (λ (d : Channel). Sections.is_same_port d.target target ≡ false) done = subst (λ x. Each (λ (d : Channel). Sections.is_same_port d.target x ≡ false) done) (sym target_is.0) (Each-from_none (λ (c : Channel). Sections.is_same_port c.target stop) done target_is.1) in
    let made : Channel = record { name = name; source = source; target = target; tokens = tokens } in
    let named = Each-both (λ (d : Channel). d.name ≢ name) (λ (d : Channel). Sections.is_same_port d.source source ≡ false) (λ (d : Channel). (d.name ≢ name) × (Sections.is_same_port d.source source ≡ false)) done new.1 sources (λ d p q. (p, q)) in
    let apart = Each-both (λ (d : Channel). (d.name ≢ name) × (Sections.is_same_port d.source source ≡ false)) (λ (d : Channel). Sections.is_same_port d.target target ≡ false) (λ d. Spelled.AreApart d made) done named targets (λ d p q. record { names = p.0; sources = p.1; targets = q }) in (
      record {
        name = new.0;
        source = subst (Spelled.IsEnd actors Out field.SrcActor field.SrcPort e) (sym source_is.0) is_start;
        target = subst (Spelled.IsEnd actors In field.DstActor field.DstPort e) (sym target_is.0) is_stop;
        tokens = are_tokens;
      },
      (apart, omega (arith, few.1)),
    ))))))))

channels_of : (of : List ℕ) (actors : List Actor) (section : Node) → IfOk (Sections.channels_of of actors section) (Spelled.AreChannels actors section)
unfolding Sections.channels_of
channels_of of actors section =
    let elements = TreeSteps.children (word_of field.Channel) section in
    let C = Related Spelled.AreApart ChannelCounted in
    weaker (Follows (Spelled.IsChannel actors) C [] elements) (Spelled.AreChannels actors section) (TreeSteps.each (Sections.channel_of of actors) [] elements) (each-gives (Spelled.IsChannel actors) C (Sections.channel_of of actors) (channel_of of actors) [] elements) (λ channels f.
    let pairs : Pairwise (Spelled.IsChannel actors) elements channels = subst (Pairwise (Spelled.IsChannel actors) elements) (sym f.1) f.2 in
    let after : AfterEach C [] channels = subst (AfterEach C []) (sym f.1) f.3 in
    let few = few-from_counted 0 256 [] channels (omega arith) (count-from_after Spelled.AreApart ChannelCounted channels after) in
    record { rows = pairs; apart = two-from_after Spelled.AreApart ChannelCounted channels after; few = omega arith })

-- ---- properties

times_by : (kind : Kind) (of : List ℕ) (o : Option Node) → IfOk (Sections.times_by kind of o) (Spelled.AreGiven kind o)
times_by kind of None = refl
times_by kind of (Some execution) =
    then (Has field.Time execution) _ (TreeSteps.required field.Time of execution) _ (required field.Time of execution) (λ text has.
    weaker (λ ns. Spells kind text ns × ArePhased 1 1000000000 ns) (Spelled.AreGiven kind (Some execution)) (NumberTexts.numbers kind 1 field.Time of quantity.Time 1000000000 text) (found kind 1 field.Time of quantity.Time 1000000000 text (omega arith)) (λ times is.
    (text, has, is.0, is.1)))

times_in : (kind : Kind) (of : List ℕ) (e : Node) → IfOk (Sections.times_in kind of e) (Spelled.AreGiven kind (Sections.execution_of e))
unfolding Sections.times_in
times_in kind of e = times_by kind of (Sections.execution_of e)

abbrev pub NoCount : {X : Type 0} → List X → X → Type 0
NoCount done x = Unit {0}

abbrev pub TimesDiffer : TimeEntry → TimeEntry → Type 0
TimesDiffer s t = s.actor ≢ t.actor

time_entry : (kind : Kind) (of : List ℕ) (actors : List Actor) (done : List TimeEntry) (e : Node) → IfOk (Sections.time_entry kind of actors done e) (λ t. Spelled.IsTimeEntry kind actors e t × Related TimesDiffer NoCount done t)
unfolding Sections.time_entry
time_entry kind of actors done e =
    then (IsMention (λ (a : Actor). a.name) (λ (t : TimeEntry). t.actor) field.Actor actors done e) _ (Sections.mention field.Actor of (map (λ (a : Actor). a.name) actors) (map (λ (t : TimeEntry). t.actor) done) e) _
    (mention (λ (a : Actor). a.name) (λ (t : TimeEntry). t.actor) field.Actor of actors done e) (λ name is.
    then (Spelled.AreGiven kind (Sections.execution_of e)) _ (Sections.times_in kind name e) _ (times_in kind name e) (λ times given.
    (record { actor = is.0; known = is.1; times = given }, (is.2, tt))))

times_of : (kind : Kind) (of : List ℕ) (actors : List Actor) (o : Option Node) → IfOk (Sections.times_of kind of actors o) (Spelled.AreTimes kind actors o)
unfolding Sections.times_of
times_of kind of actors None = refl
times_of kind of actors (Some properties) =
    let elements = TreeSteps.children (codes "actorProperties") properties in
    let C = Related TimesDiffer NoCount in
    weaker (Follows (Spelled.IsTimeEntry kind actors) C [] elements) (Spelled.AreTimes kind actors (Some properties)) (TreeSteps.each (Sections.time_entry kind of actors) [] elements) (each-gives (Spelled.IsTimeEntry kind actors) C (Sections.time_entry kind of actors) (time_entry kind of actors) [] elements) (λ times f.
    let pairs : Pairwise (Spelled.IsTimeEntry kind actors) elements times = subst (Pairwise (Spelled.IsTimeEntry kind actors) elements) (sym f.1) f.2 in
    let after : AfterEach C [] times = subst (AfterEach C []) (sym f.1) f.3 in
    (pairs, two-from_after TimesDiffer NoCount times after))

size_in : (of : List ℕ) (o : Option (List ℕ)) → IfOk (Sections.size_in of o) (Spelled.IsSize o)
size_in of None = refl
size_in of (Some text) = then (IsNumber 1000000 text) _ (NumberTexts.number field.Sz of quantity.Size 1000000 text) _ (number field.Sz of quantity.Size 1000000 text) (λ n is. (n, is, refl))

size_of : (of : List ℕ) (e : Node) → IfOk (Sections.size_of of e) (Spelled.IsSize (Sections.size_text e))
unfolding Sections.size_of
size_of of e = size_in of (Sections.size_text e)

abbrev pub SizesDiffer : SizeEntry → SizeEntry → Type 0
SizesDiffer s t = s.channel ≢ t.channel

size_entry : (of : List ℕ) (channels : List Channel) (done : List SizeEntry) (e : Node) → IfOk (Sections.size_entry of channels done e) (λ s. Spelled.IsSizeEntry channels e s × Related SizesDiffer NoCount done s)
unfolding Sections.size_entry
size_entry of channels done e =
    then (IsMention (λ (c : Channel). c.name) (λ (s : SizeEntry). s.channel) field.Channel channels done e) _ (Sections.mention field.Channel of (map (λ (c : Channel). c.name) channels) (map (λ (s : SizeEntry). s.channel) done) e) _
    (mention (λ (c : Channel). c.name) (λ (s : SizeEntry). s.channel) field.Channel of channels done e) (λ name is.
    then (Spelled.IsSize (Sections.size_text e)) _ (Sections.size_of name e) _ (size_of name e) (λ size sized.
    (record { channel = is.0; known = is.1; size = sized }, (is.2, tt))))

sizes_of : (of : List ℕ) (channels : List Channel) (o : Option Node) → IfOk (Sections.sizes_of of channels o) (Spelled.AreSizes channels o)
unfolding Sections.sizes_of
sizes_of of channels None = refl
sizes_of of channels (Some properties) =
    let elements = TreeSteps.children (codes "channelProperties") properties in
    let C = Related SizesDiffer NoCount in
    weaker (Follows (Spelled.IsSizeEntry channels) C [] elements) (Spelled.AreSizes channels (Some properties)) (TreeSteps.each (Sections.size_entry of channels) [] elements) (each-gives (Spelled.IsSizeEntry channels) C (Sections.size_entry of channels) (size_entry of channels) [] elements) (λ sizes f.
    let pairs : Pairwise (Spelled.IsSizeEntry channels) elements sizes = subst (Pairwise (Spelled.IsSizeEntry channels) elements) (sym f.1) f.2 in
    let after : AfterEach C [] sizes = subst (AfterEach C []) (sym f.1) f.3 in
    (pairs, two-from_after SizesDiffer NoCount sizes after))

-- ---- the table

not_two : (what : Field) (es : List Node) → IfOk (TreeSteps.not_two what es) (λ o. es ≡ option_to_list o)
not_two what [] = refl
not_two what (e ∷ []) = refl
not_two what (e ∷ (f ∷ rest)) = tt

at_most_one : (what : Field) (e : Node) → IfOk (TreeSteps.at_most_one what e) (λ o. TreeSteps.children (word_of what) e ≡ option_to_list o)
unfolding TreeSteps.at_most_one
at_most_one what e = not_two what (TreeSteps.children (word_of what) e)

there : (what : Field) (of : List ℕ) (o : Option Node) → IfOk (TreeSteps.there what of o) (λ e. o ≡ Some e)
there what of None = tt
there what of (Some e) = refl

pub one : (what : Field) (of : List ℕ) (e : Node) → IfOk (TreeSteps.one what of e) (λ c. TreeSteps.children (word_of what) e ≡ c ∷ [])
unfolding TreeSteps.one
one what of e =
    then (λ o. TreeSteps.children (word_of what) e ≡ option_to_list o) (λ c. TreeSteps.children (word_of what) e ≡ c ∷ []) (TreeSteps.at_most_one what e) (TreeSteps.there what of) (at_most_one what e) (λ o is.
    weaker (λ c. o ≡ Some c) (λ c. TreeSteps.children (word_of what) e ≡ c ∷ []) (TreeSteps.there what of o) (there what of o) (λ c found. is ∙ ap option_to_list found))

pub root_of : (e : Node) → IfOk (Sections.root_of e) (λ root. (root ≡ e) × (name_of e ≡ word_of field.Sdf3))
unfolding Sections.root_of
root_of e = choice (λ root. (root ≡ e) × (name_of e ≡ word_of field.Sdf3)) (bytes_eq (name_of e) (word_of field.Sdf3)) (Ok e) _ (λ h. (refl, (bytes_eq-Decides (name_of e) (word_of field.Sdf3)).0 h)) (λ h. tt)

abbrev Names : List ℕ → Kind → Type 0
Names word kind = word ≡ word_of (Sections.section_of kind)

kind_in : (word : List ℕ) → IfOk (Sections.kind_in word) (Names word)
unfolding Sections.kind_in
kind_in word =
    choice (Names word) (bytes_eq word (word_of field.Sdf)) (Ok Sdf) _ (λ h. (bytes_eq-Decides word (word_of field.Sdf)).0 h) (λ h.
    choice (Names word) (bytes_eq word (word_of field.Csdf)) (Ok Csdf) _ (λ k. (bytes_eq-Decides word (word_of field.Csdf)).0 k) (λ k. tt))

-- a test that each list passes
each-fits : (phases : ℕ) (lists : List (List ℕ)) → list_all (Sections.fits_phases phases) lists ≡ true → Each (λ xs. (length xs ≡ phases) ⊎ (length xs ≤ 1)) lists
each-fits phases [] all = tt
each-fits phases (xs ∷ lists) all =
    let parts = and_parts (Sections.fits_phases phases xs) (list_all (Sections.fits_phases phases) lists) all in
    let here : (length xs ≡ phases) ⊎ (length xs ≤ 1) = elim (or_cases (length xs == phases) (nat_le (length xs) 1) parts.0) [ inl same ↦ inl (eqb-true (length xs) phases same) | inr few ↦ inr (leb-true (length xs) 1 few) ] in
    (here, each-fits phases lists parts.1)

-- where no actor is found whose lists differ, each has its lists by phase
pub evens : (times : List TimeEntry) (all actors : List Actor) → IfOk (Sections.even all (find (λ (a : Actor). not (Sections.is_even times a)) actors)) (λ read. (read ≡ all) × Each (Spelled.IsEven times) actors)
evens times all [] = (refl, tt)
evens times all (a ∷ actors) =
    let Q : List Actor → List Actor → Type 0 = λ rows read. (read ≡ all) × Each (Spelled.IsEven times) rows in
    let o = find (λ (b : Actor). not (Sections.is_even times b)) actors in
    let cases : (b : Bool) → Sections.is_even times a ≡ b → IfOk (Sections.even all (cond (not b) (Some a) o)) (Q (a ∷ actors)) =
    λ b. elim b as (λ v. Sections.is_even times a ≡ v → IfOk (Sections.even all (cond (not v) (Some a) o)) (Q (a ∷ actors))) [
      | true ↦ λ h. weaker (Q actors) (Q (a ∷ actors)) (Sections.even all o) (evens times all actors) (λ read rest. (rest.0, (each-fits (Sections.phases_in times a) (Sections.lists_of times a) h, rest.1)))
      | false ↦ λ h. tt
    ] in
    cases (Sections.is_even times a) refl

pub even_phases : (times : List TimeEntry) (actors : List Actor) → IfOk (Sections.even_phases times actors) (λ read. (read ≡ actors) × Each (Spelled.IsEven times) actors)
unfolding Sections.even_phases
even_phases times actors = evens times actors actors

timed : (t : GraphFile) (o : Option ActorRow) → IfOk (Sections.timed t o) (λ u. u ≡ t)
timed t None = refl
timed t (Some a) = tt

all_timed : (need_times : Bool) (t : GraphFile) → IfOk (Sections.all_timed need_times t) (λ u. u ≡ t)
unfolding Sections.all_timed
all_timed need_times t = choice (λ u. u ≡ t) need_times _ (Ok t) (λ h. timed t (find (λ (a : ActorRow). length a.times == 0) t.actors)) (λ h. refl)

table-kind : (kind : Kind) (actors : List Actor) (channels : List Channel) (times : List TimeEntry) (sizes : List SizeEntry) → (Sections.table kind actors channels times sizes).kind ≡ kind
unfolding Sections.table
table-kind kind actors channels times sizes = refl

-- the table that is read is one that the sections spell; that its times are given where they are needed stands beside it
pub graph_in : (kind : Kind) (of : List ℕ) (need_times : Bool) (e : Node) → IfOk (Sections.graph_in kind of need_times e) (λ t. (IsTrue need_times → IsTimed t) → Spelled.IsGraph kind need_times e t)
unfolding Sections.graph_in
graph_in kind of need_times e =
    then (λ c. TreeSteps.children (word_of (Sections.section_of kind)) e ≡ c ∷ []) _ (TreeSteps.one (Sections.section_of kind) of e) _ (one (Sections.section_of kind) of e) (λ section one_section.
    then (Spelled.AreActors kind section) _ (Sections.actors_of kind of section) _ (actors_of kind of section) (λ actors are_actors.
    then (Spelled.AreChannels actors section) _ (Sections.channels_of of actors section) _ (channels_of of actors section) (λ channels are_channels.
    then (λ o. TreeSteps.children (word_of (Sections.properties_of kind)) e ≡ option_to_list o) _ (TreeSteps.at_most_one (Sections.properties_of kind) e) _ (at_most_one (Sections.properties_of kind) e) (λ properties no_second.
    then (Spelled.AreTimes kind actors properties) _ (Sections.times_of kind of actors properties) _ (times_of kind of actors properties) (λ times are_times.
    then (Spelled.AreSizes channels properties) _ (Sections.sizes_of of channels properties) _ (sizes_of of channels properties) (λ sizes are_sizes.
    then (λ read. (read ≡ actors) × Each (Spelled.IsEven times) actors) _ (Sections.even_phases times actors) _ (even_phases times actors) (λ read even.
    weaker (λ u. u ≡ Sections.table kind actors channels times sizes) (λ t. (IsTrue need_times → IsTimed t) → Spelled.IsGraph kind need_times e t) (Sections.all_timed need_times (Sections.table kind actors channels times sizes)) (all_timed need_times (Sections.table kind actors channels times sizes)) (λ t is_table given.
    record {
      section = section;
      properties = properties;
      actors = actors;
      channels = channels;
      times = times;
      sizes = sizes;
      one_section = one_section;
      no_second = no_second;
      are_actors = are_actors;
      are_channels = are_channels;
      are_times = are_times;
      are_sizes = are_sizes;
      even = even.1;
      is_table = is_table;
      timed = given;
    }))))))))

pub graph-kind : (kind : Kind) (need_times : Bool) (e : Node) (t : GraphFile) → Spelled.IsGraph kind need_times e t → t.kind ≡ kind
graph-kind kind need_times e t is = ap (λ (u : GraphFile). u.kind) is.is_table ∙ table-kind kind is.actors is.channels is.times is.sizes

-- channels that are read have names of their own
abbrev pub NamesDiffer : ChannelRow → ChannelRow → Type 0
NamesDiffer c d = c.name ≢ d.name

row-names : (phases : List ℕ) (sizes : List SizeEntry) (c : Channel) (channels : List Channel) → Each (Spelled.AreApart c) channels → Each (NamesDiffer (Sections.channel_row phases sizes c)) (map (Sections.channel_row phases sizes) channels)
row-names phases sizes c [] all = tt
row-names phases sizes c (d ∷ channels) all = (all.0.names, row-names phases sizes c channels all.1)

rows-apart : (phases : List ℕ) (sizes : List SizeEntry) (channels : List Channel) → EachTwo Spelled.AreApart channels → EachTwo NamesDiffer (map (Sections.channel_row phases sizes) channels)
rows-apart phases sizes [] two = tt
rows-apart phases sizes (c ∷ channels) two = (row-names phases sizes c channels two.0, rows-apart phases sizes channels two.1)

table-names : (kind : Kind) (actors : List Actor) (channels : List Channel) (times : List TimeEntry) (sizes : List SizeEntry) → EachTwo Spelled.AreApart channels → EachTwo NamesDiffer (Sections.table kind actors channels times sizes).channels
unfolding Sections.table
table-names kind actors channels times sizes two = rows-apart (map (Sections.phases_in times) actors) sizes channels two

pub names-apart : (kind : Kind) (need_times : Bool) (e : Node) (t : GraphFile) → Spelled.IsGraph kind need_times e t → EachTwo NamesDiffer t.channels
names-apart kind need_times e t is = subst (λ (u : GraphFile). EachTwo NamesDiffer u.channels) (sym is.is_table) (table-names kind is.actors is.channels is.times is.sizes is.are_channels.apart)

pub table_of : (need_times : Bool) (tree : Node) → IfOk (Sections.table_of need_times tree) (λ t. (IsTrue need_times → IsTimed t) → Spelled.IsTable need_times tree t)
unfolding Sections.table_of
table_of need_times tree =
    then (λ root. (root ≡ tree) × (name_of tree ≡ word_of field.Sdf3)) _ (Sections.root_of tree) _ (root_of tree) (λ root is_root.
    then (Has field.TypeWord root) _ (TreeSteps.required field.TypeWord file root) _ (required field.TypeWord file root) (λ word has.
    then (Names word) _ (Sections.kind_in word) _ (kind_in word) (λ kind is_kind.
    then (λ c. TreeSteps.children (word_of field.ApplicationGraph) root ≡ c ∷ []) _ (TreeSteps.one field.ApplicationGraph file root) _ (one field.ApplicationGraph file root) (λ graph one_graph.
    weaker (λ t. (IsTrue need_times → IsTimed t) → Spelled.IsGraph kind need_times graph t) (λ t. (IsTrue need_times → IsTimed t) → Spelled.IsTable need_times tree t) (Sections.graph_in kind file need_times graph) (graph_in kind file need_times graph) (λ t read given.
    let is = read given in
    let k = graph-kind kind need_times graph t is in
    record {
      graph = graph;
      root = is_root.1;
      kind = rw k (subst (λ r. Has field.TypeWord r (word_of (Sections.section_of kind))) is_root.0 (has ∙ ap Some is_kind));
      one_graph = subst (λ r. TreeSteps.children (word_of field.ApplicationGraph) r ≡ graph ∷ []) is_root.0 one_graph;
      is_graph = subst (λ (x : Kind). Spelled.IsGraph x need_times graph t) (sym k) is;
    })))))
