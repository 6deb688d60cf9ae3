-- A table that is read keeps the rules and limits of graph tables.
use Rattle.std.proofs.Common.{◌≡◌, ℕ, zero, suc, ◌+◌, ◌<◌, ◌≤◌, Bool, true, false, cond, ◌==◌, ◌⊎◌, List, [], ◌∷◌, ◌++◌, length, map, get_or, slice_index, Option, Some, None, Result, Ok, Err, refl, sym, ap, ◌∙◌, subst, inl, inr, arith}
use Rattle.std.specs.Prelude.{IfOk, IsTrue, ◌≢◌, codes}
use Rattle.std.specs.List.{All, AllByRecursion, list_any, find}
use Rattle.std.specs.Option.{option_map_or}
use Rattle.std.specs.Str.{bytes_eq}
use Rattle.std.proofs.lemmas.Bool.{eqb-false}
use Rattle.std.proofs.lemmas.List.Elements.{All-from_recursion, recursion_from_All}
use Rattle.std.proofs.lemmas.List.{get_or-map, length-map, length_push}
use Rattle.std.proofs.lemmas.Result.{IfOk-at_ok}
use Rattle.sd_base.specs.declared.limits.Quantity.{Quantity}
use Rattle.sd_base.specs.declared.limits.Quantity.TheVariants as quantity
use Rattle.sd_base.specs.declared.tables.Kind.{Kind}
use Rattle.sd_base.specs.declared.tables.Kind.TheVariants.{Sdf}
use Rattle.sd_base.specs.declared.tables.GraphFile.{GraphFile}
use Rattle.sd_base.specs.declared.tables.ActorRow.{ActorRow}
use Rattle.sd_base.specs.Tables.{ActorKeepsRules, PortKeepsRules, ChannelKeepsRules, KeepsRules, IsTimed}
use Rattle.sd_base.proofs.ElementsKeepPlaces.{push-all}
use Rattle.file_text.specs.Node.{Node}
use Rattle.file_text.specs.Grammar.{Each}
use Rattle.graph_reader.specs.declared.field.Field.{Field}
use Rattle.graph_reader.specs.declared.field.Field.TheVariants as field
use Rattle.graph_reader.specs.declared.error.ReadError.{ReadError}
use Rattle.graph_reader.specs.declared.actors.Direction.{Direction}
use Rattle.graph_reader.specs.declared.actors.Direction.TheVariants.{In, Out}
use Rattle.graph_reader.specs.declared.actors.Port.{Port}
use Rattle.graph_reader.specs.declared.actors.Actor.{Actor}
use Rattle.graph_reader.specs.declared.channels.End.{End}
use Rattle.graph_reader.specs.declared.channels.Channel.{Channel}
use Rattle.graph_reader.specs.declared.properties.TimeEntry.{TimeEntry}
use Rattle.graph_reader.specs.declared.properties.SizeEntry.{SizeEntry}
use Rattle.graph_reader.specs.Field.{word_of}
use Rattle.graph_reader.specs.TreeSteps
use Rattle.graph_reader.specs.TreeSteps.{file, Gives}
use Rattle.graph_reader.specs.NumberTexts
use Rattle.graph_reader.specs.Sections
use Rattle.graph_reader.specs.Spelled.{IsNumber, Spells, ArePhased, IsEven}
use Rattle.graph_reader.specs.inside.Lists.{AreShort, HasShortPorts, JoinActors}
use Rattle.graph_reader.proofs.ReaderSteps.{then, skip, weaker, choice, both}
use Rattle.graph_reader.proofs.NumberLists.{within, found, one_long}
use Rattle.graph_reader.proofs.NumberLists
use Rattle.graph_reader.proofs.PhaseLists.{Fits, longest-some, longest-few, widened-long, widened-all, widened-moves, some-long}
use Rattle.graph_reader.proofs.ReadTreesAreSpelled.{even_phases}

-- what holds of each value that is read holds of all of them
each-all : {A : Type 0} (P : A → Type 0) (read : List A → Node → Result A ReadError) → ((done : List A) (e : Node) → IfOk (read done e) P) → (done : List A) (es : List Node) → AllByRecursion P done → IfOk (TreeSteps.each read done es) (AllByRecursion P)
each-all P read each done [] so_far = so_far
each-all P read each done (e ∷ es) so_far = then P _ (read done e) (λ a. TreeSteps.each read (done ++ a ∷ []) es) (each done e) (λ a p. each-all P read each (done ++ a ∷ []) es (push-all P done a so_far p))

-- where each one is counted, there are no more than the limit
each-few : {A : Type 0} (limit : ℕ) (read : List A → Node → Result A ReadError) → ((done : List A) (e : Node) → IfOk (read done e) (λ _. length done + 1 ≤ limit)) → (done : List A) (es : List Node) → length done ≤ limit → IfOk (TreeSteps.each read done es) (λ xs. length xs ≤ limit)
each-few limit read each done [] so_far = so_far
each-few limit read each done (e ∷ es) so_far = then (λ _. length done + 1 ≤ limit) _ (read done e) (λ a. TreeSteps.each read (done ++ a ∷ []) es) (each done e) (λ a p. each-few limit read each (done ++ a ∷ []) es (omega (arith, length_push done a)))

-- ---- numbers

number : (what : Field) (of : List ℕ) (q : Quantity) (limit : ℕ) (text : List ℕ) → IfOk (NumberTexts.number what of q limit text) (λ n. n ≤ limit)
number what of q limit text = weaker (IsNumber limit text) (λ n. n ≤ limit) (NumberTexts.number what of q limit text) (NumberLists.number what of q limit text) (λ n is. is.1)

abbrev IsFrom1 : ℕ → ℕ → Type 0
IsFrom1 limit n = (1 ≤ n) × (n ≤ limit)

-- a list that is read
record ListFits (kind : Kind) (least limit : ℕ) (xs : List ℕ) : Type 0 where
  are : ArePhased least limit xs
  one : kind ≡ Sdf → length xs ≡ 1

numbers : (kind : Kind) (least : ℕ) (what : Field) (of : List ℕ) (q : Quantity) (limit : ℕ) (text : List ℕ) → least ≤ 1 → IfOk (NumberTexts.numbers kind least what of q limit text) (ListFits kind least limit)
numbers kind least what of q limit text from =
    weaker (λ ns. Spells kind text ns × ArePhased least limit ns) (ListFits kind least limit) (NumberTexts.numbers kind least what of q limit text) (found kind least what of q limit text from) (λ ns is.
    record { are = is.1; one = one_long kind text ns is.0 })

-- ---- actors

abbrev PortFits : Kind → Port → Type 0
PortFits kind p = ListFits kind 0 1000000 p.rates

abbrev ActorFits : Kind → Actor → Type 0
ActorFits kind a = AllByRecursion (PortFits kind) a.ports

port_of : (kind : Kind) (actor : List ℕ) (before : ℕ) (done : List Port) (e : Node) → IfOk (Sections.port_of kind actor before done e) (PortFits kind)
unfolding Sections.port_of
port_of kind actor before done e =
    skip _ (Sections.new_name actor (map (λ (p : Port). p.name) done) e) _ (λ name.
    skip _ (NumberTexts.within quantity.Ports 1024 (before + length done + 1)) _ (λ count.
    skip _ (TreeSteps.required field.TypeWord actor e) _ (λ word.
    skip _ (Sections.direction_in actor word) _ (λ direction.
    skip _ (TreeSteps.required field.Rate actor e) _ (λ text.
    then (ListFits kind 0 1000000) _ (NumberTexts.numbers kind 0 field.Rate actor quantity.Rate 1000000 text) _ (numbers kind 0 field.Rate actor quantity.Rate 1000000 text (omega arith)) (λ rates fits. fits))))))

actor_of : (kind : Kind) (of : List ℕ) (done : List Actor) (e : Node) → IfOk (Sections.actor_of kind of done e) (ActorFits kind)
unfolding Sections.actor_of
actor_of kind of done e =
    skip _ (Sections.new_name of (map (λ (a : Actor). a.name) done) e) _ (λ name.
    skip _ (NumberTexts.within quantity.Actors 128 (length done + 1)) _ (λ count.
    then (AllByRecursion (PortFits kind)) _ (TreeSteps.each (Sections.port_of kind name (Sections.port_count done)) [] (TreeSteps.children (codes "port") e)) _
    (each-all (PortFits kind) (Sections.port_of kind name (Sections.port_count done)) (port_of kind name (Sections.port_count done)) [] (TreeSteps.children (codes "port") e) tt) (λ ports fit. fit)))

actor_counted : (kind : Kind) (of : List ℕ) (done : List Actor) (e : Node) → IfOk (Sections.actor_of kind of done e) (λ _. length done + 1 ≤ 128)
unfolding Sections.actor_of
actor_counted kind of done e =
    skip _ (Sections.new_name of (map (λ (a : Actor). a.name) done) e) _ (λ name.
    then (λ m. (m ≡ length done + 1) × (length done + 1 ≤ 128)) _ (NumberTexts.within quantity.Actors 128 (length done + 1)) _ (within quantity.Actors 128 (length done + 1)) (λ count few.
    skip _ (TreeSteps.each (Sections.port_of kind name (Sections.port_count done)) [] (TreeSteps.children (codes "port") e)) _ (λ ports. few.1)))

record ActorsFit (kind : Kind) (actors : List Actor) : Type 0 where
  some : 1 ≤ length actors
  few : length actors ≤ 128
  fit : AllByRecursion (ActorFits kind) actors

some_actor : (kind : Kind) (of : List ℕ) (actors : List Actor) → length actors ≤ 128 → AllByRecursion (ActorFits kind) actors → IfOk (Sections.some_actor of actors) (ActorsFit kind)
some_actor kind of [] few fit = tt
some_actor kind of (a ∷ rest) few fit = record { some = omega arith; few = few; fit = fit }

actors_of : (kind : Kind) (of : List ℕ) (section : Node) → IfOk (Sections.actors_of kind of section) (ActorsFit kind)
unfolding Sections.actors_of
actors_of kind of section =
    let elements = TreeSteps.children (word_of field.Actor) section in
    let few = each-few 128 (Sections.actor_of kind of) (actor_counted kind of) [] elements (omega arith) in
    let fit = each-all (ActorFits kind) (Sections.actor_of kind of) (actor_of kind of) [] elements tt in
    then (λ actors. (length actors ≤ 128) × AllByRecursion (ActorFits kind) actors) (ActorsFit kind) (TreeSteps.each (Sections.actor_of kind of) [] elements) (Sections.some_actor of)
    (both (λ actors. length actors ≤ 128) (AllByRecursion (ActorFits kind)) (TreeSteps.each (Sections.actor_of kind of) [] elements) few fit)
    (λ actors h. some_actor kind of actors h.0 h.1)

-- ---- channels

nobody : Actor
nobody = record { name = []; ports = [] }

nowhere : Port
nowhere = record { name = []; direction = In; rates = [] }

-- a port that is found has a place
find-place : (test : Port → Bool) (what : Field) (name : List ℕ) (xs : List Port) → IfOk (Sections.known what name (find test xs)) (λ p. (k : ℕ) × (k < length xs) × (get_or xs k nowhere ≡ p))
find-place test what name [] = tt
find-place test what name (x ∷ xs) =
    let Q : List Port → Port → Type 0 = λ ys p. (k : ℕ) × (k < length ys) × (get_or ys k nowhere ≡ p) in
    let later : IfOk (Sections.known what name (find test xs)) (Q (x ∷ xs)) = weaker (Q xs) (Q (x ∷ xs)) (Sections.known what name (find test xs)) (find-place test what name xs) (λ p h. (suc h.0, omega (arith, h.1), h.2)) in
    elim (test x) as (λ b. IfOk (Sections.known what name (cond b (Some x) (find test xs))) (Q (x ∷ xs))) [ true ↦ (0, omega arith, refl) | false ↦ later ]

-- an actor that is found has the place that is its number
numbered-place : (what : Field) (of : List ℕ) (i : ℕ) (name : List ℕ) (actors : List Actor) → IfOk (Sections.known what of (Sections.numbered i name actors)) (λ r. (k : ℕ) × (r.0 ≡ i + k) × (k < length actors) × (get_or actors k nobody ≡ r.1))
numbered-place what of i name [] = tt
numbered-place what of i name (a ∷ rest) =
    let Q : ℕ × Actor → Type 0 = λ r. (k : ℕ) × (r.0 ≡ i + k) × (k < length (a ∷ rest)) × (get_or (a ∷ rest) k nobody ≡ r.1) in
    let later : IfOk (Sections.known what of (Sections.numbered (i + 1) name rest)) Q =
    weaker (λ r. (k : ℕ) × (r.0 ≡ i + 1 + k) × (k < length rest) × (get_or rest k nobody ≡ r.1)) Q (Sections.known what of (Sections.numbered (i + 1) name rest)) (numbered-place what of (i + 1) name rest) (λ r h. (suc h.0, omega (arith, h.1), omega (arith, h.2), h.3)) in
    elim (bytes_eq a.name name) as (λ b. IfOk (Sections.known what of (cond b (Some (i, a)) (Sections.numbered (i + 1) name rest))) Q) [ true ↦ (0, omega arith, omega arith, refl) | false ↦ later ]

-- an end is at a port of one of the actors, with its rates
record EndFits (actors : List Actor) (e : End) : Type 0 where
  actor : e.actor < length actors
  port : ℕ
  place : port < length (get_or actors e.actor nobody).ports
  rates : (get_or (get_or actors e.actor nobody).ports port nowhere).rates ≡ e.rates

end_of : (actors : List Actor) (direction : Direction) (actor_word port_word : Field) (of : List ℕ) (e : Node) → IfOk (Sections.end_of actors direction actor_word port_word of e) (EndFits actors)
unfolding Sections.end_of
end_of actors direction actor_word port_word of e =
    skip _ (TreeSteps.required actor_word of e) _ (λ actor_name.
    then (λ r. (k : ℕ) × (r.0 ≡ 0 + k) × (k < length actors) × (get_or actors k nobody ≡ r.1)) _ (Sections.known actor_word actor_name (Sections.numbered 0 actor_name actors)) _ (numbered-place actor_word actor_name 0 actor_name actors) (λ actor found.
    skip _ (TreeSteps.required port_word of e) _ (λ port_name.
    then (λ p. (k : ℕ) × (k < length actor.1.ports) × (get_or actor.1.ports k nowhere ≡ p)) _ (Sections.known port_word port_name (find (Sections.is_port direction port_name) actor.1.ports)) _ (find-place (Sections.is_port direction port_name) port_word port_name actor.1.ports) (λ port placed.
    let number : found.0 ≡ actor.0 = omega (arith, found.1) in
    let at : get_or actors actor.0 nobody ≡ actor.1 = ap (λ k. get_or actors k nobody) (sym number) ∙ found.3 in
    record {
      actor = omega (arith, found.1, found.2);
      port = placed.0;
      place = rw at placed.1;
      rates = rw at (ap (λ (p : Port). p.rates) placed.2);
    }))))

unused : (what : Field) (e : End) (used : Bool) → IfOk (Sections.unused what e used) (λ x. x ≡ e)
unused what e used = choice (λ x. x ≡ e) used _ (Ok e) (λ h. tt) (λ h. refl)

tokens_in : (of : List ℕ) (o : Option (List ℕ)) → IfOk (Sections.tokens_in of o) (λ n. n ≤ 1000000)
tokens_in of None = omega arith
tokens_in of (Some text) = number field.InitialTokens of quantity.Tokens 1000000 text

record ChannelFits (actors : List Actor) (c : Channel) : Type 0 where
  source : EndFits actors c.source
  target : EndFits actors c.target
  tokens : c.tokens ≤ 1000000

channel_of : (of : List ℕ) (actors : List Actor) (done : List Channel) (e : Node) → IfOk (Sections.channel_of of actors done e) (ChannelFits actors)
unfolding Sections.channel_of
channel_of of actors done e =
    skip _ (Sections.new_name of (map (λ (c : Channel). c.name) done) e) _ (λ name.
    skip _ (NumberTexts.within quantity.Channels 256 (length done + 1)) _ (λ count.
    then (EndFits actors) _ (Sections.end_of actors Out field.SrcActor field.SrcPort name e) _ (end_of actors Out field.SrcActor field.SrcPort name e) (λ start start_fits.
    then (λ x. x ≡ start) _ (Sections.unused field.SrcPort start (list_any (λ (c : Channel). Sections.is_same_port c.source start) done)) _ (unused field.SrcPort start (list_any (λ (c : Channel). Sections.is_same_port c.source start) done)) (λ source source_is.
    then (EndFits actors) _ (Sections.end_of actors In field.DstActor field.DstPort name e) _ (end_of actors In field.DstActor field.DstPort name e) (λ stop stop_fits.
    then (λ x. x ≡ stop) _ (Sections.unused field.DstPort stop (list_any (λ (c : Channel). Sections.is_same_port c.target stop) done)) _ (unused field.DstPort stop (list_any (λ (c : Channel). Sections.is_same_port c.target stop) done)) (λ target target_is.
    then (λ n. n ≤ 1000000) _ (Sections.tokens_in name (TreeSteps.attribute (word_of field.InitialTokens) e)) _ (tokens_in name (TreeSteps.attribute (word_of field.InitialTokens) e)) (λ tokens few.
    record { source = subst (EndFits actors) (sym source_is) start_fits; target = subst (EndFits actors) (sym target_is) stop_fits; tokens = few })))))))

channel_counted : (of : List ℕ) (actors : List Actor) (done : List Channel) (e : Node) → IfOk (Sections.channel_of of actors done e) (λ _. length done + 1 ≤ 256)
unfolding Sections.channel_of
channel_counted of actors done e =
    skip _ (Sections.new_name of (map (λ (c : Channel). c.name) done) e) _ (λ name.
    then (λ m. (m ≡ length done + 1) × (length done + 1 ≤ 256)) _ (NumberTexts.within quantity.Channels 256 (length done + 1)) _ (within quantity.Channels 256 (length done + 1)) (λ count few.
    skip _ (Sections.end_of actors Out field.SrcActor field.SrcPort name e) _ (λ start.
    skip _ (Sections.unused field.SrcPort start (list_any (λ (c : Channel). Sections.is_same_port c.source start) done)) _ (λ source.
    skip _ (Sections.end_of actors In field.DstActor field.DstPort name e) _ (λ stop.
    skip _ (Sections.unused field.DstPort stop (list_any (λ (c : Channel). Sections.is_same_port c.target stop) done)) _ (λ target.
    skip _ (Sections.tokens_in name (TreeSteps.attribute (word_of field.InitialTokens) e)) _ (λ tokens. few.1)))))))

record ChannelsFit (actors : List Actor) (channels : List Channel) : Type 0 where
  few : length channels ≤ 256
  fit : AllByRecursion (ChannelFits actors) channels

channels_of : (of : List ℕ) (actors : List Actor) (section : Node) → IfOk (Sections.channels_of of actors section) (ChannelsFit actors)
unfolding Sections.channels_of
channels_of of actors section =
    let elements = TreeSteps.children (word_of field.Channel) section in
    let few = each-few 256 (Sections.channel_of of actors) (channel_counted of actors) [] elements (omega arith) in
    let fits = each-all (ChannelFits actors) (Sections.channel_of of actors) (channel_of of actors) [] elements tt in
    weaker (λ channels. (length channels ≤ 256) × AllByRecursion (ChannelFits actors) channels) (ChannelsFit actors) (TreeSteps.each (Sections.channel_of of actors) [] elements)
    (both (λ channels. length channels ≤ 256) (AllByRecursion (ChannelFits actors)) (TreeSteps.each (Sections.channel_of of actors) [] elements) few fits)
    (λ channels h. record { few = h.0; fit = h.1 })

-- ---- properties

-- the times that are given for an actor, if any
abbrev TimesFit : Kind → List ℕ → Type 0
TimesFit kind times = (times ≡ []) ⊎ ListFits kind 1 1000000000 times

times_by : (kind : Kind) (of : List ℕ) (o : Option Node) → IfOk (Sections.times_by kind of o) (TimesFit kind)
times_by kind of None = inl refl
times_by kind of (Some execution) =
    skip _ (TreeSteps.required field.Time of execution) _ (λ text.
    weaker (ListFits kind 1 1000000000) (TimesFit kind) (NumberTexts.numbers kind 1 field.Time of quantity.Time 1000000000 text) (numbers kind 1 field.Time of quantity.Time 1000000000 text (omega arith)) (λ times fits. inr fits))

times_in : (kind : Kind) (of : List ℕ) (e : Node) → IfOk (Sections.times_in kind of e) (TimesFit kind)
unfolding Sections.times_in
times_in kind of e = times_by kind of (Sections.execution_of e)

abbrev TimeEntryFits : Kind → TimeEntry → Type 0
TimeEntryFits kind t = TimesFit kind t.times

time_entry : (kind : Kind) (of : List ℕ) (actors : List Actor) (done : List TimeEntry) (e : Node) → IfOk (Sections.time_entry kind of actors done e) (TimeEntryFits kind)
unfolding Sections.time_entry
time_entry kind of actors done e =
    skip _ (Sections.mention field.Actor of (map (λ (a : Actor). a.name) actors) (map (λ (t : TimeEntry). t.actor) done) e) _ (λ name.
    then (TimesFit kind) _ (Sections.times_in kind name e) _ (times_in kind name e) (λ times fits. fits))

times_of : (kind : Kind) (of : List ℕ) (actors : List Actor) (o : Option Node) → IfOk (Sections.times_of kind of actors o) (AllByRecursion (TimeEntryFits kind))
unfolding Sections.times_of
times_of kind of actors None = tt
times_of kind of actors (Some properties) = each-all (TimeEntryFits kind) (Sections.time_entry kind of actors) (time_entry kind of actors) [] (TreeSteps.children (codes "actorProperties") properties) tt

pick : (b : Bool) (n : ℕ) → (b ≡ false → 1 ≤ n) → n ≤ 1000000 → IsFrom1 1000000 (cond b 1 n)
pick true n some few = (omega arith, omega arith)
pick false n some few = (some refl, few)

some_size : (n : ℕ) → n ≤ 1000000 → IsFrom1 1000000 (Sections.some_size n)
some_size n few =
    pick (n == 0) n (λ h.
    let some : n ≢ 0 = eqb-false n 0 h in
    omega arith) few

size_in : (of : List ℕ) (o : Option (List ℕ)) → IfOk (Sections.size_in of o) (IsFrom1 1000000)
size_in of None = (omega arith, omega arith)
size_in of (Some text) = then (λ n. n ≤ 1000000) _ (NumberTexts.number field.Sz of quantity.Size 1000000 text) _ (number field.Sz of quantity.Size 1000000 text) (λ size few. some_size size few)

size_of : (of : List ℕ) (e : Node) → IfOk (Sections.size_of of e) (IsFrom1 1000000)
unfolding Sections.size_of
size_of of e = size_in of (Sections.size_text e)

abbrev SizeEntryFits : SizeEntry → Type 0
SizeEntryFits s = IsFrom1 1000000 s.size

size_entry : (of : List ℕ) (channels : List Channel) (done : List SizeEntry) (e : Node) → IfOk (Sections.size_entry of channels done e) SizeEntryFits
unfolding Sections.size_entry
size_entry of channels done e =
    skip _ (Sections.mention field.Channel of (map (λ (c : Channel). c.name) channels) (map (λ (s : SizeEntry). s.channel) done) e) _ (λ name.
    then (IsFrom1 1000000) _ (Sections.size_of name e) _ (size_of name e) (λ size fits. fits))

sizes_of : (of : List ℕ) (channels : List Channel) (o : Option Node) → IfOk (Sections.sizes_of of channels o) (AllByRecursion SizeEntryFits)
unfolding Sections.sizes_of
sizes_of of channels None = tt
sizes_of of channels (Some properties) = each-all SizeEntryFits (Sections.size_entry of channels) (size_entry of channels) [] (TreeSteps.children (codes "channelProperties") properties) tt

-- ---- the table

times_at : (kind : Kind) (times : List TimeEntry) (name : List ℕ) → AllByRecursion (TimeEntryFits kind) times → TimesFit kind (Sections.times_at times name)
times_at kind [] name all = inl refl
times_at kind (t ∷ times) name all =
    elim (bytes_eq t.actor name) as (λ b. TimesFit kind (option_map_or (λ (u : TimeEntry). u.times) (cond b (Some t) (find (λ (u : TimeEntry). bytes_eq u.actor name) times)) [])) [ true ↦ all.0 | false ↦ times_at kind times name all.1 ]

size_at : (sizes : List SizeEntry) (name : List ℕ) → AllByRecursion SizeEntryFits sizes → IsFrom1 1000000 (Sections.size_at sizes name)
size_at [] name all = (omega arith, omega arith)
size_at (s ∷ sizes) name all =
    elim (bytes_eq s.channel name) as (λ b. IsFrom1 1000000 (option_map_or (λ (u : SizeEntry). u.size) (cond b (Some s) (find (λ (u : SizeEntry). bytes_eq u.channel name) sizes)) 1)) [ true ↦ all.0 | false ↦ size_at sizes name all.1 ]

-- the lists of an actor, each of which is read
module _ (kind : Kind) (most : ℕ) (longer : (least limit : ℕ) (xs : List ℕ) → ListFits kind least limit xs → length xs ≤ most) where
  ports-short : (ports : List Port) → AllByRecursion (PortFits kind) ports → AllByRecursion (λ xs. length xs ≤ most) (map (λ (p : Port). p.rates) ports)
  ports-short [] fit = tt
  ports-short (p ∷ ports) fit = (longer 0 1000000 p.rates fit.0, ports-short ports fit.1)

  times-short : (times : List ℕ) → TimesFit kind times → length times ≤ most
  times-short times (inl none) = rw none (omega arith)
  times-short times (inr fits) = longer 1 1000000000 times fits

  lists-short : (times : List TimeEntry) (a : Actor) → AllByRecursion (TimeEntryFits kind) times → ActorFits kind a → AllByRecursion (λ xs. length xs ≤ most) (Sections.lists_of times a)
  lists-short times a fit fits = (times-short (Sections.times_at times a.name) (times_at kind times a.name fit), ports-short a.ports fits)

few-phases : (kind : Kind) (least limit : ℕ) (xs : List ℕ) → ListFits kind least limit xs → length xs ≤ 4096
few-phases kind least limit xs fits = fits.are.few

one-phase : (kind : Kind) → kind ≡ Sdf → (least limit : ℕ) (xs : List ℕ) → ListFits kind least limit xs → length xs ≤ 1
one-phase kind is least limit xs fits = omega (arith, fits.one is)

record RowTimes (phases : ℕ) (times : List ℕ) : Type 0 where
  whole : (length times ≡ 0) ⊎ (length times ≡ phases)
  limited : All (λ t. (1 ≤ t) × (t ≤ 1000000000)) times

row_times : (kind : Kind) (phases : ℕ) (times : List ℕ) → TimesFit kind times → Fits phases times → RowTimes phases (Sections.widened phases times)
row_times kind phases times (inl none) fits =
    let empty : Sections.widened phases times ≡ [] = ap (Sections.widened phases) none in
    rw empty (record { whole = inl refl; limited = All-from_recursion (λ t. (1 ≤ t) × (t ≤ 1000000000)) [] tt })
row_times kind phases times (inr list) fits = record {
  whole = inr (widened-long phases times fits (some-long times list.are.moves));
  limited = widened-all (λ t. (1 ≤ t) × (t ≤ 1000000000)) phases times list.are.within;
}

actor_row : (kind : Kind) (times : List TimeEntry) (a : Actor) → AllByRecursion (TimeEntryFits kind) times → ActorFits kind a → IsEven times a → ActorKeepsRules kind (Sections.actor_row times a)
actor_row kind times a fit fits even =
    let lists = Sections.lists_of times a in
    let some = longest-some lists in
    let row = row_times kind (Sections.phases_in times a) (Sections.times_at times a.name) (times_at kind times a.name fit) even.0 in
    record {
      some_phase = some;
      few_phases = longest-few 4096 lists (omega arith) (lists-short kind 4096 (few-phases kind) times a fit fits);
      one_phase = λ is. let one : Sections.longest lists ≤ 1 = longest-few 1 lists (omega arith) (lists-short kind 1 (one-phase kind is) times a fit fits) in omega arith;
      timed = row.whole;
      times = row.limited;
    }

actor_rows : (kind : Kind) (times : List TimeEntry) (actors : List Actor) → AllByRecursion (TimeEntryFits kind) times → AllByRecursion (ActorFits kind) actors → Each (IsEven times) actors → AllByRecursion (ActorKeepsRules kind) (map (Sections.actor_row times) actors)
actor_rows kind times [] fit fits even = tt
actor_rows kind times (a ∷ actors) fit fits even = (actor_row kind times a fit fits.0 even.0, actor_rows kind times actors fit fits.1 even.1)

abbrev phases : List TimeEntry → List Actor → List ℕ
phases times actors = map (λ (a : ActorRow). a.phases) (map (Sections.actor_row times) actors)

phases-same : (times : List TimeEntry) (actors : List Actor) → phases times actors ≡ map (Sections.phases_in times) actors
phases-same times [] = refl
phases-same times (a ∷ actors) = ap (λ (ps : List ℕ). Sections.phases_in times a ∷ ps) (phases-same times actors)

length-rows : (times : List TimeEntry) (actors : List Actor) → length (map (Sections.actor_row times) actors) ≡ length actors
length-rows times [] = refl
length-rows times (a ∷ actors) = ap suc (length-rows times actors)

length-channels : (ps : List ℕ) (sizes : List SizeEntry) (channels : List Channel) → length (map (Sections.channel_row ps sizes) channels) ≡ length channels
length-channels ps sizes [] = refl
length-channels ps sizes (c ∷ channels) = ap suc (length-channels ps sizes channels)

each-at : {X : Type 0} (P : X → Type 0) (xs : List X) (k : ℕ) (d : X) → Each P xs → k < length xs → P (get_or xs k d)
each-at P [] k d all below = absurd (omega (arith, below))
each-at P (x ∷ xs) zero d all below = all.0
each-at P (x ∷ xs) (suc k) d all below = each-at P xs k d all.1 (omega arith)

-- the rates at an end, for each phase of the actor there
port : (kind : Kind) (times : List TimeEntry) (actors : List Actor) (e : End) → AllByRecursion (ActorFits kind) actors → Each (IsEven times) actors → EndFits actors e →
    PortKeepsRules (slice_index (map (Sections.phases_in times) actors) e.actor) (Sections.widened (slice_index (map (Sections.phases_in times) actors) e.actor) e.rates)
port kind times actors e fit even fits =
    let a : Actor = get_or actors e.actor nobody in
    let p : Port = get_or a.ports fits.port nowhere in
    let n : ℕ = Sections.phases_in times a in
    let at : slice_index (map (Sections.phases_in times) actors) e.actor ≡ n = get_or-map (Sections.phases_in times) actors e.actor nobody 0 fits.actor in
    let a_fits : ActorFits kind a = All-from_recursion (ActorFits kind) actors fit e.actor nobody fits.actor in
    let list : PortFits kind p = All-from_recursion (PortFits kind) a.ports a_fits fits.port nowhere fits.place in
    let a_even : IsEven times a = each-at (IsEven times) actors e.actor nobody even fits.actor in
    let count : length (map (λ (q : Port). q.rates) a.ports) ≡ length a.ports = length-map a.ports (λ (q : Port). q.rates) in
    let listed : Fits n (get_or (map (λ (q : Port). q.rates) a.ports) fits.port []) = each-at (Fits n) (map (λ (q : Port). q.rates) a.ports) fits.port [] a_even.1 (omega (arith, fits.place)) in
    let one : Fits n p.rates = subst (Fits n) (get_or-map (λ (q : Port). q.rates) a.ports fits.port nowhere [] fits.place) listed in
    rw (at, ← fits.rates) (record {
      listed = widened-long n p.rates one (some-long p.rates list.are.moves);
      limited = widened-all (λ r. r ≤ 1000000) n p.rates (λ k d below. (list.are.within k d below).1);
      moves = widened-moves n p.rates (longest-some (Sections.lists_of times a)) list.are.moves;
    })

channel_row : (kind : Kind) (times : List TimeEntry) (sizes : List SizeEntry) (actors : List Actor) (c : Channel) → AllByRecursion SizeEntryFits sizes → AllByRecursion (ActorFits kind) actors → Each (IsEven times) actors → ChannelFits actors c →
    ChannelKeepsRules (phases times actors) (Sections.channel_row (map (Sections.phases_in times) actors) sizes c)
channel_row kind times sizes actors c fit actors_fit even fits =
    let count : length (map (Sections.phases_in times) actors) ≡ length actors = length-map actors (Sections.phases_in times) in
    let source = fits.source.actor in
    let target = fits.target.actor in
    let size = size_at sizes c.name fit in
    rw phases-same (record {
      source = omega arith;
      target = omega arith;
      made = port kind times actors c.source actors_fit even fits.source;
      taken = port kind times actors c.target actors_fit even fits.target;
      tokens = fits.tokens;
      some_size = size.0;
      size = size.1;
    })

channel_rows : (kind : Kind) (times : List TimeEntry) (sizes : List SizeEntry) (actors : List Actor) (channels : List Channel) → AllByRecursion SizeEntryFits sizes → AllByRecursion (ActorFits kind) actors → Each (IsEven times) actors → AllByRecursion (ChannelFits actors) channels →
    AllByRecursion (ChannelKeepsRules (phases times actors)) (map (Sections.channel_row (map (Sections.phases_in times) actors) sizes) channels)
channel_rows kind times sizes actors [] fit actors_fit even fits = tt
channel_rows kind times sizes actors (c ∷ channels) fit actors_fit even fits = (channel_row kind times sizes actors c fit actors_fit even fits.0, channel_rows kind times sizes actors channels fit actors_fit even fits.1)

table : (kind : Kind) (actors : List Actor) (channels : List Channel) (times : List TimeEntry) (sizes : List SizeEntry) → ActorsFit kind actors → ChannelsFit actors channels → AllByRecursion (TimeEntryFits kind) times → AllByRecursion SizeEntryFits sizes → Each (IsEven times) actors →
    KeepsRules (Sections.table kind actors channels times sizes)
unfolding Sections.table
table kind actors channels times sizes actors_fit channels_fit times_fit sizes_fit even =
    let rows = length-rows times actors in
    let channel_count = length-channels (map (Sections.phases_in times) actors) sizes channels in
    let some = actors_fit.some in
    let few = actors_fit.few in
    let few_channels = channels_fit.few in
    record {
      some_actor = omega arith;
      few_actors = omega arith;
      few_channels = omega arith;
      actors = All-from_recursion (ActorKeepsRules kind) (map (Sections.actor_row times) actors) (actor_rows kind times actors times_fit actors_fit.fit even);
      channels = All-from_recursion (ChannelKeepsRules (phases times actors)) (map (Sections.channel_row (map (Sections.phases_in times) actors) sizes) channels) (channel_rows kind times sizes actors channels sizes_fit actors_fit.fit even channels_fit.fit);
    }

abbrev IsTimedRow : ActorRow → Type 0
IsTimedRow a = length a.times ≡ a.phases

timed_row : (kind : Kind) (a : ActorRow) → ActorKeepsRules kind a → (length a.times == 0) ≡ false → IsTimedRow a
timed_row kind a keeps h = elim keeps.timed [ inl none ↦ absurd (eqb-false (length a.times) 0 h none) | inr same ↦ same ]

-- where no row without times is found, each row has its times
none-untimed : (kind : Kind) (t : GraphFile) (rows : List ActorRow) → AllByRecursion (ActorKeepsRules kind) rows → IfOk (Sections.timed t (find (λ (a : ActorRow). length a.times == 0) rows)) (λ u. (u ≡ t) × AllByRecursion IsTimedRow rows)
none-untimed kind t [] keep = (refl, tt)
none-untimed kind t (a ∷ rows) keep =
    let Q : List ActorRow → GraphFile → Type 0 = λ others u. (u ≡ t) × AllByRecursion IsTimedRow others in
    let o = find (λ (b : ActorRow). length b.times == 0) rows in
    let cases : (b : Bool) → (length a.times == 0) ≡ b → IfOk (Sections.timed t (cond b (Some a) o)) (Q (a ∷ rows)) =
    λ b. elim b as (λ v. (length a.times == 0) ≡ v → IfOk (Sections.timed t (cond v (Some a) o)) (Q (a ∷ rows))) [
      | true ↦ λ h. tt
      | false ↦ λ h. weaker (Q rows) (Q (a ∷ rows)) (Sections.timed t o) (none-untimed kind t rows keep.1) (λ u rest. (rest.0, (timed_row kind a keep.0 h, rest.1)))
    ] in
    cases (length a.times == 0) refl

abbrev pub Keeps : Bool → GraphFile → Type 0
Keeps need_times t = KeepsRules t × (IsTrue need_times → IsTimed t)

all_timed : (kind : Kind) (need_times : Bool) (t : GraphFile) → KeepsRules t → AllByRecursion (ActorKeepsRules kind) t.actors → IfOk (Sections.all_timed need_times t) (Keeps need_times)
unfolding Sections.all_timed
all_timed kind need_times t keeps keep =
    choice (Keeps need_times) need_times _ (Ok t)
    (λ h. weaker (λ u. (u ≡ t) × AllByRecursion IsTimedRow t.actors) (Keeps need_times) (Sections.timed t (find (λ (a : ActorRow). length a.times == 0) t.actors)) (none-untimed kind t t.actors keep)
    (λ u all. subst (Keeps need_times) (sym all.0) (keeps, λ needed. All-from_recursion IsTimedRow t.actors all.1)))
    (λ h. (
      keeps,
      λ needed.
          let no : false ≡ true = sym h ∙ needed in
          absurd cc,
    ))

table-rows : (kind : Kind) (actors : List Actor) (channels : List Channel) (times : List TimeEntry) (sizes : List SizeEntry) → AllByRecursion (TimeEntryFits kind) times → AllByRecursion (ActorFits kind) actors → Each (IsEven times) actors →
    AllByRecursion (ActorKeepsRules kind) (Sections.table kind actors channels times sizes).actors
unfolding Sections.table
table-rows kind actors channels times sizes fit fits even = actor_rows kind times actors fit fits even

pub graph_in : (kind : Kind) (of : List ℕ) (need_times : Bool) (e : Node) → IfOk (Sections.graph_in kind of need_times e) (Keeps need_times)
unfolding Sections.graph_in
graph_in kind of need_times e =
    skip _ (TreeSteps.one (Sections.section_of kind) of e) _ (λ section.
    then (ActorsFit kind) _ (Sections.actors_of kind of section) _ (actors_of kind of section) (λ actors actors_fit.
    then (ChannelsFit actors) _ (Sections.channels_of of actors section) _ (channels_of of actors section) (λ channels channels_fit.
    skip _ (TreeSteps.at_most_one (Sections.properties_of kind) e) _ (λ properties.
    then (AllByRecursion (TimeEntryFits kind)) _ (Sections.times_of kind of actors properties) _ (times_of kind of actors properties) (λ times times_fit.
    then (AllByRecursion SizeEntryFits) _ (Sections.sizes_of of channels properties) _ (sizes_of of channels properties) (λ sizes sizes_fit.
    then (λ read. (read ≡ actors) × Each (IsEven times) actors) _ (Sections.even_phases times actors) _ (even_phases times actors) (λ read even.
    all_timed kind need_times (Sections.table kind actors channels times sizes) (table kind actors channels times sizes actors_fit channels_fit times_fit sizes_fit even.1) (table-rows kind actors channels times sizes times_fit actors_fit.fit even.1))))))))

table_of : (need_times : Bool) (tree : Node) → IfOk (Sections.table_of need_times tree) (Keeps need_times)
unfolding Sections.table_of
table_of need_times tree =
    skip _ (Sections.root_of tree) _ (λ root.
    skip _ (TreeSteps.required field.TypeWord file root) _ (λ word.
    skip _ (Sections.kind_in word) _ (λ kind.
    skip _ (TreeSteps.one field.ApplicationGraph file root) _ (λ graph.
    graph_in kind file need_times graph))))

from_given : (need_times : Bool) (tree : Node) (result : Result GraphFile ReadError) → Gives (λ t. t) result (Sections.table_of need_times tree) → IfOk result (Keeps need_times)
from_given need_times tree (Ok t) gives = subst (λ r. IfOk r (Keeps need_times)) gives (table_of need_times tree)
from_given need_times tree (Err e) gives = tt

pub keeps_rules : (need_times : Bool) (tree : Node) (result : Result GraphFile ReadError) → Gives (λ t. t) result (Sections.table_of need_times tree) → IfOk result KeepsRules
keeps_rules need_times tree result gives = weaker (Keeps need_times) KeepsRules result (from_given need_times tree result gives) (λ t k. k.0)

pub is_timed : (need_times : Bool) (tree : Node) (result : Result GraphFile ReadError) → Gives (λ t. t) result (Sections.table_of need_times tree) → IfOk result (λ t. IsTrue need_times → IsTimed t)
is_timed need_times tree result gives = weaker (Keeps need_times) (λ t. IsTrue need_times → IsTimed t) result (from_given need_times tree result gives) (λ t k. k.1)

-- ---- what is known of actors and channels that are read

actors-short : (kind : Kind) (actors : List Actor) → AllByRecursion (ActorFits kind) actors → AllByRecursion HasShortPorts actors
actors-short kind [] fit = tt
actors-short kind (a ∷ actors) fit = (All-from_recursion (λ (xs : List ℕ). length xs ≤ 4096) (map (λ (p : Port). p.rates) a.ports) (ports-short kind 4096 (few-phases kind) a.ports fit.0), actors-short kind actors fit.1)

pub short_ports : (kind : Kind) (of : List ℕ) (section : Node) (actors : List Actor) → Sections.actors_of kind of section ≡ Ok actors → All HasShortPorts actors
short_ports kind of section actors read = All-from_recursion HasShortPorts actors (actors-short kind actors (IfOk-at_ok (ActorsFit kind) read (actors_of kind of section)).fit)

channels-join : (actors : List Actor) (channels : List Channel) → AllByRecursion (ChannelFits actors) channels → AllByRecursion (JoinActors (length actors)) channels
channels-join actors [] fit = tt
channels-join actors (c ∷ channels) fit = (record { source = fit.0.source.actor; target = fit.0.target.actor }, channels-join actors channels fit.1)

pub join : (of : List ℕ) (actors : List Actor) (section : Node) (channels : List Channel) → Sections.channels_of of actors section ≡ Ok channels → All (JoinActors (length actors)) channels
join of actors section channels read = All-from_recursion (JoinActors (length actors)) channels (channels-join actors channels (IfOk-at_ok (ChannelsFit actors) read (channels_of of actors section)).fit)

pub short_lists : (kind : Kind) (of : List ℕ) (actors : List Actor) (o : Option Node) (times : List TimeEntry) → Sections.times_of kind of actors o ≡ Ok times → All HasShortPorts actors → All (λ a. AreShort (Sections.lists_of times a)) actors
short_lists kind of actors o times read short k d below =
    let a : Actor = get_or actors k d in
    let fit : AllByRecursion (TimeEntryFits kind) times = IfOk-at_ok (AllByRecursion (TimeEntryFits kind)) read (times_of kind of actors o) in
    All-from_recursion (λ (xs : List ℕ). length xs ≤ 4096) (Sections.lists_of times a)
    (times-short kind 4096 (few-phases kind) (Sections.times_at times a.name) (times_at kind times a.name fit), recursion_from_All (λ (xs : List ℕ). length xs ≤ 4096) (map (λ (p : Port). p.rates) a.ports) (short k d below))
