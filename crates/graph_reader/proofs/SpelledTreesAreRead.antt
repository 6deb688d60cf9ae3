-- What a tree spells is read of it.
use Rattle.std.proofs.Common.{◌≡◌, ◌≢◌, ◌⊎◌, ℕ, suc, ◌+◌, ◌≤◌, Bool, true, false, not, cond, ◌==◌, nat_le, List, [], ◌∷◌, ◌++◌, length, map, Option, Some, None, Ok, inl, inr, refl, sym, ap, ◌∙◌, subst, arith}
use Rattle.std.specs.Prelude.{IsTrue, codes}
use Rattle.std.specs.List.{All, list_any, list_all, find}
use Rattle.std.specs.Option.{option_to_list}
use Rattle.std.proofs.lemmas.Bool.{le-ltb, eq-eqb, le-leb, or_left, or_right}
use Rattle.std.proofs.lemmas.Slice.Eq.{bytes_eq-Decides}
use Rattle.std.proofs.lemmas.List.{length_push}
use Rattle.sd_base.specs.declared.limits.Quantity.TheVariants as quantity
use Rattle.sd_base.specs.declared.tables.Kind.{Kind}
use Rattle.sd_base.specs.declared.tables.Kind.TheVariants.{Sdf, Csdf}
use Rattle.sd_base.specs.declared.tables.GraphFile.{GraphFile}
use Rattle.sd_base.specs.declared.tables.ActorRow.{ActorRow}
use Rattle.sd_base.specs.Tables.{IsTimed}
use Rattle.file_text.specs.Node.{Node, name_of}
use Rattle.file_text.specs.Grammar.{Each}
use Rattle.graph_reader.specs.declared.field.Field.{Field}
use Rattle.graph_reader.specs.declared.field.Field.TheVariants as field
use Rattle.graph_reader.specs.declared.actors.Direction.{Direction}
use Rattle.graph_reader.specs.declared.actors.Direction.TheVariants.{In, Out}
use Rattle.graph_reader.specs.declared.actors.Port.{Port}
use Rattle.graph_reader.specs.declared.actors.Actor.{Actor}
use Rattle.graph_reader.specs.declared.channels.End.{End}
use Rattle.graph_reader.specs.declared.channels.Channel.{Channel}
use Rattle.graph_reader.specs.declared.properties.TimeEntry.{TimeEntry}
use Rattle.graph_reader.specs.declared.properties.SizeEntry.{SizeEntry}
use Rattle.graph_reader.specs.Field.{word_of}
use Rattle.graph_reader.specs.TreeSteps
use Rattle.graph_reader.specs.TreeSteps.{◌>>=◌, file}
use Rattle.graph_reader.specs.NumberTexts
use Rattle.graph_reader.specs.Sections
use Rattle.graph_reader.specs.Spelled
use Rattle.graph_reader.specs.Spelled.{Pairwise, EachTwo, Has, HasName}
use Rattle.graph_reader.proofs.ReaderSteps.{then-ok}
use Rattle.graph_reader.proofs.NumberLists.{within-again, number-again, not-zero, again}
use Rattle.graph_reader.proofs.PhaseLists.{longest-some}
use Rattle.graph_reader.proofs.ElementPlaces.{AfterEach, each-given, Related, after-from_two, Counted, counted-from_few, no-count, none-from_Each, Each-weaker, not-among, among, port_count-cons, port_count-push}
use Rattle.graph_reader.proofs.ReadTreesAreSpelled.{TimesDiffer, ActorCounted, NoCount, SizesDiffer, PortsDiffer, PortsFit, ActorsDiffer}

pub required : (what : Field) (of : List ℕ) (e : Node) (value : List ℕ) → Has what e value → TreeSteps.required what of e ≡ Ok value
unfolding TreeSteps.required
required what of e value has = ap (TreeSteps.present what of) has

-- ---- names

tested_name : {X : Type 0} (f : X → List ℕ) (of : List ℕ) (earlier : List X) (e : Node) (name : List ℕ) → HasName e name → Each (λ x. f x ≢ name) earlier → Sections.tested_name of (map f earlier) name ≡ Ok name
tested_name f of earlier e name is differ =
    rw (not-zero (length name) is.some, le-ltb 128 (length name) is.short, not-among f name earlier differ) refl

pub new_name : {X : Type 0} (f : X → List ℕ) (of : List ℕ) (earlier : List X) (e : Node) (name : List ℕ) → HasName e name → Each (λ x. f x ≢ name) earlier → Sections.new_name of (map f earlier) e ≡ Ok name
unfolding Sections.new_name
new_name f of earlier e name is differ = then-ok (TreeSteps.required field.Name of e) (Sections.tested_name of (map f earlier)) name (Ok name) (required field.Name of e name is.has) (tested_name f of earlier e name is differ)

mention : {X Y : Type 0} (f : X → List ℕ) (g : Y → List ℕ) (what : Field) (of : List ℕ) (rows : List X) (earlier : List Y) (e : Node) (name : List ℕ) → Has what e name → (Each (λ x. f x ≢ name) rows → ⊥) → Each (λ y. g y ≢ name) earlier
    → Sections.mention what of (map f rows) (map g earlier) e ≡ Ok name
unfolding Sections.mention
mention f g what of rows earlier e name has known differ =
    then-ok (TreeSteps.required what of e) (Sections.tested_mention what (map f rows) (map g earlier)) name (Ok name) (required what of e name has)
    (rw (among f name rows known, not-among g name earlier differ) refl)

-- ---- actors

direction_in : (of : List ℕ) (d : Direction) → Sections.direction_in of (Spelled.direction_word d) ≡ Ok d
direction_in of In = refl
direction_in of Out = refl

port_of : (kind : Kind) (actor : List ℕ) (before : ℕ) (done : List Port) (e : Node) (p : Port) → Spelled.IsPort kind e p → Related PortsDiffer (Counted before 1024) done p → Sections.port_of kind actor before done e ≡ Ok p
unfolding Sections.port_of
port_of kind actor before done e p is new =
    then-ok (Sections.new_name actor (map (λ (q : Port). q.name) done) e) _ p.name (Ok p) (new_name (λ (q : Port). q.name) actor done e p.name is.name new.0) (
    then-ok (NumberTexts.within quantity.Ports 1024 (before + length done + 1)) _ (before + length done + 1) (Ok p) (within-again quantity.Ports 1024 (before + length done + 1) new.1) (
    then-ok (TreeSteps.required field.TypeWord actor e) _ (Spelled.direction_word p.direction) (Ok p) (required field.TypeWord actor e (Spelled.direction_word p.direction) is.direction) (
    then-ok (Sections.direction_in actor (Spelled.direction_word p.direction)) _ p.direction (Ok p) (direction_in actor p.direction) (
    then-ok (TreeSteps.required field.Rate actor e) _ is.rates.0 (Ok p) (required field.Rate actor e is.rates.0 is.rates.1) (
    then-ok (NumberTexts.numbers kind 0 field.Rate actor quantity.Rate 1000000 is.rates.0) _ p.rates (Ok p) (again kind 0 field.Rate actor quantity.Rate 1000000 is.rates.0 p.rates is.rates.2 is.rates.3) refl)))))

counted-ports : (before : ℕ) (ports : List Port) → PortsFit before ports → AfterEach (Counted before 1024) [] ports
counted-ports before [] fit = tt
counted-ports before (p ∷ ports) fit =
    let few : before + length (p ∷ ports) ≤ 1024 = fit (omega arith) in
    counted-from_few before 1024 [] (p ∷ ports) (omega arith)

actor_of : (kind : Kind) (of : List ℕ) (done : List Actor) (e : Node) (a : Actor) → Spelled.IsActor kind e a → Related ActorsDiffer ActorCounted done a → Sections.actor_of kind of done e ≡ Ok a
unfolding Sections.actor_of
actor_of kind of done e a is new =
    let before = Sections.port_count done in
    let after = after-from_two PortsDiffer (Counted before 1024) a.ports is.apart (counted-ports before a.ports new.1.1) in
    then-ok (Sections.new_name of (map (λ (b : Actor). b.name) done) e) _ a.name (Ok a) (new_name (λ (b : Actor). b.name) of done e a.name is.name new.0) (
    then-ok (NumberTexts.within quantity.Actors 128 (length done + 1)) _ (length done + 1) (Ok a) (within-again quantity.Actors 128 (length done + 1) new.1.0) (
    then-ok (TreeSteps.each (Sections.port_of kind a.name before) [] (TreeSteps.children (codes "port") e)) _ a.ports (Ok a)
    (each-given (Spelled.IsPort kind) (Related PortsDiffer (Counted before 1024)) (Sections.port_of kind a.name before) (port_of kind a.name before) [] (TreeSteps.children (codes "port") e) a.ports is.ports after) refl))

counted-actors : (done actors : List Actor) → length done + length actors ≤ 128 → Sections.port_count done + Sections.port_count actors ≤ 1024 → AfterEach ActorCounted done actors
counted-actors done [] few few_ports = tt
counted-actors done (a ∷ actors) few few_ports =
    let push = length_push done a in
    let count = port_count-push done a in
    let first = port_count-cons a actors in
    let fit : Sections.port_count done + length a.ports ≤ 1024 = omega arith in
    ((omega arith, λ some. fit), counted-actors (done ++ a ∷ []) actors (omega arith) (omega arith))

some_actor : (of : List ℕ) (actors : List Actor) → 1 ≤ length actors → Sections.some_actor of actors ≡ Ok actors
some_actor of [] some = absurd (omega (arith, some))
some_actor of (a ∷ rest) some = refl

actors_of : (kind : Kind) (of : List ℕ) (section : Node) (actors : List Actor) → Spelled.AreActors kind section actors → Sections.actors_of kind of section ≡ Ok actors
unfolding Sections.actors_of
actors_of kind of section actors are =
    let elements = TreeSteps.children (word_of field.Actor) section in
    let few = are.few in
    let few_ports = are.few_ports in
    let after = after-from_two ActorsDiffer ActorCounted actors are.apart (counted-actors [] actors (omega arith) (omega arith)) in
    then-ok (TreeSteps.each (Sections.actor_of kind of) [] elements) (Sections.some_actor of) actors (Ok actors) (each-given (Spelled.IsActor kind) (Related ActorsDiffer ActorCounted) (Sections.actor_of kind of) (actor_of kind of) [] elements actors are.rows after) (some_actor of actors are.some)

-- ---- channels

end_of : (actors : List Actor) (direction : Direction) (actor_word port_word : Field) (of : List ℕ) (e : Node) (x : End) → Spelled.IsEnd actors direction actor_word port_word e x → Sections.end_of actors direction actor_word port_word of e ≡ Ok x
unfolding Sections.end_of
end_of actors direction actor_word port_word of e x is =
    let made : List ℕ → End = λ rates. record { actor = x.actor; port = x.port; rates = rates } in
    then-ok (TreeSteps.required actor_word of e) _ is.actor_name (Ok x) (required actor_word of e is.actor_name is.has_actor) (
    then-ok (Sections.known actor_word is.actor_name (Sections.numbered 0 is.actor_name actors)) _ (x.actor, is.actor) (Ok x) (ap (Sections.known actor_word is.actor_name) is.is_actor) (
    then-ok (TreeSteps.required port_word of e) _ x.port (Ok x) (required port_word of e x.port is.has_port) (
    then-ok (Sections.known port_word x.port (find (Sections.is_port direction x.port) is.actor.ports)) _ is.port (Ok x) (ap (Sections.known port_word x.port) is.is_port) (
    ap (λ rates. Ok (made rates)) is.rates))))

unused : (what : Field) (e : End) (used : Bool) → used ≡ false → Sections.unused what e used ≡ Ok e
unused what e used none = rw none refl

tokens_in : (of : List ℕ) (o : Option (List ℕ)) (n : ℕ) → Spelled.AreTokens o n → Sections.tokens_in of o ≡ Ok n
tokens_in of None n is = ap Ok (sym is)
tokens_in of (Some text) n is = number-again field.InitialTokens of quantity.Tokens 1000000 text n is

channel_of : (of : List ℕ) (actors : List Actor) (done : List Channel) (e : Node) (c : Channel) → Spelled.IsChannel actors e c → Related Spelled.AreApart (Counted 0 256) done c → Sections.channel_of of actors done e ≡ Ok c
unfolding Sections.channel_of
channel_of of actors done e c is new =
    let count : length done + 1 ≤ 256 = omega (arith, new.1) in
    let names = Each-weaker (λ d. Spelled.AreApart d c) (λ (d : Channel). d.name ≢ c.name) done new.0 (λ d apart. apart.names) in
    let sources = none-from_Each (λ (d : Channel). Sections.is_same_port d.source c.source) done (Each-weaker (λ d. Spelled.AreApart d c) (λ (d : Channel). Sections.is_same_port d.source c.source ≡ false) done new.0 (λ d apart. apart.sources)) in
    let targets = none-from_Each (λ (d : Channel). Sections.is_same_port d.target c.target) done (Each-weaker (λ d. Spelled.AreApart d c) (λ (d : Channel). Sections.is_same_port d.target c.target ≡ false) done new.0 (λ d apart. apart.targets)) in
    then-ok (Sections.new_name of (map (λ (d : Channel). d.name) done) e) _ c.name (Ok c) (new_name (λ (d : Channel). d.name) of done e c.name is.name names) (
    then-ok (NumberTexts.within quantity.Channels 256 (length done + 1)) _ (length done + 1) (Ok c) (within-again quantity.Channels 256 (length done + 1) count) (
    then-ok (Sections.end_of actors Out field.SrcActor field.SrcPort c.name e) _ c.source (Ok c) (end_of actors Out field.SrcActor field.SrcPort c.name e c.source is.source) (
    then-ok (Sections.unused field.SrcPort c.source (list_any (λ (d : Channel). Sections.is_same_port d.source c.source) done)) _ c.source (Ok c) (unused field.SrcPort c.source _ sources) (
    then-ok (Sections.end_of actors In field.DstActor field.DstPort c.name e) _ c.target (Ok c) (end_of actors In field.DstActor field.DstPort c.name e c.target is.target) (
    then-ok (Sections.unused field.DstPort c.target (list_any (λ (d : Channel). Sections.is_same_port d.target c.target) done)) _ c.target (Ok c) (unused field.DstPort c.target _ targets) (
    then-ok (Sections.tokens_in c.name (TreeSteps.attribute (word_of field.InitialTokens) e)) _ c.tokens (Ok c) (tokens_in c.name (TreeSteps.attribute (word_of field.InitialTokens) e) c.tokens is.tokens) refl))))))

channels_of : (of : List ℕ) (actors : List Actor) (section : Node) (channels : List Channel) → Spelled.AreChannels actors section channels → Sections.channels_of of actors section ≡ Ok channels
unfolding Sections.channels_of
channels_of of actors section channels are =
    let few = are.few in
    let after = after-from_two Spelled.AreApart (Counted 0 256) channels are.apart (counted-from_few 0 256 [] channels (omega arith)) in
    each-given (Spelled.IsChannel actors) (Related Spelled.AreApart (Counted 0 256)) (Sections.channel_of of actors) (channel_of of actors) [] (TreeSteps.children (word_of field.Channel) section) channels are.rows after

-- ---- properties

times_by : (kind : Kind) (of : List ℕ) (o : Option Node) (times : List ℕ) → Spelled.AreGiven kind o times → Sections.times_by kind of o ≡ Ok times
times_by kind of None times is = ap Ok (sym is)
times_by kind of (Some execution) times is =
    then-ok (TreeSteps.required field.Time of execution) _ is.0 (Ok times) (required field.Time of execution is.0 is.1) (
    again kind 1 field.Time of quantity.Time 1000000000 is.0 times is.2 is.3)

times_in : (kind : Kind) (of : List ℕ) (e : Node) (times : List ℕ) → Spelled.AreGiven kind (Sections.execution_of e) times → Sections.times_in kind of e ≡ Ok times
unfolding Sections.times_in
times_in kind of e times is = times_by kind of (Sections.execution_of e) times is

time_entry : (kind : Kind) (of : List ℕ) (actors : List Actor) (done : List TimeEntry) (e : Node) (t : TimeEntry) → Spelled.IsTimeEntry kind actors e t → Related TimesDiffer NoCount done t → Sections.time_entry kind of actors done e ≡ Ok t
unfolding Sections.time_entry
time_entry kind of actors done e t is new =
    then-ok (Sections.mention field.Actor of (map (λ (a : Actor). a.name) actors) (map (λ (s : TimeEntry). s.actor) done) e) _ t.actor (Ok t)
    (mention (λ (a : Actor). a.name) (λ (s : TimeEntry). s.actor) field.Actor of actors done e t.actor is.actor is.known new.0) (
    then-ok (Sections.times_in kind t.actor e) _ t.times (Ok t) (times_in kind t.actor e t.times is.times) refl)

times_of : (kind : Kind) (of : List ℕ) (actors : List Actor) (o : Option Node) (times : List TimeEntry) → Spelled.AreTimes kind actors o times → Sections.times_of kind of actors o ≡ Ok times
unfolding Sections.times_of
times_of kind of actors None times are = ap Ok (sym are)
times_of kind of actors (Some properties) times are =
    each-given (Spelled.IsTimeEntry kind actors) (Related TimesDiffer NoCount) (Sections.time_entry kind of actors) (time_entry kind of actors) [] (TreeSteps.children (codes "actorProperties") properties) times are.0
    (after-from_two TimesDiffer NoCount times are.1 (no-count [] times))

size_in : (of : List ℕ) (o : Option (List ℕ)) (size : ℕ) → Spelled.IsSize o size → Sections.size_in of o ≡ Ok size
size_in of None size is = ap Ok (sym is)
size_in of (Some text) size is = then-ok (NumberTexts.number field.Sz of quantity.Size 1000000 text) _ is.0 (Ok size) (number-again field.Sz of quantity.Size 1000000 text is.0 is.1) (ap Ok (sym is.2))

size_of : (of : List ℕ) (e : Node) (size : ℕ) → Spelled.IsSize (Sections.size_text e) size → Sections.size_of of e ≡ Ok size
unfolding Sections.size_of
size_of of e size is = size_in of (Sections.size_text e) size is

size_entry : (of : List ℕ) (channels : List Channel) (done : List SizeEntry) (e : Node) (s : SizeEntry) → Spelled.IsSizeEntry channels e s → Related SizesDiffer NoCount done s → Sections.size_entry of channels done e ≡ Ok s
unfolding Sections.size_entry
size_entry of channels done e s is new =
    then-ok (Sections.mention field.Channel of (map (λ (c : Channel). c.name) channels) (map (λ (r : SizeEntry). r.channel) done) e) _ s.channel (Ok s)
    (mention (λ (c : Channel). c.name) (λ (r : SizeEntry). r.channel) field.Channel of channels done e s.channel is.channel is.known new.0) (
    then-ok (Sections.size_of s.channel e) _ s.size (Ok s) (size_of s.channel e s.size is.size) refl)

sizes_of : (of : List ℕ) (channels : List Channel) (o : Option Node) (sizes : List SizeEntry) → Spelled.AreSizes channels o sizes → Sections.sizes_of of channels o ≡ Ok sizes
unfolding Sections.sizes_of
sizes_of of channels None sizes are = ap Ok (sym are)
sizes_of of channels (Some properties) sizes are =
    each-given (Spelled.IsSizeEntry channels) (Related SizesDiffer NoCount) (Sections.size_entry of channels) (size_entry of channels) [] (TreeSteps.children (codes "channelProperties") properties) sizes are.0
    (after-from_two SizesDiffer NoCount sizes are.1 (no-count [] sizes))

-- ---- the table

at_most_one : (what : Field) (e : Node) (o : Option Node) → TreeSteps.children (word_of what) e ≡ option_to_list o → TreeSteps.at_most_one what e ≡ Ok o
unfolding TreeSteps.at_most_one
at_most_one what e o is =
    let cases : (p : Option Node) → TreeSteps.not_two what (option_to_list p) ≡ Ok p = λ p. elim p as (λ q. TreeSteps.not_two what (option_to_list q) ≡ Ok q) [ None ↦ refl | Some c ↦ refl ] in
    ap (TreeSteps.not_two what) is ∙ cases o

pub one : (what : Field) (of : List ℕ) (e c : Node) → TreeSteps.children (word_of what) e ≡ c ∷ [] → TreeSteps.one what of e ≡ Ok c
unfolding TreeSteps.one
one what of e c is = then-ok (TreeSteps.at_most_one what e) (TreeSteps.there what of) (Some c) (Ok c) (at_most_one what e (Some c) is) refl

pub root_of : (e : Node) → name_of e ≡ word_of field.Sdf3 → Sections.root_of e ≡ Ok e
unfolding Sections.root_of
root_of e is = rw ((bytes_eq-Decides (name_of e) (word_of field.Sdf3)).1 is) refl

kind_in : (kind : Kind) → Sections.kind_in (word_of (Sections.section_of kind)) ≡ Ok kind
unfolding Sections.kind_in word_of
kind_in Sdf = refl
kind_in Csdf = refl

fits-each : (phases : ℕ) (lists : List (List ℕ)) → Each (λ xs. (length xs ≡ phases) ⊎ (length xs ≤ 1)) lists → list_all (Sections.fits_phases phases) lists ≡ true
fits-each phases [] all = refl
fits-each phases (xs ∷ lists) all =
    let here : Sections.fits_phases phases xs ≡ true = elim all.0 [
      | inl same ↦ or_left (length xs == phases) (nat_le (length xs) 1) (eq-eqb (length xs) phases same)
      | inr few ↦ or_right (length xs == phases) (nat_le (length xs) 1) (le-leb (length xs) 1 few)
    ] in
    rw here (fits-each phases lists all.1)

none-uneven : (times : List TimeEntry) (actors : List Actor) → Each (Spelled.IsEven times) actors → find (λ (a : Actor). not (Sections.is_even times a)) actors ≡ None
none-uneven times [] all = refl
none-uneven times (a ∷ actors) all = rw (fits-each (Sections.phases_in times a) (Sections.lists_of times a) all.0) (none-uneven times actors all.1)

even_phases : (times : List TimeEntry) (actors : List Actor) → Each (Spelled.IsEven times) actors → Sections.even_phases times actors ≡ Ok actors
unfolding Sections.even_phases
even_phases times actors all = ap (Sections.even actors) (none-uneven times actors all)

abbrev HasNone : ActorRow → Bool
HasNone a = length a.times == 0

no-row : (times : List TimeEntry) (actors : List Actor) → All (λ (a : ActorRow). length a.times ≡ a.phases) (map (Sections.actor_row times) actors) → find HasNone (map (Sections.actor_row times) actors) ≡ None
no-row times [] all = refl
no-row times (a ∷ actors) all =
    let row = Sections.actor_row times a in
    let whole : length row.times ≡ row.phases = all 0 row (omega arith) in
    let some : 1 ≤ row.phases = longest-some (Sections.lists_of times a) in
    let first : HasNone row ≡ false = not-zero (length row.times) (omega arith) in
    rw first (no-row times actors (λ k d lt. all (suc k) d (omega arith)))

all_timed : (kind : Kind) (need_times : Bool) (actors : List Actor) (channels : List Channel) (times : List TimeEntry) (sizes : List SizeEntry) → (IsTrue need_times → IsTimed (Sections.table kind actors channels times sizes))
    → Sections.all_timed need_times (Sections.table kind actors channels times sizes) ≡ Ok (Sections.table kind actors channels times sizes)
unfolding Sections.all_timed Sections.table
all_timed kind need_times actors channels times sizes given =
    let t = Sections.table kind actors channels times sizes in
    let cases : (b : Bool) → (IsTrue b → IsTimed t) → cond b (Sections.timed t (find HasNone t.actors)) (Ok t) ≡ Ok t = λ b. elim b as (λ v. (IsTrue v → IsTimed t) → cond v (Sections.timed t (find HasNone t.actors)) (Ok t) ≡ Ok t) [
      | true ↦ λ timed. ap (Sections.timed t) (no-row times actors (timed refl))
      | false ↦ λ timed. refl
    ] in
    cases need_times given

pub graph_in : (kind : Kind) (of : List ℕ) (need_times : Bool) (e : Node) (t : GraphFile) → Spelled.IsGraph kind need_times e t → Sections.graph_in kind of need_times e ≡ Ok t
unfolding Sections.graph_in
graph_in kind of need_times e t is =
    then-ok (TreeSteps.one (Sections.section_of kind) of e) _ is.section (Ok t) (one (Sections.section_of kind) of e is.section is.one_section) (
    then-ok (Sections.actors_of kind of is.section) _ is.actors (Ok t) (actors_of kind of is.section is.actors is.are_actors) (
    then-ok (Sections.channels_of of is.actors is.section) _ is.channels (Ok t) (channels_of of is.actors is.section is.channels is.are_channels) (
    then-ok (TreeSteps.at_most_one (Sections.properties_of kind) e) _ is.properties (Ok t) (at_most_one (Sections.properties_of kind) e is.properties is.no_second) (
    then-ok (Sections.times_of kind of is.actors is.properties) _ is.times (Ok t) (times_of kind of is.actors is.properties is.times is.are_times) (
    then-ok (Sections.sizes_of of is.channels is.properties) _ is.sizes (Ok t) (sizes_of of is.channels is.properties is.sizes is.are_sizes) (
    then-ok (Sections.even_phases is.times is.actors) _ is.actors (Ok t) (even_phases is.times is.actors is.even) (
    all_timed kind need_times is.actors is.channels is.times is.sizes (λ needed. subst IsTimed is.is_table (is.timed needed)) ∙ ap Ok (sym is.is_table))))))))

pub table_of : (need_times : Bool) (tree : Node) (t : GraphFile) → Spelled.IsTable need_times tree t → Sections.table_of need_times tree ≡ Ok t
unfolding Sections.table_of
table_of need_times tree t is =
    then-ok (Sections.root_of tree) _ tree (Ok t) (root_of tree is.root) (
    then-ok (TreeSteps.required field.TypeWord file tree) _ (word_of (Sections.section_of t.kind)) (Ok t) (required field.TypeWord file tree (word_of (Sections.section_of t.kind)) is.kind) (
    then-ok (Sections.kind_in (word_of (Sections.section_of t.kind))) _ t.kind (Ok t) (kind_in t.kind) (
    then-ok (TreeSteps.one field.ApplicationGraph file tree) _ is.graph (Ok t) (one field.ApplicationGraph file tree is.graph is.one_graph) (
    graph_in t.kind file need_times is.graph t is.is_graph))))
