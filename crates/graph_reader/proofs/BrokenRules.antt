-- What refuses a tree is a broken rule of its sections: no fault of a text, and no want of memory.
use Rattle.std.proofs.Common.{◌≡◌, ℕ, ◌+◌, Bool, true, false, cond, ◌==◌, nat_lt, not, List, [], ◌∷◌, ◌++◌, length, map, Option, Some, None, Result, Ok, Err, subst, sym, ap, ◌∙◌, ◌⊎◌, inl, inr}
use Rattle.std.specs.Prelude.{IfErr, codes}
use Rattle.std.specs.List.{list_any, list_all, find}
use Rattle.std.specs.Str.{bytes_eq}
use Rattle.sd_base.specs.declared.limits.Quantity.{Quantity}
use Rattle.sd_base.specs.declared.limits.Quantity.TheVariants as quantity
use Rattle.sd_base.specs.declared.tables.Kind.{Kind}
use Rattle.sd_base.specs.declared.tables.Kind.TheVariants.{Sdf, Csdf}
use Rattle.sd_base.specs.declared.tables.GraphFile.{GraphFile}
use Rattle.sd_base.specs.declared.tables.ActorRow.{ActorRow}
use Rattle.file_text.specs.Node.{Node, name_of}
use Rattle.graph_reader.specs.declared.numbers.Item.{Item}
use Rattle.graph_reader.specs.declared.field.Field.{Field}
use Rattle.graph_reader.specs.declared.field.Field.TheVariants as field
use Rattle.graph_reader.specs.declared.error.ReadError.{ReadError}
use Rattle.graph_reader.specs.declared.error.ReadError.TheVariants as error
use Rattle.graph_reader.specs.declared.actors.Direction.{Direction}
use Rattle.graph_reader.specs.declared.actors.Direction.TheVariants.{In, Out}
use Rattle.graph_reader.specs.declared.actors.Port.{Port}
use Rattle.graph_reader.specs.declared.actors.Actor.{Actor}
use Rattle.graph_reader.specs.declared.channels.End.{End}
use Rattle.graph_reader.specs.declared.channels.Channel.{Channel}
use Rattle.graph_reader.specs.declared.properties.TimeEntry.{TimeEntry}
use Rattle.graph_reader.specs.declared.properties.SizeEntry.{SizeEntry}
use Rattle.graph_reader.specs.Field.{word_of}
use Rattle.graph_reader.specs.TreeSteps
use Rattle.graph_reader.specs.TreeSteps.{◌>>=◌, file, Fails, Gives}
use Rattle.graph_reader.specs.FirstFaults.{IsFirstFaultOf}
use Rattle.file_text.specs.Grammar.{IsText}
use Rattle.file_text.specs.Fault.{FirstFault}
use Rattle.file_text.specs.declared.error.TextError.{TextError}
use Rattle.file_text.specs.declared.error.TextError.TheVariants as text
use Rattle.graph_reader.specs.Refusal.{text_refusal}
use Rattle.graph_reader.specs.NumberTexts
use Rattle.graph_reader.specs.Sections

abbrev pub IsRule : ReadError → Type 0
IsRule error.NoMemory = ⊥
IsRule (error.Text fault) = ⊥
IsRule e = Unit {0}

-- a refusal is a broken rule
abbrev pub Rules : {A : Type 0} → Result A ReadError → Type 0
Rules r = IfErr r IsRule

pub then : {A B : Type 0} (r : Result A ReadError) (f : A → Result B ReadError) → Rules r → ((x : A) → Rules (f x)) → Rules (r >>= f)
then (Ok x) f p q = q x
then (Err e) f p q = p

pub choice : {A : Type 0} (b : Bool) (x y : Result A ReadError) → Rules x → Rules y → Rules (cond b x y)
choice true x y p q = p
choice false x y p q = q

pub each : {A : Type 0} (read : List A → Node → Result A ReadError) → ((done : List A) (e : Node) → Rules (read done e)) → (done : List A) (es : List Node) → Rules (TreeSteps.each read done es)
each read p done [] = tt
each read p done (e ∷ es) = then (read done e) (λ a. TreeSteps.each read (done ++ a ∷ []) es) (p done e) (λ a. each read p (done ++ a ∷ []) es)

present : (what : Field) (of : List ℕ) (o : Option (List ℕ)) → Rules (TreeSteps.present what of o)
present what of None = tt
present what of (Some value) = tt

pub required : (what : Field) (of : List ℕ) (e : Node) → Rules (TreeSteps.required what of e)
unfolding TreeSteps.required
required what of e = present what of (TreeSteps.attribute (word_of what) e)

not_two : (what : Field) (es : List Node) → Rules (TreeSteps.not_two what es)
not_two what [] = tt
not_two what (e ∷ []) = tt
not_two what (e ∷ (f ∷ rest)) = tt

at_most_one : (what : Field) (e : Node) → Rules (TreeSteps.at_most_one what e)
unfolding TreeSteps.at_most_one
at_most_one what e = not_two what (TreeSteps.children (word_of what) e)

there : (what : Field) (of : List ℕ) (o : Option Node) → Rules (TreeSteps.there what of o)
there what of None = tt
there what of (Some e) = tt

pub one : (what : Field) (of : List ℕ) (e : Node) → Rules (TreeSteps.one what of e)
unfolding TreeSteps.one
one what of e = then (TreeSteps.at_most_one what e) _ (at_most_one what e) (λ o. there what of o)

-- ---- numbers and names

pub within : (q : Quantity) (limit n : ℕ) → Rules (NumberTexts.within q limit n)
unfolding NumberTexts.within
within q limit n = choice (nat_lt limit n) _ _ tt tt

formed : (what : Field) (of : List ℕ) (o : Option ℕ) → Rules (NumberTexts.formed what of o)
formed what of None = tt
formed what of (Some n) = tt

number : (what : Field) (of : List ℕ) (q : Quantity) (limit : ℕ) (text : List ℕ) → Rules (NumberTexts.number what of q limit text)
unfolding NumberTexts.number
number what of q limit text = then (NumberTexts.formed what of (NumberTexts.number_in text)) _ (formed what of (NumberTexts.number_in text)) (λ n. within q limit n)

positive : (what : Field) (of : List ℕ) (q : Quantity) (limit : ℕ) (text : List ℕ) → Rules (NumberTexts.positive what of q limit text)
unfolding NumberTexts.positive
positive what of q limit text = then (NumberTexts.number what of q limit text) _ (number what of q limit text) (λ n. choice (n == 0) _ _ tt tt)

formed_items : (what : Field) (of : List ℕ) (o : Option (List Item)) → Rules (NumberTexts.formed_items what of o)
formed_items what of None = tt
formed_items what of (Some items) = tt

tested_items : (least : ℕ) (what : Field) (of : List ℕ) (q : Quantity) (limit : ℕ) (items : List Item) → Rules (NumberTexts.tested_items least what of q limit items)
unfolding NumberTexts.tested_items
tested_items least what of q limit items =
    then (NumberTexts.all_within q limit items) _ (choice (list_any (λ (i : Item). nat_lt limit i.value) items) _ _ tt tt) (λ above.
    then (NumberTexts.none_below least what of items) _ (choice (list_any (λ (i : Item). nat_lt i.value least) items) _ _ tt tt) (λ below.
    then (NumberTexts.within quantity.Phases 4096 (NumberTexts.count_in items)) _ (within quantity.Phases 4096 (NumberTexts.count_in items)) (λ count.
    choice (list_all (λ n. n == 0) (NumberTexts.numbers_of items)) _ _ tt tt)))

number_list : (least : ℕ) (what : Field) (of : List ℕ) (q : Quantity) (limit : ℕ) (text : List ℕ) → Rules (NumberTexts.number_list least what of q limit text)
unfolding NumberTexts.number_list
number_list least what of q limit text = then (NumberTexts.formed_items what of (NumberTexts.items_in text)) _ (formed_items what of (NumberTexts.items_in text)) (λ items. tested_items least what of q limit items)

numbers : (kind : Kind) (least : ℕ) (what : Field) (of : List ℕ) (q : Quantity) (limit : ℕ) (text : List ℕ) → Rules (NumberTexts.numbers kind least what of q limit text)
unfolding NumberTexts.numbers
numbers Sdf least what of q limit text = then (NumberTexts.positive what of q limit text) _ (positive what of q limit text) (λ n. tt)
numbers Csdf least what of q limit text = number_list least what of q limit text

tested_name : (of : List ℕ) (earlier : List (List ℕ)) (name : List ℕ) → Rules (Sections.tested_name of earlier name)
tested_name of earlier name = choice (length name == 0) _ _ tt (choice (nat_lt 128 (length name)) _ _ tt (choice (Sections.is_among name earlier) _ _ tt tt))

pub new_name : (of : List ℕ) (earlier : List (List ℕ)) (e : Node) → Rules (Sections.new_name of earlier e)
unfolding Sections.new_name
new_name of earlier e = then (TreeSteps.required field.Name of e) _ (required field.Name of e) (λ name. tested_name of earlier name)

tested_mention : (what : Field) (names earlier : List (List ℕ)) (name : List ℕ) → Rules (Sections.tested_mention what names earlier name)
tested_mention what names earlier name = choice (not (Sections.is_among name names)) _ _ tt (choice (Sections.is_among name earlier) _ _ tt tt)

mention : (what : Field) (of : List ℕ) (names earlier : List (List ℕ)) (e : Node) → Rules (Sections.mention what of names earlier e)
unfolding Sections.mention
mention what of names earlier e = then (TreeSteps.required what of e) _ (required what of e) (λ name. tested_mention what names earlier name)

-- ---- actors

direction_in : (of word : List ℕ) → Rules (Sections.direction_in of word)
direction_in of word = choice (bytes_eq word (codes "in")) _ _ tt (choice (bytes_eq word (codes "out")) _ _ tt tt)

port_of : (kind : Kind) (actor : List ℕ) (before : ℕ) (done : List Port) (e : Node) → Rules (Sections.port_of kind actor before done e)
unfolding Sections.port_of
port_of kind actor before done e =
    then (Sections.new_name actor (map (λ (p : Port). p.name) done) e) _ (new_name actor (map (λ (p : Port). p.name) done) e) (λ name.
    then (NumberTexts.within quantity.Ports 1024 (before + length done + 1)) _ (within quantity.Ports 1024 (before + length done + 1)) (λ count.
    then (TreeSteps.required field.TypeWord actor e) _ (required field.TypeWord actor e) (λ word.
    then (Sections.direction_in actor word) _ (direction_in actor word) (λ direction.
    then (TreeSteps.required field.Rate actor e) _ (required field.Rate actor e) (λ text.
    then (NumberTexts.numbers kind 0 field.Rate actor quantity.Rate 1000000 text) _ (numbers kind 0 field.Rate actor quantity.Rate 1000000 text) (λ rates. tt))))))

actor_of : (kind : Kind) (of : List ℕ) (done : List Actor) (e : Node) → Rules (Sections.actor_of kind of done e)
unfolding Sections.actor_of
actor_of kind of done e =
    then (Sections.new_name of (map (λ (a : Actor). a.name) done) e) _ (new_name of (map (λ (a : Actor). a.name) done) e) (λ name.
    then (NumberTexts.within quantity.Actors 128 (length done + 1)) _ (within quantity.Actors 128 (length done + 1)) (λ count.
    then (TreeSteps.each (Sections.port_of kind name (Sections.port_count done)) [] (TreeSteps.children (codes "port") e)) _
    (each (Sections.port_of kind name (Sections.port_count done)) (port_of kind name (Sections.port_count done)) [] (TreeSteps.children (codes "port") e)) (λ ports. tt)))

some_actor : (of : List ℕ) (actors : List Actor) → Rules (Sections.some_actor of actors)
some_actor of [] = tt
some_actor of (a ∷ rest) = tt

actors_of : (kind : Kind) (of : List ℕ) (section : Node) → Rules (Sections.actors_of kind of section)
unfolding Sections.actors_of
actors_of kind of section = then (TreeSteps.each (Sections.actor_of kind of) [] (TreeSteps.children (word_of field.Actor) section)) _ (each (Sections.actor_of kind of) (actor_of kind of) [] (TreeSteps.children (word_of field.Actor) section)) (some_actor of)

-- ---- channels

pub known : {A : Type 0} (what : Field) (name : List ℕ) (o : Option A) → Rules (Sections.known what name o)
known what name None = tt
known what name (Some x) = tt

end_of : (actors : List Actor) (direction : Direction) (actor_word port_word : Field) (of : List ℕ) (e : Node) → Rules (Sections.end_of actors direction actor_word port_word of e)
unfolding Sections.end_of
end_of actors direction actor_word port_word of e =
    then (TreeSteps.required actor_word of e) _ (required actor_word of e) (λ actor_name.
    then (Sections.known actor_word actor_name (Sections.numbered 0 actor_name actors)) _ (known actor_word actor_name (Sections.numbered 0 actor_name actors)) (λ actor.
    then (TreeSteps.required port_word of e) _ (required port_word of e) (λ port_name.
    then (Sections.known port_word port_name (find (Sections.is_port direction port_name) actor.1.ports)) _ (known port_word port_name (find (Sections.is_port direction port_name) actor.1.ports)) (λ port. tt))))

unused : (what : Field) (e : End) (used : Bool) → Rules (Sections.unused what e used)
unused what e used = choice used _ _ tt tt

tokens_in : (of : List ℕ) (o : Option (List ℕ)) → Rules (Sections.tokens_in of o)
tokens_in of None = tt
tokens_in of (Some text) = number field.InitialTokens of quantity.Tokens 1000000 text

channel_of : (of : List ℕ) (actors : List Actor) (done : List Channel) (e : Node) → Rules (Sections.channel_of of actors done e)
unfolding Sections.channel_of
channel_of of actors done e =
    then (Sections.new_name of (map (λ (c : Channel). c.name) done) e) _ (new_name of (map (λ (c : Channel). c.name) done) e) (λ name.
    then (NumberTexts.within quantity.Channels 256 (length done + 1)) _ (within quantity.Channels 256 (length done + 1)) (λ count.
    then (Sections.end_of actors Out field.SrcActor field.SrcPort name e) _ (end_of actors Out field.SrcActor field.SrcPort name e) (λ start.
    then (Sections.unused field.SrcPort start (list_any (λ (c : Channel). Sections.is_same_port c.source start) done)) _ (unused field.SrcPort start (list_any (λ (c : Channel). Sections.is_same_port c.source start) done)) (λ source.
    then (Sections.end_of actors In field.DstActor field.DstPort name e) _ (end_of actors In field.DstActor field.DstPort name e) (λ stop.
    then (Sections.unused field.DstPort stop (list_any (λ (c : Channel). Sections.is_same_port c.target stop) done)) _ (unused field.DstPort stop (list_any (λ (c : Channel). Sections.is_same_port c.target stop) done)) (λ target.
    then (Sections.tokens_in name (TreeSteps.attribute (word_of field.InitialTokens) e)) _ (tokens_in name (TreeSteps.attribute (word_of field.InitialTokens) e)) (λ tokens. tt)))))))

channels_of : (of : List ℕ) (actors : List Actor) (section : Node) → Rules (Sections.channels_of of actors section)
unfolding Sections.channels_of
channels_of of actors section = each (Sections.channel_of of actors) (channel_of of actors) [] (TreeSteps.children (word_of field.Channel) section)

-- ---- properties

times_by : (kind : Kind) (of : List ℕ) (o : Option Node) → Rules (Sections.times_by kind of o)
times_by kind of None = tt
times_by kind of (Some execution) =
    then (TreeSteps.required field.Time of execution) _ (required field.Time of execution) (λ text.
    numbers kind 1 field.Time of quantity.Time 1000000000 text)

times_in : (kind : Kind) (of : List ℕ) (e : Node) → Rules (Sections.times_in kind of e)
unfolding Sections.times_in
times_in kind of e = times_by kind of (Sections.execution_of e)

time_entry : (kind : Kind) (of : List ℕ) (actors : List Actor) (done : List TimeEntry) (e : Node) → Rules (Sections.time_entry kind of actors done e)
unfolding Sections.time_entry
time_entry kind of actors done e =
    then (Sections.mention field.Actor of (map (λ (a : Actor). a.name) actors) (map (λ (t : TimeEntry). t.actor) done) e) _ (mention field.Actor of (map (λ (a : Actor). a.name) actors) (map (λ (t : TimeEntry). t.actor) done) e) (λ name.
    then (Sections.times_in kind name e) _ (times_in kind name e) (λ times. tt))

times_of : (kind : Kind) (of : List ℕ) (actors : List Actor) (o : Option Node) → Rules (Sections.times_of kind of actors o)
unfolding Sections.times_of
times_of kind of actors None = tt
times_of kind of actors (Some properties) = each (Sections.time_entry kind of actors) (time_entry kind of actors) [] (TreeSteps.children (codes "actorProperties") properties)

size_in : (of : List ℕ) (o : Option (List ℕ)) → Rules (Sections.size_in of o)
size_in of None = tt
size_in of (Some text) = then (NumberTexts.number field.Sz of quantity.Size 1000000 text) _ (number field.Sz of quantity.Size 1000000 text) (λ size. tt)

size_of : (of : List ℕ) (e : Node) → Rules (Sections.size_of of e)
unfolding Sections.size_of
size_of of e = size_in of (Sections.size_text e)

size_entry : (of : List ℕ) (channels : List Channel) (done : List SizeEntry) (e : Node) → Rules (Sections.size_entry of channels done e)
unfolding Sections.size_entry
size_entry of channels done e =
    then (Sections.mention field.Channel of (map (λ (c : Channel). c.name) channels) (map (λ (s : SizeEntry). s.channel) done) e) _ (mention field.Channel of (map (λ (c : Channel). c.name) channels) (map (λ (s : SizeEntry). s.channel) done) e) (λ name.
    then (Sections.size_of name e) _ (size_of name e) (λ size. tt))

sizes_of : (of : List ℕ) (channels : List Channel) (o : Option Node) → Rules (Sections.sizes_of of channels o)
unfolding Sections.sizes_of
sizes_of of channels None = tt
sizes_of of channels (Some properties) = each (Sections.size_entry of channels) (size_entry of channels) [] (TreeSteps.children (codes "channelProperties") properties)

-- ---- the table

timed : (t : GraphFile) (o : Option ActorRow) → Rules (Sections.timed t o)
timed t None = tt
timed t (Some a) = tt

all_timed : (need_times : Bool) (t : GraphFile) → Rules (Sections.all_timed need_times t)
unfolding Sections.all_timed
all_timed need_times t = choice need_times _ _ (timed t (find (λ (a : ActorRow). length a.times == 0) t.actors)) tt

pub root_of : (e : Node) → Rules (Sections.root_of e)
unfolding Sections.root_of
root_of e = choice (bytes_eq (name_of e) (word_of field.Sdf3)) _ _ tt tt

kind_in : (word : List ℕ) → Rules (Sections.kind_in word)
unfolding Sections.kind_in
kind_in word = choice (bytes_eq word (word_of field.Sdf)) _ _ tt (choice (bytes_eq word (word_of field.Csdf)) _ _ tt tt)

even : (actors : List Actor) (o : Option Actor) → Rules (Sections.even actors o)
even actors None = tt
even actors (Some a) = tt

even_phases : (times : List TimeEntry) (actors : List Actor) → Rules (Sections.even_phases times actors)
unfolding Sections.even_phases
even_phases times actors = even actors (find (λ (a : Actor). not (Sections.is_even times a)) actors)

pub graph_in : (kind : Kind) (of : List ℕ) (need_times : Bool) (e : Node) → Rules (Sections.graph_in kind of need_times e)
unfolding Sections.graph_in
graph_in kind of need_times e =
    then (TreeSteps.one (Sections.section_of kind) of e) _ (one (Sections.section_of kind) of e) (λ section.
    then (Sections.actors_of kind of section) _ (actors_of kind of section) (λ actors.
    then (Sections.channels_of of actors section) _ (channels_of of actors section) (λ channels.
    then (TreeSteps.at_most_one (Sections.properties_of kind) e) _ (at_most_one (Sections.properties_of kind) e) (λ properties.
    then (Sections.times_of kind of actors properties) _ (times_of kind of actors properties) (λ times.
    then (Sections.sizes_of of channels properties) _ (sizes_of of channels properties) (λ sizes.
    then (Sections.even_phases times actors) _ (even_phases times actors) (λ fit.
    all_timed need_times (Sections.table kind actors channels times sizes))))))))

pub table_of : (need_times : Bool) (tree : Node) → Rules (Sections.table_of need_times tree)
unfolding Sections.table_of
table_of need_times tree =
    then (Sections.root_of tree) _ (root_of tree) (λ root.
    then (TreeSteps.required field.TypeWord file root) _ (required field.TypeWord file root) (λ word.
    then (Sections.kind_in word) _ (kind_in word) (λ kind.
    then (TreeSteps.one field.ApplicationGraph file root) _ (one field.ApplicationGraph file root) (λ graph.
    graph_in kind file need_times graph))))

-- ---- faults, of any walk that answers broken rules alone

fault_is : {T : Type 0} (walk : Node → Result T ReadError) (rules : (e : Node) → Rules (walk e)) (bytes : List ℕ) (e : Node) → IsText e bytes → (refusal : ReadError) → Fails refusal (walk e) → IsFirstFaultOf walk bytes refusal
fault_is walk rules bytes e spelled error.NoMemory fails = tt
fault_is walk rules bytes e spelled (error.Text fault) fails = absurd (subst (λ r. IfErr r IsRule) (fails (λ same. cc)) (rules e))
fault_is walk rules bytes e spelled refusal fails = (e, spelled, fails (λ same. cc))

-- the first rule that the tree breaks is the first fault of the bytes that spell it
pub first_fault : {T : Type 0} (walk : Node → Result T ReadError) (rules : (e : Node) → Rules (walk e)) (bytes : List ℕ) (e : Node) → IsText e bytes → (result : Result T ReadError) → Gives (λ t. t) result (walk e) → IfErr result (IsFirstFaultOf walk bytes)
first_fault walk rules bytes e spelled (Ok t) gives = tt
first_fault walk rules bytes e spelled (Err refusal) gives = fault_is walk rules bytes e spelled refusal gives

refused : {T : Type 0} (walk : Node → Result T ReadError) (bytes : List ℕ) (fault : TextError) → (fault ≡ text.NoMemory) ⊎ FirstFault bytes fault → IsFirstFaultOf walk bytes (text_refusal fault)
refused walk bytes text.NoMemory h = tt
refused walk bytes (text.Syntax place) h = elim h [ inl e ↦ absurd cc | inr first ↦ first ]
refused walk bytes (text.Unsupported place what) h = elim h [ inl e ↦ absurd cc | inr first ↦ first ]
refused walk bytes (text.TooDeep place) h = elim h [ inl e ↦ absurd cc | inr first ↦ first ]

-- the first fault of a text refuses it
pub text_fault : {T : Type 0} (walk : Node → Result T ReadError) (bytes : List ℕ) (fault : TextError) (refusal : ReadError) → refusal ≡ text_refusal fault → (fault ≡ text.NoMemory) ⊎ FirstFault bytes fault → IsFirstFaultOf walk bytes refusal
text_fault walk bytes fault refusal is h = subst (IsFirstFaultOf walk bytes) (sym is) (refused walk bytes fault h)

-- a text that is spelled is refused for want of memory alone
pub text_exact : {T : Type 0} (fault : TextError) (refusal : ReadError) (read : Result T ReadError) → refusal ≡ text_refusal fault → fault ≡ text.NoMemory → Fails refusal read
text_exact fault refusal read is none other = absurd (other (is ∙ ap text_refusal none))
