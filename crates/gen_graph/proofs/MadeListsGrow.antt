-- One more element of what is made of a list from its front.
use Rattle.std.proofs.Common.{◌≡◌, ℕ, suc, ◌+◌, ◌-◌, ◌<◌, ◌≤◌, List, [], ◌∷◌, ◌++◌, length, drop, get_or, refl, sym, ap, ◌∙◌, add-one, arith}
use Rattle.std.proofs.Math.Seq.{drop-cons}
use Rattle.std.proofs.lemmas.List.{append_assoc, append-nil, drop_all}
use Rattle.file_text.specs.Node.{Node, nodes}
use Rattle.sd_base.specs.declared.tables.ChannelRow.{ChannelRow}
use Rattle.sd_base.proofs.ElementsKeepPlaces.{piece_next}
use Rattle.gen_graph.specs.declared.made.Drawn.{Drawn}
use Rattle.gen_graph.specs.MadeGraphs.{next, drawn_after, drawn_for, made_channel, made_channels}
use Rattle.gen_graph.specs.NodeTexts.{element_text, elements_text}

-- for each element, by its place
pub place_next : {R E : Type 0} (make : ℕ → List R → List E) (piece : ℕ → R → List E) (first : (i : ℕ) (r : R) (rs : List R) → make i (r ∷ rs) ≡ piece i r ++ make (i + 1) rs)
    (rs : List R) (i : ℕ) (r d : R) (done whole new : List E) → i < length rs → r ≡ get_or rs i d
    → done ++ make i (drop i rs) ≡ whole → new ≡ done ++ piece i r → new ++ make (i + 1) (drop (i + 1) rs) ≡ whole
place_next make piece first rs i r d done whole new lt is kept here =
    let split : drop i rs ≡ r ∷ drop (i + 1) rs = rw add-one (drop-cons rs i d lt ∙ ap (λ x. x ∷ drop (suc i) rs) (sym is)) in
    piece_next done (piece i r) (make i (drop i rs)) (make (i + 1) (drop (i + 1) rs)) whole new (ap (make i) split ∙ first i r (drop (i + 1) rs)) kept here

pub place_end : {R E : Type 0} (make : ℕ → List R → List E) (none : (i : ℕ) → make i [] ≡ []) (rs : List R) (i : ℕ) (done whole : List E) → length rs ≤ i
    → done ++ make i (drop i rs) ≡ whole → done ≡ whole
place_end make none rs i done whole past kept = sym (append-nil done) ∙ (ap (λ l. done ++ l) (sym (ap (make i) (drop_all i rs past) ∙ none i)) ∙ kept)

-- one more draw
pub draw_next : (state after seed i n : ℕ) (one : Drawn) (done new : List Drawn) → i < n → one ≡ drawn_after state → after ≡ next (next state)
    → done ++ drawn_for state (n - i) ≡ drawn_for seed n → new ≡ done ++ one ∷ []
    → new ++ drawn_for after (n - (i + 1)) ≡ drawn_for seed n
draw_next state after seed i n one done new lt is steps kept here =
    let more : n - i ≡ suc (n - (i + 1)) = omega arith in
    let split : drawn_for state (n - i) ≡ one ∷ drawn_for after (n - (i + 1)) =
    ap (drawn_for state) more ∙ (ap (λ d. d ∷ drawn_for (next (next state)) (n - (i + 1))) (sym is) ∙ ap (λ x. one ∷ drawn_for x (n - (i + 1))) (sym steps)) in
    piece_next done (one ∷ []) (drawn_for state (n - i)) (drawn_for after (n - (i + 1))) (drawn_for seed n) new split kept here

pub draw_end : (state seed i n : ℕ) (done : List Drawn) → n ≤ i → done ++ drawn_for state (n - i) ≡ drawn_for seed n → done ≡ drawn_for seed n
draw_end state seed i n done past kept =
    let none : n - i ≡ 0 = omega arith in
    sym (append-nil done) ∙ (ap (λ l. done ++ l) (sym (ap (drawn_for state) none)) ∙ kept)

-- elements side by side
pub elements_joined : (xs ys : List Node) → elements_text (nodes (xs ++ ys)) ≡ elements_text (nodes xs) ++ elements_text (nodes ys)
elements_joined [] ys = refl
elements_joined (x ∷ xs) ys = ap (λ l. element_text x ++ l) (elements_joined xs ys) ∙ sym (append_assoc (element_text x) (elements_text (nodes xs)) (elements_text (nodes ys)))

-- one more channel of a chain
pub channels_next : (rest : List Drawn) (i v : ℕ) (d : Drawn) (row : ChannelRow) (done new whole : List ChannelRow) → i < length rest → row ≡ made_channel i v (get_or rest i d).weight
    → done ++ made_channels i v (drop i rest) ≡ whole → new ≡ done ++ row ∷ [] → new ++ made_channels (i + 1) (get_or rest i d).weight (drop (i + 1) rest) ≡ whole
channels_next rest i v d row done new whole lt is kept here =
    let split : drop i rest ≡ get_or rest i d ∷ drop (i + 1) rest = rw add-one (drop-cons rest i d lt) in
    piece_next done (row ∷ []) (made_channels i v (drop i rest)) (made_channels (i + 1) (get_or rest i d).weight (drop (i + 1) rest)) whole new
    (ap (made_channels i v) split ∙ ap (λ r. r ∷ made_channels (i + 1) (get_or rest i d).weight (drop (i + 1) rest)) (sym is)) kept here

pub channels_end : (rest : List Drawn) (i v : ℕ) (done whole : List ChannelRow) → length rest ≤ i → done ++ made_channels i v (drop i rest) ≡ whole → done ≡ whole
channels_end rest i v done whole past kept = sym (append-nil done) ∙ (ap (λ l. done ++ l) (sym (ap (made_channels i v) (drop_all i rest past))) ∙ kept)

-- an element that is put piece by piece
pub tag_one : (old first second third word a inside : List ℕ) → first ≡ old ++ 60 ∷ word → second ≡ first ++ a → third ≡ second ++ inside → third ≡ old ++ 60 ∷ (word ++ ((a ++ []) ++ inside))
tag_one old first second third word a inside p q r =
    r ∙ (ap (λ (l : List ℕ). l ++ inside) (q ∙ ap (λ (l : List ℕ). l ++ a) p)
    ∙ (ap (λ (l : List ℕ). l ++ inside) (append_assoc old (60 ∷ word) a) ∙ (append_assoc old (60 ∷ (word ++ a)) inside
    ∙ ap (λ (l : List ℕ). old ++ 60 ∷ l) (append_assoc word a inside ∙ ap (λ (l : List ℕ). word ++ (l ++ inside)) (sym (append-nil a))))))

pub tag_two : (old first second third fourth word a b inside : List ℕ) → first ≡ old ++ 60 ∷ word → second ≡ first ++ a → third ≡ second ++ b → fourth ≡ third ++ inside
    → fourth ≡ old ++ 60 ∷ (word ++ ((a ++ (b ++ [])) ++ inside))
tag_two old first second third fourth word a b inside p q r s =
    let both : third ≡ first ++ (a ++ b) = r ∙ (ap (λ (l : List ℕ). l ++ b) q ∙ append_assoc first a b) in
    tag_one old first third fourth word (a ++ b) inside p both s ∙ ap (λ (l : List ℕ). old ++ 60 ∷ (word ++ (l ++ inside))) (append_assoc a b [])
