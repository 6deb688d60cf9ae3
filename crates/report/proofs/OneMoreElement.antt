-- One more element of a text that is written element by element.
use Rattle.std.proofs.Common.{◌≡◌, ℕ, ◌+◌, ◌<◌, ◌≤◌, List, [], ◌∷◌, ◌++◌, length, take, drop, get_or, refl, sym, ap, ◌∙◌, add-one}
use Rattle.std.proofs.Math.Seq.{drop-cons}
use Rattle.std.proofs.lemmas.List.{append_assoc, append-nil, at_drop_all}
use Rattle.std.specs.List.{flat_map}
use Rattle.sd_base.specs.declared.tables.ActorRow.{ActorRow}
use Rattle.sd_base.specs.declared.tables.GraphFile.{GraphFile}
use Rattle.balance.specs.declared.walk.WalkStep.{WalkStep}
use Rattle.report.specs.WalkTexts.{more_steps, step_text}
use Rattle.sd_base.specs.Net.{Net}
use Rattle.sd_base.proofs.ElementsKeepPlaces.{flat_end, piece_next}
use Rattle.periodic.specs.declared.schedule.Periodic.{Periodic}
use Rattle.pareto_front.specs.declared.point.Point.{Point}
use Rattle.critical.specs.declared.cycle.CycleStep.{CycleStep}
use Rattle.critical.specs.declared.cycle.NeedCycle.{NeedCycle}
use Rattle.report.specs.ListTexts.{lines_of}
use Rattle.report.specs.LinkTexts.{actor_lines}
use Rattle.report.specs.ScheduleTexts.{schedule_header, spaced, starts_line, schedule_lines}
use Rattle.report.specs.CycleTexts.{cycle_header, step_on, cycle_lines}
use Rattle.report.specs.StorageTexts.{point_text, points_header, points_lines}
use Rattle.report.specs.AnswerTexts.{number_line, repetition_header, repetition_lines, rate_line, rate_lines}

lines-nil : {R V : Type 0} (line : R → V → List ℕ) (vs : List V) → lines_of line [] vs ≡ []
unfolding lines_of
lines-nil line vs = refl

lines-drop : {R V : Type 0} (line : R → V → List ℕ) (rows : List R) (vs : List V) (i : ℕ) (d : V) (row : R) → i < length rows → i < length vs
    → lines_of line (drop i rows) (drop i vs) ≡ line (get_or rows i row) (get_or vs i d) ++ lines_of line (drop (i + 1) rows) (drop (i + 1) vs)
unfolding lines_of
lines-drop line rows vs i d row h k = rw (add-one, drop-cons rows i row h, drop-cons vs i d k) refl

-- a line more
pub lines_more : {R V : Type 0} (line : R → V → List ℕ) (text whole new : List ℕ) (rows : List R) (vs : List V) (i : ℕ) (v d : V) (row : R)
    → i < length rows → i < length vs → v ≡ get_or vs i d
    → text ++ lines_of line (drop i rows) (drop i vs) ≡ whole → new ≡ text ++ line (get_or rows i row) v
    → new ++ lines_of line (drop (i + 1) rows) (drop (i + 1) vs) ≡ whole
lines_more line text whole new rows vs i v d row h k value kept is =
    piece_next text _ _ _ whole new (lines-drop line rows vs i d row h k) kept (is ∙ ap (λ x. text ++ line (get_or rows i row) x) value)

-- an actor's line more
pub lines_next : {V : Type 0} (line : List ℕ → V → List ℕ) (text whole new name : List ℕ) (rows shown : List ActorRow) (vs : List V) (i : ℕ) (v d : V) (row : ActorRow)
    → i < length rows → i < length vs → shown ≡ rows → name ≡ (get_or shown i row).name → v ≡ get_or vs i d
    → text ++ actor_lines line (drop i rows) (drop i vs) ≡ whole → new ≡ text ++ line name v
    → new ++ actor_lines line (drop (i + 1) rows) (drop (i + 1) vs) ≡ whole
lines_next line text whole new name rows shown vs i v d row h k same named value kept is =
    lines_more (λ (a : ActorRow) x. line a.name x) text whole new rows vs i v d row h k value kept
    (is ∙ ap (λ (l : List ℕ). text ++ line l v) (named ∙ ap (λ (rs : List ActorRow). (get_or rs i row).name) same))

-- no line is left where no row is left
pub lines_end : {R V : Type 0} (line : R → V → List ℕ) (text whole : List ℕ) (rows : List R) (vs : List V) (i : ℕ) → length rows ≤ i
    → text ++ lines_of line (drop i rows) (drop i vs) ≡ whole → text ≡ whole
lines_end line text whole rows vs i past kept =
    sym (append-nil text) ∙ ap (λ (l : List ℕ). text ++ l) (sym (at_drop_all (λ r. lines_of line r (drop i vs)) rows i past ∙ lines-nil line (drop i vs))) ∙ kept

pub lines_start : (g : GraphFile) (vs text : List ℕ) → text ≡ repetition_header (length g.actors) → text ++ actor_lines number_line (drop 0 g.actors) (drop 0 vs) ≡ repetition_lines g vs
unfolding repetition_lines
lines_start g vs text is = ap (λ (l : List ℕ). l ++ actor_lines number_line g.actors vs) is

pub points_start : (g : GraphFile) (points : List Point) (schedules : List Periodic) (text : List ℕ) → text ≡ points_header (length points)
    → text ++ lines_of (point_text g) (drop 0 points) (drop 0 schedules) ≡ points_lines g points schedules
unfolding points_lines
points_start g points schedules text is = ap (λ (l : List ℕ). l ++ lines_of (point_text g) points schedules) is

walk-nil : (g : GraphFile) → more_steps g [] ≡ []
unfolding more_steps
walk-nil g = refl

walk-drop : (g : GraphFile) (ss : List WalkStep) (i : ℕ) (d : WalkStep) → i < length ss
    → more_steps g (drop i ss) ≡ (32 ∷ []) ++ (step_text g (get_or ss i d) ++ more_steps g (drop (i + 1) ss))
unfolding more_steps
walk-drop g ss i d h = rw (add-one, drop-cons ss i d h) refl

-- one step of a walk more
pub steps_next : (g : GraphFile) (text spaced new whole : List ℕ) (ss : List WalkStep) (i : ℕ) (d : WalkStep) → i < length ss
    → text ++ more_steps g (drop i ss) ≡ whole → spaced ≡ text ++ 32 ∷ [] → new ≡ spaced ++ step_text g (get_or ss i d)
    → new ++ more_steps g (drop (i + 1) ss) ≡ whole
steps_next g text spaced new whole ss i d h kept space is =
    piece_next text ((32 ∷ []) ++ step_text g (get_or ss i d)) _ _ whole new
    (walk-drop g ss i d h ∙ sym (append_assoc (32 ∷ []) (step_text g (get_or ss i d)) (more_steps g (drop (i + 1) ss)))) kept
    (is ∙ ap (λ (l : List ℕ). l ++ step_text g (get_or ss i d)) space ∙ append_assoc text (32 ∷ []) (step_text g (get_or ss i d)))

pub steps_end : (g : GraphFile) (text whole : List ℕ) (ss : List WalkStep) (i : ℕ) → length ss ≤ i
    → text ++ more_steps g (drop i ss) ≡ whole → text ≡ whole
steps_end g text whole ss i past kept =
    sym (append-nil text) ∙ ap (λ (l : List ℕ). text ++ l) (sym (at_drop_all (λ r. more_steps g r) ss i past ∙ walk-nil g)) ∙ kept

-- two pieces one after the other
joined : (start first second text : List ℕ) → text ≡ (start ++ first) ++ second → text ≡ start ++ (first ++ second)
joined start first second text is = is ∙ append_assoc start first second

pub schedule_end : (g : GraphFile) (schedule : Periodic) (start headed text : List ℕ) (i : ℕ) → length g.actors ≤ i → headed ≡ start ++ schedule_header schedule.period schedule.rounds
    → text ++ actor_lines starts_line (drop i g.actors) (drop i schedule.starts) ≡ headed ++ actor_lines starts_line g.actors schedule.starts → text ≡ start ++ schedule_lines g schedule
unfolding schedule_lines
schedule_end g schedule start headed text i past header kept =
    joined start (schedule_header schedule.period schedule.rounds) (actor_lines starts_line g.actors schedule.starts) text
    (lines_end (λ (a : ActorRow) starts. starts_line a.name starts) text (headed ++ actor_lines starts_line g.actors schedule.starts) g.actors schedule.starts i past kept ∙ ap (λ (l : List ℕ). l ++ actor_lines starts_line g.actors schedule.starts) header)

pub cycle_end : (g : GraphFile) (net : Net) (cycle : NeedCycle) (start headed text : List ℕ) (steps : List CycleStep) (i : ℕ) → steps ≡ cycle.steps → length steps ≤ i
    → headed ≡ start ++ cycle_header g cycle.time cycle.rounds cycle.first → text ≡ headed ++ flat_map (step_on g net) (take i steps) → text ≡ start ++ cycle_lines g net cycle
unfolding cycle_lines
cycle_end g net cycle start headed text steps i same past header kept =
    joined start (cycle_header g cycle.time cycle.rounds cycle.first) (flat_map (step_on g net) cycle.steps) text
    (flat_end (step_on g net) headed text steps i past kept ∙ (ap (λ (l : List ℕ). l ++ flat_map (step_on g net) steps) header ∙ ap (λ ss. (start ++ cycle_header g cycle.time cycle.rounds cycle.first) ++ flat_map (step_on g net) ss) same))

pub rate_end : (g : GraphFile) (net : Net) (schedule : Periodic) (cycle : NeedCycle) (empty rated scheduled text : List ℕ) → empty ≡ [] → rated ≡ empty ++ rate_line schedule.rounds schedule.period
    → scheduled ≡ rated ++ schedule_lines g schedule → text ≡ scheduled ++ cycle_lines g net cycle → text ≡ rate_lines g net schedule cycle
unfolding rate_lines
rate_end g net schedule cycle empty rated scheduled text none first second third =
    joined (rate_line schedule.rounds schedule.period) (schedule_lines g schedule) (cycle_lines g net cycle) text
    (third ∙ ap (λ (l : List ℕ). l ++ cycle_lines g net cycle) (second ∙ ap (λ (l : List ℕ). l ++ schedule_lines g schedule) (first ∙ ap (λ (l : List ℕ). l ++ rate_line schedule.rounds schedule.period) none)))
