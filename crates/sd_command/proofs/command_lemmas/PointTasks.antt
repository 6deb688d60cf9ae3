-- Tasks of points, before and after their runs.
use Rattle.std.proofs.Common.{◌≡◌, ℕ, zero, suc, ◌+◌, ◌<◌, ◌≤◌, List, [], ◌∷◌, ◌++◌, All, length, take, drop, get_or, length-append, Option, Some, None, Result, Ok, refl, sym, ap, subst, ◌∙◌, append_assoc, arith}
use Rattle.std.specs.Prelude.{Contains}
use Rattle.std.specs.List.{AllZip}
use Rattle.std.proofs.lemmas.List.{append-nil, take_all, take_more}
use Rattle.std.proofs.lemmas.List.Elements.{Contains-get_or}
use Rattle.std.proofs.lemmas.Slice.Zip.{AllZip-long}
use Rattle.sd_base.specs.declared.memory.NoMemory.{NoMemory}
use Rattle.sd_base.specs.declared.tables.GraphFile.{GraphFile}
use Rattle.sd_base.specs.declared.limits.Limits.{Limits}
use Rattle.sd_base.specs.declared.limits.TheConstants.{STORAGE}
use Rattle.sd_base.specs.Net.{Net}
use Rattle.periodic.specs.declared.schedule.Periodic.{Periodic}
use Rattle.pareto_front.specs.declared.point.Point.{Point}
use Rattle.explore.specs.Reachable.{IsExplorable}
use Rattle.pareto_search.specs.TradeOffs.{IsTradeOff}
use Rattle.fanout.specs.JobRuns.{EachRan}
use Rattle.fanout.proofs.TaskLists.{slice-back}
use Rattle.report.specs.LinkTexts.{IsNamed}
use Rattle.report.specs.ListTexts.{lines_of}
use Rattle.report.specs.StorageTexts.{point_text, points_header, points_lines}
use Rattle.sd_command.specs.declared.commands.shown_points.ShownPoint.{ShownPoint}
use Rattle.sd_command.specs.commands.Points.{IsPointSchedule}
use Rattle.sd_command.specs.inside.PointTasks.{HasShown, IsShowable, IsShown, IsTaskOf}
use Rattle.sd_command.proofs.command_lemmas.PointSchedules.{zip-more}

-- ---- lists side by side

zip-at : {A B : Type 0} (R : A → B → Type 0) (xs : List A) (ys : List B) (k : ℕ) (d : A) (e : B) → AllZip R xs ys → k < length ys → R (get_or xs k d) (get_or ys k e)
zip-at R [] [] k d e all below = absurd (omega arith)
zip-at R [] (y ∷ ys) k d e all below = absurd all
zip-at R (x ∷ xs) [] k d e all below = absurd all
zip-at R (x ∷ xs) (y ∷ ys) zero d e all below = all.0
zip-at R (x ∷ xs) (y ∷ ys) (suc k) d e all below = zip-at R xs ys k d e all.1 (omega arith)

-- the element that stands beside the next one
zip-next : {A B : Type 0} (R : A → B → Type 0) (xs : List A) (ys : List B) (k : ℕ) (e : B) → AllZip R xs ys → k < length ys
    → (x : A) × (take (k + 1) xs ≡ take k xs ++ x ∷ []) × R x (get_or ys k e)
zip-next R [] [] k e all below = absurd (omega arith)
zip-next R [] (y ∷ ys) k e all below = absurd all
zip-next R (x ∷ xs) [] k e all below = absurd all
zip-next R (x ∷ xs) (y ∷ ys) k e all below =
    (get_or (x ∷ xs) k x, take_more (x ∷ xs) k x (omega (arith, below, AllZip-long R (x ∷ xs) (y ∷ ys) all)), zip-at R (x ∷ xs) (y ∷ ys) k x e all below)

-- one more pair of lines
lines-push : {R V : Type 0} (line : R → V → List ℕ) (Q : R → V → Type 0) (rs : List R) (vs : List V) (r : R) (v : V) → AllZip Q rs vs
    → lines_of line (rs ++ r ∷ []) (vs ++ v ∷ []) ≡ lines_of line rs vs ++ line r v
unfolding lines_of
lines-push line Q [] [] r v all = append-nil (line r v)
lines-push line Q [] (w ∷ vs) r v all = absurd all
lines-push line Q (q ∷ rs) [] r v all = absurd all
lines-push line Q (q ∷ rs) (w ∷ vs) r v all = ap (λ (l : List ℕ). line q w ++ l) (lines-push line Q rs vs r v all.1) ∙ sym (append_assoc (line q w) (lines_of line rs vs) (line r v))

-- ---- points

-- those of a trade-off can be shown
pub points-showable : (graph : GraphFile) (net : Net) (limits : Limits) → IsNamed graph net → IsExplorable net → limits.total ≤ STORAGE → (ps qs : List Point) → qs ≡ ps → IsTradeOff net limits ps
    → All (IsShowable graph net) qs
points-showable graph net limits named can small ps qs same are k d below =
    record {
      named = named;
      explorable = can;
      limits = limits;
      total = small;
      found = are.reached (get_or qs k d) (subst (λ (xs : List Point). Contains xs (get_or qs k d)) same (Contains-get_or qs k d below));
    }

-- ---- tasks

-- tasks of any kind, with a graph, a net, a point and a place for what is shown
module _ {T : Type 0} (graph_of : T → GraphFile) (net_of : T → Net) (point_of : T → Point) (shown_of : T → Option (Result ShownPoint NoMemory)) (graph : GraphFile) (net : Net) where
  abbrev pub Stands : Point → T → Type 0
  Stands p t = IsTaskOf graph net p (graph_of t) (net_of t) (point_of t)

  -- each task can run
  pub tasks-ready : (ps : List Point) (ts : List T) → All (IsShowable graph net) ps → AllZip Stands ps ts → All (λ t. IsShowable (graph_of t) (net_of t) (point_of t)) ts
  tasks-ready [] [] can stand k d below = absurd (omega arith)
  tasks-ready [] (t ∷ ts) can stand k d below = absurd stand
  tasks-ready (p ∷ ps) [] can stand k d below = absurd stand
  tasks-ready (p ∷ ps) (t ∷ ts) can stand zero d below =
      let here : IsTaskOf graph net p (graph_of t) (net_of t) (point_of t) = stand.0 in
      let a : IsShowable graph net p = can 0 p (omega arith) in
      let b = subst (λ (g : GraphFile). IsShowable g net p) (sym here.graph_is) a in
      let c = subst (λ (n : Net). IsShowable (graph_of t) n p) (sym here.net_is) b in
      subst (λ (q : Point). IsShowable (graph_of t) (net_of t) q) (sym here.point_is) c
  tasks-ready (p ∷ ps) (t ∷ ts) can stand (suc k) d below = tasks-ready ps ts (λ i e more. can (suc i) e (omega arith)) stand.1 k d (omega arith)

  -- each task shows its point after its run
  tasks-shown : (ps : List Point) (ts us : List T) → AllZip Stands ps ts → EachRan (λ x y. HasShown (graph_of x) (net_of x) (point_of x) (shown_of y)) ts us
      → AllZip (λ p u. HasShown graph net p (shown_of u)) ps us
  tasks-shown [] [] [] stand ran = tt
  tasks-shown [] [] (u ∷ us) stand ran = absurd (omega (arith, ran.many))
  tasks-shown [] (t ∷ ts) us stand ran = absurd stand
  tasks-shown (p ∷ ps) [] us stand ran = absurd stand
  tasks-shown (p ∷ ps) (t ∷ ts) [] stand ran = absurd (omega (arith, ran.many))
  tasks-shown (p ∷ ps) (t ∷ ts) (u ∷ us) stand ran =
      let here : IsTaskOf graph net p (graph_of t) (net_of t) (point_of t) = stand.0 in
      let a : HasShown (graph_of t) (net_of t) (point_of t) (shown_of u) = ran.each 0 t (omega arith) in
      let b = subst (λ (g : GraphFile). HasShown g (net_of t) (point_of t) (shown_of u)) here.graph_is a in
      let c = subst (λ (n : Net). HasShown graph n (point_of t) (shown_of u)) here.net_is b in (
        subst (λ (q : Point). HasShown graph net q (shown_of u)) here.point_is c,
        tasks-shown ps ts us stand.1 (record { many = omega (arith, ran.many); each = λ k d below. ran.each (suc k) d (omega arith) }),
      )

  -- the same of tasks that were lent as a slice, and the list behind it
  pub tasks-went : (ps : List Point) (old lent new : List T) (len : ℕ) → len ≡ length old → lent ≡ old → AllZip Stands ps old
      → EachRan (λ x y. HasShown (graph_of x) (net_of x) (point_of x) (shown_of y)) lent new
      → AllZip (λ p u. HasShown graph net p (shown_of u)) ps new × (take len (new ++ drop (length new) old) ≡ new) × (len ≡ length new)
  tasks-went ps old lent new len long same stand went =
      let ran = subst (λ (ts : List T). EachRan (λ x y. HasShown (graph_of x) (net_of x) (point_of x) (shown_of y)) ts new) same went in (
        tasks-shown ps old new stand ran,
        ap (λ (n : ℕ). take n (new ++ drop (length new) old)) long ∙ slice-back new old ran.many,
        long ∙ sym ran.many,
      )

  -- ---- the tasks are taken one after another

  module _ (ps : List Point) (us : List T) (shown : AllZip (λ p u. HasShown graph net p (shown_of u)) ps us) where
    module _ (done : List T) (u : T) (more : length done < length us) (is : u ≡ get_or us (length done) u) where
      abbrev next : (p : Point) × (take (length done + 1) ps ≡ take (length done) ps ++ p ∷ []) × HasShown graph net p (shown_of u)
      next = subst (λ (t : T). (p : Point) × (take (length done + 1) ps ≡ take (length done) ps ++ p ∷ []) × HasShown graph net p (shown_of t)) (sym is)
          (zip-next (λ p t. HasShown graph net p (shown_of t)) ps us (length done) u shown more)

      abbrev taken : take (length (done ++ u ∷ [])) ps ≡ take (length done) ps ++ next.0 ∷ []
      taken = ap (λ (n : ℕ). take n ps) (length-append done (u ∷ [])) ∙ next.1

      -- a task has something to show
      pub shows-something : shown_of u ≡ None → ⊥
      shows-something none = subst (HasShown graph net next.0) none next.2

      module _ (s : ShownPoint) (ok : shown_of u ≡ Some (Ok s)) (schedules : List Periodic) (so_far : AllZip (IsPointSchedule net) (take (length done) ps) schedules) where
        abbrev here : IsShown graph net next.0 s
        here = subst (HasShown graph net next.0) ok next.2

        pub schedules-next : AllZip (IsPointSchedule net) (take (length (done ++ u ∷ [])) ps) (schedules ++ s.schedule ∷ [])
        schedules-next = subst (λ (qs : List Point). AllZip (IsPointSchedule net) qs (schedules ++ s.schedule ∷ [])) (sym taken)
            (zip-more (IsPointSchedule net) (take (length done) ps) schedules next.0 s.schedule so_far here.schedule)

        pub text-next : (head text : List ℕ) → text ≡ head ++ lines_of (point_text graph) (take (length done) ps) schedules
            → text ++ s.lines ≡ head ++ lines_of (point_text graph) (take (length (done ++ u ∷ [])) ps) (schedules ++ s.schedule ∷ [])
        text-next head text same =
            ap (λ (l : List ℕ). l ++ s.lines) same ∙ append_assoc head (lines_of (point_text graph) (take (length done) ps) schedules) s.lines
            ∙ ap (λ (l : List ℕ). head ++ (lines_of (point_text graph) (take (length done) ps) schedules ++ l)) here.lines
            ∙ ap (λ (l : List ℕ). head ++ l) (sym (lines-push (point_text graph) (IsPointSchedule net) (take (length done) ps) schedules next.0 s.schedule so_far))
            ∙ ap (λ (qs : List Point). head ++ lines_of (point_text graph) qs (schedules ++ s.schedule ∷ [])) (sym taken)

    -- no task is left
    pub all-taken : (n : ℕ) → n ≡ length us → take n ps ≡ ps
    all-taken n whole = take_all n ps (omega (arith, whole, AllZip-long (λ p u. HasShown graph net p (shown_of u)) ps us shown))

-- the text of no points so far
pub no-lines : (graph : GraphFile) (ps : List Point) (text : List ℕ) → text ≡ points_header (length ps) → text ≡ points_header (length ps) ++ lines_of (point_text graph) [] []
unfolding lines_of
no-lines graph ps text is = is ∙ sym (append-nil (points_header (length ps)))

pub whole-text : (graph : GraphFile) (ps : List Point) (schedules : List Periodic) → points_header (length ps) ++ lines_of (point_text graph) ps schedules ≡ points_lines graph ps schedules
unfolding points_lines
whole-text graph ps schedules = refl
