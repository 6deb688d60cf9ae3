use Rattle.std.proofs.Common.{◌≡◌, inl, ⊎_elim, List, sym, ap, ◌∙◌, subst}
use Rattle.std.specs.Prelude.{Contains}
use Rattle.std.specs.declared.cmp.Ordering.TheVariants.{Less, Equal, Greater}
use Rattle.std.proofs.lemmas.Result.{on_ok_weaker}
use Rattle.sd_base.proofs.ContainedHavePlaces.{contains-none}
use Rattle.pareto_search.specs.declared.stops.Stop.{Stop}
use Rattle.pareto_search.specs.inside.Stops.{against}
use Rattle.pareto_search.proofs.StopLists.{level-none, level-put, still-less, taken-more, taken-put}
use Rattle.pareto_search.proofs.stops.keep.Goals as goal

pub returns-in-Less-clause-taken : goal.returns-in-Less-clause-taken
returns-in-Less-clause-taken c =
    on_ok_weaker c.put.result
    (taken-put c.clear.new.self.items c.put.new.stops.items c.args.stop (level-none c.clear.new.self.items c.clear.ensures.items) (ap (against c.args.stop.storage) c.clear.ensures.items) c.put.ensures.from)
    c.put.ensures.has

pub returns-in-Less-clause-still : goal.returns-in-Less-clause-still
returns-in-Less-clause-still c =
    let less : against c.args.stop.storage c.args.stops.now.items ≡ Less = ap (against c.args.stop.storage) (sym c.as_slice.ensures.value) ∙ sym c.in-Less.ensures in
    on_ok_weaker c.put.result (λ own s old. still-less c.args.stops.now.items c.put.new.stops.items c.args.stop s c.requires less own old) (returns-in-Less-clause-taken c)

pub returns-in-Less-clause-from : goal.returns-in-Less-clause-from
returns-in-Less-clause-from c = λ s has.
    ⊎_elim
    (λ (own : s ≡ c.args.stop). inl own)
    (λ (none : Contains c.clear.new.self.items s). absurd (contains-none s (subst (λ (ss : List Stop). Contains ss s) c.clear.ensures.items none)))
    (c.put.ensures.from s has)

pub returns-in-Less-clause-level : goal.returns-in-Less-clause-level
returns-in-Less-clause-level c =
    level-put c.clear.new.self.items c.put.new.stops.items c.args.stop (level-none c.clear.new.self.items c.clear.ensures.items) (ap (against c.args.stop.storage) c.clear.ensures.items) c.put.ensures.from c.put.ensures.ascending

pub returns-in-Equal-clause-taken : goal.returns-in-Equal-clause-taken
returns-in-Equal-clause-taken c =
    let equal : against c.args.stop.storage c.args.stops.now.items ≡ Equal = ap (against c.args.stop.storage) (sym c.as_slice.ensures.value) ∙ sym c.in-Equal.ensures in
    on_ok_weaker c.put-in-Equal.result (taken-put c.args.stops.now.items c.put-in-Equal.new.stops.items c.args.stop c.requires equal c.put-in-Equal.ensures.from) c.put-in-Equal.ensures.has

pub returns-in-Equal-clause-level : goal.returns-in-Equal-clause-level
returns-in-Equal-clause-level c =
    let equal : against c.args.stop.storage c.args.stops.now.items ≡ Equal = ap (against c.args.stop.storage) (sym c.as_slice.ensures.value) ∙ sym c.in-Equal.ensures in
    level-put c.args.stops.now.items c.put-in-Equal.new.stops.items c.args.stop c.requires equal c.put-in-Equal.ensures.from c.put-in-Equal.ensures.ascending

pub returns-in-Greater-clause-taken : goal.returns-in-Greater-clause-taken
returns-in-Greater-clause-taken c =
    let more : against c.args.stop.storage c.args.stops.now.items ≡ Greater = ap (against c.args.stop.storage) (sym c.as_slice.ensures.value) ∙ sym c.in-Greater.ensures in
    taken-more c.args.stops.now.items c.args.stop more
