use Rattle.std.proofs.Common.{List, rules, subst, sym}
use Rattle.std.proofs.lemmas.List.Sorted.{IsNonDecreasingBy-from_sort_by_key}
use Rattle.cert_checker.specs.declared.best_rates.Best.{Best}
use Rattle.cert_checker.specs.inside.Bests.{AreBest, ArePositive}
use Rattle.cert_checker.proofs.BestRates.{moved-positive, moved-same}
use Rattle.cert_checker.proofs.best_rates.BestRates.of.Goals as goal

pub raised-requires : goal.raised-requires
raised-requires c = subst ArePositive (sym c.deref.ensures.value) (moved-positive c.in_ok-rates.rates.items c.sort_by_key.new.self.items c.in_ok-sort_by_key.ensures.permutation c.in_ok-rates.ensures.positive)

pub returns : goal.returns
returns c = record {
  list = c.sort_by_key.new.self.items;
  order = IsNonDecreasingBy-from_sort_by_key (λ (b : Best). b.storage) _ c.in_ok-sort_by_key.ensures.sorted (λ a r q k. search rules);
  positive = moved-positive c.in_ok-rates.rates.items c.sort_by_key.new.self.items c.in_ok-sort_by_key.ensures.permutation c.in_ok-rates.ensures.positive;
  same = moved-same c.args.points.now c.in_ok-rates.rates.items c.sort_by_key.new.self.items c.in_ok-sort_by_key.ensures.permutation c.in_ok-rates.ensures.same;
  are = subst (λ (l : List Best). AreBest l c.in_ok-steps.steps.items) c.deref.ensures.value c.in_ok-steps.ensures;
}
