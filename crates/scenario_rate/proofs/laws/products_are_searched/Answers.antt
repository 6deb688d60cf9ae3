use Rattle.scenario_rate.proofs.ProductsAreSound.{searched}
use Rattle.scenario_rate.proofs.laws.products_are_searched.Goals as goal

pub returns : goal.returns
returns c = searched
