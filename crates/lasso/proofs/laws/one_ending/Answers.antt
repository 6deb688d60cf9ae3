use Rattle.lasso.proofs.OneEnding.{one-found, found-or-spent, found-or-many, spent-or-many, loop-or-spent, loop-or-many}
use Rattle.lasso.proofs.laws.one_ending.Goals as goal

pub returns-clause-table : goal.returns-clause-table
returns-clause-table c = λ net states others table other laws fed one two. one-found net laws fed states others table other one two

pub returns-clause-found_or_spent : goal.returns-clause-found_or_spent
returns-clause-found_or_spent c = λ net states table laws fed found. found-or-spent net laws fed states table found

pub returns-clause-found_or_many : goal.returns-clause-found_or_many
returns-clause-found_or_many c = λ net states table laws fed found. found-or-many net laws fed states table found

pub returns-clause-spent_or_many : goal.returns-clause-spent_or_many
returns-clause-spent_or_many c = λ net states laws fed spent. spent-or-many net laws fed states spent

pub returns-clause-not_spent : goal.returns-clause-not_spent
returns-clause-not_spent c = λ net states entry period laws fed loop number. loop-or-spent net laws fed states entry period loop number

pub returns-clause-not_many : goal.returns-clause-not_many
returns-clause-not_many c = λ net states entry period laws fed loop few. loop-or-many net laws fed states entry period loop few
