use Rattle.sd_base.proofs.FileNets.{widened}
use Rattle.sd_laws.specs.Endings.{DueIsOne}
use Rattle.sd_laws.proofs.SharedSteps.{FileLaws}
use Rattle.sd_laws.proofs.WordsDecideCommands.{course_decides}
use Rattle.sd_laws.proofs.OneWorst.{ScenarioLaws}
use Rattle.sd_laws.proofs.DecidedRunsEnd.{due_is_answered, else_is_done}
use Rattle.sd_laws.proofs.CompleteThroughput.{throughput_is_complete}
use Rattle.sd_laws.proofs.CompleteStorage.{storage_is_complete}
use Rattle.sd_laws.proofs.CompleteGenerate.{generate_is_complete}
use Rattle.sd_laws.proofs.ValidPuts.{rates_put_are_valid}
use Rattle.sd_laws.proofs.ValidTradeOffPuts.{trade_offs_put_are_valid}
use Rattle.sd_laws.proofs.ValidWorstPuts.{worst_rates_put_are_valid}
use Rattle.sd_laws.proofs.AcceptedPuts.{puts_are_accepted}
use Rattle.sd_laws.proofs.CompleteCertificates.{check_is_complete, convert_is_complete}
use Rattle.sd_laws.proofs.CompleteNets.{complete_is_complete, expand_is_complete}
use Rattle.sd_laws.proofs.CompleteOrdered.{ordered_is_complete, orders_are_kept}
use Rattle.sd_laws.proofs.FastestPoints.{fastest_points_are_last}
use Rattle.sd_laws.proofs.OneOrder.{OrderLaws}
use Rattle.sd_laws.proofs.ReadExpansions.{expansions_are_read}
use Rattle.sd_laws.proofs.CompleteOthers.{repetition_is_complete, scenario_is_complete}
use Rattle.sd_laws.proofs.CompleteScenarioStorage.{scenario_storage_is_complete}
use Rattle.sd_laws.proofs.laws.know_endings.Goals as goal

-- what the calls tell
laws : goal.After-named_orders_fit → FileLaws
laws c = record {
  one = c.one_answer.ensures;
  table = c.know_files.ensures.table;
  fault = c.know_files.ensures.fault;
  either = c.know_files.ensures.either;
  keeps = c.know_files.ensures.keeps;
  timed = c.know_files.ensures.timed;
  lawful = λ g gamma no_overlap rules. c.file_nets_are_lawful.ensures g gamma no_overlap (widened g rules);
  nets = record {
    ends = c.ending_counts_are_one.ensures.one;
    live = c.blocking_counts_bound_each_schedule.ensures.live;
    spent = c.one_ending.ensures.spent_or_many;
    not_spent = c.one_ending.ensures.not_spent;
    not_many = c.one_ending.ensures.not_many;
    found_spent = c.one_ending.ensures.found_or_spent;
    found_many = c.one_ending.ensures.found_or_many;
  };
}

scenarios : goal.After-named_orders_fit → ScenarioLaws
scenarios c = record {
  file = c.know_scenario_files.ensures.file;
  fault = c.know_scenario_files.ensures.fault;
  either = c.know_scenario_files.ensures.either;
  keeps = c.know_scenario_files.ensures.keeps;
  one_matrix = c.matrices_are_one.ensures;
}

orders : goal.After-named_orders_fit → OrderLaws
orders c = record {
  lawful = c.ordered_nets_are_lawful.ensures.lawful;
  few = c.ordered_nets_are_lawful.ensures.few;
  rate = c.ordered_nets_have_the_greatest_rate.ensures;
  orders = c.named_orders_fit.ensures.orders;
  pairs = c.named_orders_fit.ensures.pairs;
}

one : goal.After-named_orders_fit → DueIsOne
one c words files refusal n m ending tells = course_decides (laws c) (scenarios c) (orders c) files tells words refusal n m ending

pub returns-clause-one : goal.returns-clause-one
returns-clause-one c = one c

pub returns-clause-due : goal.returns-clause-due
returns-clause-due c = due_is_answered (one c)

pub returns-clause-done : goal.returns-clause-done
returns-clause-done c = else_is_done

pub returns-clause-throughput : goal.returns-clause-throughput
returns-clause-throughput c = throughput_is_complete (laws c)

pub returns-clause-storage : goal.returns-clause-storage
returns-clause-storage c = storage_is_complete (laws c)

pub returns-clause-generate : goal.returns-clause-generate
returns-clause-generate c = generate_is_complete (laws c)

pub returns-clause-valid : goal.returns-clause-valid
returns-clause-valid c = record {
  rates = rates_put_are_valid (laws c);
  trade_offs = trade_offs_put_are_valid (laws c) c.storage_certificates_are_valid.ensures;
  worst_rates = worst_rates_put_are_valid;
}

pub returns-clause-accepted : goal.returns-clause-accepted
returns-clause-accepted c = puts_are_accepted (laws c) (scenarios c) c.storage_certificates_are_valid.ensures

pub returns-clause-check : goal.returns-clause-check
returns-clause-check c = check_is_complete

pub returns-clause-repetition : goal.returns-clause-repetition
returns-clause-repetition c = repetition_is_complete

pub returns-clause-scenario : goal.returns-clause-scenario
returns-clause-scenario c = scenario_is_complete

pub returns-clause-scenario_storage : goal.returns-clause-scenario_storage
returns-clause-scenario_storage c = scenario_storage_is_complete

pub returns-clause-expand : goal.returns-clause-expand
returns-clause-expand c = expand_is_complete

pub returns-clause-read : goal.returns-clause-read
returns-clause-read c = expansions_are_read (laws c) c.know_files.ensures.writable

pub returns-clause-ordered : goal.returns-clause-ordered
returns-clause-ordered c = ordered_is_complete (laws c) (orders c)

pub returns-clause-orders : goal.returns-clause-orders
returns-clause-orders c = orders_are_kept (laws c) (orders c)

pub returns-clause-complete : goal.returns-clause-complete
returns-clause-complete c = complete_is_complete (laws c)

pub returns-clause-convert : goal.returns-clause-convert
returns-clause-convert c = convert_is_complete

pub returns-clause-fastest : goal.returns-clause-fastest
returns-clause-fastest c = fastest_points_are_last c.points_to_the_greatest_rate_are_all.ensures
