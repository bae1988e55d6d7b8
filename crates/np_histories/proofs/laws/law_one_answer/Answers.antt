use Rattle.np_histories.proofs.Once as once
use Rattle.np_histories.proofs.laws.law_one_answer.Goals as goal

pub returns : goal.returns
returns c = record {
  not_both = once.not_both;
  same_fault = once.same_fault;
  status = once.fault_status;
  same_events = once.events_once;
  run_not_both = once.run_not_both;
  same_run_fault = once.same_run_fault;
  run_status = once.run_fault_status;
}
