use Rattle.np_sources.proofs.Once as once
use Rattle.np_sources.proofs.laws.law_one_answer.Goals as goal

pub returns : goal.returns
returns c = record {
  same_low = once.same_low;
  not_both = once.not_both;
  same_fault = once.same_fault;
  not_long = once.not_long;
  not_usage = once.not_usage;
  status = once.faulty_status;
  goes_on = once.goes_on c.law_prefix_is_ours.ensures;
  same_stop = once.same_stop;
  stop_status = once.stop_status;
}
