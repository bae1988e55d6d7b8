use Rattle.history_text.proofs.Found.{read_found, read_only, read_refused, read_none}
use Rattle.history_text.proofs.read.read_history.Goals as goal

pub returns-clause-found : goal.returns-clause-found
returns-clause-found c = read_found c.args.bytes.now c.history_of.result c.history_of.ensures.reads

pub returns-clause-only : goal.returns-clause-only
returns-clause-only c = read_only c.args.bytes.now c.history_of.result c.history_of.ensures.reads

pub returns-clause-refused : goal.returns-clause-refused
returns-clause-refused c = read_refused c.args.bytes.now c.history_of.result c.history_of.ensures.reads

pub returns-clause-none : goal.returns-clause-none
returns-clause-none c = read_none c.args.bytes.now c.history_of.result c.history_of.ensures.reads
