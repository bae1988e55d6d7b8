use Rattle.std.proofs.Common.{sym, ◌∙◌, ◌++◌, true}
use Rattle.std.specs.Prelude.{codes}
use Rattle.np_show.specs.Shown.{type_text}
use Rattle.np_low_text.specs.LowText.{binder_text, pat_text, expr_text, proc_text}
use Rattle.np_low_text.proofs.Equations.{text-new, text-inp, text-rep, text-migrate, text-let}
use Rattle.np_low_text.proofs.Pieces.{par_steps, one_step, agent_steps, iflocal_steps, if_steps, lookup_steps}
use Rattle.np_low_text.proofs.processes.+process.Goals as goal

pub put_proc-returns-in-Par : goal.put_proc-returns-in-Par
put_proc-returns-in-Par t c =
    par_steps c.args.sites.now c.args.text.now c.open_round.new.text c.put_left.new.text c.put_proc.new.text c.close_round.new.text c.args.bracket c.in-Par.p c.in-Par.q (sym c.get.ensures ∙ c.in-Par.is) c.open_round.ensures
    c.put_left.ensures c.put_proc.ensures c.close_round.ensures

pub put_proc-returns-in-New : goal.put_proc-returns-in-New
put_proc-returns-in-New t c =
    let is = c.in-New in
    let sites = c.args.sites.now in
    one_step sites c.args.text.now c.put_new.new.text c.args.bracket (codes "new " ++ binder_text is.c ++ codes " : " ++ type_text is.ty ++ codes " in " ++ proc_text sites true is.p) (sym c.get.ensures ∙ is.is) (text-new sites c.args.bracket is.c is.ty is.p) c.put_new.ensures

pub put_proc-returns-in-Inp : goal.put_proc-returns-in-Inp
put_proc-returns-in-Inp t c =
    let is = c.in-Inp in
    let sites = c.args.sites.now in
    one_step sites c.args.text.now c.put_input.new.text c.args.bracket (expr_text sites 3 is.c ++ codes "?" ++ pat_text is.pat ++ codes " -> " ++ proc_text sites true is.p) (sym c.get.ensures ∙ is.is) (text-inp sites c.args.bracket is.c is.pat is.p) c.put_input.ensures

pub put_proc-returns-in-Rep : goal.put_proc-returns-in-Rep
put_proc-returns-in-Rep t c =
    let is = c.in-Rep in
    let sites = c.args.sites.now in
    one_step sites c.args.text.now c.put_always.new.text c.args.bracket (codes "*" ++ expr_text sites 3 is.c ++ codes "?" ++ pat_text is.pat ++ codes " -> " ++ proc_text sites true is.p) (sym c.get.ensures ∙ is.is) (text-rep sites c.args.bracket is.c is.pat is.p) c.put_always.ensures

pub put_proc-returns-in-Migrate : goal.put_proc-returns-in-Migrate
put_proc-returns-in-Migrate t c =
    let is = c.in-Migrate in
    let sites = c.args.sites.now in
    one_step sites c.args.text.now c.put_migrate.new.text c.args.bracket (codes "migrate to " ++ expr_text sites 0 is.site ++ codes " -> " ++ proc_text sites true is.p) (sym c.get.ensures ∙ is.is) (text-migrate sites c.args.bracket is.site is.p) c.put_migrate.ensures

pub put_proc-returns-in-Let : goal.put_proc-returns-in-Let
put_proc-returns-in-Let t c =
    let is = c.in-Let in
    let sites = c.args.sites.now in
    one_step sites c.args.text.now c.put_let.new.text c.args.bracket (codes "let " ++ pat_text is.pat ++ codes " = " ++ expr_text sites 0 is.x ++ codes " in " ++ proc_text sites true is.p) (sym c.get.ensures ∙ is.is) (text-let sites c.args.bracket is.pat is.x is.p) c.put_let.ensures

pub put_proc-returns-in-Agent : goal.put_proc-returns-in-Agent
put_proc-returns-in-Agent t c =
    let is = c.in-Agent in
    agent_steps c.args.sites.now c.args.text.now c.put_agent.new.text c.put_left-in-Agent.new.text c.put_proc-in-Agent.new.text c.args.bracket is.b is.p is.q (sym c.get.ensures ∙ is.is) c.put_agent.ensures
    c.put_left-in-Agent.ensures c.put_proc-in-Agent.ensures

pub put_proc-returns-in-IfLocal : goal.put_proc-returns-in-IfLocal
put_proc-returns-in-IfLocal t c =
    let is = c.in-IfLocal in
    iflocal_steps c.args.sites.now c.args.text.now c.put_iflocal.new.text c.put_left-in-IfLocal.new.text c.put_proc-in-IfLocal.new.text c.args.bracket is.b is.c is.x is.p is.q (sym c.get.ensures ∙ is.is) c.put_iflocal.ensures
    c.put_left-in-IfLocal.ensures c.put_proc-in-IfLocal.ensures

pub put_proc-returns-in-If : goal.put_proc-returns-in-If
put_proc-returns-in-If t c =
    let is = c.in-If in
    if_steps c.args.sites.now c.args.text.now c.put_if.new.text c.put_left-in-If.new.text c.put_proc-in-If.new.text c.args.bracket is.test is.p is.q (sym c.get.ensures ∙ is.is) c.put_if.ensures
    c.put_left-in-If.ensures c.put_proc-in-If.ensures

pub put_proc-returns-in-Lookup : goal.put_proc-returns-in-Lookup
put_proc-returns-in-Lookup t c =
    let is = c.in-Lookup in
    lookup_steps c.args.sites.now c.args.text.now c.put_lookup.new.text c.put_left-in-Lookup.new.text c.put_proc-in-Lookup.new.text c.args.bracket is.who is.places is.found is.p is.q (sym c.get.ensures ∙ is.is) c.put_lookup.ensures
    c.put_left-in-Lookup.ensures c.put_proc-in-Lookup.ensures
