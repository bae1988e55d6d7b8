use Rattle.std.proofs.Common.{◌≤◌, ◌+◌, ◌++◌, [], ◌∷◌, Some, sym, ap, subst, ◌∙◌, arith}
use Rattle.agent_index.specs.Lanes.{Laned, free}
use Rattle.agent_index.proofs.LaneLaws.{entered-rooms, entered-filled, more-outputs, more-inputs, gives-set, takes-set, after-put}
use Rattle.agent_index.proofs.lanes.Lanes.enter.Goals as goal

pub invariant_of-self : goal.invariant_of-self
invariant_of-self c =
    let inside = c.self.inside in
    let inv = c.self.invariant in
    let room : 1 ≤ free inside.first + free inside.second = subst (λ (l : Laned). 1 ≤ l.spare) (sym c.self.view_is) c.requires in
    let come = c.enter_output.ensures.come in
    let owed = c.owe.ensures.free in
    record {
      rooms = entered-rooms inside.table.items c.enter_output.new.table.items inside.first inside.second c.owe.new.first c.owe.new.second c.in-Gives.chan come.before come.after come.items
          inv.rooms room come.opened come.gains.room c.owe.ensures;
      filled = entered-filled inside.table.items c.enter_output.new.table.items inside.first inside.second c.owe.new.first c.owe.new.second c.in-Gives.chan come.before come.after come.items
          inv.filled (more-outputs come.after come.before.outputs c.args.mark come.gains.outputs);
      places = let p = inv.places in let o = c.enter_output.ensures.spare in omega (arith, p, o, owed);
      stock = let p = inv.stock in let o = c.enter_output.ensures.stock in omega (arith, p, o, owed);
      stocked = c.enter_output.ensures.stocked;
    }

pub returns-in-Gives-clause-lines : goal.returns-in-Gives-clause-lines
returns-in-Gives-clause-lines c =
    let items = c.self.inside.table.items in
    let come = c.enter_output.ensures.come in
    rw (← c.self.view_is, c.in-Gives.is)
    (gives-set items c.enter_output.new.table.items c.in-Gives.chan (Some come.after)
    (after-put items c.enter_output.new.table.items c.in-Gives.chan come.after come.items) _
    (come.gains.outputs ∙ ap (λ xs. xs ++ c.args.mark ∷ []) come.opened.outputs) (come.gains.inputs ∙ come.opened.inputs))

pub invariant_of-self-in-Takes : goal.invariant_of-self-in-Takes
invariant_of-self-in-Takes c =
    let inside = c.self.inside in
    let inv = c.self.invariant in
    let room : 1 ≤ free inside.first + free inside.second = subst (λ (l : Laned). 1 ≤ l.spare) (sym c.self.view_is) c.requires in
    let come = c.enter_input.ensures.come in
    let owed = c.owe-in-Takes.ensures.free in
    record {
      rooms = entered-rooms inside.table.items c.enter_input.new.table.items inside.first inside.second c.owe-in-Takes.new.first c.owe-in-Takes.new.second c.in-Takes.chan come.before come.after come.items
          inv.rooms room come.opened come.gains.room c.owe-in-Takes.ensures;
      filled = entered-filled inside.table.items c.enter_input.new.table.items inside.first inside.second c.owe-in-Takes.new.first c.owe-in-Takes.new.second c.in-Takes.chan come.before come.after come.items
          inv.filled (more-inputs come.after come.before.inputs c.args.mark come.gains.inputs);
      places = let p = inv.places in let o = c.enter_input.ensures.spare in omega (arith, p, o, owed);
      stock = let p = inv.stock in let o = c.enter_input.ensures.stock in omega (arith, p, o, owed);
      stocked = c.enter_input.ensures.stocked;
    }

pub returns-in-Takes-clause-lines : goal.returns-in-Takes-clause-lines
returns-in-Takes-clause-lines c =
    let items = c.self.inside.table.items in
    let come = c.enter_input.ensures.come in
    rw (← c.self.view_is, c.in-Takes.is)
    (takes-set items c.enter_input.new.table.items c.in-Takes.chan (Some come.after)
    (after-put items c.enter_input.new.table.items c.in-Takes.chan come.after come.items) _
    (come.gains.inputs ∙ ap (λ xs. xs ++ c.args.mark ∷ []) come.opened.inputs) (come.gains.outputs ∙ come.opened.outputs))
