use Rattle.std.proofs.Common.{◌≡◌, inl, Bool, true, false, refl, subst}
use Rattle.agent_pool.specs.Rows.{ready_of}
use Rattle.site_state.specs.Doing.{IsRedone}
use Rattle.site_turn.proofs.Steps.{turned_refl}
use Rattle.site_crew.specs.Following.{HasNotRedone}
use Rattle.site_crew.proofs.Redoing.{adds_redone, differs_redone, turned_redone}
use Rattle.site_crew.proofs.again.redo.Goals as goal

pub returns-then-not-has_room-clause-turned : goal.returns-then-not-has_room-clause-turned
returns-then-not-has_room-clause-turned g c = inl (turned_refl _)

pub returns-then-not-has_room-clause-why : goal.returns-then-not-has_room-clause-why
returns-then-not-has_room-clause-why g c = λ e. HasNotRedone.full (λ room. let full : false ≡ true = c.if-not-has_room.ensures.1 room in absurd cc) refl

pub returns-then-did-clause-why : goal.returns-then-did-clause-why
returns-then-did-clause-why g c = λ e.
    let done = subst (λ (did : Bool). IsRedone c.args.code.now (ready_of c.args.event) c.args.stamp c.args.seat.now.site c.redo.new.self did) c.if-did.true c.in-Ok.ensures.ok in
    differs_redone done (c.is_last.ensures.no e)

pub returns-else-did-clause-why : goal.returns-else-did-clause-why
returns-else-did-clause-why g c = λ e.
    let stays = subst (λ (did : Bool). IsRedone c.args.code.now (ready_of c.args.event) c.args.stamp c.args.seat.now.site c.redo.new.self did) c.if-did.false c.in-Ok.ensures.ok in
    HasNotRedone.unable stays.1 stays.0

pub returns-then-did-clause-turned : goal.returns-then-did-clause-turned
returns-then-did-clause-turned g c =
    turned_redone c.args.seat.now _ (ready_of c.args.event) c.args.stamp c.redo.result c.requires.above c.redo.ensures.ok c.redo.ensures.err c.requires.seated.placed.lines refl refl refl refl

pub returns-then-did-clause-ok : goal.returns-then-did-clause-ok
returns-then-did-clause-ok g c = λ last.
    let done = subst (λ (did : Bool). IsRedone c.args.code.now (ready_of c.args.event) c.args.stamp c.args.seat.now.site c.redo.new.self did) c.if-did.true c.in-Ok.ensures.ok in
    adds_redone c.args.code.now c.args.event _ c.args.stamp c.args.seat.now _ done.done refl (c.is_last.ensures.yes last)

pub returns-else-did-clause-turned : goal.returns-else-did-clause-turned
returns-else-did-clause-turned g c =
    turned_redone c.args.seat.now _ (ready_of c.args.event) c.args.stamp c.redo.result c.requires.above c.redo.ensures.ok c.redo.ensures.err c.requires.seated.placed.lines refl refl refl refl

pub returns-in-Err-clause-turned : goal.returns-in-Err-clause-turned
returns-in-Err-clause-turned g c =
    turned_redone c.args.seat.now _ (ready_of c.args.event) c.args.stamp c.redo.result c.requires.above c.redo.ensures.ok c.redo.ensures.err c.requires.seated.placed.lines refl refl refl refl
