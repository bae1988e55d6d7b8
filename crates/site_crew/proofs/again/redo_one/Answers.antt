use Rattle.std.proofs.Common.{◌≡◌, ◌+◌, ◌-◌, ◌≤◌, Some, get_or, take, length, arith}
use Rattle.std.specs.Prelude.{slice_get}
use Rattle.std.proofs.lemmas.Option.{slice_get-get_or}
use Rattle.site_crew.specs.Following.{HaveMissed}
use Rattle.site_crew.proofs.Doing.{not_early}
use Rattle.site_crew.proofs.Crewing.{grow_refl}
use Rattle.site_crew.proofs.Enabled.{followed_one, is_coming, is_own, is_post, no_event, no_post, take-length}
use Rattle.site_crew.proofs.Redoing.{on_any, on_no, on_yes}
use Rattle.site_crew.proofs.again.redo_one.Goals as goal

pub bring-requires-clause-early : goal.bring-requires-clause-early
bring-requires-clause-early g c κs within =
    let few : length (take c.args.k c.args.events.now) ≡ c.args.k = take-length c.args.events.now c.args.k (omega arith) in
    not_early c.requires.done (c.args.k + 1 - 1) (omega arith)

pub redo_at-requires-clause-early : goal.redo_at-requires-clause-early
redo_at-requires-clause-early g c κs within =
    let few : length (take c.args.k c.args.events.now) ≡ c.args.k = take-length c.args.events.now c.args.k (omega arith) in
    not_early c.requires.done (c.args.k + 1 - 1) (omega arith)

pub redo_at-requires-clause-above : goal.redo_at-requires-clause-above
redo_at-requires-clause-above g c κs within = λ s at.
    let few : length (take c.args.k c.args.events.now) ≡ c.args.k = take-length c.args.events.now c.args.k (omega arith) in
    let low : s.site.clock ≤ length (take c.args.k c.args.events.now) = c.requires.done.clocks _ s at in
    omega arith

pub bring-requires-clause-clocks : goal.bring-requires-clause-clocks
bring-requires-clause-clocks g c κs within = λ i s at.
    let few : length (take c.args.k c.args.events.now) ≡ c.args.k = take-length c.args.events.now c.args.k (omega arith) in
    let low : s.site.clock ≤ length (take c.args.k c.args.events.now) = c.requires.done.clocks i s at in
    omega arith

pub returns-then-comes-clause-ok : goal.returns-then-comes-clause-ok
returns-then-comes-clause-ok g c =
    let es = c.args.events.now in let k = c.args.k in let e = get_or es k no_event in
    let at : slice_get es k ≡ Some e = slice_get-get_or es k no_event c.requires.at in
    let low : k + 1 - 1 ≤ k = omega arith in
    on_yes c.bring.result (followed_one g.P.Port c.args.code.now es k e (k + 1 - 1) c.requires.done at c.bring.ensures.stand low) c.bring.ensures.yes

pub returns-else-eq-clause-ok : goal.returns-else-eq-clause-ok
returns-else-eq-clause-ok g c =
    let es = c.args.events.now in let k = c.args.k in let e = get_or es k no_event in
    let at : slice_get es k ≡ Some e = slice_get-get_or es k no_event c.requires.at in
    let low : 0 ≤ k = omega arith in
    on_yes c.redo_at.result (followed_one g.P.Port c.args.code.now es k e 0 c.requires.done at c.redo_at.ensures.stand low) c.redo_at.ensures.ok

pub returns-else-eq-clause-clear : goal.returns-else-eq-clause-clear
returns-else-eq-clause-clear g c = on_any c.redo_at.result (c.redo_at.ensures.clear c.requires.clear)

pub returns-then-eq-clause-grow : goal.returns-then-eq-clause-grow
returns-then-eq-clause-grow g c = grow_refl _

pub returns-then-comes-clause-why : goal.returns-then-comes-clause-why
returns-then-comes-clause-why g c =
    let es = c.args.events.now in let k = c.args.k in let e = get_or es k no_event in
    let at : slice_get es k ≡ Some e = slice_get-get_or es k no_event c.requires.at in
    on_no c.bring.result (λ none. record { event = e; at = at; missed = HaveMissed.coming (is_coming e.kind c.comes.result c.comes.ensures c.if-comes.true) none }) c.bring.ensures.no

pub redo_at-requires-clause-post : goal.redo_at-requires-clause-post
redo_at-requires-clause-post g c κs within = no_post (get_or c.args.events.now c.args.k no_event).kind c.eq.result c.eq.ensures c.if-eq.false

pub returns-then-eq-clause-why : goal.returns-then-eq-clause-why
returns-then-eq-clause-why g c = λ no.
    let es = c.args.events.now in let k = c.args.k in let e = get_or es k no_event in
    let at : slice_get es k ≡ Some e = slice_get-get_or es k no_event c.requires.at in
    record { event = e; at = at; missed = HaveMissed.posts (is_post e.kind c.eq.result c.eq.ensures c.if-eq.true) }

pub returns-else-eq-clause-why : goal.returns-else-eq-clause-why
returns-else-eq-clause-why g c =
    let es = c.args.events.now in let k = c.args.k in let e = get_or es k no_event in
    let at : slice_get es k ≡ Some e = slice_get-get_or es k no_event c.requires.at in
    let own = is_own e.kind c.comes.result c.comes.ensures c.if-comes.false in
    on_no c.redo_at.result (λ none. record { event = e; at = at; missed = HaveMissed.own own (no_post e.kind c.eq.result c.eq.ensures c.if-eq.false) none }) c.redo_at.ensures.why

pub bring-requires-clause-at : goal.bring-requires-clause-at
bring-requires-clause-at g c κs within = c.is_among.ensures.yes c.if-not-is_among.false

pub redo_at-requires-clause-at : goal.redo_at-requires-clause-at
redo_at-requires-clause-at g c κs within = c.is_among.ensures.yes c.if-not-is_among.false

pub returns-then-not-is_among-clause-grow : goal.returns-then-not-is_among-clause-grow
returns-then-not-is_among-clause-grow g c = grow_refl _

pub returns-then-not-is_among-clause-why : goal.returns-then-not-is_among-clause-why
returns-then-not-is_among-clause-why g c = λ no.
    let es = c.args.events.now in let k = c.args.k in let e = get_or es k no_event in
    let at : slice_get es k ≡ Some e = slice_get-get_or es k no_event c.requires.at in
    record { event = e; at = at; missed = HaveMissed.nowhere (c.is_among.ensures.no c.if-not-is_among.true) }
