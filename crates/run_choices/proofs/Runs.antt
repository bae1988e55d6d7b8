-- For each run there are numbers by which just it is made.
use Rattle.std.proofs.Common.{◌≡◌, List, [], ◌∷◌, ◌++◌, Some, refl, sym, ap, subst, ◌∙◌}
use Rattle.np_syntax.specs.Options.{◌>>=◌}
use Rattle.np_syntax.specs.declared.event.Event.{Event}
use Rattle.np_syntax.proofs.Options.{done, then}
use Rattle.np_calculus.specs.Config.{Config}
use Rattle.np_calculus.specs.Reductions.{apply, run}
use Rattle.np_serial.proofs.SerialEvents.{run-push}
use Rattle.run_choices.specs.Choices.{choice_of, event_by}
use Rattle.run_choices.specs.Held.{Held, Lists}
use Rattle.run_choices.specs.Runs.{EachRun, MakesFrom, Orders, Turn, event_made}
use Rattle.run_choices.proofs.Chosen.{each-is-picked}
use Rattle.run_choices.proofs.Named.{each-is-named}

-- an event that is enabled is made by some turn of a list that has all choices
turn-for : (c d : Config) (h : Held) (e : Event) → Lists c h → apply c e ≡ Some d → (t : Turn) × (event_made h c t ≡ Some e)
turn-for c d h e l applies =
    let n = each-is-named c d e applies in
    let p = each-is-picked c h (choice_of e) l n.choice in
    (record { draw = p.0; first = n.first; second = n.second }, ap (λ o. o >>= λ s. event_by c s n.first n.second) p.1 ∙ n.gives)

pub same-next : (c d f : Config) (e : Event) → apply c e ≡ Some d → apply c e ≡ Some f → d ≡ f
same-next c d f e one two = let same : Some d ≡ Some f = sym one ∙ two in sym (done same)

module _ (start : Config) (order : List Event → Held) (orders : Orders start order) where
  makes : (events made : List Event) (c last : Config) → run start made ≡ Some c → run c events ≡ Some last → (turns : List Turn) × MakesFrom order made c turns events
  makes [] made c last reached h = ([], tt)
  makes (e ∷ es) made c last reached h = then (apply c e) _ h λ d applies rest.
      let t = turn-for c d (order made) e (orders made c reached) applies in
      let later = makes es (made ++ e ∷ []) d last (run-push start made e c d reached applies) rest in (
        t.0 ∷ later.0,
        (t.1, λ f other. subst (λ (x : Config). MakesFrom order (made ++ e ∷ []) x later.0 es) (same-next c d f e applies other) later.1),
      )

pub each-run : EachRun
each-run start last order orders events h = makes start order orders events [] start last refl h
