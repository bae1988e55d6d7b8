-- Each event that is enabled, and with which the run is ours, is what the sites make of some choice; and each such run can be had.
use Rattle.std.proofs.Common.{◌≡◌, ◌+◌, ℕ, Bool, true, false, cond, List, [], ◌∷◌, ◌++◌, length, take, drop, slice_get, Option, None, Some, refl, sym, ap, subst, ◌∙◌}
use Rattle.std.proofs.lemmas.List.{append_assoc}
use Rattle.std.proofs.Math.Seq.{drop-append_seam, take-append_seam}
use Rattle.std.specs.Option.{option_map, option_map_or}
use Rattle.std.specs.FinMap as map
use Rattle.np_syntax.specs.Options.{◌>>=◌}
use Rattle.np_syntax.specs.declared.event.Event.{Event}
use Rattle.np_syntax.specs.declared.event.Kind.{Kind}
use Rattle.np_syntax.specs.declared.event.Kind.TheVariants as kind
use Rattle.np_syntax.specs.declared.event.Made.TheVariants as made
use Rattle.np_syntax.specs.declared.process.ProcForm.{ProcForm-F}
use Rattle.np_syntax.specs.declared.value.Name.{Name}
use Rattle.np_syntax.proofs.Options.{done, then}
use Rattle.np_eval.specs.Eval.{Env, agent_of}
use Rattle.np_eval.specs.Forms.{Layer, layer}
use Rattle.np_calculus.specs.declared.config.Atom.{Atom}
use Rattle.np_calculus.specs.declared.config.Packet.{Packet}
use Rattle.np_calculus.specs.declared.config.Place.{Place}
use Rattle.np_calculus.specs.declared.config.Place.TheVariants as place
use Rattle.np_calculus.specs.Begins.{begun_by, event_at, made_by, made_there}
use Rattle.np_calculus.specs.Config.{Config}
use Rattle.np_calculus.specs.NotEnabled.{by_atom}
use Rattle.np_calculus.specs.Reductions.{apply, run, way}
use Rattle.np_calculus.specs.Seen.{is_at}
use Rattle.np_serial.proofs.SerialEvents.{run-push}
use Rattle.run_save.specs.declared.trips.Item.{Item}
use Rattle.run_save.specs.declared.trips.Item.TheVariants as item
use Rattle.run_save.specs.Left.{first_beside, left_on, link, names_made}
use Rattle.run_save.specs.Ours.{AreNext, IsOursFrom, IsPutFirst, TakesPutFirst, names_of}
use Rattle.run_save.specs.Travels.{Travels, on_link, travels}
use Rattle.run_save.proofs.GoingOn.{ours-goes-on}
use Rattle.run_save.proofs.RunLaws.{prefix-ours}
use Rattle.run_choices.specs.declared.choice.Choice.{Choice}
use Rattle.run_choices.specs.declared.choice.Choice.TheVariants as choice
use Rattle.run_choices.specs.declared.choice.Draw.{Draw}
use Rattle.run_choices.specs.Choices.{begun, begun_at, choice_by, choice_of, event_by}
use Rattle.run_choices.specs.Held.{Held, Lists}
use Rattle.run_choices.specs.InTurn.{EachOwnRun, EachServes, MakesInTurn, coming, event_behind, event_drawn, in_turn, in_turn_at, in_turn_of, later_name, next_name, own_event, seat, seat_of}
use Rattle.run_choices.specs.Runs.{Orders}
use Rattle.run_choices.proofs.Chosen.{each-is-picked}
use Rattle.run_choices.proofs.Named.{each-is-named}
use Rattle.run_choices.proofs.Runs.{same-next}

-- what was put first is the first that is left
pub put-first : (t : Travels) (x : Item) (site : ℕ) → IsPutFirst t x site → first_beside t x site ≡ Some x
put-first t x site p =
    ap (λ o. o >>= λ from. slice_get (left_on t (link from site)) 0) p.sent
    ∙ ap (λ xs. slice_get xs 0)
    (ap (drop (length (on_link (link p.from site) t.taken))) p.first ∙ drop-append_seam (on_link (link p.from site) t.taken) (x ∷ p.later))

-- ---- the names that an atom makes

made-tested : (t : Bool) (s n : ℕ) (f : Name) → AreNext s n (names_of (cond t (made.One f) made.Nothing)) → cond t (made.One (record { site = s; n = n })) made.Nothing ≡ cond t (made.One f) made.Nothing
made-tested true s n f h = ap made.One (sym h.0)
made-tested false s n f h = refl

made-found : (c : Config) (site : ℕ) (o : Option Name) (s n : ℕ) (f : Name) → AreNext s n (names_of (made_there c site o f)) → made_there c site o (record { site = s; n = n }) ≡ made_there c site o f
made-found c site None s n f h = refl
made-found c site (Some agent) s n f h = made-tested (is_at c agent site) s n f h

-- where they are the next names of a site, they are these
made-next : (c : Config) (site : ℕ) (env : Env) (l : Layer) (s n : ℕ) (f g : Name) → AreNext s n (names_of (made_by c site env l f g))
    → made_by c site env l (record { site = s; n = n }) (record { site = s; n = n + 1 }) ≡ made_by c site env l f g
made-next c site env (ProcForm-F.Par left right) s n f g h = ap made.One (sym h.0)
made-next c site env (ProcForm-F.New x ty body) s n f g h = ap made.One (sym h.0)
made-next c site env (ProcForm-F.Agent b body rest) s n f g h = λ i. made.Two ((sym h.0) i) ((sym h.1.0) i)
made-next c site env (ProcForm-F.IfLocal b x e met unmet) s n f g h = made-found c site (agent_of b env) s n f h
made-next c site env _ s n f g h = refl

-- an event of a choice that makes the next names of its site is the sites' own
module _ (c : Config) (made : ℕ → ℕ) (e : Event) (f g : Name) (next : AreNext e.site (made e.site) (names_of e.made)) where
  begun-own : (m : Name) (o : Option Name) → begun c m o f g ≡ Some e → begun c m o (next_name made (seat_of c m)) (later_name made (seat_of c m)) ≡ Some e
  begun-own m o named = then (map.get c.atoms m) _ named λ a there named. then (map.get c.places a.agent) _ named λ p at named.
      let seated : seat_of c m ≡ seat p = ap (λ (x : Option Atom). option_map_or seat (x >>= λ a. map.get c.places a.agent) 0) there ∙ ap (λ (x : Option Place). option_map_or seat x 0) at in
      ap (λ (x : Option Atom). x >>= λ a. map.get c.places a.agent >>= λ p. begun_at c m o (next_name made (seat_of c m)) (later_name made (seat_of c m)) a p) there
      ∙ ap (λ (x : Option Place). x >>= λ p. begun_at c m o (next_name made (seat_of c m)) (later_name made (seat_of c m)) a p) at
      ∙ ap (λ s. begun_at c m o (next_name made s) (later_name made s) a p) seated
      ∙ by_place a p named
    where
      by_place : (a : Atom) (p : Place) → begun_at c m o f g a p ≡ Some e → begun_at c m o (next_name made (seat p)) (later_name made (seat p)) a p ≡ Some e
      by_place a (place.Way s) named = named
      by_place a (place.At s) named = then (begun_by (layer a.proc)) _ named λ k begins named.
          let event : e ≡ event_at k s m o a (made_by c s a.env (layer a.proc) f g) = done named in
          let its = subst (λ (x : Event). AreNext x.site (made x.site) (names_of x.made)) event next in
          ap (λ x. x >>= λ k. Some (event_at k s m o a (made_by c s a.env (layer a.proc) (next_name made s) (later_name made s)))) begins
          ∙ ap (λ x. Some (event_at k s m o a x)) (made-next c s a.env (layer a.proc) s (made s) f g its)
          ∙ named

  own-by : (s : Choice) → event_by c s f g ≡ Some e → own_event c made s ≡ Some e
  own-by (choice.Arrives a) named = named
  own-by (choice.Lands m) named = named
  own-by (choice.Acts m) named = begun-own m None named
  own-by (choice.Meets i o) named = begun-own i (Some o) named

-- ---- one event

true-false : {b : Bool} → b ≡ true → b ≡ false → ⊥
true-false t f = cc

module _ (c : Config) (t : Travels) (e : Event) (takes : TakesPutFirst e.kind t e) (f g : Name) where
  atom-turn : (s : Choice) (o : Option Name) → by_atom e.kind ≡ true → begun c e.actor o f g ≡ Some e → in_turn_of c (first_beside t) e.actor s ≡ Some s
  atom-turn s o own named = then (map.get c.atoms e.actor) _ named λ a there named. then (map.get c.places a.agent) _ named λ p at named.
      ap (λ (x : Option Atom). x >>= λ a. map.get c.places a.agent >>= λ p. in_turn_at (first_beside t) a.agent s p) there
      ∙ ap (λ (x : Option Place). x >>= λ p. in_turn_at (first_beside t) a.agent s p) at
      ∙ by_place a p named
    where
      by_place : (a : Atom) (p : Place) → begun_at c e.actor o f g a p ≡ Some e → in_turn_at (first_beside t) a.agent s p ≡ Some s
      by_place a (place.At site) named = refl
      by_place a (place.Way site) named = absurd (true-false own (ap (λ (x : Event). by_atom x.kind) (done named)))

  turn-by : (k : Kind) (o : Option Name) → e.kind ≡ k → event_by c (choice_by k e.actor o) f g ≡ Some e → in_turn c (first_beside t) (choice_by k e.actor o) ≡ Some (choice_by k e.actor o)
  turn-by kind.Arrive o is named = then (map.get c.places e.actor) _ named λ p there named. then (way p) _ named λ s comes named.
      let here : s ≡ e.site = sym (ap (λ (x : Event). x.site) (done named)) in
      ap (λ (x : Option Place). x >>= λ p. way p >>= λ to. option_map coming (first_beside t (item.Agent e.actor) to)) there
      ∙ ap (λ x. x >>= λ to. option_map coming (first_beside t (item.Agent e.actor) to)) comes
      ∙ ap (λ to. option_map coming (first_beside t (item.Agent e.actor) to)) here
      ∙ ap (option_map coming) (put-first t (item.Agent e.actor) e.site (subst (λ (k : Kind). TakesPutFirst k t e) is takes))
  turn-by kind.Land o is named = then (map.get c.packets e.actor) _ named λ p flies named.
      let here : p.to ≡ e.site = sym (ap (λ (x : Event). x.site) (done named)) in
      ap (λ (x : Option Packet). x >>= λ p. option_map coming (first_beside t (item.Packet e.actor) p.to)) flies
      ∙ ap (λ to. option_map coming (first_beside t (item.Packet e.actor) to)) here
      ∙ ap (option_map coming) (put-first t (item.Packet e.actor) e.site (subst (λ (k : Kind). TakesPutFirst k t e) is takes))
  turn-by k None is named = atom-turn (choice.Acts e.actor) None (subst (λ k. by_atom k ≡ true) (sym is) refl) named
  turn-by k (Some o) is named = atom-turn (choice.Meets e.actor o) (Some o) (subst (λ k. by_atom k ≡ true) (sym is) refl) named

pub each-serves : EachServes
each-serves start c d events e reaches ours applies =
    let before : IsOursFrom start events = subst (IsOursFrom start) (take-append_seam events (e ∷ [])) (prefix-ours start (events ++ e ∷ []) (length events) ours) in
    let goes = (ours-goes-on start c d events e reaches applies before).0 ours in
    let n = each-is-named c d e applies in (
      n.choice,
      ap (λ o. o >>= own_event c (names_made events)) (turn-by c (travels start events) e goes.takes n.first n.second e.kind e.other refl n.gives)
          ∙ own-by c (names_made events) e n.first n.second goes.names (choice_of e) n.gives,
    )

-- ---- whole runs

draw-for : (start c d : Config) (events : List Event) (h : Held) (e : Event) → Lists c h → run start events ≡ Some c → IsOursFrom start (events ++ e ∷ []) → apply c e ≡ Some d
    → (draw : Draw) × (event_drawn h start events c draw ≡ Some e)
draw-for start c d events h e l reaches ours applies =
    let s = each-serves start c d events e reaches ours applies in
    let p = each-is-picked c h (choice_of e) l s.0 in
    (p.0, ap (λ o. o >>= event_behind start events c) p.1 ∙ s.1)

module _ (start : Config) (order : List Event → Held) (orders : Orders start order) where
  serves : (events made : List Event) (c last : Config) → run start made ≡ Some c → run c events ≡ Some last → IsOursFrom start (made ++ events)
      → (draws : List Draw) × MakesInTurn order start made c draws events
  serves [] made c last reached h ours = ([], tt)
  serves (e ∷ es) made c last reached h ours = then (apply c e) _ h λ d applies rest.
      let both : (made ++ e ∷ []) ++ es ≡ made ++ e ∷ es = append_assoc made (e ∷ []) es in
      let first : IsOursFrom start (made ++ e ∷ []) =
      subst (IsOursFrom start) (ap (take (length (made ++ e ∷ []))) (sym both) ∙ take-append_seam (made ++ e ∷ []) es) (prefix-ours start (made ++ e ∷ es) (length (made ++ e ∷ [])) ours) in
      let t = draw-for start c d made (order made) e (orders made c reached) reached first applies in
      let later = serves es (made ++ e ∷ []) d last (run-push start made e c d reached applies) rest (subst (IsOursFrom start) (sym both) ours) in (
        t.0 ∷ later.0,
        (t.1, λ f other. subst (λ (x : Config). MakesInTurn order start (made ++ e ∷ []) x later.0 es) (same-next c d f e applies other) later.1),
      )

pub each-own-run : EachOwnRun
each-own-run start last order orders events h ours = serves start order orders events [] start last refl h ours
