-- In a configuration that is well, a site can act exactly where some event of that site is enabled.
use Rattle.std.proofs.Common.{◌≡◌, ℕ, ◌+◌, ◌≤◌, Bool, true, false, inl, inr, List, [], ◌∷◌, None, Some, nat_eq, refl, sym, ap, subst, ◌∙◌, arith}
use Rattle.std.proofs.lemmas.Bool.{eqb-true}
use Rattle.std.specs.FinMap as map
use Rattle.std.specs.FinSet as set
use Rattle.std.specs.FinSet.{contains-items}
use Rattle.std.specs.List.{list_any}
use Rattle.np_calculus.proofs.Common.{Name, Value, Expr, Pat, ProcForm-F, Event, Kind, then, when, done, same_name, same_name-is, same_name-itself, chan_of, eval}
use Rattle.np_calculus.proofs.Common.{Layer, layer, Atom, Place, Config, Sight, inside, sight, Change, way, sends, change, apply, act, arrive_row, land_row, acting, offered}
use Rattle.np_syntax.specs.declared.event.Kind.TheVariants as kind
use Rattle.np_eval.specs.Forms.{as_out, given_on, taken_on}
use Rattle.np_eval.proofs.FormsByParts.{out-form}
use Rattle.np_calculus.specs.declared.config.Place.TheVariants as place
use Rattle.np_calculus.specs.Acting.{ActsWhereEnabled}
use Rattle.np_calculus.specs.Begins.{AreNew, arrival, event_at, landing, made_by}
use Rattle.np_calculus.specs.Idle.{Can, HasMeeting, HasWork, waits}
use Rattle.np_calculus.specs.Well.{Has, Ready, Well}
use Rattle.np_calculus.proofs.Enabled.{alone-begins, arrival-enabled, landing-enabled, meeting-begins}
use Rattle.np_calculus.proofs.OwnNames.{not_true}
use Rattle.np_calculus.proofs.Rows.{taking}
use Rattle.np_calculus.proofs.Steps.{acting-step, offered-step, row-step, same-offer, step-offered}

-- ---- two names that are not born: names are infinitely many, and those that are born are listed

-- a number above those of the names of a list
abbrev above : List Name → ℕ
above [] = 0
above (m ∷ ms) = m.n + above ms + 1

unlisted : (q : Name) (ms : List Name) → above ms ≤ q.n → list_any (same_name q) ms ≡ false
unlisted q [] h = refl
unlisted q (m ∷ ms) h =
    let other : same_name q m ≡ false = not_true _ (λ same. let e : q.n ≡ m.n = ap (λ (x : Name). x.n) (same_name-is q m same) in absurd (omega arith)) in
    rw (other, unlisted q ms (omega arith)) refl

abbrev numbered : Config → ℕ → Name
numbered c k = record { site = 0; n = above (set.items c.born) + k }

unborn : (c : Config) (k : ℕ) → set.contains c.born (numbered c k) ≡ false
unborn c k = contains-items c.born (numbered c k) ∙ unlisted (numbered c k) (set.items c.born) (omega arith)

unborn-two : (c : Config) → AreNew c (numbered c 0) (numbered c 1)
unborn-two c = record {
  first_new = unborn c 0;
  second_new = unborn c 1;
  apart = λ same. let e : above (set.items c.born) + 0 ≡ above (set.items c.born) + 1 = ap (λ (x : Name). x.n) same in omega arith;
}

-- ---- where a site can act, an event is enabled

-- an output on a channel sends a value there
pub given-sends : (c : Config) (b : Atom) (n : Name) (l : Layer) (x : Expr) → layer b.proc ≡ l → given_on l ≡ Some x → chan_of x b.env ≡ Some n → Ready c b.env l
    → (v : Value) × (sends b ≡ Some (n, v))
given-sends c b n (ProcForm-F.Out y e) x is h on r =
    let same : x ≡ y = cc in
    let to : chan_of y b.env ≡ Some n = subst (λ (x : Expr). chan_of x b.env ≡ Some n) same on in
    (r.1.0, rw (is, to, r.1.1) refl)
given-sends c b n _ x is h on r = absurd cc

abbrev HasEvent : Config → ℕ → Type 0
HasEvent c site = (e : Event) × (e.site ≡ site) × Has (apply c e)

module _ (c : Config) (w : Well c) (site : ℕ) where
  stands-too : (a : Atom) (agent : Name) → a.agent ≡ agent → map.get c.places agent ≡ Some (place.At site) → map.get c.places a.agent ≡ Some (place.At site)
  stands-too a agent of stands = ap (map.get c.places) of ∙ stands

  work-acts : (agent : Name) → map.get c.places agent ≡ Some (place.At site) → HasWork c agent → HasEvent c site
  work-acts agent stands h =
      let a : Atom = h.atom in
      let b = alone-begins c h.mark a site h.there (stands-too a agent h.of stands) (numbered c 0) (numbered c 1) (unborn-two c) (layer a.proc) refl (w.ready h.mark a h.there) h.acts in
      (event_at b.0 site h.mark None a (made_by c site a.env (layer a.proc) (numbered c 0) (numbered c 1)), refl, b.2)

  meeting-acts : (agent : Name) → map.get c.places agent ≡ Some (place.At site) → HasMeeting c agent → HasEvent c site
  meeting-acts agent stands h =
      let a : Atom = h.taker in
      let n : Name = h.chan in
      let sent = given-sends c h.giver n (layer h.giver.proc) h.from refl h.output_form h.given (w.ready h.output h.giver h.gives) in
      let together : a.agent ≡ h.giver.agent = h.taker_of ∙ sym h.giver_of in
      let same : same_name a.agent h.giver.agent ≡ true = ap (same_name a.agent) (sym together) ∙ same_name-itself a.agent in
      let offer : offered c h.output a.agent n ≡ Some sent.0 =
      step-offered c h.output a.agent n sent.0 (record { mate = h.giver; waits = h.gives; together = same; sent = (n, sent.0); sends_it = sent.1; agree = same_name-itself n; is = refl }) in
      let b = meeting-begins c h.input a site h.takes (stands-too a agent h.taker_of stands) (numbered c 0) (numbered c 1) (unborn-two c) (layer a.proc) refl h.to h.input_form h.output n sent.0
      (λ t form.
      let is : h.to ≡ t = done (sym form ∙ h.input_form) in
      let on : chan_of t.0 a.env ≡ Some n = subst (λ (t : Expr × Pat). chan_of t.0 a.env ≡ Some n) is h.taken in
      (on, w.matches h.input h.output a h.giver t n sent.0 h.takes h.gives together form on sent.1))
      offer in
      (event_at b.0 site h.input (Some h.output) a (made_by c site a.env (layer a.proc) (numbered c 0) (numbered c 1)), refl, b.2)

  can-acts : Can c site → HasEvent c site
  can-acts (inl h) = (landing h.mark h.packet, h.to, landing-enabled c h.mark h.packet h.flies)
  can-acts (inr (inl h)) = (arrival h.agent site, refl, arrival-enabled c h.agent site h.comes)
  can-acts (inr (inr h)) = elim h.works [ inl work ↦ work-acts h.agent h.stands work | inr meeting ↦ meeting-acts h.agent h.stands meeting ]

-- ---- where an event is enabled, its site can act

way-is : (p : Place) (s : ℕ) → way p ≡ Some s → p ≡ place.Way s
way-is (place.At t) s h = absurd cc
way-is (place.Way t) s h = ap place.Way (let same : t ≡ s = cc in same)

-- the channel of an output is that on which it sends
pub record Giving (b : Atom) (n : Name) : Type 0 where
  pub from : Expr
  pub form : given_on (layer b.proc) ≡ Some from
  pub on : chan_of from b.env ≡ Some n

sends-given : (b : Atom) (sent : Name × Value) → sends b ≡ Some sent → Giving b sent.0
sends-given b sent h =
    then (as_out (layer b.proc)) _ h λ p form h. then (chan_of p.0 b.env) _ h λ m on h. then (eval p.1 b.env) _ h λ v gives h.
    let is : sent.0 ≡ m = ap (λ (s : Name × Value). s.0) (done h) in
    record { from = p.0; form = ap given_on (out-form (layer b.proc) p form); on = on ∙ ap Some (sym is) }

module _ (c : Config) (e : Event) where
  free-can : (a : Atom) → acting c e ≡ Some a → waits (layer a.proc) ≡ false → Can c e.site
  free-can a acts free =
      let s = acting-step c e a acts in
      inr (inr (record { agent = a.agent; stands = s.stands; works = inl (record { mark = e.actor; atom = a; there = s.there; of = refl; acts = free }) }))

  taking-can : (a : Atom) → acting c e ≡ Some a → (t : Expr × Pat) → taken_on (layer a.proc) ≡ Some t → (n : Name) → chan_of t.0 a.env ≡ Some n
      → (o : Name) (v : Value) → offered c o a.agent n ≡ Some v → Can c e.site
  taking-can a acts t form n on o v offer =
      let s = acting-step c e a acts in
      let m = offered-step c o a.agent n v offer in
      let g = sends-given m.mate m.sent m.sends_it in
      let meets : HasMeeting c a.agent = record {
        output = o;
        giver = m.mate;
        gives = m.waits;
        giver_of = sym (same_name-is a.agent m.mate.agent m.together);
        input = e.actor;
        taker = a;
        takes = s.there;
        taker_of = refl;
        from = g.from;
        output_form = g.form;
        to = t;
        input_form = form;
        chan = n;
        given = g.on ∙ ap Some (sym (same_name-is n m.sent.0 m.agree));
        taken = on;
      } in
      inr (inr (record { agent = a.agent; stands = s.stands; works = inr meets }))

  abbrev w : Sight
  w = sight c.sites (inside c) e.site

  -- what waits and acts takes an output: an output itself has no row
  taking-row : (a : Atom) → acting c e ≡ Some a → (l : Layer) (k : Kind) → layer a.proc ≡ l → waits l ≡ true → (x : Change) → act k l w e a ≡ Some x → Can c e.site
  unfolding act
  taking-row a acts (ProcForm-F.Inp b p q) kind.Comm is t x h =
      taking w e a b p _ h λ n o v env on offer binds h. taking-can a acts (b, p) (ap taken_on is) n on o v (sym (same-offer c e a o n acts) ∙ offer)
  taking-row a acts (ProcForm-F.Rep b p q) kind.Rep is t x h =
      taking w e a b p _ h λ n o v env on offer binds h. taking-can a acts (b, p) (ap taken_on is) n on o v (sym (same-offer c e a o n acts) ∙ offer)
  taking-row a acts (ProcForm-F.Out b v) kind.Stop is t x h = absurd cc
  taking-row a acts _ _ is t x h = absurd cc

  acting-can : (k : Kind) (x : Change) (a : Atom) → acting c e ≡ Some a → act k (layer a.proc) w e a ≡ Some x → (t : Bool) → waits (layer a.proc) ≡ t → Can c e.site
  acting-can k x a acts h true is = taking-row a acts (layer a.proc) k refl is x h
  acting-can k x a acts h false is = free-can a acts is

  row-can : (k : Kind) (x : Change) → change k c.sites (inside c) e ≡ Some x → Can c e.site
  unfolding arrive_row land_row
  row-can kind.Arrive x h = then (map.get c.places e.actor) _ h λ p there h. then (way p) _ h λ s comes h. when (nat_eq s e.site) _ h λ here h.
      inr (inl (record { agent = e.actor; comes = there ∙ ap Some (way-is p s comes ∙ ap place.Way (eqb-true s e.site here)) }))
  row-can kind.Land x h = then (map.get c.packets e.actor) _ h λ p flies h. when (nat_eq p.to e.site) _ h λ to h.
      inl (record { mark = e.actor; packet = p; flies = flies; to = eqb-true p.to e.site to })
  row-can k x h = then (acting c e) _ h λ a acts h. acting-can k x a acts h (waits (layer a.proc)) refl

pub acts_where_enabled : ActsWhereEnabled
acts_where_enabled c w site = (can-acts c w site, λ (e, of, has). subst (Can c) of (let s = row-step c e has.0 e.kind has.1 in row-can c e e.kind s.made s.gives))
