-- In a well configuration what can go on has an event that is enabled.
use Rattle.std.proofs.Common.{◌≡◌, ℕ, Bool, true, false, cond, Option, None, Some, refl, subst, sym, ap, ◌∙◌}
use Rattle.std.specs.FinMap as map
use Rattle.std.specs.FinSet as set
use Rattle.np_calculus.proofs.Common.{Name, Value, Expr, Pat, Proc, ProcForm-F, Event, Kind, Made, ◌>>=◌, same_name, same_name-is, chan_of, agent_of, eval}
use Rattle.np_calculus.proofs.Common.{bind, Layer, layer, Atom, Packet, Config, same_tag, after_change, row, apply, here_row, away_row, act, arrive_row}
use Rattle.np_calculus.proofs.Common.{land_row, acting, is_at, offered}
use Rattle.np_syntax.specs.declared.process.Tag.{Tag}
use Rattle.np_syntax.specs.declared.event.Kind.TheVariants as kind
use Rattle.np_syntax.specs.declared.event.Made.TheVariants as made
use Rattle.np_calculus.specs.declared.config.Place.TheVariants as place
use Rattle.np_eval.specs.Forms.{taken_on}
use Rattle.np_calculus.specs.Reductions.{role_index}
use Rattle.np_calculus.specs.Begins.{AreNew, arrival, begun_by, event_at, landing, made_by, made_there}
use Rattle.np_calculus.specs.Idle.{waits}
use Rattle.np_calculus.specs.Well.{Has, Ready}
use Rattle.np_calculus.proofs.OwnNames.{not_true}
use Rattle.np_calculus.proofs.Steps.{same_site, same-offer, step-acting}

pub tag-itself : (t : Tag) → same_tag t t ≡ true
tag-itself t = rw (same_site t.node, same_site (role_index t.role)) refl

-- an agent under way arrives
pub arrival-enabled : (c : Config) (agent : Name) (s : ℕ) → map.get c.places agent ≡ Some (place.Way s) → Has (apply c (arrival agent s))
unfolding arrive_row
arrival-enabled c agent s comes = rw (comes, same_site s) (_, refl)

-- a packet lands
pub landing-enabled : (c : Config) (m : Name) (p : Packet) → map.get c.packets m ≡ Some p → Has (apply c (landing m p))
unfolding land_row
landing-enabled c m p flies = rw (flies, same_site p.to, tag-itself p.tag) (_, refl)

module _ (c : Config) (m : Name) (a : Atom) (s : ℕ) (there : map.get c.atoms m ≡ Some a) (stands : map.get c.places a.agent ≡ Some (place.At s)) where
  acts : (k : Kind) (o : Option Name) (made : Made) → acting c (event_at k s m o a made) ≡ Some a
  acts k o made = step-acting c (event_at k s m o a made) a (record { there = there; stands = stands; tag = tag-itself a.proc.tag })

  abbrev test : Made → Event
  test made = event_at kind.Local s m None a made

  -- a location test goes on where it finds its agent, under a new name, and where it does not
  found-enabled : (t : Bool) (met unmet : Proc) (b n first : Name) (v : Value) → set.contains c.born first ≡ false
      → Has (cond t (here_row (test (cond t (made.One first) made.Nothing)) a met b n v) (away_row (test (cond t (made.One first) made.Nothing)) a unmet)
      >>= after_change c (test (cond t (made.One first) made.Nothing)))
  unfolding here_row away_row
  found-enabled true met unmet b n first v new = rw new (_, refl)
  found-enabled false met unmet b n first v new = (_, refl)

  local-enabled : (b x e : Expr) (met unmet : Proc) (first : Name) → layer a.proc ≡ ProcForm-F.IfLocal b x e met unmet → Has (agent_of b a.env) × Has (chan_of x a.env) × Has (eval e a.env)
      → set.contains c.born first ≡ false → Has (apply c (test (made_there c s (agent_of b a.env) first)))
  unfolding act
  local-enabled b x e met unmet first is r new =
      let made : Made = cond (is_at c r.0.0 s) (made.One first) made.Nothing in
      let same : made_there c s (agent_of b a.env) first ≡ made = ap (λ o. made_there c s o first) r.0.1 in
      subst (λ (y : Made). Has (row kind.Local c (test y))) (sym same)
      (rw (acts kind.Local None made, is, r.0.1, r.1.1, r.2.1) (found-enabled (is_at c r.0.0 s) met unmet r.0.0 r.1.0 first r.2.0 new))

  module _ (first second : Name) (new : AreNew c first second) where
    -- the atom of a form has a kind of event, which is enabled
    abbrev pub Begins : Option Name → Layer → Type 0
    Begins o l = (k : Kind) × (begun_by l ≡ Some k) × Has (apply c (event_at k s m o a (made_by c s a.env l first second)))

    apart : same_name first second ≡ false
    apart = not_true _ (λ same. new.apart (same_name-is first second same))

    -- what acts alone
    pub alone-begins : (l : Layer) → layer a.proc ≡ l → Ready c a.env l → waits l ≡ false → Begins None l
    unfolding act
    alone-begins ProcForm-F.Stop is r h = (kind.Stop, refl, rw (acts kind.Stop None made.Nothing, is) (_, refl))
    alone-begins (ProcForm-F.Par left right) is r h = (kind.Fork, refl, rw (acts kind.Fork None (made.One first), is, new.first_new) (_, refl))
    alone-begins (ProcForm-F.New x ty body) is r h = (kind.New, refl, rw (acts kind.New None (made.One first), is, new.first_new) (_, refl))
    alone-begins (ProcForm-F.Agent b body rest) is r h = (kind.Agent, refl, rw (acts kind.Agent None (made.Two first second), is, apart, new.first_new, new.second_new) (_, refl))
    alone-begins (ProcForm-F.Migrate t body) is r h = (kind.Depart, refl, rw (acts kind.Depart None made.Nothing, is, r.1) (_, refl))
    alone-begins (ProcForm-F.IfLocal b x e met unmet) is r h = (kind.Local, refl, local-enabled b x e met unmet first is r new.first_new)
    alone-begins (ProcForm-F.Send b t x e) is r h = (kind.Send, refl, rw (acts kind.Send None made.Nothing, is, r.0.1, r.1.1, r.2.1, r.3.1) (_, refl))
    alone-begins (ProcForm-F.Post b x e) is r h = (kind.Post, refl, rw (acts kind.Post None made.Nothing, is, r.0.1, r.1.1, r.2.1) (_, refl))
    alone-begins (ProcForm-F.If e met unmet) is r h = (kind.If, refl, rw (acts kind.If None made.Nothing, is, r.1) (_, refl))
    alone-begins (ProcForm-F.Let pat e body) is r h = (kind.Let, refl, rw (acts kind.Let None made.Nothing, is, r.1, r.2.1) (_, refl))
    alone-begins (ProcForm-F.Print e) is r h = (kind.Print, refl, rw (acts kind.Print None made.Nothing, is, r.1) (_, refl))
    alone-begins (ProcForm-F.Open e) is r h = (kind.Open, refl, rw (acts kind.Open None made.Nothing, is, r.1) (_, refl))
    alone-begins (ProcForm-F.Lookup b x n met unmet) is r h = (kind.Lookup, refl, rw (acts kind.Lookup None made.Nothing, is, r.0.1, r.1.1) (_, refl))
    alone-begins _ is r h = absurd cc

    -- an input, plain or replicated, that takes an output
    pub meeting-begins : (l : Layer) → layer a.proc ≡ l → (t : Expr × Pat) → taken_on l ≡ Some t → (o n : Name) (v : Value)
        → ((t : Expr × Pat) → taken_on l ≡ Some t → (chan_of t.0 a.env ≡ Some n) × Has (bind t.1 v a.env)) → offered c o a.agent n ≡ Some v → Begins (Some o) l
    unfolding act
    meeting-begins (ProcForm-F.Inp x pat body) is t h o n v takes offer =
        let k = takes (x, pat) refl in
        let e : Event = event_at kind.Comm s m (Some o) a made.Nothing in
        (kind.Comm, refl, rw (acts kind.Comm (Some o) made.Nothing, is, k.0, same-offer c e a o n (acts kind.Comm (Some o) made.Nothing) ∙ offer, k.1.1) (_, refl))
    meeting-begins (ProcForm-F.Rep x pat body) is t h o n v takes offer =
        let k = takes (x, pat) refl in
        let e : Event = event_at kind.Rep s m (Some o) a made.Nothing in
        (kind.Rep, refl, rw (acts kind.Rep (Some o) made.Nothing, is, k.0, same-offer c e a o n (acts kind.Rep (Some o) made.Nothing) ∙ offer, k.1.1) (_, refl))
    meeting-begins _ is t h o n v takes offer = absurd cc
