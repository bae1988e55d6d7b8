-- An event depends on nothing but what it touches.
use Rattle.std.proofs.Common.{◌≡◌, ℕ, cond, List, [], ◌∷◌, ◌++◌, map, Option, Some, refl, ap, sym, subst, ◌∙◌}
use Rattle.np_calculus.proofs.Common.{Name, ProcForm-F, Event, Kind, ◌>>=◌, ◌>>◌, need, same_name, same_name-is, chan_of, agent_of, Layer, layer, Atom}
use Rattle.np_calculus.proofs.Common.{Contents, Sight, inside, sight, at_site, Change, Write, effect, same_tag, offered_in, acting_in, change, act}
use Rattle.np_calculus.proofs.Common.{arrive_row, land_row}
use Rattle.np_syntax.specs.declared.event.Kind.TheVariants as kind
use Rattle.np_eval.specs.FormParts.{as_iflocal}
use Rattle.np_calculus.specs.Footprints.{listed, asked_by, bound_for, touches, written_by, SameMark, SamePlace, AgreesOn, DependsOnTouched, Unseen}
use Rattle.np_calculus.specs.FrameRule.{Every, left_by, changed}
use Rattle.np_calculus.proofs.Fits.{actor-seen}
use Rattle.np_calculus.proofs.OwnNames.{not_true}
use Rattle.np_calculus.proofs.Rows.{by, step}
use Rattle.np_calculus.proofs.Steps.{offer-seen}
use Rattle.np_calculus.proofs.Writes.{inside-effect, every-map}

pub every-first : {A : Type 0} (P : A → Type 0) (xs ys : List A) → Every P (xs ++ ys) → Every P xs
every-first P [] ys h = tt
every-first P (x ∷ xs) ys h = (h.0, every-first P xs ys h.1)

pub every-last : {A : Type 0} (P : A → Type 0) (xs ys : List A) → Every P (xs ++ ys) → Every P ys
every-last P [] ys h = h
every-last P (x ∷ xs) ys h = every-last P xs ys h.1

here-same : (x y : Contents) (site : ℕ) (agent : Name) → SamePlace x y agent → at_site (x.place agent) site ≡ at_site (y.place agent) site
here-same x y site agent s = ap (λ o. at_site o site) s.place

-- the events of atoms
module _ (n : ℕ) (x y : Contents) (e : Event) (marks : Every (SameMark x y) (e.actor ∷ listed e.other)) (places : Every (SamePlace x y) (asked_by (x.atom e.actor))) where
  abbrev v : Sight
  v = sight n x e.site

  abbrev w : Sight
  w = sight n y e.site

  other-same : (o : Name) → e.other ≡ Some o → SameMark x y o
  other-same o is = (subst (λ m. Every (SameMark x y) (listed m)) is marks.1).0

  module _ (a : Atom) (there : x.atom e.actor ≡ Some a) where
    agent-same : SamePlace x y a.agent
    agent-same = (subst (λ o. Every (SamePlace x y) (asked_by o)) there places).0

    asked-same : Every (SamePlace x y) (listed (as_iflocal (layer a.proc) >>= λ (agent, chan, sent, met, unmet). agent_of agent a.env))
    asked-same = (subst (λ o. Every (SamePlace x y) (asked_by o)) there places).1

  atom-same : v.atom e.actor ≡ w.atom e.actor
  atom-same = step (x.atom e.actor) (y.atom e.actor) _ _ marks.0.atom λ a there. ap (λ t. need t >> Some a) (here-same x y e.site a.agent (agent-same a there))

  acting-same : acting_in v e ≡ acting_in w e
  acting-same = ap (λ o. o >>= λ a. need (same_tag a.proc.tag e.tag) >> Some a) atom-same

  module _ (a : Atom) (is : acting_in v e ≡ Some a) where
    there : x.atom e.actor ≡ Some a
    there = (actor-seen n x e a is).there

    -- an output that is taken is in the actor's agent
    offered-same : (o m : Name) → e.other ≡ Some o → offered_in v.atom o a.agent m ≡ offered_in w.atom o a.agent m
    offered-same o m other =
        let here = (actor-seen n x e a is).here in
        offer-seen x n e.site o a.agent m here ∙ ap (λ z. offered_in (λ q. z) o a.agent m) (other-same o other).atom
        ∙ sym (offer-seen y n e.site o a.agent m (sym (here-same x y e.site a.agent (agent-same a there)) ∙ here))

    act-same : (k : Kind) (l : Layer) → layer a.proc ≡ l → act k l v e a ≡ act k l w e a
    unfolding act
    act-same kind.Comm (ProcForm-F.Inp c pat body) is = step (chan_of c a.env) (chan_of c a.env) _ _ refl λ m on. step e.other e.other _ _ refl λ o other. rw (offered-same o m other) refl
    act-same kind.Rep (ProcForm-F.Rep c pat body) is = step (chan_of c a.env) (chan_of c a.env) _ _ refl λ m on. step e.other e.other _ _ refl λ o other. rw (offered-same o m other) refl
    act-same kind.Local (ProcForm-F.IfLocal agent c sent met unmet) is = step (agent_of agent a.env) (agent_of agent a.env) _ _ refl λ b names.
        let l : Every (SamePlace x y) (b ∷ []) = rw (is, names) at (asked-same a there) in
        rw (here-same x y e.site b l.0) refl
    act-same k l is = by k l v e a ∙ sym (by k l w e a)

module _ (n : ℕ) (x y : Contents) (e : Event) where
  land-same : SameMark x y e.actor → Every (SamePlace x y) (bound_for (x.packet e.actor)) → land_row (x.packet e.actor) (sight n x e.site) e ≡ land_row (y.packet e.actor) (sight n y e.site) e
  unfolding land_row
  land-same m places = step (x.packet e.actor) (y.packet e.actor) _ _ m.packet λ p flies.
      let l : Every (SamePlace x y) (p.agent ∷ []) = subst (λ o. Every (SamePlace x y) (bound_for o)) flies places in
      rw (here-same x y e.site p.agent l.0) refl

  change-same : (k : Kind) → AgreesOn x y (touches k x e) → change k n x e ≡ change k n y e
  change-same kind.Arrive h = ap (λ o. arrive_row o e) h.places.0.place
  change-same kind.Land h = land-same h.marks.0 h.places
  change-same k h =
      step (acting_in (sight n x e.site) e) (acting_in (sight n y e.site) e) (λ a. act k (layer a.proc) (sight n x e.site) e a) (λ a. act k (layer a.proc) (sight n y e.site) e a) (acting-same n x y e h.marks h.places)
      (λ a is. act-same n x y e h.marks h.places a is k (layer a.proc) refl)

pub depends_on_touched : DependsOnTouched
depends_on_touched c d e same h = change-same c.sites (inside c) (inside d) e e.kind h ∙ ap (λ n. change e.kind n (inside d) e) same

-- what is not written stays
unwritten : {X : Type 0} (ws : List (Write X)) (q : Name) (o : Option X) → Every (λ k. q ≡ k → ⊥) (map (λ w. w.0) ws) → o ≡ left_by ws q o
unwritten [] q o h = refl
unwritten (w ∷ ws) q o h =
    let first : cond (same_name q w.0) w.1 o ≡ o = ap (λ t. cond t w.1 o) (not_true (same_name q w.0) λ t. h.0 (same_name-is q w.0 t)) in
    unwritten ws q o h.1 ∙ ap (left_by ws q) (sym first)

mark-unwritten : (x : Contents) (d : Change) (q : Name) → Every (λ k. q ≡ k → ⊥) (written_by d).marks → SameMark x (changed x d) q
mark-unwritten x d q far = record {
  atom = unwritten d.atoms q _ (every-first (λ k. q ≡ k → ⊥) (map (λ w. w.0) d.atoms) _ far);
  packet = unwritten d.packets q _ (every-last (λ k. q ≡ k → ⊥) (map (λ w. w.0) d.atoms) _ far);
}

pub unseen : Unseen
unseen c e f d h = depends_on_touched c (effect c e d) f refl (record {
  marks = every-map _ _ (λ q far. subst (λ x. SameMark (inside c) x q) (sym (inside-effect c e d)) (mark-unwritten (inside c) d q far)) (touches f.kind (inside c) f).marks h.marks;
  places = every-map _ _ (λ q far. subst (λ x. SamePlace (inside c) x q) (sym (inside-effect c e d)) (record { place = unwritten d.places q _ far })) (touches f.kind (inside c) f).places h.places;
})
