-- What the code has found of an event lets its atoms go on, and gives its row.
use Rattle.std.proofs.Common.{◌≡◌, Bool, true, false, not, Option, None, Some, IsSome, refl, sym, ap, ◌∙◌}
use Rattle.std.specs.FinMap as map
use Rattle.std.specs.FinSet as set
use Rattle.np_configuration.proofs.Common.{Name, Event, ◌>>=◌, Atom, Config, chan_of, layer, acting, acting-step}
use Rattle.np_syntax.proofs.Options.{then, when, done}
use Rattle.np_calculus.specs.Reductions.{no_other, none_made, one_made, two_made}
use Rattle.np_calculus.specs.Seen.{offered}
use Rattle.np_calculus.proofs.Steps.{offered-step}
use Rattle.np_tables.specs.Names.{same_name}
use Rattle.np_eval.specs.Forms.{Layer}
use Rattle.np_eval.specs.FormParts.{as_par, as_rep, as_agent_form, as_iflocal}
use Rattle.np_configuration.specs.declared.alone.Fork.{Fork}
use Rattle.np_configuration.specs.declared.messages.Local.{Local}
use Rattle.np_configuration.specs.Rows as to
use Rattle.np_configuration.specs.Views.{one_new, taken_by, two_new}
use Rattle.np_configuration.proofs.Keeping.{is_some_of}

-- a row whose configuration depends on nothing but what more is found
pub row-gives : {P X : Type 0} (o : Option (Atom × P × X)) (x : X) (after : X → Config) → to.IsFound o x → (o >>= λ s. Some (after s.2)) ≡ Some (after x)
row-gives None x after h = absurd cc
row-gives (Some s) x after h = ap (λ x. Some (after x)) (sym (done h))

-- the steps by which something is found
pub record Steps {P X : Type 0} (parts : Layer → Option P) (more : Config → Event → Atom → P → Option X) (c : Config) (e : Event) (x : X) : Type 0 where
  pub atom : Atom
  pub there : map.get c.atoms e.actor ≡ Some atom
  pub part : P
  pub has : parts (layer atom.proc) ≡ Some part
  pub gives : more c e atom part ≡ Some x
  pub found : to.found_by parts more c e ≡ Some (atom, part, x)

pub steps-of : {P X : Type 0} (parts : Layer → Option P) (more : Config → Event → Atom → P → Option X) (c : Config) (e : Event) (x : X) → to.IsFound (to.found_by parts more c e) x
    → Steps parts more c e x
steps-of {P = P} {X = X} parts more c e x h =
    then (to.found_by parts more c e) (λ s. Some s.2) h λ s found h.
    then (acting c e) _ found λ a acts rest. then (parts (layer a.proc)) _ rest λ p has rest. then (more c e a p) _ rest λ y gives rest.
    let same : x ≡ y = done h ∙ ap (λ (s : Atom × P × X). s.2) (done rest) in
    record {
      atom = a;
      there = (acting-step c e a acts).there;
      part = p;
      has = has;
      gives = gives ∙ ap Some (sym same);
      found = found ∙ ap Some (done rest) ∙ ap (λ (z : X). Some (a, p, z)) (sym same);
    }

pub stands : {P X : Type 0} (parts : Layer → Option P) (more : Config → Event → Atom → P → Option X) (c : Config) (e : Event) (x : X) → to.IsFound (to.found_by parts more c e) x
    → IsSome (map.get c.atoms e.actor)
stands parts more c e x h = let s = steps-of parts more c e x h in is_some_of _ s.atom s.there

not_true : (t : Bool) → not t ≡ true → t ≡ false
not_true true h = absurd cc
not_true false h = refl

module _ (c : Config) (e : Event) where
  -- the output that a replicated input takes stands under its mark
  pub rep-stands : (met : Name × Atom) → to.IsFound (to.rep_found c e) met → IsSome (map.get c.atoms met.0)
  rep-stands met h =
      let s = steps-of as_rep to.rep_more c e met h in
      then (chan_of s.part.0 s.atom.env) _ s.gives λ n on g. then e.other _ g λ o other g. then (taken_by c o s.atom n s.part.1) _ g λ env some g. then (none_made e.made) _ g λ u made g.
      then (offered c o s.atom.agent n) _ some λ v offer rest. let t = offered-step c o s.atom.agent n v offer in
      rw (ap (λ (m : Name × Atom). m.0) (done g)) (is_some_of _ t.mate t.waits)

  pub local-step : (l : Local) → to.IsFound (to.local_found c e) l → to.IsLocal c e l l.here
  local-step l h = let s = steps-of as_iflocal to.local_more c e l h in record { atom = s.atom; there = s.there; gives = rw (s.found) refl }

  -- the mark of the second part of a composition is new, and that of a new agent's atom
  pub fork-new : (f : Fork) → to.IsFound (to.fork_found c e) f → set.contains c.born f.mark ≡ false
  fork-new f h =
      let s = steps-of as_par to.fork_more c e f h in
      then (one_new c e) _ s.gives λ m some g.
      then (one_made e.made) _ some λ n made some. then (no_other e.other) _ some λ u lone some. when (not (set.contains c.born n)) _ some λ new some.
      let mark : f.mark ≡ n = ap (λ (f : Fork). f.mark) (done g) ∙ done some in rw mark (not_true _ new)

  pub agent-new : (n : Fork) → to.IsFound (to.agent_found c e) n → set.contains c.born n.mark ≡ false
  agent-new n h =
      let s = steps-of as_agent_form to.agent_more c e n h in
      then (two_new c e) _ s.gives λ v some g.
      then (two_made e.made) _ some λ k made some. then (no_other e.other) _ some λ u lone some. when (not (same_name k.0 k.1)) _ some λ differ some.
      when (not (set.contains c.born k.0)) _ some λ first some. when (not (set.contains c.born k.1)) _ some λ second some.
      let mark : n.mark ≡ k.1 = ap (λ (n : Fork). n.mark) (done g) ∙ ap (λ (v : Name × Name). v.1) (done some) in rw mark (not_true _ second)
