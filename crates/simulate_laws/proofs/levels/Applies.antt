-- Events that apply: what each needs, and what it leaves.
use Rattle.std.proofs.Common.{◌≡◌, Bool, true, false, cond, nat_eq, Option, None, Some, [], ◌∷◌, refl, sym, ap, ◌∙◌}
use Rattle.std.specs.FinMap as map
use Rattle.std.specs.FinSet as set
use Rattle.np_syntax.specs.declared.value.Name.{Name}
use Rattle.np_syntax.specs.declared.value.Value.{Value}
use Rattle.np_syntax.specs.declared.expression.Expr.{Expr}
use Rattle.np_syntax.specs.declared.pattern.Pat.{Pat}
use Rattle.np_syntax.specs.declared.process.Tag.{Tag}
use Rattle.np_syntax.specs.declared.process.Proc.{Proc}
use Rattle.np_syntax.specs.declared.process.ProcForm.{ProcForm-F}
use Rattle.np_syntax.specs.declared.event.Event.{Event}
use Rattle.np_syntax.specs.declared.event.Kind.TheVariants as kind
use Rattle.np_syntax.specs.declared.event.Made.TheVariants as made
use Rattle.np_syntax.specs.Options.{◌>>=◌, ◌>>◌}
use Rattle.np_syntax.proofs.Options.{then, done}
use Rattle.np_calculus.specs.declared.config.Atom.{Atom}
use Rattle.np_calculus.specs.declared.config.Packet.{Packet}
use Rattle.np_calculus.specs.Changes.{Change, cut, effect, put, still}
use Rattle.np_calculus.specs.Config.{Config}
use Rattle.np_calculus.specs.Reductions.{goes, goes_under, no_other, none_made, offered_in, output_in, row, same_tag, site_in}
use Rattle.np_calculus.specs.Sight.{Sight, at_site}
unfoldable use Rattle.np_calculus.proofs.Common.{act, land_row}
use Rattle.np_calculus.proofs.Steps.{Acts, Offers, is-none, same-offer, step-acting, step-offered}
use Rattle.np_eval.specs.Eval.{Env, agent_of, bind, chan_of, eval}
use Rattle.np_eval.specs.Forms.{layer}

-- an event that takes no output has no other mark
pub takes_nothing : (o : Option Name) (u : Unit {0}) → no_other o ≡ Some u → o ≡ None
takes_nothing None u h = refl
takes_nothing (Some m) u h = absurd cc

module _ (c : Config) (e : Event) where
  module _ (a : Atom) (acts : Acts c e a) where
    pub fork_applies : (l r : Proc) (m : Name) → layer a.proc ≡ ProcForm-F.Par l r → e.made ≡ made.One m → e.other ≡ None → set.contains c.born m ≡ false
        → row kind.Fork c e ≡ Some (effect c e (record still { atoms = put m (goes a r) ∷ put e.actor (goes a l) ∷ [] }))
    unfolding act
    fork_applies l r m form one other new = rw (step-acting c e a acts, form, one, other, new) refl

    pub send_applies : (b s x y : Expr) (p : Packet) → layer a.proc ≡ ProcForm-F.Send b s x y → agent_of b a.env ≡ Some p.agent
        → site_in c.sites s a.env ≡ Some p.to → chan_of x a.env ≡ Some p.chan → eval y a.env ≡ Some p.value
        → p.tag ≡ e.tag → e.made ≡ made.Nothing → e.other ≡ None
        → row kind.Send c e ≡ Some (effect c e (record still { atoms = cut e.actor ∷ []; packets = put e.actor p ∷ [] }))
    unfolding act
    send_applies b s x y p form agent site on sent tag none other =
        let tagged : row kind.Send c e ≡ Some (effect c e (record still { atoms = cut e.actor ∷ []; packets = put e.actor (record p { tag = e.tag }) ∷ [] })) =
        rw (step-acting c e a acts, form, agent, site, on, sent, none, other) refl in
        tagged ∙ ap (λ (t : Tag). Some (effect c e (record still { atoms = cut e.actor ∷ []; packets = put e.actor (record p { tag = t }) ∷ [] }))) (sym tag)

    module _ (x : Expr) (y : Pat) (p : Proc) (n o : Name) (v : Value) (env : Env) (on : chan_of x a.env ≡ Some n) (other : e.other ≡ Some o)
        (offers : Offers c o a.agent n v) (binds : bind y v a.env ≡ Some env) (none : e.made ≡ made.Nothing) where
      pub comm_applies : layer a.proc ≡ ProcForm-F.Inp x y p
          → row kind.Comm c e ≡ Some (effect c e (record still { atoms = put e.actor (goes_under a p env) ∷ cut o ∷ [] }))
      unfolding act
      comm_applies form = rw (
        step-acting c e a acts,
        form,
        on,
        other,
        same-offer c e a o n (step-acting c e a acts)
            ∙ step-offered c o a.agent n v offers,
        binds,
        none,
      ) refl

      pub rep_applies : layer a.proc ≡ ProcForm-F.Rep x y p → row kind.Rep c e ≡ Some (effect c e (record still { atoms = put o (goes_under a p env) ∷ [] }))
      unfolding act
      rep_applies form = rw (
        step-acting c e a acts,
        form,
        on,
        other,
        same-offer c e a o n (step-acting c e a acts)
            ∙ step-offered c o a.agent n v offers,
        binds,
        none,
      ) refl

  pub land_applies : (p : Packet) (here : Bool) → map.get c.packets e.actor ≡ Some p → nat_eq p.to e.site ≡ true → same_tag p.tag e.tag ≡ true
      → e.made ≡ made.Nothing → e.other ≡ None → at_site (map.get c.places p.agent) e.site ≡ here
      → row kind.Land c e ≡ Some (effect c e (record
      still { packets = cut e.actor ∷ []; atoms = cond here (put e.actor (output_in p.agent p.chan p.value e.tag) ∷ []) [] }))
  unfolding land_row
  land_applies p here there to tag none other at = rw (there, to, tag, none, other, at) refl

-- the steps of an input, which takes the output of a mark off its channel
pub takes : {R : Type 0} (w : Sight) (e : Event) (a : Atom) (c : Expr) (p : Pat) (f : Name → Env → Change) {x : Change}
    → (chan_of c a.env >>= λ n. e.other >>= λ o. offered_in w.atom o a.agent n >>= λ v. bind p v a.env >>= λ env. none_made e.made >> Some (f o env)) ≡ Some x
    → ((n o : Name) (v : Value) (env : Env) → chan_of c a.env ≡ Some n → e.other ≡ Some o → offered_in w.atom o a.agent n ≡ Some v → bind p v a.env ≡ Some env
    → e.made ≡ made.Nothing → x ≡ f o env → R)
    → R
takes w e a c p f h r =
    then (chan_of c a.env) _ h λ n on h. then e.other _ h λ o other h. then (offered_in w.atom o a.agent n) _ h λ v offer h.
    then (bind p v a.env) _ h λ env binds h. then (none_made e.made) _ h λ u none h. r n o v env on other offer binds (is-none e.made u none) (done h)
