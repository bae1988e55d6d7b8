-- Where no agent of a site has anything ready, what the site holds is still, if in the whole no value of a wrong type is met and no post is made.
use Rattle.std.proofs.Common.{◌≡◌, ◌<◌, ◌⊎◌, inl, inr, ℕ, Bool, true, false, is_some, List, ◌++◌, Option, None, Some, refl, sym, ap, subst, ◌∙◌}
use Rattle.std.specs.FinMap as map
use Rattle.np_syntax.specs.declared.event.Event.{Event}
use Rattle.np_syntax.specs.declared.event.Kind.{Kind}
use Rattle.np_syntax.specs.declared.event.Kind.TheVariants as kind
use Rattle.np_syntax.specs.declared.event.Made.TheVariants as made
use Rattle.np_syntax.specs.declared.process.ProcForm.{ProcForm-F}
use Rattle.np_syntax.specs.declared.value.Name.{Name}
use Rattle.np_syntax.specs.declared.value.Value.{Value}
use Rattle.np_tables.specs.Names.{NameMap}
use Rattle.np_eval.specs.Eval.{Env}
use Rattle.np_eval.specs.FormParts.{as_post}
use Rattle.np_eval.specs.Forms.{Layer, layer}
use Rattle.np_calculus.specs.declared.config.Atom.{Atom}
use Rattle.np_calculus.specs.declared.config.Place.{Place}
use Rattle.np_calculus.specs.declared.config.Place.TheVariants as place
use Rattle.np_calculus.specs.Begins.{event_at}
use Rattle.np_calculus.specs.Config.{Config}
use Rattle.np_calculus.specs.Idle.{Idle}
use Rattle.np_calculus.specs.NotEnabled.{asks}
use Rattle.np_calculus.specs.Reductions.{apply, row, site_in}
use Rattle.np_calculus.specs.Seen.{acting}
use Rattle.np_calculus.specs.Sight.{Contents, inside}
use Rattle.np_calculus.specs.Well.{Has, Ready, Well}
use Rattle.np_calculus.proofs.Acting.{acts_where_enabled}
use Rattle.np_calculus.proofs.Common.{act}
use Rattle.np_calculus.proofs.Enabled.{tag-itself}
use Rattle.np_calculus.proofs.NotEnabled.{not_enabled}
use Rattle.np_calculus.proofs.Steps.{acting-step, step-acting}
use Rattle.np_site_runs.specs.Holdings.{IsPart}
use Rattle.np_site_runs.specs.merged.Elements.{Occurs}
use Rattle.np_site_runs.specs.merged.Steps.{IsSpread, Spread, sites}
use Rattle.np_site_runs.proofs.merged.Elements.{occurs-first}
use Rattle.np_site_runs.proofs.merged.Resting.{atom-out, in_sites, place-out}
use Rattle.np_code.specs.Programs.{ProgramTable}
use Rattle.agent_pool.specs.Pools.{Pool}
use Rattle.site_agents.specs.Standings.{NoneCan}
use Rattle.site_agents.specs.deeds.Standing.{holding}
use Rattle.site_agents.proofs.deeds.Resting.{no_event_at}
use Rattle.site_crew.specs.Runs.{NoPosts}

-- ---- posts

-- no atom of an agent that stands at a site has a post to make
abbrev PostFree : Config → Type 0
PostFree c = (m : Name) (a : Atom) (s : ℕ) → map.get c.atoms m ≡ Some a → map.get c.places a.agent ≡ Some (place.At s) → asks kind.Post (layer a.proc) ≡ false

post-enabled : (c : Config) (m : Name) (a : Atom) (s : ℕ) (l : Layer) → acting c (event_at kind.Post s m None a made.Nothing) ≡ Some a → layer a.proc ≡ l → Ready c a.env l
    → is_some (as_post l) ≡ true → Has (apply c (event_at kind.Post s m None a made.Nothing))
unfolding act
post-enabled c m a s (ProcForm-F.Post b x v) acts form ready asked = rw (acts, form, ready.0.1, ready.1.1, ready.2.1) (_, refl)
post-enabled c m a s _ acts form ready asked = absurd cc

truth : (b : Bool) → (b ≡ true → ⊥) → b ≡ false
truth true f = absurd (f refl)
truth false f = refl

pub post_free : (c : Config) → Well c → NoPosts c → PostFree c
post_free c well none m a s there stands = truth (asks kind.Post (layer a.proc)) (λ asked.
    let e : Event = event_at kind.Post s m None a made.Nothing in
    let acts : acting c e ≡ Some a = step-acting c e a (record { there = there; stands = stands; tag = tag-itself a.proc.tag }) in
    let has : Has (apply c e) = post-enabled c m a s (layer a.proc) acts refl (well.ready m a there) asked in
    none e has.0 has.1 refl)

no-post-row : (c : Config) → PostFree c → (e : Event) → row kind.Post c e ≡ None
no-post-row c free e = by (acting c e) refl
  where
    by : (o : Option Atom) → acting c e ≡ o → row kind.Post c e ≡ None
    by None h = rw h refl
    by (Some a) h = let s = acting-step c e a h in not_enabled.no_actor.other_form kind.Post c e a refl h (free e.actor a e.site s.there s.stands)

no-post : (c : Config) → PostFree c → (e : Event) → e.kind ≡ kind.Post → apply c e ≡ None
no-post c free e is = ap (λ k. row k c e) is ∙ no-post-row c free e

post-or-not : (k : Kind) → (k ≡ kind.Post) ⊎ (k ≡ kind.Post → ⊥)
post-or-not kind.Post = inl refl
post-or-not _ = inr (λ e. absurd cc)

-- ---- parts

ready-same : (c d : Config) → c.sites ≡ d.sites → (env : Env) (l : Layer) → Ready c env l → Ready d env l
ready-same c d same env (ProcForm-F.Migrate s body) ready = subst (λ n. Has (site_in n s env)) same ready
ready-same c d same env (ProcForm-F.Send b s x e) ready = (ready.0, subst (λ n. Has (site_in n s env)) same ready.1, ready.2, ready.3)
ready-same c d same env _ ready = ready

-- what a part has, the whole has
pub record IsWithin (part whole : Config) : Type 0 where
  pub sites : whole.sites ≡ part.sites
  pub atoms : (m : Name) (a : Atom) → map.get part.atoms m ≡ Some a → map.get whole.atoms m ≡ Some a
  pub places : (q : Name) (p : Place) → map.get part.places q ≡ Some p → map.get whole.places q ≡ Some p

well-within : (part whole : Config) → IsWithin part whole → Well whole → Well part
well-within part whole is well = record {
  ready = λ m a there. ready-same whole part is.sites a.env (layer a.proc) (well.ready m a (is.atoms m a there));
  matches = λ i o a b t n v ia ob. well.matches i o a b t n v (is.atoms i a ia) (is.atoms o b ob);
}

free-within : (part whole : Config) → IsWithin part whole → PostFree whole → PostFree part
free-within part whole is free m a s there stands = free m a s (is.atoms m a there) (is.places a.agent (place.At s) stands)

-- of n sites that hold parts of the whole
pub part_within : (n : ℕ) (g : Spread) (c : Config) → IsSpread n g c → (u : ℕ) → u < n → IsWithin (g.here u) c
part_within n g c i u less =
    let in_whole : (P : Contents → Type 0) → P (inside (g.here u)) → Occurs P (sites n g.here ++ g.air) = λ P h. occurs-first P (sites n g.here) g.air (in_sites P g.here n u less h) in record {
      sites = i.number u;
      atoms = λ m b h. ap (λ (x : Contents). x.atom m) i.joined.is ∙ atom-out (sites n g.here ++ g.air) m b i.joined.apart (in_whole (λ x. x.atom m ≡ Some b) h);
      places = λ q p h. ap (λ (x : Contents). x.place q) i.joined.is ∙ place-out (sites n g.here ++ g.air) q p i.joined.apart (in_whole (λ x. x.place q ≡ Some p) h);
    }

module _ (code : ProgramTable) (site : ℕ) (agents : NameMap Pool) (next : ℕ) (said : List Value) where
  -- two configurations that are what the site holds have the same
  same-part : (c d : Config) → IsPart (holding code site agents next said) c → IsPart (holding code site agents next said) d → IsWithin c d
  same-part c d p q = record {
    sites = q.sites ∙ sym p.sites;
    atoms = λ m a h. q.has m a (p.only m a h);
    places = λ n at h. q.places n ∙ sym (p.places n) ∙ h;
  }

  pub still_ready : (part whole : Config) → IsPart (holding code site agents next said) part → IsWithin part whole → Well whole → NoPosts whole → NoneCan code agents
      → (c : Config) → IsPart (holding code site agents next said) c → Idle c
  still_ready part whole is within well none can c p s acts =
      let same = same-part c part p is in
      let here : Well c = well-within c part same (well-within part whole within well) in
      let free : PostFree c = free-within c part same (free-within part whole within (post_free whole well none)) in
      let e = (acts_where_enabled c here s).0 acts in
      elim (post-or-not e.0.kind) [
        | inl post ↦ let x : None ≡ Some e.2.0 = sym (no-post c free e.0 post) ∙ e.2.1 in absurd cc
        | inr apart ↦ let x : None ≡ Some e.2.0 = sym (no_event_at code site agents next said c p (λ q pool at. can.each q pool at) e.0 apart) ∙ e.2.1 in absurd cc
      ]
