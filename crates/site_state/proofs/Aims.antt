-- What leaves a site goes to one of the program's sites.
use Rattle.std.proofs.Common.{◌≡◌, ◌<◌, ℕ, false, List, [], ◌∷◌, Some, length, sym, ap, subst, ◌∙◌, nat_lt}
use Rattle.np_calculus.proofs.Common.{Change, Event, Expr, Sight, Env, acting_in, agent_of, chan_of, done, eval, no_other, then, when}
use Rattle.np_calculus.proofs.Common.{act}
use Rattle.np_syntax.specs.declared.event.Kind.TheVariants as kind
use Rattle.np_syntax.specs.declared.event.Made.TheVariants as made
use Rattle.np_syntax.specs.declared.value.Value.{out-Value}
use Rattle.np_eval.specs.Eval.{as_site}
use Rattle.np_calculus.specs.declared.config.Packet.{Packet}
use Rattle.np_calculus.specs.declared.config.Place.{Place}
use Rattle.np_calculus.specs.declared.config.Place.TheVariants as place
use Rattle.np_calculus.specs.Changes.{Write, put, still}
use Rattle.np_calculus.specs.Reductions.{site_in}
use Rattle.np_calculus.specs.Rows.{change_in}
use Rattle.np_calculus.proofs.Rows.{parts}
use Rattle.np_site_runs.proofs.Parts.{below}
use Rattle.np_code.specs.Programs.{ProgramTable}
use Rattle.agent_pool.specs.declared.ready.Ready.{Ready}
use Rattle.agent_pool.specs.Pools.{Pool}
use Rattle.agent_pool.specs.Rows.{Reduces, event_of, own_sight}

site_below : (sites : ℕ) (e : Expr) (env : Env) (t : ℕ) → site_in sites e env ≡ Some t → t < sites
site_below sites e env t h = then (eval e env) _ h λ v gives h. then (as_site (out-Value v)) _ h λ s is h. when (nat_lt s sites) _ h λ l h. subst (λ k. k < sites) (sym (done h)) (below s sites l)

first_way : List (Write Place) → ℕ
first_way ((q, Some (place.Way s)) ∷ ws) = s
first_way _ = 0

first_to : List (Write Packet) → ℕ
first_to ((q, Some p) ∷ ws) = p.to
first_to _ = 0

module _ (code : ProgramTable) (a b : Pool) (r : Ready) where
  abbrev w : Sight
  w = own_sight code a false

  abbrev e : Event
  e = event_of 0 r made.Nothing

  pub departs_within : (to : ℕ) → Reduces kind.Depart code a b r made.Nothing (record still { places = put a.name (place.Way to) ∷ [] }) → to < length code.sites
  unfolding act first_way
  departs_within to h = then (change_in kind.Depart w e) _ (h 0) λ d is same. then (acting_in w e) _ is λ x acts h. parts kind.Depart w e x h λ p form h.
      then (site_in w.sites p.0 x.env) _ h λ t goes h. then (no_other e.other) _ h λ l other h.
      let there : to ≡ first_way d.places = ap (λ q. first_way (q.0).places) (done same) in
      let here : first_way d.places ≡ t = ap (λ (d : Change). first_way d.places) (done h) in
      subst (λ k. k < length code.sites) (sym (there ∙ here)) (site_below w.sites p.0 x.env t goes)

  pub sends_within : (packet : Packet) → Reduces kind.Send code a b r made.Nothing (record still { packets = put r.actor packet ∷ [] }) → packet.to < length code.sites
  unfolding act first_to
  sends_within packet h = then (change_in kind.Send w e) _ (h 0) λ d is same. then (acting_in w e) _ is λ x acts h. parts kind.Send w e x h λ p form h.
      then (agent_of p.0 x.env) _ h λ n names h. then (site_in w.sites p.1 x.env) _ h λ t goes h. then (chan_of p.2 x.env) _ h λ c along h. then (eval p.3 x.env) _ h λ v gives h.
      then (no_other e.other) _ h λ l other h.
      let there : packet.to ≡ first_to d.packets = ap (λ q. first_to (q.0).packets) (done same) in
      let here : first_to d.packets ≡ t = ap (λ (d : Change). first_to d.packets) (done h) in
      subst (λ k. k < length code.sites) (sym (there ∙ here)) (site_below w.sites p.1 x.env t goes)
