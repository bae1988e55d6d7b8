-- What the form of a process says of its errand, and what its errand says of its form.
use Rattle.std.proofs.Common.{◌≡◌, false, Option, None, Some, refl, subst, sym, ap, ◌∙◌}
use Rattle.std.specs.Option.{option_map}
use Rattle.std.specs.FinMap as map
use Rattle.np_configuration.proofs.Common.{Name, Expr, ProcForm-F, Meeting, NameMap, mapped, get-mapped, Env, chan_of, giving, errand_at}
use Rattle.np_syntax.specs.declared.pattern.Pat.{Pat}
use Rattle.np_tables.specs.declared.errand.Errand.TheVariants as errand
use Rattle.np_eval.specs.Forms.{Layer, given_on, taken_on}
use Rattle.np_calculus.specs.Idle.{waits}
use Rattle.np_eval.specs.Errands.{taking}

-- an output and an input do not act alone
pub giving_waits : (agent : Name) (o : Option Name) → giving agent o ≡ errand.Acts → ⊥
giving_waits agent None e = cc
giving_waits agent (Some n) e = cc

pub taking_waits : (agent : Name) (o : Option Name) → taking agent o ≡ errand.Acts → ⊥
taking_waits agent None e = cc
taking_waits agent (Some n) e = cc

giving_takes_none : (agent : Name) (o : Option Name) (l : Meeting) → giving agent o ≡ errand.Takes l → ⊥
giving_takes_none agent None l e = cc
giving_takes_none agent (Some n) l e = cc

taking_gives_none : (agent : Name) (o : Option Name) (l : Meeting) → taking agent o ≡ errand.Gives l → ⊥
taking_gives_none agent None l e = cc
taking_gives_none agent (Some n) l e = cc

-- the channel and the agent of a meeting
abbrev pub MeetsOn : Name → Option Name → Meeting → Type 0
MeetsOn agent o l = (o ≡ Some l.chan) × (l.agent ≡ agent)

giving_meets : (agent : Name) (o : Option Name) (l : Meeting) → giving agent o ≡ errand.Gives l → MeetsOn agent o l
giving_meets agent None l e = absurd cc
giving_meets agent (Some n) l e = let here : Meeting = record { agent = agent; chan = n } in let same : here ≡ l = cc in subst (MeetsOn agent (Some n)) same (refl, refl)

taking_meets : (agent : Name) (o : Option Name) (l : Meeting) → taking agent o ≡ errand.Takes l → MeetsOn agent o l
taking_meets agent None l e = absurd cc
taking_meets agent (Some n) l e = let here : Meeting = record { agent = agent; chan = n } in let same : here ≡ l = cc in subst (MeetsOn agent (Some n)) same (refl, refl)

-- what does not wait acts, and what acts does not wait
pub free-acts : (agent : Name) (env : Env) (l : Layer) → waits l ≡ false → errand_at agent env l ≡ errand.Acts
free-acts agent env (ProcForm-F.Out c e) h = absurd cc
free-acts agent env (ProcForm-F.Inp c x p) h = absurd cc
free-acts agent env (ProcForm-F.Rep c x p) h = absurd cc
free-acts agent env _ h = refl

pub acts-free : (agent : Name) (env : Env) (l : Layer) → errand_at agent env l ≡ errand.Acts → waits l ≡ false
acts-free agent env (ProcForm-F.Out c e) h = absurd (giving_waits agent (chan_of c env) h)
acts-free agent env (ProcForm-F.Inp c x p) h = absurd (taking_waits agent (chan_of c env) h)
acts-free agent env (ProcForm-F.Rep c x p) h = absurd (taking_waits agent (chan_of c env) h)
acts-free agent env _ h = refl

giving_on : (agent chan : Name) (env : Env) (c x : Expr) → c ≡ x → chan_of x env ≡ Some chan → giving agent (chan_of c env) ≡ errand.Gives (record { agent = agent; chan = chan })
giving_on agent chan env c x same on = ap (λ c. giving agent (chan_of c env)) same ∙ ap (giving agent) on

taking_on : (agent chan : Name) (env : Env) (c x : Expr) → c ≡ x → chan_of x env ≡ Some chan → taking agent (chan_of c env) ≡ errand.Takes (record { agent = agent; chan = chan })
taking_on agent chan env c x same on = ap (λ c. taking agent (chan_of c env)) same ∙ ap (taking agent) on

-- the errand of an output, and of an input
pub given-errand : (agent chan : Name) (env : Env) (l : Layer) (x : Expr) → given_on l ≡ Some x → chan_of x env ≡ Some chan → errand_at agent env l ≡ errand.Gives (record { agent = agent; chan = chan })
given-errand agent chan env (ProcForm-F.Out c e) x h on = giving_on agent chan env c x (cc) on
given-errand agent chan env _ x h on = absurd cc

pub taken-errand : (agent chan : Name) (env : Env) (l : Layer) (t : Expr × Pat) → taken_on l ≡ Some t → chan_of t.0 env ≡ Some chan → errand_at agent env l ≡ errand.Takes (record { agent = agent; chan = chan })
taken-errand agent chan env (ProcForm-F.Inp c x p) t h on = let same : (c, x) ≡ t = cc in taking_on agent chan env c t.0 (ap (λ (t : Expr × Pat). t.0) same) on
taken-errand agent chan env (ProcForm-F.Rep c x p) t h on = let same : (c, x) ≡ t = cc in taking_on agent chan env c t.0 (ap (λ (t : Expr × Pat). t.0) same) on
taken-errand agent chan env _ t h on = absurd cc

-- what gives is an output, and what takes an input
pub gives-form : (agent : Name) (env : Env) (l : Layer) (m : Meeting) → errand_at agent env l ≡ errand.Gives m → (x : Expr) × (given_on l ≡ Some x) × MeetsOn agent (chan_of x env) m
gives-form agent env (ProcForm-F.Out c e) m h = (c, refl, giving_meets agent (chan_of c env) m h)
gives-form agent env (ProcForm-F.Inp c x p) m h = absurd (taking_gives_none agent (chan_of c env) m h)
gives-form agent env (ProcForm-F.Rep c x p) m h = absurd (taking_gives_none agent (chan_of c env) m h)
gives-form agent env _ m h = absurd cc

pub takes-form : (agent : Name) (env : Env) (l : Layer) (m : Meeting) → errand_at agent env l ≡ errand.Takes m → (t : Expr × Pat) × (taken_on l ≡ Some t) × MeetsOn agent (chan_of t.0 env) m
takes-form agent env (ProcForm-F.Out c e) m h = absurd (giving_takes_none agent (chan_of c env) m h)
takes-form agent env (ProcForm-F.Inp c x p) m h = ((c, x), refl, taking_meets agent (chan_of c env) m h)
takes-form agent env (ProcForm-F.Rep c x p) m h = ((c, x), refl, taking_meets agent (chan_of c env) m h)
takes-form agent env _ m h = absurd cc

module _ {X Y : Type 0} (f : X → Y) where
  from_some : (o : Option X) (y : Y) → option_map f o ≡ Some y → (x : X) × (o ≡ Some x) × (f x ≡ y)
  from_some None y e = absurd cc
  from_some (Some x) y e = (x, refl, cc)

  -- an entry of a changed map comes from an entry
  pub mapped_from : (m : NameMap X) (q : Name) (y : Y) → map.get (mapped f m) q ≡ Some y → (x : X) × (map.get m q ≡ Some x) × (f x ≡ y)
  mapped_from m q y e = from_some (map.get m q) y (sym (get-mapped f m q) ∙ e)
