-- Each event keeps the agents of a configuration housed.
use Rattle.std.proofs.Common.{◌≡◌, ℕ, true, Option, None, Some, subst, sym, ◌∙◌}
use Rattle.std.specs.FinMap as map
use Rattle.std.specs.FinMap.{get-empty}
use Rattle.std.specs.Ordering.{nat_cmp}
use Rattle.np_calculus.proofs.Common.{Name, Value, Pat, Proc, Event, Kind, then, done, NameMap, Env, chan_of, agent_of, truth_of, letter_of, places_of, find_place}
use Rattle.np_calculus.proofs.Common.{eval, bind, Layer, layer, Atom, Packet, Config, Sight, inside, sight, Change, one_made, two_made, no_other, goes, output_in, found_on}
use Rattle.np_calculus.proofs.Common.{sends, offered_in, row, act, acting, is_at, offered}
use Rattle.np_syntax.specs.declared.value.Value as value
use Rattle.np_syntax.specs.declared.process.ProcForm.TheVariants.{outs-Out}
use Rattle.np_syntax.specs.declared.process.Tag.{Tag}
use Rattle.np_syntax.specs.declared.event.Kind.TheVariants as kind
use Rattle.np_eval.specs.Forms.{as_out}
use Rattle.np_eval.proofs.FormsByParts.{out-form}
use Rattle.np_calculus.specs.Agents.{Agents, Each, HasPlace, Housed, OfAtom, proc_agents, value_agents}
use Rattle.np_calculus.specs.Changes.{written}
use Rattle.np_calculus.specs.FrameRule.{Every}
use Rattle.np_calculus.specs.Reductions.{becomes, goes_under, output, site_in}
use Rattle.np_calculus.proofs.AgentForms.{OfForm, OfProc, of-proc, of-layer, both-parts, halves}
use Rattle.np_calculus.proofs.AgentValues.{OfValue, OfEnv, chan-fits, agent-fits, eval-fits, agent_of-fits, letter_of-fits, env-put, expr_value, bind-fits}
use Rattle.np_calculus.proofs.Fits.{fits, has_place}
use Rattle.np_calculus.proofs.Puts.{Puts, picked, puts-row, tested}
use Rattle.np_calculus.proofs.Rows.{lone, parts, so, taking}
use Rattle.np_calculus.proofs.Steps.{acting-step, offered-step, row-step, same-offer}
use Rattle.np_calculus.proofs.Writes.{each-written, stays-written, written-there}

-- ---- atoms: what they send, and how they go on

module _ (P : Name → Type 0) where
  abbrev pub OfAtoms : NameMap Atom → Type 0
  OfAtoms atoms = (m : Name) (a : Atom) → map.get atoms m ≡ Some a → OfAtom P a

  pub nothing-fits : OfEnv P map.empty
  nothing-fits x v h = absurd (let e = sym (get-empty nat_cmp x) ∙ h in cc)

  -- an atom goes on in its environment, or under another one
  goes-on : (a : Atom) (p : Proc) → OfAtom P a → OfProc P p → OfAtom P (goes a p)
  goes-on a p t h = record { agent = t.agent; proc = h; env = t.env }

  goes-in : (a : Atom) (p : Proc) (env : Env) → OfAtom P a → OfProc P p → OfEnv P env → OfAtom P (goes_under a p env)
  goes-in a p env t h k = record { agent = t.agent; proc = h; env = k }

  found-on : (a : Atom) (x : ℕ) (p q : Proc) (o : Option Name) → OfAtom P a → OfProc P p → OfProc P q → OfAtom P (found_on a x p q o)
  found-on a x p q None t h k = goes-on a q t k
  found-on a x p q (Some l) t h k = goes-in a p _ t h (env-put P a.env x (value.Chan l) (chan-fits P l) t.env)

  -- an output that an event makes
  made-fits : (agent n : Name) (v : Value) (tag : Tag) → P agent → OfValue P v → OfAtom P (output_in agent n v tag)
  made-fits agent n v tag h k = record {
    agent = h;
    proc =
        let both = both-parts P _ _ (expr_value P 0 (value.Chan n) (chan-fits P n)) (expr_value P 0 v k) in
        of-proc P (output n v tag) _ (outs-Out _ _) both;
    env = nothing-fits;
  }

  -- what an output sends
  sends-fits : (a : Atom) (s : Name × Value) → OfAtom P a → sends a ≡ Some s → OfValue P s.1
  sends-fits a s t h =
      then (as_out (layer a.proc)) _ h λ parts form h. then (chan_of parts.0 a.env) _ h λ n on h. then (eval parts.1 a.env) _ h λ v gives h.
      let same : s ≡ (n, v) = done h in
      rw same (eval-fits P a.env t.env parts.1 v gives (halves P (of-layer P a.proc _ (out-form (layer a.proc) parts form) t.proc)).1)

  -- what the atom of a mark offers on a channel
  offered-fits : (c : Config) (mark agent chan : Name) (v : Value) → OfAtoms c.atoms → offered c mark agent chan ≡ Some v → OfValue P v
  offered-fits c mark agent chan v i h =
      let o = offered-step c mark agent chan v h in
      subst (OfValue P) (sym o.is) (sends-fits o.mate o.sent (i mark o.mate o.waits) o.sends_it)

-- what holds of more names
module _ (P Q : Name → Type 0) (wider : (a : Name) → P a → Q a) where
  each-wider : (agents : Agents) → Each P agents → Each Q agents
  each-wider agents h = record { each = λ a i. wider a (h.each a i) }

  atom-wider : (a : Atom) → OfAtom P a → OfAtom Q a
  atom-wider a t = record { agent = wider a.agent t.agent; proc = each-wider _ t.proc; env = λ x v h. each-wider _ (t.env x v h) }

  pub atoms-wider : (t : NameMap Atom) → OfAtoms P t → OfAtoms Q t
  atoms-wider t h m a is = atom-wider a (h m a is)

-- ---- events

-- what the acting atom puts names no agents but those of the configuration, of its site, and of the places that are written
module _ (P : Name → Type 0) (c : Config) (e : Event) (d : Change) where
  abbrev F : Change → Type 0
  F = Puts (OfAtom P) (λ p. OfValue P p.value)

  abbrev w : Sight
  w = sight c.sites (inside c) e.site

  module _ (i : OfAtoms P c.atoms) (here : (b : Name) → is_at c b e.site ≡ true → P b) (seated : Every (λ w. P w.0) d.places) (a : Atom) (acts : acting c e ≡ Some a) where
    f : OfAtom P a
    f = i e.actor a (acting-step c e a acts).there

    its : {l : Layer} → layer a.proc ≡ l → OfForm P l
    its {l} is = of-layer P a.proc l is f.proc

    on : {b : Atom} → OfAtom P b → F (becomes e b)
    on h = record { atoms = (h, tt); packets = tt }

    -- an input with what it takes
    took : (x : Pat) (p : Proc) (n o : Name) (v : Value) (env : Env) → offered_in w.atom o a.agent n ≡ Some v → bind x v a.env ≡ Some env → Each P (proc_agents p)
        → OfAtom P (goes_under a p env)
    took x p n o v env offer binds h =
        let there = sym (same-offer c e a o n acts) ∙ offer in
        goes-in P a p env f h (bind-fits P x v a.env env binds (offered-fits P c o a.agent n v i there) f.env)

    puts : (k : Kind) → act k (layer a.proc) w e a ≡ Some d → F d
    unfolding act
    puts kind.Stop h = parts kind.Stop w e a h λ p is h. lone F e h (record { atoms = (tt, tt); packets = tt })
    puts kind.Fork h = parts kind.Fork w e a h λ (p, q) is h. then (one_made e.made) _ h λ m made h. then (no_other e.other) _ h λ l other h.
        let (x, y) = halves P (its is) in
        so F e h (record { atoms = (goes-on P a q f y, (goes-on P a p f x, tt)); packets = tt })
    puts kind.New h = parts kind.New w e a h λ (x, t, p) is h. then (one_made e.made) _ h λ n made h. then (no_other e.other) _ h λ l other h.
        so F e h (on (goes-in P a p _ f (its is) (env-put P a.env x (value.Chan n) (chan-fits P n) f.env)))
    puts kind.Let h = parts kind.Let w e a h λ (x, b, p) is h. then (eval b a.env) _ h λ v is_v h. then (bind x v a.env) _ h λ env binds h.
        let (y, z) = halves P (its is) in
        lone F e h (on (goes-in P a p env f z (bind-fits P x v a.env env binds (eval-fits P a.env f.env b v is_v y) f.env)))
    puts kind.If h = parts kind.If w e a h λ (b, p, q) is h. then (truth_of b a.env) _ h λ t truth h.
        let (y, z) = halves P (its is) in
        lone F e h (on (goes-on P a _ f (picked (OfProc P) t p q (halves P y).1 z)))
    puts kind.Comm h = parts kind.Comm w e a h λ (b, x, p) is h. taking w e a b x _ h λ n o v env on offer binds h.
        so F e h (record { atoms = (took x p n o v env offer binds (halves P (its is)).1, (tt, tt)); packets = tt })
    puts kind.Rep h = parts kind.Rep w e a h λ (b, x, p) is h. taking w e a b x _ h λ n o v env on offer binds h.
        so F e h (record { atoms = (took x p n o v env offer binds (halves P (its is)).1, tt); packets = tt })
    puts kind.Agent h = parts kind.Agent w e a h λ (x, p, q) is h. then (two_made e.made) _ h λ m made h. then (no_other e.other) _ h λ l other h.
        let there : P m.0 = (subst (λ (d : Change). Every (λ w. P w.0) d.places) (done h) seated).0 in
        let env = env-put P a.env x (value.Agent m.0) (agent-fits P m.0 there) f.env in
        let (y, z) = halves P (its is) in
        so F e h (record { atoms = (record { agent = there; proc = y; env = env }, (goes-in P a q _ f z env, tt)); packets = tt })
    puts kind.Depart h = parts kind.Depart w e a h λ (s, p) is h. then (site_in c.sites s a.env) _ h λ t names h.
        lone F e h (record { atoms = (goes-on P a p f (halves P (its is)).1, tt); packets = tt })
    puts kind.Arrive h = absurd cc
    puts kind.Local h = parts kind.Local w e a h λ (b, x, s, p, q) is h. then (agent_of b a.env) _ h λ m names h. then (chan_of x a.env) _ h λ n along h.
        then (eval s a.env) _ h λ v is_v h. then (no_other e.other) _ h λ l other h.
        let (y, unmet) = halves P (its is) in
        let (z, met) = halves P y in
        let sent = eval-fits P a.env f.env s v is_v (halves P z).1 in
        tested _ _ c e d a (is_at c m e.site) p q m n v (λ at. made-fits P m n v e.tag (here m at) sent) (goes-on P a p f met) (goes-on P a q f unmet) h
    puts kind.Send h = parts kind.Send w e a h λ (b, s, x, m) is h. then (agent_of b a.env) _ h λ n names h. then (site_in c.sites s a.env) _ h λ t to h.
        then (chan_of x a.env) _ h λ n along h. then (eval m a.env) _ h λ v is_v h.
        lone F e h (record { atoms = (tt, tt); packets = (eval-fits P a.env f.env m v is_v (halves P (its is)).1, tt) })
    puts kind.Land h = absurd cc
    puts kind.Print h = parts kind.Print w e a h λ x is h. then (eval x a.env) _ h λ v is_v h. lone F e h (record { atoms = (tt, tt); packets = tt })
    puts kind.Open h = parts kind.Open w e a h λ x is h. then (letter_of x a.env) _ h λ l holds h.
        lone F e h (on (made-fits P a.agent l.0 l.1 e.tag f.agent (letter_of-fits P a.env f.env x l holds (its is))))
    puts kind.Lookup h = parts kind.Lookup w e a h λ (b, m, x, p, q) is h. then (agent_of b a.env) _ h λ n names h. then (places_of m a.env) _ h λ ps lists h.
        let (y, z) = halves P (its is) in
        lone F e h (on (found-on P a x p q (find_place ps n) f (halves P y).1 z))
    puts kind.Post h = parts kind.Post w e a h λ (b, x, s) is h. then (agent_of b a.env) _ h λ m names h. then (chan_of x a.env) _ h λ n along h.
        then (eval s a.env) _ h λ v is_v h.
        let (y, z) = halves P (its is) in
        lone F e h (on (made-fits P m n v e.tag (agent_of-fits P a.env f.env b m names (halves P y).0) (eval-fits P a.env f.env s v is_v z)))

-- each event keeps the agents housed
pub kept-at : (c : Config) (e : Event) (d : Config) → Housed c → row e.kind c e ≡ Some d → Housed d
kept-at c e d i h =
    let s = row-step c e d e.kind h in
    let settled = (fits c.sites (inside c) e s.made s.gives).settled in
    let P : Name → Type 0 = HasPlace c.places in
    let Q : Name → Type 0 = HasPlace (written c.places s.made.places) in
    let wider : (a : Name) → P a → Q a = stays-written s.made.places c.places settled in
    let here : (b : Name) → is_at c b e.site ≡ true → Q b = λ b at. wider b (has_place _ e.site at) in
    let atoms : OfAtoms Q c.atoms = atoms-wider P Q wider c.atoms i.atoms in
    let packets : (m : Name) (p : Packet) → map.get c.packets m ≡ Some p → Each Q (value_agents p.value) = λ m p is. each-wider P Q wider _ (i.packets m p is) in
    let p = puts-row (OfAtom Q) (λ p. OfValue Q p.value) c e s.made (λ p flies at. made-fits Q p.agent p.chan p.value e.tag (here p.agent at) (packets e.actor p flies)) e.kind
    (λ a acts. puts Q c e s.made atoms here (written-there s.made.places c.places settled) a acts e.kind) s.gives in
    rw s.is (record { atoms = each-written _ s.made.atoms c.atoms p.atoms atoms; packets = each-written _ s.made.packets c.packets p.packets packets })
