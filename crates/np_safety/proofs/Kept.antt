-- Each event keeps the types.
use Rattle.std.proofs.Common.{◌≡◌, ℕ, Bool, true, false, cond, Option, None, Some, List, [], ◌∷◌, refl, subst, sym, ap, ◌∙◌}
use Rattle.std.specs.FinMap as map
use Rattle.np_calculus.proofs.Common.{Kind, then, bind, chan_of, agent_of, truth_of, letter_of, places_of, find_place, Sight, inside, sight, Change, one_made, two_made}
use Rattle.np_calculus.proofs.Common.{no_other, goes, found_on, offered_in, row, act, acting, is_at}
use Rattle.np_safety.proofs.Common.{Name, Value, Cap, Ty, Ty-F, out-Ty, Expr, Pat, Proc, Event, and-out, same_name, is_site, World, is_lock_chan}
use Rattle.np_safety.proofs.Common.{all_locks, Types, lock_type, Env, eval, Layer, layer, Atom, Config, Fits, Sent}
use Rattle.np_syntax.specs.declared.value.Value as value
use Rattle.np_syntax.specs.declared.types.Cap.TheVariants as cap
use Rattle.np_syntax.specs.declared.types.Ty.{roll-Ty, roll-out-Ty}
use Rattle.np_syntax.specs.declared.types.Ty as ty
use Rattle.np_syntax.specs.declared.types.Ty.TheVariants.{outs-Site}
use Rattle.np_syntax.specs.declared.event.Kind.TheVariants as kind
use Rattle.np_types.specs.Worlds.{is_lock}
use Rattle.np_types.proofs.Subs.{chan-again}
use Rattle.np_calculus.specs.Reductions.{becomes, goes_under, site_in}
use Rattle.np_calculus.proofs.Puts.{Puts, picked, puts-row, tested}
use Rattle.np_calculus.proofs.Rows.{lone, parts, so, taking}
use Rattle.np_calculus.proofs.Steps.{acting-step, row-step, same-offer}
use Rattle.np_calculus.proofs.Writes.{each-written}
use Rattle.np_safety.specs.Channels.{makes_at}
use Rattle.np_safety.specs.Laws.{HasMade}
use Rattle.np_safety.proofs.Fitting.{Agrees, Fitting, FittingAtom}
use Rattle.np_safety.proofs.Shapes.{fits-itself, passes-is}
use Rattle.np_safety.proofs.Evaluates.{agent-kind, chan-kind}
use Rattle.np_safety.proofs.Matches.{agrees-put, matches}
use Rattle.np_safety.proofs.Forms.{Good, GoodForm, Taking, good-as}
use Rattle.np_safety.proofs.Atoms.{sent_on, letter_sent, places_locked, fits-value, takes, bound-as, offered-typed, made-typed}

-- an atom that goes on in its environment
goes-on : (w : World) (a : Atom) (p : Proc) (t : FittingAtom w a) → Good w t.types p → FittingAtom w (goes a p)
goes-on w a p t g = record { types = t.types; agrees = t.agrees; good = g }

-- an atom under another environment
goes-in : (w : World) (agent : Name) (p : Proc) (env : Env) (types : Types) → Agrees w env types → Good w types p → FittingAtom w (record { agent = agent; proc = p; env = env })
goes-in w agent p env types a g = record { types = types; agrees = a; good = g }

-- ---- maps of places

site-type : (t : Ty) → is_site (out-Ty t) ≡ true → t ≡ ty.Site
site-type t h = sym (roll-out-Ty t) ∙ ap roll-Ty (passes-is Ty-F.Site (out-Ty t) h ∙ sym outs-Site) ∙ roll-out-Ty ty.Site

lock_both : (c : Cap) (t : Ty) → is_lock c t ≡ true → ty.Chan c t ≡ lock_type
lock_both cap.Both t h = ap (ty.Chan cap.Both) (site-type t h)
lock_both _ t h = absurd cc

lock-fits : (w : World) (l : Name) (o : Option (Cap × Ty)) → w.chan l ≡ o → is_lock_chan o ≡ true → Fits w (value.Chan l) lock_type
lock-fits w l None e h = absurd cc
lock-fits w l (Some k) e h = fits-itself w (value.Chan l) lock_type (chan-kind w l k e ∙ ap Some (lock_both k.0 k.1 h))

find_in : (w : World) (p : Name × Name) (o : Option Name) (b : Bool) (l : Name) → is_lock_chan (w.chan p.1) ≡ true → (o ≡ Some l → is_lock_chan (w.chan l) ≡ true)
    → cond b (Some p.1) o ≡ Some l → is_lock_chan (w.chan l) ≡ true
find_in w p o true l h k e = let same : p.1 ≡ l = cc in subst (λ l. is_lock_chan (w.chan l) ≡ true) same h
find_in w p o false l h k e = k e

found_lock : (w : World) (ps : List (Name × Name)) (a : Name) → all_locks w ps ≡ true → (l : Name) → find_place ps a ≡ Some l → is_lock_chan (w.chan l) ≡ true
found_lock w [] a h l e = absurd cc
found_lock w (p ∷ ps) a h l e = let b = and-out _ _ h in find_in w p (find_place ps a) (same_name p.0 a) l b.0 (found_lock w ps a b.1 l) e

looked-typed : (w : World) (a : Atom) (t : FittingAtom w a) (x : ℕ) (p q : Proc) (o : Option Name) → ((l : Name) → o ≡ Some l → is_lock_chan (w.chan l) ≡ true)
    → Good w (map.insert t.types x lock_type) p → Good w t.types q → FittingAtom w (found_on a x p q o)
looked-typed w a t x p q None ok g h = goes-on w a q t h
looked-typed w a t x p q (Some l) ok g h =
    goes-in w a.agent p _ _ (agrees-put w a.env t.types x (value.Chan l) lock_type (lock-fits w l _ refl (ok l refl)) t.agrees) g

-- ---- the events

-- what the acting atom puts fits
module _ (w : World) (c : Config) (e : Event) (d : Change) where
  abbrev F : Change → Type 0
  F = Puts (FittingAtom w) (λ p. Sent w p.chan p.value)

  abbrev s : Sight
  s = sight c.sites (inside c) e.site

  module _ (i : Fitting w c) (a : Atom) (acts : acting c e ≡ Some a) where
    t : FittingAtom w a
    t = i.atoms e.actor a (acting-step c e a acts).there

    its : {l : Layer} → layer a.proc ≡ l → GoodForm w t.types l
    its {l} is = good-as w t.types a.proc l is t.good

    -- the actor goes on, alone
    on : {b : Atom} → FittingAtom w b → F (becomes e b)
    on h = record { atoms = (h, tt); packets = tt }

    -- an input with what it takes
    took : (x : Expr) (q : Pat) (p : Proc) (n o : Name) (v : Value) (env : Env) → Taking w t.types x q p → chan_of x a.env ≡ Some n → offered_in s.atom o a.agent n ≡ Some v
        → bind q v a.env ≡ Some env → FittingAtom w (goes_under a p env)
    took x q p n o v env g on offer binds =
        let there = sym (same-offer c e a o n acts) ∙ offer in
        let b = takes w a.env t.types t.agrees x q p n v g on (offered-typed w c o a.agent n v i.atoms there) in
        goes-in w a.agent p env g.inner (bound-as w _ env g.inner b binds) g.body

    puts : (k : Kind) → HasMade w (makes_at k c e) → act k (layer a.proc) s e a ≡ Some d → F d
    unfolding act
    puts kind.Stop names h = parts kind.Stop s e a h λ p is h. lone F e h (record { atoms = (tt, tt); packets = tt })
    puts kind.Fork names h = parts kind.Fork s e a h λ (p, q) is h. then (one_made e.made) _ h λ m made h. then (no_other e.other) _ h λ l other h.
        let (x, y) = its is in
        so F e h (record { atoms = (goes-on w a q t y, (goes-on w a p t x, tt)); packets = tt })
    puts kind.New names h = parts kind.New s e a h λ (x, y, p) is h. then (one_made e.made) _ h λ n made h. then (no_other e.other) _ h λ l other h.
        let g = its is in
        let makes : makes_at kind.New c e ≡ Some (n, g.carries) = rw (acts, is, made, g.chan) refl in
        let is_chan = chan-kind w n g.carries (subst (HasMade w) makes names) in
        let f : Fits w (value.Chan n) y = record { type = ty.Chan g.carries.0 g.carries.1; is = is_chan; below = chan-again y g.carries g.chan } in
        so F e h (on (goes-in w a.agent p _ _ (agrees-put w a.env t.types x (value.Chan n) y f t.agrees) g.body))
    puts kind.Let names h = parts kind.Let s e a h λ (x, b, p) is h. then (eval b a.env) _ h λ v gives h. then (bind x v a.env) _ h λ env binds h.
        let g = its is in
        let b = matches w x v g.type a.env t.types g.inner (fits-value w a.env t.types t.agrees b g.type v g.is gives) t.agrees g.covers in
        lone F e h (on (goes-in w a.agent p env g.inner (bound-as w _ env g.inner b binds) g.body))
    puts kind.If names h = parts kind.If s e a h λ (b, p, q) is h. then (truth_of b a.env) _ h λ y truth h.
        let g = its is in
        lone F e h (on (goes-on w a _ t (picked (Good w t.types) y p q g.1 g.2)))
    puts kind.Comm names h = parts kind.Comm s e a h λ (b, x, p) is h. taking s e a b x _ h λ n o v env along offer binds h.
        so F e h (record { atoms = (took b x p n o v env (its is) along offer binds, (tt, tt)); packets = tt })
    puts kind.Rep names h = parts kind.Rep s e a h λ (b, x, p) is h. taking s e a b x _ h λ n o v env along offer binds h.
        so F e h (record { atoms = (took b x p n o v env (its is) along offer binds, tt); packets = tt })
    puts kind.Agent names h = parts kind.Agent s e a h λ (x, p, q) is h. then (two_made e.made) _ h λ m made h. then (no_other e.other) _ h λ l other h.
        let g = its is in
        let b = agrees-put w a.env t.types x (value.Agent m.0) ty.Agent (fits-itself w _ ty.Agent (agent-kind w m.0)) t.agrees in
        so F e h (record { atoms = (goes-in w m.0 p _ _ b g.0, (goes-in w a.agent q _ _ b g.1, tt)); packets = tt })
    puts kind.Depart names h = parts kind.Depart s e a h λ (x, p) is h. then (site_in c.sites x a.env) _ h λ n to h.
        lone F e h (record { atoms = (goes-on w a p t (its is).1, tt); packets = tt })
    puts kind.Arrive names h = absurd cc
    puts kind.Local names h = parts kind.Local s e a h λ (b, x, y, p, q) is h. then (agent_of b a.env) _ h λ m named h. then (chan_of x a.env) _ h λ n along h.
        then (eval y a.env) _ h λ v gives h. then (no_other e.other) _ h λ l other h.
        let g = its is in
        tested _ _ c e d a (is_at c m e.site) p q m n v (λ at. made-typed w m n v e.tag (sent_on w a.env t.types t.agrees x y n v g.1 along gives)) (goes-on w a p t g.2) (goes-on w a q t g.3) h
    puts kind.Send names h = parts kind.Send s e a h λ (b, z, x, y) is h. then (agent_of b a.env) _ h λ m named h. then (site_in c.sites z a.env) _ h λ o to h.
        then (chan_of x a.env) _ h λ n along h. then (eval y a.env) _ h λ v gives h.
        lone F e h (record { atoms = (tt, tt); packets = (sent_on w a.env t.types t.agrees x y n v (its is).2 along gives, tt) })
    puts kind.Land names h = absurd cc
    puts kind.Print names h = parts kind.Print s e a h λ x is h. then (eval x a.env) _ h λ v gives h. lone F e h (record { atoms = (tt, tt); packets = tt })
    puts kind.Open names h = parts kind.Open s e a h λ x is h. then (letter_of x a.env) _ h λ l holds h.
        lone F e h (on (made-typed w a.agent l.0 l.1 e.tag (letter_sent w a.env t.types t.agrees x l (its is) holds)))
    puts kind.Lookup names h = parts kind.Lookup s e a h λ (b, m, x, p, q) is h. then (agent_of b a.env) _ h λ n named h. then (places_of m a.env) _ h λ ps lists h.
        let g = its is in
        lone F e h (on (looked-typed w a t x p q (find_place ps n) (found_lock w ps n (places_locked w a.env t.types t.agrees m ps g.1 lists)) g.2 g.3))
    puts kind.Post names h = parts kind.Post s e a h λ (b, x, y) is h. then (agent_of b a.env) _ h λ m named h. then (chan_of x a.env) _ h λ n along h.
        then (eval y a.env) _ h λ v gives h.
        lone F e h (on (made-typed w m n v e.tag (sent_on w a.env t.types t.agrees x y n v (its is).1 along gives)))

-- each kind of event keeps the types
pub kept-at : (w : World) (c : Config) (e : Event) (d : Config) → Fitting w c → (k : Kind) → row k c e ≡ Some d → HasMade w (makes_at k c e) → Fitting w d
kept-at w c e d i k h names =
    let s = row-step c e d k h in
    let p = puts-row (FittingAtom w) (λ p. Sent w p.chan p.value) c e s.made (λ p flies at. made-typed w p.agent p.chan p.value e.tag (i.packets e.actor p flies)) k
    (λ a acts. puts w c e s.made i a acts k names) s.gives in
    rw s.is (record { atoms = each-written _ s.made.atoms c.atoms p.atoms i.atoms; packets = each-written _ s.made.packets c.packets p.packets i.packets })
