-- Where no atom has a location test and there is no packet, no event makes either.
use Rattle.std.proofs.Common.{◌≡◌, ℕ, Option, None, Some, [], ◌∷◌, ◌++◌, sym, subst, ◌∙◌}
use Rattle.std.specs.FinMap as map
use Rattle.np_calculus.proofs.Common.{Name, Proc, Event, Kind, then, chan_of, agent_of, truth_of, letter_of, places_of, find_place, eval, bind, layer}
use Rattle.np_calculus.proofs.Common.{Config, Sight, inside, sight, Change, one_made, two_made, no_other, found_on, act, apply}
use Rattle.np_syntax.specs.declared.event.Kind.TheVariants as kind
use Rattle.np_calculus.specs.declared.config.Atom.{Atom}
use Rattle.np_calculus.specs.declared.config.Packet.{Packet}
use Rattle.np_calculus.specs.Reductions.{site_in}
use Rattle.np_calculus.proofs.Puts.{Puts, picked, puts-row}
use Rattle.np_calculus.proofs.Rows.{lone, parts, so, taking}
use Rattle.np_calculus.proofs.Steps.{RowStep, acting-step, row-step}
use Rattle.np_calculus.proofs.Writes.{each-written}
use Rattle.run_views.specs.Tests.{tests}
use Rattle.run_views.proofs.TestForms.{free-parts, output-free, tests-by}

abbrev pub Free : Atom → Type 0
Free a = tests a.proc ≡ []

-- no atom has a location test, and there is no packet
pub record IsFree (c : Config) : Type 0 where
  pub atoms : (m : Name) (a : Atom) → map.get c.atoms m ≡ Some a → Free a
  pub packets : (m : Name) (p : Packet) → map.get c.packets m ≡ Some p → ⊥

abbrev FreePuts : Change → Type 0
FreePuts = Puts Free (λ p. ⊥)

module _ (c : Config) (e : Event) (d : Change) where
  abbrev w : Sight
  w = sight c.sites (inside c) e.site

  module _ (a : Atom) (free : Free a) where
    found-free : (x : ℕ) (p q : Proc) (o : Option Name) → tests p ≡ [] → tests q ≡ [] → Free (found_on a x p q o)
    found-free x p q (Some l) h k = h
    found-free x p q None h k = k

    free-act : (k : Kind) → act k (layer a.proc) w e a ≡ Some d → FreePuts d
    unfolding act
    free-act kind.Stop h = parts kind.Stop w e a h λ p is h. lone FreePuts e h (record { atoms = (tt, tt); packets = tt })
    free-act kind.Fork h = parts kind.Fork w e a h λ (p, q) is h. then (one_made e.made) _ h λ m made h. then (no_other e.other) _ h λ l other h.
        let f = free-parts (tests p) (tests q) (sym (tests-by a.proc _ is) ∙ free) in
        so FreePuts e h (record { atoms = (f.1, (f.0, tt)); packets = tt })
    free-act kind.New h = parts kind.New w e a h λ (x, t, p) is h. then (one_made e.made) _ h λ n made h. then (no_other e.other) _ h λ l other h.
        so FreePuts e h (record { atoms = (sym (tests-by a.proc _ is) ∙ free, tt); packets = tt })
    free-act kind.Let h = parts kind.Let w e a h λ (x, b, p) is h. then (eval b a.env) _ h λ v is_v h. then (bind x v a.env) _ h λ env binds h.
        lone FreePuts e h (record { atoms = (sym (tests-by a.proc _ is) ∙ free, tt); packets = tt })
    free-act kind.If h = parts kind.If w e a h λ (b, p, q) is h. then (truth_of b a.env) _ h λ t truth h.
        let f = free-parts (tests p) (tests q) (sym (tests-by a.proc _ is) ∙ free) in
        lone FreePuts e h (record { atoms = (picked (λ p. tests p ≡ []) t p q f.0 f.1, tt); packets = tt })
    free-act kind.Comm h = parts kind.Comm w e a h λ (b, x, p) is h. taking w e a b x _ h λ n o v env on offer binds h.
        so FreePuts e h (record { atoms = (sym (tests-by a.proc _ is) ∙ free, (tt, tt)); packets = tt })
    free-act kind.Rep h = parts kind.Rep w e a h λ (b, x, p) is h. taking w e a b x _ h λ n o v env on offer binds h.
        so FreePuts e h (record { atoms = (sym (tests-by a.proc _ is) ∙ free, tt); packets = tt })
    free-act kind.Agent h = parts kind.Agent w e a h λ (x, p, q) is h. then (two_made e.made) _ h λ m made h. then (no_other e.other) _ h λ l other h.
        let f = free-parts (tests p) (tests q) (sym (tests-by a.proc _ is) ∙ free) in
        so FreePuts e h (record { atoms = (f.0, (f.1, tt)); packets = tt })
    free-act kind.Depart h = parts kind.Depart w e a h λ (s, p) is h. then (site_in c.sites s a.env) _ h λ t names h.
        lone FreePuts e h (record { atoms = (sym (tests-by a.proc _ is) ∙ free, tt); packets = tt })
    free-act kind.Arrive h = absurd cc
    free-act kind.Local h = parts kind.Local w e a h λ (b, x, s, p, q) is h.
        let none : a.proc.at ∷ (tests p ++ tests q) ≡ [] = sym (tests-by a.proc _ is) ∙ free in absurd cc
    free-act kind.Send h = parts kind.Send w e a h λ (b, s, x, m) is h.
        let none : a.proc.at ∷ [] ≡ [] = sym (tests-by a.proc _ is) ∙ free in absurd cc
    free-act kind.Land h = absurd cc
    free-act kind.Print h = parts kind.Print w e a h λ x is h. then (eval x a.env) _ h λ v is_v h. lone FreePuts e h (record { atoms = (tt, tt); packets = tt })
    free-act kind.Open h = parts kind.Open w e a h λ x is h. then (letter_of x a.env) _ h λ l holds h.
        lone FreePuts e h (record { atoms = (output-free l.0 l.1 e.tag, tt); packets = tt })
    free-act kind.Lookup h = parts kind.Lookup w e a h λ (b, m, x, p, q) is h. then (agent_of b a.env) _ h λ n names h. then (places_of m a.env) _ h λ ps lists h.
        let f = free-parts (tests p) (tests q) (sym (tests-by a.proc _ is) ∙ free) in
        lone FreePuts e h (record { atoms = (found-free x p q (find_place ps n) f.0 f.1, tt); packets = tt })
    free-act kind.Post h = parts kind.Post w e a h λ (b, x, s) is h. then (agent_of b a.env) _ h λ n names h. then (chan_of x a.env) _ h λ m along h.
        then (eval s a.env) _ h λ v is_v h. lone FreePuts e h (record { atoms = (output-free m v e.tag, tt); packets = tt })

    -- an atom without location tests begins none, and sends nothing
    pub no-local : (k : Kind) → act k (layer a.proc) w e a ≡ Some d → (k ≡ kind.Local → ⊥)
    no-local k h is = at (subst (λ k. act k (layer a.proc) w e a ≡ Some d) is h)
      where
        at : act kind.Local (layer a.proc) w e a ≡ Some d → ⊥
        at h = parts kind.Local w e a h λ (b, x, s, p, q) is h.
            let none : a.proc.at ∷ (tests p ++ tests q) ≡ [] = sym (tests-by a.proc _ is) ∙ free in cc

pub free-kept : (c d : Config) (e : Event) → IsFree c → apply c e ≡ Some d → IsFree d
free-kept c d e free h =
    let s : RowStep c e d e.kind = row-step c e d e.kind h in
    let p : FreePuts s.made = puts-row Free (λ p. ⊥) c e s.made (λ p flies here. absurd (free.packets e.actor p flies)) e.kind
    (λ a acts h. free-act c e s.made a (free.atoms e.actor a (acting-step c e a acts).there) e.kind h) s.gives in
    rw (s.is) (record {
      atoms = each-written Free s.made.atoms c.atoms p.atoms free.atoms;
      packets = each-written (λ p. ⊥) s.made.packets c.packets p.packets free.packets;
    })
