-- What holds of each atom and each packet that an event puts.
use Rattle.std.proofs.Common.{◌≡◌, Bool, true, false, cond, [], ◌∷◌, Some, IfSome, nat_eq, refl}
use Rattle.std.specs.FinMap as map
use Rattle.np_calculus.proofs.Common.{Name, Value, Proc, Event, Kind, then, when, layer, Atom, Packet, Config, Sight, inside, sight, Change, same_tag, way}
use Rattle.np_calculus.proofs.Common.{none_made, one_made, goes, output_in, change, here_row, away_row, act, arrive_row, land_row, acting, is_at}
use Rattle.np_syntax.specs.declared.process.Role.TheVariants as role
use Rattle.np_syntax.specs.declared.event.Kind.TheVariants as kind
use Rattle.np_calculus.specs.Changes.{put, cut, still}
use Rattle.np_calculus.specs.FrameRule.{Every}
use Rattle.np_calculus.proofs.Rows.{so, lone}

-- what holds of two things holds of the one that a test picks
pub picked : {X : Type 0} (P : X → Type 0) (t : Bool) (x y : X) → P x → P y → P (cond t x y)
picked P true x y h k = h
picked P false x y h k = k

module _ (A : Atom → Type 0) (B : Packet → Type 0) where
  pub record Puts (d : Change) : Type 0 where
    pub atoms : Every (λ w. IfSome w.1 A) d.atoms
    pub packets : Every (λ w. IfSome w.1 B) d.packets

  module _ (c : Config) (e : Event) (d : Change) where
    abbrev w : Sight
    w = sight c.sites (inside c) e.site

    -- both ways of a location test
    pub tested : (a : Atom) (t : Bool) (met unmet : Proc) (b n : Name) (v : Value) → (t ≡ true → A (output_in b n v e.tag)) → A (goes a met) → A (goes a unmet)
        → cond t (here_row e a met b n v) (away_row e a unmet) ≡ Some d → Puts d
    unfolding here_row away_row
    tested a true met unmet b n v made f g h = then (one_made e.made) _ h λ m new h. so Puts e h (record { atoms = (made refl, (f, tt)); packets = tt })
    tested a false met unmet b n v made f g h = then (none_made e.made) _ h λ m new h. so Puts e h (record { atoms = (g, tt); packets = tt })

    landed : (t : Bool) (a : Atom) → (t ≡ true → A a) → Puts (record still { packets = cut e.actor ∷ []; atoms = cond t (put e.actor a ∷ []) [] })
    landed true a h = record { atoms = (h refl, tt); packets = (tt, tt) }
    landed false a h = record { atoms = tt; packets = (tt, tt) }

    -- of each event, where it holds of the output that a packet becomes, and of what the acting atom puts
    pub puts-row : ((p : Packet) → map.get c.packets e.actor ≡ Some p → is_at c p.agent e.site ≡ true → A (output_in p.agent p.chan p.value e.tag))
        → (k : Kind) → ((a : Atom) → acting c e ≡ Some a → act k (layer a.proc) w e a ≡ Some d → Puts d) → change k c.sites (inside c) e ≡ Some d → Puts d
    unfolding arrive_row land_row
    puts-row lands kind.Arrive acts h =
        then (map.get c.places e.actor) _ h λ p there h. then (way p) _ h λ s comes h. when (nat_eq s e.site) _ h λ here h.
        when (same_tag e.tag (record { node = 0; role = role.Plain })) _ h λ tag h. lone Puts e h (record { atoms = tt; packets = tt })
    puts-row lands kind.Land acts h =
        then (map.get c.packets e.actor) _ h λ p flies h. when (nat_eq p.to e.site) _ h λ to h. when (same_tag p.tag e.tag) _ h λ tag h.
        lone Puts e h (landed (is_at c p.agent e.site) _ (lands p flies))
    puts-row lands k acts h = then (acting c e) _ h acts
