-- A configuration that agrees with what a site has is that and a rest.
use Rattle.std.proofs.Common.{◌≡◌, inl, inr, ℕ, Option, None, Some, IsSome, refl}
use mathlib.Core.Path.{fun_ext}
use Rattle.np_calculus.proofs.Common.{Name, Config, Contents, inside}
use Rattle.np_calculus.specs.declared.config.Atom.{Atom}
use Rattle.np_calculus.specs.declared.config.Packet.{Packet}
use Rattle.np_calculus.specs.declared.config.Place.TheVariants as place
use Rattle.np_calculus.specs.Parts.{IsAway, IsLodged, IsWhole, either}
use Rattle.np_calculus.proofs.Fits.{some}
use Rattle.np_syntax.proofs.Options.{none_of}
use Rattle.np_calculus.proofs.FrameRule.{frame_rule, none-some}
use Rattle.np_site_runs.specs.merged.Agrees.{Agrees, EventOfSite, lacking, minus}

-- a look-up of the whole is one of the part, or else one of the rest
halves : {X : Type 0} (o c : Option X) → ((x : X) → o ≡ Some x → c ≡ Some x) → c ≡ either o (lacking o c)
halves None c h = refl
halves (Some x) c h = h x refl

module _ {X Y : Type 0} where
  -- the same where another look-up of the part keeps it out of the rest
  halves_left : (o c : Option X) (b : Option Y) → ((x : X) → o ≡ Some x → c ≡ Some x) → ((y : Y) → b ≡ Some y → c ≡ None) → c ≡ either o (lacking o (lacking b c))
  halves_left (Some x) c b h i = h x refl
  halves_left None c None h i = refl
  halves_left None c (Some y) h i = i y refl

  halves_right : (o c : Option X) (b : Option Y) → ((x : X) → o ≡ Some x → c ≡ Some x) → ((y : Y) → b ≡ Some y → c ≡ None) → c ≡ either o (lacking b (lacking o c))
  halves_right (Some x) c b h i = h x refl
  halves_right None c None h i = refl
  halves_right None c (Some y) h i = i y refl

  gone : (o : Option X) (c : Option Y) → IsSome o → lacking o c ≡ None
  gone None c h = absurd cc
  gone (Some x) c h = refl

  left-over : (o : Option X) (c : Option Y) (y : Y) → lacking o c ≡ Some y → (o ≡ None) × (c ≡ Some y)
  left-over None c y h = (refl, h)
  left-over (Some x) c y h = absurd cc

  there : (o : Option X) (c : Option Y) → o ≡ None → IsSome c → IsSome (lacking o c)
  there None c e h = h
  there (Some x) c e h = absurd cc

gone_too : {X Y : Type 0} (o : Option X) (c : Option Y) → c ≡ None → lacking o c ≡ None
gone_too None c h = h
gone_too (Some x) c h = refl

module _ (part whole : Config) (site : ℕ) (a : Agrees part whole site) where
  abbrev x : Contents
  x = inside part

  abbrev c : Contents
  c = inside whole

  no-atom : (m : Name) (p : Packet) → x.packet m ≡ Some p → c.atom m ≡ None
  no-atom m p h = none_of (c.atom m) λ is. none-some (c.packet m) (a.one_mark m is) (some (c.packet m) p (a.packets m p h))

  no-packet : (m : Name) (b : Atom) → x.atom m ≡ Some b → c.packet m ≡ None
  no-packet m b h = a.one_mark m (some (c.atom m) b (a.atoms m b h))

  pub agreed : IsWhole whole part (minus c x)
  agreed = record {
    sites = a.sites;
    split = record {
      is = λ i. record {
        place = fun_ext (λ q. halves (x.place q) (c.place q) (a.places q)) i;
        atom = fun_ext (λ m. halves_left (x.atom m) (c.atom m) (x.packet m) (a.atoms m) (no-atom m)) i;
        packet = fun_ext (λ m. halves_right (x.packet m) (c.packet m) (x.atom m) (a.packets m) (no-packet m)) i;
      };
      apart = record {
        agents = λ q is. gone (x.place q) (c.place q) is;
        marks = λ m is. elim is [
          | inl h ↦ record { atom = gone (x.atom m) _ h; packet = gone (x.atom m) _ h }
          | inr h ↦ record {
            atom = gone_too (x.atom m) _ (gone (x.packet m) (c.atom m) h);
            packet = gone_too (x.atom m) _ (gone (x.packet m) (c.packet m) h);
          }
        ];
      };
    };
    born = a.born;
  }

  rest-lodged : IsLodged (minus c x)
  rest-lodged = record {
    each = λ m b is.
        let first = left-over (x.atom m) (lacking (x.packet m) (c.atom m)) b is in
        let second = left-over (x.packet m) (c.atom m) b first.1 in
        there (x.place b.agent) (c.place b.agent) (none_of (x.place b.agent) λ has. none-some (x.atom m) first.0 (a.with_them m b second.1 has)) (a.lodged.each m b second.1);
  }

  rest-away : IsAway (minus c x) site
  rest-away = record {
    none = λ agent is.
        let p = left-over (x.place agent) (c.place agent) (place.At site) is in
        none-some (x.place agent) p.0 (a.here agent p.1);
  }

pub event_of_site : EventOfSite
event_of_site part next whole e a new h =
    frame_rule whole part next (minus (inside whole) (inside part)) e (agreed part whole e.site a) (rest-lodged part whole e.site a) (rest-away part whole e.site a) new h
