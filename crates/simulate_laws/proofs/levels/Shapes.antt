-- What stands under a mark, and what it begins.
use Rattle.std.proofs.Common.{◌≡◌, inl, inr, ℕ, true, None, Some, List, [], ◌∷◌, nat_eq, refl, sym, ap, subst, ◌∙◌}
use Rattle.std.specs.FinMap as map
use Rattle.np_syntax.specs.declared.value.Name.{Name}
use Rattle.np_syntax.specs.declared.process.Tag.{Tag}
use Rattle.np_syntax.specs.declared.process.Role.{Role}
use Rattle.np_syntax.specs.declared.process.Role.TheVariants as role
use Rattle.np_syntax.specs.declared.event.Kind.{Kind}
use Rattle.np_syntax.specs.declared.event.Kind.TheVariants as kind
use Rattle.np_syntax.proofs.Bools.{and-out}
use Rattle.np_syntax.proofs.Options.{done}
use Rattle.np_calculus.specs.declared.config.Atom.{Atom}
use Rattle.np_calculus.specs.declared.config.Packet.{Packet}
use Rattle.np_calculus.specs.Begins.{begun_by}
use Rattle.np_calculus.specs.Config.{Config}
use Rattle.np_calculus.specs.Reductions.{role_index, same_tag}
use Rattle.np_eval.specs.Forms.{layer}
use Rattle.infrastructure_texts.specs.Infrastructures.{Infrastructure}
use Rattle.simulate_laws.specs.things.Acting.{begins}
use Rattle.simulate_laws.specs.things.Shapes.{Are, Is, IsUnderWay}
use Rattle.simulate_laws.specs.things.Things.{IsHeaded, Thing}
use Rattle.simulate_laws.proofs.things.Acting.{begins-by-thing}
use Rattle.simulate_laws.specs.levels.Coupled.{Coupled, IsShaped, View}
use Rattle.simulate_laws.proofs.levels.Values.{no_value}

-- tags that are alike have one role
pub same_role : (a b : Tag) → same_tag a b ≡ true → a.role ≡ b.role
same_role a b h = go a.role b.role (and-out _ _ h).1
  where
    go : (r s : Role) → nat_eq (role_index r) (role_index s) ≡ true → r ≡ s
    go role.Plain role.Plain e = refl
    go role.Post role.Post e = refl
    go role.Infra role.Infra e = refl
    go _ _ e = absurd cc

module _ {i : Infrastructure} {n from first : ℕ} {low high : Config} {v : View} (c : Coupled i n from first low high v) where
  -- the things of an atom that stands there
  pub record OfAtom (m : Name) (a : Atom) : Type 0 where
    pub things : List Thing
    pub no_packet : map.get low.packets m ≡ None
    pub there : map.get v.things m ≡ Some things
    pub headed : IsHeaded things
    pub are : Are i n from first a things

  pub of_atom : (m : Name) (a : Atom) → map.get low.atoms m ≡ Some a → OfAtom m a
  of_atom m a h = go (c.shaped m)
    where
      go : IsShaped i n from first low v.things m → OfAtom m a
      go (IsShaped.nothing x y z) = no_value (sym x ∙ h)
      go (IsShaped.atom {ts = ts} x y z u r) = record { things = ts; no_packet = y; there = z; headed = u; are = subst (λ b. Are i n from first b ts) (sym (done (sym x ∙ h))) r }
      go (IsShaped.packet x y z r) = no_value (sym x ∙ h)

  -- the thing of a packet that flies
  pub record OfPacket (m : Name) (k : Packet) : Type 0 where
    pub thing : Thing
    pub no_atom : map.get low.atoms m ≡ None
    pub there : map.get v.things m ≡ Some (thing ∷ [])
    pub is : IsUnderWay n thing k

  pub of_packet : (m : Name) (k : Packet) → map.get low.packets m ≡ Some k → OfPacket m k
  of_packet m k h = go (c.shaped m)
    where
      go : IsShaped i n from first low v.things m → OfPacket m k
      go (IsShaped.nothing x y z) = no_value (sym y ∙ h)
      go (IsShaped.atom x y z u r) = no_value (sym y ∙ h)
      go (IsShaped.packet {t = t} x y z r) = record { thing = t; no_atom = x; there = z; is = subst (IsUnderWay n t) (sym (done (sym y ∙ h))) r }

  -- the one thing of an atom that begins an event of a kind, but for brackets
  pub record OfActor (m : Name) (a : Atom) (k : Kind) (r : Role) : Type 0 where
    pub thing : Thing
    pub no_packet : map.get low.packets m ≡ None
    pub there : map.get v.things m ≡ Some (thing ∷ [])
    pub is : Is i n from first thing a
    pub its_kind : begins thing r k ≡ true

  pub of_actor : (m : Name) (a : Atom) (k : Kind) (r : Role) → map.get low.atoms m ≡ Some a → begun_by (layer a.proc) ≡ Some k → a.proc.tag.role ≡ r → (k ≡ kind.Fork → r ≡ role.Infra → ⊥) → OfActor m a k r
  of_actor m a k r h begun its apart =
      let o = of_atom m a h in
      elim (begins-by-thing n from first a o.things k o.are begun) [
        | inl b ↦ record {
          thing = b.thing;
          no_packet = o.no_packet;
          there = o.there ∙ ap Some b.alone;
          is = b.is;
          its_kind = ap (λ s. begins b.thing s k) (sym its) ∙ b.its_kind;
        }
        | inr b ↦ absurd (apart b.0 (sym its ∙ b.1))
      ]
