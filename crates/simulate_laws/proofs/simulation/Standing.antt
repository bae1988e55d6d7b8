-- What always stands there: the daemon's map, its servers, and the servers of the agents.
use Rattle.std.proofs.Common.{◌≡◌, ℕ, Bool, true, false, nat_eq, inl, inr, Some, List, [], ◌∷◌, refl, sym, ap, subst, ◌∙◌, arith}
use Rattle.std.specs.List.{All, flat_map, list_any}
use Rattle.std.specs.FinMap as map
use Rattle.np_syntax.specs.declared.value.Name.{Name}
use Rattle.np_syntax.specs.declared.value.Value as value
use Rattle.np_syntax.specs.declared.process.Proc.{Proc}
use Rattle.np_syntax.specs.declared.process.ProcForm.TheVariants as forms
use Rattle.np_tables.proofs.Tables.{same_name-is}
use Rattle.np_calculus.specs.declared.config.Atom.{Atom}
use Rattle.np_calculus.specs.Config.{Config}
use Rattle.np_calculus.specs.Idle.{Idle, waits}
use Rattle.np_calculus.specs.Parts.{IsLodged}
use Rattle.np_calculus.specs.Sight.{inside}
use Rattle.np_calculus.specs.Starts.{daemon_agent, own}
use Rattle.np_eval.specs.Forms.{layer}
use Rattle.simulate_laws.specs.protocol.Chips.{Chip, Service, does, is_of_locks, service_number, takes_for, always_serves}
use Rattle.simulate_laws.specs.protocol.Protocol.{IsTrueOf}
use Rattle.simulate_laws.specs.protocol.Scenes.{is_there}
use Rattle.simulate_laws.proofs.protocol.Steps.{all_taken}
use Rattle.infrastructure_texts.specs.Infrastructures.{Infrastructure}
use Rattle.simulate_laws.specs.things.Desks.{desk}
use Rattle.simulate_laws.specs.things.Mail.{Mail}
use Rattle.simulate_laws.specs.things.Shapes.{Gives, Is, IsLooking, IsServing}
use Rattle.simulate_laws.specs.things.Things.{Stage, Thing, mail_chips, show_all, shows}
use Rattle.simulate_laws.specs.things.CacheShapes.{IsLookingBack}
use Rattle.simulate_laws.specs.levels.Coupled.{Coupled, View, chips, scene, shown, whereabouts}
use Rattle.simulate_laws.proofs.levels.Marks.{step_at}
use Rattle.simulate_laws.proofs.simulation.Anys.{any_counted, any_first, any_shown, any_weaker, one_truth}
use Rattle.simulate_laws.proofs.simulation.Waiting.{Taking, no_work, one_thing, serves_own}

-- the chips of what stands there for good
abbrev is_standing : Chip → Bool
is_standing (Chip.locks m) = true
is_standing (Chip.takes_letters a) = true
is_standing (Chip.serves k) = true
is_standing _ = false

locks_stand : (x : Chip) → is_of_locks x ≡ true → is_standing x ≡ true
locks_stand (Chip.locks m) h = refl
locks_stand _ h = absurd cc

letters_stand : (a : Name) (x : Chip) → takes_for a x ≡ true → is_standing x ≡ true
letters_stand a (Chip.takes_letters b) h = refl
letters_stand a _ h = absurd cc

services_stand : (k : Service) (x : Chip) → does k x ≡ true → is_standing x ≡ true
services_stand k (Chip.serves j) h = refl
services_stand k _ h = absurd cc

-- mail shows none of them
no_mail : (m : Mail) (stage : Stage) → list_any is_standing (mail_chips m stage) ≡ false
no_mail (Mail.register b s) stage = refl
no_mail (Mail.migrating a) stage = refl
no_mail (Mail.migrated a t) (Stage.in_agent x) = refl
no_mail (Mail.migrated a t) _ = refl
no_mail (Mail.message p) stage = refl
no_mail (Mail.dack b s) stage = refl
no_mail (Mail.ack a s) Stage.there = refl
no_mail (Mail.ack a s) _ = refl
no_mail (Mail.deliver p s) stage = refl
no_mail (Mail.asks a b) stage = refl
no_mail (Mail.found a u b s) stage = refl

no_wanting_chip : (m : Mail) (l : Name) → list_any is_standing (shows (Thing.wanting m l)) ≡ false
no_wanting_chip (Mail.migrating a) l = refl
no_wanting_chip (Mail.message p) l = refl
no_wanting_chip _ l = refl

data IsStanding : Thing → Type 0 where
  letters : {a : Name} → IsStanding (Thing.letters a)
  serving : {k : Service} → IsStanding (Thing.serving k)
  places : {ps : List (Name × Name)} → IsStanding (Thing.places ps)
  looking : {m : Mail} {ps : List (Name × Name)} → IsStanding (Thing.looking m ps)
  looking_back : {a b l : Name} {ps : List (Name × Name)} → IsStanding (Thing.looking_back a b l ps)

bad_truth : {A : Type 0} {b : Bool} → b ≡ false → b ≡ true → A
bad_truth f t = absurd (let bad : false ≡ true = sym f ∙ t in cc)

standing : (t : Thing) → list_any is_standing (shows t) ≡ true → IsStanding t
standing (Thing.letters a) h = IsStanding.letters
standing (Thing.serving k) h = IsStanding.serving
standing (Thing.places ps) h = IsStanding.places
standing (Thing.looking m ps) h = IsStanding.looking
standing (Thing.looking_back a b l ps) h = IsStanding.looking_back
standing (Thing.mail m stage) h = bad_truth (no_mail m stage) h
standing (Thing.taken m) h = bad_truth (no_mail m Stage.there) h
standing (Thing.wanting m l) h = bad_truth (no_wanting_chip m l) h
standing _ h = absurd cc

-- what looks up acts alone
pub looks_alone : (n first : ℕ) (m : Mail) (ps : List (Name × Name)) (low : Atom) → IsLooking n first m ps low → waits (layer low.proc) ≡ false
looks_alone n first m ps low i = go i.service i.is
  where
    go : (k : Service) → low.proc ≡ (desk n first k).body → waits (layer low.proc) ≡ false
    go Service.registers is = ap (λ (q : Proc). waits (layer q)) is ∙ ap waits (forms.outs-New _ _ _)
    go Service.grants is = ap (λ (q : Proc). waits (layer q)) is ∙ ap waits (forms.outs-Lookup _ _ _ _ _)
    go Service.notes_moves is = ap (λ (q : Proc). waits (layer q)) is ∙ ap waits (forms.outs-Lookup _ _ _ _ _)
    go Service.passes_on is = ap (λ (q : Proc). waits (layer q)) is ∙ ap waits (forms.outs-Lookup _ _ _ _ _)
    go Service.ends_deliveries is = ap (λ (q : Proc). waits (layer q)) is ∙ ap waits (forms.outs-Lookup _ _ _ _ _)
    go Service.tells is = ap (λ (q : Proc). waits (layer q)) is ∙ ap waits (forms.outs-Lookup _ _ _ _ _)

looks_back_alone : (n first : ℕ) (a b l : Name) (ps : List (Name × Name)) (low : Atom) → IsLookingBack n first a b l ps low → waits (layer low.proc) ≡ false
looks_back_alone n first a b l ps low i = ap (λ (q : Proc). waits (layer q)) i.is ∙ ap waits (forms.outs-Lookup _ _ _ _ _)

-- the number of a service's channel
abbrev pub chan_number : Service → ℕ
chan_number Service.registers = 2
chan_number Service.grants = 3
chan_number Service.notes_moves = 4
chan_number Service.passes_on = 5
chan_number Service.ends_deliveries = 8
chan_number Service.tells = 15

serves_on : (n first : ℕ) (k : Service) (low : Atom) → IsServing n first k low → Taking low (own n (chan_number k))
serves_on n first Service.registers low i = serves_own low n 2 0 _ _ i.is
serves_on n first Service.grants low i = serves_own low n 3 0 _ _ i.is
serves_on n first Service.notes_moves low i = serves_own low n 4 0 _ _ i.is
serves_on n first Service.passes_on low i = serves_own low n 5 0 _ _ i.is
serves_on n first Service.ends_deliveries low i = serves_own low n 8 0 _ _ i.is
serves_on n first Service.tells low i = serves_own low n 15 0 _ _ i.is

same_service : (k j : Service) → nat_eq (service_number k) (service_number j) ≡ true → k ≡ j
same_service Service.registers Service.registers h = refl
same_service Service.grants Service.grants h = refl
same_service Service.notes_moves Service.notes_moves h = refl
same_service Service.passes_on Service.passes_on h = refl
same_service Service.ends_deliveries Service.ends_deliveries h = refl
same_service Service.tells Service.tells h = refl
same_service _ _ h = absurd cc

module _ {i : Infrastructure} {n from first : ℕ} {low high : Config} {v : View} (c : Coupled i n from first low high v) (lodged : IsLodged (inside low)) (idle : Idle low) where
  -- what a thing tells is true
  pub told : (m : Name) (ts : List Thing) → map.get v.things m ≡ Some ts → All (IsTrueOf (scene v high) v.phase) (show_all ts)
  told m ts h = all_taken (step_at shows v.things m ts [] h) (IsTrueOf (scene v high) v.phase) c.protocol.true_chips

  -- a thing alone under its mark, that shows such a chip in this way
  pub record Bearer {X : Type 0} (show : Thing → List X) (p : X → Bool) : Type 0 where
    pub mark : Name
    pub thing : Thing
    pub under : map.get v.things mark ≡ Some (thing ∷ [])
    pub atom : Atom
    pub there : map.get low.atoms mark ≡ Some atom
    pub is : Is i n from first thing atom
    pub shown : list_any p (show thing) ≡ true

  alone_shows : {X : Type 0} (show : Thing → List X) (p : X → Bool) (t : Thing) → list_any p (flat_map show (t ∷ [])) ≡ true → list_any p (show t) ≡ true
  alone_shows show p t h = elim (any_first p (show t) [] h) [ inl a ↦ a | inr b ↦ absurd cc ]

  pub bearer : {X : Type 0} (show : Thing → List X) (p : X → Bool) → list_any p (shown show v.things) ≡ true → Bearer show p
  bearer show p h =
      let s = any_shown (flat_map show) p v.things h in
      let o = one_thing c lodged idle s.0 s.1 s.2 in
      record {
        mark = s.0;
        thing = o.thing;
        under = s.2 ∙ ap Some o.alone;
        atom = o.atom;
        there = o.there;
        is = o.is;
        shown = alone_shows show p o.thing (subst (λ ts. list_any p (flat_map show ts) ≡ true) o.alone s.3);
      }

  -- the daemon's map is there
  pub record MapThere : Type 0 where
    pub mark : Name
    pub held : List (Name × Name)
    pub under : map.get v.things mark ≡ Some (Thing.places held ∷ [])
    pub atom : Atom
    pub there : map.get low.atoms mark ≡ Some atom
    pub gives : Gives (daemon_agent n) (own n 10) (value.Places held) atom

  pub map_there : MapThere
  map_there = go b.thing b.under b.is (standing b.thing (any_weaker is_of_locks is_standing locks_stand (shows b.thing) b.shown)) b.shown
    where
      b : Bearer shows is_of_locks
      b = bearer shows is_of_locks (any_counted is_of_locks (chips v.things) (omega (arith, c.protocol.one_map)))

      go : (t : Thing) → map.get v.things b.mark ≡ Some (t ∷ []) → Is i n from first t b.atom → IsStanding t → list_any is_of_locks (shows t) ≡ true → MapThere
      go t under i IsStanding.letters shown = absurd cc
      go t under i IsStanding.serving shown = absurd cc
      go t under i (IsStanding.places {ps = ps}) shown = record { mark = b.mark; held = ps; under = under; atom = b.atom; there = b.there; gives = i }
      go t under i (IsStanding.looking {m = m} {ps = ps}) shown = no_work c lodged idle b.mark b.atom b.there (looks_alone n first m ps b.atom i)
      go t under i (IsStanding.looking_back {a = x} {b = y} {l = l} {ps = ps}) shown = no_work c lodged idle b.mark b.atom b.there (looks_back_alone n first x y l ps b.atom i)

  -- what takes in an agent from a channel is there
  pub record Server (a chan : Name) : Type 0 where
    pub mark : Name
    pub atom : Atom
    pub there : map.get low.atoms mark ≡ Some atom
    pub agent : atom.agent ≡ a
    pub taking : Taking atom chan

  pub service_there : (k : Service) → always_serves k ≡ true → Server (daemon_agent n) (own n (chan_number k))
  service_there k always = go b.thing b.is (standing b.thing (any_weaker (does k) is_standing (services_stand k) (shows b.thing) b.shown)) b.shown
    where
      b : Bearer shows (does k)
      b = bearer shows (does k) (any_counted (does k) (chips v.things) (c.protocol.services k always))

      go : (t : Thing) → Is i n from first t b.atom → IsStanding t → list_any (does k) (shows t) ≡ true → Server (daemon_agent n) (own n (chan_number k))
      go t i IsStanding.letters shown = absurd cc
      go t i (IsStanding.serving {k = j}) shown =
          let same : j ≡ k = sym (same_service k j (one_truth _ shown)) in
          record { mark = b.mark; atom = b.atom; there = b.there; agent = i.agent; taking = subst (λ x. Taking b.atom (own n (chan_number x))) same (serves_on n first j b.atom i) }
      go t i IsStanding.places shown = absurd cc
      go t i (IsStanding.looking {m = m} {ps = ps}) shown = no_work c lodged idle b.mark b.atom b.there (looks_alone n first m ps b.atom i)
      go t i (IsStanding.looking_back {a = x} {b = y} {l = l} {ps = ps}) shown = no_work c lodged idle b.mark b.atom b.there (looks_back_alone n first x y l ps b.atom i)

  pub letters_there : (a : Name) → is_there (whereabouts (map.get high.places a)) ≡ true → Server a (own n 6)
  letters_there a placed = go b.thing b.is (standing b.thing (any_weaker (takes_for a) is_standing (letters_stand a) (shows b.thing) b.shown)) b.shown
    where
      b : Bearer shows (takes_for a)
      b = bearer shows (takes_for a) (any_counted (takes_for a) (chips v.things) (c.protocol.letters a placed))

      go : (t : Thing) → Is i n from first t b.atom → IsStanding t → list_any (takes_for a) (shows t) ≡ true → Server a (own n 6)
      go t i (IsStanding.letters {a = x}) shown =
          record { mark = b.mark; atom = b.atom; there = b.there; agent = i.agent ∙ sym (same_name-is a x (one_truth _ shown)); taking = serves_own b.atom n 6 i.node _ _ i.is }
      go t i IsStanding.serving shown = absurd cc
      go t i IsStanding.places shown = absurd cc
      go t i (IsStanding.looking {m = m} {ps = ps}) shown = no_work c lodged idle b.mark b.atom b.there (looks_alone n first m ps b.atom i)
      go t i (IsStanding.looking_back {a = x} {b = y} {l = l} {ps = ps}) shown = no_work c lodged idle b.mark b.atom b.there (looks_back_alone n first x y l ps b.atom i)
