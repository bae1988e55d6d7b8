-- Where no site can act, each thing is one of those that may wait for good.
use Rattle.std.proofs.Common.{◌≡◌, ℕ, Bool, true, Some, List, [], ◌∷◌, sym, ap, ◌∙◌, false, refl}
use Rattle.std.specs.List.{list_any}
use Rattle.std.proofs.lemmas.List.Elements.{recursion_from_All}
use Rattle.std.specs.FinMap as map
use Rattle.np_syntax.specs.declared.value.Name.{Name}
use Rattle.np_syntax.specs.declared.value.Value.{Value}
use Rattle.np_syntax.specs.declared.expression.Expr.{Expr}
use Rattle.np_syntax.specs.declared.process.Proc.{Proc}
use Rattle.np_syntax.specs.declared.process.ProcForm.TheVariants as forms
use Rattle.np_calculus.specs.declared.config.Atom.{Atom}
use Rattle.np_calculus.specs.Config.{Config}
use Rattle.np_calculus.specs.Idle.{Idle, waits}
use Rattle.np_calculus.specs.Parts.{IsLodged}
use Rattle.np_calculus.specs.Sight.{inside}
use Rattle.np_calculus.specs.Starts.{daemon_agent, own}
use Rattle.np_eval.specs.Forms.{layer}
use Rattle.simulate_laws.specs.protocol.Chips.{Chip, Service, always_serves}
use Rattle.simulate_laws.specs.protocol.Protocol.{IsTrueOf}
use Rattle.simulate_laws.specs.protocol.Scenes.{is_there}
use Rattle.infrastructure_texts.specs.Infrastructures.{Infrastructure}
use Rattle.simulate_laws.specs.things.Mail.{Mail, Posted}
use Rattle.simulate_laws.specs.things.Shapes.{Gives, HasTaken, Is, IsMail, WaitsFor}
use Rattle.simulate_laws.specs.things.Things.{Stage, Thing}
use Rattle.simulate_laws.specs.levels.Coupled.{Coupled, View, scene, shown}
use Rattle.simulate_laws.proofs.simulation.Standing.{bearer, chan_number, letters_there, looks_alone, map_there, service_there, told}
use Rattle.simulate_laws.proofs.simulation.Waiting.{gives_there, no_meeting, no_work, takes_own}

-- what may wait for good, as far as each thing tells by itself
pub data MayRest : Thing → Type 0 where
  source : {a : Expr} {h : Atom} → MayRest (Thing.source a h)
  asking : {a : Expr} {h : Atom} → MayRest (Thing.asking a h)
  settling : {a : Expr} {h : Atom} {s : ℕ} → MayRest (Thing.settling a h s)
  beginning : {a : Expr} {h : Atom} {p : Name} {s : ℕ} → MayRest (Thing.beginning a h p s)
  opened : {p : Posted} → MayRest (Thing.opened p)
  token : {a : Name} {s : ℕ} → MayRest (Thing.token a s)
  letters : {a : Name} → MayRest (Thing.letters a)
  acks : {a : Name} {s : ℕ} → MayRest (Thing.mail (Mail.ack a s) Stage.there)
  grants : {a l : Name} → MayRest (Thing.wanting (Mail.migrating a) l)
  passes : {p : Posted} {l : Name} → MayRest (Thing.wanting (Mail.message p) l)
  serving : {k : Service} → MayRest (Thing.serving k)
  places : {ps : List (Name × Name)} → MayRest (Thing.places ps)
  free : {l : Name} {s : ℕ} → MayRest (Thing.free l s)
  -- an agent that asks where another is, and an answer of the daemon
  asks : {a b : Name} → MayRest (Thing.mail (Mail.asks a b) Stage.there)
  reading : {a b l k : Name} → MayRest (Thing.reading a b l k)
  reading_back : {a k : Name} → MayRest (Thing.reading_back a k)
  answers : {a b : Name} {u s : ℕ} → MayRest (Thing.mail (Mail.found a u b s) Stage.there)
  -- with caches
  hoping : {a : Expr} {h : Atom} {l : Name} → MayRest (Thing.hoping a h l)
  cache : {a : Name} {ps : List (Name × Name)} → MayRest (Thing.cache a ps)
  hint : {a l : Name} → MayRest (Thing.hint a l)
  keeping : {a : Name} → MayRest (Thing.keeping a)
  is_told : {a : Name} → MayRest (Thing.told a)
  replacing : {a l : Name} → MayRest (Thing.replacing a l)

module _ {i : Infrastructure} {n from first : ℕ} {low high : Config} {v : View} (c : Coupled i n from first low high v) (lodged : IsLodged (inside low)) (idle : Idle low) where
  module _ (m : Name) (a : Atom) (there : map.get low.atoms m ≡ Some a) where
    -- mail for the daemon is taken by a server
    served : {A : Type 0} (k : Service) (w : Value) → always_serves k ≡ true → Gives (daemon_agent n) (own n (chan_number k)) w a → A
    served k w always g =
        let s = service_there c lodged idle k always in
        no_meeting c lodged idle m s.mark a s.atom (own n (chan_number k)) there s.there (g.agent ∙ sym s.agent) (gives_there g) s.taking

    -- a letter is taken by its agent's server
    handed : {A : Type 0} (p : Posted) (s : ℕ) (w : Value) → map.get v.things m ≡ Some (Thing.mail (Mail.deliver p s) Stage.there ∷ []) → Gives p.agent (own n 6) w a → A
    handed p s w under g =
        let tells = recursion_from_All (IsTrueOf (scene v high) v.phase) (Chip.delivery p.agent s ∷ Chip.knows p.agent ∷ []) (told c lodged idle m (Thing.mail (Mail.deliver p s) Stage.there ∷ []) under) in
        let server = letters_there c lodged idle p.agent (ap is_there tells.0) in
        no_meeting c lodged idle m server.mark a server.atom (own n 6) there server.there (g.agent ∙ sym server.agent) (gives_there g) server.taking

    -- a copy of a server takes the map
    taken : {A : Type 0} (x : Mail) → HasTaken n first x a → A
    taken x i =
        let places = map_there c lodged idle in
        no_meeting c lodged idle places.mark m places.atom a (own n 10) places.there there (places.gives.agent ∙ sym i.agent) (gives_there places.gives) (takes_own a n 10 0 _ _ i.is)

    mails : (x : Mail) (stage : Stage) → map.get v.things m ≡ Some (Thing.mail x stage ∷ []) → IsMail n x stage a → MayRest (Thing.mail x stage)
    mails x (Stage.in_agent y) under i = no_work c lodged idle m a there (ap waits i.0.is)
    mails x Stage.on_the_way under i = absurd i
    mails (Mail.register b s) Stage.there under i = served Service.registers _ refl i
    mails (Mail.migrating b) Stage.there under i = served Service.grants _ refl i
    mails (Mail.migrated b t) Stage.there under i = served Service.notes_moves _ refl i
    mails (Mail.message p) Stage.there under i = served Service.passes_on _ refl i
    mails (Mail.dack b s) Stage.there under i = served Service.ends_deliveries _ refl i
    mails (Mail.ack b s) Stage.there under i = MayRest.acks
    mails (Mail.deliver p s) Stage.there under i = handed p s _ under i
    mails (Mail.asks x y) Stage.there under i = MayRest.asks
    mails (Mail.found x u y s) Stage.there under i = MayRest.answers

    wants : (x : Mail) (l : Name) → WaitsFor n first x l a → MayRest (Thing.wanting x l)
    wants (Mail.migrating b) l w = MayRest.grants
    wants (Mail.message p) l w = MayRest.passes
    wants _ l w = absurd w

    -- what begins another event than a communication acts alone
    acts_alone : {A : Type 0} (p : Proc) → a.proc ≡ p → waits (layer p) ≡ false → A
    acts_alone p is alone = no_work c lodged idle m a there (ap (λ (q : Proc). waits (layer q)) is ∙ alone)

    pub may_rest : (t : Thing) → map.get v.things m ≡ Some (t ∷ []) → Is i n from first t a → MayRest t
    may_rest (Thing.source x h) under i = MayRest.source
    may_rest (Thing.asking x h) under i = MayRest.asking
    may_rest (Thing.leaving x h) under i = acts_alone _ i.is (ap waits (forms.outs-Migrate _ _))
    may_rest (Thing.settling x h s) under i = MayRest.settling
    may_rest (Thing.making x h s) under i = acts_alone _ i.is (ap waits (forms.outs-Agent _ _ _))
    may_rest (Thing.beginning x h p s) under i = MayRest.beginning
    may_rest (Thing.opened p) under i = MayRest.opened
    may_rest (Thing.token x s) under i = MayRest.token
    may_rest (Thing.letters x) under i = MayRest.letters
    may_rest (Thing.opening p) under i = no_work c lodged idle m a there (ap waits i.0.is)
    may_rest (Thing.mail x stage) under i = mails x stage under i
    may_rest (Thing.taken x) under i = taken x i
    may_rest (Thing.looking x ps) under i = no_work c lodged idle m a there (looks_alone n first x ps a i)
    may_rest (Thing.wanting x l) under i = wants x l i.waits
    may_rest (Thing.serving k) under i = MayRest.serving
    may_rest (Thing.places ps) under i = MayRest.places
    may_rest (Thing.free l s) under i = MayRest.free
    may_rest (Thing.packet p) under i = absurd i
    may_rest (Thing.calling x h ps) under i = acts_alone _ i.2.is (ap waits (forms.outs-Lookup _ _ _ _ _))
    may_rest (Thing.hoping x h l) under i = MayRest.hoping
    may_rest (Thing.hiring x h) under i = acts_alone _ i.2.is (ap waits (forms.outs-Agent _ _ _))
    may_rest (Thing.passing x h) under i = acts_alone _ i.2.is (ap waits (forms.outs-Send _ _ _ _))
    may_rest (Thing.cache x ps) under i = MayRest.cache
    may_rest (Thing.hint x l) under i = MayRest.hint
    may_rest (Thing.keeping x) under i = MayRest.keeping
    may_rest (Thing.told x) under i = MayRest.is_told
    may_rest (Thing.telling x ps) under i = acts_alone _ i.1.is (ap waits (forms.outs-Lookup _ _ _ _ _))
    may_rest (Thing.replacing x l) under i = MayRest.replacing
    may_rest (Thing.adding x ps b) under i = acts_alone _ i.1.is (ap waits (forms.outs-New _ _ _))
    may_rest (Thing.carrying p t x) under i = acts_alone _ i.1.is (ap waits (forms.outs-Migrate _ _))
    may_rest (Thing.trying p t x) under i = acts_alone _ i.1.is (ap waits (forms.outs-IfLocal _ _ _ _ _))
    may_rest Thing.ended under i = acts_alone _ i.1.is (ap waits forms.outs-Stop)
    may_rest (Thing.looking_back x b l ps) under i = acts_alone _ i.is (ap waits (forms.outs-Lookup _ _ _ _ _))
    may_rest (Thing.reading x b l k) under i = MayRest.reading
    may_rest (Thing.reading_back x k) under i = MayRest.reading_back

  -- a thing that may rest, alone under its mark, that shows such a chip in this way
  pub record Rester {X : Type 0} (show : Thing → List X) (p : X → Bool) : Type 0 where
    pub mark : Name
    pub thing : Thing
    pub under : map.get v.things mark ≡ Some (thing ∷ [])
    pub atom : Atom
    pub there : map.get low.atoms mark ≡ Some atom
    pub is : Is i n from first thing atom
    pub rests : MayRest thing
    pub shown : list_any p (show thing) ≡ true

  pub rester : {X : Type 0} (show : Thing → List X) (p : X → Bool) → list_any p (shown show v.things) ≡ true → Rester show p
  rester show p h =
      let b = bearer c lodged idle show p h in
      record { mark = b.mark; thing = b.thing; under = b.under; atom = b.atom; there = b.there; is = b.is; rests = may_rest b.mark b.atom b.there b.thing b.under b.is; shown = b.shown }
