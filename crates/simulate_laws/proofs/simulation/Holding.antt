-- With messengers: along each run who has a letter is the daemon, its agent or a messenger, and of two marks that stand for one mark one is spent.
use Rattle.std.proofs.Common.{◌≡◌, ◌⊎◌, inl, inr, ℕ, Bool, true, false, cond, ◌||◌, Option, None, Some, List, [], ◌∷◌, ◌++◌, refl, sym, ap, subst, ◌∙◌}
use Rattle.std.specs.FinMap as map
use Rattle.std.specs.FinSet as set
use Rattle.np_syntax.specs.declared.value.Name.{Name}
use Rattle.np_syntax.specs.declared.process.Role.{Role}
use Rattle.np_syntax.specs.declared.process.Role.TheVariants as role
use Rattle.np_syntax.specs.declared.process.ProcForm.{ProcForm-F}
use Rattle.np_syntax.specs.declared.process.ProcForm.TheVariants as forms
use Rattle.np_syntax.specs.declared.event.Event.{Event}
use Rattle.np_syntax.specs.declared.event.Kind.{Kind}
use Rattle.np_syntax.specs.declared.event.Kind.TheVariants as kind
use Rattle.np_syntax.specs.declared.event.Made.{Made}
use Rattle.np_syntax.specs.declared.event.Made.TheVariants as made
use Rattle.np_syntax.specs.Options.{◌>>=◌}
use Rattle.np_syntax.proofs.Options.{done}
use Rattle.np_tables.specs.Names.{same_name}
use Rattle.np_tables.proofs.Tables.{born_insert, cut_here, same_name-is, same_name-itself, same_name-swap}
use Rattle.np_calculus.specs.declared.config.Atom.{Atom}
use Rattle.np_calculus.specs.declared.config.Packet.{Packet}
use Rattle.np_calculus.specs.Begins.{begun_by}
use Rattle.np_calculus.specs.Config.{Config}
use Rattle.np_calculus.specs.FrameRule.{IsMade}
use Rattle.np_calculus.specs.Reductions.{row, run}
use Rattle.np_calculus.specs.Starts.{daemon_agent}
use Rattle.np_eval.specs.Forms.{layer}
use Rattle.np_lift.specs.Posts.{Letter}
use Rattle.np_lift.specs.CachedLift.{Standing, at_first, is_dropped, lifted_by, stands_for, with_mark}
use Rattle.np_lift.specs.CachedLaws.{adds_mark}
use Rattle.np_lift.specs.CachedPosts.{letter_given}
use Rattle.np_lift.proofs.Standings.{stands-itself}
use Rattle.infrastructure_texts.specs.Infrastructures.{Infrastructure}
use Rattle.simulate_laws.specs.things.Acting.{begins}
use Rattle.simulate_laws.specs.things.Mail.{Mail, Posted}
use Rattle.simulate_laws.specs.things.Shapes.{Are, Is, IsUnderWay}
use Rattle.simulate_laws.specs.things.Things.{Stage, Thing, carried}
use Rattle.simulate_laws.proofs.things.Acting.{begins-by-thing}
use Rattle.simulate_laws.specs.levels.Coupled.{Coupled, IsShaped, View}
use Rattle.simulate_laws.specs.levels.Letters.{IsFinding, IsHiringFor, NoLetters, OtherLetter, SameLetters, as_letter, first_letter_of, letter_under}
use Rattle.simulate_laws.specs.levels.Roles.{may_occur}
use Rattle.simulate_laws.proofs.levels.Quiet.{or_second}
use Rattle.simulate_laws.proofs.levels.Sends.{sending}
use Rattle.simulate_laws.proofs.levels.Shapes.{of_atom, of_packet}
use Rattle.simulate_laws.specs.simulation.Letters.{LettersLeft}
use Rattle.simulate_laws.proofs.simulation.Lodged.{no-post}
use Rattle.simulate_laws.proofs.simulation.Runs.{IsStep}
use Rattle.simulate_laws.proofs.simulation.Steps.{runs-on}
use Rattle.simulate_laws.specs.simulation.OnePlace.{IsHeld, IsHolder, IsSpent}
use Rattle.simulate_laws.proofs.simulation.Events.{kept, new-stands, no-mark, old-stands, unborn, unseen}
use Rattle.simulate_laws.proofs.simulation.Marks.{agent-stays, spent-stays}

pub no_value : {A X : Type 0} {x : A} (o : Option A) → o ≡ None → o ≡ Some x → X
no_value o none some = absurd (let bad = sym none ∙ some in cc)

-- ---- what stands under a mark that has a letter

module _ {i : Infrastructure} {n from first : ℕ} where
  pub are-some : {a : Atom} {ts : List Thing} → Are i n from first a ts → ts ≡ [] → ⊥
  are-some (Are.one is) none = absurd cc
  are-some (Are.both {ts = []} is left right) none = are-some left refl
  are-some (Are.both {ts = t ∷ ts} is left right) none = absurd cc

  -- an atom with one thing is that
  of-one : {a : Atom} (t : Thing) {ts : List Thing} → Are i n from first a ts → ts ≡ t ∷ [] → Is i n from first t a
  of-one {a} t (Are.one {t = s} is) same = subst (λ s. Is i n from first s a) (let one : s ∷ [] ≡ t ∷ [] = same in cc) is
  of-one t (Are.both {ts = []} is left right) same = absurd (are-some left refl)
  of-one t (Are.both {ts = s ∷ ts} {us = us} is left right) same = absurd (are-some right (none-behind ts us (let one : s ∷ (ts ++ us) ≡ t ∷ [] = same in cc)))
    where
      none-behind : (xs ys : List Thing) → xs ++ ys ≡ [] → ys ≡ []
      none-behind [] ys none = none
      none-behind (x ∷ xs) ys none = absurd cc

-- a packet that carries a letter is for the daemon or for the letter's agent
pub packet-holder : (n : ℕ) (t : Thing) (k : Packet) (p : Posted) → IsUnderWay n t k → carried t ≡ Some p → (k.agent ≡ daemon_agent n) ⊎ (k.agent ≡ p.agent)
packet-holder n (Thing.mail (Mail.message q) Stage.on_the_way) k p is carries = inl (ap (λ (k : Packet). k.agent) is.0)
packet-holder n (Thing.mail (Mail.deliver q s) Stage.on_the_way) k p is carries = inr (ap (λ (k : Packet). k.agent) is.0 ∙ ap (λ (p : Posted). p.agent) (sym (done carries)))
packet-holder n (Thing.mail m Stage.on_the_way) k p is carries = absurd cc
packet-holder n (Thing.packet q) k p is carries = absurd cc
packet-holder n _ k p is carries = absurd is

-- what ends carries none
ends-without : (t : Thing) (r : Role) → begins t r kind.Stop ≡ true → carried t ≡ None
ends-without (Thing.opening p) role.Infra b = absurd cc
ends-without (Thing.opening p) role.Post b = absurd cc
ends-without (Thing.opening p) role.Plain b = absurd cc
ends-without (Thing.carrying p t a) role.Infra b = absurd cc
ends-without (Thing.carrying p t a) role.Post b = absurd cc
ends-without (Thing.carrying p t a) role.Plain b = absurd cc
ends-without (Thing.trying p t a) role.Infra b = absurd cc
ends-without (Thing.trying p t a) role.Post b = absurd cc
ends-without (Thing.trying p t a) role.Plain b = absurd cc
ends-without (Thing.mail m (Stage.in_agent x)) role.Infra b = absurd cc
ends-without (Thing.mail m (Stage.in_agent x)) role.Post b = absurd cc
ends-without (Thing.mail m (Stage.in_agent x)) role.Plain b = absurd cc
ends-without (Thing.mail m Stage.on_the_way) role.Infra b = absurd cc
ends-without (Thing.mail m Stage.on_the_way) role.Post b = absurd cc
ends-without (Thing.mail m Stage.on_the_way) role.Plain b = absurd cc
ends-without (Thing.mail m Stage.there) role.Infra b = absurd cc
ends-without (Thing.mail m Stage.there) role.Post b = absurd cc
ends-without (Thing.mail m Stage.there) role.Plain b = absurd cc
ends-without (Thing.taken m) role.Infra b = absurd cc
ends-without (Thing.taken m) role.Post b = absurd cc
ends-without (Thing.taken m) role.Plain b = absurd cc
ends-without (Thing.looking m ps) role.Infra b = absurd cc
ends-without (Thing.looking m ps) role.Post b = absurd cc
ends-without (Thing.looking m ps) role.Plain b = absurd cc
ends-without (Thing.wanting m l) role.Infra b = absurd cc
ends-without (Thing.wanting m l) role.Post b = absurd cc
ends-without (Thing.wanting m l) role.Plain b = absurd cc
ends-without _ r b = refl

module _ {i : Infrastructure} {n from first : ℕ} {low high : Config} {v : View} (c : Coupled i n from first low high v) where
  -- a mark with a letter is not spent
  pub not-spent : (m : Name) (p : Posted) → letter_under v.things m ≡ Some p → IsSpent low m → ⊥
  not-spent m p has spent = go (c.shaped m)
    where
      of_things : (a : Atom) (ts : List Thing) → map.get v.things m ≡ Some ts → Are i n from first a ts → layer a.proc ≡ ProcForm-F.Stop → ⊥
      of_things a ts there are ended = elim (begins-by-thing n from first a ts kind.Stop are (ap begun_by ended)) [
        | inl b ↦ (let none : carried b.thing ≡ None = ends-without b.thing a.proc.tag.role b.its_kind in
            let its : carried b.thing ≡ Some p = ap (λ ts. first_letter_of ts) (sym b.alone) ∙ ap (λ o. o >>= first_letter_of) (sym there) ∙ has in
            no_value (carried b.thing) none its)
        | inr b ↦ (let bad = b.0 in cc)
      ]

      go : IsShaped i n from first low v.things m → ⊥
      go (IsShaped.nothing x y none) = no_value (letter_under v.things m) (ap (λ o. o >>= first_letter_of) none) has
      go (IsShaped.atom {a = a} {ts = ts} x y there headed are) = of_things a ts there are (spent.ended a x)
      go (IsShaped.packet x y there is) = no_value (map.get low.packets m) spent.no_packet y

  -- one with `0` alone is
  ended-spent : (m : Name) → map.get v.things m ≡ Some (Thing.ended ∷ []) → IsSpent low m
  ended-spent m there = go (c.shaped m)
    where
      go : IsShaped i n from first low v.things m → IsSpent low m
      go (IsShaped.nothing x y none) = no_value (map.get v.things m) none there
      go (IsShaped.atom {a = a} {ts = ts} x y its headed are) =
          let is = of-one Thing.ended are (done (sym there ∙ its)) in
          let stops : layer a.proc ≡ ProcForm-F.Stop = ap layer is.1.is ∙ forms.outs-Stop in
          record { no_packet = y; ended = λ b k. subst (λ (b : Atom). layer b.proc ≡ ProcForm-F.Stop) (done (sym k ∙ x)) stops }
      go (IsShaped.packet {k = k} {t = t} x y its is) =
          let same : t ∷ [] ≡ Thing.ended ∷ [] = done (sym there ∙ its) in
          let one : t ≡ Thing.ended = cc in
          absurd (subst (λ t. IsUnderWay n t k) one is)

  -- a packet, or an atom, has the letter
  pub held : (m : Name) (p : Posted) → letter_under v.things m ≡ Some p
      → ((a : Atom) → map.get low.atoms m ≡ Some a → IsHolder n v.standing.messengers (as_letter p) a.agent)
      → IsHeld n low v.standing.messengers (as_letter p) m
  held m p has holder = go (c.shaped m)
    where
      go : IsShaped i n from first low v.things m → IsHeld n low v.standing.messengers (as_letter p) m
      go (IsShaped.nothing x y none) = no_value (letter_under v.things m) (ap (λ o. o >>= first_letter_of) none) has
      go (IsShaped.atom {a = a} x y there headed are) = IsHeld.by_atom x (holder a x)
      go (IsShaped.packet {k = k} {t = t} x y there is) =
          IsHeld.by_packet y (packet-holder n t k p is (sym (ap (λ o. o >>= first_letter_of) there) ∙ has))

-- ---- one event

-- who was a messenger is one
more-messengers : (r : Role) (k : Kind) (names : Made) (dropped : Bool) (s : Standing) (e : Event) (a : Name) → set.contains s.messengers a ≡ true
    → set.contains (lifted_by r k names dropped s e).standing.messengers a ≡ true
more-messengers role.Post kind.Agent (made.Two t m) dropped s e a h =
    born_insert s.messengers t a ∙ or_second (same_name a t) (set.contains s.messengers a) h
more-messengers role.Infra kind.Local (made.One m) dropped s e a h = h
more-messengers role.Post kind.Send names dropped s e a h = h
more-messengers r k names true s e a h = h
more-messengers r k names false s e a h = h

-- who has a letter
abbrev pub Holders : ℕ → Config → View → Type 0
Holders n low v = (m : Name) (p : Posted) → letter_under v.things m ≡ Some p → (a : Atom) → map.get low.atoms m ≡ Some a
    → IsHolder n v.standing.messengers (as_letter p) a.agent

-- of two marks that stand for one mark one is spent
abbrev pub Apart : Config → View → Type 0
Apart low v = (m k : Name) → same_name m k ≡ false → stands_for v.standing m ≡ stands_for v.standing k → IsSpent low m ⊎ IsSpent low k

module _ {i : Infrastructure} {n from first : ℕ} {low next : Config} {v u : View} {e : Event} (step : IsStep i n from first low next v u e) where
  no_event_post : e.kind ≡ kind.Post → ⊥
  no_event_post is = no-post i e.tag.role (ap (may_occur i e.tag.role) (sym is) ∙ step.may)

  messenger : (a : Name) → set.contains v.standing.messengers a ≡ true → set.contains u.standing.messengers a ≡ true
  messenger a is = ap (λ s. set.contains s.messengers a) step.stand
      ∙ more-messengers e.tag.role e.kind e.made (is_dropped e.tag.role e.kind (set.contains v.standing.messengers e.actor)) v.standing e a is

  -- what carries a letter is not made by the event
  old : (m : Name) (p : Posted) → letter_under v.things m ≡ Some p → IsMade e.made m → ⊥
  old m p has is = no_value (letter_under v.things m) (unseen step m is) has

  still-holder : (l : Letter) (a b : Name) → b ≡ a → IsHolder n v.standing.messengers l a → IsHolder n u.standing.messengers l b
  still-holder l a b same (inl is) = inl (same ∙ is)
  still-holder l a b same (inr (inl is)) = inr (inl (same ∙ is))
  still-holder l a b same (inr (inr is)) = inr (inr (ap (set.contains u.standing.messengers) same ∙ messenger a is))

  for-holder : (l : Letter) (a b : Name) → b ≡ a → (a ≡ daemon_agent n) ⊎ (a ≡ l.agent) → IsHolder n u.standing.messengers l b
  for-holder l a b same (inl is) = inl (same ∙ is)
  for-holder l a b same (inr is) = inr (inl (same ∙ is))

  -- who had a letter, or the packet with it was for
  holder-stays : Holders n low v → (m : Name) (p : Posted) → letter_under v.things m ≡ Some p → (b : Atom) → map.get next.atoms m ≡ Some b
      → IsHolder n u.standing.messengers (as_letter p) b.agent
  holder-stays holders m p has b is = elim (agent-stays low next e no_event_post step.applies m (old m p has) b is) [
    | inl a ↦ still-holder (as_letter p) a.0.agent b.agent a.2 (holders m p has a.0 a.1)
    | inr k ↦ (let o = of_packet step.before m k.0 k.1 in
        let carries : carried o.thing ≡ Some p = sym (ap (λ o. o >>= first_letter_of) o.there) ∙ has in
        for-holder (as_letter p) k.0.agent b.agent k.2 (packet-holder n o.thing k.0 p o.is carries))
  ]

  -- where the letter of one mark changes
  abbrev IsHolderOf : Name → Type 0
  IsHolderOf m = (p : Posted) → letter_under u.things m ≡ Some p → (a : Atom) → map.get next.atoms m ≡ Some a → IsHolder n u.standing.messengers (as_letter p) a.agent

  but-for : Holders n low v → (m : Name) (o : Option Posted) → OtherLetter v u m o → IsHolderOf m → Holders n next u
  but-for holders m o after its q p has a is = go (same_name q m) refl
    where
      go : (t : Bool) → same_name q m ≡ t → IsHolder n u.standing.messengers (as_letter p) a.agent
      go true t =
          let same : q ≡ m = same_name-is q m t in
          its p (ap (letter_under u.things) (sym same) ∙ has) a (ap (map.get next.atoms) (sym same) ∙ is)
      go false t = holder-stays holders q p (sym (after q ∙ ap (λ t. cond t o (letter_under v.things q)) t) ∙ has) a is

  no-letter : (m : Name) → OtherLetter v u m None → IsHolderOf m
  no-letter m after p has a is =
      no_value (letter_under u.things m) (after m ∙ ap (λ t. cond t None (letter_under v.things m)) (same_name-itself m)) has

  same-holders : Holders n low v → SameLetters v u → Holders n next u
  same-holders holders same m p has a is = holder-stays holders m p (sym (same m) ∙ has) a is

  -- a letter that was sent flies
  sent : e.kind ≡ kind.Send → IsHolderOf e.actor
  sent is p has a there =
      let s = sending low e next (ap (λ k. row k low e) (sym is) ∙ step.applies) in
      no_value (map.get next.atoms e.actor) (ap (λ (d : Config). map.get d.atoms e.actor) s.is ∙ cut_here low.atoms e.actor) there

  -- the messenger that was made has it
  hired : (p : IsHiringFor low step.then e v u) → IsHolderOf p.mark
  hired h p has a there =
      let o = of_atom step.after h.mark a there in
      let same : o.things ≡ Thing.carrying h.letter h.messenger h.sender ∷ [] = done (sym h.carries ∙ o.there) in
      let is = of-one (Thing.carrying h.letter h.messenger h.sender) o.are same in
      inr (inr (ap (set.contains u.standing.messengers) is.1.agent ∙ ap (λ s. set.contains s.messengers h.messenger) h.standing
      ∙ born_insert v.standing.messengers h.messenger h.messenger ∙ ap (λ t. t || set.contains v.standing.messengers h.messenger) (same_name-itself h.messenger)))

  holders-after : Holders n low v → (k : Kind) (r : Role) → e.kind ≡ k → LettersLeft k r low next step.then e v u → Holders n next u
  holders-after holders kind.Agent role.Post is l = but-for holders l.mark (Some l.letter) l.after (hired l)
  holders-after holders kind.Local role.Infra is l = elim l [
    | inl f ↦ but-for holders e.actor None f.after (no-letter e.actor f.after)
    | inr m ↦ same-holders holders m.letters
  ]
  holders-after holders kind.Send role.Post is l = but-for holders e.actor (Some l.letter) l.after (sent is)
  holders-after holders kind.Open role.Plain is l = but-for holders e.actor None l.after (no-letter e.actor l.after)
  holders-after holders kind.Open role.Post is l = but-for holders e.actor None l.after (no-letter e.actor l.after)
  holders-after holders kind.Open role.Infra is l = but-for holders e.actor None l.after (no-letter e.actor l.after)
  holders-after holders _ _ is l = same-holders holders l

  -- ---- marks that stand for one mark

  -- of two of them none is made by the event
  not-made : (m k : Name) → same_name m k ≡ false → stands_for v.standing m ≡ stands_for v.standing k → IsMade e.made m → ⊥
  not-made m k far same is =
      let new = unborn step m is in
      let its : stands_for v.standing m ≡ m = step.before.new_marks m new in
      go (set.contains low.born k) refl new its
    where
      go : (t : Bool) → set.contains low.born k ≡ t → set.contains low.born m ≡ false → stands_for v.standing m ≡ m → ⊥
      go true born new its = let bad : false ≡ true = sym new ∙ ap (set.contains low.born) (sym its ∙ same) ∙ step.before.old_marks k born in cc
      go false unborn new its =
          let one : m ≡ k = sym its ∙ same ∙ step.before.new_marks k unborn in
          let bad : false ≡ true = sym far ∙ ap (λ x. same_name x k) one ∙ same_name-itself k in cc

  spent-on : (m k : Name) → same_name m k ≡ false → stands_for v.standing m ≡ stands_for v.standing k → IsSpent low m → IsSpent next m
  spent-on m k far same spent = spent-stays low next e no_event_post step.applies m (not-made m k far same) spent

  both-on : Apart low v → (m k : Name) → same_name m k ≡ false → stands_for v.standing m ≡ stands_for v.standing k → IsSpent next m ⊎ IsSpent next k
  both-on apart m k far same = elim (apart m k far same) [
    | inl spent ↦ inl (spent-on m k far same spent)
    | inr spent ↦ inr (spent-on k m (same_name-swap k m ∙ far) (sym same) spent)
  ]

  same-marks : Apart low v → u.standing ≡ v.standing → Apart next u
  same-marks apart stand m k far same =
      both-on apart m k far (sym (ap (λ s. stands_for s m) stand) ∙ same ∙ ap (λ s. stands_for s k) stand)

  -- a mark that is made comes to stand for that of the actor, which is spent then and was not before
  module _ (x : Name) (is : IsMade e.made x) (s : Standing) (stand : u.standing ≡ s) (marks : (q : Name) → stands_for s q ≡ stands_for (with_mark v.standing x e.actor) q)
      (ended : IsSpent next e.actor) (unspent : IsSpent low e.actor → ⊥) where
    with-new : Apart low v → (k : Name) → same_name k x ≡ false → stands_for u.standing x ≡ stands_for u.standing k → IsSpent next k
    with-new apart k far same = go (same_name k e.actor) refl
      where
        its : stands_for v.standing k ≡ stands_for v.standing e.actor
        its = sym (old-stands step x is s stand marks k far) ∙ sym same ∙ new-stands step x is s stand marks

        go : (t : Bool) → same_name k e.actor ≡ t → IsSpent next k
        go true t = subst (IsSpent next) (sym (same_name-is k e.actor t)) ended
        go false t = elim (apart k e.actor t its) [ inl spent ↦ spent-on k e.actor t its spent | inr spent ↦ absurd (unspent spent) ]

    one-more-mark : Apart low v → Apart next u
    one-more-mark apart m k far same = go (same_name m x) (same_name k x) refl refl
      where
        go : (t w : Bool) → same_name m x ≡ t → same_name k x ≡ w → IsSpent next m ⊎ IsSpent next k
        go true w t f =
            let here : m ≡ x = same_name-is m x t in
            inr (with-new apart k (same_name-swap k x ∙ ap (λ y. same_name y k) (sym here) ∙ far) (ap (stands_for u.standing) (sym here) ∙ same))
        go false true t f =
            let here : k ≡ x = same_name-is k x f in
            inl (with-new apart m t (ap (stands_for u.standing) (sym here) ∙ sym same))
        go false false t f =
            both-on apart m k far (sym (old-stands step x is s stand marks m t) ∙ same ∙ old-stands step x is s stand marks k f)

  -- who makes a messenger, or tests for an agent, is not `0`
  hires-not_spent : IsHiringFor low step.then e v u → IsSpent low e.actor → ⊥
  hires-not_spent p spent = go (map.get low.atoms e.actor) refl p.sent
    where
      go : (o : Option Atom) → map.get low.atoms e.actor ≡ o → (o >>= λ (a : Atom). letter_given (layer a.proc) a.env) ≡ Some (as_letter p.letter) → ⊥
      go None at gives = let bad : None ≡ Some (as_letter p.letter) = gives in cc
      go (Some a) at gives = no_value (letter_given (layer a.proc) a.env) (ap (λ l. letter_given l a.env) (spent.ended a at)) gives

  apart-hired : Apart low v → IsHiringFor low step.then e v u → Apart next u
  apart-hired apart p = one-more-mark p.mark (subst (λ x. IsMade x p.mark) (sym p.made_two) (inr refl)) _ p.standing (λ q. refl)
      (ended-spent step.after e.actor p.ended) (hires-not_spent p) apart

  apart-found : Apart low v → IsFinding next e v u → Apart next u
  apart-found apart p = one-more-mark p.mark (subst (λ x. IsMade x p.mark) (sym p.made_one) refl) _ p.standing (λ q. refl)
      (ended-spent step.after e.actor p.ended) (not-spent step.before e.actor p.letter p.was) apart

  apart-after : Apart low v → (k : Kind) (r : Role) → (adds_mark r k e.made ≡ false → u.standing ≡ v.standing) → LettersLeft k r low next step.then e v u → Apart next u
  apart-after apart kind.Agent role.Post stand l = apart-hired apart l
  apart-after apart kind.Local role.Infra stand l = elim l [ inl f ↦ apart-found apart f | inr m ↦ same-marks apart m.standing ]
  apart-after apart kind.Agent role.Plain stand l = same-marks apart (stand refl)
  apart-after apart kind.Agent role.Infra stand l = same-marks apart (stand refl)
  apart-after apart kind.Local role.Plain stand l = same-marks apart (stand refl)
  apart-after apart kind.Local role.Post stand l = same-marks apart (stand refl)
  apart-after apart k r stand l = same-marks apart (stand (no-mark r k e.made (λ t. let bad = t in cc) (λ t. let bad = t in cc)))

-- ---- runs

abbrev pub Keeps : ℕ → Config → View → List Event → View → Type 0
Keeps n low v es w = (c : Config) → run low es ≡ Some c → Holders n low v × Apart low v → Holders n c w × Apart c w

pub kept-on : {i : Infrastructure} {n from first : ℕ} (low next : Config) (v u w : View) (e : Event) (es : List Event) → IsStep i n from first low next v u e
    → Keeps n next u es w → Keeps n low v (e ∷ es) w
kept-on low next v u w e es step rest c h both = rest c (sym (runs-on low next e es step.applies) ∙ h) (
  holders-after step both.0 e.kind e.tag.role refl step.letters,
  apart-after step both.1 e.kind e.tag.role (kept step) step.letters,
)

pub at-start : (n : ℕ) (low : Config) (v : View) → v.standing ≡ at_first → NoLetters v → Holders n low v × Apart low v
at-start n low v stand none = (
  λ m p has a there. no_value (letter_under v.things m) (none m) has,
  λ m k far same.
      let its : (q : Name) → stands_for v.standing q ≡ q = λ q. ap (λ s. stands_for s q) stand ∙ stands-itself q in
      let one : m ≡ k = sym (its m) ∙ same ∙ its k in
      absurd (let bad : false ≡ true = sym far ∙ ap (λ x. same_name x k) one ∙ same_name-itself k in cc),
)
