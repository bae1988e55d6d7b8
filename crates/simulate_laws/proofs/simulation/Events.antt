-- The turn of each event: a post is a letter that is under way then, what hands it over takes it from there, and all others leave the letters.
use Rattle.std.proofs.Common.{◌≡◌, ◌⊎◌, inl, inr, ℕ, Bool, true, false, None, Some, List, refl, sym, ap, subst, ◌∙◌}
use Rattle.std.specs.FinMap as map
use Rattle.std.specs.FinSet as set
use Rattle.np_syntax.specs.declared.value.Name.{Name}
use Rattle.np_syntax.specs.declared.process.Role.{Role}
use Rattle.np_syntax.specs.declared.process.Role.TheVariants as role
use Rattle.np_syntax.specs.declared.event.Event.{Event}
use Rattle.np_syntax.specs.declared.event.Kind.{Kind}
use Rattle.np_syntax.specs.declared.event.Kind.TheVariants as kind
use Rattle.np_syntax.specs.declared.event.Made.{Made}
use Rattle.np_syntax.specs.declared.event.Made.TheVariants as made
use Rattle.np_syntax.specs.Options.{◌>>=◌}
use Rattle.np_tables.specs.Names.{same_name}
use Rattle.np_tables.proofs.Tables.{same_name-is}
use Rattle.np_calculus.specs.Config.{Config}
use Rattle.np_calculus.specs.FrameRule.{IsMade}
use Rattle.np_calculus.proofs.FrameRule.{made-unborn}
use Rattle.np_calculus.proofs.OwnNames.{not_true}
use Rattle.np_calculus.proofs.Steps.{row-step}
use Rattle.np_lift.specs.Posts.{Deed, letter_at}
use Rattle.np_lift.specs.CachedLaws.{adds_mark}
use Rattle.np_lift.specs.CachedLift.{Standing, is_dropped, lifted_by, stands_for, with_mark}
use Rattle.np_lift.specs.CachedPosts.{deed_from}
use Rattle.np_lift.proofs.Standings.{stands-as_before, stands-new}
use Rattle.infrastructure_texts.specs.Infrastructures.{Infrastructure}
use Rattle.simulate_laws.specs.things.Things.{Thing}
use Rattle.simulate_laws.specs.levels.Coupled.{View}
use Rattle.simulate_laws.specs.levels.Letters.{IsFinding, IsHanding, IsHiringFor, IsMissing, IsPosting, as_letter, first_letter_of, letter_under}
use Rattle.simulate_laws.proofs.levels.Quiet.{things_born}
use Rattle.simulate_laws.specs.simulation.Letters.{LettersLeft}
use Rattle.simulate_laws.proofs.simulation.Runs.{IsStep}
use Rattle.simulate_laws.proofs.simulation.Under.{Turned, handed-turn, posted-turn, same-turn}

-- where no mark comes to stand for another, each stands for what it stood for
stays : (r : Role) (k : Kind) (names : Made) (dropped : Bool) (s : Standing) (e : Event) → adds_mark r k names ≡ false → (lifted_by r k names dropped s e).standing ≡ s
stays role.Post kind.Agent (made.Two t m) dropped s e h = absurd cc
stays role.Infra kind.Local (made.One m) dropped s e h = absurd cc
stays role.Post kind.Send names dropped s e h = refl
stays r k names true s e h = refl
stays r k names false s e h = refl

-- only the creation of a messenger and the location test of one may add a mark
pub no-mark : (r : Role) (k : Kind) (names : Made) → (k ≡ kind.Agent → ⊥) → (k ≡ kind.Local → ⊥) → adds_mark r k names ≡ false
no-mark role.Post kind.Agent names agent local = absurd (agent refl)
no-mark role.Infra kind.Local names agent local = absurd (local refl)
no-mark role.Post k names agent local = refl
no-mark role.Infra k names agent local = refl
no-mark role.Plain k names agent local = refl

module _ {i : Infrastructure} {n from first : ℕ} {low next : Config} {v u : View} {e : Event} (step : IsStep i n from first low next v u e) where
  -- what the event makes is new, so nothing is under it yet, and no mark that is there is it
  pub unborn : (m : Name) → IsMade e.made m → set.contains low.born m ≡ false
  unborn m is = made-unborn low.born e.made m (row-step low e next e.kind step.applies).new is

  pub unseen : (m : Name) → IsMade e.made m → letter_under v.things m ≡ None
  unseen m is = ap (λ o. o >>= first_letter_of) (go (map.get v.things m) refl)
    where
      go : (o : _) → map.get v.things m ≡ o → o ≡ None
      go None h = refl
      go (Some ts) h = absurd (let bad : false ≡ true = sym (unborn m is) ∙ things_born step.before m ts h in cc)

  pub apart : (m q : Name) (ts : List Thing) → IsMade e.made m → map.get v.things q ≡ Some ts → same_name q m ≡ false
  apart m q ts is there = not_true _ (λ t.
      let bad : false ≡ true = sym (unborn m is) ∙ ap (set.contains low.born) (sym (same_name-is q m t)) ∙ things_born step.before q ts there in cc)

  -- where a mark that is made comes to stand for the actor's
  module _ (m : Name) (is : IsMade e.made m) (s : Standing) (stand : u.standing ≡ s) (marks : (q : Name) → stands_for s q ≡ stands_for (with_mark v.standing m e.actor) q) where
    abbrev its : Name
    its = stands_for v.standing e.actor

    pub new-stands : stands_for u.standing m ≡ its
    new-stands = ap (λ t. stands_for t m) stand ∙ marks m ∙ stands-new v.standing m e.actor

    pub old-stands : (q : Name) → same_name q m ≡ false → stands_for u.standing q ≡ stands_for v.standing q
    old-stands q far = ap (λ t. stands_for t q) stand ∙ marks q ∙ stands-as_before v.standing m e.actor q far

    others : (q : Name) → (stands_for u.standing q ≡ stands_for v.standing q) ⊎ ((stands_for u.standing q ≡ its) × (letter_under v.things q ≡ None))
    others q = go (same_name q m) refl
      where
        go : (t : Bool) → same_name q m ≡ t
            → (stands_for u.standing q ≡ stands_for v.standing q) ⊎ ((stands_for u.standing q ≡ its) × (letter_under v.things q ≡ None))
        go true t =
            let same : q ≡ m = same_name-is q m t in
            inr (ap (stands_for u.standing) same ∙ new-stands, ap (letter_under v.things) same ∙ unseen m is)
        go false t = inl (old-stands q t)

  abbrev TurnedBy : Kind → Role → Made → Type 0
  TurnedBy k r names = Turned v u (deed_from v.standing k r names low next e)

  of-posting : u.standing ≡ v.standing → IsPosting low e v u → Turned v u (Some (stands_for v.standing e.actor, Deed.posts (letter_at low e.actor)))
  of-posting stand p = subst (λ o. Turned v u (Some (stands_for v.standing e.actor, Deed.posts o))) (sym p.sent)
      (posted-turn step.after e.actor (stands_for v.standing e.actor) p.letter
      (record { letters = p.after; stands = ap (λ s. stands_for s e.actor) stand; others = λ q. inl (ap (λ s. stands_for s q) stand) }) p.none)

  of-handing : u.standing ≡ v.standing → IsHanding next e v u → Turned v u (Some (stands_for v.standing e.actor, Deed.opens (map.get next.atoms e.actor)))
  of-handing stand p = handed-turn step.before e.actor (stands_for v.standing e.actor) p.letter
      (record { letters = p.after; stands = ap (λ s. stands_for s e.actor) stand; others = λ q. inl (ap (λ s. stands_for s q) stand) }) p.was refl
      (map.get next.atoms e.actor) (record { letter = as_letter p.letter; posted = refl; tag = p.tag; is = p.stands })

  -- a messenger is made for the post, and its mark has the letter
  of-hiring : IsHiringFor low step.then e v u → TurnedBy kind.Agent role.Post e.made
  of-hiring p =
      let is : IsMade e.made p.mark = subst (λ x. IsMade x p.mark) (sym p.made_two) (inr refl) in
      subst (TurnedBy kind.Agent role.Post) (sym p.made_two)
      (subst (λ o. Turned v u (Some (stands_for v.standing e.actor, Deed.posts o))) (sym p.sent)
      (posted-turn step.after p.mark (stands_for v.standing e.actor) p.letter
      (record { letters = p.after; stands = new-stands p.mark is _ p.standing (λ q. refl); others = others p.mark is _ p.standing (λ q. refl) }) p.none_yet))

  -- it finds the agent, and the output has a new mark
  of-finding : IsFinding next e v u → TurnedBy kind.Local role.Infra e.made
  of-finding p =
      let is : IsMade e.made p.mark = subst (λ x. IsMade x p.mark) (sym p.made_one) refl in
      let far : same_name e.actor p.mark ≡ false = carries-far p.mark is e.actor p.letter p.was in
      subst (TurnedBy kind.Local role.Infra) (sym p.made_one)
      (handed-turn step.before e.actor (stands_for v.standing e.actor) p.letter
      (record { letters = p.after; stands = old-stands p.mark is _ p.standing (λ q. refl) e.actor far; others = others p.mark is _ p.standing (λ q. refl) }) p.was refl
      (map.get next.atoms p.mark) (record { letter = as_letter p.letter; posted = refl; tag = p.tag; is = p.stands }))
    where
      carries-far : (m : Name) → IsMade e.made m → (q : Name) (p : _) → letter_under v.things q ≡ Some p → same_name q m ≡ false
      carries-far m is q p was = not_true _ (λ t.
          let bad : None ≡ Some p = sym (unseen m is) ∙ ap (letter_under v.things) (sym (same_name-is q m t)) ∙ was in cc)

  of-missing : IsMissing e v u → TurnedBy kind.Local role.Infra e.made
  of-missing p = subst (TurnedBy kind.Local role.Infra) (sym p.made_none) (same-turn v u p.standing p.letters)

  -- what stands for what stays, but where a mark is added
  abbrev Kept : Kind → Role → Type 0
  Kept k r = adds_mark r k e.made ≡ false → u.standing ≡ v.standing

  turn : (k : Kind) (r : Role) → Kept k r → LettersLeft k r low next step.then e v u → TurnedBy k r e.made
  turn kind.Agent role.Post stand l = of-hiring l
  turn kind.Local role.Infra stand l = elim l [ inl found ↦ of-finding found | inr missed ↦ of-missing missed ]
  turn kind.Send role.Post stand l = of-posting (stand refl) l
  turn kind.Open role.Plain stand l = of-handing (stand refl) l
  turn kind.Open role.Post stand l = of-handing (stand refl) l
  turn kind.Open role.Infra stand l = of-handing (stand refl) l
  turn kind.Agent role.Plain stand l = same-turn v u (stand refl) l
  turn kind.Agent role.Infra stand l = same-turn v u (stand refl) l
  turn kind.Local role.Plain stand l = same-turn v u (stand refl) l
  turn kind.Local role.Post stand l = same-turn v u (stand refl) l
  turn k r stand l = same-turn v u (stand (no-mark r k e.made (λ t. let bad = t in cc) (λ t. let bad = t in cc))) l

  pub kept : Kept e.kind e.tag.role
  kept none = step.stand ∙ stays e.tag.role e.kind e.made (is_dropped e.tag.role e.kind (set.contains v.standing.messengers e.actor)) v.standing e none

  pub turned : TurnedBy e.kind e.tag.role e.made
  turned = turn e.kind e.tag.role kept step.letters
