-- By its kind an event puts an item on its way, takes one, or does neither.
use Rattle.std.proofs.Common.{◌≡◌, ℕ, Bool, true, false, is_some, List, [], ◌∷◌, ◌++◌, Option, None, Some, IsSome, IfSome, refl, sym, ap, subst, ◌∙◌}
use Rattle.np_syntax.specs.declared.event.Event.{Event}
use Rattle.np_syntax.specs.declared.event.Kind.{Kind}
use Rattle.np_syntax.specs.declared.event.Kind.TheVariants as kind
use Rattle.np_calculus.specs.Config.{Config}
use Rattle.np_calculus.specs.declared.config.Place.TheVariants as place
use Rattle.np_calculus.proofs.Fits.{some}
use Rattle.np_site_runs.specs.merged.Deeds.{Deed, StampedItem}
use Rattle.run_save.specs.declared.trips.Item.{Item}
use Rattle.run_save.specs.declared.trips.Item.TheVariants as item
use Rattle.run_save.specs.declared.trips.Trip.{Trip}
use Rattle.run_save.specs.Travels.{Travels, departure, none_yet, puts, sender, sending, takes, takes_from, travels_on}
use Rattle.run_save.specs.following.ByKind.{Brings, IsOfKind, puts_out, takes_in}
use Rattle.run_save.specs.following.Shown.{Shows}
use Rattle.run_save.proofs.following.Ways.{IsInner}

-- ---- what is put and taken changes nothing else

same-put : (t : Travels) (x : Item) (site : ℕ) (o : Option ℕ) → (takes_from t x site o).put ≡ t.put
same-put t x site None = refl
same-put t x site (Some from) = refl

same-stray : (t : Travels) (o : Option Trip) → (puts t o).stray ≡ t.stray
same-stray t None = refl
same-stray t (Some trip) = refl

strays : (x : Item) (site : ℕ) → (takes none_yet x site).stray ≡ x ∷ []
strays x site = refl

-- ---- kinds

-- an event that puts an item
pub record Puts (k : Kind) : Type 0 where
  pub put : puts_out k ≡ true
  pub taken : takes_in k ≡ false

no-trip : {A : Type 0} (trip : Trip) (t : Travels) → t.put ≡ [] → t ≡ puts none_yet (Some trip) → A
no-trip trip t none h = let e : [] ≡ trip ∷ [] = sym none ∙ ap (λ (t : Travels). t.put) h in absurd cc

pub puts-kind : (k : Kind) (after : Config) (e : Event) (trip : Trip) → travels_on k none_yet after e ≡ puts none_yet (Some trip) → Puts k
puts-kind kind.Depart after e trip h = record { put = refl; taken = refl }
puts-kind kind.Send after e trip h = record { put = refl; taken = refl }
puts-kind kind.Arrive after e trip h = no-trip trip (takes none_yet (item.Agent e.actor) e.site) (same-put none_yet (item.Agent e.actor) e.site (sender [] (item.Agent e.actor))) h
puts-kind kind.Land after e trip h = no-trip trip (takes none_yet (item.Packet e.actor) e.site) (same-put none_yet (item.Packet e.actor) e.site (sender [] (item.Packet e.actor))) h
puts-kind k after e trip h = no-trip trip none_yet refl h

-- an event that takes this item
pub record Takes (k : Kind) (e : Event) (x : StampedItem) : Type 0 where
  pub put : puts_out k ≡ false
  pub taken : takes_in k ≡ true
  pub brings : Brings k e x.item.load

no-stray : {A : Type 0} (x : Item) (site : ℕ) (t : Travels) → t.stray ≡ [] → t ≡ takes none_yet x site → A
no-stray x site t none h = let e : [] ≡ x ∷ [] = sym none ∙ ap (λ (t : Travels). t.stray) h ∙ strays x site in absurd cc

one-stray : (x y : Item) (site : ℕ) → takes none_yet x site ≡ takes none_yet y site → y ≡ x
one-stray x y site h = let e : x ∷ [] ≡ y ∷ [] = sym (strays x site) ∙ ap (λ (t : Travels). t.stray) h ∙ strays y site in cc

pub takes-kind : (k : Kind) (after : Config) (e : Event) (i : Item) (x : StampedItem) → Shows e.site i x → travels_on k none_yet after e ≡ takes none_yet i e.site → Takes k e x
takes-kind kind.Depart after e i x shows h = no-stray i e.site (puts none_yet (departure after e)) (same-stray none_yet (departure after e)) h
takes-kind kind.Send after e i x shows h = no-stray i e.site (puts none_yet (sending after e)) (same-stray none_yet (sending after e)) h
takes-kind kind.Arrive after e i x shows h = record {
  put = refl;
  taken = refl;
  brings = (subst (λ i. Shows e.site i x) (one-stray (item.Agent e.actor) i e.site h) shows).comes;
}
takes-kind kind.Land after e i x shows h =
    let b = subst (λ i. Shows e.site i x) (one-stray (item.Packet e.actor) i e.site h) shows in
    record { put = refl; taken = refl; brings = some (x.item.load.packet e.actor) b.packet b.flies }
takes-kind k after e i x shows h = no-stray i e.site none_yet refl h

-- an event that does neither
pub record Neither (k : Kind) : Type 0 where
  pub put : puts_out k ≡ false
  pub taken : takes_in k ≡ false

pub inner-kind : (k : Kind) → IsInner k → Neither k
inner-kind kind.Depart h = absurd h
inner-kind kind.Send h = absurd h
inner-kind kind.Arrive h = absurd h
inner-kind kind.Land h = absurd h
inner-kind k h = record { put = refl; taken = refl }

-- ---- deeds

module _ (d : Deed) where
  pub kind-inner : d.taken ≡ None → d.put ≡ None → Neither d.event.event.kind → IsOfKind d
  kind-inner none still k = record {
    put = k.put ∙ sym (ap is_some still);
    taken = k.taken ∙ sym (ap is_some none);
    brings = subst (λ o. IfSome o (λ x. Brings d.event.event.kind d.event.event x.item.load)) (sym none) tt;
  }

  pub kind-put : (y : StampedItem) → d.taken ≡ None → d.put ≡ Some y → Puts d.event.event.kind → IsOfKind d
  kind-put y none put k = record {
    put = k.put ∙ sym (ap is_some put);
    taken = k.taken ∙ sym (ap is_some none);
    brings = subst (λ o. IfSome o (λ x. Brings d.event.event.kind d.event.event x.item.load)) (sym none) tt;
  }

  pub kind-taken : (x : StampedItem) → d.taken ≡ Some x → d.put ≡ None → Takes d.event.event.kind d.event.event x → IsOfKind d
  kind-taken x taken none k = record {
    put = k.put ∙ sym (ap is_some none);
    taken = k.taken ∙ sym (ap is_some taken);
    brings = subst (λ o. IfSome o (λ x. Brings d.event.event.kind d.event.event x.item.load)) (sym taken) k.brings;
  }
