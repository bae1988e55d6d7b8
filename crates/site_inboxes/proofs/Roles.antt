-- What a step makes of a view, by whose the view is.
use Rattle.std.proofs.Common.{◌≡◌, ◌≢◌, ℕ, true, false, true≢false, eq-eqb, ne_eqb, [], ◌∷◌, ◌++◌, refl, sym, ◌∙◌, ap, subst}
use Rattle.np_inbox_rule.specs.declared.views.View.{View}
use Rattle.np_inbox_rule.specs.declared.views.View.TheVariants.{Owner, Sender}
use Rattle.np_inbox_rule.specs.Steps.{IsOwner, IsSender, take, sent_in, last_in, got_in, told_in, join_sent, join_got, note_sent, note_got}
use Rattle.site_inboxes.specs.Views.{is_owner, is_sender, sites_in, made_in, number_in}
use Rattle.site_inboxes.specs.Ends.{Settled}

module _ {I : Type 0} where
  pub sender-is : (v : View I) → is_sender v ≡ true → IsSender (sites_in v) (number_in v) v
  sender-is (Sender v) e = (refl, refl)
  sender-is v e = absurd (true≢false (sym e))

  pub owner-is : (v : View I) → is_owner v ≡ true → IsOwner (sites_in v) (made_in v) v
  owner-is (Owner v) e = (refl, refl)
  owner-is v e = absurd (true≢false (sym e))

  -- what a push makes of a sender's view
  pub record Puts (v w : View I) (x : I) : Type 0 where
    pub role : is_sender w ≡ true
    pub sites_same : sites_in w ≡ sites_in v
    pub number_same : number_in w ≡ number_in v
    pub last_same : last_in w ≡ last_in v
    pub sent_is : sent_in w ≡ sent_in v ++ x ∷ []

module _ {I : Type 0} (sender : I → ℕ) where
  -- what a pop makes of the owner's view
  pub record Takes (v w : View I) (x : I) : Type 0 where
    pub role : is_owner w ≡ true
    pub sites_same : sites_in w ≡ sites_in v
    pub got_is : got_in w ≡ got_in v ++ x ∷ []
    pub told_same : (k : ℕ) → told_in w k ≡ told_in v k

  take-of : (v : View I) (x : I) → is_owner v ≡ true → Takes v (take sender v x) x
  take-of (Owner v) x e = record { role = refl; sites_same = refl; got_is = refl; told_same = λ k. refl }
  take-of v x e = absurd (true≢false (sym e))

  pub takes-is : (v w : View I) (x : I) → is_owner v ≡ true → w ≡ take sender v x → Takes v w x
  takes-is v w x e h = subst (λ (u : View I). Takes v u x) (sym h) (take-of v x e)

  settled-of : (v b : View I) → is_sender v ≡ true → is_owner b ≡ true → Settled sender v b (join_got sender v (note_got (join_sent b (note_sent v)))) (join_sent b (note_sent v))
  settled-of (Sender v) (Owner b) e h = record {
    sender_role = refl;
    sender_sites = refl;
    number_same = refl;
    sent_same = refl;
    last_is = refl;
    owner_role = refl;
    owner_sites = refl;
    got_same = refl;
    told_is = rw (eq-eqb v.number v.number refl) refl;
    told_others = λ k n. rw (ne_eqb k v.number n) refl;
  }
  settled-of (Sender v) b e h = absurd (true≢false (sym h))
  settled-of v b e h = absurd (true≢false (sym e))

  -- two notes are made and joined, one after the other
  pub settled-is : (v v1 nv b b1 b2 nb v2 : View I) → is_sender v ≡ true → is_owner b ≡ true → v1 ≡ v → nv ≡ note_sent v → b1 ≡ join_sent b nv → b2 ≡ b1 → nb ≡ note_got b1 → v2 ≡ join_got sender v1 nb
      → Settled sender v b v2 b2
  settled-is v v1 nv b b1 b2 nb v2 e h a1 a2 a3 a4 a5 a6 =
      let eb : b1 ≡ join_sent b (note_sent v) = a3 ∙ ap (join_sent b) a2 in
      let en : nb ≡ note_got (join_sent b (note_sent v)) = a5 ∙ ap note_got eb in
      let ev : v2 ≡ join_got sender v (note_got (join_sent b (note_sent v))) = a6 ∙ (ap (λ u. join_got sender u nb) a1 ∙ ap (join_got sender v) en) in
      subst (λ (u : View I). Settled sender v b u b2) (sym ev)
      (subst (λ (u : View I). Settled sender v b (join_got sender v (note_got (join_sent b (note_sent v)))) u) (sym (a4 ∙ eb)) (settled-of v b e h))

pub owner-made : {I : Type 0} (v : View I) (sites made : ℕ) → is_owner v ≡ true → sites_in v ≡ sites → made_in v ≡ made → IsOwner sites made v
owner-made (Owner v) sites made e s m = (s, m)
owner-made v sites made e s m = absurd (true≢false (sym e))
