-- What each pass knows after a step: the pass whose view changes, and every other.
use Rattle.std.proofs.Common.{◌≡◌, ◌≢◌, ℕ, ◌+◌, ◌<◌, inl, inr, eqb, eq-eqb, ne_eqb, List, [], ◌∷◌, ◌++◌, length, refl, sym, ◌∙◌, ap, subst, arith, length-append}
use Rattle.std.proofs.lemmas.List.{append-nil}
use Rattle.std.proofs.lemmas.Bool.Decides.{eqb_tells}
use Rattle.site_links.specs.Words.{Begins, only_at}
use Rattle.site_links.specs.declared.places.TheConstants.{PLACES}
use Rattle.site_links.proofs.Rows.{only_at-same, only_at-other}
use Rattle.np_inbox_rule.specs.declared.views.View.{View}
use Rattle.np_inbox_rule.specs.declared.views.View.TheVariants.{Owner, Sender, OfSender, OfOwner, Spent}
use Rattle.np_inbox_rule.specs.declared.views.OwnerView.{OwnerView}
use Rattle.np_inbox_rule.specs.declared.views.SenderView.{SenderView}
use Rattle.np_inbox_rule.specs.declared.views.SentNote.{SentNote}
use Rattle.np_inbox_rule.specs.Rule.{items_of, told_of, Standing, OwnerFits, SenderFits, Fits}
use Rattle.np_inbox_rule.specs.Steps.{longer}
use Rattle.np_inbox_rule.proofs.Lists.{begins-none, begins-more, begins-both, longer-is, longer-first, longer-second, items-append}
use Rattle.np_inbox_rule.proofs.Numbers.{widened, grown, pushed, popped}

module _ {I : Type 0} (sender : I → ℕ) (t : Standing I) where
  taken-more : (k : ℕ) (f : List I) (x : I) → Begins (items_of sender k t.got) f → Begins (items_of sender k (t.got ++ x ∷ [])) f
  taken-more k f x h = subst (λ (l : List I). Begins l f) (sym (items-append sender k t.got (x ∷ []))) (begins-more (items_of sender k t.got) f (items_of sender k (x ∷ [])) h)

  -- ---- push
  pub push-fits_mine : (x : I) (pass : ℕ) (v : SenderView I) → sender x ≡ v.number → length v.sent < length v.freed + PLACES → SenderFits sender t pass v
      → SenderFits sender (pushed sender t x) pass (record v { sent = v.sent ++ x ∷ [] })
  push-fits_mine x pass v e few h = record {
    below = h.below;
    alone = h.alone;
    sites_are = h.sites_are;
    sent_is =
        let one : only_at v.number (sender x) x ≡ x ∷ [] = subst (λ (m : ℕ). only_at v.number m x ≡ x ∷ []) (sym e) (only_at-same v.number x) in
        ap (λ l. l ++ x ∷ []) h.sent_is ∙ ap (λ l. t.sent v.number ++ l) (sym one);
    freed_taken = h.freed_taken;
    last_freed = h.last_freed;
    few = omega (arith, few, length-append v.sent (x ∷ []));
  }

  pub push-fits_other : (x : I) (pass : ℕ) (v : View I) → pass ≢ t.seat (sender x) → Fits sender t pass v → Fits sender (pushed sender t x) pass v
  push-fits_other x pass (Owner v) n h = record {
    alone = h.alone;
    sites_are = h.sites_are;
    made_are = h.made_are;
    got_is = h.got_is;
    told = λ k. begins-more (t.sent k) (told_of k v.told) (only_at k (sender x) x) (h.told k);
  }
  push-fits_other x pass (Sender v) n h = record {
    below = h.below;
    alone = h.alone;
    sites_are = h.sites_are;
    sent_is =
        let none : only_at v.number (sender x) x ≡ [] = only_at-other v.number (sender x) x (λ e. n (h.alone ∙ ap t.seat e)) in
        h.sent_is ∙ sym (ap (λ l. t.sent v.number ++ l) none ∙ append-nil (t.sent v.number));
    freed_taken = h.freed_taken;
    last_freed = h.last_freed;
    few = h.few;
  }
  push-fits_other x pass (OfSender v) n h = (h.0, begins-more (t.sent v.number) v.sent (only_at v.number (sender x) x) h.1)
  push-fits_other x pass (OfOwner v) n h = h
  push-fits_other x pass Spent n h = tt

  -- ---- pop
  pub pop-fits_mine : (x : I) (pass : ℕ) (v : OwnerView I) → OwnerFits sender t pass v → OwnerFits sender (popped sender t x) pass (record v { got = v.got ++ x ∷ [] })
  pop-fits_mine x pass v h = record {
    alone = h.alone;
    sites_are = h.sites_are;
    made_are = h.made_are;
    got_is = ap (λ l. l ++ x ∷ []) h.got_is;
    told = h.told;
  }

  pub pop-fits_other : (x : I) (pass : ℕ) (v : View I) → pass ≢ t.owner → Fits sender t pass v → Fits sender (popped sender t x) pass v
  pop-fits_other x pass (Owner v) n h = absurd (n h.alone)
  pop-fits_other x pass (Sender v) n h = record {
    below = h.below;
    alone = h.alone;
    sites_are = h.sites_are;
    sent_is = h.sent_is;
    freed_taken = taken-more v.number v.freed x h.freed_taken;
    last_freed = h.last_freed;
    few = h.few;
  }
  pop-fits_other x pass (OfSender v) n h = h
  pop-fits_other x pass (OfOwner v) n h = λ k. taken-more k (items_of sender k v.got) x (h k)
  pop-fits_other x pass Spent n h = tt

  -- ---- one site more
  pub site-fits_mine : (pass : ℕ) (v : OwnerView I) → OwnerFits sender t pass v → OwnerFits sender (widened t) pass (record v { sites = v.sites + 1 })
  site-fits_mine pass v h = record { alone = h.alone; sites_are = ap (λ n. n + 1) h.sites_are; made_are = h.made_are; got_is = h.got_is; told = h.told }

  pub site-fits_other : t.made ≡ 0 → (pass : ℕ) (v : View I) → pass ≢ t.owner → Fits sender t pass v → Fits sender (widened t) pass v
  site-fits_other e pass (Owner v) n h = absurd (n h.alone)
  site-fits_other e pass (Sender v) n h = absurd (omega (arith, e, h.below))
  site-fits_other e pass (OfSender v) n h = h
  site-fits_other e pass (OfOwner v) n h = h
  site-fits_other e pass Spent n h = tt

  -- ---- one sender more
  pub made-fits_mine : (new pass : ℕ) (v : OwnerView I) → OwnerFits sender t pass v → OwnerFits sender (grown t new) pass (record v { made = v.made + 1 })
  made-fits_mine new pass v h = record { alone = h.alone; sites_are = h.sites_are; made_are = ap (λ n. n + 1) h.made_are; got_is = h.got_is; told = h.told }

  pub made-fits_new : (new sites number : ℕ) → sites ≡ t.sites → number ≡ t.made → t.sent t.made ≡ []
      → SenderFits sender (grown t new) new (record { sites = sites; number = number; sent = []; freed = []; last = [] })
  made-fits_new new sites number s e none = record {
    below = omega (arith, e);
    alone = rw (eq-eqb number t.made e) refl;
    sites_are = s;
    sent_is = sym none ∙ ap t.sent (sym e);
    freed_taken = begins-none (items_of sender number t.got);
    last_freed = begins-none [];
    few = omega arith;
  }

  pub made-fits_other : (new pass : ℕ) (v : View I) → pass ≢ t.owner → Fits sender t pass v → Fits sender (grown t new) pass v
  made-fits_other new pass (Owner v) n h = absurd (n h.alone)
  made-fits_other new pass (Sender v) n h = record {
    below = omega (arith, h.below);
    alone = let below = h.below in rw (ne_eqb v.number t.made (λ e. omega (arith, e, below))) h.alone;
    sites_are = h.sites_are;
    sent_is = h.sent_is;
    freed_taken = h.freed_taken;
    last_freed = h.last_freed;
    few = h.few;
  }
  made-fits_other new pass (OfSender v) n h = let below = h.0 in (omega (arith, below), h.1)
  made-fits_other new pass (OfOwner v) n h = h
  made-fits_other new pass Spent n h = tt

  -- ---- joins
  pub sent-joins : (pass : ℕ) (v : OwnerView I) (note : SentNote I) → OwnerFits sender t pass v → Begins (t.sent note.number) note.sent
      → OwnerFits sender t pass (record v { told = note ∷ v.told })
  sent-joins pass v note h k = record {
    alone = h.alone;
    sites_are = h.sites_are;
    made_are = h.made_are;
    got_is = h.got_is;
    told = λ n. elim (eqb_tells n note.number) [
      | inl e ↦ rw e.0 (subst (λ (m : ℕ). Begins (t.sent m) note.sent) (sym e.1) k)
      | inr e ↦ rw e.0 (h.told n)
    ];
  }

  pub got-joins : (pass : ℕ) (v : SenderView I) (l : List I) → SenderFits sender t pass v → Begins (items_of sender v.number t.got) l
      → SenderFits sender t pass (record v { freed = longer v.freed l; last = l })
  got-joins pass v l h k =
      let all = items_of sender v.number t.got in let freed : Begins all (longer v.freed l) = longer-is (λ f. Begins all f) v.freed l h.freed_taken k in record {
        below = h.below;
        alone = h.alone;
        sites_are = h.sites_are;
        sent_is = h.sent_is;
        freed_taken = freed;
        last_freed = begins-both all (longer v.freed l) l freed k (longer-second v.freed l);
        few = omega (arith, h.few, longer-first v.freed l);
      }
