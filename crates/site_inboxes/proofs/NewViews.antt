-- The views of a new inbox and of a new sender.
use Rattle.std.proofs.Common.{◌≡◌, ℕ, ◌+◌, true, false, true≢false, refl, sym, ap, subst}
use Rattle.np_inbox_rule.specs.declared.views.View.{View}
use Rattle.np_inbox_rule.specs.declared.views.View.TheVariants.{Owner}
use Rattle.np_inbox_rule.specs.Steps.{first_view, one_site}
use Rattle.site_inboxes.specs.Fresh.{IsUnusedView}

module _ {I : Type 0} where
  pub unused-first : (v : View I) → v ≡ first_view → IsUnusedView 0 0 v
  unused-first v e = subst (λ (u : View I). IsUnusedView 0 0 u) (sym e) (record { role = refl; sites_are = refl; made_are = refl; got_none = refl; told_none = λ k. refl })

  counted-of : (n m : ℕ) (v : View I) → IsUnusedView n m v → IsUnusedView (n + 1) m (one_site v)
  counted-of n m (Owner v) h = record { role = refl; sites_are = ap (λ k. k + 1) h.sites_are; made_are = h.made_are; got_none = h.got_none; told_none = h.told_none }
  counted-of n m v h = absurd (true≢false (sym h.role))

  pub unused-counted : (n m : ℕ) (v w : View I) → IsUnusedView n m v → w ≡ one_site v → IsUnusedView (n + 1) m w
  unused-counted n m v w h e = subst (λ (u : View I). IsUnusedView (n + 1) m u) (sym e) (counted-of n m v h)
