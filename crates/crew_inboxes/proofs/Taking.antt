-- What a port has taken and what it knows to be waiting, after its inbox was popped or settled.
use Rattle.std.proofs.Common.{◌≡◌, ◌≢◌, ℕ, List, [], ◌∷◌, ◌++◌, length, drop, set, sym, ◌∙◌, ap, subst, Option, None, Some, MatchOption, inl, inr}
use Rattle.std.specs.Prelude.{slice_get}
use Rattle.std.proofs.lemmas.List.{append-nil}
use Rattle.std.proofs.lemmas.Option.{slice_get_within}
use Rattle.std.proofs.lemmas.Bool.Decides.{eqb_tells}
use Rattle.crossbeam_queue.specs.Passes.{view}
use Rattle.site_links.specs.Words.{Takes, only_at}
use Rattle.site_links.proofs.Kept.{Begins-same}
use Rattle.np_syntax.proofs.Options.{some_is}
use Rattle.site_links.proofs.Rows.{get-set_same, get-set_other, only_at-same, only_at-other}
use Rattle.agent_move.specs.declared.item.Item.{Item}
use Rattle.np_inbox_rule.specs.Rule.{items_of}
use Rattle.np_inbox_rule.specs.Steps.{got_in, told_in}
use Rattle.np_inbox_rule.proofs.Lists.{items-snoc}
use Rattle.site_inboxes.specs.Views.{number_in}
use Rattle.site_inboxes.specs.Ends.{TakesFrom}
use Rattle.site_inboxes.specs.declared.ends.Inbox.{Inbox}
use Rattle.site_inboxes.specs.declared.ends.Outlet.{Outlet}
use Rattle.crew_inboxes.specs.Ways.{from_of, taken_of, waiting_of}

module _ (a b : Inbox Item) where
  pub taken_same : got_in (view b.pass) ≡ got_in (view a.pass) → (k : ℕ) → taken_of b k ≡ taken_of a k
  taken_same e k = ap (items_of from_of k) e

  pub waiting_same : (k : ℕ) → taken_of b k ≡ taken_of a k → told_in (view b.pass) k ≡ told_in (view a.pass) k → waiting_of b k ≡ waiting_of a k
  waiting_same k g t =
      ap (λ (l : List Item). drop (length (taken_of b k)) l) t ∙ ap (λ (l : List Item). drop (length l) (told_in (view a.pass) k)) g

  module _ (item : Item) (h : TakesFrom from_of (view a.pass) (view b.pass) item) where
    pub taken_more : (k : ℕ) → taken_of b k ≡ taken_of a k ++ only_at k item.from item
    taken_more k = ap (items_of from_of k) h.got ∙ items-snoc from_of k (got_in (view a.pass)) item

    pub taken_here : taken_of b item.from ≡ taken_of a item.from ++ item ∷ []
    taken_here = taken_more item.from ∙ ap (λ (l : List Item). taken_of a item.from ++ l) (only_at-same item.from item)

    pub taken_others : (k : ℕ) → k ≢ item.from → taken_of b k ≡ taken_of a k
    taken_others k n = taken_more k ∙ (ap (λ (l : List Item). taken_of a k ++ l) (only_at-other k item.from item n) ∙ append-nil (taken_of a k))

    pub takes_item : ((k : ℕ) → told_in (view b.pass) k ≡ told_in (view a.pass) k) → Takes (taken_of a) (waiting_of a) (taken_of b) (waiting_of b) item.from item
    takes_item t = record {
      taken = taken_more;
      first = h.first;
      others = λ k n. Begins-same (waiting_of a k) (waiting_of b k) (waiting_same k (taken_others k n) (t k));
    }

-- all ways have one number still where one place was written
pub numbered_set : (ways : List (Outlet Item)) (i n : ℕ) (x y : Outlet Item) → ((k : ℕ) (way : Outlet Item) → slice_get ways k ≡ Some way → number_in (view way.pass) ≡ n)
    → slice_get ways i ≡ Some x → number_in (view y.pass) ≡ number_in (view x.pass) → (k : ℕ) (way : Outlet Item) → slice_get (set ways i y) k ≡ Some way → number_in (view way.pass) ≡ n
numbered_set ways i n x y h was e k way f =
    elim (eqb_tells k i) [
      | inl w ↦
          let is : y ≡ way = some_is (slice_get (set ways i y) i) y way (get-set_same ways i y (slice_get_within ways i x was)) (subst (λ (m : ℕ). slice_get (set ways i y) m ≡ Some way) w.1 f) in
          ap (λ (o : Outlet Item). number_in (view o.pass)) (sym is) ∙ (e ∙ h i x was)
      | inr w ↦ h k way (sym (get-set_other ways i k y w.1) ∙ f)
    ]

-- of a look that took nothing, what was known before it is not told
pub told_less : {T : Type 0} (P Q : ℕ → Type 0) (R : T → Type 0) (o : Option T) → MatchOption o ((k : ℕ) → P k × Q k) R → MatchOption o ((k : ℕ) → P k) R
told_less P Q R None h = λ k. (h k).0
told_less P Q R (Some x) h = h
