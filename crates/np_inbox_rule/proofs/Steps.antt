-- Each step keeps the rule.
use Rattle.std.proofs.Common.{◌≡◌, ◌≢◌, ℕ, zero, suc, ◌+◌, ◌*◌, ◌<◌, ◌≤◌, ◌⊎◌, inl, inr, ⊎_elim, List, [], ◌∷◌, ◌++◌, length, set, refl, sym, ◌∙◌, ap, subst, arith, length-append}
use Rattle.std.proofs.lemmas.Bool.{cases_lt}
use Rattle.std.proofs.lemmas.Bool.Decides.{eqb_tells}
use mathlib.Core.Option.{some, some-injective, some-ne-none}
use lib.ListN.{get_elem?}
use Rattle.crossbeam_queue.proofs.Lists.{at_set}
use Rattle.site_links.specs.Words.{Begins, only_at}
use Rattle.site_links.specs.declared.places.TheConstants.{PLACES}
use Rattle.site_links.proofs.Rows.{only_at-same}
use Rattle.np_inbox_rule.specs.declared.views.View.{View}
use Rattle.np_inbox_rule.specs.declared.views.View.TheVariants.{Owner, Sender, OfSender, OfOwner, Spent}
use Rattle.np_inbox_rule.specs.Rule.{items_of, told_of, Standing, Flows, OwnerFits, SenderFits, Fits, Holds}
use Rattle.np_inbox_rule.specs.Steps.{first_view, put, take, one_site, one_made, new_sender, note_sent, note_got, join_sent, join_got}
use Rattle.np_inbox_rule.specs.Laws.{RuleBegins, PutKeeps, PutLearns, TakeKeeps, TakeLearns, LookLearns, SiteForks, SenderForks, SentForks, GotForks, SentMerges, GotMerges}
use Rattle.np_inbox_rule.proofs.Lists.{begins-refl, begins-none, begins-trans, begins-short, begins-joined}
use Rattle.np_inbox_rule.proofs.Sums.{fewer-than}
use Rattle.np_inbox_rule.proofs.Numbers.{widened, grown, pushed, popped, push-mine, push-other, pop-mine, pop-other, made-mine, made-other}
use Rattle.np_inbox_rule.proofs.Passes.{push-fits_mine, push-fits_other, pop-fits_mine, pop-fits_other, site-fits_mine, site-fits_other, made-fits_mine, made-fits_new, made-fits_other, sent-joins, got-joins}

module _ {V : Type 0} where
  abbrev Each : (ℕ → V → Type 0) → List V → Type 0
  Each F views = (j : ℕ) (v : V) → get_elem? views j ≡ some v → F j v

  each-set : (F : ℕ → V → Type 0) (views : List V) (pass : ℕ) (w : V) → F pass w → ((j : ℕ) (u : V) → j ≢ pass → get_elem? views j ≡ some u → F j u) → Each F (set views pass w)
  each-set F views pass w mine others j u e = ⊎_elim (λ (x : (j ≡ pass) × (w ≡ u)). subst (λ (y : ℕ × V). F y.0 y.1) (λ i. (sym x.0 i, x.1 i)) mine)
      (λ (x : (j ≢ pass) × (get_elem? views j ≡ some u)). others j u x.0 x.1) (at_set views pass j w u e)

  at-end : (l : List V) (a b : V) (j : ℕ) → get_elem? (l ++ a ∷ []) j ≡ some b → (get_elem? l j ≡ some b) ⊎ ((j ≡ length l) × (a ≡ b))
  at-end [] a b zero e = inr (refl, some-injective a b e)
  at-end [] a b (suc j) e = absurd (some-ne-none b (sym e))
  at-end (x ∷ xs) a b zero e = inl e
  at-end (x ∷ xs) a b (suc j) e = ⊎_elim inl (λ (h : (j ≡ length xs) × (a ≡ b)). inr (ap suc h.0, h.1)) (at-end xs a b j e)

  each-snoc : (F : ℕ → V → Type 0) (views : List V) (w : V) → F (length views) w → Each F views → Each F (views ++ w ∷ [])
  each-snoc F views w mine others j u e = ⊎_elim (λ (x : get_elem? views j ≡ some u). others j u x)
      (λ (x : (j ≡ length views) × (w ≡ u)). subst (λ (y : ℕ × V). F y.0 y.1) (λ i. (sym x.0 i, x.1 i)) mine) (at-end views w u j e)

module _ {I : Type 0} (sender : I → ℕ) where
  pub begins : RuleBegins sender
  begins =
      let t : Standing I = record { sites = 0; made = 0; owner = 0; seat = λ k. 0; sent = λ k. []; got = [] } in
      let first : OwnerFits sender t 0 (record { sites = 0; made = 0; got = []; told = [] }) = record { alone = refl; sites_are = refl; made_are = refl; got_is = refl; told = λ k. begins-none [] } in
      record {
        standing = t;
        within = omega arith;
        flows = λ k. record { flow = refl; few = omega arith; unmade = λ le. refl };
        fits = each-snoc (Fits sender t) [] first_view first (λ j u e. absurd (some-ne-none u (sym e)));
      }

  -- ---- push
  pub puts : PutKeeps sender
  puts n pass sites number (Sender v) x is e room items views _ h at =
      let t = h.standing in let mine : SenderFits sender t pass v = h.fits pass (Sender v) at in
      let same : sender x ≡ v.number = e ∙ sym is.1 in
      let few : length v.sent < length v.freed + PLACES = omega (arith, room, begins-short v.freed v.last mine.last_freed) in
      let made : sender x < t.made = let below = mine.below in omega (arith, same, below) in
      let space : length (t.sent (sender x)) < length (items_of sender (sender x) t.got) + PLACES =
      subst (λ (m : ℕ). length (t.sent m) < length (items_of sender m t.got) + PLACES) (sym same)
      (omega (arith, few, ap length mine.sent_is, begins-short (items_of sender v.number t.got) v.freed mine.freed_taken)) in (
        put (Sender v) x,
        record {
          standing = pushed sender t x;
          within = h.within;
          flows = λ k. elim (eqb_tells k (sender x)) [
            | inl w ↦ subst (λ (m : ℕ). Flows sender (pushed sender t x) (items ++ x ∷ []) m) (sym w.1) (push-mine sender t items x made space (h.flows (sender x)))
            | inr w ↦ push-other sender t items x k w.1 (h.flows k)
          ];
          fits = each-set (Fits sender (pushed sender t x)) views pass (put (Sender v) x) (push-fits_mine sender t x pass v same few mine)
              (λ j u other k. push-fits_other sender t x j u (λ seat. other (seat ∙ (ap t.seat same ∙ sym mine.alone))) (h.fits j u k));
        },
        refl,
      )
  puts n pass sites number v x is e room items views _ h at = absurd is

  none-else : (t : Standing I) (items : List I) (k : ℕ) → Flows sender t items k → t.made ≤ k → items_of sender k items ≡ []
  none-else t items k h le = empty-end (items_of sender k t.got) (items_of sender k items) (h.flow ∙ h.unmade le)
    where
      empty-end : (a b : List I) → a ++ b ≡ [] → b ≡ []
      empty-end [] b e = e
      empty-end (y ∷ a) b e = absurd (omega (arith, ap length e))

  waiting : (t : Standing I) (items : List I) (k : ℕ) → Flows sender t items k → length (items_of sender k t.got) + length (items_of sender k items) ≡ length (t.sent k)
  waiting t items k h = sym (length-append (items_of sender k t.got) (items_of sender k items)) ∙ ap length h.flow

  pub put-learns : PutLearns sender
  put-learns pass (Sender v) items views h at = λ room.
      let t = h.standing in let mine : SenderFits sender t pass v = h.fits pass (Sender v) at in
      let taken = begins-short (items_of sender v.number t.got) v.freed mine.freed_taken in
      let freed = begins-short v.freed v.last mine.last_freed in
      let wait = waiting t items v.number (h.flows v.number) in
      let less : length (items_of sender v.number items) < PLACES = omega (arith, room, taken, freed, wait, ap length mine.sent_is) in
      let all : length items < t.sites * PLACES =
      let within = h.within in let below = mine.below in
      fewer-than sender t.sites PLACES v.number items (omega (arith, within, below)) (λ k le. none-else t items k (h.flows k) (omega (arith, within, le)))
      (λ k. let f = h.flows k in omega (arith, f.few, waiting t items k f)) less in
      subst (λ (m : ℕ). length items < m * PLACES) (sym mine.sites_are) all
  put-learns pass v items views h at = tt

  pub look-learns : LookLearns sender
  look-learns pass (Sender v) items views h at =
      let t = h.standing in let mine : SenderFits sender t pass v = h.fits pass (Sender v) at in
      let n = v.number in
      let got : Begins (t.sent n) (items_of sender n t.got) = begins-joined (t.sent n) (items_of sender n t.got) (items_of sender n items) (sym (h.flows n).flow) in
      let all : Begins (t.sent n) v.last = begins-trans (t.sent n) (items_of sender n t.got) v.last got (begins-trans (items_of sender n t.got) v.freed v.last mine.freed_taken mine.last_freed) in
      subst (λ (l : List I). Begins l v.last) (sym mine.sent_is) all
  look-learns pass (OfSender v) items views h at = begins-none v.sent
  look-learns pass v items views h at = begins-none []

  -- ---- pop
  told-all : (t : Standing I) (items : List I) (k : ℕ) (l : List I) → Flows sender t items k → Begins (t.sent k) l → Begins (items_of sender k t.got ++ items_of sender k items) l
  told-all t items k l h b = subst (λ (all : List I). Begins all l) (sym h.flow) b

  pub take-learns : TakeLearns sender
  take-learns pass sites made (Owner v) is items views h at k =
      let t = h.standing in let mine : OwnerFits sender t pass v = h.fits pass (Owner v) at in
      subst (λ (l : List I). Begins (items_of sender k l ++ items_of sender k items) (told_of k v.told)) (sym mine.got_is) (told-all t items k (told_of k v.told) (h.flows k) (mine.told k))
  take-learns pass sites made v is items views h at k = absurd is

  item-made : (t : Standing I) (items : List I) (x : I) → ((k : ℕ) → Flows sender t (x ∷ items) k) → (sender x < t.made) ⊎ (t.made ≤ sender x) → sender x < t.made
  item-made t items x h (inl lt) = lt
  item-made t items x h (inr le) =
      let none : only_at (sender x) (sender x) x ++ items_of sender (sender x) items ≡ [] = none-else t (x ∷ items) (sender x) (h (sender x)) le in
      absurd (omega (arith, ap length (sym (ap (λ l. l ++ items_of sender (sender x) items) (only_at-same (sender x) x)) ∙ none)))

  pub takes : TakeKeeps sender
  takes pass sites made (Owner v) is x items views h at =
      let t = h.standing in let mine : OwnerFits sender t pass v = h.fits pass (Owner v) at in
      let s = sender x in
      let one : only_at s s x ++ items_of sender s items ≡ x ∷ items_of sender s items = ap (λ l. l ++ items_of sender s items) (only_at-same s x) in
      let told : Begins (items_of sender s t.got ++ (only_at s s x ++ items_of sender s items)) (told_of s v.told) = told-all t (x ∷ items) s (told_of s v.told) (h.flows s) (mine.told s) in
      let told' : Begins (items_of sender s t.got ++ x ∷ items_of sender s items) (told_of s v.told) =
      subst (λ (l : List I). Begins (items_of sender s t.got ++ l) (told_of s v.told)) one told in (
        take sender (Owner v) x,
        record {
          standing = popped sender t x;
          within = h.within;
          flows = λ k. elim (eqb_tells k s) [
            | inl w ↦ subst (λ (m : ℕ). Flows sender (popped sender t x) items m) (sym w.1) (pop-mine sender t items x (h.flows s))
            | inr w ↦ pop-other sender t items x k w.1 (h.flows k)
          ];
          fits = each-set (Fits sender (popped sender t x)) views pass (take sender (Owner v) x) (pop-fits_mine sender t x pass v mine)
              (λ j u other k. pop-fits_other sender t x j u (λ owner. other (owner ∙ sym mine.alone)) (h.fits j u k));
        },
        record {
          view_is = refl;
          within = λ n m is'. let below = item-made t items x h.flows (cases_lt s t.made) in let within = h.within in omega (arith, below, within, mine.sites_are, is'.0);
          next = record {
            rest = items_of sender s items;
            begins = subst (λ (l : List I). Begins (items_of sender s l ++ x ∷ items_of sender s items) (told_of s v.told)) (sym mine.got_is) told';
          };
        },
      )
  takes pass sites made v is x items views h at = absurd is

  -- ---- splits
  pub site-forks : SiteForks sender
  site-forks pass sites (Owner v) is items views h at =
      let t = h.standing in let mine : OwnerFits sender t pass v = h.fits pass (Owner v) at in
      let none : t.made ≡ 0 = sym mine.made_are ∙ is.1 in
      let left = one_site (Owner v) in let F = Fits sender (widened t) in record {
        standing = widened t;
        within = omega (arith, none);
        flows = λ k. let f = h.flows k in record { flow = f.flow; few = f.few; unmade = f.unmade };
        fits = each-snoc F (set views pass left) Spent tt
            (each-set F views pass left (site-fits_mine sender t pass v mine) (λ j u other k. site-fits_other sender t none j u (λ owner. other (owner ∙ sym mine.alone)) (h.fits j u k)));
      }
  site-forks pass sites v is items views h at = absurd is

  pub sender-forks : SenderForks sender
  sender-forks pass sites made (Owner v) is more items views h at =
      let t = h.standing in let mine : OwnerFits sender t pass v = h.fits pass (Owner v) at in
      let left = one_made (Owner v) in let new = length (set views pass left) in let F = Fits sender (grown t new) in record {
        standing = grown t new;
        within = omega (arith, more, is.0, is.1, mine.sites_are, mine.made_are);
        flows = λ k. elim (eqb_tells k t.made) [
          | inl w ↦ subst (λ (m : ℕ). Flows sender (grown t new) items m) (sym w.1) (made-mine sender t items new (h.flows t.made))
          | inr w ↦ made-other sender t items new k w.1 (h.flows k)
        ];
        fits = each-snoc F (set views pass left) (new_sender (Owner v)) (made-fits_new sender t new v.sites v.made mine.sites_are mine.made_are ((h.flows t.made).unmade (omega arith)))
            (each-set F views pass left (made-fits_mine sender t new pass v mine) (λ j u other k. made-fits_other sender t new j u (λ owner. other (owner ∙ sym mine.alone)) (h.fits j u k)));
      }
  sender-forks pass sites made v is more items views h at = absurd is

  -- a pass with a fitting view comes
  noted : (pass : ℕ) (v note : View I) (items : List I) (views : List (View I)) (h : Holds sender items views) → get_elem? views pass ≡ some v
      → ((new : ℕ) → Fits sender h.standing new note) → Holds sender items (set views pass v ++ note ∷ [])
  noted pass v note items views h at fit = let F = Fits sender h.standing in record {
    standing = h.standing;
    within = h.within;
    flows = h.flows;
    fits = each-snoc F (set views pass v) note (fit (length (set views pass v))) (each-set F views pass v (h.fits pass v at) (λ j u other k. h.fits j u k));
  }

  pub sent-forks : SentForks sender
  sent-forks pass (Sender v) items views h at =
      let mine : SenderFits sender h.standing pass v = h.fits pass (Sender v) at in
      noted pass (Sender v) (note_sent (Sender v)) items views h at (λ new. (mine.below, subst (λ (l : List I). Begins l v.sent) mine.sent_is (begins-refl v.sent)))
  sent-forks pass v items views h at = noted pass v Spent items views h at (λ new. tt)

  pub got-forks : GotForks sender
  got-forks pass (Owner v) items views h at =
      let mine : OwnerFits sender h.standing pass v = h.fits pass (Owner v) at in
      noted pass (Owner v) (note_got (Owner v)) items views h at (λ new k. subst (λ (l : List I). Begins (items_of sender k l) (items_of sender k v.got)) mine.got_is (begins-refl (items_of sender k v.got)))
  got-forks pass v items views h at = noted pass v Spent items views h at (λ new. tt)

  -- ---- joins
  merged : (pass other : ℕ) (both : View I) (items : List I) (views : List (View I)) (h : Holds sender items views) → Fits sender h.standing pass both
      → Holds sender items (set (set views pass both) other Spent)
  merged pass other both items views h fit = let F = Fits sender h.standing in record {
    standing = h.standing;
    within = h.within;
    flows = h.flows;
    fits = each-set F (set views pass both) other Spent tt (λ j u apart k. each-set F views pass both fit (λ i w n e. h.fits i w e) j u k);
  }

  was : (views : List (View I)) (pass other : ℕ) (both note : View I) → ¬ (other ≡ pass) → get_elem? (set views pass both) other ≡ some note → get_elem? views other ≡ some note
  was views pass other both note two at = ⊎_elim (λ (x : (other ≡ pass) × (both ≡ note)). absurd (two x.0)) (λ (x : (other ≢ pass) × (get_elem? views other ≡ some note)). x.1) (at_set views pass other both note at)

  pub sent-merges : SentMerges sender
  sent-merges pass other (Owner v) (OfSender note) items views h at two there =
      let both = join_sent (Owner v) (OfSender note) in
      merged pass other both items views h (sent-joins sender h.standing pass v note (h.fits pass (Owner v) at) (h.fits other (OfSender note) (was views pass other both (OfSender note) two there)).1)
  sent-merges pass other v note items views h at two there = merged pass other v items views h (h.fits pass v at)

  pub got-merges : GotMerges sender
  got-merges pass other (Sender v) (OfOwner note) items views h at two there =
      let both = join_got sender (Sender v) (OfOwner note) in
      merged pass other both items views h (got-joins sender h.standing pass v (items_of sender v.number note.got) (h.fits pass (Sender v) at) (h.fits other (OfOwner note) (was views pass other both (OfOwner note) two there) v.number))
  got-merges pass other v note items views h at two there = merged pass other v items views h (h.fits pass v at)
