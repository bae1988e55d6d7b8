-- What is known to be waiting, after a pop and after a settling.
use Rattle.std.proofs.Common.{◌≡◌, ℕ, suc, ◌+◌, ◌-◌, true, List, [], ◌∷◌, ◌++◌, length, drop, refl, sym, ◌∙◌, ap, subst, arith, length-append}
use Rattle.std.proofs.lemmas.List.{append-nil}
use Rattle.site_links.specs.Words.{Begins}
use Rattle.site_links.specs.declared.places.TheConstants.{PLACES}
use Rattle.site_links.proofs.Rows.{only_at-same}
use Rattle.np_inbox_rule.specs.declared.views.View.{View}
use Rattle.np_inbox_rule.specs.Rule.{items_of}
use Rattle.np_inbox_rule.specs.Steps.{Taken, sent_in, last_in, got_in, told_in}
use Rattle.np_inbox_rule.proofs.Lists.{begins-none, begins-short, items-snoc}
use Rattle.site_inboxes.specs.Views.{is_owner, sites_in, made_in, number_in}
use Rattle.site_inboxes.specs.Ends.{got_at, known_at, TakesFrom, Settled, Counts}
use Rattle.site_inboxes.proofs.Roles.{owner-is, Takes, takes-is}

module _ {T : Type 0} where
  abbrev tail : List T → List T
  tail [] = []
  tail (x ∷ xs) = xs

  abbrev head : T → List T → T
  head d [] = d
  head d (x ∷ xs) = x

  rest-is : (f r : List T) → drop (length f) (f ++ r) ≡ r
  rest-is [] r = refl
  rest-is (x ∷ f) r = rest-is f r

  -- a front and what comes after it
  pub front-rest : (a f : List T) → Begins a f → f ++ drop (length f) a ≡ a
  front-rest a f h = subst (λ (l : List T). f ++ drop (length f) l ≡ l) (sym h.is) (ap (λ r. f ++ r) (rest-is f h.rest))

  -- the first after a front
  pub next-known : (g rest told : List T) (x : T) → Begins (g ++ x ∷ rest) told → Begins (x ∷ drop (suc (length g)) told) (drop (length g) told)
  next-known [] rest [] x h = begins-none (x ∷ [])
  next-known [] rest (y ∷ ts) x h = let first : x ≡ y = ap (head x) h.is in record { rest = []; is = (λ i. first i ∷ ts) ∙ sym (append-nil (y ∷ ts)) }
  next-known (a ∷ g) rest [] x h = begins-none (x ∷ [])
  next-known (a ∷ g) rest (y ∷ ts) x h = next-known g rest ts x (record { rest = h.rest; is = ap tail h.is })

module _ {I : Type 0} (sender : I → ℕ) where
  pub taken-from : (v w : View I) (x : I) → is_owner v ≡ true → Taken sender v x w → TakesFrom sender v w x
  taken-from v w x e h =
      let t : Takes sender v w x = takes-is sender v w x e h.view_is in
      let s = sender x in
      let more : items_of sender s (got_in w) ≡ items_of sender s (got_in v) ++ x ∷ [] =
      ap (items_of sender s) t.got_is ∙ (items-snoc sender s (got_in v) x ∙ ap (λ l. items_of sender s (got_in v) ++ l) (only_at-same s x)) in
      let long : suc (length (got_at sender v s)) ≡ length (got_at sender w s) = omega (arith, ap length more, length-append (items_of sender s (got_in v)) (x ∷ [])) in
      let next : Begins (x ∷ drop (suc (length (got_at sender v s))) (told_in v s)) (drop (length (got_at sender v s)) (told_in v s)) =
      next-known (got_at sender v s) h.next.rest (told_in v s) x h.next.begins in
      let same : drop (suc (length (got_at sender v s))) (told_in v s) ≡ known_at sender w s =
      ap (λ n. drop n (told_in v s)) long ∙ ap (drop (length (got_at sender w s))) (sym (t.told_same s)) in
      record {
        within = h.within (sites_in v) (made_in v) (owner-is v e);
        got = t.got_is;
        first = subst (λ (l : List I). Begins (x ∷ l) (known_at sender v s)) same next;
      }

  module _ (v b v' b' : View I) (s : Settled sender v b v' b') (freed : Begins (sent_in v') (last_in v')) where
    front : Begins (told_in b' (number_in v)) (got_at sender b' (number_in v))
    front = subst (λ (l : List I). Begins l (got_at sender b' (number_in v))) (s.sent_same ∙ sym s.told_is) (subst (λ (l : List I). Begins (sent_in v') l) s.last_is freed)

    pub settled-whole : got_at sender b' (number_in v) ++ known_at sender b' (number_in v) ≡ sent_in v'
    settled-whole = front-rest (told_in b' (number_in v)) (got_at sender b' (number_in v)) front ∙ (s.told_is ∙ sym s.sent_same)

    got-same : got_at sender b' (number_in v) ≡ got_at sender b (number_in v)
    got-same = ap (items_of sender (number_in v)) s.got_same

    pub settled-spaced : (spare fresh : ℕ) → spare + length (sent_in v) ≡ PLACES + length (last_in v) → Counts (got_at sender b (number_in v)) (last_in v) fresh
        → (spare + fresh) + length (sent_in v') ≡ PLACES + length (last_in v')
    settled-spaced spare fresh spaced counts =
        let short = begins-short (sent_in v') (last_in v') freed in
        let same = ap length s.sent_same in let last = ap length s.last_is in let got = ap length got-same in
        let fresh' = counts (omega (arith, short, same, last, got, spaced)) in
        omega (arith, same, last, got, spaced, fresh')

    pub settled-free : (spare fresh : ℕ) → spare + length (sent_in v) ≡ PLACES + length (last_in v) → Counts (got_at sender b (number_in v)) (last_in v) fresh
        → spare + fresh ≡ PLACES - length (known_at sender b' (number_in v))
    settled-free spare fresh spaced counts =
        let spaced' = settled-spaced spare fresh spaced counts in
        let whole = ap length settled-whole in
        let last = ap length s.last_is in
        omega (arith, spaced', whole, last, length-append (got_at sender b' (number_in v)) (known_at sender b' (number_in v)))
