-- What is true of each number after a step: of the number that the step is of, and of every other.
use Rattle.std.proofs.Common.{◌≡◌, ◌≢◌, ℕ, ◌+◌, ◌<◌, ◌≤◌, cond, eqb, List, [], ◌∷◌, ◌++◌, length, sym, ◌∙◌, ap, arith, append_assoc, length-append}
use Rattle.std.proofs.lemmas.List.{append-nil}
use Rattle.site_links.specs.Words.{only_at}
use Rattle.site_links.specs.declared.places.TheConstants.{PLACES}
use Rattle.site_links.proofs.Rows.{only_at-same, only_at-other}
use Rattle.np_inbox_rule.specs.Rule.{items_of, Standing, Flows}
use Rattle.np_inbox_rule.proofs.Lists.{items-snoc}

module _ {I : Type 0} where
  -- one site more
  abbrev pub widened : Standing I → Standing I
  widened t = record t { sites = t.sites + 1 }

  -- one sender more, whose pass is this
  abbrev pub grown : Standing I → ℕ → Standing I
  grown t new = record t { made = t.made + 1; seat = λ k. cond (eqb k t.made) new (t.seat k) }

module _ {I : Type 0} (sender : I → ℕ) where
  -- an item more that was pushed
  abbrev pub pushed : Standing I → I → Standing I
  pushed t x = record t { sent = λ k. t.sent k ++ only_at k (sender x) x }

  -- an item more that was taken
  abbrev pub popped : Standing I → I → Standing I
  popped t x = record t { got = t.got ++ x ∷ [] }

  module _ (t : Standing I) (items : List I) (x : I) where
    one-is : (k : ℕ) → k ≢ sender x → (l : List I) → l ++ only_at k (sender x) x ≡ l
    one-is k n l = ap (λ m. l ++ m) (only_at-other k (sender x) x n) ∙ append-nil l

    -- ---- push
    push-flow : (k : ℕ) → Flows sender t items k → items_of sender k t.got ++ items_of sender k (items ++ x ∷ []) ≡ t.sent k ++ only_at k (sender x) x
    push-flow k h =
        ap (λ l. items_of sender k t.got ++ l) (items-snoc sender k items x) ∙ (sym (append_assoc (items_of sender k t.got) (items_of sender k items) (only_at k (sender x) x))
        ∙ ap (λ l. l ++ only_at k (sender x) x) h.flow)

    pub push-mine : sender x < t.made → length (t.sent (sender x)) < length (items_of sender (sender x) t.got) + PLACES → Flows sender t items (sender x)
        → Flows sender (pushed t x) (items ++ x ∷ []) (sender x)
    push-mine made space h = record {
      flow = push-flow (sender x) h;
      few = rw (only_at-same (sender x) x) (omega (arith, space, length-append (t.sent (sender x)) (x ∷ [])));
      unmade = λ le. absurd (omega arith);
    }

    pub push-other : (k : ℕ) → k ≢ sender x → Flows sender t items k → Flows sender (pushed t x) (items ++ x ∷ []) k
    push-other k n h = record {
      flow = push-flow k h;
      few = rw (one-is k n (t.sent k)) h.few;
      unmade = λ le. one-is k n (t.sent k) ∙ h.unmade le;
    }

    -- ---- pop
    pop-flow : (k : ℕ) → Flows sender t (x ∷ items) k → items_of sender k (t.got ++ x ∷ []) ++ items_of sender k items ≡ t.sent k
    pop-flow k h =
        ap (λ l. l ++ items_of sender k items) (items-snoc sender k t.got x) ∙ (append_assoc (items_of sender k t.got) (only_at k (sender x) x) (items_of sender k items) ∙ h.flow)

    pop-few : (k : ℕ) → Flows sender t (x ∷ items) k → length (t.sent k) ≤ length (items_of sender k (t.got ++ x ∷ [])) + PLACES
    pop-few k h = omega (arith, h.few, ap length (items-snoc sender k t.got x), length-append (items_of sender k t.got) (only_at k (sender x) x))

    pub pop-mine : Flows sender t (x ∷ items) (sender x) → Flows sender (popped t x) items (sender x)
    pop-mine h = record { flow = pop-flow (sender x) h; few = pop-few (sender x) h; unmade = h.unmade }

    pub pop-other : (k : ℕ) → k ≢ sender x → Flows sender t (x ∷ items) k → Flows sender (popped t x) items k
    pop-other k n h = record { flow = pop-flow k h; few = pop-few k h; unmade = h.unmade }

  module _ (t : Standing I) (items : List I) (new : ℕ) where
    -- ---- the split of a sender
    pub made-mine : Flows sender t items t.made → Flows sender (grown t new) items t.made
    made-mine h = record { flow = h.flow; few = h.few; unmade = λ le. absurd (omega arith) }

    pub made-other : (k : ℕ) → k ≢ t.made → Flows sender t items k → Flows sender (grown t new) items k
    made-other k n h = record { flow = h.flow; few = h.few; unmade = λ le. h.unmade (omega arith) }
