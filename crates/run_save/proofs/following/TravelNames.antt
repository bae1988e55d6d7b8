-- The names that a site makes, by what it holds.
use Rattle.std.proofs.Common.{◌≡◌, ◌+◌, ℕ, cond, nat_eq, List, [], ◌∷◌, ◌++◌, length, refl, sym, ap, ◌∙◌, arith}
use Rattle.std.proofs.lemmas.Bool.{eq-eqb}
use Rattle.std.proofs.lemmas.List.{append-nil, length-append}
use Rattle.std.proofs.lemmas.List.Concat.{flat_map-append}
use Rattle.np_syntax.specs.declared.event.Event.{Event}
use Rattle.np_syntax.specs.declared.event.Made.{Made}
use Rattle.np_syntax.specs.declared.event.Made.TheVariants as made
use Rattle.np_syntax.specs.declared.value.Name.{Name}
use Rattle.np_site_runs.proofs.merged.Steps.{false_eq}
use Rattle.np_site_runs.specs.Holdings.{Holding, Numbers, name_of}
use Rattle.run_save.specs.Ours.{AreNext, names_by, names_of}

module _ (h then : Holding) (s n : ℕ) (at : h.site ≡ s) (next : h.next ≡ n) where
  named : (m : Name) (k : ℕ) → m ≡ name_of h.site (h.next + k) → m ≡ record { site = s; n = n + k }
  named m k is = is ∙ (λ i. record { site = at i; n = next i + k })

  pub are-next : (x : Made) → Numbers h x then → AreNext s n (names_of x)
  are-next made.Nothing h = tt
  are-next (made.One m) h = (h.0 ∙ (λ i. record { site = at i; n = next i }), tt)
  are-next (made.Two m k) h = (h.0 ∙ (λ i. record { site = at i; n = next i }), (named k 1 h.1, tt))

  pub next-is : (x : Made) → Numbers h x then → then.next ≡ n + length (names_of x)
  next-is made.Nothing h = omega arith
  next-is (made.One m) h = let e : then.next ≡ _ = h.1 in omega arith
  next-is (made.Two m k) h = let e : then.next ≡ _ = h.2 in omega arith

-- ---- one event more

by-more : (s : ℕ) (events : List Event) (e : Event) → names_by s (events ++ e ∷ []) ≡ names_by s events ++ cond (nat_eq e.site s) (names_of e.made) []
by-more s events e =
    flat_map-append (λ (x : Event). cond (nat_eq x.site s) (names_of x.made) []) events (e ∷ [])
    ∙ ap (λ z. names_by s events ++ z) (append-nil (cond (nat_eq e.site s) (names_of e.made) []))

pub count-here : (events : List Event) (e : Event) → length (names_by e.site (events ++ e ∷ [])) ≡ length (names_by e.site events) + length (names_of e.made)
count-here events e =
    ap length (by-more e.site events e ∙ ap (λ b. names_by e.site events ++ cond b (names_of e.made) []) (eq-eqb e.site e.site refl))
    ∙ length-append (names_by e.site events) (names_of e.made)

pub count-there : (s : ℕ) (events : List Event) (e : Event) → (s ≡ e.site → ⊥) → length (names_by s (events ++ e ∷ [])) ≡ length (names_by s events)
count-there s events e apart =
    ap length (by-more s events e ∙ ap (λ b. names_by s events ++ cond b (names_of e.made) []) (false_eq e.site s (λ same. apart (sym same))) ∙ append-nil (names_by s events))
