-- What a site keeps to when an event is recorded.
use Rattle.std.proofs.Common.{◌≡◌, ◌<◌, ◌≤◌, ◌+◌, ℕ, List, [], ◌∷◌, ◌++◌, length, Option, None, Some, refl, sym, ap, subst, ◌∙◌, arith}
use Rattle.std.proofs.lemmas.Grind.{common_steps}
use Rattle.np_syntax.specs.declared.limits.TheConstants.{STAMPS_END}
use Rattle.np_syntax.specs.declared.event.Made.{Made}
use Rattle.np_syntax.specs.declared.event.Made.TheVariants as made
use Rattle.np_syntax.specs.declared.value.Value.{Value}
use Rattle.stamp_history.specs.declared.stamped.Stamped.{Stamped}
use Rattle.stamp_history.specs.Histories.{IsAboveLast, Recorded}
use Rattle.site_state.specs.Doing.{recorded}
use Rattle.site_state.specs.Parts.{names_in}
use Rattle.site_agents.specs.Standings.{AreNamed}
use Rattle.site_state.specs.Standings.{IsStanding, Standing}

pub above_more : (es : List Stamped) (m n : ℕ) → m ≤ n → IsAboveLast es m → IsAboveLast es n
above_more [] m n l h = tt
above_more (e ∷ []) m n l h = omega arith
above_more (e ∷ f ∷ es) m n l h = above_more (f ∷ es) m n l h

pub above_one : (es : List Stamped) (e : Stamped) (n : ℕ) → e.stamp < n → IsAboveLast (es ++ e ∷ []) n
above_one [] e n l = l
above_one (f ∷ []) e n l = l
above_one (f ∷ g ∷ es) e n l = above_one (g ∷ es) e n l

pub few_names : (m : Made) → names_in m ≤ 2
few_names made.Nothing = omega arith
few_names (made.One m) = omega arith
few_names (made.Two m n) = omega arith

events_of : (h : Recorded) (e : Stamped) (value : Option Value) → (recorded h e value).events ≡ h.events ++ e ∷ []
events_of h e None = refl
events_of h e (Some v) = refl

site_of : (h : Recorded) (e : Stamped) (value : Option Value) → (recorded h e value).site ≡ h.site
site_of h e None = refl
site_of h e (Some v) = refl

pub budget_of : (h : Recorded) (e : Stamped) (value : Option Value) → (recorded h e value).budget ≡ h.budget
budget_of h e None = refl
budget_of h e (Some v) = refl

one_longer : (es : List Stamped) (e : Stamped) → length (es ++ e ∷ []) ≡ length es + 1
one_longer es e = grind (arith, common_steps)

-- a site with one more event
pub noted_stands : (s t : Standing) (e : Stamped) (value : Option Value) (n : ℕ) → IsStanding s → e.stamp ≤ STAMPS_END + length s.history.events + 1 → n ≤ 2 → t.site ≡ s.site
    → AreNamed t.agents → t.next ≡ s.next + n → t.clock ≡ e.stamp → t.history ≡ recorded s.history e value → IsStanding t
noted_stands s t e value n h stamp few site named next clock history =
    let events : t.history.events ≡ s.history.events ++ e ∷ [] = ap (λ (x : Recorded). x.events) history ∙ events_of s.history e value in
    let long : length t.history.events ≡ length s.history.events + 1 = ap length events ∙ one_longer s.history.events e in
    let names = h.names in
    record {
      site = ap (λ (x : Recorded). x.site) history ∙ site_of s.history e value ∙ h.site ∙ sym site;
      budget = let b : t.history.budget ≡ s.history.budget = ap (λ (x : Recorded). x.budget) history ∙ budget_of s.history e value in let few = h.budget in omega arith;
      named = named;
      names = omega arith;
      clock = omega arith;
      last = subst (λ es. IsAboveLast es (t.clock + 1)) (sym events) (above_one s.history.events e (t.clock + 1) (omega arith));
    }

-- and no more names
pub noted_no_names : (s t : Standing) (e : Stamped) (value : Option Value) → IsStanding s → e.stamp ≤ STAMPS_END + length s.history.events + 1 → t.site ≡ s.site
    → AreNamed t.agents → t.next ≡ s.next → t.clock ≡ e.stamp → t.history ≡ recorded s.history e value → IsStanding t
noted_no_names s t e value h stamp site named next clock history = noted_stands s t e value 0 h stamp (omega arith) site named (omega arith) clock history
