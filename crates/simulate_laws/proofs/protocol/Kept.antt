-- What becomes of each part of the protocol in a step.
use Rattle.std.proofs.Common.{◌≡◌, ◌≤◌, inl, inr, ℕ, true, Option, None, Some, List, ◌++◌, is_some, refl, ap, ◌∙◌, arith}
use Rattle.std.specs.List.{All, AllByRecursion, sum_by, flat_map}
use Rattle.std.proofs.lemmas.List.Elements.{All-from_recursion}
use Rattle.np_syntax.specs.declared.value.Name.{Name}
use Rattle.np_tables.specs.Names.{same_name}
use Rattle.np_tables.proofs.Tables.{same_name-itself}
use Rattle.simulate_laws.specs.protocol.Chips.{Chip, columns, counted, is_of_locks}
use Rattle.simulate_laws.specs.protocol.Columns.{Column, times}
use Rattle.simulate_laws.specs.protocol.Phases.{Phase, line}
use Rattle.simulate_laws.specs.protocol.Protocol.{IsTrueOf}
use Rattle.simulate_laws.specs.protocol.Scenes.{Whereabouts, Scene, changed}
use Rattle.simulate_laws.specs.protocol.Steps.{Step}
use Rattle.simulate_laws.proofs.protocol.Phases.{fits, sole, sole-is, tells_none, new_line}
use Rattle.simulate_laws.proofs.protocol.Steps.{sum_before, sum_after, all_after}
use Rattle.simulate_laws.proofs.protocol.Tallies.{only, all_of, tally, tally_two}

-- the rows
abbrev pub Rows : (Name → Phase) → List Chip → Type 0
Rows phase chips = (a : Name) (c : Column) → sum_by (counted a c) chips ≡ times c (line (phase a))

module _ {before after take give : List Chip} (step : Step before after take give) (phase : Name → Phase) (rows : Rows phase before) where
  -- a step that leaves the columns as they are
  pub same_rows : ((x : Name) (c : Column) → sum_by (counted x c) take ≡ sum_by (counted x c) give) → Rows phase after
  same_rows h x c = omega (arith, h x c, rows x c, sum_before step (counted x c), sum_after step (counted x c))

  -- what is taken of an agent is in its line
  pub in_line : (a : Name) (ds : List Column) → ((c : Column) → times c ds ≤ sum_by (counted a c) take) → (c : Column) → times c ds ≤ times c (line (phase a))
  in_line a ds h c = omega (arith, h c, rows a c, sum_before step (counted a c))

  -- a step of one agent
  pub one_row : (a : Name) (p q : Phase) (ds es : List Column) → phase a ≡ p → flat_map columns take ≡ all_of a ds → flat_map columns give ≡ all_of a es → fits ds es p q ≡ true
      → Rows (changed phase a q) after
  one_row a p q ds es was takes gives fit x c =
      omega (arith, new_line phase a p q was ds es fit x c, tally take a ds takes x c, tally give a es gives x c, rows x c, sum_before step (counted x c), sum_after step (counted x c))

  -- a step of two agents
  pub two_rows : (a b : Name) (p q r s : Phase) (ds es fs gs : List Column) → phase a ≡ p → changed phase a q b ≡ r
      → flat_map columns take ≡ all_of a ds ++ all_of b fs → flat_map columns give ≡ all_of a es ++ all_of b gs → fits ds es p q ≡ true → fits fs gs r s ≡ true
      → Rows (changed (changed phase a q) b s) after
  two_rows a b p q r s ds es fs gs was then takes gives fit fit_too x c =
      omega (
        arith,
        new_line phase a p q was ds es fit x c,
        new_line (changed phase a q) b r s then fs gs fit_too x c,
        tally_two take a b ds fs takes x c,
        tally_two give a b es gs gives x c,
        rows x c,
        sum_before step (counted x c),
        sum_after step (counted x c),
      )

-- at the agent itself
pub here : (a : Name) (n : ℕ) → only (same_name a a) n ≡ n
here a n = rw (same_name-itself a) refl

module _ {before after take give : List Chip} (step : Step before after take give) (phase : Name → Phase) (rows : Rows phase before) where
  -- the columns taken tell the phase of their agent, and of the first and the second of two
  pub phase_of : (a : Name) (p : Phase) (ds : List Column) → flat_map columns take ≡ all_of a ds → sole ds p ≡ true → tells_none p ≡ true → phase a ≡ p
  phase_of a p ds takes alone tells = sole-is ds p (phase a) alone tells (in_line step phase rows a ds λ c. omega (arith, tally take a ds takes a c, here a (times c ds)))

  pub phase_of_first : (a b : Name) (p : Phase) (ds fs : List Column) → flat_map columns take ≡ all_of a ds ++ all_of b fs → sole ds p ≡ true → tells_none p ≡ true → phase a ≡ p
  phase_of_first a b p ds fs takes alone tells = sole-is ds p (phase a) alone tells (in_line step phase rows a ds λ c. omega (arith, tally_two take a b ds fs takes a c, here a (times c ds)))

  pub phase_of_second : (a b : Name) (p : Phase) (ds fs : List Column) → flat_map columns take ≡ all_of a ds ++ all_of b fs → sole fs p ≡ true → tells_none p ≡ true → phase b ≡ p
  phase_of_second a b p ds fs takes alone tells = sole-is fs p (phase b) alone tells (in_line step phase rows b fs λ c. omega (arith, tally_two take a b ds fs takes b c, here b (times c fs)))

  -- what stays of an agent is in its line
  pub rest_in_line : (x : Name) (c : Column) → sum_by (counted x c) step.rest ≤ times c (line (phase x))
  rest_in_line x c = omega (arith, rows x c, sum_before step (counted x c))

-- ---- counts

module _ {A : Type 0} {before after take give : List A} (step : Step before after take give) where
  pub same_sum : (f : A → ℕ) → sum_by f take ≡ sum_by f give → sum_by f after ≡ sum_by f before
  same_sum f h = omega (arith, sum_before step f, sum_after step f)

  -- what is not taken is there as often as before, or more often
  pub no_fewer : (f : A → ℕ) → sum_by f take ≡ 0 → sum_by f before ≤ sum_by f after
  no_fewer f h = omega (arith, sum_before step f, sum_after step f)

-- ---- what chips tell

-- what a chip tells stays true where places, locks and reports stay
pub carry : (w v : Scene) (phase then : Name → Phase) → ((x : Name) (s : ℕ) → w.place x ≡ Whereabouts.at s → v.place x ≡ Whereabouts.at s)
    → ((x l : Name) → w.lock x ≡ Some l → v.lock x ≡ Some l) → ((x : Name) (t : ℕ) → phase x ≡ Phase.reporting t → then x ≡ Phase.reporting t)
    → (chip : Chip) → (is_of_locks chip ≡ true → (x : Name) → w.lock x ≡ v.lock x) → IsTrueOf w phase chip → IsTrueOf v then chip
carry w v phase then at lock reports (Chip.token a s) maps h = at a s h
carry w v phase then at lock reports (Chip.maker a s) maps h = at a s h
carry w v phase then at lock reports (Chip.waiter a s) maps (inl h) = inl (at a s h)
carry w v phase then at lock reports (Chip.waiter a s) maps (inr h) = inr (reports a s h)
carry w v phase then at lock reports (Chip.child b p s) maps h = (at b s h.0, at p s h.1)
carry w v phase then at lock reports (Chip.registration b s) maps h = at b s h
carry w v phase then at lock reports (Chip.ack_sent a s) maps h = at a s h
carry w v phase then at lock reports (Chip.report a t sent) maps h = (reports a t h.0, λ e. at a t (h.1 e))
carry w v phase then at lock reports (Chip.delivery b s) maps h = at b s h
carry w v phase then at lock reports (Chip.free l s) maps h = (h.0, lock h.0 l h.1, at h.0 s h.2)
carry w v phase then at lock reports (Chip.locks m) maps h = λ x. h x ∙ maps refl x
carry w v phase then at lock reports (Chip.wants b l) maps h = lock b l h
carry w v phase then at lock reports (Chip.knows b) maps h = known (w.lock b) refl h
  where
    known : (o : Option Name) → w.lock b ≡ o → is_some o ≡ true → is_some (v.lock b) ≡ true
    known None e i = absurd cc
    known (Some l) e i = ap is_some (lock b l e)
carry w v phase then at lock reports _ maps h = tt

-- what the chips given and those that stay tell
pub all_true : {before after take give : List Chip} (step : Step before after take give) (v : Scene) (then : Name → Phase) → AllByRecursion (IsTrueOf v then) give → All (IsTrueOf v then) step.rest
    → All (IsTrueOf v then) after
all_true {give = give} step v then given rest = all_after step (IsTrueOf v then) (All-from_recursion (IsTrueOf v then) give given) rest
