-- The events of many sites have an order in which each takes what waits first; and when an event's turn comes, what it takes
-- is apart from what its site has.
use Rattle.std.proofs.Common.{◌≡◌, ◌≢◌, ◌<◌, ⊎_elim, ℕ, zero, suc, true, List, [], ◌∷◌, ◌++◌, count_by, length, map, Option, None, Some, refl, sym, subst, ◌∙◌, arith}
use Rattle.std.specs.List.{AllByRecursion}
use Rattle.np_syntax.specs.declared.value.Value.{Value}
use Rattle.np_syntax.specs.declared.value.Value.TheVariants as value
use Rattle.np_syntax.specs.Reordering.{Reordered}
use Rattle.np_calculus.proofs.Common.{Config, Contents, inside, apply, ◌>>=◌}
use Rattle.np_calculus.specs.FrameRule.{Every}
use Rattle.np_calculus.specs.Parts.{IsApart}
use Rattle.np_calculus.specs.Reductions.{run}
use Rattle.np_calculus.specs.Starts.{names_alone}
use Rattle.np_site_runs.specs.merged.Joined.{together}
use Rattle.np_site_runs.specs.merged.Links.{Linked, air, loads}
use Rattle.np_site_runs.specs.merged.Steps.{IsItem, IsStep, sites, with_site}
use Rattle.np_site_runs.proofs.merged.Joined.{apart-first, apart-halves, divide_apart, reorder-apart, reorder-every, together-append}
use Rattle.np_site_runs.proofs.merged.Links.{merged_run, took as air_took}
use Rattle.np_site_runs.proofs.merged.Steps.{with-site-same}
use Rattle.stamp_history.specs.Histories.{IsHistory, Recorded, is_print}
use Rattle.run_merge.specs.Laws.{HaveOwnSites}
use Rattle.run_merge.proofs.InOrder.{all_weaker}
use Rattle.np_site_runs.specs.merged.Deeds.{Deed, Leads, SiteRuns, plain}
use Rattle.np_site_runs.specs.merged.StampedLaws.{AreRecorded}
use Rattle.np_site_runs.specs.merged.Turns.{AreClocked, HaveTurns, TurnGoesOn, TurnIsApart, Waiting, moved, own}
use Rattle.np_site_runs.proofs.merged.Elements.{last-or_before}
use Rattle.np_site_runs.proofs.merged.Flowing.{each_site, own-here, own-there}
use Rattle.np_site_runs.proofs.merged.Growing.{events-rise}
use Rattle.np_site_runs.proofs.merged.Merging.{in_turn}
use Rattle.np_site_runs.proofs.merged.Moving.{below_or_not, move_of, moves_on, took, with-site-other}
use Rattle.np_site_runs.proofs.merged.Running.{are_in_turn}

-- ---- histories with these events

abbrev some_values : ℕ → List Value
some_values zero = []
some_values (suc k) = value.Truth true ∷ some_values k

length-some_values : (k : ℕ) → length (some_values k) ≡ k
length-some_values zero = refl
length-some_values (suc k) = let more = length-some_values k in omega arith

abbrev history_of : (ℕ → List Deed) → ℕ → Recorded
history_of deeds s =
    let es = map (λ d. d.event) (deeds s) in
    record { site = s; budget = length es; events = es; said = some_values (count_by is_print es) }

abbrev histories_below : ℕ → (ℕ → List Deed) → List Recorded
histories_below zero deeds = []
histories_below (suc k) deeds = history_of deeds k ∷ histories_below k deeds

module _ (n : ℕ) (deeds : ℕ → List Deed) (rest : Waiting) (are : AreClocked n deeds rest) where
  is_history : (s : ℕ) → IsHistory (history_of deeds s)
  is_history s = record {
    within = omega arith;
    rising = events-rise 0 (deeds s) (are.ticks s);
    one_each = length-some_values (count_by is_print (map (λ d. d.event) (deeds s)));
  }

  all-below : (k : ℕ) → AllByRecursion (λ h. h.site < k) (histories_below k deeds)
  all-below zero = tt
  all-below (suc k) = (
    omega arith,
    all_weaker (λ (h : Recorded). h.site < k) (λ h. h.site < suc k) (λ h less. omega arith) (histories_below k deeds)
        (all-below k),
  )

  own-sites : (k : ℕ) → HaveOwnSites (histories_below k deeds)
  own-sites zero = tt
  own-sites (suc k) = (
    all_weaker (λ (h : Recorded). h.site < k) (λ h. h.site ≢ k) (λ h less same. omega arith) (histories_below k deeds)
        (all-below k),
    own-sites k,
  )

  all-histories : (k : ℕ) → AllByRecursion IsHistory (histories_below k deeds)
  all-histories zero = tt
  all-histories (suc k) = (is_history k, all-histories k)

  their-events : (k : ℕ) → AllByRecursion (λ h. h.events ≡ map (λ d. d.event) (deeds h.site)) (histories_below k deeds)
  their-events zero = tt
  their-events (suc k) = (refl, their-events k)

  one-of-them : (k s : ℕ) → s < k → AllByRecursion (λ h. h.site ≢ s) (histories_below k deeds) → ⊥
  one-of-them zero s less none = absurd (omega arith)
  one-of-them (suc k) s less none = ⊎_elim (λ same. none.0 (sym same)) (λ lower. one-of-them k s lower none.1) (last-or_before s k less)

  abbrev runs_of : SiteRuns
  runs_of = record { start = λ s. names_alone 0; deeds = deeds; end = λ s. names_alone 0; rest = rest }

  are_recorded : AreRecorded (histories_below n deeds) runs_of
  are_recorded = record {
    histories = record { each = all-histories n; sites = own-sites n };
    events = their-events n;
    others = λ s none. ⊎_elim (λ less. absurd (one-of-them n s less none)) (λ above. are.others s above) (below_or_not s n);
  }

pub have_turns : HaveTurns
have_turns n deeds rest are =
    (in_turn deeds (histories_below n deeds), are_in_turn n (runs_of n deeds rest are) (histories_below n deeds) are (are_recorded n deeds rest are))

-- ---- what is taken

every_first : {A : Type 0} (P : A → Type 0) (xs ys : List A) → Every P (xs ++ ys) → Every P xs
every_first P [] ys all = tt
every_first P (x ∷ xs) ys all = (all.0, every_first P xs ys all.1)

-- what is apart from all sites is from each
site-apart : (n s : ℕ) (here : ℕ → Config) (y : Contents) → s < n → IsApart (together (sites n here)) y → IsApart (inside (here s)) y
site-apart zero s here y less far = absurd (omega arith)
site-apart (suc n) s here y less far =
    let halves = apart-halves (inside (here n)) (together (sites n here)) y far in
    ⊎_elim (λ same. subst (λ u. IsApart (inside (here u)) y) (sym same) halves.0) (λ lower. site-apart n s here y lower halves.1) (last-or_before s n less)

pub turn_is_apart : TurnIsApart
turn_is_apart n g c w d turn =
    let t = took n d.event.event.site d.taken g.link w turn.waits.shows turn.waits.none turn.first in
    let order : Reordered (air n g.link) (loads (plain d.taken) ++ air n t.0) = air_took n d.event.event.site g.link t.0 (plain d.taken) turn.among.at t.1 in
    let parted = divide_apart (sites n g.here) (air n g.link) turn.spread.joined.apart in
    let taken = reorder-apart order parted.1 in
    let free = divide_apart (loads (plain d.taken)) (air n t.0) taken.1 in
    let far : IsApart (inside (g.here d.event.event.site)) (together (air n g.link)) =
    site-apart n d.event.event.site g.here (together (air n g.link)) turn.among.at parted.2 in
    record {
      items = every_first IsItem (loads (plain d.taken)) (air n t.0) (reorder-every IsItem order turn.spread.items);
      apart = (
        apart-first (inside (g.here d.event.event.site)) (together (loads (plain d.taken))) (together (air n t.0))
            (subst (IsApart (inside (g.here d.event.event.site))) (taken.0 ∙ together-append (loads (plain d.taken)) (air n t.0)) far),
        free.0,
      );
    }

-- ---- one event

module _ (n : ℕ) (g : Linked) (w : Waiting) (d : Deed) (now : Config)
    (step : IsStep d.event.event (g.here d.event.event.site) (loads (plain d.taken)) now (loads (plain d.put))) where
  abbrev here_then : ℕ → Config
  here_then = with_site g.here d.event.event.site now

  leads-then : (u : ℕ) → Leads (g.here u) (own u (d ∷ [])) (here_then u)
  leads-then = each_site (λ u. Leads (g.here u) (own u (d ∷ [])) (here_then u)) d.event.event.site
      (subst (λ es. Leads (g.here d.event.event.site) es (here_then d.event.event.site)) (sym (own-here d.event.event.site d [] refl))
      (now, step, sym (with-site-same d.event.event.site g.here now)))
      (λ u apart.
      subst (λ es. Leads (g.here u) es (here_then u)) (sym (own-there d.event.event.site d [] refl u apart))
      (sym (with-site-other g.here d.event.event.site u now apart)))

only-one : (o : Option Config) (x : Config) → (o >>= λ y. run y []) ≡ Some x → o ≡ Some x
only-one None x h = absurd cc
only-one (Some y) x h = h

pub turn_goes_on : TurnGoesOn
turn_goes_on n g c w d now turn step =
    let on = moves_on n d [] g (here_then n g w d now step) w (moved w d) (record {
      among = (turn.among, tt);
      leads = leads-then n g w d now step;
      shows = turn.waits.shows;
      none = turn.waits.none;
      flow = (turn.first, λ u v. refl);
    }) in
    let one = merged_run n (move_of d ∷ []) g on.next c turn.spread (on.next, on.move, refl) in
    record {
      next = on.next;
      here = on.fits.leads;
      waits = record { shows = on.fits.shows; none = on.fits.none };
      after = one.0;
      applies = only-one (apply c d.event.event) one.0 one.1;
      spread = one.2;
    }
