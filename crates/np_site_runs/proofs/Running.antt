-- What sites did by their holdings are steps of configurations.
use Rattle.std.proofs.Common.{◌≡◌, ◌<◌, ℕ, cond, nat_eq, List, [], ◌∷◌, ◌++◌, refl, sym, ap, subst, subst₂, ◌∙◌}
use Rattle.std.specs.List.{AllByRecursion}
use Rattle.np_calculus.specs.Config.{Config}
use Rattle.np_site_runs.specs.merged.Links.{Linked, loads, spread}
use Rattle.np_site_runs.specs.merged.Steps.{IsSpread, IsStep}
use Rattle.np_site_runs.proofs.merged.Steps.{false_eq, with-site-same}
use Rattle.std.proofs.lemmas.Bool.{eq-eqb}
use Rattle.run_merge.proofs.InOrder.{all_append}
use Rattle.np_site_runs.specs.merged.Deeds.{Deed, Leads, plain}
use Rattle.np_site_runs.specs.merged.Turns.{AreClocked, AreInTurn, Flows, GoesOn, IsAmong, IsTurn, WaitsOn, Waiting, moved, none_waits, own}
use Rattle.np_site_runs.proofs.merged.Flowing.{each_site, own-here, own-there}
use Rattle.np_site_runs.proofs.merged.Growing.{ticks-on}
use Rattle.np_site_runs.proofs.merged.Moving.{with-site-other}
use Rattle.np_site_runs.proofs.merged.Running.{begins}
use Rattle.np_site_runs.proofs.merged.Turning.{have_turns, turn_goes_on, turn_is_apart}
use Rattle.np_site_runs.specs.Holdings.{AreMade, Does, DoesAll, Holding, IsPart}
use Rattle.np_site_runs.proofs.Making.{made_in_spread}
use Rattle.np_site_runs.specs.SiteRuns.{AreHeldRuns, ArePartsOf, HeldRunGrows, HeldRunStarts, HeldRuns, HeldRunsAreRuns, by_configs}

-- ---- one event more

does-on : (start old new : Holding) (ds : List Deed) (d : Deed) → DoesAll start ds old → Does old d new → DoesAll start (ds ++ d ∷ []) new
does-on start old new [] d all does = (new, subst (λ h. Does h d new) (sym all) does, refl)
does-on start old new (e ∷ es) d all does = (all.0, all.1, does-on all.0 old new es d all.2 does)

pub held_run_starts : HeldRunStarts
held_run_starts n site start at = record { at = at; own = tt; does = refl; ticks = tt }

pub held_run_grows : HeldRunGrows
held_run_grows n site start old new ds d run next = record {
  at = run.at;
  own = all_append _ ds (d ∷ []) run.own (next.own, tt);
  does = does-on start old new ds d run.does next.does;
  ticks = ticks-on 0 ds d run.ticks next.stamps;
}

-- ---- all events, in turn

-- the holdings, with this one at a site
abbrev pub with_holding : (ℕ → Holding) → ℕ → Holding → ℕ → Holding
with_holding held s h u = cond (nat_eq u s) h (held u)

pub holding-here : (held : ℕ → Holding) (s : ℕ) (h : Holding) → with_holding held s h s ≡ h
holding-here held s h = rw (eq-eqb s s refl) refl

pub holding-there : (held : ℕ → Holding) (s : ℕ) (h : Holding) (u : ℕ) → (u ≡ s → ⊥) → with_holding held s h u ≡ held u
holding-there held s h u apart = rw (false_eq u s apart) refl

-- what holds of sites and links when these events are still to come
pub record IsHeld (n : ℕ) (ds : List Deed) (held end : ℕ → Holding) (g : Linked) (w rest : Waiting) (c : Config) : Type 0 where
  pub sites : (s : ℕ) → (held s).site ≡ s
  pub parts : ArePartsOf held g.here
  pub does : (s : ℕ) → DoesAll (held s) (own s ds) (end s)
  pub spread : IsSpread n (spread n g) c
  pub waits : WaitsOn n g.link w
  pub among : AllByRecursion (IsAmong n) ds
  pub flow : Flows w ds rest

is_made : (n : ℕ) (g : Linked) (c : Config) (s : ℕ) (h : Holding) → s < n → h.site ≡ s → IsPart h (g.here s) → IsSpread n (spread n g) c → AreMade h
is_made n g c s h less at part shows = made_in_spread n (spread n g) c h shows (subst (λ u. u < n) (sym at) less) (subst (λ u. IsPart h (g.here u)) (sym at) part)

-- the first of them is done
pub record IsTaken (n : ℕ) (d : Deed) (ds : List Deed) (held end : ℕ → Holding) (g : Linked) (w rest : Waiting) (c : Config) : Type 0 where
  pub then : Holding
  pub does : Does (held d.event.event.site) d then
  pub now : Config
  pub part : IsPart then now
  pub step : IsStep d.event.event (g.here d.event.event.site) (loads (plain d.taken)) now (loads (plain d.put))
  pub on : GoesOn n g c w d now
  pub more : IsHeld n ds (with_holding held d.event.event.site then) end on.next (moved w d) rest on.after

pub take_turn : (n : ℕ) (d : Deed) (ds : List Deed) (held end : ℕ → Holding) (g : Linked) (w rest : Waiting) (c : Config) → IsHeld n (d ∷ ds) held end g w rest c
    → IsTaken n d ds held end g w rest c
take_turn n d ds held end g w rest c is =
    let turn : IsTurn n g c w d = record { spread = is.spread; waits = is.waits; among = is.among.0; first = is.flow.0 } in
    let free = turn_is_apart n g c w d turn in
    let run = subst (λ es. DoesAll (held d.event.event.site) es (end d.event.event.site)) (own-here d.event.event.site d ds refl)
    (is.does d.event.event.site) in
    let made_there = is_made n g c d.event.event.site (held d.event.event.site) is.among.0.at (is.sites d.event.event.site) (is.parts d.event.event.site) is.spread in
    let made = run.1.1 made_there (g.here d.event.event.site) (is.parts d.event.event.site) free.items free.apart in
    let on = turn_goes_on n g c w d made.0 turn made.2 in
    let here_now : on.next.here d.event.event.site ≡ made.0 = on.here d.event.event.site ∙ with-site-same d.event.event.site g.here made.0 in
    let there_now : (u : ℕ) → (u ≡ d.event.event.site → ⊥) → on.next.here u ≡ g.here u = λ u apart. on.here u
    ∙ with-site-other g.here d.event.event.site u made.0 apart in
    record {
      then = run.0;
      does = run.1;
      now = made.0;
      part = made.1;
      step = made.2;
      on = on;
      more = record {
        sites = each_site (λ u. (with_holding held d.event.event.site run.0 u).site ≡ u) d.event.event.site
            (ap (λ (h : Holding). h.site) (holding-here held d.event.event.site run.0) ∙ run.1.0 ∙ is.sites d.event.event.site)
            (λ u apart. ap (λ (h : Holding). h.site) (holding-there held d.event.event.site run.0 u apart) ∙ is.sites u);
        parts = each_site (λ u. IsPart (with_holding held d.event.event.site run.0 u) (on.next.here u)) d.event.event.site
            (subst₂ IsPart (sym (holding-here held d.event.event.site run.0)) (sym here_now) made.1)
            (λ u apart. subst₂ IsPart (sym (holding-there held d.event.event.site run.0 u apart)) (sym (there_now u apart)) (is.parts u));
        does = each_site (λ u. DoesAll (with_holding held d.event.event.site run.0 u) (own u ds) (end u)) d.event.event.site
            (subst (λ h. DoesAll h (own d.event.event.site ds) (end d.event.event.site)) (sym (holding-here held d.event.event.site run.0)) run.2)
            (λ u apart.
            subst (λ h. DoesAll h (own u ds) (end u)) (sym (holding-there held d.event.event.site run.0 u apart))
            (subst (λ es. DoesAll (held u) es (end u)) (own-there d.event.event.site d ds refl u apart) (is.does u)));
        spread = on.spread;
        waits = on.waits;
        among = is.among.1;
        flow = is.flow.1;
      };
    }

lead : (n : ℕ) (ds : List Deed) (held end : ℕ → Holding) (g : Linked) (w rest : Waiting) (c : Config) → IsHeld n ds held end g w rest c
    → (last : ℕ → Config) × ArePartsOf end last × ((s : ℕ) → Leads (g.here s) (own s ds) (last s))
lead n [] held end g w rest c is = (g.here, λ s. subst (λ h. IsPart h (g.here s)) (is.does s) (is.parts s), λ s. refl)
lead n (d ∷ ds) held end g w rest c is =
    let t = take_turn n d ds held end g w rest c is in
    let here_now : t.on.next.here d.event.event.site ≡ t.now = t.on.here d.event.event.site ∙ with-site-same d.event.event.site g.here t.now in
    let there_now : (u : ℕ) → (u ≡ d.event.event.site → ⊥) → t.on.next.here u ≡ g.here u = λ u apart. t.on.here u
    ∙ with-site-other g.here d.event.event.site u t.now apart in
    let more = lead n ds (with_holding held d.event.event.site t.then) end t.on.next (moved w d) rest t.on.after t.more in (
      more.0,
      more.1,
      each_site (λ u. Leads (g.here u) (own u (d ∷ ds)) (more.0 u)) d.event.event.site
          (subst (λ es. Leads (g.here d.event.event.site) es (more.0 d.event.event.site)) (sym (own-here d.event.event.site d ds refl))
          (t.now, t.step, subst (λ l. Leads l (own d.event.event.site ds) (more.0 d.event.event.site)) here_now (more.2 d.event.event.site)))
          (λ u apart.
          subst (λ es. Leads (g.here u) es (more.0 u)) (sym (own-there d.event.event.site d ds refl u apart))
          (subst (λ l. Leads l (own u ds) (more.0 u)) (there_now u apart) (more.2 u))),
    )

pub is_held : (n : ℕ) (r : HeldRuns) (ds : List Deed) (here : ℕ → Config) (c : Config) → AreHeldRuns n r → AreInTurn n r.deeds r.rest ds → ArePartsOf r.start here
    → IsSpread n (record { here = here; air = [] }) c → IsHeld n ds r.start r.end (record { here = here; link = λ u v. [] }) none_waits r.rest c
is_held n r ds here c runs turns parts shows = record {
  sites = λ s. (runs.each s).at;
  parts = parts;
  does = λ s. subst (λ ds. DoesAll (r.start s) ds (r.end s)) (sym (turns.each s)) (runs.each s).does;
  spread = begins n (by_configs r here here) c shows;
  waits = record { shows = λ u v. refl; none = λ u v above. refl };
  among = turns.among;
  flow = turns.flow;
}

pub clocked : (n : ℕ) (r : HeldRuns) → AreHeldRuns n r → AreClocked n r.deeds r.rest
clocked n r runs = record { own = λ s. (runs.each s).own; ticks = λ s. (runs.each s).ticks; others = runs.others; links = runs.links }

pub held_runs_are_runs : HeldRunsAreRuns
held_runs_are_runs n r here c runs parts shows =
    let turns = have_turns n r.deeds r.rest (clocked n r runs) in
    let all = lead n turns.0 r.start r.end (record { here = here; link = λ u v. [] }) none_waits r.rest c (is_held n r turns.0 here c runs turns.1 parts shows) in (
      all.0,
      all.1,
      record {
        each = λ s. record {
          own = (runs.each s).own;
          leads = subst (λ ds. Leads (here s) ds (all.0 s)) (turns.1.each s) (all.2 s);
          ticks = (runs.each s).ticks;
        };
        others = runs.others;
        links = runs.links;
      },
    )
