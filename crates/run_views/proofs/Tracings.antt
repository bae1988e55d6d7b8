-- The causes of the first events of a run, one event after another.
use Rattle.std.proofs.Common.{◌≡◌, ◌↔◌, ◌⊎◌, inl, inr, ⊎_elim, ℕ, zero, suc, ◌+◌, ◌<◌, List, [], ◌∷◌, ◌++◌, length, take, get_or, slice_get, Some, refl, ap, sym, subst, ◌∙◌, arith, add-one}
use Rattle.std.proofs.lemmas.List.{length_push}
use Rattle.std.specs.FinMap as map
use Rattle.np_syntax.specs.declared.event.Event.{Event}
use Rattle.np_syntax.proofs.Options.{done, then}
use Rattle.np_calculus.specs.Config.{Config}
use Rattle.np_calculus.specs.Footprints.{Footprint, touches}
use Rattle.np_calculus.specs.Reductions.{apply, run}
use Rattle.np_calculus.specs.Sight.{inside}
use Rattle.run_views.specs.Index.{Index, IsIndex, IsOneOf}
use Rattle.run_views.specs.Past.{IsCause, Trace, each_of, trace, trace_at, traces, writes}
use Rattle.run_views.proofs.Indexing.{cause-found, found-cause, index-empty, index-noting}
use Rattle.run_views.proofs.Parts.{goes-on}
use Rattle.run_views.specs.declared.causing.Causes.{Causes}
use Rattle.run_views.specs.Causes.{AreCauses, IsTraced, places_of}

pub trace-here : (c d : Config) (es : List Event) (j : ℕ) (e : Event) → run c (take j es) ≡ Some d → j < length es → trace_at (traces c es) j ≡ trace (inside d) (get_or es j e)
trace-here c d [] j e h less = absurd (omega arith)
trace-here c d (f ∷ es) zero e h less = ap (λ c. trace (inside c) f) (sym (done h))
trace-here c d (f ∷ es) (suc j) e h less = then (apply c f) _ h λ next first h.
    ap (λ o. trace_at (trace (inside c) f ∷ each_of o (λ d. traces d es)) (suc j)) first ∙ trace-here next d es j e h (omega arith)

push-cases : {X : Type 0} (xs : List X) (x : X) (m : ℕ) (d : X) → slice_get (xs ++ x ∷ []) m ≡ Some d → (slice_get xs m ≡ Some d) ⊎ ((m ≡ length xs) × (x ≡ d))
push-cases [] x zero d h = inr (refl, cc)
push-cases [] x (suc m) d h = absurd cc
push-cases (y ∷ ys) x zero d h = inl h
push-cases (y ∷ ys) x (suc m) d h = ⊎_elim (λ there. inl there) (λ here. inr (ap suc here.0, here.1)) (push-cases ys x m d h)

more-causes : (ts : List Trace) (j : ℕ) (found : List Causes) (c : Causes) → AreCauses ts j found → ((k : ℕ) → IsOneOf k (places_of c) ↔ IsCause ts k j) → AreCauses ts (j + 1) (found ++ c ∷ [])
more-causes ts j found c a h = record {
  count = length_push found c ∙ ap (λ n. n + 1) a.count;
  each = λ m d is k. ⊎_elim
      (λ there. a.each m d there k)
      (λ here. subst (λ m. IsOneOf k (places_of d) ↔ IsCause ts k m) (sym (here.0 ∙ a.count)) (subst (λ d. IsOneOf k (places_of d) ↔ IsCause ts k j) here.1 (h k)))
      (push-cases found c m d is);
}

-- what is known of the first events of a run
pub record IsFollowed (start : Config) (events : List Event) (j : ℕ) (c : Config) (x : Index) (found : List Causes) : Type 0 where
  pub reaches : run start (take j events) ≡ Some c
  pub index : IsIndex (traces start events) j x
  pub causes : AreCauses (traces start events) j found

pub followed-start : (start : Config) (events : List Event) (x : Index) (found : List Causes) → x ≡ record { marks = map.empty; places = map.empty } → found ≡ [] → IsFollowed start events 0 start x found
followed-start start events x found empty none = record {
  reaches = refl;
  index = subst (IsIndex (traces start events) 0) (sym empty) (index-empty (traces start events));
  causes = subst (AreCauses (traces start events) 0) (sym none) (record { count = refl; each = λ j c is. absurd cc });
}

pub follows-on : (start : Config) (events : List Event) (j : ℕ) (c d : Config) (x y : Index) (found : List Causes) (z : Event) (more : Causes) → j < length events
    → IsFollowed start events j c x found → IsTraced c d x y j (get_or events j z) more → IsFollowed start events (j + 1) d y (found ++ more ∷ [])
follows-on start events j c d x y found z more below h t =
    let ts : List Trace = traces start events in
    let e : Event = get_or events j z in
    let here : trace_at ts j ≡ trace (inside c) e = trace-here start c events j z h.reaches below in
    let f : Footprint = touches e.kind (inside c) e in
    let touched : (trace_at ts j).touched ≡ f = ap (λ (t : Trace). t.touched) here in
    let written : (trace_at ts j).written ≡ writes e.kind (inside c) e = ap (λ (t : Trace). t.written) here in
    let kept : IsIndex ts (suc j) y = subst (IsIndex ts (suc j)) (sym t.noted) (index-noting ts j x (writes e.kind (inside c) e) written h.index) in
    record {
      reaches = goes-on start events j z c below h.reaches d t.applies;
      index = subst (λ n. IsIndex ts n y) (sym (add-one j)) kept;
      causes = more-causes ts j found more h.causes (λ k. (λ one. cause-found ts j x h.index f touched k ((t.found k).0 one), λ cause. (t.found k).1 (found-cause ts j x h.index f touched k cause)));
    }
