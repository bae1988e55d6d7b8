-- No run of the low program of an accepted source meets a value of a wrong type, or makes a post as the high level does.
use Rattle.std.proofs.Common.{◌≡◌, true, false, List, [], Some, refl, sym, subst, ◌∙◌, append-nil}
use Rattle.np_syntax.specs.declared.event.Event.{Event}
use Rattle.np_syntax.specs.declared.event.Kind.{Kind}
use Rattle.np_syntax.specs.declared.event.Kind.TheVariants as kind
use Rattle.np_syntax.specs.declared.process.Role.{Role}
use Rattle.np_syntax.specs.declared.process.Role.TheVariants as role
use Rattle.np_syntax.specs.declared.program.LowProgram.{LowProgram}
use Rattle.np_syntax.specs.declared.program.Program.{Program}
use Rattle.np_syntax.proofs.Options.{some_is}
use Rattle.np_calculus.specs.Config.{Config}
use Rattle.np_calculus.specs.Reductions.{run}
use Rattle.np_calculus.specs.Runs.{RunsWell}
use Rattle.np_calculus.specs.Starts.{start_low}
use Rattle.np_calculus.specs.Well.{Well}
use Rattle.np_check.specs.Faults.{IsAccepted}
use Rattle.infrastructure_texts.specs.Infrastructures.{Infrastructure as Encoding}
use Rattle.daemon_encode.specs.Encoded.{encoded}
use Rattle.daemon_encode.specs.Translates.{EncodesItself, IsLowOf}
use Rattle.daemon_encode.specs.Typed.{EncodesRunsWell}
use Rattle.cache_encode.specs.Encoded.{encoded_cached}
use Rattle.cache_encode.specs.Related.{CachedEncodesItself}
use Rattle.cache_encode.specs.Typed.{CachedRunsWell}
use Rattle.simulate_laws.specs.levels.Laws.{RolesOfEvents}
use Rattle.simulate_laws.specs.levels.Roles.{may_occur}
use Rattle.simulate_laws.specs.simulation.Laws.{RunsAreLifted}
use Rattle.np_words.specs.declared.modes.Infrastructure.TheVariants.{Cache, Central}
use Rattle.site_crew.specs.Runs.{NoPosts, RunsSafely}
use Rattle.np_on_sites.specs.Safe.{LowRunsSafely}

-- no event of the low level is a post, whatever its role
no-post : (i : Encoding) (r : Role) → may_occur i r kind.Post ≡ false
no-post Encoding.central role.Plain = refl
no-post Encoding.central role.Post = refl
no-post Encoding.central role.Infra = refl
no-post Encoding.cached role.Plain = refl
no-post Encoding.cached role.Post = refl
no-post Encoding.cached role.Infra = refl

well-there : (q : LowProgram) → RunsWell (start_low q) q.at → (events : List Event) (c : Config) → run (start_low q) events ≡ Some c → Well c
well-there q runs events c h =
    let last = (runs.well events c h).each events [] (sym (append-nil events)) in
    subst Well (some_is (run (start_low q) events) last.0 c last.1 h) last.2

module _ (i : Encoding) (p : Program) (q : LowProgram) (low : IsLowOf i p q) (accepted : IsAccepted p) where
  no-posts : RolesOfEvents i → RunsAreLifted i → (events : List Event) (c : Config) → run (start_low q) events ≡ Some c → NoPosts c
  no-posts roles lifted events c h e d applies is =
      let above = lifted p q low accepted events c h in
      let may : may_occur i e.tag.role e.kind ≡ true = roles _ _ low.first c above.high above.view above.coupled e d applies in
      let post : may_occur i e.tag.role kind.Post ≡ true = subst (λ (k : Kind). may_occur i e.tag.role k ≡ true) is may in
      let none : false ≡ true = sym (no-post i e.tag.role) ∙ post in absurd cc

  safely : RunsWell (start_low q) q.at → RolesOfEvents i → RunsAreLifted i → RunsSafely q
  safely runs roles lifted = record { well = well-there q runs; posts = no-posts roles lifted }

pub low_runs_safely : EncodesItself → CachedEncodesItself → EncodesRunsWell → CachedRunsWell → ((i : Encoding) → RolesOfEvents i) → ((i : Encoding) → RunsAreLifted i) → LowRunsSafely
low_runs_safely itself cached well cached_well roles lifted Central p q accepted is =
    subst RunsSafely (sym is) (safely Encoding.central p (encoded p) (itself p) accepted (well p accepted) (roles Encoding.central) (lifted Encoding.central))
low_runs_safely itself cached well cached_well roles lifted Cache p q accepted is =
    subst RunsSafely (sym is) (safely Encoding.cached p (encoded_cached p) (cached p) accepted (cached_well p accepted) (roles Encoding.cached) (lifted Encoding.cached))
