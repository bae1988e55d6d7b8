-- Along each run of the low level each atom's agent has a place.
use Rattle.std.proofs.Common.{◌≡◌, Bool, true, false, cond, Some, IsSome, List, [], ◌∷◌, length, refl, sym, ap, subst, ◌∙◌}
use Rattle.std.specs.FinMap as map
use Rattle.np_syntax.specs.declared.value.Name.{Name}
use Rattle.np_syntax.specs.declared.event.Event.{Event}
use Rattle.np_syntax.specs.declared.event.Kind.TheVariants as kind
use Rattle.np_syntax.specs.declared.process.Role.{Role}
use Rattle.np_syntax.specs.declared.process.Role.TheVariants as role
use Rattle.np_syntax.specs.declared.program.LowProgram.{LowProgram}
use Rattle.np_syntax.proofs.Options.{done}
use Rattle.np_tables.specs.Names.{NameMap, same_name}
use Rattle.np_tables.proofs.Tables.{get-none, get-put, put_here}
use Rattle.np_calculus.specs.declared.config.Atom.{Atom}
use Rattle.np_calculus.specs.declared.config.Place.{Place}
use Rattle.np_calculus.specs.declared.config.Place.TheVariants as place
use Rattle.np_calculus.specs.Changes.{put}
use Rattle.np_calculus.specs.Config.{Config}
use Rattle.np_calculus.specs.Parts.{IsLodged}
use Rattle.np_calculus.specs.Reductions.{run}
use Rattle.np_calculus.specs.Sight.{inside}
unfoldable use Rattle.np_calculus.specs.Starts.{start_low}
use Rattle.np_calculus.specs.Starts.{daemon_agent, daemon_mark, first_atom, main_agent, main_mark}
use Rattle.np_calculus.proofs.FrameRule.{keeps_lodged}
use Rattle.np_calculus.proofs.Writes.{each-written}
use Rattle.infrastructure_texts.specs.Infrastructures.{Infrastructure}
use Rattle.simulate_laws.specs.levels.Coupled.{View}
use Rattle.simulate_laws.specs.levels.Roles.{may_occur}
use Rattle.simulate_laws.specs.simulation.Laws.{RunsAreLodged}
use Rattle.simulate_laws.proofs.simulation.Runs.{from-starts}
use Rattle.simulate_laws.proofs.simulation.Steps.{runs-on}

-- main and the daemon stand somewhere at the start
there : (places : NameMap Place) (a : Name) (s : Place) → IsSome (map.get (map.insert places a s) a)
there places a s = subst IsSome (sym (put_here places a s)) refl

still-there : (places : NameMap Place) (a b : Name) (s : Place) → IsSome (map.get places a) → IsSome (map.get (map.insert places b s) a)
still-there places a b s h = subst IsSome (sym (get-put places b s a)) (go (same_name a b))
  where
    go : (t : Bool) → IsSome (cond t (Some s) (map.get places a))
    go true = refl
    go false = h

start-lodged : (q : LowProgram) → IsLodged (inside (start_low q))
unfolding start_low
start-lodged q =
    let n = length q.sites in
    let with_main : NameMap Place = map.insert map.empty (main_agent n) (place.At q.at) in
    record {
      each = each-written (λ (a : Atom). IsSome (map.get (start_low q).places a.agent))
          (put (main_mark n) (first_atom (main_agent n) q.main) ∷ put (daemon_mark n) (first_atom (daemon_agent n) q.daemon) ∷ []) map.empty (
            still-there with_main (main_agent n) (daemon_agent n) (place.At 0) (there map.empty (main_agent n) (place.At q.at)),
            (there with_main (daemon_agent n) (place.At 0), tt),
          )
          (λ m a h. absurd (let bad = sym (get-none m) ∙ h in cc));
    }

-- the low level has no event Post, the one kind that may put an atom where its agent is not
pub no-post : (i : Infrastructure) (r : Role) → may_occur i r kind.Post ≡ true → ⊥
no-post Infrastructure.central role.Infra h = cc
no-post Infrastructure.central role.Post h = cc
no-post Infrastructure.central role.Plain h = cc
no-post Infrastructure.cached role.Infra h = cc
no-post Infrastructure.cached role.Post h = cc
no-post Infrastructure.cached role.Plain h = cc

abbrev KeepsLodged : Config → View → List Event → View → Type 0
KeepsLodged low v es w = (c : Config) → IsLodged (inside low) → run low es ≡ Some c → IsLodged (inside c)

pub runs-are-lodged : {i : Infrastructure} → RunsAreLodged i
runs-are-lodged {i} p q low accepted events c h =
    (from-starts p q low accepted events c h KeepsLodged (record {
      none = λ d v c lodged h. subst (λ c. IsLodged (inside c)) (sym (done h)) lodged;
      more = λ low next v u w e es step keeps c lodged h.
          let kept = keeps_lodged low next e (λ is. no-post i e.tag.role (ap (may_occur i e.tag.role) (sym is) ∙ step.may)) lodged step.applies in
          keeps c kept (sym (runs-on low next e es step.applies) ∙ h);
    })).4 c (start-lodged q) h
