-- The source forks: the new atom stands under a new mark of both levels.
use Rattle.std.proofs.Common.{◌≡◌, ℕ, Some, [], ◌∷◌, refl, sym, ap, subst, ◌∙◌}
use Rattle.std.specs.Option.{option_map}
use Rattle.np_syntax.specs.declared.process.Proc.{Proc}
use Rattle.np_syntax.specs.declared.process.ProcForm.{ProcForm-F}
use Rattle.np_syntax.specs.declared.event.Event.{Event}
use Rattle.np_syntax.specs.declared.event.Kind.TheVariants as kind
use Rattle.np_calculus.specs.Begins.{begun_by}
use Rattle.np_calculus.specs.Changes.{effect, put, still}
use Rattle.np_calculus.specs.Config.{Config}
use Rattle.np_calculus.specs.Reductions.{apply, goes, row}
use Rattle.np_lift.specs.CachedLift.{stands_for}
use Rattle.np_eval.specs.Forms.{layer}
use Rattle.infrastructure_texts.specs.Infrastructures.{Infrastructure}
use Rattle.daemon_encode.specs.Translates.{Translates}
use Rattle.simulate_laws.specs.things.Shapes.{IsOfSource}
use Rattle.simulate_laws.specs.things.Things.{Thing}
use Rattle.simulate_laws.specs.levels.Coupled.{Coupled, View}
use Rattle.simulate_laws.specs.levels.Laws.{IsEvent, event_of}
use Rattle.simulate_laws.proofs.levels.Actors.{Actor, Parts, actor, parts_of}
use Rattle.simulate_laws.proofs.levels.Applies.{fork_applies}
use Rattle.simulate_laws.proofs.levels.Bodies.{first_part, goes_on, second_part}
use Rattle.simulate_laws.proofs.levels.Forks.{IsForking, forking}
use Rattle.simulate_laws.proofs.levels.Forms.{IsFormOf}
use Rattle.simulate_laws.proofs.levels.Goes.{IsSame, still_knows}
use Rattle.simulate_laws.proofs.levels.Makes.{made_both}
use Rattle.simulate_laws.proofs.levels.Stands.{new_mark}

module _ {i : Infrastructure} {n from first : ℕ} {low high : Config} {v : View} (c : Coupled i n from first low high v) (e : Event) (next : Config) (is : e.kind ≡ kind.Fork)
    (h : apply low e ≡ Some next) (s : IsForking low e next) (o : Actor c e s.atom) (p q : Proc) (form : layer o.atom.proc ≡ ProcForm-F.Par p q)
    (left : Translates i n from o.named p s.left) (right : Translates i n from o.named q s.right) where
  its : Parts c e o (ProcForm-F.Par p q)
  its = parts_of c e o (ProcForm-F.Par p q) form

  left_is : IsOfSource i n from o.named (goes o.atom p) (goes s.atom s.left)
  left_is = record { stands = goes_on s.left o.is.stands (first_part o.is.stands.source its); translates = left }

  right_is : IsOfSource i n from o.named (goes o.atom q) (goes s.atom s.right)
  right_is = record { stands = goes_on s.right o.is.stands (second_part o.is.stands.source its); translates = right }

  forks_both : IsSame c e next
  forks_both =
      let knows = still_knows c e o.knows in
      let w = made_both c e next o h s.new (goes s.atom s.right) (goes o.atom q) (Thing.source o.named (goes o.atom q)) s.is_new right_is refl refl
      (refl, refl, refl) knows (goes s.atom s.left) (goes o.atom p) left_is knows s.is in (
        effect high (event_of v e) (record still { atoms = put s.new (goes o.atom q) ∷ put (stands_for v.standing e.actor) (goes o.atom p) ∷ [] }),
        ap (λ k. row k high (event_of v e)) is ∙ fork_applies high (event_of v e) o.atom o.acts p q s.new form s.made_one
            (ap (option_map (stands_for v.standing)) s.other_none) (new_mark c e s.new s.is_new).high_new,
        w.0,
        w.1,
        w.2,
        w.3,
      )

pub forks-are-events : {i : Infrastructure} → IsEvent i kind.Fork
forks-are-events {i = i} n from first low high v c well lodged e next is plain h =
    let s = forking low e next (ap (λ k. row k low e) (sym is) ∙ h) in
    let o = actor c e lodged s.atom kind.Fork s.acts plain (ap begun_by s.form) (λ e. cc) (λ e. cc) in
    let f = subst (λ l. IsFormOf i n from o.named l (layer o.atom.proc)) s.form o.form in
    forks_both c e next is h s o f.0 f.1 f.2 f.3 f.4
