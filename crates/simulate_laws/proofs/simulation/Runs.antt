-- Each run of the low level is a run of the high level, event by event.
use Rattle.std.proofs.Common.{◌≡◌, ℕ, true, Some, List, [], ◌∷◌, ◌++◌, length, refl, sym, ap, subst, ◌∙◌}
use Rattle.np_syntax.specs.declared.event.Event.{Event}
use Rattle.np_syntax.specs.declared.program.Program.{Program}
use Rattle.np_syntax.specs.declared.program.LowProgram.{LowProgram}
use Rattle.np_syntax.proofs.Options.{then, done}
use Rattle.np_calculus.specs.Config.{Config}
use Rattle.np_calculus.specs.Reductions.{apply, run}
use Rattle.np_calculus.specs.Starts.{start_high, start_low}
use Rattle.np_calculus.specs.Well.{Well}
use Rattle.np_calculus.specs.Parts.{IsLodged}
use Rattle.np_calculus.specs.Sight.{inside}
use Rattle.np_lift.specs.Posts.{prepended}
use Rattle.np_lift.specs.CachedLift.{Standing, at_first, lift_from, lifted, standing_after}
use Rattle.np_check.specs.Faults.{IsAccepted}
use Rattle.infrastructure_texts.specs.Infrastructures.{Infrastructure}
use Rattle.daemon_encode.specs.Translates.{IsLowOf}
use Rattle.np_safety.proofs.Starts.{runs-well, well-typed}
use Rattle.simulate_laws.specs.levels.Coupled.{Coupled, View}
use Rattle.simulate_laws.specs.levels.Letters.{NoLetters}
use Rattle.simulate_laws.specs.levels.Roles.{may_occur}
use Rattle.simulate_laws.proofs.levels.Roles.{roles-of-events}
use Rattle.simulate_laws.proofs.levels.Starts.{starts-coupled}
use Rattle.simulate_laws.specs.simulation.Laws.{IsLifted, LeadsAbove, RunsAreLifted}
use Rattle.simulate_laws.specs.simulation.Letters.{LettersLeft}
use Rattle.simulate_laws.proofs.simulation.Agents.{AgentsStand, agents-at_first}
use Rattle.simulate_laws.proofs.simulation.Steps.{step}

-- an event between two configurations of the low level, each of which belongs to one of the high level
pub record IsStep (i : Infrastructure) (n from first : ℕ) (low next : Config) (v u : View) (e : Event) : Type 0 where
  pub high : Config
  pub then : Config
  pub before : Coupled i n from first low high v
  pub after : Coupled i n from first next then u
  pub applies : apply low e ≡ Some next
  pub may : may_occur i e.tag.role e.kind ≡ true
  -- what marks stand for afterwards, and the letters under way
  pub stand : u.standing ≡ (lifted v.standing e).standing
  pub letters : LettersLeft e.kind e.tag.role low next then e v u

-- what a run makes, event by event
pub record Follows (i : Infrastructure) (n from first : ℕ) (Made : Config → View → List Event → View → Type 0) : Type 0 where
  pub none : (low : Config) (v : View) → Made low v [] v
  pub more : (low next : Config) (v u w : View) (e : Event) (es : List Event) → IsStep i n from first low next v u e → Made next u es w → Made low v (e ∷ es) w

module _ (i : Infrastructure) (n from first : ℕ) (Made : Config → View → List Event → View → Type 0) (follows : Follows i n from first Made) where
  pub along : (events : List Event) (low high : Config) (v : View) → Coupled i n from first low high v → (s : Standing) → v.standing ≡ s → AgentsStand low v.standing
      → ((hs : List Event) (d : Config) → run high hs ≡ Some d → Well d × IsLodged (inside d)) → (c : Config) → run low events ≡ Some c
      → (l : LeadsAbove i n from first high (lift_from s events) (standing_after s events) c) × Made low v events l.view
  along [] low high v coupled s stand agents well c h = (
    record {
      high = high;
      runs = refl;
      said = ap (λ (d : Config). d.said) (done h) ∙ coupled.said;
      view = v;
      coupled = subst (λ d. Coupled i n from first d high v) (sym (done h)) coupled;
      stand = stand;
    },
    follows.none low v,
  )
  along (e ∷ es) low high v coupled s stand agents well c h =
      then (apply low e) _ h λ next applies rest.
      let x = step coupled agents (well [] high refl).0 (well [] high refl).1 e next applies in
      let runs : (hs : List Event) → run high (prepended (lifted s e).event hs) ≡ run x.then hs =
      λ hs. ap (λ s. run high (prepended (lifted s e).event hs)) (sym stand) ∙ x.runs hs in
      let l = along es next x.then x.view x.coupled (lifted s e).standing (x.stand ∙ ap (λ s. (lifted s e).standing) stand) x.agents
      (λ hs d r. well (prepended (lifted s e).event hs) d (runs hs ∙ r)) c rest in (
        record {
          high = l.0.high;
          runs = runs (lift_from (lifted s e).standing es) ∙ l.0.runs;
          said = l.0.said;
          view = l.0.view;
          coupled = l.0.coupled;
          stand = l.0.stand;
        },
        follows.more low next v x.view l.0.view e es (record {
          high = high;
          then = x.then;
          before = coupled;
          after = x.coupled;
          applies = applies;
          may = roles-of-events n from first low high v coupled e next applies;
          stand = x.stand;
          letters = x.letters;
        }) l.1,
      )

nothing-more : {A : Type 0} (xs : List A) → xs ≡ xs ++ []
nothing-more [] = refl
nothing-more (x ∷ xs) = ap (λ ys. x ∷ ys) (nothing-more xs)

pub stays-well : (p : Program) → IsAccepted p → (hs : List Event) (d : Config) → run (start_high p) hs ≡ Some d → Well d
stays-well p accepted hs d h =
    let w = (well-typed p accepted hs d h).1 in
    let x = w.each hs [] (nothing-more hs) in
    subst Well (done (sym h ∙ x.1)) x.2

-- from the starts, where each mark stands for itself and no letter is under way
pub from-starts : {i : Infrastructure} (p : Program) (q : LowProgram) (low : IsLowOf i p q) → IsAccepted p → (events : List Event) (c : Config)
    → run (start_low q) events ≡ Some c → (Made : Config → View → List Event → View → Type 0) → Follows i (length p.sites) p.binders low.first Made
    → (l : IsLifted i (length p.sites) p.binders low.first (start_high p) events c) × (v : View) × (v.standing ≡ at_first) × NoLetters v
    × Made (start_low q) v events l.view
from-starts p q low accepted events c h Made follows =
    let start = starts-coupled p q low accepted.sound in
    let l = along _ (length p.sites) p.binders low.first Made follows events _ (start_high p) start.0 start.1 at_first start.2
    (agents-at_first (start_low q) start.0.standing start.2) (λ hs d r. (stays-well p accepted hs d r, (runs-well p accepted).lodged hs d r)) c h in
    (l.0, start.0, start.2, start.3, l.1)

pub runs-are-lifted : {i : Infrastructure} → RunsAreLifted i
runs-are-lifted p q low accepted events c h =
    (from-starts p q low accepted events c h (λ low v es w. Unit {0}) (record { none = λ low v. tt; more = λ low next v u w e es step made. tt })).0
