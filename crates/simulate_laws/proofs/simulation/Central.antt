-- With the central infrastructure no mark comes to stand for another: so events are read off one by one.
use Rattle.std.proofs.Common.{◌≡◌, true, false, Some, List, length, refl, sym, ap, ◌∙◌}
use Rattle.std.specs.List.{All}
use Rattle.std.proofs.lemmas.List.Elements.{All-cons, All-nil}
use Rattle.np_syntax.specs.declared.process.Role.{Role}
use Rattle.np_syntax.specs.declared.process.Role.TheVariants as role
use Rattle.np_syntax.specs.declared.event.Event.{Event}
use Rattle.np_syntax.specs.declared.event.Kind.{Kind}
use Rattle.np_syntax.specs.declared.event.Kind.TheVariants as kind
use Rattle.np_syntax.specs.declared.event.Made.{Made}
use Rattle.np_syntax.specs.declared.program.Program.{Program}
use Rattle.np_syntax.specs.declared.program.LowProgram.{LowProgram}
use Rattle.np_calculus.specs.Config.{Config}
use Rattle.np_calculus.specs.Reductions.{run}
use Rattle.np_calculus.specs.Starts.{start_high, start_low}
use Rattle.np_lift.specs.CachedLaws.{AddsNoMark, adds_mark}
use Rattle.np_lift.proofs.WithoutMessengers.{lift-without-messengers, standing-without-messengers}
use Rattle.np_check.specs.Faults.{IsAccepted}
use Rattle.infrastructure_texts.specs.Infrastructures.{Infrastructure}
use Rattle.daemon_encode.specs.Translates.{IsLowOf}
use Rattle.simulate_laws.specs.levels.Roles.{occurs}
use Rattle.simulate_laws.specs.simulation.Laws.{CentralRunsAreLifted, IsCentralLifted, IsLifted}
use Rattle.simulate_laws.proofs.simulation.Runs.{from-starts, runs-are-lifted}

-- no event that it has adds a mark
adds-none : (r : Role) (k : Kind) (names : Made) → occurs r k ≡ true → adds_mark r k names ≡ false
adds-none role.Post kind.Agent names may = absurd cc
adds-none role.Infra kind.Local names may = absurd cc
adds-none _ _ names may = refl

module _ (p : Program) (q : LowProgram) (low : IsLowOf Infrastructure.central p q) (accepted : IsAccepted p) (events : List Event) (c : Config)
    (h : run (start_low q) events ≡ Some c) where
  pub none-added : All AddsNoMark events
  none-added = (from-starts p q low accepted events c h (λ low v es w. All AddsNoMark es) (record {
    none = λ low v. All-nil AddsNoMark;
    more = λ low next v u w e es step rest. All-cons AddsNoMark e es (adds-none e.tag.role e.kind e.made step.may) rest;
  })).4

  unfoldable pub central : IsLifted Infrastructure.central (length p.sites) p.binders low.first (start_high p) events c
      → IsCentralLifted (length p.sites) p.binders low.first (start_high p) events c
  central l = record {
    high = l.high;
    runs = ap (run (start_high p)) (sym (lift-without-messengers events none-added)) ∙ l.runs;
    said = l.said;
    view = l.view;
    coupled = l.coupled;
    stand = l.stand ∙ standing-without-messengers events none-added;
  }

pub central-runs-are-lifted : CentralRunsAreLifted
central-runs-are-lifted p q low accepted events c h = central p q low accepted events c h (runs-are-lifted p q low accepted events c h)
