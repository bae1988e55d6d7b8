use Rattle.std.proofs.Common.{◌≡◌, ◌∷◌, [], ◌≤◌, length, length-append, Some, List, refl, sym, ap, subst, ◌∙◌, arith}
use Rattle.np_syntax.specs.declared.event.Event.{Event}
use Rattle.np_syntax.specs.declared.event.End.TheVariants.{Rest}
use Rattle.np_calculus.specs.Config.{Config}
use Rattle.np_calculus.specs.Reductions.{run}
use Rattle.np_configuration.specs.Next.{IsNext}
use Rattle.np_serial.specs.Serial.{AreFresh, IsSerialRun}
use Rattle.np_serial.proofs.SerialEvents.{run-push, fresh-after, names-new, rest-run, ended-run}
use Rattle.np_serial.proofs.serial.run_on.Goals as goal

pub loop-n-init : goal.loop-n-init
loop-n-init c = record {
  reaches = ap (λ (es : List Event). run c.args.last.now es) c.requires.none;
  made = ap length c.requires.none;
  fresh = c.requires.fresh;
}

pub returns-in_default : goal.returns-in_default
returns-in_default c =
    let within : length c.loop-n.events ≤ c.args.budget = omega (arith, c.loop-n.invariant.made) in
    subst (λ (d : Config). IsSerialRun c.args.last.now c.args.budget c.loop-n.events d Rest) (sym c.next.ensures.same)
    (rest-run c.args.last.now c.args.at c.requires.runs c.args.budget c.loop-n.events c.loop-n.last c.loop-n.invariant.reaches within c.in_default.ensures.none)

pub advance-requires-clause-reached : goal.advance-requires-clause-reached
advance-requires-clause-reached c = record {
  start = c.args.last.now;
  at = c.args.at;
  runs = c.requires.runs;
  events = c.loop-n.events;
  reaches = c.loop-n.invariant.reaches ∙ ap Some (sym c.next.ensures.same);
}

pub advance-requires-clause-next : goal.advance-requires-clause-next
advance-requires-clause-next c = subst (λ (d : Config). IsNext d c.in-Some.step) (sym c.next.ensures.same) c.in-Some.ensures.next

pub advance-requires-clause-new : goal.advance-requires-clause-new
advance-requires-clause-new c =
    let fresh = subst (λ (d : Config). AreFresh d.born c.args.last.now.sites c.loop-n.n) (sym c.next.ensures.same) c.loop-n.invariant.fresh in
    names-new c.next.new.self _ _ c.args.last.now.sites c.loop-n.n fresh refl refl
    (λ h. omega (arith, h, c.requires.runs.site)) (λ h. omega (arith, h, c.beyond-beyond.ensures)) (λ h. omega (arith, h, c.requires.runs.site, c.beyond-beyond.ensures))

pub loop-n-preserved : goal.loop-n-preserved
loop-n-preserved c =
    let a = c.in_ok-advance.ensures in
    record {
      reaches = ap (λ (es : List Event). run c.args.last.now es) a.noted
          ∙ run-push c.args.last.now c.loop-n.events a.event c.next.new.self c.advance.new.c (c.loop-n.invariant.reaches ∙ ap Some (sym c.next.ensures.same)) a.leads;
      made = omega (arith, ap length a.noted, length-append c.loop-n.events (a.event ∷ []), c.loop-n.invariant.made);
      fresh = fresh-after c.next.new.self a.event c.advance.new.c _ _ c.args.last.now.sites c.loop-n.n a.enabled a.leads refl refl
          (subst (λ (d : Config). AreFresh d.born c.args.last.now.sites c.loop-n.n) (sym c.next.ensures.same) c.loop-n.invariant.fresh);
    }

pub end_of-requires : goal.end_of-requires
end_of-requires c = c.requires.runs.lodged c.loop-n.events c.loop-n.last c.loop-n.invariant.reaches

pub returns : goal.returns
returns c =
    let used : length c.loop-n.events ≡ c.args.budget = omega (arith, c.loop-n.invariant.made) in
    let within : length c.loop-n.events ≤ c.args.budget = omega (arith, used) in
    subst (λ (d : Config). IsSerialRun c.args.last.now c.args.budget c.loop-n.events d c.end_of.result) (sym c.end_of.ensures.same)
    (ended-run c.args.last.now c.args.at c.requires.runs c.args.budget c.loop-n.events c.loop-n.last c.loop-n.invariant.reaches within c.end_of.result used c.end_of.ensures.rest c.end_of.ensures.spent)
