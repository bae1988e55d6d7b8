use Rattle.std.proofs.Common.{◌≡◌, ◌∷◌, [], ◌≤◌, ℕ, length, length-append, List, refl, sym, ap, subst, ◌∙◌, arith}
use Rattle.np_syntax.specs.declared.event.Event.{Event}
use Rattle.np_calculus.specs.Reductions.{run}
use Rattle.np_serial.proofs.SerialEvents.{run-push, fresh-after, names-new, rest-run, ended-run}
use Rattle.rand_pcg.specs.Pcg.{pcg32}
use Rattle.run_choices.specs.Draws.{draws, seeded}
use Rattle.run_choices.specs.Made.{AreMade}
use Rattle.run_choices.specs.Held.{held}
use Rattle.run_choices.specs.Runs.{ChoosesNext}
use Rattle.run_choices.proofs.Chosen.{chosen-is, none-idle}
use Rattle.run_choices.proofs.Drawing.{made-next, words-next}
use Rattle.run_choices.proofs.seeded.run_on.Goals as goal

pub loop-n-init : goal.loop-n-init
loop-n-init c = record {
  reaches = ap (λ (es : List Event). run c.args.last.now es) c.requires.none;
  made = ap length c.requires.none;
  fresh = c.requires.fresh;
  lists = c.in_ok-waiting.ensures;
  words = c.seed_from_u64-words.ensures;
  drawn = subst (λ (es : List Event). AreMade ChoosesNext [] c.args.last.now [] es) (sym c.requires.none) tt;
}

pub returns-in_default-clause-run : goal.returns-in_default-clause-run
returns-in_default-clause-run c =
    let within : length c.loop-n.events ≤ c.args.budget = omega (arith, c.loop-n.invariant.made) in
    rest-run c.args.last.now c.args.at c.requires.runs c.args.budget c.loop-n.events c.loop-n.last c.loop-n.invariant.reaches within
    (none-idle c.loop-n.last (held c.loop-n.waiting) c.loop-n.invariant.lists c.drawn-draw.result (sym c.chosen.ensures ∙ c.in_default.is))

pub returns-in_default-clause-drawn : goal.returns-in_default-clause-drawn
returns-in_default-clause-drawn c =
    subst (λ (n : ℕ). AreMade ChoosesNext [] c.args.last.now (draws pcg32 (seeded c.args.seed) n) c.loop-n.events) (sym c.loop-n.invariant.made) c.loop-n.invariant.drawn

pub advance-requires-clause-reached : goal.advance-requires-clause-reached
advance-requires-clause-reached c = record {
  start = c.args.last.now;
  at = c.args.at;
  runs = c.requires.runs;
  events = c.loop-n.events;
  reaches = c.loop-n.invariant.reaches;
}

pub advance-requires-clause-lists : goal.advance-requires-clause-lists
advance-requires-clause-lists c = c.loop-n.invariant.lists

pub advance-requires-clause-choice : goal.advance-requires-clause-choice
advance-requires-clause-choice c =
    chosen-is c.loop-n.last (held c.loop-n.waiting) c.loop-n.invariant.lists c.drawn-draw.result c.in-Some.choice (sym c.chosen.ensures ∙ c.in-Some.is)

pub advance-requires-clause-new : goal.advance-requires-clause-new
advance-requires-clause-new c =
    names-new c.loop-n.last _ _ c.args.last.now.sites c.loop-n.n c.loop-n.invariant.fresh refl refl
    (λ h. omega (arith, h, c.requires.runs.site)) (λ h. omega (arith, h, c.beyond-beyond.ensures)) (λ h. omega (arith, h, c.requires.runs.site, c.beyond-beyond.ensures))

pub loop-n-preserved : goal.loop-n-preserved
loop-n-preserved c =
    let a = c.in_ok-advance.ensures.made in
    let i = c.loop-n.invariant in
    record {
      reaches = ap (λ (es : List Event). run c.args.last.now es) a.noted
          ∙ run-push c.args.last.now c.loop-n.events a.event c.loop-n.last c.advance.new.c c.loop-n.invariant.reaches a.leads;
      made = omega (arith, ap length a.noted, length-append c.loop-n.events (a.event ∷ []), c.loop-n.invariant.made);
      fresh = fresh-after c.loop-n.last a.event c.advance.new.c _ _ c.args.last.now.sites c.loop-n.n a.enabled a.leads refl refl c.loop-n.invariant.fresh;
      lists = c.in_ok-advance.ensures.lists;
      words = words-next pcg32 (seeded c.args.seed) c.loop-n.n c.loop-n.words c.drawn-draw.new.words c.drawn-draw.result i.words c.drawn-draw.ensures;
      drawn =
          made-next pcg32 (seeded c.args.seed) c.loop-n.n c.loop-n.words c.drawn-draw.new.words c.drawn-draw.result i.words c.drawn-draw.ensures ChoosesNext c.args.last.now
          c.loop-n.last a.event c.loop-n.events _ i.drawn i.reaches
          (record { order = held c.loop-n.waiting; lists = i.lists; choice = c.in-Some.choice; picked = sym c.chosen.ensures ∙ c.in-Some.is; first = _; second = _; is = a.is }) a.noted;
    }

pub end_of-requires-clause-lodged : goal.end_of-requires-clause-lodged
end_of-requires-clause-lodged c = c.requires.runs.lodged c.loop-n.events c.loop-n.last c.loop-n.invariant.reaches

pub end_of-requires-clause-lists : goal.end_of-requires-clause-lists
end_of-requires-clause-lists c = c.loop-n.invariant.lists

pub returns-clause-run : goal.returns-clause-run
returns-clause-run c =
    let used : length c.loop-n.events ≡ c.args.budget = omega (arith, c.loop-n.invariant.made) in
    let within : length c.loop-n.events ≤ c.args.budget = omega (arith, used) in
    ended-run c.args.last.now c.args.at c.requires.runs c.args.budget c.loop-n.events c.loop-n.last c.loop-n.invariant.reaches within c.end_of.result used c.end_of.ensures.rest c.end_of.ensures.spent

pub returns-clause-drawn : goal.returns-clause-drawn
returns-clause-drawn c =
    subst (λ (n : ℕ). AreMade ChoosesNext [] c.args.last.now (draws pcg32 (seeded c.args.seed) n) c.loop-n.events) (sym c.loop-n.invariant.made) c.loop-n.invariant.drawn
