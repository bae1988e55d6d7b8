use Rattle.std.proofs.Common.{◌≡◌, ◌∷◌, [], ◌≤◌, ℕ, length, length-append, List, Some, sym, ap, subst, ◌∙◌, arith}
use Rattle.np_syntax.specs.Options.{◌>>=◌}
use Rattle.np_syntax.specs.declared.event.Event.{Event}
use Rattle.np_calculus.specs.Reductions.{run}
use Rattle.np_serial.proofs.SerialEvents.{rest-run, ended-run}
use Rattle.rand_pcg.specs.Lcg.{Lcg}
use Rattle.rand_pcg.specs.Pcg.{pcg32}
use Rattle.run_save.specs.Notes.{AreNoted}
use Rattle.run_save.specs.Ours.{IsOursFrom}
use Rattle.run_save.proofs.RunLaws.{nothing-ours}
use Rattle.run_choices.specs.Draws.{draws, seeded}
use Rattle.run_choices.specs.Made.{AreMade}
use Rattle.run_choices.specs.Held.{held}
use Rattle.run_choices.specs.InTurn.{MakesNext, event_behind, event_drawn}
use Rattle.run_choices.proofs.Chosen.{chosen-is, none-idle}
use Rattle.run_choices.proofs.Drawing.{made-next, words-next}
use Rattle.run_choices.proofs.Turned.{noted-event}
use Rattle.run_choices.proofs.seeded_low.run_on.Goals as goal

pub loop-n-init : goal.loop-n-init
loop-n-init c = record {
  course = record {
    run = record {
      own = c.requires.own;
      runs = c.requires.runs;
      reaches = ap (λ (es : List Event). run c.args.last.now es) c.requires.none;
      ours = subst (IsOursFrom c.args.last.now) (sym c.requires.none) (nothing-ours c.args.last.now);
    };
    noted = subst (λ (es : List Event). AreNoted c.new-notes.result c.args.last.now es) (sym c.requires.none) (c.new-notes.ensures c.args.last.now);
  };
  made = ap length c.requires.none;
  lists = c.in_ok-waiting.ensures;
  words = c.seed_from_u64-words.ensures;
  drawn = subst (λ (es : List Event). AreMade (MakesNext c.args.last.now) [] c.args.last.now [] es) (sym c.requires.none) tt;
}

pub returns-in_default-clause-run : goal.returns-in_default-clause-run
returns-in_default-clause-run c =
    let r = c.loop-n.invariant.course.run in
    let within : length c.loop-n.events ≤ c.args.budget = omega (arith, c.loop-n.invariant.made) in
    rest-run c.args.last.now r.runs.0 r.runs.1 c.args.budget c.loop-n.events c.loop-n.last r.reaches within
    (none-idle c.loop-n.last (held c.loop-n.waiting) c.loop-n.invariant.lists c.drawn-draw.result (sym c.chosen.ensures ∙ c.in_default.is))

pub returns-in_default-clause-ours : goal.returns-in_default-clause-ours
returns-in_default-clause-ours c = c.loop-n.invariant.course.run.ours

pub returns-in_default-clause-drawn : goal.returns-in_default-clause-drawn
returns-in_default-clause-drawn c =
    subst (λ (n : ℕ). AreMade (MakesNext c.args.last.now) [] c.args.last.now (draws pcg32 (seeded c.args.seed) n) c.loop-n.events) (sym c.loop-n.invariant.made) c.loop-n.invariant.drawn

pub serve-requires-clause-course : goal.serve-requires-clause-course
serve-requires-clause-course c = (c.args.last.now, c.loop-n.invariant.course)

pub serve-requires-clause-lists : goal.serve-requires-clause-lists
serve-requires-clause-lists c = c.loop-n.invariant.lists

pub serve-requires-clause-choice : goal.serve-requires-clause-choice
serve-requires-clause-choice c =
    chosen-is c.loop-n.last (held c.loop-n.waiting) c.loop-n.invariant.lists c.drawn-draw.result c.in-Some.choice (sym c.chosen.ensures ∙ c.in-Some.is)

pub loop-n-preserved : goal.loop-n-preserved
loop-n-preserved c =
    let start = c.args.last.now in
    let i = c.loop-n.invariant in
    let g : Lcg = seeded c.args.seed in
    let s = c.in_ok-serve.ensures.made in
    let event : event_drawn (held c.loop-n.waiting) start c.loop-n.events c.loop-n.last c.drawn-draw.result ≡ Some s.event =
    ap (λ o. o >>= event_behind start c.loop-n.events c.loop-n.last) (sym c.chosen.ensures ∙ c.in-Some.is)
    ∙ sym (noted-event start c.loop-n.last c.loop-n.notes c.loop-n.events i.course c.in-Some.choice) ∙ s.is in
    record {
      course = c.in_ok-serve.ensures.course start i.course;
      made = omega (arith, ap length s.noted, length-append c.loop-n.events (s.event ∷ []), i.made);
      lists = c.in_ok-serve.ensures.lists;
      words = words-next pcg32 g c.loop-n.n c.loop-n.words c.drawn-draw.new.words c.drawn-draw.result i.words c.drawn-draw.ensures;
      drawn =
          made-next pcg32 g c.loop-n.n c.loop-n.words c.drawn-draw.new.words c.drawn-draw.result i.words c.drawn-draw.ensures (MakesNext start) start c.loop-n.last s.event
          c.loop-n.events _ i.drawn i.course.run.reaches (held c.loop-n.waiting, i.lists, event) s.noted;
    }

pub end_of-requires-clause-lodged : goal.end_of-requires-clause-lodged
end_of-requires-clause-lodged c = let r = c.loop-n.invariant.course.run in r.runs.1.lodged c.loop-n.events c.loop-n.last r.reaches

pub end_of-requires-clause-lists : goal.end_of-requires-clause-lists
end_of-requires-clause-lists c = c.loop-n.invariant.lists

pub returns-clause-run : goal.returns-clause-run
returns-clause-run c =
    let r = c.loop-n.invariant.course.run in
    let used : length c.loop-n.events ≡ c.args.budget = omega (arith, c.loop-n.invariant.made) in
    let within : length c.loop-n.events ≤ c.args.budget = omega (arith, used) in
    ended-run c.args.last.now r.runs.0 r.runs.1 c.args.budget c.loop-n.events c.loop-n.last r.reaches within c.end_of.result used c.end_of.ensures.rest c.end_of.ensures.spent

pub returns-clause-ours : goal.returns-clause-ours
returns-clause-ours c = c.loop-n.invariant.course.run.ours

pub returns-clause-drawn : goal.returns-clause-drawn
returns-clause-drawn c =
    subst (λ (n : ℕ). AreMade (MakesNext c.args.last.now) [] c.args.last.now (draws pcg32 (seeded c.args.seed) n) c.loop-n.events) (sym c.loop-n.invariant.made) c.loop-n.invariant.drawn
