use Rattle.std.proofs.Common.{◌↔◌, ap, subst, ◌∙◌}
use Rattle.run_views.specs.Index.{IsOneOf, causes, noting}
use Rattle.run_views.specs.Causes.{index_of, places_of}
use Rattle.run_views.proofs.tracing.trace.Goals as goal

pub returns : goal.returns
returns c =
    let x = index_of c.args.writers.now in
    record {
      applies = c.in_ok-turn.ensures;
      noted = c.in_ok-note.ensures ∙ ap (noting x c.args.place) c.written_by-written.ensures;
      found = λ k. subst (λ f. IsOneOf k (places_of c.causes-found.result) ↔ IsOneOf k (causes x f)) c.in_ok-touched.ensures (c.causes-found.ensures k);
    }
