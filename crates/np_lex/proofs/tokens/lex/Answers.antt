use Rattle.std.proofs.Common.{ap, ◌∙◌, sym, subst, arith, length, length-drop}
use Rattle.np_lex.specs.Tokens.{Lexes}
use Rattle.np_lex.specs.Refusals.{refusal}
use Rattle.np_lex.proofs.Steps.{before_skip, before_token, first_within, none_skipped, stuck_here, end_lexed}
use Rattle.np_lex.proofs.Once.{not_both, lexes_once, lexes_tokens, lexes_length}
use Rattle.np_lex.proofs.tokens.lex.Goals as goal

pub places-preserved-then-skipped-gt0 : goal.places-preserved-then-skipped-gt0
places-preserved-then-skipped-gt0 c = record {
  before = before_skip c.places.invariant.before c.split_at.ensures.back c.skip_len-skipped.ensures.value c.if-skipped-gt0.true;
  within = omega (arith, c.skip_len-skipped.ensures.within, ap length c.split_at.ensures.back, length-drop c.places.at c.args.source.now);
}

pub overflow_add-at-else-skipped-gt0 : goal.overflow_add-at-else-skipped-gt0
overflow_add-at-else-skipped-gt0 c =
    let h = first_within c.args.source.now c.places.at c.places-test.true c.split_at.ensures.back c.in-Some.is c.in_ok-len.ensures in omega (arith, c.requires)

pub overflow_cast-at-else-skipped-gt0-2 : goal.overflow_cast-at-else-skipped-gt0-2
overflow_cast-at-else-skipped-gt0-2 c =
    let h = first_within c.args.source.now c.places.at c.places-test.true c.split_at.ensures.back c.in-Some.is c.in_ok-len.ensures in omega (arith, c.requires)

pub places-smaller : goal.places-smaller
places-smaller c = let h = first_within c.args.source.now c.places.at c.places-test.true c.split_at.ensures.back c.in-Some.is c.in_ok-len.ensures in omega (arith, c.places-test.true)

pub places-preserved : goal.places-preserved
places-preserved c =
    let h = first_within c.args.source.now c.places.at c.places-test.true c.split_at.ensures.back c.in-Some.is c.in_ok-len.ensures in
    rw c.in_ok-add.ensures (record {
      before = before_token c.places.invariant.before c.split_at.ensures.back (none_skipped c.if-skipped-gt0.false c.skip_len-skipped.ensures.value) (sym c.in-Some.is ∙ c.in_ok-len.ensures);
      within = h.1;
    })

pub returns-in_default-clause-refused : goal.returns-in_default-clause-refused
returns-in_default-clause-refused c = λ other. record {
  place = c.places.at;
  stuck = stuck_here c.places.invariant.before c.split_at.ensures.back c.places-test.true (none_skipped c.if-skipped-gt0.false c.skip_len-skipped.ensures.value)
      (sym c.in_default.is ∙ c.in_ok-len.ensures);
  is = c.refusal.ensures ∙ ap (refusal c.places.at) c.split_at.ensures.back;
}

pub returns-in_default-clause-none : goal.returns-in_default-clause-none
returns-in_default-clause-none c = λ other tokens l.
    not_both l (stuck_here c.places.invariant.before c.split_at.ensures.back c.places-test.true (none_skipped c.if-skipped-gt0.false c.skip_len-skipped.ensures.value)
    (sym c.in_default.is ∙ c.in_ok-len.ensures))

pub invariant_of-result : goal.invariant_of-result
invariant_of-result c = lexes_tokens (subst (Lexes 0 c.args.source.now) (sym c.in_ok-add-2.ensures) (end_lexed c.places.invariant.before c.places-test.false))

pub returns-clause-found : goal.returns-clause-found
returns-clause-found c = subst (Lexes 0 c.args.source.now) (sym c.in_ok-add-2.ensures) (end_lexed c.places.invariant.before c.places-test.false)

pub returns-clause-only : goal.returns-clause-only
returns-clause-only c = λ others l. lexes_once l (subst (Lexes 0 c.args.source.now) (sym c.in_ok-add-2.ensures) (end_lexed c.places.invariant.before c.places-test.false))

pub returns-clause-room : goal.returns-clause-room
returns-clause-room c = lexes_length (subst (Lexes 0 c.args.source.now) (sym c.in_ok-add-2.ensures) (end_lexed c.places.invariant.before c.places-test.false))

pub returns-clause-legal : goal.returns-clause-legal
returns-clause-legal c = lexes_tokens (subst (Lexes 0 c.args.source.now) (sym c.in_ok-add-2.ensures) (end_lexed c.places.invariant.before c.places-test.false))
