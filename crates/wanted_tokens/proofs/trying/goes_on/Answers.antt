use Rattle.std.proofs.Common.{inl, inr, subst}
use Rattle.np_syntax.specs.declared.limits.TheConstants.{DEEPEST}
use Rattle.np_parse.specs.Refusal.{Refusal}
use Rattle.np_parse.specs.declared.fail.ParseFail.TheVariants as fails
use Rattle.wanted_tokens.proofs.Either.{weaker}
use Rattle.wanted_tokens.proofs.trying.goes_on.Goals as goal

pub returns-in-Ok : goal.returns-in-Ok
returns-in-Ok c = inl (record { tree = c.in-Ok.tree; is = c.in-Ok.ensures.found })

pub returns-in-Err-Syntax : goal.returns-in-Err-Syntax
returns-in-Err-Syntax c =
    let is = c.in-Err-Syntax.field-0-is in
    let refused = subst (λ f. Refusal DEEPEST c.args.tokens.now f) is (c.in-Err-Syntax.ensures.refused (λ e. absurd cc)) in
    weaker c.differs.result c.differs.ensures
    (λ e. inr (record { fail = fails.Syntax c.in-Err-Syntax.place; refused = refused; elsewhere = e }))
    (λ e. record { fail = fails.Syntax c.in-Err-Syntax.place; refused = refused; there = e })

pub returns-in-Err-TooDeep : goal.returns-in-Err-TooDeep
returns-in-Err-TooDeep c =
    let is = c.in-Err-TooDeep.field-0-is in
    let refused = subst (λ f. Refusal DEEPEST c.args.tokens.now f) is (c.in-Err-TooDeep.ensures.refused (λ e. absurd cc)) in
    weaker c.differs-in-Err-TooDeep.result c.differs-in-Err-TooDeep.ensures
    (λ e. inr (record { fail = fails.TooDeep c.in-Err-TooDeep.place; refused = refused; elsewhere = e }))
    (λ e. record { fail = fails.TooDeep c.in-Err-TooDeep.place; refused = refused; there = e })
