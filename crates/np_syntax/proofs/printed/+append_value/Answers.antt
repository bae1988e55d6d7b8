use Rattle.std.proofs.Common.{◌≡◌, take, ap, ◌∙◌, arith, refl}
use Rattle.std.proofs.lemmas.Grind.{common_steps}
use Rattle.np_syntax.specs.Printed.{value_text}
use Rattle.np_syntax.proofs.Texts.{nothing-added, text-agent, text-chan, text-letter, text-places, spaced-parts, texts}
use Rattle.np_syntax.proofs.printed.+append_value.Goals as goal

pub append_value-returns-in-Agent : goal.append_value-returns-in-Agent
append_value-returns-in-Agent t c = nothing-added _ _ (ap (value_text c.args.sites.now) c.in-Agent.is ∙ text-agent _ _)

pub append_value-returns-in-Chan : goal.append_value-returns-in-Chan
append_value-returns-in-Chan t c = nothing-added _ _ (ap (value_text c.args.sites.now) c.in-Chan.is ∙ text-chan _ _)

pub append_value-returns-in-Letter : goal.append_value-returns-in-Letter
append_value-returns-in-Letter t c = nothing-added _ _ (ap (value_text c.args.sites.now) c.in-Letter.is ∙ text-letter _ _ _)

pub append_value-returns-in-Places : goal.append_value-returns-in-Places
append_value-returns-in-Places t c = nothing-added _ _ (ap (value_text c.args.sites.now) c.in-Places.is ∙ text-places _ _)

pub append_parts-returns : goal.append_parts-returns
append_parts-returns t c =
    let all : take c.loop-part.part-index c.in-Some.others.now ≡ c.in-Some.others.now = grind (arith, common_steps) in
    rw (c.in-Some.ensures.cases.0, ← spaced-parts c.args.sites.now c.args.text.now c.in-Some.first.now c.in-Some.others.now)
    (c.loop-part.invariant ∙ rw (all, c.in_ok-append_value.ensures) refl)

pub append_parts-loop-part-preserved : goal.append_parts-loop-part-preserved
append_parts-loop-part-preserved t c = grind (arith, common_steps)

pub append_value-returns-in-Int : goal.append_value-returns-in-Int
append_value-returns-in-Int t c = grind (arith, common_steps, texts)
