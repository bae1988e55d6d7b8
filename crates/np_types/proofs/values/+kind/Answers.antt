use Rattle.std.proofs.lemmas.Grind.{common_steps}
use Rattle.std.proofs.Common.{sym, ◌∙◌, arith}
use Rattle.np_types.proofs.ValueTypes.{told, kind-int, kind-truth, kind-str, kind-site, kind-agent, kind-chan, kind-letter, places_none, places_some, value_types}
use Rattle.np_types.proofs.values.+kind.Goals as goal

pub kind-returns-in-Int : goal.kind-returns-in-Int
kind-returns-in-Int t c = told c.in-Int.is (kind-int _)

pub kind-returns-in-Truth : goal.kind-returns-in-Truth
kind-returns-in-Truth t c = told c.in-Truth.is (kind-truth _)

pub kind-returns-in-Str : goal.kind-returns-in-Str
kind-returns-in-Str t c = told c.in-Str.is (kind-str _)

pub kind-returns-in-Site : goal.kind-returns-in-Site
kind-returns-in-Site t c = told c.in-Site.is (kind-site _)

pub kind-returns-in-Agent : goal.kind-returns-in-Agent
kind-returns-in-Agent t c = told c.in-Agent.is (kind-agent _)

pub kind-returns-in-Chan : goal.kind-returns-in-Chan
kind-returns-in-Chan t c = told c.in-Chan.is (kind-chan _)

pub kind-returns-in-Letter : goal.kind-returns-in-Letter
kind-returns-in-Letter t c = told c.in-Letter.is (kind-letter _ _)

pub kind-returns-then-len-eq0 : goal.kind-returns-then-len-eq0
kind-returns-then-len-eq0 t c = told c.in-Places.is (places_none c.in-Places.places (sym c.len.ensures ∙ c.if-len-eq0.true))

pub kind-returns-else-len-eq0 : goal.kind-returns-else-len-eq0
kind-returns-else-len-eq0 t c = told c.in-Places.is (places_some c.in-Places.places (λ e. c.if-len-eq0.false (c.len.ensures ∙ e)))

pub kind-returns-in-Some : goal.kind-returns-in-Some
kind-returns-in-Some t c = grind (arith, common_steps, value_types)

pub kinds-loop-value-preserved : goal.kinds-loop-value-preserved
kinds-loop-value-preserved t c = grind (arith, common_steps, value_types)

pub kinds-returns-in_default : goal.kinds-returns-in_default
kinds-returns-in_default t c = grind (arith, common_steps, value_types)
