use Rattle.std.proofs.Common.{inr, subst, ◌∙◌}
use Rattle.std.proofs.lemmas.Result.{IfOk-weaker}
use Rattle.std.specs.Prelude.{MatchBool}
use Rattle.np_lex.specs.Tokens.{Lexes}
use Rattle.wanted_tokens.specs.Wanted.{IsUnwanted, IsWanted}
use Rattle.wanted_tokens.proofs.Either.{weaker}
use Rattle.wanted_tokens.proofs.trying.is_wanted.Goals as goal

pub returns-in-Ok : goal.returns-in-Ok
returns-in-Ok c =
    let tokens = c.in-Ok.tokens in
    let bytes = c.args.bytes.now in
    let at = c.args.at in
    let kind = c.args.kind in
    let lexed = subst (λ t. Lexes 0 t tokens) (c.as_slice.ensures ∙ c.in_ok-text.ensures) c.in-Ok.ensures.found in
    IfOk-weaker c.goes_on.result _ (λ goes. MatchBool goes (IsWanted bytes at kind) (IsUnwanted bytes at kind))
    (λ goes told. weaker goes told (λ g. record { tokens = tokens; lexed = lexed; goes = g }) (λ s. inr (record { tokens = tokens; lexed = lexed; stops = s })))
    c.goes_on.ensures
