-- The three forms that are translated, and main's bracket (docs/TRANSLATION.md, "Translation and daemon"). Here n is the number of
-- sites, k that of the source node, and a the agent that the form stands in; P and Q are written for their processes in the low
-- program.
use Rattle.std.specs.Prelude.{ℕ}
use Rattle.np_syntax.specs.declared.expression.Expr.{Expr}
use Rattle.np_syntax.specs.declared.expression.ExprForm as expr
use Rattle.np_syntax.specs.declared.process.Role.TheVariants as role
use Rattle.np_syntax.specs.declared.process.Proc.{Proc}
use Rattle.np_syntax.specs.declared.process.ProcForm as form
use Rattle.infrastructure_texts.specs.Pieces.{expression, variable, name, nothing, unit, pair, two_names, site, main, daemon, register}
use Rattle.infrastructure_texts.specs.Pieces.{migrating, migrated, message, deliver, ack, dack, currentloc, process, infra, beside, gives}
use Rattle.infrastructure_texts.specs.Pieces.{takes, serves, sends, posts, tells}

abbrev pub letter : Expr → Expr → Expr
letter c v = expression (expr.Pack c v)

-- <b@?>c!v becomes <D@SD>message![b pack(c, v)]
abbrev pub post_text : ℕ → ℕ → Expr → Expr → Expr → Proc
post_text n k b c v = posts k (daemon n) (site 0) (message n) (pair b (letter c v))

-- ack?_ -> (P | currentloc!e), where an agent waits for its site, and then has it
abbrev pub settles : ℕ → ℕ → Expr → Proc → Proc
settles n k e p = takes k (ack n) nothing (beside k p (gives k (currentloc n) e))

-- migrate to e -> (ack?_ -> (P | currentloc!e) | <D@SD>migrated![a e])
abbrev pub move_text : ℕ → ℕ → Expr → Expr → Proc → Proc
move_text n k a e p = process k role.Plain (form.Migrate e (beside k (settles n k e p) (tells n k (migrated n) (pair a e))))

-- migrate to e -> P becomes
-- currentloc?_ -> (ack?_ -> migrate to e -> (ack?_ -> (P | currentloc!e) | <D@SD>migrated![a e]) | <D@SD>migrating!a)
abbrev pub migrate_text : ℕ → ℕ → Expr → Expr → Proc → Proc
migrate_text n k a e p =
    takes k (currentloc n) nothing (beside k
    (takes k (ack n) nothing (move_text n k a e p))
    (tells n k (migrating n) a))

-- *deliver?[l t] -> (open l | <D@SD>dack![b t]), which takes the letters of the agent b
abbrev pub server_text : ℕ → ℕ → Expr → ℕ → ℕ → Proc
server_text n k b l t = serves k (deliver n) (two_names l t)
    (beside k (infra k (form.Open (variable l))) (tells n k (dack n) (pair b (variable t))))

-- ack?_ -> (P | <a@S>ack![] | currentloc!S)
abbrev pub begins : ℕ → ℕ → Expr → ℕ → Proc → Proc
begins n k a s p = settles n k (variable s) (beside k p (sends k a (variable s) (ack n) unit))

-- (ack?_ -> (P | <a@S>ack![] | currentloc!S) | *deliver?[l t] -> (open l | <D@SD>dack![b t]) | <D@SD>register![b S])
abbrev pub child_text : ℕ → ℕ → Expr → ℕ → ℕ → ℕ → ℕ → Proc → Proc
child_text n k a b s l t p =
    beside k (beside k
    (settles n k (variable s) (beside k p (sends k a (variable s) (ack n) unit)))
    (server_text n k (variable b) l t))
    (tells n k (register n) (pair (variable b) (variable s)))

-- agent b = P in Q becomes
-- currentloc?S -> agent b = (ack?_ -> (P | <a@S>ack![] | currentloc!S) | *deliver?[l t] -> (open l | <D@SD>dack![b t]) |
-- <D@SD>register![b S])
--     in ack?_ -> (Q | currentloc!S)
abbrev pub agent_text : ℕ → ℕ → Expr → ℕ → ℕ → ℕ → ℕ → Proc → Proc → Proc
agent_text n k a b s l t p q =
    takes k (currentloc n) (name s) (process k role.Plain (form.Agent b
    (child_text n k a b s l t p)
    (settles n k (variable s) q)))

-- (P | currentloc!s | *deliver?[l t] -> (open l | <D@SD>dack![main t])), where s is main's site
abbrev pub main_text : ℕ → ℕ → ℕ → ℕ → Proc → Proc
main_text n s l t p = beside 0 (beside 0 p (gives 0 (currentloc n) (site s))) (server_text n 0 (main n) l t)
