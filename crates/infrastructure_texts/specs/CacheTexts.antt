-- The forms that are translated otherwise where agents have caches, and main's bracket (docs/TRANSLATION.md, "Translation and daemon").
-- Here n is the number of sites, k that of the source node, and a the agent that the form stands in; P and Q are written for their
-- processes in the low program. The binders that a post makes are numbered on from m, in reading order, and those of K from c.
use Rattle.std.specs.Prelude.{ℕ, ◌+◌, []}
use Rattle.np_syntax.specs.declared.value.Value as value
use Rattle.np_syntax.specs.declared.expression.Expr.{Expr}
use Rattle.np_syntax.specs.declared.expression.ExprForm as expr
use Rattle.np_syntax.specs.declared.process.Role.TheVariants as role
use Rattle.np_syntax.specs.declared.process.Proc.{Proc}
use Rattle.np_syntax.specs.declared.process.ProcForm as form
use Rattle.np_check.specs.Faults.{lock_type}
use Rattle.infrastructure_texts.specs.Pieces.{expression, variable, name, nothing, pair, two_names, channel, register, message, currentloc}
use Rattle.infrastructure_texts.specs.Pieces.{process, infra, stop, beside, gives, takes, serves, tells}
use Rattle.infrastructure_texts.specs.Texts.{letter, settles, begins, server_text}
use Rattle.infrastructure_texts.specs.Texts as central
use Rattle.infrastructure_texts.specs.Daemon.{with_lock}

-- ---- the channels of a program of n sites that the caches use

abbrev pub cache : ℕ → Expr
cache n = channel n 14

-- the channel `where`
abbrev pub asking : ℕ → Expr
asking n = channel n 15

abbrev pub found : ℕ → Expr
found n = channel n 16

-- ---- K, the two parts of a bracket that keep an agent's cache

-- cache!m
abbrev pub keeps : ℕ → ℕ → ℕ → Proc
keeps n k m = gives k (cache n) (variable m)

-- lookup a in m then l -> P else Q
abbrev pub looks : ℕ → Expr → ℕ → ℕ → Proc → Proc → Proc
looks k a m l p q = infra k (form.Lookup a (variable m) l p q)

-- cache!{}
abbrev pub empty_cache : ℕ → ℕ → Proc
empty_cache n k = gives k (cache n) (expression (expr.Val (value.Places [])))

-- (l?_ -> l!y | cache!m), where an agent has a hint: the site y is the new one
abbrev pub replaces : ℕ → ℕ → ℕ → ℕ → ℕ → Proc
replaces n k y m l = beside k (takes k (variable l) nothing (gives k (variable l) (variable y))) (keeps n k m)

-- new l : ^Site in (cache!(m with x -> l) | l!y), where the agent x has none
abbrev pub adds : ℕ → ℕ → ℕ → ℕ → ℕ → ℕ → Proc
adds n k x y m l = infra k (form.New l lock_type (beside k (gives k (cache n) (with_lock m x l)) (gives k (variable l) (variable y))))

-- *found?[x y] -> cache?m -> lookup x in m then l -> (l?_ -> l!y | cache!m) else new l : ^Site in (cache!(m with x -> l) | l!y), with
-- the second l numbered behind the first
abbrev pub found_server : ℕ → ℕ → ℕ → Proc
found_server n k x =
    serves k (found n) (two_names x (x + 1)) (takes k (cache n) (name (x + 2))
    (looks k (variable x) (x + 2) (x + 3) (replaces n k (x + 1) (x + 2) (x + 3)) (adds n k x (x + 1) (x + 2) (x + 4))))

-- (P | K)
abbrev pub with_cache : ℕ → ℕ → ℕ → Proc → Proc
with_cache n k x p = beside k (beside k p (empty_cache n k)) (found_server n k x)

-- ---- a post

-- <D@SD>where![a b]
abbrev pub asks : ℕ → ℕ → Expr → Expr → Proc
asks n k a b = tells n k (asking n) (pair a b)

-- (<D@SD>message![b pack(c, v)] | <D@SD>where![a b]), which a messenger does
abbrev pub hands_back : ℕ → ℕ → Expr → Expr → Expr → Expr → Proc
hands_back n k a b c v = beside k (tells n k (message n) (pair b (letter c v))) (asks n k a b)

-- iflocal <b>c!v then 0 else (<D@SD>message![b pack(c, v)] | <D@SD>where![a b])
abbrev pub tries : ℕ → ℕ → Expr → Expr → Expr → Expr → Proc
tries n k a b c v = infra k (form.IfLocal b c v (stop k) (hands_back n k a b c v))

-- M: migrate to s -> iflocal <b>c!v then 0 else (<D@SD>message![b pack(c, v)] | <D@SD>where![a b])
abbrev pub messenger_text : ℕ → ℕ → Expr → Expr → Expr → Expr → ℕ → Proc
messenger_text n k a b c v s = infra k (form.Migrate (variable s) (tries n k a b c v))

-- agent t = M in 0, which makes a messenger
abbrev pub makes_messenger : ℕ → ℕ → Expr → Expr → Expr → Expr → ℕ → ℕ → Proc
makes_messenger n k a b c v s t = process k role.Post (form.Agent t (messenger_text n k a b c v s) (stop k))

-- (l?s -> (P | l!s) | cache!m), which has the site s of a hint
abbrev pub reads_hint : ℕ → ℕ → ℕ → Proc → Proc
reads_hint n k m p = beside k (takes k (variable (m + 1)) (name (m + 2)) (beside k p (gives k (variable (m + 1)) (variable (m + 2)))))
    (keeps n k m)

-- (l?s -> (agent t = M in 0 | l!s) | cache!m)
abbrev pub goes_by_hint : ℕ → ℕ → Expr → Expr → Expr → Expr → ℕ → Proc
goes_by_hint n k a b c v m = reads_hint n k m (makes_messenger n k a b c v (m + 2) (m + 3))

-- (<D@SD>message![b pack(c, v)] | <D@SD>where![a b] | cache!m), where the message is the post
abbrev pub goes_by_daemon : ℕ → ℕ → Expr → Expr → Expr → Expr → ℕ → Proc
goes_by_daemon n k a b c v m = beside k (beside k (central.post_text n k b c v) (asks n k a b)) (keeps n k m)

-- <b@?>c!v becomes
-- cache?m -> lookup b in m then l -> (l?s -> (agent t = M in 0 | l!s) | cache!m)
--     else (<D@SD>message![b pack(c, v)] | <D@SD>where![a b] | cache!m)
abbrev pub post_text : ℕ → ℕ → Expr → Expr → Expr → Expr → ℕ → Proc
post_text n k a b c v m = takes k (cache n) (name m) (looks k b m (m + 1) (goes_by_hint n k a b c v m) (goes_by_daemon n k a b c v m))

-- ---- a creation, and main's bracket

-- <D@SD>register![b S]
abbrev pub registers : ℕ → ℕ → ℕ → ℕ → Proc
registers n k b s = tells n k (register n) (pair (variable b) (variable s))

-- (ack?_ -> (P | <a@S>ack![] | currentloc!S) | *deliver?[l t] -> (open l | <D@SD>dack![b t]) | K | <D@SD>register![b S])
abbrev pub child_text : ℕ → ℕ → Expr → ℕ → ℕ → ℕ → ℕ → ℕ → Proc → Proc
child_text n k a b s l t c p =
    beside k (with_cache n k c (beside k
    (begins n k a s p)
    (server_text n k (variable b) l t)))
    (registers n k b s)

-- agent b = P in Q becomes
-- currentloc?S -> agent b = (ack?_ -> (P | <a@S>ack![] | currentloc!S) | *deliver?[l t] -> (open l | <D@SD>dack![b t]) | K
--     | <D@SD>register![b S]) in ack?_ -> (Q | currentloc!S)
abbrev pub agent_text : ℕ → ℕ → Expr → ℕ → ℕ → ℕ → ℕ → ℕ → Proc → Proc → Proc
agent_text n k a b s l t c p q =
    takes k (currentloc n) (name s) (process k role.Plain (form.Agent b
    (child_text n k a b s l t c p)
    (settles n k (variable s) q)))

-- (P | currentloc!s | *deliver?[l t] -> (open l | <D@SD>dack![main t]) | K), where s is main's site
abbrev pub main_text : ℕ → ℕ → ℕ → ℕ → ℕ → Proc → Proc
main_text n s l t c p = with_cache n 0 c (central.main_text n s l t p)
