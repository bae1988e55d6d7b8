-- What the forms that each infrastructure translates in a way of its own become, main's bracket, and the daemon, by the infrastructure
-- (docs/TRANSLATION.md, "Translation and daemon"). Here n is the number of sites, k that of the source node, and a the agent that the form
-- stands in. Binders are given for both infrastructures: those of a post from m, and those that keep an agent's cache from c.
use Rattle.std.specs.Prelude.{ℕ}
use Rattle.np_syntax.specs.declared.expression.Expr.{Expr}
use Rattle.np_syntax.specs.declared.process.Role.TheVariants as role
use Rattle.np_syntax.specs.declared.process.Proc.{Proc}
use Rattle.np_syntax.specs.declared.process.ProcForm as form
use Rattle.infrastructure_texts.specs.Pieces.{variable, name, currentloc, process, takes}
use Rattle.infrastructure_texts.specs.Texts.{settles}
use Rattle.infrastructure_texts.specs.Texts as plain
use Rattle.infrastructure_texts.specs.Daemon.{daemon_text}
use Rattle.infrastructure_texts.specs.CacheTexts as cache
use Rattle.infrastructure_texts.specs.CacheDaemon.{cached_daemon}
use Rattle.infrastructure_texts.specs.Infrastructures.{Infrastructure}

-- <b@?>c!v
abbrev pub post_of : Infrastructure → ℕ → ℕ → Expr → Expr → Expr → Expr → ℕ → Proc
post_of Infrastructure.central n k a b c v m = plain.post_text n k b c v
post_of Infrastructure.cached n k a b c v m = cache.post_text n k a b c v m

-- what a new agent b of a does at its site S, with its server's binders l and t
abbrev pub child_of : Infrastructure → ℕ → ℕ → Expr → ℕ → ℕ → ℕ → ℕ → ℕ → Proc → Proc
child_of Infrastructure.central n k a b s l t c p = plain.child_text n k a b s l t p
child_of Infrastructure.cached n k a b s l t c p = cache.child_text n k a b s l t c p

-- agent b = P in Q becomes currentloc?S -> agent b = .. in ack?_ -> (Q | currentloc!S)
abbrev pub agent_text_of : Infrastructure → ℕ → ℕ → Expr → ℕ → ℕ → ℕ → ℕ → ℕ → Proc → Proc → Proc
agent_text_of i n k a b s l t c p q =
    takes k (currentloc n) (name s) (process k role.Plain (form.Agent b
    (child_of i n k a b s l t c p)
    (settles n k (variable s) q)))

-- main's bracket at its site s, with its server's binders l and t
abbrev pub main_of : Infrastructure → ℕ → ℕ → ℕ → ℕ → ℕ → Proc → Proc
main_of Infrastructure.central n s l t c p = plain.main_text n s l t p
main_of Infrastructure.cached n s l t c p = cache.main_text n s l t c p

-- the daemon, where main's site is s: its binders are numbered from x
abbrev pub daemon_of : Infrastructure → ℕ → ℕ → ℕ → Proc
daemon_of Infrastructure.central n s x = daemon_text n s x
daemon_of Infrastructure.cached n s x = cached_daemon n s x
