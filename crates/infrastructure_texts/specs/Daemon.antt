-- The daemon's process (docs/TRANSLATION.md, "Translation and daemon"). Here n is the number of sites.
use Rattle.std.specs.Prelude.{ℕ, ◌+◌, [], ◌∷◌}
use Rattle.np_syntax.specs.declared.value.Value as value
use Rattle.np_syntax.specs.declared.expression.Expr.{Expr}
use Rattle.np_syntax.specs.declared.expression.ExprForm as expr
use Rattle.np_syntax.specs.declared.pattern.Pat.{Pat}
use Rattle.np_syntax.specs.declared.process.Proc.{Proc}
use Rattle.np_syntax.specs.declared.process.ProcForm as form
use Rattle.np_calculus.specs.Starts.{own}
use Rattle.np_check.specs.Faults.{lock_type}
use Rattle.infrastructure_texts.specs.Pieces.{expression, variable, name, unit, pair, two_names, site, register, migrating, migrated}
use Rattle.infrastructure_texts.specs.Pieces.{message, deliver, ack, dack, lock, here, infra, beside, gives, takes, serves, sends, finds}

-- lock!{main here}
abbrev pub first_places : ℕ → Proc
first_places n = gives 0 (lock n) (expression (expr.Val (value.Places ((own n 0, own n 13) ∷ []))))

-- lock!m
abbrev pub frees : ℕ → ℕ → Proc
frees n m = gives 0 (lock n) (variable m)

-- <a@s>ack![]
abbrev pub acks : ℕ → ℕ → ℕ → Proc
acks n a s = sends 0 (variable a) (variable s) (ack n) unit

-- *c?p -> lock?m -> P
abbrev pub notes : ℕ → Expr → Pat → ℕ → Proc → Proc
notes n c x m p = serves 0 c x (takes 0 (lock n) (name m) p)

-- *c?p -> lock?m -> lookup a in m then l -> (P | lock!m) else 0
abbrev pub looks_up : ℕ → Expr → Pat → ℕ → ℕ → ℕ → Proc → Proc
looks_up n c x a m l p = notes n c x m (finds 0 a m l (beside 0 p (frees n m)))

-- (m with a -> l)
abbrev pub with_lock : ℕ → ℕ → ℕ → Expr
with_lock m a l = expression (expr.With (variable m) (variable a) (variable l))

-- (lock!(m with a -> l) | l!s | <a@s>ack![])
abbrev pub enters : ℕ → ℕ → ℕ → ℕ → ℕ → Proc
enters n a s m l = beside 0 (beside 0 (gives 0 (lock n) (with_lock m a l)) (gives 0 (variable l) (variable s))) (acks n a s)

-- *register?[a s] -> lock?m -> new l : ^Site in (lock!(m with a -> l) | l!s | <a@s>ack![])
abbrev pub register_server : ℕ → ℕ → ℕ → ℕ → ℕ → Proc
register_server n a s m l = notes n (register n) (two_names a s) m (infra 0 (form.New l lock_type (enters n a s m l)))

-- *migrating?a -> lock?m -> lookup a in m then l -> (l?s -> <a@s>ack![] | lock!m) else 0
abbrev pub migrating_server : ℕ → ℕ → ℕ → ℕ → ℕ → Proc
migrating_server n a m l s = looks_up n (migrating n) (name a) a m l (takes 0 (variable l) (name s) (acks n a s))

-- *migrated?[a t] -> lock?m -> lookup a in m then l -> (l!t | <a@t>ack![] | lock!m) else 0
abbrev pub migrated_server : ℕ → ℕ → ℕ → ℕ → ℕ → Proc
migrated_server n a t m l = looks_up n (migrated n) (two_names a t) a m l (beside 0 (gives 0 (variable l) (variable t)) (acks n a t))

-- *message?[b v] -> lock?m -> lookup b in m then l -> (l?s -> <b@s>deliver![v s] | lock!m) else 0
abbrev pub message_server : ℕ → ℕ → ℕ → ℕ → ℕ → ℕ → Proc
message_server n b v m l s =
    looks_up n (message n) (two_names b v) b m l
    (takes 0 (variable l) (name s) (sends 0 (variable b) (variable s) (deliver n) (pair (variable v) (variable s))))

-- *dack?[b s] -> lock?m -> lookup b in m then l -> (l!s | lock!m) else 0
abbrev pub dack_server : ℕ → ℕ → ℕ → ℕ → ℕ → Proc
dack_server n b s m l = looks_up n (dack n) (two_names b s) b m l (gives 0 (variable l) (variable s))

-- (lock!{main here} | here!s0 | *register.. | *migrating.. | *migrated..)
abbrev pub moves_text : ℕ → ℕ → ℕ → Proc
moves_text n s0 x =
    beside 0 (beside 0 (beside 0 (beside 0
    (first_places n)
    (gives 0 (here n) (site s0)))
    (register_server n x (x + 1) (x + 2) (x + 3)))
    (migrating_server n (x + 4) (x + 5) (x + 6) (x + 7)))
    (migrated_server n (x + 8) (x + 9) (x + 10) (x + 11))

-- the daemon, where main's site is s0: its binders are numbered from x
abbrev pub daemon_text : ℕ → ℕ → ℕ → Proc
daemon_text n s0 x =
    beside 0 (beside 0
    (moves_text n s0 x)
    (message_server n (x + 12) (x + 13) (x + 14) (x + 15) (x + 16)))
    (dack_server n (x + 17) (x + 18) (x + 19) (x + 20))
