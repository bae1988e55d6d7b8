-- The daemon's process where agents have caches (docs/TRANSLATION.md, "Translation and daemon"): that of the central infrastructure, and
-- a server that says where agents are. Here n is the number of sites.
use Rattle.std.specs.Prelude.{ℕ, ◌+◌}
use Rattle.np_syntax.specs.declared.process.Proc.{Proc}
use Rattle.infrastructure_texts.specs.Pieces.{variable, name, pair, two_names, beside, gives, takes, sends, finds}
use Rattle.infrastructure_texts.specs.Daemon.{frees, notes, daemon_text}
use Rattle.infrastructure_texts.specs.CacheTexts.{asking, found}

-- (k!u | <a@u>found![b s])
abbrev pub hints : ℕ → ℕ → ℕ → ℕ → ℕ → ℕ → Proc
hints n a b k s u = beside 0 (gives 0 (variable k) (variable u))
    (sends 0 (variable a) (variable u) (found n) (pair (variable b) (variable s)))

-- l?s -> (l!s | k?u -> (k!u | <a@u>found![b s])), which reads both locks, one after the other
abbrev pub reads_locks : ℕ → ℕ → ℕ → ℕ → ℕ → ℕ → ℕ → Proc
reads_locks n a b l k s u = takes 0 (variable l) (name s)
    (beside 0 (gives 0 (variable l) (variable s)) (takes 0 (variable k) (name u) (hints n a b k s u)))

-- *where?[a b] -> lock?m -> lookup b in m then l -> lookup a in m then k -> (l?s -> (l!s | k?u -> (k!u | <a@u>found![b s])) | lock!m)
--     else 0 else 0
abbrev pub where_server : ℕ → ℕ → ℕ → ℕ → ℕ → ℕ → ℕ → ℕ → Proc
where_server n a b m l k s u =
    notes n (asking n) (two_names a b) m (finds 0 b m l (finds 0 a m k (beside 0 (reads_locks n a b l k s u) (frees n m))))

-- the daemon, where main's site is s0: its binders are numbered from x
abbrev pub cached_daemon : ℕ → ℕ → ℕ → Proc
cached_daemon n s0 x = beside 0 (daemon_text n s0 x) (where_server n (x + 21) (x + 22) (x + 23) (x + 24) (x + 25) (x + 26) (x + 27))
