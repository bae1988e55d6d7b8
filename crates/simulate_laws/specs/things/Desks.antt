-- The daemon by its servers (docs/TRANSLATION.md, "Translation and daemon"): what each serves, how it takes the map, and what it does with
-- it. Here n is the number of sites, and the daemon's binders are numbered from x.
use Rattle.std.specs.Prelude.{◌≡◌, ℕ, ◌+◌, Some}
use Rattle.std.specs.FinMap as map
use Rattle.np_syntax.specs.declared.value.Value as value
use Rattle.np_syntax.specs.declared.expression.Expr.{Expr}
use Rattle.np_syntax.specs.declared.pattern.Pat.{Pat}
use Rattle.np_syntax.specs.declared.process.Proc.{Proc}
use Rattle.np_syntax.specs.declared.process.ProcForm as form
use Rattle.np_eval.specs.Eval.{Env}
use Rattle.np_check.specs.Faults.{lock_type}
use Rattle.simulate_laws.specs.protocol.Chips.{Service}
use Rattle.infrastructure_texts.specs.Pieces.{variable, name, pair, two_names, register, migrating, migrated, message, deliver, dack, lock}
use Rattle.infrastructure_texts.specs.Pieces.{infra, beside, gives, takes, serves, sends, finds}
use Rattle.infrastructure_texts.specs.Daemon.{acks, enters, frees}
use Rattle.infrastructure_texts.specs.CacheTexts.{asking}
use Rattle.infrastructure_texts.specs.CacheDaemon.{reads_locks}
use Rattle.simulate_laws.specs.things.Mail.{Mail}

-- a server: its channel and pattern, the binder of the map, and what it does then
pub record Desk : Type 0 where
  pub chan : Expr
  pub pattern : Pat
  pub map : ℕ
  pub body : Proc

-- lookup a in m then l -> (P | lock!m) else 0
abbrev pub looks : ℕ → ℕ → ℕ → ℕ → Proc → Proc
looks n a m l p = finds 0 a m l (beside 0 p (frees n m))

-- lookup a in m then k -> (l?s -> .. | lock!m) else 0, where the lock l of the other agent was found
abbrev pub looks_back : ℕ → ℕ → Proc
looks_back n x = finds 0 (x + 21) (x + 23) (x + 25)
    (beside 0 (reads_locks n (x + 21) (x + 22) (x + 24) (x + 25) (x + 26) (x + 27)) (frees n (x + 23)))

abbrev pub desk : ℕ → ℕ → Service → Desk
desk n x Service.registers =
    record {
      chan = register n;
      pattern = two_names x (x + 1);
      map = x + 2;
      body = infra 0 (form.New (x + 3) lock_type (enters n x (x + 1) (x + 2) (x + 3)));
    }
desk n x Service.grants =
    record {
      chan = migrating n;
      pattern = name (x + 4);
      map = x + 5;
      body = looks n (x + 4) (x + 5) (x + 6) (takes 0 (variable (x + 6)) (name (x + 7)) (acks n (x + 4) (x + 7)));
    }
desk n x Service.notes_moves = record {
  chan = migrated n;
  pattern = two_names (x + 8) (x + 9);
  map = x + 10;
  body = looks n (x + 8) (x + 10) (x + 11) (beside 0 (gives 0 (variable (x + 11)) (variable (x + 9))) (acks n (x + 8) (x + 9)));
}
desk n x Service.passes_on = record {
  chan = message n;
  pattern = two_names (x + 12) (x + 13);
  map = x + 14;
  body = looks n (x + 12) (x + 14) (x + 15)
      (takes 0 (variable (x + 15)) (name (x + 16))
      (sends 0 (variable (x + 12)) (variable (x + 16)) (deliver n) (pair (variable (x + 13)) (variable (x + 16)))));
}
desk n x Service.ends_deliveries =
    record {
      chan = dack n;
      pattern = two_names (x + 17) (x + 18);
      map = x + 19;
      body = looks n (x + 17) (x + 19) (x + 20) (gives 0 (variable (x + 20)) (variable (x + 18)));
    }
desk n x Service.tells =
    record {
      chan = asking n;
      pattern = two_names (x + 21) (x + 22);
      map = x + 23;
      body = finds 0 (x + 22) (x + 23) (x + 24) (looks_back n x);
    }

-- lock?m -> P, and the server that goes on so
abbrev pub takes_map : ℕ → Desk → Proc
takes_map n d = takes 0 (lock n) (name d.map) d.body

abbrev pub server : ℕ → Desk → Proc
server n d = serves 0 d.chan d.pattern (takes_map n d)

-- a copy of a server that took this mail has what was in it under its binders
abbrev pub Took : ℕ → Service → Mail → Env → Type 0
Took x Service.registers (Mail.register b s) env = (map.get env x ≡ Some (value.Agent b)) × (map.get env (x + 1) ≡ Some (value.Site s))
Took x Service.grants (Mail.migrating a) env = map.get env (x + 4) ≡ Some (value.Agent a)
Took x Service.notes_moves (Mail.migrated a t) env = (map.get env (x + 8) ≡ Some (value.Agent a))
    × (map.get env (x + 9) ≡ Some (value.Site t))
Took x Service.passes_on (Mail.message p) env = (map.get env (x + 12) ≡ Some (value.Agent p.agent))
    × (map.get env (x + 13) ≡ Some (value.Letter p.chan p.value))
Took x Service.ends_deliveries (Mail.dack b s) env = (map.get env (x + 17) ≡ Some (value.Agent b))
    × (map.get env (x + 18) ≡ Some (value.Site s))
Took x Service.tells (Mail.asks a b) env = (map.get env (x + 21) ≡ Some (value.Agent a)) × (map.get env (x + 22) ≡ Some (value.Agent b))
Took x _ m env = ⊥
