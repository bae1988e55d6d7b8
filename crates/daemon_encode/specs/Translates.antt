-- A low program of a program, by the infrastructure and whatever the numbers of the binders that the infrastructure makes, as long as they
-- are none of the program's (docs/TRANSLATION.md, "Translation and daemon"). What holds of low programs holds for each such numbering.
use Rattle.std.specs.Prelude.{◌≡◌, ◌≤◌, ℕ, length}
use Rattle.np_syntax.specs.declared.types.Ty.{Ty}
use Rattle.np_syntax.specs.declared.expression.Expr.{Expr}
use Rattle.np_syntax.specs.declared.pattern.Pat.{Pat}
use Rattle.np_syntax.specs.declared.process.Tag.{Tag}
use Rattle.np_syntax.specs.declared.process.Proc.{Proc}
use Rattle.np_syntax.specs.declared.process.ProcForm.{ProcForm}
use Rattle.np_syntax.specs.declared.process.ProcForm as form
use Rattle.np_syntax.specs.declared.program.Program.{Program}
use Rattle.np_syntax.specs.declared.program.LowProgram.{LowProgram}
use Rattle.infrastructure_texts.specs.Pieces.{variable, main}
use Rattle.infrastructure_texts.specs.Texts.{migrate_text}
use Rattle.infrastructure_texts.specs.Infrastructures.{Infrastructure}
use Rattle.infrastructure_texts.specs.InfrastructureTexts.{post_of, agent_text_of, main_of, daemon_of}
use Rattle.daemon_encode.specs.Encoded.{translated, encoded}

-- a source process, with its tag and its offset
abbrev pub source : Tag → ℕ → ProcForm → Proc
source tag at f = record { tag = tag; at = at; form = f }

-- Of an infrastructure, of n sites and with binders made from a number on: the agent that a process stands in, the process, and a low
-- process of it.
pub data Translates (i : Infrastructure) (n from : ℕ) : Expr → Proc → Proc → Type 0 where
  stop : {a : Expr} {k : Tag} {at : ℕ} → Translates i n from a (source k at form.Stop) (source k at form.Stop)
  parallel : {a : Expr} {k : Tag} {at : ℕ} {p p' q q' : Proc} → Translates i n from a p p' → Translates i n from a q q'
      → Translates i n from a (source k at (form.Par p q)) (source k at (form.Par p' q'))
  channel : {a : Expr} {k : Tag} {at c : ℕ} {t : Ty} {p p' : Proc} → Translates i n from a p p'
      → Translates i n from a (source k at (form.New c t p)) (source k at (form.New c t p'))
  output : {a : Expr} {k : Tag} {at : ℕ} {c e : Expr} → Translates i n from a (source k at (form.Out c e)) (source k at (form.Out c e))
  input : {a : Expr} {k : Tag} {at : ℕ} {c : Expr} {x : Pat} {p p' : Proc} → Translates i n from a p p'
      → Translates i n from a (source k at (form.Inp c x p)) (source k at (form.Inp c x p'))
  replicated : {a : Expr} {k : Tag} {at : ℕ} {c : Expr} {x : Pat} {p p' : Proc} → Translates i n from a p p'
      → Translates i n from a (source k at (form.Rep c x p)) (source k at (form.Rep c x p'))
  -- P is translated for the new agent, and Q for the one that makes it
  agent : {a : Expr} {k : Tag} {at b s l t c : ℕ} {p p' q q' : Proc} → from ≤ s → from ≤ l → from ≤ t → (l ≡ t → ⊥) → from ≤ c
      → Translates i n from (variable b) p p' → Translates i n from a q q'
      → Translates i n from a (source k at (form.Agent b p q)) (agent_text_of i n k.node a b s l t c p' q')
  migrate : {a : Expr} {k : Tag} {at : ℕ} {e : Expr} {p p' : Proc} → Translates i n from a p p'
      → Translates i n from a (source k at (form.Migrate e p)) (migrate_text n k.node a e p')
  iflocal : {a : Expr} {k : Tag} {at : ℕ} {b c e : Expr} {p p' q q' : Proc} → Translates i n from a p p' → Translates i n from a q q'
      → Translates i n from a (source k at (form.IfLocal b c e p q)) (source k at (form.IfLocal b c e p' q'))
  send : {a : Expr} {k : Tag} {at : ℕ} {b s c e : Expr}
      → Translates i n from a (source k at (form.Send b s c e)) (source k at (form.Send b s c e))
  post : {a : Expr} {k : Tag} {at m : ℕ} {b c v : Expr} → from ≤ m
      → Translates i n from a (source k at (form.Post b c v)) (post_of i n k.node a b c v m)
  test : {a : Expr} {k : Tag} {at : ℕ} {e : Expr} {p p' q q' : Proc} → Translates i n from a p p' → Translates i n from a q q'
      → Translates i n from a (source k at (form.If e p q)) (source k at (form.If e p' q'))
  bind : {a : Expr} {k : Tag} {at : ℕ} {x : Pat} {e : Expr} {p p' : Proc} → Translates i n from a p p'
      → Translates i n from a (source k at (form.Let x e p)) (source k at (form.Let x e p'))
  print : {a : Expr} {k : Tag} {at : ℕ} {e : Expr} → Translates i n from a (source k at (form.Print e)) (source k at (form.Print e))
  open_letter : {a : Expr} {k : Tag} {at : ℕ} {e : Expr} → Translates i n from a (source k at (form.Open e)) (source k at (form.Open e))
  lookup : {a : Expr} {k : Tag} {at x : ℕ} {b m : Expr} {p p' q q' : Proc} → Translates i n from a p p' → Translates i n from a q q'
      → Translates i n from a (source k at (form.Lookup b m x p q)) (source k at (form.Lookup b m x p' q'))

-- a low program of a program: the binders that are made are none of the program's
pub record IsLowOf (i : Infrastructure) (p : Program) (q : LowProgram) : Type 0 where
  pub sites : q.sites ≡ p.sites
  pub at : q.at ≡ p.at
  pub body : Proc
  pub translates : Translates i (length p.sites) p.binders (main (length p.sites)) p.main body
  -- of main's server
  pub letter : ℕ
  pub place : ℕ
  pub letter_above : p.binders ≤ letter
  pub place_above : p.binders ≤ place
  pub apart : letter ≡ place → ⊥
  -- of main's cache
  pub cache : ℕ
  pub cache_above : p.binders ≤ cache
  pub main : q.main ≡ main_of i (length p.sites) p.at letter place cache body
  -- of the daemon
  pub first : ℕ
  pub first_above : p.binders ≤ first
  pub daemon : q.daemon ≡ daemon_of i (length p.sites) p.at first

-- the translation of a process is one of it by the central infrastructure, where binders are made from any number up to the next on
abbrev pub TranslatesItself : Type 0
TranslatesItself = (n from : ℕ) (a : Expr) (p : Proc) (next : ℕ) → from ≤ next
    → Translates Infrastructure.central n from a p (translated n p a next).proc

-- the low program of a program is one of it
abbrev pub EncodesItself : Type 0
EncodesItself = (p : Program) → IsLowOf Infrastructure.central p (encoded p)
