-- What the laws of the translation with caches say (docs/TRANSLATION.md, "Translation and daemon").
use Rattle.std.specs.Prelude.{◌≤◌, ℕ}
use Rattle.np_syntax.specs.declared.expression.Expr.{Expr}
use Rattle.np_syntax.specs.declared.process.Proc.{Proc}
use Rattle.np_syntax.specs.declared.program.Program.{Program}
use Rattle.infrastructure_texts.specs.Infrastructures.{Infrastructure}
use Rattle.daemon_encode.specs.Translates.{Translates, IsLowOf}
use Rattle.cache_encode.specs.Encoded.{cached, encoded_cached}

-- the translation of a process is one of it by the infrastructure with caches, where binders are made from any number up to the next on
abbrev pub CachedTranslatesItself : Type 0
CachedTranslatesItself = (n from : ℕ) (a : Expr) (p : Proc) (next : ℕ) → from ≤ next
    → Translates Infrastructure.cached n from a p (cached n p a next).proc

-- the low program of a program is one of it
abbrev pub CachedEncodesItself : Type 0
CachedEncodesItself = (p : Program) → IsLowOf Infrastructure.cached p (encoded_cached p)
