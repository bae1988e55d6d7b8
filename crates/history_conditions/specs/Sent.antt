-- What an output sends (docs/PICTURES.md, "Refusals").
use Rattle.std.specs.Prelude.{Option, Some}
use Rattle.np_syntax.specs.declared.value.Value.{Value}
use Rattle.np_syntax.specs.Options.{◌>>=◌}
use Rattle.np_calculus.specs.declared.config.Atom.{Atom}
use Rattle.np_calculus.specs.Reductions.{sends}

-- the value that an atom sends, if it is an output whose operands have values
abbrev pub sent_of : Atom → Option Value
sent_of b = sends b >>= λ sent. Some sent.1
