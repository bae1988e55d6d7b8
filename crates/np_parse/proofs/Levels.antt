-- A number of levels that is not 0 is one more than another.
use Rattle.std.proofs.Common.{◌≡◌, ℕ, suc, ◌-◌, ◌<◌, List, refl}
use Rattle.np_syntax.specs.declared.limits.TheConstants.{DEEPEST}
use Rattle.np_lex.specs.declared.token.Token.{Token}
use Rattle.np_parse.specs.declared.operator.Rank.{Rank}
use Rattle.np_parse.specs.declared.operator.Rank.TheVariants as rank
use Rattle.np_parse.specs.Input.{nothing}
use Rattle.np_parse.specs.Read.Types.{chan, type}
use Rattle.np_parse.specs.Read.Patterns.{pat}
use Rattle.np_parse.specs.Read.Expressions.{begins_atom, readers, operand, expr}
use Rattle.np_parse.specs.Read.Processes.{proc}
use Rattle.np_parse.proofs.Turns.{deeper}

pub deeper_chan : (n : ℕ) → 0 < n → chan n ≡ chan (suc (n - 1))
deeper_chan n some = deeper chan n some

pub deeper_type : (n : ℕ) → 0 < n → type n ≡ type (suc (n - 1))
deeper_type n some = deeper type n some

pub deeper_pat : (n : ℕ) → 0 < n → pat n ≡ pat (suc (n - 1))
deeper_pat n some = deeper pat n some

-- where no level is left
pub operand_none : (r : Rank) (i : List Token) → operand r 0 i ≡ nothing begins_atom i
unfolding readers
operand_none rank.Product i = refl
operand_none rank.Sum i = refl
operand_none rank.Comparison i = refl

pub deeper_operand : (r : Rank) (n : ℕ) → 0 < n → operand r n ≡ operand r (suc (n - 1))
deeper_operand r n some = deeper (operand r) n some

pub deeper_expr : (n : ℕ) → 0 < n → expr n ≡ expr (suc (n - 1))
deeper_expr n some = deeper expr n some

pub deeper_proc : (n : ℕ) → 0 < n → proc DEEPEST n ≡ proc DEEPEST (suc (n - 1))
deeper_proc n some = deeper (proc DEEPEST) n some
