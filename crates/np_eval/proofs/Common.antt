-- The names that most proofs of this crate cite, passed on from one place.
pub use Rattle.std.specs.Option.{is_some}
pub use Rattle.np_syntax.specs.declared.value.Name.{Name}
pub use Rattle.np_syntax.specs.declared.value.Value.{Value, Value-F, out-Value}
pub use Rattle.np_syntax.specs.declared.value.Value.TheVariants.{outs-Int, outs-Truth, outs-Letter, outs-Places}
pub use Rattle.np_syntax.specs.declared.expression.Op.{Op}
pub use Rattle.np_syntax.specs.declared.expression.Expr.{Expr, fold_out-Expr}
pub use Rattle.np_syntax.specs.declared.expression.ExprForm.{ExprForm, ExprForm-F, out-ExprForm, map-ExprForm, fold_out-ExprForm}
pub use Rattle.np_syntax.specs.declared.pattern.Pat.{Pat, fold_out-Pat}
pub use Rattle.np_syntax.specs.declared.pattern.PatForm.{PatForm, PatForm-F, out-PatForm, map-PatForm, fold_out-PatForm}
pub use Rattle.np_syntax.specs.Options.{◌>>=◌}
pub use Rattle.np_eval.specs.Eval.{Env, ValueLayer, Binding, as_chan, as_agent, as_places, as_tuple, operate_at, equal_at, bind_step, eval_step}
unfoldable pub use Rattle.np_eval.specs.Eval.{eval, bind}
pub use Rattle.np_eval.specs.Levels.{eval_all, bind_all}
unfoldable pub use Rattle.np_eval.specs.Levels.{eval_form, bind_form}
