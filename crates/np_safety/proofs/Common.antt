-- The names that most proofs of this crate cite, passed on from one place.
pub use Rattle.np_calculus.proofs.Common.{Name, Value, out-Value, Expr, Pat, Proc, ProcForm-F, Event, same_name, same_name-is, Env, Layer, layer, Config}
pub use Rattle.np_calculus.specs.declared.config.Atom.{Atom}
pub use Rattle.std.specs.Ordering.{nat_cmp}
pub use Rattle.np_syntax.specs.declared.value.Value.{Value-F}
pub use Rattle.np_syntax.specs.declared.types.Cap.{Cap}
pub use Rattle.np_syntax.specs.declared.types.Ty.{Ty, Ty-F, out-Ty}
pub use Rattle.np_syntax.specs.declared.types.Ty.TheVariants.{outs-Tuple}
pub use Rattle.np_syntax.specs.Results.{◌>>=◌, ◌>>◌}
pub use Rattle.np_syntax.proofs.Bools.{and-in, and-out}
pub use Rattle.np_syntax.proofs.Results.{then, done}
pub use Rattle.np_syntax.proofs.Trees.{With}
pub use Rattle.np_tables.proofs.Tables.{put_cases}
pub use Rattle.np_types.specs.declared.fault.Rule.{Rule}
pub use Rattle.np_types.specs.Sub.{TyLayer, reads, writes, sub, sub_all, is_int, is_bool, is_site, is_agent, is_letter, is_places}
pub use Rattle.np_syntax.specs.Parts.{as_channel}
pub use Rattle.np_types.specs.Checks.{Check, ensure}
pub use Rattle.np_types.specs.Worlds.{World, kinds, is_lock_chan, all_locks}
unfoldable pub use Rattle.np_types.specs.Worlds.{kind}
pub use Rattle.np_types.specs.Least.{Types, least, channel}
unfoldable pub use Rattle.np_types.specs.Least.{least_of}
unfoldable pub use Rattle.np_types.specs.Covers.{cover}
pub use Rattle.np_types.proofs.Subs.{sub-itself, sub-trans}
pub use Rattle.np_types.proofs.Below.{site_below}
pub use Rattle.np_types.proofs.Passed.{when, ensured, wanted}
pub use Rattle.np_types.proofs.ValueTypes.{kind-out}
pub use Rattle.np_check.specs.Faults.{Checking, lock_type, check_step}
unfoldable pub use Rattle.np_check.specs.Faults.{check}
unfoldable pub use Rattle.np_eval.specs.Eval.{eval}
pub use Rattle.np_safety.specs.Channels.{Channels, world}
pub use Rattle.np_safety.specs.Fits.{Fits, Sent, LeastOf}
pub use Rattle.np_safety.specs.Typed.{Typed}
