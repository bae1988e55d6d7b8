-- The names that most proofs of this crate cite, passed on from one place.
pub use Rattle.np_syntax.specs.declared.value.Name.{Name}
pub use Rattle.np_syntax.specs.declared.value.Value.{Value, out-Value}
pub use Rattle.np_syntax.specs.declared.expression.Expr.{Expr}
pub use Rattle.np_syntax.specs.declared.pattern.Pat.{Pat}
pub use Rattle.np_syntax.specs.declared.process.Proc.{Proc}
pub use Rattle.np_syntax.specs.declared.process.ProcForm.{ProcForm-F}
pub use Rattle.np_syntax.specs.declared.event.Event.{Event}
pub use Rattle.np_syntax.specs.declared.event.Kind.{Kind}
pub use Rattle.np_syntax.specs.declared.event.Made.{Made}
pub use Rattle.np_syntax.specs.Options.{◌>>=◌, ◌>>◌, need}
pub use Rattle.np_syntax.proofs.Options.{then, when, done}
pub use Rattle.np_tables.specs.Names.{NameMap, NameSet, same_name}
pub use Rattle.np_tables.proofs.Tables.{same_name-is, same_name-itself}
pub use Rattle.np_eval.specs.Eval.{Env, chan_of, agent_of, truth_of, letter_of, places_of, find_place}
unfoldable pub use Rattle.np_eval.specs.Eval.{eval, bind}
pub use Rattle.np_eval.specs.Forms.{Layer, layer}
pub use Rattle.np_calculus.specs.declared.config.Atom.{Atom}
pub use Rattle.np_calculus.specs.declared.config.Packet.{Packet}
pub use Rattle.np_calculus.specs.declared.config.Place.{Place}
pub use Rattle.np_calculus.specs.Config.{Config}
pub use Rattle.np_calculus.specs.Sight.{Contents, Sight, inside, sight, at_site}
pub use Rattle.np_calculus.specs.Changes.{Change, Write, effect}
pub use Rattle.np_calculus.specs.Reductions.{same_tag, way, none_made, one_made, two_made, no_other, goes, output_in, found_on, sends, offered_in, acting_in, are_new, after_change, change, row, apply}
unfoldable pub use Rattle.np_calculus.specs.Reductions.{here_row, away_row, act, arrive_row, land_row}
pub use Rattle.np_calculus.specs.Seen.{acting, is_at, offered}
