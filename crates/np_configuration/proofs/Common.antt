-- The names that most proofs of this crate cite, passed on from one place.
pub use Rattle.np_syntax.specs.Options.{◌>>=◌}
pub use Rattle.np_syntax.specs.declared.event.Event.{Event}
pub use Rattle.np_syntax.specs.declared.expression.Expr.{Expr}
pub use Rattle.np_syntax.specs.declared.process.Proc.{Proc}
pub use Rattle.np_syntax.specs.declared.process.ProcForm.{ProcForm-F}
pub use Rattle.np_syntax.specs.declared.value.Name.{Name}
pub use Rattle.np_syntax.specs.declared.value.Value.{Value}
pub use Rattle.np_tables.specs.Errands.{NothingReady, Work}
pub use Rattle.np_tables.specs.Mapped.{mapped}
pub use Rattle.np_tables.specs.Names.{NameMap, NameSet, same_name}
pub use Rattle.np_tables.specs.Stored.{Covers}
pub use Rattle.np_tables.specs.declared.errand.Errand.{Errand}
pub use Rattle.np_tables.specs.declared.errand.Meeting.{Meeting}
pub use Rattle.np_tables.proofs.Mapped.{get-mapped}
pub use Rattle.np_tables.proofs.Tables.{get-none, same_tables}
pub use Rattle.np_eval.specs.Errands.{errand_at, giving}
pub use Rattle.np_eval.specs.Eval.{Env, chan_of}
pub use Rattle.np_eval.specs.Forms.{layer}
pub use Rattle.np_calculus.specs.Config.{Config}
pub use Rattle.np_calculus.specs.Idle.{Idle}
pub use Rattle.np_calculus.specs.Parts.{IsLodged}
pub use Rattle.np_calculus.specs.Reductions.{goes, goes_under, output_in, row}
pub use Rattle.np_calculus.specs.Seen.{acting}
pub use Rattle.np_calculus.specs.Sight.{inside}
pub use Rattle.np_calculus.specs.Starts.{main_mark}
pub use Rattle.np_calculus.specs.declared.config.Atom.{Atom}
pub use Rattle.np_calculus.specs.declared.config.Packet.{Packet}
pub use Rattle.np_calculus.specs.declared.config.Place.{Place}
pub use Rattle.np_calculus.proofs.Steps.{acting-step}
pub use Rattle.np_configuration.specs.Placed.{NoneTravels}
pub use Rattle.np_configuration.specs.Errands.{IsKept, errand_of}
pub use Rattle.np_configuration.specs.Found.{found_env}
pub use Rattle.np_configuration.specs.Going.{GivesAt, MayAct}
pub use Rattle.np_configuration.specs.contracts.cfg.Cfg.{the_view}
