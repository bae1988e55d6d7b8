-- What a process of an agent waits for.
use Rattle.std.specs.Prelude.{Option, None, Some}
use Rattle.np_syntax.specs.declared.value.Name.{Name}
use Rattle.np_syntax.specs.declared.process.ProcForm.{ProcForm-F}
use Rattle.np_tables.specs.declared.errand.Errand.{Errand}
use Rattle.np_tables.specs.declared.errand.Errand.TheVariants as errand
use Rattle.np_eval.specs.Eval.{Env, chan_of}
use Rattle.np_eval.specs.Forms.{Layer}

abbrev pub giving : Name → Option Name → Errand
giving agent (Some chan) = errand.Gives (record { agent = agent; chan = chan })
giving agent None = errand.Stuck

abbrev pub taking : Name → Option Name → Errand
taking agent (Some chan) = errand.Takes (record { agent = agent; chan = chan })
taking agent None = errand.Stuck

-- an output and an input wait on their channel in their agent, and every other form acts alone
abbrev pub errand_at : Name → Env → Layer → Errand
errand_at agent env (ProcForm-F.Out c e) = giving agent (chan_of c env)
errand_at agent env (ProcForm-F.Inp c x body) = taking agent (chan_of c env)
errand_at agent env (ProcForm-F.Rep c x body) = taking agent (chan_of c env)
errand_at agent env _ = errand.Acts
