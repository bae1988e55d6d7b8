-- What the atoms of an event can do: it is one of the agent exactly where this is it.
use Rattle.std.specs.Prelude.{ℕ, is_some, Option, None, Some}
use Rattle.std.specs.FinMap as map
use Rattle.np_syntax.specs.declared.value.Name.{Name}
use Rattle.np_syntax.specs.declared.process.ProcForm.{ProcForm-F}
use Rattle.np_syntax.specs.declared.event.Kind.{Kind}
use Rattle.np_syntax.specs.declared.event.Kind.TheVariants as kind
use Rattle.np_syntax.specs.Options.{◌>>=◌, ◌>>◌}
use Rattle.np_tables.specs.Names.{NameMap}
use Rattle.np_eval.specs.Eval.{Env, eval, chan_of, agent_of}
use Rattle.np_eval.specs.Forms.{Layer, layer}
use Rattle.np_calculus.specs.declared.config.Atom.{Atom}
use Rattle.agent_pool.specs.declared.ready.Ready.{Ready}
use Rattle.agent_pool.specs.Readies.{only, alone_in, pair_in}

-- the kind of event of a post, where its operands have values
abbrev pub posts : Env → Layer → Option Kind
posts env (ProcForm-F.Post b c e) = agent_of b env >> (chan_of c env >> only (is_some (eval e env)) kind.Post)
posts env _ = None

abbrev pub post_at : Name → Atom → Option Ready
post_at mark a = posts a.env (layer a.proc) >>= λ k. Some (record { kind = k; actor = mark; other = None; tag = a.proc.tag })

abbrev pub post_in : NameMap Atom → Name → Option Ready
post_in atoms mark = map.get atoms mark >>= post_at mark

-- what the atom of a mark can do without another: what a post can for an event of that kind, and else what acts alone can
abbrev pub lone_in : ℕ → NameMap Atom → Kind → Name → Option Ready
lone_in sites atoms kind.Post mark = post_in atoms mark
lone_in sites atoms _ mark = alone_in sites atoms mark

abbrev pub found_with : ℕ → NameMap Atom → Kind → Name → Option Name → Option Ready
found_with sites atoms k mark None = lone_in sites atoms k mark
found_with sites atoms k mark (Some other) = pair_in atoms mark other

abbrev pub found_in : ℕ → NameMap Atom → Ready → Option Ready
found_in sites atoms r = found_with sites atoms r.kind r.actor r.other
