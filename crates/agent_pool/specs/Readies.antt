-- What an agent can do (docs/LANGUAGE.md, "Reductions").
use Rattle.std.specs.Prelude.{◌≡◌, ℕ, Bool, false, is_some, ◌&&◌, length, Option, None, Some, IsSome}
use Rattle.std.specs.FinMap as map
use Rattle.np_syntax.specs.declared.value.Name.{Name}
use Rattle.np_syntax.specs.declared.value.Value.{Value}
use Rattle.np_syntax.specs.declared.expression.Expr.{Expr}
use Rattle.np_syntax.specs.declared.pattern.Pat.{Pat}
use Rattle.np_syntax.specs.declared.process.ProcForm.{ProcForm-F}
use Rattle.np_syntax.specs.declared.event.Event.{Event}
use Rattle.np_syntax.specs.declared.event.Kind.{Kind}
use Rattle.np_syntax.specs.declared.event.Kind.TheVariants as kind
use Rattle.np_syntax.specs.Options.{◌>>=◌, ◌>>◌, need}
use Rattle.np_tables.specs.Names.{NameMap, same_name}
use Rattle.np_eval.specs.Eval.{Env, eval, bind, chan_of, agent_of, truth_of, letter_of, places_of}
use Rattle.np_eval.specs.Fitting.{fits}
use Rattle.np_eval.specs.Forms.{Layer, layer}
use Rattle.np_calculus.specs.declared.config.Atom.{Atom}
use Rattle.np_calculus.specs.Reductions.{sends, site_in}
use Rattle.np_calculus.specs.Rows.{change_in, made_of}
use Rattle.np_calculus.specs.Sight.{Sight}
use Rattle.np_code.specs.Programs.{ProgramTable}
use Rattle.agent_pool.specs.declared.ready.Ready.{Ready}
use Rattle.agent_pool.specs.Rows.{event_of}

-- what these atoms see where they stand alone: the program's sites, themselves, and whether an agent for which one asks is here
abbrev pub sight_of : ProgramTable → NameMap Atom → Bool → Sight
sight_of code atoms here = record { sites = length code.sites; here = λ q. here; atom = map.get atoms }

-- the row of a ready's kind is met by its event, whatever names it makes, and whether or not an agent that it asks for is here
abbrev pub IsReady : ProgramTable → NameMap Atom → Ready → Type 0
IsReady code atoms r = (here : Bool) (first second : Name)
    → IsSome (change_in r.kind (sight_of code atoms here) (event_of 0 r (made_of r.kind here first second)))

-- it is no post: those are of the high level alone
abbrev pub NoPost : Ready → Type 0
NoPost r = r.kind ≡ kind.Post → ⊥

-- no event of these atoms has its row met, but for posts, which no low program has
pub record NothingReady (code : ProgramTable) (atoms : NameMap Atom) : Type 0 where
  pub none : (here : Bool) (e : Event) → (e.kind ≡ kind.Post → ⊥) → change_in e.kind (sight_of code atoms here) e ≡ None

-- the kind, where the test is met
abbrev pub only : Bool → Kind → Option Kind
only test k = need test >> Some k

-- the kind of event that an atom of each form makes alone, where its operands have the values that the row needs
abbrev pub begins : ℕ → Env → Layer → Option Kind
begins sites env ProcForm-F.Stop = Some kind.Stop
begins sites env (ProcForm-F.Par left right) = Some kind.Fork
begins sites env (ProcForm-F.New x ty body) = Some kind.New
begins sites env (ProcForm-F.Agent b body rest) = Some kind.Agent
begins sites env (ProcForm-F.Migrate s body) = site_in sites s env >> Some kind.Depart
begins sites env (ProcForm-F.IfLocal b c e met unmet) = agent_of b env >> (chan_of c env >> only (is_some (eval e env)) kind.Local)
begins sites env (ProcForm-F.Send b s c e) = agent_of b env
    >> (site_in sites s env >> (chan_of c env >> only (is_some (eval e env)) kind.Send))
begins sites env (ProcForm-F.If e met unmet) = only (is_some (truth_of e env)) kind.If
begins sites env (ProcForm-F.Let pat e body) = only (fits pat e env) kind.Let
begins sites env (ProcForm-F.Print e) = only (is_some (eval e env)) kind.Print
begins sites env (ProcForm-F.Open e) = only (is_some (letter_of e env)) kind.Open
begins sites env (ProcForm-F.Lookup b m x met unmet) = agent_of b env >> only (is_some (places_of m env)) kind.Lookup
begins sites env _ = None

abbrev pub alone_at : ℕ → Name → Atom → Option Ready
alone_at sites mark a = begins sites a.env (layer a.proc) >>= λ k. Some (record { kind = k; actor = mark; other = None; tag = a.proc.tag })

-- the kind of event that an input makes, its channel and its pattern
abbrev pub taken_by : Layer → Option (Kind × Expr × Pat)
taken_by (ProcForm-F.Inp c pat body) = Some (kind.Comm, c, pat)
taken_by (ProcForm-F.Rep c pat body) = Some (kind.Rep, c, pat)
taken_by _ = None

-- the atom is an output on the channel, and its value fits the pattern
abbrev pub fits_on : Name → Pat → Env → Name × Value → Bool
fits_on chan pat env sent = same_name chan sent.0 && is_some (bind pat sent.1 env)

abbrev pub offers_in : Option (Name × Value) → Name → Pat → Env → Bool
offers_in None chan pat env = false
offers_in (Some sent) chan pat env = fits_on chan pat env sent

abbrev pub offers : Atom → Name → Pat → Env → Bool
offers b chan pat env = offers_in (sends b) chan pat env

-- the kind of event that an input makes with an output, where they meet on a channel and the value fits
abbrev pub meets : Atom → Atom → Option Kind
meets a b = do
  (k, c, pat) ← taken_by (layer a.proc)
  chan ← chan_of c a.env
  need (offers b chan pat a.env)
  Some k

abbrev pub pair_at : Name → Atom → Name → Atom → Option Ready
pair_at mark a other b = meets a b >>= λ k. Some (record { kind = k; actor = mark; other = Some other; tag = a.proc.tag })

-- what the atom of a mark can do alone, and what it can do with that of another mark
abbrev pub alone_in : ℕ → NameMap Atom → Name → Option Ready
alone_in sites atoms mark = map.get atoms mark >>= alone_at sites mark

abbrev pub pair_in : NameMap Atom → Name → Name → Option Ready
pair_in atoms mark other = do
  a ← map.get atoms mark
  b ← map.get atoms other
  pair_at mark a other b

-- no atom can do anything alone
pub record NoneAlone (sites : ℕ) (atoms : NameMap Atom) : Type 0 where
  pub each : (mark : Name) → alone_in sites atoms mark ≡ None

-- no two atoms can do anything together
pub record NoneMeet (atoms : NameMap Atom) : Type 0 where
  pub each : (mark other : Name) → pair_in atoms mark other ≡ None
