-- Parts of a source's process are of a source; and what names its agent keeps its value where other binders are bound.
use Rattle.std.proofs.Common.{◌≡◌, ◌<◌, inl, inr, ℕ, List, ◌∷◌, ◌++◌, refl, sym, ap, subst, ◌∙◌}
use Rattle.std.specs.FinMap as map
use Rattle.np_syntax.specs.declared.value.Value.{Value}
use Rattle.np_syntax.specs.declared.value.Value as value
use Rattle.np_syntax.specs.declared.expression.Expr.{Expr}
use Rattle.np_syntax.specs.declared.process.Proc.{Proc}
use Rattle.np_syntax.specs.declared.process.ProcForm.{ProcForm-F}
use Rattle.np_calculus.specs.Starts.{own}
use Rattle.np_eval.specs.Eval.{Env, eval}
use Rattle.np_eval.specs.Forms.{layer}
use Rattle.np_scope.specs.Sound.{Among, AllBelow, IsSoundExpr, NoneTwice}
use Rattle.np_scope.proofs.SoundParts.{ProcParts, proc-parts}
use Rattle.infrastructure_texts.specs.Pieces.{variable}
use Rattle.daemon_encode.proofs.Binders.{among-first, among-second, once-first, once-second, below-first, below-second}
use Rattle.simulate_laws.specs.things.Sources.{Agrees, IsSource, Names}
use Rattle.simulate_laws.proofs.things.Values.{agent-stays}
use Rattle.simulate_laws.proofs.things.Starts.{constant-is}
use Rattle.simulate_laws.proofs.levels.Values.{there_is, variable-is}
use Rattle.simulate_laws.proofs.levels.Bodies.{named_part}

-- ---- what names an agent

-- it names the same agent at both levels
pub named_same : (n from : ℕ) (bound : List ℕ) (a : Expr) (low high : Env) → Names n from bound a → Agrees from low high → eval a low ≡ eval a high
named_same n from bound a low high Names.as_main g = constant-is (value.Agent (own n 0)) low ∙ sym (constant-is (value.Agent (own n 0)) high)
named_same n from bound a low high (Names.as_binder {y = y} below apart) g = variable-is y low ∙ g.same y below ∙ sym (variable-is y high)

-- and the same where one of the binders is bound
pub named_stays : (n from : ℕ) (bound : List ℕ) (a : Expr) (env : Env) (b : ℕ) (u : Value) → Names n from bound a → Among b bound
    → eval a (map.insert env b u) ≡ eval a env
named_stays n from bound a env b u names among =
    agent-stays n from bound a env (map.insert env b u) names (λ y apart. there_is env b y u (λ e. apart (subst (λ z. Among z bound) (sym e) among)))

-- ---- parts of processes

-- where an agent migrates to, and what goes on then
pub record MigrateParts (n from : ℕ) (a to : Expr) (p body : Proc) (scope : List ℕ) : Type 0 where
  pub to_sound : IsSoundExpr n scope to
  pub body_source : IsSource n from a body

pub migrate_parts : (n from : ℕ) (a to : Expr) (p body : Proc) (s : IsSource n from a p) → layer p ≡ ProcForm-F.Migrate to body
    → MigrateParts n from a to p body s.scope
migrate_parts n from a to p body s form =
    let parts = subst (ProcParts n s.scope s.node s.after s.bound) form (proc-parts n s.sound) in
    record {
      to_sound = parts.0;
      body_source = record {
        scope = s.scope;
        node = _;
        after = s.after;
        bound = s.bound;
        sound = parts.1;
        in_scope = s.in_scope;
        below = s.below;
        once = s.once;
        named = s.named;
      };
    }

-- the process of an agent that is made, and of the one that makes it
pub record AgentParts (n from : ℕ) (a : Expr) (b : ℕ) (body rest : Proc) : Type 0 where
  pub binder_below : b < from
  pub body_source : IsSource n from (variable b) body
  pub rest_source : IsSource n from a rest
  pub stays : (env : Env) (u : Value) → eval a (map.insert env b u) ≡ eval a env

pub agent_parts : (n from : ℕ) (a : Expr) (b : ℕ) (p body rest : Proc) → IsSource n from a p → layer p ≡ ProcForm-F.Agent b body rest
    → AgentParts n from a b body rest
agent_parts n from a b p body rest s form =
    let parts = subst (ProcParts n s.scope s.node s.after s.bound) form (proc-parts n s.sound) in
    let two = parts.2 in
    let bound : s.bound ≡ b ∷ (two.xs ++ two.ys) = parts.1 ∙ ap (λ xs. b ∷ xs) two.is in
    let below : AllBelow from (b ∷ (two.xs ++ two.ys)) = subst (AllBelow from) bound s.below in
    let once : NoneTwice (b ∷ (two.xs ++ two.ys)) = subst NoneTwice bound s.once in
    let named : Names n from (b ∷ (two.xs ++ two.ys)) a = subst (λ xs. Names n from xs a) bound s.named in
    record {
      binder_below = below.0;
      body_source = record {
        scope = b ∷ s.scope;
        node = _;
        after = _;
        bound = two.xs;
        sound = two.first;
        in_scope = (below.0, s.in_scope);
        below = below-first from two.xs two.ys below.1;
        once = once-first two.xs two.ys once.1;
        named = Names.as_binder below.0 (λ m. once.0 (among-first b two.xs two.ys m));
      };
      rest_source = record {
        scope = b ∷ s.scope;
        node = _;
        after = s.after;
        bound = two.ys;
        sound = two.second;
        in_scope = (below.0, s.in_scope);
        below = below-second from two.xs two.ys below.1;
        once = once-second two.xs two.ys once.1;
        named = named_part (λ y m. inr (among-second y two.xs two.ys m)) named;
      };
      stays = λ env u. named_stays n from (b ∷ (two.xs ++ two.ys)) a env b u named (inl refl);
    }
