-- The parts of a source's process are of the source, and an atom of it stands for one of the high level still where it goes on as a part.
use Rattle.std.proofs.Common.{◌≡◌, inl, inr, ℕ, ◌+◌, Bool, Some, List, [], ◌∷◌, ◌++◌, refl, sym, subst, ◌∙◌}
use Rattle.std.specs.FinMap as map
use Rattle.np_syntax.specs.declared.value.Name.{Name}
use Rattle.np_syntax.specs.declared.value.Value.{Value}
use Rattle.np_syntax.specs.declared.expression.Expr.{Expr}
use Rattle.np_syntax.specs.declared.pattern.Pat.{Pat}
use Rattle.np_syntax.specs.declared.process.Proc.{Proc}
use Rattle.np_calculus.specs.declared.config.Atom.{Atom}
use Rattle.np_calculus.specs.Reductions.{goes, goes_under}
use Rattle.np_eval.specs.Eval.{Env, bind, eval}
use Rattle.np_scope.specs.Sound.{AllBelow, Among, BindAll, Binds, IsSoundProc, NoneTwice}
use Rattle.np_scope.proofs.SoundParts.{BodyParts, TwoParts}
use Rattle.daemon_encode.proofs.Binders.{among-first, among-second, once-first, once-second, below-first, below-second}
use Rattle.simulate_laws.specs.things.Known.{IsKnown, Knows}
use Rattle.simulate_laws.specs.things.Sources.{Agrees, IsSource, Names}
use Rattle.simulate_laws.proofs.things.Known.{keeps-known}
use Rattle.simulate_laws.proofs.things.Values.{agent-stays, same-binding, agrees-put}
use Rattle.simulate_laws.specs.things.Shapes.{StandsFor}
use Rattle.simulate_laws.proofs.levels.Values.{there_is, bind-one}
use Rattle.infrastructure_texts.specs.Pieces.{name}

-- ---- lists of binders

module _ (from : ℕ) where
  mutual
    -- the binders in scope behind a pattern
    pub below_inner : {scope inner xs : List ℕ} {p : Pat} → Binds scope p inner xs → AllBelow from scope → AllBelow from xs → AllBelow from inner
    below_inner Binds.any s b = s
    below_inner Binds.name s b = (b.0, s)
    below_inner (Binds.tuple bs) s b = below_all bs s b

    below_all : {scope inner xs : List ℕ} {ps : List Pat} → BindAll scope ps inner xs → AllBelow from scope → AllBelow from xs → AllBelow from inner
    below_all BindAll.none s b = s
    below_all (BindAll.more {xs = xs} {ys = ys} p ps) s b = below_all ps (below_inner p s (below-first from xs ys b)) (below-second from xs ys b)

-- what names an agent in a process names it in a part
pub named_part : {n from : ℕ} {xs ys : List ℕ} {a : Expr} → ((y : ℕ) → Among y ys → Among y xs) → Names n from xs a → Names n from ys a
named_part f Names.as_main = Names.as_main
named_part f (Names.as_binder {y = y} below apart) = Names.as_binder below (λ m. apart (f y m))

-- one more binder is known of
pub knows_put : (agents chans : Name → Bool) (from x : ℕ) (u : Value) (env : Env) → Knows agents chans from env → IsKnown agents chans u
    → Knows agents chans from (map.insert env x u)
knows_put agents chans from x u env k g = keeps-known agents chans from [] (x ∷ []) (x ∷ []) (name x) u env (map.insert env x u) Binds.name k g
    (bind-one x u env)

-- ---- parts

module _ {n from : ℕ} {a : Expr} {whole : Proc} (s : IsSource n from a whole) where
  pub first_part : {p q : Proc} → TwoParts n s.scope s.node s.after s.bound s.scope s.bound p q → IsSource n from a p
  first_part t = record {
    scope = s.scope;
    node = s.node + 1;
    after = t.mid;
    bound = t.xs;
    sound = t.first;
    in_scope = s.in_scope;
    below = below-first from t.xs t.ys (subst (AllBelow from) t.is s.below);
    once = once-first t.xs t.ys (subst NoneTwice t.is s.once);
    named = named_part (λ y m. subst (Among y) (sym t.is) (among-first y t.xs t.ys m)) s.named;
  }

  pub second_part : {p q : Proc} → TwoParts n s.scope s.node s.after s.bound s.scope s.bound p q → IsSource n from a q
  second_part t = record {
    scope = s.scope;
    node = t.mid;
    after = s.after;
    bound = t.ys;
    sound = t.second;
    in_scope = s.in_scope;
    below = below-second from t.xs t.ys (subst (AllBelow from) t.is s.below);
    once = once-second t.xs t.ys (subst NoneTwice t.is s.once);
    named = named_part (λ y m. subst (Among y) (sym t.is) (among-second y t.xs t.ys m)) s.named;
  }

  -- the body behind a pattern
  pub body_part : {x : Pat} {p : Proc} → BodyParts n s.scope s.node s.after s.bound x p → IsSource n from a p
  body_part t =
      let below : AllBelow from (t.xs ++ t.ys) = subst (AllBelow from) t.is s.below in
      record {
        scope = t.inner;
        node = s.node + 1;
        after = s.after;
        bound = t.ys;
        sound = t.body;
        in_scope = below_inner from t.binds s.in_scope (below-first from t.xs t.ys below);
        below = below-second from t.xs t.ys below;
        once = once-second t.xs t.ys (subst NoneTwice t.is s.once);
        named = named_part (λ y m. subst (Among y) (sym t.is) (among-second y t.xs t.ys m)) s.named;
      }

  -- the body behind one binder
  pub binder_part : {p : Proc} (x : ℕ) (xs : List ℕ) → s.bound ≡ x ∷ xs → IsSoundProc n (x ∷ s.scope) (s.node + 1) p s.after xs → IsSource n from a p
  binder_part x xs is sound =
      let below : AllBelow from (x ∷ xs) = subst (AllBelow from) is s.below in
      let once : NoneTwice (x ∷ xs) = subst NoneTwice is s.once in
      record {
        scope = x ∷ s.scope;
        node = s.node + 1;
        after = s.after;
        bound = xs;
        sound = sound;
        in_scope = (below.0, s.in_scope);
        below = below.1;
        once = once.1;
        named = named_part (λ y m. subst (Among y) (sym is) (inr m)) s.named;
      }

-- ---- atoms that go on

-- with their environments
pub goes_on : {n from : ℕ} {x : Expr} {h a : Atom} {p : Proc} (q : Proc) → StandsFor n from x h a → IsSource n from x p
    → StandsFor n from x (goes h p) (goes a q)
goes_on q s source = record { agent = s.agent; apart = s.apart; source = source; agrees = s.agrees; called = s.called }

-- with more binders at both levels
pub record BoundBoth (n from : ℕ) (x : Expr) (h : Atom) (given : Env) (p : Proc) (v : Value) : Type 0 where
  pub env : Env
  pub source : IsSource n from x p
  pub agrees : Agrees from given env
  pub stays : eval x env ≡ eval x h.env
  pub knows : (agents chans : Name → Bool) → Knows agents chans from h.env → IsKnown agents chans v → Knows agents chans from env

pub goes_on_under : {n from : ℕ} {x : Expr} {h a : Atom} {given : Env} {p : Proc} {v : Value} (q : Proc) → StandsFor n from x h a
    → (b : BoundBoth n from x h given p v)
    → StandsFor n from x (goes_under h p b.env) (goes_under a q given)
goes_on_under q s b = record { agent = s.agent; apart = s.apart; source = b.source; agrees = b.agrees; called = b.stays ∙ s.called }

module _ {n from : ℕ} {x : Expr} {h a : Atom} (s : StandsFor n from x h a) where
  -- a pattern that binds a value at the low level binds it at the high one
  pub bound_both : {y : Pat} {p : Proc} (v : Value) (given : Env) → BodyParts n s.source.scope s.source.node s.source.after s.source.bound y p
      → bind y v a.env ≡ Some given
      → (b : BoundBoth n from x h given p v) × (bind y v h.env ≡ Some b.env)
  bound_both {y} {p} v given t is =
      let r = same-binding from s.source.scope t.inner t.xs y v a.env h.env given t.binds s.agrees is in (
        record {
          env = r.env;
          source = body_part s.source t;
          agrees = r.agrees;
          stays = agent-stays n from t.xs x h.env r.env (named_part (λ z m. subst (Among z) (sym t.is) (among-first z t.xs t.ys m)) s.source.named) r.others;
          knows = λ agents chans k g. keeps-known agents chans from s.source.scope t.inner t.xs y v h.env r.env t.binds k g r.is;
        },
        r.is,
      )

  -- one binder at both levels
  pub binder_both : {p : Proc} (y : ℕ) (xs : List ℕ) (v : Value) → s.source.bound ≡ y ∷ xs
      → IsSoundProc n (y ∷ s.source.scope) (s.source.node + 1) p s.source.after xs
      → (b : BoundBoth n from x h (map.insert a.env y v) p v) × (b.env ≡ map.insert h.env y v)
  binder_both y xs v is sound = (
    record {
      env = map.insert h.env y v;
      source = binder_part s.source y xs is sound;
      agrees = agrees-put from y v a.env h.env s.agrees;
      stays = agent-stays n from (y ∷ []) x h.env (map.insert h.env y v) (named_part first s.source.named)
          (λ z apart. there_is h.env y z v (λ e. apart (inl e)));
      knows = λ agents chans k g. knows_put agents chans from y v h.env k g;
    },
    refl,
  )
    where
      first : (z : ℕ) → Among z (y ∷ []) → Among z s.source.bound
      first z (inl e) = subst (Among z) (sym is) (inl e)
      first z (inr m) = absurd m
