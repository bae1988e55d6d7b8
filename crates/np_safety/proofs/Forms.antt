-- What a process without a fault is made of, form by form.
use Rattle.std.proofs.Common.{◌≡◌, ℕ, Bool, true, Option, None, Some, is_some, Ok, refl, subst, sym, ap, ◌∙◌}
use Rattle.std.specs.FinMap as table
use Rattle.np_safety.proofs.Common.{Cap, Ty, out-Ty, Expr, Pat, Proc, ProcForm-F, ◌>>=◌, ◌>>◌, then, done, Rule, TyLayer, reads, writes, sub, is_bool}
use Rattle.np_safety.proofs.Common.{is_site, is_agent, is_letter, is_places, as_channel, ensure, World, Types, least, channel, least_of, cover, when, ensured}
use Rattle.np_safety.proofs.Common.{wanted, Checking, lock_type, check_step, check, Layer, layer}
use Rattle.np_syntax.specs.declared.types.Ty as ty
use Rattle.np_syntax.specs.declared.process.Proc.{fold_out-Proc}
use Rattle.np_syntax.specs.declared.process.ProcForm.{ProcForm, map-ProcForm, fold_out-ProcForm}
use Rattle.np_types.specs.declared.fault.Rule.TheVariants as rule
use Rattle.np_types.specs.Widths.{narrow, printable}
use Rattle.np_types.specs.Least.{input}
use Rattle.np_check.specs.Faults.{is_of, is_printable, is_output, with_names, is_channel, is_for_channels, check_new, check_input}
use Rattle.np_check.specs.Faults.{check_migrate, check_send, check_post, check_let, check_places, check_form}

abbrev pub checks : World → Layer → ProcForm-F (ℕ → Checking) Checking
checks w y = map-ProcForm ProcForm Proc (ℕ → Checking) Checking (check_form w) (check w) y

pub check-out : (w : World) (p : Proc) → check w p ≡ check_step w (checks w (layer p)) p.at
unfolding check check_form
check-out w p =
    fold_out-Proc (ℕ → Checking) Checking (check_step w) (λ p. p.form p.at) p
    ∙ ap (λ (f : ℕ → Checking). f p.at) (fold_out-ProcForm (ℕ → Checking) Checking (check_step w) (λ p. p.form p.at) p.form)

-- the process has no fault
abbrev pub Good : World → Types → Proc → Type 0
Good w types p = check w p types ≡ Ok tt

-- an expression whose type is of a form
pub record Tested (w : World) (types : Types) (test : TyLayer → Bool) (e : Expr) : Type 0 where
  pub type : Ty
  pub is : least w types e ≡ Ok type
  pub passes : test (out-Ty type) ≡ true

pub record OnChannel (w : World) (types : Types) (c : Expr) (k : Cap × Ty) : Type 0 where
  pub type : Ty
  pub is : least w types c ≡ Ok type
  pub chan : as_channel (out-Ty type) ≡ Some k

pub record Sending (w : World) (types : Types) (c e : Expr) : Type 0 where
  pub carries : Cap × Ty
  pub on : OnChannel w types c carries
  pub may_write : writes carries.0 ≡ true
  pub type : Ty
  pub is : least w types e ≡ Ok type
  pub below : sub type carries.1 ≡ true

pub record Taking (w : World) (types : Types) (c : Expr) (x : Pat) (p : Proc) : Type 0 where
  pub carries : Cap × Ty
  pub on : OnChannel w types c carries
  pub may_read : reads carries.0 ≡ true
  pub inner : Types
  pub covers : cover x carries.1 types ≡ Ok inner
  pub body : Good w inner p

pub record Naming (w : World) (types : Types) (x : ℕ) (t : Ty) (p : Proc) : Type 0 where
  pub carries : Cap × Ty
  pub chan : as_channel (out-Ty t) ≡ Some carries
  pub small : narrow t ≡ true
  pub body : Good w (table.insert types x t) p

pub record Letting (w : World) (types : Types) (x : Pat) (e : Expr) (p : Proc) : Type 0 where
  pub type : Ty
  pub is : least w types e ≡ Ok type
  pub inner : Types
  pub covers : cover x type types ≡ Ok inner
  pub body : Good w inner p

pub record Saying (w : World) (types : Types) (e : Expr) : Type 0 where
  pub type : Ty
  pub is : least w types e ≡ Ok type
  pub shows : printable type ≡ true

-- what it is to have no fault
abbrev pub GoodForm : World → Types → Layer → Type 0
GoodForm w types ProcForm-F.Stop = Unit {0}
GoodForm w types (ProcForm-F.Par p q) = Good w types p × Good w types q
GoodForm w types (ProcForm-F.New x t p) = Naming w types x t p
GoodForm w types (ProcForm-F.Out c e) = Sending w types c e
GoodForm w types (ProcForm-F.Inp c x p) = Taking w types c x p
GoodForm w types (ProcForm-F.Rep c x p) = Taking w types c x p
GoodForm w types (ProcForm-F.Agent b p q) = Good w (table.insert types b ty.Agent) p × Good w (table.insert types b ty.Agent) q
GoodForm w types (ProcForm-F.Migrate e p) = Tested w types is_site e × Good w types p
GoodForm w types (ProcForm-F.IfLocal b c e p q) = Tested w types is_agent b × Sending w types c e × Good w types p × Good w types q
GoodForm w types (ProcForm-F.Send b s c e) = Tested w types is_agent b × Tested w types is_site s × Sending w types c e
GoodForm w types (ProcForm-F.Post b c e) = Tested w types is_agent b × Sending w types c e
GoodForm w types (ProcForm-F.If e p q) = Tested w types is_bool e × Good w types p × Good w types q
GoodForm w types (ProcForm-F.Let x e p) = Letting w types x e p
GoodForm w types (ProcForm-F.Print e) = Saying w types e
GoodForm w types (ProcForm-F.Open e) = Tested w types is_letter e
GoodForm w types (ProcForm-F.Lookup a m x p q) = Tested w types is_agent a × Tested w types is_places m × Good w (table.insert types x lock_type) p × Good w types q

module _ (w : World) (types : Types) where
  pub tested : (test : TyLayer → Bool) (r : Rule) (e : Expr) (at : ℕ) → (least w types e >>= λ t. ensure (test (out-Ty t)) at r) ≡ Ok tt → Tested w types test e
  tested test r e at h = then (least w types e) _ h λ t is h. record { type = t; is = is; passes = ensured _ _ _ h }

  pub sending : (c e : Expr) → is_output w c e types ≡ Ok tt → Sending w types c e
  sending c e h =
      then (channel (least_of w types c)) _ h λ k on h. when _ _ _ _ h λ may h. then (least w types e) _ h λ t is h.
      then (least w types c) _ on λ s first on.
      record { carries = k; on = record { type = s; is = first; chan = wanted _ _ _ on }; may_write = may; type = t; is = is; below = ensured _ _ _ h }

  taking : (c : Expr) (x : Pat) (p : Proc) → check_input w c x (check w p) types ≡ Ok tt → Taking w types c x p
  unfolding check_input with_names
  taking c x p h =
      then (input (least_of w types c)) (λ t. cover x t types >>= λ inner. check w p inner) h λ t into h.
      then (cover x t types) (check w p) h λ inner covers h.
      then (channel (least_of w types c)) _ into λ k on into. when _ _ _ _ into λ may into.
      then (least w types c) _ on λ s first on.
      let same : t ≡ k.1 = done into in
      record {
        carries = k;
        on = record { type = s; is = first; chan = wanted _ _ _ on };
        may_read = may;
        inner = inner;
        covers = subst (λ t. cover x t types ≡ Ok inner) same covers;
        body = h;
      }

  some_chan : (o : Option (Cap × Ty)) → is_some o ≡ true → (k : Cap × Ty) × (o ≡ Some k)
  some_chan None h = absurd cc
  some_chan (Some k) h = (k, refl)

  posting : (b c e : Expr) → check_post w b c e types ≡ Ok tt → Tested w types is_agent b × Sending w types c e
  unfolding is_of check_post
  posting b c e h = then (is_of w is_agent rule.NotAgent b types) _ h λ u first h. (tested is_agent _ b _ first, sending c e h)

  good_at : (at : ℕ) (l : Layer) → check_step w (checks w l) at types ≡ Ok tt → GoodForm w types l
  unfolding is_of is_printable check_new is_for_channels check_migrate check_send check_let with_names check_places
  good_at at ProcForm-F.Stop h = tt
  good_at at (ProcForm-F.Par p q) h = then (check w p types) _ h λ u first h. (first, h)
  good_at at (ProcForm-F.New x t p) h =
      then (ensure (narrow t) at rule.Wide >> ensure (is_channel (out-Ty t)) at rule.NotChannel) _ h λ u first h. when (narrow t) at rule.Wide _ first λ small first.
      let k = some_chan (as_channel (out-Ty t)) (ensured _ _ _ first) in
      record { carries = k.0; chan = k.1; small = small; body = h }
  good_at at (ProcForm-F.Out c e) h = sending c e h
  good_at at (ProcForm-F.Inp c x p) h = taking c x p h
  good_at at (ProcForm-F.Rep c x p) h = taking c x p h
  good_at at (ProcForm-F.Agent b p q) h = then (check w p (table.insert types b ty.Agent)) _ h λ u first h. (first, h)
  good_at at (ProcForm-F.Migrate e p) h = then (is_of w is_site rule.NotSite e types) _ h λ u first h. (tested is_site _ e _ first, h)
  good_at at (ProcForm-F.IfLocal b c e p q) h =
      then (check_post w b c e types) _ h λ u first h. then (check w p types) _ h λ u second h.
      let s = posting b c e first in
      (s.0, s.1, second, h)
  good_at at (ProcForm-F.Send b s c e) h =
      then (is_of w is_agent rule.NotAgent b types) _ h λ u first h. then (is_of w is_site rule.NotSite s types) _ h λ u second h.
      (tested is_agent _ b _ first, tested is_site _ s _ second, sending c e h)
  good_at at (ProcForm-F.Post b c e) h = posting b c e h
  good_at at (ProcForm-F.If e p q) h =
      then (is_of w is_bool rule.NotBool e types) _ h λ u first h. then (check w p types) _ h λ u second h. (tested is_bool _ e _ first, second, h)
  good_at at (ProcForm-F.Let x e p) h =
      then (least w types e) _ h λ t is h. then (cover x t types) _ h λ inner covers h. record { type = t; is = is; inner = inner; covers = covers; body = h }
  good_at at (ProcForm-F.Print e) h = then (least w types e) _ h λ t is h. record { type = t; is = is; shows = ensured _ _ _ h }
  good_at at (ProcForm-F.Open e) h = tested is_letter _ e _ h
  good_at at (ProcForm-F.Lookup a m x p q) h =
      then (check_places w a m types) _ h λ u places h. then (check w p (table.insert types x lock_type)) _ h λ u second h.
      then (is_of w is_agent rule.NotAgent a types) _ places λ u first places. (tested is_agent _ a _ first, tested is_places _ m _ places, second, h)

pub good-form : (w : World) (types : Types) (p : Proc) → Good w types p → GoodForm w types (layer p)
good-form w types p h = good_at w types p.at (layer p) (sym (ap (λ (f : Checking). f types) (check-out w p)) ∙ h)

-- the same of a process of this form
pub good-as : (w : World) (types : Types) (p : Proc) (l : Layer) → layer p ≡ l → Good w types p → GoodForm w types l
good-as w types p l is h = subst (GoodForm w types) is (good-form w types p h)
