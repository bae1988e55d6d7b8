-- A process whose parts have no fault has none.
use Rattle.std.proofs.Common.{◌≡◌, ℕ, Ok, refl, ap, ◌∙◌}
use Rattle.np_safety.proofs.Common.{Expr, Pat, Proc, ProcForm-F, World, Types, least_of, Checking, check_step, check, Layer, layer}
use Rattle.np_types.specs.Least.{input}
use Rattle.np_types.proofs.Leasts.{output-parts, input-parts}
use Rattle.np_check.specs.Faults.{is_of, is_printable, is_output, with_names, is_for_channels, check_new, check_input}
use Rattle.np_check.specs.Faults.{check_migrate, check_send, check_post, check_let, check_places}
use Rattle.np_safety.proofs.Forms.{GoodForm, Sending, Taking, Good, check-out, checks}

module _ (w : World) (types : Types) where
  pub sending-back : (c e : Expr) → Sending w types c e → is_output w c e types ≡ Ok tt
  sending-back c e s = output-parts w types c e ∙ rw (s.on.is, s.on.chan, s.may_write, s.is, s.below) refl

  taking-back : (c : Expr) (x : Pat) (p : Proc) → Taking w types c x p → check_input w c x (check w p) types ≡ Ok tt
  unfolding check_input with_names
  taking-back c x p t =
      let into : input (least_of w types c) ≡ Ok t.carries.1 = input-parts w types c ∙ rw (t.on.is, t.on.chan, t.may_read) refl in
      rw (into, t.covers, t.body) refl

  back_at : (at : ℕ) (l : Layer) → GoodForm w types l → check_step w (checks w l) at types ≡ Ok tt
  unfolding is_of is_printable check_new is_for_channels check_migrate check_post check_send check_let with_names check_places
  back_at at ProcForm-F.Stop g = refl
  back_at at (ProcForm-F.Par p q) g = rw (g.0, g.1) refl
  back_at at (ProcForm-F.New x t p) g = rw (g.small, g.chan, g.body) refl
  back_at at (ProcForm-F.Out c e) g = sending-back c e g
  back_at at (ProcForm-F.Inp c x p) g = taking-back c x p g
  back_at at (ProcForm-F.Rep c x p) g = taking-back c x p g
  back_at at (ProcForm-F.Agent b p q) g = rw (g.0, g.1) refl
  back_at at (ProcForm-F.Migrate e p) g = rw (g.0.is, g.0.passes, g.1) refl
  back_at at (ProcForm-F.IfLocal b c e p q) g = rw (g.0.is, g.0.passes, sending-back c e g.1, g.2, g.3) refl
  back_at at (ProcForm-F.Send b s c e) g = rw (g.0.is, g.0.passes, g.1.is, g.1.passes) (sending-back c e g.2)
  back_at at (ProcForm-F.Post b c e) g = rw (g.0.is, g.0.passes) (sending-back c e g.1)
  back_at at (ProcForm-F.If e p q) g = rw (g.0.is, g.0.passes, g.1, g.2) refl
  back_at at (ProcForm-F.Let x e p) g = rw (g.is, g.covers, g.body) refl
  back_at at (ProcForm-F.Print e) g = rw (g.is, g.shows) refl
  back_at at (ProcForm-F.Open e) g = rw (g.is, g.passes) refl
  back_at at (ProcForm-F.Lookup a m x p q) g = rw (g.0.is, g.0.passes, g.1.is, g.1.passes, g.2, g.3) refl

pub good-back : (w : World) (types : Types) (p : Proc) → GoodForm w types (layer p) → Good w types p
good-back w types p g = ap (λ (f : Checking). f types) (check-out w p) ∙ back_at w types p.at (layer p) g
