-- What the checks say of the two forms that no source has.
use Rattle.std.proofs.Common.{◌≡◌, ℕ, Some, Ok, refl}
use Rattle.std.specs.FinMap as table
use Rattle.np_syntax.specs.declared.types.Ty.{Ty}
use Rattle.np_syntax.specs.declared.types.Ty.TheVariants as types
use Rattle.np_types.specs.Least.{Types, least}
use Rattle.np_types.specs.Worlds.{World}
use Rattle.np_types.proofs.Leasts.{least-form, least-var}
use Rattle.np_check.specs.Faults.{is_of, check_places}
use Rattle.np_check.specs.LowForms.{variable, opens, looks_up, LowForms}
use Rattle.np_check.proofs.Forms.{check-form, form-open, form-lookup}

-- a variable has the type that stands for it
has : (w : World) (env : Types) (at x : ℕ) (t : Ty) → table.get env x ≡ Some t → least w env (variable at x) ≡ Ok t
has w env at x t h = rw (least-form w env (variable at x), least-var w env at x, h) refl

pub low_forms : LowForms
unfolding is_of check_places
low_forms = record {
  letter = λ w env k x h. rw (check-form w (opens k x) env, form-open w 1 env (variable 10 x), has w env 10 x _ h, types.outs-Letter) refl;
  no_letter = λ w env k x h. rw (check-form w (opens k x) env, form-open w 1 env (variable 10 x), has w env 10 x _ h, types.outs-Int) refl;
  places = λ w env k a m b p q ha hm.
      rw (
        check-form w (looks_up k a m b p q) env,
        form-lookup w 1 env (variable 10 a) (variable 11 m) b p q,
        has w env 10 a _ ha,
        types.outs-Agent,
        has w env 11 m _ hm,
        types.outs-Places,
      )
      refl;
  no_agent = λ w env k a m b p q ha.
      rw (check-form w (looks_up k a m b p q) env, form-lookup w 1 env (variable 10 a) (variable 11 m) b p q, has w env 10 a _ ha, types.outs-Site) refl;
  no_places = λ w env k a m b p q ha hm.
      rw (
        check-form w (looks_up k a m b p q) env,
        form-lookup w 1 env (variable 10 a) (variable 11 m) b p q,
        has w env 10 a _ ha,
        types.outs-Agent,
        has w env 11 m _ hm,
        types.outs-Site,
      )
      refl;
}
