-- A binder that is put gets back what it had before.
use Rattle.std.proofs.Common.{◌≡◌, ℕ, refl}
use Rattle.std.specs.FinMap as table
use Rattle.np_syntax.specs.declared.types.Ty.{Ty}
use Rattle.np_types.specs.Least.{Types}
use Rattle.np_types.specs.Trails.{restored}
use Rattle.np_types.proofs.Slots.{put_back}

pub same_again : (env : Types) (x : ℕ) (t : Ty) → restored (table.insert env x t) x (table.get env x) ≡ env
same_again env x t = put_back env x t (table.get env x) refl
