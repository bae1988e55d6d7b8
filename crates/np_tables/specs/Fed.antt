-- What a meeting and an errand feed a hasher.
use Rattle.std.specs.Prelude.{ℕ, ◌+◌, ◌*◌, ◌^◌}
use Rattle.std.specs.Hash as fed
use Rattle.std.specs.Hash.{HashWrites}
use Rattle.np_syntax.specs.declared.value.Name.{Name}
use Rattle.np_tables.specs.declared.errand.Errand.{Errand}
use Rattle.np_tables.specs.declared.errand.Errand.TheVariants as errand

-- two names as one number
abbrev pub both : Name → Name → ℕ
both first second = (first.site * 2 ^ 32 + first.n) * 2 ^ 64 + (second.site * 2 ^ 32 + second.n)

-- an output's names, an input's in the other order, and a number where an errand has none
abbrev pub errand_fed : Errand → HashWrites
errand_fed errand.Acts = fed.u8 0
errand_fed (errand.Gives meeting) = fed.u128 (both meeting.agent meeting.chan)
errand_fed (errand.Takes meeting) = fed.u128 (both meeting.chan meeting.agent)
errand_fed errand.Stuck = fed.u8 1
