-- Why nothing is told (docs/PICTURES.md, "Refusals").
use Rattle.std.specs.Prelude.{◌≡◌, ◌⊎◌}
use Rattle.np_verdict.specs.declared.refusal.Refusal.{Refusal}
use Rattle.np_verdict.specs.declared.refusal.Refusal.TheVariants as refusals

-- memory ran out, or a file could not be read: any other refusal is told
abbrev pub IsUnread : Refusal → Type 0
IsUnread refusal = (refusal ≡ refusals.Memory) ⊎ (refusal ≡ refusals.ReadFault)
