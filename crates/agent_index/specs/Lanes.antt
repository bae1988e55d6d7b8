-- What contracts see of the lanes, and what always holds of them.
use Rattle.std.specs.Prelude.{◌≡◌, ℕ, false, ◌+◌, ◌≤◌, ◌++◌, ◌∷◌, cond, [], length, Option, None, Some, All, refl}
use Rattle.std.specs.Coded.{Coded, code_by, coded×, coded_ℕ}
use Rattle.std.specs.FinMap as map
use Rattle.np_syntax.specs.declared.value.Name.{Name}
use Rattle.np_syntax.specs.contracts.value.Name as name
use Rattle.np_tables.specs.Names.{NameMap, same_name}
use Rattle.agent_index.specs.Lines.{Waiting, waiting_code, is_bare, inputs_in, outputs_in, without}
use Rattle.agent_index.specs.declared.lanes.Lanes.TheInside.{Inside}

-- who waits on each channel, and how many marks more are sure to find a place on any
pub record Laned : Type 0 where
  pub lanes : NameMap Waiting
  pub spare : ℕ

abbrev pub laned_code : Coded Laned
laned_code = code_by (NameMap Waiting × ℕ) (coded× (map.code name.the_row.coded waiting_code) coded_ℕ) (λ l. (l.lanes, l.spare))
    (λ p. record { lanes = p.0; spare = p.1 }) (λ _. refl)

-- one where no channel is owed a place
abbrev pub free : Option Name → ℕ
free None = 1
free (Some chan) = 0

-- one where it is this channel that is owed a place
abbrev pub owes : Option Name → Name → ℕ
owes None chan = 0
owes (Some c) chan = cond (same_name c chan) 1 0

-- no one waits, and two find a place
pub record IsFree (w : Waiting) : Type 0 where
  pub inputs : w.inputs ≡ []
  pub outputs : w.outputs ≡ []
  pub room : 2 ≤ w.room

-- each channel has two places, but for those that it is owed
pub record HasRooms (lanes : NameMap Waiting) (first second : Option Name) : Type 0 where
  pub each : (chan : Name) (w : Waiting) → map.get lanes chan ≡ Some w → 2 ≤ w.room + (owes first chan + owes second chan)

-- on each channel that stands there someone waits
pub record AreFilled (lanes : NameMap Waiting) : Type 0 where
  pub each : (chan : Name) (w : Waiting) → map.get lanes chan ≡ Some w → is_bare w ≡ false

pub record IsLanes (inside : Inside) : Type 0 where
  pub rooms : HasRooms inside.table.items inside.first inside.second
  pub filled : AreFilled inside.table.items
  pub places : free inside.first + free inside.second ≤ inside.table.spare
  pub stock : free inside.first + free inside.second ≤ length inside.stock
  pub stocked : All IsFree inside.stock

-- what was taken out for a channel: who waits there, with the room that they had, or a free one
abbrev pub HadRoom : Option Waiting → ℕ → Type 0
HadRoom None room = 2 ≤ room
HadRoom (Some w) room = w.room ≤ room

pub record IsOpened (before : Option Waiting) (w : Waiting) : Type 0 where
  pub inputs : w.inputs ≡ inputs_in before
  pub outputs : w.outputs ≡ outputs_in before
  pub room : HadRoom before w.room

-- one more place is owed to a channel
pub record OwesMore (first second before_first before_second : Option Name) (chan : Name) : Type 0 where
  pub owes : (q : Name) → owes first q + owes second q ≡ owes before_first q + owes before_second q + cond (same_name chan q) 1 0
  pub free : free first + free second + 1 ≡ free before_first + free before_second

-- who waits is the same, and has no less room
pub record IsGrown (v w : Waiting) : Type 0 where
  pub inputs : w.inputs ≡ v.inputs
  pub outputs : w.outputs ≡ v.outputs
  pub room : v.room ≤ w.room

abbrev pub BothGrown : Option Waiting → Option Waiting → Type 0
BothGrown None None = Unit {0}
BothGrown (Some v) (Some w) = IsGrown v w
BothGrown _ _ = ⊥

pub record AreGrown (old new : NameMap Waiting) : Type 0 where
  pub each : (chan : Name) → BothGrown (map.get old chan) (map.get new chan)

-- a channel that was owed a place has two now
pub record IsPaid (lanes : NameMap Waiting) (owed : Option Name) : Type 0 where
  pub each : (chan : Name) (w : Waiting) → owed ≡ Some chan → map.get lanes chan ≡ Some w → 2 ≤ w.room

-- ---- what stands for a channel is changed in place

-- an output that waited is gone
pub record LosesOutput (mark : Name) (before after : Waiting) : Type 0 where
  pub inputs : after.inputs ≡ before.inputs
  pub outputs : after.outputs ≡ without before.outputs mark
  pub room : before.room ≤ after.room

-- an input that waited is gone
pub record LosesInput (mark : Name) (before after : Waiting) : Type 0 where
  pub inputs : after.inputs ≡ without before.inputs mark
  pub outputs : after.outputs ≡ before.outputs
  pub room : before.room ≤ after.room

-- an output waits behind the others
pub record GainsOutput (mark : Name) (before after : Waiting) : Type 0 where
  pub inputs : after.inputs ≡ before.inputs
  pub outputs : after.outputs ≡ before.outputs ++ mark ∷ []
  pub room : before.room ≤ after.room + 1

-- an input waits behind the others
pub record GainsInput (mark : Name) (before after : Waiting) : Type 0 where
  pub inputs : after.inputs ≡ before.inputs ++ mark ∷ []
  pub outputs : after.outputs ≡ before.outputs
  pub room : before.room ≤ after.room + 1

-- who waits on a channel has changed so; where no one is left, nothing stands for the channel
pub record HasLeft (Loses : Waiting → Waiting → Type 0) (old : NameMap Waiting) (chan : Name) (new : NameMap Waiting)
    (before : Waiting) : Type 0 where
  pub after : Waiting
  pub loses : Loses before after
  pub items : new ≡ cond (is_bare after) (map.remove old chan) (map.insert old chan after)

-- who waits on a channel has changed so, where no one waited from a free lane on
pub record HasCome (Gains : Waiting → Waiting → Type 0) (old : NameMap Waiting) (chan : Name) (new : NameMap Waiting) : Type 0 where
  pub before : Waiting
  pub opened : IsOpened (map.get old chan) before
  pub after : Waiting
  pub gains : Gains before after
  pub items : new ≡ map.insert old chan after
