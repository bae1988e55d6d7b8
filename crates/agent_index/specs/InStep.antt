-- What always holds of an index: the lanes are in step with what each mark waits for.
use Rattle.std.specs.Prelude.{◌≡◌, ℕ, Bool, false, cond, Option, None, Some}
use Rattle.std.specs.FinMap as map
use Rattle.np_syntax.specs.declared.value.Name.{Name}
use Rattle.np_tables.specs.Names.{NameMap}
use Rattle.agent_index.specs.declared.wait.Wait.{Wait}
use Rattle.agent_index.specs.declared.wait.Wait.TheVariants as wait
use Rattle.agent_index.specs.Lines.{Waiting, times, in_line, same_line, is_bare}
use Rattle.agent_index.specs.Shelves.{Kept}

abbrev pub one : Bool → ℕ
one t = cond t 1 0

module _ {X : Type 0} where
  -- whether what a mark is kept under, if it is, stands in the line of a wait
  abbrev pub is_under : Option (Kept X) → Wait → Bool
  is_under None f = false
  is_under (Some kept) f = same_line kept.0 f

  -- each mark stands in the line of what it waits for, and in no other
  pub record IsInStep (items : NameMap (Kept X)) (lanes : NameMap Waiting) : Type 0 where
    pub at : (f : Wait) (q : Name) → times q (in_line lanes f) ≡ one (is_under (map.get items q) f)

  -- who waits on a channel: the marks that are kept under it, each as often as it is, and someone does
  pub record Lends (items : NameMap (Kept X)) (chan : Name) (w : Waiting) : Type 0 where
    pub inputs : (q : Name) → times q w.inputs ≡ one (is_under (map.get items q) (wait.Takes chan))
    pub outputs : (q : Name) → times q w.outputs ≡ one (is_under (map.get items q) (wait.Gives chan))
    pub some : is_bare w ≡ false

  -- no mark is kept under the channel
  pub record NoneWaits (items : NameMap (Kept X)) (chan : Name) : Type 0 where
    pub inputs : (q : Name) → is_under (map.get items q) (wait.Takes chan) ≡ false
    pub outputs : (q : Name) → is_under (map.get items q) (wait.Gives chan) ≡ false
