-- Who waits on a channel, where each atom is filed by the code.
use Rattle.std.proofs.Common.{◌≡◌, List, Option, None, Some, refl, sym, ap, ◌∙◌}
use Rattle.std.specs.FinMap as map
use Rattle.np_syntax.specs.declared.value.Name.{Name}
use Rattle.np_syntax.specs.declared.process.Proc.{Proc}
use Rattle.np_tables.specs.Names.{NameMap}
use Rattle.agent_index.specs.declared.wait.Wait.{Wait}
use Rattle.agent_index.specs.declared.wait.Wait.TheVariants as wait
use Rattle.agent_index.specs.InStep.{one, is_under, Lends, NoneWaits}
use Rattle.agent_index.specs.Lines.{Waiting, same_line}
use Rattle.agent_index.specs.Shelves.{Kept}
use Rattle.agent_pool.specs.declared.held.Held.{Held}
use Rattle.agent_pool.specs.Pools.{IsFiled}
use Rattle.agent_pool.specs.Waiting.{waits_so, WaitOn, NoneWaitsOn}

module _ (ts : List Proc) (atoms : NameMap (Kept Held)) (filed : IsFiled ts atoms) where
  under : (q : Name) (f : Wait) → is_under (map.get atoms q) f ≡ waits_so ts (map.get atoms q) f
  under q f = by (map.get atoms q) refl
    where
      by : (o : Option (Kept Held)) → map.get atoms q ≡ o → is_under o f ≡ waits_so ts o f
      by None is = refl
      by (Some kept) is = ap (λ w. same_line w f) (filed.each q kept is)

  pub lends-filed : (chan : Name) (w : Waiting) → Lends atoms chan w → WaitOn ts atoms chan w
  lends-filed chan w l = record {
    inputs = λ q. l.inputs q ∙ ap one (under q (wait.Takes chan));
    outputs = λ q. l.outputs q ∙ ap one (under q (wait.Gives chan));
    some = l.some;
  }

  pub none-filed : (chan : Name) → NoneWaits atoms chan → NoneWaitsOn ts atoms chan
  none-filed chan n = record { inputs = λ q. sym (under q (wait.Takes chan)) ∙ n.inputs q; outputs = λ q. sym (under q (wait.Gives chan)) ∙ n.outputs q }

pub ruleset lends = (lends-filed, none-filed)
