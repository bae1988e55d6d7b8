-- What an index tells of whether its agent is idle.
use Rattle.std.proofs.Common.{◌≡◌, false, List, Option, None, Some, refl, sym, ap, subst, ◌∙◌}
use Rattle.std.specs.FinMap as map
use Rattle.np_syntax.specs.declared.value.Name.{Name}
use Rattle.np_syntax.specs.declared.process.Proc.{Proc}
use Rattle.np_tables.specs.Names.{NameMap}
use Rattle.agent_index.specs.declared.wait.Wait.{Wait}
use Rattle.agent_index.specs.declared.wait.Wait.TheVariants as wait
use Rattle.agent_index.specs.InStep.{is_under}
use Rattle.agent_index.specs.Lines.{same_line}
use Rattle.agent_index.specs.Shelves.{Kept}
use Rattle.agent_pool.specs.declared.held.Held.{Held}
use Rattle.agent_pool.specs.Calm.{NoOutput}
use Rattle.agent_pool.specs.Idle.{waits_in, is_output, NoOutputBy, Stays, IsIdle}
use Rattle.agent_pool.specs.Resting.{IsSettled, SettledAt}

out-line : (w : Wait) (chan : Name) → is_output (Some w) chan ≡ same_line w (wait.Gives chan)
out-line (wait.Gives on) chan = refl
out-line (wait.Takes on) chan = refl
out-line wait.Acts chan = refl
out-line wait.Stuck chan = refl

module _ (ts : List Proc) (atoms : NameMap (Kept Held)) where
  pub nowhere-settled : (q : Name) → map.get atoms q ≡ None → SettledAt ts atoms q
  nowhere-settled q none kept e = absurd (let x = sym none ∙ e in cc)

  -- where each atom is settled the agent is idle
  module _ (settled : (q : Name) → SettledAt ts atoms q) where
    none-by : (chan : Name) → NoOutput atoms chan → NoOutputBy ts atoms chan
    none-by chan none = record { each = λ q. by q (map.get atoms q) refl }
      where
        by : (q : Name) (o : Option (Kept Held)) → map.get atoms q ≡ o → is_output (waits_in ts o) chan ≡ false
        by q None is = refl
        by q (Some kept) is =
            ap (λ w. is_output (Some w) chan) (sym (settled q kept is).filed) ∙ out-line kept.0 chan ∙ ap (λ o. is_under o (wait.Gives chan)) (sym is) ∙ none.each q

    pub settled-idle : IsIdle ts atoms
    settled-idle = record { each = λ q. by q (map.get atoms q) refl }
      where
        go : (kept : Kept Held) → IsSettled ts atoms kept → (w : Wait) → kept.0 ≡ w → Stays ts atoms (Some w)
        go kept s wait.Acts is = absurd (s.waits is)
        go kept s (wait.Takes chan) is = none-by chan (s.takes chan is)
        go kept s (wait.Gives chan) is = tt
        go kept s wait.Stuck is = tt

        by : (q : Name) (o : Option (Kept Held)) → map.get atoms q ≡ o → Stays ts atoms (waits_in ts o)
        by q None is = tt
        by q (Some kept) is = let s = settled q kept is in subst (λ w. Stays ts atoms (Some w)) s.filed (go kept s kept.0 refl)
