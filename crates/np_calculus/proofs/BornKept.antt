-- What stands in a configuration stays born.
use Rattle.std.proofs.Common.{◌≡◌, true, Some, refl, sym, subst, ◌∙◌}
use Rattle.std.proofs.lemmas.Bool.{or_right}
use Rattle.std.proofs.lemmas.Option.{none-some}
use Rattle.std.specs.FinSet as set
use mathlib.Core.Path.{fun_ext}
use Rattle.np_syntax.specs.declared.value.Name.{Name}
use Rattle.np_syntax.specs.declared.event.Event.{Event}
use Rattle.np_syntax.specs.declared.event.Made.{Made}
use Rattle.np_syntax.specs.declared.event.Made.TheVariants as made
use Rattle.np_syntax.proofs.Options.{done}
use Rattle.np_tables.specs.Names.{NameSet, same_name}
use Rattle.np_tables.proofs.Tables.{born_insert}
use Rattle.np_calculus.specs.Changes.{with_made}
use Rattle.np_calculus.specs.Config.{Config}
use Rattle.np_calculus.specs.Parts.{AreBorn, IsWhole, nothing}
use Rattle.np_calculus.specs.Reductions.{apply}
use Rattle.np_calculus.specs.Sight.{inside}
use Rattle.np_calculus.proofs.FrameRule.{frame_rule}
use Rattle.np_calculus.proofs.Steps.{row-step}
use Rattle.np_calculus.proofs.Writes.{either-none}

-- a configuration is one of itself and nothing
whole : (c : Config) → AreBorn c → IsWhole c c nothing
whole c born = record {
  sites = refl;
  split = record {
    is = λ i. record {
      place = fun_ext (λ q. sym (either-none ((inside c).place q))) i;
      atom = fun_ext (λ q. sym (either-none ((inside c).atom q))) i;
      packet = fun_ext (λ q. sym (either-none ((inside c).packet q))) i;
    };
    apart = record { agents = λ q h. refl; marks = λ q h. record { atom = refl; packet = refl } };
  };
  born = born;
}

pub born-kept : (c d : Config) (e : Event) → AreBorn c → apply c e ≡ Some d → AreBorn d
born-kept c d e born h =
    let f = frame_rule c c d nothing e (whole c born) (record { each = λ m a h. absurd (none-some _ h) }) (record { none = λ a h. none-some _ h }) (row-step c e d e.kind h).new h in
    subst AreBorn (sym (done (sym f.applies ∙ h))) f.is.born

pub made-kept : (born : NameSet) (x : Made) (q : Name) → set.contains born q ≡ true → set.contains (with_made born x) q ≡ true
made-kept born made.Nothing q h = h
made-kept born (made.One m) q h = born_insert born m q ∙ or_right (same_name q m) _ h
made-kept born (made.Two m k) q h = born_insert (set.insert born m) k q ∙ or_right (same_name q k) _ (born_insert born m q ∙ or_right (same_name q m) _ h)
