use Rattle.std.proofs.Common.{◌≡◌, ◌<◌, ◌≤◌, ℕ, Some, length, arith, subst, sym, inl, inr}
use Rattle.std.specs.Prelude.{slice_get}
use Rattle.std.proofs.lemmas.Bool.Decides.{eqb_tells}
use Rattle.std.proofs.lemmas.Option.{slice_get_within}
use Rattle.site_crew.proofs.Redoing.{early_still}
use Rattle.site_crew.proofs.Replacing.{all_rest_refl, all_rest_trans, there_too}
use Rattle.site_crew.proofs.catching.catch_all.Goals as goal

pub loop-at-init : goal.loop-at-init
loop-at-init g c = record { stand = c.requires.stand; rest = all_rest_refl c.args.stamp _; late = λ k s h at. absurd (omega arith) }

pub catch_at-requires-clause-stand : goal.catch_at-requires-clause-stand
catch_at-requires-clause-stand g c κs within = c.loop-at.invariant.stand

pub catch_at-requires-clause-at : goal.catch_at-requires-clause-at
catch_at-requires-clause-at g c κs within = omega (arith, c.loop-at.invariant.rest.count)

pub catch_at-requires-clause-early : goal.catch_at-requires-clause-early
catch_at-requires-clause-early g c κs within = early_still c.loop-at.invariant.rest c.requires.early

pub loop-at-preserved : goal.loop-at-preserved
loop-at-preserved g c =
    let i = c.loop-at.invariant in let e = c.catch_at.ensures in record {
      stand = e.stand;
      rest = all_rest_trans i.rest e.rest;
      late = λ k s h at. elim (eqb_tells k c.loop-at.at) [
        | inl w ↦ e.there s (subst (λ (m : ℕ). slice_get c.catch_at.new.seats m ≡ Some s) w.1 at)
        | inr w ↦
            let b = there_too c.catch_at.new.seats c.loop-at.seats k s (sym e.rest.count) at in
            let old : c.args.stamp ≤ b.0.site.clock = i.late k b.0 (omega arith) b.1 in
            let later : b.0.site.clock ≤ s.site.clock = (e.rest.each k b.0 s b.1 at).later in
            omega arith
      ];
    }

pub returns-clause-late : goal.returns-clause-late
returns-clause-late g c = record {
  each = λ i s at.
      let less : i < length c.loop-at.seats = slice_get_within c.loop-at.seats i s at in
      c.loop-at.invariant.late i s (omega (arith, c.loop-at.invariant.rest.count)) at;
}
