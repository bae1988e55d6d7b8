use Rattle.std.proofs.Common.{◌≡◌, ◌<◌, ℕ, Some, get_or, length, arith, subst}
use borrow.Author.Rules.{scaled_Fits}
use Rattle.std.specs.Prelude.{slice_get}
use Rattle.std.proofs.lemmas.Option.{slice_get-get_or}
use Rattle.site_crew.specs.Links.{IsSettled, IsToldBelow}
use Rattle.site_crew.proofs.Pairs.{all_still_refl, all_still_trans, here_kept, here_then, linked_after, other_kept, other_then, still_of_pair, still_then, told_nothing}
use Rattle.site_crew.proofs.settling.settle_to.Goals as goal

pub offset_bounds-seats-to : goal.offset_bounds-seats-to
offset_bounds-seats-to g c = scaled_Fits _ _ _ c.requires.to (search (c.well_formed))

pub loop-from-init : goal.loop-from-init
loop-from-init g c = record {
  still = all_still_refl _;
  linked = c.requires.linked;
  others = λ k apart old. old;
  here = λ i h. absurd (omega arith);
  told = told_nothing c.args.seats.now c.args.to;
}

pub settle_more-waits-requires-clause-linked : goal.settle_more-waits-requires-clause-linked
settle_more-waits-requires-clause-linked g c κs within = c.loop-from.invariant.linked

pub settle_more-waits-requires-clause-places : goal.settle_more-waits-requires-clause-places
settle_more-waits-requires-clause-places g c κs within =
    let i = c.loop-from.invariant in
    let a : c.loop-from.from < length c.loop-from.seats = omega (arith, i.still.count) in
    let b : c.args.to < length c.loop-from.seats = omega (arith, i.still.count, c.requires.to) in (a, b)

pub loop-from-preserved : goal.loop-from-preserved
loop-from-preserved g c =
    let i = c.loop-from.invariant in let p = c.settle_more-waits.ensures in let s = still_of_pair p.pair in
    record {
      still = all_still_trans i.still s;
      linked = linked_after i.linked s;
      others = λ k apart old. other_kept c.loop-from.from c.args.to k p.pair apart (i.others k apart old);
      here = here_kept c.loop-from.from c.args.to p.pair i.here;
      told = p.told i.told;
    }

pub returns : goal.returns
returns g c =
    let i = c.loop-from.invariant in
    let e : c.loop-from.from ≡ length c.loop-from.seats = omega (arith, i.still.count) in
    let h : c.args.to < length c.loop-from.seats = omega (arith, i.still.count, c.requires.to) in
    let x = get_or c.loop-from.seats c.args.to c.index-seats-to.result in
    let at : slice_get c.loop-from.seats c.args.to ≡ Some x = slice_get-get_or c.loop-from.seats c.args.to c.index-seats-to.result h in record {
      still = all_still_trans i.still (still_then c.loop-from.seats c.args.to x c.loop-from.waits at);
      here = here_then c.loop-from.seats c.args.to x c.loop-from.waits at (subst (λ (m : ℕ). (a : ℕ) → a < m → IsSettled g.P.Port c.loop-from.seats a c.args.to) e i.here)
          (subst (λ (m : ℕ). IsToldBelow g.P.Port c.loop-from.seats c.args.to m c.loop-from.waits) e i.told);
      others = λ k apart old. other_then c.loop-from.seats c.args.to x c.loop-from.waits at k apart (i.others k apart old);
    }
