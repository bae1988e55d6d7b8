use Rattle.std.proofs.Common.{◌+◌, drop, ap, ◌∙◌}
use Rattle.np_types.specs.Covers.{cover_all}
use Rattle.np_syntax.specs.Results.{◌>>=◌}
use Rattle.np_types.proofs.Tellings.{handed_types, failed_then}
use Rattle.np_types.proofs.Covers.{cover-tuples, parts-lengths, cover_all-more, cover_all-end, leads_then}
use Rattle.np_types.proofs.patterns.+cover.Goals as goal

pub cover_form-returns-in-Tuple-ty-clause-told : goal.cover_form-returns-in-Tuple-ty-clause-told
cover_form-returns-in-Tuple-ty-clause-told t c =
    rw (c.in-Tuple.is, c.in-Tuple-ty.is, cover-tuples, ← c.as_slice-parts.ensures, ← c.as_slice-types.ensures) c.cover_parts.ensures.told

pub cover_parts-returns-in_err-cover_onto-clause-told : goal.cover_parts-returns-in_err-cover_onto-clause-told
cover_parts-returns-in_err-cover_onto-clause-told t c =
    let ps = c.args.parts.now in
    let ts = c.args.types.now in
    let inv = c.loop-i.invariant in
    let rest = parts-lengths ps ts c.args.at c.args.env.now inv.lengths ∙ inv.covers
    ∙ cover_all-more ps ts c.args.at c.loop-i.env c.loop-i.i c.index-parts-i.result c.index-types-i.result inv.lengths c.loop-i-test.true c.index-parts-i.is c.index-types-i.is in
    handed_types _ _ _ _ c.from_residual.ensures (rw rest (failed_then _ _ _ c.in_err-cover_onto.ensures.told))

pub cover_parts-returns-in_err-cover_onto-clause-back : goal.cover_parts-returns-in_err-cover_onto-clause-back
cover_parts-returns-in_err-cover_onto-clause-back t c = leads_then _ _ _ _ _ _ c.loop-i.invariant.leads c.in_err-cover_onto.ensures.back

pub cover_parts-loop-i-preserved : goal.cover_parts-loop-i-preserved
cover_parts-loop-i-preserved t c =
    let ps = c.args.parts.now in
    let ts = c.args.types.now in
    let i = c.loop-i.i in
    let inv = c.loop-i.invariant in
    record {
      lengths = inv.lengths;
      covers =
          inv.covers
          ∙ cover_all-more ps ts c.args.at c.loop-i.env i c.index-parts-i.result c.index-types-i.result inv.lengths c.loop-i-test.true c.index-parts-i.is c.index-types-i.is
          ∙ ap (λ o. o >>= cover_all (drop (i + 1) ps) (drop (i + 1) ts) c.args.at) c.in_ok-cover_onto.ensures.told;
      leads = leads_then _ _ _ _ _ _ inv.leads c.in_ok-cover_onto.ensures.back;
    }

pub cover_parts-returns-clause-told : goal.cover_parts-returns-clause-told
cover_parts-returns-clause-told t c =
    let ps = c.args.parts.now in
    let ts = c.args.types.now in
    let inv = c.loop-i.invariant in
    parts-lengths ps ts c.args.at c.args.env.now inv.lengths ∙ inv.covers ∙ cover_all-end ps ts c.args.at c.loop-i.env c.loop-i.i inv.lengths c.loop-i-test.false
