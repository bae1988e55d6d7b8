use Rattle.std.proofs.Common.{true, false, not, refl, sym, ◌∙◌}
use Rattle.np_syntax.specs.declared.types.Ty.{Ty-F}
use Rattle.np_syntax.specs.declared.types.Ty.TheVariants.{outs-Int, outs-Bool, outs-Str, outs-Site, outs-Agent, outs-Letter, outs-Places}
use Rattle.np_subtyping.specs.Ordered.{OrderedAll}
use Rattle.np_subtyping.proofs.Comparisons.{plainly, channels, carried, inputs, outputs, input_output, output_input, no_channel, tuples, no_tuple, ordered-both}
use Rattle.np_subtyping.proofs.subtyping.+compare.Goals as goal

pub compare-returns-in-Int : goal.compare-returns-in-Int
compare-returns-in-Int t c = plainly Ty-F.Int refl c.args.up _ _ c.args.b.now c.in-Int.is outs-Int c.is_int.ensures

pub compare-returns-in-Bool : goal.compare-returns-in-Bool
compare-returns-in-Bool t c = plainly Ty-F.Bool refl c.args.up _ _ c.args.b.now c.in-Bool.is outs-Bool c.is_bool.ensures

pub compare-returns-in-Str : goal.compare-returns-in-Str
compare-returns-in-Str t c = plainly Ty-F.Str refl c.args.up _ _ c.args.b.now c.in-Str.is outs-Str c.is_str.ensures

pub compare-returns-in-Site : goal.compare-returns-in-Site
compare-returns-in-Site t c = plainly Ty-F.Site refl c.args.up _ _ c.args.b.now c.in-Site.is outs-Site c.is_site.ensures

pub compare-returns-in-Agent : goal.compare-returns-in-Agent
compare-returns-in-Agent t c = plainly Ty-F.Agent refl c.args.up _ _ c.args.b.now c.in-Agent.is outs-Agent c.is_agent.ensures

pub compare-returns-in-Letter : goal.compare-returns-in-Letter
compare-returns-in-Letter t c = plainly Ty-F.Letter refl c.args.up _ _ c.args.b.now c.in-Letter.is outs-Letter c.is_letter.ensures

pub compare-returns-in-Places : goal.compare-returns-in-Places
compare-returns-in-Places t c = plainly Ty-F.Places refl c.args.up _ _ c.args.b.now c.in-Places.is outs-Places c.is_places.ensures

pub compare-returns-in-Both-d : goal.compare-returns-in-Both-d
compare-returns-in-Both-d t c =
    rw (c.in-Chan.is, c.in-Chan-b.is, c.in-Both.is, c.in-Both-d.is)
    (ordered-both c.args.up c.same.result c.in-Chan.s c.in-Chan-b.t (λ e. sym c.get.ensures ∙ c.same.ensures.0 e ∙ c.get-in-Both-d.ensures) (λ e. c.same.ensures.1 (c.get.ensures ∙ e ∙ sym c.get-in-Both-d.ensures)))

pub compare-returns-then-up : goal.compare-returns-then-up
compare-returns-then-up t c = channels c.args.up c.in-Chan.s c.in-Chan-b.t c.in-Chan.is c.in-Chan-b.is c.in-Both.is c.in-Input-d.is (rw c.if-up.true (carried true c.compare.ensures c.get-then-up.ensures c.get-then-up-2.ensures))

pub compare-returns-else-up : goal.compare-returns-else-up
compare-returns-else-up t c = channels c.args.up c.in-Chan.s c.in-Chan-b.t c.in-Chan.is c.in-Chan-b.is c.in-Both.is c.in-Input-d.is (rw c.if-up.false refl)

pub compare-returns-then-up-2 : goal.compare-returns-then-up-2
compare-returns-then-up-2 t c = channels c.args.up c.in-Chan.s c.in-Chan-b.t c.in-Chan.is c.in-Chan-b.is c.in-Both.is c.in-Output-d.is (rw c.if-up-2.true (carried false c.compare-then-up-2.ensures c.get-then-up-2-2.ensures c.get-then-up-2-3.ensures))

pub compare-returns-else-up-2 : goal.compare-returns-else-up-2
compare-returns-else-up-2 t c = channels c.args.up c.in-Chan.s c.in-Chan-b.t c.in-Chan.is c.in-Chan-b.is c.in-Both.is c.in-Output-d.is (rw c.if-up-2.false refl)

pub compare-returns-then-not-up : goal.compare-returns-then-not-up
compare-returns-then-not-up t c = channels c.args.up c.in-Chan.s c.in-Chan-b.t c.in-Chan.is c.in-Chan-b.is c.in-Input.is c.in-Both-d-2.is (rw c.if-not-up.true (carried false c.compare-then-not-up.ensures c.get-then-not-up.ensures c.get-then-not-up-2.ensures))

pub compare-returns-else-not-up : goal.compare-returns-else-not-up
compare-returns-else-not-up t c = channels c.args.up c.in-Chan.s c.in-Chan-b.t c.in-Chan.is c.in-Chan-b.is c.in-Input.is c.in-Both-d-2.is (rw c.if-not-up.false refl)

pub compare-returns-in-Input-d-2 : goal.compare-returns-in-Input-d-2
compare-returns-in-Input-d-2 t c = channels c.args.up c.in-Chan.s c.in-Chan-b.t c.in-Chan.is c.in-Chan-b.is c.in-Input.is c.in-Input-d-2.is (carried c.args.up c.compare-in-Input-d-2.ensures c.get-in-Input-d-2.ensures c.get-in-Input-d-2-2.ensures ∙ inputs c.args.up _ _)

pub compare-returns-in-Output-d-2 : goal.compare-returns-in-Output-d-2
compare-returns-in-Output-d-2 t c = channels c.args.up c.in-Chan.s c.in-Chan-b.t c.in-Chan.is c.in-Chan-b.is c.in-Input.is c.in-Output-d-2.is (input_output c.args.up _ _)

pub compare-returns-then-not-up-2 : goal.compare-returns-then-not-up-2
compare-returns-then-not-up-2 t c = channels c.args.up c.in-Chan.s c.in-Chan-b.t c.in-Chan.is c.in-Chan-b.is c.in-Output.is c.in-Both-d-3.is (rw c.if-not-up-2.true (carried true c.compare-then-not-up-2.ensures c.get-then-not-up-2-2.ensures c.get-then-not-up-2-3.ensures))

pub compare-returns-else-not-up-2 : goal.compare-returns-else-not-up-2
compare-returns-else-not-up-2 t c = channels c.args.up c.in-Chan.s c.in-Chan-b.t c.in-Chan.is c.in-Chan-b.is c.in-Output.is c.in-Both-d-3.is (rw c.if-not-up-2.false refl)

pub compare-returns-in-Input-d-3 : goal.compare-returns-in-Input-d-3
compare-returns-in-Input-d-3 t c = channels c.args.up c.in-Chan.s c.in-Chan-b.t c.in-Chan.is c.in-Chan-b.is c.in-Output.is c.in-Input-d-3.is (output_input c.args.up _ _)

pub compare-returns-in-Output-d-3 : goal.compare-returns-in-Output-d-3
compare-returns-in-Output-d-3 t c = channels c.args.up c.in-Chan.s c.in-Chan-b.t c.in-Chan.is c.in-Chan-b.is c.in-Output.is c.in-Output-d-3.is (carried (not c.args.up) c.compare-in-Output-d-3.ensures c.get-in-Output-d-3.ensures c.get-in-Output-d-3-2.ensures ∙ outputs c.args.up _ _)

pub compare-returns-in_default : goal.compare-returns-in_default
compare-returns-in_default t c = no_channel c.args.up c.in-Chan.s c.args.b.now c.in-Chan.is c.in_default.not-Chan

pub compare-returns-in-Tuple-b : goal.compare-returns-in-Tuple-b
compare-returns-in-Tuple-b t c = tuples c.args.up c.in-Tuple.x c.in-Tuple-b.y c.in-Tuple.is c.in-Tuple-b.is (c.compare_all.ensures ∙ (λ i. OrderedAll c.args.up (c.as_slice.ensures i) (c.as_slice-in-Tuple-b.ensures i)))

pub compare-returns-in_default-b : goal.compare-returns-in_default-b
compare-returns-in_default-b t c = no_tuple c.args.up c.in-Tuple.x c.args.b.now c.in-Tuple.is c.in_default-b.not-Tuple
