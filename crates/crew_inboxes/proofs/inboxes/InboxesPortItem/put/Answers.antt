use Rattle.std.proofs.Common.{arith, ◌∙◌, sym, length, length-set, refl, []}
use Rattle.std.proofs.lemmas.Option.{slice_get_read}
use Rattle.std.proofs.lemmas.Result.{on_ok_weaker, IfErr-weaker}
use denote.Exit.{no}
use denote.Param.Send.{arg_send, param_send}
use Rattle.site_links.proofs.Rows.{rows_same, rows_more, rows_less, rows_was}
use Rattle.crew_inboxes.specs.Ways.{sent_by}
use Rattle.site_turn.proofs.Crossing.Items.{item_send}
use Rattle.crew_inboxes.proofs.Taking.{numbered_set}
use Rattle.crew_inboxes.proofs.Links.{Changes, keeps_put}
use Rattle.crew_inboxes.proofs.inboxes.InboxesPortItem.put.Goals as goal

pub put-requires-send-I : goal.put-requires-send-I
put-requires-send-I g c κs within = param_send 0 _ (arg_send _ no _ item_send)

pub put-requires-after_bounds : goal.put-requires-after_bounds
put-requires-after_bounds g c κs within =
    let p = c.args.self.now in let x = c.index_mut.result.now in
    c.requires.address.1 ∙ sym (p.numbered c.args.to x (slice_get_read p.ways.items (length p.ways.items) c.args.to x refl c.requires.site c.index_mut.ensures.value))

pub invariant_of-self-clause-numbered : goal.invariant_of-self-clause-numbered
invariant_of-self-clause-numbered g c =
    let p = c.args.self.now in let x = c.index_mut.result.now in
    numbered_set p.ways.items c.args.to p.site x c.put.new.self p.numbered (slice_get_read p.ways.items (length p.ways.items) c.args.to x refl c.requires.site c.index_mut.ensures.value) c.put.ensures.same.number_same

pub invariant_of-self-clause-reaches : goal.invariant_of-self-clause-reaches
invariant_of-self-clause-reaches g c = let p = c.args.self.now in p.reaches ∙ sym (length-set p.ways.items c.args.to c.put.new.self)

pub returns : goal.returns
returns g c =
    let p = c.args.self.now in let xs = p.ways.items in let i = c.args.to in let x = c.index_mut.result.now in let y = c.put.new.self in
    let was = slice_get_read xs (length xs) i x refl c.requires.site c.index_mut.ensures.value in
    let h : Changes p _ i x y = record { site_same = refl; ways = refl; was = was } in
    let put = c.put.ensures in
    record {
      keeps = keeps_put p _ i x y h refl put.same.queue_same put.last put.same.fresh_same put.noted;
      taking = λ k. (refl, refl);
      room = rows_less (λ way. way.spare) xs i x y c.args.item was (omega (arith, put.room));
      ok = on_ok_weaker c.put.result (λ f. rows_more (λ way. sent_by way) xs i x y c.args.item was f) put.ok;
      err = IfErr-weaker c.put.result _ _ (λ back f. (
        f.0,
        rows_was (λ way. way.spare) 0 xs i x y was ∙ f.2,
        λ k. (rows_same (λ way. sent_by way) [] xs i x y was f.1 k, rows_same (λ way. way.spare) 0 xs i x y was (omega (arith, put.room, f.2)) k),
      )) put.err;
    }
