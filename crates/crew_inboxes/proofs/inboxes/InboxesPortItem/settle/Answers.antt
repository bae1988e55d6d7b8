use Rattle.std.proofs.Common.{◌≡◌, ◌≢◌, ◌++◌, ◌-◌, ◌∙◌, ℕ, [], sym, ap, subst, length, length-set, refl, arith}
use Rattle.std.proofs.lemmas.Option.{slice_get_read}
use denote.Exit.{no}
use denote.Param.Send.{arg_send, param_send}
use Rattle.crossbeam_queue.specs.Passes.{view}
use Rattle.np_inbox_rule.specs.Steps.{sent_in, last_in}
use Rattle.site_inboxes.specs.Views.{number_in}
use Rattle.site_links.specs.declared.places.TheConstants.{PLACES}
use Rattle.site_links.proofs.Rows.{rows_same, rows_others, rows_here}
use Rattle.crew_inboxes.specs.Ways.{sent_by, last_by, taken_of, waiting_of}
use Rattle.site_turn.proofs.Crossing.Items.{item_send}
use Rattle.crew_inboxes.proofs.Taking.{numbered_set, taken_same, waiting_same}
use Rattle.crew_inboxes.proofs.Links.{Changes, keeps_but, out_still, in_still, same_rests, settled_linked, way_within, back_within, way_joined, way_counts, way_rests}
use Rattle.crew_inboxes.proofs.inboxes.InboxesPortItem.settle.Goals as goal

pub index-requires : goal.index-requires
index-requires g c = let h = back_within c.requires in let long = c.args.to.now.ways.ok.0 in omega arith

pub index_mut-way-requires : goal.index_mut-way-requires
index_mut-way-requires g c = let h = way_within c.requires in let long = c.args.self.now.ways.ok.0 in omega arith

pub index_mut-requires : goal.index_mut-requires
index_mut-requires g c = let h = back_within c.requires in let long = c.args.to.now.ways.ok.0 in omega arith

pub restart-requires-send-I : goal.restart-requires-send-I
restart-requires-send-I g c κs = param_send 0 _ (arg_send _ no _ item_send)

pub settle_way-waiting-requires-clause-joined : goal.settle_way-waiting-requires-clause-joined
settle_way-waiting-requires-clause-joined g c =
    let xs = c.args.self.now.ways.items in let x = c.index_mut-way.result.now in
    way_joined c.requires x (slice_get_read xs (length xs) c.args.to.now.site x refl (way_within c.requires) c.index_mut-way.ensures.value)

pub settle_way-waiting-requires-clause-fresh : goal.settle_way-waiting-requires-clause-fresh
settle_way-waiting-requires-clause-fresh g c =
    let p = c.args.self.now in let q = c.args.to.now in let x = c.index_mut-way.result.now in let z = c.index.result.now in
    let out = slice_get_read p.ways.items (length p.ways.items) q.site x refl (way_within c.requires) c.index_mut-way.ensures.value in
    let back = slice_get_read q.ways.items (length q.ways.items) p.site z refl (back_within c.requires) c.index.ensures in
    way_counts c.requires x z (number_in (view x.pass)) out back (p.numbered q.site x out)

pub settle_way-waiting-requires-clause-rests : goal.settle_way-waiting-requires-clause-rests
settle_way-waiting-requires-clause-rests g c =
    let p = c.args.self.now in let q = c.args.to.now in let x = c.index_mut-way.result.now in let z = c.index.result.now in
    let out = slice_get_read p.ways.items (length p.ways.items) q.site x refl (way_within c.requires) c.index_mut-way.ensures.value in
    let back = slice_get_read q.ways.items (length q.ways.items) p.site z refl (back_within c.requires) c.index.ensures in
    way_rests c.requires x z (number_in (view x.pass)) out back (p.numbered q.site x out)

pub invariant_of-self-clause-numbered : goal.invariant_of-self-clause-numbered
invariant_of-self-clause-numbered g c =
    let p = c.args.self.now in let xs = p.ways.items in let i = c.args.to.now.site in let x = c.index_mut-way.result.now in
    numbered_set xs i p.site x c.settle_way-waiting.new.way p.numbered (slice_get_read xs (length xs) i x refl (way_within c.requires) c.index_mut-way.ensures.value) c.settle_way-waiting.ensures.settled.same_way.number_same

pub invariant_of-to-clause-numbered : goal.invariant_of-to-clause-numbered
invariant_of-to-clause-numbered g c =
    let q = c.args.to.now in let zs = q.ways.items in let j = c.args.self.now.site in let z = c.index_mut.result.now in
    numbered_set zs j q.site z c.restart.new.self q.numbered (slice_get_read zs (length zs) j z refl (back_within c.requires) c.index_mut.ensures.value) (ap (λ o. number_in (view o)) c.restart.ensures.same.pass_same)

pub invariant_of-self-clause-reaches : goal.invariant_of-self-clause-reaches
invariant_of-self-clause-reaches g c = let p = c.args.self.now in p.reaches ∙ sym (length-set p.ways.items c.args.to.now.site c.settle_way-waiting.new.way)

pub invariant_of-to-clause-reaches : goal.invariant_of-to-clause-reaches
invariant_of-to-clause-reaches g c =
    let q = c.args.to.now in c.settle_way-waiting.ensures.settled.same_inbox.sites_same ∙ (q.reaches ∙ sym (length-set q.ways.items c.args.self.now.site c.restart.new.self))

pub returns : goal.returns
returns g c =
    let p = c.args.self.now in let xs = p.ways.items in let j = p.site in
    let q = c.args.to.now in let zs = q.ways.items in let i = q.site in
    let x = c.index_mut-way.result.now in let y = c.settle_way-waiting.new.way in
    let z = c.index_mut.result.now in let w = c.restart.new.self in let b = c.settle_way-waiting.new.inbox in
    let out = slice_get_read xs (length xs) i x refl (way_within c.requires) c.index_mut-way.ensures.value in
    let back = slice_get_read zs (length zs) j z refl (back_within c.requires) c.index_mut.ensures.value in
    let h : Changes p _ i x y = record { site_same = refl; ways = refl; was = out } in
    let k : Changes q _ j z w = record { site_same = refl; ways = refl; was = back } in
    let s = c.settle_way-waiting.ensures.settled in let r = c.restart.ensures in
    let number : number_in (view x.pass) ≡ j = p.numbered i x out in
    let taken : (n : ℕ) → taken_of b n ≡ taken_of q.inbox n = taken_same q.inbox b s.got in
    let waits : (n : ℕ) → n ≢ j → waiting_of b n ≡ waiting_of q.inbox n = λ n m. waiting_same q.inbox b n (taken n) (s.told n (λ f. m (f ∙ number))) in
    let settled : taken_of b j ++ waiting_of b j ≡ sent_by y = subst (λ (n : ℕ). taken_of b n ++ waiting_of b n ≡ sent_by y) number s.settled in
    let free : y.spare ≡ PLACES - length (waiting_of b j) = subst (λ (n : ℕ). y.spare ≡ PLACES - length (waiting_of b n)) number s.free in
    record {
      keeps = (keeps_but p _ i x y h refl (λ n. refl) (λ n m. refl), keeps_but q _ j z w k s.same_inbox.queue_same taken waits);
      between = (
        settled_linked p q _ _ x y z w h k s.same_way.queue_same s.same_inbox.queue_same (subst (λ (n : ℕ). last_by y ≡ taken_of b n) number s.last) r.none settled free s.rests,
        λ l. in_still p _ i x y h refl (λ n. refl) (λ n m. refl) s.same_way.fresh_same refl _
            (out_still q _ j z w k s.same_inbox.queue_same taken waits (ap (λ o. o.table_id) r.same.pass_same) (ap (λ o. last_in (view o)) r.same.pass_same)
            (same_rests q _ j z w k r.same.put_same r.same.pass_same r.same.spare_same) p l),
      );
      sent = λ n. (rows_same (λ way. sent_by way) [] xs i x y out s.sent n, rows_same (λ way. sent_by way) [] zs j z w back (ap (λ o. sent_in (view o)) r.same.pass_same) n);
      got = λ n. (refl, taken n);
      known = λ n. (refl, waits n);
      room = λ n. (rows_others (λ way. way.spare) 0 xs i x y out n, rows_same (λ way. way.spare) 0 zs j z w back r.same.spare_same n);
      settled = settled ∙ sym (rows_here (λ way. sent_by way) [] xs i x y out);
      free = rows_here (λ way. way.spare) 0 xs i x y out ∙ free;
      waiting = subst (λ (n : ℕ). c.settle_way-waiting.result ≡ length (waiting_of b n)) number c.settle_way-waiting.ensures.waiting;
    }
