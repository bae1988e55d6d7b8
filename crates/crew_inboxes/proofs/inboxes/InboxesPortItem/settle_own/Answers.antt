use Rattle.std.proofs.Common.{◌≡◌, ◌≢◌, ◌++◌, ◌-◌, ◌∙◌, ℕ, [], sym, ap, subst, length, length-set, refl, arith}
use Rattle.std.proofs.lemmas.Option.{slice_get_read}
use denote.Exit.{no}
use denote.Param.Send.{arg_send, param_send}
use Rattle.crossbeam_queue.specs.Passes.{view}
use Rattle.np_inbox_rule.specs.Steps.{sent_in, last_in}
use Rattle.site_inboxes.specs.Views.{number_in}
use Rattle.site_links.specs.declared.places.TheConstants.{PLACES}
use Rattle.site_links.proofs.Rows.{rows_same, rows_others, rows_here}
use Rattle.crew_inboxes.specs.Ways.{sent_by, last_by, taken_of, waiting_of}
use Rattle.site_turn.proofs.Crossing.Items.{item_send}
use Rattle.crew_inboxes.proofs.Taking.{numbered_set, taken_same, waiting_same}
use Rattle.crew_inboxes.proofs.Links.{Changes, keeps_but, settled_linked, way_within, way_joined, way_counts, way_rests}
use Rattle.crew_inboxes.proofs.inboxes.InboxesPortItem.settle_own.Goals as goal

pub index-requires : goal.index-requires
index-requires g c = let h = way_within c.requires in let long = c.args.self.now.ways.ok.0 in omega arith

pub index_mut-way-requires : goal.index_mut-way-requires
index_mut-way-requires g c = let h = way_within c.requires in let long = c.args.self.now.ways.ok.0 in omega arith

pub restart-requires-send-I : goal.restart-requires-send-I
restart-requires-send-I g c κs = param_send 0 _ (arg_send _ no _ item_send)

pub settle_way-waiting-requires-clause-joined : goal.settle_way-waiting-requires-clause-joined
settle_way-waiting-requires-clause-joined g c =
    let xs = c.args.self.now.ways.items in let x = c.index_mut-way.result.now in
    way_joined c.requires x (slice_get_read xs (length xs) c.args.self.now.site x refl (way_within c.requires) c.index_mut-way.ensures.value)

pub settle_way-waiting-requires-clause-fresh : goal.settle_way-waiting-requires-clause-fresh
settle_way-waiting-requires-clause-fresh g c =
    let p = c.args.self.now in let xs = p.ways.items in let x = c.index_mut-way.result.now in let z = c.index.result.now in
    let out = slice_get_read xs (length xs) p.site x refl (way_within c.requires) c.index_mut-way.ensures.value in
    let back = slice_get_read xs (length xs) p.site z refl (way_within c.requires) c.index.ensures in
    way_counts c.requires x z (number_in (view x.pass)) out back (p.numbered p.site x out)

pub settle_way-waiting-requires-clause-rests : goal.settle_way-waiting-requires-clause-rests
settle_way-waiting-requires-clause-rests g c =
    let p = c.args.self.now in let xs = p.ways.items in let x = c.index_mut-way.result.now in let z = c.index.result.now in
    let out = slice_get_read xs (length xs) p.site x refl (way_within c.requires) c.index_mut-way.ensures.value in
    let back = slice_get_read xs (length xs) p.site z refl (way_within c.requires) c.index.ensures in
    way_rests c.requires x z (number_in (view x.pass)) out back (p.numbered p.site x out)

pub invariant_of-self-clause-numbered : goal.invariant_of-self-clause-numbered
invariant_of-self-clause-numbered g c =
    let p = c.args.self.now in let xs = p.ways.items in let x = c.index_mut-way.result.now in
    numbered_set xs p.site p.site x c.restart.new.self p.numbered (slice_get_read xs (length xs) p.site x refl (way_within c.requires) c.index_mut-way.ensures.value)
    (ap (λ o. number_in (view o)) c.restart.ensures.same.pass_same ∙ c.settle_way-waiting.ensures.settled.same_way.number_same)

pub invariant_of-self-clause-reaches : goal.invariant_of-self-clause-reaches
invariant_of-self-clause-reaches g c =
    let p = c.args.self.now in c.settle_way-waiting.ensures.settled.same_inbox.sites_same ∙ (p.reaches ∙ sym (length-set p.ways.items p.site c.restart.new.self))

pub returns : goal.returns
returns g c =
    let p = c.args.self.now in let xs = p.ways.items in let i = p.site in
    let x = c.index_mut-way.result.now in let y = c.settle_way-waiting.new.way in let w = c.restart.new.self in let b = c.settle_way-waiting.new.inbox in
    let out = slice_get_read xs (length xs) i x refl (way_within c.requires) c.index_mut-way.ensures.value in
    let h : Changes p _ i x w = record { site_same = refl; ways = refl; was = out } in
    let s = c.settle_way-waiting.ensures.settled in let r = c.restart.ensures in
    let number : number_in (view x.pass) ≡ i = p.numbered i x out in
    let taken : (n : ℕ) → taken_of b n ≡ taken_of p.inbox n = taken_same p.inbox b s.got in
    let sent : sent_by w ≡ sent_by y = ap (λ o. sent_in (view o)) r.same.pass_same in
    let last : last_by w ≡ last_by y = ap (λ o. last_in (view o)) r.same.pass_same in
    let waits : (n : ℕ) → n ≢ i → waiting_of b n ≡ waiting_of p.inbox n = λ n m. waiting_same p.inbox b n (taken n) (s.told n (λ f. m (f ∙ number))) in
    let settled : taken_of b i ++ waiting_of b i ≡ sent_by w = subst (λ (n : ℕ). taken_of b n ++ waiting_of b n ≡ sent_by y) number s.settled ∙ sym sent in
    let free : w.spare ≡ PLACES - length (waiting_of b i) = r.same.spare_same ∙ subst (λ (n : ℕ). y.spare ≡ PLACES - length (waiting_of b n)) number s.free in
    record {
      keeps = keeps_but p _ i x w h s.same_inbox.queue_same taken waits;
      own = settled_linked p p _ _ x w x w h h (ap (λ o. o.table_id) r.same.pass_same ∙ s.same_way.queue_same) s.same_inbox.queue_same (last ∙ subst (λ (n : ℕ). last_by y ≡ taken_of b n) number s.last) r.none settled free
          (λ none. r.same.spare_same ∙ s.rests (sym r.same.put_same ∙ none));
      same = λ n. (rows_same (λ way. sent_by way) [] xs i x w out (sent ∙ s.sent) n, taken n);
      others = λ n m. (waits n m, rows_others (λ way. way.spare) 0 xs i x w out n m);
      settled = settled ∙ sym (rows_here (λ way. sent_by way) [] xs i x w out);
      free = rows_here (λ way. way.spare) 0 xs i x w out ∙ free;
      waiting = subst (λ (n : ℕ). c.settle_way-waiting.result ≡ length (waiting_of b n)) number c.settle_way-waiting.ensures.waiting;
    }
