use Rattle.std.proofs.Common.{◌≡◌, ◌≢◌, ◌<◌, ◌++◌, ◌∷◌, [], ℕ, ◌∙◌, sym, ap, subst, length, length-set, refl}
use Rattle.std.proofs.lemmas.Option.{slice_get_read}
use denote.Exit.{no}
use denote.Param.Send.{arg_send, param_send}
use Rattle.crossbeam_queue.specs.Passes.{view}
use Rattle.np_inbox_rule.specs.Steps.{sent_in, last_in}
use Rattle.site_inboxes.specs.Views.{number_in, sites_in}
use Rattle.site_links.proofs.Rows.{rows_same}
use Rattle.crew_inboxes.specs.Ways.{sent_by, taken_of}
use Rattle.site_turn.proofs.Crossing.Items.{item_send}
use Rattle.crew_inboxes.proofs.Taking.{numbered_set, taken_same, taken_here, taken_others, takes_item, waiting_same}
use Rattle.crew_inboxes.proofs.Links.{Changes, keeps_same, keeps_changed, count_more, same_rests, taken_rests}
use Rattle.crew_inboxes.proofs.inboxes.InboxesPortItem.take.Goals as goal

pub take-requires-send-I : goal.take-requires-send-I
take-requires-send-I g c κs within = param_send 0 _ (arg_send _ no _ item_send)

pub count-requires-send-I : goal.count-requires-send-I
count-requires-send-I g c κs = param_send 0 _ (arg_send _ no _ item_send)

pub invariant_of-self-clause-numbered : goal.invariant_of-self-clause-numbered
invariant_of-self-clause-numbered g c =
    let p = c.args.self.now in let xs = p.ways.items in let i = c.from_site.result in let x = c.index_mut.result.now in
    let h = c.in-Some.ensures.taken in
    let within = subst (λ (n : ℕ). i < n) p.reaches (subst (λ (n : ℕ). n < sites_in (view p.inbox.pass)) (sym c.from_site.ensures) h.within) in
    numbered_set xs i p.site x c.count.new.self p.numbered (slice_get_read xs (length xs) i x refl within c.index_mut.ensures.value) (ap (λ o. number_in (view o)) c.count.ensures.same.pass_same)

pub invariant_of-self-clause-reaches : goal.invariant_of-self-clause-reaches
invariant_of-self-clause-reaches g c =
    let p = c.args.self.now in c.take.ensures.same.sites_same ∙ (p.reaches ∙ sym (length-set p.ways.items c.from_site.result c.count.new.self))

pub returns-in-Some : goal.returns-in-Some
returns-in-Some g c =
    let p = c.args.self.now in let xs = p.ways.items in let i = c.from_site.result in let x = c.index_mut.result.now in let y = c.count.new.self in
    let a = p.inbox in let b = c.take.new.self in let item = c.in-Some.item in
    let h = c.in-Some.ensures.taken in let e : i ≡ item.from = c.from_site.ensures in let same = c.count.ensures.same in
    let within = subst (λ (n : ℕ). item.from < n) p.reaches h.within in
    let was = slice_get_read xs (length xs) i x refl (subst (λ (n : ℕ). n < length xs) (sym e) within) c.index_mut.ensures.value in
    let k : Changes p _ i x y = record { site_same = refl; ways = refl; was = was } in
    let here : taken_of b i ≡ taken_of a i ++ item ∷ [] = subst (λ (n : ℕ). taken_of b n ≡ taken_of a n ++ item ∷ []) (sym e) (taken_here a b item h) in
    let others : (n : ℕ) → n ≢ i → taken_of b n ≡ taken_of a n = λ n m. taken_others a b item h n (λ f. m (f ∙ sym e)) in
    record {
      keeps = keeps_changed p _ i x y k (ap (λ o. o.table_id) same.pass_same) (ap (λ o. last_in (view o)) same.pass_same)
          (same_rests p _ i x y k same.put_same same.pass_same same.spare_same) c.take.ensures.same.queue_same others
          (λ n m. waiting_same a b n (others n m) (c.take.ensures.told n)) (count_more p _ i x y k item here c.count.ensures.more) (taken_rests p _ i x y k c.count.ensures.some);
      putting = λ n. (rows_same (λ way. sent_by way) [] xs i x y was (ap (λ o. sent_in (view o)) same.pass_same) n, rows_same (λ way. way.spare) 0 xs i x y was same.spare_same n);
      taken = (item.from, within, takes_item a b item h c.take.ensures.told);
    }

pub returns-in-None-clause-keeps : goal.returns-in-None-clause-keeps
returns-in-None-clause-keeps g c =
    let a = c.args.self.now.inbox in let b = c.take.new.self in let same = taken_same a b c.in-None.ensures.taken.0 in
    keeps_same c.args.self.now _ refl refl c.take.ensures.same.queue_same same (λ n. waiting_same a b n (same n) (c.take.ensures.told n))
