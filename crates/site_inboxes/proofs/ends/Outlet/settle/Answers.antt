use Rattle.std.proofs.Common.{◌≤◌, ◌+◌, arith, refl}
use Rattle.std.proofs.lemmas.Bool.{ltb-false}
use Rattle.site_links.specs.declared.places.TheConstants.{PLACES}
use Rattle.crossbeam_queue.specs.Passes.{view}
use Rattle.site_inboxes.proofs.Waiting.{settled-whole, settled-spaced, settled-free}
use Rattle.site_inboxes.proofs.ends.Outlet.settle.Goals as goal

pub invariant_of-self-clause-spaced : goal.invariant_of-self-clause-spaced
invariant_of-self-clause-spaced g c =
    let o = c.args.self.now in let b = c.args.inbox.now in let e = c.pass_notes.ensures in
    settled-spaced g.I.Addressed.sender (view o.pass) (view b.pass) (view c.pass_notes.new.sender) (view c.pass_notes.new.owner) e.settled e.freed o.spare c.args.fresh o.spaced c.requires.fresh

pub returns : goal.returns
returns g c =
    let o = c.args.self.now in let b = c.args.inbox.now in let e = c.pass_notes.ensures in let s = e.settled in let sender = g.I.Addressed.sender in
    let v' = view c.pass_notes.new.sender in let b' = view c.pass_notes.new.owner in
    let free = settled-free sender (view o.pass) (view b.pass) v' b' s e.freed o.spare c.args.fresh o.spaced c.requires.fresh in
    record {
      same = (record { queue_same = e.same.0.0; number_same = s.number_same; fresh_same = refl }, record { queue_same = e.same.1.0; sites_same = s.owner_sites });
      sent = s.sent_same;
      got = s.got_same;
      last = s.last_is;
      told = s.told_others;
      settled = settled-whole sender (view o.pass) (view b.pass) v' b' s e.freed;
      free = free;
      rests = λ none. let full : PLACES ≤ o.spare + c.args.fresh = ltb-false (o.spare + c.args.fresh) PLACES none in omega (arith, free, full);
    }
