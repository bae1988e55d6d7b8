use Rattle.std.proofs.lemmas.Grind.{common_steps}
use Rattle.std.proofs.Common.{inl, inr, refl, ap, ◌∙◌, ◌++◌, append-nil, length, arith}
use Rattle.site_links.proofs.Rows.{only_at-other, only_at-same}
use Rattle.site_state.specs.Lines.{queue_at}
use Rattle.site_turn.proofs.Steps.{address, back_place, back_within, turned_back, turned_sent, turned_stays}
use Rattle.site_crew.proofs.Redoing.{moves_alone}
use Rattle.site_crew.proofs.bringing.put_first.Goals as goal

pub put-requires-clause-address : goal.put-requires-clause-address
put-requires-clause-address g c = address c.requires.seated c.in-Some.ensures

pub give_back-requires-clause-to : goal.give_back-requires-clause-to
give_back-requires-clause-to g c = back_within c.requires.seated c.in-Some.ensures c.in-Err.item c.in-Err.ensures.err.0 c.requires.to

pub give_back-requires-clause-place : goal.give_back-requires-clause-place
give_back-requires-clause-place g c = back_place c.requires.seated c.in-Some.ensures c.in-Err.item c.in-Err.ensures.err.0

pub returns-in-Ok-clause-moves : goal.returns-in-Ok-clause-moves
returns-in-Ok-clause-moves g c = λ i. record {
  turned = turned_sent c.args.to c.in-Some.item c.in-Some.ensures c.in-Ok.ensures.keeps c.in-Ok.ensures.ok c.in-Ok.ensures.taking refl refl refl;
  sent = λ k apart. c.in-Ok.ensures.ok k ∙ ap (λ l. g.P.Port.sent c.args.seat.now.port k ++ l) (only_at-other k c.args.to c.in-Some.item apart) ∙ append-nil (g.P.Port.sent c.args.seat.now.port k);
  room = λ k apart. let low = c.in-Ok.ensures.room k in let none = ap length (only_at-other k c.args.to c.in-Some.item apart) in omega (arith, low, none);
  got = λ apart k. c.in-Ok.ensures.taking k;
  waits = λ apart. refl;
}

pub returns-in-Ok-clause-yes : goal.returns-in-Ok-clause-yes
returns-in-Ok-clause-yes g c = λ yes. record {
  item = c.in-Some.item;
  later = queue_at c.next_out.new.self.outgoing c.args.to;
  first = c.in-Some.ensures.outgoing.there;
  sent = c.in-Ok.ensures.ok c.args.to ∙ ap (λ l. g.P.Port.sent c.args.seat.now.port c.args.to ++ l) (only_at-same c.args.to c.in-Some.item);
  got = λ k. (c.in-Ok.ensures.taking k).0;
  aside = refl;
}

pub returns-in-Err-clause-moves : goal.returns-in-Err-clause-moves
returns-in-Err-clause-moves g c = λ i. record {
  turned = turned_back c.requires.seated c.in-Some.ensures c.in-Err.item c.in-Err.ensures.err.0 c.give_back.ensures c.in-Err.ensures.keeps c.in-Err.ensures.err.2 c.in-Err.ensures.taking refl refl refl;
  sent = λ k apart. (c.in-Err.ensures.err.2 k).0;
  room = λ k apart. let same = (c.in-Err.ensures.err.2 k).1 in omega (arith, same);
  got = λ apart k. c.in-Err.ensures.taking k;
  waits = λ apart. refl;
}

pub returns-in-Err-clause-no : goal.returns-in-Err-clause-no
returns-in-Err-clause-no g c = λ no. inr c.in-Err.ensures.err.1

pub returns-in-None-clause-moves : goal.returns-in-None-clause-moves
returns-in-None-clause-moves g c = λ i. moves_alone (turned_stays (record { same = c.in-None.ensures.same.same; quiet = c.in-None.ensures.same.quiet c.args._code.now }) refl refl refl (λ h. h)) refl refl

pub returns-in-None-clause-no : goal.returns-in-None-clause-no
returns-in-None-clause-no g c = λ no. inl c.in-None.ensures.none

pub returns-in-Ok-clause-rests : goal.returns-in-Ok-clause-rests
returns-in-Ok-clause-rests g c = grind (arith, common_steps)

pub returns-in-None-clause-rests : goal.returns-in-None-clause-rests
returns-in-None-clause-rests g c = grind (arith, common_steps)

pub returns-in-Err-clause-rests : goal.returns-in-Err-clause-rests
returns-in-Err-clause-rests g c = grind (arith, common_steps)
