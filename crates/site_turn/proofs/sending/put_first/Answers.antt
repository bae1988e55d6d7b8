use Rattle.std.proofs.lemmas.Grind.{common_steps}
use Rattle.std.proofs.Common.{refl, inl, inr, arith}
use Rattle.site_turn.proofs.Events.{lines_back, none_back, none_for_all, none_out}
use Rattle.site_turn.proofs.Steps.{address, back_place, back_within, turned_back, turned_sent, turned_stays}
use Rattle.site_turn.proofs.sending.put_first.Goals as goal

pub returns-in-None-clause-turned : goal.returns-in-None-clause-turned
returns-in-None-clause-turned g c = turned_stays (record { same = c.in-None.ensures.same.same; quiet = c.in-None.ensures.same.quiet c.args._code.now }) refl refl refl (λ h. h)

pub returns-in-None-clause-only : goal.returns-in-None-clause-only
returns-in-None-clause-only g c = record { site = none_for_all c.in-None.ensures.same; known = λ k. refl; aside = refl; failed = refl }

pub returns-in-None-clause-no : goal.returns-in-None-clause-no
returns-in-None-clause-no g c = λ e. record { why = inl c.in-None.ensures.none; site = c.in-None.ensures.same.same; sent = λ k. refl; room = λ k. refl }

pub put-requires-clause-address : goal.put-requires-clause-address
put-requires-clause-address g c = address c.requires.seated c.in-Some.ensures

pub give_back-requires-clause-to : goal.give_back-requires-clause-to
give_back-requires-clause-to g c = back_within c.requires.seated c.in-Some.ensures c.in-Err.item c.in-Err.ensures.err.0 c.requires.to

pub give_back-requires-clause-place : goal.give_back-requires-clause-place
give_back-requires-clause-place g c = back_place c.requires.seated c.in-Some.ensures c.in-Err.item c.in-Err.ensures.err.0

pub returns-in-Ok-clause-turned : goal.returns-in-Ok-clause-turned
returns-in-Ok-clause-turned g c = turned_sent c.args.to c.in-Some.item c.in-Some.ensures c.in-Ok.ensures.keeps c.in-Ok.ensures.ok c.in-Ok.ensures.taking refl refl refl

pub returns-in-Ok-clause-only : goal.returns-in-Ok-clause-only
returns-in-Ok-clause-only g c = record { site = none_out c.in-Some.ensures; known = λ k. (c.in-Ok.ensures.taking k).1; aside = refl; failed = refl }

pub returns-in-Ok-clause-yes : goal.returns-in-Ok-clause-yes
returns-in-Ok-clause-yes g c = λ e. record { item = c.in-Some.item; out = c.in-Some.ensures; sent = c.in-Ok.ensures.ok; room = c.in-Ok.ensures.room }

pub returns-in-Err-clause-turned : goal.returns-in-Err-clause-turned
returns-in-Err-clause-turned g c =
    turned_back c.requires.seated c.in-Some.ensures c.in-Err.item c.in-Err.ensures.err.0 c.give_back.ensures c.in-Err.ensures.keeps c.in-Err.ensures.err.2 c.in-Err.ensures.taking refl refl refl

pub returns-in-Err-clause-only : goal.returns-in-Err-clause-only
returns-in-Err-clause-only g c = record { site = none_back c.in-Some.ensures c.give_back.ensures; known = λ k. (c.in-Err.ensures.taking k).1; aside = refl; failed = refl }

pub returns-in-Err-clause-no : goal.returns-in-Err-clause-no
returns-in-Err-clause-no g c = λ e. record {
  why = inr c.in-Err.ensures.err.1;
  site = lines_back c.requires.seated c.in-Some.ensures c.in-Err.ensures.err.0 c.give_back.ensures;
  sent = λ k. (c.in-Err.ensures.err.2 k).0;
  room = λ k. (c.in-Err.ensures.err.2 k).1;
}

pub returns-in-None-clause-yes : goal.returns-in-None-clause-yes
returns-in-None-clause-yes g c = grind (arith, common_steps)

pub returns-in-Ok-clause-no : goal.returns-in-Ok-clause-no
returns-in-Ok-clause-no g c = grind (arith, common_steps)

pub returns-in-Err-clause-yes : goal.returns-in-Err-clause-yes
returns-in-Err-clause-yes g c = grind (arith, common_steps)
