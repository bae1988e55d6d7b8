use Rattle.run_save.proofs.following.Following.{none_follow, one_more_follows, room_is_left}
use Rattle.run_save.proofs.following.laws.law_one_more_follows.Goals as goal

pub returns-clause-none : goal.returns-clause-none
returns-clause-none c = none_follow

pub returns-clause-more : goal.returns-clause-more
returns-clause-more c = one_more_follows

pub returns-clause-room : goal.returns-clause-room
returns-clause-room c = room_is_left
