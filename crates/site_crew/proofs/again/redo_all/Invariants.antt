use Rattle.std.proofs.Common.{take}
use Rattle.site_crew.specs.Bringing.{AreClear}
use Rattle.site_crew.specs.Following.{HaveDone}
use Rattle.site_crew.specs.Seats.{AllGrow, histories}
use Rattle.site_crew.proofs.again.redo_all.Given as goal

abbrev pub invariant-loop-k : goal.invariant-loop-k
invariant-loop-k g l = record { clear : AreClear g.P.Port l.seats; done : HaveDone g.P.Port l.code l.budget (take l.k l.events) l.seats; grow : AllGrow (histories l.fn.seats) (histories l.seats) }
