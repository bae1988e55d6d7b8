-- Each rule of the protocol keeps it.
use Rattle.simulate_laws.specs.protocol.Laws.{KeepsProtocol}
use Rattle.simulate_laws.specs.protocol.Rules.{Rule}
use Rattle.simulate_laws.proofs.protocol.Moves.{knows, begins_move, begins_creation, comes, is_granted, finishes, starts, grants, reports, delivers, delivered}
use Rattle.simulate_laws.proofs.protocol.Places.{arrives, creates, departs, notes}
use Rattle.simulate_laws.proofs.protocol.Registers.{registers}

pub keeps-protocol : KeepsProtocol
keeps-protocol w next phase before after take give (Rule.knows lost learnt) step p = knows w phase lost learnt step p
keeps-protocol w next phase before after take give (Rule.begins_move {a = a} {s = s}) step p = begins_move w phase a s step p
keeps-protocol w next phase before after take give (Rule.begins_creation {a = a} {s = s}) step p = begins_creation w phase a s step p
keeps-protocol w next phase before after take give (Rule.creates {a = a} {b = b} {s = s} new) step p = creates w phase a b s new step p
keeps-protocol w next phase before after take give (Rule.registers {b = b} {l = l} {s = s} {m = m} {n = n} new map) step p = registers w phase b l s m n new map step p
keeps-protocol w next phase before after take give (Rule.starts {b = b} {p = a} {s = s}) step p = starts w phase b a s step p
keeps-protocol w next phase before after take give (Rule.finishes {a = a} {s = s}) step p = finishes w phase a s step p
keeps-protocol w next phase before after take give (Rule.comes {a = a} {s = s}) step p = comes w phase a s step p
keeps-protocol w next phase before after take give (Rule.grants {a = a} {l = l} {s = s}) step p = grants w phase a l s step p
keeps-protocol w next phase before after take give (Rule.is_granted {a = a}) step p = is_granted w phase a step p
keeps-protocol w next phase before after take give (Rule.departs {a = a} {t = t}) step p = departs w phase a t step p
keeps-protocol w next phase before after take give (Rule.arrives {a = a} {t = t} comes) step p = arrives w phase a t comes step p
keeps-protocol w next phase before after take give (Rule.reports {a = a} {s = s} {t = t} here) step p = reports w phase a s t here step p
keeps-protocol w next phase before after take give (Rule.notes {a = a} {l = l} {t = t} has) step p = notes w phase a l t has step p
keeps-protocol w next phase before after take give (Rule.delivers {b = b} {l = l} {s = s}) step p = delivers w phase b l s step p
keeps-protocol w next phase before after take give (Rule.delivered {b = b} {l = l} {s = s} has) step p = delivered w phase b l s has step p
