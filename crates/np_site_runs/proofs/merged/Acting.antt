-- An agent can act wherever the atoms are that it has elsewhere.
use Rattle.std.proofs.Common.{◌≡◌, ◌⊎◌, ⊎_elim, inl, inr, Some}
use Rattle.std.specs.FinMap as table
use Rattle.np_syntax.specs.declared.value.Name.{Name}
use Rattle.np_calculus.specs.declared.config.Atom.{Atom}
use Rattle.np_calculus.specs.Config.{Config}
use Rattle.np_calculus.specs.Idle.{HasMeeting, HasWork}

module _ (c d : Config) (agent : Name) (has : (m : Name) (a : Atom) → table.get c.atoms m ≡ Some a → a.agent ≡ agent → table.get d.atoms m ≡ Some a) where
  works-along : HasWork c agent → HasWork d agent
  works-along w = record { mark = w.mark; atom = w.atom; there = has w.mark w.atom w.there w.of; of = w.of; acts = w.acts }

  meets-along : HasMeeting c agent → HasMeeting d agent
  meets-along w = record {
    output = w.output;
    giver = w.giver;
    gives = has w.output w.giver w.gives w.giver_of;
    giver_of = w.giver_of;
    input = w.input;
    taker = w.taker;
    takes = has w.input w.taker w.takes w.taker_of;
    taker_of = w.taker_of;
    from = w.from;
    output_form = w.output_form;
    to = w.to;
    input_form = w.input_form;
    chan = w.chan;
    given = w.given;
    taken = w.taken;
  }

  pub acts_along : HasWork c agent ⊎ HasMeeting c agent → HasWork d agent ⊎ HasMeeting d agent
  acts_along = ⊎_elim (λ w. inl (works-along w)) (λ w. inr (meets-along w))
