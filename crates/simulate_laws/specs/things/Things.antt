-- What an atom or a packet of the low level is there for, apart from the process that it has: a *thing*. It tells which chips of the
-- protocol it stands for, and which atom or packet of the high level (docs/TRANSLATION.md, "Translation and daemon").
use Rattle.std.specs.Prelude.{◌≡◌, ℕ, true, false, Option, None, Some, List, [], ◌∷◌}
use Rattle.std.specs.List.{All, flat_map}
use Rattle.np_syntax.specs.declared.value.Name.{Name}
use Rattle.np_syntax.specs.declared.expression.Expr.{Expr}
use Rattle.np_syntax.specs.Options.{◌>>=◌}
use Rattle.np_calculus.specs.declared.config.Atom.{Atom}
use Rattle.np_calculus.specs.declared.config.Packet.{Packet}
use Rattle.np_eval.specs.Eval.{find_place}
use Rattle.simulate_laws.specs.protocol.Chips.{Chip, Service}
use Rattle.simulate_laws.specs.protocol.CacheChips.{CacheChip}
use Rattle.simulate_laws.specs.things.Mail.{Mail, Posted, as_output}

-- where mail is: about to be sent from an agent, on its way, and there as an output
pub data Stage : Type 0 where
  in_agent : Name → Stage
  on_the_way : Stage
  there : Stage

-- Of an atom of the high level that is given, with how its process names its agent: it stands there as its translation; it asks to
-- move, may leave, or waits for the end of its affair at a site; it is about to make an agent at a site; it is that of a new agent of a
-- parent at a site.
pub data Thing : Type 0 where
  source : Expr → Atom → Thing
  asking : Expr → Atom → Thing
  leaving : Expr → Atom → Thing
  settling : Expr → Atom → ℕ → Thing
  making : Expr → Atom → ℕ → Thing
  beginning : Expr → Atom → Name → ℕ → Thing
  -- With caches, of a post of the high level: its agent's cache, with these hints by their locks, is taken; it waits for the hint with
  -- this lock; it is about to make a messenger; it is about to send to the daemon.
  calling : Expr → Atom → List (Name × Name) → Thing
  hoping : Expr → Atom → Name → Thing
  hiring : Expr → Atom → Thing
  passing : Expr → Atom → Thing
  -- a made output of the high level
  opened : Posted → Thing
  -- of an agent: its free `currentloc` with its site, and its server of letters
  token : Name → ℕ → Thing
  letters : Name → Thing
  -- with caches also its free cache, a free hint by its lock, and its server of what is found
  cache : Name → List (Name × Name) → Thing
  hint : Name → Name → Thing
  keeping : Name → Thing
  -- an answer of the daemon in the agent: a copy of that server took it, and has the cache; it replaces a hint, or adds one of an agent
  told : Name → Thing
  telling : Name → List (Name × Name) → Thing
  replacing : Name → Name → Thing
  adding : Name → List (Name × Name) → Name → Thing
  -- a letter with a messenger of an agent: it is about to leave for the site of a hint, or to look for the receiver
  carrying : Posted → Name → Name → Thing
  trying : Posted → Name → Name → Thing
  -- `0` of the infrastructure
  ended : Thing
  -- `open` of a letter
  opening : Posted → Thing
  -- mail of the infrastructure; of that for the daemon, a server's copy that took it, and has the map, or waits for an agent's lock
  mail : Mail → Stage → Thing
  taken : Mail → Thing
  looking : Mail → List (Name × Name) → Thing
  wanting : Mail → Name → Thing
  -- of the daemon: a server, its free lock with the map, and an agent's free lock with its site
  serving : Service → Thing
  places : List (Name × Name) → Thing
  free : Name → ℕ → Thing
  -- of the daemon with caches, for an agent that asks where another is: it has found the lock of the other, and has the map; it has
  -- found both locks; it has read that of the other
  looking_back : Name → Name → Name → List (Name × Name) → Thing
  reading : Name → Name → Name → Name → Thing
  reading_back : Name → Name → Thing
  -- a packet of the source
  packet : Packet → Thing

abbrev pub mail_chips : Mail → Stage → List Chip
mail_chips (Mail.register b s) stage = Chip.registration b s ∷ []
mail_chips (Mail.migrating a) stage = Chip.request a ∷ []
mail_chips (Mail.migrated a t) (Stage.in_agent x) = Chip.report a t false ∷ []
mail_chips (Mail.migrated a t) _ = Chip.report a t true ∷ []
mail_chips (Mail.message p) stage = Chip.knows p.agent ∷ []
mail_chips (Mail.dack b s) stage = Chip.delivery b s ∷ []
mail_chips (Mail.ack a s) Stage.there = Chip.ack_here a ∷ []
mail_chips (Mail.ack a s) _ = Chip.ack_sent a s ∷ []
mail_chips (Mail.deliver p s) stage = Chip.delivery p.agent s ∷ Chip.knows p.agent ∷ []
mail_chips (Mail.asks a b) stage = Chip.knows a ∷ Chip.knows b ∷ []
mail_chips (Mail.found a u b s) stage = Chip.knows a ∷ []

-- who waits for an agent's lock: a request to move, and a letter
abbrev pub wanting_chips : Mail → Name → List Chip
wanting_chips (Mail.migrating a) l = Chip.request a ∷ Chip.wants a l ∷ []
wanting_chips (Mail.message p) l = Chip.wants p.agent l ∷ Chip.knows p.agent ∷ []
wanting_chips _ l = []

-- the chips that a thing shows
abbrev pub shows : Thing → List Chip
shows (Thing.asking a h) = Chip.mover h.agent ∷ []
shows (Thing.leaving a h) = Chip.leaver h.agent ∷ []
shows (Thing.settling a h s) = Chip.waiter h.agent s ∷ []
shows (Thing.making a h s) = Chip.maker h.agent s ∷ []
shows (Thing.beginning a h p s) = Chip.child h.agent p s ∷ []
shows (Thing.token a s) = Chip.token a s ∷ []
shows (Thing.letters a) = Chip.takes_letters a ∷ []
shows (Thing.opening p) = Chip.knows p.agent ∷ []
shows (Thing.mail m stage) = mail_chips m stage
shows (Thing.taken m) = mail_chips m Stage.there
shows (Thing.looking m ps) = Chip.locks (find_place ps) ∷ mail_chips m Stage.there
shows (Thing.wanting m l) = wanting_chips m l
shows (Thing.serving k) = Chip.serves k ∷ []
shows (Thing.places ps) = Chip.locks (find_place ps) ∷ []
shows (Thing.free l s) = Chip.free l s ∷ []
shows (Thing.carrying p t a) = Chip.knows p.agent ∷ Chip.knows a ∷ []
shows (Thing.trying p t a) = Chip.knows p.agent ∷ Chip.knows a ∷ []
shows (Thing.looking_back a b l ps) = Chip.locks (find_place ps) ∷ Chip.wants b l ∷ Chip.knows a ∷ []
shows (Thing.reading a b l k) = Chip.wants b l ∷ Chip.wants a k ∷ []
shows (Thing.reading_back a k) = Chip.wants a k ∷ []
shows _ = []

-- the chips of caches that a thing shows: who has taken an agent's cache has it still
abbrev pub shows_caches : Thing → List CacheChip
shows_caches (Thing.cache a ps) = CacheChip.cache a (find_place ps) ∷ []
shows_caches (Thing.calling a h ps) = CacheChip.cache h.agent (find_place ps) ∷ []
shows_caches (Thing.telling a ps) = CacheChip.cache a (find_place ps) ∷ []
shows_caches (Thing.adding a ps b) = CacheChip.cache a (find_place ps) ∷ []
shows_caches (Thing.hint a l) = CacheChip.hint a l ∷ []
shows_caches (Thing.hoping a h l) = CacheChip.needs h.agent l ∷ []
shows_caches (Thing.replacing a l) = CacheChip.needs a l ∷ []
shows_caches _ = []

-- the letter of a mail, if it carries one
abbrev pub letter_of_mail : Mail → Option Posted
letter_of_mail (Mail.message p) = Some p
letter_of_mail (Mail.deliver p s) = Some p
letter_of_mail _ = None

abbrev pub carried : Thing → Option Posted
carried (Thing.opening p) = Some p
carried (Thing.mail m stage) = letter_of_mail m
carried (Thing.taken m) = letter_of_mail m
carried (Thing.looking m ps) = letter_of_mail m
carried (Thing.wanting m l) = letter_of_mail m
carried (Thing.carrying p t a) = Some p
carried (Thing.trying p t a) = Some p
carried _ = None

-- the atom of the high level that a thing is: a letter under way is the output that it was posted as
abbrev pub high_atom : Thing → Option Atom
high_atom (Thing.source a h) = Some h
high_atom (Thing.asking a h) = Some h
high_atom (Thing.leaving a h) = Some h
high_atom (Thing.settling a h s) = Some h
high_atom (Thing.making a h s) = Some h
high_atom (Thing.beginning a h p s) = Some h
high_atom (Thing.calling a h ps) = Some h
high_atom (Thing.hoping a h l) = Some h
high_atom (Thing.hiring a h) = Some h
high_atom (Thing.passing a h) = Some h
high_atom (Thing.opened p) = Some (as_output p)
high_atom t = do p ← carried t; Some (as_output p)

abbrev pub high_packet : Thing → Option Packet
high_packet (Thing.packet p) = Some p
high_packet _ = None

-- of several things under one mark the first may be an atom of the high level, and no other: it keeps the mark
abbrev pub first_atom_of : List Thing → Option Atom
first_atom_of [] = None
first_atom_of (t ∷ ts) = high_atom t

abbrev pub first_packet_of : List Thing → Option Packet
first_packet_of [] = None
first_packet_of (t ∷ ts) = high_packet t

abbrev pub IsHeaded : List Thing → Type 0
IsHeaded [] = ⊥
IsHeaded (t ∷ ts) = All (λ u. high_atom u ≡ None) ts

abbrev pub show_all : List Thing → List Chip
show_all ts = flat_map shows ts

abbrev pub show_all_caches : List Thing → List CacheChip
show_all_caches ts = flat_map shows_caches ts
