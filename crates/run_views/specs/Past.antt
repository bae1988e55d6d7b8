-- The causal past of an event of a run.
use Rattle.std.specs.Prelude.{◌≡◌, ◌<◌, ℕ, suc, Bool, true, false, cond, ◌||◌, List, [], ◌∷◌, ◌++◌, Option, None, Some, get_or}
pub use Rattle.np_syntax.specs.Events.{is_print, made_names}
use Rattle.np_syntax.specs.declared.value.Name.{Name}
use Rattle.np_syntax.specs.declared.event.Event.{Event}
use Rattle.np_syntax.specs.declared.event.Kind.{Kind}
use Rattle.np_syntax.specs.declared.event.Kind.TheVariants as kind
use Rattle.np_syntax.specs.declared.event.Made.{Made}
use Rattle.np_syntax.specs.declared.event.Made.TheVariants as made
use Rattle.np_tables.specs.Names.{same_name}
use Rattle.np_calculus.specs.declared.config.Atom.{Atom}
use Rattle.np_calculus.specs.Config.{Config}
use Rattle.np_calculus.specs.Footprints.{Footprint, listed, touches}
use Rattle.np_calculus.specs.Reductions.{apply}
use Rattle.np_calculus.specs.Sight.{Contents, inside}

-- ---- what an event writes

-- the agent that an event makes
abbrev pub made_agent : Made → List Name
made_agent (made.Two agent mark) = agent ∷ []
made_agent _ = []

-- the agent of an atom
abbrev pub agent_of_atom : Option Atom → List Name
agent_of_atom None = []
agent_of_atom (Some a) = a.agent ∷ []

-- the names that stand in an event, but for its actor, and with it
abbrev pub later_names : Event → List Name
later_names e = listed e.other ++ made_names e.made

abbrev pub names_of : Event → List Name
names_of e = e.actor ∷ later_names e

-- The marks and the places that an event writes. Each event but an arrival writes the marks of its actor and its other, and
-- what it makes, but a replicated input stays; an Agent event writes the place of the new agent, a Depart and an Arrive that of theirs.
abbrev pub writes : Kind → Contents → Event → Footprint
writes kind.Arrive x e = record { marks = []; places = e.actor ∷ [] }
writes kind.Rep x e = record { marks = later_names e; places = [] }
writes kind.Agent x e = record { marks = names_of e; places = made_agent e.made }
writes kind.Depart x e = record { marks = names_of e; places = agent_of_atom (x.atom e.actor) }
writes _ x e = record { marks = names_of e; places = [] }

-- ---- what the events of a run touch and write

-- what stands under a mark, or the place of an agent
pub data Thing : Type 0 where
  mark : Name → Thing
  place : Name → Thing

abbrev pub is_among : Name → List Name → Bool
is_among q [] = false
is_among q (k ∷ ks) = same_name q k || is_among q ks

abbrev pub is_in : Thing → Footprint → Bool
is_in (Thing.mark q) f = is_among q f.marks
is_in (Thing.place q) f = is_among q f.places

pub record Trace : Type 0 where
  pub touched : Footprint
  pub written : Footprint

abbrev pub trace : Contents → Event → Trace
trace x e = record { touched = touches e.kind x e; written = writes e.kind x e }

abbrev pub none_traced : Trace
none_traced = record { touched = record { marks = []; places = [] }; written = record { marks = []; places = [] } }

abbrev pub each_of : {A B : Type 0} → Option A → (A → List B) → List B
each_of None f = []
each_of (Some a) f = f a

-- the traces of the events of a run, in order
abbrev pub traces : Config → List Event → List Trace
traces c [] = []
traces c (e ∷ es) = trace (inside c) e ∷ each_of (apply c e) (λ d. traces d es)

abbrev pub trace_at : List Trace → ℕ → Trace
trace_at ts j = get_or ts j none_traced

abbrev pub is_touched : List Trace → ℕ → Thing → Bool
is_touched ts j t = is_in t (trace_at ts j).touched

abbrev pub is_written : List Trace → ℕ → Thing → Bool
is_written ts j t = is_in t (trace_at ts j).written

-- ---- the past

-- k is the last place before j whose event writes the thing
pub record IsLast (ts : List Trace) (t : Thing) (k j : ℕ) : Type 0 where
  pub before : k < j
  pub writes : is_written ts k t ≡ true
  pub none : (m : ℕ) → k < m → m < j → is_written ts m t ≡ false

-- the event at place k is the last before j that writes something which the event at place j touches
pub record IsCause (ts : List Trace) (k j : ℕ) : Type 0 where
  pub thing : Thing
  pub touched : is_touched ts j thing ≡ true
  pub last : IsLast ts thing k j

-- a set of places has place i, and the causes of each place that it has
pub record HasCauses (ts : List Trace) (i : ℕ) (places : ℕ → Bool) : Type 0 where
  pub has : places i ≡ true
  pub causes : (j k : ℕ) → places j ≡ true → IsCause ts k j → places k ≡ true

-- the past of place i is the least such set
pub record IsPast (ts : List Trace) (i : ℕ) (places : ℕ → Bool) : Type 0 where
  pub closed : HasCauses ts i places
  pub least : (others : ℕ → Bool) → HasCauses ts i others → (j : ℕ) → places j ≡ true → others j ≡ true

-- the elements at the places of a set, in order, where the first stands at place j
abbrev pub picked : {X : Type 0} → (ℕ → Bool) → ℕ → List X → List X
picked places j [] = []
picked places j (x ∷ xs) = cond (places j) (x ∷ picked places (suc j) xs) (picked places (suc j) xs)

-- the events of the past of place i of a run
pub record IsPastOf (c : Config) (events : List Event) (i : ℕ) (past : List Event) : Type 0 where
  pub places : ℕ → Bool
  pub is : IsPast (traces c events) i places
  pub answer : past ≡ picked places 0 events
