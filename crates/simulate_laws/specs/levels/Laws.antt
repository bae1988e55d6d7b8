-- What the laws of the invariant between the levels say.
use Rattle.np_syntax.specs.declared.program.Program.{Program}
use Rattle.np_syntax.specs.declared.program.LowProgram.{LowProgram}
use Rattle.std.specs.Prelude.{◌≡◌, ◌⊎◌, ℕ, true, false, Some, length}
use Rattle.std.specs.FinSet as set
use Rattle.np_syntax.specs.declared.event.Event.{Event}
use Rattle.np_syntax.specs.declared.event.Kind.{Kind}
use Rattle.np_syntax.specs.declared.process.Role.{Role}
use Rattle.np_calculus.specs.Config.{Config}
use Rattle.np_calculus.specs.Parts.{IsLodged}
use Rattle.np_calculus.specs.Reductions.{apply}
use Rattle.np_calculus.specs.Sight.{inside}
use Rattle.np_calculus.specs.Well.{Well}
use Rattle.np_syntax.specs.declared.event.Kind.TheVariants as kind
use Rattle.np_syntax.specs.declared.process.Role.TheVariants as role
use Rattle.np_lift.specs.CachedLift.{at_first, posted, renamed}
use Rattle.np_calculus.specs.Starts.{start_high, start_low}
use Rattle.np_scope.specs.Sound.{IsSound}
use Rattle.infrastructure_texts.specs.Infrastructures.{Infrastructure}
use Rattle.daemon_encode.specs.Translates.{IsLowOf}
use Rattle.simulate_laws.specs.levels.Coupled.{Coupled, View}
use Rattle.simulate_laws.specs.levels.Letters.{IsFinding, IsHiringFor, IsMissing, IsPosting, LettersAfter, NoLetters, SameLetters}
use Rattle.simulate_laws.specs.levels.Roles.{may_occur}

-- the two starts are coupled, each mark stands for itself, there is no messenger, and no letter is under way
abbrev pub StartsCoupled : Infrastructure → Type 0
StartsCoupled i = (p : Program) (q : LowProgram) (low : IsLowOf i p q) → IsSound p
    → (v : View) × Coupled i (length p.sites) p.binders low.first (start_low q) (start_high p) v × (v.standing ≡ at_first) × NoLetters v

-- each event of the low level is of the infrastructure, of a post, or of the source's own, and of a kind that such events have
abbrev pub RolesOfEvents : Infrastructure → Type 0
RolesOfEvents i = (n from first : ℕ) (low high : Config) (v : View) → Coupled i n from first low high v → (e : Event) (next : Config)
    → apply low e ≡ Some next
    → may_occur i e.tag.role e.kind ≡ true

-- after an event of this kind and role the low level still belongs to the same configuration of the high level, and the letters under
-- way are those that such an event leaves
abbrev pub IsQuiet : Infrastructure → Kind → Role → Type 0
IsQuiet i k r = (n from first : ℕ) (low high : Config) (v : View) → Coupled i n from first low high v → (e : Event) (next : Config)
    → e.kind ≡ k → e.tag.role ≡ r → apply low e ≡ Some next
    → (w : View) × (w.standing ≡ v.standing) × Coupled i n from first next high w × LettersAfter k r low next e v w

-- the arrival of a messenger is nothing at the high level
abbrev pub MessengersArrive : Infrastructure → Type 0
MessengersArrive i = (n from first : ℕ) (low high : Config) (v : View) → Coupled i n from first low high v → (e : Event) (next : Config)
    → e.kind ≡ kind.Arrive → set.contains v.standing.messengers e.actor ≡ true → apply low e ≡ Some next
    → (w : View) × (w.standing ≡ v.standing) × Coupled i n from first next high w × SameLetters v w

-- the test of a messenger whether the agent is there is nothing at the high level
abbrev pub MessengersTry : Infrastructure → Type 0
MessengersTry i = (n from first : ℕ) (low high : Config) (v : View) → Coupled i n from first low high v → (e : Event) (next : Config)
    → e.kind ≡ kind.Local → e.tag.role ≡ role.Infra → apply low e ≡ Some next
    → (w : View) × Coupled i n from first next high w × (IsFinding next e v w ⊎ IsMissing e v w)

-- The post that a Send is, at the mark of the high level: it is an event of the high level, where no value of a wrong type is met and
-- each atom's agent has a place, and the two configurations stay coupled.
abbrev pub post_of : View → Event → Event
post_of v e = posted v.standing e

abbrev pub PostsAreEvents : Infrastructure → Type 0
PostsAreEvents i = (n from first : ℕ) (low high : Config) (v : View) → Coupled i n from first low high v → Well high
    → IsLodged (inside high) → (e : Event) (next : Config)
    → e.kind ≡ kind.Send → e.tag.role ≡ role.Post → apply low e ≡ Some next
    → (then : Config) × (apply high (post_of v e) ≡ Some then) × (w : View) × (w.standing ≡ v.standing) × Coupled i n from first next then w
    × IsPosting low e v w

-- The post that the creation of a messenger is, at the mark of the high level. The messenger's mark carries the letter then, and stands
-- for that of the post.
abbrev pub MessengersAreHired : Infrastructure → Type 0
MessengersAreHired i = (n from first : ℕ) (low high : Config) (v : View) → Coupled i n from first low high v → Well high
    → IsLodged (inside high) → (e : Event) (next : Config)
    → e.kind ≡ kind.Agent → e.tag.role ≡ role.Post → apply low e ≡ Some next
    → (then : Config) × (apply high (post_of v e) ≡ Some then) × (w : View) × Coupled i n from first next then w × IsHiringFor low
    then e v w

-- the same event at the marks of the high level
abbrev pub event_of : View → Event → Event
event_of v e = renamed v.standing e

-- an event of the source's own is the same event of the high level, where no value of a wrong type is met and each atom's agent has a
-- place, and the two configurations stay coupled
abbrev pub IsEvent : Infrastructure → Kind → Type 0
IsEvent i k = (n from first : ℕ) (low high : Config) (v : View) → Coupled i n from first low high v → Well high → IsLodged (inside high)
    → (e : Event) (next : Config)
    → e.kind ≡ k → e.tag.role ≡ role.Plain → apply low e ≡ Some next
    → (then : Config) × (apply high (event_of v e) ≡ Some then) × (w : View) × (w.standing ≡ v.standing) × Coupled i n from first next
    then w
    × LettersAfter k role.Plain low next e v w

-- The same of arrivals, but for those of messengers: the actor of an arrival is an agent and no mark, and so it stays itself.
abbrev pub ArrivalsAreEvents : Infrastructure → Type 0
ArrivalsAreEvents i = (n from first : ℕ) (low high : Config) (v : View) → Coupled i n from first low high v → Well high
    → (e : Event) (next : Config)
    → e.kind ≡ kind.Arrive → e.tag.role ≡ role.Plain → set.contains v.standing.messengers e.actor ≡ false → apply low e ≡ Some next
    → (then : Config) × (apply high e ≡ Some then) × (w : View) × (w.standing ≡ v.standing) × Coupled i n from first next
    then w × SameLetters v w
