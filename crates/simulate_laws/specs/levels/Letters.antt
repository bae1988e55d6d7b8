-- The letters under way, each under the mark of its post, and what an event makes of them (docs/TRANSLATION.md, "Translation and daemon").
use Rattle.std.specs.Prelude.{◌≡◌, Option, None, Some, List, [], ◌∷◌, cond}
use Rattle.std.specs.FinMap as map
use Rattle.np_syntax.specs.declared.value.Name.{Name}
use Rattle.np_syntax.specs.declared.process.Tag.{Tag}
use Rattle.np_syntax.specs.declared.process.Role.{Role}
use Rattle.np_syntax.specs.declared.process.Role.TheVariants as role
use Rattle.np_syntax.specs.declared.event.Event.{Event}
use Rattle.np_syntax.specs.declared.event.Kind.{Kind}
use Rattle.np_syntax.specs.declared.event.Kind.TheVariants as kind
use Rattle.np_syntax.specs.declared.event.Made.TheVariants as made
use Rattle.np_syntax.specs.Options.{◌>>=◌}
use Rattle.np_tables.specs.Names.{NameMap, same_name}
use Rattle.np_calculus.specs.Config.{Config}
use Rattle.np_calculus.specs.Reductions.{output_in}
use Rattle.np_lift.specs.Posts.{Letter, letter_at}
use Rattle.np_lift.specs.CachedLift.{stands_for, with_mark, with_messenger}
use Rattle.np_lift.specs.CachedPosts.{letter_hired}
use Rattle.simulate_laws.specs.things.Mail.{Posted, as_output}
use Rattle.simulate_laws.specs.things.Things.{Thing, carried}
use Rattle.simulate_laws.specs.levels.Coupled.{View}

-- of several things under one mark the first alone may carry a letter
abbrev pub first_letter_of : List Thing → Option Posted
first_letter_of [] = None
first_letter_of (t ∷ ts) = carried t

-- the letter that is under way under a mark
abbrev pub letter_under : NameMap (List Thing) → Name → Option Posted
letter_under things m = map.get things m >>= first_letter_of

-- the same letters are under way under the same marks, or but for those of one mark
abbrev pub SameLetters : View → View → Type 0
SameLetters v w = (q : Name) → letter_under w.things q ≡ letter_under v.things q

abbrev pub OtherLetter : View → View → Name → Option Posted → Type 0
OtherLetter v w m o = (q : Name) → letter_under w.things q ≡ cond (same_name q m) o (letter_under v.things q)

-- none is under way
abbrev pub NoLetters : View → Type 0
NoLetters v = (q : Name) → letter_under v.things q ≡ None

-- a letter that was posted, without the tag of its output
abbrev pub as_letter : Posted → Letter
as_letter p = record { agent = p.agent; chan = p.chan; value = p.value }

-- a post: no letter was under way under its mark, and the one that it sends is then
pub record IsPosting (low : Config) (e : Event) (v w : View) : Type 0 where
  pub letter : Posted
  pub sent : letter_at low e.actor ≡ Some (as_letter letter)
  pub none : letter_under v.things e.actor ≡ None
  pub after : OtherLetter v w e.actor (Some letter)

-- A messenger is made for a post: no letter was under way under the mark of the post, which has `0` alone then, nor under the
-- messenger's, which carries it then. That mark stands from then on for what the mark of the post stands for.
pub record IsHiringFor (low then : Config) (e : Event) (v w : View) : Type 0 where
  pub messenger : Name
  pub mark : Name
  pub made_two : e.made ≡ made.Two messenger mark
  pub standing : w.standing ≡ with_messenger v.standing messenger mark e.actor
  pub letter : Posted
  pub sent : letter_hired low e.actor ≡ Some (as_letter letter)
  pub posted : map.get then.atoms (stands_for v.standing e.actor) ≡ Some (as_output letter)
  pub none : letter_under v.things e.actor ≡ None
  pub none_yet : letter_under v.things mark ≡ None
  pub after : OtherLetter v w mark (Some letter)
  pub sender : Name
  pub carries : map.get w.things mark ≡ Some (Thing.carrying letter messenger sender ∷ [])
  pub ended : map.get w.things e.actor ≡ Some (Thing.ended ∷ [])

-- A messenger finds the agent: the letter that was under way under its mark is an output in that agent then, under a new mark, which
-- stands from then on for what its mark stands for. Its own mark has `0` alone then.
pub record IsFinding (next : Config) (e : Event) (v w : View) : Type 0 where
  pub mark : Name
  pub made_one : e.made ≡ made.One mark
  pub standing : w.standing ≡ with_mark v.standing mark e.actor
  pub letter : Posted
  pub was : letter_under v.things e.actor ≡ Some letter
  pub tag : Tag
  pub stands : map.get next.atoms mark ≡ Some (output_in letter.agent letter.chan letter.value tag)
  pub after : OtherLetter v w e.actor None
  pub ended : map.get w.things e.actor ≡ Some (Thing.ended ∷ [])

-- it does not: its letter stays under its mark
pub record IsMissing (e : Event) (v w : View) : Type 0 where
  pub made_none : e.made ≡ made.Nothing
  pub standing : w.standing ≡ v.standing
  pub letters : SameLetters v w

-- an opening: the letter that was under way under its mark is an output in its agent then
pub record IsHanding (next : Config) (e : Event) (v w : View) : Type 0 where
  pub letter : Posted
  pub was : letter_under v.things e.actor ≡ Some letter
  pub tag : Tag
  pub stands : map.get next.atoms e.actor ≡ Some (output_in letter.agent letter.chan letter.value tag)
  pub after : OtherLetter v w e.actor None

-- what an event makes of the letters under way: a post adds one, an opening hands one over, and all others leave them
abbrev pub LettersAfter : Kind → Role → Config → Config → Event → View → View → Type 0
LettersAfter kind.Send role.Post low next e v w = IsPosting low e v w
LettersAfter kind.Open r low next e v w = IsHanding next e v w
LettersAfter _ _ low next e v w = SameLetters v w
