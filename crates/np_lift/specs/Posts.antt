-- Posts of a run of the low level, and where they are handed over (docs/TRANSLATION.md, "Translation and daemon").
use Rattle.std.specs.Prelude.{◌≡◌, Option, None, Some, List, [], ◌∷◌, cond}
use Rattle.std.specs.List.{filter_map}
use Rattle.std.specs.FinMap as map
use Rattle.np_syntax.specs.declared.value.Name.{Name}
use Rattle.np_syntax.specs.declared.value.Value.{Value, out-Value}
use Rattle.np_syntax.specs.declared.process.Tag.{Tag}
use Rattle.np_syntax.specs.declared.process.Role.{Role}
use Rattle.np_syntax.specs.declared.process.Role.TheVariants as role
use Rattle.np_syntax.specs.declared.process.ProcForm.{ProcForm-F}
use Rattle.np_syntax.specs.declared.event.Event.{Event}
use Rattle.np_syntax.specs.declared.event.Kind.{Kind}
use Rattle.np_syntax.specs.declared.event.Kind.TheVariants as kind
use Rattle.np_syntax.specs.Options.{◌>>=◌}
use Rattle.np_tables.specs.Names.{same_name}
use Rattle.np_calculus.specs.declared.config.Atom.{Atom}
use Rattle.np_calculus.specs.Config.{Config}
use Rattle.np_calculus.specs.Reductions.{apply, output_in}
use Rattle.np_eval.specs.Eval.{Env, eval, as_tuple, as_agent, as_letter}
use Rattle.np_eval.specs.Forms.{Layer, layer}

-- a letter for an agent: the channel and the value that it gives there
pub record Letter : Type 0 where
  pub agent : Name
  pub chan : Name
  pub value : Value

-- the letter in [b pack(c, v)]
abbrev pub letter_of_parts : List Value → Option Letter
letter_of_parts (b ∷ l ∷ []) = do
  agent ← as_agent (out-Value b)
  inner ← as_letter (out-Value l)
  Some (record { agent = agent; chan = inner.0; value = inner.1 })
letter_of_parts _ = None

abbrev pub letter_sent : Layer → Env → Option Letter
letter_sent (ProcForm-F.Send agent to chan sent) env = do v ← eval sent env; parts ← as_tuple (out-Value v); letter_of_parts parts
letter_sent _ env = None

-- the letter that the atom of a mark posts
abbrev pub letter_at : Config → Name → Option Letter
letter_at c mark = map.get c.atoms mark >>= λ a. letter_sent (layer a.proc) a.env

-- what a run does to a mark: it posts its letter, or opens it, and this atom stands under it then
pub data Deed : Type 0 where
  posts : Option Letter → Deed
  opens : Option Atom → Deed

-- the deed of an event between two configurations
abbrev pub deed_by : Kind → Role → Config → Config → Event → Option (Name × Deed)
deed_by kind.Send role.Post c d e = Some (e.actor, Deed.posts (letter_at c e.actor))
deed_by kind.Open r c d e = Some (e.actor, Deed.opens (map.get d.atoms e.actor))
deed_by _ _ c d e = None

-- the deeds of a run, in order, as far as it goes
abbrev pub prepended : {A : Type 0} → Option A → List A → List A
prepended None xs = xs
prepended (Some x) xs = x ∷ xs

abbrev pub and_on : Config → Event → Option Config → (Config → List (Name × Deed)) → List (Name × Deed)
and_on c e None rest = []
and_on c e (Some d) rest = prepended (deed_by e.kind e.tag.role c d e) (rest d)

abbrev pub deeds : Config → List Event → List (Name × Deed)
deeds c [] = []
deeds c (e ∷ es) = and_on c e (apply c e) (λ d. deeds d es)

-- those to one mark
abbrev pub to_mark : Name → Name × Deed → Option Deed
to_mark mark d = cond (same_name d.0 mark) (Some d.1) None

abbrev pub deeds_to : Name → List (Name × Deed) → List Deed
deeds_to mark ds = filter_map (to_mark mark) ds

-- the opening hands over the post: the output of the letter stands in its agent then
pub record Hands (post : Option Letter) (opened : Option Atom) : Type 0 where
  pub letter : Letter
  pub posted : post ≡ Some letter
  pub tag : Tag
  pub is : opened ≡ Some (output_in letter.agent letter.chan letter.value tag)

-- Posts and openings take turns, a post first, and each opening hands over the post before it. The last post may be under way: it has
-- posted a letter.
pub data Alternate : List Deed → Type 0 where
  nothing : Alternate []
  under_way : {l : Letter} → Alternate (Deed.posts (Some l) ∷ [])
  handed : {p : Option Letter} {o : Option Atom} {ds : List Deed} → Hands p o → Alternate ds → Alternate (Deed.posts p ∷ Deed.opens o ∷ ds)

-- the same where no post is under way
pub data AllHanded : List Deed → Type 0 where
  nothing : AllHanded []
  handed : {p : Option Letter} {o : Option Atom} {ds : List Deed} → Hands p o → AllHanded ds → AllHanded (Deed.posts p ∷ Deed.opens o ∷ ds)

-- the posts of a run are paired, and they are all handed over
abbrev pub IsPaired : Config → List Event → Type 0
IsPaired start events = (mark : Name) → Alternate (deeds_to mark (deeds start events))

abbrev pub IsAllHanded : Config → List Event → Type 0
IsAllHanded start events = (mark : Name) → AllHanded (deeds_to mark (deeds start events))
