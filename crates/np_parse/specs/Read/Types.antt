-- How types are read, from left to right (docs/LANGUAGE.md, "Grammar" and "Depth"). A number of levels is how deep a type may be.
use Rattle.std.specs.Prelude.{ℕ, zero, suc, ◌+◌, nat_le, Bool, true, false, if◌then◌else◌, List}
use Rattle.np_syntax.specs.declared.types.Cap.{Cap}
use Rattle.np_syntax.specs.declared.types.Cap.TheVariants as cap
use Rattle.np_syntax.specs.declared.types.Ty.{Ty}
use Rattle.np_syntax.specs.declared.types.Ty as ty
use Rattle.np_lex.specs.declared.token.Key.TheVariants as key
use Rattle.np_lex.specs.declared.token.Sign.TheVariants as sign
use Rattle.np_lex.specs.declared.token.What.{What}
use Rattle.np_lex.specs.declared.token.What.TheVariants as what
use Rattle.np_parse.specs.Input.{Parser, ◌>>=◌, ◌>>◌, pure, refuse, refuse_deep, peek, take, nothing}
use Rattle.np_parse.specs.Read.Tuples.{Sized, tuple_in}

abbrev pub ReadType : Type 0
ReadType = Sized Ty

abbrev pub begins_chan : What → Bool
begins_chan (what.Sign sign.Caret) = true
begins_chan (what.Sign sign.Query) = true
begins_chan (what.Sign sign.Bang) = true
begins_chan _ = false

abbrev pub begins_type : What → Bool
begins_type (what.Word key.IntType) = true
begins_type (what.Word key.BoolType) = true
begins_type (what.Word key.StringType) = true
begins_type (what.Word key.SiteType) = true
begins_type (what.Word key.AgentType) = true
begins_type (what.Sign sign.SquareOpen) = true
begins_type w = begins_chan w

abbrev pub ground : Ty → Parser ReadType
ground t = take >> pure (t, 1)

-- a channel type from its sign on
unfoldable pub carried : Parser ReadType → ℕ → Cap → Parser ReadType
carried inner below c = if nat_le below 0 then refuse_deep else (do take; t ← inner; pure (ty.Chan c t.0, t.1 + 1))

abbrev pub chan_by : Parser ReadType → ℕ → What → Parser ReadType
chan_by inner below (what.Sign sign.Caret) = carried inner below cap.Both
chan_by inner below (what.Sign sign.Query) = carried inner below cap.Input
chan_by inner below (what.Sign sign.Bang) = carried inner below cap.Output
chan_by inner below _ = refuse

-- a channel type, with types inside it by this reader, at most this deep
unfoldable pub chan_in : Parser ReadType → ℕ → Parser ReadType
chan_in inner below = peek >>= chan_by inner below

abbrev pub tuple_type : ℕ → List Ty → Ty
tuple_type at parts = ty.Tuple parts

abbrev pub type_by : Parser ReadType → ℕ → What → Parser ReadType
type_by inner below (what.Word key.IntType) = ground ty.Int
type_by inner below (what.Word key.BoolType) = ground ty.Bool
type_by inner below (what.Word key.StringType) = ground ty.Str
type_by inner below (what.Word key.SiteType) = ground ty.Site
type_by inner below (what.Word key.AgentType) = ground ty.Agent
type_by inner below (what.Sign sign.SquareOpen) = tuple_in inner tuple_type
type_by inner below w = chan_by inner below w

-- a type, with types inside it by this reader, at most this deep
unfoldable pub type_in : Parser ReadType → ℕ → Parser ReadType
type_in inner below = peek >>= type_by inner below

-- the readers of channel types and of types of so many levels
pub record TypeReaders : Type 0 where
  pub chan : Parser ReadType
  pub type : Parser ReadType

abbrev pub level : ℕ → TypeReaders → TypeReaders
level below r = record { chan = chan_in r.type below; type = type_in r.type below }

unfoldable pub readers : ℕ → TypeReaders
readers zero = record { chan = nothing begins_chan; type = nothing begins_type }
readers (suc below) = level below (readers below)

abbrev pub chan : ℕ → Parser ReadType
chan levels = (readers levels).chan

abbrev pub type : ℕ → Parser ReadType
type levels = (readers levels).type
