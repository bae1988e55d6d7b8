-- The index of the names in scope has what each name stands for, and each entry keeps what its name stood for outside.
use Rattle.std.specs.Prelude.{◌≡◌, ℕ, Option, List, [], ◌∷◌, reverse, map}
use Rattle.np_scope.specs.declared.scope.Meaning.{Meaning}
use Rattle.np_scope.specs.declared.scope.Entry.{Entry}
use Rattle.np_scope.specs.Naming.{Named, meaning_of}

abbrev pub named : Entry → Named
named entry = (entry.name.now, entry.meaning)

-- the names in scope, the innermost first, of entries whose last is the innermost
abbrev pub names_of : List Entry → List Named
names_of entries = map named (reverse entries)

abbrev pub Hides : List Entry → Type 0
Hides [] = Unit {0}
Hides (entry ∷ outer) = (entry.hidden ≡ meaning_of (map named outer) entry.name.now) × Hides outer

pub record Kept (index : List ℕ → Option Meaning) (entries : List Entry) : Type 0 where
  pub finds : (name : List ℕ) → index name ≡ meaning_of (names_of entries) name
  pub hides : Hides (reverse entries)
