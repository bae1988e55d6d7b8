-- How atoms go on and come, as the code does it: what the configuration is then, and that it stays kept. `v` is what the
-- code's parts show before, and `c` the configuration that it is.
use Rattle.std.proofs.Common.{◌≡◌, true, IsSome, sym, subst}
use Rattle.std.specs.FinMap as map
use Rattle.std.specs.FinSet as set
use Rattle.np_configuration.proofs.Common.{Name, Errand, NameMap, NameSet, Work, Atom, Packet, Place, Config, IsKept}
use Rattle.np_syntax.specs.declared.event.Made.{Made}
use Rattle.np_syntax.specs.declared.event.Made.TheVariants as made
use Rattle.np_calculus.specs.Changes.{with_made}
use Rattle.np_configuration.proofs.Keeping.{kept-born}

pub kept-made : {work : NameMap Errand} {atoms : NameMap Atom} {packets : NameMap Packet} {born : NameSet} → IsKept work atoms packets born → (made : Made)
    → IsKept work atoms packets (with_made born made)
kept-made k made.Nothing = k
kept-made k (made.One m) = kept-born k m
kept-made k (made.Two m n) = kept-born (kept-born k m) n

-- a mark under which an atom stands is born
pub born-under : {v c : Config} → v ≡ c → {work : Work} → IsKept work v.atoms v.packets v.born → (m : Name) → IsSome (map.get c.atoms m) → set.contains v.born m ≡ true
born-under is k m h = k.marked m (subst (λ (d : Config). IsSome (map.get d.atoms m)) (sym is) h)

-- the same of what equals the parts
pub kept-equal : {work work' : Work} {atoms atoms' : NameMap Atom} {packets : NameMap Packet} {born born' : NameSet} → IsKept work atoms packets born → work' ≡ work → atoms' ≡ atoms
    → born' ≡ born → IsKept work' atoms' packets born'
kept-equal k e f g = rw (e, f, g) k

-- configurations of equal parts
pub remade : {c d : Config} {atoms atoms' : NameMap Atom} {born born' : NameSet} → atoms ≡ atoms' → born ≡ born' → c ≡ d → record c { atoms = atoms; born = born } ≡ record d { atoms = atoms'; born = born' }
remade a b e = λ i. record (e i) { atoms = a i; born = b i }

pub remade-placed : {c d : Config} {places places' : NameMap Place} {atoms atoms' : NameMap Atom} {born born' : NameSet} → places ≡ places' → atoms ≡ atoms' → born ≡ born' → c ≡ d
    → record c { places = places; atoms = atoms; born = born } ≡ record d { places = places'; atoms = atoms'; born = born' }
remade-placed p a b e = λ i. record (e i) { places = p i; atoms = a i; born = b i }
