-- What a walk over an agent's atoms has met.
use Rattle.std.proofs.Common.{◌≡◌, ℕ, List, length, Option, None, Some, refl, ap, ◌∙◌}
use Rattle.std.specs.Prelude.{IfNone, IfSome, MatchOption, option_map}
use Rattle.std.specs.FinMap as map
use Rattle.np_syntax.specs.declared.value.Name.{Name}
use Rattle.np_syntax.specs.Options.{◌>>=◌}
use Rattle.np_tables.specs.Mapped.{mapped}
use Rattle.np_tables.specs.Names.{NameMap}
use Rattle.np_tables.specs.Stored.{Covers}
use Rattle.np_tables.proofs.Mapped.{get-mapped}
use Rattle.np_tables.proofs.Walks.{Before, everywhere}
use Rattle.np_calculus.specs.declared.config.Atom.{Atom}
use Rattle.agent_pool.specs.Readies.{alone_at, alone_in, pair_at, pair_in}

-- what holds of each name that was met, and of each that is not there, holds of each
pub met-all : {X : Type 0} (P : Name → Type 0) (m : NameMap X) (ks : List Name) → Covers m ks → ((q : Name) → map.get m q ≡ None → P q) → Before P ks (length ks) → (q : Name) → P q
met-all {X} P m ks covers absent before q = by (map.get m q) refl
  where
    by : (o : Option X) → map.get m q ≡ o → P q
    by None is = absent q is
    by (Some x) is = everywhere P m ks covers before q x is

module _ {X : Type 0} (f : X → Atom) (m : NameMap X) where
  -- an atom that is not there can do nothing
  pub alone-nowhere : (sites : ℕ) (q : Name) → map.get m q ≡ None → alone_in sites (mapped f m) q ≡ None
  alone-nowhere sites q h = ap (λ o. o >>= alone_at sites q) (get-mapped f m q ∙ ap (option_map f) h)

  pub taker-nowhere : (q : Name) → map.get m q ≡ None → (other : Name) → pair_in (mapped f m) q other ≡ None
  taker-nowhere q h other = ap (λ o. o >>= λ a. map.get (mapped f m) other >>= λ b. pair_at q a other b) (get-mapped f m q ∙ ap (option_map f) h)

  pub giver-nowhere : (mark q : Name) → map.get m q ≡ None → pair_in (mapped f m) mark q ≡ None
  giver-nowhere mark q h = by (map.get (mapped f m) mark)
    where
      by : (o : Option Atom) → (o >>= λ a. map.get (mapped f m) q >>= λ b. pair_at mark a q b) ≡ None
      by None = refl
      by (Some a) = ap (λ p. p >>= λ b. pair_at mark a q b) (get-mapped f m q ∙ ap (option_map f) h)

pub none-to : {A P Q : Type 0} (o : Option A) → (P → Q) → IfNone o P → IfNone o Q
none-to None f p = f p
none-to (Some a) f p = tt

pub some-of : {A : Type 0} (P : A → Type 0) (o : Option A) → ((a : A) → o ≡ Some a → P a) → IfSome o P
some-of P None f = tt
some-of P (Some a) f = f a refl

pub match-to : {A : Type 0} (P Q : Type 0) (F G : A → Type 0) (o : Option A) → (P → Q) → ((a : A) → F a → G a) → MatchOption o P F → MatchOption o Q G
match-to P Q F G None f g m = f m
match-to P Q F G (Some a) f g m = g a m
