-- Words on ports and on the ends of links, over the meanings that their types have.
use Rattle.std.specs.Prelude.{◌≡◌, ◌≢◌, ℕ, ◌<◌, cond, eqb, Bool, false, List, [], ◌∷◌, ◌++◌, length, slice_get, Some}
use Rattle.site_links.specs.declared.places.TheConstants.{PLACES}

-- the item at the place, and nothing at any other
abbrev pub only_at : {T : Type 0} → ℕ → ℕ → T → List T
only_at k place item = cond (eqb k place) (item ∷ []) []

-- the whole begins with the front
pub record Begins {T : Type 0} (whole front : List T) : Type 0 where
  pub rest : List T
  pub is : whole ≡ front ++ rest

-- b is a at a later time: it is joined to all that a was joined to
pub record Stays {P : Type 0} (joined : P → P → Type 0) (a b : P) : Type 0 where
  pub out_same : (other : P) → joined a other → joined b other
  pub in_same : (other : P) → joined other a → joined other b

-- nothing went through these ends
pub record IsFresh {E I : Type 0} (sent got known : E → List I) (room : E → ℕ) (ends : E) : Type 0 where
  pub sent_none : sent ends ≡ []
  pub got_none : got ends ≡ []
  pub known_none : known ends ≡ []
  pub all_free : room ends ≡ PLACES

-- a link at rest: all that was put was taken, nothing is known to wait, and each place is known to be free
pub record IsAtRest {I : Type 0} (sent got known : List I) (room : ℕ) : Type 0 where
  pub all_taken : got ≡ sent
  pub none_known : known ≡ []
  pub all_free : room ≡ PLACES

-- A link on which nothing was put, and from which nothing was taken or seen, since it was settled at rest is at rest
-- (docs/HISTORIES.md, "History text").
abbrev pub RestsUnless : {I : Type 0} (has_put has_seen : Bool) (sent got known : List I) (room : ℕ) → Type 0
RestsUnless has_put has_seen sent got known room = has_put ≡ false → has_seen ≡ false → IsAtRest sent got known room

-- nothing went through a port: each of its links with n sites is free
pub record IsUnused {I : Type 0} (n : ℕ) (sent got known : ℕ → List I) (room : ℕ → ℕ) : Type 0 where
  pub sent_none : (k : ℕ) → sent k ≡ []
  pub got_none : (k : ℕ) → got k ≡ []
  pub known_none : (k : ℕ) → known k ≡ []
  pub all_free : (k : ℕ) → k < n → room k ≡ PLACES

-- the item was taken from a site: it is the first that was known there, if any was
pub record Takes {I : Type 0} (got known got' known' : ℕ → List I) (from : ℕ) (item : I) : Type 0 where
  pub taken : (k : ℕ) → got' k ≡ got k ++ only_at k from item
  pub first : Begins (item ∷ known' from) (known from)
  pub others : (k : ℕ) → k ≢ from → Begins (known' k) (known k)

module _ {P : Type 0} (site among : P → ℕ) (linked : P → P → Type 0) where
  -- b is the port a at a later time
  pub record Keeps (a b : P) : Type 0 where
    pub site_same : site b ≡ site a
    pub among_same : among b ≡ among a
    pub links : Stays linked a b

  -- b is the port a at a later time, whatever became of its links with the site k
  pub record KeepsBut (k : ℕ) (a b : P) : Type 0 where
    pub site_same : site b ≡ site a
    pub among_same : among b ≡ among a
    pub out_same : (q : P) → site q ≢ k → linked a q → linked b q
    pub in_same : (q : P) → site q ≢ k → linked q a → linked q b

  -- b is the port a at a later time: it is linked with each other port as a was, and with itself
  pub record KeepsAll (a b : P) : Type 0 where
    pub others : KeepsBut (site a) a b
    pub own : linked a a → linked b b

  -- a port for each of n sites, in order, and each linked with each
  pub record IsFullMake (n : ℕ) (ports : List P) : Type 0 where
    pub count : length ports ≡ n
    pub places : (i : ℕ) (p : P) → slice_get ports i ≡ Some p → (site p ≡ i) × (among p ≡ n)
    pub pairs : (i j : ℕ) (p q : P) → slice_get ports i ≡ Some p → slice_get ports j ≡ Some q → linked p q
