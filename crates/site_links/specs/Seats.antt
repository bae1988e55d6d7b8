-- What a `PortOf` means, by what its ends mean.
use Rattle.std.specs.Prelude.{◌≡◌, ℕ, ◌+◌, ◌<◌, ◌≤◌, List, [], ◌∷◌, ◌++◌, length, Option, Some, None, slice_get}
use Rattle.site_links.specs.Words.{Begins, Keeps, Takes, IsFresh}
use Rattle.site_links.specs.declared.ends.Ends as Ends
use Rattle.site_links.specs.declared.port_of.PortOf.{PortOf}

-- what f reads of an option, or d
abbrev pub read : {T X : Type 0} → (T → X) → X → Option T → X
read f d (Some x) = f x
read f d None = d

module _ {E : Type 0} where
  abbrev pub site_of : PortOf E → ℕ
  site_of p = p.site

  abbrev pub among_of : PortOf E → ℕ
  among_of p = length p.ends.items

module _ {E I : Type 0} (g : Ends.Ghosts E I) where
  abbrev pub sent_at : PortOf E → ℕ → List I
  sent_at p k = read g.sent [] (slice_get p.ends.items k)

  abbrev pub got_at : PortOf E → ℕ → List I
  got_at p k = read g.got [] (slice_get p.ends.items k)

  abbrev pub known_at : PortOf E → ℕ → List I
  known_at p k = read g.known [] (slice_get p.ends.items k)

  abbrev pub room_at : PortOf E → ℕ → ℕ
  room_at p k = read g.room 0 (slice_get p.ends.items k)

  abbrev pub IsNew : E → Type 0
  IsNew ends = IsFresh g.sent g.got g.known g.room ends

  -- the link from the first's site to the second's has its two ends in these ports
  pub record Linked (a b : PortOf E) : Type 0 where
    pub out : E
    pub in_ : E
    pub out_is : slice_get a.ends.items b.site ≡ Some out
    pub in_is : slice_get b.ends.items a.site ≡ Some in_
    pub meet : g.meets out in_

  abbrev pub KeepsPort : PortOf E → PortOf E → Type 0
  KeepsPort = Keeps site_of among_of Linked

  -- nothing was taken, and nothing was known from the sites from first on, below end; more may be known since
  pub record Looked (first end : ℕ) (a b : PortOf E) : Type 0 where
    pub keeps : KeepsPort a b
    pub sent_same : (k : ℕ) → sent_at b k ≡ sent_at a k
    pub room_same : (k : ℕ) → room_at b k ≡ room_at a k
    pub got_same : (k : ℕ) → got_at b k ≡ got_at a k
    pub known_begins : (k : ℕ) → Begins (known_at b k) (known_at a k)
    pub none_known : (k : ℕ) → first ≤ k → k < end → known_at a k ≡ []

  -- the item was taken from a site
  pub record Took (a b : PortOf E) (from : ℕ) (item : I) : Type 0 where
    pub within : from < among_of a
    pub keeps : KeepsPort a b
    pub sent_same : (k : ℕ) → sent_at b k ≡ sent_at a k
    pub room_same : (k : ℕ) → room_at b k ≡ room_at a k
    pub takes : Takes (got_at a) (known_at a) (got_at b) (known_at b) from item

  -- new ends stand behind the others
  pub record Grown (a b : PortOf E) (x : E) : Type 0 where
    pub site_same : b.site ≡ a.site
    pub ends : b.ends.items ≡ a.ends.items ++ x ∷ []
    pub fresh : IsNew x

  -- two ports have grown by the ends of the two links between them
  pub record Tied (a b a' b' : PortOf E) : Type 0 where
    pub first : E
    pub second : E
    pub grown_first : Grown a a' first
    pub grown_second : Grown b b' second
    pub there : g.meets first second
    pub back : g.meets second first

  -- a port has grown by the ends of the link to itself
  pub record OwnTied (a a' : PortOf E) : Type 0 where
    pub own : E
    pub grown : Grown a a' own
    pub meet : g.meets own own

  abbrev pub AllFresh : PortOf E → Type 0
  AllFresh p = (k : ℕ) (x : E) → slice_get p.ends.items k ≡ Some x → IsNew x

  abbrev pub AllLinked : List (PortOf E) → Type 0
  AllLinked ps = (i j : ℕ) (p q : PortOf E) → slice_get ps i ≡ Some p → slice_get ps j ≡ Some q → Linked p q

  -- t ports, each linked with each
  pub record Made (t : ℕ) (ps : List (PortOf E)) : Type 0 where
    pub count : length ps ≡ t
    pub shape : (i : ℕ) (p : PortOf E) → slice_get ps i ≡ Some p → (p.site ≡ i) × (length p.ends.items ≡ t)
    pub fresh : (i : ℕ) (p : PortOf E) → slice_get ps i ≡ Some p → AllFresh p
    pub pairs : AllLinked ps

  -- t ports, each linked with each, and one more, which is linked with the first s of them
  pub record Partly (t s : ℕ) (ps : List (PortOf E)) (q : PortOf E) : Type 0 where
    pub count : length ps ≡ t
    pub low : (i : ℕ) (p : PortOf E) → slice_get ps i ≡ Some p → i < s → (p.site ≡ i) × (length p.ends.items ≡ t + 1)
    pub high : (i : ℕ) (p : PortOf E) → slice_get ps i ≡ Some p → s ≤ i → (p.site ≡ i) × (length p.ends.items ≡ t)
    pub fresh : (i : ℕ) (p : PortOf E) → slice_get ps i ≡ Some p → AllFresh p
    pub pairs : AllLinked ps
    pub own_site : q.site ≡ t
    pub own_count : length q.ends.items ≡ s
    pub own_fresh : AllFresh q
    pub to_own : (i : ℕ) (p : PortOf E) → slice_get ps i ≡ Some p → i < s → Linked p q
    pub from_own : (i : ℕ) (p : PortOf E) → slice_get ps i ≡ Some p → i < s → Linked q p
