-- The same where items go on links from site to site, and on each link what is first in is first out.
use Rattle.std.specs.Prelude.{◌≡◌, ◌<◌, ℕ, zero, suc, ◌&&◌, cond, List, [], ◌∷◌, ◌++◌, map, Option, None, Some, nat_eq}
use Rattle.np_syntax.specs.declared.event.Event.{Event}
use Rattle.np_calculus.specs.Config.{Config}
use Rattle.np_calculus.specs.Reductions.{run}
use Rattle.np_calculus.specs.Sight.{Contents}
use Rattle.np_site_runs.specs.merged.Steps.{IsSpread, IsStep, Spread, with_site}

pub record Item : Type 0 where
  pub sender : ℕ
  pub receiver : ℕ
  pub load : Contents

abbrev pub Links : Type 0
Links = ℕ → ℕ → List Item

pub record Linked : Type 0 where
  pub here : ℕ → Config
  pub link : Links

-- a site's event, with the item that it takes and the one that it puts out
pub record Move : Type 0 where
  pub event : Event
  pub taken : Option Item
  pub put : Option Item

abbrev pub loads : Option Item → List Contents
loads None = []
loads (Some x) = x.load ∷ []

abbrev pub with_link : Links → ℕ → ℕ → List Item → Links
with_link link s t xs u v = cond (nat_eq u s && nat_eq v t) xs (link u v)

-- an item is taken from the front of a link to the site, and put at the end of a link from it
abbrev pub Takes : ℕ → Links → ℕ → Option Item → Links → Type 0
Takes n link s None after = link ≡ after
Takes n link s (Some x) after = (ys : List Item) × (x.sender < n) × (link x.sender s ≡ x ∷ ys) × (with_link link x.sender s ys ≡ after)

abbrev pub Puts : ℕ → Links → ℕ → Option Item → Links → Type 0
Puts n link s None after = link ≡ after
Puts n link s (Some x) after = (x.receiver < n) × (with_link link s x.receiver (link s x.receiver ++ x ∷ []) ≡ after)

pub record MovesTo (n : ℕ) (g : Linked) (m : Move) (h : Linked) : Type 0 where
  pub within : m.event.site < n
  pub between : Links
  pub takes : Takes n g.link m.event.site m.taken between
  pub now : Config
  pub step : IsStep m.event (g.here m.event.site) (loads m.taken) now (loads m.put)
  pub here : h.here ≡ with_site g.here m.event.site now
  pub puts : Puts n between m.event.site m.put h.link

abbrev pub Moves : ℕ → Linked → List Move → Linked → Type 0
Moves n g [] h = g ≡ h
Moves n g (m ∷ ms) h = (f : Linked) × MovesTo n g m f × Moves n f ms h

-- the lists of the numbers below n, one behind the other
abbrev pub over : {A : Type 0} → ℕ → (ℕ → List A) → List A
over zero f = []
over (suc n) f = f n ++ over n f

-- what is on the links between n sites is under way
abbrev pub air : ℕ → Links → List Contents
air n link = over n (λ u. over n (λ t. map (λ x. x.load) (link u t)))

abbrev pub spread : ℕ → Linked → Spread
spread n g = record { here = g.here; air = air n g.link }

-- the moves of the sites are a run of the whole
abbrev pub MergedRun : Type 0
MergedRun = (n : ℕ) (ms : List Move) (g h : Linked) (c : Config) → IsSpread n (spread n g) c → Moves n g ms h
    → (d : Config) × (run c (map (λ m. m.event) ms) ≡ Some d) × IsSpread n (spread n h) d
