-- The types of channels along a run: a channel that is made keeps its type.
use Rattle.std.proofs.Common.{◌≡◌, Bool, true, false, Option, None, Some, List, [], ◌∷◌, ◌++◌, refl, subst, sym, ap, ◌∙◌}
use Rattle.std.specs.FinMap as map
use Rattle.std.specs.FinSet as set
use Rattle.np_safety.proofs.Common.{Name, Cap, Ty, out-Ty, Event, same_name, same_name-is, as_channel, World, layer, Config, Channels}
use Rattle.np_syntax.specs.declared.event.Kind.{Kind}
use Rattle.np_syntax.specs.declared.event.Kind.TheVariants as kind
use Rattle.np_syntax.proofs.Options.{then, done}
use Rattle.np_tables.proofs.Tables.{get-put, put_here}
use Rattle.np_eval.specs.FormParts.{as_new}
use Rattle.np_calculus.specs.Reductions.{one_made, row, apply, run}
use Rattle.np_calculus.specs.Seen.{acting}
use Rattle.np_calculus.proofs.Steps.{row-step}
use Rattle.np_calculus.proofs.Fits.{makes-one}
use Rattle.np_calculus.proofs.FrameRule.{made-born, made-unborn, still-born}
use Rattle.np_safety.specs.Channels.{makes_at, noted, after, channels_after}
use Rattle.np_safety.specs.Laws.{HasMade}
use Rattle.np_safety.proofs.Fitting.{Fitting}
use Rattle.np_safety.proofs.Kept.{kept-at}

-- ---- names that are made stay made, and the sites stay

abbrev Born : Config → Name → Type 0
Born c q = set.contains c.born q ≡ true

-- a later configuration has the sites and the names of an earlier one
pub record Later (c d : Config) : Type 0 where
  pub sites : d.sites ≡ c.sites
  pub born : (q : Name) → Born c q → Born d q

later : (c : Config) (e : Event) (d : Config) → apply c e ≡ Some d → Later c d
later c e d h = rw (row-step c e d e.kind h).is (record { sites = refl; born = still-born c.born e.made })

pub sites-run : (es : List Event) (c d : Config) → run c es ≡ Some d → d.sites ≡ c.sites
sites-run [] c d h = ap (λ (x : Config). x.sites) (done h)
sites-run (e ∷ es) c d h = then (apply c e) (λ d. run d es) h λ m first rest. sites-run es m d rest ∙ (later c e m first).sites

-- the first part of a run is a run
pub prefix : (es fs : List Event) (c d : Config) → run c (es ++ fs) ≡ Some d → (m : Config) × (run c es ≡ Some m)
prefix [] fs c d h = (c, refl)
prefix (e ∷ es) fs c d h = then (apply c e) (λ d. run d (es ++ fs)) h λ m first rest. let r = prefix es fs m d rest in (r.0, rw first r.1)

-- ---- a channel keeps its type

-- what an event makes is new, and born afterwards
record MadeNew (c d : Config) (n : Name) : Type 0 where
  new : set.contains c.born n ≡ false
  born : Born d n

made-at : (k : Kind) (c : Config) (e : Event) (d : Config) (x : Name × (Cap × Ty)) → row k c e ≡ Some d → makes_at k c e ≡ Some x → MadeNew c d x.0
made-at kind.New c e d x h m =
    then (acting c e) _ m λ a acts m. then (as_new (layer a.proc)) _ m λ p form m. then (one_made e.made) _ m λ n made m. then (as_channel (out-Ty p.1)) _ m λ k is m.
    let s = row-step c e d kind.New h in
    let at : x.0 ≡ n = ap (λ (x : Name × (Cap × Ty)). x.0) (done m) in
    let it = makes-one e.made n made in
    rw at (record { new = made-unborn c.born e.made n s.new it; born = subst (λ d. Born d n) (sym s.is) (made-born c.born e.made n it) })
made-at _ c e d x h m = absurd cc

apart : (c : Config) (q n : Name) → Born c q → set.contains c.born n ≡ false → (b : Bool) → same_name q n ≡ b → b ≡ false
apart c q n b h true e = absurd (let same = same_name-is q n e in let x = sym b ∙ ap (set.contains c.born) same ∙ h in cc)
apart c q n b h false e = refl

noted-keeps : (g : Channels) (c d : Config) (m : Option (Name × (Cap × Ty))) (q : Name) (k : Cap × Ty) → ((x : Name × (Cap × Ty)) → m ≡ Some x → MadeNew c d x.0)
    → map.get g q ≡ Some k → Born c q → map.get (noted g m) q ≡ Some k
noted-keeps g c d None q k f h b = h
noted-keeps g c d (Some x) q k f h b = get-put g x.0 x.1 q ∙ rw (apart c q x.0 b (f x refl).new (same_name q x.0) refl) h

stays_after : (g : Channels) (o : Option Config) (f : Config → Channels) (q : Name) (k : Cap × Ty) → map.get g q ≡ Some k → ((d : Config) → o ≡ Some d → map.get (f d) q ≡ Some k)
    → map.get (after o f g) q ≡ Some k
stays_after g None f q k h go = h
stays_after g (Some d) f q k h go = go d refl

-- the type of a channel that is born stays
pub stays : (es : List Event) (g : Channels) (c : Config) (q : Name) (k : Cap × Ty) → map.get g q ≡ Some k → Born c q → map.get (channels_after es g c) q ≡ Some k
stays [] g c q k h b = h
stays (e ∷ es) g c q k h b =
    let made = makes_at e.kind c e in
    stays_after g (apply c e) (channels_after es (noted g made)) q k h λ d is.
    stays es (noted g made) d q k (noted-keeps g c d made q k (λ x m. made-at e.kind c e d x is m) h b) ((later c e d is).born q b)

noted-here : (g : Channels) (m : Option (Name × (Cap × Ty))) (x : Name × (Cap × Ty)) → m ≡ Some x → map.get (noted g m) x.0 ≡ Some x.1
noted-here g None x h = absurd cc
noted-here g (Some y) x h = let same : x ≡ y = done h in rw same (put_here g y.0 y.1)

named : (w : World) (m : Option (Name × (Cap × Ty))) → ((x : Name × (Cap × Ty)) → m ≡ Some x → w.chan x.0 ≡ Some x.1) → HasMade w m
named w None h = tt
named w (Some x) h = h x refl

-- a run keeps the types in the world that it leads to, which is thus one from its start on
pub kept-run : (es : List Event) (w : World) (g : Channels) (c d : Config) → ((q : Name) (k : Cap × Ty) → map.get (channels_after es g c) q ≡ Some k → w.chan q ≡ Some k)
    → run c es ≡ Some d → Fitting w c → Fitting w d
kept-run [] w g c d f h i = subst (Fitting w) (sym (done h)) i
kept-run (e ∷ es) w g c d f h i =
    then (apply c e) (λ d. run d es) h λ m first rest.
    let made = makes_at e.kind c e in
    let go : (q : Name) (k : Cap × Ty) → map.get (channels_after es (noted g made) m) q ≡ Some k → w.chan q ≡ Some k =
    λ q k is. f q k (subst (λ o. map.get (after o (channels_after es (noted g made)) g) q ≡ Some k) (sym first) is) in
    let names = named w made (λ x is. go x.0 x.1 (stays es (noted g made) m x.0 x.1 (noted-here g made x is) (made-at e.kind c e m x first is).born)) in
    kept-run es w (noted g made) m d go rest (kept-at w c e m i e.kind first names)
