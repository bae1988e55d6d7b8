-- What flows between sites that run alone is moves of all of them.
use Rattle.std.proofs.Common.{◌≡◌, ◌<◌, ◌≤◌, ◌==◌, ◌⊎◌, ⊎_elim, ℕ, Bool, true, false, cond, nat_eq, ◌&&◌, List, [], ◌∷◌, ◌++◌, length, drop, map, Option, None, Some, IfSome, option_to_list, filter, refl, sym, ap, ap₂, subst, ◌∙◌, append-nil, arith}
use mathlib.Core.Path.{fun_ext}
use Rattle.std.proofs.Math.Seq.{drop-nil}
use Rattle.std.proofs.lemmas.Bool.{eqb-true}
use Rattle.std.proofs.lemmas.List.{map-append}
use Rattle.std.specs.List.{AllByRecursion}
use Rattle.np_syntax.proofs.Numbers.{nat_eq-turned}
use Rattle.np_calculus.specs.Config.{Config}
use Rattle.np_site_runs.specs.merged.Links.{Item, Linked, Links, Move, Moves, MovesTo, Puts, Takes, with_link}
use Rattle.np_site_runs.specs.merged.Steps.{with_site}
use Rattle.np_site_runs.proofs.merged.Steps.{with-site-same, false_eq}
use Rattle.np_site_runs.specs.merged.Deeds.{Deed, Leads, StampedItem, plain}
use Rattle.np_site_runs.specs.merged.Turns.{Flows, IsAmong, Waiting, moved, own, puts_at, takes, takes_at, without}
use Rattle.np_site_runs.proofs.merged.Flowing.{each_site, own-here, own-there, takes-here}

abbrev pub move_of : Deed → Move
move_of d = record { event = d.event.event; taken = plain d.taken; put = plain d.put }

abbrev pub items_of : List StampedItem → List Item
items_of = map (λ x. x.item)

-- the links have the items that wait
abbrev pub Shows : Links → Waiting → Type 0
Shows link w = (u v : ℕ) → link u v ≡ items_of (w u v)

-- ---- tests of two numbers

pub below_or_not : (a n : ℕ) → (a < n) ⊎ (n ≤ a)
below_or_not a n = grind arith

either_way : {A : Type 0} (t : Bool) (x : A) → cond t x x ≡ x
either_way true x = refl
either_way false x = refl

module _ {A : Type 0} where
  inner_first : (p q : Bool) (xs : List A) → cond q (cond p xs []) [] ≡ cond (p && q) xs []
  inner_first true q xs = refl
  inner_first false q xs = either_way q []

  outer_first : (p q : Bool) (xs : List A) → cond p (cond q xs []) [] ≡ cond (p && q) xs []
  outer_first true q xs = refl
  outer_first false q xs = refl

both_true : (p q : Bool) → (p && q) ≡ true → (p ≡ true) × (q ≡ true)
both_true true q h = (refl, h)
both_true false q h = absurd cc

-- ---- what is taken

takes-one : (u v s : ℕ) (x : StampedItem) → takes_at u v s (Some x) ≡ cond (nat_eq u x.item.sender && nat_eq v s) (x ∷ []) []
takes-one u v s x =
    ap₂ (λ p q. cond q (cond p (x ∷ []) []) []) (nat_eq-turned x.item.sender u) (nat_eq-turned s v) ∙ inner_first (nat_eq u x.item.sender) (nat_eq v s) (x ∷ [])

pub took : (n s : ℕ) (o : Option StampedItem) (link : Links) (w : Waiting) → Shows link w → ((u v : ℕ) → n ≤ u → w u v ≡ [])
    → ((u v : ℕ) → w u v ≡ takes_at u v s o ++ drop (length (takes_at u v s o)) (w u v))
    → (between : Links) × Takes n link s (plain o) between × Shows between (λ u v. drop (length (takes_at u v s o)) (w u v))
took n s None link w shows none front = (
  link,
  refl,
  λ u v. shows u v ∙ ap (λ ts. items_of (drop (length ts) (w u v))) (sym (either_way (s == v) [])),
)
took n s (Some x) link w shows none front =
    let a = x.item.sender in
    let here : takes_at a s s (Some x) ≡ x ∷ [] = takes-here s x in
    let ys = drop 1 (w a s) in
    let is : w a s ≡ x ∷ ys = subst (λ ts. w a s ≡ ts ++ drop (length ts) (w a s)) here (front a s) in
    let within : a < n = ⊎_elim (λ h. h) (λ h. let e : w a s ≡ [] = none a s h in absurd cc) (below_or_not a n) in
    (with_link link a s (items_of ys), (items_of ys, within, shows a s ∙ ap items_of is, refl), λ u v. at u v)
  where
    at : (u v : ℕ) → with_link link x.item.sender s (items_of (drop 1 (w x.item.sender s))) u v ≡ items_of (drop (length (takes_at u v s (Some x))) (w u v))
    at u v = on (nat_eq u x.item.sender && nat_eq v s) refl ∙ ap (λ ts. items_of (drop (length ts) (w u v))) (sym (takes-one u v s x))
      where
        on : (t : Bool) → (nat_eq u x.item.sender && nat_eq v s) ≡ t
            → cond t (items_of (drop 1 (w x.item.sender s))) (link u v) ≡ items_of (drop (length (cond t (x ∷ []) [])) (w u v))
        on true h =
            let both = both_true (nat_eq u x.item.sender) (nat_eq v s) h in
            ap₂ (λ u v. items_of (drop 1 (w u v))) (sym (eqb-true u x.item.sender both.0)) (sym (eqb-true v s both.1))
        on false h = shows u v

-- ---- what is put

puts-one : (u v s : ℕ) (x : StampedItem) → puts_at u v s (Some x) ≡ cond (nat_eq u s && nat_eq v x.item.receiver) (x ∷ []) []
puts-one u v s x =
    ap₂ (λ p q. cond p (cond q (x ∷ []) []) []) (nat_eq-turned s u) (nat_eq-turned x.item.receiver v) ∙ outer_first (nat_eq u s) (nat_eq v x.item.receiver) (x ∷ [])

sent : (n s : ℕ) (o : Option StampedItem) (link : Links) (w : Waiting) → Shows link w → IfSome o (λ x. x.item.receiver < n)
    → (after : Links) × Puts n link s (plain o) after × Shows after (λ u v. w u v ++ puts_at u v s o)
sent n s None link w shows to = (
  link,
  refl,
  λ u v. shows u v ∙ ap items_of (sym (append-nil (w u v)) ∙ ap (λ xs. w u v ++ xs) (sym (either_way (s == u) []))),
)
sent n s (Some x) link w shows to =
    (with_link link s x.item.receiver (link s x.item.receiver ++ x.item ∷ []), (to, refl), λ u v. at u v)
  where
    at : (u v : ℕ) → with_link link s x.item.receiver (link s x.item.receiver ++ x.item ∷ []) u v ≡ items_of (w u v ++ puts_at u v s (Some x))
    at u v = on (nat_eq u s && nat_eq v x.item.receiver) refl ∙ ap (λ xs. items_of (w u v ++ xs)) (sym (puts-one u v s x))
      where
        on : (t : Bool) → (nat_eq u s && nat_eq v x.item.receiver) ≡ t
            → cond t (link s x.item.receiver ++ x.item ∷ []) (link u v) ≡ items_of (w u v ++ cond t (x ∷ []) [])
        on true h =
            let both = both_true (nat_eq u s) (nat_eq v x.item.receiver) h in
            ap (λ xs. xs ++ x.item ∷ []) (ap₂ link (sym (eqb-true u s both.0)) (sym (eqb-true v x.item.receiver both.1)) ∙ shows u v)
            ∙ sym (map-append (λ (x : StampedItem). x.item) (w u v) (x ∷ []))
        on false h = shows u v ∙ ap items_of (sym (append-nil (w u v)))

-- ---- all moves

pub with-site-other : (here : ℕ → Config) (s u : ℕ) (l : Config) → (u ≡ s → ⊥) → with_site here s l u ≡ here u
with-site-other here s u l apart = rw (false_eq u s apart) refl

none-moved : (n : ℕ) (w : Waiting) (d : Deed) → d.event.event.site < n → ((u v : ℕ) → n ≤ u → w u v ≡ []) → (u v : ℕ) → n ≤ u → moved w d u v ≡ []
none-moved n w d at none u v above =
    let apart : d.event.event.site ≡ u → ⊥ = λ e. omega arith in
    ap₂ (λ xs t. drop (length (takes u v d)) xs ++ cond t (filter (λ x. x.item.receiver == v) (option_to_list d.put)) []) (none u v above) (false_eq d.event.event.site u apart)
    ∙ append-nil (drop (length (takes u v d)) [])
    ∙ drop-nil (length (takes u v d))

-- what holds of sites and links when these deeds are still to come
pub record Fits (n : ℕ) (ds : List Deed) (g : Linked) (end : ℕ → Config) (w rest : Waiting) : Type 0 where
  pub among : AllByRecursion (IsAmong n) ds
  pub leads : (s : ℕ) → Leads (g.here s) (own s ds) (end s)
  pub shows : Shows g.link w
  pub none : (u v : ℕ) → n ≤ u → w u v ≡ []
  pub flow : Flows w ds rest

-- the first deed is a move, and the others are still to come then
pub record MovesOn (n : ℕ) (d : Deed) (ds : List Deed) (g : Linked) (end : ℕ → Config) (w rest : Waiting) : Type 0 where
  pub next : Linked
  pub move : MovesTo n g (move_of d) next
  pub left : Shows move.between (without w d)
  pub fits : Fits n ds next end (moved w d) rest

pub moves_on : (n : ℕ) (d : Deed) (ds : List Deed) (g : Linked) (end : ℕ → Config) (w rest : Waiting) → Fits n (d ∷ ds) g end w rest → MovesOn n d ds g end w rest
moves_on n d ds g end w rest fits =
    let run = subst (λ es. Leads (g.here d.event.event.site) es (end d.event.event.site)) (own-here d.event.event.site d ds refl) (fits.leads d.event.event.site) in
    let t = took n d.event.event.site d.taken g.link w fits.shows fits.none fits.flow.0 in
    let p = sent n d.event.event.site d.put t.0 (without w d) t.2 fits.among.0.to in
    record {
      next = record { here = with_site g.here d.event.event.site run.0; link = p.0 };
      move = record { within = fits.among.0.at; between = t.0; takes = t.1; now = run.0; step = run.1; here = refl; puts = p.1 };
      left = t.2;
      fits = record {
        among = fits.among.1;
        leads = each_site (λ u. Leads (with_site g.here d.event.event.site run.0 u) (own u ds) (end u)) d.event.event.site
            (subst (λ l. Leads l (own d.event.event.site ds) (end d.event.event.site)) (sym (with-site-same d.event.event.site g.here run.0)) run.2)
            (λ u apart.
            subst (λ l. Leads l (own u ds) (end u)) (sym (with-site-other g.here d.event.event.site u run.0 apart))
            (subst (λ es. Leads (g.here u) es (end u)) (own-there d.event.event.site d ds refl u apart) (fits.leads u)));
        shows = p.2;
        none = none-moved n w d fits.among.0.at fits.none;
        flow = fits.flow.1;
      };
    }

pub moves : (n : ℕ) (ds : List Deed) (g : Linked) (end : ℕ → Config) (w rest : Waiting) → Fits n ds g end w rest
    → Moves n g (map move_of ds) (record { here = end; link = λ u v. items_of (rest u v) })
moves n [] g end w rest fits =
    ap₂ (λ h l. record { here = h; link = l }) (fun_ext fits.leads) (fun_ext (λ u. fun_ext (λ v. fits.shows u v ∙ ap items_of (fits.flow u v))))
moves n (d ∷ ds) g end w rest fits =
    let on = moves_on n d ds g end w rest fits in
    (on.next, on.move, moves n ds on.next end (moved w d) rest on.fits)
