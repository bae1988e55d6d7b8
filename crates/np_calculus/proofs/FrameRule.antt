-- The frame rule and its reverse, and what an event keeps.
use Rattle.std.proofs.Common.{◌≡◌, ℕ, Bool, true, false, not, ◌⊎◌, inl, inr, List, Option, None, Some, IsSome, IfSome, refl, ap, sym, subst, ◌∙◌}
use Rattle.std.proofs.lemmas.Bool.{or_right}
use Rattle.std.specs.FinSet as set
use mathlib.Core.Path.{fun_ext}
use Rattle.np_calculus.proofs.Common.{Name, Event, Kind, Made, ◌>>=◌, ◌>>◌, need, NameSet, same_name, layer, Atom, Place, Config, Contents, Sight, inside}
use Rattle.np_calculus.proofs.Common.{sight, at_site, Change, Write, effect, acting_in, are_new, change, apply, act, arrive_row, land_row}
use Rattle.np_syntax.specs.declared.event.Kind.TheVariants as kind
use Rattle.np_syntax.specs.declared.event.Made.TheVariants as made
use Rattle.np_tables.proofs.Tables.{born_insert, born_here}
use Rattle.np_calculus.specs.declared.config.Place.TheVariants as place
use Rattle.np_calculus.specs.Changes.{with_made, with_said}
use Rattle.np_calculus.specs.FrameRule.{Comes, Every, Fits, FrameBack, FrameRule, IsMade, KeepsLodged, KeepsOfSite, Writes, changed, left_by}
use Rattle.np_calculus.specs.Parts.{IsApart, IsAway, IsLodged, IsMark, IsWhole, LacksMark, beside, either}
use Rattle.np_syntax.proofs.Bools.{and-out}
use Rattle.np_syntax.proofs.Options.{none_of}
use Rattle.np_calculus.proofs.Fits.{comes-in, fits}
use Rattle.np_calculus.proofs.OwnNames.{not_true}
use Rattle.np_calculus.proofs.Steps.{at_site-is, row-step}
use Rattle.np_calculus.proofs.Writes.{agent-changed, either-none, every-map, inside-effect, left-by, left-is, left-there, mark-changed, split-changed, writes-map}

-- ---- what a site sees

pub either-first : {X : Type 0} (x b : Option X) → b ≡ None → either x b ≡ x
either-first x b h = ap (either x) h ∙ either-none x

pub none-some : {X : Type 0} (o : Option X) → o ≡ None → IsSome o → ⊥
none-some None e h = cc
none-some (Some x) e h = cc

module _ (part rest : Contents) (site : ℕ) (apart : IsApart part rest) (away : IsAway rest site) where
  away-at : (o : Option Place) → (o ≡ Some (place.At site) → ⊥) → at_site o site ≡ false
  away-at o h = not_true (at_site o site) λ t. h (at_site-is o site t)

  here_as : (o b : Option Place) → (b ≡ Some (place.At site) → ⊥) → at_site (either o b) site ≡ at_site o site
  here_as (Some p) b h = refl
  here_as None b h = away-at b h

  -- the agents that are at the site are those of the part
  same-here : (agent : Name) → at_site (either (part.place agent) (rest.place agent)) site ≡ at_site (part.place agent) site
  same-here agent = here_as (part.place agent) (rest.place agent) (away.none agent)

  not_here : (o b : Option Place) → (IsSome o → b ≡ None) → IsSome b → at_site o site ≡ false
  not_here (Some p) b h is = absurd (let e = h refl in cc)
  not_here None b h is = refl

  -- an agent of the rest is not at the site
  other-away : (agent : Name) → IsSome (rest.place agent) → at_site (either (part.place agent) (rest.place agent)) site ≡ false
  other-away agent is = same-here agent ∙ not_here (part.place agent) (rest.place agent) (apart.agents agent) is

  atom_as : (o b : Option Atom) → ((a : Atom) → b ≡ Some a → IsSome (rest.place a.agent))
      → (either o b >>= λ a. need (at_site (either (part.place a.agent) (rest.place a.agent)) site) >> Some a) ≡ (o >>= λ a. need (at_site (part.place a.agent) site) >> Some a)
  atom_as (Some a) b h = ap (λ t. need t >> Some a) (same-here a.agent)
  atom_as None None h = refl
  atom_as None (Some a) h = ap (λ t. need t >> Some a) (other-away a.agent (h a refl))

-- a site whose agents are in the part sees of the whole what it sees of the part
same-sight : (sites : ℕ) (part rest : Contents) (site : ℕ) → IsApart part rest → IsLodged rest → IsAway rest site → sight sites (beside part rest) site ≡ sight sites part site
same-sight sites part rest site apart lodged away = λ i. record {
  sites = sites;
  here = fun_ext (same-here part rest site apart away) i;
  atom = fun_ext (λ m. atom_as part rest site apart away (part.atom m) (rest.atom m) (lodged.each m)) i;
}

-- what comes is in the part, so it is the same in the whole
module _ (sites : ℕ) (part rest : Contents) (e : Event) (apart : IsApart part rest) (same : sight sites (beside part rest) e.site ≡ sight sites part e.site) where
  same-change : (k : Kind) → Comes k part e.actor → change k sites (beside part rest) e ≡ change k sites part e
  same-change kind.Arrive is = ap (λ o. arrive_row o e) (either-first (part.place e.actor) (rest.place e.actor) (apart.agents e.actor is))
  same-change kind.Land is =
      ap (λ o. land_row o (sight sites (beside part rest) e.site) e) (either-first (part.packet e.actor) (rest.packet e.actor) (apart.marks e.actor (inr is)).packet)
      ∙ ap (λ w. land_row (part.packet e.actor) w e) same
  same-change k is = ap (λ (w : Sight). acting_in w e >>= λ a. act k (layer a.proc) w e a) same

-- ---- names that are born

pub lacks : (x : Contents) (q : Name) → (IsMark x q → ⊥) → LacksMark x q
lacks x q h = record { atom = none_of (x.atom q) (λ is. h (inl is)); packet = none_of (x.packet q) (λ is. h (inr is)) }

pub either-here : {X : Type 0} (o b : Option X) → IsSome o → IsSome (either o b)
either-here (Some x) b h = refl
either-here None b h = absurd cc

pub either-there : {X : Type 0} (o b : Option X) → IsSome b → IsSome (either o b)
either-there (Some x) b h = refl
either-there None b h = h

-- a mark of a part is one of the whole
module _ (part rest : Contents) (q : Name) where
  mark-part : IsMark part q → IsMark (beside part rest) q
  mark-part (inl h) = inl (either-here (part.atom q) (rest.atom q) h)
  mark-part (inr h) = inr (either-here (part.packet q) (rest.packet q) h)

  mark-rest : IsMark rest q → IsMark (beside part rest) q
  mark-rest (inl h) = inl (either-there (part.atom q) (rest.atom q) h)
  mark-rest (inr h) = inr (either-there (part.packet q) (rest.packet q) h)

pub not-false : (a : Bool) → not a ≡ true → a ≡ false
not-false true h = absurd cc
not-false false h = refl

pub made-unborn : (born : NameSet) (x : Made) (q : Name) → are_new born x ≡ true → IsMade x q → set.contains born q ≡ false
made-unborn born made.Nothing q h is = absurd is
made-unborn born (made.One m) q h is = ap (set.contains born) is ∙ not-false (set.contains born m) h
made-unborn born (made.Two m n) q h (inl is) = let k = and-out _ _ (and-out _ _ h).1 in ap (set.contains born) is ∙ not-false (set.contains born m) k.0
made-unborn born (made.Two m n) q h (inr is) = let k = and-out _ _ (and-out _ _ h).1 in ap (set.contains born) is ∙ not-false (set.contains born n) k.1

pub born-stays : (born : NameSet) (k q : Name) → set.contains born q ≡ true → set.contains (set.insert born k) q ≡ true
born-stays born k q h = born_insert born k q ∙ or_right (same_name q k) (set.contains born q) h

born-now : (born : NameSet) (k q : Name) → q ≡ k → set.contains (set.insert born k) q ≡ true
born-now born k q is = ap (set.contains (set.insert born k)) is ∙ born_here born k

-- what is born stays born, and what is made is born then
pub still-born : (born : NameSet) (x : Made) (q : Name) → set.contains born q ≡ true → set.contains (with_made born x) q ≡ true
still-born born made.Nothing q h = h
still-born born (made.One m) q h = born-stays born m q h
still-born born (made.Two m n) q h = born-stays (set.insert born m) n q (born-stays born m q h)

pub made-born : (born : NameSet) (x : Made) (q : Name) → IsMade x q → set.contains (with_made born x) q ≡ true
made-born born made.Nothing q is = absurd is
made-born born (made.One m) q is = born-now born m q is
made-born born (made.Two m n) q (inl is) = born-stays (set.insert born m) n q (born-now born m q is)
made-born born (made.Two m n) q (inr is) = born-now (set.insert born m) n q is

-- ---- the rule

module _ (whole part : Config) (rest : Contents) (e : Event) (w : IsWhole whole part rest) (lodged : IsLodged rest) (away : IsAway rest e.site) (new : are_new whole.born e.made ≡ true) where
  whole-is : inside whole ≡ beside (inside part) rest
  whole-is = w.split.is

  -- what comes is in the part: the event changes the same
  seen-same : Comes e.kind (inside part) e.actor → change e.kind whole.sites (inside whole) e ≡ change e.kind part.sites (inside part) e
  seen-same is =
      ap (λ n. change e.kind n (inside whole) e) w.sites ∙ ap (λ x. change e.kind part.sites x e) whole-is
      ∙ same-change part.sites (inside part) rest e w.split.apart (same-sight part.sites (inside part) rest e.site w.split.apart lodged away) e.kind is

  -- what the part or the rest has is born in the whole
  agent-there : (q : Name) → IsSome ((beside (inside part) rest).place q) → set.contains whole.born q ≡ true
  agent-there q is = w.born.agents q (subst (λ (x : Contents). IsSome (x.place q)) (sym whole-is) is)

  mark-there : (q : Name) → IsMark (beside (inside part) rest) q → set.contains whole.born q ≡ true
  mark-there q is = w.born.marks q (subst (λ x. IsMark x q) (sym whole-is) is)

  unborn : (q : Name) → IsMade e.made q → set.contains whole.born q ≡ true → ⊥
  unborn q is h = let b = made-unborn whole.born e.made q new is in cc

  -- the event writes nothing that the rest has
  lacks-agent : (q : Name) → IsSome ((inside part).place q) ⊎ IsMade e.made q → rest.place q ≡ None
  lacks-agent q (inl is) = w.split.apart.agents q is
  lacks-agent q (inr is) = none_of (rest.place q) λ h. unborn q is (agent-there q (either-there ((inside part).place q) (rest.place q) h))

  lacks-mark : (q : Name) → IsMark (inside part) q ⊎ IsMade e.made q → LacksMark rest q
  lacks-mark q (inl is) = w.split.apart.marks q is
  lacks-mark q (inr is) = lacks rest q λ h. unborn q is (mark-there q (mark-rest (inside part) rest q h))

  -- and what it writes is born then
  abbrev Born : Name → Type 0
  Born q = set.contains (with_made whole.born e.made) q ≡ true

  old-born : (q : Name) → set.contains whole.born q ≡ true → Born q
  old-born q h = still-born whole.born e.made q h

  agent-born : (q : Name) → IsSome ((inside part).place q) ⊎ IsMade e.made q → Born q
  agent-born q (inl is) = old-born q (agent-there q (either-here ((inside part).place q) (rest.place q) is))
  agent-born q (inr is) = made-born whole.born e.made q is

  mark-born : (q : Name) → IsMark (inside part) q ⊎ IsMade e.made q → Born q
  mark-born q (inl is) = old-born q (mark-there q (mark-part (inside part) rest q is))
  mark-born q (inr is) = made-born whole.born e.made q is

  module _ (d : Change) (is : change e.kind part.sites (inside part) e ≡ Some d) where
    fit : Fits (inside part) e d
    fit = fits part.sites (inside part) e d is

    whole-applies : apply whole e ≡ Some (effect whole e d)
    whole-applies = rw (seen-same (comes-in part.sites (inside part) e d is) ∙ is, new) refl

    born : Writes Born Born d
    born = writes-map _ _ _ _ agent-born mark-born d fit.own

    still-whole : IsWhole (effect whole e d) (effect part e d) rest
    still-whole = record {
      sites = w.sites;
      split = rw (inside-effect whole e d, inside-effect part e d) (split-changed (inside whole) (inside part) rest d w.split (writes-map _ _ _ _ lacks-agent lacks-mark d fit.own));
      born = record {
        agents = λ q h. agent-changed Born Born (inside whole) d born (λ q is. old-born q (w.born.agents q is)) q (subst (λ (x : Contents). IsSome (x.place q)) (inside-effect whole e d) h);
        marks = λ q h. mark-changed Born Born (inside whole) d born (λ q is. old-born q (w.born.marks q is)) q (subst (λ x. IsMark x q) (inside-effect whole e d) h);
      };
    }

pub frame_rule : FrameRule
frame_rule whole part next rest e w lodged away new h =
    let s = row-step part e next e.kind h in
    let now : effect part e s.made ≡ next = sym s.is in
    record {
      after = effect whole e s.made;
      applies = whole-applies whole part rest e w lodged away new s.made s.gives;
      is = subst (λ p. IsWhole (effect whole e s.made) p rest) now (still-whole whole part rest e w lodged away new s.made s.gives);
      born = refl;
      value = s.made.said;
      said = (refl, subst (λ (p : Config). p.said ≡ with_said part.said e.site s.made.said) now refl);
    }

pub frame_back : FrameBack
frame_back whole part after rest e w lodged away is fresh h =
    let s = row-step whole e after e.kind h in
    let own : change e.kind part.sites (inside part) e ≡ Some s.made = sym (seen-same whole part rest e w lodged away s.new is) ∙ s.gives in
    (effect part e s.made, rw (own, fresh) refl, subst (λ c. IsWhole c (effect part e s.made) rest) (sym s.is) (still-whole whole part rest e w lodged away s.new s.made own))

-- ---- what an event keeps

not_other : {X : Type 0} (P : X → Type 0) (B : Type 0) → (B → ⊥) → (v : Option X) → IfSome v (λ x. P x ⊎ B) → IfSome v P
not_other P B h None is = tt
not_other P B h (Some x) (inl is) = is
not_other P B h (Some x) (inr b) = absurd (h b)

pub keeps_lodged : KeepsLodged
keeps_lodged c d e apart i h =
    let s = row-step c e d e.kind h in
    let f : Fits (inside c) e s.made = fits c.sites (inside c) e s.made s.gives in
    let P : Atom → Type 0 = λ a. IsSome ((changed (inside c) s.made).place a.agent) in
    rw (s.is, inside-effect c e s.made) (record {
      each = λ m a. left-is P s.made.atoms m ((inside c).atom m) (every-map _ _ (λ w. not_other P (e.kind ≡ kind.Post) apart w.1) s.made.atoms f.lodged)
          (λ a old. left-there s.made.places a.agent _ f.settled (i.each m a old)) a;
    })

-- an agent comes to no other site
come-to : (site u : ℕ) (ws : List (Write Place)) (q : Name) (o : Option Place) → Every (λ w. (u : ℕ) → w.1 ≡ Some (place.At u) → u ≡ site) ws → (u ≡ site → ⊥)
    → (o ≡ Some (place.At u) → ⊥) → left_by ws q o ≡ Some (place.At u) → ⊥
come-to site u ws q o h apart old = left-by (λ v. v ≡ Some (place.At u) → ⊥) ws q o old (every-map _ _ (λ w comes same is. apart (comes u is)) ws h)

pub keeps_of_site : KeepsOfSite
keeps_of_site c d e apart i h = record {
  lodged = keeps_lodged c d e apart i.lodged h;
  away = λ u far.
      let s = row-step c e d e.kind h in
      let f : Fits (inside c) e s.made = fits c.sites (inside c) e s.made s.gives in
      rw (s.is, inside-effect c e s.made) (record { none = λ agent. come-to e.site u s.made.places agent _ f.comes far ((i.away u far).none agent) });
}
