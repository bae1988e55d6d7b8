-- The numbers of events that are read off.
use Rattle.std.proofs.Common.{◌≡◌, ℕ, suc, ◌+◌, ◌<◌, ◌≤◌, List, [], ◌∷◌, ◌++◌, append_assoc, append-nil, length, drop, drop-cons, get_or, Bool, Option, None, Some, is_some, refl, ap, add-one, sym, ◌∙◌}
use Rattle.std.proofs.lemmas.List.{drop_all}
use Rattle.np_syntax.specs.declared.event.Event.{Event}
use Rattle.np_lift.specs.Posts.{prepended}
use Rattle.np_lift.specs.Lift as central
use Rattle.np_lift.specs.CachedLift as cached
use Rattle.np_tables.specs.Names.{NameSet}
use Rattle.run_twins.specs.Messengers.{IsTold, among}
use Rattle.run_twins.specs.Twins.{cached_from, one_if, twins_from}

pub lift-more : (o : Option Event) (e : Event) (es : List Event) → central.lifted e ≡ o → central.lift (e ∷ es) ≡ prepended o (central.lift es)
lift-more None e es is = rw is refl
lift-more (Some x) e es is = rw is refl

one-more : (o : Option Event) (at : ℕ) (ns : List ℕ) (es : List Event) → length ns ≡ length es → length (one_if (is_some o) at ++ ns) ≡ length (prepended o es)
one-more None at ns es h = h
one-more (Some x) at ns es h = ap suc h

pub as-many : (at : ℕ) (events : List Event) → length (twins_from at events) ≡ length (central.lift events)
as-many at [] = refl
as-many at (e ∷ es) =
    one-more (central.lifted e) at (twins_from (at + 1) es) (central.lift es) (as-many (at + 1) es) ∙ ap length (sym (lift-more (central.lifted e) e es refl))

-- a list that grew, by what is told of an event of a number
pub grown-as : (made next : List ℕ) (a b : Bool) (m n : ℕ) → next ≡ made ++ one_if a m → a ≡ b → m ≡ n → next ≡ made ++ one_if b n
grown-as made next a b m n grown same number = grown ∙ ap (λ t. made ++ one_if t m) same ∙ ap (λ k. made ++ one_if b k) number

pub as-many-cached : (s : cached.Standing) (at : ℕ) (events : List Event) → length (cached_from s at events) ≡ length (cached.lift_from s events)
as-many-cached s at [] = refl
as-many-cached s at (e ∷ es) =
    let next = (cached.lifted s e).standing in
    one-more (cached.lifted s e).event at (cached_from next (at + 1) es) (cached.lift_from next es) (as-many-cached next (at + 1) es)

-- one event more, and those still to come
pub twins-more : (made next all : List ℕ) (events : List Event) (i : ℕ) (e : Event) → i < length events → next ≡ made ++ one_if (is_some (central.lifted (get_or events i e))) i
    → made ++ twins_from i (drop i events) ≡ all → next ++ twins_from (i + 1) (drop (i + 1) events) ≡ all
twins-more made next all events i e less grown h =
    let x : Event = get_or events i e in
    let rest : List Event = drop (suc i) events in
    let here : twins_from i (drop i events) ≡ one_if (is_some (central.lifted x)) i ++ twins_from (i + 1) rest = ap (twins_from i) (drop-cons events i e less) in
    ap (λ j. next ++ twins_from (i + 1) (drop j events)) (add-one i)
    ∙ ap (λ l. l ++ twins_from (i + 1) rest) grown
    ∙ append_assoc made (one_if (is_some (central.lifted x)) i) (twins_from (i + 1) rest)
    ∙ ap (λ l. made ++ l) (sym here)
    ∙ h

pub twins-end : (made all : List ℕ) (events : List Event) (i : ℕ) → length events ≤ i → made ++ twins_from i (drop i events) ≡ all → made ≡ all
twins-end made all events i whole h = sym (append-nil made) ∙ ap (λ l. made ++ twins_from i l) (sym (drop_all i events whole)) ∙ h

-- with caches: of the events still to come it is known who the messengers are, and some marks stand for others
pub record IsGoing (made all : List ℕ) (events : List Event) (messengers : NameSet) (i : ℕ) : Type 0 where
  pub standing : cached.Standing
  pub rest : made ++ cached_from (among standing messengers) i (drop i events) ≡ all

pub going-first : (events : List Event) (none : NameSet) → none ≡ cached.at_first.messengers → IsGoing [] (cached_from cached.at_first 0 events) events none 0
going-first events none is = record { standing = cached.at_first; rest = ap (λ m. cached_from (among cached.at_first m) 0 events) is }

pub going-more : (made next all : List ℕ) (events : List Event) (before after : NameSet) (i : ℕ) (e : Event) (told : Bool) → i < length events
    → ((s : cached.Standing) → IsTold s before after (get_or events i e) told) → next ≡ made ++ one_if told i → IsGoing made all events before i → IsGoing next all events after (i + 1)
going-more made next all events before after i e told less tells grown h =
    let x : Event = get_or events i e in
    let rest : List Event = drop (suc i) events in
    let s : cached.Standing = among h.standing before in
    let t : cached.Standing = (cached.lifted s x).standing in
    let is : IsTold h.standing before after x told = tells h.standing in
    let one : List ℕ = one_if (is_some (cached.lifted s x).event) i in
    let same : among t after ≡ t = ap (λ m. among t m) (sym is.messengers) in
    let here : cached_from s i (drop i events) ≡ one ++ cached_from t (i + 1) rest = ap (cached_from s i) (drop-cons events i e less) in
    record {
      standing = t;
      rest = ap (λ j. next ++ cached_from (among t after) (i + 1) (drop j events)) (add-one i)
          ∙ ap (λ u. next ++ cached_from u (i + 1) rest) same
          ∙ ap (λ l. l ++ cached_from t (i + 1) rest) (grown ∙ ap (λ b. made ++ one_if b i) is.event)
          ∙ append_assoc made one (cached_from t (i + 1) rest)
          ∙ ap (λ l. made ++ l) (sym here)
          ∙ h.rest;
    }

pub going-end : (made all : List ℕ) (events : List Event) (messengers : NameSet) (i : ℕ) → length events ≤ i → IsGoing made all events messengers i → made ≡ all
going-end made all events messengers i whole h =
    sym (append-nil made) ∙ ap (λ l. made ++ cached_from (among h.standing messengers) i l) (sym (drop_all i events whole)) ∙ h.rest
