-- What stands in a configuration after the writes of a change.
use Rattle.std.proofs.Common.{◌≡◌, Bool, true, false, cond, inl, inr, List, [], ◌∷◌, Option, None, Some, IsSome, IfSome, refl, ap, sym, subst, ◌∙◌}
use Rattle.std.specs.FinMap as map
use mathlib.Core.Path.{fun_ext}
use Rattle.np_calculus.proofs.Common.{Name, Event, done, NameMap, same_name, same_name-is, same_name-itself, Config, Contents, inside, Change, Write, effect}
use Rattle.np_tables.proofs.Tables.{get-put, get-cut}
use Rattle.np_calculus.specs.Changes.{rewritten, written}
use Rattle.np_calculus.specs.FrameRule.{Every, left_by, changed, Writes}
use Rattle.np_calculus.specs.Parts.{IsMark, LacksMark, IsSplit, either}

pub every-map : {A : Type 0} (P Q : A → Type 0) → ((x : A) → P x → Q x) → (xs : List A) → Every P xs → Every Q xs
every-map P Q f [] h = tt
every-map P Q f (x ∷ xs) h = (f x h.0, every-map P Q f xs h.1)

module _ {X : Type 0} where
  get-rewritten : (t : NameMap X) (k : Name) (o : Option X) (q : Name) → map.get (rewritten t k o) q ≡ cond (same_name q k) o (map.get t q)
  get-rewritten t k (Some x) q = get-put t k x q
  get-rewritten t k None q = get-cut t k q

  get-written : (ws : List (Write X)) (t : NameMap X) (q : Name) → map.get (written t ws) q ≡ left_by ws q (map.get t q)
  get-written [] t q = refl
  get-written (w ∷ ws) t q = get-written ws (rewritten t w.0 w.1) q ∙ ap (left_by ws q) (get-rewritten t w.0 w.1 q)

  pub either-none : (o : Option X) → either o None ≡ o
  either-none (Some x) = refl
  either-none None = refl

  write_beside : (t : Bool) (o x b : Option X) → (t ≡ true → b ≡ None) → cond t o (either x b) ≡ either (cond t o x) b
  write_beside true o x b h = sym (ap (either o) (h refl) ∙ either-none o)
  write_beside false o x b h = refl

  -- what is written where the rest has nothing is written in the part
  left-beside : (ws : List (Write X)) (rest : Name → Option X) (q : Name) (x : Option X) → Every (λ w. rest w.0 ≡ None) ws
      → left_by ws q (either x (rest q)) ≡ either (left_by ws q x) (rest q)
  left-beside [] rest q x h = refl
  left-beside (w ∷ ws) rest q x h =
      ap (left_by ws q) (write_beside (same_name q w.0) w.1 x (rest q) (λ t. ap rest (same_name-is q w.0 t) ∙ h.0))
      ∙ left-beside ws rest q (cond (same_name q w.0) w.1 x) h.1

  -- what holds of what stood under a name, and of what is written there, holds of what is left
  pub left-by : (R : Option X → Type 0) (ws : List (Write X)) (q : Name) (o : Option X) → R o → Every (λ w. q ≡ w.0 → R w.1) ws → R (left_by ws q o)
  left-by R [] q o r h = r
  left-by R (w ∷ ws) q o r h = left-by R ws q (cond (same_name q w.0) w.1 o) (pick (same_name q w.0) (λ t. h.0 (same_name-is q w.0 t))) h.1
    where
      pick : (t : Bool) → (t ≡ true → R w.1) → R (cond t w.1 o)
      pick true f = f refl
      pick false f = r

  -- what stands under a name was written there or stood there before
  left-some : (P : Name → Type 0) (ws : List (Write X)) (q : Name) (o : Option X) → Every (λ w. P w.0) ws → (IsSome o → P q) → IsSome (left_by ws q o) → P q
  left-some P ws q o h old = left-by (λ v. IsSome v → P q) ws q o old (every-map _ _ (λ w p same is. subst P (sym same) p) ws h)

  if_some : (P : X → Type 0) (v : Option X) → IfSome v P → (x : X) → v ≡ Some x → P x
  if_some P (Some y) p x is = subst P (sym (done is)) p
  if_some P None p x is = absurd cc

  -- it is what was written or what stood there
  pub left-is : (P : X → Type 0) (ws : List (Write X)) (q : Name) (o : Option X) → Every (λ w. IfSome w.1 P) ws → ((x : X) → o ≡ Some x → P x)
      → (x : X) → left_by ws q o ≡ Some x → P x
  left-is P ws q o h old = left-by (λ v. (x : X) → v ≡ Some x → P x) ws q o old (every-map _ _ (λ w p same. if_some P w.1 p) ws h)

  -- where no write removes, what stood there stands there still
  pub left-there : (ws : List (Write X)) (q : Name) (o : Option X) → Every (λ w. IsSome w.1) ws → IsSome o → IsSome (left_by ws q o)
  left-there ws q o h is = left-by IsSome ws q o is (every-map _ _ (λ w p same. p) ws h)

  -- what holds of each entry and of what is written holds of each entry afterwards
  pub each-written : (P : X → Type 0) (ws : List (Write X)) (t : NameMap X) → Every (λ w. IfSome w.1 P) ws → ((q : Name) (x : X) → map.get t q ≡ Some x → P x)
      → (q : Name) (x : X) → map.get (written t ws) q ≡ Some x → P x
  each-written P ws t h old q x is = left-is P ws q (map.get t q) h (old q) x (sym (get-written ws t q) ∙ is)

  -- where no write removes, what stood there and what is written stand there afterwards
  pub stays-written : (ws : List (Write X)) (t : NameMap X) → Every (λ w. IsSome w.1) ws → (q : Name) → IsSome (map.get t q) → IsSome (map.get (written t ws) q)
  stays-written ws t h q is = subst IsSome (sym (get-written ws t q)) (left-there ws q (map.get t q) h is)

  pub written-there : (ws : List (Write X)) (t : NameMap X) → Every (λ w. IsSome w.1) ws → Every (λ w. IsSome (map.get (written t ws) w.0)) ws
  written-there [] t h = tt
  written-there (w ∷ ws) t h =
      let u : NameMap X = rewritten t w.0 w.1 in
      (stays-written ws u h.1 w.0 (rw (get-rewritten t w.0 w.1 w.0, same_name-itself w.0) h.0), written-there ws u h.1)

pub writes-map : (A B M N : Name → Type 0) → ((q : Name) → A q → B q) → ((q : Name) → M q → N q) → (d : Change) → Writes A M d → Writes B N d
writes-map A B M N f g d t = record {
  places = every-map _ _ (λ w. f w.0) d.places t.places;
  atoms = every-map _ _ (λ w. g w.0) d.atoms t.atoms;
  packets = every-map _ _ (λ w. g w.0) d.packets t.packets;
}

pub inside-effect : (c : Config) (e : Event) (d : Change) → inside (effect c e d) ≡ changed (inside c) d
inside-effect c e d = λ i. record {
  place = fun_ext (get-written d.places c.places) i;
  atom = fun_ext (get-written d.atoms c.atoms) i;
  packet = fun_ext (get-written d.packets c.packets) i;
}

-- an agent or a mark that stands there after a change was written or stood there before
module _ (A M : Name → Type 0) (x : Contents) (d : Change) (t : Writes A M d) where
  pub agent-changed : ((q : Name) → IsSome (x.place q) → A q) → (q : Name) → IsSome ((changed x d).place q) → A q
  agent-changed old q is = left-some A d.places q (x.place q) t.places (old q) is

  pub mark-changed : ((q : Name) → IsMark x q → M q) → (q : Name) → IsMark (changed x d) q → M q
  mark-changed old q (inl is) = left-some M d.atoms q (x.atom q) t.atoms (λ h. old q (inl h)) is
  mark-changed old q (inr is) = left-some M d.packets q (x.packet q) t.packets (λ h. old q (inr h)) is

-- writes where the rest has nothing are writes of the part
pub split-changed : (whole part rest : Contents) (d : Change) → IsSplit whole part rest → Writes (λ q. rest.place q ≡ None) (LacksMark rest) d
    → IsSplit (changed whole d) (changed part d) rest
split-changed whole part rest d s t = record {
  is =
      ap (λ x. changed x d) s.is
      ∙ (λ i. record {
        place = fun_ext (λ q. left-beside d.places rest.place q (part.place q) t.places) i;
        atom = fun_ext (λ q. left-beside d.atoms rest.atom q (part.atom q) (every-map _ _ (λ w (l : LacksMark rest w.0). l.atom) d.atoms t.atoms)) i;
        packet = fun_ext (λ q. left-beside d.packets rest.packet q (part.packet q) (every-map _ _ (λ w (l : LacksMark rest w.0). l.packet) d.packets t.packets)) i;
      });
  apart = record { agents = agent-changed _ _ part d t s.apart.agents; marks = mark-changed _ _ part d t s.apart.marks };
}
