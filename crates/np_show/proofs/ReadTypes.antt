-- The canonical text of a type is read as the type.
use Rattle.std.proofs.Common.{◌≡◌, ℕ, zero, suc, ◌+◌, ◌≤◌, List, [], ◌∷◌, ◌++◌, length, map, refl, sym, ap, ◌∙◌, subst, arith, append_assoc, append-nil}
use Rattle.std.specs.Prelude.{codes}
use Rattle.std.specs.List.{flat_map}
use Rattle.np_syntax.specs.Printed.{spaced}
use Rattle.np_syntax.specs.declared.types.Cap.{Cap}
use Rattle.np_syntax.specs.declared.types.Cap.TheVariants as cap
use Rattle.np_syntax.specs.declared.types.Ty.{Ty}
use Rattle.np_syntax.specs.declared.types.Ty as ty
use Rattle.np_syntax.specs.declared.limits.TheConstants.{MOST_PARTS}
use Rattle.np_lex.specs.declared.token.Key.{Key}
use Rattle.np_lex.specs.declared.token.Sign.TheVariants as sign
use Rattle.np_lex.specs.declared.token.Token.{Token}
use Rattle.np_lex.specs.Tokens.{sign_text, key_text, sign_at}
use Rattle.np_lex.proofs.Goes.{Goes, Soft, then, blank, sign_goes, key_goes}
use Rattle.np_tree.specs.Grammar as g
use Rattle.np_tree.specs.Grammar.{cap_sign, IsGround, IsType, IsChan, AreTypes}
use Rattle.np_show.specs.Shown.{squared, type_text}
use Rattle.np_show.proofs.Equations.{text-chan, text-tuple_type}
use Rattle.np_show.proofs.Canon.{IsCanonType, AllCanonTypes, IsCanonChan, ground, chan, tuple, none, more, carries}

-- ---- pieces of text

pub from : {at end : ℕ} {bytes more rest : List ℕ} {ts : List Token} → more ≡ bytes → Goes at bytes ts end rest → Goes at more ts end rest
from {at = at} {end = end} {rest = rest} {ts = ts} e g = subst (λ l. Goes at l ts end rest) (sym e) g

pub stay : (at : ℕ) (rest : List ℕ) → Goes at rest [] at rest
stay at rest = record { goes = λ us l. l }

-- the bytes up to those left are tokens of a tree that is this one, but for offsets
pub record ReadAs {X Y : Type 0} (Is : List Token → X → Type 0) (erased : X → Y) (at : ℕ) (bytes rest : List ℕ) (x : X) : Type 0 where
  pub end : ℕ
  pub ts : List Token
  pub tree : X
  pub goes : Goes at bytes ts end rest
  pub has : Is ts tree
  pub same : erased tree ≡ erased x

-- the texts of parts, each behind a space
abbrev pub others : {A : Type 0} → (A → List ℕ) → List A → List ℕ
others f xs = flat_map (λ other. codes " " ++ other) (map f xs)

pub soft_others : {A : Type 0} (f : A → List ℕ) (xs : List A) (rest : List ℕ) → Soft rest → Soft (others f xs ++ rest)
soft_others f [] rest soft = soft
soft_others f (x ∷ xs) rest soft = refl

pub squared_text : {A : Type 0} (f : A → List ℕ) (xs : List A) (rest : List ℕ) → squared (map f xs) ++ rest ≡ 91 ∷ (spaced (map f xs) ++ 93 ∷ rest)
squared_text f xs rest = ap (λ t. 91 ∷ t) (append_assoc (spaced (map f xs)) (93 ∷ []) rest)

-- ---- types

-- the bytes up to those left are tokens of this type
pub record TypeAs (d at : ℕ) (bytes rest : List ℕ) (t : Ty) : Type 0 where
  pub end : ℕ
  pub ts : List Token
  pub goes : Goes at bytes ts end rest
  pub has : IsType d ts t

record TypesAs (d at : ℕ) (bytes rest : List ℕ) (xs : List Ty) : Type 0 where
  pub end : ℕ
  pub ts : List Token
  pub goes : Goes at bytes ts end rest
  pub has : AreTypes MOST_PARTS d ts xs

-- the same behind parts that were read
record MoreTypes (d at : ℕ) (bytes rest : List ℕ) (us : List Token) (ys xs : List Ty) : Type 0 where
  pub end : ℕ
  pub ts : List Token
  pub goes : Goes at bytes ts end rest
  pub has : AreTypes MOST_PARTS d (us ++ ts) (ys ++ xs)

widen : {room d : ℕ} {ts : List Token} {xs : List Ty} → AreTypes room d ts xs → (cap : ℕ) → room ≤ cap → AreTypes cap d ts xs
widen g.none cap h = g.none
widen (g.part p q) zero h = absurd (omega arith)
widen (g.part p q) (suc cap) h = g.part (widen p cap (omega arith)) q

ground_text : {k : Key} {t : Ty} → IsGround k t → type_text t ≡ key_text k
ground_text g.int = refl
ground_text g.truth = refl
ground_text g.string = refl
ground_text g.site = refl
ground_text g.agent = refl

cap_goes : (c : Cap) (at : ℕ) (rest : List ℕ) → Goes at (sign_text (cap_sign c) ++ rest) (sign_at at (at + length (sign_text (cap_sign c))) (cap_sign c) ∷ []) (at + length (sign_text (cap_sign c))) rest
cap_goes cap.Both at rest = sign_goes sign.Caret tt at rest
cap_goes cap.Input at rest = sign_goes sign.Query tt at rest
cap_goes cap.Output at rest = sign_goes sign.Bang tt at rest

chan_text : (c : Cap) (t : Ty) (rest : List ℕ) → type_text (ty.Chan c t) ++ rest ≡ sign_text (cap_sign c) ++ (type_text t ++ rest)
chan_text c t rest = ap (λ l. l ++ rest) (text-chan c t) ∙ append_assoc (sign_text (cap_sign c)) (type_text t) rest

tuple_text : (xs : List Ty) (rest : List ℕ) → type_text (ty.Tuple xs) ++ rest ≡ 91 ∷ (spaced (map type_text xs) ++ 93 ∷ rest)
tuple_text xs rest = ap (λ l. l ++ rest) (text-tuple_type xs) ∙ squared_text type_text xs rest

mutual
  pub type_reads : {d : ℕ} {t : Ty} → IsCanonType d t → (at : ℕ) (rest : List ℕ) → Soft rest → TypeAs d at (type_text t ++ rest) rest t
  type_reads (ground {k = k} h) at rest soft = record { end = _; ts = _; goes = from (ap (λ l. l ++ rest) (ground_text h)) (key_goes k at rest soft); has = g.ground h }
  type_reads (chan {c = c} {t = t} h) at rest soft =
      let r = type_reads h (at + length (sign_text (cap_sign c))) rest soft in
      record { end = r.end; ts = sign_at at (at + length (sign_text (cap_sign c))) (cap_sign c) ∷ r.ts; goes = from (chan_text c t rest) (then (cap_goes c at _) r.goes); has = g.channel (g.carries r.has) }
  type_reads (tuple {ts = xs} few all) at rest soft =
      let p = types_read all few (at + 1) (93 ∷ rest) refl in
      record {
        end = p.end + 1;
        ts = sign_at at (at + 1) sign.SquareOpen ∷ (p.ts ++ sign_at p.end (p.end + 1) sign.SquareClose ∷ []);
        goes = from (tuple_text xs rest) (then (sign_goes sign.SquareOpen tt at _) (then p.goes (sign_goes sign.SquareClose tt p.end rest)));
        has = g.tuple _ _ p.has;
      }

  types_read : {d : ℕ} {xs : List Ty} → AllCanonTypes d xs → length xs ≤ MOST_PARTS → (at : ℕ) (rest : List ℕ) → Soft rest → TypesAs d at (spaced (map type_text xs) ++ rest) rest xs
  types_read none few at rest soft = record { end = at; ts = []; goes = stay at rest; has = g.none }
  types_read (more {t = x} {ts = xs} c all) few at rest soft =
      let r = type_reads c at (others type_text xs ++ rest) (soft_others type_text xs rest soft) in
      let m = types_go_on all 1 (omega arith) (x ∷ []) (g.part g.none r.has) r.end rest soft in
      record { end = m.end; ts = r.ts ++ m.ts; goes = from (append_assoc (type_text x) (others type_text xs) rest) (then r.goes m.goes); has = m.has }

  types_go_on : {d : ℕ} {xs : List Ty} → AllCanonTypes d xs → (room : ℕ) → room + length xs ≤ MOST_PARTS → {us : List Token} (ys : List Ty) → AreTypes room d us ys
      → (at : ℕ) (rest : List ℕ) → Soft rest → MoreTypes d at (others type_text xs ++ rest) rest us ys xs
  types_go_on none room few {us = us} ys p at rest soft =
      record { end = at; ts = []; goes = stay at rest; has = rw (append-nil us, append-nil ys) (widen p MOST_PARTS (omega arith)) }
  types_go_on (more {t = x} {ts = xs} c all) room few {us = us} ys p at rest soft =
      let r = type_reads c (at + 1) (others type_text xs ++ rest) (soft_others type_text xs rest soft) in
      let m = types_go_on all (suc room) (omega arith) (ys ++ x ∷ []) (g.part p r.has) r.end rest soft in
      record {
        end = m.end;
        ts = r.ts ++ m.ts;
        goes = from (ap (λ t. 32 ∷ t) (append_assoc (type_text x) (others type_text xs) rest)) (then (blank at _) (then r.goes m.goes));
        has = simp append_assoc at m.has;
      }

-- a channel type
pub record ChanAs (d at : ℕ) (bytes rest : List ℕ) (t : Ty) : Type 0 where
  pub end : ℕ
  pub ts : List Token
  pub goes : Goes at bytes ts end rest
  pub has : IsChan d ts t

pub chan_reads : {d : ℕ} {t : Ty} → IsCanonChan d t → (at : ℕ) (rest : List ℕ) → Soft rest → ChanAs d at (type_text t ++ rest) rest t
chan_reads (carries {c = c} {t = t} h) at rest soft =
    let r = type_reads h (at + length (sign_text (cap_sign c))) rest soft in
    record { end = r.end; ts = sign_at at (at + length (sign_text (cap_sign c))) (cap_sign c) ∷ r.ts; goes = from (chan_text c t rest) (then (cap_goes c at _) r.goes); has = g.carries r.has }
