-- The canonical text of a pattern is read as the pattern, but for offsets.
use Rattle.std.proofs.Common.{◌≡◌, ℕ, zero, suc, ◌+◌, ◌≤◌, List, [], ◌∷◌, ◌++◌, length, map, refl, ap, ◌∙◌, arith, append_assoc, append-nil}
use Rattle.np_syntax.specs.declared.limits.TheConstants.{MOST_PARTS}
use Rattle.np_syntax.specs.Printed.{spaced}
use Rattle.np_lex.specs.declared.token.Sign.TheVariants as sign
use Rattle.np_lex.specs.declared.token.Token.{Token}
use Rattle.np_lex.specs.Tokens.{sign_at}
use Rattle.np_lex.proofs.Goes.{Goes, Soft, then, blank, sign_goes, ident_goes}
use Rattle.np_tree.specs.declared.tree.RawPat.{RawPat}
use Rattle.np_tree.specs.declared.tree.RawPatForm as pat
use Rattle.np_tree.specs.Grammar as g
use Rattle.np_tree.specs.Grammar.{ident, pattern, IsPat, ArePats}
use Rattle.np_tree.specs.Erased.{erased_pat, erased_pat_form}
use Rattle.np_tree.proofs.Erases.{erased-tuple_pat}
use Rattle.np_show.specs.Shown.{pat_text}
use Rattle.np_show.proofs.Equations.{text-tuple_pat}
use Rattle.np_show.proofs.Canon.{IsCanonPat, AllCanonPats, any, bind, tuple_pat, none_pat, more_pat}
use Rattle.np_show.proofs.ReadTypes.{ReadAs, from, stay, others, soft_others, squared_text}

abbrev pub PatAs : (d at : ℕ) (bytes rest : List ℕ) → RawPat → Type 0
PatAs d = ReadAs (IsPat d) erased_pat

abbrev pub PatsAs : (d at : ℕ) (bytes rest : List ℕ) → List RawPat → Type 0
PatsAs d = ReadAs (ArePats MOST_PARTS d) (map erased_pat)

-- the same behind parts that were read
abbrev MorePats : (d at : ℕ) (bytes rest : List ℕ) (us : List Token) (ys ps : List RawPat) → Type 0
MorePats d at bytes rest us ys = ReadAs (λ ts trees. ArePats MOST_PARTS d (us ++ ts) (ys ++ trees)) (map erased_pat) at bytes rest

widen : {room d : ℕ} {ts : List Token} {ps : List RawPat} → ArePats room d ts ps → (cap : ℕ) → room ≤ cap → ArePats cap d ts ps
widen g.none cap h = g.none
widen (g.part p q) zero h = absurd (omega arith)
widen (g.part p q) (suc cap) h = g.part (widen p cap (omega arith)) q

same_tuple : (ps qs : List RawPat) → map erased_pat ps ≡ map erased_pat qs → erased_pat_form (pat.Tuple ps) ≡ erased_pat_form (pat.Tuple qs)
same_tuple ps qs h = rw (erased-tuple_pat ps, erased-tuple_pat qs, h)

tuple_text : (at : ℕ) (ps : List RawPat) (rest : List ℕ) → pat_text (pattern at (pat.Tuple ps)) ++ rest ≡ 91 ∷ (spaced (map pat_text ps) ++ 93 ∷ rest)
tuple_text at ps rest = ap (λ l. l ++ rest) (text-tuple_pat ps) ∙ squared_text pat_text ps rest

mutual
  pub pat_reads : {d : ℕ} {p : RawPat} → IsCanonPat d p → (at : ℕ) (rest : List ℕ) → Soft rest → PatAs d at (pat_text p ++ rest) rest p
  pat_reads any at rest soft = record { end = _; ts = _; tree = pattern at pat.Any; goes = sign_goes sign.Underscore tt at rest; has = g.any; same = refl }
  pat_reads (bind {text = text} h) at rest soft = record { end = _; ts = _; tree = pattern at (pat.Bind (ident at text)); goes = ident_goes h at rest soft; has = g.bind; same = refl }
  pat_reads (tuple_pat {at = i} {ps = ps} few all) at rest soft =
      let p = pats_read all few (at + 1) (93 ∷ rest) refl in
      record {
        end = p.end + 1;
        ts = sign_at at (at + 1) sign.SquareOpen ∷ (p.ts ++ sign_at p.end (p.end + 1) sign.SquareClose ∷ []);
        tree = pattern at (pat.Tuple p.tree);
        goes = from (tuple_text i ps rest) (then (sign_goes sign.SquareOpen tt at _) (then p.goes (sign_goes sign.SquareClose tt p.end rest)));
        has = g.tuple _ _ p.has;
        same = ap (pattern 0) (same_tuple p.tree ps p.same);
      }

  pats_read : {d : ℕ} {ps : List RawPat} → AllCanonPats d ps → length ps ≤ MOST_PARTS → (at : ℕ) (rest : List ℕ) → Soft rest → PatsAs d at (spaced (map pat_text ps) ++ rest) rest ps
  pats_read none_pat few at rest soft = record { end = at; ts = []; tree = []; goes = stay at rest; has = g.none; same = refl }
  pats_read (more_pat {p = x} {ps = xs} c all) few at rest soft =
      let r = pat_reads c at (others pat_text xs ++ rest) (soft_others pat_text xs rest soft) in
      let m = pats_go_on all 1 (omega arith) (r.tree ∷ []) (g.part g.none r.has) r.end rest soft in
      record {
        end = m.end;
        ts = r.ts ++ m.ts;
        tree = r.tree ∷ m.tree;
        goes = from (append_assoc (pat_text x) (others pat_text xs) rest) (then r.goes m.goes);
        has = m.has;
        same = rw (r.same, m.same);
      }

  pats_go_on : {d : ℕ} {ps : List RawPat} → AllCanonPats d ps → (room : ℕ) → room + length ps ≤ MOST_PARTS → {us : List Token} (ys : List RawPat) → ArePats room d us ys
      → (at : ℕ) (rest : List ℕ) → Soft rest → MorePats d at (others pat_text ps ++ rest) rest us ys ps
  pats_go_on none_pat room few {us = us} ys p at rest soft =
      record { end = at; ts = []; tree = []; goes = stay at rest; has = rw (append-nil us, append-nil ys) (widen p MOST_PARTS (omega arith)); same = refl }
  pats_go_on (more_pat {p = x} {ps = xs} c all) room few {us = us} ys p at rest soft =
      let r = pat_reads c (at + 1) (others pat_text xs ++ rest) (soft_others pat_text xs rest soft) in
      let m = pats_go_on all (suc room) (omega arith) (ys ++ r.tree ∷ []) (g.part p r.has) r.end rest soft in
      record {
        end = m.end;
        ts = r.ts ++ m.ts;
        tree = r.tree ∷ m.tree;
        goes = from (ap (λ t. 32 ∷ t) (append_assoc (pat_text x) (others pat_text xs) rest)) (then (blank at _) (then r.goes m.goes));
        has = simp append_assoc at m.has;
        same = rw (r.same, m.same);
      }
