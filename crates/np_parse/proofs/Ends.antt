-- The end is the last token of a program, and no other.
use Rattle.std.proofs.Common.{◌≡◌, ℕ, List, [], ◌∷◌, ◌++◌, refl, sym, subst, ap, ◌∙◌, append_assoc}
use Rattle.np_syntax.specs.declared.types.Ty.{Ty}
use Rattle.np_syntax.specs.declared.value.Value.{Value}
use Rattle.np_lex.specs.declared.token.What.{What}
use Rattle.np_lex.specs.declared.token.What.TheVariants as what
use Rattle.np_lex.specs.declared.token.Token.{Token}
use Rattle.np_lex.specs.Tokens.{token, AreTokens}
use Rattle.np_lex.specs.Tokens as lex
use Rattle.np_tree.specs.declared.tree.Ident.{Ident}
use Rattle.np_tree.specs.declared.tree.RawExpr.{RawExpr}
use Rattle.np_tree.specs.declared.tree.RawPat.{RawPat}
use Rattle.np_tree.specs.declared.tree.RawProc.{RawProc}
use Rattle.np_tree.specs.declared.tree.Tree.{Tree}
use Rattle.np_tree.specs.Grammar as g
use Rattle.np_tree.specs.Grammar.{IsType, IsChan, AreTypes, IsPat, ArePats, IsLiteral, IsAtom, IsProd, IsSum, IsExpr, AreExprs, IsProc, AreMany, AreSites, IsProgram}

abbrev pub IsEnd : What → Type 0
IsEnd what.End = Unit {0}
IsEnd _ = ⊥

abbrev pub NoEnd : List Token → Type 0
NoEnd [] = Unit {0}
NoEnd (t ∷ ts) = (IsEnd t.what → ⊥) × NoEnd ts

-- lists without an end, one behind the other
pub join : (xs ys : List Token) → NoEnd xs → NoEnd ys → NoEnd (xs ++ ys)
join [] ys h k = k
join (x ∷ xs) ys h k = (h.0, join xs ys h.1 k)

abbrev no : ⊥ → ⊥
no x = x

mutual
  no_end_type : {d : ℕ} {ts : List Token} {x : Ty} → IsType d ts x → NoEnd ts
  no_end_type (g.IsType.ground k) = (no, tt)
  no_end_type (g.IsType.channel r) = no_end_chan r
  no_end_type (g.IsType.tuple {ts = ts} i j r) = (no, join ts _ (no_end_types r) (no, tt))

  no_end_chan : {d : ℕ} {ts : List Token} {x : Ty} → IsChan d ts x → NoEnd ts
  no_end_chan (g.IsChan.carries r) = (no, no_end_type r)

  no_end_types : {room d : ℕ} {ts : List Token} {xs : List Ty} → AreTypes room d ts xs → NoEnd ts
  no_end_types g.AreTypes.none = tt
  no_end_types (g.AreTypes.part {ts = ts} {us = us} xs x) = join us ts (no_end_types xs) (no_end_type x)

mutual
  no_end_pat : {d : ℕ} {ts : List Token} {x : RawPat} → IsPat d ts x → NoEnd ts
  no_end_pat g.IsPat.any = (no, tt)
  no_end_pat g.IsPat.bind = (no, tt)
  no_end_pat (g.IsPat.tuple {ts = ts} i j r) = (no, join ts _ (no_end_pats r) (no, tt))

  no_end_pats : {room d : ℕ} {ts : List Token} {xs : List RawPat} → ArePats room d ts xs → NoEnd ts
  no_end_pats g.ArePats.none = tt
  no_end_pats (g.ArePats.part {ts = ts} {us = us} xs x) = join us ts (no_end_pats xs) (no_end_pat x)

literal_no_end : {w : What} {v : Value} → IsLiteral w v → IsEnd w → ⊥
literal_no_end g.IsLiteral.number h = h
literal_no_end g.IsLiteral.string h = h
literal_no_end g.IsLiteral.truth h = h
literal_no_end g.IsLiteral.falsehood h = h

mutual
  no_end_atom : {d : ℕ} {ts : List Token} {x : RawExpr} → IsAtom d ts x → NoEnd ts
  no_end_atom (g.IsAtom.literal k) = (literal_no_end k, tt)
  no_end_atom g.IsAtom.main = (no, tt)
  no_end_atom g.IsAtom.variable = (no, tt)
  no_end_atom (g.IsAtom.round {ts = ts} i j r) = (no, join ts _ (no_end_expr r) (no, tt))
  no_end_atom (g.IsAtom.tuple {ts = ts} i j r) = (no, join ts _ (no_end_exprs r) (no, tt))

  no_end_prod : {d : ℕ} {ts : List Token} {x : RawExpr} → IsProd d ts x → NoEnd ts
  no_end_prod (g.IsProd.atom a) = no_end_atom a
  no_end_prod (g.IsProd.times {ts = ts} {us = us} i j x y) = join ts _ (no_end_prod x) (no, no_end_atom y)

  no_end_sum : {d : ℕ} {ts : List Token} {x : RawExpr} → IsSum d ts x → NoEnd ts
  no_end_sum (g.IsSum.prod a) = no_end_prod a
  no_end_sum (g.IsSum.plus {ts = ts} i j o x y) = join ts _ (no_end_sum x) (no, no_end_prod y)

  no_end_expr : {d : ℕ} {ts : List Token} {x : RawExpr} → IsExpr d ts x → NoEnd ts
  no_end_expr (g.IsExpr.sum a) = no_end_sum a
  no_end_expr (g.IsExpr.compare {ts = ts} i j o x y) = join ts _ (no_end_sum x) (no, no_end_sum y)

  no_end_exprs : {room d : ℕ} {ts : List Token} {xs : List RawExpr} → AreExprs room d ts xs → NoEnd ts
  no_end_exprs g.AreExprs.none = tt
  no_end_exprs (g.AreExprs.part {ts = ts} {us = us} xs x) = join us ts (no_end_exprs xs) (no_end_expr x)

mutual
  no_end_proc : {m d : ℕ} {ts : List Token} {x : RawProc} → IsProc m d ts x → NoEnd ts
  no_end_proc g.IsProc.stop = (no, tt)
  no_end_proc (g.IsProc.bracket {ts = ts} i j r) = (no, join ts _ (no_end_many r) (no, tt))
  no_end_proc (g.IsProc.channel {ts = ts} i j t r) = (no, (no, (no, join ts _ (no_end_chan t) (no, no_end_proc r))))
  no_end_proc (g.IsProc.output x) = (no, (no, no_end_expr x))
  no_end_proc (g.IsProc.input {ts = ts} i j p r) = (no, (no, join ts _ (no_end_pat p) (no, no_end_proc r)))
  no_end_proc (g.IsProc.replicated {ts = ts} i j p r) = (no, (no, (no, join ts _ (no_end_pat p) (no, no_end_proc r))))
  no_end_proc (g.IsProc.agent {ts = ts} i j r s) = (no, (no, (no, join ts _ (no_end_proc r) (no, no_end_proc s))))
  no_end_proc (g.IsProc.migrate {ts = ts} i j x r) = (no, (no, join ts _ (no_end_expr x) (no, no_end_proc r)))
  no_end_proc (g.IsProc.iflocal {ts = ts} {us = us} {vs = vs} a c i j e f o q t l x z r s) =
      (no, (no, join ts _ (no_end_atom x) (no, (no, (no, join us _ (no_end_expr z) (no, join vs _ (no_end_proc r) (no, no_end_proc s)))))))
  no_end_proc (g.IsProc.post {ts = ts} a c o q i j e f t l x z) = (no, join ts _ (no_end_atom x) (no, (no, (no, (no, (no, no_end_expr z))))))
  no_end_proc (g.IsProc.send {ts = ts} {us = us} a c i j e f t l x y z) =
      (no, join ts _ (no_end_atom x) (no, join us _ (no_end_atom y) (no, (no, (no, no_end_expr z)))))
  no_end_proc (g.IsProc.test {ts = ts} {us = us} a c i j x r s) = (no, join ts _ (no_end_expr x) (no, join us _ (no_end_proc r) (no, no_end_proc s)))
  no_end_proc (g.IsProc.bind {ts = ts} {us = us} a c i j p x r) = (no, join ts _ (no_end_pat p) (no, join us _ (no_end_expr x) (no, no_end_proc r)))
  no_end_proc (g.IsProc.print x) = (no, no_end_expr x)

  no_end_many : {m at d : ℕ} {ts : List Token} {x : RawProc} → AreMany m at d ts x → NoEnd ts
  no_end_many (g.AreMany.two {ts = ts} i j x y) = join ts _ (no_end_proc x) (no, no_end_proc y)
  no_end_many (g.AreMany.more {ts = ts} i j x y) = join ts _ (no_end_many x) (no, no_end_proc y)

no_end_sites : {ts : List Token} {xs : List Ident} → AreSites ts xs → NoEnd ts
no_end_sites g.AreSites.one = (no, tt)
no_end_sites (g.AreSites.more {ts = ts} a b text r) = join ts _ (no_end_sites r) (no, tt)

pub record Ended (l : List Token) : Type 0 where
  pub front : List Token
  pub at : ℕ
  pub end : ℕ
  pub is : l ≡ front ++ token at end what.End ∷ []
  pub inner : NoEnd front

-- with more before it
ended_after : (l r : List Token) → NoEnd l → Ended r → Ended (l ++ r)
ended_after l r h e = record {
  front = l ++ e.front;
  at = e.at;
  end = e.end;
  is = ap (λ u. l ++ u) e.is ∙ sym (append_assoc l e.front (token e.at e.end what.End ∷ []));
  inner = join l e.front h e.inner;
}

pub program_ended : {d : ℕ} {l : List Token} {x : Tree} → IsProgram d l x → Ended l
program_ended (g.IsProgram.program {ts = ts} {us = us} a b e f h i j k l o m n r p) =
    ended_after (_ ∷ ts) _ (no, no_end_sites r)
    (ended_after (_ ∷ _ ∷ _ ∷ _ ∷ _ ∷ []) _ (no, (no, (no, (no, (no, tt)))))
    (record { front = us; at = m; end = n; is = refl; inner = no_end_proc p }))

-- nothing stands behind the first end, if the whole has no end but the last
pub nothing_behind : (f s : List Token) (a b c d : ℕ) (more : List Token) → NoEnd f → NoEnd s
    → (f ++ token a b what.End ∷ []) ++ more ≡ s ++ token c d what.End ∷ [] → more ≡ []
nothing_behind [] [] a b c d more h k e = cc
nothing_behind [] (y ∷ s) a b c d more h k e = let same : token a b what.End ≡ y = cc in absurd (k.0 (subst (λ t. IsEnd t.what) same tt))
nothing_behind (x ∷ f) [] a b c d more h k e = let same : token c d what.End ≡ x = cc in absurd (h.0 (subst (λ t. IsEnd t.what) same tt))
nothing_behind (x ∷ f) (y ∷ s) a b c d more h k e =
    let next : (f ++ token a b what.End ∷ []) ++ more ≡ s ++ token c d what.End ∷ [] = cc in nothing_behind f s a b c d more h.1 k.1 next

is_end : (w : What) → IsEnd w → w ≡ what.End
is_end what.End e = refl
is_end w e = absurd e

no_end_of : (ts : List Token) → lex.NoEnd ts → NoEnd ts
no_end_of [] h = tt
no_end_of (t ∷ ts) h = (λ e. h.0 (is_end t.what e), no_end_of ts h.1)

pub tokens_ended : {ts : List Token} → AreTokens ts → Ended ts
tokens_ended t = record { front = t.front; at = t.end; end = t.end; is = t.is; inner = no_end_of t.front t.inner }
