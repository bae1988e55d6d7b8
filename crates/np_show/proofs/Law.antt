-- The canonical text of a tree is read as the tree, but for offsets.
use Rattle.std.proofs.Common.{◌≡◌, ℕ, ◌+◌, true, List, [], ◌∷◌, ◌++◌, length, map, refl, sym, ap, ◌∙◌, subst, append_assoc, append-nil}
use Rattle.std.specs.Prelude.{codes}
use Rattle.np_syntax.specs.Printed.{spaced}
use Rattle.np_lex.specs.declared.token.Key.TheVariants as key
use Rattle.np_lex.specs.declared.token.Sign.TheVariants as sign
use Rattle.np_lex.specs.declared.token.Token.{Token}
use Rattle.np_lex.specs.declared.token.What.TheVariants as what
use Rattle.np_lex.specs.Tokens as t
use Rattle.np_lex.specs.Tokens.{AllLegal, AreTokens, Lexes, token, sign_at, word_at, name_at}
use Rattle.np_lex.proofs.Goes.{Goes, Soft, then, blank, blank_goes, spaced as spaced_goes, sign_goes, key_goes, ident_goes}
use Rattle.np_lex.proofs.Once.{lexes_once}
use Rattle.np_tree.specs.declared.tree.Ident.{Ident}
use Rattle.np_tree.specs.declared.tree.Tree.{Tree}
use Rattle.np_tree.specs.Grammar as g
use Rattle.np_tree.specs.Grammar.{ident, AreSites, IsProgram}
use Rattle.np_tree.specs.Erased.{erased_ident, erased}
use Rattle.np_show.specs.Shown.{name_text, proc_text, shown}
use Rattle.np_show.specs.Again.{Again, ReadsBack}
use Rattle.np_show.proofs.Canon.{legal_front, legal_back}
use Rattle.np_show.proofs.CanonProc.{canon_proc, AllNames, CanonSites, canon_sites}
use Rattle.np_show.proofs.ReadTypes.{from, stay, others, soft_others}
use Rattle.np_show.proofs.ReadProcs.{proc_reads}

-- ---- the names of sites

record SitesAs (at : ℕ) (bytes rest : List ℕ) (names : List Ident) : Type 0 where
  pub end : ℕ
  pub ts : List Token
  pub sites : List Ident
  pub goes : Goes at bytes ts end rest
  pub has : AreSites ts sites
  pub same : map erased_ident sites ≡ map erased_ident names

-- the same behind names that were read
record MoreSites (at : ℕ) (bytes rest : List ℕ) (us : List Token) (ys names : List Ident) : Type 0 where
  pub end : ℕ
  pub ts : List Token
  pub sites : List Ident
  pub goes : Goes at bytes ts end rest
  pub has : AreSites (us ++ ts) (ys ++ sites)
  pub same : map erased_ident sites ≡ map erased_ident names

sites_go_on : (names : List Ident) → AllNames names → {us : List Token} (ys : List Ident) → AreSites us ys → (at : ℕ) (rest : List ℕ) → Soft rest
    → MoreSites at (others name_text names ++ rest) rest us ys names
sites_go_on [] all {us = us} ys p at rest soft = record { end = at; ts = []; sites = []; goes = stay at rest; has = rw (append-nil us, append-nil ys) p; same = refl }
sites_go_on (name ∷ names) all {us = us} ys p at rest soft =
    let i = at + 1 in
    let end = i + length name.text in
    let m = sites_go_on names all.1 (ys ++ ident i name.text ∷ []) (g.more i end name.text p) end rest soft in
    record {
      end = m.end;
      ts = name_at i end name.text ∷ m.ts;
      sites = ident i name.text ∷ m.sites;
      goes = from (ap (λ l. 32 ∷ l) (append_assoc name.text (others name_text names) rest))
          (then (blank at _) (then (ident_goes all.0 i (others name_text names ++ rest) (soft_others name_text names rest soft)) m.goes));
      has = simp append_assoc at m.has;
      same = ap (λ l. ident 0 name.text ∷ l) m.same;
    }

sites_read : {names : List Ident} → CanonSites names → (at : ℕ) (rest : List ℕ) → Soft rest → SitesAs at (spaced (map name_text names) ++ rest) rest names
sites_read c at rest soft =
    let end = at + length c.first.text in
    let m = sites_go_on c.others c.all (ident at c.first.text ∷ []) g.one end rest soft in
    record {
      end = m.end;
      ts = name_at at end c.first.text ∷ m.ts;
      sites = ident at c.first.text ∷ m.sites;
      goes = from (ap (λ l. spaced (map name_text l) ++ rest) c.is ∙ append_assoc c.first.text (others name_text c.others) rest)
          (then (ident_goes c.legal at (others name_text c.others ++ rest) (soft_others name_text c.others rest soft)) m.goes);
      has = m.has;
      same = ap (λ l. ident 0 c.first.text ∷ l) m.same ∙ sym (ap (map erased_ident) c.is);
    }

-- ---- each token but the end is legal

but_last : List Token → List Token
but_last [] = []
but_last (x ∷ []) = []
but_last (x ∷ y ∷ ys) = x ∷ but_last (y ∷ ys)

but_last-push : (front : List Token) (last : Token) → but_last (front ++ last ∷ []) ≡ front
unfolding but_last
but_last-push [] last = refl
but_last-push (x ∷ []) last = refl
but_last-push (x ∷ y ∷ front) last = ap (λ l. x ∷ l) (but_last-push (y ∷ front) last)

legal : {ts : List Token} → AreTokens ts → (front : List Token) (last : Token) → ts ≡ front ++ last ∷ [] → AllLegal front
legal h front last e =
    subst AllLegal (sym (but_last-push h.front (token h.end h.end what.End)) ∙ ap but_last (sym h.is ∙ e) ∙ but_last-push front last) h.legal

-- ---- the law

seven : (a b c d e f h : List ℕ) → a ++ b ++ c ++ d ++ e ++ f ++ h ≡ a ++ (b ++ (c ++ (d ++ (e ++ (f ++ h)))))
seven a b c d e f h = simp append_assoc

again : (depth : ℕ) (text : List ℕ) (tree : Tree) (tokens : List Token) (read : Tree) → Lexes 0 text tokens → IsProgram depth tokens read → erased read ≡ erased tree → Again depth text tree
again depth text tree tokens read l p e = record { tokens = tokens; read = read; lexes = l; only_tokens = λ others m. lexes_once m l; is = p; same = e }

law : {depth : ℕ} {ts : List Token} {x : Tree} → AreTokens ts → IsProgram depth ts x → Again depth (shown x) x
law {depth = depth} {x = x} are (g.program {at = at} {end = end} {text = text} {ts = ts} {us = us} {sites = sites} {x = main} a b e f i j k l m n o p names proc) =
    let head = sign_at a b sign.Semi ∷ word_at e f key.Main ∷ word_at i j key.At ∷ name_at k l text ∷ sign_at m n sign.Equals ∷ us in
    let front = word_at at end key.Sites ∷ (ts ++ head) in
    let all : AllLegal front = legal are front (token o p what.End) (ap (λ l. word_at at end key.Sites ∷ l) (sym (append_assoc ts head (token o p what.End ∷ [])))) in
    let tail = legal_back ts head all.1 in
    let last : List ℕ = codes "\n" in
    let r = sites_read (canon_sites names (legal_front ts head all.1)) 6 (codes " ; main at " ++ (text ++ (codes " = " ++ (proc_text true main ++ last)))) refl in
    let y = r.end + 1 + 1 + 1 + 4 + 1 + 2 + 1 in
    let z = y + length text in
    let q = proc_reads true (canon_proc proc tail.1.1.1.1.1) 0 (z + 1 + 1 + 1) last refl in
    let done : Lexes q.end last (token (q.end + 1) (q.end + 1) what.End ∷ []) = (blank_goes 10 refl q.end []).goes _ t.end in
    let main_lexes = (spaced_goes sign.Equals (z + 1) _).goes _ ((blank _ _).goes _ (q.goes.goes _ done)) in
    let name_lexes = (key_goes key.At _ _ refl).goes _ ((blank _ _).goes _ ((ident_goes tail.1.1.1.0 y _ refl).goes _ ((blank _ _).goes _ main_lexes))) in
    let head_lexes = (sign_goes sign.Semi tt _ _).goes _ ((blank _ _).goes _ ((key_goes key.Main _ _ refl).goes _ ((blank _ _).goes _ name_lexes))) in
    let tokens =
    word_at 0 5 key.Sites ∷ (r.ts ++ sign_at (r.end + 1) (r.end + 1 + 1) sign.Semi ∷ word_at (r.end + 1 + 1 + 1) (r.end + 1 + 1 + 1 + 4) key.Main
    ∷ word_at (r.end + 1 + 1 + 1 + 4 + 1) (r.end + 1 + 1 + 1 + 4 + 1 + 2) key.At ∷ name_at y z text ∷ sign_at (z + 1) (z + 1 + 1) sign.Equals
    ∷ (q.ts ++ token (q.end + 1) (q.end + 1) what.End ∷ []))
    in
    let text_is = seven (codes "sites ") (spaced (map name_text sites)) (codes " ; main at ") text (codes " = ") (proc_text true main) last in
    let whole : Lexes 0 (shown x) tokens = subst (λ l. Lexes 0 l tokens) (sym text_is) ((key_goes key.Sites 0 _ refl).goes _ ((blank _ _).goes _ (r.goes.goes _ ((blank _ _).goes _ head_lexes)))) in
    again depth (shown x) x tokens (record { sites = r.sites; at = ident y text; main = q.tree }) whole (g.program _ _ _ _ _ _ _ _ _ _ _ _ r.has q.has)
    (λ k. record { sites = r.same k; at = ident 0 text; main = q.same k })

pub reads_back : (x : Tree) → ReadsBack (shown x) x
reads_back x = λ depth tokens are h. law are h
