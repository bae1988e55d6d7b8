-- The programs that the grammar has are read.
use Rattle.std.proofs.Common.{◌≡◌, ℕ, ◌≤◌, ◌⊎◌, inl, inr, List, [], ◌∷◌, ◌++◌, Ok, Err, refl, sym, ◌∙◌, append_assoc, arith}
use Rattle.np_lex.specs.declared.token.Key.TheVariants as key
use Rattle.np_lex.specs.declared.token.Sign.TheVariants as sign
use Rattle.np_lex.specs.declared.token.Token.{Token}
use Rattle.np_lex.specs.declared.token.What.TheVariants as what
use Rattle.np_lex.specs.Tokens.{token, sign_at, word_at, name_at}
use Rattle.np_tree.specs.declared.tree.Ident.{Ident}
use Rattle.np_tree.specs.declared.tree.RawProc.{RawProc}
use Rattle.np_tree.specs.declared.tree.Tree.{Tree}
use Rattle.np_tree.specs.Grammar as g
use Rattle.np_tree.specs.Grammar.{ident, AreSites, IsProgram}
use Rattle.np_parse.specs.Input.{Outcome, Parser, and_then, ◌>>=◌, peek, take, name, expect_sign, expect_word, expect_end}
use Rattle.np_parse.specs.Read.Processes.{proc}
use Rattle.np_parse.specs.Read.Programs.{sites, program_head, program}
use Rattle.np_parse.proofs.Unders.{IsDeep}
use Rattle.np_parse.proofs.UnderProcs.{under_program}
use Rattle.np_parse.proofs.CompleteProcs.{complete_proc}

then_then : {A B C : Type 0} (o : Outcome A) (p : A → Parser B) (q : B → Parser C) → and_then (and_then o p) q ≡ and_then o (λ a. p a >>= q)
then_then (Ok x) p q = refl
then_then (Err x) p q = refl

-- the first name, and those that follow
abbrev named : Parser (List Ident)
named = name >>= (λ first. sites (first ∷ []))

first_reads : (at end : ℕ) (text : List ℕ) (rest : List Token) → named (name_at at end text ∷ rest) ≡ sites (ident at text ∷ []) rest
unfolding name peek take
first_reads at end text rest = refl

next_reads : (found : List Ident) (at end : ℕ) (text : List ℕ) (rest : List Token) → sites found (name_at at end text ∷ rest) ≡ sites (found ++ ident at text ∷ []) rest
unfolding sites
next_reads found at end text rest = refl

comes_sites : {us : List Token} {found : List Ident} → AreSites us found → (rest : List Token) → named (us ++ rest) ≡ sites found rest
comes_sites (g.AreSites.one {at = at} {end = end} {text = text}) rest = first_reads at end text rest
comes_sites (g.AreSites.more {ts = ts} {xs = xs} at end text r) rest =
    rw (append_assoc ts (name_at at end text ∷ []) rest) (comes_sites r (name_at at end text ∷ rest) ∙ next_reads xs at end text rest)

sites_read : {us : List Token} {found : List Ident} → AreSites us found → (k l : ℕ) (rest : List Token) → named (us ++ sign_at k l sign.Semi ∷ rest) ≡ Ok (found, rest)
unfolding sites
sites_read p k l rest = comes_sites p (sign_at k l sign.Semi ∷ rest)

head_reads : {us : List Token} {found : List Ident} → AreSites us found → (at end k l e f u v i j y z : ℕ) (text : List ℕ) (rest : List Token)
    → program_head (word_at at end key.Sites ∷ (us ++ sign_at k l sign.Semi ∷ word_at e f key.Main ∷ word_at u v key.At ∷ name_at i j text ∷ sign_at y z sign.Equals ∷ rest)) ≡ Ok ((found, ident i text), rest)
unfolding program_head expect_word expect_sign name peek take
head_reads {us = us} {found = found} p at end k l e f u v i j y z text rest =
    let main_ = word_at e f key.Main ∷ word_at u v key.At ∷ name_at i j text ∷ sign_at y z sign.Equals ∷ rest in
    sym (then_then (name (us ++ sign_at k l sign.Semi ∷ main_)) (λ first. sites (first ∷ [])) _) ∙ rw (sites_read p k l main_)

program_reads : (d depth i j : ℕ) (head : List Ident × Ident) (ts us : List Token) (x : RawProc) → program_head ts ≡ Ok (head, us) → proc d d us ≡ Ok ((x, depth), token i j what.End ∷ [])
    → program d ts ≡ Ok (record { sites = head.0; at = head.1; main = x }, [])
unfolding program expect_end peek take
program_reads d depth i j head ts us x e f = rw (e, f)

same_with_more : (d b : ℕ) → d ≤ b → (ts : List Token) (p : Tree × List Token) → program d ts ≡ Ok p → program b ts ≡ Ok p
same_with_more d b h ts p e = go (program d ts) refl ((under_program d b h).at ts)
  where
    go : (o : Outcome Tree) → program d ts ≡ o → IsDeep (program d ts) ⊎ (program d ts ≡ program b ts) → program b ts ≡ Ok p
    go o k (inr s) = sym s ∙ e
    go o k (inl deep) = absurd (rw e at deep)

pub complete_program : {d : ℕ} {ts : List Token} {x : Tree} → IsProgram d ts x → (b : ℕ) → d ≤ b → program b ts ≡ Ok (x, [])
complete_program {d = d} (g.IsProgram.program {at = at} {end = end} {text = text} {ts = ts} {us = us} {sites = found} {x = x} k l e f u v i j y z m n p q) b h =
    let c = complete_proc q d (omega arith) (token m n what.End ∷ []) (refl, refl, refl) in
    same_with_more d b h _ _ (program_reads d c.depth m n (found, ident i text) _ (us ++ token m n what.End ∷ []) x
    (head_reads p at end k l e f u v i j y z text (us ++ token m n what.End ∷ [])) c.reads)
