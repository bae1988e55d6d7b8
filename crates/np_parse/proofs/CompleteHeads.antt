-- What stands before the processes of a form is read, and so is a form without processes.
use Rattle.std.proofs.Common.{◌≡◌, ℕ, suc, ◌+◌, ◌<◌, max, List, ◌∷◌, Ok, refl, arith}
use Rattle.std.specs.Prelude.{nat_le, true, false, pos}
use Rattle.std.proofs.lemmas.Bool.Decides.{nat_tests}
use denote.Enum.Bare.{true_same}
use Rattle.np_syntax.specs.declared.types.Ty.{Ty}
use Rattle.np_lex.specs.declared.token.Key.{Key}
use Rattle.np_lex.specs.declared.token.Key.TheVariants as key
use Rattle.np_lex.specs.contracts.token.Key as keys
use Rattle.np_lex.specs.declared.token.Sign.TheVariants as sign
use Rattle.np_lex.specs.declared.token.Token.{Token}
use Rattle.np_lex.specs.declared.token.What.{What}
use Rattle.np_lex.specs.declared.token.What.TheVariants as what
use Rattle.np_lex.specs.Tokens.{token, sign_at, word_at, name_at}
use Rattle.np_tree.specs.declared.tree.RawExpr.{RawExpr}
use Rattle.np_tree.specs.declared.tree.RawPat.{RawPat}
use Rattle.np_tree.specs.declared.tree.RawProc.{RawProc}
use Rattle.np_tree.specs.declared.tree.RawProcForm as form
use Rattle.np_tree.specs.Grammar.{ident, process}
use Rattle.np_parse.specs.declared.head.Single.{Single}
use Rattle.np_parse.specs.declared.head.SingleForm.TheVariants as single
use Rattle.np_parse.specs.declared.head.Double.{Double}
use Rattle.np_parse.specs.declared.head.DoubleForm.TheVariants as double
use Rattle.np_parse.specs.Input.{Outcome, peek, take, name, expect_sign, expect_word}
use Rattle.np_parse.specs.Read.Types.{chan}
use Rattle.np_parse.specs.Read.Patterns.{pat}
use Rattle.np_parse.specs.Read.Expressions.{begins_atom, atom, expr}
use Rattle.np_parse.specs.Read.Heads.{ReadProc, print, output, message, post, send, directed_by, directed, single_form, new_head, input_head, replicated_head, migrate_head, let_head}
use Rattle.np_parse.specs.Read.Heads.{double_form, agent_head, iflocal_head, if_head}
use Rattle.np_parse.specs.Read.Processes as read
use Rattle.np_parse.specs.Read.Processes.{on_channel, proc_in, proc}
use Rattle.np_parse.proofs.Completes.{Gives}
use Rattle.np_parse.proofs.CompleteExprs.{Front}
use Rattle.np_parse.proofs.SoundHeads.{between_key}
use Rattle.np_parse.proofs.SoundProcs.{between_is}

-- ---- behind the head

single_reads : (m b depth : ℕ) (h : Single) (us rest : List Token) (x : RawProc) → proc m b us ≡ Ok ((x, depth), rest)
    → read.single (proc m b) h us ≡ Ok ((process h.at (single_form h.form x), depth + 1), rest)
unfolding read.single
single_reads m b depth h us rest x e = rw e

pub single_given : (m b : ℕ) (h : Single) (o : Outcome ReadProc) (us : List Token) {d : ℕ} {rest : List Token} {x : RawProc} → o ≡ read.single (proc m b) h us → Gives d (proc m b us) rest x
    → Gives (suc d) o rest (process h.at (single_form h.form x))
single_given m b h o us {rest = rest} {x = x} e g =
    record { depth = g.depth + 1; within = omega (arith, g.within); some = omega arith; reads = rw e (single_reads m b g.depth h us rest x g.reads) }

word_reads : (k : Key) (i j : ℕ) (us : List Token) → expect_word k (word_at i j k ∷ us) ≡ Ok (i, us)
unfolding expect_word peek take
word_reads k i j us = rw (true_same keys.the_type k k refl)

double_reads : (m b n o i j : ℕ) (h : Double) (us vs rest : List Token) (x y : RawProc) → proc m b us ≡ Ok ((x, n), word_at i j (between_key h.form) ∷ vs) → proc m b vs ≡ Ok ((y, o), rest)
    → read.double (proc m b) h us ≡ Ok ((process h.at (double_form h.form x y), max n o + 1), rest)
unfolding read.double
double_reads m b n o i j h us vs rest x y e f = rw (e, between_is h.form, word_reads (between_key h.form) i j vs, f)

pub double_given : (m b i j : ℕ) (h : Double) (o : Outcome ReadProc) (us vs : List Token) {d : ℕ} {rest : List Token} {x y : RawProc} → o ≡ read.double (proc m b) h us
    → Gives d (proc m b us) (word_at i j (between_key h.form) ∷ vs) x → Gives d (proc m b vs) rest y → Gives (suc d) o rest (process h.at (double_form h.form x y))
double_given m b i j h o us vs {rest = rest} {x = x} {y = y} e g f = record {
  depth = max g.depth f.depth + 1;
  within = omega (arith, g.within, f.within);
  some = omega arith;
  reads = rw e (double_reads m b g.depth f.depth i j h us vs rest x y g.reads f.reads);
}

-- ---- before processes

module _ (m b at end : ℕ) (some : 0 < b) where
  pub new_reads : (i j k l u v n : ℕ) (text : List ℕ) (us vs : List Token) (t : Ty) → chan m us ≡ Ok ((t, n), word_at u v key.In ∷ vs)
      → proc m (suc b) (word_at at end key.New ∷ name_at i j text ∷ sign_at k l sign.Colon ∷ us) ≡ read.single (proc m b) (record { at = at; form = single.New (ident i text) t }) vs
  unfolding proc proc_in peek take name expect_sign expect_word new_head
  new_reads i j k l u v n text us vs t e =
      let no : nat_le b 0 ≡ false = grind (arith, nat_tests) in
      rw (no, e)

  pub input_reads : (i j u v n : ℕ) (text : List ℕ) (us vs : List Token) (q : RawPat) → pat m us ≡ Ok ((q, n), sign_at u v sign.Arrow ∷ vs)
      → proc m (suc b) (name_at at end text ∷ sign_at i j sign.Query ∷ us) ≡ read.single (proc m b) (record { at = at; form = single.Inp (ident at text) q }) vs
  unfolding proc proc_in peek take name expect_sign on_channel input_head
  input_reads i j u v n text us vs q e =
      let no : nat_le b 0 ≡ false = grind (arith, nat_tests) in
      rw (no, e)

  pub replicated_reads : (i j k l u v n : ℕ) (text : List ℕ) (us vs : List Token) (q : RawPat) → pat m us ≡ Ok ((q, n), sign_at u v sign.Arrow ∷ vs)
      → proc m (suc b) (sign_at at end sign.Star ∷ name_at i j text ∷ sign_at k l sign.Query ∷ us) ≡ read.single (proc m b) (record { at = at; form = single.Rep (ident i text) q }) vs
  unfolding proc proc_in peek take name expect_sign replicated_head
  replicated_reads i j k l u v n text us vs q e =
      let no : nat_le b 0 ≡ false = grind (arith, nat_tests) in
      rw (no, e)

  pub migrate_reads : (i j u v n : ℕ) (us vs : List Token) (x : RawExpr) → expr m us ≡ Ok ((x, n), sign_at u v sign.Arrow ∷ vs)
      → proc m (suc b) (word_at at end key.Migrate ∷ word_at i j key.To ∷ us) ≡ read.single (proc m b) (record { at = at; form = single.Migrate x }) vs
  unfolding proc proc_in peek take expect_sign expect_word migrate_head
  migrate_reads i j u v n us vs x e =
      let no : nat_le b 0 ≡ false = grind (arith, nat_tests) in
      rw (no, e)

  pub let_reads : (i j u v n o : ℕ) (us vs ws : List Token) (q : RawPat) (x : RawExpr) → pat m us ≡ Ok ((q, n), sign_at i j sign.Equals ∷ vs) → expr m vs ≡ Ok ((x, o), word_at u v key.In ∷ ws)
      → proc m (suc b) (word_at at end key.Let ∷ us) ≡ read.single (proc m b) (record { at = at; form = single.Let q x }) ws
  unfolding proc proc_in peek take expect_sign expect_word let_head
  let_reads i j u v n o us vs ws q x e f =
      let no : nat_le b 0 ≡ false = grind (arith, nat_tests) in
      rw (no, e, f)

  pub agent_reads : (i j k l : ℕ) (text : List ℕ) (us : List Token)
      → proc m (suc b) (word_at at end key.AgentWord ∷ name_at i j text ∷ sign_at k l sign.Equals ∷ us) ≡ read.double (proc m b) (record { at = at; form = double.Agent (ident i text) }) us
  unfolding proc proc_in peek take name expect_sign agent_head
  agent_reads i j k l text us =
      let no : nat_le b 0 ≡ false = grind (arith, nat_tests) in
      rw no

  pub iflocal_reads : (i j k l c d e f u v n o : ℕ) (text : List ℕ) (us vs ws : List Token) (x z : RawExpr)
      → atom m us ≡ Ok ((x, n), sign_at k l sign.Greater ∷ name_at c d text ∷ sign_at e f sign.Bang ∷ vs) → expr m vs ≡ Ok ((z, o), word_at u v key.Then ∷ ws)
      → proc m (suc b) (word_at at end key.IfLocal ∷ sign_at i j sign.Less ∷ us) ≡ read.double (proc m b) (record { at = at; form = double.IfLocal x (ident c text) z }) ws
  unfolding proc proc_in peek take name expect_sign expect_word message iflocal_head
  iflocal_reads i j k l c d e f u v n o text us vs ws x z g h =
      let no : nat_le b 0 ≡ false = grind (arith, nat_tests) in
      rw (no, g, h)

  pub if_reads : (u v n : ℕ) (us vs : List Token) (x : RawExpr) → expr m us ≡ Ok ((x, n), word_at u v key.Then ∷ vs)
      → proc m (suc b) (word_at at end key.If ∷ us) ≡ read.double (proc m b) (record { at = at; form = double.If x }) vs
  unfolding proc proc_in peek take expect_word if_head
  if_reads u v n us vs x e =
      let no : nat_le b 0 ≡ false = grind (arith, nat_tests) in
      rw (no, e)

-- ---- forms without processes

module _ (m b at end : ℕ) where
  pub stop_reads : (rest : List Token) → proc m (suc b) (token at end (what.Number (pos 0)) ∷ rest) ≡ Ok ((process at form.Stop, 1), rest)
  unfolding proc proc_in peek take
  stop_reads rest = refl

  pub print_reads : (n : ℕ) (us rest : List Token) (x : RawExpr) → expr m us ≡ Ok ((x, n), rest) → proc m (suc b) (word_at at end key.Print ∷ us) ≡ Ok ((process at (form.Print x), 1), rest)
  unfolding proc proc_in peek take print
  print_reads n us rest x e = rw e

  pub output_reads : (i j n : ℕ) (text : List ℕ) (us rest : List Token) (x : RawExpr) → expr m us ≡ Ok ((x, n), rest)
      → proc m (suc b) (name_at at end text ∷ sign_at i j sign.Bang ∷ us) ≡ Ok ((process at (form.Out (ident at text) x), 1), rest)
  unfolding proc proc_in peek take name on_channel output
  output_reads i j n text us rest x e = rw e

  pub post_reads : (k l q r i j e f g h n o : ℕ) (text : List ℕ) (us vs rest : List Token) (x z : RawExpr)
      → atom m us ≡ Ok ((x, n), sign_at k l sign.At ∷ sign_at q r sign.Query ∷ sign_at i j sign.Greater ∷ name_at e f text ∷ sign_at g h sign.Bang ∷ vs) → expr m vs ≡ Ok ((z, o), rest)
      → proc m (suc b) (sign_at at end sign.Less ∷ us) ≡ Ok ((process at (form.Post x (ident e text) z), 1), rest)
  unfolding proc proc_in peek take name expect_sign message directed post
  post_reads k l q r i j e f g h n o text us vs rest x z p s = rw (p, s)

  sends : (x : RawExpr) (w : What) → begins_atom w ≡ true → directed_by m at x w ≡ send m at x
  sends x (what.Number n) e = refl
  sends x (what.Str text) e = refl
  sends x (what.Ident text) e = refl
  sends x (what.Word k) e = refl
  sends x (what.Sign sign.Query) e = absurd cc
  sends x (what.Sign s) e = refl
  sends x what.End e = refl

  pub send_reads : (k l i j e f g h n o y : ℕ) (text : List ℕ) (us vs ws rest : List Token) (x s z : RawExpr) → Front vs
      → atom m us ≡ Ok ((x, n), sign_at k l sign.At ∷ vs) → atom m vs ≡ Ok ((s, o), sign_at i j sign.Greater ∷ name_at e f text ∷ sign_at g h sign.Bang ∷ ws) → expr m ws ≡ Ok ((z, y), rest)
      → proc m (suc b) (sign_at at end sign.Less ∷ us) ≡ Ok ((process at (form.Send x s (ident e text) z), 1), rest)
  unfolding proc proc_in peek take name expect_sign message directed send
  send_reads k l i j e f g h n o y text us vs ws rest x s z front p q r =
      let same : atom m (front.first ∷ front.rest) ≡ Ok ((s, o), sign_at i j sign.Greater ∷ name_at e f text ∷ sign_at g h sign.Bang ∷ ws) = rw (← front.is) q in
      rw (p, front.is, sends x front.first.what front.begins, same, r)
