-- The processes that the grammar has are read.
use Rattle.std.proofs.Common.{◌≡◌, ℕ, zero, suc, ◌+◌, ◌<◌, ◌≤◌, max, List, [], ◌∷◌, ◌++◌, Ok, refl, ◌∙◌, append_assoc, arith}
use Rattle.std.specs.Prelude.{nat_le, false}
use Rattle.std.proofs.lemmas.Bool.Decides.{nat_tests}
use Rattle.np_lex.specs.declared.token.Key.TheVariants as key
use Rattle.np_lex.specs.declared.token.Sign.TheVariants as sign
use Rattle.np_lex.specs.declared.token.Token.{Token}
use Rattle.np_lex.specs.Tokens.{sign_at, word_at, name_at}
use Rattle.np_tree.specs.declared.tree.RawProc.{RawProc}
use Rattle.np_tree.specs.declared.tree.RawProcForm as form
use Rattle.np_tree.specs.Grammar as g
use Rattle.np_tree.specs.Grammar.{ident, process, IsProc, AreMany}
use Rattle.np_parse.specs.declared.head.SingleForm.TheVariants as single
use Rattle.np_parse.specs.declared.head.DoubleForm.TheVariants as double
use Rattle.np_parse.specs.Input.{Parser, ◌>>=◌, ◌>>◌, peek, take, expect_sign}
use Rattle.np_parse.specs.Read.Heads.{ReadProc}
use Rattle.np_parse.specs.Read.Processes.{both, more, bracket, proc_in, proc}
use Rattle.np_parse.proofs.SoundBrackets.{some_level}
use Rattle.np_parse.proofs.Completes.{Gives}
use Rattle.np_parse.proofs.CompleteTypes.{complete_chan, complete_pat}
use Rattle.np_parse.proofs.CompleteExprs.{StopExpr, atom_front, complete_level}
use Rattle.np_parse.proofs.CompleteHeads.{single_given, double_given, new_reads, input_reads, replicated_reads, migrate_reads, let_reads, agent_reads, iflocal_reads, if_reads}
use Rattle.np_parse.proofs.CompleteHeads.{stop_reads, print_reads, output_reads, post_reads, send_reads}

-- ---- brackets

-- what a bracket reads behind its first token
abbrev many : Parser ReadProc → ℕ → ℕ → Parser ReadProc
many inner below at = inner >>= (λ first. expect_sign sign.Bar >> (inner >>= (λ second. more inner (suc below) at (suc below) (both at first second))))

record ComesMany (m b d at : ℕ) (ts rest : List Token) (x : RawProc) : Type 0 where
  pub depth : ℕ
  pub turns : ℕ
  pub within : depth ≤ d
  pub some : 1 < depth
  pub enough : suc b < turns + depth
  pub reads : many (proc m b) b at (ts ++ rest) ≡ more (proc m b) (suc b) at turns (x, depth) rest

bracket_reads : (m b at end : ℕ) (us : List Token) → 0 < b → proc m (suc b) (sign_at at end sign.RoundOpen ∷ us) ≡ many (proc m b) b at us
unfolding proc proc_in peek take bracket
bracket_reads m b at end us some =
    let no : nat_le b 0 ≡ false = grind (arith, nat_tests) in
    rw no

two_read : (inner : Parser ReadProc) (b at i j : ℕ) (ts us rest : List Token) (x y : ReadProc) → inner ts ≡ Ok (x, sign_at i j sign.Bar ∷ us) → inner us ≡ Ok (y, rest)
    → many inner b at ts ≡ more inner (suc b) at (suc b) (both at x y) rest
unfolding expect_sign peek take
two_read inner b at i j ts us rest x y d e = rw (d, e)

more_adds : (inner : Parser ReadProc) (levels turns at i j : ℕ) (left right : ReadProc) (us rest : List Token) → left.1 < levels → inner us ≡ Ok (right, rest)
    → more inner levels at (suc turns) left (sign_at i j sign.Bar ∷ us) ≡ more inner levels at turns (both at left right) rest
unfolding more peek take
more_adds inner levels turns at i j left right us rest below e =
    let no : nat_le levels left.1 ≡ false = grind (arith, nat_tests) in
    rw (no, e)

more_ends : (inner : Parser ReadProc) (levels turns at i j : ℕ) (left : ReadProc) (rest : List Token) → 0 < turns
    → more inner levels at turns left (sign_at i j sign.RoundClose ∷ rest) ≡ Ok (left, rest)
unfolding more peek take
more_ends inner levels zero at i j left rest h = absurd (omega arith)
more_ends inner levels (suc turns) at i j left rest h = refl

adds_proc : {m b d at : ℕ} {ts rest : List Token} {x y : RawProc} (us : List Token) (i j : ℕ) → ComesMany m b d at ts (sign_at i j sign.Bar ∷ (us ++ rest)) x
    → Gives d (proc m b (us ++ rest)) rest y → suc d ≤ suc b → ComesMany m b (suc d) at (ts ++ sign_at i j sign.Bar ∷ us) rest (process at (form.Par x y))
adds_proc {m = m} {b = b} {d = d} {at = at} {ts = ts} {rest = rest} {x = x} {y = y} us i j c g h = go c.turns refl
  where
    go : (turns : ℕ) → c.turns ≡ turns → ComesMany m b (suc d) at (ts ++ sign_at i j sign.Bar ∷ us) rest (process at (form.Par x y))
    go zero e = absurd (omega (arith, c.enough, c.within))
    go (suc turns) e =
        let before : many (proc m b) b at (ts ++ sign_at i j sign.Bar ∷ (us ++ rest)) ≡ more (proc m b) (suc b) at (suc turns) (x, c.depth) (sign_at i j sign.Bar ∷ (us ++ rest)) = rw (← e) c.reads in
        record {
          depth = max c.depth g.depth + 1;
          turns = turns;
          within = omega (arith, c.within, g.within);
          some = omega (arith, c.some);
          enough = omega (arith, c.enough);
          reads = rw (append_assoc ts (sign_at i j sign.Bar ∷ us) rest)
              (before ∙ more_adds (proc m b) (suc b) turns at i j (x, c.depth) (y, g.depth) (us ++ rest) rest (omega (arith, c.within)) g.reads);
        }

-- ---- all forms

mutual
  pub complete_proc : {m d : ℕ} {ts : List Token} {x : RawProc} → IsProc m d ts x → (b : ℕ) → d ≤ b → (rest : List Token) → StopExpr rest → Gives d (proc m b (ts ++ rest)) rest x
  complete_proc p zero h rest s = absurd (omega (arith, some_level p))
  complete_proc {m = m} (g.IsProc.stop {at = at} {end = end}) (suc b) h rest s = record { depth = 1; within = omega arith; some = omega arith; reads = stop_reads m b at end rest }
  complete_proc {m = m} (g.IsProc.bracket {at = at} {end = end} {ts = ts} i j r) (suc b) h rest s =
      let c = comes_many r b h (sign_at i j sign.RoundClose ∷ rest) (refl, refl, refl) in
      record {
        depth = c.depth;
        within = c.within;
        some = omega (arith, c.some);
        reads = rw (append_assoc ts (sign_at i j sign.RoundClose ∷ []) rest)
            (bracket_reads m b at end (ts ++ sign_at i j sign.RoundClose ∷ rest) (omega (arith, c.some, c.within)) ∙ c.reads
            ∙ more_ends (proc m b) (suc b) c.turns at i j _ rest (omega (arith, c.enough, c.within)));
      }
  complete_proc {m = m} (g.IsProc.channel {at = at} {end = end} {m = k} {n = n} {i = i} {j = j} {text = text} {ts = ts} {us = us} {t = t} a c q r) (suc b) h rest s =
      let p = complete_proc r b (omega arith) rest s in
      let f = (complete_chan m).give q (omega arith) (word_at a c key.In ∷ (us ++ rest)) tt in
      rw (append_assoc ts (word_at a c key.In ∷ us) rest)
      (single_given m b (record { at = at; form = single.New (ident k text) t }) _ (us ++ rest)
      (new_reads m b at end (omega (arith, some_level r)) k n i j a c f.depth text (ts ++ word_at a c key.In ∷ (us ++ rest)) (us ++ rest) t f.reads) p)
  complete_proc {m = m} (g.IsProc.output {at = at} {end = end} {a = a} {b = c} {text = text} {ts = ts} {x = x} q) (suc b) h rest s =
      let f = (complete_level m).exprs.give q (omega arith) rest s in
      record { depth = 1; within = omega arith; some = omega arith; reads = output_reads m b at end a c f.depth text (ts ++ rest) rest x f.reads }
  complete_proc {m = m} (g.IsProc.input {at = at} {end = end} {m = k} {n = n} {text = text} {ts = ts} {us = us} {p = pt} a c q r) (suc b) h rest s =
      let p = complete_proc r b (omega arith) rest s in
      let f = (complete_pat m).give q (omega arith) (sign_at a c sign.Arrow ∷ (us ++ rest)) tt in
      rw (append_assoc ts (sign_at a c sign.Arrow ∷ us) rest)
      (single_given m b (record { at = at; form = single.Inp (ident at text) pt }) _ (us ++ rest)
      (input_reads m b at end (omega (arith, some_level r)) k n a c f.depth text (ts ++ sign_at a c sign.Arrow ∷ (us ++ rest)) (us ++ rest) pt f.reads) p)
  complete_proc {m = m} (g.IsProc.replicated {at = at} {end = end} {m = k} {n = n} {i = i} {j = j} {text = text} {ts = ts} {us = us} {p = pt} a c q r) (suc b) h rest s =
      let p = complete_proc r b (omega arith) rest s in
      let f = (complete_pat m).give q (omega arith) (sign_at a c sign.Arrow ∷ (us ++ rest)) tt in
      rw (append_assoc ts (sign_at a c sign.Arrow ∷ us) rest)
      (single_given m b (record { at = at; form = single.Rep (ident k text) pt }) _ (us ++ rest)
      (replicated_reads m b at end (omega (arith, some_level r)) k n i j a c f.depth text (ts ++ sign_at a c sign.Arrow ∷ (us ++ rest)) (us ++ rest) pt f.reads) p)
  complete_proc {m = m} (g.IsProc.agent {at = at} {end = end} {m = k} {n = n} {i = i} {j = j} {text = text} {ts = ts} {us = us} a c q r) (suc b) h rest s =
      let p = complete_proc q b (omega arith) (word_at a c key.In ∷ (us ++ rest)) (refl, refl, refl) in
      let o = complete_proc r b (omega arith) rest s in
      rw (append_assoc ts (word_at a c key.In ∷ us) rest)
      (double_given m b a c (record { at = at; form = double.Agent (ident k text) }) _ (ts ++ word_at a c key.In ∷ (us ++ rest)) (us ++ rest)
      (agent_reads m b at end (omega (arith, some_level r)) k n i j text (ts ++ word_at a c key.In ∷ (us ++ rest))) p o)
  complete_proc {m = m} (g.IsProc.migrate {at = at} {end = end} {m = k} {n = n} {ts = ts} {us = us} {x = x} a c q r) (suc b) h rest s =
      let p = complete_proc r b (omega arith) rest s in
      let f = (complete_level m).exprs.give q (omega arith) (sign_at a c sign.Arrow ∷ (us ++ rest)) (refl, refl, refl) in
      rw (append_assoc ts (sign_at a c sign.Arrow ∷ us) rest)
      (single_given m b (record { at = at; form = single.Migrate x }) _ (us ++ rest)
      (migrate_reads m b at end (omega (arith, some_level r)) k n a c f.depth (ts ++ sign_at a c sign.Arrow ∷ (us ++ rest)) (us ++ rest) x f.reads) p)
  complete_proc {m = m} (g.IsProc.iflocal {at = at} {end = end} {m = u} {n = v} {text = text} {ts = ts} {us = us} {vs = vs} {ws = ws} {x = x} {z = z} a c i j e f o q k l t w r y) (suc b) h rest s =
      let last = ws ++ rest in
      let fourth = vs ++ word_at k l key.Else ∷ last in
      let third = us ++ word_at o q key.Then ∷ fourth in
      let second = sign_at a c sign.Greater ∷ name_at i j text ∷ sign_at e f sign.Bang ∷ third in
      let p1 = complete_proc r b (omega arith) (word_at k l key.Else ∷ last) (refl, refl, refl) in
      let p2 = complete_proc y b (omega arith) rest s in
      let f1 = (complete_level m).atoms.give t (omega arith) second tt in
      let f2 = (complete_level m).exprs.give w (omega arith) (word_at o q key.Then ∷ fourth) (refl, refl, refl) in
      rw (
        append_assoc ts (sign_at a c sign.Greater ∷ name_at i j text ∷ sign_at e f sign.Bang ∷ (us ++ word_at o q key.Then ∷ (vs ++ word_at k l key.Else ∷ ws))) rest,
        append_assoc us (word_at o q key.Then ∷ (vs ++ word_at k l key.Else ∷ ws)) rest,
        append_assoc vs (word_at k l key.Else ∷ ws) rest,
      )
      (double_given m b k l (record { at = at; form = double.IfLocal x (ident i text) z }) _ fourth last
      (iflocal_reads m b at end (omega (arith, some_level r)) u v a c i j e f o q f1.depth f2.depth text (ts ++ second) third fourth x z f1.reads f2.reads) p1 p2)
  complete_proc {m = m} (g.IsProc.post {at = at} {end = end} {text = text} {ts = ts} {us = us} {x = x} {z = z} a c u v i j e f k l q r) (suc b) h rest s =
      let second = sign_at a c sign.At ∷ sign_at u v sign.Query ∷ sign_at i j sign.Greater ∷ name_at e f text ∷ sign_at k l sign.Bang ∷ (us ++ rest) in
      let f1 = (complete_level m).atoms.give q (omega arith) second tt in
      let f2 = (complete_level m).exprs.give r (omega arith) rest s in
      record {
        depth = 1;
        within = omega arith;
        some = omega arith;
        reads = rw (append_assoc ts (sign_at a c sign.At ∷ sign_at u v sign.Query ∷ sign_at i j sign.Greater ∷ name_at e f text ∷ sign_at k l sign.Bang ∷ us) rest)
            (post_reads m b at end a c u v i j e f k l f1.depth f2.depth text (ts ++ second) (us ++ rest) rest x z f1.reads f2.reads);
      }
  complete_proc {m = m} (g.IsProc.send {at = at} {end = end} {text = text} {ts = ts} {us = us} {vs = vs} {x = x} {y = y} {z = z} a c i j e f k l q r t) (suc b) h rest s =
      let third = sign_at i j sign.Greater ∷ name_at e f text ∷ sign_at k l sign.Bang ∷ (vs ++ rest) in
      let second = us ++ third in
      let f1 = (complete_level m).atoms.give q (omega arith) (sign_at a c sign.At ∷ second) tt in
      let f2 = (complete_level m).atoms.give r (omega arith) third tt in
      let f3 = (complete_level m).exprs.give t (omega arith) rest s in
      record {
        depth = 1;
        within = omega arith;
        some = omega arith;
        reads = rw (
          append_assoc ts (sign_at a c sign.At ∷ (us ++ sign_at i j sign.Greater ∷ name_at e f text ∷ sign_at k l sign.Bang ∷ vs)) rest,
          append_assoc us (sign_at i j sign.Greater ∷ name_at e f text ∷ sign_at k l sign.Bang ∷ vs) rest,
        )
            (send_reads m b at end a c i j e f k l f1.depth f2.depth f3.depth text (ts ++ sign_at a c sign.At ∷ second) second (vs ++ rest) rest x y z (atom_front r third) f1.reads f2.reads f3.reads);
      }
  complete_proc {m = m} (g.IsProc.test {at = at} {end = end} {ts = ts} {us = us} {vs = vs} {x = x} a c i j q r t) (suc b) h rest s =
      let third = us ++ word_at i j key.Else ∷ (vs ++ rest) in
      let p1 = complete_proc r b (omega arith) (word_at i j key.Else ∷ (vs ++ rest)) (refl, refl, refl) in
      let p2 = complete_proc t b (omega arith) rest s in
      let f = (complete_level m).exprs.give q (omega arith) (word_at a c key.Then ∷ third) (refl, refl, refl) in
      rw (append_assoc ts (word_at a c key.Then ∷ (us ++ word_at i j key.Else ∷ vs)) rest, append_assoc us (word_at i j key.Else ∷ vs) rest)
      (double_given m b i j (record { at = at; form = double.If x }) _ third (vs ++ rest)
      (if_reads m b at end (omega (arith, some_level r)) a c f.depth (ts ++ word_at a c key.Then ∷ third) third x f.reads) p1 p2)
  complete_proc {m = m} (g.IsProc.bind {at = at} {end = end} {ts = ts} {us = us} {vs = vs} {p = pt} {x = x} a c i j q r t) (suc b) h rest s =
      let third = us ++ word_at i j key.In ∷ (vs ++ rest) in
      let p = complete_proc t b (omega arith) rest s in
      let f1 = (complete_pat m).give q (omega arith) (sign_at a c sign.Equals ∷ third) tt in
      let f2 = (complete_level m).exprs.give r (omega arith) (word_at i j key.In ∷ (vs ++ rest)) (refl, refl, refl) in
      rw (append_assoc ts (sign_at a c sign.Equals ∷ (us ++ word_at i j key.In ∷ vs)) rest, append_assoc us (word_at i j key.In ∷ vs) rest)
      (single_given m b (record { at = at; form = single.Let pt x }) _ (vs ++ rest)
      (let_reads m b at end (omega (arith, some_level t)) a c i j f1.depth f2.depth (ts ++ sign_at a c sign.Equals ∷ third) third (vs ++ rest) pt x f1.reads f2.reads) p)
  complete_proc {m = m} (g.IsProc.print {at = at} {end = end} {ts = ts} {x = x} q) (suc b) h rest s =
      let f = (complete_level m).exprs.give q (omega arith) rest s in
      record { depth = 1; within = omega arith; some = omega arith; reads = print_reads m b at end f.depth (ts ++ rest) rest x f.reads }

  comes_many : {m at d : ℕ} {ts : List Token} {x : RawProc} → AreMany m at d ts x → (b : ℕ) → d ≤ suc b → (rest : List Token) → StopExpr rest → ComesMany m b d at ts rest x
  comes_many {m = m} {at = at} (g.AreMany.two {ts = ts} {us = us} i j x y) b h rest s =
      let c = complete_proc x b (omega arith) (sign_at i j sign.Bar ∷ (us ++ rest)) (refl, refl, refl) in
      let k = complete_proc y b (omega arith) rest s in
      record {
        depth = max c.depth k.depth + 1;
        turns = suc b;
        within = omega (arith, c.within, k.within);
        some = omega (arith, c.some);
        enough = omega (arith, c.some);
        reads = rw (append_assoc ts (sign_at i j sign.Bar ∷ us) rest) (two_read (proc m b) b at i j (ts ++ sign_at i j sign.Bar ∷ (us ++ rest)) (us ++ rest) rest _ _ c.reads k.reads);
      }
  comes_many (g.AreMany.more {us = us} i j x y) b h rest s =
      adds_proc us i j (comes_many x b (omega arith) (sign_at i j sign.Bar ∷ (us ++ rest)) (refl, refl, refl)) (complete_proc y b (omega arith) rest s) h
