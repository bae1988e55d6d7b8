-- The canonical text of a process is read as the process, but for offsets.
use Rattle.std.proofs.Common.{◌≡◌, ℕ, suc, ◌+◌, ◌⊎◌, inl, inr, Bool, true, false, List, [], ◌∷◌, ◌++◌, length, refl, sym, ap, ◌∙◌, append_assoc}
use Rattle.std.specs.Prelude.{codes}
use Rattle.np_lex.specs.declared.token.Key.TheVariants as key
use Rattle.np_lex.specs.declared.token.Sign.TheVariants as sign
use Rattle.np_lex.specs.declared.token.Token.{Token}
use Rattle.np_lex.specs.declared.token.What.TheVariants as what
use Rattle.np_lex.specs.Tokens.{IsLegal, sign_at, word_at, name_at}
use Rattle.np_lex.proofs.Goes.{Goes, Soft, then, blank, spaced, sign_goes, key_goes, ident_goes, nought_goes}
use Rattle.np_tree.specs.declared.tree.RawExpr.{RawExpr}
use Rattle.np_tree.specs.declared.tree.RawProc.{RawProc}
use Rattle.np_tree.specs.declared.tree.RawProcForm as form
use Rattle.np_tree.specs.Grammar as g
use Rattle.np_tree.specs.Grammar.{ident, process, IsExpr, IsProc, AreMany}
use Rattle.np_tree.specs.Erased.{erased_expr, erased_proc}
use Rattle.np_tree.proofs.Erases.{erased-par, erased-new, erased-inp, erased-rep, erased-agent, erased-migrate, erased-iflocal, erased-if, erased-let}
use Rattle.np_show.specs.Shown.{type_text, pat_text, expr_text, message_text, proc_text}
use Rattle.np_show.proofs.Equations.{text-par, text-new, text-inp, text-rep, text-agent, text-migrate, text-iflocal, text-if, text-let}
use Rattle.np_show.proofs.Canon.{IsCanon}
use Rattle.np_show.proofs.CanonProc.{IsCanonProc, stop, par, channel, output, input, replicated, agent, migrate, iflocal, send, post, test, bind, print}
use Rattle.np_show.proofs.ReadTypes.{from, chan_reads}
use Rattle.np_show.proofs.ReadPats.{pat_reads}
use Rattle.np_show.proofs.ReadExprs.{reads}

-- pieces of a text, and what is left behind them
three : (a b c rest : List ℕ) → (a ++ b ++ c) ++ rest ≡ a ++ (b ++ (c ++ rest))
three a b c rest = simp append_assoc

four : (a b c d rest : List ℕ) → (a ++ b ++ c ++ d) ++ rest ≡ a ++ (b ++ (c ++ (d ++ rest)))
four a b c d rest = simp append_assoc

five : (a b c d e rest : List ℕ) → (a ++ b ++ c ++ d ++ e) ++ rest ≡ a ++ (b ++ (c ++ (d ++ (e ++ rest))))
five a b c d e rest = simp append_assoc

six : (a b c d e f rest : List ℕ) → (a ++ b ++ c ++ d ++ e ++ f) ++ rest ≡ a ++ (b ++ (c ++ (d ++ (e ++ (f ++ rest)))))
six a b c d e f rest = simp append_assoc

eight : (a b c d e f p q rest : List ℕ) → (a ++ b ++ c ++ d ++ e ++ f ++ p ++ q) ++ rest ≡ a ++ (b ++ (c ++ (d ++ (e ++ (f ++ (p ++ (q ++ rest)))))))
eight a b c d e f p q rest = simp append_assoc

-- ---- `c!e`

record MessageAs (limit at : ℕ) (bytes rest : List ℕ) (c : List ℕ) (x : RawExpr) : Type 0 where
  pub end : ℕ
  pub ts : List Token
  pub tree : RawExpr
  pub goes : Goes at bytes (name_at at (at + length c) c ∷ sign_at (at + length c) (at + length c + 1) sign.Bang ∷ ts) end rest
  pub has : IsExpr limit ts tree
  pub same : erased_expr tree ≡ erased_expr x

message_reads : {limit : ℕ} {c : List ℕ} {x : RawExpr} → IsLegal (what.Ident c) → IsCanon 0 limit x → (i at : ℕ) (rest : List ℕ) → Soft rest
    → MessageAs limit at (message_text (ident i c) x ++ rest) rest c x
message_reads {c = c} {x = x} h a i at rest soft =
    let r = reads a (at + length c + 1) rest soft in
    record {
      end = r.end;
      ts = r.ts;
      tree = r.tree;
      goes = from (three c (codes "!") (expr_text 0 x) rest) (then (ident_goes h at _ refl) (then (sign_goes sign.Bang tt _ _) r.goes));
      has = r.has;
      same = r.same;
    }

-- ---- processes

-- a process that is read alone, or in the bracket that stands there
abbrev pub Made : Bool → ℕ → ℕ → ℕ → List Token → RawProc → Type 0
Made true limit d open_at ts x = IsProc limit d ts x
Made false limit d open_at ts x = AreMany limit open_at d ts x ⊎ IsProc limit d ts x

pub record ProcAs (alone : Bool) (limit d open_at at : ℕ) (bytes rest : List ℕ) (x : RawProc) : Type 0 where
  pub end : ℕ
  pub ts : List Token
  pub tree : RawProc
  pub goes : Goes at bytes ts end rest
  pub has : Made alone limit d open_at ts tree
  pub same : erased_proc tree ≡ erased_proc x

-- the same for what stands in a bracket
record ManyAs (limit d open_at at : ℕ) (bytes rest : List ℕ) (x : RawProc) : Type 0 where
  pub end : ℕ
  pub ts : List Token
  pub tree : RawProc
  pub goes : Goes at bytes ts end rest
  pub has : AreMany limit open_at d ts tree
  pub same : erased_proc tree ≡ erased_proc x

made : (alone : Bool) (limit d open_at : ℕ) (ts : List Token) (x : RawProc) → IsProc limit d ts x → Made alone limit d open_at ts x
made true limit d open_at ts x h = h
made false limit d open_at ts x h = inr h

many : (limit d open_at a b : ℕ) (ts us : List Token) (x y : RawProc) → Made false limit d open_at ts x → IsProc limit d us y
    → AreMany limit open_at (suc d) (ts ++ sign_at a b sign.Bar ∷ us) (process open_at (form.Par x y))
many limit d open_at a b ts us x y (inl h) k = g.more a b h k
many limit d open_at a b ts us x y (inr h) k = g.two a b h k

many_text : (at : ℕ) (x y : RawProc) (rest : List ℕ) → proc_text false (process at (form.Par x y)) ++ rest ≡ proc_text false x ++ (codes " | " ++ (proc_text true y ++ rest))
many_text at x y rest = ap (λ t. t ++ rest) (text-par false x y) ∙ three (proc_text false x) (codes " | ") (proc_text true y) rest

par_text : (at : ℕ) (x y : RawProc) (rest : List ℕ) → proc_text true (process at (form.Par x y)) ++ rest ≡ 40 ∷ (proc_text false x ++ (codes " | " ++ (proc_text true y ++ 41 ∷ rest)))
par_text at x y rest = ap (λ t. t ++ rest) (text-par true x y)
    ∙ ap (λ t. 40 ∷ t) (append_assoc (proc_text false x ++ codes " | " ++ proc_text true y) (41 ∷ []) rest ∙ three (proc_text false x) (codes " | ") (proc_text true y) (41 ∷ rest))

both : {limit d open_at at : ℕ} (rest : List ℕ) (x y : RawProc)
    (r : ProcAs false limit d open_at at (proc_text false x ++ (codes " | " ++ (proc_text true y ++ rest))) (codes " | " ++ (proc_text true y ++ rest)) x)
    → ProcAs true limit d 0 (r.end + 1 + 1 + 1) (proc_text true y ++ rest) rest y
    → ManyAs limit (suc d) open_at at (proc_text false x ++ (codes " | " ++ (proc_text true y ++ rest))) rest (process 0 (form.Par x y))
both {limit = limit} {open_at = open_at} rest x y r q = record {
  end = q.end;
  ts = r.ts ++ sign_at (r.end + 1) (r.end + 1 + 1) sign.Bar ∷ q.ts;
  tree = process open_at (form.Par r.tree q.tree);
  goes = then r.goes (then (blank r.end _) (then (sign_goes sign.Bar tt (r.end + 1) _) (then (blank _ _) q.goes)));
  has = many limit _ open_at _ _ r.ts q.ts r.tree q.tree r.has q.has;
  same = ap (process 0) (erased-par r.tree q.tree ∙ (λ k. form.Par (r.same k) (q.same k)) ∙ sym (erased-par x y));
}

pub proc_reads : {limit d : ℕ} {x : RawProc} (alone : Bool) → IsCanonProc limit d x → (open_at at : ℕ) (rest : List ℕ) → Soft rest
    → ProcAs alone limit d open_at at (proc_text alone x ++ rest) rest x
proc_reads {limit = limit} alone stop open_at at rest soft =
    record { end = _; ts = _; tree = process at form.Stop; goes = nought_goes at rest; has = made alone limit _ open_at _ _ g.stop; same = refl }
proc_reads {limit = limit} false (par {at = i} {x = x} {y = y} a b) open_at at rest soft =
    let r = proc_reads false a open_at at (codes " | " ++ (proc_text true y ++ rest)) refl in
    let q = both rest x y r (proc_reads true b 0 (r.end + 1 + 1 + 1) rest soft) in
    record { end = q.end; ts = q.ts; tree = q.tree; goes = from (many_text i x y rest) q.goes; has = inl q.has; same = q.same }
proc_reads {limit = limit} true (par {at = i} {x = x} {y = y} a b) open_at at rest soft =
    let r = proc_reads false a at (at + 1) (codes " | " ++ (proc_text true y ++ 41 ∷ rest)) refl in
    let m = both (41 ∷ rest) x y r (proc_reads true b 0 (r.end + 1 + 1 + 1) (41 ∷ rest) refl) in
    record {
      end = m.end + 1;
      ts = sign_at at (at + 1) sign.RoundOpen ∷ (m.ts ++ sign_at m.end (m.end + 1) sign.RoundClose ∷ []);
      tree = m.tree;
      goes = from (par_text i x y rest) (then (sign_goes sign.RoundOpen tt at _) (then m.goes (sign_goes sign.RoundClose tt m.end rest)));
      has = g.bracket _ _ m.has;
      same = m.same;
    }
proc_reads {limit = limit} alone (channel {i = i} {c = c} {t = t} {x = x} h k a) open_at at rest soft =
    let m = at + 3 + 1 in
    let r = chan_reads k (m + length c + 1 + 1 + 1) (codes " in " ++ (proc_text true x ++ rest)) refl in
    let q = proc_reads true a 0 (r.end + 1 + 2 + 1) rest soft in
    record {
      end = q.end;
      ts = word_at at (at + 3) key.New ∷ name_at m (m + length c) c ∷ sign_at (m + length c + 1) (m + length c + 1 + 1) sign.Colon ∷ (r.ts ++ word_at (r.end + 1) (r.end + 1 + 2) key.In ∷ q.ts);
      tree = process at (form.New (ident m c) t q.tree);
      goes = from (ap (λ l. l ++ rest) (text-new alone (ident i c) t x) ∙ six (codes "new ") c (codes " : ") (type_text t) (codes " in ") (proc_text true x) rest)
          (then (key_goes key.New at _ refl) (then (blank _ _) (then (ident_goes h m _ refl) (then (blank _ _) (then (sign_goes sign.Colon tt _ _) (then (blank _ _)
          (then r.goes (then (blank _ _) (then (key_goes key.In _ _ refl) (then (blank _ _) q.goes))))))))));
      has = made alone limit _ open_at _ _ (g.channel _ _ r.has q.has);
      same = ap (process 0) (erased-new (ident m c) t q.tree ∙ ap (form.New (ident 0 c) t) q.same ∙ sym (erased-new (ident i c) t x));
    }
proc_reads {limit = limit} alone (output {i = i} {c = c} h a) open_at at rest soft =
    let m = message_reads h a i at rest soft in
    record {
      end = m.end;
      ts = _;
      tree = process at (form.Out (ident at c) m.tree);
      goes = m.goes;
      has = made alone limit _ open_at _ _ (g.output m.has);
      same = ap (λ y. process 0 (form.Out (ident 0 c) y)) m.same;
    }
proc_reads {limit = limit} alone (input {i = i} {c = c} {p = p} {x = x} h k a) open_at at rest soft =
    let m = at + length c in
    let r = pat_reads k (m + 1) (codes " -> " ++ (proc_text true x ++ rest)) refl in
    let q = proc_reads true a 0 (r.end + 1 + 2 + 1) rest soft in
    record {
      end = q.end;
      ts = name_at at m c ∷ sign_at m (m + 1) sign.Query ∷ (r.ts ++ sign_at (r.end + 1) (r.end + 1 + 2) sign.Arrow ∷ q.ts);
      tree = process at (form.Inp (ident at c) r.tree q.tree);
      goes = from (ap (λ l. l ++ rest) (text-inp alone (ident i c) p x) ∙ five c (codes "?") (pat_text p) (codes " -> ") (proc_text true x) rest)
          (then (ident_goes h at _ refl) (then (sign_goes sign.Query tt _ _) (then r.goes (then (blank _ _) (then (sign_goes sign.Arrow tt _ _) (then (blank _ _) q.goes))))));
      has = made alone limit _ open_at _ _ (g.input _ _ r.has q.has);
      same = ap (process 0) (erased-inp (ident at c) r.tree q.tree ∙ (λ k. form.Inp (ident 0 c) (r.same k) (q.same k)) ∙ sym (erased-inp (ident i c) p x));
    }
proc_reads {limit = limit} alone (replicated {i = i} {c = c} {p = p} {x = x} h k a) open_at at rest soft =
    let m = at + 1 + length c in
    let r = pat_reads k (m + 1) (codes " -> " ++ (proc_text true x ++ rest)) refl in
    let q = proc_reads true a 0 (r.end + 1 + 2 + 1) rest soft in
    record {
      end = q.end;
      ts = sign_at at (at + 1) sign.Star ∷ name_at (at + 1) m c ∷ sign_at m (m + 1) sign.Query ∷ (r.ts ++ sign_at (r.end + 1) (r.end + 1 + 2) sign.Arrow ∷ q.ts);
      tree = process at (form.Rep (ident (at + 1) c) r.tree q.tree);
      goes = from (ap (λ l. l ++ rest) (text-rep alone (ident i c) p x) ∙ six (codes "*") c (codes "?") (pat_text p) (codes " -> ") (proc_text true x) rest)
          (then (sign_goes sign.Star tt at _) (then (ident_goes h (at + 1) _ refl) (then (sign_goes sign.Query tt _ _) (then r.goes (then (blank _ _) (then (sign_goes sign.Arrow tt _ _) (then (blank _ _) q.goes)))))));
      has = made alone limit _ open_at _ _ (g.replicated _ _ r.has q.has);
      same = ap (process 0) (erased-rep (ident (at + 1) c) r.tree q.tree ∙ (λ k. form.Rep (ident 0 c) (r.same k) (q.same k)) ∙ sym (erased-rep (ident i c) p x));
    }
proc_reads {limit = limit} alone (agent {i = i} {c = c} {x = x} {y = y} h a b) open_at at rest soft =
    let m = at + 5 + 1 in
    let r = proc_reads true a 0 (m + length c + 1 + 1 + 1) (codes " in " ++ (proc_text true y ++ rest)) refl in
    let q = proc_reads true b 0 (r.end + 1 + 2 + 1) rest soft in
    record {
      end = q.end;
      ts = word_at at (at + 5) key.AgentWord ∷ name_at m (m + length c) c ∷ sign_at (m + length c + 1) (m + length c + 1 + 1) sign.Equals ∷ (r.ts ++ word_at (r.end + 1) (r.end + 1 + 2) key.In ∷ q.ts);
      tree = process at (form.Agent (ident m c) r.tree q.tree);
      goes = from (ap (λ l. l ++ rest) (text-agent alone (ident i c) x y) ∙ six (codes "agent ") c (codes " = ") (proc_text true x) (codes " in ") (proc_text true y) rest)
          (then (key_goes key.AgentWord at _ refl) (then (blank _ _) (then (ident_goes h m _ refl) (then (blank _ _) (then (spaced sign.Equals _ _) (then (blank _ _)
          (then r.goes (then (blank _ _) (then (key_goes key.In _ _ refl) (then (blank _ _) q.goes))))))))));
      has = made alone limit _ open_at _ _ (g.agent _ _ r.has q.has);
      same = ap (process 0) (erased-agent (ident m c) r.tree q.tree ∙ (λ k. form.Agent (ident 0 c) (r.same k) (q.same k)) ∙ sym (erased-agent (ident i c) x y));
    }
proc_reads {limit = limit} alone (migrate {x = x} {y = y} a b) open_at at rest soft =
    let m = at + 7 + 1 in
    let r = reads a (m + 2 + 1) (codes " -> " ++ (proc_text true y ++ rest)) refl in
    let q = proc_reads true b 0 (r.end + 1 + 2 + 1) rest soft in
    record {
      end = q.end;
      ts = word_at at (at + 7) key.Migrate ∷ word_at m (m + 2) key.To ∷ (r.ts ++ sign_at (r.end + 1) (r.end + 1 + 2) sign.Arrow ∷ q.ts);
      tree = process at (form.Migrate r.tree q.tree);
      goes = from (ap (λ l. l ++ rest) (text-migrate alone x y) ∙ four (codes "migrate to ") (expr_text 0 x) (codes " -> ") (proc_text true y) rest)
          (then (key_goes key.Migrate at _ refl) (then (blank _ _) (then (key_goes key.To m _ refl) (then (blank _ _)
          (then r.goes (then (blank _ _) (then (sign_goes sign.Arrow tt _ _) (then (blank _ _) q.goes))))))));
      has = made alone limit _ open_at _ _ (g.migrate _ _ r.has q.has);
      same = ap (process 0) (erased-migrate r.tree q.tree ∙ (λ k. form.Migrate (r.same k) (q.same k)) ∙ sym (erased-migrate x y));
    }
proc_reads {limit = limit} alone (iflocal {i = i} {c = c} {x = x} {z = z} {p = p} {q = q} ax h az ap_ aq) open_at at rest soft =
    let last = codes " else " ++ (proc_text true q ++ rest) in
    let branches = codes " then " ++ (proc_text true p ++ last) in
    let r = reads ax (at + 7 + 1 + 1) (codes ">" ++ (message_text (ident i c) z ++ branches)) refl in
    let m = message_reads h az i (r.end + 1) branches refl in
    let u = proc_reads true ap_ 0 (m.end + 1 + 4 + 1) last refl in
    let v = proc_reads true aq 0 (u.end + 1 + 4 + 1) rest soft in
    let n = r.end + 1 in
    record {
      end = v.end;
      ts = word_at at (at + 7) key.IfLocal ∷ sign_at (at + 7 + 1) (at + 7 + 1 + 1) sign.Less ∷ (r.ts ++ sign_at r.end n sign.Greater ∷ name_at n (n + length c) c
          ∷ sign_at (n + length c) (n + length c + 1) sign.Bang ∷ (m.ts ++ word_at (m.end + 1) (m.end + 1 + 4) key.Then ∷ (u.ts ++ word_at (u.end + 1) (u.end + 1 + 4) key.Else ∷ v.ts)));
      tree = process at (form.IfLocal r.tree (ident n c) m.tree u.tree v.tree);
      goes = from (ap (λ l. l ++ rest) (text-iflocal alone x (ident i c) z p q)
          ∙ eight (codes "iflocal <") (expr_text 3 x) (codes ">") (message_text (ident i c) z) (codes " then ") (proc_text true p) (codes " else ") (proc_text true q) rest)
          (then (key_goes key.IfLocal at _ refl) (then (blank _ _) (then (sign_goes sign.Less tt _ _) (then r.goes (then (sign_goes sign.Greater tt _ _) (then m.goes (then (blank _ _)
          (then (key_goes key.Then _ _ refl) (then (blank _ _) (then u.goes (then (blank _ _) (then (key_goes key.Else _ _ refl) (then (blank _ _) v.goes)))))))))))));
      has = made alone limit _ open_at _ _ (g.iflocal _ _ _ _ _ _ _ _ _ _ r.has m.has u.has v.has);
      same = ap (process 0) (erased-iflocal r.tree (ident n c) m.tree u.tree v.tree ∙ (λ k. form.IfLocal (r.same k) (ident 0 c) (m.same k) (u.same k) (v.same k))
          ∙ sym (erased-iflocal x (ident i c) z p q));
    }
proc_reads {limit = limit} alone (send {i = i} {c = c} {x = x} {y = y} {z = z} ax ay h az) open_at at rest soft =
    let behind = codes ">" ++ (message_text (ident i c) z ++ rest) in
    let r = reads ax (at + 1) (codes "@" ++ (expr_text 3 y ++ behind)) refl in
    let q = reads ay (r.end + 1) behind refl in
    let m = message_reads h az i (q.end + 1) rest soft in
    let n = q.end + 1 in
    record {
      end = m.end;
      ts = sign_at at (at + 1) sign.Less ∷ (r.ts ++ sign_at r.end (r.end + 1) sign.At ∷ (q.ts ++ sign_at q.end n sign.Greater ∷ name_at n (n + length c) c
          ∷ sign_at (n + length c) (n + length c + 1) sign.Bang ∷ m.ts));
      tree = process at (form.Send r.tree q.tree (ident n c) m.tree);
      goes = from (six (codes "<") (expr_text 3 x) (codes "@") (expr_text 3 y) (codes ">") (message_text (ident i c) z) rest)
          (then (sign_goes sign.Less tt at _) (then r.goes (then (sign_goes sign.At tt _ _) (then q.goes (then (sign_goes sign.Greater tt _ _) m.goes)))));
      has = made alone limit _ open_at _ _ (g.send _ _ _ _ _ _ _ _ r.has q.has m.has);
      same = (λ k. process 0 (form.Send (r.same k) (q.same k) (ident 0 c) (m.same k)));
    }
proc_reads {limit = limit} alone (post {i = i} {c = c} {x = x} {z = z} ax h az) open_at at rest soft =
    let r = reads ax (at + 1) (codes "@?>" ++ (message_text (ident i c) z ++ rest)) refl in
    let n = r.end + 1 + 1 + 1 in
    let m = message_reads h az i n rest soft in
    record {
      end = m.end;
      ts = sign_at at (at + 1) sign.Less ∷ (r.ts ++ sign_at r.end (r.end + 1) sign.At ∷ sign_at (r.end + 1) (r.end + 1 + 1) sign.Query ∷ sign_at (r.end + 1 + 1) n sign.Greater
          ∷ name_at n (n + length c) c ∷ sign_at (n + length c) (n + length c + 1) sign.Bang ∷ m.ts);
      tree = process at (form.Post r.tree (ident n c) m.tree);
      goes = from (four (codes "<") (expr_text 3 x) (codes "@?>") (message_text (ident i c) z) rest)
          (then (sign_goes sign.Less tt at _) (then r.goes (then (sign_goes sign.At tt _ _) (then (sign_goes sign.Query tt _ _) (then (sign_goes sign.Greater tt _ _) m.goes)))));
      has = made alone limit _ open_at _ _ (g.post _ _ _ _ _ _ _ _ _ _ r.has m.has);
      same = (λ k. process 0 (form.Post (r.same k) (ident 0 c) (m.same k)));
    }
proc_reads {limit = limit} alone (test {x = x} {p = p} {q = q} a b c) open_at at rest soft =
    let last = codes " else " ++ (proc_text true q ++ rest) in
    let r = reads a (at + 2 + 1) (codes " then " ++ (proc_text true p ++ last)) refl in
    let u = proc_reads true b 0 (r.end + 1 + 4 + 1) last refl in
    let v = proc_reads true c 0 (u.end + 1 + 4 + 1) rest soft in
    record {
      end = v.end;
      ts = word_at at (at + 2) key.If ∷ (r.ts ++ word_at (r.end + 1) (r.end + 1 + 4) key.Then ∷ (u.ts ++ word_at (u.end + 1) (u.end + 1 + 4) key.Else ∷ v.ts));
      tree = process at (form.If r.tree u.tree v.tree);
      goes = from (ap (λ l. l ++ rest) (text-if alone x p q) ∙ six (codes "if ") (expr_text 0 x) (codes " then ") (proc_text true p) (codes " else ") (proc_text true q) rest)
          (then (key_goes key.If at _ refl) (then (blank _ _) (then r.goes (then (blank _ _) (then (key_goes key.Then _ _ refl) (then (blank _ _)
          (then u.goes (then (blank _ _) (then (key_goes key.Else _ _ refl) (then (blank _ _) v.goes))))))))));
      has = made alone limit _ open_at _ _ (g.test _ _ _ _ r.has u.has v.has);
      same = ap (process 0) (erased-if r.tree u.tree v.tree ∙ (λ k. form.If (r.same k) (u.same k) (v.same k)) ∙ sym (erased-if x p q));
    }
proc_reads {limit = limit} alone (bind {p = p} {x = x} {y = y} k a b) open_at at rest soft =
    let last = codes " in " ++ (proc_text true y ++ rest) in
    let r = pat_reads k (at + 3 + 1) (codes " = " ++ (expr_text 0 x ++ last)) refl in
    let u = reads a (r.end + 1 + 1 + 1) last refl in
    let v = proc_reads true b 0 (u.end + 1 + 2 + 1) rest soft in
    record {
      end = v.end;
      ts = word_at at (at + 3) key.Let ∷ (r.ts ++ sign_at (r.end + 1) (r.end + 1 + 1) sign.Equals ∷ (u.ts ++ word_at (u.end + 1) (u.end + 1 + 2) key.In ∷ v.ts));
      tree = process at (form.Let r.tree u.tree v.tree);
      goes = from (ap (λ l. l ++ rest) (text-let alone p x y) ∙ six (codes "let ") (pat_text p) (codes " = ") (expr_text 0 x) (codes " in ") (proc_text true y) rest)
          (then (key_goes key.Let at _ refl) (then (blank _ _) (then r.goes (then (blank _ _) (then (spaced sign.Equals _ _) (then (blank _ _)
          (then u.goes (then (blank _ _) (then (key_goes key.In _ _ refl) (then (blank _ _) v.goes))))))))));
      has = made alone limit _ open_at _ _ (g.bind _ _ _ _ r.has u.has v.has);
      same = ap (process 0) (erased-let r.tree u.tree v.tree ∙ (λ k. form.Let (r.same k) (u.same k) (v.same k)) ∙ sym (erased-let p x y));
    }
proc_reads {limit = limit} alone (print {x = x} a) open_at at rest soft =
    let r = reads a (at + 5 + 1) rest soft in
    record {
      end = r.end;
      ts = word_at at (at + 5) key.Print ∷ r.ts;
      tree = process at (form.Print r.tree);
      goes = then (key_goes key.Print at _ refl) (then (blank _ _) r.goes);
      has = made alone limit _ open_at _ _ (g.print r.has);
      same = ap (λ y. process 0 (form.Print y)) r.same;
    }
