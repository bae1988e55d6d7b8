-- What is written piece by piece.
use Rattle.std.proofs.Common.{map, Bool, true, false, ◌≡◌, ℕ, List, ◌++◌, sym, ap, ◌∙◌, append_assoc, nat_lt}
use Rattle.std.specs.Prelude.{codes}
use Rattle.text_writer.specs.declared.writer.TextWriter.{TextWriter}
use Rattle.text_writer.specs.Writes.{Writes}
use Rattle.text_writer.proofs.Writing.{then, same}
use Rattle.np_syntax.specs.declared.expression.Op.{Op}
use Rattle.np_syntax.specs.declared.expression.Expr.{Expr}
use Rattle.np_syntax.specs.declared.expression.ExprForm.{ExprForm}
use Rattle.np_syntax.specs.declared.expression.ExprForm as expr
use Rattle.np_syntax.specs.declared.pattern.Pat.{Pat}
use Rattle.np_syntax.specs.declared.pattern.PatForm.{PatForm}
use Rattle.np_syntax.specs.declared.pattern.PatForm as pat
use Rattle.np_syntax.specs.declared.process.Proc.{Proc}
use Rattle.np_syntax.specs.declared.process.ProcForm.{ProcForm}
use Rattle.np_syntax.specs.declared.process.ProcForm as form
use Rattle.np_lex.specs.Tokens.{sign_text}
use Rattle.np_show.specs.Shown.{squared, op_sign, strength, left, right, joined}
use Rattle.np_low_text.specs.LowText.{Sites, binder_text, pat_text, pat_form_text, expr_text, expr_form_text, message_text, proc_text, proc_form_text}
use Rattle.np_show.proofs.Joining.{opened, closed, bracketed_is}
use Rattle.np_low_text.proofs.Equations.{text-tuple, text-tuple_pat, text-bin, text-pack, text-with, text-par, text-agent, text-iflocal, text-if, text-lookup}

pub tuple_pat_steps : (a b : TextWriter) {f : PatForm} (parts : List Pat) {now : List Pat} → f ≡ pat.Tuple parts → now ≡ parts → Writes a b (squared (map pat_text now)) → Writes a b (pat_form_text f)
tuple_pat_steps a b {f} parts {now} ef en w =
    same a b (squared (map pat_text now)) (pat_form_text f) w (ap (λ ps. squared (map pat_text ps)) en ∙ sym (ap pat_form_text ef ∙ text-tuple_pat parts))

module _ (sites : Sites) where
  -- ---- expressions

  pub tuple_steps : (a b : TextWriter) (l : ℕ) {f : ExprForm} (parts : List Expr) {now : List Expr} → f ≡ expr.Tuple parts → now ≡ parts
      → Writes a b (squared (map (expr_text sites 0) now)) → Writes a b (expr_form_text sites l f)
  tuple_steps a b l {f} parts {now} ef en w =
      same a b (squared (map (expr_text sites 0) now)) (expr_form_text sites l f) w
      (ap (λ xs. squared (map (expr_text sites 0) xs)) en ∙ sym (ap (expr_form_text sites l) ef ∙ text-tuple sites l parts))

  bin_written : (l : ℕ) (o : Op) (x y : Expr)
      → opened (nat_lt (strength o) l) ++ (expr_text sites (left o) x ++ ((codes " " ++ sign_text (op_sign o) ++ codes " ") ++ (expr_text sites (right o) y ++ closed (nat_lt (strength o) l))))
      ≡ expr_form_text sites l (expr.Bin o x y)
  bin_written l o x y =
      tidy (opened (nat_lt (strength o) l)) (expr_text sites (left o) x) (codes " ") (sign_text (op_sign o)) (codes " ") (expr_text sites (right o) y) (closed (nat_lt (strength o) l))
      ∙ sym (text-bin sites l o x y ∙ bracketed_is (nat_lt (strength o) l) (joined o (expr_text sites (left o) x) (expr_text sites (right o) y)))
    where
      tidy : (a x m s n y b : List ℕ) → a ++ (x ++ ((m ++ s ++ n) ++ (y ++ b))) ≡ a ++ ((x ++ m ++ s ++ n ++ y) ++ b)
      tidy a x m s n y b = simp append_assoc

  -- the steps of `put_expr` at an operation, with what each callee gave
  pub bin_steps : (l : ℕ) (a b d e g h : TextWriter) {f : ExprForm} {o : Op} (x y : Expr) {s m n : ℕ} → f ≡ expr.Bin o x y → s ≡ strength o → m ≡ left o → n ≡ right o
      → Writes a b (opened (nat_lt s l)) → Writes b d (expr_text sites m x) → Writes d e (codes " " ++ sign_text (op_sign o) ++ codes " ") → Writes e g (expr_text sites n y) → Writes g h (closed (nat_lt s l))
      → Writes a h (expr_form_text sites l f)
  bin_steps l a b d e g h {f} {o} x y {s} {m} {n} ef es em en w1 w2 w3 w4 w5 =
      let round = nat_lt s l in
      let sign = codes " " ++ sign_text (op_sign o) ++ codes " " in
      same a h (opened round ++ (expr_text sites m x ++ (sign ++ (expr_text sites n y ++ closed round)))) (expr_form_text sites l f)
      (then a b h (opened round) (expr_text sites m x ++ (sign ++ (expr_text sites n y ++ closed round))) w1
      (then b d h (expr_text sites m x) (sign ++ (expr_text sites n y ++ closed round)) w2
      (then d e h sign (expr_text sites n y ++ closed round) w3 (then e g h (expr_text sites n y) (closed round) w4 w5))))
      (rw (es, em, en, ef) (bin_written l o x y))

  pub pack_steps : (l : ℕ) (a b d e g h : TextWriter) {f : ExprForm} (c v : Expr) → f ≡ expr.Pack c v → Writes a b (codes "pack(") → Writes b d (expr_text sites 0 c) → Writes d e (codes ", ")
      → Writes e g (expr_text sites 0 v) → Writes g h (codes ")") → Writes a h (expr_form_text sites l f)
  pack_steps l a b d e g h {f} c v ef w1 w2 w3 w4 w5 =
      let x = expr_text sites 0 c in
      let y = expr_text sites 0 v in
      same a h (codes "pack(" ++ (x ++ (codes ", " ++ (y ++ codes ")")))) (expr_form_text sites l f)
      (then a b h (codes "pack(") (x ++ (codes ", " ++ (y ++ codes ")"))) w1 (then b d h x (codes ", " ++ (y ++ codes ")")) w2
      (then d e h (codes ", ") (y ++ codes ")") w3 (then e g h y (codes ")") w4 w5))))
      (tidy (codes "pack(") x (codes ", ") y (codes ")") ∙ sym (ap (expr_form_text sites l) ef ∙ text-pack sites l c v))
    where
      tidy : (p x m y q : List ℕ) → p ++ (x ++ (m ++ (y ++ q))) ≡ p ++ x ++ m ++ y ++ q
      tidy p x m y q = simp append_assoc

  pub with_steps : (l : ℕ) (a b d e g h i j : TextWriter) {f : ExprForm} (m r c : Expr) → f ≡ expr.With m r c → Writes a b (codes "(") → Writes b d (expr_text sites 0 m) → Writes d e (codes " with ")
      → Writes e g (expr_text sites 0 r) → Writes g h (codes " -> ") → Writes h i (expr_text sites 0 c) → Writes i j (codes ")") → Writes a j (expr_form_text sites l f)
  with_steps l a b d e g h i j {f} m r c ef w1 w2 w3 w4 w5 w6 w7 =
      let x = expr_text sites 0 m in
      let y = expr_text sites 0 r in
      let z = expr_text sites 0 c in
      same a j (codes "(" ++ (x ++ (codes " with " ++ (y ++ (codes " -> " ++ (z ++ codes ")")))))) (expr_form_text sites l f)
      (then a b j (codes "(") (x ++ (codes " with " ++ (y ++ (codes " -> " ++ (z ++ codes ")"))))) w1 (then b d j x (codes " with " ++ (y ++ (codes " -> " ++ (z ++ codes ")")))) w2
      (then d e j (codes " with ") (y ++ (codes " -> " ++ (z ++ codes ")"))) w3 (then e g j y (codes " -> " ++ (z ++ codes ")")) w4
      (then g h j (codes " -> ") (z ++ codes ")") w5 (then h i j z (codes ")") w6 w7))))))
      (tidy (codes "(") x (codes " with ") y (codes " -> ") z (codes ")") ∙ sym (ap (expr_form_text sites l) ef ∙ text-with sites l m r c))
    where
      tidy : (p x m y n z q : List ℕ) → p ++ (x ++ (m ++ (y ++ (n ++ (z ++ q))))) ≡ p ++ x ++ m ++ y ++ n ++ z ++ q
      tidy p x m y n z q = simp append_assoc

  -- ---- processes

  par_written : (b : Bool) (p q : Proc) → opened b ++ ((proc_text sites false p ++ codes " | ") ++ (proc_text sites true q ++ closed b)) ≡ proc_form_text sites b (form.Par p q)
  par_written b p q =
      tidy (opened b) (proc_text sites false p) (codes " | ") (proc_text sites true q) (closed b)
      ∙ sym (text-par sites b p q ∙ bracketed_is b (proc_text sites false p ++ codes " | " ++ proc_text sites true q))
    where
      tidy : (a p m q c : List ℕ) → a ++ ((p ++ m) ++ (q ++ c)) ≡ a ++ ((p ++ m ++ q) ++ c)
      tidy a p m q c = simp append_assoc

  pub par_steps : (a b d e g : TextWriter) (bracket : Bool) {f : ProcForm} (p q : Proc) → f ≡ form.Par p q → Writes a b (opened bracket) → Writes b d (proc_text sites false p ++ codes " | ")
      → Writes d e (proc_text sites true q) → Writes e g (closed bracket) → Writes a g (proc_form_text sites bracket f)
  par_steps a b d e g bracket {f} p q ef w1 w2 w3 w4 =
      same a g (opened bracket ++ ((proc_text sites false p ++ codes " | ") ++ (proc_text sites true q ++ closed bracket))) (proc_form_text sites bracket f)
      (then a b g (opened bracket) ((proc_text sites false p ++ codes " | ") ++ (proc_text sites true q ++ closed bracket)) w1
      (then b d g (proc_text sites false p ++ codes " | ") (proc_text sites true q ++ closed bracket) w2 (then d e g (proc_text sites true q) (closed bracket) w3 w4)))
      (par_written bracket p q ∙ sym (ap (proc_form_text sites bracket) ef))

  -- a form of which one function writes the text
  pub one_step : (a b : TextWriter) (bracket : Bool) {f g : ProcForm} (text : List ℕ) → f ≡ g → proc_form_text sites bracket g ≡ text → Writes a b text → Writes a b (proc_form_text sites bracket f)
  one_step a b bracket {f} text ef eg w = same a b text (proc_form_text sites bracket f) w (sym (ap (proc_form_text sites bracket) ef ∙ eg))

  -- a form of which three functions write the text: what stands in front, a part with what stands behind it, and a part
  pub three_steps : (a b d e : TextWriter) (bracket : Bool) {f g : ProcForm} (front part mid last text : List ℕ) → f ≡ g → proc_form_text sites bracket g ≡ text
      → front ++ ((part ++ mid) ++ last) ≡ text → Writes a b front → Writes b d (part ++ mid) → Writes d e last → Writes a e (proc_form_text sites bracket f)
  three_steps a b d e bracket {f} front part mid last text ef eg et w1 w2 w3 =
      same a e (front ++ ((part ++ mid) ++ last)) (proc_form_text sites bracket f)
      (then a b e front ((part ++ mid) ++ last) w1 (then b d e (part ++ mid) last w2 w3)) (et ∙ sym (ap (proc_form_text sites bracket) ef ∙ eg))

  pub agent_steps : (a b d e : TextWriter) (bracket : Bool) {f : ProcForm} (c : ℕ) (p q : Proc) → f ≡ form.Agent c p q → Writes a b (codes "agent " ++ binder_text c ++ codes " = ")
      → Writes b d (proc_text sites true p ++ codes " in ") → Writes d e (proc_text sites true q) → Writes a e (proc_form_text sites bracket f)
  agent_steps a b d e bracket c p q ef w1 w2 w3 =
      three_steps a b d e bracket (codes "agent " ++ binder_text c ++ codes " = ") (proc_text sites true p) (codes " in ") (proc_text sites true q)
      (codes "agent " ++ binder_text c ++ codes " = " ++ proc_text sites true p ++ codes " in " ++ proc_text sites true q) ef (text-agent sites bracket c p q)
      (tidy (codes "agent ") (binder_text c) (codes " = ") (proc_text sites true p) (codes " in ") (proc_text sites true q)) w1 w2 w3
    where
      tidy : (x y z p m q : List ℕ) → (x ++ y ++ z) ++ ((p ++ m) ++ q) ≡ x ++ y ++ z ++ p ++ m ++ q
      tidy x y z p m q = simp append_assoc

  pub iflocal_steps : (a b d e : TextWriter) (bracket : Bool) {f : ProcForm} (x c z : Expr) (p q : Proc) → f ≡ form.IfLocal x c z p q
      → Writes a b (codes "iflocal <" ++ expr_text sites 3 x ++ codes ">" ++ message_text sites c z ++ codes " then ")
      → Writes b d (proc_text sites true p ++ codes " else ") → Writes d e (proc_text sites true q) → Writes a e (proc_form_text sites bracket f)
  iflocal_steps a b d e bracket x c z p q ef w1 w2 w3 =
      three_steps a b d e bracket (codes "iflocal <" ++ expr_text sites 3 x ++ codes ">" ++ message_text sites c z ++ codes " then ") (proc_text sites true p) (codes " else ") (proc_text sites true q)
      (codes "iflocal <" ++ expr_text sites 3 x ++ codes ">" ++ message_text sites c z ++ codes " then " ++ proc_text sites true p ++ codes " else " ++ proc_text sites true q) ef
      (text-iflocal sites bracket x c z p q)
      (tidy (codes "iflocal <") (expr_text sites 3 x) (codes ">") (message_text sites c z) (codes " then ") (proc_text sites true p) (codes " else ") (proc_text sites true q)) w1 w2 w3
    where
      tidy : (x y z u v p m q : List ℕ) → (x ++ y ++ z ++ u ++ v) ++ ((p ++ m) ++ q) ≡ x ++ y ++ z ++ u ++ v ++ p ++ m ++ q
      tidy x y z u v p m q = simp append_assoc

  pub if_steps : (a b d e : TextWriter) (bracket : Bool) {f : ProcForm} (x : Expr) (p q : Proc) → f ≡ form.If x p q → Writes a b (codes "if " ++ expr_text sites 0 x ++ codes " then ")
      → Writes b d (proc_text sites true p ++ codes " else ") → Writes d e (proc_text sites true q) → Writes a e (proc_form_text sites bracket f)
  if_steps a b d e bracket x p q ef w1 w2 w3 =
      three_steps a b d e bracket (codes "if " ++ expr_text sites 0 x ++ codes " then ") (proc_text sites true p) (codes " else ") (proc_text sites true q)
      (codes "if " ++ expr_text sites 0 x ++ codes " then " ++ proc_text sites true p ++ codes " else " ++ proc_text sites true q) ef (text-if sites bracket x p q)
      (tidy (codes "if ") (expr_text sites 0 x) (codes " then ") (proc_text sites true p) (codes " else ") (proc_text sites true q)) w1 w2 w3
    where
      tidy : (x y z p m q : List ℕ) → (x ++ y ++ z) ++ ((p ++ m) ++ q) ≡ x ++ y ++ z ++ p ++ m ++ q
      tidy x y z p m q = simp append_assoc

  pub lookup_steps : (a b d e : TextWriter) (bracket : Bool) {f : ProcForm} (x m : Expr) (c : ℕ) (p q : Proc) → f ≡ form.Lookup x m c p q
      → Writes a b (codes "lookup " ++ expr_text sites 0 x ++ codes " in " ++ expr_text sites 0 m ++ codes " then " ++ binder_text c ++ codes " -> ")
      → Writes b d (proc_text sites true p ++ codes " else ") → Writes d e (proc_text sites true q) → Writes a e (proc_form_text sites bracket f)
  lookup_steps a b d e bracket x m c p q ef w1 w2 w3 =
      three_steps a b d e bracket (codes "lookup " ++ expr_text sites 0 x ++ codes " in " ++ expr_text sites 0 m ++ codes " then " ++ binder_text c ++ codes " -> ") (proc_text sites true p) (codes " else ") (proc_text sites true q)
      (codes "lookup " ++ expr_text sites 0 x ++ codes " in " ++ expr_text sites 0 m ++ codes " then " ++ binder_text c ++ codes " -> " ++ proc_text sites true p ++ codes " else " ++ proc_text sites true q) ef
      (text-lookup sites bracket x m c p q)
      (tidy (codes "lookup ") (expr_text sites 0 x) (codes " in ") (expr_text sites 0 m) (codes " then ") (binder_text c) (codes " -> ") (proc_text sites true p) (codes " else ") (proc_text sites true q)) w1 w2 w3
    where
      tidy : (x y z u v w t p m q : List ℕ) → (x ++ y ++ z ++ u ++ v ++ w ++ t) ++ ((p ++ m) ++ q) ≡ x ++ y ++ z ++ u ++ v ++ w ++ t ++ p ++ m ++ q
      tidy x y z u v w t p m q = simp append_assoc
