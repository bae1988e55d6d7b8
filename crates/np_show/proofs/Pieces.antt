-- What is written piece by piece.
use Rattle.std.proofs.Common.{map, Bool, true, false, ◌≡◌, ℕ, List, ◌++◌, sym, ap, ◌∙◌, append_assoc, nat_lt}
use Rattle.text_writer.specs.declared.writer.TextWriter.{TextWriter}
use Rattle.text_writer.specs.Writes.{Writes}
use Rattle.text_writer.proofs.Writing.{then, same}
use Rattle.std.specs.Prelude.{codes}
use Rattle.np_syntax.specs.declared.expression.Op.{Op}
use Rattle.np_syntax.specs.declared.types.Cap.{Cap}
use Rattle.np_syntax.specs.declared.types.Ty.{Ty}
use Rattle.np_syntax.specs.declared.types.Ty as ty
use Rattle.np_lex.specs.Tokens.{sign_text}
use Rattle.np_tree.specs.declared.tree.Ident.{Ident}
use Rattle.np_tree.specs.declared.tree.RawExpr.{RawExpr}
use Rattle.np_tree.specs.declared.tree.RawExprForm.{RawExprForm}
use Rattle.np_tree.specs.declared.tree.RawExprForm as expr
use Rattle.np_tree.specs.declared.tree.RawPat.{RawPat}
use Rattle.np_tree.specs.declared.tree.RawPatForm.{RawPatForm}
use Rattle.np_tree.specs.declared.tree.RawPatForm as pat
use Rattle.np_tree.specs.declared.tree.RawProc.{RawProc}
use Rattle.np_tree.specs.declared.tree.RawProcForm.{RawProcForm}
use Rattle.np_tree.specs.declared.tree.RawProcForm as form
use Rattle.np_tree.specs.Grammar.{cap_sign}
use Rattle.np_show.specs.Shown.{squared, type_text, pat_text, pat_form_text, op_sign, strength, left, right, joined, expr_text, expr_form_text, message_text, proc_text, proc_form_text}
use Rattle.np_show.proofs.Joining.{opened, closed, bracketed_is}
use Rattle.np_show.proofs.Equations.{text-chan, text-tuple_type, text-tuple_pat, text-tuple, text-bin, text-par, text-agent, text-iflocal, text-if}

-- ---- types and expressions

pub chan_steps : (a b d : TextWriter) {t : Ty} (c : Cap) (carried : Ty) {now : Ty} → t ≡ ty.Chan c carried → now ≡ carried
    → Writes a b (sign_text (cap_sign c)) → Writes b d (type_text now) → Writes a d (type_text t)
chan_steps a b d {t} c carried {now} et en f g =
    same a d (sign_text (cap_sign c) ++ type_text now) (type_text t) (then a b d (sign_text (cap_sign c)) (type_text now) f g)
    (ap (λ x. sign_text (cap_sign c) ++ type_text x) en ∙ sym (ap type_text et ∙ text-chan c carried))

pub tuple_type_steps : (a b : TextWriter) {t : Ty} (parts : List Ty) {now : List Ty} → t ≡ ty.Tuple parts → now ≡ parts → Writes a b (squared (map type_text now)) → Writes a b (type_text t)
tuple_type_steps a b {t} parts {now} et en f =
    same a b (squared (map type_text now)) (type_text t) f (ap (λ ts. squared (map type_text ts)) en ∙ sym (ap type_text et ∙ text-tuple_type parts))

pub tuple_pat_steps : (a b : TextWriter) {f : RawPatForm} (parts : List RawPat) {now : List RawPat} → f ≡ pat.Tuple parts → now ≡ parts → Writes a b (squared (map pat_text now)) → Writes a b (pat_form_text f)
tuple_pat_steps a b {f} parts {now} ef en w =
    same a b (squared (map pat_text now)) (pat_form_text f) w (ap (λ ps. squared (map pat_text ps)) en ∙ sym (ap pat_form_text ef ∙ text-tuple_pat parts))

pub tuple_steps : (a b : TextWriter) (l : ℕ) {f : RawExprForm} (parts : List RawExpr) {now : List RawExpr} → f ≡ expr.Tuple parts → now ≡ parts
    → Writes a b (squared (map (expr_text 0) now)) → Writes a b (expr_form_text l f)
tuple_steps a b l {f} parts {now} ef en w =
    same a b (squared (map (expr_text 0) now)) (expr_form_text l f) w (ap (λ xs. squared (map (expr_text 0) xs)) en ∙ sym (ap (expr_form_text l) ef ∙ text-tuple l parts))

bin_written : (l : ℕ) (o : Op) (x y : RawExpr)
    → opened (nat_lt (strength o) l) ++ (expr_text (left o) x ++ ((codes " " ++ sign_text (op_sign o) ++ codes " ") ++ (expr_text (right o) y ++ closed (nat_lt (strength o) l))))
    ≡ expr_form_text l (expr.Bin o x y)
bin_written l o x y =
    tidy (opened (nat_lt (strength o) l)) (expr_text (left o) x) (codes " ") (sign_text (op_sign o)) (codes " ") (expr_text (right o) y) (closed (nat_lt (strength o) l))
    ∙ sym (text-bin l o x y ∙ bracketed_is (nat_lt (strength o) l) (joined o (expr_text (left o) x) (expr_text (right o) y)))
  where
    tidy : (a x m s n y b : List ℕ) → a ++ (x ++ ((m ++ s ++ n) ++ (y ++ b))) ≡ a ++ ((x ++ m ++ s ++ n ++ y) ++ b)
    tidy a x m s n y b = simp append_assoc

-- the steps of `put_expr` at an operation, with what each callee gave
pub bin_steps : (l : ℕ) (a b d e g : TextWriter) (h : TextWriter) {f : RawExprForm} {o : Op} (x y : RawExpr) {s m n : ℕ} → f ≡ expr.Bin o x y → s ≡ strength o → m ≡ left o → n ≡ right o
    → Writes a b (opened (nat_lt s l)) → Writes b d (expr_text m x) → Writes d e (codes " " ++ sign_text (op_sign o) ++ codes " ") → Writes e g (expr_text n y) → Writes g h (closed (nat_lt s l))
    → Writes a h (expr_form_text l f)
bin_steps l a b d e g h {f} {o} x y {s} {m} {n} ef es em en w1 w2 w3 w4 w5 =
    let round = nat_lt s l in
    let sign = codes " " ++ sign_text (op_sign o) ++ codes " " in
    same a h (opened round ++ (expr_text m x ++ (sign ++ (expr_text n y ++ closed round)))) (expr_form_text l f)
    (then a b h (opened round) (expr_text m x ++ (sign ++ (expr_text n y ++ closed round))) w1
    (then b d h (expr_text m x) (sign ++ (expr_text n y ++ closed round)) w2
    (then d e h sign (expr_text n y ++ closed round) w3 (then e g h (expr_text n y) (closed round) w4 w5))))
    (rw (es, em, en, ef) (bin_written l o x y))

-- ---- processes

par_written : (b : Bool) (p q : RawProc) → opened b ++ ((proc_text false p ++ codes " | ") ++ (proc_text true q ++ closed b)) ≡ proc_form_text b (form.Par p q)
par_written b p q =
    tidy (opened b) (proc_text false p) (codes " | ") (proc_text true q) (closed b)
    ∙ sym (text-par b p q ∙ bracketed_is b (proc_text false p ++ codes " | " ++ proc_text true q))
  where
    tidy : (a p m q c : List ℕ) → a ++ ((p ++ m) ++ (q ++ c)) ≡ a ++ ((p ++ m ++ q) ++ c)
    tidy a p m q c = simp append_assoc

pub par_steps : (a b d e g : TextWriter) (bracket : Bool) {f : RawProcForm} (p q : RawProc) → f ≡ form.Par p q → Writes a b (opened bracket) → Writes b d (proc_text false p ++ codes " | ")
    → Writes d e (proc_text true q) → Writes e g (closed bracket) → Writes a g (proc_form_text bracket f)
par_steps a b d e g bracket {f} p q ef w1 w2 w3 w4 =
    same a g (opened bracket ++ ((proc_text false p ++ codes " | ") ++ (proc_text true q ++ closed bracket))) (proc_form_text bracket f)
    (then a b g (opened bracket) ((proc_text false p ++ codes " | ") ++ (proc_text true q ++ closed bracket)) w1
    (then b d g (proc_text false p ++ codes " | ") (proc_text true q ++ closed bracket) w2 (then d e g (proc_text true q) (closed bracket) w3 w4)))
    (par_written bracket p q ∙ sym (ap (proc_form_text bracket) ef))

-- a form of which one function writes the text
pub one_step : (a b : TextWriter) (bracket : Bool) {f g : RawProcForm} (text : List ℕ) → f ≡ g → proc_form_text bracket g ≡ text → Writes a b text → Writes a b (proc_form_text bracket f)
one_step a b bracket {f} text ef eg w = same a b text (proc_form_text bracket f) w (sym (ap (proc_form_text bracket) ef ∙ eg))

-- a form of which three functions write the text: what stands in front, a part with what stands behind it, and a part
pub three_steps : (a b d e : TextWriter) (bracket : Bool) {f g : RawProcForm} (front part mid last text : List ℕ) → f ≡ g → proc_form_text bracket g ≡ text
    → front ++ ((part ++ mid) ++ last) ≡ text → Writes a b front → Writes b d (part ++ mid) → Writes d e last → Writes a e (proc_form_text bracket f)
three_steps a b d e bracket {f} front part mid last text ef eg et w1 w2 w3 =
    same a e (front ++ ((part ++ mid) ++ last)) (proc_form_text bracket f)
    (then a b e front ((part ++ mid) ++ last) w1 (then b d e (part ++ mid) last w2 w3)) (et ∙ sym (ap (proc_form_text bracket) ef ∙ eg))

pub agent_steps : (a b d e : TextWriter) (bracket : Bool) {f : RawProcForm} (c : Ident) (p q : RawProc) → f ≡ form.Agent c p q → Writes a b (codes "agent " ++ c.text ++ codes " = ")
    → Writes b d (proc_text true p ++ codes " in ") → Writes d e (proc_text true q) → Writes a e (proc_form_text bracket f)
agent_steps a b d e bracket c p q ef w1 w2 w3 =
    three_steps a b d e bracket (codes "agent " ++ c.text ++ codes " = ") (proc_text true p) (codes " in ") (proc_text true q)
    (codes "agent " ++ c.text ++ codes " = " ++ proc_text true p ++ codes " in " ++ proc_text true q) ef (text-agent bracket c p q)
    (tidy (codes "agent ") c.text (codes " = ") (proc_text true p) (codes " in ") (proc_text true q)) w1 w2 w3
  where
    tidy : (x y z p m q : List ℕ) → (x ++ y ++ z) ++ ((p ++ m) ++ q) ≡ x ++ y ++ z ++ p ++ m ++ q
    tidy x y z p m q = simp append_assoc

pub iflocal_steps : (a b d e : TextWriter) (bracket : Bool) {f : RawProcForm} (x : RawExpr) (c : Ident) (z : RawExpr) (p q : RawProc) → f ≡ form.IfLocal x c z p q
    → Writes a b (codes "iflocal <" ++ expr_text 3 x ++ codes ">" ++ message_text c z ++ codes " then ")
    → Writes b d (proc_text true p ++ codes " else ") → Writes d e (proc_text true q) → Writes a e (proc_form_text bracket f)
iflocal_steps a b d e bracket x c z p q ef w1 w2 w3 =
    three_steps a b d e bracket (codes "iflocal <" ++ expr_text 3 x ++ codes ">" ++ message_text c z ++ codes " then ") (proc_text true p) (codes " else ") (proc_text true q)
    (codes "iflocal <" ++ expr_text 3 x ++ codes ">" ++ message_text c z ++ codes " then " ++ proc_text true p ++ codes " else " ++ proc_text true q) ef (text-iflocal bracket x c z p q)
    (tidy (codes "iflocal <") (expr_text 3 x) (codes ">") (message_text c z) (codes " then ") (proc_text true p) (codes " else ") (proc_text true q)) w1 w2 w3
  where
    tidy : (x y z u v p m q : List ℕ) → (x ++ y ++ z ++ u ++ v) ++ ((p ++ m) ++ q) ≡ x ++ y ++ z ++ u ++ v ++ p ++ m ++ q
    tidy x y z u v p m q = simp append_assoc

pub if_steps : (a b d e : TextWriter) (bracket : Bool) {f : RawProcForm} (x : RawExpr) (p q : RawProc) → f ≡ form.If x p q → Writes a b (codes "if " ++ expr_text 0 x ++ codes " then ")
    → Writes b d (proc_text true p ++ codes " else ") → Writes d e (proc_text true q) → Writes a e (proc_form_text bracket f)
if_steps a b d e bracket x p q ef w1 w2 w3 =
    three_steps a b d e bracket (codes "if " ++ expr_text 0 x ++ codes " then ") (proc_text true p) (codes " else ") (proc_text true q)
    (codes "if " ++ expr_text 0 x ++ codes " then " ++ proc_text true p ++ codes " else " ++ proc_text true q) ef (text-if bracket x p q)
    (tidy (codes "if ") (expr_text 0 x) (codes " then ") (proc_text true p) (codes " else ") (proc_text true q)) w1 w2 w3
  where
    tidy : (x y z p m q : List ℕ) → (x ++ y ++ z) ++ ((p ++ m) ++ q) ≡ x ++ y ++ z ++ p ++ m ++ q
    tidy x y z p m q = simp append_assoc
