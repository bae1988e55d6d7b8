-- A program has at most as many process nodes, and at most as many binders, as it has tokens.
use Rattle.std.proofs.Common.{◌≡◌, ℕ, ◌+◌, ◌≤◌, List, [], ◌∷◌, ◌++◌, length, arith, length-append}
use Rattle.np_lex.specs.declared.token.Token.{Token}
use Rattle.np_tree.specs.declared.tree.Tree.{Tree}
use Rattle.np_tree.specs.declared.tree.RawPat.{RawPat}
use Rattle.np_tree.specs.declared.tree.RawPatForm as pat
use Rattle.np_tree.specs.declared.tree.RawProc.{RawProc}
use Rattle.np_tree.specs.declared.tree.RawProcForm as form
use Rattle.np_tree.specs.Grammar.{ident, pattern, process, IsPat, ArePats, IsProc, AreMany, IsProgram}
use Rattle.np_tree.specs.Sizes.{names, names_all, nodes, binders}
use Rattle.np_tree.proofs.Sized.{names-form, names-any, names-bind, names-tuple}
use Rattle.np_tree.proofs.Sized.{nodes-form, nodes-stop, nodes-par, nodes-new, nodes-out, nodes-inp, nodes-rep, nodes-agent, nodes-migrate, nodes-iflocal}
use Rattle.np_tree.proofs.Sized.{nodes-send, nodes-post, nodes-if, nodes-let, nodes-print}
use Rattle.np_tree.proofs.Sized.{binders-form, binders-stop, binders-par, binders-new, binders-out, binders-inp, binders-rep, binders-agent, binders-migrate, binders-iflocal}
use Rattle.np_tree.proofs.Sized.{binders-send, binders-post, binders-if, binders-let, binders-print}

names_all-append : (ps qs : List RawPat) → names_all (ps ++ qs) ≡ names_all ps + names_all qs
names_all-append [] qs = omega arith
names_all-append (p ∷ ps) qs = let h = names_all-append ps qs in omega (arith, h)

mutual
  pub pat-counted : {d : ℕ} {ts : List Token} {p : RawPat} → IsPat d ts p → names p ≤ length ts
  pat-counted (IsPat.any {at = at}) = omega (arith, names-form (pattern at pat.Any), names-any)
  pat-counted (IsPat.bind {at = at} {text = text}) = omega (arith, names-form (pattern at (pat.Bind (ident at text))), names-bind (ident at text))
  pat-counted (IsPat.tuple {at = at} {ts = ts} {xs = xs} a b h) = let e = pats-counted h in grind (arith, length-append, names-form (pattern at (pat.Tuple xs)), names-tuple xs, e)

  pats-counted : {room d : ℕ} {ts : List Token} {ps : List RawPat} → ArePats room d ts ps → names_all ps ≤ length ts
  pats-counted ArePats.none = omega arith
  pats-counted (ArePats.part {ts = ts} {us = us} {x = x} {xs = xs} h g) =
      let e = pats-counted h in let f = pat-counted g in omega (arith, length-append us ts, names_all-append xs (x ∷ []), e, f)

abbrev Fits : List Token → RawProc → Type 0
Fits ts x = (nodes x ≤ length ts) × (binders x ≤ length ts)

mutual
  pub proc-counted : {limit d : ℕ} {ts : List Token} {x : RawProc} → IsProc limit d ts x → Fits ts x
  proc-counted (IsProc.stop {at = at}) = (
    grind (arith, length-append, nodes-form (process at form.Stop), nodes-stop),
    grind (arith, length-append, binders-form (process at form.Stop), binders-stop),
  )
  proc-counted (IsProc.bracket a b h) =
      let r = many-counted h in
      (grind (arith, length-append, r.0), grind (arith, length-append, r.1))
  proc-counted (IsProc.channel {at = at} {m = m} {text = text} {t = t} {x = x} a b h g) =
      let r0 = proc-counted g in (
        grind (arith, length-append, nodes-form (process at (form.New (ident m text) t x)), nodes-new (ident m text) t x, r0.0),
        grind (arith, length-append, binders-form (process at (form.New (ident m text) t x)), binders-new (ident m text) t x, r0.1),
      )
  proc-counted (IsProc.output {at = at} {text = text} {x = x} h) = (
    grind (arith, length-append, nodes-form (process at (form.Out (ident at text) x)), nodes-out (ident at text) x),
    grind (arith, length-append, binders-form (process at (form.Out (ident at text) x)), binders-out (ident at text) x),
  )
  proc-counted (IsProc.input {at = at} {text = text} {p = p} {x = x} a b h g) =
      let r0 = pat-counted h in let r1 = proc-counted g in (
        grind (arith, length-append, nodes-form (process at (form.Inp (ident at text) p x)), nodes-inp (ident at text) p x, r1.0),
        grind (arith, length-append, binders-form (process at (form.Inp (ident at text) p x)), binders-inp (ident at text) p x, r0, r1.1),
      )
  proc-counted (IsProc.replicated {at = at} {m = m} {text = text} {p = p} {x = x} a b h g) =
      let r0 = pat-counted h in let r1 = proc-counted g in (
        grind (arith, length-append, nodes-form (process at (form.Rep (ident m text) p x)), nodes-rep (ident m text) p x, r1.0),
        grind (arith, length-append, binders-form (process at (form.Rep (ident m text) p x)), binders-rep (ident m text) p x, r0, r1.1),
      )
  proc-counted (IsProc.agent {at = at} {m = m} {text = text} {x = x} {y = y} a b h g) =
      let r0 = proc-counted h in let r1 = proc-counted g in (
        grind (arith, length-append, nodes-form (process at (form.Agent (ident m text) x y)), nodes-agent (ident m text) x y, r0.0, r1.0),
        grind (arith, length-append, binders-form (process at (form.Agent (ident m text) x y)), binders-agent (ident m text) x y, r0.1, r1.1),
      )
  proc-counted (IsProc.migrate {at = at} {x = x} {y = y} a b h g) =
      let r0 = proc-counted g in (
        grind (arith, length-append, nodes-form (process at (form.Migrate x y)), nodes-migrate x y, r0.0),
        grind (arith, length-append, binders-form (process at (form.Migrate x y)), binders-migrate x y, r0.1),
      )
  proc-counted (IsProc.iflocal {at = at} {text = text} {x = x} {z = z} {p = p} {q = q} a b i j e f g h k l u v w z1) =
      let r0 = proc-counted w in let r1 = proc-counted z1 in (
        grind (arith, length-append, nodes-form (process at (form.IfLocal x (ident i text) z p q)), nodes-iflocal x (ident i text) z p q, r0.0, r1.0),
        grind (arith, length-append, binders-form (process at (form.IfLocal x (ident i text) z p q)), binders-iflocal x (ident i text) z p q, r0.1, r1.1),
      )
  proc-counted (IsProc.post {at = at} {text = text} {x = x} {z = z} a b m n i j e f g h u v) = (
    grind (arith, length-append, nodes-form (process at (form.Post x (ident e text) z)), nodes-post x (ident e text) z),
    grind (arith, length-append, binders-form (process at (form.Post x (ident e text) z)), binders-post x (ident e text) z),
  )
  proc-counted (IsProc.send {at = at} {text = text} {x = x} {y = y} {z = z} a b i j e f g h u v w) = (
    grind (arith, length-append, nodes-form (process at (form.Send x y (ident e text) z)), nodes-send x y (ident e text) z),
    grind (arith, length-append, binders-form (process at (form.Send x y (ident e text) z)), binders-send x y (ident e text) z),
  )
  proc-counted (IsProc.test {at = at} {x = x} {p = p} {q = q} a b i j h g f) =
      let r0 = proc-counted g in let r1 = proc-counted f in (
        grind (arith, length-append, nodes-form (process at (form.If x p q)), nodes-if x p q, r0.0, r1.0),
        grind (arith, length-append, binders-form (process at (form.If x p q)), binders-if x p q, r0.1, r1.1),
      )
  proc-counted (IsProc.bind {at = at} {p = p} {x = x} {y = y} a b i j h g f) =
      let r0 = pat-counted h in let r1 = proc-counted f in (
        grind (arith, length-append, nodes-form (process at (form.Let p x y)), nodes-let p x y, r1.0),
        grind (arith, length-append, binders-form (process at (form.Let p x y)), binders-let p x y, r0, r1.1),
      )
  proc-counted (IsProc.print {at = at} {x = x} h) = (
    grind (arith, length-append, nodes-form (process at (form.Print x)), nodes-print x),
    grind (arith, length-append, binders-form (process at (form.Print x)), binders-print x),
  )

  many-counted : {limit at d : ℕ} {ts : List Token} {x : RawProc} → AreMany limit at d ts x → Fits ts x
  many-counted (AreMany.two {at = at} {x = x} {y = y} a b h g) =
      let r0 = proc-counted h in let r1 = proc-counted g in (
        grind (arith, length-append, nodes-form (process at (form.Par x y)), nodes-par x y, r0.0, r1.0),
        grind (arith, length-append, binders-form (process at (form.Par x y)), binders-par x y, r0.1, r1.1),
      )
  many-counted (AreMany.more {at = at} {x = x} {y = y} a b h g) =
      let r0 = many-counted h in let r1 = proc-counted g in (
        grind (arith, length-append, nodes-form (process at (form.Par x y)), nodes-par x y, r0.0, r1.0),
        grind (arith, length-append, binders-form (process at (form.Par x y)), binders-par x y, r0.1, r1.1),
      )

pub counted : {d : ℕ} {ts : List Token} {tree : Tree} → IsProgram d ts tree → (nodes tree.main ≤ length ts) × (binders tree.main ≤ length ts)
counted (IsProgram.program a b e f g h i j k l m n u v) =
    let r = proc-counted v in
    (grind (arith, length-append, r.0), grind (arith, length-append, r.1))
