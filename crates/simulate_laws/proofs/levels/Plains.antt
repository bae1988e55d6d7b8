-- Events of the source's own that the infrastructure's text makes for it: who is about to leave or to make an agent.
use Rattle.std.proofs.Common.{◌≡◌, ℕ, Bool, true, false, nat_eq, None, Some, refl, sym, ap, ◌∙◌}
use Rattle.np_syntax.specs.declared.expression.Expr.{Expr}
use Rattle.np_syntax.specs.declared.process.Tag.{Tag}
use Rattle.np_syntax.specs.declared.process.Proc.{Proc}
use Rattle.np_syntax.specs.declared.process.Role.TheVariants as role
use Rattle.np_syntax.specs.declared.process.ProcForm.TheVariants as forms
use Rattle.np_syntax.specs.declared.event.Kind.{Kind}
use Rattle.np_syntax.specs.declared.event.Kind.TheVariants as kind
use Rattle.np_syntax.proofs.Bools.{and-in, and-out}
use Rattle.np_syntax.proofs.Options.{done}
use Rattle.np_calculus.specs.Begins.{begun_by}
use Rattle.np_calculus.specs.Reductions.{role_index, same_tag}
use Rattle.np_eval.specs.Forms.{Layer, layer}
use Rattle.infrastructure_texts.specs.Infrastructures.{Infrastructure}
use Rattle.daemon_encode.specs.Translates.{Translates}
use Rattle.simulate_laws.proofs.things.Acting.{PostBegins, post-begins}

-- an event of a process of the role Plain is one of another such process of the same node
pub plain_tag : (a b t : Tag) → a.node ≡ b.node → a.role ≡ role.Plain → b.role ≡ role.Plain → same_tag b t ≡ true → same_tag a t ≡ true
plain_tag a b t nodes p q h =
    let both = and-out (nat_eq b.node t.node) (nat_eq (role_index b.role) (role_index t.role)) h in
    and-in (ap (λ k. nat_eq k t.node) nodes ∙ both.0) (ap (λ r. nat_eq (role_index r) (role_index t.role)) (p ∙ sym q) ∙ both.1)

abbrev pub is_move : Kind → Bool
is_move kind.Agent = true
is_move kind.Depart = true
is_move _ = false

not_moving : {A : Type 0} (l : Layer) (j k : Kind) → is_move k ≡ false → is_move j ≡ true → begun_by l ≡ Some k → begun_by l ≡ Some j → A
not_moving l j k f t h i = absurd (let bad : false ≡ true = sym f ∙ ap is_move (done (sym i ∙ h)) ∙ t in cc)

post_no_move : {A : Type 0} (q : Proc) (j : Kind) → is_move j ≡ true → PostBegins q → begun_by (layer q) ≡ Some j → A
post_no_move q j t (PostBegins.is_sent r is) h = not_moving _ j kind.Send refl t is h
post_no_move q j t (PostBegins.takes_cache r is) h = not_moving _ j kind.Comm refl t is h

-- a translation begins no such event: it takes `currentloc` before
pub made_no_move : {i : Infrastructure} {A : Type 0} {n from : ℕ} {a : Expr} {p q : Proc} (j : Kind) → is_move j ≡ true → Translates i n from a p q → begun_by (layer q) ≡ Some j → A
made_no_move j t Translates.output h = absurd (let bad : None ≡ Some j = sym (ap begun_by (forms.outs-Out _ _)) ∙ h in cc)
made_no_move j t Translates.stop h = not_moving _ j kind.Stop refl t (ap begun_by forms.outs-Stop) h
made_no_move j t (Translates.parallel x y) h = not_moving _ j kind.Fork refl t (ap begun_by (forms.outs-Par _ _)) h
made_no_move j t (Translates.channel x) h = not_moving _ j kind.New refl t (ap begun_by (forms.outs-New _ _ _)) h
made_no_move j t (Translates.input x) h = not_moving _ j kind.Comm refl t (ap begun_by (forms.outs-Inp _ _ _)) h
made_no_move j t (Translates.replicated x) h = not_moving _ j kind.Rep refl t (ap begun_by (forms.outs-Rep _ _ _)) h
made_no_move j t (Translates.agent s l u d z x y) h = not_moving _ j kind.Comm refl t (ap begun_by (forms.outs-Inp _ _ _)) h
made_no_move j t (Translates.migrate x) h = not_moving _ j kind.Comm refl t (ap begun_by (forms.outs-Inp _ _ _)) h
made_no_move j t (Translates.iflocal x y) h = not_moving _ j kind.Local refl t (ap begun_by (forms.outs-IfLocal _ _ _ _ _)) h
made_no_move j t Translates.send h = not_moving _ j kind.Send refl t (ap begun_by (forms.outs-Send _ _ _ _)) h
made_no_move {i = i} {n = n} {a = a} {q = q} j t (Translates.post {k = tag} {m = m} {b = b} {c = c} {v = v} above) h = post_no_move q j t (post-begins i n tag.node a b c v m) h
made_no_move j t (Translates.test x y) h = not_moving _ j kind.If refl t (ap begun_by (forms.outs-If _ _ _)) h
made_no_move j t (Translates.bind x) h = not_moving _ j kind.Let refl t (ap begun_by (forms.outs-Let _ _ _)) h
made_no_move j t Translates.print h = not_moving _ j kind.Print refl t (ap begun_by (forms.outs-Print _)) h
made_no_move j t Translates.open_letter h = not_moving _ j kind.Open refl t (ap begun_by (forms.outs-Open _)) h
made_no_move j t (Translates.lookup x y) h = not_moving _ j kind.Lookup refl t (ap begun_by (forms.outs-Lookup _ _ _ _ _)) h
