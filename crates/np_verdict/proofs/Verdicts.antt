-- A source is accepted or refused, and refused in one way alone.
use Rattle.std.proofs.Common.{◌≡◌, ◌≢◌, ◌==◌, ℕ, Bool, true, false, if◌then◌else◌, inl, inr, List, [], ◌∷◌, ◌++◌, Result, Ok, Err, drop, append_assoc, refl, sym, subst, ap, ◌∙◌, arith}
use Rattle.std.specs.Char.{is_ascii_digit}
use Rattle.np_syntax.specs.declared.program.Program.{Program}
use Rattle.np_syntax.specs.declared.limits.TheConstants.{DEEPEST}
use Rattle.np_lex.specs.declared.fail.LexFail.{LexFail}
use Rattle.np_lex.specs.declared.fail.LexFail.TheVariants as lex
use Rattle.np_lex.specs.declared.token.Token.{Token}
use Rattle.np_lex.specs.Tokens.{Lexes}
use Rattle.np_lex.specs.Refusals as tokens
use Rattle.np_lex.proofs.Once as once
use Rattle.np_tree.specs.declared.tree.Tree.{Tree}
use Rattle.np_tree.specs.Grammar.{IsProgram}
use Rattle.np_parse.specs.declared.fail.ParseFail.{ParseFail}
use Rattle.np_parse.specs.declared.fail.ParseFail.TheVariants as parse
use Rattle.np_parse.specs.Refusal.{Begins, Why}
use Rattle.np_parse.specs.Input.{Outcome}
use Rattle.np_parse.specs.Read.Programs.{program}
use Rattle.np_parse.specs.Refusal as grammar
use Rattle.np_parse.proofs.CompletePrograms.{complete_program}
use Rattle.np_parse.proofs.SoundPrograms.{shorter}
use Rattle.np_scope.specs.declared.fail.ScopeFail.{ScopeFail}
use Rattle.np_scope.specs.declared.fail.ScopeFail.TheVariants as scope
use Rattle.np_scope.specs.Resolved.{resolved}
use Rattle.np_scope.proofs.FromGrammar.{written}
use Rattle.np_types.specs.declared.fault.TypeFault.{TypeFault as FirstFault}
use Rattle.np_check.specs.Faults.{faults}
use Rattle.np_verdict.specs.Faults.{Stage, HasProgram, HasNoTree, HasNoProgram, IsIllTyped, IsWellTyped, IsNoProgram, Wrong, Accepted, Faulty, of_tokens, of_grammar, of_scope}
use Rattle.np_verdict.specs.Lines.{status_of}
use Rattle.np_verdict.specs.declared.refusal.Refusal.{Refusal}
use Rattle.np_verdict.specs.declared.refusal.Refusal.TheVariants.{Usage, TooLong, TypeFault}
use Rattle.np_verdict.proofs.Resolving.{resolving-tells}

-- ---- two cuts of one list

-- the second cut is the first, or one lies behind the other
data Cuts (a b : List Token) (t u : Token) : Type 0 where
  same : a ≡ b → t ≡ u → Cuts a b t u
  later : (m : List Token) → b ≡ (a ++ t ∷ []) ++ m → Cuts a b t u
  sooner : (m : List Token) → a ≡ (b ++ u ∷ []) ++ m → Cuts a b t u

below : {a b : List Token} {t u : Token} (x : Token) → Cuts a b t u → Cuts (x ∷ a) (x ∷ b) t u
below x (Cuts.same e f) = Cuts.same (ap (λ l. x ∷ l) e) f
below x (Cuts.later m e) = Cuts.later m (ap (λ l. x ∷ l) e)
below x (Cuts.sooner m e) = Cuts.sooner m (ap (λ l. x ∷ l) e)

head_of : Token → List Token → Token
head_of d [] = d
head_of d (t ∷ ts) = t

tail_of : List Token → List Token
tail_of [] = []
tail_of (t ∷ ts) = ts

cuts : (a b : List Token) (t u : Token) (r s : List Token) → a ++ t ∷ r ≡ b ++ u ∷ s → Cuts a b t u
unfolding head_of tail_of
cuts [] [] t u r s e = Cuts.same refl (ap (head_of t) e)
cuts [] (x ∷ b) t u r s e = let f : x ≡ t = sym (ap (head_of t) e) in Cuts.later b (ap (λ y. y ∷ b) f)
cuts (x ∷ a) [] t u r s e = let f : x ≡ u = ap (head_of u) e in Cuts.sooner a (ap (λ y. y ∷ a) f)
cuts (x ∷ a) (y ∷ b) t u r s e =
    let f : x ≡ y = ap (head_of x) e in
    subst (λ (z : Token). Cuts (x ∷ a) (z ∷ b) t u) f (below x (cuts a b t u r s (ap tail_of e)))

-- ---- the grammar

-- what begins a program whole, begins one up to each token
-- tokens with a tree are not refused
no_tree : (depth : ℕ) (ts : List Token) (tree : Tree) (e : ParseFail) → IsProgram depth ts tree → grammar.Refusal depth ts e → ⊥
no_tree depth ts tree e d r =
    let whole : IsProgram depth ((r.pre ++ r.t ∷ []) ++ r.rest) tree = subst (λ (l : List Token). IsProgram depth l tree) (r.is ∙ sym (append_assoc r.pre (r.t ∷ []) r.rest)) d in
    r.none (r.rest, tree, whole)

-- why a token is refused is said once
why_once : (pre : List Token) (t : Token) (e f : ParseFail) → Why pre t e → Why pre t f → e ≡ f
why_once pre t parse.Memory f w v = absurd w
why_once pre t (parse.Syntax a) parse.Memory w v = absurd v
why_once pre t (parse.Syntax a) (parse.Syntax b) w v = ap parse.Syntax (w.0 ∙ sym v.0)
why_once pre t (parse.Syntax a) (parse.TooDeep b) w v = absurd (w.1 v.1 v.2)
why_once pre t (parse.TooDeep a) parse.Memory w v = absurd v
why_once pre t (parse.TooDeep a) (parse.Syntax b) w v = absurd (v.1 w.1 w.2)
why_once pre t (parse.TooDeep a) (parse.TooDeep b) w v = ap parse.TooDeep (w.0 ∙ sym v.0)

by_cuts : (depth : ℕ) (a b : List Token) (t u : Token) (e f : ParseFail) → Begins depth a → Begins depth b → (Begins depth (a ++ t ∷ []) → ⊥)
    → (Begins depth (b ++ u ∷ []) → ⊥) → Why a t e → Why b u f → Cuts a b t u → e ≡ f
by_cuts depth a b t u e f s z n k w v (Cuts.same p q) =
    let there : Why b t e = subst (λ (l : List Token). Why l t e) p w in
    why_once b u e f (subst (λ (x : Token). Why b x e) q there) v
by_cuts depth a b t u e f s z n k w v (Cuts.later m p) = absurd (n (shorter depth (a ++ t ∷ []) m (subst (Begins depth) p z)))
by_cuts depth a b t u e f s z n k w v (Cuts.sooner m p) = absurd (k (shorter depth (b ++ u ∷ []) m (subst (Begins depth) p s)))

-- tokens are refused in one way
refused_once : (depth : ℕ) (ts : List Token) (e f : ParseFail) → grammar.Refusal depth ts e → grammar.Refusal depth ts f → e ≡ f
refused_once depth ts e f r s =
    by_cuts depth r.pre s.pre r.t s.t e f r.shorter s.shorter r.none s.none r.why s.why (cuts r.pre s.pre r.t s.t r.rest s.rest (sym r.is ∙ s.is))

-- ---- tokens

-- tokens have one tree
tree_once : (ts : List Token) (a b : Tree) → IsProgram DEEPEST ts a → IsProgram DEEPEST ts b → a ≡ b
tree_once ts a b x y = same_tree (program DEEPEST ts) (complete_program x DEEPEST (omega arith)) (complete_program y DEEPEST (omega arith))
  where
    same_tree : (o : Outcome Tree) → o ≡ Ok (a, []) → o ≡ Ok (b, []) → a ≡ b
    same_tree o e f = let pair : (let p : Tree × List Token = (a, []) in p) ≡ (b, []) = cc in ap (λ (p : Tree × List Token). p.0) pair

same_resolved : (ts : List Token) (a b : Tree) → IsProgram DEEPEST ts a → IsProgram DEEPEST ts b → resolved a ≡ resolved b
same_resolved ts a b x y = ap resolved (tree_once ts a b x y)

resolves_or_not : {A : Type 0} (o : Result A ScopeFail) (a : A) (e : ScopeFail) → o ≡ Ok a → o ≡ Err e → ⊥
resolves_or_not o a e x y = cc

-- tokens with a program are not refused by scope
program_no_fail : (ts : List Token) (p : Program) (r : Refusal) → HasProgram ts p → HasNoProgram ts r → ⊥
program_no_fail ts p r h f = resolves_or_not (resolved f.tree) p f.fail (same_resolved ts f.tree h.tree f.parsed h.parsed ∙ h.scoped) f.refused

program_no_grammar : (ts : List Token) (p : Program) (r : Refusal) → HasProgram ts p → HasNoTree ts r → ⊥
program_no_grammar ts p r h f = no_tree DEEPEST ts h.tree f.fail h.parsed f.refused

same_ok : {A : Type 0} (o : Result A ScopeFail) (a b : A) → o ≡ Ok a → o ≡ Ok b → a ≡ b
same_ok o a b x y = cc

same_err : {A : Type 0} (o : Result A ScopeFail) (a b : ScopeFail) → o ≡ Err a → o ≡ Err b → a ≡ b
same_err o a b x y = cc

program_once : (ts : List Token) (p q : Program) → HasProgram ts p → HasProgram ts q → p ≡ q
program_once ts p q h k = same_ok (resolved h.tree) p q h.scoped (same_resolved ts h.tree k.tree h.parsed k.parsed ∙ k.scoped)

tree_refused_once : (ts : List Token) (a b : Refusal) → HasNoTree ts a → HasNoTree ts b → a ≡ b
tree_refused_once ts a b f g = f.is ∙ ap of_grammar (refused_once DEEPEST ts f.fail g.fail f.refused g.refused) ∙ sym g.is

scope_refused_once : (ts : List Token) (a b : Refusal) → HasNoProgram ts a → HasNoProgram ts b → a ≡ b
scope_refused_once ts a b f g =
    f.is ∙ ap of_scope (same_err (resolved f.tree) f.fail g.fail f.refused (same_resolved ts f.tree g.tree f.parsed g.parsed ∙ g.refused)) ∙ sym g.is

types_refused_once : (ts : List Token) (a b : Refusal) → IsIllTyped ts a → IsIllTyped ts b → a ≡ b
types_refused_once ts a b f g =
    let same = ap faults (program_once ts f.program g.program f.read g.read) in
    f.is ∙ ap TypeFault (first_of f.fault g.fault (sym f.first ∙ same ∙ g.first)) ∙ sym g.is
  where
    first_of : (a b : FirstFault) → ◌≡◌ {A = List FirstFault} (a ∷ []) (b ∷ []) → a ≡ b
    first_of a b e = cc

faultless_or_not : (o : List FirstFault) (f : FirstFault) → o ≡ [] → o ≡ f ∷ [] → ⊥
faultless_or_not o f e g = cc

-- one thing is wrong with tokens of no program
no_program_once : (ts : List Token) (a b : Refusal) → IsNoProgram ts a → IsNoProgram ts b → a ≡ b
no_program_once ts a b (inl f) (inl g) = tree_refused_once ts a b f g
no_program_once ts a b (inl f) (inr (inl g)) = absurd (no_tree DEEPEST ts g.tree f.fail g.parsed f.refused)
no_program_once ts a b (inl f) (inr (inr g)) = absurd (program_no_grammar ts g.program a g.read f)
no_program_once ts a b (inr (inl f)) (inl g) = absurd (no_tree DEEPEST ts f.tree g.fail f.parsed g.refused)
no_program_once ts a b (inr (inl f)) (inr (inl g)) = scope_refused_once ts a b f g
no_program_once ts a b (inr (inl f)) (inr (inr g)) = absurd (program_no_fail ts g.program a g.read f)
no_program_once ts a b (inr (inr f)) (inl g) = absurd (program_no_grammar ts f.program b f.read g)
no_program_once ts a b (inr (inr f)) (inr (inl g)) = absurd (program_no_fail ts f.program b f.read g)
no_program_once ts a b (inr (inr f)) (inr (inr g)) = types_refused_once ts a b f g

-- one thing is wrong with tokens
wrong_once : (stage : Stage) (ts : List Token) (a b : Refusal) → Wrong stage ts a → Wrong stage ts b → a ≡ b
wrong_once Stage.tree ts a b f g = tree_refused_once ts a b f g
wrong_once Stage.program ts a b f g = no_program_once ts a b f g

-- with tokens of a program that is well typed nothing is wrong
typed_not_wrong : (ts : List Token) (p : Program) (r : Refusal) → HasProgram ts p → faults p ≡ [] → IsNoProgram ts r → ⊥
typed_not_wrong ts p r h none (inl f) = program_no_grammar ts p r h f
typed_not_wrong ts p r h none (inr (inl f)) = program_no_fail ts p r h f
typed_not_wrong ts p r h none (inr (inr f)) = faultless_or_not (faults p) f.fault none (ap faults (program_once ts p f.program h f.read) ∙ f.first)

-- ---- sources

tokens_not_both : (bytes : List ℕ) (ts : List Token) (e : LexFail) → Lexes 0 bytes ts → tokens.IsRefused bytes e → ⊥
tokens_not_both bytes ts e lexed r = once.not_both lexed r.stuck

tokens_refused_once : (bytes : List ℕ) (e f : LexFail) → tokens.IsRefused bytes e → tokens.IsRefused bytes f → e ≡ f
tokens_refused_once bytes e f r s = r.is ∙ ap (λ p. tokens.refusal p (drop p bytes)) (once.stuck_once r.stuck s.stuck) ∙ sym s.is

-- no source is both well typed and refused
well_typed_not_refused : (bytes : List ℕ) (p : Program) (refusal : Refusal) → IsWellTyped bytes p → Faulty Stage.program bytes refusal → ⊥
well_typed_not_refused bytes p refusal a (inl f) = tokens_not_both bytes a.tokens f.fail a.lexed f.refused
well_typed_not_refused bytes p refusal a (inr f) =
    let same : f.tokens ≡ a.tokens = once.lexes_once f.lexed a.lexed in
    typed_not_wrong a.tokens p refusal a.read a.faultless (subst (λ (ts : List Token). IsNoProgram ts refusal) same f.wrong)

-- a source has one program
pub well_typed_once : (bytes : List ℕ) (p q : Program) → IsWellTyped bytes p → IsWellTyped bytes q → p ≡ q
well_typed_once bytes p q a b =
    let same : b.tokens ≡ a.tokens = once.lexes_once b.lexed a.lexed in
    program_once a.tokens p q a.read (subst (λ (ts : List Token). HasProgram ts q) same b.read)

-- no source is both accepted and refused
pub not_both : (stage : Stage) (bytes : List ℕ) (refusal : Refusal) → Accepted stage bytes → Faulty stage bytes refusal → ⊥
not_both Stage.tree bytes refusal a (inl f) = tokens_not_both bytes a.1.tokens f.fail a.1.lexed f.refused
not_both Stage.tree bytes refusal a (inr f) =
    let same : f.tokens ≡ a.1.tokens = once.lexes_once f.lexed a.1.lexed in
    let wrong : HasNoTree a.1.tokens refusal = subst (λ (ts : List Token). Wrong Stage.tree ts refusal) same f.wrong in
    no_tree DEEPEST a.1.tokens a.0 wrong.fail a.1.parsed wrong.refused
not_both Stage.program bytes refusal a f = well_typed_not_refused bytes a.0 refusal a.1 f

-- a source is refused in one way
pub same_fault : (stage : Stage) (bytes : List ℕ) (a b : Refusal) → Faulty stage bytes a → Faulty stage bytes b → a ≡ b
same_fault stage bytes a b (inl f) (inl g) = f.is ∙ ap of_tokens (tokens_refused_once bytes f.fail g.fail f.refused g.refused) ∙ sym g.is
same_fault stage bytes a b (inl f) (inr g) = absurd (tokens_not_both bytes g.tokens f.fail g.lexed f.refused)
same_fault stage bytes a b (inr f) (inl g) = absurd (tokens_not_both bytes f.tokens g.fail f.lexed g.refused)
same_fault stage bytes a b (inr f) (inr g) =
    let same : f.tokens ≡ g.tokens = once.lexes_once f.lexed g.lexed in
    wrong_once stage g.tokens a b (subst (λ (ts : List Token). Wrong stage ts a) same f.wrong) g.wrong

-- ---- refusals that are of no source

-- a refusal of a source is one of its tokens, of the grammar, of scope, or of types
not_source : (refusal : Refusal) → ((e : LexFail) → refusal ≡ of_tokens e → ⊥) → ((e : ParseFail) → refusal ≡ of_grammar e → ⊥)
    → ((e : ScopeFail) → refusal ≡ of_scope e → ⊥) → ((fault : FirstFault) → refusal ≡ TypeFault fault → ⊥)
    → (stage : Stage) (bytes : List ℕ) → Faulty stage bytes refusal → ⊥
not_source refusal a b c d stage bytes (inl f) = a f.fail f.is
not_source refusal a b c d Stage.tree bytes (inr f) = let w : HasNoTree f.tokens refusal = f.wrong in b w.fail w.is
not_source refusal a b c d Stage.program bytes (inr f) = elim (f.wrong) [ inl w ↦ b w.fail w.is | inr rest ↦ elim rest [ inl w ↦ c w.fail w.is | inr w ↦ d w.fault w.is ] ]

long_tokens : (e : LexFail) → TooLong ≡ of_tokens e → ⊥
long_tokens lex.Memory e = cc
long_tokens (lex.BadChar at) e = cc
long_tokens (lex.BadString at) e = cc
long_tokens (lex.BigNumber at) e = cc

long_grammar : (e : ParseFail) → TooLong ≡ of_grammar e → ⊥
long_grammar parse.Memory e = cc
long_grammar (parse.Syntax at) e = cc
long_grammar (parse.TooDeep at) e = cc

long_scope : (e : ScopeFail) → TooLong ≡ of_scope e → ⊥
long_scope scope.Memory e = cc
long_scope (scope.Unbound at) e = cc
long_scope (scope.SiteTwice at) e = cc
long_scope (scope.TooManySites at) e = cc
long_scope (scope.NotASite at) e = cc

pub not_long : (stage : Stage) (bytes : List ℕ) → Faulty stage bytes TooLong → ⊥
not_long = not_source TooLong long_tokens long_grammar long_scope (λ fault e. cc)

-- ---- the status of what is wrong with a source

by_tests : (string digit : Bool) (place : ℕ) → (if string then lex.BadString place else (if digit then lex.BigNumber place else lex.BadChar place)) ≡ lex.Memory → ⊥
by_tests true digit place e = cc
by_tests false true place e = cc
by_tests false false place e = cc

stuck_tells : (place : ℕ) (rest : List ℕ) → tokens.refusal place rest ≡ lex.Memory → ⊥
stuck_tells place [] e = cc
stuck_tells place (byte ∷ rest) e = by_tests (byte == 34) (is_ascii_digit byte) place e

tokens_status : (bytes : List ℕ) (e : LexFail) → tokens.IsRefused bytes e → status_of (of_tokens e) ≡ 3
tokens_status bytes lex.Memory r = absurd (stuck_tells r.place (drop r.place bytes) (sym r.is))
tokens_status bytes (lex.BadChar at) r = refl
tokens_status bytes (lex.BadString at) r = refl
tokens_status bytes (lex.BigNumber at) r = refl

grammar_status : (ts : List Token) (e : ParseFail) → grammar.Refusal DEEPEST ts e → status_of (of_grammar e) ≡ 3
grammar_status ts parse.Memory r = absurd r.why
grammar_status ts (parse.Syntax at) r = refl
grammar_status ts (parse.TooDeep at) r = refl

scope_status : (e : ScopeFail) → e ≢ scope.Memory → status_of (of_scope e) ≡ 3
scope_status scope.Memory some = absurd (some refl)
scope_status (scope.Unbound at) some = refl
scope_status (scope.SiteTwice at) some = refl
scope_status (scope.TooManySites at) some = refl
scope_status (scope.NotASite at) some = refl

wrong_status : (ts : List Token) (refusal : Refusal) → IsNoProgram ts refusal → status_of refusal ≡ 3
wrong_status ts refusal (inl f) = ap status_of f.is ∙ grammar_status ts f.fail f.refused
wrong_status ts refusal (inr (inl f)) =
    let tells = resolving-tells f.tree (written f.parsed) in
    ap status_of f.is ∙ scope_status f.fail (λ e. tells.not (f.refused ∙ ap Err e))
wrong_status ts refusal (inr (inr f)) = ap status_of f.is

-- the status of such a refusal is 3
pub faulty_status : (stage : Stage) (bytes : List ℕ) (refusal : Refusal) → Faulty stage bytes refusal → status_of refusal ≡ 3
faulty_status stage bytes refusal (inl f) = ap status_of f.is ∙ tokens_status bytes f.fail f.refused
faulty_status Stage.tree bytes refusal (inr f) = wrong_status f.tokens refusal (inl f.wrong)
faulty_status Stage.program bytes refusal (inr f) = wrong_status f.tokens refusal f.wrong

pub not_usage : (stage : Stage) (bytes : List ℕ) → Faulty stage bytes Usage → ⊥
not_usage stage bytes f = omega (arith, faulty_status stage bytes Usage f)
