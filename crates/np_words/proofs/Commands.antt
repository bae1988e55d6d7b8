-- The one command of the program, argument by argument, and what it answers.
use Rattle.std.proofs.Common.{◌≡◌, inl, inr, ◌∙◌, ap, sym, subst, codes, true, List, [], ◌∷◌, Option, None, Some, Result, Ok, Err, refl, map}
use Rattle.std.specs.Prelude.{IfOk}
use Rattle.np_syntax.specs.Options.{◌>>=◌}
use Rattle.clap.specs.Words.{App, Text, HasMatchesOf, found_of, rows_of, matches_of, fault_of, is_simple, is_simple_and_free, Kinds, HasKind, kind_of, with_rule}
use Rattle.clap.specs.declared.error.Error.{Error}
use Rattle.clap.specs.declared.error.kind.ErrorKind.TheVariants.{OutOfMemory}
use Rattle.clap.specs.declared.parser.matches.ArgMatches.{ArgMatches}
use Rattle.clap.proofs.OnLiterals.{clap_on_literals}
use Rattle.np_words.specs.Arguments.{Given, start, valued, flag, operands, run_options, with_rules, command, given, has_fault, taken}
use Rattle.np_words.specs.Plans.{plan, planned, Plans}
use Rattle.np_words.specs.declared.planning.Plan.{Plan}
use Rattle.np_words.specs.declared.fail.PlanFail.{PlanFail}

pub if_ok : {A E : Type 0} {P Q : A → Type 0} (r : Result A E) → ((x : A) → P x → Q x) → IfOk r P → IfOk r Q
if_ok (Ok x) f h = f x h
if_ok (Err e) f h = h

-- the command line is what its parts put together
pub whole : with_rule (with_rule (with_rules (with_rules start operands) run_options) (valued (codes "line"))) (flag (codes "one")) ≡ command
unfolding command
whole = refl

pub simple : is_simple command ≡ true
unfolding command clap_on_literals
simple = refl

pub free : is_simple_and_free command ≡ true
unfolding command clap_on_literals
free = refl

-- no fault: the words are taken
no_fault : (words : List Text) (kinds : Kinds) → fault_of command words ≡ kinds → kinds ≡ [] → taken words ≡ Some (given (matches_of command words))
unfolding taken
no_fault words kinds f e = rw (f, e) refl

some_fault : (words : List Text) → has_fault (fault_of command words) ≡ true → taken words ≡ None
unfolding taken
some_fault words e = rw e refl

-- a parse that succeeded
pub taken_matches : (c : App) (words : List Text) (m : ArgMatches) → c ≡ command → HasMatchesOf c words m → fault_of c words ≡ []
    → taken words ≡ Some (given (rows_of (found_of m)))
taken_matches c words m is h f =
    let h : HasMatchesOf command words m = rw is at h in
    let rows : rows_of (found_of m) ≡ matches_of command words = (h simple).0 in
    no_fault words [] (rw is at f) refl ∙ ap (λ r. Some (given r)) (sym rows)

has_some : (kinds : Kinds) (e : Error) → HasKind kinds e → (kind_of e ≡ OutOfMemory → ⊥) → has_fault kinds ≡ true
has_some [] e h n = elim h [ inl m ↦ absurd (n m) | inr none ↦ absurd none ]
has_some (k ∷ ks) e h n = refl

-- a parse that failed by a kind that is not want of memory
pub not_taken : (c : App) (words : List Text) (e : Error) → c ≡ command → HasKind (fault_of c words) e → (kind_of e ≡ OutOfMemory → ⊥) → taken words ≡ None
not_taken c words e is h not_memory = some_fault words (has_some (fault_of command words) e (rw is at h) not_memory)

pub same_words : (words : List Text) → map (λ (w : Text). w) words ≡ words
same_words [] = refl
same_words (w ∷ words) = ap (λ (rest : List Text). w ∷ rest) (same_words words)

-- ---- plans

pub planned_is : (words : List Text) (g s : Given) (r : Result Plan PlanFail) → taken words ≡ Some g → s ≡ g → Plans (planned s) r → Plans (plan words) r
unfolding plan
planned_is words g s r t e p = subst (λ (o : Option Plan). Plans o r) (ap planned e ∙ sym (ap (λ given. given >>= planned) t)) p

pub no_plan : (words : List Text) → taken words ≡ None → plan words ≡ None
unfolding plan
no_plan words t = ap (λ given. given >>= planned) t
