-- A program that is read is in the grammar, and what is refused cannot go on.
use Rattle.std.proofs.Common.{◌≡◌, ℕ, suc, List, [], ◌∷◌, ◌++◌, refl, sym, subst, append_assoc, append-nil, arith}
use Rattle.np_lex.specs.declared.token.Key.TheVariants as key
use Rattle.np_lex.specs.declared.token.Sign.TheVariants as sign
use Rattle.np_lex.specs.declared.token.Token.{Token}
use Rattle.np_lex.specs.declared.token.What.{What}
use Rattle.np_lex.specs.declared.token.What.TheVariants as what
use Rattle.np_lex.specs.Tokens.{token, sign_at, word_at, name_at}
use Rattle.np_tree.specs.declared.tree.Ident.{Ident}
use Rattle.np_tree.specs.declared.tree.RawProc.{RawProc}
use Rattle.np_tree.specs.declared.tree.RawProcForm as form
use Rattle.np_tree.specs.declared.tree.Tree.{Tree}
use Rattle.np_tree.specs.Grammar as g
use Rattle.np_tree.specs.Grammar.{ident, process, IsProc, AreSites, IsProgram}
use Rattle.np_parse.specs.Input.{Parser, and_then, ◌>>=◌, pure, expect_end}
use Rattle.np_parse.specs.Read.Heads.{ReadProc}
use Rattle.np_parse.specs.Read.Processes.{proc}
use Rattle.np_parse.specs.Read.Programs.{sites, program_head, program}
use Rattle.np_parse.specs.Refusal.{Begins}
use Rattle.np_parse.proofs.Fine.{Fine, fine_then, fine_part, fine_refuse, fine_take, fine_done}
use Rattle.np_parse.proofs.FineTokens.{EndRead, end_fine}
use Rattle.np_parse.proofs.RaiseProcs.{raise_proc}
use Rattle.np_parse.proofs.FormSteps.{run, all_of}
use Rattle.np_parse.proofs.HeadSteps.{site_steps, main_steps}
use Rattle.np_parse.proofs.SoundSteps.{steps_fine, regroup}
use Rattle.np_parse.proofs.SoundHeads.{BeginsProc, AnyProc, ProcRead, zero_, some_proc}
use Rattle.np_parse.proofs.SoundLevels.{proc_level}

abbrev pub AnyProgram : List Token → Type 0
AnyProgram pre = (depth : ℕ) × Begins depth pre

-- what begins with more begins with less
pub shorter : (d : ℕ) (s more : List Token) → Begins d (s ++ more) → Begins d s
shorter d s more v = (more ++ v.0, v.1, subst (λ l. IsProgram d l v.1) (append_assoc s more v.0) v.2)

-- ---- up to main's process

abbrev program_of : List Ident × Ident → RawProc → Tree
program_of head x = record { sites = head.0; at = head.1; main = x }

-- from `sites` to the `=` before main's process
abbrev IsHead : List Token → List Ident × Ident → Type 0
IsHead now head = (d i j : ℕ) (us : List Token) (x : RawProc) → IsProc d d us x → IsProgram d (now ++ (us ++ token i j what.End ∷ [])) (program_of head x)

-- from `sites` on, the names so far
abbrev IsSites : List Token → List Ident → Type 0
IsSites now found = (us : List Token) × (i : ℕ) × (j : ℕ) × (now ≡ word_at i j key.Sites ∷ us) × AreSites us found

-- and the sign behind them
abbrev AreRead : List Ident → List Token → Type 0
AreRead found now = (us : List Token) × (i : ℕ) × (j : ℕ) × (k : ℕ) × (l : ℕ) × (now ≡ word_at i j key.Sites ∷ (us ++ sign_at k l sign.Semi ∷ [])) × AreSites us found

head_begins : (d : ℕ) (now : List Token) (head : List Ident × Ident) → IsHead now head → Begins (suc d) now
head_begins d now head q = (zero_ ++ token 0 0 what.End ∷ [], _, q (suc d) 0 0 zero_ (process 0 form.Stop) (some_proc (suc d) (suc d) (omega arith)))

main_after : (i j k l e f u v o p y z : ℕ) (text : List ℕ) (us : List Token) (found : List Ident) → AreSites us found
    → IsHead (word_at i j key.Sites ∷ (us ++ sign_at k l sign.Semi ∷ []) ++ (word_at e f key.Main ∷ word_at u v key.At ∷ name_at o p text ∷ sign_at y z sign.Equals ∷ [])) (found, ident o text)
main_after i j k l e f u v o p y z text us found r = λ d m n vs x q.
    let main_ = word_at e f key.Main ∷ word_at u v key.At ∷ name_at o p text ∷ sign_at y z sign.Equals ∷ [] in
    let last = vs ++ token m n what.End ∷ [] in
    let same : us ++ sign_at k l sign.Semi ∷ (main_ ++ last) ≡ ((us ++ sign_at k l sign.Semi ∷ []) ++ main_) ++ last = simp append_assoc in
    subst (λ s. IsProgram d (word_at i j key.Sites ∷ s) (program_of (found, ident o text) x)) same (g.IsProgram.program k l e f u v o p y z m n r q)

read_begin : (d : ℕ) (now : List Token) (found : List Ident) → AreRead found now → Begins (suc d) now
read_begin d now found q =
    let main_ = word_at 0 0 key.Main ∷ word_at 0 0 key.At ∷ name_at 0 0 [] ∷ sign_at 0 0 sign.Equals ∷ [] in
    let here = word_at q.1 q.2 key.Sites ∷ (q.0 ++ sign_at q.3 q.4 sign.Semi ∷ []) in
    let head = head_begins d (here ++ main_) (found, ident 0 []) (main_after q.1 q.2 q.3 q.4 0 0 0 0 0 0 0 0 [] q.0 found q.6) in
    subst (Begins (suc d)) (sym q.5) (shorter (suc d) here main_ head)

sites_begin : (d : ℕ) (now : List Token) (found : List Ident) → IsSites now found → Begins (suc d) now
sites_begin d now found q =
    let semi = sign_at 0 0 sign.Semi ∷ [] in
    shorter (suc d) now semi (read_begin d (now ++ semi) found (q.0, q.1, q.2, 0, 0, rw q.3, q.4))

sites_fine : (d : ℕ) (ts now : List Token) (found : List Ident) → IsSites now found → Fine (Begins (suc d)) AnyProgram AreRead now ts (sites found ts)
unfolding sites
sites_fine d [] now found q = fine_refuse (Begins (suc d)) AnyProgram now [] (sites_begin d now found q)
sites_fine d (t ∷ ts) now found q = go (sites_fine d ts) t.at t.end t.what
  where
    go : ((now : List Token) (found : List Ident) → IsSites now found → Fine (Begins (suc d)) AnyProgram AreRead now ts (sites found ts)) → (at end : ℕ) (w : What)
        → Fine (Begins (suc d)) AnyProgram AreRead now (token at end w ∷ ts) (sites found (token at end w ∷ ts))
    go again at end (what.Ident text) =
        let next : IsSites (now ++ name_at at end text ∷ []) (found ++ ident at text ∷ []) = (q.0 ++ name_at at end text ∷ [], q.1, q.2, rw q.3, g.AreSites.more at end text q.4) in
        fine_take (Begins (suc d)) AnyProgram AreRead now (name_at at end text) ts (sites (found ++ ident at text ∷ []) ts) (again (now ++ name_at at end text ∷ []) (found ++ ident at text ∷ []) next)
    go again at end (what.Sign sign.Semi) = record { part = sign_at at end sign.Semi ∷ []; is = refl; holds = (q.0, q.1, q.2, at, end, rw q.3, q.4) }
    go again at end other = fine_refuse (Begins (suc d)) AnyProgram now (token at end other ∷ ts) (sites_begin d now found q)

main_fine : (b : ℕ) (now ts : List Token) (found : List Ident) → AreRead found now
    → Fine (Begins (suc b)) AnyProgram (λ head now. IsHead now head) now ts (run 2 (main_steps found) (λ x. pure x) ts)
main_fine b now ts found q = steps_fine 0 (Begins (suc b)) AnyProgram (λ head s. IsHead s head) (λ n s head. IsHead s head)
    (λ s more head r. shorter (suc b) s more (head_begins b (s ++ more) head r))
    (λ n s more head r. (1, shorter 1 s more (head_begins 0 (s ++ more) head r)))
    (λ x. pure x)
    (λ head s rest r. fine_done (λ h l. IsHead l h) s rest head (r 2 (omega arith)))
    (main_steps found) now ts
    (λ n low. all_of n (main_steps found) (λ us head. IsHead (now ++ us) head)
    (λ e f u v o p text y z. subst (λ l. IsHead (l ++ (word_at e f key.Main ∷ word_at u v key.At ∷ name_at o p text ∷ sign_at y z sign.Equals ∷ [])) (found, ident o text)) (sym q.5)
    (main_after q.1 q.2 q.3 q.4 e f u v o p y z text q.0 found q.6)))

head_fine : (b : ℕ) (ts : List Token) → Fine (Begins (suc b)) AnyProgram (λ head now. IsHead now head) [] ts (program_head ts)
unfolding program_head
head_fine b ts =
    let P : List Ident × Ident → List Token → Type 0 = λ head now. IsHead now head in
    let next : Ident → Parser (List Ident × Ident) = λ first. sites (first ∷ []) >>= (λ found. run 2 (main_steps found) (λ x. pure x)) in
    steps_fine 0 (Begins (suc b)) AnyProgram P (λ n now x. IsSites now (x ∷ []))
    (λ s more x q. shorter (suc b) s more (sites_begin b (s ++ more) (x ∷ []) q))
    (λ n s more x q. (1, shorter 1 s more (sites_begin 0 (s ++ more) (x ∷ []) q)))
    next
    (λ x now rest q. fine_then (Begins (suc b)) AnyProgram AreRead P now rest (sites (x ∷ []) rest) (λ found. run 2 (main_steps found) (λ y. pure y))
    (sites_fine b rest now (x ∷ []) (q 2 (omega arith)))
    (λ found here rest' r. main_fine b here rest' found r))
    site_steps [] ts
    (λ n low. all_of n site_steps (λ us x. IsSites ([] ++ us) (x ∷ [])) (λ i j k l text. (name_at k l text ∷ [], i, j, refl, g.AreSites.one)))

-- ---- main's process and the end

proc_begins : (d : ℕ) (now : List Token) (head : List Ident × Ident) → IsHead now head → (s : List Token) → BeginsProc d d s → Begins d (now ++ s)
proc_begins d now head q s v =
    let end_ = token 0 0 what.End ∷ [] in
    (v.0 ++ end_, program_of head v.1, subst (λ l. IsProgram d l (program_of head v.1)) (regroup now s v.0 end_) (q d 0 0 (s ++ v.0) v.1 v.2))

abbrev ending : List Ident × Ident → ReadProc → Parser Tree
ending head x = expect_end >>= (λ _. pure (program_of head x.0))

rest_fine : (b : ℕ) (head : List Ident × Ident) (now ts : List Token) → IsHead now head
    → Fine (Begins (suc (suc b))) AnyProgram (λ x s. IsProgram (suc (suc b)) s x) now ts (and_then (proc (suc (suc b)) (suc (suc b)) ts) (ending head))
rest_fine b head now ts q =
    let n : ℕ = suc (suc b) in
    let P : ReadProc → List Token → Type 0 = λ x s. (us : List Token) × (s ≡ now ++ us) × IsProc n n us x.0 in
    fine_then (Begins n) AnyProgram P (λ x s. IsProgram n s x) now ts (proc n n ts) (ending head)
    (fine_part (Begins n) AnyProgram (BeginsProc n n) AnyProc P (ProcRead n n) now ts (proc n n ts)
    (proc_begins n now head q)
    (λ s d. (d.0, proc_begins d.0 now head q s d.1))
    (λ x s r. (s, refl, raise_proc r.2 n n (omega arith) r.0))
    ((proc_level b n (omega arith)).fine ts))
    (λ x here rest r. fine_then (Begins n) AnyProgram (EndRead here) (λ y s. IsProgram n s y) here rest (expect_end rest) (λ _. pure (program_of head x.0))
    (end_fine (Begins n) AnyProgram here rest (subst (Begins n) (sym r.1) (proc_begins n now head q r.0 ([], x.0, rw append-nil r.2))))
    (λ i last rest' e. fine_done (λ y s. IsProgram n s y) last rest' (program_of head x.0)
    (rw (e.1, r.1, append_assoc now r.0 (token i e.0 what.End ∷ [])) (q n i e.0 r.0 x.0 r.2))))

pub program_fine : (b : ℕ) (ts : List Token) → Fine (Begins (suc (suc b))) AnyProgram (λ x s. IsProgram (suc (suc b)) s x) [] ts (program (suc (suc b)) ts)
unfolding program
program_fine b ts =
    let n : ℕ = suc (suc b) in
    fine_then (Begins n) AnyProgram (λ head now. IsHead now head) (λ x s. IsProgram n s x) [] ts (program_head ts) (λ head. proc n n >>= ending head)
    (head_fine (suc b) ts)
    (λ head now rest q. rest_fine b head now rest q)
