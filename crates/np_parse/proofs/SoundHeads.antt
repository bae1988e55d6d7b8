-- What stands before the processes of a form, and a form without processes: what is read is in the grammar, and what is refused
-- cannot go on.
use Rattle.std.proofs.Common.{◌≡◌, ℕ, zero, suc, ◌<◌, ◌≤◌, max, List, [], ◌∷◌, ◌++◌, refl, sym, subst, append_assoc, append-nil, arith}
use Rattle.std.specs.Prelude.{nat_le, false, pos, if◌then◌else◌}
use Rattle.std.proofs.lemmas.Bool.Decides.{nat_tests}
use Rattle.np_lex.specs.declared.token.Key.{Key}
use Rattle.np_lex.specs.declared.token.Key.TheVariants as key
use Rattle.np_lex.specs.declared.token.Sign.TheVariants as sign
use Rattle.np_lex.specs.declared.token.Token.{Token}
use Rattle.np_lex.specs.declared.token.What.{What}
use Rattle.np_lex.specs.declared.token.What.TheVariants as what
use Rattle.np_lex.specs.Tokens.{token, sign_at, word_at, name_at}
use Rattle.np_tree.specs.declared.tree.Ident.{Ident}
use Rattle.np_tree.specs.declared.tree.RawExpr.{RawExpr}
use Rattle.np_tree.specs.declared.tree.RawProc.{RawProc}
use Rattle.np_tree.specs.declared.tree.RawProcForm.{RawProcForm}
use Rattle.np_tree.specs.declared.tree.RawProcForm as form
use Rattle.np_tree.specs.Grammar as g
use Rattle.np_tree.specs.Grammar.{ident, process, IsAtom, IsProc}
use Rattle.np_parse.specs.declared.head.Single.{Single}
use Rattle.np_parse.specs.declared.head.Double.{Double}
use Rattle.np_parse.specs.declared.head.DoubleForm.{DoubleForm}
use Rattle.np_parse.specs.declared.head.DoubleForm.TheVariants as double
use Rattle.np_parse.specs.Input.{Parser, Outcome, and_then, ◌>>=◌, pure, peek, take, refuse_deep}
use Rattle.np_parse.specs.Read.Heads.{ReadProc, whole, print, output, post, send, directed_by, directed, single_form, new_head, input_head, replicated_head, migrate_head, let_head}
use Rattle.np_parse.specs.Read.Heads.{double_form, agent_head, iflocal_head, if_head}
use Rattle.np_parse.proofs.Fine.{Fine, fine_refuse, fine_deep, fine_take, fine_done}
use Rattle.np_parse.proofs.RaiseExprs.{raise_atom}
use Rattle.np_parse.proofs.RaiseProcs.{raise_proc}
use Rattle.np_parse.proofs.SoundExprs.{some_expr}
use Rattle.np_parse.proofs.FormSteps.{Steps, run, InOrder, all_of, all_some}
use Rattle.np_parse.proofs.HeadSteps.{print_steps, output_steps, address_steps, post_steps, send_steps, new_steps, input_steps, replicated_steps, migrate_steps, let_steps, agent_steps, iflocal_steps, if_steps}
use Rattle.np_parse.proofs.SoundSteps.{steps_fine}

-- ---- what begins a process

abbrev pub BeginsProc : ℕ → ℕ → List Token → Type 0
BeginsProc m b pre = (more : List Token) × (x : RawProc) × IsProc m b (pre ++ more) x

abbrev pub AnyProc : List Token → Type 0
AnyProc pre = (d : ℕ) × BeginsProc d d pre

abbrev pub ProcRead : ℕ → ℕ → ReadProc → List Token → Type 0
ProcRead m b x s = (x.1 ≤ b) × (0 < x.1) × IsProc m x.1 s x.0

abbrev pub FineProc : ℕ → ℕ → List Token → List Token → Outcome ReadProc → Type 0
FineProc m b pre ts o = Fine (BeginsProc m b) AnyProc (ProcRead m b) pre ts o

abbrev pub zero_ : List Token
zero_ = token 0 0 (what.Number (pos 0)) ∷ []

pub any_proc : (m b : ℕ) (s : List Token) → BeginsProc m b s → AnyProc s
any_proc m b s v = let n : ℕ = max m b in (n, (v.0, v.1, raise_proc v.2 n n (omega arith) (omega arith)))

-- what begins with more begins with less
shorter : (m b : ℕ) (s more : List Token) → BeginsProc m b (s ++ more) → BeginsProc m b s
shorter m b s more v = (more ++ v.0, v.1, subst (λ l. IsProc m b l v.1) (append_assoc s more v.0) v.2)

-- ---- forms without processes

abbrev pub IsForm : ℕ → ℕ → List Token → RawProcForm → Type 0
IsForm at n now f = (c : ℕ) → IsProc n (suc c) now (process at f)

-- the steps of such a form, behind `pre`
whole_fine : (m b at : ℕ) (s : Steps RawProcForm) (pre ts : List Token) → ((n : ℕ) → suc (suc m) ≤ n → InOrder n s (λ us f. IsForm at n (pre ++ us) f))
    → FineProc (suc (suc m)) (suc b) pre ts (run (suc (suc m)) s (whole at) ts)
whole_fine m b at s pre ts h = steps_fine m (BeginsProc (suc (suc m)) (suc b)) AnyProc (ProcRead (suc (suc m)) (suc b)) (IsForm at)
    (λ u more x q. (more, process at x, q b))
    (λ n u more x q. any_proc n 1 u (more, process at x, q 0))
    (whole at)
    (λ x now rest q. fine_done (ProcRead (suc (suc m)) (suc b)) now rest (process at x, 1) (omega arith, omega arith, q (suc (suc m)) (omega arith) 0))
    s pre ts (λ n low. all_of n s (λ us f. IsForm at n (pre ++ us) f) (h n low))

pub print_fine : (m b at end : ℕ) (ts : List Token) → FineProc (suc (suc m)) (suc b) [] (word_at at end key.Print ∷ ts) (print (suc (suc m)) (word_at at end key.Print ∷ ts))
unfolding print take
print_fine m b at end ts =
    fine_take (BeginsProc (suc (suc m)) (suc b)) AnyProc (ProcRead (suc (suc m)) (suc b)) [] (word_at at end key.Print) ts (run (suc (suc m)) print_steps (whole at) ts)
    (whole_fine m b at print_steps (word_at at end key.Print ∷ []) ts (λ n low us x p c. rw append-nil (g.IsProc.print p)))

pub output_fine : (m b end i j : ℕ) (channel : Ident) (ts : List Token)
    → FineProc (suc (suc m)) (suc b) (name_at channel.at end channel.text ∷ []) (sign_at i j sign.Bang ∷ ts) (output (suc (suc m)) channel (sign_at i j sign.Bang ∷ ts))
unfolding output take
output_fine m b end i j channel ts =
    let first = name_at channel.at end channel.text in
    fine_take (BeginsProc (suc (suc m)) (suc b)) AnyProc (ProcRead (suc (suc m)) (suc b)) (first ∷ []) (sign_at i j sign.Bang) ts (run (suc (suc m)) (output_steps channel) (whole channel.at) ts)
    (whole_fine m b channel.at (output_steps channel) (first ∷ sign_at i j sign.Bang ∷ []) ts (λ n low us x p c. rw append-nil (g.IsProc.output p)))

-- ---- messages to agents

abbrev pub address : (at end i j : ℕ) → List Token → List Token
address at end i j us = sign_at at end sign.Less ∷ (us ++ sign_at i j sign.At ∷ [])

module _ (m b at end i j : ℕ) (us : List Token) (agent : RawExpr) (p : IsAtom (suc (suc m)) us agent) where
  post_fine : (e f : ℕ) (ts : List Token) → FineProc (suc (suc m)) (suc b) (address at end i j us) (sign_at e f sign.Query ∷ ts) (post (suc (suc m)) at agent (sign_at e f sign.Query ∷ ts))
  unfolding post take
  post_fine e f ts =
      let query = sign_at e f sign.Query in
      fine_take (BeginsProc (suc (suc m)) (suc b)) AnyProc (ProcRead (suc (suc m)) (suc b)) (address at end i j us) query ts (run (suc (suc m)) (post_steps agent) (whole at) ts)
      (whole_fine m b at (post_steps agent) (address at end i j us ++ query ∷ []) ts (λ n low k l x y text v w zs z q c.
      let behind = sign_at k l sign.Greater ∷ name_at x y text ∷ sign_at v w sign.Bang ∷ zs in
      let same : us ++ sign_at i j sign.At ∷ query ∷ behind ≡ ((us ++ sign_at i j sign.At ∷ []) ++ query ∷ []) ++ (behind ++ []) = simp (append_assoc, append-nil) in
      subst (λ r. IsProc n (suc c) (sign_at at end sign.Less ∷ r) (process at (form.Post agent (ident x text) z))) same
      (g.IsProc.post i j e f k l x y v w (raise_atom p n low) q)))

  send_fine : (ts : List Token) → FineProc (suc (suc m)) (suc b) (address at end i j us) ts (send (suc (suc m)) at agent ts)
  unfolding send
  send_fine ts =
      whole_fine m b at (send_steps agent) (address at end i j us) ts (λ n low ys y r k l x o text v w zs z q c.
      let behind = sign_at k l sign.Greater ∷ name_at x o text ∷ sign_at v w sign.Bang ∷ zs in
      let same : us ++ sign_at i j sign.At ∷ (ys ++ behind) ≡ (us ++ sign_at i j sign.At ∷ []) ++ (ys ++ (behind ++ [])) = simp (append_assoc, append-nil) in
      subst (λ u. IsProc n (suc c) (sign_at at end sign.Less ∷ u) (process at (form.Send agent y (ident x text) z))) same
      (g.IsProc.send i j k l x o v w (raise_atom p n low) r q))

-- from `<` to `@`
abbrev IsAddress : (at end n : ℕ) → List Token → RawExpr → Type 0
IsAddress at end n now agent = (us : List Token) × (i : ℕ) × (j : ℕ) × (now ≡ address at end i j us) × IsAtom n us agent

address_begins : (at end k n b : ℕ) (now : List Token) (agent : RawExpr) → k ≤ suc n → IsAddress at end k now agent → BeginsProc (suc n) (suc b) now
address_begins at end k n b now agent low q =
    let value = some_expr n in
    let behind = sign_at 0 0 sign.Query ∷ sign_at 0 0 sign.Greater ∷ name_at 0 0 [] ∷ sign_at 0 0 sign.Bang ∷ value.0 in
    let whole_ : IsProc (suc n) (suc b) (sign_at at end sign.Less ∷ (q.0 ++ sign_at q.1 q.2 sign.At ∷ behind)) (process at (form.Post agent (ident 0 []) value.1)) =
    g.IsProc.post q.1 q.2 0 0 0 0 0 0 0 0 (raise_atom q.4 (suc n) low) value.2 in
    let same : sign_at at end sign.Less ∷ (q.0 ++ sign_at q.1 q.2 sign.At ∷ behind) ≡ now ++ behind = rw (q.3, append_assoc) in
    (behind, _, subst (λ l. IsProc (suc n) (suc b) l (process at (form.Post agent (ident 0 []) value.1))) same whole_)

directed_by_fine : (m b at end i j : ℕ) (us : List Token) (agent : RawExpr) → IsAtom (suc (suc m)) us agent → (ts : List Token)
    → FineProc (suc (suc m)) (suc b) (address at end i j us) ts (and_then (peek ts) (directed_by (suc (suc m)) at agent))
unfolding peek
directed_by_fine m b at end i j us agent p [] =
    fine_refuse (BeginsProc (suc (suc m)) (suc b)) AnyProc (address at end i j us) [] (address_begins at end (suc (suc m)) (suc m) b (address at end i j us) agent (omega arith) (us, i, j, refl, p))
directed_by_fine m b at end i j us agent p (t ∷ ts) = go t.at t.end t.what
  where
    go : (e f : ℕ) (w : What) → FineProc (suc (suc m)) (suc b) (address at end i j us) (token e f w ∷ ts) (directed_by (suc (suc m)) at agent w (token e f w ∷ ts))
    go e f (what.Sign sign.Query) = post_fine m b at end i j us agent p e f ts
    go e f other = send_fine m b at end i j us agent p (token e f other ∷ ts)

pub directed_fine : (m b at end : ℕ) (ts : List Token) → FineProc (suc (suc m)) (suc b) [] (sign_at at end sign.Less ∷ ts) (directed (suc (suc m)) (sign_at at end sign.Less ∷ ts))
unfolding directed take
directed_fine m b at end ts =
    let n : ℕ = suc (suc m) in
    let first = sign_at at end sign.Less in
    let next : RawExpr → Parser ReadProc = λ agent. peek >>= directed_by n at agent in
    fine_take (BeginsProc n (suc b)) AnyProc (ProcRead n (suc b)) [] first ts (run n address_steps next ts)
    (steps_fine m (BeginsProc n (suc b)) AnyProc (ProcRead n (suc b)) (IsAddress at end)
    (λ u more x q. shorter n (suc b) u more (address_begins at end n (suc m) b (u ++ more) x (omega arith) q))
    (λ k u more x q. any_proc (suc k) 1 u (shorter (suc k) 1 u more (address_begins at end k k 0 (u ++ more) x (omega arith) q)))
    next
    (λ x now rest h. let q = h n (omega arith) in
    subst (λ l. FineProc n (suc b) l rest (next x rest)) (sym q.3) (directed_by_fine m b at end q.1 q.2 q.0 x q.4 rest))
    address_steps (first ∷ []) ts (λ k low. all_of k address_steps (λ us x. IsAddress at end k (first ∷ us) x) (λ us x p i j. (us, i, j, refl, p))))

-- ---- what stands before processes

-- a process can always follow such a head
pub record Heads {H : Type 0} (Is : ℕ → List Token → H → Type 0) : Type 0 where
  pub begins : (n b : ℕ) (now : List Token) (h : H) → 0 < b → Is n now h → BeginsProc n (suc b) now

abbrev pub HeadRead : {H : Type 0} → (ℕ → List Token → H → Type 0) → ℕ → ℕ → H → List Token → Type 0
HeadRead Is m b h now = (0 < b) × ((n : ℕ) → m ≤ n → Is n now h)

-- where no level is left for a process
pub guarded_fine : {A : Type 0} (V D : List Token → Type 0) (P : A → List Token → Type 0) (b : ℕ) (p : Parser A) (pre : List Token) (t : Token) (ts : List Token) → V pre → D (pre ++ t ∷ [])
    → (0 < b → Fine V D P pre (t ∷ ts) (p (t ∷ ts))) → Fine V D P pre (t ∷ ts) ((if nat_le b 0 then refuse_deep else p) (t ∷ ts))
guarded_fine V D P zero p pre t ts v d h = fine_deep V D pre t ts v d
guarded_fine V D P (suc b) p pre t ts v d h = let no : nat_le (suc b) 0 ≡ false = grind (arith, nat_tests) in rw no (h (omega arith))

module _ {H : Type 0} (Is : ℕ → List Token → H → Type 0) (k : Heads Is) (m b : ℕ) where
  head_steps : 0 < b → (s : Steps H) (pre ts : List Token) → ((n : ℕ) → suc (suc m) ≤ n → InOrder n s (λ us h. Is n (pre ++ us) h))
      → Fine (BeginsProc (suc (suc m)) (suc b)) AnyProc (HeadRead Is (suc (suc m)) b) pre ts (run (suc (suc m)) s (λ h. pure h) ts)
  head_steps some s pre ts h = steps_fine m (BeginsProc (suc (suc m)) (suc b)) AnyProc (HeadRead Is (suc (suc m)) b) Is
      (λ u more x q. shorter (suc (suc m)) (suc b) u more (k.begins (suc (suc m)) b (u ++ more) x some q))
      (λ n u more x q. any_proc n 2 u (shorter n 2 u more (k.begins n 1 (u ++ more) x (omega arith) q)))
      (λ x. pure x)
      (λ x now rest q. fine_done (HeadRead Is (suc (suc m)) b) now rest x (some, q))
      s pre ts (λ n low. all_of n s (λ us h. Is n (pre ++ us) h) (h n low))

  head_fine : (s : Steps H) (p : Parser H) (pre : List Token) (t : Token) (ts : List Token) → p (t ∷ ts) ≡ run (suc (suc m)) s (λ h. pure h) ts → BeginsProc (suc (suc m)) (suc b) pre
      → ((n : ℕ) → suc (suc m) ≤ n → InOrder n s (λ us h. Is n ((pre ++ t ∷ []) ++ us) h))
      → Fine (BeginsProc (suc (suc m)) (suc b)) AnyProc (HeadRead Is (suc (suc m)) b) pre (t ∷ ts) ((if nat_le b 0 then refuse_deep else p) (t ∷ ts))
  head_fine s p pre t ts e v h =
      let n : ℕ = suc (suc m) in
      let q = all_some m s (λ us x. Is n ((pre ++ t ∷ []) ++ us) x) (all_of n s (λ us x. Is n ((pre ++ t ∷ []) ++ us) x) (h n (omega arith))) in
      guarded_fine (BeginsProc n (suc b)) AnyProc (HeadRead Is n b) b p pre t ts v
      (any_proc n 2 (pre ++ t ∷ []) (shorter n 2 (pre ++ t ∷ []) q.0 (k.begins n 1 ((pre ++ t ∷ []) ++ q.0) q.1 (omega arith) q.2)))
      (λ some. subst (Fine (BeginsProc n (suc b)) AnyProc (HeadRead Is n b) pre (t ∷ ts)) (sym e)
      (fine_take (BeginsProc n (suc b)) AnyProc (HeadRead Is n b) pre t ts (run n s (λ h. pure h) ts) (head_steps some s (pre ++ t ∷ []) ts h)))

pub some_proc : (n b : ℕ) → 0 < b → IsProc n b zero_ (process 0 form.Stop)
some_proc n b some = raise_proc {m = n} (g.IsProc.stop {d = 0}) n b (omega arith) some

-- ---- before one process

abbrev pub IsSingle : ℕ → List Token → Single → Type 0
IsSingle n now h = (c : ℕ) (us : List Token) (x : RawProc) → IsProc n c us x → IsProc n (suc c) (now ++ us) (process h.at (single_form h.form x))

singles : Heads IsSingle
singles = record { begins = λ n b now h some q. (zero_, process h.at (single_form h.form (process 0 form.Stop)), q b zero_ (process 0 form.Stop) (some_proc n b some)) }

abbrev pub SingleFine : (m b : ℕ) → List Token → List Token → Outcome Single → Type 0
SingleFine m b pre ts o = Fine (BeginsProc (suc (suc m)) (suc b)) AnyProc (HeadRead IsSingle (suc (suc m)) b) pre ts o

begins_empty : (m b : ℕ) → BeginsProc m (suc b) []
begins_empty m b = (zero_, process 0 form.Stop, g.IsProc.stop)

pub begins_named : (m b : ℕ) (channel : Ident) (end : ℕ) → BeginsProc (suc (suc m)) (suc b) (name_at channel.at end channel.text ∷ [])
begins_named m b channel end = let value = some_expr (suc m) in (sign_at 0 0 sign.Bang ∷ value.0, _, g.IsProc.output value.2)

module _ (m b at end : ℕ) (ts : List Token) where
  pub new_fine : SingleFine m b [] (word_at at end key.New ∷ ts) (new_head (suc (suc m)) b (word_at at end key.New ∷ ts))
  unfolding new_head take
  new_fine =
      head_fine IsSingle singles m b (new_steps at) _ [] (word_at at end key.New) ts refl (begins_empty (suc (suc m)) b)
      (λ n low i j text k l us t p e f c vs x q. rw (append_assoc us (word_at e f key.In ∷ []) vs) (g.IsProc.channel e f p q))

  pub input_fine : (channel : Ident) (i : ℕ) → SingleFine m b (name_at channel.at i channel.text ∷ []) (sign_at at end sign.Query ∷ ts) (input_head (suc (suc m)) b channel (sign_at at end sign.Query ∷ ts))
  unfolding input_head take
  input_fine channel i =
      head_fine IsSingle singles m b (input_steps channel) _ (name_at channel.at i channel.text ∷ []) (sign_at at end sign.Query) ts refl (begins_named m b channel i)
      (λ n low us r p e f c vs x q. rw (append_assoc us (sign_at e f sign.Arrow ∷ []) vs) (g.IsProc.input e f p q))

  pub replicated_fine : SingleFine m b [] (sign_at at end sign.Star ∷ ts) (replicated_head (suc (suc m)) b (sign_at at end sign.Star ∷ ts))
  unfolding replicated_head take
  replicated_fine =
      head_fine IsSingle singles m b (replicated_steps at) _ [] (sign_at at end sign.Star) ts refl (begins_empty (suc (suc m)) b)
      (λ n low i j text k l us r p e f c vs x q. rw (append_assoc us (sign_at e f sign.Arrow ∷ []) vs) (g.IsProc.replicated e f p q))

  pub migrate_fine : SingleFine m b [] (word_at at end key.Migrate ∷ ts) (migrate_head (suc (suc m)) b (word_at at end key.Migrate ∷ ts))
  unfolding migrate_head take
  migrate_fine =
      head_fine IsSingle singles m b (migrate_steps at) _ [] (word_at at end key.Migrate) ts refl (begins_empty (suc (suc m)) b)
      (λ n low i j us y p e f c vs x q. rw (append_assoc us (sign_at e f sign.Arrow ∷ []) vs) (g.IsProc.migrate e f p q))

  pub let_fine : SingleFine m b [] (word_at at end key.Let ∷ ts) (let_head (suc (suc m)) b (word_at at end key.Let ∷ ts))
  unfolding let_head take
  let_fine =
      head_fine IsSingle singles m b (let_steps at) _ [] (word_at at end key.Let) ts refl (begins_empty (suc (suc m)) b)
      (λ n low us r p i j ws y o e f c vs x q. rw (append_assoc us (sign_at i j sign.Equals ∷ (ws ++ word_at e f key.In ∷ [])) vs, append_assoc ws (word_at e f key.In ∷ []) vs) (g.IsProc.bind i j e f p o q))

-- ---- before the first of two processes

abbrev pub between_key : DoubleForm → Key
between_key (double.Agent x) = key.In
between_key (double.IfLocal x channel z) = key.Else
between_key (double.If x) = key.Else

abbrev pub IsDouble : ℕ → List Token → Double → Type 0
IsDouble n now h = (c i j : ℕ) (us vs : List Token) (x y : RawProc) → IsProc n c us x → IsProc n c vs y
    → IsProc n (suc c) (now ++ (us ++ word_at i j (between_key h.form) ∷ vs)) (process h.at (double_form h.form x y))

doubles : Heads IsDouble
doubles = record {
  begins = λ n b now h some q. (
    zero_ ++ word_at 0 0 (between_key h.form) ∷ zero_,
    process h.at (double_form h.form (process 0 form.Stop) (process 0 form.Stop)),
    q b 0 0 zero_ zero_ (process 0 form.Stop) (process 0 form.Stop) (some_proc n b some) (some_proc n b some),
  );
}

abbrev pub DoubleFine : (m b : ℕ) → List Token → List Token → Outcome Double → Type 0
DoubleFine m b pre ts o = Fine (BeginsProc (suc (suc m)) (suc b)) AnyProc (HeadRead IsDouble (suc (suc m)) b) pre ts o

module _ (m b at end : ℕ) (ts : List Token) where
  pub agent_fine : DoubleFine m b [] (word_at at end key.AgentWord ∷ ts) (agent_head b (word_at at end key.AgentWord ∷ ts))
  unfolding agent_head take
  agent_fine =
      head_fine IsDouble doubles m b (agent_steps at) _ [] (word_at at end key.AgentWord) ts refl (begins_empty (suc (suc m)) b)
      (λ n low i j text k l c e f us vs x y p q. g.IsProc.agent e f p q)

  pub iflocal_fine : DoubleFine m b [] (word_at at end key.IfLocal ∷ ts) (iflocal_head (suc (suc m)) b (word_at at end key.IfLocal ∷ ts))
  unfolding iflocal_head take
  iflocal_fine =
      head_fine IsDouble doubles m b (iflocal_steps at) _ [] (word_at at end key.IfLocal) ts refl (begins_empty (suc (suc m)) b)
      (λ n low i j us x r k l v w text e f zs z o a d c t u ps qs p q h1 h2.
      let behind = ps ++ word_at t u key.Else ∷ qs in
      rw (append_assoc us (sign_at k l sign.Greater ∷ name_at v w text ∷ sign_at e f sign.Bang ∷ (zs ++ word_at a d key.Then ∷ [])) behind, append_assoc zs (word_at a d key.Then ∷ []) behind)
      (g.IsProc.iflocal k l v w e f a d t u r o h1 h2))

  pub if_fine : DoubleFine m b [] (word_at at end key.If ∷ ts) (if_head (suc (suc m)) b (word_at at end key.If ∷ ts))
  unfolding if_head take
  if_fine =
      head_fine IsDouble doubles m b (if_steps at) _ [] (word_at at end key.If) ts refl (begins_empty (suc (suc m)) b)
      (λ n low us x r a d c t u ps qs p q h1 h2. rw (append_assoc us (word_at a d key.Then ∷ []) (ps ++ word_at t u key.Else ∷ qs)) (g.IsProc.test a d t u r h1 h2))
