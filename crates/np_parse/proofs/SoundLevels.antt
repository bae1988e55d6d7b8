-- The processes of each number of levels.
use Rattle.std.proofs.Common.{ℕ, zero, suc, ◌<◌, List, [], ◌∷◌, refl, arith}
use Rattle.std.specs.Prelude.{ℤ, pos}
use Rattle.np_lex.specs.declared.token.Key.TheVariants as key
use Rattle.np_lex.specs.declared.token.Sign.TheVariants as sign
use Rattle.np_lex.specs.declared.token.Token.{Token}
use Rattle.np_lex.specs.declared.token.What.{What}
use Rattle.np_lex.specs.declared.token.What.TheVariants as what
use Rattle.np_lex.specs.Tokens.{token, sign_at, word_at, name_at}
use Rattle.np_tree.specs.declared.tree.RawProcForm as form
use Rattle.np_tree.specs.Grammar as g
use Rattle.np_tree.specs.Grammar.{ident, process}
use Rattle.np_parse.specs.declared.head.Single.{Single}
use Rattle.np_parse.specs.declared.head.Double.{Double}
use Rattle.np_parse.specs.Input.{Outcome, and_then, peek, take, name}
use Rattle.np_parse.specs.Read.Heads.{new_head, input_head, replicated_head, migrate_head, let_head, agent_head, iflocal_head, if_head}
use Rattle.np_parse.specs.Read.Processes.{single, double, use_by, on_channel, proc_in, proc}
use Rattle.np_parse.proofs.Fine.{fine_then, fine_refuse, fine_take}
use Rattle.np_parse.proofs.SoundHeads.{BeginsProc, AnyProc, ProcRead, FineProc, zero_, HeadRead, IsSingle, SingleFine, begins_named, IsDouble, DoubleFine}
use Rattle.np_parse.proofs.SoundHeads.{print_fine, output_fine, directed_fine, new_fine, input_fine, replicated_fine, migrate_fine, let_fine, agent_fine, iflocal_fine, if_fine}
use Rattle.np_parse.proofs.SoundProcs.{ProcLevel, single_fine, double_fine}
use Rattle.np_parse.proofs.SoundBrackets.{bracket_fine}

module _ (m b : ℕ) (l : 0 < b → ProcLevel (suc (suc m)) b) where
  then_single : (pre ts : List Token) (o : Outcome Single) → SingleFine m b pre ts o → FineProc (suc (suc m)) (suc b) pre ts (and_then o (single (proc (suc (suc m)) b)))
  then_single pre ts o h = fine_then (BeginsProc (suc (suc m)) (suc b)) AnyProc (HeadRead IsSingle (suc (suc m)) b) (ProcRead (suc (suc m)) (suc b)) pre ts o (single (proc (suc (suc m)) b)) h
      (λ x now rest p. single_fine (suc (suc m)) b (l p.0) x now rest p)

  then_double : (pre ts : List Token) (o : Outcome Double) → DoubleFine m b pre ts o → FineProc (suc (suc m)) (suc b) pre ts (and_then o (double (proc (suc (suc m)) b)))
  then_double pre ts o h = fine_then (BeginsProc (suc (suc m)) (suc b)) AnyProc (HeadRead IsDouble (suc (suc m)) b) (ProcRead (suc (suc m)) (suc b)) pre ts o (double (proc (suc (suc m)) b)) h
      (λ x now rest p. double_fine (suc (suc m)) b x now p (l p.0) rest)

  -- behind the name of a channel
  use_fine : (at end : ℕ) (text : List ℕ) (ts : List Token)
      → FineProc (suc (suc m)) (suc b) (name_at at end text ∷ []) ts (and_then (peek ts) (use_by (proc (suc (suc m)) b) (suc (suc m)) b (ident at text)))
  unfolding peek
  use_fine at end text [] = fine_refuse (BeginsProc (suc (suc m)) (suc b)) AnyProc (name_at at end text ∷ []) [] (begins_named m b (ident at text) end)
  use_fine at end text (t ∷ ts) = go t.at t.end t.what
    where
      go : (i j : ℕ) (w : What)
          → FineProc (suc (suc m)) (suc b) (name_at at end text ∷ []) (token i j w ∷ ts) (use_by (proc (suc (suc m)) b) (suc (suc m)) b (ident at text) w (token i j w ∷ ts))
      go i j (what.Sign sign.Bang) = output_fine m b end i j (ident at text) ts
      go i j (what.Sign sign.Query) = then_single (name_at at end text ∷ []) (sign_at i j sign.Query ∷ ts) (input_head (suc (suc m)) b (ident at text) (sign_at i j sign.Query ∷ ts))
          (input_fine m b i j ts (ident at text) end)
      go i j other = fine_refuse (BeginsProc (suc (suc m)) (suc b)) AnyProc (name_at at end text ∷ []) (token i j other ∷ ts) (begins_named m b (ident at text) end)

  on_channel_fine : (at end : ℕ) (text : List ℕ) (ts : List Token)
      → FineProc (suc (suc m)) (suc b) [] (name_at at end text ∷ ts) (on_channel (proc (suc (suc m)) b) (suc (suc m)) b (name_at at end text ∷ ts))
  unfolding on_channel name peek take
  on_channel_fine at end text ts = fine_take (BeginsProc (suc (suc m)) (suc b)) AnyProc (ProcRead (suc (suc m)) (suc b)) [] (name_at at end text) ts
      (and_then (peek ts) (use_by (proc (suc (suc m)) b) (suc (suc m)) b (ident at text))) (use_fine at end text ts)

  proc_fine : (ts : List Token) → FineProc (suc (suc m)) (suc b) [] ts (proc (suc (suc m)) (suc b) ts)
  unfolding proc proc_in peek take
  proc_fine [] = fine_refuse _ _ _ _ (zero_, _, g.IsProc.stop)
  proc_fine (t ∷ ts) = go t.at t.end t.what
    where
      begins : BeginsProc (suc (suc m)) (suc b) []
      begins = (zero_, process 0 form.Stop, g.IsProc.stop)

      number : (at end : ℕ) (n : ℤ) → FineProc (suc (suc m)) (suc b) [] (token at end (what.Number n) ∷ ts) (proc (suc (suc m)) (suc b) (token at end (what.Number n) ∷ ts))
      number at end (pos zero) = record { part = token at end (what.Number (pos 0)) ∷ []; is = refl; holds = (omega arith, omega arith, g.IsProc.stop {d = 0}) }
      number at end (pos (suc n)) = fine_refuse (BeginsProc (suc (suc m)) (suc b)) AnyProc [] (token at end (what.Number (pos (suc n))) ∷ ts) begins
      number at end n = fine_refuse (BeginsProc (suc (suc m)) (suc b)) AnyProc [] (token at end (what.Number n) ∷ ts) begins

      go : (at end : ℕ) (w : What) → FineProc (suc (suc m)) (suc b) [] (token at end w ∷ ts) (proc (suc (suc m)) (suc b) (token at end w ∷ ts))
      go at end (what.Number n) = number at end n
      go at end (what.Ident text) = on_channel_fine at end text ts
      go at end (what.Word key.New) = then_single [] (word_at at end key.New ∷ ts) (new_head (suc (suc m)) b (word_at at end key.New ∷ ts)) (new_fine m b at end ts)
      go at end (what.Word key.AgentWord) = then_double [] (word_at at end key.AgentWord ∷ ts) (agent_head b (word_at at end key.AgentWord ∷ ts)) (agent_fine m b at end ts)
      go at end (what.Word key.Migrate) = then_single [] (word_at at end key.Migrate ∷ ts) (migrate_head (suc (suc m)) b (word_at at end key.Migrate ∷ ts)) (migrate_fine m b at end ts)
      go at end (what.Word key.IfLocal) = then_double [] (word_at at end key.IfLocal ∷ ts) (iflocal_head (suc (suc m)) b (word_at at end key.IfLocal ∷ ts)) (iflocal_fine m b at end ts)
      go at end (what.Word key.If) = then_double [] (word_at at end key.If ∷ ts) (if_head (suc (suc m)) b (word_at at end key.If ∷ ts)) (if_fine m b at end ts)
      go at end (what.Word key.Let) = then_single [] (word_at at end key.Let ∷ ts) (let_head (suc (suc m)) b (word_at at end key.Let ∷ ts)) (let_fine m b at end ts)
      go at end (what.Word key.Print) = print_fine m b at end ts
      go at end (what.Sign sign.RoundOpen) = bracket_fine at end (suc (suc m)) b l (omega arith) ts
      go at end (what.Sign sign.Star) = then_single [] (sign_at at end sign.Star ∷ ts) (replicated_head (suc (suc m)) b (sign_at at end sign.Star ∷ ts)) (replicated_fine m b at end ts)
      go at end (what.Sign sign.Less) = directed_fine m b at end ts
      go at end other = fine_refuse (BeginsProc (suc (suc m)) (suc b)) AnyProc [] (token at end other ∷ ts) begins

pub proc_level : (m b : ℕ) → 0 < b → ProcLevel (suc (suc m)) b
proc_level m zero h = absurd (omega arith)
proc_level m (suc b) h = record { fine = proc_fine m b (λ k. proc_level m b k) }
