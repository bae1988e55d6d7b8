-- The types and patterns that the grammar has are read.
use Rattle.std.proofs.Common.{◌≡◌, ℕ, zero, suc, ◌+◌, ◌<◌, ◌≤◌, List, [], ◌∷◌, ◌++◌, Ok, refl, append_assoc, arith}
use Rattle.std.specs.Prelude.{nat_le, false}
use Rattle.std.proofs.lemmas.Bool.Decides.{nat_tests}
use Rattle.np_syntax.specs.declared.types.Cap.{Cap}
use Rattle.np_syntax.specs.declared.types.Cap.TheVariants as cap
use Rattle.np_syntax.specs.declared.types.Ty.{Ty}
use Rattle.np_syntax.specs.declared.types.Ty as ty
use Rattle.np_lex.specs.declared.token.Key.{Key}
use Rattle.np_lex.specs.declared.token.Sign.TheVariants as sign
use Rattle.np_lex.specs.declared.token.Token.{Token}
use Rattle.np_lex.specs.Tokens.{sign_at, word_at, name_at}
use Rattle.np_tree.specs.declared.tree.RawPat.{RawPat}
use Rattle.np_tree.specs.declared.tree.RawPatForm as form
use Rattle.np_tree.specs.Grammar as g
use Rattle.np_tree.specs.Grammar.{ident, pattern, IsGround, IsType, IsChan, IsPat, cap_sign}
use Rattle.np_parse.specs.Input.{peek, take, name}
use Rattle.np_parse.specs.Read.Tuples.{tuple_in}
use Rattle.np_parse.specs.Read.Types.{tuple_type, carried, chan_in, type_in, readers, chan, type}
use Rattle.np_parse.specs.Read.Patterns.{tuple_pattern, any, binder, pat_in, pat}
use Rattle.np_parse.proofs.Parts.{types_are, pats_are}
use Rattle.np_parse.proofs.Completes.{Gives, Complete, Opens, Follows, tuple_given}

-- whatever follows
abbrev pub Anything : List Token → Type 0
Anything rest = Unit {0}

-- ---- types

mutual
  some_type : {d : ℕ} {ts : List Token} {x : Ty} → IsType d ts x → 0 < d
  some_type (g.IsType.ground k) = omega arith
  some_type (g.IsType.channel r) = some_chan r
  some_type (g.IsType.tuple i j r) = omega arith

  some_chan : {d : ℕ} {ts : List Token} {x : Ty} → IsChan d ts x → 0 < d
  some_chan (g.IsChan.carries r) = omega arith

ground_opens : (at end : ℕ) (k : Key) (t : Ty) (rest : List Token) → IsGround k t → Opens (word_at at end k ∷ rest)
ground_opens at end k t rest p = record { first = word_at at end k; rest = rest; is = refl; no_close = tt }

cap_opens : (at end : ℕ) (c : Cap) (rest : List Token) → Opens (sign_at at end (cap_sign c) ∷ rest)
cap_opens at end cap.Both rest = record { first = sign_at at end sign.Caret; rest = rest; is = refl; no_close = tt }
cap_opens at end cap.Input rest = record { first = sign_at at end sign.Query; rest = rest; is = refl; no_close = tt }
cap_opens at end cap.Output rest = record { first = sign_at at end sign.Bang; rest = rest; is = refl; no_close = tt }

type_opens : {d : ℕ} {ts : List Token} {x : Ty} → IsType d ts x → (rest : List Token) → Opens (ts ++ rest)
type_opens (g.IsType.ground {at = at} {end = end} {k = k} {t = t} p) rest = ground_opens at end k t rest p
type_opens (g.IsType.channel (g.IsChan.carries {at = at} {end = end} {c = c} {ts = ts} r)) rest = cap_opens at end c (ts ++ rest)
type_opens (g.IsType.tuple i j r) rest = record { first = _; rest = _; is = refl; no_close = tt }

types_follow : Follows IsType Anything
types_follow = record { opens = λ {d} {ts} {x} p rest. type_opens p rest; stops = λ {d} {ts} {x} p rest. tt; close = λ i j rest. tt }

ground_reads : (b at end : ℕ) (k : Key) (t : Ty) (rest : List Token) → IsGround k t → type (suc b) (word_at at end k ∷ rest) ≡ Ok ((t, 1), rest)
unfolding readers type_in peek take
ground_reads b at end k t rest g.IsGround.int = refl
ground_reads b at end k t rest g.IsGround.truth = refl
ground_reads b at end k t rest g.IsGround.string = refl
ground_reads b at end k t rest g.IsGround.site = refl
ground_reads b at end k t rest g.IsGround.agent = refl

carried_reads : (b at end depth : ℕ) (c : Cap) (t : Ty) (us rest : List Token) → 0 < b → type b us ≡ Ok ((t, depth), rest)
    → carried (type b) b c (sign_at at end (cap_sign c) ∷ us) ≡ Ok ((ty.Chan c t, depth + 1), rest)
unfolding carried take
carried_reads b at end depth c t us rest some e =
    let no : nat_le b 0 ≡ false = grind (arith, nat_tests) in
    rw (no, e)

type_carries : (b at end : ℕ) (c : Cap) (us : List Token) → type (suc b) (sign_at at end (cap_sign c) ∷ us) ≡ carried (type b) b c (sign_at at end (cap_sign c) ∷ us)
unfolding readers type_in peek
type_carries b at end cap.Both us = refl
type_carries b at end cap.Input us = refl
type_carries b at end cap.Output us = refl

chan_carries : (b at end : ℕ) (c : Cap) (us : List Token) → chan (suc b) (sign_at at end (cap_sign c) ∷ us) ≡ carried (type b) b c (sign_at at end (cap_sign c) ∷ us)
unfolding readers chan_in peek
chan_carries b at end cap.Both us = refl
chan_carries b at end cap.Input us = refl
chan_carries b at end cap.Output us = refl

type_tuples : (b at end : ℕ) (us : List Token) → type (suc b) (sign_at at end sign.SquareOpen ∷ us) ≡ tuple_in (type b) tuple_type (sign_at at end sign.SquareOpen ∷ us)
unfolding readers type_in peek
type_tuples b at end us = refl

carried_given : (b : ℕ) → Complete IsType Anything b (type b) → (at end : ℕ) (c : Cap) {d : ℕ} {us : List Token} {t : Ty} → IsType d us t → suc d ≤ suc b → (rest : List Token)
    → Gives (suc d) (carried (type b) b c (sign_at at end (cap_sign c) ∷ (us ++ rest))) rest (ty.Chan c t)
carried_given b l at end c {us = us} {t = t} r h rest =
    let k = l.give r (omega arith) rest tt in
    record {
      depth = k.depth + 1;
      within = omega (arith, k.within);
      some = omega arith;
      reads = carried_reads b at end k.depth c t (us ++ rest) rest (omega (arith, some_type r)) k.reads;
    }

type_given : (b : ℕ) → Complete IsType Anything b (type b) → {d : ℕ} {ts : List Token} {x : Ty} → IsType d ts x → d ≤ suc b → (rest : List Token) → Gives d (type (suc b) (ts ++ rest)) rest x
type_given b l (g.IsType.ground {at = at} {end = end} {k = k} {t = t} p) h rest = record { depth = 1; within = omega arith; some = omega arith; reads = ground_reads b at end k t rest p }
type_given b l (g.IsType.channel (g.IsChan.carries {at = at} {end = end} {c = c} {ts = ts} r)) h rest =
    rw (type_carries b at end c (ts ++ rest)) (carried_given b l at end c r h rest)
type_given b l (g.IsType.tuple {at = at} {end = end} {ts = ts} i j r) h rest =
    rw (append_assoc ts (sign_at i j sign.SquareClose ∷ []) rest, type_tuples b at end (ts ++ sign_at i j sign.SquareClose ∷ rest))
    (tuple_given IsType Anything b (type b) l types_follow tuple_type (types_are r) (omega arith) at end i j rest)

pub complete_type : (b : ℕ) → Complete IsType Anything b (type b)
complete_type zero = record { give = λ {d} {ts} {x} p h rest s. absurd (omega (arith, some_type p)) }
complete_type (suc b) = record { give = λ {d} {ts} {x} p h rest s. type_given b (complete_type b) p h rest }

chan_given : (b : ℕ) {d : ℕ} {ts : List Token} {x : Ty} → IsChan d ts x → d ≤ suc b → (rest : List Token) → Gives d (chan (suc b) (ts ++ rest)) rest x
chan_given b (g.IsChan.carries {at = at} {end = end} {c = c} {ts = ts} r) h rest =
    rw (chan_carries b at end c (ts ++ rest)) (carried_given b (complete_type b) at end c r h rest)

pub complete_chan : (b : ℕ) → Complete IsChan Anything b (chan b)
complete_chan zero = record { give = λ {d} {ts} {x} p h rest s. absurd (omega (arith, some_chan p)) }
complete_chan (suc b) = record { give = λ {d} {ts} {x} p h rest s. chan_given b p h rest }

-- ---- patterns

pat_opens : {d : ℕ} {ts : List Token} {x : RawPat} → IsPat d ts x → (rest : List Token) → Opens (ts ++ rest)
pat_opens g.IsPat.any rest = record { first = _; rest = _; is = refl; no_close = tt }
pat_opens g.IsPat.bind rest = record { first = _; rest = _; is = refl; no_close = tt }
pat_opens (g.IsPat.tuple i j r) rest = record { first = _; rest = _; is = refl; no_close = tt }

pats_follow : Follows IsPat Anything
pats_follow = record { opens = λ {d} {ts} {x} p rest. pat_opens p rest; stops = λ {d} {ts} {x} p rest. tt; close = λ i j rest. tt }

some_pat : {d : ℕ} {ts : List Token} {x : RawPat} → IsPat d ts x → 0 < d
some_pat g.IsPat.any = omega arith
some_pat g.IsPat.bind = omega arith
some_pat (g.IsPat.tuple i j r) = omega arith

any_reads : (b at end : ℕ) (rest : List Token) → pat (suc b) (sign_at at end sign.Underscore ∷ rest) ≡ Ok ((pattern at form.Any, 1), rest)
unfolding pat pat_in peek any take
any_reads b at end rest = refl

bind_reads : (b at end : ℕ) (text : List ℕ) (rest : List Token) → pat (suc b) (name_at at end text ∷ rest) ≡ Ok ((pattern at (form.Bind (ident at text)), 1), rest)
unfolding pat pat_in peek binder name take
bind_reads b at end text rest = refl

pat_tuples : (b at end : ℕ) (us : List Token) → pat (suc b) (sign_at at end sign.SquareOpen ∷ us) ≡ tuple_in (pat b) tuple_pattern (sign_at at end sign.SquareOpen ∷ us)
unfolding pat pat_in peek
pat_tuples b at end us = refl

pat_given : (b : ℕ) → Complete IsPat Anything b (pat b) → {d : ℕ} {ts : List Token} {x : RawPat} → IsPat d ts x → d ≤ suc b → (rest : List Token) → Gives d (pat (suc b) (ts ++ rest)) rest x
pat_given b l (g.IsPat.any {at = at} {end = end}) h rest = record { depth = 1; within = omega arith; some = omega arith; reads = any_reads b at end rest }
pat_given b l (g.IsPat.bind {at = at} {end = end} {text = text}) h rest = record { depth = 1; within = omega arith; some = omega arith; reads = bind_reads b at end text rest }
pat_given b l (g.IsPat.tuple {at = at} {end = end} {ts = ts} i j r) h rest =
    rw (append_assoc ts (sign_at i j sign.SquareClose ∷ []) rest, pat_tuples b at end (ts ++ sign_at i j sign.SquareClose ∷ rest))
    (tuple_given IsPat Anything b (pat b) l pats_follow tuple_pattern (pats_are r) (omega arith) at end i j rest)

pub complete_pat : (b : ℕ) → Complete IsPat Anything b (pat b)
complete_pat zero = record { give = λ {d} {ts} {x} p h rest s. absurd (omega (arith, some_pat p)) }
complete_pat (suc b) = record { give = λ {d} {ts} {x} p h rest s. pat_given b (complete_pat b) p h rest }
