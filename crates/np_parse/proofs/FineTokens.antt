-- What is read where a single token is wanted.
use Rattle.std.proofs.Common.{◌≡◌, ℕ, List, [], ◌∷◌, ◌++◌, refl, ap, rules}
use Rattle.std.specs.Prelude.{Bool, true, false, cond}
use denote.Enum.Bare.{sameb, same_true}
use Rattle.np_lex.specs.declared.token.Key.{Key}
use Rattle.np_lex.specs.contracts.token.Key as keys
use Rattle.np_lex.specs.declared.token.Sign.{Sign}
use Rattle.np_lex.specs.contracts.token.Sign as signs
use Rattle.np_lex.specs.declared.token.Token.{Token}
use Rattle.np_lex.specs.declared.token.What.{What}
use Rattle.np_lex.specs.declared.token.What.TheVariants as what
use Rattle.np_lex.specs.Tokens.{token, sign_at, word_at, name_at}
use Rattle.np_tree.specs.declared.tree.Ident.{Ident}
use Rattle.np_tree.specs.Grammar.{ident}
use Rattle.np_parse.specs.Input.{peek, take, refuse, expect_sign, expect_word, name, expect_end}
use Rattle.np_parse.proofs.Fine.{Fine, fine_refuse}

-- a token is taken if it is the wanted one, and refused otherwise
wanted_fine : (wanted w : What) (V D : List Token → Type 0) (pre ts : List Token) (at end : ℕ) (b : Bool) → V pre → (b ≡ true → w ≡ wanted)
    → Fine V D (λ (place : ℕ) now. (e : ℕ) × (now ≡ pre ++ token place e wanted ∷ [])) pre (token at end w ∷ ts) (cond b take refuse (token at end w ∷ ts))
unfolding take
wanted_fine wanted w V D pre ts at end true v same = record { part = token at end w ∷ []; is = refl; holds = (end, ap (λ x. pre ++ token at end x ∷ []) (same refl)) }
wanted_fine wanted w V D pre ts at end false v same = fine_refuse V D pre (token at end w ∷ ts) v

abbrev pub SignRead : Sign → List Token → ℕ → List Token → Type 0
SignRead s pre at now = (end : ℕ) × (now ≡ pre ++ sign_at at end s ∷ [])

pub sign_fine : (s : Sign) (V D : List Token → Type 0) (pre ts : List Token) → V pre → Fine V D (SignRead s pre) pre ts (expect_sign s ts)
unfolding expect_sign peek
sign_fine s V D pre [] v = fine_refuse V D pre [] v
sign_fine s V D pre (t ∷ ts) v = go t.at t.end t.what
  where
    go : (at end : ℕ) (w : What) → Fine V D (SignRead s pre) pre (token at end w ∷ ts) (expect_sign s (token at end w ∷ ts))
    go at end (what.Sign k) = wanted_fine (what.Sign s) (what.Sign k) V D pre ts at end (sameb signs.the_type k s) v (λ e. ap what.Sign (same_true signs.the_type (search rules) k s e))
    go at end other = fine_refuse V D pre (token at end other ∷ ts) v

abbrev pub WordRead : Key → List Token → ℕ → List Token → Type 0
WordRead k pre at now = (end : ℕ) × (now ≡ pre ++ word_at at end k ∷ [])

pub word_fine : (k : Key) (V D : List Token → Type 0) (pre ts : List Token) → V pre → Fine V D (WordRead k pre) pre ts (expect_word k ts)
unfolding expect_word peek
word_fine k V D pre [] v = fine_refuse V D pre [] v
word_fine k V D pre (t ∷ ts) v = go t.at t.end t.what
  where
    go : (at end : ℕ) (w : What) → Fine V D (WordRead k pre) pre (token at end w ∷ ts) (expect_word k (token at end w ∷ ts))
    go at end (what.Word j) = wanted_fine (what.Word k) (what.Word j) V D pre ts at end (sameb keys.the_type j k) v (λ e. ap what.Word (same_true keys.the_type (search rules) j k e))
    go at end other = fine_refuse V D pre (token at end other ∷ ts) v

pub name_fine : (V D : List Token → Type 0) (P : Ident → List Token → Type 0) (pre ts : List Token) → V pre → ((at end : ℕ) (text : List ℕ) → P (ident at text) (pre ++ name_at at end text ∷ []))
    → Fine V D P pre ts (name ts)
unfolding name peek take
name_fine V D P pre [] v p = fine_refuse V D pre [] v
name_fine V D P pre (t ∷ ts) v p = go t.at t.end t.what
  where
    go : (at end : ℕ) (w : What) → Fine V D P pre (token at end w ∷ ts) (name (token at end w ∷ ts))
    go at end (what.Ident text) = record { part = name_at at end text ∷ []; is = refl; holds = p at end text }
    go at end other = fine_refuse V D pre (token at end other ∷ ts) v

abbrev pub EndRead : List Token → ℕ → List Token → Type 0
EndRead pre at now = (end : ℕ) × (now ≡ pre ++ token at end what.End ∷ [])

pub end_fine : (V D : List Token → Type 0) (pre ts : List Token) → V pre → Fine V D (EndRead pre) pre ts (expect_end ts)
unfolding expect_end peek take
end_fine V D pre [] v = fine_refuse V D pre [] v
end_fine V D pre (t ∷ ts) v = go t.at t.end t.what
  where
    go : (at end : ℕ) (w : What) → Fine V D (EndRead pre) pre (token at end w ∷ ts) (expect_end (token at end w ∷ ts))
    go at end what.End = record { part = token at end what.End ∷ []; is = refl; holds = (end, refl) }
    go at end other = fine_refuse V D pre (token at end other ∷ ts) v
