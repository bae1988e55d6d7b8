-- What a turn of the loop over the sites does.
use Rattle.std.proofs.Common.{◌≡◌, ℕ, ◌<◌, List, [], ◌∷◌, ◌++◌, Ok, Err, length, refl, ap, subst, arith}
use Rattle.std.specs.Prelude.{true, false}
use Rattle.np_lex.specs.declared.token.Sign.TheVariants as sign
use Rattle.np_lex.specs.declared.token.Token.{Token}
use Rattle.np_lex.specs.declared.token.What.{What}
use Rattle.np_lex.specs.declared.token.What.TheVariants as what
use Rattle.np_lex.specs.Tokens.{token}
use Rattle.np_tree.specs.declared.tree.Ident.{Ident}
use Rattle.np_parse.specs.declared.fail.ParseFail.{ParseFail}
use Rattle.np_parse.specs.declared.fail.ParseFail.TheVariants as fail
use Rattle.np_parse.specs.Input.{and_then, peek, take, name}
use Rattle.np_parse.specs.Read.Programs.{ends, sites}

module _ (found : List Ident) where
  pub sites_refused : (ts : List Token) (e : ParseFail × List Token) → peek ts ≡ Err e → sites found ts ≡ Err e
  unfolding peek sites
  sites_refused [] e p = let same : (let q : ParseFail × List Token = (fail.Syntax 0, []) in q) ≡ e = cc in rw same
  sites_refused (t ∷ ts) e p = absurd (cc)

  pub sites_ended : (ts : List Token) (w : What) (a : ℕ) (rest : List Token) → peek ts ≡ Ok (w, ts) → ends w ≡ true → take ts ≡ Ok (a, rest) → sites found ts ≡ Ok (found, rest)
  unfolding peek take sites
  sites_ended [] w a rest p e q = absurd (cc)
  sites_ended (t ∷ ts) w a rest p e q =
      let pair : (let r : What × List Token = (t.what, t ∷ ts) in r) ≡ (w, t ∷ ts) = cc in
      let same : t.what ≡ w = ap (λ (r : What × List Token). r.0) pair in
      let last : (let r : ℕ × List Token = (t.at, ts) in r) ≡ (a, rest) = cc in
      let left : ts ≡ rest = ap (λ (r : ℕ × List Token). r.1) last in
      subst (λ l. sites found (t ∷ ts) ≡ Ok (found, l)) left (go t.at t.end t.what (rw same e))
    where
      go : (at end : ℕ) (w : What) → ends w ≡ true → sites found (token at end w ∷ ts) ≡ Ok (found, ts)
      go at end (what.Sign sign.Semi) e = refl
      go at end w e = absurd (cc)

  pub sites_unended : (ts : List Token) (w : What) (f : ParseFail × List Token) → peek ts ≡ Ok (w, ts) → take ts ≡ Err f → sites found ts ≡ Err f
  unfolding peek take
  sites_unended [] w f p q = absurd (cc)
  sites_unended (t ∷ ts) w f p q = absurd (cc)

  next : (ts : List Token) (w : What) → peek ts ≡ Ok (w, ts) → ends w ≡ false → sites found ts ≡ and_then (name ts) (λ x. sites (found ++ x ∷ []))
  unfolding peek take name sites
  next [] w p e = absurd (cc)
  next (t ∷ ts) w p e =
      let pair : (let r : What × List Token = (t.what, t ∷ ts) in r) ≡ (w, t ∷ ts) = cc in
      let same : t.what ≡ w = ap (λ (r : What × List Token). r.0) pair in
      go t.at t.end t.what (rw same e)
    where
      go : (at end : ℕ) (w : What) → ends w ≡ false → sites found (token at end w ∷ ts) ≡ and_then (name (token at end w ∷ ts)) (λ x. sites (found ++ x ∷ []))
      go at end (what.Sign sign.Semi) e = absurd (cc)
      go at end w e = refl

  pub sites_stuck : (ts : List Token) (w : What) (f : ParseFail × List Token) → peek ts ≡ Ok (w, ts) → ends w ≡ false → name ts ≡ Err f → sites found ts ≡ Err f
  sites_stuck ts w f p e q = rw (next ts w p e, q)

  pub sites_step : (ts : List Token) (w : What) (x : Ident) (rest : List Token) → peek ts ≡ Ok (w, ts) → ends w ≡ false → name ts ≡ Ok (x, rest)
      → sites found ts ≡ sites (found ++ x ∷ []) rest
  sites_step ts w x rest p e q = rw (next ts w p e, q)

pub name_takes : (ts : List Token) (x : Ident) (rest : List Token) → name ts ≡ Ok (x, rest) → length rest < length ts
unfolding peek take name
name_takes [] x rest e = absurd (cc)
name_takes (t ∷ ts) x rest e = go t.at t.end t.what e
  where
    go : (at end : ℕ) (w : What) → name (token at end w ∷ ts) ≡ Ok (x, rest) → length rest < length (token at end w ∷ ts)
    go at end (what.Ident text) e =
        let pair : (let r : Ident × List Token = (record { at = at; text = text }, ts) in r) ≡ (x, rest) = cc in
        let same : ts ≡ rest = ap (λ (r : Ident × List Token). r.1) pair in
        let less : length ts < length (token at end (what.Ident text) ∷ ts) = omega arith in
        subst (λ l. length l < length (token at end (what.Ident text) ∷ ts)) same less
    go at end w e = absurd (cc)
