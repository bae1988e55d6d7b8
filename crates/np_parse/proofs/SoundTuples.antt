-- A tuple that is read is in the grammar, and what is refused in one cannot go on.
use Rattle.std.proofs.Common.{◌≡◌, ℕ, zero, suc, ◌+◌, ◌<◌, ◌≤◌, max, inl, inr, List, [], ◌∷◌, ◌++◌, Ok, refl, sym, subst, append_assoc, append-nil, add-one, arith}
use Rattle.np_syntax.specs.declared.limits.TheConstants.{MOST_PARTS}
use Rattle.np_lex.specs.declared.token.Sign.TheVariants as sign
use Rattle.np_lex.specs.declared.token.Token.{Token}
use Rattle.np_lex.specs.declared.token.What.{What}
use Rattle.np_lex.specs.declared.token.What.TheVariants as what
use Rattle.np_lex.specs.Tokens.{token, sign_at}
use Rattle.np_parse.specs.Input.{Parser, and_then, peek, take}
use Rattle.np_parse.specs.Read.Tuples.{Sized, parts, tuple_in}
use Rattle.np_parse.proofs.Fine.{Fine, fine_then, fine_part, fine_refuse, fine_take, fine_done, BeginsIn, OrEmpty, AnyIn, ReadIn, FineIn, Raises, Reader}
use Rattle.np_parse.proofs.Parts.{Are, raise_are, raise_room}

-- a part of the grammar that has tuples of these parts
pub record Tuples {A : Type 0} (Is W : ℕ → List Token → A → Type 0) (made : ℕ → List A → A) : Type 0 where
  pub tuple : {d at end : ℕ} {ts : List Token} {xs : List A} (a b : ℕ) → Are Is MOST_PARTS d ts xs
      → W (suc d) (sign_at at end sign.SquareOpen ∷ (ts ++ sign_at a b sign.SquareClose ∷ [])) (made at xs)

module _ {A : Type 0} (Is W : ℕ → List Token → A → Type 0) (made : ℕ → List A → A) (raises : Raises Is) (tuples : Tuples Is W made) where
  -- the tuple whose parts so far these are, with a bracket behind them
  ends_here : (b at end i j n m : ℕ) (u : List Token) (items : List A) → n ≤ MOST_PARTS → m ≤ b → Are Is n m u items
      → W (suc b) ((sign_at at end sign.SquareOpen ∷ u) ++ sign_at i j sign.SquareClose ∷ []) (made at items)
  ends_here b at end i j n m u items few low p = tuples.tuple i j (raise_are raises (raise_room p MOST_PARTS few) b low)

  parts_begin : (b at end n m : ℕ) (u : List Token) (items : List A) → n ≤ MOST_PARTS → m ≤ b → Are Is n m u items → BeginsIn W (suc b) (sign_at at end sign.SquareOpen ∷ u)
  parts_begin b at end n m u items few low p = (sign_at 0 0 sign.SquareClose ∷ [], _, ends_here b at end 0 0 n m u items few low p)

  one_more : (b at end n m : ℕ) (u : List Token) (items : List A) → n < MOST_PARTS → m ≤ b → Are Is n m u items → (s : List Token) → BeginsIn Is b s
      → BeginsIn W (suc b) ((sign_at at end sign.SquareOpen ∷ u) ++ s)
  one_more b at end n m u items few low p s v =
      let close_ = sign_at 0 0 sign.SquareClose ∷ [] in
      let same : (u ++ (s ++ v.0)) ++ close_ ≡ (u ++ s) ++ (v.0 ++ close_) = simp append_assoc in (
        v.0 ++ close_,
        _,
        subst (λ l. W (suc b) (sign_at at end sign.SquareOpen ∷ l) (made at (items ++ v.1 ∷ []))) same
            (ends_here b at end 0 0 (suc n) b (u ++ (s ++ v.0)) (items ++ v.1 ∷ []) (omega arith) (omega arith) (Are.part (raise_are raises p b low) v.2)),
      )

  part_begins : (b at end n m : ℕ) (u : List Token) (items : List A) → n < MOST_PARTS → m ≤ b → Are Is n m u items → (s : List Token) → OrEmpty (BeginsIn Is b) s
      → OrEmpty (BeginsIn W (suc b)) ((sign_at at end sign.SquareOpen ∷ u) ++ s)
  part_begins b at end n m u items few low p s (inl empty) =
      let same : (sign_at at end sign.SquareOpen ∷ u) ++ s ≡ sign_at at end sign.SquareOpen ∷ u = rw (empty, append-nil (sign_at at end sign.SquareOpen ∷ u)) in
      subst (OrEmpty (BeginsIn W (suc b))) (sym same) (inr (parts_begin b at end n m u items (omega arith) low p))
  part_begins b at end n m u items few low p s (inr v) = inr (one_more b at end n m u items few low p s v)

  part_any : (at end n m : ℕ) (u : List Token) (items : List A) → n < MOST_PARTS → Are Is n m u items → (s : List Token) → AnyIn Is s → AnyIn W ((sign_at at end sign.SquareOpen ∷ u) ++ s)
  part_any at end n m u items few p s v =
      let b : ℕ = max m v.0 in
      (suc b, one_more b at end n m u items few (omega arith) p s (v.1.0, v.1.1, raises.raise v.1.2 b (omega arith)))

  -- what comes of the parts
  abbrev Closed : ℕ → ℕ → Sized (List A) → List Token → Type 0
  Closed b at xs s = (xs.1 ≤ b) × W (suc xs.1) s (made at xs.0)

  module _ (b at end : ℕ) (inner : Parser (Sized A)) (l : Reader Is b inner) where
    abbrev PartsFine : ℕ → Type 0
    PartsFine room = (n m : ℕ) (items : List A) (u : List Token) → n + room ≡ MOST_PARTS → m ≤ b → Are Is n m u items → (ts : List Token)
        → Fine (OrEmpty (BeginsIn W (suc b))) (AnyIn W) (Closed b at) (sign_at at end sign.SquareOpen ∷ u) ts (parts inner room items m ts)

    next_part : (room : ℕ) → PartsFine room → (n m : ℕ) (items : List A) (u : List Token) → n + suc room ≡ MOST_PARTS → m ≤ b → Are Is n m u items → (ts : List Token)
        → Fine (OrEmpty (BeginsIn W (suc b))) (AnyIn W) (Closed b at) (sign_at at end sign.SquareOpen ∷ u) ts
        (and_then (inner ts) (λ x. parts inner room (items ++ x.0 ∷ []) (max m x.1)))
    next_part room again n m items u few low p ts =
        let open_ = sign_at at end sign.SquareOpen ∷ u in
        let V : List Token → Type 0 = OrEmpty (BeginsIn W (suc b)) in
        let P : Sized A → List Token → Type 0 = λ x s. (x.1 ≤ b) × (v : List Token) × (s ≡ open_ ++ v) × Is x.1 v x.0 in
        fine_then V (AnyIn W) P (Closed b at) open_ ts (inner ts) (λ x. parts inner room (items ++ x.0 ∷ []) (max m x.1))
        (fine_part V (AnyIn W) (OrEmpty (BeginsIn Is b)) (AnyIn Is) P (ReadIn Is b) open_ ts (inner ts)
        (part_begins b at end n m u items (omega arith) low p)
        (part_any at end n m u items (omega arith) p)
        (λ x s q. (q.0, s, refl, q.2))
        (l.fine ts))
        (λ x now rest q.
        let k : ℕ = max m x.1 in
        rw q.2 (again (suc n) k (items ++ x.0 ∷ []) (u ++ q.1) (omega arith) (omega (arith, q.0))
        (Are.part (raise_are raises p k (omega arith)) (raises.raise q.3 k (omega arith))) rest))

    parts_fine : (room : ℕ) → PartsFine room
    unfolding parts peek take
    parts_fine zero n m items u few low p [] = fine_refuse _ _ _ _ (inr (parts_begin b at end n m u items (omega arith) low p))
    parts_fine zero n m items u few low p (t ∷ ts) = go t.at t.end t.what
      where
        go : (i j : ℕ) (w : What) → Fine (OrEmpty (BeginsIn W (suc b))) (AnyIn W) (Closed b at) (sign_at at end sign.SquareOpen ∷ u) (token i j w ∷ ts)
            (parts inner zero items m (token i j w ∷ ts))
        go i j (what.Sign sign.SquareClose) = record { part = sign_at i j sign.SquareClose ∷ []; is = refl; holds = (low, ends_here m at end i j n m u items (omega arith) (omega arith) p) }
        go i j other = fine_refuse (OrEmpty (BeginsIn W (suc b))) (AnyIn W) _ (token i j other ∷ ts) (inr (parts_begin b at end n m u items (omega arith) low p))
    parts_fine (suc room) n m items u few low p [] = fine_refuse _ _ _ _ (inr (parts_begin b at end n m u items (omega arith) low p))
    parts_fine (suc room) n m items u few low p (t ∷ ts) = go t.at t.end t.what (parts_fine room)
      where
        go : (i j : ℕ) (w : What) → PartsFine room → Fine (OrEmpty (BeginsIn W (suc b))) (AnyIn W) (Closed b at) (sign_at at end sign.SquareOpen ∷ u) (token i j w ∷ ts)
            (parts inner (suc room) items m (token i j w ∷ ts))
        go i j (what.Sign sign.SquareClose) again =
            record { part = sign_at i j sign.SquareClose ∷ []; is = refl; holds = (low, ends_here m at end i j n m u items (omega arith) (omega arith) p) }
        go i j other again = next_part room again n m items u few low p (token i j other ∷ ts)

    pub tuple_fine : (ts : List Token) → FineIn W (suc b) [] (sign_at at end sign.SquareOpen ∷ ts) (tuple_in inner made (sign_at at end sign.SquareOpen ∷ ts))
    unfolding tuple_in take
    tuple_fine ts =
        let V : List Token → Type 0 = OrEmpty (BeginsIn W (suc b)) in
        let open_ = sign_at at end sign.SquareOpen in
        fine_take V (AnyIn W) (ReadIn W (suc b)) [] open_ ts (and_then (parts inner MOST_PARTS [] 0 ts) (λ xs r. Ok ((made at xs.0, xs.1 + 1), r)))
        (fine_then V (AnyIn W) (Closed b at) (ReadIn W (suc b)) (open_ ∷ []) ts (parts inner MOST_PARTS [] 0 ts) (λ xs r. Ok ((made at xs.0, xs.1 + 1), r))
        (parts_fine MOST_PARTS 0 0 [] [] (omega arith) (omega arith) Are.none ts)
        (λ xs now rest q. fine_done (ReadIn W (suc b)) now rest (made at xs.0, xs.1 + 1) (omega (arith, q.0), omega arith, rw add-one q.1)))
