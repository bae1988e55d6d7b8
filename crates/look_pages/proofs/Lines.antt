-- The line of an event, cut out of a history that has no other.
use Rattle.std.proofs.Common.{◌≡◌, ℕ, ◌+◌, ◌-◌, List, [], ◌∷◌, ◌++◌, ◌≤◌, append_assoc, length, take, drop, refl, arith, ap, sym, subst, ◌∙◌}
use Rattle.std.specs.Prelude.{codes}
use Rattle.std.proofs.lemmas.List.{drop_at, length-append, take_at}
use Rattle.np_syntax.specs.declared.event.Event.{Event}
use Rattle.history_text.specs.Spelling.{event_line, history_text}
use Rattle.history_text.specs.declared.format.Format.TheVariants.{First}

-- what stands between a front and a back
pub cut-out : (before line behind all front : List ℕ) (n m : ℕ) → all ≡ (before ++ line) ++ behind → n + length behind ≡ length all
    → front ≡ take n all → length before ≡ m → drop m front ≡ line
cut-out before line behind all front n m is ends cut begins =
    let both : length ((before ++ line) ++ behind) ≡ length (before ++ line) + length behind = length-append (before ++ line) behind in
    let long : length (before ++ line) ≡ n = omega (arith, ap length is, both, ends) in
    ap (drop m) (cut ∙ ap (take n) is ∙ take_at (before ++ line) behind n long) ∙ drop_at before line m begins

-- a history of one event
pub one-event : (e : Event) → history_text First (e ∷ []) ≡ (codes "history 1\n" ++ event_line First e) ++ codes "\nend\n"
one-event e =
    let line = event_line First e in
    ap (λ l. codes "history 1\n" ++ l) (append_assoc line (codes "\n") (codes "end\n"))
    ∙ sym (append_assoc (codes "history 1\n") line (codes "\nend\n"))

pub long : (e : Event) → 15 ≤ length (history_text First (e ∷ []))
long e =
    let front = codes "history 1\n" ++ event_line First e in
    omega (arith, ap length (one-event e), length-append front (codes "\nend\n"), length-append (codes "history 1\n") (event_line First e))

-- what stands between the first line and the last
pub line-cut : (e : Event) (all : List ℕ) → all ≡ history_text First (e ∷ []) → drop 10 (take (length all - 5) all) ≡ event_line First e
line-cut e all is =
    let most : 15 ≤ length all = subst (λ l. 15 ≤ length l) (sym is) (long e) in
    cut-out (codes "history 1\n") (event_line First e) (codes "\nend\n") all (take (length all - 5) all) (length all - 5) 10 (is ∙ one-event e) (omega arith) refl refl
