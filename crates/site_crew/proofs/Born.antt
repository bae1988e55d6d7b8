-- Which names are born where a run ends.
use Rattle.std.proofs.Common.{◌≡◌, ◌||◌, ◌⊎◌, inl, inr, ⊎_elim, Bool, true, false, List, [], ◌∷◌, length, Some, refl, sym, ap, subst, ◌∙◌}
use Rattle.std.specs.Prelude.{◌↔◌}
use Rattle.std.specs.FinSet as set
use Rattle.np_syntax.specs.declared.program.LowProgram.{LowProgram}
use Rattle.np_syntax.specs.declared.event.Made.{Made}
use Rattle.np_syntax.specs.declared.event.Made.TheVariants as made
use Rattle.np_tables.specs.Names.{NameSet, same_name}
use Rattle.np_tables.proofs.Tables.{born_insert, same_name-is}
use Rattle.np_calculus.proofs.Common.{Config, Event, Name, apply, done, then}
use Rattle.np_calculus.specs.Changes.{with_made}
use Rattle.np_calculus.specs.FrameRule.{IsMade}
use Rattle.np_calculus.specs.Reductions.{run}
use Rattle.np_calculus.specs.Starts.{own_names, start_low}
use Rattle.np_calculus.proofs.FrameRule.{made-born, still-born}
use Rattle.np_calculus.proofs.Steps.{row-step}
use Rattle.np_site_runs.specs.merged.Elements.{Occurs}

one-of : (t b : Bool) → (t || b) ≡ true → (t ≡ true) ⊎ (b ≡ true)
one-of true b h = inl refl
one-of false b h = inr h

insert-cases : (born : NameSet) (k q : Name) → set.contains (set.insert born k) q ≡ true → (q ≡ k) ⊎ (set.contains born q ≡ true)
insert-cases born k q h = ⊎_elim (λ t. inl (same_name-is q k t)) (λ b. inr b) (one-of (same_name q k) (set.contains born q) (sym (born_insert born k q) ∙ h))

made-cases : (born : NameSet) (x : Made) (q : Name) → set.contains (with_made born x) q ≡ true → (set.contains born q ≡ true) ⊎ IsMade x q
made-cases born made.Nothing q h = inl h
made-cases born (made.One m) q h = ⊎_elim (λ is. inr is) (λ b. inl b) (insert-cases born m q h)
made-cases born (made.Two m n) q h =
    ⊎_elim (λ is. inr (inr is)) (λ b. ⊎_elim (λ is. inr (inl is)) (λ b. inl b) (insert-cases born m q b)) (insert-cases (set.insert born m) n q h)

born-after : (c d : Config) (e : Event) → apply c e ≡ Some d → d.born ≡ with_made c.born e.made
born-after c d e h = ap (λ (x : Config). x.born) (row-step c e d e.kind h).is

-- what was born before, and what the events have made
pub born-along : (es : List Event) (c d : Config) (q : Name) → run c es ≡ Some d
    → (set.contains d.born q ≡ true) ↔ ((set.contains c.born q ≡ true) ⊎ Occurs (λ e. IsMade e.made q) es)
born-along [] c d q h =
    let same : d.born ≡ c.born = ap (λ (x : Config). x.born) (done h) in (
      λ b. inl (sym (ap (λ s. set.contains s q) same) ∙ b),
      λ o. ⊎_elim (λ b. ap (λ s. set.contains s q) same ∙ b) (λ none. absurd none) o,
    )
born-along (e ∷ es) c d q h =
    then (apply c e) (λ x. run x es) h λ x first h.
    let more = born-along es x d q h in
    let now : set.contains x.born q ≡ set.contains (with_made c.born e.made) q = ap (λ s. set.contains s q) (born-after c x e first) in (
      λ b. ⊎_elim (λ was. ⊎_elim (λ old. inl old) (λ is. inr (inl is)) (made-cases c.born e.made q (sym now ∙ was))) (λ later. inr (inr later)) (more.0 b),
      λ o. more.1 (⊎_elim (λ old. inl (now ∙ still-born c.born e.made q old)) (λ made_now. ⊎_elim (λ is. inl (now ∙ made-born c.born e.made q is)) (λ later. inr later) made_now) o),
    )

low-born : (q : LowProgram) → (start_low q).born ≡ own_names (length q.sites)
unfolding start_low
low-born q = refl

pub born-low : (p : LowProgram) (es : List Event) (d : Config) (q : Name) → run (start_low p) es ≡ Some d
    → (set.contains d.born q ≡ true) ↔ ((set.contains (own_names (length p.sites)) q ≡ true) ⊎ Occurs (λ e. IsMade e.made q) es)
born-low p es d q h =
    subst (λ s. (set.contains d.born q ≡ true) ↔ ((set.contains s q ≡ true) ⊎ Occurs (λ e. IsMade e.made q) es)) (low-born p) (born-along es (start_low p) d q h)
