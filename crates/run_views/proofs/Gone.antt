-- A mark whose atom has printed is touched by no later event of the run.
use Rattle.std.proofs.Common.{◌≡◌, ◌⊎◌, inl, ⊎_elim, ℕ, zero, suc, true, false, List, [], ◌∷◌, Option, None, Some, IsSome, refl, ap, sym, subst, ◌∙◌}
use Rattle.std.specs.FinSet as set
use Rattle.np_calculus.proofs.Common.{Name, Event, then, Config, Contents, inside, change, apply}
use Rattle.np_syntax.specs.declared.event.Kind.TheVariants as kind
use Rattle.np_calculus.specs.Footprints.{touches}
use Rattle.np_calculus.specs.FrameRule.{IsMade, changed}
use Rattle.np_calculus.specs.Parts.{AreBorn, IsMark}
use Rattle.np_calculus.specs.Reductions.{run}
use Rattle.np_calculus.proofs.Fits.{fits}
use Rattle.np_calculus.proofs.FrameRule.{lacks, made-unborn, still-born}
use Rattle.np_calculus.proofs.OwnNames.{not_true}
use Rattle.np_calculus.proofs.Steps.{RowStep, row-step}
use Rattle.np_calculus.proofs.Writes.{inside-effect, mark-changed}
use Rattle.run_views.specs.Laws.{HasSingleMarks}
use Rattle.run_views.specs.Past.{Thing, each_of, is_among, is_touched, traces}
use Rattle.run_views.proofs.Among.{among-every}
use Rattle.run_views.proofs.Following.{false-true}
use Rattle.run_views.proofs.Traced.{print-cuts, traced}

-- a name that is born, and is no mark
pub record IsGone (q : Name) (c : Config) : Type 0 where
  pub born : set.contains c.born q ≡ true
  pub none : IsMark (inside c) q → ⊥

some_none : {A : Type 0} (o : Option A) → IsSome o → o ≡ None → ⊥
some_none None h e = cc
some_none (Some x) h e = cc

module _ (c d : Config) (e : Event) (h : apply c e ≡ Some d) where
  abbrev s : RowStep c e d e.kind
  s = row-step c e d e.kind h

  inside-next : inside d ≡ changed (inside c) s.made
  inside-next = ap inside s.is ∙ inside-effect c e s.made

  pub single-kept : AreBorn c → HasSingleMarks c → HasSingleMarks d
  single-kept born single = record {
    each = subst (λ (x : Contents). (q : Name) → IsSome (x.atom q) → x.packet q ≡ None) (sym inside-next)
        ((traced c.sites (inside c) e s.made e.kind s.gives).apart.after single.each (λ q is. (lacks (inside c) q (λ m. false-true _ (born.marks q m) (made-unborn c.born e.made q s.new is))).packet));
  }

  -- a mark that is gone is not touched, and stays so
  pub gone-untouched : (q : Name) → IsGone q c → is_among q (touches e.kind (inside c) e).marks ≡ false
  gone-untouched q gone = not_true _ (λ t. gone.none (among-every (IsMark (inside c)) q _ (traced c.sites (inside c) e s.made e.kind s.gives).there t))

  pub gone-kept : (q : Name) → IsGone q c → IsGone q d
  gone-kept q gone = record {
    born = subst (λ (d : Config). set.contains d.born q ≡ true) (sym s.is) (still-born c.born e.made q gone.born);
    none = λ is. ⊎_elim gone.none (λ made. false-true _ gone.born (made-unborn c.born e.made q s.new made))
        (mark-changed (λ q. IsSome ((inside c).place q) ⊎ IsMade e.made q) (λ q. IsMark (inside c) q ⊎ IsMade e.made q) (inside c) s.made
        (fits c.sites (inside c) e s.made s.gives).own (λ q is. inl is) q (subst (λ x. IsMark x q) inside-next is));
  }

  -- the mark of an atom that prints is gone
  pub printed-gone : AreBorn c → HasSingleMarks c → e.kind ≡ kind.Print → IsGone e.actor d
  printed-gone born single is =
      let p = print-cuts c.sites (inside c) e s.made (subst (λ k. change k c.sites (inside c) e ≡ Some s.made) is s.gives) in
      record {
        born = subst (λ (d : Config). set.contains d.born e.actor ≡ true) (sym s.is) (still-born c.born e.made e.actor (born.marks e.actor (inl p.stands)));
        none = λ m. ⊎_elim
            (λ atom. some_none _ atom p.atom)
            (λ packet. some_none _ packet (p.packet ∙ single.each e.actor p.stands))
            (subst (λ x. IsMark x e.actor) inside-next m);
      }

-- no later event of the run touches it
pub gone-along : (q : Name) (es : List Event) (c last : Config) → IsGone q c → run c es ≡ Some last → (n : ℕ)
    → is_touched (traces c es) n (Thing.mark q) ≡ false
gone-along q [] c last gone h n = refl
gone-along q (e ∷ es) c last gone h zero = then (apply c e) _ h λ d first h. gone-untouched c d e first q gone
gone-along q (e ∷ es) c last gone h (suc n) = then (apply c e) _ h λ d first h.
    ap (λ o. is_touched (each_of o (λ d. traces d es)) n (Thing.mark q)) first ∙ gone-along q es d last (gone-kept c d e first q gone) h n
