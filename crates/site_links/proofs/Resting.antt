-- What is told of a link that is at rest.
use Rattle.std.proofs.Common.{◌≡◌, ℕ, ◌-◌, Bool, false, List, [], ◌++◌, length, ap, sym, ◌∙◌}
use Rattle.std.proofs.Math.Logic.{∥∥₁_elim}
use Rattle.std.proofs.Props.{props}
use Rattle.std.proofs.lemmas.List.{append-nil}
use Rattle.std.specs.Coded.{Coded, Coded-set, coded_list}
use Rattle.site_links.specs.declared.places.TheConstants.{PLACES}
use Rattle.site_links.specs.Words.{IsAtRest, RestsUnless}

module _ {I : Type 0} {put seen : Bool} {sent got known : List I} {room : ℕ} (coded : Coded I) (rests : ∥ RestsUnless put seen sent got known room ∥₁) (not_put : put ≡ false) (not_seen : seen ≡ false) where
  pub rest_settled : got ++ known ≡ sent
  rest_settled = ∥∥₁_elim rests (Coded-set (coded_list coded) (got ++ known) sent)
      (λ r. let h = r not_put not_seen in ap (λ l. got ++ l) h.none_known ∙ (append-nil got ∙ h.all_taken))

  pub rest_none : 0 ≡ length known
  rest_none = ∥∥₁_elim rests (Prim.hlevel props) (λ r. let h = r not_put not_seen in sym (ap length h.none_known))

  pub rest_free : room ≡ PLACES - length known
  rest_free = ∥∥₁_elim rests (Prim.hlevel props) (λ r. let h = r not_put not_seen in h.all_free ∙ ap (λ n. PLACES - n) (sym (ap length h.none_known)))
