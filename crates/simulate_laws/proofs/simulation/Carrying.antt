-- The letters that things of one mark carry: the first thing's, and no other.
use Rattle.std.proofs.Common.{◌≡◌, Option, None, Some, List, [], ◌∷◌, option_map, refl, sym, ap}
use Rattle.std.specs.List.{All, filter_map}
use Rattle.std.proofs.lemmas.List.Elements.{All-head, All-tail}
use Rattle.np_syntax.specs.Options.{◌>>=◌}
use Rattle.np_syntax.proofs.Options.{done}
use Rattle.np_lift.specs.Posts.{Letter}
use Rattle.simulate_laws.specs.things.Mail.{Posted, as_output}
use Rattle.simulate_laws.specs.things.Things.{IsHeaded, Thing, carried, first_atom_of, high_atom}
use Rattle.simulate_laws.specs.levels.Letters.{as_letter, first_letter_of}
use Rattle.simulate_laws.proofs.levels.Letters.{low-carries-none}
use Rattle.simulate_laws.specs.simulation.UnderWay.{carried_letter, letters_of, listed}

one-more : (o : Option Letter) (t : Thing) (ts : List Thing) → carried_letter t ≡ o → filter_map carried_letter ts ≡ []
    → filter_map carried_letter (t ∷ ts) ≡ listed o
one-more None t ts e h = rw e h
one-more (Some l) t ts e h = rw e (ap (λ x. l ∷ x) h)

no-others : (ts : List Thing) → All (λ u. high_atom u ≡ None) ts → filter_map carried_letter ts ≡ []
no-others [] h = refl
no-others (t ∷ ts) h =
    one-more None t ts (ap (option_map as_letter) (low-carries-none t (All-head (λ u. high_atom u ≡ None) t ts h)))
    (no-others ts (All-tail (λ u. high_atom u ≡ None) t ts h))

pub headed-letters : (ts : List Thing) → IsHeaded ts → letters_of (Some ts) ≡ listed (option_map as_letter (first_letter_of ts))
headed-letters [] h = absurd h
headed-letters (t ∷ ts) h = one-more (carried_letter t) t ts refl (no-others ts h)

-- a thing that carries a letter is its output at the high level
pub carried-output : (t : Thing) (p : Posted) → carried t ≡ Some p → high_atom t ≡ Some (as_output p)
carried-output (Thing.opening q) p h = ap (λ o. do r ← o; Some (as_output r)) h
carried-output (Thing.carrying q t a) p h = ap (λ o. do r ← o; Some (as_output r)) h
carried-output (Thing.trying q t a) p h = ap (λ o. do r ← o; Some (as_output r)) h
carried-output (Thing.mail m stage) p h = ap (λ o. do r ← o; Some (as_output r)) h
carried-output (Thing.taken m) p h = ap (λ o. do r ← o; Some (as_output r)) h
carried-output (Thing.looking m ps) p h = ap (λ o. do r ← o; Some (as_output r)) h
carried-output (Thing.wanting m l) p h = ap (λ o. do r ← o; Some (as_output r)) h
carried-output _ p h = absurd cc

-- so is what carries it first of several
pub record CarriesFirst (o : Option (List Thing)) (l : Letter) : Type 0 where
  pub letter : Posted
  pub carried : (o >>= first_letter_of) ≡ Some letter
  pub is : as_letter letter ≡ l
  pub stands : (o >>= first_atom_of) ≡ Some (as_output letter)

pub carries-first : (o : Option (List Thing)) (l : Letter) → option_map as_letter (o >>= first_letter_of) ≡ Some l → CarriesFirst o l
carries-first None l h = absurd cc
carries-first (Some []) l h = absurd cc
carries-first (Some (t ∷ ts)) l h = go (carried t) refl h
  where
    go : (c : Option Posted) → carried t ≡ c → option_map as_letter c ≡ Some l → CarriesFirst (Some (t ∷ ts)) l
    go None e k = absurd cc
    go (Some p) e k = record { letter = p; carried = e; is = sym (done k); stands = carried-output t p e }
