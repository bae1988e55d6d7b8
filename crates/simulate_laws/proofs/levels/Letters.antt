-- Letters under way where other things are put under a mark.
use Rattle.std.proofs.Common.{◌≡◌, Bool, true, false, cond, Option, None, Some, List, refl, sym, ap, ◌∙◌}
use Rattle.std.specs.FinMap as map
use Rattle.np_syntax.specs.declared.value.Name.{Name}
use Rattle.np_syntax.specs.Options.{◌>>=◌}
use Rattle.np_tables.specs.Names.{NameMap, same_name}
use Rattle.np_tables.proofs.Tables.{get-put, same_name-is}
use Rattle.simulate_laws.specs.things.Mail.{Posted, as_output}
use Rattle.simulate_laws.specs.things.Things.{Thing, carried, high_atom}
use Rattle.simulate_laws.specs.levels.Letters.{first_letter_of, letter_under}

no-letter : (o : Option Posted) → (do p ← o; Some (as_output p)) ≡ None → o ≡ None
no-letter None h = refl
no-letter (Some p) h = absurd cc

-- a thing that is nothing of the high level carries no letter
pub low-carries-none : (t : Thing) → high_atom t ≡ None → carried t ≡ None
low-carries-none (Thing.opening p) h = absurd cc
low-carries-none (Thing.carrying p t a) h = absurd cc
low-carries-none (Thing.trying p t a) h = absurd cc
low-carries-none (Thing.mail m stage) h = no-letter (carried (Thing.mail m stage)) h
low-carries-none (Thing.taken m) h = no-letter (carried (Thing.taken m)) h
low-carries-none (Thing.looking m ps) h = no-letter (carried (Thing.looking m ps)) h
low-carries-none (Thing.wanting m l) h = no-letter (carried (Thing.wanting m l)) h
low-carries-none _ h = refl

module _ (things : NameMap (List Thing)) (m : Name) (us : List Thing) where
  pub letter-put : (q : Name) → letter_under (map.insert things m us) q ≡ cond (same_name q m) (first_letter_of us) (letter_under things q)
  letter-put q = ap (λ o. o >>= first_letter_of) (get-put things m us q) ∙ go (same_name q m)
    where
      go : (t : Bool) → (cond t (Some us) (map.get things q) >>= first_letter_of) ≡ cond t (first_letter_of us) (letter_under things q)
      go true = refl
      go false = refl

  -- the letter stays where the new things carry it
  pub same-letters : (ts : List Thing) → map.get things m ≡ Some ts → first_letter_of us ≡ first_letter_of ts → (q : Name)
      → letter_under (map.insert things m us) q ≡ letter_under things q
  same-letters ts there same q = letter-put q ∙ go (same_name q m) refl
    where
      go : (t : Bool) → same_name q m ≡ t → cond t (first_letter_of us) (letter_under things q) ≡ letter_under things q
      go true e = same ∙ sym (ap (λ o. o >>= first_letter_of) (ap (map.get things) (same_name-is q m e) ∙ there))
      go false e = refl
