-- What numbers pick of lists that have all choices: each choice, and nothing else.
use Rattle.std.proofs.Common.{◌≡◌, ℕ, zero, suc, ◌%◌, ◌<◌, Bool, true, false, ◌||◌, is_some, List, [], ◌∷◌, length, slice_get, Option, None, Some, refl, sym, ap, subst, ◌∙◌, arith}
use Rattle.std.proofs.Math.Nat.{mod-eq_of_lt}
use Rattle.std.proofs.lemmas.Bool.{or_right}
use Rattle.std.proofs.lemmas.Nat.{mod_below}
use Rattle.std.proofs.lemmas.Option.{slice_get-get_or}
use Rattle.std.specs.List.{list_any}
use Rattle.std.specs.FinMap as map
use Rattle.np_syntax.specs.declared.value.Name.{Name}
use Rattle.np_syntax.specs.Options.{◌>>=◌}
use Rattle.np_syntax.proofs.Bools.{and-in, and-out}
use Rattle.np_syntax.proofs.Options.{then, done}
use Rattle.np_tables.specs.declared.errand.Meeting.{Meeting}
use Rattle.np_tables.specs.declared.errand.Errand.{Errand}
use Rattle.np_tables.specs.declared.errand.Errand.TheVariants as errand
use Rattle.np_tables.specs.Errands.{is_filed}
use Rattle.np_tables.proofs.Keyed.{alike-same}
use Rattle.np_tables.proofs.LineLaws.{same_errand-is, same_errand-itself, same_meeting-is, same_meeting-itself}
use Rattle.np_tables.proofs.Mapped.{get-mapped}
use Rattle.np_tables.proofs.Tables.{get-none, same_name-is, same_tables}
use Rattle.np_configuration.specs.Placed.{travels}
use Rattle.np_calculus.specs.declared.config.Packet.{Packet}
use Rattle.np_calculus.specs.declared.config.Place.{Place}
use Rattle.np_calculus.specs.declared.config.Place.TheVariants as place
use Rattle.np_calculus.specs.Config.{Config}
use Rattle.np_calculus.specs.Idle.{Idle}
use Rattle.np_calculus.specs.Parts.{IsLodged}
use Rattle.np_calculus.specs.Reductions.{way}
use Rattle.np_calculus.specs.Sight.{inside}
use Rattle.np_configuration.specs.Errands.{errand_of}
use Rattle.np_configuration.proofs.RestTests.{no_way}
use Rattle.np_configuration.proofs.Rests.{idle-quiet, idle-still, quiet-idle}
use Rattle.run_choices.specs.declared.choice.Choice.{Choice}
use Rattle.run_choices.specs.declared.choice.Choice.TheVariants as choice
use Rattle.run_choices.specs.declared.choice.Draw.{Draw}
use Rattle.choice_entries.specs.declared.entry.Entry.{Entry}
use Rattle.choice_entries.specs.declared.entry.Entry.TheVariants as entry
use Rattle.run_choices.specs.Choices.{IsChoice, errand_in}
use Rattle.choice_entries.specs.Picks.{pick}
use Rattle.run_choices.specs.Held.{Held, Lists, chosen_by, chosen_of}
use Rattle.run_choices.specs.Lines.{alike, has, has_some, same_entry, stands}
use Rattle.run_choices.specs.Runs.{EachIsChoice, EachIsPicked}
use Rattle.run_choices.proofs.Lists.{alike-itself, some-has}

-- ---- elements of a list

module _ {T : Type 0} (eq : T → T → Bool) where
  -- an element that is in the list stands at some number
  any-picked : ((a b : T) → eq a b ≡ true → a ≡ b) → (xs : List T) (x : T) → list_any (eq x) xs ≡ true → (n : ℕ) × (n < length xs) × (slice_get xs n ≡ Some x)
  any-picked is [] x h = absurd cc
  any-picked is (y ∷ ys) x h = go (eq x y) refl h (any-picked is ys x)
    where
      go : (t : Bool) → eq x y ≡ t → (t || list_any (eq x) ys) ≡ true → (list_any (eq x) ys ≡ true → (n : ℕ) × (n < length ys) × (slice_get ys n ≡ Some x))
          → (n : ℕ) × (n < length (y ∷ ys)) × (slice_get (y ∷ ys) n ≡ Some x)
      go true t h f = (zero, omega arith, ap Some (sym (is x y t)))
      go false t h f = let r = f h in (suc r.0, omega (arith, r.1), r.2)

  -- what stands at a number is in the list
  picked-any : ((a : T) → eq a a ≡ true) → (xs : List T) (n : ℕ) (x : T) → slice_get xs n ≡ Some x → list_any (eq x) xs ≡ true
  picked-any self [] n x h = absurd cc
  picked-any self (y ∷ ys) zero x h = ap (λ b. b || list_any (eq x) ys) (subst (λ z. eq x z ≡ true) (done h) (self x))
  picked-any self (y ∷ ys) (suc n) x h = or_right (eq x y) (list_any (eq x) ys) (picked-any self ys n x h)

pick-at : {T : Type 0} (xs : List T) (n : ℕ) (x : T) → n < length xs → slice_get xs n ≡ Some x → pick xs n ≡ Some x
pick-at xs n x below is = ap (slice_get xs) (mod-eq_of_lt below) ∙ is

none-picked : {T : Type 0} (xs : List T) (n : ℕ) → pick xs n ≡ None → has_some xs ≡ false
none-picked [] n h = refl
none-picked (x ∷ xs) n h =
    absurd (let there = slice_get-get_or (x ∷ xs) (n % length (x ∷ xs)) x (mod_below n (length (x ∷ xs)) (omega arith)) in cc)

no-element : {T : Type 0} (xs : List T) → has_some xs ≡ false → xs ≡ []
no-element [] h = refl
no-element (x ∷ xs) h = absurd cc

-- ---- entries and marks

name-is : (a b : Name) → alike a b ≡ true → a ≡ b
name-is a b h = same_name-is a b (sym (alike-same a b) ∙ h)

entry-is : (a b : Entry) → same_entry a b ≡ true → a ≡ b
entry-is (entry.Arrives a) (entry.Arrives b) h = ap entry.Arrives (name-is a b h)
entry-is (entry.Lands a) (entry.Lands b) h = ap entry.Lands (name-is a b h)
entry-is (entry.Acts a) (entry.Acts b) h = ap entry.Acts (name-is a b h)
entry-is (entry.Meets a) (entry.Meets b) h = ap entry.Meets (same_meeting-is a b h)
entry-is _ _ h = absurd cc

entry-itself : (a : Entry) → same_entry a a ≡ true
entry-itself (entry.Arrives a) = alike-itself a
entry-itself (entry.Lands a) = alike-itself a
entry-itself (entry.Acts a) = alike-itself a
entry-itself (entry.Meets a) = same_meeting-itself a

filed-is : (o : Option Errand) (e : Errand) → is_filed o e ≡ true → o ≡ Some e
filed-is None e h = absurd cc
filed-is (Some f) e h = ap Some (same_errand-is f e h)

filed-there : (o : Option Errand) (e : Errand) → o ≡ Some e → is_filed o e ≡ true
filed-there o e is = ap (λ x. is_filed x e) is ∙ same_errand-itself e

true-false : {b : Bool} → b ≡ true → b ≡ false → ⊥
true-false t f = cc

module _ (c : Config) (h : Held) (l : Lists c h) where
  -- a mark that waits for something is in its line
  waits-in : (m : Name) (e : Errand) → errand_in c m ≡ Some e → has (h.line e) m ≡ true
  waits-in m e is = l.step.in_lines.at e m ∙ filed-there (map.get h.work m) e ((l.at m).filed ∙ is)

  in-waits : (m : Name) (e : Errand) → has (h.line e) m ≡ true → errand_in c m ≡ Some e
  in-waits m e is = sym (l.at m).filed ∙ filed-is (map.get h.work m) e (sym (l.step.in_lines.at e m) ∙ is)

  alone-stands : (m : Name) → errand_in c m ≡ Some errand.Acts → stands h.list (entry.Acts m) ≡ true
  alone-stands m is = l.step.alone m ∙ filed-there (map.get h.work m) errand.Acts ((l.at m).filed ∙ is)

  both-wait : (i o : Name) (k : Meeting) → errand_in c i ≡ Some (errand.Takes k) → errand_in c o ≡ Some (errand.Gives k) → stands h.list (entry.Meets k) ≡ true
  both-wait i o k takes gives =
      l.step.busy k
      ∙ and-in (some-has (h.line (errand.Takes k)) i (waits-in i (errand.Takes k) takes)) (some-has (h.line (errand.Gives k)) o (waits-in o (errand.Gives k) gives))

  entry-picked : (t : Entry) → stands h.list t ≡ true → (n : ℕ) × (pick h.list n ≡ Some t)
  entry-picked t is = let r = any-picked same_entry entry-is h.list t is in (r.0, pick-at h.list r.0 t r.1 r.2)

  mark-picked : (e : Errand) (m : Name) → errand_in c m ≡ Some e → (n : ℕ) × (pick (h.line e) n ≡ Some m)
  mark-picked e m is = let r = any-picked alike name-is (h.line e) m (waits-in m e is) in (r.0, pick-at (h.line e) r.0 m r.1 r.2)

  -- ---- each choice is picked

  by-entry : (t : Entry) (s : Choice) (i o : ℕ) → stands h.list t ≡ true → ((n : ℕ) → chosen_of h.line (record { entry = n; input = i; output = o }) t ≡ Some s) → (draw : Draw) × (chosen_by h draw ≡ Some s)
  by-entry t s i o is gives =
      let r = entry-picked t is in
      let draw : Draw = record { entry = r.0; input = i; output = o } in
      (draw, ap (λ p. p >>= chosen_of h.line draw) r.1 ∙ gives r.0)

  picked : (s : Choice) → IsChoice c s → (draw : Draw) × (chosen_by h draw ≡ Some s)
  picked (choice.Arrives a) is = by-entry (entry.Arrives a) (choice.Arrives a) 0 0 ((l.at a).arrives ∙ is) (λ n. refl)
  picked (choice.Lands m) is = by-entry (entry.Lands m) (choice.Lands m) 0 0 ((l.at m).lands ∙ is) (λ n. refl)
  picked (choice.Acts m) is = by-entry (entry.Acts m) (choice.Acts m) 0 0 (alone-stands m is) (λ n. refl)
  picked (choice.Meets i o) is =
      let x = mark-picked (errand.Takes is.meeting) i is.takes in
      let y = mark-picked (errand.Gives is.meeting) o is.gives in
      by-entry (entry.Meets is.meeting) (choice.Meets i o) x.0 y.0 (both-wait i o is.meeting is.takes is.gives)
      (λ n. ap (λ p. p >>= λ a. pick (h.line (errand.Gives is.meeting)) y.0 >>= λ b. Some (choice.Meets a b)) x.1 ∙ ap (λ p. p >>= λ b. Some (choice.Meets i b)) y.1)

  -- ---- nothing else is

  mark-there : (e : Errand) (n : ℕ) (m : Name) → pick (h.line e) n ≡ Some m → errand_in c m ≡ Some e
  mark-there e n m is = in-waits m e (picked-any alike alike-itself (h.line e) (n % length (h.line e)) m is)

  chosen-there : (draw : Draw) (t : Entry) (s : Choice) → stands h.list t ≡ true → chosen_of h.line draw t ≡ Some s → IsChoice c s
  chosen-there draw (entry.Arrives a) s is g = subst (IsChoice c) (sym (done g)) (sym (l.at a).arrives ∙ is)
  chosen-there draw (entry.Lands m) s is g = subst (IsChoice c) (sym (done g)) (sym (l.at m).lands ∙ is)
  chosen-there draw (entry.Acts m) s is g = subst (IsChoice c) (sym (done g)) (sym (l.at m).filed ∙ filed-is (map.get h.work m) errand.Acts (sym (l.step.alone m) ∙ is))
  chosen-there draw (entry.Meets k) s is g =
      then (pick (h.line (errand.Takes k)) draw.input) _ g λ i ati g. then (pick (h.line (errand.Gives k)) draw.output) _ g λ o ato g.
      subst (IsChoice c) (sym (done g)) (record { meeting = k; takes = mark-there (errand.Takes k) draw.input i ati; gives = mark-there (errand.Gives k) draw.output o ato })

  pub chosen-is : (draw : Draw) (s : Choice) → chosen_by h draw ≡ Some s → IsChoice c s
  chosen-is draw s g =
      then (pick h.list draw.entry) _ g λ t at g. chosen-there draw t s (picked-any same_entry entry-itself h.list (draw.entry % length h.list) t at) g

  -- ---- where nothing is picked nothing can happen

  nothing-stands : (draw : Draw) (o : Option Entry) → pick h.list draw.entry ≡ o → (o >>= chosen_of h.line draw) ≡ None → has_some h.list ≡ false
  nothing-stands draw None at g = none-picked h.list draw.entry at
  nothing-stands draw (Some (entry.Arrives a)) at g = absurd cc
  nothing-stands draw (Some (entry.Lands m)) at g = absurd cc
  nothing-stands draw (Some (entry.Acts m)) at g = absurd cc
  nothing-stands draw (Some (entry.Meets k)) at g =
      let both = and-out (has_some (h.line (errand.Takes k))) (has_some (h.line (errand.Gives k)))
      (sym (l.step.busy k) ∙ picked-any same_entry entry-itself h.list (draw.entry % length h.list) (entry.Meets k) at) in
      absurd (first (pick (h.line (errand.Takes k)) draw.input) refl (pick (h.line (errand.Gives k)) draw.output) refl g both.0 both.1)
    where
      first : (i : Option Name) → pick (h.line (errand.Takes k)) draw.input ≡ i → (o : Option Name) → pick (h.line (errand.Gives k)) draw.output ≡ o
          → (i >>= λ a. o >>= λ b. Some (choice.Meets a b)) ≡ None → has_some (h.line (errand.Takes k)) ≡ true → has_some (h.line (errand.Gives k)) ≡ true → ⊥
      first None ati o ato g some more = true-false some (none-picked (h.line (errand.Takes k)) draw.input ati)
      first (Some a) ati None ato g some more = true-false more (none-picked (h.line (errand.Gives k)) draw.output ato)
      first (Some a) ati (Some b) ato g some more = cc

  no-place : (a : Name) (p : Place) → map.get c.places a ≡ Some p → travels (map.get c.places a) ≡ false → way p ≡ None
  no-place a (place.At s) is h = refl
  no-place a (place.Way s) is h = absurd (true-false (ap travels is) h)

  no-packet : (o : Option Packet) → is_some o ≡ false → o ≡ None
  no-packet None h = refl
  no-packet (Some p) h = absurd cc

  module _ (empty : h.list ≡ []) where
    no-entry : (t : Entry) → stands h.list t ≡ false
    no-entry t = ap (λ xs. stands xs t) empty

    pub no-choice-idle : Idle c
    no-choice-idle =
        quiet-idle c
        (same_tables c.packets map.empty (λ q. no-packet (map.get c.packets q) (sym (l.at q).lands ∙ no-entry (entry.Lands q)) ∙ sym (get-none q)))
        (λ a p is. no-place a p is (sym (l.at a).arrives ∙ no-entry (entry.Arrives a)))
        (record {
          alone = λ m e. true-false (alone-stands m (sym (get-mapped errand_of c.atoms m) ∙ e)) (no-entry (entry.Acts m));
          apart = λ i o m.
              true-false
              (both-wait i o m.meeting (sym (get-mapped errand_of c.atoms i) ∙ m.takes) (sym (get-mapped errand_of c.atoms o) ∙ m.gives))
              (no-entry (entry.Meets m.meeting));
        })

  pub none-idle : (draw : Draw) → chosen_by h draw ≡ None → Idle c
  none-idle draw g = no-choice-idle (no-element h.list (nothing-stands draw (pick h.list draw.entry) refl g))

pub each-is-picked : EachIsPicked
each-is-picked c h s l is = picked c h l s is

pub each-is-choice : EachIsChoice
each-is-choice c h draw s l g = chosen-is c h l draw s g

-- ---- where there is a choice something can happen

pub travels-way : (o : Option Place) → travels o ≡ true → (s : ℕ) × (o ≡ Some (place.Way s))
travels-way None h = absurd cc
travels-way (Some (place.At s)) h = absurd cc
travels-way (Some (place.Way s)) h = (s, refl)

pub choice-acts : (c : Config) (s : Choice) → IsLodged (inside c) → IsChoice c s → Idle c → ⊥
choice-acts c (choice.Arrives a) lodged is idle = let w = travels-way (map.get c.places a) is in no_way c.places a w.0 w.1 (idle-still c idle).1
choice-acts c (choice.Lands m) lodged is idle =
    true-false is (ap (λ packets. is_some (map.get packets m)) (idle-still c idle).0 ∙ ap is_some (get-none {X = Packet} m))
choice-acts c (choice.Acts m) lodged is idle = (idle-quiet c idle lodged).alone m (get-mapped errand_of c.atoms m ∙ is)
choice-acts c (choice.Meets i o) lodged is idle =
    (idle-quiet c idle lodged).apart i o (record {
      meeting = is.meeting;
      takes = get-mapped errand_of c.atoms i ∙ is.takes;
      gives = get-mapped errand_of c.atoms o ∙ is.gives;
    })
