-- Each event is a turn of its mark, and none of the others: so posts are paired along each run, and each was handed over at rest.
use Rattle.std.proofs.Common.{◌≡◌, ℕ, Option, None, Some, List, [], ◌∷◌, length, option_map, inl, inr, refl, sym, ap, subst, ◌∙◌}
use Rattle.std.proofs.lemmas.List.Elements.{All-head, All-nil}
use Rattle.std.specs.FinMap as map
use Rattle.np_syntax.specs.declared.value.Name.{Name}
use Rattle.np_syntax.specs.declared.process.Tag.{Tag}
use Rattle.np_syntax.specs.declared.event.Event.{Event}
use Rattle.np_syntax.specs.declared.program.Program.{Program}
use Rattle.np_syntax.specs.declared.program.LowProgram.{LowProgram}
use Rattle.np_syntax.specs.Options.{◌>>=◌}
use Rattle.np_syntax.proofs.Options.{done}
use Rattle.np_calculus.specs.Config.{Config}
use Rattle.np_calculus.specs.Idle.{Idle}
use Rattle.np_calculus.specs.Reductions.{output_in, run}
use Rattle.np_calculus.specs.Starts.{start_high, start_low}
use Rattle.np_lift.specs.Posts.{AllHanded, Deed, Letter, deeds, deeds_to, prepended}
use Rattle.np_lift.specs.CachedLift.{at_first, lifted, stands_for}
use Rattle.np_lift.specs.CachedPosts.{and_from, deed_from, deeds_from}
use Rattle.np_lift.proofs.Standings.{stands-itself}
use Rattle.np_check.specs.Faults.{IsAccepted}
use Rattle.infrastructure_texts.specs.Infrastructures.{Infrastructure}
use Rattle.daemon_encode.specs.Translates.{IsLowOf}
use Rattle.simulate_laws.specs.things.Mail.{as_output}
use Rattle.simulate_laws.specs.things.Things.{Thing, carried, high_atom}
use Rattle.simulate_laws.specs.levels.Coupled.{Coupled, IsShaped, View}
use Rattle.simulate_laws.specs.levels.Letters.{as_letter, first_letter_of, letter_under}
use Rattle.simulate_laws.specs.simulation.RestLaws.{HasCacheRest, HasRest}
use Rattle.simulate_laws.proofs.simulation.Highs.{rests-together}
use Rattle.simulate_laws.specs.simulation.Laws.{IsCentralLifted, IsLifted}
use Rattle.simulate_laws.proofs.simulation.Central.{none-added}
unfoldable use Rattle.simulate_laws.proofs.simulation.Central.{central}
use Rattle.simulate_laws.proofs.simulation.Lodged.{runs-are-lodged}
use Rattle.simulate_laws.proofs.simulation.Runs.{IsStep, from-starts}
use Rattle.simulate_laws.specs.simulation.PostLaws.{CachedLettersInPlace, CachedLettersStandAbove, CachedPostsArePaired, CachedRestsAbove, CachedRestsAllHanded}
use Rattle.simulate_laws.specs.simulation.PostLaws.{LettersInPlace, LettersStandAbove, PostsArePaired, RestsAbove, RestsAllHanded}
use Rattle.simulate_laws.specs.simulation.OnePlace.{IsHeld}
use Rattle.simulate_laws.specs.simulation.UnderWay.{left_by, letters_of, listed}
use Rattle.simulate_laws.proofs.simulation.Carrying.{carries-first, headed-letters}
use Rattle.simulate_laws.proofs.simulation.Events.{turned}
use Rattle.simulate_laws.proofs.simulation.Holding.{Apart, Holders, Keeps, at-start, held, kept-on, not-spent}
use Rattle.simulate_laws.proofs.simulation.Plain.{same-deeds}
use Rattle.simulate_laws.proofs.simulation.Turns.{Turns, turns-alternate, turns-handed, turns-left}
use Rattle.simulate_laws.proofs.simulation.Under.{HasNone, HasOne, Under, letter}

-- ---- runs

-- under each mark of the high level posts and what hands over take turns, from the letters under way before to those under way afterwards
abbrev TakeTurns : Config → View → List Event → View → Type 0
TakeTurns low v es w = (k : Name) (o : Option Letter) → Under v k o
    → (p : Option Letter) × Under w k p × Turns o (deeds_to k (deeds_from v.standing low es)) p

one-more : {i : Infrastructure} {n from first : ℕ} (low next : Config) (v u w : View) (e : Event) (es : List Event) → IsStep i n from first low next v u e
    → TakeTurns next u es w → TakeTurns low v (e ∷ es) w
one-more low next v u w e es step rest k o under =
    let d = deed_from v.standing e.kind e.tag.role e.made low next e in
    let here = turned step k o under in
    let after = rest k here.0 here.1 in
    let all : deeds_from v.standing low (e ∷ es) ≡ prepended d (deeds_from u.standing next es) =
    ap (λ c. and_from v.standing low e c (λ d. deeds_from (lifted v.standing e).standing d es)) step.applies
    ∙ ap (λ s. prepended d (deeds_from s next es)) (sym step.stand) in
    (after.0, after.1, subst (λ xs. Turns o (deeds_to k xs) after.0) (sym all) (here.2 (deeds_from u.standing next es) after.0 after.2))

-- whichever the infrastructure
module _ {i : Infrastructure} (p : Program) (q : LowProgram) (low : IsLowOf i p q) (accepted : IsAccepted p) (events : List Event) (c : Config)
    (h : run (start_low q) events ≡ Some c) where
  abbrev Lifted : Type 0
  Lifted = IsLifted i (length p.sites) p.binders low.first (start_high p) events c

  abbrev deeds_of : Name → List Deed
  deeds_of k = deeds_to k (deeds_from at_first (start_low q) events)

  abbrev TurnsTo : View → Type 0
  TurnsTo w = (k : Name) → (o : Option Letter) × Under w k o × Turns None (deeds_of k) o

  abbrev Told : Config → View → List Event → View → Type 0
  Told low v es w = TakeTurns low v es w × Keeps (length p.sites) low v es w

  pub turns : (l : Lifted) × TurnsTo l.view × Holders (length p.sites) c l.view × Apart c l.view
  turns =
      let all = from-starts p q low accepted events c h Told (record {
        none = λ low v. (λ k o under. (o, under, Turns.stays), λ d h both. subst (λ d. Holders (length p.sites) d v × Apart d v) (sym (done h)) both);
        more = λ low next v u w e es step rest. (one-more low next v u w e es step rest.0, kept-on low next v u w e es step rest.1);
      }) in
      let both = all.4.1 c h (at-start (length p.sites) (start_low q) all.1 all.2 all.3) in (
        all.0,
        λ k.
            let t = all.4.0 k None (λ m is. all.3 m) in
            (t.0, t.1, subst (λ s. Turns None (deeds_to k (deeds_from s (start_low q) events)) t.0) all.2 t.2),
        both.0,
        both.1,
      )

  -- where the run has come to rest
  rest : Idle c → (l : Lifted) × TurnsTo l.view × Idle l.high × HasRest l.view × (i ≡ Infrastructure.cached → HasCacheRest c l.high l.view)
  rest idle =
      let t = turns in
      let r = rests-together i (length p.sites) p.binders low.first c t.0.high t.0.view t.0.coupled (runs-are-lodged p q low accepted events c h) idle in
      (t.0, t.1, r.0, r.1, r.2)

  -- no letter is under way then
  none-left : (v : View) → HasRest v → (m : Name) → letter_under v.things m ≡ None
  none-left v rest m = go (map.get v.things m) refl
    where
      go : (o : Option (List Thing)) → map.get v.things m ≡ o → (o >>= first_letter_of) ≡ None
      go None e = refl
      go (Some []) e = refl
      go (Some (t ∷ ts)) e = All-head (λ t. carried t ≡ None) t ts (rest.letters m (t ∷ ts) e)

  none-under : (v : View) → HasRest v → (k : Name) (o : Option Letter) → Under v k o → o ≡ None
  none-under v rest k None under = refl
  none-under v rest k (Some l) one = absurd (let bad : None ≡ Some one.posted = sym (none-left v rest one.at) ∙ one.is in cc)

  all-handed : Idle c → (k : Name) → AllHanded (deeds_of k)
  all-handed idle k =
      let r = rest idle in
      let t = r.1 k in
      turns-handed (deeds_of k) (subst (Turns None (deeds_of k)) (none-under r.0.view r.3 k t.0 t.1) t.2)

-- the things of a mark carry the letter that is under way there, and no other
pub in-place : {i : Infrastructure} {n from first : ℕ} {low : Config} (v : View) (m : Name) → IsShaped i n from first low v.things m
    → letters_of (map.get v.things m) ≡ listed (letter v m)
in-place v m (IsShaped.nothing a k none) = ap letters_of none ∙ sym (ap (λ o. listed (option_map as_letter (o >>= first_letter_of))) none)
in-place v m (IsShaped.atom {ts = ts} a k there headed are) =
    ap letters_of there ∙ headed-letters ts headed ∙ sym (ap (λ o. listed (option_map as_letter (o >>= first_letter_of))) there)
in-place v m (IsShaped.packet {t = t} a k there is) =
    ap letters_of there ∙ headed-letters (t ∷ []) (All-nil (λ u. high_atom u ≡ None))
    ∙ sym (ap (λ o. listed (option_map as_letter (o >>= first_letter_of))) there)

-- ---- with caches

pub cached-posts-are-paired : CachedPostsArePaired
cached-posts-are-paired p q low accepted events c h k =
    let t = (turns p q low accepted events c h).1 k in
    turns-alternate (deeds_to k (deeds_from at_first (start_low q) events)) t.0 t.2

pub cached-rests-all-handed : CachedRestsAllHanded
cached-rests-all-handed p q low accepted events c h idle = all-handed p q low accepted events c h idle

pub cached-rests-above : CachedRestsAbove
cached-rests-above p q low accepted events c h idle =
    let r = rest p q low accepted events c h idle in
    (r.0, r.2, r.3, r.4 refl)

-- the output of a letter that is under way stands at the high level, under the mark of its post
stands-above : {i : Infrastructure} {n from first : ℕ} {low high : Config} {v : View} → Coupled i n from first low high v → (k : Name) (l : Letter) → HasOne v k l
    → (tag : Tag) × (map.get high.atoms k ≡ Some (output_in l.agent l.chan l.value tag))
stands-above {high = high} {v = v} c k l one =
    let first = carries-first (map.get v.things one.at) l (ap (option_map as_letter) one.is ∙ ap Some one.same) in (
      first.letter.tag,
      ap (map.get high.atoms) (sym one.stands) ∙ c.mirrored.up one.at (as_output first.letter) first.stands
          ∙ ap (λ (k : Letter). Some (output_in k.agent k.chan k.value first.letter.tag)) first.is,
    )

-- the letter of the last post is that of its mark
pub one-left : (v : View) (k : Name) (ds : List Deed) (o : Option Letter) → Under v k o → Turns None ds o → (l : Letter) → left_by None ds ≡ Some l → HasOne v k l
one-left v k ds None under t l left = absurd (let bad : None ≡ Some l = sym (turns-left None ds None t) ∙ left in cc)
one-left v k ds (Some m) one t l left = subst (HasOne v k) (let same : Some m ≡ Some l = sym (turns-left None ds (Some m) t) ∙ left in cc) one

none-left-under : (v : View) (k : Name) (ds : List Deed) (o : Option Letter) → Under v k o → Turns None ds o → left_by None ds ≡ None → HasNone v k
none-left-under v k ds None none t left = none
none-left-under v k ds (Some l) one t left = absurd (let bad : None ≡ Some l = sym left ∙ turns-left None ds (Some l) t in cc)

-- ---- place

pub cached-letters-stand-above : CachedLettersStandAbove
cached-letters-stand-above p q low accepted events c h high runs mark l left =
    let t = turns p q low accepted events c h in
    let its = t.1 mark in
    let above = stands-above t.0.coupled mark l (one-left t.0.view mark _ its.0 its.1 its.2 l left) in
    (above.0, ap (λ (d : Config). map.get d.atoms mark) (done (sym t.0.runs ∙ runs)) ∙ above.1)

pub cached-letters-in-place : CachedLettersInPlace
cached-letters-in-place p q low accepted events c h =
    let t = turns p q low accepted events c h in
    let v = t.0.view in
    let shaped = t.0.coupled.shaped in (
      t.0,
      λ mark l left.
          let its = t.1 mark in
          let one = one-left v mark _ its.0 its.1 its.2 l left in
          record {
            at = one.at;
            stands = one.stands;
            carries = in-place v one.at (shaped one.at) ∙ ap listed (ap (option_map as_letter) one.is ∙ ap Some one.same);
            held = subst (λ l. IsHeld (length p.sites) c v.standing.messengers l one.at) one.same (held t.0.coupled one.at one.posted one.is (t.2 one.at one.posted one.is));
            alone = λ m is far. elim (t.3 m one.at far (is ∙ sym one.stands)) [
              | inl spent ↦ spent
              | inr spent ↦ absurd (not-spent t.0.coupled one.at one.posted one.is spent)
            ];
          },
      λ mark m left is.
          let its = t.1 mark in
          in-place v m (shaped m) ∙ ap listed (ap (option_map as_letter) (none-left-under v mark _ its.0 its.1 its.2 left m is)),
    )

-- ---- with the central infrastructure

module _ (p : Program) (q : LowProgram) (low : IsLowOf Infrastructure.central p q) (accepted : IsAccepted p) (events : List Event) (c : Config)
    (h : run (start_low q) events ≡ Some c) where
  pub its-deeds : (m : Name) → deeds_to m (deeds_from at_first (start_low q) events) ≡ deeds_to m (deeds (start_low q) events)
  its-deeds m = ap (deeds_to m) (same-deeds (start_low q) events (none-added p q low accepted events c h))

  -- each mark stands for itself, and has the letter that is under way under it
  its-letter : (v : View) → v.standing ≡ at_first → (m : Name) (o : Option Letter) → Under v m o → letter v m ≡ o
  its-letter v stand m None none = ap (option_map as_letter) (none m (ap (λ s. stands_for s m) stand ∙ stands-itself m))
  its-letter v stand m (Some l) one =
      let same : one.at ≡ m = sym (stands-itself one.at) ∙ ap (λ s. stands_for s one.at) (sym stand) ∙ one.stands in
      ap (letter v) (sym same) ∙ ap (option_map as_letter) one.is ∙ ap Some one.same

  lifted_so : (l : IsCentralLifted (length p.sites) p.binders low.first (start_high p) events c)
      × ((m : Name) → Turns None (deeds_to m (deeds (start_low q) events)) (letter l.view m))
  unfolding central
  lifted_so =
      let t = turns p q low accepted events c h in
      let l = central p q low accepted events c h t.0 in (
        l,
        λ m.
            let its = t.1 m in
            subst (Turns None (deeds_to m (deeds (start_low q) events))) (sym (its-letter l.view l.stand m its.0 its.1))
            (subst (λ ds. Turns None ds its.0) (its-deeds m) its.2),
      )

pub posts-are-paired : PostsArePaired
posts-are-paired p q low accepted events c h mark =
    turns-alternate (deeds_to mark (deeds (start_low q) events)) _ ((lifted_so p q low accepted events c h).1 mark)

pub letters-in-place : LettersInPlace
letters-in-place p q low accepted events c h =
    let l = lifted_so p q low accepted events c h in (
      l.0,
      λ mark. in-place l.0.view mark (l.0.coupled.shaped mark)
          ∙ ap listed (sym (turns-left None (deeds_to mark (deeds (start_low q) events)) _ (l.1 mark))),
    )

pub letters-stand-above : LettersStandAbove
letters-stand-above p q low accepted events c h high runs mark l left =
    let t = lifted_so p q low accepted events c h in
    let its : letter t.0.view mark ≡ Some l = sym (turns-left None (deeds_to mark (deeds (start_low q) events)) _ (t.1 mark)) ∙ left in
    let first = carries-first (map.get t.0.view.things mark) l its in
    let above = stands-above t.0.coupled mark l (record {
      at = mark;
      stands = ap (λ s. stands_for s mark) t.0.stand ∙ stands-itself mark;
      posted = first.letter;
      is = first.carried;
      same = first.is;
    }) in
    (above.0, ap (λ (d : Config). map.get d.atoms mark) (done (sym t.0.runs ∙ runs)) ∙ above.1)

pub rests-above : RestsAbove
unfolding central
rests-above p q low accepted events c h idle =
    let r = rest p q low accepted events c h idle in
    (central p q low accepted events c h r.0, r.2, r.3)

pub rests-all-handed : RestsAllHanded
rests-all-handed p q low accepted events c h idle mark =
    subst AllHanded (its-deeds p q low accepted events c h mark) (all-handed p q low accepted events c h idle mark)
