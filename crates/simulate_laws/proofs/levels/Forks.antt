-- A bracket of the infrastructure is split: its things are those of its parts.
use Rattle.std.proofs.Common.{◌≡◌, inr, ℕ, Bool, true, false, cond, Option, None, Some, List, [], ◌∷◌, ◌++◌, refl, sym, ap, subst, ◌∙◌}
use Rattle.std.specs.List.{All, flat_map}
use Rattle.std.proofs.lemmas.List.Concat.{flat_map-append}
use Rattle.std.proofs.lemmas.List.Elements.{All-head, All-tail, All-weaker}
use Rattle.std.proofs.lemmas.List.Sorted.{list_any-IsPermutation}
use Rattle.std.proofs.Common.{append_assoc}
use Rattle.std.specs.FinMap as map
use Rattle.std.specs.FinSet as set
use Rattle.np_syntax.specs.declared.value.Name.{Name}
use Rattle.np_syntax.specs.declared.process.Proc.{Proc}
use Rattle.np_syntax.specs.declared.process.Role.TheVariants as role
use Rattle.np_syntax.specs.declared.process.ProcForm.{ProcForm-F}
use Rattle.np_syntax.specs.declared.process.ProcForm.TheVariants.{outs-Par}
use Rattle.np_syntax.specs.declared.event.Event.{Event}
use Rattle.np_syntax.specs.declared.event.Kind.TheVariants as kind
use Rattle.np_syntax.specs.declared.event.Made.TheVariants as made
use Rattle.np_syntax.specs.Options.{◌>>=◌}
use Rattle.np_syntax.specs.Reordering.{Reordered, and_then, behind}
use Rattle.np_syntax.proofs.Options.{then, done}
use Rattle.np_syntax.proofs.Reorderings.{reorder-back, reorder-front}
use Rattle.np_tables.specs.Names.{NameMap, same_name}
use Rattle.np_tables.proofs.Tables.{get-put, same_name-is}
use Rattle.np_calculus.specs.declared.config.Atom.{Atom}
use Rattle.np_calculus.specs.Begins.{begun_by}
use Rattle.np_calculus.specs.Changes.{effect, put, still}
use Rattle.np_calculus.specs.Config.{Config}
use Rattle.np_calculus.specs.Reductions.{apply, goes, no_other, one_made, row}
use Rattle.np_calculus.specs.Seen.{acting}
use Rattle.np_calculus.specs.Sight.{inside, sight}
unfoldable use Rattle.np_calculus.proofs.Common.{act}
use Rattle.np_calculus.proofs.OwnNames.{not_true}
use Rattle.np_calculus.proofs.Rows.{parts}
use Rattle.np_calculus.proofs.Steps.{Acts, acting-step, is-one, one-new, row-step}
use Rattle.np_eval.specs.Forms.{layer}
use Rattle.infrastructure_texts.specs.Infrastructures.{Infrastructure}
use Rattle.simulate_laws.specs.things.Acting.{begins}
use Rattle.simulate_laws.specs.things.Shapes.{Are, Is}
use Rattle.simulate_laws.specs.things.Things.{IsHeaded, Stage, Thing, first_atom_of, first_packet_of, high_atom, high_packet, shows, shows_caches}
use Rattle.simulate_laws.proofs.things.Acting.{thing-begins}
use Rattle.simulate_laws.specs.levels.Coupled.{Coupled, IsShaped, KnowsOnly, View, chips, is_channel, is_child_of, may_know, scene, IsCarrier, shown}
use Rattle.simulate_laws.proofs.levels.Applies.{takes_nothing}
use Rattle.np_calculus.proofs.BornKept.{born-kept, made-kept}
use Rattle.simulate_laws.specs.protocol.Phases.{Phase}
use Rattle.simulate_laws.specs.protocol.Protocol.{Protocol}
use Rattle.simulate_laws.proofs.protocol.Steps.{all_left, all_right}
use Rattle.simulate_laws.proofs.levels.Letters.{low-carries-none}
use Rattle.simulate_laws.proofs.levels.Marks.{may_know_more, reshape}
use Rattle.simulate_laws.proofs.levels.Orders.{entries_at, entries_new, entries_put, flat, permuted}
use Rattle.simulate_laws.proofs.levels.Quiet.{knows_more, quiet, things_born}
use Rattle.simulate_laws.proofs.levels.Starts.{any_order}
use Rattle.simulate_laws.proofs.levels.Shapes.{of_atom, same_role}
use Rattle.simulate_laws.proofs.levels.Caches.{handed_on, by_step, carry_put, reordered}
use Rattle.simulate_laws.specs.levels.Letters.{SameLetters, first_letter_of, letter_under}
use Rattle.np_calculus.proofs.Fits.{some}
use Rattle.np_calculus.proofs.FrameRule.{not-false}

pub record IsForking (low : Config) (e : Event) (next : Config) : Type 0 where
  pub atom : Atom
  pub acts : Acts low e atom
  pub left : Proc
  pub right : Proc
  pub form : layer atom.proc ≡ ProcForm-F.Par left right
  pub new : Name
  pub made_one : e.made ≡ made.One new
  pub other_none : e.other ≡ None
  pub is_new : set.contains low.born new ≡ false
  pub is : next ≡ effect low e (record still { atoms = put new (goes atom right) ∷ put e.actor (goes atom left) ∷ [] })

pub forking : (low : Config) (e : Event) (next : Config) → row kind.Fork low e ≡ Some next → IsForking low e next
unfolding act
forking low e next h =
    let r = row-step low e next kind.Fork h in
    then (acting low e) _ r.gives λ a acts h. parts kind.Fork (sight low.sites (inside low) e.site) e a h λ p form h.
    then (one_made e.made) _ h λ m one h. then (no_other e.other) _ h λ w other h.
    record {
      atom = a;
      acts = acting-step low e a acts;
      left = p.0;
      right = p.1;
      form = form;
      new = m;
      made_one = is-one e.made m one;
      other_none = takes_nothing e.other w other;
      is_new = not-false (set.contains low.born m) (sym (one-new low.born e.made m one) ∙ r.new);
      is = r.is ∙ ap (effect low e) (done h);
    }

-- the two lists of things of a bracket
record IsSplit (i : Infrastructure) (n from first : ℕ) (a : Atom) (p q : Proc) (ts : List Thing) : Type 0 where
  left : List Thing
  right : List Thing
  whole : ts ≡ left ++ right
  are_left : Are i n from first (goes a p) left
  are_right : Are i n from first (goes a q) right

-- no thing is a bracket of the infrastructure
no_bracket : (i : Infrastructure) (n from first : ℕ) (t : Thing) (a : Atom) → Is i n from first t a → begins t role.Infra kind.Fork ≡ true → ⊥
no_bracket _ n from first (Thing.mail m (Stage.in_agent x)) a i h = cc
no_bracket _ n from first _ a i h = cc

split : {i : Infrastructure} (n from first : ℕ) (a : Atom) (p q : Proc) (ts : List Thing) → layer a.proc ≡ ProcForm-F.Par p q → a.proc.tag.role ≡ role.Infra → Are i n from first a ts → IsSplit i n from first a p q ts
split n from first a p q ts form infra (Are.one {t = t} i) =
    absurd (no_bracket _ n from first t a i (ap (λ r. begins t r kind.Fork) (sym infra) ∙ thing-begins n from first a kind.Fork (ap begun_by form) _ t i))
split {i = i} n from first a p q ts form infra (Are.both {p = x} {q = y} {ts = us} {us = vs} is left right) =
    let same : ProcForm-F.Par x y ≡ ProcForm-F.Par p q = sym (ap layer is ∙ outs-Par x y) ∙ form in
    let lefts : x ≡ p = cc in
    let rights : y ≡ q = cc in
    record {
      left = us;
      right = vs;
      whole = refl;
      are_left = subst (λ (z : Proc). Are i n from first (goes a z) us) lefts left;
      are_right = subst (λ (z : Proc). Are i n from first (goes a z) vs) rights right;
    }

-- an atom is there for something
record HasFirst (ts : List Thing) : Type 0 where
  thing : Thing
  rest : List Thing
  is : ts ≡ thing ∷ rest
  no_packet : high_packet thing ≡ None

no-packet : (i : Infrastructure) (n from first : ℕ) (t : Thing) (a : Atom) → Is i n from first t a → high_packet t ≡ None
no-packet _ n from first (Thing.packet p) a i = absurd i
no-packet _ n from first _ a i = refl

has_first : {i : Infrastructure} {n from first : ℕ} {a : Atom} {ts : List Thing} → Are i n from first a ts → HasFirst ts
has_first {n} {from} {first} {a} (Are.one {t = t} i) = record { thing = t; rest = []; is = refl; no_packet = no-packet _ n from first t a i }
has_first (Are.both {us = us} is left right) = let f = has_first left in record { thing = f.thing; rest = f.rest ++ us; is = ap (λ l. l ++ us) f.is; no_packet = f.no_packet }

abbrev IsLow : Thing → Type 0
IsLow u = high_atom u ≡ None

-- the parts of a list whose first thing alone may be of the high level
record Headed (left right : List Thing) : Type 0 where
  of_left : IsHeaded left
  of_right : IsHeaded right
  first : first_atom_of left ≡ first_atom_of (left ++ right)
  none : first_atom_of right ≡ None
  packet : first_packet_of left ≡ first_packet_of (left ++ right)
  letter : first_letter_of left ≡ first_letter_of (left ++ right)
  no_packet : first_packet_of right ≡ None
  no_letter : first_letter_of right ≡ None

headed_parts : (left right : List Thing) → HasFirst left → HasFirst right → IsHeaded (left ++ right) → Headed left right
headed_parts left right f g h =
    let whole : left ++ right ≡ f.thing ∷ (f.rest ++ right) = ap (λ l. l ++ right) f.is in
    let tail : All IsLow (f.rest ++ right) = subst IsHeaded whole h in
    let of_right : All IsLow right = all_right IsLow f.rest right tail in
    let its : All IsLow (g.thing ∷ g.rest) = subst (All IsLow) g.is of_right in
    record {
      of_left = subst IsHeaded (sym f.is) (all_left IsLow f.rest right tail);
      of_right = subst IsHeaded (sym g.is) (All-tail IsLow g.thing g.rest its);
      first = ap first_atom_of f.is ∙ sym (ap first_atom_of whole);
      none = ap first_atom_of g.is ∙ All-head IsLow g.thing g.rest its;
      packet = ap first_packet_of f.is ∙ sym (ap first_packet_of whole);
      letter = ap first_letter_of f.is ∙ sym (ap first_letter_of whole);
      no_packet = ap first_packet_of g.is ∙ g.no_packet;
      no_letter = ap first_letter_of g.is ∙ low-carries-none g.thing (All-head IsLow g.thing g.rest its);
    }

module _ {i : Infrastructure} {n from first : ℕ} {low high : Config} {v : View} (c : Coupled i n from first low high v) where
  pub forks : (e : Event) (next : Config) → e.kind ≡ kind.Fork → e.tag.role ≡ role.Infra → apply low e ≡ Some next
      → (w : View) × (w.standing ≡ v.standing) × Coupled i n from first next high w × SameLetters v w
  forks e next is_fork infra h =
      let s = forking low e next (ap (λ k. row k low e) (sym is_fork) ∙ h) in
      let o = of_atom c e.actor s.atom s.acts.there in
      let parts = split n from first s.atom s.left s.right o.things s.form (same_role s.atom.proc.tag e.tag s.acts.tag ∙ infra) o.are in
      let headed = headed_parts parts.left parts.right (has_first parts.are_left) (has_first parts.are_right) (subst IsHeaded parts.whole o.headed) in
      let there : map.get v.things e.actor ≡ Some (parts.left ++ parts.right) = o.there ∙ ap Some parts.whole in
      forked e next s o.no_packet parts.left parts.right there parts.are_left parts.are_right headed h
    where
      forked : (e : Event) (next : Config) (s : IsForking low e next) → map.get low.packets e.actor ≡ None → (left right : List Thing) → map.get v.things e.actor ≡ Some (left ++ right)
          → Are i n from first (goes s.atom s.left) left → Are i n from first (goes s.atom s.right) right → Headed left right → apply low e ≡ Some next
          → (w : View) × (w.standing ≡ v.standing) × Coupled i n from first next high w × SameLetters v w
      forked e next s no_packet left right there are_left are_right headed h = (
        record v { things = things; phase = protocol.0 },
        refl,
        quiet c next things protocol.0 (record {
          sites = ap (λ (d : Config). d.sites) s.is;
          places = λ q _. ap (λ (d : Config). map.get d.places q) s.is;
          said = ap (λ (d : Config). d.said) s.is;
          born = λ q b. ap (λ (d : Config). set.contains d.born q) s.is ∙ made-kept low.born e.made q b;
          stand_born = born-kept low next e c.stand_born h;
          shaped = λ q. shaped q (same_name q s.new) (same_name q e.actor) refl refl;
          atoms = λ q. atoms q (same_name q s.new) (same_name q e.actor) refl refl;
          packets = λ q. packets q (same_name q s.new) (same_name q e.actor) refl refl;
          protocol = protocol.1;
          known = λ q ts i. known q ts (same_name q s.new) (same_name q e.actor) refl refl i;
          hints = by_step low high next high v.things things (reordered (split_shown shows_caches)) (handed_on low high next);
          carriers =
              let its = c.carriers e.actor (left ++ right) there in
              carry_put v.standing.messengers half s.new
              (carry_put v.standing.messengers v.things e.actor c.carriers left (all_left (IsCarrier v.standing.messengers) left right its)) right
              (all_right (IsCarrier v.standing.messengers) left right its);
        }),
        λ q. letters q (same_name q s.new) (same_name q e.actor) refl refl,
      )
        where
          half : NameMap (List Thing)
          half = map.insert v.things e.actor left

          things : NameMap (List Thing)
          things = map.insert half s.new right

          other : same_name s.new e.actor ≡ false
          other = not_true _ (λ t. let bad : false ≡ true = sym s.is_new ∙ ap (set.contains low.born) (same_name-is s.new e.actor t) ∙ things_born c e.actor (left ++ right) there in cc)

          absent : map.get v.things s.new ≡ None
          absent = none (map.get v.things s.new) refl
            where
              none : (o : Option (List Thing)) → map.get v.things s.new ≡ o → o ≡ None
              none None i = refl
              none (Some ts) i = absurd (let bad : false ≡ true = sym s.is_new ∙ things_born c s.new ts i in cc)

          at : (q : Name) → map.get things q ≡ cond (same_name q s.new) (Some right) (cond (same_name q e.actor) (Some left) (map.get v.things q))
          at q = get-put half s.new right q ∙ ap (cond (same_name q s.new) (Some right)) (get-put v.things e.actor left q)

          at_atoms : (q : Name) → map.get next.atoms q ≡ cond (same_name q e.actor) (Some (goes s.atom s.left)) (cond (same_name q s.new) (Some (goes s.atom s.right)) (map.get low.atoms q))
          at_atoms q = ap (λ (d : Config). map.get d.atoms q) s.is ∙ get-put (map.insert low.atoms s.new (goes s.atom s.right)) e.actor (goes s.atom s.left) q
              ∙ ap (cond (same_name q e.actor) (Some (goes s.atom s.left))) (get-put low.atoms s.new (goes s.atom s.right) q)

          at_packets : (q : Name) → map.get next.packets q ≡ map.get low.packets q
          at_packets q = ap (λ (d : Config). map.get d.packets q) s.is

          no_new_packet : map.get low.packets s.new ≡ None
          no_new_packet = none (map.get low.packets s.new) refl
            where
              none : (o : Option _) → map.get low.packets s.new ≡ o → o ≡ None
              none None i = refl
              none (Some k) i = absurd (let bad : false ≡ true = sym s.is_new ∙ c.stand_born.marks s.new (inr (some _ k i)) in cc)

          -- what is shown stays, in another order
          split_shown : {X : Type 0} (show : Thing → List X) → Reordered (shown show things) (shown show v.things)
          split_shown show =
              let rest = shown show (map.remove v.things e.actor) in
              let new = flat (λ (e : Name × List Thing). flat_map show e.1)
              (and_then (entries_new half s.new right (get-put v.things e.actor left s.new ∙ ap (λ t. cond t (Some left) (map.get v.things s.new)) other ∙ absent))
              (behind (entries_put v.things e.actor left))) in
              let old = flat (λ (e : Name × List Thing). flat_map show e.1) (entries_at v.things e.actor (left ++ right) there) in
              let middle : Reordered (flat_map show right ++ (flat_map show left ++ rest)) (flat_map show left ++ (flat_map show right ++ rest)) =
              reorder-front (flat_map show right) (flat_map show left) rest in
              let joined : flat_map show left ++ (flat_map show right ++ rest) ≡ flat_map show (left ++ right) ++ rest =
              sym (append_assoc (flat_map show left) (flat_map show right) rest) ∙ ap (λ l. l ++ rest) (sym (flat_map-append show left right)) in
              and_then new (and_then middle (subst (λ l. Reordered l (shown show v.things)) (sym joined) (reorder-back old)))

          step_order : Reordered (chips things) (chips v.things)
          step_order = split_shown shows

          protocol : (then : Name → Phase) × Protocol (scene v high) then (chips things)
          protocol = any_order (scene v high) v.phase (chips v.things) (chips things) (permuted step_order) c.protocol

          more : (t : Thing) (b : Name) → may_know v.lock (chips v.things) t b ≡ true → may_know v.lock (chips things) t b ≡ true
          more = may_know_more v.lock (chips v.things) (chips things) (λ a b i. sym (list_any-IsPermutation (is_child_of a b) (chips v.things) (chips things) (permuted (reorder-back step_order))) ∙ i)

          weaker : (ts : List Thing) → All (λ t. KnowsOnly (may_know v.lock (chips v.things) t) (is_channel n high.born) from t) ts → All (λ t. KnowsOnly (may_know v.lock (chips things) t) (is_channel n high.born) from t) ts
          weaker ts k = All-weaker (λ t. KnowsOnly (may_know v.lock (chips v.things) t) (is_channel n high.born) from t) (λ t. KnowsOnly (may_know v.lock (chips things) t) (is_channel n high.born) from t)
              (λ t i. knows_more (may_know v.lock (chips v.things) t) (may_know v.lock (chips things) t) (is_channel n high.born) from (more t) t i) ts k

          some_is : {A : Type 0} {a b : A} → Some a ≡ Some b → a ≡ b
          some_is i = cc

          new_at : (q : Name) → same_name q s.new ≡ true → map.get things q ≡ Some right
          new_at q a = at q ∙ ap (λ t. cond t (Some right) (cond (same_name q e.actor) (Some left) (map.get v.things q))) a

          left_at : (q : Name) → same_name q s.new ≡ false → same_name q e.actor ≡ true → map.get things q ≡ Some left
          left_at q a b = at q ∙ ap (λ t. cond t (Some right) (cond (same_name q e.actor) (Some left) (map.get v.things q))) a ∙ ap (λ t. cond t (Some left) (map.get v.things q)) b

          unchanged : (q : Name) → same_name q s.new ≡ false → same_name q e.actor ≡ false → map.get things q ≡ map.get v.things q
          unchanged q a b = at q ∙ ap (λ t. cond t (Some right) (cond (same_name q e.actor) (Some left) (map.get v.things q))) a ∙ ap (λ t. cond t (Some left) (map.get v.things q)) b

          not_both : (q : Name) → same_name q s.new ≡ true → same_name q e.actor ≡ false
          not_both q t = ap (λ x. same_name x e.actor) (same_name-is q s.new t) ∙ other

          shaped : (q : Name) (t u : Bool) → same_name q s.new ≡ t → same_name q e.actor ≡ u → IsShaped i n from first next things q
          shaped q true u a b =
              IsShaped.atom (at_atoms q ∙ ap (λ t. cond t (Some (goes s.atom s.left)) (cond (same_name q s.new) (Some (goes s.atom s.right)) (map.get low.atoms q))) (not_both q a)
              ∙ ap (λ t. cond t (Some (goes s.atom s.right)) (map.get low.atoms q)) a)
              (at_packets q ∙ ap (map.get low.packets) (same_name-is q s.new a) ∙ no_new_packet) (at q ∙ ap (λ t. cond t (Some right) (cond (same_name q e.actor) (Some left) (map.get v.things q))) a) headed.of_right are_right
          shaped q false true a b =
              IsShaped.atom (at_atoms q ∙ ap (λ t. cond t (Some (goes s.atom s.left)) (cond (same_name q s.new) (Some (goes s.atom s.right)) (map.get low.atoms q))) b)
              (at_packets q ∙ ap (map.get low.packets) (same_name-is q e.actor b) ∙ no_packet)
              (at q ∙ ap (λ t. cond t (Some right) (cond (same_name q e.actor) (Some left) (map.get v.things q))) a
              ∙ ap (λ t. cond t (Some left) (map.get v.things q)) b) headed.of_left are_left
          shaped q false false a b = reshape q
              (at_atoms q ∙ ap (λ t. cond t (Some (goes s.atom s.left)) (cond (same_name q s.new) (Some (goes s.atom s.right)) (map.get low.atoms q))) b
              ∙ ap (λ t. cond t (Some (goes s.atom s.right)) (map.get low.atoms q)) a) (at_packets q) (unchanged q a b) (c.shaped q)

          atoms : (q : Name) (t u : Bool) → same_name q s.new ≡ t → same_name q e.actor ≡ u → (map.get things q >>= first_atom_of) ≡ (map.get v.things q >>= first_atom_of)
          atoms q true u a b = ap (λ o. o >>= first_atom_of) (new_at q a) ∙ headed.none ∙ sym (ap (λ o. o >>= first_atom_of) (ap (map.get v.things) (same_name-is q s.new a) ∙ absent))
          atoms q false true a b = ap (λ o. o >>= first_atom_of) (left_at q a b) ∙ headed.first ∙ sym (ap (λ o. o >>= first_atom_of) (ap (map.get v.things) (same_name-is q e.actor b) ∙ there))
          atoms q false false a b = ap (λ o. o >>= first_atom_of) (unchanged q a b)

          packets : (q : Name) (t u : Bool) → same_name q s.new ≡ t → same_name q e.actor ≡ u → (map.get things q >>= first_packet_of) ≡ (map.get v.things q >>= first_packet_of)
          packets q true u a b = ap (λ o. o >>= first_packet_of) (new_at q a) ∙ headed.no_packet ∙ sym (ap (λ o. o >>= first_packet_of) (ap (map.get v.things) (same_name-is q s.new a) ∙ absent))
          packets q false true a b = ap (λ o. o >>= first_packet_of) (left_at q a b) ∙ headed.packet ∙ sym (ap (λ o. o >>= first_packet_of) (ap (map.get v.things) (same_name-is q e.actor b) ∙ there))
          packets q false false a b = ap (λ o. o >>= first_packet_of) (unchanged q a b)

          letters : (q : Name) (t u : Bool) → same_name q s.new ≡ t → same_name q e.actor ≡ u → letter_under things q ≡ letter_under v.things q
          letters q true u a b = ap (λ o. o >>= first_letter_of) (new_at q a) ∙ headed.no_letter
              ∙ sym (ap (λ o. o >>= first_letter_of) (ap (map.get v.things) (same_name-is q s.new a) ∙ absent))
          letters q false true a b = ap (λ o. o >>= first_letter_of) (left_at q a b) ∙ headed.letter
              ∙ sym (ap (λ o. o >>= first_letter_of) (ap (map.get v.things) (same_name-is q e.actor b) ∙ there))
          letters q false false a b = ap (λ o. o >>= first_letter_of) (unchanged q a b)

          known : (q : Name) (ts : List Thing) (t u : Bool) → same_name q s.new ≡ t → same_name q e.actor ≡ u → map.get things q ≡ Some ts → All (λ t. KnowsOnly (may_know v.lock (chips things) t) (is_channel n high.born) from t) ts
          known q ts true u a b i = subst (All (λ t. KnowsOnly (may_know v.lock (chips things) t) (is_channel n high.born) from t)) (some_is (sym (new_at q a) ∙ i))
              (all_right (λ t. KnowsOnly (may_know v.lock (chips things) t) (is_channel n high.born) from t) left right
              (weaker (left ++ right) (c.known e.actor (left ++ right) there)))
          known q ts false true a b i = subst (All (λ t. KnowsOnly (may_know v.lock (chips things) t) (is_channel n high.born) from t)) (some_is (sym (left_at q a b) ∙ i))
              (all_left (λ t. KnowsOnly (may_know v.lock (chips things) t) (is_channel n high.born) from t) left right
              (weaker (left ++ right) (c.known e.actor (left ++ right) there)))
          known q ts false false a b i = weaker ts (c.known q ts (sym (unchanged q a b) ∙ i))
