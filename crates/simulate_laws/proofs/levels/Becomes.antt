-- Events of the infrastructure after which another atom stands under a mark; and the opening of a letter.
use Rattle.std.proofs.Common.{◌≡◌, ℕ, true, cond, None, Some, List, [], ◌∷◌, ◌++◌, refl, sym, ap, subst, ◌∙◌}
use Rattle.std.specs.List.{AllByRecursion, list_any}
use Rattle.std.specs.List.Sorted.{IsPermutation}
use Rattle.std.proofs.lemmas.List.Sorted.{IsPermutation-append_left, IsPermutation-trans}
use Rattle.std.proofs.lemmas.List.Elements.{All-from_recursion, All-nil, recursion_from_All}
use Rattle.std.proofs.Common.{append_assoc}
use Rattle.std.specs.FinMap as map
use Rattle.np_syntax.specs.declared.value.Name.{Name}
use Rattle.np_syntax.specs.declared.value.Value.{Value}
use Rattle.np_syntax.specs.declared.expression.Expr.{Expr}
use Rattle.np_syntax.specs.declared.process.Role.TheVariants as role
use Rattle.np_syntax.specs.declared.process.ProcForm.{ProcForm-F}
use Rattle.np_syntax.specs.declared.event.Event.{Event}
use Rattle.np_syntax.specs.declared.event.Kind.TheVariants as kind
use Rattle.np_syntax.specs.Options.{◌>>=◌}
use Rattle.np_syntax.proofs.Options.{then, done}
use Rattle.np_tables.specs.Names.{NameMap}
use Rattle.np_tables.proofs.Tables.{get-put, put_here}
use Rattle.np_calculus.specs.declared.config.Atom.{Atom}
use Rattle.np_calculus.specs.Begins.{begun_by}
use Rattle.np_calculus.specs.Changes.{effect, put, still}
use Rattle.np_calculus.specs.Config.{Config}
use Rattle.np_calculus.specs.Reductions.{apply, no_other, none_made, output_in, row}
use Rattle.np_calculus.specs.Seen.{acting}
use Rattle.np_calculus.specs.Sight.{inside, sight}
unfoldable use Rattle.np_calculus.proofs.Common.{act}
use Rattle.np_calculus.proofs.Rows.{parts}
use Rattle.np_calculus.proofs.Steps.{Acts, acting-step, row-step}
use Rattle.np_eval.specs.Eval.{letter_of}
use Rattle.np_eval.specs.Forms.{layer}
use Rattle.simulate_laws.specs.protocol.Chips.{Chip}
use Rattle.simulate_laws.specs.protocol.Phases.{Phase}
use Rattle.simulate_laws.specs.protocol.Protocol.{Protocol}
use Rattle.simulate_laws.specs.protocol.Rules.{IsKnowledge, IsLearnt, Rule}
use Rattle.simulate_laws.specs.protocol.Steps.{Step}
use Rattle.simulate_laws.proofs.protocol.Keeps.{keeps-protocol}
use Rattle.infrastructure_texts.specs.Infrastructures.{Infrastructure}
use Rattle.simulate_laws.specs.things.Acting.{begins}
use Rattle.simulate_laws.specs.things.Mail.{Posted}
use Rattle.simulate_laws.specs.things.Shapes.{Are, Is, IsAgents, Opens}
use Rattle.simulate_laws.specs.things.Things.{IsHeaded, Stage, Thing, first_atom_of, first_packet_of, high_atom, show_all, shows, show_all_caches}
use Rattle.simulate_laws.specs.levels.Coupled.{Coupled, IsShaped, KnowsOnly, View, chips, is_channel, is_child_of, may_know, scene, IsCarrier, levels}
use Rattle.simulate_laws.proofs.levels.Letters.{letter-put, same-letters}
use Rattle.simulate_laws.proofs.levels.Marks.{at_mark, step_at}
use Rattle.simulate_laws.proofs.levels.Quiet.{any_kept, quiet}
use Rattle.simulate_laws.proofs.levels.Shapes.{of_actor, same_role}
use Rattle.simulate_laws.proofs.levels.Caches.{handed_on}
use Rattle.simulate_laws.specs.levels.Letters.{IsHanding, OtherLetter, SameLetters, first_letter_of}
use Rattle.simulate_laws.specs.protocol.CacheSteps.{CacheStep}

-- a step without what is both taken and given
pub cancel : {A : Type 0} {before after take give : List A} (took gave both : List A) → Step before after take give → IsPermutation take (took ++ both) → IsPermutation give (gave ++ both) → Step before after took gave
cancel {A} {before} {after} {take} {give} took gave both step t g = record {
  rest = both ++ step.rest;
  taken = subst (IsPermutation before) (append_assoc took both step.rest) (IsPermutation-trans before (take ++ step.rest) ((took ++ both) ++ step.rest) step.taken (IsPermutation-append_left step.rest take (took ++ both) t));
  given = subst (IsPermutation after) (append_assoc gave both step.rest) (IsPermutation-trans after (give ++ step.rest) ((gave ++ both) ++ step.rest) step.given (IsPermutation-append_left step.rest give (gave ++ both) g));
}

module _ {i : Infrastructure} {n from first : ℕ} {low high : Config} {v : View} (c : Coupled i n from first low high v) where
  -- another atom stands under a mark, with other things, for which the high level has the same
  pub record Becomes (next : Config) (e : Event) (m : Name) (x : Atom) (ts us : List Thing) : Type 0 where
    pub applies : apply low e ≡ Some next
    pub is : next ≡ effect low e (record still { atoms = put m x ∷ [] })
    pub no_packet : map.get low.packets m ≡ None
    pub there : map.get v.things m ≡ Some ts
    pub headed : IsHeaded us
    pub are : Are i n from first x us
    pub atoms : first_atom_of us ≡ first_atom_of ts
    pub packets : first_packet_of us ≡ first_packet_of ts
    pub protocol : Step (chips v.things) (chips (map.insert v.things m us)) (show_all ts) (show_all us) → (then : Name → Phase) × Protocol (scene v high) then (chips (map.insert v.things m us))
    pub children : (a b : Name) → list_any (is_child_of a b) (show_all ts) ≡ true → list_any (is_child_of a b) (show_all us) ≡ true
    pub known : AllByRecursion (λ t. KnowsOnly (may_know v.lock (chips v.things) t) (is_channel n high.born) from t) ts
        → AllByRecursion (λ t. KnowsOnly (may_know v.lock (chips (map.insert v.things m us)) t) (is_channel n high.born) from t) us
    pub hints : i ≡ Infrastructure.cached → CacheStep (levels low high) (levels next high) (show_all_caches ts) (show_all_caches us)
    pub carriers : AllByRecursion (IsCarrier v.standing.messengers) ts → AllByRecursion (IsCarrier v.standing.messengers) us

  pub becomes_other : (next : Config) (e : Event) (m : Name) (x : Atom) (ts us : List Thing) → Becomes next e m x ts us
      → (w : View) × (w.standing ≡ v.standing) × Coupled i n from first next high w × OtherLetter v w m (first_letter_of us)
  becomes_other next e m x ts us b =
      let things : NameMap (List Thing) = map.insert v.things m us in
      let step = step_at shows v.things m ts us b.there in
      let protocol = b.protocol step in (
        record v { things = things; phase = protocol.0 },
        refl,
        quiet c next things protocol.0 (at_mark c next e m ts us protocol.0 (record {
          applies = b.applies;
          sites = ap (λ (d : Config). d.sites) b.is;
          places = λ q _. ap (λ (d : Config). map.get d.places q) b.is;
          said = ap (λ (d : Config). d.said) b.is;
          born = ap (λ (d : Config). d.born) b.is;
          there = b.there;
          others = λ q d. (ap (λ (d : Config). map.get d.atoms q) b.is ∙ get-put low.atoms m x q ∙ ap (λ t. cond t (Some x) (map.get low.atoms q)) d, ap (λ (d : Config). map.get d.packets q) b.is);
          here = IsShaped.atom (ap (λ (d : Config). map.get d.atoms m) b.is ∙ put_here low.atoms m x) (ap (λ (d : Config). map.get d.packets m) b.is ∙ b.no_packet) (put_here v.things m us) b.headed b.are;
          atoms = b.atoms;
          packets = b.packets;
          protocol = protocol.1;
          children = λ a d. any_kept (is_child_of a d) step (b.children a d);
          known = All-from_recursion (λ t. KnowsOnly (may_know v.lock (chips things) t) (is_channel n high.born) from t) us
              (b.known (recursion_from_All (λ t. KnowsOnly (may_know v.lock (chips v.things) t) (is_channel n high.born) from t) ts (c.known m ts b.there)));
          hints = b.hints;
          carriers = All-from_recursion (IsCarrier v.standing.messengers) us
              (b.carriers (recursion_from_All (IsCarrier v.standing.messengers) ts (c.carriers m ts b.there)));
        })),
        letter-put v.things m us,
      )

  -- the new things carry the letter that was there
  pub becomes : (next : Config) (e : Event) (m : Name) (x : Atom) (ts us : List Thing) → first_letter_of us ≡ first_letter_of ts → Becomes next e m x ts us
      → (w : View) × (w.standing ≡ v.standing) × Coupled i n from first next high w × SameLetters v w
  becomes next e m x ts us same b =
      let w = becomes_other next e m x ts us b in (w.0, w.1, w.2, λ q. w.3 q ∙ sym (letter-put v.things m us q) ∙ same-letters v.things m us ts b.there same q)

-- ---- a letter is opened

record IsOpening (low : Config) (e : Event) (next : Config) : Type 0 where
  atom : Atom
  acts : Acts low e atom
  letter : Expr
  form : layer atom.proc ≡ ProcForm-F.Open letter
  held : Name × Value
  its_letter : letter_of letter atom.env ≡ Some held
  is : next ≡ effect low e (record still { atoms = put e.actor (output_in atom.agent held.0 held.1 e.tag) ∷ [] })

opening : (low : Config) (e : Event) (next : Config) → row kind.Open low e ≡ Some next → IsOpening low e next
unfolding act
opening low e next h =
    let r = row-step low e next kind.Open h in
    then (acting low e) _ r.gives λ a acts h. parts kind.Open (sight low.sites (inside low) e.site) e a h λ x form h.
    then (letter_of x a.env) _ h λ l its h. then (none_made e.made) _ h λ u none h. then (no_other e.other) _ h λ w other h.
    record { atom = a; acts = acting-step low e a acts; letter = x; form = form; held = l; its_letter = its; is = r.is ∙ ap (effect low e) (done h) }

opens_letter : {R : Type 0} (i : Infrastructure) (n from first : ℕ) (t : Thing) (a : Atom) → Is i n from first t a → begins t role.Infra kind.Open ≡ true → ((p : Posted) → t ≡ Thing.opening p → Opens p a → IsAgents n p.agent → R) → R
opens_letter _ n from first (Thing.opening p) a i h f = f p refl i.0 i.1
opens_letter _ n from first (Thing.mail m (Stage.in_agent x)) a i h f = absurd cc
opens_letter _ n from first _ a i h f = absurd cc

module _ {i : Infrastructure} {n from first : ℕ} {low high : Config} {v : View} (c : Coupled i n from first low high v) where
  pub opens : (e : Event) (next : Config) → e.kind ≡ kind.Open → e.tag.role ≡ role.Infra → apply low e ≡ Some next
      → (w : View) × (w.standing ≡ v.standing) × Coupled i n from first next high w × IsHanding next e v w
  opens e next is_open infra h =
      let s = opening low e next (ap (λ k. row k low e) (sym is_open) ∙ h) in
      let o = of_actor c e.actor s.atom kind.Open role.Infra s.acts.there (ap begun_by s.form) (same_role s.atom.proc.tag e.tag s.acts.tag ∙ infra) (λ k r. cc) in
      opens_letter _ n from first o.thing s.atom o.is o.its_kind λ p thing i apart.
      let letters : s.letter ≡ i.letter = (let same = sym s.form ∙ i.is in cc) in
      let held : s.held ≡ (p.chan, p.value) = some_is (sym s.its_letter ∙ ap (λ (y : Expr). letter_of y s.atom.env) letters ∙ i.holds) in
      let there : map.get v.things e.actor ≡ Some (Thing.opening p ∷ []) = o.there ∙ ap (λ t. Some (t ∷ [])) thing in
      let output : output_in s.atom.agent s.held.0 s.held.1 e.tag ≡ output_in p.agent p.chan p.value e.tag =
      ap (λ (a : Name). output_in a s.held.0 s.held.1 e.tag) i.agent ∙ ap (λ (l : Name × Value). output_in p.agent l.0 l.1 e.tag) held in
      let w = becomes_other c next e e.actor (output_in s.atom.agent s.held.0 s.held.1 e.tag) (Thing.opening p ∷ []) (Thing.opened p ∷ []) (record {
        applies = h;
        is = s.is;
        no_packet = o.no_packet;
        there = there;
        headed = All-nil (λ u. high_atom u ≡ None);
        are = Are.one (record {
          apart = apart;
          tag = e.tag;
          is = output;
        });
        atoms = refl;
        packets = refl;
        protocol = λ step. keeps-protocol (scene v high) (scene v high) v.phase (chips v.things) _ (Chip.knows p.agent ∷ []) []
            (Rule.knows (All-from_recursion IsKnowledge (Chip.knows p.agent ∷ []) (tt, tt)) (All-nil (IsLearnt (scene v high)))) step c.protocol;
        children = λ a b any. any;
        known = λ k. k;
        hints = handed_on low high next;
        carriers = λ k. (tt, tt);
      }) in (
        w.0,
        w.1,
        w.2,
        record {
          letter = p;
          was = ap (λ o. o >>= first_letter_of) there;
          tag = e.tag;
          stands = ap (λ (d : Config). map.get d.atoms e.actor) s.is ∙ put_here low.atoms e.actor (output_in s.atom.agent s.held.0 s.held.1 e.tag)
              ∙ ap Some output;
          after = w.3;
        },
      )
    where
      some_is : {A : Type 0} {a b : A} → Some a ≡ Some b → a ≡ b
      some_is e = cc
