-- The daemon's servers take mail, and an agent's server takes a letter.
use Rattle.std.proofs.Common.{◌≡◌, ◌+◌, ℕ, true, nat_eq, None, Some, [], ◌∷◌, refl, sym, ap, ◌∙◌, arith}
use Rattle.std.specs.List.{list_any}
use Rattle.std.proofs.lemmas.List.Sorted.{IsPermutation-middle, IsPermutation-refl}
use Rattle.std.proofs.lemmas.List.Elements.{All-from_recursion, All-nil, recursion_from_All}
use Rattle.std.specs.FinMap as map
use Rattle.np_syntax.specs.declared.value.Name.{Name}
use Rattle.np_syntax.specs.declared.value.Value.{Value}
use Rattle.np_syntax.specs.declared.value.Value as value
use Rattle.np_syntax.specs.declared.value.Value.TheVariants as outs
use Rattle.np_syntax.specs.declared.process.Proc.{Proc}
use Rattle.np_syntax.specs.declared.process.Role.TheVariants as role
use Rattle.np_syntax.specs.declared.process.ProcForm.{ProcForm-F}
use Rattle.np_syntax.specs.declared.process.ProcForm.TheVariants as forms
use Rattle.np_syntax.specs.declared.event.Event.{Event}
use Rattle.np_syntax.specs.declared.event.Kind.TheVariants as kind
use Rattle.np_syntax.proofs.Options.{then, done}
use Rattle.np_tables.specs.Names.{same_name}
use Rattle.np_tables.proofs.Tables.{same_name-is}
use Rattle.np_calculus.specs.declared.config.Atom.{Atom}
use Rattle.np_calculus.specs.Begins.{begun_by}
use Rattle.np_calculus.specs.Changes.{put, still, Change}
use Rattle.np_calculus.specs.Config.{Config}
use Rattle.np_calculus.specs.Reductions.{apply, goes_under, row}
use Rattle.np_calculus.specs.Seen.{acting}
use Rattle.np_calculus.specs.Sight.{inside, sight}
unfoldable use Rattle.np_calculus.proofs.Common.{act}
use Rattle.np_calculus.proofs.Rows.{parts}
use Rattle.np_calculus.proofs.Steps.{row-step}
use Rattle.np_eval.specs.Eval.{Env, bind, chan_of, eval}
use Rattle.np_eval.specs.Forms.{layer}
use Rattle.np_syntax.specs.declared.expression.ExprForm as expr
use Rattle.np_calculus.specs.Starts.{daemon_agent, own, own_numbers}
use Rattle.simulate_laws.specs.protocol.Chips.{Chip, Service}
use Rattle.simulate_laws.specs.protocol.Protocol.{IsTrueOf}
use Rattle.simulate_laws.specs.protocol.Rules.{IsKnowledge, IsLearnt, Rule}
use Rattle.simulate_laws.proofs.protocol.Steps.{all_taken}
use Rattle.simulate_laws.proofs.protocol.Keeps.{keeps-protocol}
use Rattle.infrastructure_texts.specs.Pieces.{beside, daemon, dack, deliver, expression, infra, name, pair, site, tells, two_names, variable, takes as takes_text}
use Rattle.infrastructure_texts.specs.Infrastructures.{Infrastructure}
use Rattle.infrastructure_texts.specs.CacheTexts.{cache, found}
use Rattle.np_syntax.specs.declared.process.ProcForm as form
use Rattle.simulate_laws.proofs.things.Starts.{constant-is}
use Rattle.simulate_laws.specs.things.Acting.{begins}
use Rattle.simulate_laws.specs.things.Desks.{Took, desk, takes_map}
use Rattle.simulate_laws.specs.things.Mail.{Mail, Posted, content as content_of, on_channel, receiver}
use Rattle.simulate_laws.specs.things.Shapes.{Are, Is, IsLetters, IsServing, IsAgents}
use Rattle.simulate_laws.specs.things.Things.{Stage, Thing, high_atom, shows}
use Rattle.simulate_laws.specs.things.CacheShapes.{IsKeeping, changes}
use Rattle.simulate_laws.specs.levels.Coupled.{Coupled, View, scene, chips}
use Rattle.simulate_laws.proofs.levels.Becomes.{becomes, cancel}
use Rattle.simulate_laws.proofs.levels.Marks.{same_chips, step_at}
use Rattle.simulate_laws.proofs.levels.Outputs.{by_number, given_by, is-own, number-of}
use Rattle.simulate_laws.proofs.levels.Shapes.{of_actor, of_atom, same_role}
use Rattle.simulate_laws.proofs.levels.Values.{agent-is, bind-one, bind-two, channel-is, here_is, named_kept, pair-is, there_is, variable-is}
use Rattle.simulate_laws.proofs.levels.Caches.{handed_on}
use Rattle.simulate_laws.specs.levels.Letters.{SameLetters}
use Rattle.simulate_laws.proofs.levels.Takings.{IsTaking, taking}

-- what a server's event does
abbrev pub serves_by : Name → Atom → Change
serves_by o a = record still { atoms = put o a ∷ [] }

abbrev pub IsRepeating : Config → Event → Config → Type 0
IsRepeating low e next = IsTaking ProcForm-F.Rep serves_by low e next

pub repeating : (low : Config) (e : Event) (next : Config) → row kind.Rep low e ≡ Some next → IsRepeating low e next
unfolding act
repeating low e next h =
    let r = row-step low e next kind.Rep h in
    then (acting low e) _ r.gives λ a acts h. parts kind.Rep (sight low.sites (inside low) e.site) e a h λ p form h.
    taking ProcForm-F.Rep serves_by low e next _ r.is a acts p.0 p.1 p.2 form h

-- ---- the daemon serves

abbrev number_of : Service → ℕ
number_of Service.registers = 2
number_of Service.grants = 3
number_of Service.notes_moves = 4
number_of Service.passes_on = 5
number_of Service.ends_deliveries = 8
number_of Service.tells = 15

desk-chan : (n x : ℕ) (k : Service) → (desk n x k).chan ≡ expression (expr.Val (value.Chan (own n (number_of k))))
desk-chan n x Service.registers = refl
desk-chan n x Service.grants = refl
desk-chan n x Service.notes_moves = refl
desk-chan n x Service.passes_on = refl
desk-chan n x Service.ends_deliveries = refl
desk-chan n x Service.tells = refl

-- what two binders of the daemon have
two_there : (x d : ℕ) (u w : Value) (env next : Env) → bind (two_names (x + d) (x + (d + 1))) (value.Tuple (u ∷ w ∷ [])) env ≡ Some next → (map.get next (x + d) ≡ Some u) × (map.get next (x + (d + 1)) ≡ Some w)
two_there x d u w env next h =
    let is : next ≡ map.insert (map.insert env (x + d) u) (x + (d + 1)) w = done (sym (bind-two (x + d) (x + (d + 1)) u w env) ∙ h) in (
      ap (λ (e : Env). map.get e (x + d)) is ∙ there_is (map.insert env (x + d) u) (x + (d + 1)) (x + d) w (λ e. let bad : ⊥ = omega arith in bad) ∙ here_is env (x + d) u,
      ap (λ (e : Env). map.get e (x + (d + 1))) is ∙ here_is (map.insert env (x + d) u) (x + (d + 1)) w,
    )

took : (n x : ℕ) (k : Service) (m : Mail) (v : Value) (env next : Env) → on_channel m ≡ number_of k → v ≡ content_of m → bind (desk n x k).pattern v env ≡ Some next → Took x k m next
took n x Service.registers (Mail.register b s) v env next same is h =
    let g = two_there x 0 (value.Agent b) (value.Site s) env next
    (let start : x + 0 ≡ x = omega arith in ap (λ y. bind (two_names y (x + 1)) (value.Tuple (value.Agent b ∷ value.Site s ∷ [])) env) start
    ∙ ap (λ u. bind (two_names x (x + 1)) u env) (sym is) ∙ h) in
    (let start : x + 0 ≡ x = omega arith in ap (map.get next) (sym start) ∙ g.0, g.1)
took n x Service.grants (Mail.migrating a) v env next same is h =
    let e : next ≡ map.insert env (x + 4) (value.Agent a) = done (sym (ap (λ u. bind (name (x + 4)) u env) is ∙ bind-one (x + 4) (value.Agent a) env) ∙ h) in
    ap (λ (e : Env). map.get e (x + 4)) e ∙ here_is env (x + 4) (value.Agent a)
took n x Service.notes_moves (Mail.migrated a t) v env next same is h = two_there x 8 (value.Agent a) (value.Site t) env next (ap (λ u. bind (two_names (x + 8) (x + 9)) u env) (sym is) ∙ h)
took n x Service.passes_on (Mail.message p) v env next same is h = two_there x 12 (value.Agent p.agent) (value.Letter p.chan p.value) env next (ap (λ u. bind (two_names (x + 12) (x + 13)) u env) (sym is) ∙ h)
took n x Service.ends_deliveries (Mail.dack b s) v env next same is h = two_there x 17 (value.Agent b) (value.Site s) env next (ap (λ u. bind (two_names (x + 17) (x + 18)) u env) (sym is) ∙ h)
took n x Service.tells (Mail.asks a b) v env next same is h = two_there x 21 (value.Agent a) (value.Agent b) env next (ap (λ u. bind (two_names (x + 21) (x + 22)) u env) (sym is) ∙ h)
took n x _ _ v env next same is h = absurd (let bad : ⊥ = omega arith in bad)

module _ {i : Infrastructure} {n from first : ℕ} {low high : Config} {v : View} (c : Coupled i n from first low high v) where
  -- a lock of an agent is no name of the infrastructure but main's
  pub no_lock_at : (m : Name) (i : ℕ) (t : Thing) → list_any (nat_eq i) own_numbers ≡ true → (i ≡ 13 → ⊥) → map.get v.things m ≡ Some (t ∷ []) → (l : Name) (s : ℕ) → t ≡ Thing.free l s → l ≡ own n i → ⊥
  no_lock_at m i t own_one other there l s is on =
      let at : map.get v.things m ≡ Some (Thing.free l s ∷ []) = there ∙ ap (λ t. Some (t ∷ [])) is in
      let claim = (recursion_from_All (IsTrueOf (scene v high) v.phase) (Chip.free l s ∷ []) (all_taken (step_at shows v.things m (Thing.free l s ∷ []) [] at) (IsTrueOf (scene v high) v.phase) c.protocol.true_chips)).0 in
      other (number-of n i 13 (c.locks_apart claim.0 (own n i) (claim.1 ∙ ap Some on) (is-own n i own_one)))

  served : (e : Event) (next : Config) (s : IsRepeating low e next) (k : Service) → IsServing n first k s.atom → apply low e ≡ Some next
      → (w : View) × (w.standing ≡ v.standing) × Coupled i n from first next high w × SameLetters v w
  served e next s k i h =
      let d = desk n first k in
      let form : ProcForm-F.Rep s.on s.pattern s.body ≡ ProcForm-F.Rep d.chan d.pattern (takes_map n d) = sym s.form ∙ ap layer i.is ∙ forms.outs-Rep d.chan d.pattern (takes_map n d) in
      let on : s.on ≡ d.chan = cc in
      let pattern : s.pattern ≡ d.pattern = cc in
      let body : s.body ≡ takes_map n d = cc in
      let o = of_atom c s.other s.offers.mate s.offers.waits in
      let g = given_by c s.other s.offers.mate s.offers.sent s.offers.waits s.offers.sends_it o.things o.there o.are in
      let there : map.get v.things s.other ≡ Some (g.thing ∷ []) = o.there ∙ ap Some g.alone in
      let chan : s.chan ≡ own n (number_of k) = done (sym (ap (λ x. chan_of x s.atom.env) (on ∙ desk-chan n first k) ∙ channel-is (own n (number_of k)) s.atom.env) ∙ s.its_chan) in
      by_number n (number_of k) high.born s.offers.mate s.offers.sent.0 s.offers.sent.1 g.thing (listed k) (not_nine k) (not_ten k) (not_fourteen k)
      (no_lock_at s.other (number_of k) g.thing (listed k) (not_thirteen k) there)
      (sym (same_name-is s.chan s.offers.sent.0 s.offers.agree) ∙ chan) g.gift λ m thing number content for.
      becomes c next e s.other (goes_under s.atom s.body s.env) (Thing.mail m Stage.there ∷ []) (Thing.taken m ∷ []) refl (record {
        applies = h;
        is = s.is;
        no_packet = o.no_packet;
        there = there ∙ ap (λ t. Some (t ∷ [])) thing;
        headed = All-nil (λ u. high_atom u ≡ None);
        are = Are.one (record { agent = i.agent; service = k; took = took n first k m s.what s.atom.env s.env number (s.offers.is ∙ content) (ap (λ p. bind p s.what s.atom.env) (sym pattern) ∙ s.binds); is = body });
        atoms = refl;
        packets = refl;
        protocol = λ step. same_chips step c.protocol;
        children = λ a b any. any;
        known = λ k. k;
        hints = handed_on low high next;
        carriers = λ k. (tt, tt);
      })
    where
      listed : (k : Service) → list_any (nat_eq (number_of k)) own_numbers ≡ true
      listed Service.registers = refl
      listed Service.grants = refl
      listed Service.notes_moves = refl
      listed Service.passes_on = refl
      listed Service.ends_deliveries = refl
      listed Service.tells = refl

      not_nine : (k : Service) → number_of k ≡ 9 → ⊥
      not_nine Service.registers e = omega arith
      not_nine Service.grants e = omega arith
      not_nine Service.notes_moves e = omega arith
      not_nine Service.passes_on e = omega arith
      not_nine Service.ends_deliveries e = omega arith
      not_nine Service.tells e = omega arith

      not_ten : (k : Service) → number_of k ≡ 10 → ⊥
      not_ten Service.registers e = omega arith
      not_ten Service.grants e = omega arith
      not_ten Service.notes_moves e = omega arith
      not_ten Service.passes_on e = omega arith
      not_ten Service.ends_deliveries e = omega arith
      not_ten Service.tells e = omega arith

      not_thirteen : (k : Service) → number_of k ≡ 13 → ⊥
      not_thirteen Service.registers e = omega arith
      not_thirteen Service.grants e = omega arith
      not_thirteen Service.notes_moves e = omega arith
      not_thirteen Service.passes_on e = omega arith
      not_thirteen Service.ends_deliveries e = omega arith
      not_thirteen Service.tells e = omega arith

      not_fourteen : (k : Service) → number_of k ≡ 14 → ⊥
      not_fourteen Service.registers e = omega arith
      not_fourteen Service.grants e = omega arith
      not_fourteen Service.notes_moves e = omega arith
      not_fourteen Service.passes_on e = omega arith
      not_fourteen Service.ends_deliveries e = omega arith
      not_fourteen Service.tells e = omega arith

-- ---- an agent's server takes a letter

letter_mail : {R : Type 0} (m : Mail) → on_channel m ≡ 6 → ((p : Posted) (s : ℕ) → m ≡ Mail.deliver p s → R) → R
letter_mail (Mail.deliver p s) e r = r p s refl
letter_mail _ e r = absurd (let bad : ⊥ = omega arith in bad)

answer_mail : {R : Type 0} (m : Mail) → on_channel m ≡ 16 → ((a : Name) (u : ℕ) (b : Name) (s : ℕ) → m ≡ Mail.found a u b s → R) → R
answer_mail (Mail.found a u b s) e r = r a u b s refl
answer_mail _ e r = absurd (let bad : ⊥ = omega arith in bad)

module _ {i : Infrastructure} {n from first : ℕ} {low high : Config} {v : View} (c : Coupled i n from first low high v) where
  handed : (e : Event) (next : Config) (s : IsRepeating low e next) (x : Name) → IsLetters n from x s.atom → apply low e ≡ Some next
      → (w : View) × (w.standing ≡ v.standing) × Coupled i n from first next high w × SameLetters v w
  handed e next s x i h =
      let left : Proc = infra i.node (form.Open (variable i.letter)) in
      let right : Proc = tells n i.node (dack n) (pair i.named (variable i.place)) in
      let forms_are : ProcForm-F.Rep s.on s.pattern s.body ≡ ProcForm-F.Rep (deliver n) (two_names i.letter i.place) (beside i.node left right) =
      sym s.form ∙ ap layer i.is ∙ forms.outs-Rep (deliver n) (two_names i.letter i.place) (beside i.node left right) in
      let on : s.on ≡ deliver n = cc in
      let pattern : s.pattern ≡ two_names i.letter i.place = cc in
      let body : s.body ≡ beside i.node left right = cc in
      let o = of_atom c s.other s.offers.mate s.offers.waits in
      let g = given_by c s.other s.offers.mate s.offers.sent s.offers.waits s.offers.sends_it o.things o.there o.are in
      let there : map.get v.things s.other ≡ Some (g.thing ∷ []) = o.there ∙ ap Some g.alone in
      let chan : s.chan ≡ own n 6 = done (sym (ap (λ x. chan_of x s.atom.env) on ∙ channel-is (own n 6) s.atom.env) ∙ s.its_chan) in
      by_number n 6 high.born s.offers.mate s.offers.sent.0 s.offers.sent.1 g.thing refl (λ e. let bad : ⊥ = omega arith in bad) (λ e. let bad : ⊥ = omega arith in bad)
      (λ e. let bad : ⊥ = omega arith in bad)
      (no_lock_at c s.other 6 g.thing refl (λ e. let bad : ⊥ = omega arith in bad) there)
      (sym (same_name-is s.chan s.offers.sent.0 s.offers.agree) ∙ chan) g.gift λ m thing number content for.
      letter_mail m number λ p t mail.
      let agent : s.atom.agent ≡ p.agent = same_name-is s.atom.agent s.offers.mate.agent s.offers.together ∙ for ∙ ap (receiver n) mail in
      let what : s.what ≡ value.Tuple (value.Letter p.chan p.value ∷ value.Site t ∷ []) = s.offers.is ∙ content ∙ ap content_of mail in
      let env : s.env ≡ map.insert (map.insert s.atom.env i.letter (value.Letter p.chan p.value)) i.place (value.Site t) =
      done (sym (ap (λ q. bind q s.what s.atom.env) pattern ∙ ap (λ u. bind (two_names i.letter i.place) u s.atom.env) what ∙ bind-two i.letter i.place (value.Letter p.chan p.value) (value.Site t) s.atom.env) ∙ s.binds) in
      let letter_is : map.get s.env i.letter ≡ Some (value.Letter p.chan p.value) =
      ap (λ (e : Env). map.get e i.letter) env ∙ there_is (map.insert s.atom.env i.letter (value.Letter p.chan p.value)) i.place i.letter (value.Site t) i.distinct ∙ here_is s.atom.env i.letter (value.Letter p.chan p.value) in
      let place_is : map.get s.env i.place ≡ Some (value.Site t) = ap (λ (e : Env). map.get e i.place) env ∙ here_is (map.insert s.atom.env i.letter (value.Letter p.chan p.value)) i.place (value.Site t) in
      let named_is : eval i.named s.env ≡ Some (value.Agent p.agent) =
      ap (eval i.named) env ∙ named_kept n from i.named (map.insert s.atom.env i.letter (value.Letter p.chan p.value)) i.place (value.Site t) i.names i.place_above
      ∙ named_kept n from i.named s.atom.env i.letter (value.Letter p.chan p.value) i.names i.letter_above ∙ i.calls ∙ ap (λ a. Some (value.Agent a)) (sym i.agent ∙ agent) in
      becomes c next e s.other (goes_under s.atom s.body s.env) (Thing.mail (Mail.deliver p t) Stage.there ∷ []) (Thing.opening p ∷ Thing.mail (Mail.dack p.agent t) (Stage.in_agent x) ∷ []) refl (record {
        applies = h;
        is = s.is;
        no_packet = o.no_packet;
        there = there ∙ ap (λ t. Some (t ∷ [])) (thing ∙ ap (λ m. Thing.mail m Stage.there) mail);
        headed = All-from_recursion (λ u. high_atom u ≡ None) (Thing.mail (Mail.dack p.agent t) (Stage.in_agent x) ∷ []) (refl, tt);
        are = Are.both {k = i.node} {p = left} {q = right} body
            (Are.one (
              record {
                agent = agent;
                letter = variable i.letter;
                role = refl;
                is = forms.outs-Open (variable i.letter);
                holds = rw (variable-is i.letter s.env, letter_is, outs.outs-Letter p.chan p.value) refl;
              },
              ap (λ a. same_name a (daemon_agent n)) (sym agent ∙ i.agent) ∙ i.apart,
            ))
            (Are.one (
              record {
                agent = i.agent;
                receiver = daemon n;
                to = site 0;
                chan = dack n;
                sent = pair i.named (variable i.place);
                role = refl;
                is = forms.outs-Send (daemon n) (site 0) (dack n) (pair i.named (variable i.place));
                for_agent = agent-is (daemon_agent n) s.env;
                for_site = constant-is (value.Site 0) s.env;
                on = channel-is (own n 8) s.env;
                holds = pair-is i.named (variable i.place) (value.Agent p.agent) (value.Site t) s.env named_is (variable-is i.place s.env ∙ place_is);
              },
              tt,
            ));
        atoms = refl;
        packets = refl;
        protocol = λ step. same_chips (cancel [] [] (Chip.delivery p.agent t ∷ Chip.knows p.agent ∷ []) step (IsPermutation-refl (Chip.delivery p.agent t ∷ Chip.knows p.agent ∷ []))
            (IsPermutation-middle (Chip.knows p.agent ∷ []) (Chip.delivery p.agent t) [])) c.protocol;
        children = λ a b any. any;
        known = λ k. (k.0, (tt, tt));
        hints = handed_on low high next;
        carriers = λ k. (tt, (tt, tt));
      })

  -- an agent's server takes an answer of the daemon
  answered : (e : Event) (next : Config) (s : IsRepeating low e next) → i ≡ Infrastructure.cached → (x : Name) → IsKeeping n from x s.atom → IsAgents n x → apply low e ≡ Some next
      → (w : View) × (w.standing ≡ v.standing) × Coupled i n from first next high w × SameLetters v w
  answered e next s cached x j apart h =
      let text : Proc = takes_text j.node (cache n) (name (j.x + 2)) (changes n j.node j.x) in
      let forms_are : ProcForm-F.Rep s.on s.pattern s.body ≡ ProcForm-F.Rep (found n) (two_names j.x (j.x + 1)) text =
      sym s.form ∙ ap layer j.is ∙ forms.outs-Rep (found n) (two_names j.x (j.x + 1)) text in
      let on : s.on ≡ found n = cc in
      let pattern : s.pattern ≡ two_names j.x (j.x + 1) = cc in
      let body : s.body ≡ text = cc in
      let o = of_atom c s.other s.offers.mate s.offers.waits in
      let g = given_by c s.other s.offers.mate s.offers.sent s.offers.waits s.offers.sends_it o.things o.there o.are in
      let there : map.get v.things s.other ≡ Some (g.thing ∷ []) = o.there ∙ ap Some g.alone in
      let chan : s.chan ≡ own n 16 = done (sym (ap (λ x. chan_of x s.atom.env) on ∙ channel-is (own n 16) s.atom.env) ∙ s.its_chan) in
      by_number n 16 high.born s.offers.mate s.offers.sent.0 s.offers.sent.1 g.thing refl (λ e. let bad : ⊥ = omega arith in bad) (λ e. let bad : ⊥ = omega arith in bad)
      (λ e. let bad : ⊥ = omega arith in bad) (no_lock_at c s.other 16 g.thing refl (λ e. let bad : ⊥ = omega arith in bad) there)
      (sym (same_name-is s.chan s.offers.sent.0 s.offers.agree) ∙ chan) g.gift λ m thing number content for.
      answer_mail m number λ a u b t mail.
      let what : s.what ≡ value.Tuple (value.Agent b ∷ value.Site t ∷ []) = s.offers.is ∙ content ∙ ap content_of mail in
      let env : s.env ≡ map.insert (map.insert s.atom.env j.x (value.Agent b)) (j.x + 1) (value.Site t) =
      done (sym (ap (λ q. bind q s.what s.atom.env) pattern ∙ ap (λ u. bind (two_names j.x (j.x + 1)) u s.atom.env) what ∙ bind-two j.x (j.x + 1) (value.Agent b) (value.Site t) s.atom.env) ∙ s.binds) in
      becomes c next e s.other (goes_under s.atom s.body s.env) (Thing.mail (Mail.found a u b t) Stage.there ∷ []) (Thing.told x ∷ []) refl (record {
        applies = h;
        is = s.is;
        no_packet = o.no_packet;
        there = there ∙ ap (λ t. Some (t ∷ [])) (thing ∙ ap (λ m. Thing.mail m Stage.there) mail);
        headed = All-nil (λ u. high_atom u ≡ None);
        are = Are.one (
          cached,
          record {
            node = j.node;
            x = j.x;
            answer = record {
              agent = j.agent;
              site = value.Site t;
              its_site = ap (λ (e : Env). map.get e (j.x + 1)) env ∙ here_is (map.insert s.atom.env j.x (value.Agent b)) (j.x + 1) (value.Site t);
            };
            is = body;
          },
          apart,
        );
        atoms = refl;
        packets = refl;
        protocol = λ step. keeps-protocol (scene v high) (scene v high) v.phase (chips v.things) _ (Chip.knows a ∷ []) []
            (Rule.knows (All-from_recursion IsKnowledge (Chip.knows a ∷ []) (tt, tt)) (All-nil (IsLearnt (scene v high)))) step c.protocol;
        children = λ a b any. absurd cc;
        known = λ k. (tt, tt);
        hints = handed_on low high next;
        carriers = λ k. (tt, tt);
      })

  pub serves : (e : Event) (next : Config) → e.kind ≡ kind.Rep → e.tag.role ≡ role.Infra → apply low e ≡ Some next
      → (w : View) × (w.standing ≡ v.standing) × Coupled i n from first next high w × SameLetters v w
  serves e next is_rep infra h =
      let s = repeating low e next (ap (λ k. row k low e) (sym is_rep) ∙ h) in
      let o = of_actor c e.actor s.atom kind.Rep role.Infra s.acts.there (ap begun_by s.form) (same_role s.atom.proc.tag e.tag s.acts.tag ∙ infra) (λ k r. cc) in
      by_thing s o.thing o.is o.its_kind
    where
      by_thing : (s : IsRepeating low e next) (t : Thing) → Is i n from first t s.atom → begins t role.Infra kind.Rep ≡ true
          → (w : View) × (w.standing ≡ v.standing) × Coupled i n from first next high w × SameLetters v w
      by_thing s (Thing.letters x) j b = handed e next s x j h
      by_thing s (Thing.keeping x) j b = answered e next s j.0 x j.1 j.2 h
      by_thing s (Thing.serving k) j b = served c e next s k j h
      by_thing s (Thing.mail m (Stage.in_agent x)) j b = absurd cc
      by_thing s _ j b = absurd cc
