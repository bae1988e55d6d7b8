-- The daemon's process has no fault.
use Rattle.std.proofs.Common.{◌≡◌, ℕ, ◌+◌, ◌<◌, true, Some, Ok, [], ◌∷◌, refl, ap, ◌∙◌, arith}
use Rattle.std.specs.Prelude.{nat_lt}
use Rattle.std.specs.FinMap as table
use Rattle.np_syntax.specs.declared.value.Value as value
use Rattle.np_syntax.specs.declared.types.Cap.TheVariants as cap
use Rattle.np_syntax.specs.declared.types.Ty.{Ty}
use Rattle.np_syntax.specs.declared.types.Ty as ty
use Rattle.np_syntax.specs.declared.types.Ty.TheVariants.{outs-Chan, outs-Site}
use Rattle.np_syntax.specs.declared.expression.Expr.{Expr}
use Rattle.np_syntax.specs.declared.pattern.Pat.{Pat}
use Rattle.np_syntax.specs.declared.process.Proc.{Proc}
use Rattle.np_syntax.specs.declared.process.ProcForm.TheVariants.{outs-Stop, outs-Par, outs-New, outs-Out, outs-Inp, outs-Rep, outs-Send, outs-Lookup}
use Rattle.np_syntax.specs.Parts.{as_channel}
use Rattle.np_types.specs.declared.fault.Rule.TheVariants as rule
use Rattle.np_types.specs.Checks.{want}
use Rattle.np_types.specs.Worlds.{World}
use Rattle.np_types.specs.Least.{Types, least}
use Rattle.np_types.specs.Covers.{cover}
use Rattle.np_types.proofs.Counts.{nodes-chan, nodes-site, nodes-letter}
use Rattle.np_types.proofs.Leasts.{least-form, least-val}
use Rattle.np_types.proofs.Subs.{sub-itself}
use Rattle.np_calculus.specs.Starts.{own}
use Rattle.np_check.specs.Faults.{lock_type}
use Rattle.np_safety.specs.Channels.{world}
use Rattle.np_safety.specs.Low.{carried, infrastructure, pair as pair_type}
use Rattle.np_safety.proofs.Evaluates.{places-kind}
use Rattle.np_safety.proofs.Forms.{Good, Sending}
use Rattle.infrastructure_texts.specs.Pieces.{variable, site, channel, beside, gives}
use Rattle.infrastructure_texts.specs.Daemon.{first_places, frees, acks, notes, looks_up, register_server, migrating_server, migrated_server, message_server, dack_server, daemon_text}
use Rattle.daemon_encode.proofs.Making.{slot_here, slot_past, listed, carries, good-made, least-variable, least-channel, least-site, least-unit}
use Rattle.daemon_encode.proofs.Making.{least-pair, an_agent, a_site, a_map, sends-on, takes-from, least-with_lock, cover-name, cover-two}

module _ (n : ℕ) where
  abbrev pub low : World
  low = world n (infrastructure n)

  pub has : (i : ℕ) (t : Ty) → listed carried i ≡ Some (cap.Both, t) → low.chan (own n i) ≡ Some (cap.Both, t)
  has i t h = carries n carried i ∙ h

  pub its-channel : (types : Types) (i : ℕ) (t : Ty) → listed carried i ≡ Some (cap.Both, t) → least low types (channel n i) ≡ Ok (ty.Chan cap.Both t)
  its-channel types i t h = least-channel low types n i t (has i t h)

  pub two : (types : Types) (k : ℕ) (p q : Proc) → Good low types p → Good low types q → Good low types (beside k p q)
  two types k p q g h = good-made low types _ _ (outs-Par p q) (g, h)

  pub given : (types : Types) (k : ℕ) (c e : Expr) → Sending low types c e → Good low types (gives k c e)
  given types k c e g = good-made low types _ _ (outs-Out c e) g

  -- the lock channel of an agent
  a_lock : (types : Types) (l : ℕ) → table.get types l ≡ Some lock_type → least low types (variable l) ≡ Ok (ty.Chan cap.Both ty.Site)
  a_lock types l h = least-variable low types l lock_type h

  -- the agent is told
  acked : (types : Types) (a s : ℕ) → table.get types a ≡ Some ty.Agent → table.get types s ≡ Some ty.Site → Good low types (acks n a s)
  acked types a s ha hs =
      good-made low types _ _ (outs-Send _ _ _ _)
      (an_agent low types a ha, a_site low types s hs, sends-on low types _ _ (ty.Tuple []) (ty.Tuple []) (its-channel types 7 (ty.Tuple []) refl) (least-unit low types) (sub-itself (ty.Tuple [])))

  pub freed : (types : Types) (m : ℕ) → table.get types m ≡ Some ty.Places → Good low types (frees n m)
  freed types m h = given types 0 _ _ (sends-on low types _ _ ty.Places ty.Places (its-channel types 10 ty.Places refl) (least-variable low types m ty.Places h) (sub-itself ty.Places))

  -- its site is put into its lock
  pub held : (types : Types) (l s : ℕ) → table.get types l ≡ Some lock_type → table.get types s ≡ Some ty.Site → Good low types (gives 0 (variable l) (variable s))
  held types l s hl hs = given types 0 _ _ (sends-on low types _ _ ty.Site ty.Site (a_lock types l hl) (least-variable low types s ty.Site hs) (sub-itself ty.Site))

  pub noted : (types : Types) (i : ℕ) (x : Pat) (t : Ty) (inner : Types) (m : ℕ) (p : Proc) → listed carried i ≡ Some (cap.Both, t) → cover x t types ≡ Ok inner
      → Good low (table.insert inner m ty.Places) p → Good low types (notes n (channel n i) x m p)
  noted types i x t inner m p h covers g =
      good-made low types _ _ (outs-Rep _ _ _) (takes-from low types _ _ t inner _ (its-channel types i t h) covers
      (good-made low inner _ _ (outs-Inp _ _ _) (takes-from low inner _ _ ty.Places _ _ (its-channel inner 10 ty.Places refl) (cover-name inner m ty.Places) g)))

  looked_up : (types : Types) (i : ℕ) (x : Pat) (t : Ty) (inner : Types) (a m l : ℕ) (p : Proc) → listed carried i ≡ Some (cap.Both, t) → cover x t types ≡ Ok inner
      → table.get (table.insert inner m ty.Places) a ≡ Some ty.Agent → (m ≡ l → ⊥) → Good low (table.insert (table.insert inner m ty.Places) l lock_type) p
      → Good low types (looks_up n (channel n i) x a m l p)
  looked_up types i x t inner a m l p h covers ha apart g =
      let locked = table.insert inner m ty.Places in
      let found = table.insert locked l lock_type in
      noted types i x t inner m _ h covers (good-made low locked _ _ (outs-Lookup _ _ _ _ _) (
        an_agent low locked a ha,
        a_map low locked m (slot_here inner m ty.Places),
        two found 0 _ _ g (freed found m (slot_past locked l lock_type m apart ∙ slot_here inner m ty.Places)),
        good-made low locked _ _ outs-Stop tt,
      ))

  -- ---- the servers, whose binders have rising numbers

  pub good-register : (types : Types) (a s m l : ℕ) → a < s → s < m → m < l → Good low types (register_server n a s m l)
  good-register types a s m l low_a sm ml =
      let one = table.insert types a ty.Agent in
      let both = table.insert one s ty.Site in
      let locked = table.insert both m ty.Places in
      let all = table.insert locked l lock_type in
      let at_a : table.get all a ≡ Some ty.Agent =
      slot_past locked l lock_type a (λ e. omega (arith, e, low_a, sm, ml)) ∙ slot_past both m ty.Places a (λ e. omega (arith, e, low_a, sm)) ∙ slot_past one s ty.Site a (λ e. omega (arith, e, low_a))
      ∙ slot_here types a ty.Agent in
      let at_s : table.get all s ≡ Some ty.Site =
      slot_past locked l lock_type s (λ e. omega (arith, e, sm, ml)) ∙ slot_past both m ty.Places s (λ e. omega (arith, e, sm)) ∙ slot_here one s ty.Site in
      let at_m : table.get all m ≡ Some ty.Places = slot_past locked l lock_type m (λ e. omega (arith, e, ml)) ∙ slot_here both m ty.Places in
      let at_l : table.get all l ≡ Some lock_type = slot_here locked l lock_type in
      noted types 2 _ (pair_type ty.Agent ty.Site) both m _ refl (cover-two types a s ty.Agent ty.Site)
      (good-made low locked _ _ (outs-New _ _ _) (record {
        carries = (cap.Both, ty.Site);
        chan = ap as_channel (outs-Chan cap.Both ty.Site);
        small = rw (nodes-chan cap.Both ty.Site, nodes-site) refl;
        body = two all 0 _ _
            (two all 0 _ _
            (given all 0 _ _ (sends-on low all _ _ ty.Places ty.Places (its-channel all 10 ty.Places refl) (least-with_lock low all m a l at_m at_a at_l) (sub-itself ty.Places)))
            (held all l s at_l at_s))
            (acked all a s at_a at_s);
      }))

  pub good-migrating : (types : Types) (a m l s : ℕ) → a < m → m < l → l < s → Good low types (migrating_server n a m l s)
  good-migrating types a m l s am ml ls =
      let one = table.insert types a ty.Agent in
      let locked = table.insert one m ty.Places in
      let found = table.insert locked l lock_type in
      let all = table.insert found s ty.Site in
      let before : table.get locked a ≡ Some ty.Agent = slot_past one m ty.Places a (λ e. omega (arith, e, am)) ∙ slot_here types a ty.Agent in
      let at_a : table.get all a ≡ Some ty.Agent = slot_past found s ty.Site a (λ e. omega (arith, e, am, ml, ls)) ∙ slot_past locked l lock_type a (λ e. omega (arith, e, am, ml)) ∙ before in
      looked_up types 3 _ ty.Agent one a m l _ refl (cover-name types a ty.Agent) before (λ e. omega (arith, e, ml))
      (good-made low found _ _ (outs-Inp _ _ _) (takes-from low found _ _ ty.Site all _ (a_lock found l (slot_here locked l lock_type)) (cover-name found s ty.Site)
      (acked all a s at_a (slot_here found s ty.Site))))

  pub good-migrated : (types : Types) (a t m l : ℕ) → a < t → t < m → m < l → Good low types (migrated_server n a t m l)
  good-migrated types a t m l at tm ml =
      let one = table.insert types a ty.Agent in
      let both = table.insert one t ty.Site in
      let locked = table.insert both m ty.Places in
      let all = table.insert locked l lock_type in
      let before : table.get locked a ≡ Some ty.Agent =
      slot_past both m ty.Places a (λ e. omega (arith, e, at, tm)) ∙ slot_past one t ty.Site a (λ e. omega (arith, e, at)) ∙ slot_here types a ty.Agent in
      let at_a : table.get all a ≡ Some ty.Agent = slot_past locked l lock_type a (λ e. omega (arith, e, at, tm, ml)) ∙ before in
      let at_t : table.get all t ≡ Some ty.Site =
      slot_past locked l lock_type t (λ e. omega (arith, e, tm, ml)) ∙ slot_past both m ty.Places t (λ e. omega (arith, e, tm)) ∙ slot_here one t ty.Site in
      looked_up types 4 _ (pair_type ty.Agent ty.Site) both a m l _ refl (cover-two types a t ty.Agent ty.Site) before (λ e. omega (arith, e, ml))
      (two all 0 _ _ (held all l t (slot_here locked l lock_type) at_t) (acked all a t at_a at_t))

  pub good-message : (types : Types) (b v m l s : ℕ) → b < v → v < m → m < l → l < s → Good low types (message_server n b v m l s)
  good-message types b v m l s bv vm ml ls =
      let one = table.insert types b ty.Agent in
      let both = table.insert one v ty.Letter in
      let locked = table.insert both m ty.Places in
      let found = table.insert locked l lock_type in
      let all = table.insert found s ty.Site in
      let before : table.get locked b ≡ Some ty.Agent =
      slot_past both m ty.Places b (λ e. omega (arith, e, bv, vm)) ∙ slot_past one v ty.Letter b (λ e. omega (arith, e, bv)) ∙ slot_here types b ty.Agent in
      let at_b : table.get all b ≡ Some ty.Agent = slot_past found s ty.Site b (λ e. omega (arith, e, bv, vm, ml, ls)) ∙ slot_past locked l lock_type b (λ e. omega (arith, e, bv, vm, ml)) ∙ before in
      let at_v : table.get all v ≡ Some ty.Letter =
      slot_past found s ty.Site v (λ e. omega (arith, e, vm, ml, ls)) ∙ slot_past locked l lock_type v (λ e. omega (arith, e, vm, ml)) ∙ slot_past both m ty.Places v (λ e. omega (arith, e, vm))
      ∙ slot_here one v ty.Letter in
      let at_s : table.get all s ≡ Some ty.Site = slot_here found s ty.Site in
      looked_up types 5 _ (pair_type ty.Agent ty.Letter) both b m l _ refl (cover-two types b v ty.Agent ty.Letter) before (λ e. omega (arith, e, ml))
      (good-made low found _ _ (outs-Inp _ _ _) (takes-from low found _ _ ty.Site all _ (a_lock found l (slot_here locked l lock_type)) (cover-name found s ty.Site)
      (good-made low all _ _ (outs-Send _ _ _ _) (
        an_agent low all b at_b,
        a_site low all s at_s,
        sends-on low all _ _ (pair_type ty.Letter ty.Site) (pair_type ty.Letter ty.Site) (its-channel all 6 (pair_type ty.Letter ty.Site) refl)
            (least-pair low all (variable v) (variable s) ty.Letter ty.Site (least-variable low all v ty.Letter at_v) (least-variable low all s ty.Site at_s) nodes-letter nodes-site)
            (sub-itself (pair_type ty.Letter ty.Site)),
      ))))

  pub good-dack : (types : Types) (b s m l : ℕ) → b < s → s < m → m < l → Good low types (dack_server n b s m l)
  good-dack types b s m l bs sm ml =
      let one = table.insert types b ty.Agent in
      let both = table.insert one s ty.Site in
      let locked = table.insert both m ty.Places in
      let all = table.insert locked l lock_type in
      let before : table.get locked b ≡ Some ty.Agent =
      slot_past both m ty.Places b (λ e. omega (arith, e, bs, sm)) ∙ slot_past one s ty.Site b (λ e. omega (arith, e, bs)) ∙ slot_here types b ty.Agent in
      let at_s : table.get all s ≡ Some ty.Site =
      slot_past locked l lock_type s (λ e. omega (arith, e, sm, ml)) ∙ slot_past both m ty.Places s (λ e. omega (arith, e, sm)) ∙ slot_here one s ty.Site in
      looked_up types 8 _ (pair_type ty.Agent ty.Site) both b m l _ refl (cover-two types b s ty.Agent ty.Site) before (λ e. omega (arith, e, ml))
      (held all l s (slot_here locked l lock_type) at_s)

  good-first : (types : Types) → Good low types (first_places n)
  good-first types =
      given types 0 _ _ (sends-on low types _ _ ty.Places ty.Places (its-channel types 10 ty.Places refl)
      (least-form low types _ ∙ least-val low types 0 (value.Places ((own n 0, own n 13) ∷ []))
      ∙ ap (λ o. want o 0 rule.Mismatch) (places-kind low ((own n 0, own n 13) ∷ []) (rw (has 13 ty.Site refl, outs-Site) refl)))
      (sub-itself ty.Places))

  good-here : (types : Types) (s : ℕ) → nat_lt s n ≡ true → Good low types (gives 0 (channel n 13) (site s))
  good-here types s within = given types 0 _ _ (sends-on low types _ _ ty.Site ty.Site (its-channel types 13 ty.Site refl) (least-site low types s within) (sub-itself ty.Site))

  pub good-daemon : (types : Types) (s x : ℕ) → nat_lt s n ≡ true → Good low types (daemon_text n s x)
  good-daemon types s x within =
      two types 0 _ _ (two types 0 _ _
      (two types 0 _ _ (two types 0 _ _ (two types 0 _ _ (two types 0 _ _ (good-first types) (good-here types s within))
      (good-register types x (x + 1) (x + 2) (x + 3) (omega arith) (omega arith) (omega arith)))
      (good-migrating types (x + 4) (x + 5) (x + 6) (x + 7) (omega arith) (omega arith) (omega arith)))
      (good-migrated types (x + 8) (x + 9) (x + 10) (x + 11) (omega arith) (omega arith) (omega arith)))
      (good-message types (x + 12) (x + 13) (x + 14) (x + 15) (x + 16) (omega arith) (omega arith) (omega arith) (omega arith)))
      (good-dack types (x + 17) (x + 18) (x + 19) (x + 20) (omega arith) (omega arith) (omega arith))
