-- The texts of agents with caches have no fault where their parts have none.
use Rattle.std.proofs.Common.{◌≡◌, ◌<◌, ℕ, ◌+◌, true, Some, [], refl, ap, ◌∙◌, arith}
use Rattle.std.specs.Prelude.{nat_lt}
use Rattle.std.specs.FinMap as table
use Rattle.np_syntax.specs.declared.value.Value as value
use Rattle.np_syntax.specs.declared.types.Cap.TheVariants as cap
use Rattle.np_syntax.specs.declared.types.Ty.{Ty}
use Rattle.np_syntax.specs.declared.types.Ty as ty
use Rattle.np_syntax.specs.declared.types.Ty.TheVariants.{outs-Chan}
use Rattle.np_syntax.specs.declared.expression.Expr.{Expr}
use Rattle.np_syntax.specs.declared.process.Proc.{Proc}
use Rattle.np_syntax.specs.declared.process.ProcForm.TheVariants.{outs-Stop, outs-New, outs-Inp, outs-Rep, outs-Send, outs-Migrate, outs-IfLocal, outs-Lookup, outs-Agent as outs-Creation}
use Rattle.np_types.specs.declared.fault.Rule.TheVariants as rule
use Rattle.np_types.specs.Sub.{is_agent}
use Rattle.np_syntax.specs.Parts.{as_channel}
use Rattle.np_types.specs.Checks.{want}
use Rattle.np_types.specs.Worlds.{World}
use Rattle.np_types.specs.Least.{Types}
use Rattle.np_types.proofs.Counts.{nodes-chan, nodes-agent, nodes-site, nodes-letter}
use Rattle.np_types.proofs.Leasts.{least-form, least-val}
use Rattle.np_types.proofs.Subs.{sub-itself}
use Rattle.np_check.specs.Faults.{lock_type}
use Rattle.np_safety.specs.Low.{pair as pair_type}
use Rattle.np_safety.proofs.Evaluates.{places-kind}
use Rattle.np_safety.proofs.Forms.{Good, Tested, Sending}
use Rattle.infrastructure_texts.specs.Pieces.{variable, gives}
use Rattle.infrastructure_texts.specs.Texts.{letter}
use Rattle.daemon_encode.proofs.Making.{slot_here, slot_past, good-made, least-variable, least-unit, least-pair, an_agent, a_site, a_map, sends-on, takes-from, least-with_lock}
use Rattle.daemon_encode.proofs.Making.{cover-nothing, cover-name, cover-two}
use Rattle.daemon_encode.proofs.DaemonTyped.{low, its-channel, two, given}
use Rattle.daemon_encode.proofs.TextsTyped.{agent_sub, agent_nodes, sub_pair, told, least-letter, settled, good-server, created}
use Rattle.daemon_encode.proofs.TextsTyped as plain
use Rattle.infrastructure_texts.specs.CacheTexts.{keeps, empty_cache, replaces, adds, found_server, with_cache, asks, hands_back, messenger_text, goes_by_hint, goes_by_daemon, post_text, agent_text, main_text}

-- the types of binders where m, where l too, where s too, and where t too is bound
abbrev pub with_map : Types → ℕ → Types
with_map types m = table.insert types m ty.Places

abbrev pub with_hint : Types → ℕ → Types
with_hint types m = table.insert (with_map types m) (m + 1) lock_type

abbrev pub with_site : Types → ℕ → Types
with_site types m = table.insert (with_hint types m) (m + 2) ty.Site

abbrev pub with_messenger : Types → ℕ → Types
with_messenger types m = table.insert (with_site types m) (m + 3) ty.Agent

module _ (n : ℕ) (some : nat_lt 0 n ≡ true) where
  abbrev w : World
  w = low n

  -- ---- the cache

  module _ (types : Types) (k : ℕ) where
    -- a site is put into a lock
    held : (l s : ℕ) → table.get types l ≡ Some lock_type → table.get types s ≡ Some ty.Site → Good w types (gives k (variable l) (variable s))
    held l s hl hs = given n types k _ _ (sends-on w types _ _ ty.Site ty.Site (least-variable w types l lock_type hl) (least-variable w types s ty.Site hs) (sub-itself ty.Site))

    kept : (m : ℕ) → table.get types m ≡ Some ty.Places → Good w types (keeps n k m)
    kept m h = given n types k _ _ (sends-on w types _ _ ty.Places ty.Places (its-channel n types 14 ty.Places refl) (least-variable w types m ty.Places h) (sub-itself ty.Places))

    good-empty : Good w types (empty_cache n k)
    good-empty =
        given n types k _ _ (sends-on w types _ _ ty.Places ty.Places (its-channel n types 14 ty.Places refl)
        (least-form w types _ ∙ least-val w types 0 (value.Places []) ∙ ap (λ o. want o 0 rule.Mismatch) (places-kind w [] refl))
        (sub-itself ty.Places))

    good-replaces : (y m l : ℕ) → table.get types y ≡ Some ty.Site → table.get types m ≡ Some ty.Places → table.get types l ≡ Some lock_type → Good w types (replaces n k y m l)
    good-replaces y m l hy hm hl =
        two n types k _ _
        (good-made w types _ _ (outs-Inp _ _ _) (takes-from w types _ _ ty.Site types _ (least-variable w types l lock_type hl) (cover-nothing types ty.Site) (held l y hl hy)))
        (kept m hm)

  good-adds : (types : Types) (k x y m l : ℕ) → x < y → y < m → m < l → table.get types x ≡ Some ty.Agent → table.get types y ≡ Some ty.Site → table.get types m ≡ Some ty.Places
      → Good w types (adds n k x y m l)
  good-adds types k x y m l xy ym ml hx hy hm =
      let all = table.insert types l lock_type in
      let at_x : table.get all x ≡ Some ty.Agent = slot_past types l lock_type x (λ e. omega (arith, e, xy, ym, ml)) ∙ hx in
      let at_y : table.get all y ≡ Some ty.Site = slot_past types l lock_type y (λ e. omega (arith, e, ym, ml)) ∙ hy in
      let at_m : table.get all m ≡ Some ty.Places = slot_past types l lock_type m (λ e. omega (arith, e, ml)) ∙ hm in
      let at_l : table.get all l ≡ Some lock_type = slot_here types l lock_type in
      good-made w types _ _ (outs-New _ _ _) (record {
        carries = (cap.Both, ty.Site);
        chan = ap as_channel (outs-Chan cap.Both ty.Site);
        small = rw (nodes-chan cap.Both ty.Site, nodes-site) refl;
        body = two n all k _ _
            (given n all k _ _ (sends-on w all _ _ ty.Places ty.Places (its-channel n all 14 ty.Places refl) (least-with_lock w all m x l at_m at_x at_l) (sub-itself ty.Places)))
            (held all k l y at_l at_y);
      })

  good-found : (types : Types) (k x : ℕ) → Good w types (found_server n k x)
  good-found types k x =
      let one = table.insert types x ty.Agent in
      let both = table.insert one (x + 1) ty.Site in
      let locked = table.insert both (x + 2) ty.Places in
      let hinted = table.insert locked (x + 3) lock_type in
      let at_x : table.get locked x ≡ Some ty.Agent =
      slot_past both (x + 2) ty.Places x (λ e. omega (arith, e)) ∙ slot_past one (x + 1) ty.Site x (λ e. omega (arith, e)) ∙ slot_here types x ty.Agent in
      let at_y : table.get locked (x + 1) ≡ Some ty.Site = slot_past both (x + 2) ty.Places (x + 1) (λ e. omega (arith, e)) ∙ slot_here one (x + 1) ty.Site in
      let at_m : table.get locked (x + 2) ≡ Some ty.Places = slot_here both (x + 2) ty.Places in
      good-made w types _ _ (outs-Rep _ _ _) (takes-from w types _ _ (pair_type ty.Agent ty.Site) both _ (its-channel n types 16 (pair_type ty.Agent ty.Site) refl)
      (cover-two types x (x + 1) ty.Agent ty.Site)
      (good-made w both _ _ (outs-Inp _ _ _) (takes-from w both _ _ ty.Places locked _ (its-channel n both 14 ty.Places refl) (cover-name both (x + 2) ty.Places)
      (good-made w locked _ _ (outs-Lookup _ _ _ _ _) (
        an_agent w locked x at_x,
        a_map w locked (x + 2) at_m,
        good-replaces hinted k (x + 1) (x + 2) (x + 3)
            (slot_past locked (x + 3) lock_type (x + 1) (λ e. omega (arith, e)) ∙ at_y)
            (slot_past locked (x + 3) lock_type (x + 2) (λ e. omega (arith, e)) ∙ at_m)
            (slot_here locked (x + 3) lock_type),
        good-adds locked k x (x + 1) (x + 2) (x + 4) (omega arith) (omega arith) (omega arith) at_x at_y at_m,
      )))))

  pub good-cache : (types : Types) (k x : ℕ) (p : Proc) → Good w types p → Good w types (with_cache n k x p)
  good-cache types k x p g = two n types k _ _ (two n types k _ _ g (good-empty types k)) (good-found types k x)

  -- ---- a post

  -- its parts, under some types
  pub record Sends (types : Types) (a b c v : Expr) : Type 0 where
    pub from : Tested w types is_agent a
    pub to : Tested w types is_agent b
    pub letter : Sending w types c v

  module _ (types : Types) (k : ℕ) (a b c v : Expr) (s : Sends types a b c v) where
    asked : Good w types (asks n k a b)
    asked =
        told n some types k 15 _ (pair_type s.from.type s.to.type) (pair_type ty.Agent ty.Agent) refl
        (least-pair w types a b s.from.type s.to.type s.from.is s.to.is (agent_nodes s.from.type s.from.passes) (agent_nodes s.to.type s.to.passes))
        (sub_pair s.from.type s.to.type ty.Agent ty.Agent (agent_sub s.from.type s.from.passes) (agent_sub s.to.type s.to.passes))

    handed_back : Good w types (hands_back n k a b c v)
    handed_back =
        two n types k _ _
        (told n some types k 5 _ (pair_type s.to.type ty.Letter) (pair_type ty.Agent ty.Letter) refl
        (least-pair w types b (letter c v) s.to.type ty.Letter s.to.is (least-letter n some types k c v s.letter) (agent_nodes s.to.type s.to.passes) nodes-letter)
        (sub_pair s.to.type ty.Letter ty.Agent ty.Letter (agent_sub s.to.type s.to.passes) (sub-itself ty.Letter)))
        asked

    good-messenger : (x : ℕ) → table.get types x ≡ Some ty.Site → Good w types (messenger_text n k a b c v x)
    good-messenger x h =
        good-made w types _ _ (outs-Migrate _ _) (
          a_site w types x h,
          good-made w types _ _ (outs-IfLocal _ _ _ _ _) (s.to, s.letter, good-made w types _ _ outs-Stop tt, handed_back),
        )

    good-by_daemon : (m : ℕ) → table.get types m ≡ Some ty.Places → Good w types (goes_by_daemon n k a b c v m)
    good-by_daemon m h = two n types k _ _ (two n types k _ _ (plain.good-post n some types k b c v s.to s.letter) asked) (kept types k m h)

  good-by_hint : (types : Types) (k : ℕ) (a b c v : Expr) (m : ℕ) → Sends (with_messenger types m) a b c v → Good w (with_hint types m) (goes_by_hint n k a b c v m)
  good-by_hint types k a b c v m s =
      let hint = with_hint types m in
      let all = with_site types m in
      let inner = with_messenger types m in
      let at_l : table.get all (m + 1) ≡ Some lock_type = slot_past hint (m + 2) ty.Site (m + 1) (λ e. omega (arith, e)) ∙ slot_here (with_map types m) (m + 1) lock_type in
      let at_s : table.get all (m + 2) ≡ Some ty.Site = slot_here hint (m + 2) ty.Site in
      two n hint k _ _
      (good-made w hint _ _ (outs-Inp _ _ _) (takes-from w hint _ _ ty.Site all _ (least-variable w hint (m + 1) lock_type (slot_here (with_map types m) (m + 1) lock_type))
      (cover-name hint (m + 2) ty.Site)
      (two n all k _ _
      (good-made w all _ _ (outs-Creation _ _ _) (
        good-messenger inner k a b c v s (m + 2) (slot_past all (m + 3) ty.Agent (m + 2) (λ e. omega (arith, e)) ∙ at_s),
        good-made w inner _ _ outs-Stop tt,
      ))
      (held all k (m + 1) (m + 2) at_l at_s))))
      (kept hint k m (slot_past (with_map types m) (m + 1) lock_type m (λ e. omega (arith, e)) ∙ slot_here types m ty.Places))

  pub good-post : (types : Types) (k : ℕ) (a b c v : Expr) (m : ℕ) → Sends (with_map types m) a b c v → Sends (with_messenger types m) a b c v → Good w types (post_text n k a b c v m)
  good-post types k a b c v m s t =
      let locked = with_map types m in
      good-made w types _ _ (outs-Inp _ _ _) (takes-from w types _ _ ty.Places locked _ (its-channel n types 14 ty.Places refl) (cover-name types m ty.Places)
      (good-made w locked _ _ (outs-Lookup _ _ _ _ _) (
        s.to,
        a_map w locked m (slot_here types m ty.Places),
        good-by_hint types k a b c v m t,
        good-by_daemon locked k a b c v s m (slot_here types m ty.Places),
      )))

  -- ---- a creation, and main's bracket

  pub good-agent : (types : Types) (k : ℕ) (a : Expr) (b s l t c : ℕ) (p q : Proc) → (s ≡ b → ⊥) → (b ≡ l → ⊥) → (b ≡ t → ⊥) → (l ≡ t → ⊥)
      → Tested w (created n some types s b) is_agent a → Good w (created n some types s b) p → Good w (created n some types s b) q → Good w types (agent_text n k a b s l t c p q)
  good-agent types k a b s l t c p q sb bl bt lt ta gp gq =
      let one = table.insert types s ty.Site in
      let inner = created n some types s b in
      let lettered = table.insert inner l ty.Letter in
      let at_s : table.get inner s ≡ Some ty.Site = slot_past one b ty.Agent s sb ∙ slot_here types s ty.Site in
      let at_b : table.get inner b ≡ Some ty.Agent = slot_here one b ty.Agent in
      let server_b : table.get (table.insert lettered t ty.Site) b ≡ Some ty.Agent = slot_past lettered t ty.Site b bt ∙ slot_past inner l ty.Letter b bl ∙ at_b in
      let its_site = a_site w inner s at_s in
      good-made w types _ _ (outs-Inp _ _ _) (takes-from w types _ _ ty.Site one _ (its-channel n types 9 ty.Site refl) (cover-name types s ty.Site)
      (good-made w one _ _ (outs-Creation _ _ _) (
        two n inner k _ _ (good-cache inner k c _ (two n inner k _ _
            (settled n some inner k (variable s) _ its_site (two n inner k _ _ gp
            (good-made w inner _ _ (outs-Send _ _ _ _) (
              ta,
              its_site,
              sends-on w inner _ _ (ty.Tuple []) (ty.Tuple []) (its-channel n inner 7 (ty.Tuple []) refl) (least-unit w inner) (sub-itself (ty.Tuple [])),
            ))))
            (good-server n some inner k (variable b) l t lt (an_agent w (table.insert lettered t ty.Site) b server_b))))
            (told n some inner k 2 _ (pair_type ty.Agent ty.Site) (pair_type ty.Agent ty.Site) refl
            (least-pair w inner (variable b) (variable s) ty.Agent ty.Site (least-variable w inner b ty.Agent at_b) (least-variable w inner s ty.Site at_s) nodes-agent nodes-site)
            (sub-itself (pair_type ty.Agent ty.Site))),
        settled n some inner k (variable s) q its_site gq,
      )))

  pub good-main : (types : Types) (s l t c : ℕ) (p : Proc) → nat_lt s n ≡ true → (l ≡ t → ⊥) → Good w types p → Good w types (main_text n s l t c p)
  good-main types s l t c p within apart g = good-cache types 0 c _ (plain.good-main n some types s l t p within apart g)
