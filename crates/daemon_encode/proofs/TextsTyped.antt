-- The translated forms have no fault where their parts have none.
use Rattle.std.proofs.Common.{◌≡◌, ℕ, true, Some, Ok, [], ◌∷◌, refl, ap, ◌∙◌}
use Rattle.std.specs.Prelude.{nat_lt}
use Rattle.std.specs.FinMap as table
use Rattle.np_syntax.specs.declared.types.Cap.TheVariants as cap
use Rattle.np_syntax.specs.declared.types.Ty.{Ty, Ty-F, out-Ty}
use Rattle.np_syntax.specs.declared.types.Ty as ty
use Rattle.np_syntax.specs.declared.types.Ty.TheVariants.{outs-Agent, outs-Site, outs-Letter, outs-Tuple}
use Rattle.np_syntax.specs.declared.expression.Expr.{Expr}
use Rattle.np_syntax.specs.declared.process.Role.{Role}
use Rattle.np_syntax.specs.declared.process.Role.TheVariants as role
use Rattle.np_syntax.specs.declared.process.Proc.{Proc}
use Rattle.np_syntax.specs.declared.process.ProcForm as form
use Rattle.np_syntax.specs.declared.process.ProcForm.TheVariants.{outs-Inp, outs-Rep, outs-Send, outs-Migrate, outs-Open, outs-Agent as outs-Creation}
use Rattle.np_types.specs.Sub.{TyLayer, sub, sub_at, is_site, is_agent, is_letter}
use Rattle.np_types.specs.Widths.{nodes}
use Rattle.np_types.specs.Worlds.{World}
use Rattle.np_types.specs.Least.{Types, least}
use Rattle.np_types.proofs.Below.{as_many}
use Rattle.np_types.proofs.Counts.{nodes-agent, nodes-site, nodes-letter}
use Rattle.np_types.proofs.Leasts.{least-form, least-pack}
use Rattle.np_types.proofs.Subs.{sub-out, sub-itself}
use Rattle.np_safety.specs.Low.{carried, pair as pair_type}
use Rattle.np_safety.proofs.Forms.{Good, Tested, Sending}
use Rattle.infrastructure_texts.specs.Pieces.{variable, nothing, site, main, daemon}
use Rattle.infrastructure_texts.specs.Pieces.{channel, process, takes, tells}
use Rattle.infrastructure_texts.specs.Texts.{letter, post_text, settles, migrate_text, server_text, agent_text, main_text}
use Rattle.daemon_encode.proofs.Making.{slot_here, slot_past, listed, good-made, least-variable, least-agent, least-site, least-unit}
use Rattle.daemon_encode.proofs.Making.{least-pair, tested-variable, an_agent, a_site, sends-on, takes-from, cover-nothing, cover-name, cover-two}
use Rattle.daemon_encode.proofs.DaemonTyped.{low, its-channel, two, given}

-- a type that is a ground type by its form is that type
pub agent_sub : (t : Ty) → is_agent (out-Ty t) ≡ true → sub t ty.Agent ≡ true
agent_sub t h = sub-out t ty.Agent ∙ go (out-Ty t) h
  where
    go : (y : TyLayer) → is_agent y ≡ true → sub_at y (out-Ty ty.Agent) ≡ true
    go Ty-F.Agent h = ap is_agent outs-Agent
    go _ h = absurd cc

site_sub : (t : Ty) → is_site (out-Ty t) ≡ true → sub t ty.Site ≡ true
site_sub t h = sub-out t ty.Site ∙ go (out-Ty t) h
  where
    go : (y : TyLayer) → is_site y ≡ true → sub_at y (out-Ty ty.Site) ≡ true
    go Ty-F.Site h = ap is_site outs-Site
    go _ h = absurd cc

pub agent_nodes : (t : Ty) → is_agent (out-Ty t) ≡ true → nodes t ≡ 1
agent_nodes t h = (as_many ty.Agent t).0 (agent_sub t h) ∙ nodes-agent

site_nodes : (t : Ty) → is_site (out-Ty t) ≡ true → nodes t ≡ 1
site_nodes t h = (as_many ty.Site t).0 (site_sub t h) ∙ nodes-site

pub sub_pair : (s t u v : Ty) → sub s u ≡ true → sub t v ≡ true → sub (pair_type s t) (pair_type u v) ≡ true
sub_pair s t u v h k = sub-out _ _ ∙ rw (outs-Tuple (s ∷ t ∷ []), outs-Tuple (u ∷ v ∷ []), h, k) refl

module _ (n : ℕ) (some : nat_lt 0 n ≡ true) where
  abbrev w : World
  w = low n

  module _ (types : Types) (k : ℕ) where
    -- to the daemon, in either role
    told_as : (r : Role) (i : ℕ) (e : Expr) (s t : Ty) → listed carried i ≡ Some (cap.Both, t) → least w types e ≡ Ok s → sub s t ≡ true
        → Good w types (process k r (form.Send (daemon n) (site 0) (channel n i) e))
    told_as r i e s t h is below = good-made w types _ _ (outs-Send _ _ _ _) (
      record { type = ty.Agent; is = least-agent w types n 1; passes = ap is_agent outs-Agent },
      record { type = ty.Site; is = least-site w types 0 some; passes = ap is_site outs-Site },
      sends-on w types _ _ s t (its-channel n types i t h) is below,
    )

    pub told : (i : ℕ) (e : Expr) (s t : Ty) → listed carried i ≡ Some (cap.Both, t) → least w types e ≡ Ok s → sub s t ≡ true → Good w types (tells n k (channel n i) e)
    told i e s t h is below = told_as role.Infra i e s t h is below

    heard : (i : ℕ) (t : Ty) (p : Proc) → listed carried i ≡ Some (cap.Both, t) → Good w types p → Good w types (takes k (channel n i) nothing p)
    heard i t p h g = good-made w types _ _ (outs-Inp _ _ _) (takes-from w types _ _ t types p (its-channel n types i t h) (cover-nothing types t) g)

    pub least-letter : (c v : Expr) → Sending w types c v → least w types (letter c v) ≡ Ok ty.Letter
    least-letter c v s = least-form w types (letter c v) ∙ least-pack w types 0 c v ∙ rw (s.on.is, s.on.chan, s.may_write, s.is, s.below) refl

    pub good-post : (b c v : Expr) → Tested w types is_agent b → Sending w types c v → Good w types (post_text n k b c v)
    good-post b c v t s =
        told_as role.Post 5 _ (pair_type t.type ty.Letter) (pair_type ty.Agent ty.Letter) refl
        (least-pair w types b (letter c v) t.type ty.Letter t.is (least-letter c v s) (agent_nodes t.type t.passes) nodes-letter)
        (sub_pair t.type ty.Letter ty.Agent ty.Letter (agent_sub t.type t.passes) (sub-itself ty.Letter))

    pub settled : (e : Expr) (p : Proc) → Tested w types is_site e → Good w types p → Good w types (settles n k e p)
    settled e p t g =
        heard 7 (ty.Tuple []) _ refl (two n types k _ _ g (given n types k _ _ (sends-on w types _ _ t.type ty.Site (its-channel n types 9 ty.Site refl) t.is (site_sub t.type t.passes))))

    pub good-migrate : (a e : Expr) (p : Proc) → Tested w types is_agent a → Tested w types is_site e → Good w types p → Good w types (migrate_text n k a e p)
    good-migrate a e p ta te g =
        heard 9 ty.Site _ refl (two n types k _ _
        (heard 7 (ty.Tuple []) _ refl (good-made w types _ _ (outs-Migrate _ _) (
          te,
          two n types k _ _ (settled e p te g)
              (told 4 _ (pair_type ta.type te.type) (pair_type ty.Agent ty.Site) refl
              (least-pair w types a e ta.type te.type ta.is te.is (agent_nodes ta.type ta.passes) (site_nodes te.type te.passes))
              (sub_pair ta.type te.type ty.Agent ty.Site (agent_sub ta.type ta.passes) (site_sub te.type te.passes))),
        )))
        (told 3 a ta.type ty.Agent refl ta.is (agent_sub ta.type ta.passes)))

  -- the letters of an agent are taken
  pub good-server : (types : Types) (k : ℕ) (b : Expr) (l t : ℕ) → (l ≡ t → ⊥) → Tested w (table.insert (table.insert types l ty.Letter) t ty.Site) is_agent b → Good w types (server_text n k b l t)
  good-server types k b l t apart tb =
      let one = table.insert types l ty.Letter in
      let all = table.insert one t ty.Site in
      let at_l : table.get all l ≡ Some ty.Letter = slot_past one t ty.Site l apart ∙ slot_here types l ty.Letter in
      let at_t : table.get all t ≡ Some ty.Site = slot_here one t ty.Site in
      good-made w types _ _ (outs-Rep _ _ _) (takes-from w types _ _ (pair_type ty.Letter ty.Site) all _ (its-channel n types 6 (pair_type ty.Letter ty.Site) refl) (cover-two types l t ty.Letter ty.Site)
      (two n all k _ _
      (good-made w all _ _ (outs-Open _) (tested-variable w all l ty.Letter is_letter at_l (ap is_letter outs-Letter)))
      (told all k 8 _ (pair_type tb.type ty.Site) (pair_type ty.Agent ty.Site) refl
      (least-pair w all b (variable t) tb.type ty.Site tb.is (least-variable w all t ty.Site at_t) (agent_nodes tb.type tb.passes) nodes-site)
      (sub_pair tb.type ty.Site ty.Agent ty.Site (agent_sub tb.type tb.passes) (sub-itself ty.Site)))))

  -- the types of binders where S and b are bound
  abbrev pub created : Types → ℕ → ℕ → Types
  created types s b = table.insert (table.insert types s ty.Site) b ty.Agent

  pub good-agent : (types : Types) (k : ℕ) (a : Expr) (b s l t : ℕ) (p q : Proc) → (s ≡ b → ⊥) → (b ≡ l → ⊥) → (b ≡ t → ⊥) → (l ≡ t → ⊥)
      → Tested w (created types s b) is_agent a → Good w (created types s b) p → Good w (created types s b) q → Good w types (agent_text n k a b s l t p q)
  good-agent types k a b s l t p q sb bl bt lt ta gp gq =
      let one = table.insert types s ty.Site in
      let inner = created types s b in
      let lettered = table.insert inner l ty.Letter in
      let at_s : table.get inner s ≡ Some ty.Site = slot_past one b ty.Agent s sb ∙ slot_here types s ty.Site in
      let at_b : table.get inner b ≡ Some ty.Agent = slot_here one b ty.Agent in
      let server_b : table.get (table.insert lettered t ty.Site) b ≡ Some ty.Agent = slot_past lettered t ty.Site b bt ∙ slot_past inner l ty.Letter b bl ∙ at_b in
      let its_site = a_site w inner s at_s in
      good-made w types _ _ (outs-Inp _ _ _) (takes-from w types _ _ ty.Site one _ (its-channel n types 9 ty.Site refl) (cover-name types s ty.Site)
      (good-made w one _ _ (outs-Creation _ _ _) (
        two n inner k _ _ (two n inner k _ _
            (settled inner k (variable s) _ its_site (two n inner k _ _ gp
            (good-made w inner _ _ (outs-Send _ _ _ _) (
              ta,
              its_site,
              sends-on w inner _ _ (ty.Tuple []) (ty.Tuple []) (its-channel n inner 7 (ty.Tuple []) refl) (least-unit w inner) (sub-itself (ty.Tuple [])),
            ))))
            (good-server inner k (variable b) l t lt (an_agent w (table.insert lettered t ty.Site) b server_b)))
            (told inner k 2 _ (pair_type ty.Agent ty.Site) (pair_type ty.Agent ty.Site) refl
            (least-pair w inner (variable b) (variable s) ty.Agent ty.Site (least-variable w inner b ty.Agent at_b) (least-variable w inner s ty.Site at_s) nodes-agent nodes-site)
            (sub-itself (pair_type ty.Agent ty.Site))),
        settled inner k (variable s) q its_site gq,
      )))

  pub good-main : (types : Types) (s l t : ℕ) (p : Proc) → nat_lt s n ≡ true → (l ≡ t → ⊥) → Good w types p → Good w types (main_text n s l t p)
  good-main types s l t p within apart g =
      let all = table.insert (table.insert types l ty.Letter) t ty.Site in
      two n types 0 _ _ (two n types 0 _ _ g
      (given n types 0 _ _ (sends-on w types _ _ ty.Site ty.Site (its-channel n types 9 ty.Site refl) (least-site w types s within) (sub-itself ty.Site))))
      (good-server types 0 (main n) l t apart (record { type = ty.Agent; is = least-agent w all n 0; passes = ap is_agent outs-Agent }))
