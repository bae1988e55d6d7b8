-- The daemon's process has no fault where agents have caches.
use Rattle.std.proofs.Common.{◌≡◌, ℕ, ◌+◌, ◌<◌, true, Some, refl, ◌∙◌, arith}
use Rattle.std.specs.Prelude.{nat_lt}
use Rattle.std.specs.FinMap as table
use Rattle.np_syntax.specs.declared.types.Ty.{Ty}
use Rattle.np_syntax.specs.declared.types.Ty as ty
use Rattle.np_syntax.specs.declared.process.ProcForm.TheVariants.{outs-Stop, outs-Inp, outs-Send, outs-Lookup}
use Rattle.np_types.specs.Least.{Types}
use Rattle.np_types.proofs.Counts.{nodes-agent, nodes-site}
use Rattle.np_types.proofs.Subs.{sub-itself}
use Rattle.np_check.specs.Faults.{lock_type}
use Rattle.np_safety.specs.Low.{pair as pair_type}
use Rattle.np_safety.proofs.Forms.{Good}
use Rattle.infrastructure_texts.specs.Pieces.{variable}
use Rattle.daemon_encode.proofs.Making.{slot_here, slot_past, good-made, least-variable, least-pair, an_agent, a_site, a_map, sends-on, takes-from, cover-name, cover-two}
use Rattle.daemon_encode.proofs.DaemonTyped.{low, its-channel, two, freed, held, noted, good-daemon}
use Rattle.infrastructure_texts.specs.CacheDaemon.{hints, where_server, cached_daemon}

-- a binder keeps its type where a later one is bound
past : (types : Types) (k : ℕ) (v : Ty) (q : ℕ) (u : Ty) → q < k → table.get types q ≡ Some u → table.get (table.insert types k v) q ≡ Some u
past types k v q u l h = slot_past types k v q (λ e. omega (arith, e, l)) ∙ h

module _ (n : ℕ) where
  good-hints : (types : Types) (a b k s u : ℕ) → table.get types a ≡ Some ty.Agent → table.get types b ≡ Some ty.Agent → table.get types k ≡ Some lock_type → table.get types s ≡ Some ty.Site
      → table.get types u ≡ Some ty.Site → Good (low n) types (hints n a b k s u)
  good-hints types a b k s u ha hb hk hs hu =
      two n types 0 _ _ (held n types k u hk hu)
      (good-made (low n) types _ _ (outs-Send _ _ _ _) (
        an_agent (low n) types a ha,
        a_site (low n) types u hu,
        sends-on (low n) types _ _ (pair_type ty.Agent ty.Site) (pair_type ty.Agent ty.Site) (its-channel n types 16 (pair_type ty.Agent ty.Site) refl)
            (least-pair (low n) types (variable b) (variable s) ty.Agent ty.Site (least-variable (low n) types b ty.Agent hb) (least-variable (low n) types s ty.Site hs) nodes-agent nodes-site)
            (sub-itself (pair_type ty.Agent ty.Site)),
      ))

  good-where : (types : Types) (a b m l k s u : ℕ) → a < b → b < m → m < l → l < k → k < s → s < u → Good (low n) types (where_server n a b m l k s u)
  good-where types a b m l k s u ab bm ml lk ks su =
      let one = table.insert types a ty.Agent in
      let both = table.insert one b ty.Agent in
      let locked = table.insert both m ty.Places in
      let first = table.insert locked l lock_type in
      let second = table.insert first k lock_type in
      let third = table.insert second s ty.Site in
      let all = table.insert third u ty.Site in
      let a1 : table.get locked a ≡ Some ty.Agent =
      past both m ty.Places a ty.Agent (omega (arith, ab, bm)) (past one b ty.Agent a ty.Agent ab (slot_here types a ty.Agent)) in
      let b1 : table.get locked b ≡ Some ty.Agent = past both m ty.Places b ty.Agent bm (slot_here one b ty.Agent) in
      let m1 : table.get locked m ≡ Some ty.Places = slot_here both m ty.Places in
      let a2 : table.get first a ≡ Some ty.Agent = past locked l lock_type a ty.Agent (omega (arith, ab, bm, ml)) a1 in
      let b2 : table.get first b ≡ Some ty.Agent = past locked l lock_type b ty.Agent (omega (arith, bm, ml)) b1 in
      let m2 : table.get first m ≡ Some ty.Places = past locked l lock_type m ty.Places ml m1 in
      let l2 : table.get first l ≡ Some lock_type = slot_here locked l lock_type in
      let a3 : table.get second a ≡ Some ty.Agent = past first k lock_type a ty.Agent (omega (arith, ab, bm, ml, lk)) a2 in
      let b3 : table.get second b ≡ Some ty.Agent = past first k lock_type b ty.Agent (omega (arith, bm, ml, lk)) b2 in
      let m3 : table.get second m ≡ Some ty.Places = past first k lock_type m ty.Places (omega (arith, ml, lk)) m2 in
      let l3 : table.get second l ≡ Some lock_type = past first k lock_type l lock_type lk l2 in
      let k3 : table.get second k ≡ Some lock_type = slot_here first k lock_type in
      let a4 : table.get third a ≡ Some ty.Agent = past second s ty.Site a ty.Agent (omega (arith, ab, bm, ml, lk, ks)) a3 in
      let b4 : table.get third b ≡ Some ty.Agent = past second s ty.Site b ty.Agent (omega (arith, bm, ml, lk, ks)) b3 in
      let l4 : table.get third l ≡ Some lock_type = past second s ty.Site l lock_type (omega (arith, lk, ks)) l3 in
      let k4 : table.get third k ≡ Some lock_type = past second s ty.Site k lock_type ks k3 in
      let s4 : table.get third s ≡ Some ty.Site = slot_here second s ty.Site in
      let a5 : table.get all a ≡ Some ty.Agent = past third u ty.Site a ty.Agent (omega (arith, ab, bm, ml, lk, ks, su)) a4 in
      let b5 : table.get all b ≡ Some ty.Agent = past third u ty.Site b ty.Agent (omega (arith, bm, ml, lk, ks, su)) b4 in
      let k5 : table.get all k ≡ Some lock_type = past third u ty.Site k lock_type (omega (arith, ks, su)) k4 in
      let s5 : table.get all s ≡ Some ty.Site = past third u ty.Site s ty.Site su s4 in
      noted n types 15 _ (pair_type ty.Agent ty.Agent) both m _ refl (cover-two types a b ty.Agent ty.Agent)
      (good-made (low n) locked _ _ (outs-Lookup _ _ _ _ _) (
        an_agent (low n) locked b b1,
        a_map (low n) locked m m1,
        good-made (low n) first _ _ (outs-Lookup _ _ _ _ _) (
          an_agent (low n) first a a2,
          a_map (low n) first m m2,
          two n second 0 _ _
              (good-made (low n) second _ _ (outs-Inp _ _ _) (takes-from (low n) second _ _ ty.Site third _ (least-variable (low n) second l lock_type l3) (cover-name second s ty.Site)
              (two n third 0 _ _ (held n third l s l4 s4)
              (good-made (low n) third _ _ (outs-Inp _ _ _) (takes-from (low n) third _ _ ty.Site all _ (least-variable (low n) third k lock_type k4) (cover-name third u ty.Site)
              (good-hints all a b k s u a5 b5 k5 s5 (slot_here third u ty.Site)))))))
              (freed n second m m3),
          good-made (low n) first _ _ outs-Stop tt,
        ),
        good-made (low n) locked _ _ outs-Stop tt,
      ))

  pub good-cached_daemon : (types : Types) (s x : ℕ) → nat_lt s n ≡ true → Good (low n) types (cached_daemon n s x)
  good-cached_daemon types s x within =
      two n types 0 _ _ (good-daemon n types s x within)
      (good-where types (x + 21) (x + 22) (x + 23) (x + 24) (x + 25) (x + 26) (x + 27) (omega arith) (omega arith) (omega arith) (omega arith) (omega arith) (omega arith))
