-- Agents that come to a site and leave it.
use Rattle.std.proofs.Common.{◌≡◌, Bool, true, false, cond, None, Some, refl, sym, ap, subst, ◌≤◌, ◌∙◌}
use Rattle.std.specs.Prelude.{MatchOption, option_map}
use Rattle.std.proofs.lemmas.Option.{same_Some}
use Rattle.std.specs.FinMap as map
use Rattle.np_syntax.specs.declared.value.Name.{Name}
use Rattle.np_syntax.specs.declared.process.Tag.{Tag}
use Rattle.np_syntax.specs.declared.value.Value.{Value}
use Rattle.np_tables.specs.Names.{NameMap, same_name}
use Rattle.np_tables.proofs.Tables.{get-none, get-put, put-cut, same_name-is, cut_here, put_here}
use Rattle.np_code.specs.Programs.{ProgramTable}
use Rattle.agent_pool.specs.Pools.{Pool, Unchanged, without_room}
use Rattle.site_agents.specs.LentAgents.{with_agent}
use Rattle.site_agents.proofs.Comings.{quiet_with as quiet_there}
use Rattle.site_state.specs.Coming.{HasGot, HasSpare, IsGiven, KeepsSeats}
use Rattle.site_agents.specs.Standings.{AreNamed, AreQuiet, Standing as Seated}
use Rattle.site_state.specs.Standings.{SameAgents}

named_at : (agents : NameMap Pool) (k : Name) (p : Pool) → AreNamed agents → p.name ≡ k → (q : Name) (t : Bool) (x : Pool) → same_name q k ≡ t
    → cond t (Some p) (map.get agents q) ≡ Some x → x.name ≡ q
named_at agents k p h n q true x s e = let same = same_name-is q k s in cc
named_at agents k p h n q false x s e = h.each q x e

-- an agent comes under its own name
pub named-put : (agents : NameMap Pool) (k : Name) (p : Pool) → AreNamed agents → p.name ≡ k → AreNamed (map.insert agents k p)
named-put agents k p h n = record { each = λ q x e. named_at agents k p h n q (same_name q k) x refl (sym (get-put agents k p q) ∙ e) }

pub named-none : (agents : NameMap Pool) → agents ≡ map.empty → AreNamed agents
named-none agents e = record { each = λ q x f. let none : map.get agents q ≡ None = ap (λ m. map.get m q) e ∙ get-none q in absurd cc }

-- an agent that is changed where it stands, and keeps its name
pub quiet_with : (code : ProgramTable) (s : Seated) (k : Name) (p : Pool) → AreQuiet code s → AreQuiet code (with_agent s k p)
quiet_with = quiet_there

pub keeps_with : (s : Seated) (k : Name) (x p : Pool) → map.get s.agents k ≡ Some x → p.name ≡ x.name → KeepsSeats s (with_agent s k p)
keeps_with s k x p e n = record { named = λ h. named-put s.agents k p h (n ∙ h.each k x e); quiet = λ code h. quiet_with code s k p h }

pub absent_again : (b c : NameMap Pool) (k j : Name) → c ≡ map.remove b k → j ≡ k → map.get c j ≡ None
absent_again b c k j bc same = (λ i. map.get (bc i) (same i)) ∙ cut_here b k

-- an agent that was taken out and comes again, changed
pub back_again : (a b c d : NameMap Pool) (k j : Name) (p : Pool) → b ≡ a → c ≡ map.remove b k → j ≡ k → d ≡ map.insert c j p → d ≡ map.insert a k p
back_again a b c d k j p ab bc same cd = cd ∙ (λ i. map.insert (bc i) (same i) p) ∙ put-cut b k p ∙ ap (λ m. map.insert m k p) ab

at_back : (a : NameMap Pool) (k : Name) (p x : Pool) → map.get a k ≡ Some x → without_room p ≡ without_room x → (q : Name) (t : Bool) → same_name q k ≡ t
    → option_map without_room (cond t (Some p) (map.get a q)) ≡ option_map without_room (map.get a q)
at_back a k p x e same q true s = let here : map.get a q ≡ Some x = ap (map.get a) (same_name-is q k s) ∙ e in rw here (ap Some same)
at_back a k p x e same q false s = refl

-- and unchanged but for its room
pub same_again : (a d : NameMap Pool) (k : Name) (p x : Pool) → map.get a k ≡ Some x → d ≡ map.insert a k p → Unchanged x p → SameAgents a d
same_again a d k p x e is same = record {
  each = λ q. ap (λ m. option_map without_room (map.get m q)) is ∙ ap (option_map without_room) (get-put a k p q)
      ∙ at_back a k p x e (λ i. (same.name i, same.atoms i)) q (same_name q k) refl;
}

pub spare_back : (d a : NameMap Pool) (k : Name) (p : Pool) → d ≡ map.insert a k p → 1 ≤ p.spare → HasSpare d k
spare_back d a k p e l = record {
  each = λ x f. let h : Some p ≡ Some x = sym (put_here a k p) ∙ ap (λ m. map.get m k) (sym e) ∙ f in subst (λ (y : Pool). 1 ≤ y.spare) (same_Some p x h) l;
}

pub given_some : (old new : NameMap Pool) (to mark chan : Name) (value : Value) (tag : Tag) (before : Pool) → map.get old to ≡ Some before
    → HasGot old to before mark chan value tag new → IsGiven old to mark chan value tag new
given_some old new to mark chan value tag before e g = subst (λ o. MatchOption o (new ≡ old) (λ b. HasGot old to b mark chan value tag new)) (sym e) g

pub got_at : (old new : NameMap Pool) (to mark chan : Name) (value : Value) (tag : Tag) (before : Pool) → map.get old to ≡ Some before → IsGiven old to mark chan value tag new
    → HasGot old to before mark chan value tag new
got_at old new to mark chan value tag before e g = subst (λ o. MatchOption o (new ≡ old) (λ b. HasGot old to b mark chan value tag new)) e g
