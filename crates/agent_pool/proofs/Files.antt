-- Atoms that are filed under what they wait for stay so.
use Rattle.std.proofs.Common.{◌≡◌, Bool, true, false, cond, List, Option, None, Some, refl, sym, subst, ◌∙◌}
use Rattle.std.specs.FinMap as map
use Rattle.np_syntax.specs.declared.value.Name.{Name}
use Rattle.np_syntax.specs.declared.value.Value.{Value}
use Rattle.np_syntax.specs.declared.process.Tag.{Tag}
use Rattle.np_syntax.specs.declared.process.Proc.{Proc}
use Rattle.np_syntax.proofs.Options.{done}
use Rattle.np_tables.specs.Names.{NameMap, same_name}
use Rattle.np_tables.proofs.Tables.{get-none, get-put, get-cut}
use Rattle.agent_index.specs.declared.wait.Wait.{Wait}
use Rattle.agent_index.specs.declared.wait.Wait.TheVariants as wait
use Rattle.agent_index.specs.Shelves.{Kept}
use Rattle.agent_pool.specs.declared.held.Held.{Held}
use Rattle.agent_pool.specs.declared.held.Held.TheVariants as held
use Rattle.agent_pool.specs.Held.{wait_of}
use Rattle.agent_pool.specs.Pools.{IsFiled}
use Rattle.agent_pool.proofs.Layers.{wait-given}

abbrev Filed : List Proc → Option (Kept Held) → Type 0
Filed ts o = (kept : Kept Held) → o ≡ Some kept → kept.0 ≡ wait_of ts kept.1

put_filed : (ts : List Proc) (t : Bool) (h : Held) (o : Option (Kept Held)) → Filed ts o → Filed ts (cond t (Some (wait_of ts h, h)) o)
put_filed ts true h o f kept e = subst (λ (k : Kept Held). k.0 ≡ wait_of ts k.1) (sym (done e)) refl
put_filed ts false h o f kept e = f kept e

cut_filed : (ts : List Proc) (t : Bool) (o : Option (Kept Held)) → Filed ts o → Filed ts (cond t None o)
cut_filed ts true o f kept e = absurd (let x = e in cc)
cut_filed ts false o f kept e = f kept e

module _ (ts : List Proc) (atoms : NameMap (Kept Held)) (m : Name) (filed : IsFiled ts atoms) where
  pub filed-put : (h : Held) → IsFiled ts (map.insert atoms m (wait_of ts h, h))
  filed-put h = record { each = λ k kept e. put_filed ts (same_name k m) h (map.get atoms k) (λ x. filed.each k x) kept (sym (get-put atoms m (wait_of ts h, h) k) ∙ e) }

  pub filed-cut : IsFiled ts (map.remove atoms m)
  filed-cut = record { each = λ k kept e. cut_filed ts (same_name k m) (map.get atoms k) (λ x. filed.each k x) kept (sym (get-cut atoms m k) ∙ e) }

  -- an output that came from outside
  pub filed-given : (chan : Name) (v : Value) (tag : Tag) → IsFiled ts (map.insert atoms m (wait.Gives chan, held.Given chan v tag))
  filed-given chan v tag = subst (λ w. IsFiled ts (map.insert atoms m (w, held.Given chan v tag))) (wait-given ts chan v tag) (filed-put (held.Given chan v tag))

-- one atom, filed under what it waits for
pub filed-one : (ts : List Proc) (m : Name) (h : Held) (w : Wait) → wait_of ts h ≡ w → IsFiled ts (map.insert map.empty m (w, h))
filed-one ts m h w is = subst (λ v. IsFiled ts (map.insert map.empty m (v, h))) is (filed-put ts map.empty m (record { each = λ k kept e. absurd (let x = sym (get-none k) ∙ e in cc) }) h)

pub ruleset files = (filed-put, filed-cut)

pub ruleset received = (filed-given, wait-given)

pub ruleset beginnings = (filed-one, filed-put)
