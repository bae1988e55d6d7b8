-- Maps of numbers that are stored as entries in some order, and how a binder gets back what it had.
use Rattle.std.proofs.Common.{◌≡◌, ℕ, Bool, true, false, cond, nat_eq, List, [], ◌∷◌, ◌++◌, Option, None, Some, IsSome, refl, sym, ap, subst, ◌∙◌}
use Rattle.std.specs.Ordering.{nat_cmp, eq_by_cmp, is_eq}
use Rattle.std.specs.Cmp.{eq_by_cmp_equiv, nat_cmp_total, tied_itself, unsigned_tied}
use Rattle.std.specs.Map.{lookup}
use Rattle.std.specs.FinMap as map
use Rattle.std.specs.FinMap.{get-from_entries, find, get-insert, get-remove, same_map, nat_cmp-IsAntisymmetric}
use Rattle.np_syntax.specs.declared.types.Ty.{Ty}
use Rattle.np_tables.proofs.Tables.{is_equal}
use Rattle.np_types.specs.Least.{Types}
use Rattle.np_types.specs.Trails.{restored, rewound, Held}

abbrev same_key : ℕ → ℕ → Bool
same_key q k = eq_by_cmp nat_cmp q k

same_key-swap : (q k : ℕ) → same_key q k ≡ same_key k q
same_key-swap q k = (eq_by_cmp_equiv nat_cmp_total).symm q k

equal_key : (q k : ℕ) → same_key q k ≡ true → q ≡ k
equal_key q k h = nat_cmp-IsAntisymmetric q k (is_equal (nat_cmp q k) h)

module _ {X : Type 0} where
  abbrev pub stored : List (ℕ × X) → map.FinMap nat_cmp X
  stored es = map.from_entries es

  -- the value of the first entry with the number
  abbrev pub looked : List (ℕ × X) → ℕ → Option X
  looked es q = lookup (λ k. nat_eq q k) es

  find-looked : (es : List (ℕ × X)) (q : ℕ) → find nat_cmp q es ≡ looked es q
  find-looked [] q = refl
  find-looked (e ∷ es) q = rw (unsigned_tied q e.0) (ap (cond (nat_eq q e.0) (Some e.1)) (find-looked es q))

  pub get-stored : (es : List (ℕ × X)) (q : ℕ) → map.get (stored es) q ≡ looked es q
  get-stored es q = get-from_entries nat_cmp_total es q ∙ find-looked es q

  same : (m n : map.FinMap nat_cmp X) → ((q : ℕ) → map.get m q ≡ map.get n q) → m ≡ n
  same = same_map nat_cmp_total nat_cmp-IsAntisymmetric

  pub put_stored : (es fs : List (ℕ × X)) (k : ℕ) (v : X) → ((q : ℕ) → looked fs q ≡ cond (nat_eq k q) (Some v) (looked es q)) → stored fs ≡ map.insert (stored es) k v
  put_stored es fs k v h = same _ _ λ q. rw (get-stored fs q, get-insert nat_cmp_total (stored es) k v q, get-stored es q, h q, same_key-swap q k, unsigned_tied k q) refl

  pub cut_stored : (es fs : List (ℕ × X)) (k : ℕ) → ((q : ℕ) → looked fs q ≡ cond (nat_eq k q) None (looked es q)) → stored fs ≡ map.remove (stored es) k
  cut_stored es fs k h = same _ _ λ q. rw (get-stored fs q, get-remove nat_cmp_total (stored es) k q, get-stored es q, h q, same_key-swap q k, unsigned_tied k q) refl

  pub put_here : (m : map.FinMap nat_cmp X) (k : ℕ) (v : X) → map.get (map.insert m k v) k ≡ Some v
  put_here m k v = get-insert nat_cmp_total m k v k ∙ ap (λ b. cond b (Some v) (map.get m k)) (ap is_eq (tied_itself nat_cmp_total k))

  pub put_there : (m : map.FinMap nat_cmp X) (k : ℕ) (v : X) → IsSome (map.get (map.insert m k v) k)
  put_there m k v = rw (put_here m k v) refl

  back_at : (m : map.FinMap nat_cmp X) (q k : ℕ) (v : X) (b : Bool) (o : Option X) → same_key q k ≡ b → o ≡ map.get m k → cond b o (cond b (Some v) (map.get m q)) ≡ map.get m q
  back_at m q k v true o e h = h ∙ ap (map.get m) (sym (equal_key q k e))
  back_at m q k v false o e h = refl

-- a binder that is put and then gets back what it had
pub put_back : (m : Types) (k : ℕ) (v : Ty) (o : Option Ty) → o ≡ map.get m k → restored (map.insert m k v) k o ≡ m
put_back m k v None h = same _ _ λ q. get-remove nat_cmp_total (map.insert m k v) k q ∙ ap (cond (same_key q k) None) (get-insert nat_cmp_total m k v q) ∙ back_at m q k v (same_key q k) None refl h
put_back m k v (Some x) h = same _ _ λ q. get-insert nat_cmp_total (map.insert m k v) k x q ∙ ap (cond (same_key q k) (Some x)) (get-insert nat_cmp_total m k v q) ∙ back_at m q k v (same_key q k) (Some x) refl h

-- the newest binder of a trail comes first
pub rewound-push : (trail : List (ℕ × Option Ty)) (s : ℕ × Option Ty) (env : Types) → rewound (trail ++ s ∷ []) env ≡ rewound trail (restored env s.0 s.1)
rewound-push [] s env = refl
rewound-push (t ∷ trail) s env = ap (λ e. restored e t.0 t.1) (rewound-push trail s env)

pub held_push : (trail : List (ℕ × Option Ty)) (s : ℕ × Option Ty) (env : Types) → IsSome (map.get env s.0) → Held trail (restored env s.0 s.1) → Held (trail ++ s ∷ []) env
held_push [] s env here held = (tt, here)
held_push (t ∷ trail) s env here held = (held_push trail s env here held.0, subst (λ (e : Types). IsSome (map.get e t.0)) (sym (rewound-push trail s env)) held.1)

pub held_pop : (trail : List (ℕ × Option Ty)) (s : ℕ × Option Ty) (env : Types) → Held (trail ++ s ∷ []) env → IsSome (map.get env s.0) × Held trail (restored env s.0 s.1)
held_pop [] s env held = (held.1, tt)
held_pop (t ∷ trail) s env held = let rest = held_pop trail s env held.0 in (rest.0, (rest.1, subst (λ (e : Types). IsSome (map.get e t.0)) (rewound-push trail s env) held.1))
