-- Lists of processes to which nodes are added.
use Rattle.std.specs.Prelude.{slice_index_or}
use Rattle.std.proofs.Common.{rules, Option, None, Some, suc, zero, subst, ◌≡◌, ℕ, ◌<◌, ◌≤◌, ◌+◌, ◌++◌, ◌∷◌, [], List, length, refl, sym, ap, ◌∙◌, append_assoc, append-nil, arith, length-append}
use Rattle.std.proofs.lemmas.List.{get_or_append_left, get_or_push, get_or_past, length_push}
use Rattle.np_syntax.specs.declared.process.Proc.{Proc}
use Rattle.np_syntax.specs.declared.process.ProcForm.{out-ProcForm, roll-ProcForm}
use Rattle.np_code.specs.declared.node.Node.{Node}
use Rattle.np_code.specs.declared.node.NodeForm.{NodeForm}
use Rattle.np_code.specs.declared.node.NodeForm.TheVariants as node
unfoldable use Rattle.np_code.specs.Trees.{nth}
use Rattle.np_code.specs.Parts.{Layer, first_of, second_of}
use Rattle.np_code.specs.Trees.{nil, plant, layer_of, with_nodes, Below, BelowForm, AllBelow, Grows, Stands, numbered}
use Rattle.np_code.proofs.Layers.{plant-numbered, below-numbered}

-- ---- what stands in a list stays under its number

nth-left : (ts us : List Proc) (i : ℕ) → i < length ts → nth (ts ++ us) i ≡ nth ts i
unfolding nth
nth-left ts us i h = get_or_append_left ts us nil i h

pub nth-push : (ts : List Proc) (t : Proc) (i : ℕ) → length ts ≡ i → nth (ts ++ t ∷ []) i ≡ t
unfolding nth
nth-push ts t i h = get_or_push ts t nil i h

pub nth-past : (ts : List Proc) (i : ℕ) → length ts ≤ i → nth ts i ≡ nil
unfolding nth
nth-past ts i h = get_or_past ts i nil h

pub stays : (s t : List Proc) (i : ℕ) → Grows s t → i < length s → nth t i ≡ nth s i
stays s t i g h = rw g.is (nth-left s g.behind i h)

pub grows-itself : (s : List Proc) → Grows s s
grows-itself s = record { behind = []; is = sym (append-nil s) }

pub grows-on : (s t u : List Proc) → Grows s t → Grows t u → Grows s u
grows-on s t u g h = record { behind = g.behind ++ h.behind; is = rw (h.is, g.is) (append_assoc s g.behind h.behind) }

pub grows-push : (s : List Proc) (p : Proc) → Grows s (s ++ p ∷ [])
grows-push s p = record { behind = p ∷ []; is = refl }

pub stands-on : (s t : List Proc) (o : Option Proc) (i : ℕ) → Grows s t → Stands s o i → Stands t o i
stands-on s t None i g h = tt
stands-on s t (Some p) i g h = (stays s t i g h.1 ∙ h.0, rw g.is (omega (arith, h.1, length-append s g.behind)))

pub ruleset growth = (nth-push, stays, grows-itself, grows-on, grows-push, stands-on)

-- the process whose node was put behind its parts
pub planted : (s t u : List Proc) (p : Proc) (a b : Option Proc) (i j k : ℕ) (f : NodeForm)
    → a ≡ first_of (out-ProcForm p.form) → b ≡ second_of (out-ProcForm p.form)
    → Stands s a i → Grows s t → Stands t b j → f ≡ numbered (out-ProcForm p.form) i j → k ≡ length t
    → u ≡ t ++ plant t (record { tag = p.tag; at = p.at; form = f }) ∷ [] → nth u k ≡ p
planted s t u p a b i j k f one two h g m is at put =
    rw (put, is) (
    nth-push t _ k (sym at)
    ∙ plant-numbered t p i j
    (subst (λ o. Stands t o i) one (stands-on s t a i g h))
    (subst (λ o. Stands t o j) two m))

-- and its node's parts have smaller numbers
pub below-planted : (s t : List Proc) (p : Proc) (a b : Option Proc) (i j : ℕ) (f : NodeForm)
    → a ≡ first_of (out-ProcForm p.form) → b ≡ second_of (out-ProcForm p.form)
    → Stands s a i → Grows s t → Stands t b j → f ≡ numbered (out-ProcForm p.form) i j → BelowForm (length t) f
below-planted s t p a b i j f one two h g m is =
    rw is (
    below-numbered t (out-ProcForm p.form) i j
    (subst (λ o. Stands t o i) one (stands-on s t a i g h))
    (subst (λ o. Stands t o j) two m))

-- ---- the processes of nodes

length-with : (ts : List Proc) (ns : List Node) → length (with_nodes ts ns) ≡ length ts + length ns
length-with ts [] = search rules
length-with ts (n ∷ ns) = length-with (ts ++ plant ts n ∷ []) ns ∙ search (rules, length-append)

pub with-push : (ts : List Proc) (ns : List Node) (n : Node) → with_nodes ts (ns ++ n ∷ []) ≡ with_nodes ts ns ++ plant (with_nodes ts ns) n ∷ []
with-push ts [] n = refl
with-push ts (m ∷ ns) n = with-push (ts ++ plant ts m ∷ []) ns n

with-grows : (ts : List Proc) (ns : List Node) → Grows ts (with_nodes ts ns)
with-grows ts [] = grows-itself ts
with-grows ts (n ∷ ns) = grows-on _ _ _ (grows-push ts (plant ts n)) (with-grows (ts ++ plant ts n ∷ []) ns)

below-push : (k : ℕ) (ns : List Node) (n : Node) → AllBelow k ns → Below (k + length ns) n → AllBelow k (ns ++ n ∷ [])
below-push k [] n a b = (subst (λ m. Below m n) (omega arith) b, tt)
below-push k (m ∷ ns) n a b = (a.0, below-push (k + 1) ns n a.1 (subst (λ m. Below m n) (search (arith, rules)) b))

-- one level of the process of a node whose parts stand in the list is the same in a longer one
same-layer : (s t : List Proc) (f : NodeForm) → Grows s t → BelowForm (length s) f → layer_of t f ≡ layer_of s f
same-layer s t node.Stop g h = refl
same-layer s t (node.Par left right) g h = rw (stays s t left g h.0, stays s t right g h.1) refl
same-layer s t (node.New x ty body) g h = rw (stays s t body g h) refl
same-layer s t (node.Out c e) g h = refl
same-layer s t (node.Inp c x body) g h = rw (stays s t body g h) refl
same-layer s t (node.Rep c x body) g h = rw (stays s t body g h) refl
same-layer s t (node.Agent b body rest) g h = rw (stays s t body g h.0, stays s t rest g h.1) refl
same-layer s t (node.Migrate to body) g h = rw (stays s t body g h) refl
same-layer s t (node.IfLocal b c e met unmet) g h = rw (stays s t met g h.0, stays s t unmet g h.1) refl
same-layer s t (node.Send b to c e) g h = refl
same-layer s t (node.Post b c e) g h = refl
same-layer s t (node.If e met unmet) g h = rw (stays s t met g h.0, stays s t unmet g h.1) refl
same-layer s t (node.Let x e body) g h = rw (stays s t body g h) refl
same-layer s t (node.Print e) g h = refl
same-layer s t (node.Open e) g h = refl
same-layer s t (node.Lookup a m x met unmet) g h = rw (stays s t met g h.0, stays s t unmet g h.1) refl

same-plant : (s t : List Proc) (n : Node) → Grows s t → Below (length s) n → plant t n ≡ plant s n
same-plant s t n g h = ap (λ (l : Layer). record { tag = n.tag; at = n.at; form = roll-ProcForm l }) (same-layer s t n.form g h)

-- the node is that of the process under the number, behind its parts
pub record Shown (ts : List Proc) (n : Node) (i : ℕ) : Type 0 where
  pub process : plant ts n ≡ nth ts i
  pub below : Below i n

shown : (ts : List Proc) (ns : List Node) (d : Node) (k i : ℕ) → length ts ≡ k → AllBelow k ns → i < length ns → Shown (with_nodes ts ns) (slice_index_or ns i d) (k + i)
shown ts [] d k i e a h = absurd (omega (arith, h))
shown ts (n ∷ ns) d k zero e a h =
    let on = ts ++ plant ts n ∷ [] in
    let behind : Grows on (with_nodes on ns) = with-grows on ns in
    let far : Grows ts (with_nodes on ns) = grows-on ts on _ (grows-push ts (plant ts n)) behind in
    let here : length ts ≡ k + 0 = e ∙ omega arith in
    record {
      process = same-plant ts _ n far (subst (λ m. Below m n) (sym e) a.0) ∙ sym (stays on _ (k + 0) behind (search (arith, rules, here, length-append)) ∙ nth-push ts _ (k + 0) here);
      below = subst (λ m. Below m n) (omega arith) a.0;
    }
shown ts (n ∷ ns) d k (suc i) e a h =
    let on = ts ++ plant ts n ∷ [] in
    let r = shown on ns d (k + 1) i (length_push ts (plant ts n) ∙ ap (λ m. m + 1) e) a.1 (omega (arith, h)) in
    subst (λ m. Shown (with_nodes on ns) (slice_index_or ns i d) m) (omega arith) r

-- ---- the nodes of a table, seen as a list

pub shown-in : (ns : List Node) (r : Node) (i : ℕ) (ts : List Proc) → with_nodes [] ns ≡ ts → AllBelow 0 ns → i < length ns → r ≡ slice_index_or ns i r → Shown ts r i
shown-in ns r i ts e a h is =
    subst (λ us. Shown us r i) e (subst (λ n. Shown (with_nodes [] ns) n i) (sym is)
    (subst (λ m. Shown (with_nodes [] ns) (slice_index_or ns i r) m) (omega arith) (shown [] ns r 0 i refl a h)))

pub length-shown : (ns : List Node) (ts : List Proc) → with_nodes [] ns ≡ ts → length ns ≡ length ts
length-shown ns ts e = search (arith, rules, length-with [] ns) ∙ ap length e

pub below-next : (ns : List Node) (n : Node) (ts : List Proc) → with_nodes [] ns ≡ ts → AllBelow 0 ns → Below (length ts) n → AllBelow 0 (ns ++ n ∷ [])
below-next ns n ts e a b = below-push 0 ns n a (subst (λ m. Below m n) (sym (length-shown ns ts e) ∙ omega arith) b)
