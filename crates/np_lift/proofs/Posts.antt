-- Deeds of a run and of its parts, and posts that are paired.
use Rattle.std.proofs.Common.{◌≡◌, ◌+◌, ℕ, Bool, false, Option, None, Some, List, [], ◌∷◌, ◌++◌, cond, refl, sym, ap, subst, ◌∙◌, arith}
use Rattle.std.specs.List.{count_by}
use Rattle.std.proofs.lemmas.List.Elements.{All-head, All-tail}
use Rattle.std.proofs.lemmas.List.Sums.{sum_by-cons}
use Rattle.np_syntax.specs.declared.value.Name.{Name}
use Rattle.np_syntax.specs.declared.process.Role.{Role}
use Rattle.np_syntax.specs.declared.process.Role.TheVariants as role
use Rattle.np_syntax.specs.declared.event.Event.{Event}
use Rattle.np_syntax.specs.declared.event.Kind.{Kind}
use Rattle.np_syntax.specs.declared.event.Kind.TheVariants as kind
use Rattle.np_syntax.specs.Options.{◌>>=◌}
use Rattle.np_calculus.specs.Config.{Config}
use Rattle.np_calculus.specs.Reductions.{apply, run}
use Rattle.np_lift.specs.Lift.{lift, lifted, lifted_by}
use Rattle.np_lift.specs.Posts.{Deed, AllHanded, Alternate, and_on, deed_by, deeds, deeds_to, prepended, to_mark}
use Rattle.np_lift.specs.Laws.{DeedsOfParts, HandedIsPaired, PostsAreLifted, PrefixIsPaired, is_sent, is_post}
use Rattle.np_lift.proofs.Lifted.{filter-append}

pub prepended-append : {A : Type 0} (o : Option A) (xs ys : List A) → prepended o (xs ++ ys) ≡ prepended o xs ++ ys
prepended-append None xs ys = refl
prepended-append (Some x) xs ys = refl

-- one event more, where the run goes on
step : (c : Config) (e : Event) (o : Option Config) (f g : Config → List (Name × Deed)) (rest : List (Name × Deed)) (d : Config) (ends : Config → Option Config)
    → ((m : Config) → ends m ≡ Some d → f m ≡ g m ++ rest) → (o >>= ends) ≡ Some d → and_on c e o f ≡ and_on c e o g ++ rest
step c e None f g rest d ends h r = absurd cc
step c e (Some m) f g rest d ends h r = ap (prepended (deed_by e.kind e.tag.role c m e)) (h m r) ∙ prepended-append (deed_by e.kind e.tag.role c m e) (g m) rest

pub deeds-of-parts : DeedsOfParts
deeds-of-parts c d [] k r = ap (λ x. deeds x k) (some-out r)
  where
    some-out : {A : Type 0} {x y : A} → Some x ≡ Some y → x ≡ y
    some-out e = cc
deeds-of-parts c d (e ∷ h) k r = step c e (apply c e) (λ m. deeds m (h ++ k)) (λ m. deeds m h) (deeds d k) d (λ m. run m h) (λ m q. deeds-of-parts m d h k q) r

handed-alternate : (ds : List Deed) → AllHanded ds → Alternate ds
handed-alternate ds AllHanded.nothing = Alternate.nothing
handed-alternate ds (AllHanded.handed h rest) = Alternate.handed h (handed-alternate _ rest)

pub handed-is-paired : HandedIsPaired
handed-is-paired c h all mark = handed-alternate _ (all mark)

-- the deeds of a beginning of a run are a beginning of its deeds
record Begins (whole part : List (Name × Deed)) : Type 0 where
  rest : List (Name × Deed)
  is : whole ≡ part ++ rest

begins-on : (c : Config) (e : Event) (o : Option Config) (f g : Config → List (Name × Deed)) → ((m : Config) → Begins (f m) (g m)) → Begins (and_on c e o f) (and_on c e o g)
begins-on c e None f g h = record { rest = []; is = refl }
begins-on c e (Some m) f g h = record {
  rest = (h m).rest;
  is = ap (prepended (deed_by e.kind e.tag.role c m e)) (h m).is ∙ prepended-append (deed_by e.kind e.tag.role c m e) (g m) (h m).rest;
}

begins : (c : Config) (h k : List Event) → Begins (deeds c (h ++ k)) (deeds c h)
begins c [] k = record { rest = deeds c k; is = refl }
begins c (e ∷ h) k = begins-on c e (apply c e) (λ m. deeds m (h ++ k)) (λ m. deeds m h) (λ m. begins m h k)

alternate-prefix : (ds es : List Deed) → Alternate (ds ++ es) → Alternate ds
alternate-prefix [] es a = Alternate.nothing
alternate-prefix (d ∷ []) [] Alternate.under_way = Alternate.under_way
alternate-prefix (d ∷ []) (e ∷ es) (Alternate.handed h rest) = subst (λ p. Alternate (Deed.posts p ∷ [])) (sym h.posted) Alternate.under_way
alternate-prefix (d ∷ e ∷ ds) es (Alternate.handed h rest) = Alternate.handed h (alternate-prefix ds es rest)

pub prefix-is-paired : PrefixIsPaired
prefix-is-paired c h k paired mark =
    let b = begins c h k in
    alternate-prefix (deeds_to mark (deeds c h)) (deeds_to mark b.rest) (subst Alternate (ap (deeds_to mark) b.is ∙ filter-append (to_mark mark) (deeds c h) b.rest) (paired mark))

-- ---- as many posts

abbrev one_if : Bool → ℕ
one_if t = cond t 1 0

abbrev weight : Option Event → ℕ
weight None = 0
weight (Some e) = one_if (is_post e.kind)

weight-is : (k : Kind) (r : Role) (e : Event) → e.kind ≡ k → is_post k ≡ false → weight (lifted_by r k e) ≡ one_if (is_sent k r)
weight-is kind.Send role.Post e same none = refl
weight-is kind.Land role.Post e same none = refl
weight-is _ role.Infra e same none = refl
weight-is _ _ e same none = ap one_if (ap is_post same ∙ none)

one_more : (o : Option Event) (h : List Event) (e : Event) → lifted e ≡ o → count_by (λ e. is_post e.kind) (lift (e ∷ h)) ≡ weight o + count_by (λ e. is_post e.kind) (lift h)
one_more None h e is = rw is (omega arith)
one_more (Some x) h e is = rw is (sum_by-cons (λ e. one_if (is_post e.kind)) x (lift h))

pub posts-are-lifted : PostsAreLifted
posts-are-lifted [] none = refl
posts-are-lifted (e ∷ h) none =
    let first : is_post e.kind ≡ false = All-head (λ e. is_post e.kind ≡ false) e h none in
    let rest : count_by (λ e. is_post e.kind) (lift h) ≡ count_by (λ e. is_sent e.kind e.tag.role) h = posts-are-lifted h (All-tail (λ e. is_post e.kind ≡ false) e h none) in
    one_more (lifted e) h e refl ∙ ap (λ n. n + count_by (λ e. is_post e.kind) (lift h)) (weight-is e.kind e.tag.role e refl first)
    ∙ ap (λ n. one_if (is_sent e.kind e.tag.role) + n) rest ∙ sym (sum_by-cons (λ e. one_if (is_sent e.kind e.tag.role)) e h)
