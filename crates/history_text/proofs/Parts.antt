-- The fields of an event's line, read as they are written.
use Rattle.std.proofs.Common.{◌≡◌, ℕ, ◌<◌, ◌^◌, List, [], ◌∷◌, ◌++◌, take, drop, length, decimal, refl, sym}
use Rattle.std.proofs.Common.{ap, ◌∙◌, None, Some, Option, arith, append_assoc}
use Rattle.std.specs.Prelude.{Bool, true, false, cond, ◌==◌, codes}
use Rattle.std.specs.List.{prefix_len, list_all, flat_map}
use Rattle.std.specs.Str.{bytes_eq}
use Rattle.std.proofs.lemmas.Bool.Decides.{nat_tests}
use Rattle.std.proofs.lemmas.List.{take-append-drop}
use Rattle.std.proofs.lemmas.Slice.Eq.{bytes_eq-Decides}
use Rattle.std.proofs.lemmas.Fmt.{decimal_nonempty}
use Rattle.std.specs.Char.{is_ascii_digit}
use Rattle.np_syntax.specs.Printed.{spaced}
use Rattle.np_syntax.specs.Options.{◌>>=◌, ◌>>◌, need}
use Rattle.np_syntax.proofs.Options.{then, when, done}
use Rattle.np_syntax.proofs.Bools.{and-out}
use Rattle.np_syntax.proofs.Searching.{found_passes}
use Rattle.np_syntax.specs.declared.value.Name.{Name}
use Rattle.np_syntax.specs.declared.process.Role.{Role}
use Rattle.np_syntax.specs.declared.process.Role.TheVariants as roles
use Rattle.np_syntax.specs.declared.process.Tag.{Tag}
use Rattle.np_syntax.specs.declared.event.Kind.{Kind}
use Rattle.np_syntax.specs.declared.event.Kind.TheVariants as kinds
use Rattle.np_syntax.specs.declared.event.Made.{Made}
use Rattle.np_syntax.specs.declared.event.Made.TheVariants as made
use Rattle.np_syntax.specs.declared.event.Event.{Event}
use Rattle.history_text.specs.declared.format.Format.{Format}
use Rattle.history_text.specs.declared.format.Format.TheVariants as formats
use Rattle.history_text.specs.declared.words.TheConstants.{KINDS, ROLES, FORMATS}
use Rattle.history_text.specs.Spelling.{name_text, optional_text, kind_word, role_word, first_made, second_made, event_line, first_line}
use Rattle.history_text.specs.Histories.{NameFits, OptionalFits, Fits}
use Rattle.history_text.specs.Reading.{in_field, kind_of, role_of, format_of, number_at, behind, name_at, optional_by, optional_at, kind_at, role_at}
use Rattle.history_text.specs.Reading.{tag_at, made_of, made_at, ninth, ends_well, event_of}
use Rattle.history_text.proofs.Numbers.{Ends, Takes, front_take, front_drop, decimal_digits, number_again, number_takes}
use Rattle.history_text.proofs.Written.{with_ninth}

-- ---- steps

-- a step that gives a value
next : {A B : Type 0} {o : Option A} {a : A} (f : A → Option B) {b : Option B} → o ≡ Some a → f a ≡ b → (o >>= f) ≡ b
next {o = Some x} f e k = let same : x ≡ _ = cc in ap f same ∙ k
next {o = None} f e k = cc

-- the texts of two reads, one behind the other
both : {bytes text rest text2 rest2 : List ℕ} → Takes bytes text rest → Takes rest text2 rest2 → Takes bytes (text ++ text2) rest2
both {text = text} {text2 = text2} {rest2 = rest2} first second = record { is = first.is ∙ ap (λ l. text ++ l) second.is ∙ sym (append_assoc text text2 rest2) }

-- ---- one byte

behind_takes : (sign : ℕ) (bytes rest : List ℕ) → behind sign bytes ≡ Some rest → Takes bytes (sign ∷ []) rest
behind_takes sign [] rest e = cc
behind_takes sign (byte ∷ bytes) rest e = go (byte == sign) refl e
  where
    go : (b : Bool) → (byte == sign) ≡ b → cond b (Some bytes) None ≡ Some rest → Takes (byte ∷ bytes) (sign ∷ []) rest
    go true is k = let same : byte ≡ sign = grind (arith, nat_tests) in let others : bytes ≡ rest = cc in record { is = rw (same, others) refl }
    go false is k = cc

-- ---- words

kind_back : (kind : Kind) → kind_of (kind_word kind) ≡ Some kind
kind_back kinds.Stop = refl
kind_back kind = refl

kind_is : (word : List ℕ) (kind : Kind) → kind_of word ≡ Some kind → kind_word kind ≡ word
kind_is word kind e = (bytes_eq-Decides (kind_word kind) word).0 (found_passes (λ k. bytes_eq (kind_word k) word) KINDS kind e)

role_back : (role : Role) → role_of (role_word role) ≡ Some role
role_back roles.Plain = refl
role_back role = refl

role_is : (word : List ℕ) (role : Role) → role_of word ≡ Some role → role_word role ≡ word
role_is word role e = (bytes_eq-Decides (role_word role) word).0 (found_passes (λ r. bytes_eq (role_word r) word) ROLES role e)

pub format_back : (format : Format) → format_of (first_line format) ≡ Some format
format_back formats.First = refl
format_back format = refl

pub format_is : (line : List ℕ) (format : Format) → format_of line ≡ Some format → first_line format ≡ line
format_is line format e = (bytes_eq-Decides (first_line format) line).0 (found_passes (λ f. bytes_eq (first_line f) line) FORMATS format e)

kind_field : (kind : Kind) → list_all in_field (kind_word kind) ≡ true
kind_field kinds.Stop = refl
kind_field kind = refl

role_field : (role : Role) → list_all in_field (role_word role) ≡ true
role_field roles.Plain = refl
role_field role = refl

kind_again : (kind : Kind) (rest : List ℕ) → Ends in_field rest → kind_at (kind_word kind ++ rest) ≡ Some (kind, rest)
unfolding kind_at
kind_again kind rest ends =
    let word = front_take in_field (kind_word kind) rest (kind_field kind) ends in
    let others = front_drop in_field (kind_word kind) rest (kind_field kind) ends in
    next _ (ap kind_of word ∙ kind_back kind) (ap (λ l. Some (kind, l)) others)

kind_takes : (bytes : List ℕ) (x : Kind × List ℕ) → kind_at bytes ≡ Some x → Takes bytes (kind_word x.0) x.1
unfolding kind_at
kind_takes bytes x e = then (kind_of (take (prefix_len in_field bytes) bytes)) (λ kind. Some (kind, drop (prefix_len in_field bytes) bytes)) e (λ kind reads same.
    let here : x ≡ (kind, drop (prefix_len in_field bytes) bytes) = done same in
    let word : kind_word kind ≡ take (prefix_len in_field bytes) bytes = kind_is (take (prefix_len in_field bytes) bytes) kind reads in
    rw here (record { is = sym (take-append-drop (prefix_len in_field bytes) bytes) ∙ ap (λ l. l ++ drop (prefix_len in_field bytes) bytes) (sym word) }))

role_again : (role : Role) (rest : List ℕ) → Ends in_field rest → role_at (role_word role ++ rest) ≡ Some (role, rest)
unfolding role_at
role_again role rest ends =
    let word = front_take in_field (role_word role) rest (role_field role) ends in
    let others = front_drop in_field (role_word role) rest (role_field role) ends in
    next _ (ap role_of word ∙ role_back role) (ap (λ l. Some (role, l)) others)

role_takes : (bytes : List ℕ) (x : Role × List ℕ) → role_at bytes ≡ Some x → Takes bytes (role_word x.0) x.1
unfolding role_at
role_takes bytes x e = then (role_of (take (prefix_len in_field bytes) bytes)) (λ role. Some (role, drop (prefix_len in_field bytes) bytes)) e (λ role reads same.
    let here : x ≡ (role, drop (prefix_len in_field bytes) bytes) = done same in
    let word : role_word role ≡ take (prefix_len in_field bytes) bytes = role_is (take (prefix_len in_field bytes) bytes) role reads in
    rw here (record { is = sym (take-append-drop (prefix_len in_field bytes) bytes) ∙ ap (λ l. l ++ drop (prefix_len in_field bytes) bytes) (sym word) }))

-- ---- names

name_again : (name : Name) (rest : List ℕ) → NameFits name → Ends is_ascii_digit rest → name_at (name_text name ++ rest) ≡ Some (name, rest)
unfolding name_at
name_again name rest fits ends =
    ap name_at (append_assoc (decimal name.site ++ codes ".") (decimal name.n) rest ∙ append_assoc (decimal name.site) (codes ".") (decimal name.n ++ rest))
    ∙ next _ (number_again name.site (46 ∷ (decimal name.n ++ rest)) fits.0 refl) (next _ (number_again name.n rest fits.1 ends) refl)

name_takes : (bytes : List ℕ) (x : Name × List ℕ) → name_at bytes ≡ Some x → Takes bytes (name_text x.0) x.1 × NameFits x.0
unfolding name_at
name_takes bytes x e =
    then (number_at bytes) _ e (λ site s e. then (behind 46 site.1) _ e (λ rest r e. then (number_at rest) _ e (λ n m e.
    let here : x ≡ (record { site = site.0; n = n.0 }, n.1) = done e in
    let first = number_takes bytes site s in
    let second = behind_takes 46 site.1 rest r in
    let third = number_takes rest n m in
    rw here (both (both first.0 second) third.0, (first.1, third.1)))))

-- ---- a name, or none

digit_first : (digits rest : List ℕ) → 0 < length digits → list_all is_ascii_digit digits ≡ true → behind 45 (digits ++ rest) ≡ None
digit_first [] rest some all = absurd (omega arith)
digit_first (digit ∷ digits) rest some all =
    let first = (and-out (is_ascii_digit digit) (list_all is_ascii_digit digits) all).0 in
    let other : (digit == 45) ≡ false = grind (arith, nat_tests) in
    rw other refl

no_dash : (name : Name) (rest : List ℕ) → NameFits name → behind 45 (name_text name ++ rest) ≡ None
no_dash name rest fits =
    let small : name.site < 2 ^ 32 = fits.0 in
    ap (behind 45) (append_assoc (decimal name.site ++ codes ".") (decimal name.n) rest ∙ append_assoc (decimal name.site) (codes ".") (decimal name.n ++ rest))
    ∙ digit_first (decimal name.site) (46 ∷ (decimal name.n ++ rest)) (decimal_nonempty name.site (omega arith)) (decimal_digits name.site small)

optional_again : (name : Option Name) (rest : List ℕ) → OptionalFits name → Ends is_ascii_digit rest
    → optional_at (optional_text name ++ rest) ≡ Some (name, rest)
unfolding optional_at
optional_again None rest fits ends = refl
optional_again (Some name) rest fits ends = ap (λ o. optional_by o (name_text name ++ rest)) (no_dash name rest fits)
    ∙ next _ (name_again name rest fits ends) refl

optional_takes : (bytes : List ℕ) (x : Option Name × List ℕ) → optional_at bytes ≡ Some x → Takes bytes (optional_text x.0) x.1 × OptionalFits x.0
unfolding optional_at
optional_takes bytes x e = go (behind 45 bytes) refl e
  where
    go : (o : Option (List ℕ)) → behind 45 bytes ≡ o → optional_by o bytes ≡ Some x → Takes bytes (optional_text x.0) x.1 × OptionalFits x.0
    go (Some rest) is k = let here : x ≡ (None, rest) = done k in rw here (behind_takes 45 bytes rest is, tt)
    go None is k = then (name_at bytes) (λ (name : Name × List ℕ). Some (Some name.0, name.1)) k (λ name reads same.
        let here : x ≡ (Some name.0, name.1) = done same in
        rw here (name_takes bytes name reads))

-- ---- the tag

abbrev pub tag_text : Tag → List ℕ
tag_text tag = decimal tag.node ++ codes " " ++ role_word tag.role

tag_again : (tag : Tag) (rest : List ℕ) → tag.node < 2 ^ 32 → Ends in_field rest → tag_at (tag_text tag ++ rest) ≡ Some (tag, rest)
unfolding tag_at
tag_again tag rest small ends =
    ap tag_at (append_assoc (decimal tag.node ++ codes " ") (role_word tag.role) rest ∙ append_assoc (decimal tag.node) (codes " ") (role_word tag.role ++ rest))
    ∙ next _ (number_again tag.node (32 ∷ (role_word tag.role ++ rest)) small refl) (next _ (role_again tag.role rest ends) refl)

tag_takes : (bytes : List ℕ) (x : Tag × List ℕ) → tag_at bytes ≡ Some x → Takes bytes (tag_text x.0) x.1 × (x.0.node < 2 ^ 32)
unfolding tag_at
tag_takes bytes x e =
    then (number_at bytes) _ e (λ node n e. then (behind 32 node.1) _ e (λ rest r e. then (role_at rest) _ e (λ role o e.
    let here : x ≡ (record { node = node.0; role = role.0 }, role.1) = done e in
    let first = number_takes bytes node n in
    let second = behind_takes 32 node.1 rest r in
    let third = role_takes rest role o in
    rw here (both (both first.0 second) third, first.1))))

-- ---- the names that an event makes

abbrev pub made_text : Made → List ℕ
made_text m = optional_text (first_made m) ++ codes " " ++ optional_text (second_made m)

made_back : (m : Made) → made_of (first_made m) (second_made m) ≡ Some m
made_back made.Nothing = refl
made_back m = refl

record Makes (one two : Option Name) (m : Made) : Type 0 where
  first : first_made m ≡ one
  second : second_made m ≡ two

made_is : (first second : Option Name) (m : Made) → made_of first second ≡ Some m → Makes first second m
made_is None None m e = let is : m ≡ made.Nothing = done e in rw is (record { first = refl; second = refl })
made_is (Some name) None m e = let is : m ≡ made.One name = done e in rw is (record { first = refl; second = refl })
made_is (Some name) (Some other) m e = let is : m ≡ made.Two name other = done e in rw is (record { first = refl; second = refl })
made_is None (Some other) m e = cc

made_again : (m : Made) (rest : List ℕ) → OptionalFits (first_made m) → OptionalFits (second_made m) → Ends is_ascii_digit rest
    → made_at (made_text m ++ rest) ≡ Some (m, rest)
unfolding made_at
made_again m rest first second ends =
    ap made_at (append_assoc (optional_text (first_made m) ++ codes " ") (optional_text (second_made m)) rest ∙ append_assoc (optional_text (first_made m)) (codes " ") (optional_text (second_made m) ++ rest))
    ∙ next _ (optional_again (first_made m) (32 ∷ (optional_text (second_made m) ++ rest)) first refl) (next _ (optional_again (second_made m) rest second ends) (next _ (made_back m) refl))

-- the names that an event makes were read, and fit
record MadeTaken (bytes : List ℕ) (m : Made) (rest : List ℕ) : Type 0 where
  takes : Takes bytes (made_text m) rest
  first : OptionalFits (first_made m)
  second : OptionalFits (second_made m)

made_takes : (bytes : List ℕ) (x : Made × List ℕ) → made_at bytes ≡ Some x → MadeTaken bytes x.0 x.1
unfolding made_at
made_takes bytes x e =
    then (optional_at bytes) _ e (λ first f e. then (behind 32 first.1) _ e (λ rest r e. then (optional_at rest) _ e (λ second s e. then (made_of first.0 second.0) _ e (λ m o e.
    let here : x ≡ (m, second.1) = done e in
    let one = optional_takes bytes first f in
    let two = optional_takes rest second s in
    let makes = made_is first.0 second.0 m o in
    let takes : Takes bytes (optional_text first.0 ++ (32 ∷ []) ++ optional_text second.0) second.1 = both (both one.0 (behind_takes 32 first.1 rest r)) two.0 in
    rw here (record { takes = rw (makes.first, makes.second) takes; first = rw makes.first one.1; second = rw makes.second two.1 })))))

-- ---- the event of a line

-- an event's eight fields, as they are read, with these bytes behind them
abbrev event_text : Event → List ℕ → List ℕ
event_text e last =
    decimal e.site ++ 32 ∷ (kind_word e.kind ++ 32 ∷ (name_text e.actor ++ 32 ∷ (optional_text e.other ++ 32 ∷ (tag_text e.tag ++ 32 ∷ (made_text e.made ++ last)))))

abbrev each_spaced : List (List ℕ) → List ℕ → List ℕ
each_spaced [] last = last
each_spaced (text ∷ texts) last = 32 ∷ (text ++ each_spaced texts last)

behind_spaces : (texts : List (List ℕ)) (last : List ℕ) → flat_map (λ other. codes " " ++ other) texts ++ last ≡ each_spaced texts last
behind_spaces [] last = refl
behind_spaces (text ∷ texts) last = append_assoc (codes " " ++ text) _ last ∙ ap (λ l. 32 ∷ (text ++ l)) (behind_spaces texts last)

pair : (a b last : List ℕ) → (a ++ codes " " ++ b) ++ last ≡ a ++ 32 ∷ (b ++ last)
pair a b last = append_assoc (a ++ codes " ") b last ∙ append_assoc a (codes " ") (b ++ last)

regrouped : (a b c d e f g h last : List ℕ)
    → spaced (a ∷ b ∷ c ∷ d ∷ e ∷ f ∷ g ∷ h ∷ []) ++ last ≡ a ++ 32 ∷ (b ++ 32 ∷ (c ++ 32 ∷ (d ++ 32 ∷ ((e ++ codes " " ++ f) ++ 32 ∷ ((g ++ codes " " ++ h) ++ last)))))
regrouped a b c d e f g h last =
    append_assoc a _ last ∙ ap (λ l. a ++ l) (behind_spaces (b ∷ c ∷ d ∷ e ∷ f ∷ g ∷ h ∷ []) last)
    ∙ ap (λ l. a ++ 32 ∷ (b ++ 32 ∷ (c ++ 32 ∷ (d ++ 32 ∷ l)))) (sym (pair e f (32 ∷ (g ++ 32 ∷ (h ++ last)))) ∙ ap (λ l. (e ++ codes " " ++ f) ++ 32 ∷ l) (sym (pair g h last)))

as_read : (format : Format) (e : Event) → event_line format e ≡ event_text e (ninth format e.kind e.tag.role)
as_read format e =
    sym (with_ninth format e)
    ∙ regrouped (decimal e.site) (kind_word e.kind) (name_text e.actor) (optional_text e.other) (decimal e.tag.node) (role_word e.tag.role) (optional_text (first_made e.made)) (optional_text (second_made e.made))
    (ninth format e.kind e.tag.role)

-- an event's line begins with its site
pub line_number : (format : Format) (e : Event) → (rest : List ℕ) × (event_line format e ≡ decimal e.site ++ rest)
line_number format e = (_, as_read format e)

ninth_ends : (format : Format) (kind : Kind) (role : Role) → Ends is_ascii_digit (ninth format kind role)
ninth_ends formats.First kind role = tt
ninth_ends formats.Second kind role = refl

pub event_again : (format : Format) (e : Event) → Fits e → event_of format (event_line format e) ≡ Some e
unfolding event_of
event_again format e fits =
    let last = ninth format e.kind e.tag.role in
    let ends : ends_well format e.kind e.tag.role last ≡ true = (bytes_eq-Decides last last).1 refl in
    ap (event_of format) (as_read format e)
    ∙ next _ (number_again e.site _ fits.site refl) (next _ (kind_again e.kind _ refl) (next _ (name_again e.actor _ fits.actor refl) (next _ (optional_again e.other _ fits.other refl) (next _ (tag_again e.tag _ fits.node refl)
    (next _ (made_again e.made last fits.first fits.second (ninth_ends format e.kind e.tag.role)) (ap (λ b. need b >> Some e) ends))))))

pub event_takes : (format : Format) (line : List ℕ) (x : Event) → event_of format line ≡ Some x → (line ≡ event_line format x) × Fits x
unfolding event_of
event_takes format line x e =
    then (number_at line) _ e (λ site h0 e. then (behind 32 site.1) _ e (λ r1 b1 e. then (kind_at r1) _ e (λ kind h1 e. then (behind 32 kind.1) _ e (λ r2 b2 e. then (name_at r2) _ e (λ actor h2 e.
    then (behind 32 actor.1) _ e (λ r3 b3 e. then (optional_at r3) _ e (λ other h3 e. then (behind 32 other.1) _ e (λ r4 b4 e. then (tag_at r4) _ e (λ tag h4 e. then (behind 32 tag.1) _ e (λ r5 b5 e.
    then (made_at r5) _ e (λ m h5 e. when (ends_well format kind.0 tag.0.role m.1) _ e (λ ends e.
    let here : x ≡ (record { site = site.0; kind = kind.0; actor = actor.0; other = other.0; tag = tag.0; made = m.0 }) = done e in
    let last : m.1 ≡ ninth format kind.0 tag.0.role = (bytes_eq-Decides m.1 (ninth format kind.0 tag.0.role)).0 ends in
    let t0 = number_takes line site h0 in
    let t1 = kind_takes r1 kind h1 in
    let t2 = name_takes r2 actor h2 in
    let t3 = optional_takes r3 other h3 in
    let t4 = tag_takes r4 tag h4 in
    let t5 = made_takes r5 m h5 in
    let s1 = behind_takes 32 site.1 r1 b1 in
    let s2 = behind_takes 32 kind.1 r2 b2 in
    let s3 = behind_takes 32 actor.1 r3 b3 in
    let s4 = behind_takes 32 other.1 r4 b4 in
    let s5 = behind_takes 32 tag.1 r5 b5 in
    let text : line ≡ event_text (record { site = site.0; kind = kind.0; actor = actor.0; other = other.0; tag = tag.0; made = m.0 }) (ninth format kind.0 tag.0.role) =
    t0.0.is ∙ ap (λ l. decimal site.0 ++ l) (s1.is ∙ ap (λ l. 32 ∷ l) (t1.is ∙ ap (λ l. kind_word kind.0 ++ l) (s2.is ∙ ap (λ l. 32 ∷ l) (t2.0.is ∙ ap (λ l. name_text actor.0 ++ l)
    (s3.is ∙ ap (λ l. 32 ∷ l) (t3.0.is ∙ ap (λ l. optional_text other.0 ++ l) (s4.is ∙ ap (λ l. 32 ∷ l) (t4.0.is ∙ ap (λ l. tag_text tag.0 ++ l) (s5.is ∙ ap (λ l. 32 ∷ l) (t5.takes.is ∙ ap (λ l. made_text m.0 ++ l) last)))))))))) in
    rw here (text ∙ sym (as_read format _), record { site = t0.1; actor = t2.1; other = t3.1; node = t4.1; first = t5.first; second = t5.second })))))))))))))
