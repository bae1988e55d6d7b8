-- The index of the names in scope, where a name is put in scope and taken out again.
use Rattle.std.proofs.Common.{◌≡◌, ℕ, Bool, true, false, cond, Option, None, Some, List, [], ◌∷◌, ◌++◌, reverse, map, refl, sym, ap, subst, ◌∙◌}
use Rattle.std.proofs.lemmas.List.{reverse-append}
use Rattle.std.proofs.lemmas.Slice.Eq.{bytes_eq-Decides}
use Rattle.std.specs.Str.{bytes_eq}
use Rattle.np_scope.specs.declared.scope.Meaning.{Meaning}
use Rattle.np_scope.specs.declared.scope.Entry.{Entry}
use Rattle.np_scope.specs.Naming.{Named, meaning_of}
use Rattle.np_scope.specs.Kept.{named, names_of, Hides, Kept}

abbrev Index : Type 0
Index = List ℕ → Option Meaning

turned : (entries : List Entry) (entry : Entry) → reverse (entries ++ entry ∷ []) ≡ entry ∷ reverse entries
turned entries entry = reverse-append entries (entry ∷ [])

pub entered : (index new : Index) (entries : List Entry) (entry : Entry) → Kept index entries → entry.hidden ≡ index entry.name.now
    → ((name : List ℕ) → new name ≡ cond (bytes_eq entry.name.now name) (Some entry.meaning) (index name)) → Kept new (entries ++ entry ∷ [])
entered index new entries entry kept hidden updates = record {
  finds = λ name. updates name ∙ ap (cond (bytes_eq entry.name.now name) (Some entry.meaning)) (kept.finds name)
      ∙ ap (λ es. meaning_of (map named es) name) (sym (turned entries entry));
  hides = subst Hides (sym (turned entries entry)) (hidden ∙ kept.finds entry.name.now, kept.hides);
}

-- where the name is the entry's, it stands for what is hidden, and else for what it stood for
back : (outer : List Named) (of name : List ℕ) (hidden inner new : Option Meaning) (test : Bool) → bytes_eq of name ≡ test → hidden ≡ meaning_of outer of
    → new ≡ cond test hidden (cond test inner (meaning_of outer name)) → new ≡ meaning_of outer name
back outer of name hidden inner new true same h is = is ∙ h ∙ ap (meaning_of outer) ((bytes_eq-Decides of name).0 same)
back outer of name hidden inner new false same h is = is

pub left : (index new : Index) (all rest : List Entry) (entry : Entry) (hidden : Option Meaning) → Kept index all → all ≡ rest ++ entry ∷ [] → entry.hidden ≡ hidden
    → ((name : List ℕ) → new name ≡ cond (bytes_eq entry.name.now name) hidden (index name)) → Kept new rest
left index new all rest entry hidden kept is h updates =
    let turn : reverse all ≡ entry ∷ reverse rest = ap reverse is ∙ turned rest entry in
    let hides : Hides (entry ∷ reverse rest) = subst Hides turn kept.hides in
    record {
      finds = λ name. back (names_of rest) entry.name.now name hidden (Some entry.meaning) (new name) (bytes_eq entry.name.now name) refl (sym h ∙ hides.0)
          (updates name ∙ ap (cond (bytes_eq entry.name.now name) hidden) (kept.finds name ∙ ap (λ es. meaning_of (map named es) name) turn));
      hides = hides.1;
    }

-- the innermost name is in the index
pub there : (index : Index) (all rest : List Entry) (entry : Entry) → Kept index all → all ≡ rest ++ entry ∷ [] → index entry.name.now ≡ None → ⊥
there index all rest entry kept is none =
    let turn : reverse all ≡ entry ∷ reverse rest = ap reverse is ∙ turned rest entry in
    let found : index entry.name.now ≡ meaning_of (map named (entry ∷ reverse rest)) entry.name.now = kept.finds entry.name.now ∙ ap (λ es. meaning_of (map named es) entry.name.now) turn in
    let own : bytes_eq entry.name.now entry.name.now ≡ true = (bytes_eq-Decides entry.name.now entry.name.now).1 refl in
    let some : meaning_of (map named (entry ∷ reverse rest)) entry.name.now ≡ Some entry.meaning = ap (λ t. cond t (Some entry.meaning) (meaning_of (names_of rest) entry.name.now)) own in
    let clash : None ≡ Some entry.meaning = sym none ∙ found ∙ some in
    cc clash
