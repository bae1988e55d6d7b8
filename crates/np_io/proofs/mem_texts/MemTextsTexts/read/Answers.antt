use Rattle.std.proofs.Common.{◌≡◌, ◌∙◌, ap, get_or, sym}
use Rattle.std.proofs.lemmas.List.{take_rest}
use Rattle.std.proofs.lemmas.Option.{get_or_from_slice_get}
use Rattle.np_io.specs.declared.named_text.NamedText.{NamedText}
use Rattle.np_io.proofs.Places.{read_part}
use Rattle.np_io.proofs.mem_texts.MemTextsTexts.read.Goals as goal

pub returns-clause-bytes : goal.returns-clause-bytes
returns-clause-bytes c =
    let st = c.self.invariant.stands _ c.in-Some.is in
    let e : NamedText = c.index-as_slice-place.result in
    let at_place : e ≡ get_or c.self.inside.texts c.in-Some.place e = rw (← c.as_slice.ensures) c.index-as_slice-place.is in
    let same : e ≡ st.0 = at_place ∙ get_or_from_slice_get c.self.inside.texts c.in-Some.place st.0 e st.1.here in
    let text : c.as_slice-text.result.now ≡ st.0.bytes = c.as_slice-text.ensures ∙ ap (λ (x : NamedText). x.bytes) (sym c.index-as_slice-place.is ∙ same) in
    let count = rw (take_rest, text) at c.copy_front-count.ensures.count in
    let front = rw (take_rest, text) at c.copy_front-count.ensures.front in
    rw (← c.self.view_is, c.in-Some.is) (read_part _ _ _ _ st.0 _ st.1 count front)
