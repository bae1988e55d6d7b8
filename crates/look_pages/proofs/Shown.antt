-- A page is formed, since its pictures are.
use Rattle.std.proofs.Common.{◌≡◌, ℕ, List, subst, sym, ap}
use Rattle.markup_text.specs.Formed.{IsFormed, MarkupIsFormed}
use Rattle.run_pictures.specs.declared.step.Step.{Step}
use Rattle.picture_svg.specs.declared.style.TheConstants.{STYLE as PICTURES}
use Rattle.picture_svg.specs.Pictures.{IsPicture}
use Rattle.picture_svg.specs.Svg.{svg}
use Rattle.source_words.specs.declared.word.Line.{Line}
use Rattle.source_words.specs.Words.{source_of}
use Rattle.page_html.specs.declared.page.Page.{Page}
use Rattle.page_html.specs.declared.script.TheConstants.{SCRIPT}
use Rattle.page_html.specs.declared.style.TheConstants.{STYLE}
use Rattle.page_html.specs.Heads.{policy}
use Rattle.page_html.specs.Pages.{IsFormedPage, PagesAreFormed, page_text}
use Rattle.look_pages.specs.declared.drafts.TheConstants.{MOST_DRAWN_HIGH, MOST_DRAWN_LOW}
use Rattle.look_pages.specs.ShownPages.{IsPageOfSteps, ShowsSteps}

picture-formed : MarkupIsFormed → (steps : List Step) (text : List ℕ) → IsPicture steps text → IsFormed text
picture-formed law steps text picture = subst IsFormed (sym picture.written) (IsFormed.beside (law (svg 0 picture.style picture.drawing)) IsFormed.feed)

pub page-shows : MarkupIsFormed → PagesAreFormed → (lines : List Line) (high low : List Step) (page : Page) (text : List ℕ) → page.lines ≡ lines
    → ShowsSteps MOST_DRAWN_HIGH high page.high → ShowsSteps MOST_DRAWN_LOW low page.low → text ≡ page_text page STYLE.now PICTURES.now SCRIPT.now
    → IsPageOfSteps (source_of lines) high low text
page-shows markup pages lines high low page text same above below written = record {
  page = page;
  lines = ap source_of same;
  above = above;
  below = below;
  written = written;
  formed = subst IsFormedPage (sym written)
      (pages page (policy STYLE.now PICTURES.now SCRIPT.now) STYLE.now SCRIPT.now (picture-formed markup _ _ above.picture) (picture-formed markup _ _ below.picture));
}
