-- The head of a page (docs/PICTURES.md, "Pages").
use Rattle.std.specs.Prelude.{ℕ, List, [], ◌∷◌, ◌++◌, codes}
use Rattle.sha2.specs.Sha256.{sha256}
use Rattle.base64.specs.Engines.{standard}
use Rattle.base64.specs.GeneralPurpose.{encode_of}
use Rattle.markup_text.specs.declared.words.Tag.TheVariants as tags
use Rattle.markup_text.specs.declared.words.AttributeName.{AttributeName}
use Rattle.markup_text.specs.declared.words.AttributeName.TheVariants as names
use Rattle.markup_text.specs.Attributes.{words}
use Rattle.markup_text.specs.Markup.{closing, single_text}
use Rattle.page_html.specs.Parts.{bare, plain}

-- the SHA-256 digest of bytes, in base 64
abbrev pub digest : List ℕ → List ℕ
digest bytes = encode_of standard (sha256 bytes)

-- Nothing is loaded and nothing is sent. A style is applied, and a script is run, only where it has one of these digests.
abbrev pub policy : List ℕ → List ℕ → List ℕ → List ℕ
policy style pictures script =
    codes "default-src 'none'; style-src 'sha256-" ++ digest style ++ codes "' 'sha256-" ++ digest pictures
    ++ codes "'; script-src 'sha256-" ++ digest script ++ codes "'; base-uri 'none'; form-action 'none'"

abbrev pub meta : AttributeName → List ℕ → List ℕ → List ℕ
meta attribute name content = single_text tags.Meta (words attribute name ∷ words names.Content content ∷ [])

abbrev pub metas : List ℕ → List ℕ
metas policy =
    meta names.HttpEquiv (codes "Content-Security-Policy") policy
    ++ meta names.Name (codes "viewport") (codes "width=device-width,initial-scale=1")
    ++ meta names.Name (codes "color-scheme") (codes "light dark")

abbrev pub head_text : List ℕ → List ℕ → List ℕ → List ℕ
head_text title policy style =
    bare tags.Head ++ (metas policy ++ plain tags.Title title ++ plain tags.Style style) ++ closing tags.Head
