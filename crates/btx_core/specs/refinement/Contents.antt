-- What the style that was found holds.
use Rattle.btx_bst.specs.language.Style.{Style}
use Rattle.btx_bst.specs.language.StyleText.{style_of}
use Rattle.btx_core.specs.declared.found.JobFiles.{JobFiles}

-- the style whose file was found
abbrev pub style_in : JobFiles → Style
style_in found = style_of found.style.name found.style.bytes
