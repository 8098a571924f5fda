-- What is said of a style that is called clean, and of one that is said to end.
use Rattle.std.proofs.Common.{◌≡◌, ℕ, List, length, subst}
use Rattle.btx_bst.specs.language.Style.{Style}
use Rattle.btx_bst.specs.language.StyleText.{style_of}
use Rattle.btx_check.specs.Promise.{StyleIsClean}
use Rattle.btx_ends.specs.Ends.{StyleEnds}
use Rattle.btx_c.specs.Checks.{SaidClean, SaidEnding, TextEnds, TextIsClean, type_names}
use Rattle.btx_c.specs.Outcomes.{filled}

-- the text of a style that is clean is clean
pub text_is_clean : (style : Style) (file text allowed types : List ℕ) (bodies : ℕ) → style ≡ style_of file text → StyleIsClean style allowed bodies
    → types ≡ type_names style.names allowed → TextIsClean file text bodies types
text_is_clean style file text allowed types bodies is clean names =
    record {
      allowed = allowed;
      clean = subst (λ (s : Style). StyleIsClean s allowed bodies) is clean;
      types_are = subst (λ (s : Style). types ≡ type_names s.names allowed) is names;
    }

-- what was put into memory is said
pub said_clean_of : (file text types : List ℕ) (bodies types_len : ℕ) (memory : List ℕ × List ℕ) → TextIsClean file text bodies types → types_len ≡ length types
    → memory.1 ≡ filled memory.0 types → SaidClean file text bodies types_len memory
said_clean_of file text types bodies types_len memory clean len_is memory_is = record { types = types; clean = clean; len_is = len_is; memory_is = memory_is }

-- the text of a style that ends ends
pub text_ends : (style : Style) (file text allowed types : List ℕ) (kept once each : ℕ) → style ≡ style_of file text → StyleEnds style allowed kept once each
    → types ≡ type_names style.names allowed → TextEnds file text kept once each types
text_ends style file text allowed types kept once each is ends names =
    record {
      allowed = allowed;
      ends = subst (λ (s : Style). StyleEnds s allowed kept once each) is ends;
      types_are = subst (λ (s : Style). types ≡ type_names s.names allowed) is names;
    }

-- what was put into memory is said
pub said_ending_of : (file text types : List ℕ) (kept : ℕ) (bound : ℕ × ℕ) (types_len : ℕ) (memory : List ℕ × List ℕ) → TextEnds file text kept bound.0 bound.1 types
    → types_len ≡ length types → memory.1 ≡ filled memory.0 types → SaidEnding file text kept bound types_len memory
said_ending_of file text types kept bound types_len memory ends len_is memory_is =
    record { types = types; ends = ends; len_is = len_is; memory_is = memory_is }
