-- What clauses see of the list of a name's tokens in the code.
use Rattle.std.specs.Prelude.{◌≡◌, ◌++◌, ℕ, List, length, take, if◌then◌else◌}
use Rattle.btx_names.specs.language.Tokens.{NameToken, tokens_of}
use Rattle.btx_names.specs.language.NameParts.{Sections, von_end, last_start}
use Rattle.btx_names.specs.laws.NameParts.{surname_of}
use Rattle.btx_names.specs.refinement.SectionViews.{has_commas, jr_of, first_section}
use Rattle.btx_names.specs.refinement.NameTokens.{tokens_in}
use Rattle.btx_names.specs.declared.name_ranges.Ranges.{Ranges}
use Rattle.btx_names.specs.declared.token_list.TokenList.{TokenList}
use Rattle.btx_names.specs.refinement.NameParts.{von_start}

-- a list has the tokens of a name's sections, one after another, by the bytes of the list of names; how many the first two have; and whether
-- commas part the name
pub record IsListOf (bytes : List ℕ) (list : TokenList) (sections : Sections) : Type 0 where
  pub tokens : tokens_in bytes list.tokens.items ≡ tokens_of (surname_of sections) ++ (tokens_of (jr_of sections) ++ tokens_of (first_section sections))
  pub commas : list.has_commas ≡ has_commas sections
  pub surname : list.surname ≡ length (tokens_of (surname_of sections))
  pub jr : list.jr ≡ length (tokens_of (jr_of sections))

-- the tokens of the first section in a list
abbrev pub surname_in : List ℕ → TokenList → List NameToken
surname_in bytes list = take list.surname (tokens_in bytes list.tokens.items)

-- where von and Last begin in the first section of a list: with commas von begins it, and Last comes after von
pub record AreRangesOf (bytes : List ℕ) (list : TokenList) (ranges : Ranges) : Type 0 where
  pub von_start : ranges.von_start ≡ (if list.has_commas then 0 else von_start (surname_in bytes list))
  pub last_start : ranges.last_start ≡ (if list.has_commas then von_end (surname_in bytes list) else last_start (surname_in bytes list))
