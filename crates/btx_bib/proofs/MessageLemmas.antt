-- Lemmas on what is logged of a value.
use Rattle.std.proofs.Common.{◌≡◌, ◌∙◌, ℕ, true, false, List, [], ◌∷◌, Option, Some, None, is_some, refl, ap}
use Rattle.std.specs.Prelude.{is_none}
use Rattle.std.proofs.lemmas.List.{append-nil}
use Rattle.btx_bib.specs.declared.gathering.Pending.{Pending}
use Rattle.btx_bib.specs.language.Grammar.Fields.{Field}
use Rattle.btx_bib.specs.refinement.Grammar.PlainFields.{HasString}
use Rattle.btx_bib.specs.language.Grammar.Values.{Part, Braced, Quoted, Digits, Named}
use Rattle.btx_bib.specs.refinement.Gatherings.{messages_of_number}
use Rattle.btx_bib.specs.language.Values.{field_value}
use Rattle.btx_bib.specs.language.Messages.{Database, name_messages, value_messages}
use Rattle.btx_bib.specs.language.Strings.{string_value}
use Rattle.btx_bib.specs.refinement.Strings.{Strings}

-- what is logged of a value of one part
pub names-one : (database : Database) (strings : Strings) (own : Option (List ℕ)) (part : Part) → value_messages database strings own (part ∷ [])
    ≡ name_messages database strings own part
names-one database strings own part = append-nil (name_messages database strings own part)

pub ruleset one_name = (names-one)

-- ---- a field in its plainest form

some-none : (o : Option (List ℕ)) → is_some o ≡ true → is_none o ≡ false
some-none (Some text) h = refl
some-none None h = cc

-- no message comes of its value, if a name in it stands for a string
plain-names : (database : Database) (strings : Strings) (part : Part) → HasString (string_value strings) part → value_messages database strings None (part ∷ [])
    ≡ []
plain-names database strings (Braced text) h = refl
plain-names database strings (Quoted text) h = refl
plain-names database strings (Digits text) h = refl
plain-names database strings (Named string) h = rw (some-none (string_value strings string.name) h) refl

-- none comes of a field that isn't declared
pub silent-none : (database : Database) (strings : Strings) (pending : Pending) (field : Field) (rest : List ℕ) (number : Option ℕ) → number ≡ None →
    messages_of_number database strings pending field rest number ≡ []
silent-none database strings pending field rest number is = ap (messages_of_number database strings pending field rest) is

-- none comes of one that has no value yet
pub silent-some : (database : Database) (strings : Strings) (pending : Pending) (field : Field) (rest : List ℕ) (number : Option ℕ) (place : ℕ) (part : Part)
    → number ≡ Some place →
    is_some (field_value place pending.body.values) ≡ false → field.value ≡ part ∷ [] → HasString (string_value strings) part
    → messages_of_number database strings pending field rest number ≡ []
silent-some database strings pending field rest number place part is lacks one known =
    ap (messages_of_number database strings pending field rest) is ∙ rw (lacks, one) (plain-names database strings part known)
