-- Lemmas on fields in their plainest form.
use Rattle.std.proofs.Common.{◌≡◌, ℕ, ◌<◌, Bool, true, false, eqb, List, ◌∷◌, length, take, drop, Ok, Some, refl, sym, ◌∙◌, ap}
use Rattle.std.proofs.lemmas.Bool.{eqb-true, true≢false}
use Rattle.btx_bib.specs.declared.grammar.byte_sets.ByteSet.TheVariants.{Gap, NameByte}
use Rattle.btx_bib.specs.declared.grammar.commands.Expected.{Expected}
use Rattle.btx_bib.specs.declared.grammar.plain_fields.PlainField.{PlainField}
use Rattle.btx_bib.specs.declared.grammar.byte_sets.Delimiter.{Delimiter}
use Rattle.btx_bib.specs.declared.grammar.byte_sets.Delimiter.TheVariants.{Braces, Parens}
use Rattle.btx_text.specs.language.Class.{begins_name}
use Rattle.btx_bib.specs.language.Grammar.ByteSets.{is_gap, past, longest_run, longest_run_len}
use Rattle.btx_bib.specs.language.Grammar.Tokens.{closing_delimiter, name_here, sign_in}
use Rattle.btx_bib.specs.language.Grammar.Fields.{after_comma, field_at, more_in}
use Rattle.btx_bib.specs.language.Grammar.Items.{next_step, expected_step}
use Rattle.btx_bib.specs.refinement.Grammar.PlainFields.{plain_step}
use Rattle.btx_bib.specs.language.Grammar.Values.{Part, value_at}
use Rattle.btx_bib.proofs.GrammarLemmas.LengthLemmas.{events-less}
use Rattle.btx_bib.specs.refinement.Grammar.Reads.{left}
use Rattle.btx_bib.specs.laws.Grammar.Fields.{more_at}
use Rattle.btx_bib.specs.refinement.Grammar.Items.{known_step}

-- a byte that begins a name is none that doesn't
no-name : (b k : ℕ) → begins_name k ≡ false → begins_name b ≡ true → eqb b k ≡ false
no-name b k other h = at (eqb b k) refl where
  at : (t : Bool) → eqb b k ≡ t → t ≡ false
  at true is = absurd (true≢false (sym h ∙ ap begins_name (eqb-true b k is) ∙ other))
  at false is = refl

name-gap : (b : ℕ) → begins_name b ≡ true → is_gap b ≡ false
name-gap b h = rw (no-name b 32 refl h, no-name b 9 refl h, no-name b 13 refl h, no-name b 10 refl h) refl

name-closes : (delimiter : Delimiter) (b : ℕ) → begins_name b ≡ true → eqb b (closing_delimiter delimiter) ≡ false
name-closes Braces b h = no-name b 125 refl h
name-closes Parens b h = no-name b 41 refl h

comma-closes : (delimiter : Delimiter) → eqb 44 (closing_delimiter delimiter) ≡ false
comma-closes Braces = refl
comma-closes Parens = refl

name-past : (b : ℕ) (bs : List ℕ) → begins_name b ≡ true → past Gap (b ∷ bs) ≡ b ∷ bs
unfolding longest_run_len
name-past b bs h = rw (name-gap b h) refl

-- a field whose name begins with this byte
module _ (b : ℕ) (bs behind_sign rest : List ℕ) (value : List Part) (begins : begins_name b ≡ true)
    (signed : past Gap (past NameByte (b ∷ bs)) ≡ 61 ∷ behind_sign)
    (valued : value_at behind_sign ≡ Ok (value, rest)) where
  plain-field : field_at (b ∷ bs) ≡ Ok (record { name = longest_run NameByte (b ∷ bs); value = value }, rest)
  unfolding field_at name_here sign_in
  plain-field = rw (name-past b bs begins, begins, signed, valued) refl

  -- it stands next after a comma
  pub plain-more : (delimiter : Delimiter) (text behind_comma : List ℕ) → past Gap text ≡ 44 ∷ behind_comma → past Gap behind_comma ≡ b ∷ bs →
      more_at delimiter text ≡ Ok (Some (record { name = longest_run NameByte (b ∷ bs); value = value }), rest)
  unfolding more_in after_comma
  plain-more delimiter text behind_comma comma next = rw (comma, comma-closes delimiter, next, name-closes delimiter b begins, plain-field) refl

-- the same, as the code finds its parts
pub plain-stands : (text behind_comma next name back behind_sign rest : List ℕ) (value : List Part) (b : ℕ) (bs : List ℕ) (count : ℕ)
    → past Gap text ≡ 44 ∷ behind_comma →
    next ≡ past Gap behind_comma → next ≡ b ∷ bs → begins_name b ≡ true → count ≡ longest_run_len NameByte next → name ≡ take count next
    → back ≡ drop count next →
    past Gap back ≡ 61 ∷ behind_sign → value_at behind_sign ≡ Ok (value, rest) → (delimiter : Delimiter) →
    more_at delimiter text ≡ Ok (Some (record { name = name; value = value }), rest)
plain-stands text behind_comma next name back behind_sign rest value b bs count comma is begun begins counted front behind signed valued delimiter =
    let named : name ≡ longest_run NameByte (b ∷ bs) = rw (front, counted, begun) refl in
    let left : back ≡ past NameByte (b ∷ bs) = rw (behind, counted, begun) refl in
    rw named (plain-more b bs behind_sign rest value begins (ap (past Gap) (sym left) ∙ signed) valued delimiter text behind_comma comma (sym is ∙ begun))

-- the reader reads it, whatever keys are stored
pub plain-next : (is_stored : List ℕ → Bool) (wanted : Expected) (text : List ℕ) (field : PlainField) → expected_step wanted text ≡ Some (plain_step wanted field)
    →
    next_step is_stored wanted text ≡ Some (plain_step wanted field)
plain-next is_stored wanted text field e = ap (known_step is_stored) e

-- and leaves less
pub plain-shorter : (is_stored : List ℕ → Bool) (wanted : Expected) (text : List ℕ) (field : PlainField) → expected_step wanted text
    ≡ Some (plain_step wanted field) →
    left wanted (length field.value.rest.now) < left wanted (length text)
plain-shorter is_stored wanted text field e = events-less is_stored wanted text (plain_step wanted field) (plain-next is_stored wanted text field e)
