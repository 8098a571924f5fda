-- One event of a database gives one record.
use Rattle.std.proofs.Common.{◌≡◌, ◌≤◌, ℕ, Bool, true, false, List, [], ◌∷◌, length, None, Some, if◌then◌else◌, nat_lt, arith, refl, sym, ap, ◌∙◌}
use Rattle.std.proofs.lemmas.Bool.Decides.{nat_tests}
use Rattle.btx_text.specs.language.Limits.{greatest_string}
use Rattle.btx_bib.specs.declared.grammar.commands.Expected.{Expected}
use Rattle.btx_bib.specs.declared.grammar.commands.Expected.TheVariants.{Item}
use Rattle.btx_bib.specs.declared.grammar.plain_fields.PlainField.{PlainField}
use Rattle.btx_bib.specs.declared.grammar.value_ends.Ends.TheVariants.{Trimmed}
use Rattle.btx_bib.specs.language.Grammar.Items.{FieldOf, Step, next_step, events_from}
use Rattle.btx_bib.specs.language.Grammar.ValueTexts.{squeezed, value_text}
use Rattle.btx_bib.specs.language.Strings.{string_value}
use Rattle.btx_bib.specs.refinement.Grammar.PlainFields.{part_in_view, plain_field_view}
use Rattle.btx_bib.specs.refinement.Grammar.Squeezing.{is_squeezed}
use Rattle.btx_bib.proofs.GrammarLemmas.LengthLemmas.{events-none, events-some}
use Rattle.btx_bib.proofs.GrammarLemmas.SqueezeLemmas.{squeezed-squeezed}
use Rattle.btx_read.specs.declared.content.Content.{Content}
use Rattle.btx_read.specs.declared.content.Content.TheVariants.{Field}
use Rattle.btx_read.specs.Records.{content_of, fitting, left_at, no_key, nothing_kept, records_along, record_at, record_of, records_of, strings_after}
use Rattle.btx_read.specs.Readings.{records_left}

-- ---- a text that fits

short : (text : List ℕ) → length text ≤ greatest_string → nat_lt greatest_string (length text) ≡ false
short text fits = by_test (nat_lt greatest_string (length text)) refl where
  by_test : (b : Bool) → nat_lt greatest_string (length text) ≡ b → b ≡ false
  by_test false h = refl
  by_test true h = absurd (grind (arith, nat_tests))

fitting-is : (text given : List ℕ) → Some given ≡ fitting text → given ≡ text
fitting-is text given e = at (nat_lt greatest_string (length text)) e where
  at : (long : Bool) → Some given ≡ (if long then None else Some text) → given ≡ text
  at true e = cc
  at false e = cc

pub fitting-squeezed : (text given : List ℕ) → Some given ≡ fitting (squeezed text) → is_squeezed false given ≡ true
fitting-squeezed text given e = ap (is_squeezed false) (fitting-is (squeezed text) given e) ∙ squeezed-squeezed text

-- what a record says of a field in its plainest form, whose text fits
pub plain-says : (strings : List (List ℕ × List ℕ)) (field : PlainField) (name given : List ℕ) → name ≡ field.name.now
    → given ≡ value_text Trimmed (string_value strings) (part_in_view field.value ∷ []) → length given ≤ greatest_string
    → Field name (Some given) ≡ content_of strings (FieldOf (plain_field_view field))
plain-says strings field name given named is fits = rw (named, sym is, short given fits) refl

-- ---- the next record

module _ (text : List ℕ) (strings : List (List ℕ × List ℕ)) (w : Expected) (s : List ℕ) where
  pub none-left : next_step no_key w s ≡ None → records_along text strings s (events_from nothing_kept tt w s) ≡ []
  none-left e = ap (records_along text strings s) (events-none nothing_kept tt w s e)

  one-left : (step : Step) → next_step no_key w s ≡ Some step → records_along text strings s (events_from nothing_kept tt w s)
      ≡ record_of text strings s (record { event = step.event; rest = step.rest })
      ∷ records_along text (strings_after strings step.event) step.rest (events_from nothing_kept tt step.wanted step.rest)
  one-left step e = ap (records_along text strings s) (events-some nothing_kept tt w s step e)

  -- the record of a step, where its content and what is known after it are given
  pub one-read : (step : Step) (says : Content) (after : List (List ℕ × List ℕ)) → next_step no_key w s ≡ Some step
      → says ≡ content_of strings step.event → after ≡ strings_after strings step.event
      → records_along text strings s (events_from nothing_kept tt w s)
      ≡ record_at text says (left_at step.event s (length step.rest)) step.rest
      ∷ records_along text after step.rest (events_from nothing_kept tt step.wanted step.rest)
  one-read step says after e says_is after_is = one-left step e ∙ rw (says_is, after_is) refl

-- ---- all records

pub whole-left : (strings : List (List ℕ × List ℕ)) (text : List ℕ) →
    records_left (record { text = text; strings = strings; wanted = Item; rest = text }) ≡ records_of strings text
unfolding records_of
whole-left strings text = refl
