-- Worked rows, computed from the definitions.
use Rattle.std.proofs.Common.{◌≡◌, ◌<◌, ◌⊎◌, ℕ, List, inl, inr, true, false, arith, refl}
use Rattle.std.proofs.lemmas.Bool.{true≢false}
use Rattle.std.specs.Fmt.{digits}
use Rattle.std.specs.Prelude.{codes}
use Rattle.btx_bib.specs.declared.grammar.slip.SyntaxError.TheVariants.{EndOfFile}
use Rattle.btx_text.specs.language.Lines.{line_pieces}
use Rattle.btx_text.specs.language.LogLines.{mark_of, place_text}
use Rattle.btx_bib.specs.language.Grammar.ByteSets.{longest_run_len, enclosed_len}
use Rattle.btx_bib.specs.language.Grammar.Tokens.{name_here, open_in, sign_in, key_here}
use Rattle.btx_bib.specs.language.Grammar.Values.{part_in, value_within, value_at}
use Rattle.btx_bib.specs.language.Grammar.Fields.{field_at, after_comma, more_in}
use Rattle.btx_bib.specs.language.Grammar.Items.{Comment, ItemEnd, Wrong, command_of, head_of, head_at, behind_at, expected_step, events_within, events_from}
use Rattle.btx_bib.specs.language.Grammar.ValueTexts.{squeezed}
use Rattle.btx_bib.specs.language.Grammar.PlaceLines.{lines_begun}
use Rattle.btx_bib.specs.laws.Grammar.WorkedTexts.{texts, value_texts, AreEvents, AreValueTexts}
use Rattle.btx_bib.specs.language.Entries.{body_of}
use Rattle.btx_bib.specs.language.Listing.{slot_of}
use Rattle.btx_bib.specs.language.Passes.{inherited, checked, check_messages, entries_of, reference_messages}
use Rattle.btx_bib.specs.language.Databases.{library_of}
use Rattle.btx_bib.specs.laws.Cuts.{EndsName}
use Rattle.btx_bib.specs.language.MessageTexts.{slip_text, message_text}
use Rattle.btx_bib.specs.laws.WorkedLibraries.{entries, reference_rows, cuts, no_cuts, messages, AreGiven, AreCuts, AreNoCuts, AreLines}

pub texts-worked : AreEvents texts
unfolding events_from events_within expected_step behind_at head_at head_of command_of more_in after_comma field_at value_at value_within part_in name_here
    open_in sign_in key_here longest_run_len enclosed_len
texts-worked = (
  refl,
  (
    refl,
    (
      refl,
      (
        refl,
        (
          refl,
          (
            refl,
            (
              refl,
              (
                refl,
                (
                  refl,
                  (
                    refl,
                    (
                      refl,
                      (
                        refl,
                        (refl, (refl, (refl, (refl, (refl, (refl, (refl, (refl, (refl, (refl, (refl, (refl, (refl, (refl, tt)))))))))))))),
                      ),
                    ),
                  ),
                ),
              ),
            ),
          ),
        ),
      ),
    ),
  ),
)

pub values-worked : AreValueTexts value_texts
unfolding squeezed
values-worked = (refl, (refl, (refl, (refl, (refl, (refl, tt))))))

pub entries-worked : AreGiven entries
unfolding library_of entries_of reference_messages slot_of inherited checked check_messages body_of events_from events_within expected_step behind_at head_at
    head_of command_of more_in after_comma field_at value_at value_within part_in name_here open_in sign_in key_here longest_run_len enclosed_len squeezed
    lines_begun line_pieces
entries-worked = (refl, (refl, (refl, (refl, (refl, (refl, (refl, (refl, (refl, (refl, (refl, (refl, (refl, (refl, tt))))))))))))))

pub references-worked : AreGiven reference_rows
unfolding library_of entries_of reference_messages slot_of inherited checked check_messages body_of events_from events_within expected_step behind_at head_at
    head_of command_of more_in after_comma field_at value_at value_within part_in name_here open_in sign_in key_here longest_run_len enclosed_len squeezed
    lines_begun line_pieces
references-worked = (refl, (refl, (refl, (refl, (refl, (refl, (refl, (refl, (refl, (refl, (refl, (refl, tt))))))))))))

pub cuts-worked : AreCuts cuts
unfolding events_from events_within expected_step behind_at head_at head_of command_of more_in after_comma field_at value_at value_within part_in name_here
    open_in sign_in key_here longest_run_len enclosed_len squeezed
cuts-worked = ((refl, inl refl), ((refl, tt), ((refl, inr (inl (omega arith))), ((refl, inr (inr (refl, refl))), ((refl, inr (inr (refl, refl))), tt)))))

-- what was read last is open: at the end of the text a fault, or a comment whose name goes on
fault-open : (text : List ℕ) → (Wrong EndOfFile ≡ ItemEnd) ⊎ ((0 < 0) ⊎ ((Wrong EndOfFile ≡ Comment) × EndsName text)) → ⊥
fault-open text (inl e) = cc
fault-open text (inr (inl less)) = omega (arith, less)
fault-open text (inr (inr (e, ends))) = cc

comment-open : (Comment ≡ ItemEnd) ⊎ ((0 < 0) ⊎ ((Comment ≡ Comment) × (true ≡ false))) → ⊥
comment-open (inl e) = cc
comment-open (inr (inl less)) = omega (arith, less)
comment-open (inr (inr (e, goes_on))) = true≢false goes_on

pub no-cuts-worked : AreNoCuts no_cuts
unfolding events_from events_within expected_step behind_at head_at head_of command_of more_in after_comma field_at value_at value_within part_in name_here
    open_in sign_in key_here longest_run_len enclosed_len squeezed
no-cuts-worked =
    ((λ row. fault-open (codes "}") row.1), ((λ row. fault-open (codes "sc{k}") row.1), ((λ row. comment-open row.1), ((λ row. comment-open row.1), tt))))

pub messages-worked : AreLines messages
unfolding digits mark_of place_text slip_text message_text
messages-worked = (
  refl,
  (
    refl,
    (
      refl,
      (refl, (refl, (refl, (refl, (refl, (refl, (refl, (refl, (refl, (refl, (refl, (refl, (refl, (refl, (refl, tt))))))))))))))),
    ),
  ),
)

pub ruleset worked_rows = (texts-worked, values-worked, entries-worked, references-worked, cuts-worked, no-cuts-worked, messages-worked)
