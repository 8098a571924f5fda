-- What is kept before the first database and after the last one, and the library of it.
use Rattle.std.proofs.Common.{◌≡◌, ℕ, zero, suc, Bool, true, false, if◌then◌else◌, List, [], ◌∷◌, ◌++◌, drop, fold, length, None, Some, refl, sym, ap, subst}
use Rattle.std.proofs.Common.{◌∙◌}
use Rattle.std.specs.Prelude.{nat_lt, slice_get}
use Rattle.btx_text.specs.language.Limits.{greatest_string}
use Rattle.btx_bib.specs.declared.draft.ListBuilder.{ListBuilder}
use Rattle.btx_bib.specs.declared.end.End.{End}
use Rattle.btx_bib.specs.declared.end.End.TheVariants as end
use Rattle.btx_bib.specs.declared.gathering.Gathering.{Gathering}
use Rattle.btx_bib.specs.declared.message.Message.{Message}
use Rattle.btx_bib.specs.language.Databases.{library_by, library_of, with_macro}
use Rattle.btx_bib.specs.refinement.Drafts.{settled_all}
use Rattle.btx_bib.specs.language.Grammar.ValueTexts.{squeezed}
use Rattle.btx_bib.specs.language.Known.{Known, goes_on}
use Rattle.btx_bib.specs.language.Listing.{Slot, list_keys}
use Rattle.btx_bib.specs.language.Passes.{entries_of, reference_messages}
use Rattle.btx_bib.specs.language.Strings.{defined}
use Rattle.btx_bib.specs.language.Messages.{Database, Reading}
use Rattle.btx_bib.specs.language.Request.{Request}
use Rattle.btx_bib.specs.refinement.Readings.{IsListed, nothing_gathered, kept_by_all, kept_macro, kept_macros, library_kept, listed_draft, messages_of_all}
use Rattle.btx_bib.proofs.AlongLemmas.{all-kept, all-sound, all-logged}
use Rattle.btx_bib.proofs.ApartLemmas.{known_all, reading-apart}
use Rattle.btx_bib.proofs.KeptLemmas.{Sound, kept_of}
use Rattle.btx_bib.proofs.StoringLemmas.{covered-none, first-draft, last-draft, names-listing, slots-listing}
use Rattle.btx_bib.specs.laws.Databases.{nothing, with_macros}

-- the macro at an index, and the others

drop-at : (macros : List (List ℕ × List ℕ)) (i : ℕ) (macro : List ℕ × List ℕ) → slice_get macros i ≡ Some macro → drop i macros ≡ macro ∷ drop (suc i) macros
drop-at [] i macro e = cc
drop-at (m ∷ ms) zero macro e = let same : m ≡ macro = cc in ap (λ (x : List ℕ × List ℕ). x ∷ ms) same
drop-at (m ∷ ms) (suc i) macro e = drop-at ms i macro e

drop-none : (macros : List (List ℕ × List ℕ)) (i : ℕ) → slice_get macros i ≡ None → drop i macros ≡ drop (suc i) macros
drop-none [] zero e = refl
drop-none [] (suc i) e = refl
drop-none (m ∷ ms) zero e = cc
drop-none (m ∷ ms) (suc i) e = drop-none ms i e

pub macro-next : (macros : List (List ℕ × List ℕ)) (i next : ℕ) (macro : List ℕ × List ℕ) (before after : Gathering) → next ≡ suc i
    → slice_get macros i ≡ Some macro → after ≡ kept_macro before macro → kept_macros after (drop next macros) ≡ kept_macros before (drop i macros)
macro-next macros i next macro before after is at e =
    ap (λ (n : ℕ). kept_macros after (drop n macros)) is
    ∙ ap (λ (k : Gathering). kept_macros k (drop (suc i) macros)) e
    ∙ ap (kept_macros before) (sym (drop-at macros i macro at))

pub macro-none : (macros : List (List ℕ × List ℕ)) (i next : ℕ) (before : Gathering) → next ≡ suc i → slice_get macros i ≡ None
    → kept_macros before (drop next macros) ≡ kept_macros before (drop i macros)
macro-none macros i next before is at = ap (λ (n : ℕ). kept_macros before (drop n macros)) is ∙ ap (kept_macros before) (sym (drop-none macros i at))

module _ (wanted : Request) where
  start-kept : nothing_gathered wanted ≡ kept_of wanted nothing
  start-kept = ap (λ (d : ListBuilder). record { draft = d; strings = []; current = None; preamble = []; ending = end.Whole }) (first-draft wanted)

  macro-kept : (known : Known) (macro : List ℕ × List ℕ) → kept_macro (kept_of wanted known) macro ≡ kept_of wanted (with_macro known macro)
  macro-kept known macro = at (goes_on known.ending) (nat_lt greatest_string (length (squeezed macro.1))) where
    at : (b long : Bool) → (if b then (if long then record (kept_of wanted known) { ending = end.StringLimit } else record (kept_of wanted known) {
      strings =
          defined known.strings macro.0 (squeezed macro.1);
    }) else kept_of wanted known)
        ≡ kept_of wanted (if b then (if long then record known { ending = end.StringLimit } else record
        known { strings = defined known.strings macro.0 (squeezed macro.1) }) else known)
    at false long = refl
    at true true = refl
    at true false = refl

  macro-sound : (known : Known) (macro : List ℕ × List ℕ) → Sound wanted known → Sound wanted (with_macro known macro)
  macro-sound known macro sound = at (goes_on known.ending) (nat_lt greatest_string (length (squeezed macro.1))) where
    at : (b long : Bool) → Sound wanted
        (if b then (if long then record known { ending = end.StringLimit } else record known { strings = defined known.strings macro.0 (squeezed macro.1) })
        else known)
    at false long = sound
    at true true = sound
    at true false = sound

  macros-kept : (macros : List (List ℕ × List ℕ)) (known : Known) → kept_macros (kept_of wanted known) macros ≡ kept_of wanted (fold with_macro known macros)
  macros-kept [] known = refl
  macros-kept (m ∷ ms) known = ap (λ (k : Gathering). kept_macros k ms) (macro-kept known m) ∙ macros-kept ms (with_macro known m)

  macros-sound : (macros : List (List ℕ × List ℕ)) (known : Known) → Sound wanted known → Sound wanted (fold with_macro known macros)
  macros-sound [] known sound = sound
  macros-sound (m ∷ ms) known sound = macros-sound ms (with_macro known m) (macro-sound known m sound)

  -- ---- the library

  library-same : (known : Known) (messages : List Message) → Sound wanted known → (ending : End) → library_kept ending wanted (kept_of wanted known) messages
      ≡ library_by ending wanted known messages
  library-same known messages sound end.Whole =
      ap (λ (slots : List Slot). record {
        entries = entries_of slots;
        preamble = known.preamble;
        messages = messages ++ reference_messages slots;
        ending =
            end.Whole;
      })
      (ap (λ (d : ListBuilder). settled_all d.slots) (last-draft wanted known.stored sound.0) ∙ slots-listing wanted known.stored)
  library-same known messages sound end.FileLimit = refl
  library-same known messages sound end.StringLimit = refl

  module _ (macros : List (List ℕ × List ℕ)) (databases : List Database) (kept : Gathering)
      (is : kept ≡ kept_by_all wanted (kept_macros (nothing_gathered wanted) macros) databases) where
    abbrev known : Known
    known = known_all wanted (with_macros macros) databases

    before : kept_macros (nothing_gathered wanted) macros ≡ kept_of wanted (with_macros macros)
    before = ap (λ (k : Gathering). kept_macros k macros) start-kept ∙ macros-kept macros nothing

    sound-before : Sound wanted (with_macros macros)
    sound-before = macros-sound macros nothing (covered-none wanted, tt)

    sound : Sound wanted known
    sound = all-sound wanted databases (with_macros macros) sound-before

    kept-known : kept ≡ kept_of wanted known
    kept-known = is ∙ ap (λ (k : Gathering). kept_by_all wanted k databases) before ∙ all-kept wanted databases (with_macros macros) sound-before

    -- the names that are kept are those of the places
    pub is-listed : IsListed (listed_draft wanted kept.draft)
    is-listed =
        subst (λ (k : Gathering). IsListed (listed_draft wanted k.draft)) (sym kept-known)
        (subst IsListed (sym (last-draft wanted known.stored sound.0)) (names-listing wanted known.stored (list_keys wanted known.stored)))

    pub library-is : (messages : List Message) → messages ≡ messages_of_all wanted (kept_macros (nothing_gathered wanted) macros) databases
        → library_kept kept.ending wanted kept messages ≡ library_of wanted macros databases
    unfolding library_of
    library-is messages logs =
        ap (λ (k : Gathering). library_kept k.ending wanted k messages) kept-known
        ∙ library-same known messages sound known.ending
        ∙ ap (library_by known.ending wanted known) (logs ∙ ap (λ (k : Gathering). messages_of_all wanted k databases) before
        ∙ all-logged wanted databases (with_macros macros) sound-before)
        ∙ ap (λ (reading : Reading). library_by reading.known.ending wanted reading.known reading.messages) (sym (reading-apart wanted macros databases))
