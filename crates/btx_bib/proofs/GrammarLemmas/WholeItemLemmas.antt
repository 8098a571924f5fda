-- After each `@` exactly one item is spelled, or one thing is wrong.
use Rattle.std.proofs.Common.{◌≡◌, ℕ, zero, suc, ◌<◌, List, [], ◌∷◌, ◌++◌, length, refl, sym, ◌∙◌, subst, arith, inl, Ok, Err, Some, None, Option}
use Rattle.btx_bib.specs.declared.grammar.byte_sets.Delimiter.{Delimiter}
use Rattle.btx_bib.specs.declared.grammar.byte_sets.ByteSet.TheVariants.{Gap}
use Rattle.btx_bib.specs.declared.grammar.commands.DatabaseCommand.{DatabaseCommand}
use Rattle.btx_bib.specs.declared.grammar.commands.DatabaseCommand.TheVariants as command
use Rattle.btx_bib.specs.declared.grammar.slip.SyntaxError.TheVariants.{NoEquals, NoClosing}
use Rattle.btx_bib.specs.language.Grammar.ByteSets.{past}
use Rattle.btx_bib.specs.language.Grammar.Tokens.{Parsed, followed_by, name_at, open_at, sign_at, key_at, closing_delimiter}
use Rattle.btx_bib.specs.language.Grammar.Values.{value_at}
use Rattle.btx_bib.specs.language.Grammar.Fields.{Field, more_in}
use Rattle.btx_bib.specs.language.Grammar.Items.{command_of}
use Rattle.btx_bib.specs.laws.Grammar.Spelling.{Gives, Then, Spaced, NameHere, SignHere, ValueSpelling, Splits}
use Rattle.btx_bib.specs.laws.Grammar.Reading.{OpenHere, KeyHere, MoreHere}
use Rattle.btx_bib.specs.laws.Grammar.WholeItems.{CommentItem, PreambleItem, StringItem, EntryItem, ClosingHere, OtherFields, FieldsOf, FieldsHere, ItemOf}
use Rattle.btx_bib.specs.laws.Grammar.WholeItems.{ItemHere, other_fields, fields_within, fields_at, whole_item, whole_item_at}
use Rattle.btx_bib.proofs.GrammarLemmas.ValueLemmas.{past-le}
use Rattle.btx_bib.proofs.GrammarLemmas.LengthLemmas.{Shrinks, shrinks-more, more_in-shrinks}
use Rattle.btx_bib.proofs.GrammarLemmas.SpellingLemmas.{Decides, Only, both-second, both-then, then-only, then-decides, gives-decides, spaced-decides}
use Rattle.btx_bib.proofs.GrammarLemmas.SpellingLemmas.{name-decides, sign-decides, value-decides}
use Rattle.btx_bib.proofs.GrammarLemmas.ReadingLemmas.{spaced-open, spaced-key, more_in-decides}
use Rattle.btx_bib.specs.laws.Grammar.Fields.{more_at}

-- ---- the fields, one at a time

pub more-shrinks : (d : Delimiter) (s : List ℕ) → Shrinks (length s) (more_at d s)
more-shrinks d s = shrinks-more (more_at d s) (length (past Gap s)) (length s) (past-le Gap s) (more_in-shrinks d (past Gap s))

fields-enough-by : (f g : List ℕ → Parsed (List Field)) (n : ℕ) (r : Parsed (Option Field)) → Shrinks n r → ((t : List ℕ) → length t < n → f t ≡ g t)
    → followed_by r (other_fields f) ≡ followed_by r (other_fields g)
fields-enough-by f g n (Ok (None, rest)) h same = refl
fields-enough-by f g n (Ok (Some field, rest)) h same = rw (same rest (omega arith)) refl
fields-enough-by f g n (Err wrong) h same = refl

fields-enough : (n m : ℕ) (d : Delimiter) (s : List ℕ) → length s < n → length s < m → fields_within n d s ≡ fields_within m d s
unfolding fields_within
fields-enough zero m d s h k = absurd (omega arith)
fields-enough (suc n) zero d s h k = absurd (omega arith)
fields-enough (suc n) (suc m) d s h k =
    fields-enough-by (fields_within n d) (fields_within m d) (length s) (more_at d s) (more-shrinks d s)
    (λ t lt. fields-enough n m d t (omega arith) (omega arith))

pub fields_at-step : (d : Delimiter) (s : List ℕ) → fields_at d s ≡ followed_by (more_at d s) (other_fields (fields_at d))
unfolding fields_at fields_within
fields_at-step d s =
    fields-enough-by (fields_within (length s) d) (fields_at d) (length s) (more_at d s) (more-shrinks d s)
    (λ t lt. fields-enough (length s) (suc (length t)) d t lt (omega arith))

more-decides : (d : Delimiter) → Decides (more_at d) (Spaced (MoreHere d))
more-decides d = spaced-decides (MoreHere d) (more_in d) (more_in-decides d)

-- ---- fields are spelled as they are read

others-total : (n : ℕ) (d : Delimiter) (field : Field) (t : List ℕ) (q : Parsed (List Field)) → Splits (FieldsOf n d) t q
    → Splits (Then (FieldsOf n d) (λ fields. Gives (field ∷ fields))) t (followed_by q (λ fields end. Ok (field ∷ fields, end)))
others-total n d field t (Ok got) h =
    both-then (FieldsOf n d) (λ fields. Gives (field ∷ fields)) t (Ok (field ∷ got.0, got.1))
    (both-second (FieldsOf n d) (λ fields. Gives (field ∷ fields)) t got (Ok (field ∷ got.0, got.1)) h ((gives-decides (field ∷ got.0)).total got.1))
others-total n d field t (Err wrong) h = (h.0, h.1, inl h.2)

fields-splits : (n : ℕ) (d : Delimiter) (s : List ℕ) (more : Option Field) (rest : List ℕ) (q : Parsed (List Field))
    → Splits (Spaced (MoreHere d)) s (Ok (more, rest)) → Splits (OtherFields (FieldsOf n d) more) rest q → Splits (FieldsOf (suc n) d) s q
fields-splits n d s more rest (Ok got) h k = both-then (Spaced (MoreHere d)) (OtherFields (FieldsOf n d)) s (Ok got)
    (both-second (Spaced (MoreHere d)) (OtherFields (FieldsOf n d)) s (more, rest) (Ok got) h k)
fields-splits n d s more rest (Err wrong) h k = both-then (Spaced (MoreHere d)) (OtherFields (FieldsOf n d)) s (Err wrong)
    (both-second (Spaced (MoreHere d)) (OtherFields (FieldsOf n d)) s (more, rest) (Err wrong) h k)

fields-total : (m : ℕ) (d : Delimiter) (s : List ℕ) → length s < m → (n : ℕ) × Splits (FieldsOf n d) s (fields_at d s)
fields-total zero d s lt = absurd (omega arith)
fields-total (suc m) d s lt =
    subst (λ r. (n : ℕ) × Splits (FieldsOf n d) s r) (sym (fields_at-step d s))
    (at (more_at d s) ((more-decides d).total s) (more-shrinks d s) (λ t less. fields-total m d t (omega arith))) where
      at : (r : Parsed (Option Field)) → Splits (Spaced (MoreHere d)) s r → Shrinks (length s) r
          → ((t : List ℕ) → length t < length s → (n : ℕ) × Splits (FieldsOf n d) t (fields_at d t)) →
          (n : ℕ) × Splits (FieldsOf n d) s (followed_by r (other_fields (fields_at d)))
      at (Ok (None, rest)) h l others = (1, fields-splits 0 d s None rest (Ok ([], rest)) h ((gives-decides []).total rest))
      at (Ok (Some field, rest)) h l others =
          let later = others rest (omega arith) in
          let q = followed_by (fields_at d rest) (λ fields end. Ok (field ∷ fields, end)) in
          (suc later.0, fields-splits later.0 d s (Some field) rest q h (others-total later.0 d field rest (fields_at d rest) later.1))
      at (Err wrong) h l others = (1, (h.0, h.1, inl h.2))

other_fields-only : (n : ℕ) (d : Delimiter) (more : Option Field) → Only (fields_at d) (FieldsOf n d)
    → Only (other_fields (fields_at d) more) (OtherFields (FieldsOf n d) more)
other_fields-only n d None others o front rest h = (gives-decides []).only o front rest h
other_fields-only n d (Some field) others o front rest h =
    then-only (FieldsOf n d) (λ fields. Gives (field ∷ fields)) (fields_at d) (λ fields end. Ok (field ∷ fields, end)) others
    (λ fields. (gives-decides (field ∷ fields)).only) o front rest h

fields_of-only : (n : ℕ) (d : Delimiter) → Only (fields_at d) (FieldsOf n d)
fields_of-only zero d o front rest h = absurd h
fields_of-only (suc n) d o front rest h =
    fields_at-step d (front ++ rest)
    ∙ then-only (Spaced (MoreHere d)) (OtherFields (FieldsOf n d)) (more_at d) (other_fields (fields_at d)) (more-decides d).only
    (λ more. other_fields-only n d more (fields_of-only n d)) o front rest h

fields-from : (n : ℕ) (d : Delimiter) (s : List ℕ) (q : Parsed (List Field)) → Splits (FieldsOf n d) s q → Splits (FieldsHere d) s q
fields-from n d s (Ok got) h = (h.0, h.1, (n, h.2))
fields-from n d s (Err wrong) h = (h.0, h.1, (n, h.2))

fields-decides : (d : Delimiter) → Decides (fields_at d) (FieldsHere d)
fields-decides d = record {
  total = λ s. let h = fields-total (suc (length s)) d s (omega arith) in fields-from h.0 d s (fields_at d s) h.1;
  only = λ o front rest h. fields_of-only h.0 d o front rest h.1;
}

-- ---- items

item_of-decides : (c : DatabaseCommand) (name : List ℕ) → Decides (whole_item c name) (ItemOf c name)
unfolding whole_item
item_of-decides command.Comment name = gives-decides CommentItem
item_of-decides command.Preamble name =
    then-decides (Spaced OpenHere) _ open_at _ spaced-open (λ d.
    then-decides ValueSpelling _ value_at _ value-decides (λ value.
    then-decides (ClosingHere d) _ (sign_at (closing_delimiter d) (NoClosing d)) _ (sign-decides (closing_delimiter d) (NoClosing d))
    (λ sign. gives-decides (PreambleItem value))))
item_of-decides command.Definition name =
    then-decides (Spaced OpenHere) _ open_at _ spaced-open (λ d.
    then-decides (Spaced NameHere) _ name_at _ name-decides (λ string.
    then-decides (Spaced (SignHere 61 NoEquals)) _ (sign_at 61 NoEquals) _ (sign-decides 61 NoEquals) (λ sign.
    then-decides ValueSpelling _ value_at _ value-decides (λ value.
    then-decides (ClosingHere d) _ (sign_at (closing_delimiter d) (NoClosing d)) _ (sign-decides (closing_delimiter d) (NoClosing d))
    (λ end. gives-decides (StringItem string value))))))
item_of-decides command.Entry name =
    then-decides (Spaced OpenHere) _ open_at _ spaced-open (λ d.
    then-decides (Spaced (KeyHere d)) _ (key_at d) _ (spaced-key d) (λ key.
    then-decides (FieldsHere d) _ (fields_at d) _ (fields-decides d) (λ fields. gives-decides (EntryItem name key fields))))

pub item-decides : Decides whole_item_at ItemHere
unfolding whole_item_at
item-decides = then-decides (Spaced NameHere) _ name_at _ name-decides (λ name. item_of-decides (command_of name) name)
