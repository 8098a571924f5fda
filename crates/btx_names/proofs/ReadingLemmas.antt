-- Lemmas on reading a name of a list once, from its beginning to its end.
use Rattle.std.proofs.Common.{◌≡◌, ℕ, zero, suc, ◌+◌, ◌-◌, ◌<◌, ◌≤◌, Bool, true, false, cond, not, eqb, ltb, ◌&&◌, ◌||◌, List, [], ◌∷◌, ◌++◌, Option, Some}
use Rattle.std.proofs.Common.{None, ◌⊎◌, inl, inr, length, take, drop, get_or, refl, sym, ◌∙◌, ap, subst, arith, append_assoc, length-append, add-one}
use Rattle.std.proofs.lemmas.Bool.{eqb-true, and_parts, false_from_ne_true, true≢false, cases_lt, le-ltb, lt-ltb, ne_eqb}
use Rattle.std.proofs.lemmas.List.{append-nil, drop_all, drop-drop, drop-take, drop_more, length-drop}
use Rattle.std.specs.List.{All}
use Rattle.std.proofs.Math.Bool.{or-true, or-false}
use Rattle.btx_text.specs.language.Class.{is_white}
use Rattle.btx_text.specs.language.Elements.{depth_after}
use Rattle.btx_names.specs.declared.name_reading.ReadName.{ReadName}
use Rattle.btx_names.specs.declared.name_token.NameToken.{NameToken as KeptToken}
use Rattle.btx_names.specs.declared.name_tokens.TokenSeparator.{TokenSeparator}
use Rattle.btx_names.specs.declared.place.Place.{Place}
use Rattle.btx_names.specs.declared.runs.Stop.TheVariants.{Break, Comma}
use Rattle.btx_names.specs.language.NameLists.{is_separator}
use Rattle.btx_names.specs.language.NameParts.{Sections, split_at_comma, cut_first, cut_again, sections_of, ends_in_comma, has_third_comma}
use Rattle.btx_names.specs.language.Runs.{is_break, run_len}
use Rattle.btx_names.specs.language.Tokens.{NameToken, joint_of, tokens_of}
use Rattle.btx_names.specs.laws.NameParts.{surname_of, is_all_breaks}
use Rattle.btx_names.specs.refinement.NameTokens.{Hold, tokens_in}
use Rattle.btx_names.specs.refinement.Places.{bytes_at}
use Rattle.btx_names.specs.refinement.ReadNames.{IsNameAt}
use Rattle.btx_names.specs.refinement.SectionViews.{has_commas, jr_of, first_section}
use Rattle.btx_names.specs.refinement.Steps.{first_name_len}
use Rattle.btx_names.specs.refinement.TokenLists.{IsListOf}
use Rattle.btx_names.specs.refinement.Tokens.{token_at}
use Rattle.btx_names.proofs.CommaLemmas.{CountsAs, commas_from, counts_as, none_counts, third_by_count}
use Rattle.btx_names.proofs.EndingLemmas.{ends, ends_push}
use Rattle.btx_names.proofs.LawLemmas.{tokens_of-cut}
use Rattle.btx_names.proofs.RangeLemmas.{tokens_of_nothing}
use Rattle.btx_names.proofs.PartLemmas.{tokens_counted}
use Rattle.btx_names.proofs.RunLemmas.{run_len-le}
use Rattle.btx_names.proofs.SeparatorLemmas.{separator_is_white}
use Rattle.btx_names.proofs.SplitLemmas.{break_keeps, comma_breaks, never, tokens_of-comma}
use Rattle.btx_names.proofs.TokenLemmas.{tokens_of-break, tokens_of-run}

-- ---- a token is passed over

-- what follows the first comma at depth 0
abbrev pub behind_comma : List ℕ → List ℕ
behind_comma s = drop (suc (run_len Comma 0 s)) s

-- a test at depth 0 that holds
low_of : (depth : ℕ) (test : Bool) → (eqb depth 0 && test) ≡ true → depth ≡ 0
low_of depth test is = eqb-true depth 0 (and_parts (eqb depth 0) test is).0

-- a separator begins with a byte that stands between tokens
separator_breaks : (low : Bool) (b : ℕ) (bs : List ℕ) → (low && is_break b) ≡ false → (low && is_separator (b ∷ bs)) ≡ false
separator_breaks low b bs none = false_from_ne_true (low && is_separator (b ∷ bs)) (λ is. true≢false (sym (breaks is) ∙ none)) where
  breaks : (low && is_separator (b ∷ bs)) ≡ true → (low && is_break b) ≡ true
  breaks is =
      let parts = and_parts low (is_separator (b ∷ bs)) is in
      rw (parts.0, separator_is_white b bs parts.1) refl

name_jump : (depth : ℕ) (s : List ℕ) → first_name_len depth s ≡ run_len Break depth s + first_name_len 0 (drop (run_len Break depth s) s)
unfolding first_name_len run_len
name_jump depth [] = omega arith
name_jump depth (b ∷ bs) = at (eqb depth 0 && is_break b) refl (name_jump (depth_after depth b) bs) where
  size : ℕ
  size = run_len Break (depth_after depth b) bs

  at : (t : Bool) → (eqb depth 0 && is_break b) ≡ t → first_name_len (depth_after depth b) bs ≡ size + first_name_len 0 (drop size bs) →
      first_name_len depth (b ∷ bs) ≡ cond t 0 (suc size) + first_name_len 0 (drop (cond t 0 (suc size)) (b ∷ bs))
  at true is more =
      let none : (n : ℕ) → n ≡ 0 + n = λ n. omega arith in
      ap (λ d. first_name_len d (b ∷ bs)) (low_of depth (is_break b) is) ∙ none (first_name_len 0 (b ∷ bs))
  at false is more = rw (separator_breaks (eqb depth 0) b bs is) (omega (arith, more))

-- what passes over each byte of a token passes over the token
jump : {T : Type 0} (f : ℕ → List ℕ → T) → ((depth : ℕ) → f depth [] ≡ f 0 [])
    → ((depth b : ℕ) (bs : List ℕ) → (eqb depth 0 && is_break b) ≡ false → f depth (b ∷ bs) ≡ f (depth_after depth b) bs) →
    (depth : ℕ) (s : List ℕ) → f depth s ≡ f 0 (drop (run_len Break depth s) s)
unfolding run_len
jump f none passes depth [] = none depth
jump f none passes depth (b ∷ bs) = at (eqb depth 0 && is_break b) refl (jump f none passes (depth_after depth b) bs) where
  size : ℕ
  size = run_len Break (depth_after depth b) bs

  at : (t : Bool) → (eqb depth 0 && is_break b) ≡ t → f (depth_after depth b) bs ≡ f 0 (drop size bs)
      → f depth (b ∷ bs) ≡ f 0 (drop (cond t 0 (suc size)) (b ∷ bs))
  at true is more = ap (λ d. f d (b ∷ bs)) (low_of depth (is_break b) is)
  at false is more = passes depth b bs is ∙ more

commas_pass : (depth b : ℕ) (bs : List ℕ) → (eqb depth 0 && is_break b) ≡ false → commas_from depth (b ∷ bs) ≡ commas_from (depth_after depth b) bs
unfolding commas_from
commas_pass depth b bs is = rw (comma_breaks (eqb depth 0) b is) refl

commas_jump : (depth : ℕ) (s : List ℕ) → commas_from depth s ≡ commas_from 0 (drop (run_len Break depth s) s)
unfolding commas_from
commas_jump = jump commas_from (λ _. refl) commas_pass

ends_pass : (depth b : ℕ) (bs : List ℕ) → (eqb depth 0 && is_break b) ≡ false → ends depth (b ∷ bs) ≡ ends (depth_after depth b) bs
ends_pass depth b bs is = ends_push depth b bs ∙ ap (λ t. (t && is_all_breaks bs) || ends (depth_after depth b) bs) (comma_breaks (eqb depth 0) b is)

ends_jump : (depth : ℕ) (s : List ℕ) → ends depth s ≡ ends 0 (drop (run_len Break depth s) s)
unfolding ends
ends_jump = jump ends (λ _. refl) ends_pass

behind_jump : (depth : ℕ) (s : List ℕ) → drop (suc (run_len Comma depth s)) s ≡ behind_comma (drop (run_len Break depth s) s)
unfolding run_len
behind_jump depth [] = refl
behind_jump depth (b ∷ bs) = at (eqb depth 0 && is_break b) refl (behind_jump (depth_after depth b) bs) where
  size : ℕ
  size = run_len Break (depth_after depth b) bs

  at : (t : Bool) → (eqb depth 0 && is_break b) ≡ t → drop (suc (run_len Comma (depth_after depth b) bs)) bs ≡ behind_comma (drop size bs) →
      drop (suc (run_len Comma depth (b ∷ bs))) (b ∷ bs) ≡ behind_comma (drop (cond t 0 (suc size)) (b ∷ bs))
  at true is more = ap (λ d. drop (suc (run_len Comma d (b ∷ bs))) (b ∷ bs)) (low_of depth (is_break b) is)
  at false is more = rw (comma_breaks (eqb depth 0) b is) more

-- ---- the first name of a text

-- its bytes
abbrev pub first_name : List ℕ → List ℕ
first_name s = take (first_name_len 0 s) s

-- a run that ends within the front of a text is one of the front
run_take : (depth m : ℕ) (s : List ℕ) → run_len Break depth s ≤ m → run_len Break depth (take m s) ≡ run_len Break depth s
unfolding run_len
run_take depth zero s le = let none : run_len Break depth s ≡ 0 = omega (arith, le) in sym none
run_take depth (suc m) [] le = refl
run_take depth (suc m) (b ∷ bs) le = at (eqb depth 0 && is_break b) (run_take (depth_after depth b) m bs) le where
  size : ℕ
  size = run_len Break (depth_after depth b) bs

  at : (t : Bool) → (size ≤ m → run_len Break (depth_after depth b) (take m bs) ≡ size) → cond t 0 (suc size) ≤ suc m →
      cond t 0 (suc (run_len Break (depth_after depth b) (take m bs))) ≡ cond t 0 (suc size)
  at true more le = refl
  at false more le = ap (λ n. suc n) (more (omega (arith, le)))

pub name_run : (s : List ℕ) → run_len Break 0 (first_name s) ≡ run_len Break 0 s
name_run s = run_take 0 (first_name_len 0 s) s (omega (arith, name_jump 0 s))

-- what follows its first token is the first name of the rest
pub name_rest : (s : List ℕ) → drop (run_len Break 0 s) (first_name s) ≡ first_name (drop (run_len Break 0 s) s)
name_rest s = rw (name_jump 0 s) (drop-take (run_len Break 0 s) (first_name_len 0 (drop (run_len Break 0 s) s)) s)

joint_of_name : (s : List ℕ) → joint_of (first_name s) ≡ joint_of s
unfolding first_name_len
joint_of_name [] = refl
joint_of_name (b ∷ bs) = at (is_separator (b ∷ bs)) where
  at : (t : Bool) → joint_of (take (cond t 1 (suc (first_name_len (depth_after 0 b) bs))) (b ∷ bs)) ≡ joint_of (b ∷ bs)
  at true = refl
  at false = refl

same_token : (one other : NameToken) → one.text ≡ other.text → one.joint ≡ other.joint → one ≡ other
same_token one other text joint =
    let make = λ (text : List ℕ) (joint : TokenSeparator). let token : NameToken = record { text = text; joint = joint } in token in
    ap (λ t. make t one.joint) text ∙ ap (λ j. make other.text j) joint

take_take : (n m : ℕ) (s : List ℕ) → n ≤ m → take n (take m s) ≡ take n s
take_take zero m s le = refl
take_take (suc n) zero s le = absurd (omega (arith, le))
take_take (suc n) (suc m) [] le = refl
take_take (suc n) (suc m) (b ∷ bs) le = ap (λ front. b ∷ front) (take_take n m bs (omega (arith, le)))

pub name_token : (s : List ℕ) → token_at (first_name s) ≡ token_at s
name_token s =
    let size = run_len Break 0 s in
    let le : size ≤ first_name_len 0 s = omega (arith, name_jump 0 s) in
    same_token (token_at (first_name s)) (token_at s)
    (ap (λ n. take n (first_name s)) (name_run s) ∙ take_take size (first_name_len 0 s) s le)
    (ap (λ n. joint_of (drop n (first_name s))) (name_run s) ∙ ap joint_of (name_rest s) ∙ joint_of_name (drop size s))

-- a byte between tokens, where no separator begins
pub name_break : (b : ℕ) (bs : List ℕ) → is_break b ≡ true → is_separator (b ∷ bs) ≡ false → first_name (b ∷ bs) ≡ b ∷ first_name bs
unfolding first_name_len
name_break b bs breaks none = rw (none, break_keeps b breaks) refl

-- a separator, whose first byte belongs to the name
pub name_ends : (b : ℕ) (bs : List ℕ) → is_separator (b ∷ bs) ≡ true → first_name (b ∷ bs) ≡ b ∷ []
unfolding first_name_len
name_ends b bs is = rw is refl

ends_here : (b : ℕ) (bs : List ℕ) → is_separator (b ∷ bs) ≡ true → first_name_len 0 (b ∷ bs) ≡ 1
unfolding first_name_len
ends_here b bs is = rw is refl

-- nothing has no bytes
nothing_long : first_name_len 0 [] ≡ 0
unfolding first_name_len
nothing_long = refl

name_of_nothing : first_name [] ≡ []
unfolding first_name_len
name_of_nothing = refl

-- ---- what is known while it is read

-- what the counts of tokens before the first two commas are
abbrev pub Places : List ℕ → List ℕ → ℕ → ℕ → ℕ → Type 0
Places name rest zero first second = behind_comma rest ≡ behind_comma name
Places name rest (suc zero) first second =
    (first + length (tokens_of (behind_comma name)) ≡ length (tokens_of name)) × (behind_comma rest ≡ behind_comma (behind_comma name))
Places name rest (suc (suc n)) first second =
    (first + length (tokens_of (behind_comma name)) ≡ length (tokens_of name))
    × (second + length (tokens_of (behind_comma (behind_comma name))) ≡ length (tokens_of name))

-- the tokens `read` and this number of commas stand in a name before its rest; a token follows `followed` of them; and these numbers of tokens precede the
-- first comma, and the second
pub record IsRead (name rest : List ℕ) (read : List NameToken) (commas followed first second : ℕ) : Type 0 where
  pub within : followed ≤ commas
  pub tokens : read ++ tokens_of rest ≡ tokens_of name
  pub counts : cond (is_all_breaks rest) followed (commas + commas_from 0 rest) ≡ commas_from 0 name
  pub ending : cond (is_all_breaks rest) (ltb followed commas || ends 0 rest) (ends 0 rest) ≡ ends 0 name
  pub places : Places name rest commas first second

-- nothing is read
pub read_nothing : (name : List ℕ) (first second : ℕ) → IsRead name name [] 0 0 first second
read_nothing name first second = record {
  within = omega arith;
  tokens = refl;
  counts = at (is_all_breaks name) refl;
  ending = at_end (is_all_breaks name);
  places = refl;
} where
  at : (t : Bool) → is_all_breaks name ≡ t → cond t 0 (0 + commas_from 0 name) ≡ commas_from 0 name
  at true all = sym (none_counts 0 name all)
  at false all = omega arith

  at_end : (t : Bool) → cond t (ltb 0 0 || ends 0 name) (ends 0 name) ≡ ends 0 name
  at_end true = refl
  at_end false = refl

-- ---- one step

-- a byte between tokens that is no comma
pub read_break : (name : List ℕ) (b : ℕ) (bs : List ℕ) (read : List NameToken) (commas followed first second : ℕ) → is_break b ≡ true → eqb b 44 ≡ false →
    IsRead name (b ∷ bs) read commas followed first second → IsRead name bs read commas followed first second
unfolding commas_from run_len
read_break name b bs read commas followed first second breaks none is = record {
  within = is.within;
  tokens = ap (λ tokens. read ++ tokens) (sym (tokens_of-break b bs breaks)) ∙ is.tokens;
  counts = sym (ap (λ t. cond t followed (commas + commas_from 0 (b ∷ bs))) all ∙ ap (λ n. cond (is_all_breaks bs) followed (commas + n)) counted) ∙ is.counts;
  ending = sym (ap (λ t. cond t (ltb followed commas || ends 0 (b ∷ bs)) (ends 0 (b ∷ bs))) all
      ∙ ap (λ e. cond (is_all_breaks bs) (ltb followed commas || e) e) ended) ∙ is.ending;
  places = at commas is.places;
} where
  all : is_all_breaks (b ∷ bs) ≡ is_all_breaks bs
  all = rw breaks refl

  counted : commas_from 0 (b ∷ bs) ≡ commas_from 0 bs
  counted = rw none (ap (λ d. commas_from d bs) (break_keeps b breaks))

  ended : ends 0 (b ∷ bs) ≡ ends 0 bs
  ended = ends_push 0 b bs ∙ rw none (ap (λ d. ends d bs) (break_keeps b breaks))

  behind : behind_comma (b ∷ bs) ≡ behind_comma bs
  behind = rw none (ap (λ d. drop (suc (run_len Comma d bs)) bs) (break_keeps b breaks))

  at : (commas : ℕ) → Places name (b ∷ bs) commas first second → Places name bs commas first second
  at zero h = sym behind ∙ h
  at (suc zero) h = (h.0, sym behind ∙ h.1)
  at (suc (suc n)) h = h

-- a comma
pub read_comma : (name bs : List ℕ) (read : List NameToken) (commas followed first second : ℕ) →
    IsRead name (44 ∷ bs) read commas followed first second →
    IsRead name bs read (commas + 1) followed (cond (eqb commas 0) (length read) first) (cond (eqb commas 1) (length read) second)
unfolding commas_from run_len
read_comma name bs read commas followed first second is = record {
  within = omega (arith, is.within);
  tokens = tokens;
  counts = at_counts (is_all_breaks bs) is.counts;
  ending = at_ending (is_all_breaks bs) (ap (λ e. cond (is_all_breaks bs) (ltb followed commas || e) e) (sym (ends_push 0 44 bs)) ∙ is.ending);
  places = rw (add-one commas) (at commas is.places);
} where
  tokens : read ++ tokens_of bs ≡ tokens_of name
  tokens = ap (λ tokens. read ++ tokens) (sym (tokens_of-break 44 bs refl)) ∙ is.tokens

  count : length read + length (tokens_of bs) ≡ length (tokens_of name)
  count = sym (length-append read (tokens_of bs)) ∙ ap (λ (tokens : List NameToken). length tokens) tokens

  at_counts : (t : Bool) → cond t followed (commas + cond (not t) (suc (commas_from 0 bs)) (commas_from 0 bs)) ≡ commas_from 0 name →
      cond t followed (commas + 1 + commas_from 0 bs) ≡ commas_from 0 name
  at_counts true h = h
  at_counts false h = omega (arith, h)

  at_ending : (t : Bool) → cond t (ltb followed commas || (t || ends 0 bs)) (t || ends 0 bs) ≡ ends 0 name →
      cond t (ltb followed (commas + 1) || ends 0 bs) (ends 0 bs) ≡ ends 0 name
  at_ending true h = rw (lt-ltb followed (commas + 1) (omega (arith, is.within))) (sym (or-true (ltb followed commas)) ∙ h)
  at_ending false h = h

  at : (commas : ℕ) → Places name (44 ∷ bs) commas first second →
      Places name bs (suc commas) (cond (eqb commas 0) (length read) first) (cond (eqb commas 1) (length read) second)
  at zero h = (ap (λ s. length read + length (tokens_of s)) (sym h) ∙ count, ap behind_comma h)
  at (suc zero) h = (h.0, ap (λ s. length read + length (tokens_of s)) (sym h.1) ∙ count)
  at (suc (suc n)) h = rw (ne_eqb (suc (suc n)) 0 (omega arith), ne_eqb (suc (suc n)) 1 (omega arith)) h

-- a text that begins with a token
begins_token : (s : List ℕ) → 0 < run_len Break 0 s → is_all_breaks s ≡ false
unfolding run_len
begins_token [] some = absurd (omega (arith, some))
begins_token (b ∷ bs) some = at (is_break b) some where
  at : (t : Bool) → 0 < cond t 0 (suc (run_len Break (depth_after 0 b) bs)) → (t && is_all_breaks bs) ≡ false
  at true some = absurd (omega (arith, some))
  at false some = refl

-- a token
pub read_token : (name rest : List ℕ) (read : List NameToken) (commas followed first second : ℕ) → 0 < run_len Break 0 rest →
    IsRead name rest read commas followed first second →
    IsRead name (drop (run_len Break 0 rest) rest) (read ++ token_at rest ∷ []) commas commas first second
read_token name rest read commas followed first second some is = record {
  within = omega arith;
  tokens = append_assoc read (token_at rest ∷ []) (tokens_of after) ∙ ap (λ tokens. read ++ tokens) (sym (tokens_of-run rest some)) ∙ is.tokens;
  counts = at (is_all_breaks after) refl;
  ending = at_end (is_all_breaks after);
  places = at_places commas is.places;
} where
  after : List ℕ
  after = drop (run_len Break 0 rest) rest

  counted : commas + commas_from 0 after ≡ commas_from 0 name
  counted = ap (λ n. commas + n) (sym (commas_jump 0 rest)) ∙ (rw (begins_token rest some) at is.counts)

  ended : ends 0 after ≡ ends 0 name
  ended = sym (ends_jump 0 rest) ∙ (rw (begins_token rest some) at is.ending)

  behind : behind_comma rest ≡ behind_comma after
  behind = behind_jump 0 rest

  at : (t : Bool) → is_all_breaks after ≡ t → cond t commas (commas + commas_from 0 after) ≡ commas_from 0 name
  at true all = omega (arith, counted, none_counts 0 after all)
  at false all = counted

  at_end : (t : Bool) → cond t (ltb commas commas || ends 0 after) (ends 0 after) ≡ ends 0 name
  at_end true = rw (le-ltb commas commas (omega arith)) ended
  at_end false = ended

  at_places : (commas : ℕ) → Places name rest commas first second → Places name after commas first second
  at_places zero h = sym behind ∙ h
  at_places (suc zero) h = (h.0, sym behind ∙ h.1)
  at_places (suc (suc n)) h = h

-- ---- the end

places_first : (name rest : List ℕ) (commas first second : ℕ) → 0 < commas → Places name rest commas first second →
    first + length (tokens_of (behind_comma name)) ≡ length (tokens_of name)
places_first name rest zero first second some h = absurd (omega (arith, some))
places_first name rest (suc zero) first second some h = h.0
places_first name rest (suc (suc n)) first second some h = h.0

places_second : (name rest : List ℕ) (commas first second : ℕ) → 1 < commas → Places name rest commas first second →
    second + length (tokens_of (behind_comma (behind_comma name))) ≡ length (tokens_of name)
places_second name rest zero first second some h = absurd (omega (arith, some))
places_second name rest (suc zero) first second some h = absurd (omega (arith, some))
places_second name rest (suc (suc n)) first second some h = h.1

-- after a comma there are no more tokens
behind_le : (s : List ℕ) → length (tokens_of (behind_comma s)) ≤ length (tokens_of s)
behind_le s = at (cases_lt (run_len Comma 0 s) (length s)) where
  at : (run_len Comma 0 s < length s) ⊎ (length s ≤ run_len Comma 0 s) → length (tokens_of (behind_comma s)) ≤ length (tokens_of s)
  at (inl less) =
      let front = tokens_of (take (run_len Comma 0 s) s) in
      omega (arith, ap (λ (tokens : List NameToken). length tokens) (tokens_of-comma s less), length-append front (tokens_of (behind_comma s)))
  at (inr none) = rw (drop_all (suc (run_len Comma 0 s)) s (omega (arith, none)), tokens_of_nothing) (omega arith)

pub read_ordered : (name rest : List ℕ) (read : List NameToken) (commas followed first second : ℕ) → IsRead name rest read commas followed first second →
    1 < followed → first ≤ second
read_ordered name rest read commas followed first second is some =
    let more : 1 < commas = omega (arith, some, is.within) in
    omega (
      arith,
      places_first name rest commas first second (omega (arith, more)) is.places,
      places_second name rest commas first second more is.places,
      behind_le (behind_comma name),
    )

pub read_tokens : (name : List ℕ) (read : List NameToken) (commas followed first second : ℕ) → IsRead name [] read commas followed first second
    → read ≡ tokens_of name
read_tokens name read commas followed first second is = sym (append-nil read) ∙ ap (λ tokens. read ++ tokens) (sym tokens_of_nothing) ∙ is.tokens

pub read_ending : (name : List ℕ) (read : List NameToken) (commas followed first second : ℕ) → IsRead name [] read commas followed first second →
    ltb followed commas ≡ ends_in_comma name
unfolding ends ends_in_comma
read_ending name read commas followed first second is = sym (or-false (ltb followed commas)) ∙ is.ending

pub read_third : (name : List ℕ) (read : List NameToken) (commas followed first second : ℕ) → IsRead name [] read commas followed first second →
    ltb 2 followed ≡ has_third_comma (sections_of name)
read_third name read commas followed first second is = ap (ltb 2) is.counts ∙ sym (third_by_count name)

-- the sections of a name, by how many of its commas a token follows, and by how many tokens precede the first two
pub record AreSections (sections : Sections) (all : List NameToken) (followed first second : ℕ) : Type 0 where
  pub tokens : all ≡ tokens_of (surname_of sections) ++ (tokens_of (jr_of sections) ++ tokens_of (first_section sections))
  pub commas : ltb 0 followed ≡ has_commas sections
  pub surname : cond (ltb 0 followed) first (length all) ≡ length (tokens_of (surname_of sections))
  pub jr : cond (ltb 1 followed) (second - first) 0 ≡ length (tokens_of (jr_of sections))

-- a cut is after the first comma
cut_behind : (s : List ℕ) (cut : List ℕ × List ℕ) → split_at_comma s ≡ Some cut → cut.1 ≡ behind_comma s
unfolding split_at_comma
cut_behind s cut is = at (is_all_breaks (drop (size + 1) s)) is where
  size : ℕ
  size = run_len Comma 0 s

  one_more : size + 1 ≡ suc size
  one_more = omega arith

  at : (t : Bool) → cond t None (Some (take size s, drop (size + 1) s)) ≡ Some cut → cut.1 ≡ behind_comma s
  at true same = let never : ⊥ = cc in absurd never
  at false same =
      let pieces : cut ≡ (take size s, drop (size + 1) s) = cc in
      ap (λ (pair : List ℕ × List ℕ). pair.1) pieces ∙ ap (λ n. drop n s) one_more

pub read_sections : (name : List ℕ) (read : List NameToken) (commas followed first second : ℕ) → IsRead name [] read commas followed first second →
    AreSections (sections_of name) (tokens_of name) followed first second
unfolding sections_of
read_sections name read commas followed first second is = at (split_at_comma name) refl (counts_as name) where
  counted : followed ≡ commas_from 0 name
  counted = is.counts

  at : (cut : Option (List ℕ × List ℕ)) → split_at_comma name ≡ cut → CountsAs name cut → AreSections (cut_first name cut) (tokens_of name) followed first
      second
  at None is_cut count =
      let none : followed ≡ 0 = counted ∙ count in
      record {
        tokens = rw tokens_of_nothing (sym (append-nil (tokens_of name)));
        commas = rw none refl;
        surname = rw none refl;
        jr = rw (none, tokens_of_nothing) refl;
      }
  at (Some cut) is_cut count = at_second (split_at_comma cut.1) refl (counts_as cut.1) where
    one : 0 < followed
    one = omega (arith, counted, count)

    whole : tokens_of name ≡ tokens_of cut.0 ++ tokens_of cut.1
    whole = tokens_of-cut name cut is_cut

    sizes : length (tokens_of name) ≡ length (tokens_of cut.0) + length (tokens_of cut.1)
    sizes = ap (λ (tokens : List NameToken). length tokens) whole ∙ length-append (tokens_of cut.0) (tokens_of cut.1)

    surname_is : first ≡ length (tokens_of cut.0)
    surname_is =
        let front = places_first name [] commas first second (omega (arith, one, is.within)) is.places in
        let behind : length (tokens_of cut.1) ≡ length (tokens_of (behind_comma name)) = ap (λ s. length (tokens_of s)) (cut_behind name cut is_cut) in
        omega (arith, front, behind, sizes)

    at_second : (more : Option (List ℕ × List ℕ)) → split_at_comma cut.1 ≡ more → CountsAs cut.1 more →
        AreSections (cut_again cut.0 cut.1 more) (tokens_of name) followed first second
    at_second None is_more count_more =
        let single : followed ≡ 1 = counted ∙ count ∙ ap (λ n. suc n) count_more in
        record {
          tokens = rw tokens_of_nothing whole;
          commas = rw single refl;
          surname = rw single surname_is;
          jr = rw (single, tokens_of_nothing) refl;
        }
    at_second (Some more) is_more count_more =
        let two : 1 < followed = omega (arith, counted, count, count_more) in
        let others = tokens_of-cut cut.1 more is_more in
        let split : length (tokens_of cut.1) ≡ length (tokens_of more.0) + length (tokens_of more.1) = ap (λ (tokens : List NameToken). length tokens) others
        ∙ length-append (tokens_of more.0) (tokens_of more.1) in
        let behind : length (tokens_of more.1) ≡ length (tokens_of (behind_comma (behind_comma name))) =
        ap (λ s. length (tokens_of s)) (cut_behind cut.1 more is_more ∙ ap behind_comma (cut_behind name cut is_cut)) in
        let back = places_second name [] commas first second (omega (arith, two, is.within)) is.places in
        record {
          tokens = whole ∙ ap (λ tokens. tokens_of cut.0 ++ tokens) others;
          commas = rw (lt-ltb 0 followed one) refl;
          surname = rw (lt-ltb 0 followed one) surname_is;
          jr = rw (lt-ltb 1 followed two) (omega (arith, surname_is, sizes, split, behind, back));
        }

-- ---- at a place of the list of names

-- the name that begins at `from` is read up to a place
pub record ReadsTo (names : List ℕ) (from place : ℕ) (read : List NameToken) (commas followed first second : ℕ) : Type 0 where
  pub started : from ≤ place
  pub inside : place ≤ length names
  pub few : commas ≤ place
  pub len : place + first_name_len 0 (drop place names) ≡ from + first_name_len 0 (drop from names)
  pub is : IsRead (first_name (drop from names)) (first_name (drop place names)) read commas followed first second

pub reads_nothing : (names : List ℕ) (from first second : ℕ) → from ≤ length names → ReadsTo names from from [] 0 0 first second
reads_nothing names from first second inside =
    record { started = omega arith; inside = inside; few = omega arith; len = refl; is = read_nothing (first_name (drop from names)) first second }

-- what stands at a place
here : (names : List ℕ) (place : ℕ) → place < length names → drop place names ≡ get_or names place 0 ∷ drop (place + 1) names
here names place lt = drop_more names place 0 lt

-- the first name where no separator stands
longer : (b : ℕ) (bs : List ℕ) → is_break b ≡ true → is_separator (b ∷ bs) ≡ false → first_name_len 0 (b ∷ bs) ≡ suc (first_name_len 0 bs)
unfolding first_name_len
longer b bs breaks none = rw none (ap (λ d. suc (first_name_len d bs)) (break_keeps b breaks))

goes_on : (names : List ℕ) (from place : ℕ) → place < length names → is_break (get_or names place 0) ≡ true → is_separator (drop place names) ≡ false →
    place + first_name_len 0 (drop place names) ≡ from + first_name_len 0 (drop from names) →
    (place + 1 + first_name_len 0 (drop (place + 1) names) ≡ from + first_name_len 0 (drop from names))
    × (first_name (drop place names) ≡ get_or names place 0 ∷ first_name (drop (place + 1) names))
goes_on names from place lt breaks none len =
    let split = here names place lt in
    let no_separator = rw split at none in
    let more = longer (get_or names place 0) (drop (place + 1) names) breaks no_separator in (
      omega (arith, len, ap (first_name_len 0) split, more),
      ap first_name split ∙ name_break (get_or names place 0) (drop (place + 1) names) breaks no_separator,
    )

pub reads_break : (names : List ℕ) (from place : ℕ) (read : List NameToken) (commas followed first second : ℕ) → place < length names →
    is_break (get_or names place 0) ≡ true → is_separator (drop place names) ≡ false → eqb (get_or names place 0) 44 ≡ false →
    ReadsTo names from place read commas followed first second → ReadsTo names from (place + 1) read commas followed first second
reads_break names from place read commas followed first second lt breaks none no_comma reads =
    let more = goes_on names from place lt breaks none reads.len in
    let known : IsRead (first_name (drop from names)) (get_or names place 0 ∷ first_name (drop (place + 1) names)) read commas followed first second =
    rw more.1 at reads.is in
    record {
      started = omega (arith, reads.started);
      inside = omega (arith, lt);
      few = omega (arith, reads.few);
      len = more.0;
      is = read_break (first_name (drop from names)) (get_or names place 0) (first_name (drop (place + 1) names)) read commas followed first second breaks
          no_comma known;
    }

pub reads_comma : (names : List ℕ) (from place : ℕ) (read : List NameToken) (count commas followed first second : ℕ) → place < length names →
    is_separator (drop place names) ≡ false → get_or names place 0 ≡ 44 → length read ≡ count →
    ReadsTo names from place read commas followed first second →
    ReadsTo names from (place + 1) read (commas + 1) followed (cond (eqb commas 0) count first) (cond (eqb commas 1) count second)
reads_comma names from place read count commas followed first second lt none byte counted reads =
    let breaks : is_break (get_or names place 0) ≡ true = rw byte refl in
    let more = goes_on names from place lt breaks none reads.len in
    let rest : first_name (drop place names) ≡ 44 ∷ first_name (drop (place + 1) names) = more.1 ∙ ap (λ b. b ∷ first_name (drop (place + 1) names)) byte in
    let known : IsRead (first_name (drop from names)) (44 ∷ first_name (drop (place + 1) names)) read commas followed first second = rw rest at reads.is in
    record {
      started = omega (arith, reads.started);
      inside = omega (arith, lt);
      few = omega (arith, reads.few);
      len = more.0;
      is = rw (sym counted) (read_comma (first_name (drop from names)) (first_name (drop (place + 1) names)) read commas followed first second known);
    }

-- a token has a byte
some_run : (b : ℕ) (bs : List ℕ) → is_break b ≡ false → 0 < run_len Break 0 (b ∷ bs)
unfolding run_len
some_run b bs none = rw none (omega arith)

pub token_is_some : (names : List ℕ) (place : ℕ) → place < length names → is_break (get_or names place 0) ≡ false → 0 < run_len Break 0 (drop place names)
token_is_some names place lt none = rw (here names place lt) (some_run (get_or names place 0) (drop (place + 1) names) none)

pub token_is_inside : (names : List ℕ) (place : ℕ) → place ≤ length names → place + run_len Break 0 (drop place names) ≤ length names
token_is_inside names place le = omega (arith, le, run_len-le Break 0 (drop place names), length-drop place names)

pub reads_token : (names : List ℕ) (from place size : ℕ) (read : List NameToken) (commas followed first second : ℕ) → place < length names →
    is_break (get_or names place 0) ≡ false → size ≡ run_len Break 0 (drop place names) →
    ReadsTo names from place read commas followed first second →
    ReadsTo names from (place + size) (read ++ token_at (drop place names) ∷ []) commas commas first second
reads_token names from place size read commas followed first second lt none is reads = record {
  started = omega (arith, reads.started);
  inside = omega (arith, is, token_is_inside names place (omega (arith, lt)));
  few = omega (arith, reads.few);
  len = omega (arith, reads.len, name_jump 0 rest, is, ap (first_name_len 0) rest_is);
  is =
      let one_more = read_token (first_name (drop from names)) (first_name rest) read commas followed first second some reads.is in
      let in_list = subst (λ (t : NameToken). IsRead (first_name (drop from names)) (drop (run_len Break 0 (first_name rest)) (first_name rest))
      (read ++ t ∷ []) commas commas first second) (name_token rest) one_more in
      subst (λ r. IsRead (first_name (drop from names)) r (read ++ token_at rest ∷ []) commas commas first second) after in_list;
} where
  rest : List ℕ
  rest = drop place names

  rest_is : drop (run_len Break 0 rest) rest ≡ drop (place + size) names
  rest_is = drop-drop (run_len Break 0 rest) place names ∙ ap (λ n. drop (place + n) names) (sym is)

  after : drop (run_len Break 0 (first_name rest)) (first_name rest) ≡ first_name (drop (place + size) names)
  after = ap (λ n. drop n (first_name rest)) (name_run rest) ∙ name_rest rest ∙ ap first_name rest_is

  some : 0 < run_len Break 0 (first_name rest)
  some = rw (name_run rest) (token_is_some names place lt none)

-- the name ends where a separator begins
pub reads_separator : (names : List ℕ) (from place : ℕ) (read : List NameToken) (commas followed first second : ℕ) → place < length names →
    is_break (get_or names place 0) ≡ true → is_separator (drop place names) ≡ true →
    ReadsTo names from place read commas followed first second →
    (IsRead (first_name (drop from names)) [] read commas followed first second) × (place + 1 ≡ from + first_name_len 0 (drop from names))
reads_separator names from place read commas followed first second lt breaks is reads = (
  read_break (first_name (drop from names)) (get_or names place 0) [] read commas followed first second breaks no_comma
      (rw (ap first_name split ∙ name_ends (get_or names place 0) (drop (place + 1) names) separator) at reads.is),
  omega (arith, reads.len, ap (first_name_len 0) split, ends_here (get_or names place 0) (drop (place + 1) names) separator),
) where
  split : drop place names ≡ get_or names place 0 ∷ drop (place + 1) names
  split = here names place lt

  separator : is_separator (get_or names place 0 ∷ drop (place + 1) names) ≡ true
  separator = rw split at is

  no_comma : eqb (get_or names place 0) 44 ≡ false
  no_comma = never is_white (get_or names place 0) 44 (separator_is_white (get_or names place 0) (drop (place + 1) names) separator) refl

-- and at the end of the list
pub reads_all : (names : List ℕ) (from place : ℕ) (read : List NameToken) (commas followed first second : ℕ) → length names ≤ place →
    ReadsTo names from place read commas followed first second →
    (IsRead (first_name (drop from names)) [] read commas followed first second) × (length names ≡ from + first_name_len 0 (drop from names))
reads_all names from place read commas followed first second le reads =
    let nothing : drop place names ≡ [] = drop_all place names le in (
      rw (ap first_name nothing ∙ name_of_nothing) at reads.is,
      omega (arith, reads.inside, le, reads.len, ap (first_name_len 0) nothing, nothing_long),
    )

-- ---- the name as it is read

pub name_is_read : (names : List ℕ) (from end : ℕ) (tokens : List KeptToken) (commas followed first second : ℕ) (read : ReadName) →
    IsRead (first_name (drop from names)) [] (tokens_in names tokens) commas followed first second → end ≡ from + first_name_len 0 (drop from names) →
    All (Hold names) tokens → read.place ≡ record { from = from; len = end - from } →
    ((bytes : List ℕ) → tokens_in bytes read.list.tokens.items ≡ tokens_in bytes tokens)
    → ((bytes : List ℕ) → All (Hold bytes) tokens → All (Hold bytes) read.list.tokens.items) →
    read.list.has_commas ≡ ltb 0 followed → read.list.surname ≡ cond (ltb 0 followed) first (length tokens)
    → read.list.jr ≡ cond (ltb 1 followed) (second - first) 0 →
    read.ends_in_comma ≡ ltb followed commas → read.has_third_comma ≡ ltb 2 followed → IsNameAt names from read
name_is_read names from end tokens commas followed first second read is ends_at held place same hold has_commas surname jr ending third = record {
  begins = ap (λ (place : Place). place.from) place;
  len = ap (λ (place : Place). place.len) place ∙ size;
  list = rw whole list;
  held = hold names held;
  ending = rw whole (ending ∙ read_ending name (tokens_in names tokens) commas followed first second is);
  third = rw whole (third ∙ read_third name (tokens_in names tokens) commas followed first second is);
} where
  name : List ℕ
  name = first_name (drop from names)

  size : end - from ≡ first_name_len 0 (drop from names)
  size = omega (arith, ends_at)

  whole : bytes_at names read.place ≡ name
  whole = ap (bytes_at names) place ∙ ap (λ n. take n (drop from names)) size

  all : tokens_in names tokens ≡ tokens_of name
  all = read_tokens name (tokens_in names tokens) commas followed first second is

  count : length tokens ≡ length (tokens_of name)
  count = sym (tokens_counted names tokens) ∙ ap (λ (tokens : List NameToken). length tokens) all

  sections : AreSections (sections_of name) (tokens_of name) followed first second
  sections = read_sections name (tokens_in names tokens) commas followed first second is

  list : IsListOf names read.list (sections_of name)
  list = record {
    tokens = same names ∙ all ∙ sections.tokens;
    commas = has_commas ∙ sections.commas;
    surname = surname ∙ ap (λ n. cond (ltb 0 followed) first n) count ∙ sections.surname;
    jr = jr ∙ sections.jr;
  }
