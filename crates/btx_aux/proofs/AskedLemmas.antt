-- The names that a reading of `.aux` files asks for.
use Rattle.std.proofs.Common.{◌≡◌, ℕ, zero, suc, ◌-◌, ◌≤◌, ◌&&◌, not, Bool, true, false, if◌then◌else◌, List, [], ◌∷◌, ◌++◌, map, fold, Option, None, Some, inl}
use Rattle.std.proofs.Common.{inr, refl, sym, ap, ◌∙◌, arith, subst, append_assoc, append-nil}
use Rattle.std.specs.Prelude.{codes}
use Rattle.std.specs.List.{IsDistinct}
use Rattle.std.specs.Option.{option_or}
use Rattle.std.specs.Str.{bytes_eq}
use Rattle.std.proofs.lemmas.Cmp.{nat_list_eq_equiv}
use Rattle.std.proofs.lemmas.Map.Keys.{IsDistinct-push}
use Rattle.btx_aux.specs.declared.draft.AuxJobBuilder.{AuxJobBuilder}
use Rattle.btx_aux.specs.declared.command.Command.{Command}
use Rattle.btx_aux.specs.declared.command.Command.TheVariants.{Citation, Bibdata, Bibstyle, Input}
use Rattle.btx_aux.specs.refinement.Answers.{AsksTop, AsksTopAtMost}
use Rattle.btx_aux.specs.language.Names.{has_ending, with_name_once}
use Rattle.btx_aux.specs.language.Grammar.{Piece, Taken, Cut, Cites, Includes, Opens, Absent, words_of, words_of_command, pieces_of}
use Rattle.btx_aux.specs.language.Events.{event_at, named_by, asked_of}
use Rattle.btx_aux.specs.refinement.Drafts.{blank, learned, learned_words, asked_in}
use Rattle.btx_aux.specs.refinement.Reads.{AddsNames, AsksFirst, AsksNew, AsksOneAtMost, names_opened}
use Rattle.btx_aux.proofs.AnswerLemmas.{all-both}
use Rattle.btx_aux.proofs.DraftLemmas.{asked_in-Cites}
use Rattle.btx_text.specs.language.Lists.{is_among}
use Rattle.btx_aux.specs.refinement.Grammar.{piece_of, words_at}

abbrev Names : Type 0
Names = List (List ℕ)

-- ---- parts

pub adds_none : (before after : Names) → after ≡ before → AddsNames before after []
adds_none before after is = record {
  added = is ∙ sym (append-nil before);
  once = subst (λ (names : Names). IsDistinct bytes_eq names) (sym is);
  endings = tt;
}

pub adds_both : (before between after xs ys : Names) → AddsNames before between xs → AddsNames between after ys → AddsNames before after (xs ++ ys)
adds_both before between after xs ys first second = record {
  added = second.added ∙ ap (λ (names : Names). names ++ ys) first.added ∙ append_assoc before xs ys;
  once = λ distinct. second.once (first.once distinct);
  endings = all-both _ xs ys first.endings second.endings;
}

-- ---- parts up to a fault

pub new_none : (known : Names) → AsksNew known []
new_none known = record {
  once = subst (λ (names : Names). IsDistinct bytes_eq names) (sym (append-nil known));
  endings = tt;
}

pub new_behind : (before between xs ys : Names) → AddsNames before between xs → AsksNew between ys → AsksNew before (xs ++ ys)
new_behind before between xs ys adds new = record {
  once = λ distinct. subst (λ (names : Names). IsDistinct bytes_eq names) (ap (λ (names : Names). names ++ ys) adds.added ∙ append_assoc before xs ys)
      (new.once (adds.once distinct));
  endings = all-both _ xs ys adds.endings new.endings;
}

-- ---- a line

-- what a line makes of the names that are known: it asks for no file, or for a new one, whose name is known from then on
abbrev Grows : Names → Option (List ℕ) → Names → Type 0
Grows before None after = after ≡ before
Grows before (Some name) after = (after ≡ before ++ name ∷ []) × (has_ending (codes ".aux") name ≡ true) × (is_among before name ≡ false)

module _ (file : List ℕ) (line : ℕ) where
  cites_names : (draft : AuxJobBuilder) (pieces : List Piece) → (learned_words file line draft (map Cites pieces)).files ≡ draft.files
  unfolding learned
  cites_names draft [] = refl
  cites_names draft (piece ∷ pieces) = cites_names (learned draft (event_at file line (Cites piece))) pieces

  input_grows : (draft : AuxJobBuilder) (piece : Piece) → Grows draft.files (option_or (asked_of draft.files (Includes piece)) None)
      (learned draft (event_at file line (Includes piece))).files
  unfolding learned
  input_grows draft (Taken name) = by_ending (has_ending (codes ".aux") name) (is_among draft.files name) refl refl where
    by_ending : (ends there : Bool) → has_ending (codes ".aux") name ≡ ends → is_among draft.files name ≡ there
        → Grows draft.files (option_or (if ends && not there then Some name else None) None) (fold with_name_once draft.files (if ends then name ∷ [] else []))
    by_ending true true ending among = ap (λ (b : Bool). if b then draft.files else draft.files ++ name ∷ []) among
    by_ending true false ending among = (ap (λ (b : Bool). if b then draft.files else draft.files ++ name ∷ []) among, ending, among)
    by_ending false there ending among = refl
  input_grows draft (Cut slip) = refl

  command_grows : (draft : AuxJobBuilder) (command : Option Command) (argument : List ℕ) → Grows draft.files (asked_in draft.files (words_of_command command argument))
      (learned_words file line draft (words_of_command command argument)).files
  unfolding learned
  command_grows draft None argument = refl
  command_grows draft (Some Citation) argument =
      subst (λ (asked : Option (List ℕ)). Grows draft.files asked (learned_words file line draft (map Cites (pieces_of true argument))).files)
      (sym (asked_in-Cites draft.files (pieces_of true argument))) (cites_names draft (pieces_of true argument))
  command_grows draft (Some Bibdata) argument = refl
  command_grows draft (Some Bibstyle) argument = refl
  command_grows draft (Some Input) argument = input_grows draft (piece_of argument)

  grows_at : (draft : AuxJobBuilder) (brace : Option ℕ) (text : List ℕ)
      → Grows draft.files (asked_in draft.files (words_at brace text)) (learned_words file line draft (words_at brace text)).files
  grows_at draft None text = refl
  grows_at draft (Some brace) text = command_grows draft _ _

  line_grows : (draft : AuxJobBuilder) (text : List ℕ) → Grows draft.files (asked_in draft.files (words_of text)) (learned_words file line draft (words_of text)).files
  unfolding words_of
  line_grows draft text = grows_at draft _ text

  -- a line that asks for no file
  pub quiet_adds : (draft after : AuxJobBuilder) (text : List ℕ) → after ≡ learned_words file line draft (words_of text) → None ≡ asked_in draft.files (words_of text)
      → AddsNames draft.files after.files []
  quiet_adds draft after text is none =
      let grows : Grows draft.files None (learned_words file line draft (words_of text)).files =
      subst (λ (asked : Option (List ℕ)). Grows draft.files asked (learned_words file line draft (words_of text)).files) (sym none) (line_grows draft text) in
      adds_none draft.files after.files (ap (λ (d : AuxJobBuilder). d.files) is ∙ grows)

  -- a line that asks for one: its name is new
  asking_one : (draft between : AuxJobBuilder) (text name : List ℕ) → between ≡ learned_words file line draft (words_of text)
      → Some name ≡ asked_in draft.files (words_of text) → AddsNames draft.files between.files (name ∷ [])
  asking_one draft between text name is asked =
      let grows : Grows draft.files (Some name) (learned_words file line draft (words_of text)).files =
      subst (λ (asked : Option (List ℕ)). Grows draft.files asked (learned_words file line draft (words_of text)).files) (sym asked) (line_grows draft text) in
      let named : between.files ≡ draft.files ++ name ∷ [] = ap (λ (d : AuxJobBuilder). d.files) is ∙ grows.0 in
      record {
        added = named;
        once = λ distinct. subst (λ (names : Names). IsDistinct bytes_eq names) (sym named)
            (IsDistinct-push nat_list_eq_equiv draft.files name distinct grows.2);
        endings = (grows.1, tt);
      }

  pub asking_adds : (draft between after : AuxJobBuilder) (text name : List ℕ) → between ≡ learned_words file line draft (words_of text)
      → Some name ≡ asked_in draft.files (words_of text)
      → (names : Names) → AsksFirst name between.files after.files names → AddsNames draft.files after.files names
  asking_adds draft between after text name is asked names first =
      subst (AddsNames draft.files after.files) (sym first.is)
      (adds_both draft.files between.files after.files (name ∷ []) first.later (asking_one draft between text name is asked) first.adds)

  -- the same up to a fault
  pub asking_new : (draft between : AuxJobBuilder) (text name : List ℕ) → between ≡ learned_words file line draft (words_of text)
      → Some name ≡ asked_in draft.files (words_of text)
      → (names : Names) → AsksOneAtMost name between.files names → AsksNew draft.files names
  asking_new draft between text name is asked names (inl none) = subst (AsksNew draft.files) (sym none) (new_none draft.files)
  asking_new draft between text name is asked names (inr one) =
      subst (AsksNew draft.files) (sym one.is) (new_behind draft.files between.files (name ∷ []) one.later (asking_one draft between text name is asked)
      one.new)

-- ---- a file

-- a file that isn't there
pub missing_asks : (draft after : AuxJobBuilder) (file : List ℕ) (line : ℕ) (name : List ℕ) → after ≡ learned draft (event_at file line (Absent name))
    → (names : Names) → names ≡ name ∷ [] → AsksFirst name draft.files after.files names
unfolding learned
missing_asks draft after file line name is names asked =
    record { later = []; is = asked; adds = adds_none draft.files after.files (ap (λ (d : AuxJobBuilder). d.files) is) }

inside_opens : (before : Names) (name : List ℕ) (room : ℕ) → room ≤ 19 → names_opened before name room ≡ before
inside_opens before name room le = by (20 - room) (omega arith) where
  by : (level : ℕ) → (level ≡ 0 → ⊥) → fold with_name_once before (named_by name (Opens level)) ≡ before
  by zero some = absurd (some refl)
  by (suc level) some = refl

-- one that is, and isn't the top one
pub found_asks : (before after : Names) (name : List ℕ) (room : ℕ) → room ≤ 19
    → (xs ys : Names) → xs ≡ name ∷ [] → AddsNames (names_opened before name room) after ys → AsksFirst name before after (xs ++ ys)
found_asks before after name room le xs ys asked adds = record {
  later = ys;
  is = ap (λ (names : Names). names ++ ys) asked;
  adds = subst (λ (names : Names). AddsNames names after ys) (inside_opens before name room le) adds;
}

-- one that has no room
pub full_adds : (before : Names) (name : List ℕ) (room : ℕ) → room ≡ 0 → AddsNames (names_opened before name room) before []
full_adds before name room none = adds_none (names_opened before name room) before (sym (inside_opens before name room (omega arith)))

-- one that is opened
pub opened_names : (draft after : AuxJobBuilder) (name : List ℕ) (room : ℕ) → after ≡ learned draft (event_at name 0 (Opens (20 - room)))
    → after.files ≡ names_opened draft.files name room
unfolding learned
opened_names draft after name room is = ap (λ (d : AuxJobBuilder). d.files) is

pub long_adds : (draft after : AuxJobBuilder) (name : List ℕ) (room : ℕ) → after ≡ learned draft (event_at name 0 (Opens (20 - room)))
    → AddsNames (names_opened draft.files name room) after.files []
long_adds draft after name room is = adds_none _ after.files (opened_names draft after name room is)

pub read_adds : (draft between after : AuxJobBuilder) (name : List ℕ) (room : ℕ) → between ≡ learned draft (event_at name 0 (Opens (20 - room)))
    → (names : Names) → AddsNames between.files after.files names → AddsNames (names_opened draft.files name room) after.files names
read_adds draft between after name room is names adds = subst (λ (before : Names). AddsNames before after.files names) (opened_names draft between name room is)
    adds

-- the same up to a fault
pub one_alone : (name : List ℕ) (known names : Names) → names ≡ name ∷ [] → AsksOneAtMost name known names
one_alone name known names is = inr (record { later = []; is = is; new = new_none known })

pub one_found : (known : Names) (name : List ℕ) (room : ℕ) → room ≤ 19
    → (xs ys : Names) → xs ≡ name ∷ [] → AsksNew (names_opened known name room) ys → AsksOneAtMost name known (xs ++ ys)
one_found known name room le xs ys asked new = inr (record {
  later = ys;
  is = ap (λ (names : Names). names ++ ys) asked;
  new = subst (λ (known : Names). AsksNew known ys) (inside_opens known name room le) new;
})

pub read_new : (draft between : AuxJobBuilder) (name : List ℕ) (room : ℕ) → between ≡ learned draft (event_at name 0 (Opens (20 - room)))
    → (names : Names) → AsksNew between.files names → AsksNew (names_opened draft.files name room) names
read_new draft between name room is names new = subst (λ (known : Names). AsksNew known names) (opened_names draft between name room is) new

-- ---- the top file

distinct-one : (name : List ℕ) → IsDistinct bytes_eq (name ∷ [])
unfolding IsDistinct
distinct-one name = (tt, tt)

pub top_missing : (top : List ℕ) (names : Names) → names ≡ top ∷ [] → AsksTop top names
top_missing top names is = record { later = []; is = is; once = subst (λ (names : Names). IsDistinct bytes_eq names) (sym is) (distinct-one top); endings = tt }

pub top_found : (top : List ℕ) (draft : AuxJobBuilder) (after : Names) → draft ≡ blank
    → (xs ys : Names) → xs ≡ top ∷ [] → AddsNames (names_opened draft.files top 20) after ys → AsksTop top (xs ++ ys)
top_found top draft after none xs ys asked adds =
    let adds' : AddsNames (top ∷ []) after ys = subst (λ (d : AuxJobBuilder). AddsNames (names_opened d.files top 20) after ys) none adds in
    let whole : xs ++ ys ≡ top ∷ ys = ap (λ (names : Names). names ++ ys) asked in
    record {
      later = ys;
      is = whole;
      once = subst (λ (names : Names). IsDistinct bytes_eq names) (adds'.added ∙ sym whole) (adds'.once (distinct-one top));
      endings = adds'.endings;
    }

-- the same up to a fault
pub top_begun : (top : List ℕ) (draft : AuxJobBuilder) → draft ≡ blank → (xs ys : Names) → xs ≡ top ∷ [] → AsksNew (names_opened draft.files top 20) ys
    → AsksTopAtMost top (xs ++ ys)
top_begun top draft none xs ys asked new =
    let new' : AsksNew (top ∷ []) ys = subst (λ (d : AuxJobBuilder). AsksNew (names_opened d.files top 20) ys) none new in
    let whole : xs ++ ys ≡ top ∷ ys = ap (λ (names : Names). names ++ ys) asked in
    inr (record {
      later = ys;
      is = whole;
      once = subst (λ (names : Names). IsDistinct bytes_eq names) (sym whole) (new'.once (distinct-one top));
      endings =
          new'.endings;
    })
