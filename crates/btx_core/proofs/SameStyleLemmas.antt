-- The style of a text with numbers, and the one in names, are the same.
use Rattle.std.proofs.Common.{◌≡◌, ℕ, List, [], ◌∷◌, Option, None, Some, option_map, unwrap_or, sym, ap, subst, refl, inl, inr, arith}
use Rattle.std.specs.Option.{option_or}
use Rattle.std.specs.Prelude.{codes}
use Rattle.btx_bst.specs.declared.built_in.BuiltIn.{BuiltIn}
use Rattle.btx_bst.specs.declared.callee.Callee.TheVariants as callee
use Rattle.btx_bst.specs.declared.callee.Kind.TheVariants as kind
use Rattle.btx_bst.specs.language.BuiltIns.{built_in_of, built_ins}
use Rattle.btx_bst.specs.language.Complaints.{Complaint}
use Rattle.btx_bst.specs.language.Names.{named_lower}
use Rattle.btx_bst.specs.language.Outcomes.{CommandOutcome}
use Rattle.btx_bst.specs.language.Places.{Place}
use Rattle.btx_bst.specs.language.Predefined.{predefined}
use Rattle.btx_bst.specs.language.Style.{as_type, type_of}
use Rattle.btx_bst.specs.language.Style.{Style as NumberedStyle}
use Rattle.btx_bst.specs.language.StyleText.{StyleState, style_state, style_of}
use Rattle.btx_bst.specs.laws.CommandSpelling as numbered
use Rattle.btx_bst.specs.laws.Names.{no_names}
use Rattle.btx_bst.specs.laws.Places.{beginning}
use Rattle.btx_bst.specs.laws.StyleText.{unread_style}
use Rattle.btx_bst.specs.laws.TokenSpelling.{Gap, LettersHere}
use Rattle.btx_bst.proofs.CommandSpellingLemmas.{style-read}
use Rattle.btx_bst.proofs.TokenSpellingLemmas.{gap_one}
use Rattle.btx_core.specs.laws.SameStyles.{numbers_of, IsMeant, IsSameStyle, OneStyle, SameStyle}
use Rattle.btx_core.specs.language.Styles.{Built, Function, Style}
use Rattle.btx_core.specs.language.StyleTexts.{SoFar, initial_style, and_says, CommandEnd, ended_at, Next, CommandNamed, FollowsOn, AreCommands, is_a_field}
use Rattle.btx_core.proofs.StyleLemmas.{style_one}
use Rattle.btx_core.proofs.StyleThere.{there_is_style, gap_again}
use Rattle.btx_core.proofs.SameRuleLemmas.{SameSoFar, SameTypes, SameEnd, lower_meaning, and_messages, declares, own, word_agree}

-- ---- before anything is read

-- a style without a name
abbrev bare : List ℕ → NumberedStyle
bare file = unread_style file no_names

abbrev bare_so_far : List ℕ → SoFar
bare_so_far file = record (initial_style file) { names = λ name. None }

bare_names : (file : List ℕ) (name : List ℕ) → IsMeant (numbers_of (bare file) []) (named_lower no_names name) (lower_meaning (λ name. None) name)
unfolding named_lower
bare_names file name = by (built_in_of name) where
  by : (b : Option BuiltIn) → IsMeant (numbers_of (bare file) []) (option_or (option_map callee.BuiltIn b) None) (option_or (option_map Built b) None)
  by None = refl
  by (Some b) = (Built b, refl, refl)

same_bare : (file : List ℕ) → SameSoFar (bare file) (bare_so_far file)
same_bare file = record {
  functions = [];
  file = refl;
  defined = refl;
  commands = refl;
  names = bare_names file;
  apart = λ name f e. refl;
  macros = refl;
  has_entry = refl;
  types = refl;
  named_first = omega arith;
  behind = tt;
}

same_unread : (file : List ℕ) → SameSoFar (unread_style file predefined) (initial_style file)
unfolding named_lower built_in_of built_ins
same_unread file =
    declares kind.Field (codes "crossref") _ _
    (declares kind.EntryString (codes "sort.key$") _ _
    (declares kind.GlobalInteger (codes "global.max$") _ _
    (declares kind.GlobalInteger (codes "entry.max$") (bare file) (bare_so_far file) (same_bare file) refl) refl) refl) refl

-- ---- commands

-- a command that stands here
command_agree : (s : NumberedStyle) (t : SoFar) (here : Place) (o : CommandOutcome) → SameSoFar s t → Gap here here → numbered.CommandHere s here o
    → (e : CommandEnd) × Next LettersHere CommandNamed t here e × SameEnd o e
command_agree s t here o h g (inl k) = let r = word_agree k.0 s t k.1 o h tt k.3 in (r.0, inl (k.0, k.1, (here, g, k.2), r.1), r.2)
command_agree s t here o h g (inr k) = (
  ended_at (Some k.0) t k.1,
  inr (k.0, k.1, (here, g, k.2), refl),
  subst (λ (o : CommandOutcome). SameEnd o (ended_at (Some k.0) t k.1)) (sym k.3)
      (record { wrong = refl; style = h; place = refl }),
)

-- how far the reading has come after a command
abbrev Behind : Option Complaint → CommandEnd → StyleState → Type 0
Behind wrong e next = (t : SoFar) × (p : Place) × FollowsOn e wrong t p × SameSoFar next.style t × (p ≡ next.place)

behind : (wrong : Option Complaint) (s : NumberedStyle) (place : Place) (next : StyleState) (e : CommandEnd) → numbered.GoesOn wrong s place next
    → SameSoFar s e.style → e.place ≡ place → Behind wrong e next
behind None s place next e k h same = subst (Behind None e) (sym k) (e.style, e.place, (refl, refl), h, same)
behind (Some c) s place next e k h same =
    let said = and_messages s e.style ((c, place.number) ∷ []) h in
    subst (Behind (Some c) e) (sym k.2)
    (_, k.0, (subst (λ p. numbered.Skips p k.0) (sym same) k.1, ap (λ (p : Place). and_says_at c p.number e.style) (sym same)), said, refl) where
      and_says_at : Complaint → ℕ → SoFar → SoFar
      and_says_at c n t = and_says ((c, n) ∷ []) t

commands_agree : (os : List CommandOutcome) (from : StyleState) (end : NumberedStyle) (t : SoFar) → SameSoFar from.style t → numbered.IsStyle os from end
    → (es : List CommandEnd) × (last : SoFar) × AreCommands es t from.place last × SameSoFar end last
commands_agree [] from end t h k = ([], t, (k.0, k.1, k.2, refl), subst (λ s. SameSoFar s t) k.3 h)
commands_agree (o ∷ os) from end t h k =
    let here = k.0 in
    let next = k.1 in
    let again : Gap here here = subst (λ p. Gap p p) (gap_one from.place here k.2) (gap_again from.place) in
    let c = command_agree from.style t here o h again k.4 in
    let e = c.0 in
    let b = behind o.complaint o.style o.place next e k.5 c.2.style c.2.place in
    let rest = commands_agree os next end b.0 b.3 k.6 in (
      e ∷ rest.0,
      rest.1,
      (here, k.2, k.3, c.1, b.0, b.1, subst (λ w. FollowsOn e w b.0 b.1) (sym c.2.wrong) b.2, subst (λ p. AreCommands rest.0 b.0 p rest.1) (sym b.4) rest.2),
      rest.3,
    )

-- ---- the style

abbrev style_at : SoFar → Style
style_at end = record {
  commands = end.commands;
  is_field = λ name. is_a_field (end.names name);
  macros = end.macros;
  types = unwrap_or end.types (λ name. None);
}

type_same : (s : NumberedStyle) (t : SoFar) (h : SameSoFar s t) (name : List ℕ) → IsMeant (numbers_of s h.functions) (option_map callee.User (type_of s name))
    (unwrap_or t.types (λ name. None) name)
type_same s t h name = by s.before_read h.types where
  by : (before : Option ℕ) → SameTypes (numbers_of s h.functions) s.names before t.types
      → IsMeant (numbers_of s h.functions) (option_map callee.User (as_type before (named_lower s.names name))) (unwrap_or t.types (λ name. None) name)
  by None k = ap (λ (types : Option (List ℕ → Option Function)). unwrap_or types (λ name. None) name) k
  by (Some count) k =
      subst (λ (types : Option (List ℕ → Option Function)). IsMeant (numbers_of s h.functions)
      (option_map callee.User (as_type (Some count) (named_lower s.names name))) (unwrap_or types (λ name. None) name)) (sym k.1) (k.2 name)

same_at : (s : NumberedStyle) (t : SoFar) → SameSoFar s t → IsSameStyle s (style_at t)
same_at s t h = record {
  functions = h.functions;
  defined = h.defined;
  commands = h.commands;
  macros = h.macros;
  fields = λ name. (own s t h name).of_field;
  types = type_same s t h;
}

pub same_style : SameStyle
same_style file text style k =
    let read = style-read file text in
    let c = commands_agree read.0 (style_state (unread_style file predefined) (beginning text)) (style_of file text) (initial_style file) (same_unread file) read.1 in
    let same = style_one file text (style_at c.1) style (c.0, c.1, c.2, refl) k in
    subst (IsSameStyle (style_of file text)) same (same_at (style_of file text) c.1 c.3)

pub one_style : OneStyle
one_style file text = let there = there_is_style file text in (there.0, there.1, λ other k. style_one file text other there.0 k there.1)
