-- What a parse of the command gives for its options of numbers.
use Rattle.std.proofs.Common.{cond, ◌&&◌, ◌^◌, ◌≡◌, ◌∙◌, ◌<◌, ap, sym, subst, refl, inl, inr, arith, ℕ, zero, suc, Bool, true, false, List, [], ◌∷◌, Option}
use Rattle.std.proofs.Common.{Some, None, map, length, codes}
use Rattle.std.specs.Prelude.{Ok, Err, Result, option_map, slice_get, unwrap_or}
use Rattle.std.specs.List.{All, slice_index_or}
use Rattle.std.specs.Str.{bytes_eq}
use Rattle.std.specs.Borrow.{Bor}
use Rattle.std.specs.Str.Parse.{ParsesUnsigned, digits_value, without_leading_plus}
use Rattle.std.proofs.lemmas.List.{get_or-map, length-map}
use Rattle.std.proofs.lemmas.Option.{none-some}
use Rattle.std.proofs.lemmas.Slice.Eq.{bytes_eq-Decides}
use Rattle.clap.specs.Facts.{args_of, groups_of, Entry, EntryPasses, PassesArg, HasReading, parser_of, parser_of_value}
use Rattle.clap.specs.Built.{IsAuto, IsParsedFrom, NamesNoGroup}
use Rattle.clap.specs.Matches.{matched_of, one_text, found_of, ReadsOne}
use Rattle.clap.specs.Simple.{App, app_of}
use Rattle.clap.specs.Walk.{Rule, is_simple_arg, one_of, rows_of, rule_of}
use Rattle.clap.specs.Values.{IsUnsignedIn, Accepts, read_as, reading_of}
use Rattle.clap.specs.declared.builder.arg.Arg.{Arg}
use Rattle.clap.specs.declared.builder.command.Command.{Command}
use Rattle.clap.specs.declared.builder.command.Command.TheViews.{out-Command}
use Rattle.clap.specs.declared.builder.value_parser.Reading.{Reading}
use Rattle.clap.specs.declared.builder.value_parser.Reading.TheVariants.{AsWritten}
use Rattle.clap.specs.declared.builder.value_parser.ValueParser.{ValueParser}
use Rattle.clap.specs.declared.builder.value_parser.ValueParser.TheVariants.{Unsigned}
use Rattle.clap.specs.declared.parser.matches.ArgMatches.{ArgMatches}
use Rattle.clap.specs.declared.parser.matches.MatchedArg.{MatchedArg}
use Rattle.clap.proofs.SimpleLemmas.{is_false, is_nil}
use Rattle.clap.proofs.CallerLemmas.{entry_by_id, same_rules_by_id}
use Rattle.clap.proofs.WalkLemmas.{one_text-rows}
use Rattle.btx_command.specs.CommandLine.{HasNumbers, IsBibtex, IsGivenFrom, Modes, bibtex_command, job_rule, number_or, rules_with}

both : (a b : Bool) → (a && b) ≡ true → (a ≡ true) × (b ≡ true)
both true true e = (refl, refl)
both true false e = cc
both false b e = cc

-- ---- the command's rules

-- the rule at a place, and JOB's after the last
abbrev rule_at : Modes → ℕ → Rule
rule_at modes k = slice_index_or (rules_with modes) k job_rule

-- the place of the first rule with an id
abbrev place_in : List Rule → List ℕ → ℕ
place_in [] id = 0
place_in (rule ∷ rules) id = cond (bytes_eq rule.id id) 0 (suc (place_in rules id))

-- each rule stands at the place of its id
at_place : (modes : Modes) (k : ℕ) → k < 9 → place_in (rules_with modes) (rule_at modes k).id ≡ k
at_place modes zero low = refl
at_place modes (suc zero) low = refl
at_place modes (suc (suc zero)) low = refl
at_place modes (suc (suc (suc zero))) low = refl
at_place modes (suc (suc (suc (suc zero)))) low = refl
at_place modes (suc (suc (suc (suc (suc zero))))) low = refl
at_place modes (suc (suc (suc (suc (suc (suc zero)))))) low = refl
at_place modes (suc (suc (suc (suc (suc (suc (suc zero))))))) low = refl
at_place modes (suc (suc (suc (suc (suc (suc (suc (suc zero)))))))) low = refl
at_place modes (suc (suc (suc (suc (suc (suc (suc (suc (suc k))))))))) low = absurd (omega (arith, low))

simple_at : (modes : Modes) (k : ℕ) → (rule_at modes k).is_simple ≡ true
simple_at modes zero = refl
simple_at modes (suc zero) = refl
simple_at modes (suc (suc zero)) = refl
simple_at modes (suc (suc (suc zero))) = refl
simple_at modes (suc (suc (suc (suc zero)))) = refl
simple_at modes (suc (suc (suc (suc (suc zero))))) = refl
simple_at modes (suc (suc (suc (suc (suc (suc zero)))))) = refl
simple_at modes (suc (suc (suc (suc (suc (suc (suc zero))))))) = refl
simple_at modes (suc (suc (suc (suc (suc (suc (suc (suc zero)))))))) = refl
simple_at modes (suc (suc (suc (suc (suc (suc (suc (suc (suc k))))))))) = refl

-- an option of numbers: its place, its id and its range
record IsNumberAt (modes : Modes) (k : ℕ) (id : List ℕ) (least most : ℕ) : Type 0 where
  low : k < 9
  named : (rule_at modes k).id ≡ id
  parser : (rule_at modes k).parser ≡ Some (Unsigned least most)
  no_help : bytes_eq id (codes "help") ≡ false
  no_version : bytes_eq id (codes "version") ≡ false
  not_empty : bytes_eq id [] ≡ false

differ : (xs ys : List ℕ) → bytes_eq xs ys ≡ false → xs ≡ ys → ⊥
differ xs ys other same =
    let bad : false ≡ true = sym other ∙ (bytes_eq-Decides xs ys).1 same in
    cc

rules_of_command : (modes : Modes) (c : Command) → app_of c ≡ bibtex_command modes → map rule_of (args_of c) ≡ rules_with modes
unfolding bibtex_command
rules_of_command modes c shape = ap (λ (a : App). a.top.rules) shape

nine : (modes : Modes) (c : Command) → app_of c ≡ bibtex_command modes → length (args_of c) ≡ 9
nine modes c shape = sym (length-map (args_of c) rule_of) ∙ ap length (rules_of_command modes c shape)

-- the command has no group and no global argument
no_groups : (modes : Modes) (c : Command) → app_of c ≡ bibtex_command modes → groups_of c ≡ []
unfolding bibtex_command
no_groups modes c shape = is_nil (groups_of c) (both _ _ (ap (λ (a : App). a.top.is_plain) shape)).0

no_globals : (modes : Modes) (c : Command) → app_of c ≡ bibtex_command modes → (out-Command c).has_globals ≡ false
unfolding bibtex_command
no_globals modes c shape =
    is_false _ (both _ _ (both _ _ (both _ _ (ap (λ (a : App). a.top.is_plain) shape)).1).1).0

-- the rule of the argument at a place
rule_of_arg : (modes : Modes) (c : Command) → app_of c ≡ bibtex_command modes → (k : ℕ) (d : Arg) → k < length (args_of c)
    → rule_at modes k ≡ rule_of (slice_index_or (args_of c) k d)
rule_of_arg modes c shape k d lt =
    subst (λ (rs : List Rule). slice_index_or rs k job_rule ≡ rule_of (slice_index_or (args_of c) k d))
    (rules_of_command modes c shape) (get_or-map rule_of (args_of c) k d job_rule lt)

no_groups_named : (modes : Modes) (c : Command) → app_of c ≡ bibtex_command modes → NamesNoGroup c
no_groups_named modes c shape k d lt =
    let simple : is_simple_arg (slice_index_or (args_of c) k d) ≡ true =
    subst (λ (r : Rule). r.is_simple ≡ true) (rule_of_arg modes c shape k d lt) (simple_at modes k) in
    is_nil (slice_index_or (args_of c) k d).groups.items (both _ _ (both _ _ (both _ _ simple).1).1).0

-- building adds no group
no_built_groups : (modes : Modes) (c : Command) (m : ArgMatches) (p : IsParsedFrom c m) → app_of c ≡ bibtex_command modes → groups_of p.built ≡ []
no_built_groups modes c m p shape = (p.from.same_groups (no_groups_named modes c shape)).1 ∙ no_groups modes c shape

-- ---- an option of numbers in a parse of the command

module _ (modes : Modes) (k : ℕ) (id : List ℕ) (least most : ℕ) (number : IsNumberAt modes k id least most)
    (c : Command) (m : ArgMatches) (p : IsParsedFrom c m) (shape : app_of c ≡ bibtex_command modes) where
  here : k < length (args_of c)
  here = subst (λ n. k < n) (sym (nine modes c shape)) number.low

  id_here : (d : Arg) → (slice_index_or (args_of c) k d).id.now ≡ id
  id_here d = sym (ap (λ (r : Rule). r.id) (rule_of_arg modes c shape k d here)) ∙ number.named

  parser_here : (d : Arg) → (slice_index_or (args_of c) k d).value_parser ≡ Some (Unsigned least most)
  parser_here d = sym (ap (λ (r : Rule). r.parser) (rule_of_arg modes c shape k d here)) ∙ number.parser

  -- no other argument has its id
  only_here : (d : Arg) (j : ℕ) (e : Arg) → j < length (args_of c)
      → bytes_eq (slice_index_or (args_of c) j e).id.now (slice_index_or (args_of c) k d).id.now ≡ true → j ≡ k
  only_here d j e lt same =
      let low : j < 9 = subst (λ n. j < n) (nine modes c shape) lt in
      let at_j : (rule_at modes j).id ≡ (slice_index_or (args_of c) j e).id.now = ap (λ (r : Rule). r.id) (rule_of_arg modes c shape j e lt) in
      let ids : (rule_at modes j).id ≡ (rule_at modes k).id =
      at_j ∙ (bytes_eq-Decides _ _).0 same ∙ id_here d ∙ sym number.named in
      sym (at_place modes j low) ∙ ap (place_in (rules_with modes)) ids ∙ at_place modes k number.low

  own : (d : Arg) → IsAuto (slice_index_or (args_of c) k d) → ⊥
  own d (inl help) = differ id (codes "help") number.no_help (sym (id_here d) ∙ help)
  own d (inr version) = differ id (codes "version") number.no_version (sym (id_here d) ∙ version)

  -- an argument of the built command with its id has its parser
  parser_by_id : (j : ℕ) (x : Arg) → j < length (args_of p.built) → slice_index_or (args_of p.built) j x ≡ x
      → bytes_eq x.id.now id ≡ true → parser_of x ≡ Unsigned least most
  parser_by_id j x high at same =
      let same_id = subst (λ (t : List ℕ). bytes_eq x.id.now t ≡ true) (sym (id_here x)) same in
      let s = same_rules_by_id c m p k x here (only_here x) (own x) j x high at same_id in
      ap parser_of_value (s.parser (Unsigned least most) (parser_here x))

  passes : (text : List ℕ) → PassesArg p.built id text → IsUnsignedIn least most text
  passes text pass =
      subst (λ (q : ValueParser). Accepts pass.1.ignore_case q text) (parser_by_id pass.0 pass.1 pass.2 pass.3 pass.4.0) pass.4.1

  reads : (how : Reading) → HasReading p.built id how → how ≡ AsWritten
  reads how any = sym any.4.1 ∙ ap reading_of (parser_by_id any.0 any.1 any.2 any.3 any.4.0)

  -- the values of its entry pass, and are read as they are written
  entry_passes : (e : Entry) → e.0.now ≡ id → EntryPasses p.built e
      → All (λ v. IsUnsignedIn least most v.now) e.1.vals.items × (e.1.reading ≡ AsWritten)
  entry_passes e same pass = (
    elim pass.0 [
      | inl g ↦ absurd (no_group g)
      | inr all ↦ λ i d lt. passes (slice_index_or e.1.vals.items i d).now
          (subst (λ (w : List ℕ). PassesArg p.built w (slice_index_or e.1.vals.items i d).now) same (all i d lt))
    ],
    elim pass.4 [
      | inl g ↦ absurd (no_group g)
      | inr h ↦ reads e.1.reading (subst (λ (w : List ℕ). HasReading p.built w e.1.reading) same h)
    ],
  )
    where
      no_group : e.1.is_group ≡ true → ⊥
      no_group g = elim (pass.3 g) [
        | inl empty ↦ differ id [] number.not_empty (sym same ∙ empty)
        | inr lots ↦
            let none : length (groups_of p.built) ≡ 0 = ap length (no_built_groups modes c m p shape) in
            absurd (omega (arith, none))
      ]

  -- the first of the values that pass
  first_passes : (vs : List (Bor (List ℕ))) (how : Reading) (text : List ℕ) → All (λ v. IsUnsignedIn least most v.now) vs → how ≡ AsWritten
      → option_map (λ (s : Bor (List ℕ)). read_as how s.now) (slice_get vs 0) ≡ Some text → IsUnsignedIn least most text
  first_passes [] how text all is first = absurd (none-some _ first)
  first_passes (v ∷ vs) how text all is first =
      let written : Some v.now ≡ Some text = rw is at first in
      subst (IsUnsignedIn least most) (ap (λ (o : Option (List ℕ)). unwrap_or o []) written) (all 0 v (omega arith))

  -- the text that is read lies in the range
  text_passes : (text : List ℕ) → one_text (found_of m) id ≡ Some text → IsUnsignedIn least most text
  text_passes text one = go (matched_of (found_of m) id) refl one
    where
      step : (x : MatchedArg) → option_map (λ (s : Bor (List ℕ)). read_as x.reading s.now) (slice_get x.vals.items 0) ≡ Some text
          → ((e : Entry) × (e.1 ≡ x) × (bytes_eq e.0.now id ≡ true) × EntryPasses p.built e) → IsUnsignedIn least most text
      step x first got =
          let facts = entry_passes got.0 ((bytes_eq-Decides got.0.0.now id).0 got.2) got.3 in
          first_passes x.vals.items x.reading text
          (subst (λ (y : MatchedArg). All (λ v. IsUnsignedIn least most v.now) y.vals.items) got.1 facts.0)
          (subst (λ (y : MatchedArg). y.reading ≡ AsWritten) got.1 facts.1) first

      go : (o : Option MatchedArg) → matched_of (found_of m) id ≡ o → one_text (found_of m) id ≡ Some text → IsUnsignedIn least most text
      go None e h =
          let none : None ≡ Some text = rw e at h in
          absurd (none-some _ none)
      go (Some x) e h =
          let parsed = p.parsed (p.from.globals ∙ no_globals modes c shape) in
          step x (rw e at h) (entry_by_id (EntryPasses p.built) (found_of m).entries.items id x parsed.values e)

  given_from : IsGivenFrom least most id (rows_of (found_of m))
  given_from text one = text_passes text (one_text-rows (found_of m) id ∙ one)

-- a parse of the command gives its options numbers in their ranges
pub has_numbers : (c : Command) (m : ArgMatches) → IsParsedFrom c m → IsBibtex (app_of c) → HasNumbers (rows_of (found_of m))
has_numbers c m p is = record {
  min_crossrefs = given_from is.0 0 (codes "min-crossrefs") 0 2147483647 (from 0 (codes "min-crossrefs") 0 2147483647 (omega arith) refl refl refl refl refl) c
      m p is.2;
  budget = given_from is.0 1 (codes "budget") 0 1000000000000000 (from 1 (codes "budget") 0 1000000000000000 (omega arith) refl refl refl refl refl) c m p is.2;
  line = given_from is.0 5 (codes "line") 20 1000 (from 5 (codes "line") 20 1000 (omega arith) refl refl refl refl refl) c m p is.2;
  entry_max = given_from is.0 6 (codes "entry-max") 1 1000000 (from 6 (codes "entry-max") 1 1000000 (omega arith) refl refl refl refl refl) c m p is.2;
  global_max = given_from is.0 7 (codes "global-max") 1 1000000 (from 7 (codes "global-max") 1 1000000 (omega arith) refl refl refl refl refl) c m p is.2;
}
  where
    from : (k : ℕ) (id : List ℕ) (least most : ℕ) → k < 9 → (rule_at is.0 k).id ≡ id → (rule_at is.0 k).parser ≡ Some (Unsigned least most)
        → bytes_eq id (codes "help") ≡ false → bytes_eq id (codes "version") ≡ false → bytes_eq id [] ≡ false → IsNumberAt is.0 k id least most
    from k id least most low named parser no_help no_version not_empty = record {
      low = low;
      named = named;
      parser = parser;
      no_help = no_help;
      no_version = no_version;
      not_empty = not_empty;
    }

-- ---- what is read of a text

-- a text of a range reads as its number
unsigned_reads : {E : Type 0} (G : List ℕ → Result ℕ E → Type 0) (bits least most : ℕ) (text : List ℕ) (r : Option ℕ) → ReadsOne G text r
    → ((u : List ℕ) (x : Result ℕ E) → G u x → ParsesUnsigned bits 10 u x) → most < 2 ^ bits → IsUnsignedIn least most text
    → r ≡ Some (digits_value 10 (without_leading_plus text))
unsigned_reads G bits least most text (Some n) read only fits passed = ap (λ (v : ℕ). Some v) (only text (Ok n) read).1
unsigned_reads G bits least most text None read only fits passed =
    let small : digits_value 10 (without_leading_plus text) < 2 ^ bits = omega (arith, fits, passed.3) in
    absurd (only text (Err read.0) read.1 (passed.0, small))

either_reads : {E : Type 0} (G : List ℕ → Result ℕ E → Type 0) (bits least most usual : ℕ) (given : Option (List ℕ)) (r : Option ℕ)
    → (given ≡ None → r ≡ None) → ((t : List ℕ) → given ≡ Some t → ReadsOne G t r)
    → ((u : List ℕ) (x : Result ℕ E) → G u x → ParsesUnsigned bits 10 u x) → most < 2 ^ bits
    → ((t : List ℕ) → given ≡ Some t → IsUnsignedIn least most t) → unwrap_or r usual ≡ number_or usual given
either_reads G bits least most usual None r none value only fits passed = ap (λ (o : Option ℕ). unwrap_or o usual) (none refl)
either_reads G bits least most usual (Some t) r none value only fits passed =
    ap (λ (o : Option ℕ). unwrap_or o usual) (unsigned_reads G bits least most t r (value t refl) only fits (passed t refl))

-- what is read of an option whose text lies in a range
pub number_reads : {E : Type 0} (G : List ℕ → Result ℕ E → Type 0) (bits least most usual : ℕ) (m : ArgMatches) (id : List ℕ) (r : Option ℕ)
    → (one_text (found_of m) id ≡ None → r ≡ None) → ((t : List ℕ) → one_text (found_of m) id ≡ Some t → ReadsOne G t r)
    → ((u : List ℕ) (x : Result ℕ E) → G u x → ParsesUnsigned bits 10 u x) → most < 2 ^ bits
    → IsGivenFrom least most id (rows_of (found_of m)) → unwrap_or r usual ≡ number_or usual (one_of id (rows_of (found_of m)))
number_reads G bits least most usual m id r none value only fits given =
    either_reads G bits least most usual (one_text (found_of m) id) r none value only fits
    (λ t one. given t (sym (one_text-rows (found_of m) id) ∙ one))
    ∙ ap (number_or usual) (one_text-rows (found_of m) id)

-- a value, or what stands in its place
pub text_or : (o : Option (Bor (List ℕ))) (other : Bor (List ℕ)) (v : Option (List ℕ)) → option_map (λ (s : Bor (List ℕ)). s.now) o ≡ v
    → (unwrap_or o other).now ≡ unwrap_or v other.now
text_or None other v same = ap (λ (w : Option (List ℕ)). unwrap_or w other.now) same
text_or (Some x) other v same = ap (λ (w : Option (List ℕ)). unwrap_or w other.now) same
