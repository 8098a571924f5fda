-- Strings are divided in one way.
use Rattle.std.proofs.Common.{◌≡◌, ℕ, ◌<◌, ◌==◌, ◌⊎◌, inl, inr, Bool, true, false, ◌&&◌, List, [], ◌∷◌, ◌++◌, length, Option, None, Some, sym, ap, ap₂, subst}
use Rattle.std.proofs.Common.{◌∙◌, refl, arith, append_assoc, true≢false}
use Rattle.std.specs.List.{list_all}
use Rattle.std.specs.Str.{byte}
use Rattle.btx_text.specs.declared.element_kind.TextMode.{TextMode}
use Rattle.btx_text.specs.language.Elements.{Element, depth_of}
use Rattle.btx_text.proofs.DivisionLemmas.{elements_of-only}
use Rattle.btx_strings.proofs.ReadingLemmas.{glyphs_of-only}
use Rattle.btx_bib.specs.language.Grammar.ByteSets.{begins}
use Rattle.btx_names.specs.declared.name_tokens.TokenSeparator.TheVariants.{Hyphen}
use Rattle.btx_names.specs.language.Runs.{is_break}
use Rattle.btx_names.specs.language.Tokens.{NameToken, joint_of}
use Rattle.btx_names.specs.language.Formats.{FormatItem}
use Rattle.btx_names.specs.language.NameParts.{NameParts, Sections, One, Two, Three, is_hyphen}
use Rattle.btx_names.proofs.WrittenLemmas.{written_items}
use Rattle.btx_core.specs.language.Divisions.{Divisions}
use Rattle.btx_text.specs.declared.element_kind.TextMode.TheVariants.{Bytes}
use Rattle.btx_names.specs.language.VonTokens.{first_is_lower}
use Rattle.btx_names.specs.language.NameParts.{cut_again}
use Rattle.std.specs.Option.{option_map_or}
use Rattle.btx_core.specs.language.Names.{IsUpTo, AreNames, AreTokens, IsCut, sections, is_von, HaveNoVon, AreVonLast, HasVon, HasNoVon, AreNameParts, IsFormat}
use Rattle.btx_core.specs.language.Names.{AreDivisions}

-- ---- two ways to cut a list

module _ {X : Type 0} where
  abbrev Compared : List X → List X → List X → List X → Type 0
  Compared a b c d =
      ((a ≡ c) × (b ≡ d))
      ⊎ (((x : X) × (m : List X) × (c ≡ a ++ x ∷ m) × (b ≡ x ∷ m ++ d)) ⊎ ((x : X) × (m : List X) × (a ≡ c ++ x ∷ m) × (d ≡ x ∷ m ++ b)))

  further_on : (x y : X) (a b c d : List X) → x ≡ y → Compared a b c d → Compared (x ∷ a) b (y ∷ c) d
  further_on x y a b c d e (inl h) = inl (ap₂ (λ u v. u ∷ v) e h.0, h.1)
  further_on x y a b c d e (inr (inl h)) = inr (inl (h.0, h.1, ap₂ (λ u v. u ∷ v) (sym e) h.2, h.3))
  further_on x y a b c d e (inr (inr h)) = inr (inr (h.0, h.1, ap₂ (λ u v. u ∷ v) e h.2, h.3))

  first_is : (x y : X) (a b : List X) → x ∷ a ≡ y ∷ b → x ≡ y
  first_is x y a b e = cc

  rest_is : (x y : X) (a b : List X) → x ∷ a ≡ y ∷ b → a ≡ b
  rest_is x y a b e = cc

  compare : (a b c d : List X) → a ++ b ≡ c ++ d → Compared a b c d
  compare [] b [] d e = inl (refl, e)
  compare [] b (x ∷ c) d e = inr (inl (x, c, refl, e))
  compare (x ∷ a) b [] d e = inr (inr (x, a, refl, sym e))
  compare (x ∷ a) b (y ∷ c) d e = further_on x y a b c d (first_is x y (a ++ b) (c ++ d) e) (compare a b c d (rest_is x y (a ++ b) (c ++ d) e))

  -- the final element of a list that has one
  final : (x : X) (m : List X) → (left : List X) × (y : X) × (x ∷ m ≡ left ++ y ∷ [])
  final x [] = ([], x, refl)
  final x (y ∷ m) = let h = final y m in (x ∷ h.0, h.1, ap (λ l. x ∷ l) h.2)

  pub not_empty : (x : X) (m : List X) → x ∷ m ≡ [] → ⊥
  not_empty x m e = absurd (cc)

  not_empty_behind : (a : List X) (x : X) (m : List X) → a ++ x ∷ m ≡ [] → ⊥
  not_empty_behind [] x m e = not_empty x m e
  not_empty_behind (y ∷ a) x m e = not_empty y (a ++ x ∷ m) e

-- ---- fronts

front_ends : (test : ℕ → Bool) (f r g : List ℕ) (x : ℕ) (m s : List ℕ) → g ≡ f ++ x ∷ m → r ≡ x ∷ m ++ s → IsUpTo test f r
    → ((rest : List ℕ) × IsUpTo test g rest) → ⊥
front_ends test f r g x m s e k h l = by h.ends where
  by : (r ≡ []) ⊎ ((depth_of f ≡ 0) × (begins test r ≡ true)) → ⊥
  by (inl n) = not_empty x (m ++ s) (sym k ∙ n)
  by (inr n) =
      let yes : test x ≡ true = subst (λ t. begins test t ≡ true) k n.1 in
      absurd (true≢false (sym yes ∙ l.1.none f m x e n.0))

pub front_one : (test : ℕ → Bool) (f r g s : List ℕ) → f ++ r ≡ g ++ s → IsUpTo test f r → IsUpTo test g s → (f ≡ g) × (r ≡ s)
front_one test f r g s e h k = by (compare f r g s e) where
  by : Compared f r g s → (f ≡ g) × (r ≡ s)
  by (inl c) = c
  by (inr (inl c)) = absurd (front_ends test f r g c.0 c.1 s c.2 c.3 h (s, k))
  by (inr (inr c)) = absurd (front_ends test g s f c.0 c.1 r c.2 c.3 k (r, h))

-- ---- names and tokens

names_one : (string : List ℕ) (x y : List (List ℕ)) → AreNames string x → AreNames string y → x ≡ y
names_one [] x y h k = h ∙ sym k
names_one (b ∷ bs) x y h k = h ∙ sym k

all_there : (test : ℕ → Bool) (xs : List ℕ) (b : ℕ) (ys : List ℕ) → list_all test (xs ++ b ∷ ys) ≡ true → test b ≡ true
all_there test [] b ys h = head_of (test b) (list_all test ys) h where
  head_of : (p q : Bool) → (p && q) ≡ true → p ≡ true
  head_of true q h = refl
  head_of false q h = h
all_there test (x ∷ xs) b ys h = all_there test xs b ys (tail_of (test x) (list_all test (xs ++ b ∷ ys)) h) where
  tail_of : (p q : Bool) → (p && q) ≡ true → q ≡ true
  tail_of true q h = h
  tail_of false q h = absurd (true≢false (sym h))

-- a token has a first byte, which is no break
token_front : (text rest : List ℕ) → 0 < length text → IsUpTo is_break text rest → (b : ℕ) × (bs : List ℕ) × (text ≡ b ∷ bs) × (is_break b ≡ false)
token_front [] rest some h = absurd (omega (arith, some))
token_front (b ∷ bs) rest some h = (b, bs, refl, h.none [] bs b refl refl)

-- what stands before a token is all the breaks that stand there
breaks_end : (breaks text rest breaks' : List ℕ) (x : ℕ) (m others : List ℕ) → breaks' ≡ breaks ++ x ∷ m → text ++ rest ≡ x ∷ m ++ others
    → list_all is_break breaks' ≡ true
    → 0 < length text → IsUpTo is_break text rest → ⊥
breaks_end breaks text rest breaks' x m others e k all some h =
    let t = token_front text rest some h in
    let same : t.0 ≡ x = first_is t.0 x (t.1 ++ rest) (m ++ others) (ap (λ l. l ++ rest) (sym t.2) ∙ k) in
    absurd (true≢false (sym (all_there is_break breaks x m (subst (λ l. list_all is_break l ≡ true) e all)) ∙ ap is_break (sym same) ∙ t.3))

breaks_one : (breaks text rest breaks' text' rest' : List ℕ) → breaks ++ (text ++ rest) ≡ breaks' ++ (text' ++ rest') → list_all is_break breaks ≡ true
    → list_all is_break breaks' ≡ true
    → 0 < length text → 0 < length text' → IsUpTo is_break text rest → IsUpTo is_break text' rest' → text ++ rest ≡ text' ++ rest'
breaks_one breaks text rest breaks' text' rest' e all all' some some' h h' = by (compare breaks (text ++ rest) breaks' (text' ++ rest') e) where
  by : Compared breaks (text ++ rest) breaks' (text' ++ rest') → text ++ rest ≡ text' ++ rest'
  by (inl c) = c.1
  by (inr (inl c)) = absurd (breaks_end breaks text rest breaks' c.0 c.1 (text' ++ rest') c.2 c.3 all' some h)
  by (inr (inr c)) = absurd (breaks_end breaks' text' rest' breaks c.0 c.1 (text ++ rest) c.2 c.3 all some' h')

no_token : (text breaks token rest : List ℕ) → list_all is_break text ≡ true → text ≡ breaks ++ (token ++ rest) → 0 < length token → IsUpTo is_break token rest
    → ⊥
no_token text breaks token rest all e some h =
    let t = token_front token rest some h in
    let there : text ≡ breaks ++ t.0 ∷ (t.1 ++ rest) = e ∙ ap (λ l. breaks ++ (l ++ rest)) t.2 in
    absurd (true≢false (sym (all_there is_break breaks t.0 (t.1 ++ rest) (subst (λ l. list_all is_break l ≡ true) there all)) ∙ t.3))

tokens_one : (ts us : List NameToken) (text : List ℕ) → AreTokens text ts → AreTokens text us → ts ≡ us
tokens_one [] [] text h k = refl
tokens_one [] (u ∷ us) text h k = absurd (no_token text k.0 u.text k.1 h k.2 k.4 k.5)
tokens_one (t ∷ ts) [] text h k = absurd (no_token text h.0 t.text h.1 k h.2 h.4 h.5)
tokens_one (t ∷ ts) (u ∷ us) text h k =
    let same = breaks_one h.0 t.text h.1 k.0 u.text k.1 (sym h.2 ∙ k.2) h.3 k.3 h.4 k.4 h.5 k.5 in
    let parts = front_one is_break t.text h.1 u.text k.1 same h.5 k.5 in
    let joints : t.joint ≡ u.joint = h.6 ∙ ap joint_of parts.1 ∙ sym k.6 in
    let token : t ≡ u = λ i. record { text = parts.0 i; joint = joints i } in
    ap₂ (λ x xs. x ∷ xs) token (tokens_one ts us k.1 (subst (λ r. AreTokens r ts) parts.1 h.7) k.7)

-- ---- commas

cut_one : (name : List ℕ) (x y : Option (List ℕ × List ℕ)) → IsCut name x → IsCut name y → x ≡ y
cut_one name None None h k = refl
cut_one name None (Some d) h k = absurd (h d.0 d.1 k)
cut_one name (Some c) None h k = absurd (k c.0 c.1 h)
cut_one name (Some c) (Some d) h k =
    let comma = byte "," in
    let same = front_one (λ b. b == comma) c.0 (comma ∷ c.1) d.0 (comma ∷ d.1) (sym h.joined ∙ k.joined) h.first k.first in
    let rest = rest_is comma comma c.1 d.1 same.1 in
    λ i. Some (same.0 i, rest i)

-- ---- the parts of a name

module _ (divisions other : Divisions) (alike : (t : NameToken) → is_von divisions t ≡ is_von other t) where
  -- a von token in one division is no other token in the other
  von_ends : (von last von' last' tokens : List NameToken) (x : NameToken) (m : List NameToken) → von' ≡ von ++ x ∷ m → last ≡ x ∷ m ++ last'
      → tokens ≡ von ++ last
      → HaveNoVon divisions last → ((left : List NameToken) (t : NameToken) → von' ≡ left ++ t ∷ [] → is_von other t ≡ true) → (last' ≡ [] → tokens ≡ []) → ⊥
  von_ends von last von' [] tokens x m e k w none ends some =
      not_empty_behind von x (m ++ []) (ap (λ l. von ++ l) (sym k) ∙ sym w ∙ some refl)
  von_ends von last von' (z ∷ zs) tokens x m e k w none ends some =
      let f = final x m in
      let yes = ends (von ++ f.0) f.1 (e ∙ ap (λ l. von ++ l) f.2 ∙ sym (append_assoc von f.0 (f.1 ∷ []))) in
      let no = none f.0 zs f.1 z (k ∙ ap (λ l. l ++ z ∷ zs) f.2 ∙ append_assoc f.0 (f.1 ∷ []) (z ∷ zs)) in
      absurd (true≢false (sym yes ∙ sym (alike f.1) ∙ no))

module _ (divisions other : Divisions) (alike : (t : NameToken) → is_von divisions t ≡ is_von other t) where
  back : (t : NameToken) → is_von other t ≡ is_von divisions t
  back t = sym (alike t)

  von_last_one : (tokens von last von' last' : List NameToken) → AreVonLast divisions tokens von last → AreVonLast other tokens von' last'
      → (von ≡ von') × (last ≡ last')
  von_last_one tokens von last von' last' h k = by (compare von last von' last' (sym h.whole ∙ k.whole)) where
    by : Compared von last von' last' → (von ≡ von') × (last ≡ last')
    by (inl c) = c
    by (inr (inl c)) = absurd (von_ends divisions other alike von last von' last' tokens c.0 c.1 c.2 c.3 h.whole h.others k.ends k.some)
    by (inr (inr c)) = absurd (von_ends other divisions back von' last' von last tokens c.0 c.1 c.2 c.3 k.whole k.others h.ends h.some)

-- First ends before the first von token
first_ends : (divisions other : Divisions) → ((t : NameToken) → is_von divisions t ≡ is_von other t)
    → (first first' von last : List NameToken) (x : NameToken) (m others : List NameToken)
    → first' ≡ first ++ x ∷ m → von ++ last ≡ x ∷ m ++ others → 0 < length von
    → ((t : NameToken) (rest : List NameToken) → von ≡ t ∷ rest → is_von divisions t ≡ true)
    → ((left right : List NameToken) (t : NameToken) → first' ≡ left ++ t ∷ right → is_von other t ≡ false) → ⊥
first_ends divisions other alike first first' [] last x m others e k some begins_ none = absurd (omega (arith, some))
first_ends divisions other alike first first' (v ∷ vs) last x m others e k some begins_ none =
    let same = first_is v x (vs ++ last) (m ++ others) k in
    absurd (true≢false (sym (begins_ v vs refl) ∙ alike v ∙ ap (is_von other) same ∙ none first m x e))

module _ (divisions other : Divisions) (alike : (t : NameToken) → is_von divisions t ≡ is_von other t) where
  swapped : (t : NameToken) → is_von other t ≡ is_von divisions t
  swapped t = sym (alike t)

  abbrev Same : NameParts → NameParts → Type 0
  Same p q = (p.first ≡ q.first) × (p.von ≡ q.von) × (p.last ≡ q.last)

  with_von : (tokens : List NameToken) (p q : NameParts) → HasVon divisions tokens p → HasVon other tokens q → Same p q
  with_von tokens p q h k = by (compare p.first (p.von ++ p.last) q.first (q.von ++ q.last) (sym h.first ∙ k.first)) where
    by : Compared p.first (p.von ++ p.last) q.first (q.von ++ q.last) → Same p q
    by (inl c) =
        let s = von_last_one divisions other alike (q.von ++ q.last) p.von p.last q.von q.last (subst (λ l. AreVonLast divisions l p.von p.last) c.1 h.surname) k.surname in
        (c.0, s.0, s.1)
    by (inr (inl c)) = absurd (first_ends divisions other alike p.first q.first p.von p.last c.0 c.1 (q.von ++ q.last) c.2 c.3 h.some h.begins k.none)
    by (inr (inr c)) = absurd (first_ends other divisions swapped q.first p.first q.von q.last c.0 c.1 (p.von ++ p.last) c.2 c.3 k.some k.begins h.none)

  -- Last begins after the last token that isn't joined
  joined_ends : (first first' last last' tokens : List NameToken) (x : NameToken) (m : List NameToken) → first' ≡ first ++ x ∷ m → last ≡ x ∷ m ++ last'
      → tokens ≡ first ++ last
      → ((left right : List NameToken) (t next : NameToken) → last ≡ left ++ t ∷ next ∷ right → t.joint ≡ Hyphen)
      → ((left : List NameToken) (t : NameToken) → first' ≡ left ++ t ∷ [] → is_hyphen t.joint ≡ false) → (last' ≡ [] → tokens ≡ []) → ⊥
  joined_ends first first' last [] tokens x m e k w joined apart some =
      not_empty_behind first x (m ++ []) (ap (λ l. first ++ l) (sym k) ∙ sym w ∙ some refl)
  joined_ends first first' last (z ∷ zs) tokens x m e k w joined apart some =
      let f = final x m in
      let no = apart (first ++ f.0) f.1 (e ∙ ap (λ l. first ++ l) f.2 ∙ sym (append_assoc first f.0 (f.1 ∷ []))) in
      let yes = joined f.0 zs f.1 z (k ∙ ap (λ l. l ++ z ∷ zs) f.2 ∙ append_assoc f.0 (f.1 ∷ []) (z ∷ zs)) in
      absurd (true≢false (sym (ap is_hyphen yes) ∙ no))

  without_von : (tokens : List NameToken) (p q : NameParts) → HasNoVon divisions tokens p → HasNoVon other tokens q → Same p q
  without_von tokens p q h k = by (compare p.first p.last q.first q.last (sym h.first ∙ k.first)) where
    by : Compared p.first p.last q.first q.last → Same p q
    by (inl c) = (c.0, h.no_von ∙ sym k.no_von, c.1)
    by (inr (inl c)) = absurd (joined_ends p.first q.first p.last q.last tokens c.0 c.1 c.2 c.3 h.first h.joined k.apart k.some)
    by (inr (inr c)) = absurd (joined_ends q.first p.first q.last p.last tokens c.0 c.1 c.2 c.3 k.first k.joined h.apart h.some)

-- where a token is von that isn't the final one, the parts have a von
not_both : (divisions other : Divisions) → ((t : NameToken) → is_von divisions t ≡ is_von other t) → (tokens first von last : List NameToken)
    → tokens ≡ first ++ (von ++ last) → 0 < length von
    → ((t : NameToken) (rest : List NameToken) → von ≡ t ∷ rest → is_von divisions t ≡ true) → (last ≡ [] → von ++ last ≡ []) → HaveNoVon other tokens → ⊥
not_both divisions other alike tokens first [] last e some begins_ full none = absurd (omega (arith, some))
not_both divisions other alike tokens first (v ∷ vs) last e some begins_ full none = by vs last e full (begins_ v vs refl) where
  by : (vs last : List NameToken) → tokens ≡ first ++ ((v ∷ vs) ++ last) → (last ≡ [] → (v ∷ vs) ++ last ≡ []) → is_von divisions v ≡ true → ⊥
  by (w ∷ ws) last e full is = absurd (true≢false (sym is ∙ alike v ∙ none first (ws ++ last) v w e))
  by [] [] e full is = not_empty v [] (full refl)
  by [] (l ∷ ls) e full is = absurd (true≢false (sym is ∙ alike v ∙ none first ls v l e))

module _ (divisions other : Divisions) (alike : (t : NameToken) → is_von divisions t ≡ is_von other t) where
  turned : (t : NameToken) → is_von other t ≡ is_von divisions t
  turned t = sym (alike t)

  one_by : (tokens : List NameToken) (p q : NameParts) → HasVon divisions tokens p ⊎ HasNoVon divisions tokens p → HasVon other tokens q ⊎ HasNoVon other tokens q
      → (p.first ≡ q.first) × (p.von ≡ q.von) × (p.last ≡ q.last)
  one_by tokens p q (inl h) (inl k) = with_von divisions other alike tokens p q h k
  one_by tokens p q (inr h) (inr k) = without_von divisions other alike tokens p q h k
  one_by tokens p q (inl h) (inr k) = absurd (not_both divisions other alike tokens p.first p.von p.last h.first h.some h.begins h.surname.some k.none)
  one_by tokens p q (inr h) (inl k) = absurd (not_both other divisions turned tokens q.first q.von q.last k.first k.some k.begins k.surname.some h.none)

parts_of : (p q : NameParts) → p.first ≡ q.first → p.von ≡ q.von → p.last ≡ q.last → p.jr ≡ q.jr → p ≡ q
parts_of p q a b c d = λ i. record { first = a i; von = b i; last = c i; jr = d i }

parts_one : (divisions other : Divisions) → ((t : NameToken) → is_von divisions t ≡ is_von other t) → divisions.tokens ≡ other.tokens → (s : Sections) (p q : NameParts)
    → AreNameParts divisions s p → AreNameParts other s q → p ≡ q
parts_one divisions other alike same (One name) p q h k =
    let s = one_by divisions other alike (other.tokens name) p q (subst (λ (f : List ℕ → List NameToken). HasVon divisions (f name) p ⊎ HasNoVon divisions (f name) p) same h.0)
    k.0 in
    parts_of p q s.0 s.1 s.2 (h.1 ∙ sym k.1)
parts_one divisions other alike same (Two surname first) p q h k =
    let s = von_last_one divisions other alike (other.tokens surname) p.von p.last q.von q.last
    (subst (λ (f : List ℕ → List NameToken). AreVonLast divisions (f surname) p.von p.last) same h.0) k.0 in
    parts_of p q (h.1 ∙ ap (λ (f : List ℕ → List NameToken). f first) same ∙ sym k.1) s.0 s.1 (h.2 ∙ sym k.2)
parts_one divisions other alike same (Three surname jr first) p q h k =
    let s = von_last_one divisions other alike (other.tokens surname) p.von p.last q.von q.last
    (subst (λ (f : List ℕ → List NameToken). AreVonLast divisions (f surname) p.von p.last) same h.0) k.0 in
    parts_of p q (h.1 ∙ ap (λ (f : List ℕ → List NameToken). f first) same ∙ sym k.1) s.0 s.1 (h.2 ∙ ap (λ (f : List ℕ → List NameToken). f jr) same ∙ sym k.2)

-- ---- formats

items_one : (format : List ℕ) (x y : Option (List FormatItem)) → IsFormat format x → IsFormat format y → x ≡ y
items_one format None None h k = refl
items_one format None (Some items) h k = absurd (h items k.0 k.1)
items_one format (Some items) None h k = absurd (k items h.0 h.1)
items_one format (Some items) (Some others) h k = ap Some (sym (written_items items format h.0 h.1) ∙ written_items others format k.0 k.1)

-- ---- all of them

module _ (divisions other : Divisions) (is : AreDivisions divisions) (also : AreDivisions other) where
  same_elements : divisions.elements ≡ other.elements
  same_elements = λ i mode string. (elements_of-only mode string (divisions.elements mode string) (is.elements mode string)
      ∙ sym (elements_of-only mode string (other.elements mode string) (also.elements mode string))) i

  same_glyphs : divisions.glyphs ≡ other.glyphs
  same_glyphs = λ i text. (glyphs_of-only text (divisions.glyphs text) (is.glyphs text) ∙ sym (glyphs_of-only text (other.glyphs text) (also.glyphs text))) i

  same_names : divisions.names ≡ other.names
  same_names = λ i string. names_one string (divisions.names string) (other.names string) (is.names string) (also.names string) i

  same_tokens : divisions.tokens ≡ other.tokens
  same_tokens = λ i text. tokens_one (divisions.tokens text) (other.tokens text) text (is.tokens text) (also.tokens text) i

  same_cut : divisions.cut ≡ other.cut
  same_cut = λ i name. cut_one name (divisions.cut name) (other.cut name) (is.cut name) (also.cut name) i

  same_von : (t : NameToken) → is_von divisions t ≡ is_von other t
  same_von t = ap (λ (f : TextMode → List ℕ → List Element). first_is_lower (f Bytes t.text)) same_elements

  same_sections : (name : List ℕ) → sections divisions name ≡ sections other name
  same_sections name = ap (λ (f : List ℕ → Option (List ℕ × List ℕ)). option_map_or (λ (cut : List ℕ × List ℕ). cut_again cut.0 cut.1 (f cut.1)) (f name)
      (One name)) same_cut

  same_parts : divisions.parts ≡ other.parts
  same_parts = λ i name.
      parts_one divisions other same_von same_tokens (sections other name) (divisions.parts name) (other.parts name)
      (subst (λ s. AreNameParts divisions s (divisions.parts name)) (same_sections name) (is.parts name)) (also.parts name) i

  same_items : divisions.items ≡ other.items
  same_items = λ i format. items_one format (divisions.items format) (other.items format) (is.items format) (also.items format) i

  pub one_division : divisions ≡ other
  one_division = λ i. record {
    elements = same_elements i;
    glyphs = same_glyphs i;
    names = same_names i;
    tokens = same_tokens i;
    cut = same_cut i;
    parts = same_parts i;
    items = same_items i;
  }
