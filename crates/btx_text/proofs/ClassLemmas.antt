-- Lemmas on the classes of bytes.
use Rattle.std.proofs.Common.{◌≡◌, ◌↔◌, ℕ, Bool, true, false, cond, not, ◌||◌, IsTrue, refl, sym, arith}
use Rattle.std.proofs.lemmas.Bool.{false≢true}
use Rattle.std.proofs.lemmas.Bool.Decides.{nat_tests}
use Rattle.btx_text.specs.declared.byte_class.Class.{Class}
use Rattle.btx_text.specs.declared.byte_class.Class.TheVariants.{White, Alpha, Digit, Sep, Other}
use Rattle.btx_text.specs.language.Class.{is_white, is_alpha, is_sep, class_of}
use Rattle.btx_text.specs.laws.Class.{is_of_class}
use Rattle.std.specs.Char.{is_ascii_digit}

-- the class by four tests
abbrev class_by : Bool → Bool → Bool → Bool → Class
class_by white alpha digit sep = cond white White (cond alpha Alpha (cond digit Digit (cond sep Sep Other)))

-- no byte passes two of the tests
abbrev Disjoint : Bool → Bool → Type 0
Disjoint p q = p ≡ true → q ≡ false

-- the test of a class, by the four
abbrev passes : Bool → Bool → Bool → Bool → Class → Bool
passes white alpha digit sep White = white
passes white alpha digit sep Alpha = alpha
passes white alpha digit sep Digit = digit
passes white alpha digit sep Sep = sep
passes white alpha digit sep Other = not (white || alpha || digit || sep)

one_by : (white alpha digit sep : Bool) → Disjoint white alpha → Disjoint white digit → Disjoint white sep → Disjoint alpha digit → Disjoint alpha sep
    → Disjoint digit sep →
    (class : Class) → IsTrue (passes white alpha digit sep class) ↔ (class ≡ class_by white alpha digit sep)
one_by true true digit sep wa wd ws ad as' ds class = absurd (false≢true (sym (wa refl)))
one_by true false true sep wa wd ws ad as' ds class = absurd (false≢true (sym (wd refl)))
one_by true false false true wa wd ws ad as' ds class = absurd (false≢true (sym (ws refl)))
one_by true false false false wa wd ws ad as' ds White = (λ h. refl, λ e. refl)
one_by true false false false wa wd ws ad as' ds class = (λ h. absurd (false≢true h), λ e. absurd (cc))
one_by false true true sep wa wd ws ad as' ds class = absurd (false≢true (sym (ad refl)))
one_by false true false true wa wd ws ad as' ds class = absurd (false≢true (sym (as' refl)))
one_by false true false false wa wd ws ad as' ds Alpha = (λ h. refl, λ e. refl)
one_by false true false false wa wd ws ad as' ds class = (λ h. absurd (false≢true h), λ e. absurd (cc))
one_by false false true true wa wd ws ad as' ds class = absurd (false≢true (sym (ds refl)))
one_by false false true false wa wd ws ad as' ds Digit = (λ h. refl, λ e. refl)
one_by false false true false wa wd ws ad as' ds class = (λ h. absurd (false≢true h), λ e. absurd (cc))
one_by false false false true wa wd ws ad as' ds Sep = (λ h. refl, λ e. refl)
one_by false false false true wa wd ws ad as' ds class = (λ h. absurd (false≢true h), λ e. absurd (cc))
one_by false false false false wa wd ws ad as' ds Other = (λ h. refl, λ e. refl)
one_by false false false false wa wd ws ad as' ds class = (λ h. absurd (false≢true h), λ e. absurd (cc))

passes-of_class : (b : ℕ) (class : Class) → passes (is_white b) (is_alpha b) (is_ascii_digit b) (is_sep b) class ≡ is_of_class class b
passes-of_class b White = refl
passes-of_class b Alpha = refl
passes-of_class b Digit = refl
passes-of_class b Sep = refl
passes-of_class b Other = refl

pub one_class : (b : ℕ) (class : Class) → IsTrue (is_of_class class b) ↔ (class ≡ class_of b)
unfolding class_of
one_class b class = rw (← passes-of_class b class) (one_by (is_white b) (is_alpha b) (is_ascii_digit b) (is_sep b)
    (λ h. grind (arith, nat_tests)) (λ h. grind (arith, nat_tests)) (λ h. grind (arith, nat_tests)) (λ h. grind (arith, nat_tests))
    (λ h. grind (arith, nat_tests)) (λ h. grind (arith, nat_tests)) class)
