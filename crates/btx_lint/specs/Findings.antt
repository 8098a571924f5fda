-- What is promised of the places that are found.
use Rattle.std.specs.Prelude.{◌≡◌, [], List}
use Rattle.btx_check.specs.declared.verdict.Verdict.{Verdict}
use Rattle.btx_check.specs.declared.verdict.Verdict.TheVariants as verdict
use Rattle.btx_lint.specs.declared.findings.Finding.{Finding}

-- where a style is called clean, no place is found in which it may go wrong
abbrev pub NoneIfClean : Verdict → List Finding → Type 0
NoneIfClean (verdict.Clean c) found = found ≡ []
NoneIfClean _ found = Unit {0}
