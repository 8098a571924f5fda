-- What a verdict promises.
use Rattle.btx_bst.specs.language.Style.{Style}
use Rattle.btx_check.specs.declared.verdict.Verdict.{Verdict}
use Rattle.btx_check.specs.declared.verdict.Verdict.TheVariants as verdict
use Rattle.btx_check.specs.Promise.{StyleIsClean}

-- a verdict is right: a style that is called clean is clean, for entries of the types that it names and with no more bodies open at once than it says. The
-- other verdicts promise nothing
abbrev pub IsRight : Style → Verdict → Type 0
IsRight style (verdict.Clean c) = StyleIsClean style c.allowed.items c.deepest
IsRight style _ = Unit {0}
