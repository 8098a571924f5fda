-- Worked reports, computed from the definition.
use Rattle.std.proofs.Common.{refl}
use Rattle.std.specs.Fmt.{digits}
use Rattle.btx_machine.proofs.Common.{last_line}
use Rattle.btx_machine.specs.language.Reports.{end_word}
use Rattle.btx_machine.specs.laws.WorkedReports.{AreWritten, reports}

pub written : AreWritten reports
unfolding digits end_word last_line
written = (
  refl,
  refl,
  (
    refl,
    refl,
    (refl, refl, (refl, refl, (refl, refl, (refl, refl, (refl, refl, (refl, refl, (refl, refl, (refl, refl, (refl, refl, (refl, refl, tt)))))))))),
  ),
)
