-- Each part of the relation is one thing alone, and the one that is computed.
use Rattle.std.proofs.Common.{[], ◌++◌, codes, subst, sym}
use Rattle.btx_core.specs.language.Lines.{IsCommitted, IsWrapped}
use Rattle.btx_core.specs.laws.SameParts.{OneDivision, SameAux, SameLines, SameSure, SomeDivision}
use Rattle.btx_core.proofs.AuxLemmas.{is_said, only_said, said_by, same_job}
use Rattle.btx_core.proofs.DivisionLemmas.{one_division}
use Rattle.btx_core.proofs.FormatsThere.{divided}
use Rattle.btx_core.proofs.PartLemmas.{one_breaking, sure_is, wrapped}
use Rattle.btx_out.specs.language.Breaking.{committed, wrap, written_line}

pub aux_files : SameAux
aux_files files top = (said_by files top, is_said files top, only_said files top, same_job files top)

pub lines : SameLines
lines most room written = (
  λ is. one_breaking most written_line (λ text. text ++ codes "\n") written (wrap most) is (wrapped most room) room,
  λ same. subst (IsWrapped most) (sym same) (wrapped most room),
)

pub committed_lines : SameSure
committed_lines most room written = (
  λ is. one_breaking most (λ text. []) (λ text. text) written (committed most) is (sure_is most room) room,
  λ same. subst (IsCommitted most) (sym same) (sure_is most room),
)

pub one : OneDivision
one divisions other is also = one_division divisions other is also

pub some : SomeDivision
some = (_, divided)
