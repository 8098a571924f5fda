use Rattle.std.proofs.Common.{◌∙◌, ap, ℕ, List}
use Rattle.std.specs.Str.{bytes_eq}
use Rattle.btx_aux.specs.refinement.Entries.{Bytes}
use Rattle.btx_bib.specs.refinement.Finding.{first_place}
use Rattle.btx_bib.proofs.TableNameLemmas.{place_of-position, place_of-texts}
use Rattle.btx_bib.proofs.names.MoreNames.position.Goals as goal

pub returns-clause-place : goal.returns-clause-place
returns-clause-place c = c.get_index_of.ensures.index ∙ place_of-position {T = Bytes} (λ (other : Bytes). bytes_eq c.args.name.now other.items)
    c.self.inside.set.keys ∙ place_of-texts c.self.inside.set.keys c.args.name.now
    ∙ ap (λ (names : List (List ℕ)). first_place (bytes_eq c.args.name.now) names) c.self.view_is
