-- A job has one product.
use Rattle.std.proofs.Common.{◌≡◌, ◌≤◌, ℕ, Bool, true, false, List, [], ◌∷◌, ◌++◌, map, Option, None, Some, sym, ap, subst, ◌∙◌}
use Rattle.btx_text.specs.language.LogLines.{Line}
use Rattle.btx_text.specs.language.Limits.{is_too_long}
use Rattle.btx_aux.specs.declared.end.End.{End as AuxEnd}
use Rattle.btx_aux.specs.declared.end.End.TheVariants as aux
use Rattle.btx_aux.specs.language.Files.{Files}
use Rattle.btx_aux.specs.language.Names.{with_ending}
use Rattle.std.specs.Prelude.{codes}
use Rattle.btx_bib.specs.language.Messages.{Database}
use Rattle.btx_machine.specs.language.Product.{Product}
use Rattle.btx_core.specs.declared.options.Options.{Options}
use Rattle.btx_core.specs.language.Files.Found.{NamedFile}
use Rattle.btx_core.specs.language.Files.Lines.{style_line}
use Rattle.btx_core.specs.language.Files.Databases.{databases_logged, files_found}
use Rattle.btx_core.specs.language.Styles.{Command, Says, Read, Execute, Iterate, Reverse, Sort, Entry, Job, Library, State, Style, first_state}
use Rattle.btx_core.specs.language.Meanings.{Outcome, Done, Stopped, Limited, Meaning, IsMeaning}
use Rattle.btx_core.specs.language.Runs.{IsListAfter, sort_key, command_does, GoesOn, CommandsCome}
use Rattle.btx_core.specs.language.AuxFiles.{AuxContents}
use Rattle.btx_core.specs.language.Product.{comes_to, IsExecuted, asked_by, IsExecutionOfStyle, FollowsStyleSize, FollowsStyleFile, FollowsStyleName, FollowsAuxFiles}
use Rattle.btx_core.specs.laws.ProductLaws.{OneProduct}
use Rattle.btx_core.specs.language.Lists.{IsLibrary}
use Rattle.btx_core.proofs.SortLemmas.{order_one}
use Rattle.btx_core.proofs.MeaningLemmas.{one_meaning}
use Rattle.btx_core.proofs.PartLemmas.{one_breaking}
use Rattle.btx_core.proofs.DivisionLemmas.{one_division}
use Rattle.btx_core.proofs.StyleLemmas.{style_one}
use Rattle.btx_core.proofs.LibraryLemmas.{library_one}
use Rattle.btx_core.proofs.AuxLemmas.{only_said}

-- ---- commands

behind_one : (library : Library) (c : Command) (list : List Entry) (s : State) (a b : List Entry) → IsListAfter library c list s a
    → IsListAfter library c list s b → a ≡ b
behind_one library (Says line) list s a b h k = h ∙ sym k
behind_one library Read list s a b h k = h ∙ sym k
behind_one library (Execute f) list s a b h k = h ∙ sym k
behind_one library (Iterate f) list s a b h k = h ∙ sym k
behind_one library (Reverse f) list s a b h k = h ∙ sym k
behind_one library Sort list s a b h k = order_one (sort_key s) list a b h k

goes_one : (o : Outcome) (Next : ℕ → State → Outcome → Type 0) → ((left : ℕ) (s : State) (a b : Outcome) → Next left s a → Next left s b → a ≡ b)
    → (a b : Outcome) → GoesOn o Next a → GoesOn o Next b → a ≡ b
goes_one (Done s left) Next n a b h k = n left s a b h k
goes_one (Stopped s) Next n a b h k = h ∙ sym k
goes_one (Limited limit s left) Next n a b h k = h ∙ sym k

commands_one : (means : Meaning) (library : Library) (cs : List Command) (list : List Entry) (left : ℕ) (s : State) (a b : Outcome)
    → CommandsCome means library cs list left s a → CommandsCome means library cs list left s b → a ≡ b
commands_one means library [] list left s a b h k = h ∙ sym k
commands_one means library (c ∷ cs) list left s a b h k =
    let same = behind_one library c list s h.0 k.0 h.1 k.1 in
    goes_one (command_does means library list c left s) (CommandsCome means library cs k.0) (λ left s a b x y. commands_one means library cs k.0 left s a b x y)
    a b
    (subst (λ n. GoesOn (command_does means library list c left s) (CommandsCome means library cs n) a) same h.2) k.2

-- ---- an execution

executed_one : (job : Job) (log : List Line) (options : Options) → 3 ≤ options.line → (a b : Product) → IsExecuted job log options a
    → IsExecuted job log options b → a ≡ b
executed_one job log options wide a b h k =
    let alike = one_division h.divisions k.divisions h.divided k.divided in
    let meant : IsMeaning k.divisions job h.means = subst (λ d. IsMeaning d job h.means) alike h.meant in
    let means : h.means ≡ k.means = one_meaning k.divisions job h.means k.means meant k.meant in
    let come = subst (λ (m : Meaning). CommandsCome m job.library job.style.commands [] options.budget (first_state job log) h.outcome) means h.come in
    let outcome = commands_one k.means job.library job.style.commands [] options.budget (first_state job log) h.outcome k.outcome come k.come in
    let wrapped = one_breaking options.line _ _ h.wrapped k.wrapped h.are_wrapped k.are_wrapped wide in
    let committed = one_breaking options.line _ _ h.committed k.committed h.are_committed k.are_committed wide in
    h.product_is ∙ ap (λ w. comes_to w h.committed options.budget h.outcome) wrapped ∙ ap (λ u. comes_to k.wrapped u options.budget h.outcome) committed
    ∙ ap (comes_to k.wrapped k.committed options.budget) outcome ∙ sym k.product_is

-- ---- the files

styled_one : (files : Files) (job : AuxContents) (name text : List ℕ) (log : List Line) (options : Options) → 3 ≤ options.line → (a b : Product)
    → IsExecutionOfStyle files job name text log options a → IsExecutionOfStyle files job name text log options b → a ≡ b
styled_one files job name text log options wide a b h k =
    let databases : List Database = map (λ (file : NamedFile). record { file = file.name; text = file.bytes }) (files_found files job.databases) in
    let style = style_one name text h.style k.style h.styled k.styled in
    let library = library_one (asked_by job k.style options) k.style.macros databases h.library k.library
    (subst (λ (s : Style). IsLibrary (asked_by job s options) s.macros databases h.library) style h.gathered) k.gathered in
    let lines = log ++ databases_logged files [] job.databases in
    let one = subst (λ (s : Style). IsExecuted
    (record { style = s; library = h.library; mode = options.text; entry_max = options.entry_max; global_max = options.global_max }) lines options a)
    style h.executed in
    let two = subst (λ (l : Library). IsExecuted
    (record { style = k.style; library = l; mode = options.text; entry_max = options.entry_max; global_max = options.global_max }) lines options a)
    library one in
    executed_one (record { style = k.style; library = k.library; mode = options.text; entry_max = options.entry_max; global_max = options.global_max }) lines
    options wide a b two k.executed

found_one : (t : Bool) (files : Files) (job : AuxContents) (name text : List ℕ) (log : List Line) (options : Options) → 3 ≤ options.line → (a b : Product)
    → FollowsStyleSize t files job name text log options a → FollowsStyleSize t files job name text log options b → a ≡ b
found_one true files job name text log options wide a b h k = h ∙ sym k
found_one false files job name text log options wide a b h k = styled_one files job name text log options wide a b h k

named_one : (f : Option (List ℕ)) (files : Files) (job : AuxContents) (name : List ℕ) (options : Options) → 3 ≤ options.line → (a b : Product)
    → FollowsStyleFile f files job name options a → FollowsStyleFile f files job name options b → a ≡ b
named_one None files job name options wide a b h k = h ∙ sym k
named_one (Some text) files job name options wide a b h k = found_one (is_too_long text) files job name text (job.log ++ style_line name ∷ []) options wide a b
    h k

asked_one : (n : Option (List ℕ)) (files : Files) (job : AuxContents) (options : Options) → 3 ≤ options.line → (a b : Product) → FollowsStyleName n files job options a
    → FollowsStyleName n files job options b → a ≡ b
asked_one None files job options wide a b h k = h ∙ sym k
asked_one (Some name) files job options wide a b h k = named_one (files name) files job name options wide a b h k

behind_files_one : (e : AuxEnd) (files : Files) (job : AuxContents) (options : Options) → 3 ≤ options.line → (a b : Product) → FollowsAuxFiles e files job options a
    → FollowsAuxFiles e files job options b → a ≡ b
behind_files_one aux.Whole files job options wide a b h k = asked_one job.style files job options wide a b h k
behind_files_one aux.TooManyOpen files job options wide a b h k = h ∙ sym k
behind_files_one aux.TopMissing files job options wide a b h k = h ∙ sym k
behind_files_one aux.FileLimit files job options wide a b h k = h ∙ sym k

pub holds : OneProduct
holds files name options wide a b h k =
    let top = with_ending (codes ".aux") name in
    let jobs = only_said files top h.job h.said ∙ sym (only_said files top k.job k.said) in
    behind_files_one k.job.ending files k.job options wide a b (subst (λ (j : AuxContents). FollowsAuxFiles j.ending files j options a) jobs h.behind) k.behind
