use Rattle.std.proofs.Common.{rules, arith, ◌≡◌, ◌∷◌, [], ◌+◌, ◌∙◌, ap, inl, sym, true, false, length, List, refl, option_copied}
use borrow.Author.Tests.{tests}
use Rattle.std.proofs.lemmas.Result.{on_err_weaker, on_ok_weaker}
use Rattle.btx_text.specs.language.Lines.{lines_of}
use Rattle.btx_aux.specs.language.Grammar.{is_whole}
use Rattle.btx_aux.specs.language.Events.{AuxEvent, said}
use Rattle.btx_aux.specs.refinement.Reads.{opened_by, run}
use Rattle.btx_aux.proofs.ReadLemmas.{run-quiet, run-asking, run-more, run-none, run-ended, said_whole, included-missing, included-found, opened_by-full}
use Rattle.btx_aux.proofs.ReadLemmas.{opened_by-long, opened_by-read, lines_few, file_missing, file_found, untrue, unfalse}
use Rattle.btx_aux.proofs.AnswerLemmas.{by_both, by_fetch, by_map, by_none, on_err}
use Rattle.btx_aux.proofs.AskedLemmas.{adds_both, adds_none, asking_adds, asking_new, found_asks, full_adds, long_adds, missing_asks, new_behind, new_none}
use Rattle.btx_aux.proofs.AskedLemmas.{one_alone, one_found, quiet_adds, read_adds, read_new}
use Rattle.btx_text.specs.language.Limits.{is_too_long}
use Rattle.btx_aux.proofs.reading.+reading.Goals as goal

pub include-returns-then-not-branch-clause-draft : goal.include-returns-then-not-branch-clause-draft
include-returns-then-not-branch-clause-draft g t c =
    let missing : c.in_ok-fetch.field-0 ≡ false = search rules in
    by_map (by_fetch c.args.name.now _ c.in_ok-fetch.ensures.grows c.in_ok-fetch.ensures.bytes)
    (missing_asks c.args.draft.now c.miss_file.new.self c.args.place.file.now c.args.place.line c.args.name.now c.in_ok-miss_file.ensures)
    (λ files e. included-missing files c.args.room c.args.draft.now c.miss_file.new.self c.args.place.file.now c.args.place.line c.args.name.now
    c.requires.whole (e ∙ file_missing _ _ missing) c.in_ok-miss_file.ensures)

pub include-returns-clause-draft : goal.include-returns-clause-draft
include-returns-clause-draft g t c =
    let there : c.in_ok-fetch.field-0 ≡ true = search rules in
    on_ok_weaker c.open_file.result (λ h. by_both c.in_ok-fetch.ensures.stays
    (by_fetch c.args.name.now _ c.in_ok-fetch.ensures.grows c.in_ok-fetch.ensures.bytes) h
    (found_asks c.args.draft.now.files c.open_file.new.draft.files c.args.name.now c.args.room c.requires.room)
    (λ files e r. included-found files c.args.room c.args.draft.now c.open_file.new.draft c.args.place.file.now c.args.place.line c.args.name.now
    c.fetch.new.into.items c.as_slice.result.now (e ∙ file_found _ _ there) c.as_slice.ensures.value r)) c.open_file.ensures.draft

pub open_file-returns-then-room-eq0-clause-draft : goal.open_file-returns-then-room-eq0-clause-draft
open_file-returns-then-room-eq0-clause-draft g t c =
    by_none refl (full_adds c.args.draft.now.files c.args.name.now c.args.room c.if-room-eq0.true)
    (λ files. opened_by-full files c.args.room c.args.draft.now c.args.name.now c.args.text.now c.if-room-eq0.true c.requires.whole)

pub open_file-returns-then-is_too_long-clause-draft : goal.open_file-returns-then-is_too_long-clause-draft
open_file-returns-then-is_too_long-clause-draft g t c =
    let long : is_too_long c.args.text.now ≡ true = search (rules, tests) in
    by_none refl (long_adds c.args.draft.now c.open_file.new.self c.args.name.now c.args.room c.in_ok-open_file.ensures.draft)
    (λ files. opened_by-long files c.args.room c.args.draft.now c.open_file.new.self c.args.name.now c.args.text.now c.if-room-eq0.false c.requires.whole
    c.in_ok-open_file.ensures.ending c.in_ok-open_file.ensures.draft long)

pub open_file-returns-clause-draft : goal.open_file-returns-clause-draft
open_file-returns-clause-draft g t c =
    let short : is_too_long c.args.text.now ≡ false = search (rules, tests) in
    on_ok_weaker c.read_lines.result (λ h. by_map h
    (read_adds c.args.draft.now c.open_file.new.self c.read_lines.new.draft c.args.name.now c.args.room c.in_ok-open_file.ensures.draft)
    (λ files r. opened_by-read files c.args.room c.args.draft.now c.open_file.new.self c.read_lines.new.draft c.args.name.now c.args.text.now
    c.if-room-eq0.false c.requires.whole c.in_ok-open_file.ensures.draft short r)) c.read_lines.ensures.draft

pub read_line-returns-in-None-clause-draft : goal.read_line-returns-in-None-clause-draft
read_line-returns-in-None-clause-draft g t c =
    let none = ap option_copied (sym c.in-None.is) ∙ c.in_ok-read_line.ensures.asked in
    by_none refl (quiet_adds c.args.place.file.now c.args.place.line c.args.draft.now c.read_line.new.self c.args.line.now c.in_ok-read_line.ensures.draft none)
    (λ files. run-quiet files (opened_by files c.args.room) c.args.place.file.now c.args.place.line c.args.draft.now c.read_line.new.self c.args.line.now
    c.requires.whole c.in_ok-read_line.ensures.draft none)

pub read_line-returns-in-Some-clause-draft : goal.read_line-returns-in-Some-clause-draft
read_line-returns-in-Some-clause-draft g t c =
    let asked = ap option_copied (sym c.in-Some.is) ∙ c.in_ok-read_line.ensures.asked in
    on_ok_weaker c.include.result (λ h. by_map h (asking_adds c.args.place.file.now c.args.place.line c.args.draft.now c.read_line.new.self c.include.new.draft
    c.args.line.now c.in-Some.name.now c.in_ok-read_line.ensures.draft asked)
    (λ files r. run-asking files (opened_by files c.args.room) c.args.place.file.now c.args.place.line c.args.draft.now c.read_line.new.self c.include.new.draft
    c.args.line.now c.in-Some.name.now c.requires.whole c.in_ok-read_line.ensures.draft asked r)) c.include.ensures.draft

pub read_lines-loop-line-init : goal.read_lines-loop-line-init
read_lines-loop-line-init g t c =
    let left : c.into_iter-line-iterator.result ≡ lines_of c.args.text.now = search rules in
    record {
      whole = c.requires.whole;
      count = omega (arith, lines_few c.args.text.now, ap length left);
      reads = by_none refl (adds_none c.args.draft.now.files c.args.draft.now.files refl)
          (λ files. ap (λ (events : List AuxEvent). run files (opened_by files c.args.room) c.args.draft.now events)
          (said_whole c.args.name.now c.args.text.now _ left));
      failures = refl;
      content = refl;
    }

pub read_lines-returns-then-has_ended-clause-draft : goal.read_lines-returns-then-has_ended-clause-draft
read_lines-returns-then-has_ended-clause-draft g t c =
    let parts : c.loop-line.line-iterator ≡ c.in-Some.line.now ∷ c.next.new.self = search rules in
    let ended : is_whole c.read_line.new.draft.ending ≡ false = untrue _ (sym c.has_ended.ensures ∙ c.if-has_ended.true) in
    by_both c.loop-line.invariant.content c.loop-line.invariant.reads c.in_ok-read_line.ensures.draft
    (adds_both c.args.draft.now.files c.loop-line.draft.files c.read_line.new.draft.files)
    (λ files total here.
    sym (run-ended files c.args.room c.read_line.new.draft _ ended)
    ∙ run-more files (opened_by files c.args.room) c.args.name.now (c.loop-line.number + 1) c.loop-line.draft c.read_line.new.draft _ c.loop-line.line-iterator
    c.next.new.self c.in-Some.line.now parts total here)

pub read_lines-loop-line-preserved : goal.read_lines-loop-line-preserved
read_lines-loop-line-preserved g t c =
    let parts : c.loop-line.line-iterator ≡ c.in-Some.line.now ∷ c.next.new.self = search rules in
    record {
      whole = unfalse _ (sym c.has_ended.ensures ∙ c.if-has_ended.false);
      count = omega (arith, ap length parts, c.loop-line.invariant.count);
      reads = by_both c.loop-line.invariant.content c.loop-line.invariant.reads c.in_ok-read_line.ensures.draft
          (adds_both c.args.draft.now.files c.loop-line.draft.files c.read_line.new.draft.files)
          (λ files total here.
          run-more files (opened_by files c.args.room) c.args.name.now (c.loop-line.number + 1) c.loop-line.draft c.read_line.new.draft _
          c.loop-line.line-iterator c.next.new.self c.in-Some.line.now parts total here);
      failures = search rules;
      content = search rules;
    }

pub read_lines-returns-clause-draft : goal.read_lines-returns-clause-draft
read_lines-returns-clause-draft g t c =
    let none : c.loop-line.line-iterator ≡ [] = search rules in
    by_map c.loop-line.invariant.reads (λ names adds. adds)
    (λ files total. run-none files (opened_by files c.args.room) c.loop-line.draft
    (run files (opened_by files c.args.room) c.args.draft.now (said c.args.name.now c.args.text.now)) c.args.name.now (c.loop-line.number + 1)
    c.loop-line.line-iterator none total)

-- ---- up to a fault

pub include-returns-in_err-fetch-clause-asked : goal.include-returns-in_err-fetch-clause-asked
include-returns-in_err-fetch-clause-asked g t c = on_err c.from_residual.result (by_none c.in_err-fetch.ensures.grows (inl refl) (λ files. tt))

pub include-returns-in_err-miss_file-clause-asked : goal.include-returns-in_err-miss_file-clause-asked
include-returns-in_err-miss_file-clause-asked g t c =
    on_err c.from_residual-in_err-miss_file.result
    (by_map (by_fetch c.args.name.now _ c.in_ok-fetch.ensures.grows c.in_ok-fetch.ensures.bytes) (one_alone c.args.name.now c.args.draft.now.files)
    (λ files is. tt))

pub include-returns-clause-asked : goal.include-returns-clause-asked
include-returns-clause-asked g t c =
    on_err_weaker c.open_file.result (λ h. by_both c.in_ok-fetch.ensures.stays
    (by_fetch c.args.name.now _ c.in_ok-fetch.ensures.grows c.in_ok-fetch.ensures.bytes) h
    (one_found c.args.draft.now.files c.args.name.now c.args.room c.requires.room) (λ files is here. tt)) c.open_file.ensures.asked

pub open_file-returns-in_err-open_file-clause-asked : goal.open_file-returns-in_err-open_file-clause-asked
open_file-returns-in_err-open_file-clause-asked g t c = on_err c.from_residual.result (by_none refl (new_none _) (λ files. tt))

pub open_file-returns-clause-asked : goal.open_file-returns-clause-asked
open_file-returns-clause-asked g t c =
    on_err_weaker c.read_lines.result (λ h. by_map h
    (read_new c.args.draft.now c.open_file.new.self c.args.name.now c.args.room c.in_ok-open_file.ensures.draft) (λ files here. tt))
    c.read_lines.ensures.asked

pub read_line-returns-in_err-read_line-clause-asked : goal.read_line-returns-in_err-read_line-clause-asked
read_line-returns-in_err-read_line-clause-asked g t c = on_err c.from_residual.result (by_none refl (new_none _) (λ files. tt))

pub read_line-returns-in-Some-clause-asked : goal.read_line-returns-in-Some-clause-asked
read_line-returns-in-Some-clause-asked g t c =
    let asked = ap option_copied (sym c.in-Some.is) ∙ c.in_ok-read_line.ensures.asked in
    on_err_weaker c.include.result (λ h. by_map h (asking_new c.args.place.file.now c.args.place.line c.args.draft.now c.read_line.new.self c.args.line.now
    c.in-Some.name.now c.in_ok-read_line.ensures.draft asked) (λ files here. tt)) c.include.ensures.asked

pub read_lines-returns-in_err-read_line-clause-asked : goal.read_lines-returns-in_err-read_line-clause-asked
read_lines-returns-in_err-read_line-clause-asked g t c =
    on_err c.from_residual.result (by_both c.loop-line.invariant.content c.loop-line.invariant.reads c.in_err-read_line.ensures.asked
    (new_behind c.args.draft.now.files c.loop-line.draft.files) (λ files total here. tt))
