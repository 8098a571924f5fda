-- What a call has left in the caller's memory.
use Rattle.std.proofs.Common.{arith, ◌≡◌, ◌⊎◌, inl, inr, ℕ, ◌<◌, Bool, true, false, List, [], Option, None, Some, length, min, refl, ap, ◌∙◌, subst}
use Rattle.std.specs.Prelude.{Result, Ok, Err, IfOk, IfSome, OnOk, OnErr, is_some, not}
use Rattle.btx_text.specs.language.LogLines.{Line}
use Rattle.btx_machine.specs.declared.report.Report.{Report}
use Rattle.btx_machine.specs.language.KeepingStep.{AtFault}
use Rattle.btx_machine.specs.laws.Noting.{printed}
use Rattle.btx_machine.specs.laws.Reports.{log_counts}
use Rattle.btx_core.specs.language.Files.Counts.{counts_of}
use Rattle.btx_machine.specs.language.Product.{log_of}
use Rattle.btx_core.specs.declared.options.Options.{Options}
use Rattle.btx_core.specs.refinement.ComputedProduct.{product_with}
use Rattle.btx_c.specs.declared.cause.Cause.{Cause}
use Rattle.btx_c.specs.declared.cause.Cause.TheVariants as cause
use Rattle.btx_c.specs.declared.cause.TheConstants.{LIST_FULL, LOG_FULL}
use Rattle.btx_c.specs.declared.handed.BtxFile.{BtxFile}
use Rattle.btx_c.specs.declared.noted.Noted.{Noted}
use Rattle.btx_c.specs.declared.noted.Wanted.{Wanted}
use Rattle.btx_c.specs.declared.options.BtxOptions.{BtxOptions}
use Rattle.btx_c.specs.declared.report.BtxReport.{BtxReport}
use Rattle.btx_c.specs.CallerFiles.{OtherFiles}
use Rattle.btx_c.specs.Noted.{AreAllNoted, HasNoted}
use Rattle.btx_c.specs.Options.{asked}
use Rattle.btx_c.specs.Outcomes.{Broke, Overflows, Wrote, all_files, filled, outcome}
use Rattle.btx_c.proofs.FullLemmas.{list_length, log_length}

-- some text was put into memory
pub wrote_of : (len : ℕ) (memory : List ℕ × List ℕ) (text : List ℕ) → len ≡ length text → memory.1 ≡ filled memory.0 text → Wrote len memory
wrote_of len memory text len_is memory_is = record { text = text; len_is = len_is; memory_is = memory_is }

-- a run broke off, by options in numbers that ask for those that it had
pub broke_of : (files : List BtxFile) (others : OtherFiles) (job : List ℕ) (given : BtxOptions) (options : Options) (report : BtxReport)
    (list log : List ℕ × List ℕ) (wrote_list wrote_log : List ℕ) → options ≡ asked given
    → AtFault (Some [], Some []) (Some wrote_list, Some wrote_log) (product_with (all_files files others) job options) options.budget
    → report.list_len ≡ min (length wrote_list) (length list.0) → report.log_len ≡ min (length wrote_log) (length log.0) → list.1 ≡ filled list.0 wrote_list
    → log.1 ≡ filled log.0 wrote_log
    → Broke files others job given report list log
broke_of files others job given options report list log wrote_list wrote_log is begun list_len log_len list_is log_is =
    record {
      wrote_list = wrote_list;
      wrote_log = wrote_log;
      begun = let Begun : Options → Type 0 = λ o. AtFault (Some [], Some []) (Some wrote_list, Some wrote_log)
          (product_with (all_files files others) job o) o.budget in subst Begun is begun;
      list_len = list_len;
      log_len = log_len;
      list_is = list_is;
      log_is = log_is;
    }

-- ---- how a run ended, once the rooms were looked at

module _ (C : Report → Type 0) where
  pub ok_of : (ended : Result Report Cause) (a b c : Bool) → IfOk ended C → IfOk (outcome ended a b c) C
  ok_of ended true b c is = tt
  ok_of ended false true c is = tt
  ok_of ended false false true is = tt
  ok_of ended false false false is = is

  -- a run that ended, but is too long for a room, or of which events were left out, is as one that broke off
  pub err_of : (A : Type 0) (ended : Result Report Cause) (a b c : Bool) → IfOk ended C → OnErr ended A → ((report : Report) → C report → A)
      → OnErr (outcome ended a b c) A
  err_of A (Ok report) true b c is fails so = so report is
  err_of A (Ok report) false true c is fails so = so report is
  err_of A (Ok report) false false true is fails so = so report is
  err_of A (Ok report) false false false is fails so = tt
  err_of A (Err cause) true b c is fails so = fails
  err_of A (Err cause) false true c is fails so = fails
  err_of A (Err cause) false false true is fails so = fails
  err_of A (Err cause) false false false is fails so = fails

pub fits_of : (ended : Result Report Cause) (a b c : Bool) (A B : Type 0) → (a ≡ false → A) → (b ≡ false → B) → OnOk (outcome ended a b c) (A × B)
fits_of ended true b c A B left right = tt
fits_of ended false true c A B left right = tt
fits_of ended false false true A B left right = tt
fits_of (Ok report) false false false A B left right = (left refl, right refl)
fits_of (Err cause) false false false A B left right = tt

pub asks_of : (ended : Result Report Cause) (a b c : Bool) → outcome ended a b c ≡ Err cause.UnknownFile → ended ≡ Err cause.UnknownFile
asks_of ended true b c is = cc
asks_of ended false true c is = cc
asks_of ended false false true is = cc
asks_of ended false false false is = is

-- events were left out of no run that ended, and no places
pub noted_of : (ended : Result Report Cause) (a b c : Bool) (noted : Option Noted) (log : List ℕ) (lines : List Line) (wanted : Wanted) → is_some noted ≡ not c
    → OnOk ended (log ≡ printed lines) → IfOk ended (λ report. log_counts report.warnings report.errors ≡ counts_of lines) → IfSome noted (AreAllNoted lines wanted)
    → IfOk (outcome ended a b c) (λ report. HasNoted log (log_counts report.warnings report.errors) wanted noted)
noted_of ended true b c noted log lines wanted short whole counted are = tt
noted_of ended false true c noted log lines wanted short whole counted are = tt
noted_of ended false false true noted log lines wanted short whole counted are = tt
noted_of (Err cause) false false false noted log lines wanted short whole counted are = tt
noted_of (Ok report) false false false None log lines wanted short whole counted are = cc
noted_of (Ok report) false false false (Some noted) log lines wanted short whole counted are =
    record {
      events_are = record { lines = lines; log_is = whole; counts_are = counted; are_all = are.events_are };
      places_are = are.places_are;
    }

-- ---- a room that is too small

pub overflows_of : (files : List BtxFile) (others : OtherFiles) (job : List ℕ) (given : BtxOptions) (options : Options) (report : BtxReport)
    (list log wrote_list wrote_log : List ℕ) → options ≡ asked given
    → AtFault (Some [], Some []) (Some wrote_list, Some wrote_log) (product_with (all_files files others) job options) options.budget
    → ((report.end ≡ LIST_FULL) × (length list < length wrote_list)) ⊎ ((report.end ≡ LOG_FULL) × (length log < length wrote_log))
    → Overflows files others job given report list log
overflows_of files others job given options report list log wrote_list wrote_log is fault full =
    let Over : Options → Type 0 = λ o. ((report.end ≡ LIST_FULL) × (length list < length (product_with (all_files files others) job o o.budget).bbl))
    ⊎ ((report.end ≡ LOG_FULL) × (length log < length (log_of (product_with (all_files files others) job o o.budget)))) in
    subst Over is (by_room full) where
      by_room : ((report.end ≡ LIST_FULL) × (length list < length wrote_list)) ⊎ ((report.end ≡ LOG_FULL) × (length log < length wrote_log))
          → ((report.end ≡ LIST_FULL) × (length list < length (product_with (all_files files others) job options options.budget).bbl))
          ⊎ ((report.end ≡ LOG_FULL) × (length log < length (log_of (product_with (all_files files others) job options options.budget))))
      by_room (inl room) = inl (
        room.0,
        let long = list_length wrote_list wrote_log (product_with (all_files files others) job options) options.budget fault in
            omega (arith, room.1, long),
      )
      by_room (inr room) = inr (
        room.0,
        let long = log_length wrote_list wrote_log (product_with (all_files files others) job options) options.budget fault in
            omega (arith, room.1, long),
      )

-- the room that is too small, by the cause
pub room_of : (c : Cause) (ended : Result Report Cause) (report : BtxReport) (list_room log_room : ℕ) (list log : List ℕ) → ended ≡ Err c → (c ≡ cause.ListFull)
    ⊎ (c ≡ cause.LogFull)
    → (c ≡ cause.ListFull → report.end ≡ LIST_FULL) → (c ≡ cause.LogFull → report.end ≡ LOG_FULL)
    → (ended ≡ Err cause.ListFull → list_room < length list) → (ended ≡ Err cause.LogFull → log_room < length log)
    → ((report.end ≡ LIST_FULL) × (list_room < length list)) ⊎ ((report.end ≡ LOG_FULL) × (log_room < length log))
room_of c ended report list_room log_room list log is (inl full) list_number log_number list_full log_full =
    inl (list_number full, list_full (is ∙ ap Err full))
room_of c ended report list_room log_room list log is (inr full) list_number log_number list_full log_full = inr (log_number full, log_full (is ∙ ap Err full))
