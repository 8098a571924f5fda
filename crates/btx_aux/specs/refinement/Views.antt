-- Notes as the program has them.
use Rattle.btx_aux.specs.declared.notes.Complaint.{Complaint}
use Rattle.btx_aux.specs.declared.notes.Complaint.TheVariants as given
use Rattle.btx_aux.specs.declared.notes.Note.{Note}
use Rattle.btx_aux.specs.declared.notes.Note.TheVariants as note
use Rattle.btx_aux.specs.language.Notes.{AuxComplaint, Slipped, AnotherBibdata, AnotherBibstyle, CaseMismatch, SecondStar, WrongExtension, AlreadyMet}
use Rattle.btx_aux.specs.language.Notes.{NotOpened, RepeatedDatabase, AuxNote, TopFile, LevelFile, Wrong, NoCitations, NoBibdata, NoBibstyle}

-- the complaint with the names that it borrows
abbrev pub complaint_view : Complaint → AuxComplaint
complaint_view (given.Slipped slip) = Slipped slip
complaint_view given.AnotherBibdata = AnotherBibdata
complaint_view given.AnotherBibstyle = AnotherBibstyle
complaint_view (given.CaseMismatch earlier key) = CaseMismatch earlier.now key.now
complaint_view given.SecondStar = SecondStar
complaint_view (given.WrongExtension name) = WrongExtension name.now
complaint_view (given.AlreadyMet name) = AlreadyMet name.now
complaint_view (given.NotOpened name) = NotOpened name.now
complaint_view (given.RepeatedDatabase name) = RepeatedDatabase name.now

-- the note with the names that it borrows
abbrev pub note_view : Note → AuxNote
note_view (note.TopFile name) = TopFile name.now
note_view (note.LevelFile level name) = LevelFile level name.now
note_view (note.Wrong complaint place) = Wrong (complaint_view complaint) place.line place.file.now
note_view note.NoCitations = NoCitations
note_view note.NoBibdata = NoBibdata
note_view note.NoBibstyle = NoBibstyle
