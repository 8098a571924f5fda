-- What is known after all events is what the events come to.
use Rattle.std.proofs.Common.{◌≡◌, ℕ, zero, suc, ◌-◌, ◌||◌, Bool, true, false, if◌then◌else◌, List, [], ◌∷◌, ◌++◌, map, fold, length, Option, None, Some}
use Rattle.std.proofs.Common.{is_some, refl, sym, ap, ◌∙◌, append_assoc, append-nil}
use Rattle.std.specs.List.{flat_map}
use Rattle.std.specs.Option.{option_or}
use Rattle.std.proofs.lemmas.Grind.{fold-append}
use Rattle.btx_aux.specs.declared.draft.AuxJobBuilder.{AuxJobBuilder}
use Rattle.btx_aux.specs.declared.end.End.{End}
use Rattle.btx_aux.specs.declared.end.End.TheVariants as end
use Rattle.btx_aux.specs.language.Files.{Files}
use Rattle.btx_aux.specs.language.Names.{with_name_once, with_key}
use Rattle.btx_aux.specs.language.Grammar.{Piece, Opens, Absent, Full, TooLong, end_by, is_whole}
use Rattle.btx_aux.specs.language.Events.{AuxEvent, event_at, files_named, asked_of, FileEvents, followed, expanded, opened, until_end, job_events, said}
use Rattle.btx_text.specs.language.LogLines.{Line}
use Rattle.btx_aux.specs.language.Notes.{AuxNote}
use Rattle.btx_aux.specs.language.Job.{gathered, first_of, cited_keys, star_by, all_of, bibdata_by, bibdata_of, databases_in, bibstyle_by, bibstyle_of}
use Rattle.btx_aux.specs.language.Job.{notes_at, closing_notes, end_of, job_of_files}
use Rattle.btx_aux.specs.refinement.Drafts.{blank, with_notes, first_or, databases_after, style_after, ending_after, learned}
use Rattle.btx_aux.specs.refinement.Reads.{after, Opening, included, asked_for, run, within, opened_by, topped, closed}
use Rattle.btx_aux.proofs.DraftLemmas.{lines_more}
use Rattle.btx_aux.proofs.ReadLemmas.{run-still, opened_by-ended}
use Rattle.btx_text.specs.language.Limits.{is_too_long}
use Rattle.btx_aux.specs.refinement.Events.{file_named, input_events, inside, from_top}
use Rattle.btx_aux.specs.refinement.Job.{cited, star_at, databases_of, style_name_of, job_of, style_name_in}
use Rattle.btx_aux.specs.refinement.Notes.{aux_note_line}

-- ---- one more event

flat_map-push : {A B : Type 0} (f : A → List B) (xs : List A) (x : A) → flat_map f (xs ++ x ∷ []) ≡ flat_map f xs ++ f x
flat_map-push f [] x = append-nil (f x)
flat_map-push f (y ∷ ys) x = ap (λ (rest : List _). f y ++ rest) (flat_map-push f ys x) ∙ sym (append_assoc (f y) (flat_map f ys) (f x))

gathered-push : {T : Type 0} (judge : List AuxEvent → AuxEvent → List T) (earlier events : List AuxEvent) (event : AuxEvent)
    → gathered judge earlier (events ++ event ∷ []) ≡ gathered judge earlier events ++ judge (earlier ++ events) event
gathered-push judge earlier [] event = append-nil (judge earlier event) ∙ ap (λ (e : List AuxEvent). judge e event) (sym (append-nil earlier))
gathered-push judge earlier (x ∷ xs) event =
    ap (λ (rest : List _). judge earlier x ++ rest) (gathered-push judge (earlier ++ x ∷ []) xs event)
    ∙ sym (append_assoc (judge earlier x) (gathered judge (earlier ++ x ∷ []) xs) (judge ((earlier ++ x ∷ []) ++ xs) event))
    ∙ ap (λ (e : List AuxEvent). (judge earlier x ++ gathered judge (earlier ++ x ∷ []) xs) ++ judge e event) (append_assoc earlier (x ∷ []) xs)

first_of-append : {T : Type 0} (xs ys : List T) → first_of (xs ++ ys) ≡ option_or (first_of xs) (first_of ys)
first_of-append [] ys = refl
first_of-append (x ∷ xs) ys = refl

first_or-other : (before now : Option ℕ) → option_or before now ≡ first_or now before
first_or-other None None = refl
first_or-other (Some x) None = refl
first_or-other before (Some y) = refl

is_some-or : {T : Type 0} (before now : Option T) → is_some (option_or before now) ≡ (is_some now || is_some before)
is_some-or None None = refl
is_some-or None (Some y) = refl
is_some-or (Some x) None = refl
is_some-or (Some x) (Some y) = refl

databases_in-or : (before now : Option (List Piece)) → databases_in (option_or before now) ≡ databases_after now (is_some before) (databases_in before)
databases_in-or None None = refl
databases_in-or None (Some y) = refl
databases_in-or (Some x) None = refl
databases_in-or (Some x) (Some y) = refl

or_none : {T : Type 0} (o : Option T) → o ≡ option_or o None
or_none None = refl
or_none (Some x) = refl

style_in-or : (before now : Option Piece) → style_name_in (option_or before now) ≡ style_after now (is_some before) (style_name_in before)
style_in-or None None = refl
style_in-or None (Some y) = or_none (style_name_in (Some y))
style_in-or (Some x) None = refl
style_in-or (Some x) (Some y) = refl

with_notes-is : (log : List Line) (notes : List AuxNote) → log ++ map aux_note_line notes ≡ with_notes log notes
with_notes-is log [] = append-nil log
with_notes-is log (note ∷ notes) = refl

only_end : (e : End) → (if is_whole e then end.Whole else e) ≡ ending_after e end.Whole
only_end end.Whole = refl
only_end end.TooManyOpen = refl
only_end end.TopMissing = refl
only_end end.FileLimit = refl

end_by_test : (e : End) (b : Bool) (rest longer last : End) → is_whole e ≡ b → (is_whole rest ≡ true → longer ≡ ending_after last rest)
    → is_whole (if b then rest else e) ≡ true → (if b then longer else e) ≡ ending_after last (if b then rest else e)
end_by_test e true rest longer last is pushed whole = pushed whole
end_by_test e false rest longer last is pushed whole = cc

end_of-push : (events : List AuxEvent) (event : AuxEvent) → is_whole (end_of events) ≡ true → end_of (events ++ event ∷ [])
    ≡ ending_after (end_by event.word) (end_of events)
end_of-push [] event whole = only_end (end_by event.word)
end_of-push (x ∷ xs) event whole = end_by_test (end_by x.word) (is_whole (end_by x.word)) (end_of xs) (end_of (xs ++ event ∷ [])) (end_by event.word) refl
    (end_of-push xs event) whole

-- what the events come to, as what is known after them
abbrev draft_of : List AuxEvent → AuxJobBuilder
draft_of events = record {
  keys = cited_keys events;
  all = all_of events;
  databases = databases_of events;
  has_bibdata = is_some (bibdata_of events);
  style = style_name_of events;
  has_bibstyle = is_some (bibstyle_of events);
  files = files_named events;
  log = map aux_note_line (gathered notes_at [] events);
  ending = end_of events;
}

abbrev draft_by : List (List ℕ) → Option ℕ → List (List ℕ) → Bool → Option (List ℕ) → Bool → List (List ℕ) → List Line → End → AuxJobBuilder
draft_by keys all databases has_bibdata style has_bibstyle files log ending = record {
  keys = keys;
  all = all;
  databases = databases;
  has_bibdata = has_bibdata;
  style = style;
  has_bibstyle = has_bibstyle;
  files = files;
  log = log;
  ending = ending;
}

same_draft : (k k' : List (List ℕ)) (a a' : Option ℕ) (d d' : List (List ℕ)) (b b' : Bool) (s s' : Option (List ℕ)) (h h' : Bool) (f f' : List (List ℕ))
    (l l' : List Line) (e e' : End)
    → k ≡ k' → a ≡ a' → d ≡ d' → b ≡ b' → s ≡ s' → h ≡ h' → f ≡ f' → l ≡ l' → e ≡ e' → draft_by k a d b s h f l e ≡ draft_by k' a' d' b' s' h' f' l' e'
same_draft k k' a a' d d' b b' s s' h h' f f' l l' e e' k= a= d= b= s= h= f= l= e= =
    ap (λ (x : List (List ℕ)). draft_by x a d b s h f l e) k=
    ∙ ap (λ (x : Option ℕ). draft_by k' x d b s h f l e) a=
    ∙ ap (λ (x : List (List ℕ)). draft_by k' a' x b s h f l e) d=
    ∙ ap (λ (x : Bool). draft_by k' a' d' x s h f l e) b=
    ∙ ap (λ (x : Option (List ℕ)). draft_by k' a' d' b' x h f l e) s=
    ∙ ap (λ (x : Bool). draft_by k' a' d' b' s' x f l e) h=
    ∙ ap (λ (x : List (List ℕ)). draft_by k' a' d' b' s' h' x l e) f=
    ∙ ap (λ (x : List Line). draft_by k' a' d' b' s' h' f' x e) l=
    ∙ ap (λ (x : End). draft_by k' a' d' b' s' h' f' l' x) e=

module _ (events : List AuxEvent) (event : AuxEvent) where
  keys_of-push : cited_keys (events ++ event ∷ []) ≡ fold with_key (cited_keys events) (cited event)
  keys_of-push = ap (fold with_key []) (flat_map-push cited events event) ∙ fold-append with_key [] (flat_map cited events) (cited event)

  files_named-push : files_named (events ++ event ∷ []) ≡ fold with_name_once (files_named events) (file_named event)
  files_named-push = ap (fold with_name_once []) (flat_map-push file_named events event)
      ∙ fold-append with_name_once [] (flat_map file_named events) (file_named event)

  all_of-push : all_of (events ++ event ∷ []) ≡ first_or (first_of (star_by event.word (length (cited_keys events)))) (all_of events)
  all_of-push =
      ap (λ (xs : List ℕ). first_of xs) (gathered-push star_at [] events event)
      ∙ first_of-append (gathered star_at [] events) (star_at events event)
      ∙ first_or-other (all_of events) (first_of (star_at events event))

  bibdata_of-push : bibdata_of (events ++ event ∷ []) ≡ option_or (bibdata_of events) (first_of (bibdata_by event.word))
  bibdata_of-push =
      ap (λ (xs : List (List Piece)). first_of xs) (flat_map-push (λ (e : AuxEvent). bibdata_by e.word) events event)
      ∙ first_of-append (flat_map (λ (e : AuxEvent). bibdata_by e.word) events) (bibdata_by event.word)

  bibstyle_of-push : bibstyle_of (events ++ event ∷ []) ≡ option_or (bibstyle_of events) (first_of (bibstyle_by event.word))
  bibstyle_of-push =
      ap (λ (xs : List Piece). first_of xs) (flat_map-push (λ (e : AuxEvent). bibstyle_by e.word) events event)
      ∙ first_of-append (flat_map (λ (e : AuxEvent). bibstyle_by e.word) events) (bibstyle_by event.word)

  log-push : map aux_note_line (gathered notes_at [] (events ++ event ∷ [])) ≡ with_notes (map aux_note_line (gathered notes_at [] events))
      (notes_at events event)
  log-push =
      ap (map aux_note_line) (gathered-push notes_at [] events event)
      ∙ lines_more (gathered notes_at [] events) (notes_at events event)
      ∙ with_notes-is (map aux_note_line (gathered notes_at [] events)) (notes_at events event)

  -- one more event adds what is learned of it
  learned-draft_of : is_whole (end_of events) ≡ true → learned (draft_of events) event ≡ draft_of (events ++ event ∷ [])
  unfolding learned
  learned-draft_of whole = sym (same_draft _ _ _ _ _ _ _ _ _ _ _ _ _ _ _ _ _ _
      keys_of-push
      all_of-push
      (ap databases_in bibdata_of-push ∙ databases_in-or (bibdata_of events) (first_of (bibdata_by event.word)))
      (ap (λ (o : Option (List Piece)). is_some o) bibdata_of-push ∙ is_some-or (bibdata_of events) (first_of (bibdata_by event.word)))
      (ap style_name_in bibstyle_of-push ∙ style_in-or (bibstyle_of events) (first_of (bibstyle_by event.word)))
      (ap (λ (o : Option Piece). is_some o) bibstyle_of-push ∙ is_some-or (bibstyle_of events) (first_of (bibstyle_by event.word)))
      files_named-push
      log-push
      (end_of-push events event whole))

-- ---- all events, where nothing counts after the first that ends the reading

abbrev known : List AuxEvent → AuxJobBuilder
known events = fold after blank events

known-push : (events : List AuxEvent) (event : AuxEvent) → after (known events) event ≡ known (events ++ event ∷ [])
known-push events event = sym (fold-append after blank events (event ∷ []))

still-ended : (draft : AuxJobBuilder) (events : List AuxEvent) → is_whole draft.ending ≡ false → fold after draft events ≡ draft
still-ended draft [] ended = refl
still-ended draft (event ∷ events) ended =
    let here : after draft event ≡ draft = rw ended refl in
    ap (λ (d : AuxJobBuilder). fold after d events) here ∙ still-ended draft events ended

ended_by : (e : End) → is_whole e ≡ false → is_whole (ending_after e end.Whole) ≡ false
ended_by end.Whole h = cc
ended_by end.TooManyOpen h = refl
ended_by end.TopMissing h = refl
ended_by end.FileLimit h = refl

whole_by : (e before : End) → is_whole e ≡ true → is_whole before ≡ true → is_whole (ending_after e before) ≡ true
whole_by end.Whole before h w = w
whole_by end.TooManyOpen before h w = cc
whole_by end.TopMissing before h w = cc
whole_by end.FileLimit before h w = cc

is_whole-Whole : (e : End) → is_whole e ≡ true → e ≡ end.Whole
is_whole-Whole end.Whole h = refl
is_whole-Whole end.TooManyOpen h = cc
is_whole-Whole end.TopMissing h = cc
is_whole-Whole end.FileLimit h = cc

after-draft_of : (front : List AuxEvent) (event : AuxEvent) → is_whole (end_of front) ≡ true → after (draft_of front) event ≡ draft_of (front ++ event ∷ [])
after-draft_of front event whole = rw whole (learned-draft_of front event whole)

stop_at : (b : Bool) (front events : List AuxEvent) (event : AuxEvent) → is_whole (end_by event.word) ≡ b → is_whole (end_of front) ≡ true
    → (is_whole (end_of (front ++ event ∷ [])) ≡ true → fold after (draft_of (front ++ event ∷ [])) events
    ≡ draft_of ((front ++ event ∷ []) ++ until_end events))
    → fold after (draft_of (front ++ event ∷ [])) events ≡ draft_of (front ++ (if b then event ∷ until_end events else event ∷ []))
stop_at true front events event goes whole more =
    let on : is_whole (end_of (front ++ event ∷ [])) ≡ true = ap is_whole (end_of-push front event whole)
    ∙ whole_by (end_by event.word) (end_of front) goes whole in
    more on ∙ ap draft_of (append_assoc front (event ∷ []) (until_end events))
stop_at false front events event ends whole more =
    let off : is_whole (end_of (front ++ event ∷ [])) ≡ false =
    ap is_whole (end_of-push front event whole ∙ ap (ending_after (end_by event.word)) (is_whole-Whole (end_of front) whole))
    ∙ ended_by (end_by event.word) ends in
    still-ended (draft_of (front ++ event ∷ [])) events off

known_from : (front events : List AuxEvent) → is_whole (end_of front) ≡ true → fold after (draft_of front) events ≡ draft_of (front ++ until_end events)
known_from front [] whole = ap draft_of (sym (append-nil front))
known_from front (event ∷ events) whole =
    ap (λ (d : AuxJobBuilder). fold after d events) (after-draft_of front event whole)
    ∙ stop_at (is_whole (end_by event.word)) front events event refl whole (known_from (front ++ event ∷ []) events)

known-until_end : (events : List AuxEvent) → known events ≡ draft_of (until_end events)
known-until_end events = known_from [] events refl

none_ended : (b : Bool) (event : AuxEvent) (events cut : List AuxEvent) → is_whole (end_by event.word) ≡ b → (is_whole (end_of cut) ≡ true → cut ≡ events)
    → is_whole (end_of (if b then event ∷ cut else event ∷ [])) ≡ true → (if b then event ∷ cut else event ∷ []) ≡ event ∷ events
none_ended true event events cut goes same whole = ap (λ (es : List AuxEvent). event ∷ es) (same (rw goes at whole))
none_ended false event events cut ends same whole =
    let no : is_whole (end_by event.word) ≡ true = rw ends at whole in cc

until_end-whole : (events : List AuxEvent) → is_whole (end_of (until_end events)) ≡ true → until_end events ≡ events
until_end-whole [] whole = refl
until_end-whole (event ∷ events) whole = none_ended (is_whole (end_by event.word)) event events (until_end events) refl (until_end-whole events) whole

-- the files that are named, where the reading goes on
known-files : (events : List AuxEvent) → is_whole (known events).ending ≡ true → (known events).files ≡ files_named events
known-files events whole =
    let is = known-until_end events in
    let goes : is_whole (end_of (until_end events)) ≡ true = ap (λ (d : AuxJobBuilder). is_whole d.ending) (sym is) ∙ whole in
    ap (λ (d : AuxJobBuilder). d.files) is ∙ ap files_named (until_end-whole events goes)

-- ---- reading event by event is reading all events

-- the one gives what is known after the other
abbrev Agrees : Opening → FileEvents → Type 0
Agrees opening reading = (events : List AuxEvent) (name text : List ℕ) → opening (known events) name text ≡ known (events ++ reading events name text)

-- a reading that has ended stays as it is
abbrev Still : Opening → Type 0
Still opening = (draft : AuxJobBuilder) (name text : List ℕ) → is_whole draft.ending ≡ false → opening draft name text ≡ draft

in_row : (front : List AuxEvent) (event : AuxEvent) (more rest : List AuxEvent) → ((front ++ event ∷ []) ++ more) ++ rest ≡ front ++ ((event ∷ more) ++ rest)
in_row front event more rest =
    ap (λ (es : List AuxEvent). es ++ rest) (append_assoc front (event ∷ []) more) ∙ append_assoc front (event ∷ more) rest

module _ (files : Files) (opening : Opening) (reading : FileEvents) (agrees : Agrees opening reading) (still : Still opening) where
  found-agrees : (events : List AuxEvent) (event : AuxEvent) (name : List ℕ) (text : Option (List ℕ))
      → included opening (known events) event.file event.line name text ≡ known (events ++ input_events reading events event name text)
  unfolding included
  found-agrees events event name None = known-push events (event_at event.file event.line (Absent name))
  found-agrees events event name (Some text) = agrees events name text

  followed-agrees : (events : List AuxEvent) (event : AuxEvent) (asked : Option (List ℕ)) → asked_for files opening (known events) event.file event.line asked
      ≡ known (events ++ followed files reading events event asked)
  followed-agrees events event None = ap known (sym (append-nil events))
  followed-agrees events event (Some name) = found-agrees events event name (files name)

  at_test : (b : Bool) (events : List AuxEvent) (event : AuxEvent) (said : List AuxEvent) → is_whole (known events).ending ≡ b
      → (let front = events ++ event ∷ [] in let more = followed files reading front event (asked_of (files_named events) event.word) in
      run files opening (known (front ++ more)) said ≡ known ((front ++ more) ++ expanded files reading (front ++ more) said))
      → run files opening (known events) (event ∷ said) ≡ known (events ++ expanded files reading events (event ∷ said))
  unfolding run
  at_test true events event said whole onward =
      let front = events ++ event ∷ [] in
      let asked = asked_of (files_named events) event.word in
      let more = followed files reading front event asked in
      ap (λ (d : AuxJobBuilder). run files opening (asked_for files opening d event.file event.line (asked_of (known events).files event.word)) said)
      (known-push events event)
      ∙ ap (λ (names : List (List ℕ)). run files opening (asked_for files opening (known front) event.file event.line (asked_of names event.word)) said)
      (known-files events whole)
      ∙ ap (λ (d : AuxJobBuilder). run files opening d said) (followed-agrees front event asked)
      ∙ onward
      ∙ ap known (in_row events event more (expanded files reading (front ++ more) said))
  at_test false events event said ended onward =
      run-still files opening still (known events) (event ∷ said) ended
      ∙ sym (fold-append after blank events (expanded files reading events (event ∷ said))
      ∙ still-ended (known events) (expanded files reading events (event ∷ said)) ended)

  run-agrees : (events said : List AuxEvent) → run files opening (known events) said ≡ known (events ++ expanded files reading events said)
  unfolding run
  run-agrees events [] = ap known (sym (append-nil events))
  run-agrees events (event ∷ said) = at_test (is_whole (known events).ending) events event said refl
      (run-agrees ((events ++ event ∷ []) ++ followed files reading (events ++ event ∷ []) event (asked_of (files_named events) event.word)) said)

inside-agrees : (long : Bool) (files : Files) (opening : Opening) (reading : FileEvents) → Agrees opening reading → Still opening
    → (events : List AuxEvent) (name text : List ℕ) → within long files opening (known events) name text
    ≡ known (events ++ inside long files reading events name text)
unfolding within
inside-agrees true files opening reading agrees still events name text = known-push events (event_at name 0 TooLong)
inside-agrees false files opening reading agrees still events name text = run-agrees files opening reading agrees still events (said name text)

opened-agrees : (files : Files) (room : ℕ) → Agrees (opened_by files room) (opened files room)
unfolding opened_by
opened-agrees files zero events name text = known-push events (event_at name 0 Full)
opened-agrees files (suc room) events name text =
    let opening = event_at name 0 (Opens (19 - room)) in
    let front = events ++ opening ∷ [] in
    let rest = inside (is_too_long text) files (opened files room) front name text in
    ap (λ (d : AuxJobBuilder). within (is_too_long text) files (opened_by files room) d name text) (known-push events opening)
    ∙ inside-agrees (is_too_long text) files (opened_by files room) (opened files room) (opened-agrees files room) (opened_by-ended files room) front name text
    ∙ ap known (append_assoc events (opening ∷ []) rest)

top-agrees : (files : Files) (top : List ℕ) (text : Option (List ℕ)) → topped files top text ≡ known (from_top files top text)
unfolding topped
top-agrees files top None = refl
top-agrees files top (Some text) = opened-agrees files 20 [] top text

closed-draft_of : (events : List AuxEvent) → closed (draft_of events) ≡ job_of events
closed-draft_of events =
    let job = job_of events in
    ap (λ (log : List Line). record job { log = log })
    (sym (lines_more (gathered notes_at [] events)
    (closing_notes (end_of events) (cited_keys events) (all_of events) (is_some (bibdata_of events)) (is_some (bibstyle_of events)))))

-- what is known after the top file is what the events of the job come to
pub closed-topped : (files : Files) (top : List ℕ) → closed (topped files top (files top)) ≡ job_of_files files top
unfolding job_of_files job_events
closed-topped files top =
    ap closed (top-agrees files top (files top) ∙ known-until_end (from_top files top (files top)))
    ∙ closed-draft_of (until_end (from_top files top (files top)))

-- ---- the top file

pub topped-missing : (files : Files) (top : List ℕ) (draft : AuxJobBuilder) → draft ≡ blank → files top ≡ None → record draft { ending = end.TopMissing }
    ≡ topped files top (files top)
unfolding topped learned
topped-missing files top draft is missing = rw missing (ap (λ (d : AuxJobBuilder). record d { ending = end.TopMissing }) is)

pub topped-found : (files : Files) (top bytes text : List ℕ) (draft new : AuxJobBuilder) → draft ≡ blank → files top ≡ Some bytes → text ≡ bytes
    → new ≡ opened_by files 20 draft top text → new ≡ topped files top (files top)
unfolding topped
topped-found files top bytes text draft new is there same goes =
    rw there (goes ∙ ap (λ (d : AuxJobBuilder). opened_by files 20 d top text) is ∙ ap (opened_by files 20 blank top) same)
