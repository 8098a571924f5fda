use Rattle.std.proofs.Common.{rules, ◌≡◌, ◌∷◌, ◌++◌, [], ◌∙◌, ap, sym, true, false, if◌then◌else◌, Bool, ℕ, List}
use Rattle.std.specs.Str.{bytes_eq}
use Rattle.std.proofs.lemmas.Result.{on_ok_weaker}
use Rattle.btx_text.specs.language.Keys.{folded}
use Rattle.btx_aux.specs.refinement.KeyTable.{listed_by}
use Rattle.btx_text.specs.language.LogLines.{Line}
use Rattle.btx_aux.specs.language.Names.{with_key}
use Rattle.btx_aux.proofs.DraftLemmas.{learned-key_new, learned-key_same, learned-key_other}
use Rattle.btx_aux.proofs.draft.AuxJobBuilder.cite_key.Goals as goal
use Rattle.btx_aux.proofs.draft.AuxJobBuilder.cite_key.Goals.{After-find}

-- the keys where a further one isn't listed plainly
unlisted : (keys : List (List ℕ)) (key : List ℕ) {plain : Bool} → plain ≡ false → (if plain then with_key keys key else keys) ≡ keys
unlisted keys key not_plain = ap (λ (b : Bool). if b then with_key keys key else keys) not_plain

-- a key that wasn't listed plainly leaves the list as it was, and what was found is what that list has of it
stays : (c : After-find) → c.add_plainly.new.self ≡ c.args.self.now.keys
stays c = c.in_ok-add_plainly.ensures.listed ∙ unlisted c.args.self.now.keys c.args.key.now c.if-branch.false

found : (c : After-find) → listed_by c.add_plainly.new.self c.as_slice.result.now ≡ listed_by c.args.self.now.keys (folded c.args.key.now)
found c = ap (listed_by c.add_plainly.new.self) (c.as_slice.ensures.value ∙ c.in_ok-lowered.ensures)
    ∙ ap (λ (keys : List (List ℕ)). listed_by keys (folded c.args.key.now)) (stays c)

pub returns-then-eq : goal.returns-then-eq
returns-then-eq c =
    let draft = c.args.self.now in
    let key = c.args.key.now in
    let path = (goal.at.returns-then-eq c).After-find in
    let same : bytes_eq c.in-Some.earlier.now key ≡ true = search rules in
    let with = λ (keys : List (List ℕ)). record draft { keys = keys } in
    ap with (stays path)
    ∙ sym (learned-key_same draft c.args.place.file.now c.args.place.line key c.in-Some.earlier.now c.requires (c.in-Some.ensures ∙ found path) same)

pub returns-in-None : goal.returns-in-None
returns-in-None c =
    let path = (goal.at.returns-in-None c).After-find in
    let with = λ (keys : List (List ℕ)). record c.args.self.now { keys = keys } in
    let learns = learned-key_new c.args.self.now c.args.place.file.now c.args.place.line c.args.key.now c.requires (c.in-None.ensures ∙ found path) in
    on_ok_weaker c.add.result (λ (e : c.add.new.self ≡ c.add_plainly.new.self ++ c.args.key.now ∷ []).
    ap with (e ∙ ap (λ (keys : List (List ℕ)). keys ++ c.args.key.now ∷ []) (stays path)) ∙ sym learns) c.add.ensures

pub returns-in_ok-line-in-Some : goal.returns-in_ok-line-in-Some
returns-in_ok-line-in-Some c =
    let path = (goal.at.returns-in_ok-line-in-Some c).After-find in
    let other : bytes_eq c.in-Some.earlier.now c.args.key.now ≡ false = search rules in
    let log = c.args.self.now.log in
    let with = λ (keys : List (List ℕ)) (log : List Line). record c.args.self.now { keys = keys; log = log } in
    let learns = learned-key_other c.args.self.now c.args.place.file.now c.args.place.line c.args.key.now c.in-Some.earlier.now c.requires
    (c.in-Some.ensures ∙ found path) other in
    on_ok_weaker c.push.result (λ (e : c.push.new.self ≡ log ++ c.in_ok-line-in-Some.line ∷ []).
    ap (λ (keys : List (List ℕ)). with keys c.push.new.self) (stays path)
    ∙ ap (with c.args.self.now.keys) (e ∙ ap (λ (l : Line). log ++ l ∷ []) c.in_ok-line-in-Some.ensures) ∙ sym learns) c.push.ensures
