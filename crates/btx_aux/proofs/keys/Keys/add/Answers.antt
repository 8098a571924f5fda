use Rattle.std.proofs.Common.{◌≡◌, ◌∙◌, ap, sym, subst, ◌∷◌, ◌++◌, [], List, map, if◌then◌else◌, Bool, Option}
use Rattle.std.specs.declared.alloc.Global.{Global}
use Rattle.std.specs.declared.vec.Vec.{Vec}
use Rattle.btx_text.specs.language.Keys.{folded}
use Rattle.btx_aux.specs.refinement.Entries.{Bytes, texts_of}
use Rattle.btx_aux.specs.refinement.KeyTable.{IsTableOf, spelled_in}
use Rattle.btx_aux.proofs.KeyLemmas.{absent_in, IsTableOf-push}
use Rattle.btx_aux.proofs.keys.Keys.add.Goals as goal

pub invariant_of-self-in-Some : goal.invariant_of-self-in-Some
invariant_of-self-in-Some c =
    let lowered = c.self.inside.lowered.keys in
    let spelled = c.in-Some.spelled.items in
    let key = c.in_ok-key.key in
    let table : IsTableOf lowered spelled = subst (λ (o : Option (Vec Bytes Global)). IsTableOf lowered (spelled_in o lowered)) c.in-Some.is c.self.invariant in
    let view : texts_of spelled ≡ c.args.self.now = subst (λ (o : Option (Vec Bytes Global)). texts_of (spelled_in o lowered) ≡ c.args.self.now) c.in-Some.is
    c.self.view_is in
    let absent = absent_in lowered spelled c.args.lowered.items c.args.self.now table view c.requires.absent in
    let listed : c.push_reserved.new.self.items ≡ spelled ++ key ∷ [] = c.push_reserved.ensures.items
    ∙ ap (λ (keys : List Bytes). keys ++ key ∷ []) c.reserve.ensures.items in
    ap texts_of (c.in_ok-insert-in-Some.ensures.keys ∙ ap (λ (b : Bool). if b then lowered else lowered ++ c.args.lowered ∷ []) absent)
    ∙ IsTableOf-push lowered spelled c.args.lowered key table (c.requires.form ∙ ap folded (sym c.in_ok-key.ensures.items))
    ∙ sym (ap (λ (keys : List Bytes). map folded (texts_of keys)) listed)

pub invariant_of-self-in-None : goal.invariant_of-self-in-None
invariant_of-self-in-None c =
    let lowered = c.self.inside.lowered.keys in
    let spelled = c.in_ok-spelled-in-None.spelled.items in
    let key = c.in_ok-key.key in
    let copied : texts_of spelled ≡ texts_of lowered = c.in_ok-spelled-in-None.ensures ∙ ap texts_of c.as_slice.ensures.keys in
    let own : IsTableOf lowered lowered = subst (λ (o : Option (Vec Bytes Global)). IsTableOf lowered (spelled_in o lowered)) c.in-None.is c.self.invariant in
    let table : IsTableOf lowered spelled = own ∙ ap (map folded) (sym copied) in
    let view : texts_of spelled ≡ c.args.self.now = copied ∙ subst (λ (o : Option (Vec Bytes Global)). texts_of (spelled_in o lowered) ≡ c.args.self.now)
    c.in-None.is c.self.view_is in
    let absent = absent_in lowered spelled c.args.lowered.items c.args.self.now table view c.requires.absent in
    ap texts_of (c.in_ok-insert-in-None.ensures.keys ∙ ap (λ (b : Bool). if b then lowered else lowered ++ c.args.lowered ∷ []) absent)
    ∙ IsTableOf-push lowered spelled c.args.lowered key table (c.requires.form ∙ ap folded (sym c.in_ok-key.ensures.items))
    ∙ sym (ap (λ (keys : List Bytes). map folded (texts_of keys)) c.in_ok-push-in-None.ensures.items)
