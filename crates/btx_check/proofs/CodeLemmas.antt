-- The rows in the form in which the code meets them.
use Rattle.std.proofs.Common.{◌≡◌, ℕ, ◌<◌, ℤ, pos, List, [], ◌∷◌, length, Option, Some, Bool, true, false, get_or, sym, ap, subst, ◌∙◌, arith}
use Rattle.std.specs.Prelude.{slice_index_or}
use Rattle.btx_bst.specs.language.Style.{Style}
use Rattle.btx_bst.specs.declared.built_in.BuiltIn.TheVariants as built_in
use Rattle.btx_bst.specs.declared.callee.Callee.{Callee}
use Rattle.btx_bst.specs.declared.callee.Callee.TheVariants as callee
use Rattle.btx_bst.specs.declared.token.Token.TheVariants as token
use Rattle.btx_stack.specs.declared.literal.Literal.TheVariants.{Text}
use Rattle.btx_check.specs.declared.description.Mask.{Mask}
use Rattle.btx_check.specs.declared.description.Value.{Value}
use Rattle.btx_check.specs.declared.description.Value.TheVariants as value
use Rattle.std.specs.Prelude.{◌+ℤ◌, ◌-ℤ◌, IsTrue}
use Rattle.btx_check.specs.declared.description.Upper.{Upper}
use Rattle.btx_check.specs.Descriptions.{Is, exactly, blank, filled, followed, gone, nothing, open_end, present, something}
use Rattle.btx_check.specs.States.{Abstract, slot, putting, pushing, pushing_new, knowing, with_stack, putting_text}
use Rattle.btx_check.specs.Names.{IsName, NeedsEntry, kind_of, IsIntegerOf, IsStringOf}
use Rattle.btx_check.specs.Bounds.{Narrows, SumIs, Matches}
use Rattle.btx_check.specs.Inclusion.{Into}
use Rattle.btx_check.specs.Running.{RuleNow}
use Rattle.btx_check.specs.Answers.{Ruled, Added, TopIs, TwoAre, BothAnswers, Stepped, Comparable}
use Rattle.btx_check.proofs.AddLemmas.{sub_then, into_sub}
use Rattle.btx_check.proofs.RunLemmas.{rest_into, ruled}
use Rattle.btx_check.proofs.RowLemmas.{rule_duplicate, rule_pop, rule_skip, rule_swap, rule_write, rule_empty}
use Rattle.btx_check.proofs.Names.{rule_field_known, rule_field_new, rule_global_integer_known, rule_global_string_known}
use Rattle.btx_check.proofs.Refined.{rule_num_names_known, rule_greater_known, rule_less_known, rule_plus_known, rule_equals_integers, rule_minus_known}
use Rattle.btx_check.proofs.Refined.{rule_concatenate_known}
use Rattle.btx_check.proofs.Assign.{rule_assign_global_integer, rule_assign_entry_integer, rule_assign_global_string, rule_assign_entry_string}
use Rattle.btx_check.proofs.Covering.{style_rule_runs}
use Rattle.btx_check.proofs.LastRows.{rule_stack, rule_missing, rule_equals, rule_global_integer_new, rule_global_string_new, rule_entry_integer_new}
use Rattle.btx_check.proofs.LastRows.{rule_entry_string_new, rule_entry_integer_known, rule_entry_string_known, text_runs, integer_runs, quote_runs}

pub room_one : (a b : Abstract) (i : ℕ) (d : Value) → TopIs a i d b → length b.stack < 1000
room_one a b i d t = let n = ap {B = ℕ} length t.stack in let l = t.room in omega (arith, n, l)

pub room_two : (a b : Abstract) (j i : ℕ) (d c : Value) → TwoAre a j i d c b → length b.stack < 1000
room_two a b j i d c t = let n = ap {B = ℕ} length t.stack in let l = t.room in omega (arith, n, l)

pub code_duplicate : (a b : Abstract) (i : ℕ) (d : Value) (old new : List Abstract) → TopIs a i d b → Added (pushing i a) old new
    → Ruled (callee.BuiltIn built_in.Duplicate) a old new
code_duplicate a b i d old new t x = ruled _ _ _ _ (rule_duplicate a i b.stack new t.stack t.room x.into) (x.sub)

pub code_pop : (a b : Abstract) (i : ℕ) (d : Value) (old new : List Abstract) → TopIs a i d b → Added b old new → Ruled (callee.BuiltIn built_in.Pop) a old new
code_pop a b i d old new t x = ruled _ _ _ _ (rule_pop a i b.stack new t.stack (rest_into a b (λ x. x) new t.rest x.into)) (x.sub)

pub code_skip : (a : Abstract) (old new : List Abstract) → Added a old new → Ruled (callee.BuiltIn built_in.Skip) a old new
code_skip a old new x = ruled _ _ _ _ (rule_skip a new x.into) (x.sub)

pub code_swap : (a b : Abstract) (j i : ℕ) (d c : Value) (old new : List Abstract) → TwoAre a j i d c b → Added (pushing i (pushing j b)) old new
    → Ruled (callee.BuiltIn built_in.Swap) a old new
code_swap a b j i d c old new w x = ruled _ _ _ _ (rule_swap a j i b.stack new w.stack (rest_into a b (λ x. with_stack (i ∷ j ∷ b.stack) x) new w.rest x.into))
    (x.sub)

pub top_at : (a b : Abstract) (i : ℕ) (d d' : Value) → TopIs a i d b → d ≡ d' → TopIs a i d' b
top_at a b i d d' t e = record { stack = t.stack; rest = t.rest; known = t.known ∙ e; room = t.room }

pub two_at : (a b : Abstract) (j i : ℕ) (d c d' c' : Value) → TwoAre a j i d c b → d ≡ d' → c ≡ c' → TwoAre a j i d' c' b
two_at a b j i d c d' c' w e f = record { stack = w.stack; rest = w.rest; first = w.first ∙ e; second = w.second ∙ f; room = w.room }

-- where an entry is current
pub entry_is : (r e : Bool) → r ≡ e → IsTrue r → e ≡ true
entry_is r e q t = subst (λ (x : Bool). x ≡ true) q t

pub code_write : (a b : Abstract) (i : ℕ) (m : Mask) (old new : List Abstract) → TopIs a i (value.Text m) b → m.missing ≡ false → Added b old new
    → Ruled (callee.BuiltIn built_in.Write) a old new
code_write a b i m old new t there x = ruled _ _ _ _ (rule_write a i b.stack m new t.stack t.known there (rest_into a b (λ x. x) new t.rest x.into)) (x.sub)

pub code_stack : (a : Abstract) (old new : List Abstract) → Added (with_stack [] a) old new → Ruled (callee.BuiltIn built_in.Stack) a old new
code_stack a old new x = ruled _ _ _ _ (rule_stack a new x.into) (x.sub)

-- ---- what is known of operands

pub added_at : (x y : Abstract) (old new : List Abstract) → x ≡ y → Added x old new → Added y old new
added_at x y old new e h = subst (λ (z : Abstract). Added z old new) e h

-- the number that was on top, pushed again
pub pushed_back : (a b : Abstract) (i : ℕ) (d : Value) → TopIs a i d b → pushing i b ≡ a
pushed_back a b i d t = ap (λ (x : Abstract). pushing i x) t.rest ∙ ap (λ (is : List ℕ). with_stack is a) (sym t.stack)

-- a literal, where a number is known better
pub found_at : (b b' : Abstract) (i : ℕ) (d d' r r' : Value) (old new : List Abstract) → b' ≡ b → d' ≡ d → r' ≡ r
    → Added (pushing_new r' (knowing i d' b')) old new → Added (pushing_new r (knowing i d b)) old new
found_at b b' i d d' r r' old new e f g h =
    added_at _ _ old new
    (ap (λ (x : Abstract). pushing_new r' (knowing i d' x)) e
    ∙ (ap (λ (x : Value). pushing_new r' (knowing i x b)) f ∙ ap (λ (x : Value). pushing_new x (knowing i d b)) g)) h

-- a literal, where two numbers are known better
pub tested_at : (b b' : Abstract) (j i : ℕ) (d c r r' : Value) (old new : List Abstract) → b' ≡ b → r' ≡ r
    → Added (pushing_new r' (knowing j d (knowing i c b'))) old new → Added (pushing_new r (knowing j d (knowing i c b))) old new
tested_at b b' j i d c r r' old new e g h =
    added_at _ _ old new (ap (λ (x : Abstract). pushing_new r' (knowing j d (knowing i c x))) e
    ∙ ap (λ (x : Value). pushing_new x (knowing j d (knowing i c b))) g) h

-- a literal
pub new_at : (b b' : Abstract) (r r' : Value) (old new : List Abstract) → b' ≡ b → r' ≡ r → Added (pushing_new r' b') old new → Added (pushing_new r b) old new
new_at b b' r r' old new e g h = added_at _ _ old new (ap (λ (x : Abstract). pushing_new r' x) e ∙ ap (λ (x : Value). pushing_new x b) g) h

pub text_at : (m n : Mask) → m ≡ n → value.Text m ≡ value.Text n
text_at m n e = ap value.Text e

-- both outcomes of a test were added, and the rule of its function takes both
both_added : (f : Callee) (a b : Abstract) (so other : Abstract → Abstract) (old mid new : List Abstract) → b ≡ with_stack b.stack a → Added (so b) old mid
    → Added (other b) mid new → (Into (so (with_stack b.stack a)) new → Into (other (with_stack b.stack a)) new → RuleNow f a new) → Ruled f a old new
both_added f a b so other old mid new rest x y rule =
    ruled f a old new (rule (rest_into a b so new rest (into_sub (so b) mid new x.into y.sub)) (rest_into a b other new rest y.into))
    (sub_then old mid new x.sub y.sub)

pub code_empty : (a b : Abstract) (i : ℕ) (m : Mask) (old mid new : List Abstract) → TopIs a i (value.Text m) b
    → Added (pushing_new (exactly (pos 1)) (knowing i (value.Text (blank m)) b)) old mid
    → Added (pushing_new (exactly (pos 0)) (knowing i (value.Text (filled m)) b)) mid new → Ruled (callee.BuiltIn built_in.Empty) a old new
code_empty a b i m old mid new t x y =
    both_added _ a b (λ z. pushing_new (exactly (pos 1)) (knowing i (value.Text (blank m)) z))
    (λ z. pushing_new (exactly (pos 0)) (knowing i (value.Text (filled m)) z)) old mid new t.rest x y
    (λ p q. rule_empty a i b.stack m new t.stack t.known t.room p q)

pub code_missing : (a b : Abstract) (i : ℕ) (m : Mask) (old mid new : List Abstract) → a.entry ≡ true → TopIs a i (value.Text m) b
    → Added (pushing_new (exactly (pos 1)) (knowing i (value.Text (gone m)) b)) old mid
    → Added (pushing_new (exactly (pos 0)) (knowing i (value.Text (present m)) b)) mid new → Ruled (callee.BuiltIn built_in.Missing) a old new
code_missing a b i m old mid new en t x y =
    both_added _ a b (λ z. pushing_new (exactly (pos 1)) (knowing i (value.Text (gone m)) z))
    (λ z. pushing_new (exactly (pos 0)) (knowing i (value.Text (present m)) z)) old mid new t.rest x y
    (λ p q. rule_missing a i b.stack m new t.stack t.known (room_one a b i (value.Text m) t) p q en)

pub code_num_names : (a b : Abstract) (i : ℕ) (m : Mask) (old mid new : List Abstract) → TopIs a i (value.Text m) b → m.missing ≡ false
    → Added (pushing_new (exactly (pos 0)) (knowing i (value.Text (nothing m)) b)) old mid
    → Added (pushing_new (value.Integer (Some (pos 1)) open_end) (knowing i (value.Text (something m)) b)) mid new
    → Ruled (callee.BuiltIn built_in.NumNames) a old new
code_num_names a b i m old mid new t there x y =
    both_added _ a b (λ z. pushing_new (exactly (pos 0)) (knowing i (value.Text (nothing m)) z))
    (λ z. pushing_new (value.Integer (Some (pos 1)) open_end) (knowing i (value.Text (something m)) z)) old mid new t.rest x y
    (λ p q. rule_num_names_known a i b.stack m new t.stack (room_one a b i (value.Text m) t) t.known there p q)

pub code_equals : (a b : Abstract) (j i : ℕ) (d c : Value) (old mid new : List Abstract) → TwoAre a j i d c b → Comparable d c
    → Added (pushing_new (exactly (pos 1)) b) old mid → Added (pushing_new (exactly (pos 0)) b) mid new
    → Ruled (callee.BuiltIn built_in.Equals) a old new
code_equals a b j i d c old mid new t k x y =
    both_added _ a b (λ z. pushing_new (exactly (pos 1)) z) (λ z. pushing_new (exactly (pos 0)) z) old mid new t.rest x y
    (λ p q. rule_equals a j i b.stack new t.stack (room_two a b j i d c t) p q
    (subst (λ (e : Value). Comparable e (get_or a.values i value.Any)) (sym t.first) (subst (λ (e : Value). Comparable d e) (sym t.second) k)))

-- the two integers on top were compared, and what each answer says of them was added
module _ (a b : Abstract) (j i : ℕ) (p q : Value) (lo : Option ℤ) (hi : Upper) (lo2 : Option ℤ) (hi2 : Upper) (c d c' d' : Value) (old new : List Abstract)
    (two : TwoAre a j i p q b) (first : p ≡ value.Integer lo hi) (second : q ≡ value.Integer lo2 hi2) (added : BothAnswers b j i c d c' d' old new) where
  integers : TwoAre a j i (value.Integer lo hi) (value.Integer lo2 hi2) b
  integers = two_at a b j i p q (value.Integer lo hi) (value.Integer lo2 hi2) two first second

  compared : (f : Callee) → (Into (pushing_new (exactly (pos 1)) (knowing j d (knowing i c (with_stack b.stack a)))) new
      → Into (pushing_new (exactly (pos 0)) (knowing j d' (knowing i c' (with_stack b.stack a)))) new → RuleNow f a new) → Ruled f a old new
  compared f rule = both_added f a b (λ z. pushing_new (exactly (pos 1)) (knowing j d (knowing i c z)))
      (λ z. pushing_new (exactly (pos 0)) (knowing j d' (knowing i c' z))) old added.between new two.rest added.so added.other rule

  two_room : length b.stack < 1000
  two_room = room_two a b j i p q two

  pub code_greater : Narrows true (value.Integer lo2 hi2) (value.Integer lo hi) c d → Narrows false (value.Integer lo2 hi2) (value.Integer lo hi) c' d'
      → Ruled (callee.BuiltIn built_in.Greater) a old new
  code_greater up down = compared _
      (λ p q. rule_greater_known a j i b.stack lo hi lo2 hi2 c d c' d' new two.stack two_room integers.first integers.second p q up down)

  pub code_less : Narrows true (value.Integer lo hi) (value.Integer lo2 hi2) d c → Narrows false (value.Integer lo hi) (value.Integer lo2 hi2) d' c'
      → Ruled (callee.BuiltIn built_in.Less) a old new
  code_less up down = compared _
      (λ p q. rule_less_known a j i b.stack lo hi lo2 hi2 c d c' d' new two.stack two_room integers.first integers.second p q up down)

  pub code_equals_integers : Matches true (value.Integer lo2 hi2) (value.Integer lo hi) c d
      → Matches false (value.Integer lo2 hi2) (value.Integer lo hi) c' d' → Ruled (callee.BuiltIn built_in.Equals) a old new
  code_equals_integers same other = compared _
      (λ p q. rule_equals_integers a j i b.stack lo hi lo2 hi2 c d c' d' new two.stack two_room integers.first integers.second p q same other)

-- a sum or a difference of the two integers on top was added
module _ (a b : Abstract) (j i : ℕ) (lo : Option ℤ) (hi : Upper) (lo2 : Option ℤ) (hi2 : Upper) (r : Value) (old new : List Abstract)
    (t : TwoAre a j i (value.Integer lo hi) (value.Integer lo2 hi2) b) (x : Added (pushing_new r b) old new) where
  sum_room : length b.stack < 1000
  sum_room = room_two a b j i (value.Integer lo hi) (value.Integer lo2 hi2) t

  sum_into : Into (pushing_new r (with_stack b.stack a)) new
  sum_into = rest_into a b (λ z. pushing_new r z) new t.rest x.into

  pub code_plus : SumIs (λ x y. x +ℤ y) (value.Integer lo2 hi2) (value.Integer lo hi) r → Ruled (callee.BuiltIn built_in.Plus) a old new
  code_plus sum = record { rule = rule_plus_known a j i b.stack lo hi lo2 hi2 r new t.stack sum_room t.first t.second sum_into sum; sub = x.sub }

  pub code_minus : SumIs (λ x y. x -ℤ y) (value.Integer lo2 hi2) (value.Integer lo hi) r → Ruled (callee.BuiltIn built_in.Minus) a old new
  code_minus sum = record { rule = rule_minus_known a j i b.stack lo hi lo2 hi2 r new t.stack sum_room t.first t.second sum_into sum; sub = x.sub }

pub code_concatenate : (a b : Abstract) (j i : ℕ) (m n : Mask) (r : Value) (old new : List Abstract) → TwoAre a j i (value.Text m) (value.Text n) b
    → m.missing ≡ false → n.missing ≡ false → r ≡ value.Text (followed n m) → Added (pushing_new r b) old new
    → Ruled (callee.BuiltIn built_in.Concatenate) a old new
code_concatenate a b j i m n r old new t mj ni e x = ruled _ _ _ _
    (rule_concatenate_known a j i b.stack m n new t.stack (room_two a b j i (value.Text m) (value.Text n) t) t.first t.second mj ni
    (rest_into a b (λ x. pushing_new (value.Text (followed n m)) x) new t.rest (subst (λ (c : Value). Into (pushing_new c b) new) e x.into)))
    x.sub

-- ---- `:=`

-- an entry that is current where operands are taken off was so before
entry_below : (a b : Abstract) → b ≡ with_stack b.stack a → b.entry ≡ true → a.entry ≡ true
entry_below a b e h = sym (ap (λ (x : Abstract). x.entry) e) ∙ h

pub code_assign_integer : (style : Style) (allowed : List ℕ) (deep loops : ℕ) (a b : Abstract) (j i : ℕ) (f : Callee) (lo : Option ℤ) (hi : Upper)
    (old new : List Abstract) → TwoAre a j i (value.Function f) (value.Integer lo hi) b → IsIntegerOf style f b
    → Added (putting f i b) old new → Stepped style allowed (token.Run (callee.BuiltIn built_in.Assign)) (a ∷ []) deep loops old new
code_assign_integer style allowed deep loops a b j i (callee.GlobalInteger k) lo hi old new t v x = record {
  steps = style_rule_runs style allowed (callee.BuiltIn built_in.Assign) a deep loops new
      (rule_assign_global_integer style allowed k j i lo hi a b.stack new v t.stack t.first t.second
      (rest_into a b (λ x. putting (callee.GlobalInteger k) i x) new t.rest x.into));
  sub = x.sub;
}
code_assign_integer style allowed deep loops a b j i (callee.EntryInteger k) lo hi old new t v x = record {
  steps = style_rule_runs style allowed (callee.BuiltIn built_in.Assign) a deep loops new
      (rule_assign_entry_integer style allowed k j i lo hi a b.stack new (entry_below a b t.rest v.1) v.0 t.stack t.first t.second
      (rest_into a b (λ x. putting (callee.EntryInteger k) i x) new t.rest x.into));
  sub = x.sub;
}
code_assign_integer style allowed deep loops a b j i _ lo hi old new t v x = absurd v

pub code_assign_text : (style : Style) (allowed : List ℕ) (deep loops : ℕ) (a b : Abstract) (j i : ℕ) (f : Callee) (m : Mask) (old new : List Abstract)
    → TwoAre a j i (value.Function f) (value.Text m) b → m.missing ≡ false → IsStringOf style f b
    → Added (putting_text f m b) old new → Stepped style allowed (token.Run (callee.BuiltIn built_in.Assign)) (a ∷ []) deep loops old new
code_assign_text style allowed deep loops a b j i (callee.GlobalString k) m old new t there v x = record {
  steps = style_rule_runs style allowed (callee.BuiltIn built_in.Assign) a deep loops new
      (rule_assign_global_string style allowed k j i m a b.stack new v t.stack t.first t.second there
      (rest_into a b (λ x. putting_text (callee.GlobalString k) m x) new t.rest x.into));
  sub = x.sub;
}
code_assign_text style allowed deep loops a b j i (callee.EntryString k) m old new t there v x = record {
  steps = style_rule_runs style allowed (callee.BuiltIn built_in.Assign) a deep loops new
      (rule_assign_entry_string style allowed k j i m a b.stack new (entry_below a b t.rest v.1) v.0 t.stack t.first t.second there
      (rest_into a b (λ x. putting_text (callee.EntryString k) m x) new t.rest x.into));
  sub = x.sub;
}
code_assign_text style allowed deep loops a b j i _ m old new t there v x = absurd v

-- ---- names

pub code_known : (f : Callee) (a : Abstract) (i : ℕ) (old new : List Abstract) → IsName f → NeedsEntry f a → length a.stack < 1000 → slot a f ≡ Some i
    → Added (pushing i a) old new → Ruled f a old new
code_known (callee.GlobalInteger k) a i old new v en l e x = ruled _ _ _ _ (rule_global_integer_known k i a new l e x.into) (x.sub)
code_known (callee.GlobalString k) a i old new v en l e x = ruled _ _ _ _ (rule_global_string_known k i a new l e x.into) (x.sub)
code_known (callee.EntryInteger k) a i old new v en l e x = ruled _ _ _ _ (rule_entry_integer_known k i a new en l e x.into) (x.sub)
code_known (callee.EntryString k) a i old new v en l e x = ruled _ _ _ _ (rule_entry_string_known k i a new en l e x.into) (x.sub)
code_known (callee.Field k) a i old new v en l e x = ruled _ _ _ _ (rule_field_known k i a new en l e x.into) (x.sub)
code_known (callee.BuiltIn k) a i old new v en l e x = absurd v
code_known (callee.User k) a i old new v en l e x = absurd v

pub code_new : (f : Callee) (a : Abstract) (old new : List Abstract) → IsName f → NeedsEntry f a → length a.stack < 1000
    → Added (putting f (length a.values) (pushing_new (kind_of f) a)) old new → Ruled f a old new
code_new (callee.GlobalInteger k) a old new v en l x = ruled _ _ _ _ (rule_global_integer_new k a new l x.into) (x.sub)
code_new (callee.GlobalString k) a old new v en l x = ruled _ _ _ _ (rule_global_string_new k a new l x.into) (x.sub)
code_new (callee.EntryInteger k) a old new v en l x = ruled _ _ _ _ (rule_entry_integer_new k a new en l x.into) (x.sub)
code_new (callee.EntryString k) a old new v en l x = ruled _ _ _ _ (rule_entry_string_new k a new en l x.into) (x.sub)
code_new (callee.Field k) a old new v en l x = ruled _ _ _ _ (rule_field_new k a new en l x.into) (x.sub)
code_new (callee.BuiltIn k) a old new v en l x = absurd v
code_new (callee.User k) a old new v en l x = absurd v

-- ---- tokens

pub code_text : (style : Style) (allowed : List ℕ) (r w i : ℕ) (m : Mask) (text : List ℕ) (a : Abstract) (old new : List Abstract) → length a.stack < 1000
    → text ≡ slice_index_or style.texts i [] → ((left : ℕ) → Is left (value.Text m) (Text text))
    → Added (pushing_new (value.Text m) a) old new → Stepped style allowed (token.Text i) (a ∷ []) r w old new
code_text style allowed r w i m text a old new l e h x =
    record {
      steps = text_runs style allowed i (value.Text m) a r w new l (λ left. subst (λ (t : List ℕ). Is left (value.Text m) (Text t)) e (h left)) x.into;
      sub = x.sub;
    }

pub code_number : (style : Style) (allowed : List ℕ) (r w : ℕ) (n : ℤ) (a : Abstract) (old new : List Abstract) → length a.stack < 1000
    → Added (pushing_new (exactly n) a) old new → Stepped style allowed (token.Integer n) (a ∷ []) r w old new
code_number style allowed r w n a old new l x = record { steps = integer_runs style allowed n a r w new l x.into; sub = x.sub }

pub code_quote : (style : Style) (allowed : List ℕ) (r w : ℕ) (f : Callee) (a : Abstract) (old new : List Abstract) → length a.stack < 1000
    → Added (pushing_new (value.Function f) a) old new → Stepped style allowed (token.Quote f) (a ∷ []) r w old new
code_quote style allowed r w f a old new l x = record { steps = quote_runs style allowed f a r w new l x.into; sub = x.sub }
