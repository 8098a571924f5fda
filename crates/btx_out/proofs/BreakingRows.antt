-- Worked lines, by computation.
use Rattle.std.specs.Prelude.{◌≡◌, [], ◌∷◌, ◌++◌, replicate, codes, refl}
use Rattle.btx_text.specs.language.Lines.{trimmed}
use Rattle.btx_out.specs.language.Breakers.{written_at_end}
use Rattle.btx_out.specs.language.Breaking.{wrap, committed, skip_white, till_white, from_white, last_white, break_of, cut_within, cut_of}
use Rattle.btx_out.specs.laws.Breaking.{left, Collecting, Passing, Swallowing}

-- the whitespace after a full line breaks it
broken_at_limit : wrap 79 (replicate 79 97 ++ codes " b") ≡ replicate 79 97 ++ 10 ∷ codes "  b" ++ 10 ∷ []
unfolding trimmed skip_white till_white from_white last_white break_of cut_within cut_of
broken_at_limit = refl

-- one byte of whitespace goes at a break inside the line, and the next line has the other
one_white_goes : wrap 79 (replicate 79 97 ++ codes "  b") ≡ replicate 79 97 ++ 10 ∷ codes "   b" ++ 10 ∷ []
unfolding trimmed skip_white till_white from_white last_white break_of cut_within cut_of
one_white_goes = refl

-- the whole run goes at a break past the line
run_goes : wrap 79 (replicate 80 97 ++ codes "  b") ≡ replicate 80 97 ++ 10 ∷ codes "  b" ++ 10 ∷ []
unfolding trimmed skip_white till_white from_white last_white break_of cut_within cut_of
run_goes = refl

-- the beginning of a line that can't be broken is sure
long_word : wrap 79 (codes "aaa " ++ replicate 80 98) ≡ codes "aaa" ++ 10 ∷ codes "  " ++ replicate 80 98 ++ 10 ∷ []
unfolding trimmed skip_white till_white from_white last_white break_of cut_within cut_of
long_word = refl

long_word_pending : committed 79 (codes "aaa " ++ replicate 80 98) ≡ codes "aaa" ++ 10 ∷ codes "  " ++ replicate 80 98
unfolding trimmed skip_white till_white from_white last_white break_of cut_within cut_of
long_word_pending = refl

-- an empty line is written, whitespace alone isn't
empty : wrap 79 [] ≡ 10 ∷ []
unfolding trimmed cut_within cut_of
empty = refl

white_alone : wrap 79 (codes " ") ≡ []
unfolding trimmed cut_within cut_of
white_alone = refl

long_white : wrap 79 (replicate 80 32) ≡ []
unfolding trimmed skip_white till_white from_white last_white break_of cut_within cut_of
long_white = refl

-- at the very end neither of them is
empty_at_end : written_at_end 79 [] ≡ []
empty_at_end = refl

white_at_end : written_at_end 79 (codes " ") ≡ []
unfolding trimmed cut_within cut_of
white_at_end = refl

-- lines of 20 bytes
short_limit : wrap 20 (replicate 20 97 ++ codes " b") ≡ replicate 20 97 ++ 10 ∷ codes "  b" ++ 10 ∷ []
unfolding trimmed skip_white till_white from_white last_white break_of cut_within cut_of
short_limit = refl

short_limit_past : wrap 20 (replicate 21 97 ++ codes "  b") ≡ replicate 21 97 ++ 10 ∷ codes "  b" ++ 10 ∷ []
unfolding trimmed skip_white till_white from_white last_white break_of cut_within cut_of
short_limit_past = refl

short_limit_words : wrap 20 (codes "aaa bbb ccc ddd eee fff ggg") ≡ codes "aaa bbb ccc ddd eee" ++ 10 ∷ codes "  fff ggg" ++ 10 ∷ []
unfolding trimmed skip_white till_white from_white last_white break_of cut_within cut_of
short_limit_words = refl

-- a full line isn't broken, and nothing of it is sure
full : wrap 20 (replicate 20 97) ≡ replicate 20 97 ++ 10 ∷ []
unfolding trimmed cut_within cut_of
full = refl

full_pending : committed 20 (replicate 20 97) ≡ []
unfolding cut_within cut_of
full_pending = refl

-- whitespace at index 2 is no break
early_white : wrap 20 (codes "ab " ++ replicate 20 99) ≡ codes "ab " ++ replicate 20 99 ++ 10 ∷ []
unfolding trimmed skip_white till_white from_white last_white break_of cut_within cut_of
early_white = refl

-- a head of whitespace alone isn't written
white_head : wrap 20 (replicate 5 32 ++ replicate 20 98) ≡ codes "  " ++ replicate 20 98 ++ 10 ∷ []
unfolding trimmed skip_white till_white from_white last_white break_of cut_within cut_of
white_head = refl

-- a head loses all the whitespace at its end
white_at_head : wrap 20 (codes "aaaa    " ++ replicate 13 98) ≡ codes "aaaa" ++ 10 ∷ codes "  " ++ replicate 13 98 ++ 10 ∷ []
unfolding trimmed skip_white till_white from_white last_white break_of cut_within cut_of
white_at_head = refl

-- a tab and a carriage return are whitespace; byte 11 isn't
other_white : wrap 20 (replicate 10 97 ++ 13 ∷ replicate 4 97 ++ 9 ∷ replicate 5 97 ++ 11 ∷ replicate 4 97) ≡ replicate 10 97 ++ 13 ∷ replicate 4 97 ++ 10
    ∷ codes "  aaaaa" ++ 11 ∷ codes "aaaa" ++ 10 ∷ []
unfolding trimmed skip_white till_white from_white last_white break_of cut_within cut_of
other_white = refl

-- after a break past the line the whitespace that follows goes too; after one inside the line the next line has its spaces
left_past : left 20 (replicate 21 97 ++ codes " ") ≡ Swallowing
unfolding skip_white till_white from_white last_white break_of cut_within cut_of
left_past = refl

left_inside : left 20 (replicate 20 97 ++ codes " ") ≡ Collecting (codes "  ")
unfolding skip_white till_white from_white last_white break_of cut_within cut_of
left_inside = refl

left_long : left 20 (replicate 21 97) ≡ Passing
unfolding skip_white till_white from_white last_white break_of cut_within cut_of
left_long = refl

-- a line that ended past the greatest length is sure, whether or not something follows
sure_past : committed 20 (replicate 21 97 ++ codes " ") ≡ replicate 21 97 ++ 10 ∷ []
unfolding trimmed skip_white till_white from_white last_white break_of cut_within cut_of
sure_past = refl
