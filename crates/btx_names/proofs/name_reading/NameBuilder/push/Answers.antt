use Rattle.std.proofs.Common.{◌≡◌, ◌≤◌, ◌+◌, ◌-◌, ◌∙◌, sym, ap, refl, arith, length, take, drop}
use Rattle.std.proofs.lemmas.List.{take_rest, length-drop}
use Rattle.btx_names.specs.declared.name_token.NameToken.{NameToken}
use Rattle.btx_names.proofs.TokenListLemmas.{lettered_le, token_held, held_pushed}
use Rattle.btx_names.proofs.name_reading.NameBuilder.push.Goals as goal

pub overflow_sub-from : goal.overflow_sub-from
overflow_sub-from c =
    let text = c.split_at.result.0.now in
    let le : length c.from_abbreviation-lettered.result.now ≤ length text = rw c.from_abbreviation-lettered.ensures (lettered_le text) in
    omega (arith, le)

pub returns-clause-held : goal.returns-clause-held
returns-clause-held c =
    let names = c.args.names.now in
    let from = c.args.from in
    let text = c.split_at.result.0.now in
    let lettered = c.from_abbreviation-lettered.result.now in
    let token : NameToken = record {
      text = record { from = from; len = length text };
      joint = c.joint_of.result;
      lettered =
          record { from = from + length text - length lettered; len = length lettered };
      bare_behind = 0;
    } in
    let front : text ≡ take c.run_len.result (drop from names) = rw (take_rest names from) at c.split_at.ensures.front in
    let bound : c.run_len.result ≤ length (drop from names) = rw (take_rest names from) at c.run_len.ensures.bound in
    let is : text ≡ take (length text) (drop from names) = front ∙ ap (λ n. take n (drop from names)) (sym c.split_at.ensures.front_len) in
    let inside : from + length text ≤ length names = omega (arith, c.requires.inside, bound, c.split_at.ensures.front_len, length-drop from names) in
    rw c.in_ok-push.ensures.items (held_pushed names c.args.self.now.tokens.items token c.requires.held
    (token_held names text lettered from token is c.from_abbreviation-lettered.ensures inside refl refl refl refl))
