-- Worked special characters, computed from the definitions.
use Rattle.std.proofs.Common.{refl}
use Rattle.btx_text.specs.language.Class.{class_of}
use Rattle.btx_text.specs.language.Elements.{kind_at, group_len, elements_from, elements_of}
use Rattle.btx_strings.specs.language.Controls.{control_name, glyphs_from, glyphs_of, letters_of, without_white}
use Rattle.btx_strings.specs.language.Width.{control_width}
use Rattle.btx_strings.specs.laws.WorkedSpecials.{specials, AreSpecials}

pub specials-worked : AreSpecials specials
unfolding elements_of elements_from kind_at group_len class_of control_name glyphs_from glyphs_of letters_of without_white control_width
specials-worked = (
  refl,
  refl,
  (
    refl,
    refl,
    (
      refl,
      refl,
      (
        refl,
        refl,
        (
          refl,
          refl,
          (
            refl,
            refl,
            (
              refl,
              refl,
              (
                refl,
                refl,
                (
                  refl,
                  refl,
                  (
                    refl,
                    refl,
                    (
                      refl,
                      refl,
                      (refl, refl, (refl, refl, (refl, refl, (refl, refl, (refl, refl, (refl, refl, (refl, refl, (refl, refl, (refl, refl, tt))))))))),
                    ),
                  ),
                ),
              ),
            ),
          ),
        ),
      ),
    ),
  ),
)
