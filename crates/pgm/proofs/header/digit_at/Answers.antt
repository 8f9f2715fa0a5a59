-- `pgm::header::digit_at` meets its contract. Assumes nothing.
use mathlib.Core.Path.{sym, ◌∙◌}
use native.Mathlib.Omega.{arith}
use Rattle.pgm.specs.Header.{is_digit}
use Rattle.pgm.proofs.Scanning.{begins-end, begins-here}
use Rattle.pgm.proofs.header.digit_at.Goals as goal
use Rattle.pgm.proofs.header.digit_at.Goals.{else-at-upload-via-then-at-upload+else-is_ascii_digit, else-at-upload-via-else-at-upload}

pub returns-then-is_ascii_digit : goal.returns-then-is_ascii_digit
returns-then-is_ascii_digit c =
    record {
      here = begins-here _ is_digit _ c.if-at-upload.true c.requires ∙ (sym c.is_ascii_digit.ensures.value ∙ c.if-is_ascii_digit.true);
      inside = c.if-at-upload.true;
      value = c.from.ensures;
      few = omega (arith, c.from.ensures, c.if-is_ascii_digit.ensures.cases);
    }

pub returns-else-at-upload : goal.returns-else-at-upload
returns-else-at-upload c =
    elim c.else-at-upload.branch [
      | else-at-upload-via-then-at-upload+else-is_ascii_digit w ↦
          begins-here _ is_digit _ w.if-at-upload.true c.requires ∙ (sym w.is_ascii_digit.ensures.value ∙ w.if-is_ascii_digit.false)
      | else-at-upload-via-else-at-upload w ↦ begins-end _ _ _ w.if-at-upload.false
    ]
