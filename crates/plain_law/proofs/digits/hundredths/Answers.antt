use Rattle.exact_fraction.proofs.OrderLaws.{*ℚ-not_negative}
use Rattle.exact_fraction.proofs.Signs.{whole-not_negative}
use Rattle.plain_law.proofs.PlaceLemmas.{at_most_by}
use Rattle.plain_law.proofs.digits.hundredths.Goals as goal

pub loop-hundredths-init : goal.loop-hundredths-init
loop-hundredths-init c =
    rw (c.in_ok-scaled.ensures, c.whole.ensures)
    (*ℚ-not_negative _ _ (whole-not_negative 40000) (at_most_by _ _ _ c.is_not_negative.ensures (cc)))
