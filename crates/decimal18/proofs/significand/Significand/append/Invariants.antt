use Rattle.std.proofs.Common.{◌≡◌, ◌+◌, ◌≤◌, drop}
use Rattle.std.specs.Str.Parse.{digits_value_after}
use Rattle.decimal18.specs.Significand.{number_of}
use Rattle.decimal18.proofs.significand.Significand.append.Given as goal

abbrev pub invariant-loop-digit : goal.invariant-loop-digit
invariant-loop-digit l = record {
  read : digits_value_after 10 (number_of l.number) (drop l.digit-index l.text) ≡ digits_value_after 10 (number_of l.fn.self) l.text;
  zeros : l.number.zeros ≤ l.fn.self.zeros + l.digit-index;
}
