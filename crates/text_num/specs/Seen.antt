-- The slices of a number as the number that they write.
use Rattle.text_num.specs.declared.number.Number.{Number}
use Rattle.text_num.specs.JsonNumber.{JsonNumber}

abbrev pub number_seen : Number → JsonNumber
number_seen n = record {
  negative = n.negative;
  whole = n.whole.now;
  fraction = n.fraction.now;
  mark = n.mark.now;
  exponent = n.exponent.now;
}
