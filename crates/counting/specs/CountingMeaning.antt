-- What a counting host means.
use Rattle.std.specs.Prelude.{◌-◌, false}
use Rattle.arrayvec.specs.ArrayVec.{array_vec_len}
use Rattle.host.specs.Meaning.{Meaning}
use Rattle.counting.specs.declared.Counting.{Counting}
use Rattle.counting.specs.Counted.{numbers}

-- the numbers that are left wait, the results that were kept are written, and each free place is a write that is left
abbrev pub counting_meaning : Counting → Meaning
counting_meaning c = record {
  waiting = numbers (c.numbers.end - c.numbers.start) c.numbers.start;
  spoiled = false;
  written = c.results.items;
  left = 16 - array_vec_len c.results;
}
