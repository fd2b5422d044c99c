-- Elements of arrays.
use Rattle.std.proofs.Common.{◌≡◌, ◌-◌, true, false, ◌&&◌, length, replicate, pos, int_le, int_lt, refl, ◌∙◌, arith}
use Rattle.std.proofs.lemmas.List.{length-append, length-replicate}
use Rattle.c_run.specs.Laws.{EachIndex, Filled}

pub each_index : EachIndex
each_index at object count st = record {
  within = λ i lt. let h : (int_le (pos 0) (pos i) && int_lt (pos i) (pos count)) ≡ true = grind (arith, lt) in rw h refl;
  past = λ i le. let h : (int_le (pos 0) (pos i) && int_lt (pos i) (pos count)) ≡ false = grind (arith, le) in rw h refl;
  negative = λ i. refl;
}

pub filled : Filled
filled count values le = length-append values (replicate (count - length values) (pos 0)) ∙ omega (arith, le, length-replicate (count - length values) (pos 0))
