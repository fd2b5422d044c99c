-- Other ways to compute, to keep values in objects, to pick elements and to tell cases, which a typed tree can't tell from C's.
use Rattle.std.specs.Prelude.{◌≡◌, ℕ, ◌<◌, Bool, true, ◌&&◌, List, Some, slice_get, ℤ, pos, int_le, unsigned_abs}
use Rattle.lv_base.specs.declared.kind.Kind.{Kind}
use Rattle.lv_base.specs.declared.kind.Model.{Model}
use Rattle.lv_base.specs.declared.kind.Op.{Op}
use Rattle.lv_base.specs.Integers.{InRange, IsRight, arith_of, is_promoted}
use Rattle.c_run.specs.Run.{Run, give, ◌>>◌, Compute, Element, element, write}
use Rattle.c_typed.specs.Tree.{Object}
use Rattle.c_typed.specs.Run.{size_of}

-- It computes as C does where the kind is a promoted one and the operands are of it; the right operand of a shift may be of any kind.
pub record Agrees (model : Model) (compute : Compute) : Type 0 where
  pub same : (op : Op) (kind : Kind) (left right : ℤ) → is_promoted kind ≡ true → InRange kind model left → IsRight op kind model right → compute op kind left right ≡ arith_of op kind model left right

-- How a run treats what it doesn't compute.
pub record Way : Type 0 where
  -- what becomes of a value that gets into the object of this number
  pub keep : ℕ → ℤ → ℤ
  -- the element of the object of this number that a number picks
  pub pick : ℕ → ℤ → Element
  -- what `++` or `--` before the element that a number picks gives, where this value was written into it
  pub back : ℕ → ℤ → ℤ → ℤ
  -- whether a value is that of a case
  pub same : ℤ → ℤ → Bool

-- each value gets there as it is, a number picks the element of this index, whose new value is given back, and equal values are the same
abbrev pub as_it_is : Way
as_it_is = record { keep = λ object value. value; pick = λ object number. element object (unsigned_abs number); back = λ object number value. value; same = λ a b. int_le a b && int_le b a }

-- the element that was located, as it is picked
abbrev pub picked : Way → Element → Element
picked way e = way.pick e.object (pos e.index)

-- A value is written into the element that a number picks, and kept so there; the value of the assignment is the one that was to be
-- written.
abbrev pub write_kept : Way → ℕ → ℤ → ℤ → Run ℤ
write_kept way object number v = do
  write (way.pick object number) (way.keep object v)
  give v

-- A value of an object's kind gets there as it is, an index of an object picks the element of this index and gives back what
-- was written there, and of two values of one kind the equal ones are the same.
pub record Suits (model : Model) (objects : List Object) (way : Way) : Type 0 where
  pub keeps : (object : ℕ) (told : Object) (value : ℤ) → slice_get objects object ≡ Some told → InRange told.kind model value → way.keep object value ≡ value
  pub picks : (object n : ℕ) → n < size_of (slice_get objects object) → way.pick object (pos n) ≡ element object n
  pub backs : (object n : ℕ) (value : ℤ) → n < size_of (slice_get objects object) → way.back object (pos n) value ≡ value
  pub tells : (kind : Kind) (a b : ℤ) → InRange kind model a → InRange kind model b → way.same a b ≡ (int_le a b && int_le b a)
