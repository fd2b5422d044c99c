-- How many instructions a statement has, with the places in it that are jumped to, by its parts.
use Rattle.std.specs.Prelude.{ℕ, ◌+◌, List, [], ◌∷◌, ◌++◌}
use Rattle.slot_code.specs.Statements.{Name, Mark, mark, moved, labels_alone, loop_size}

pub record Measure : Type 0 where
  pub size : ℕ
  pub marks : List Mark

abbrev pub plain : ℕ → Measure
plain n = record { size = n; marks = [] }

abbrev pub behind : ℕ → Measure → Measure
behind n m = record { size = n + m.size; marks = moved n m.marks }

abbrev pub chosen : (test : ℕ) → Measure → Measure → Measure
chosen test a b = record { size = test + 1 + a.size + 1 + b.size; marks = moved (test + 1) a.marks ++ moved (test + 1 + a.size + 1) b.marks }

abbrev pub looped : (before test third : ℕ) → Measure → Measure
looped before test third m = record { size = before + 1 + loop_size test m.size third; marks = moved (before + 1 + test + 1) m.marks }

abbrev pub switched : (head : ℕ) → Measure → Measure
switched head m = record { size = head + m.size; marks = labels_alone (moved head m.marks) }

abbrev pub named : Name → Measure → Measure
named name m = record { size = m.size; marks = mark name ∷ m.marks }
