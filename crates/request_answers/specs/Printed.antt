-- What is printed of an answer.
use Rattle.std.specs.Prelude.{ℕ, List}
use Rattle.task_gen.specs.Generated.{blocks_of}
use Rattle.request_words.specs.Asked.{Asked, Check, Verify, Generate}
use Rattle.verdicts.specs.Lines.{seeded_text, text_of}
use Rattle.verdicts.specs.declared.verdict.Verdict.{Verdict}

-- the answer's line, and behind it that of the seed where the source is a seed's
abbrev pub text_for : Asked → Verdict → List ℕ
text_for (Check c) v = text_of v
text_for (Verify w) v = text_of v
text_for (Generate seed) v = seeded_text seed (blocks_of seed) v
