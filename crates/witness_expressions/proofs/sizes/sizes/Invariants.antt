use Rattle.std.proofs.Common.{◌≡◌, drop}
use Rattle.witness_expressions.specs.Names.{named}
use Rattle.witness_expressions.specs.Sizes.{sizes_after, sizes_of}
use Rattle.witness_expressions.proofs.sizes.sizes.Given as goal

abbrev pub invariant-loop-number : goal.invariant-loop-number
invariant-loop-number l = sizes_after (named l.spellings l.cells) l.terms.terms l.sizes.items (drop l.number l.terms.terms) ≡ sizes_of (named l.spellings l.cells) l.terms.terms
