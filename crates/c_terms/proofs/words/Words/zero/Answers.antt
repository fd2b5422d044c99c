use Rattle.std.proofs.Common.{refl}
use Rattle.std.proofs.lemmas.Nat.{pow_pos}
use Rattle.c_terms.proofs.Putting.{gives-constant}
use Rattle.c_terms.proofs.words.Words.zero.Goals as goal

pub returns-clause-shows : goal.returns-clause-shows
returns-clause-shows c = λ s w e low high. c.put.ensures.shows s _ _ (gives-constant _ s _ w _ 0 e refl low high (pow_pos w))

pub returns-clause-made : goal.returns-clause-made
returns-clause-made c = c.put.ensures.made
