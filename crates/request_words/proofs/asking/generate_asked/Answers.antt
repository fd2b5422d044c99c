use Rattle.std.proofs.Common.{◌∙◌, ℕ, List, Bor, map, sym, ap}
use Rattle.std.specs.Option.{option_map}
use Rattle.request_words.specs.Views.{given_of}
use Rattle.request_words.proofs.SeedLaws.{asked_by_seed, seed_words}
use Rattle.request_words.proofs.asking.generate_asked.Goals as goal

abbrev text : Bor (List ℕ) → List ℕ
text word = word.now

pub returns-in-Some : goal.returns-in-Some
returns-in-Some c = c.whole_generate.ensures ∙ ap asked_by_seed (ap (option_map given_of) (sym c.in-Some.is) ∙ c.in_ok-given.ensures) ∙ sym (seed_words (map text c.args.words.now))

pub returns-in-None : goal.returns-in-None
returns-in-None c = ap asked_by_seed (ap (option_map given_of) (sym c.in-None.is) ∙ c.in_ok-given.ensures) ∙ sym (seed_words (map text c.args.words.now))
