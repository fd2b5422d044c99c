use Rattle.std.proofs.Common.{◌≡◌, None, get_or, sym, ◌∙◌}
use Rattle.std.proofs.lemmas.List.{drop_more}
use Rattle.request_words.specs.Values.{digit_added}
use Rattle.request_words.proofs.WordLaws.{number_stops}
use Rattle.request_words.proofs.values.digits.Goals as goal

pub returns-in-None-clause-value : goal.returns-in-None-clause-value
returns-in-None-clause-value c =
    let i = c.loop-byte.byte-index in
    let bytes = c.args.bytes.now in
    let none : digit_added c.args.most c.loop-byte.number (get_or bytes i 0) ≡ None = sym c.with_digit.ensures.value ∙ c.in-None.is in
    sym (number_stops c.args.most c.loop-byte.number (get_or bytes i 0) _ _ (drop_more bytes i 0 c.loop-byte-test.true) none) ∙ c.loop-byte.invariant.behind
