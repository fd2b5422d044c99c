use Rattle.std.proofs.Common.{◌≡◌, ◌∙◌, ℕ, List, Bor, Bool, true, false, Some, map, codes, sym, ap, inl, inr}
use Rattle.std.specs.List.{list_any}
use Rattle.std.specs.Str.{bytes_eq}
use Rattle.clap.specs.Words.{is_simple, is_simple_and_free}
use Rattle.clap.proofs.WalkLemmas.{list_any-map}
use Rattle.request_words.specs.Texts.{given_by}
use Rattle.request_words.specs.Words.{nothing_given}
use Rattle.request_words.proofs.ParseLaws.{free_app, is_end, parse_refused, parse_told, simple_app, words_ended}
use Rattle.request_words.proofs.gathering.gathered.Goals as goal

abbrev text : Bor (List ℕ) → List ℕ
text word = word.now

ends : (words : List (Bor (List ℕ))) (found t : Bool) → found ≡ list_any (λ (w : Bor (List ℕ)). bytes_eq w.now (codes "--")) words → found ≡ t → list_any is_end (map text words) ≡ t
ends words found t e is = sym (list_any-map is_end text words) ∙ sym e ∙ is

pub returns-then-has_end : goal.returns-then-has_end
returns-then-has_end c =
    sym (words_ended c.args.command (map text c.args.words.now) (Some nothing_given) (ends c.args.words.now c.has_end.result true c.has_end.ensures c.if-has_end.true))

pub returns-in-Ok : goal.returns-in-Ok
returns-in-Ok c =
    let command = c.args.command in
    let parser = c.in_ok-parser_for.ensures in
    let rows = c.in-Ok.ensures.matches (ap is_simple parser ∙ simple_app command) in
    let clear = c.in-Ok.ensures.kinds (ap is_simple_and_free parser ∙ free_app command) in
    c.given_in.ensures ∙ ap given_by c.texts_found.ensures
    ∙ parse_told command (map text c.args.words.now) _ parser (ends c.args.words.now c.has_end.result false c.has_end.ensures c.if-has_end.false) _ rows.0 clear

pub returns : goal.returns
returns c =
    let command = c.args.command in
    let parser = c.in_ok-parser_for.ensures in
    elim (c.in-Err.ensures.kinds (ap is_simple_and_free parser ∙ free_app command)) [
      | inl out ↦ absurd (c.in_default.not-OutOfMemory (c.kind.ensures ∙ out))
      | inr among ↦ parse_refused command (map text c.args.words.now) _ parser (ends c.args.words.now c.has_end.result false c.has_end.ensures c.if-has_end.false) _ among
    ]
