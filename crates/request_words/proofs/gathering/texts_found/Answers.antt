use Rattle.std.proofs.Common.{◌≡◌, ◌∙◌, codes}
use Rattle.std.specs.Option.{option_map}
use Rattle.clap.specs.Words.{first_of, found_of, rows_of}
use Rattle.clap.proofs.WalkLemmas.{first_value-rows}
use Rattle.request_words.proofs.gathering.texts_found.Goals as goal

pub returns : goal.returns
returns c =
    let f = found_of c.args.matches.now in
    let first : option_map (λ s. s.now) c.get_str.result ≡ first_of (codes "source") (rows_of f) = c.get_str.ensures ∙ first_value-rows f (codes "source") in
    let second : option_map (λ s. s.now) c.get_str-2.result ≡ first_of (codes "second") (rows_of f) = c.get_str-2.ensures ∙ first_value-rows f (codes "second") in
    let model : option_map (λ s. s.now) c.get_str-3.result ≡ first_of (codes "model") (rows_of f) = c.get_str-3.ensures ∙ first_value-rows f (codes "model") in
    let units : option_map (λ s. s.now) c.get_str-4.result ≡ first_of (codes "units") (rows_of f) = c.get_str-4.ensures ∙ first_value-rows f (codes "units") in
    let learn : option_map (λ s. s.now) c.get_str-5.result ≡ first_of (codes "learn") (rows_of f) = c.get_str-5.ensures ∙ first_value-rows f (codes "learn") in
    let workers : option_map (λ s. s.now) c.get_str-6.result ≡ first_of (codes "workers") (rows_of f) = c.get_str-6.ensures ∙ first_value-rows f (codes "workers") in
    let turns : option_map (λ s. s.now) c.get_str-7.result ≡ first_of (codes "turns") (rows_of f) = c.get_str-7.ensures ∙ first_value-rows f (codes "turns") in
    let cert : option_map (λ s. s.now) c.get_str-8.result ≡ first_of (codes "cert") (rows_of f) = c.get_str-8.ensures ∙ first_value-rows f (codes "cert") in
    let run : option_map (λ s. s.now) c.get_str-9.result ≡ first_of (codes "run") (rows_of f) = c.get_str-9.ensures ∙ first_value-rows f (codes "run") in
    let witness : option_map (λ s. s.now) c.get_str-10.result ≡ first_of (codes "witness") (rows_of f) = c.get_str-10.ensures ∙ first_value-rows f (codes "witness") in
    λ i. record {
      first = first i;
      second = second i;
      model = model i;
      units = units i;
      learn = learn i;
      workers = workers i;
      turns = turns i;
      cert = cert i;
      run = run i;
      witness = witness i;
    }
