-- The texts that the parser of a command finds, and what they give.
use Rattle.std.specs.Prelude.{ℕ, List, Bool, true, false, ◌&&◌, if◌then◌else◌, Option, Some, None, codes, is_some, option_and_then}
use Rattle.clap.specs.Words.{Row, first_of}
use Rattle.request_words.specs.declared.options.Choice.{Choice}
use Rattle.request_words.specs.declared.commands.Command.{Command}
use Rattle.request_words.specs.declared.commands.Command.TheVariants.{Check, Verify, Replay, Generate}
use Rattle.request_words.specs.Values.{is_name_of, model_of, number_of}
use Rattle.request_words.specs.Words.{Given}

-- The value of each name and option, where it was there.
pub record Texts : Type 0 where
  pub first : Option (List ℕ)
  pub second : Option (List ℕ)
  pub model : Option (List ℕ)
  pub units : Option (List ℕ)
  pub learn : Option (List ℕ)
  pub workers : Option (List ℕ)
  pub turns : Option (List ℕ)
  pub cert : Option (List ℕ)
  pub run : Option (List ℕ)
  pub witness : Option (List ℕ)

abbrev pub texts_by : (List ℕ → Option (List ℕ)) → Texts
texts_by text = record {
  first = text (codes "source");
  second = text (codes "second");
  model = text (codes "model");
  units = text (codes "units");
  learn = text (codes "learn");
  workers = text (codes "workers");
  turns = text (codes "turns");
  cert = text (codes "cert");
  run = text (codes "run");
  witness = text (codes "witness");
}

abbrev pub texts_in : List Row → Texts
texts_in rows = texts_by (λ id. first_of id rows)

-- ---- Tests of values

abbrev pub is_good : (List ℕ → Bool) → Option (List ℕ) → Bool
is_good test None = true
is_good test (Some text) = test text

abbrev pub has_names : Texts → Bool
has_names t = is_good is_name_of t.first && (is_good is_name_of t.second && (is_good is_name_of t.cert && (is_good is_name_of t.run && is_good is_name_of t.witness)))

abbrev pub has_values : Texts → Bool
has_values t =
    is_good (λ v. is_some (model_of v)) t.model && (is_good (λ v. is_some (number_of 10000000 v)) t.units
    && (is_good (λ v. is_some (number_of 100000000 v)) t.learn && (is_good (λ v. is_some (number_of 64 v)) t.workers && is_good (λ v. is_some (number_of 1000000000 v)) t.turns)))

abbrev pub has_good_texts : Texts → Bool
has_good_texts t = has_names t && has_values t

-- ---- What they give

abbrev pub values_given : Texts → Given
values_given t = record {
  first = t.first;
  second = t.second;
  model = option_and_then model_of t.model;
  units = option_and_then (number_of 10000000) t.units;
  learn = option_and_then (number_of 100000000) t.learn;
  workers = option_and_then (number_of 64) t.workers;
  turns = option_and_then (number_of 1000000000) t.turns;
  cert = t.cert;
  run = t.run;
  witness = t.witness;
  awaited = None;
}

abbrev pub given_by : Texts → Option Given
given_by t = if has_good_texts t then Some (values_given t) else None

-- ---- What a command wants

abbrev pub has_all : Command → Option (List ℕ) → Option (List ℕ) → Option Choice → Bool
has_all Check (Some source) (Some cert) None = true
has_all Replay (Some source) (Some run) None = true
has_all Verify (Some source) None None = true
has_all Generate (Some seed) None None = true
has_all _ _ _ _ = false

-- all names are there and no more, and each option has its value
abbrev pub whole : Command → Option Given → Option Given
whole command None = None
whole command (Some given) = if has_all command given.first given.second given.awaited then Some given else None
