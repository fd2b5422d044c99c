-- What the program's words give, without where they lie in memory.
use Rattle.std.specs.Prelude.{None}
use Rattle.std.specs.Option.{option_map}
use Rattle.request_words.specs.declared.gathering.Given.{Given}
use Rattle.request_words.specs.declared.gathering.Texts.{Texts}
use Rattle.request_words.specs.declared.asking.Checking.{Checking}
use Rattle.request_words.specs.declared.asking.Verifying.{Verifying}
use Rattle.request_words.specs.declared.asking.Asked.{Asked}
use Rattle.request_words.specs.declared.replaying.Replaying.{Replaying}
use Rattle.request_words.specs.declared.asking.Asked.TheVariants.{Check, Verify, Generate}
use Rattle.request_words.specs.Words as w
use Rattle.request_words.specs.Texts as t
use Rattle.request_words.specs.Asked as a
use Rattle.request_words.specs.Replays as r

abbrev pub given_of : Given → w.Given
given_of given = record {
  first = option_map (λ s. s.now) given.first;
  second = option_map (λ s. s.now) given.second;
  model = given.model;
  units = given.units;
  learn = given.learn;
  workers = given.workers;
  turns = given.turns;
  cert = option_map (λ s. s.now) given.cert;
  run = option_map (λ s. s.now) given.run;
  witness = option_map (λ s. s.now) given.witness;
  awaited = None;
}

abbrev pub texts_of : Texts → t.Texts
texts_of texts = record {
  first = option_map (λ s. s.now) texts.first;
  second = option_map (λ s. s.now) texts.second;
  model = option_map (λ s. s.now) texts.model;
  units = option_map (λ s. s.now) texts.units;
  learn = option_map (λ s. s.now) texts.learn;
  workers = option_map (λ s. s.now) texts.workers;
  turns = option_map (λ s. s.now) texts.turns;
  cert = option_map (λ s. s.now) texts.cert;
  run = option_map (λ s. s.now) texts.run;
  witness = option_map (λ s. s.now) texts.witness;
}

abbrev pub checking_of : Checking → a.Checking
checking_of c = record { source = c.source.now; cert = c.cert.now; model = c.model; workers = c.workers }

abbrev pub verifying_of : Verifying → a.Verifying
verifying_of v = record {
  source = v.source.now;
  model = v.model;
  units = v.units;
  learn = v.learn;
  workers = v.workers;
  cert = option_map (λ s. s.now) v.cert;
  run = option_map (λ s. s.now) v.run;
  witness = option_map (λ s. s.now) v.witness;
}

abbrev pub replaying_of : Replaying → r.Replaying
replaying_of w = record { source = w.source.now; run = w.run.now; model = w.model; turns = w.turns }

abbrev pub asked_by : Asked → a.Asked
asked_by (Check c) = a.Check (checking_of c)
asked_by (Verify v) = a.Verify (verifying_of v)
asked_by (Generate seed) = a.Generate seed
