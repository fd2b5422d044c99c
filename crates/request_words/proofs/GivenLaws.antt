-- What texts give, as one more is added.
use Rattle.std.proofs.Common.{◌≡◌, ◌∙◌, ℕ, List, [], ◌∷◌, ◌++◌, Bool, true, false, Option, Some, None, is_some, codes, refl, sym, ap}
use Rattle.std.specs.Prelude.{◌&&◌, if◌then◌else◌, option_and_then}
use Rattle.std.specs.Str.{bytes_eq}
use Rattle.clap.specs.Walk.{Text, has_row, first_of}
use Rattle.lv_base.specs.declared.kind.Model.{Model}
use Rattle.request_words.specs.declared.options.Choice.TheVariants.{OfModel, OfUnits, OfLearn, OfWorkers, OfTurns, OfCert, OfRun, OfWitness}
use Rattle.request_words.specs.Texts.{Texts, given_by, has_good_texts, has_names, is_good, texts_by, texts_in, values_given}
use Rattle.request_words.specs.Values.{is_name_of, model_of, number_of}
use Rattle.request_words.specs.Words.{Given, with_value}
use Rattle.request_words.proofs.WordWalk.{Slot, Uses, first, second, of, id_of}
use Rattle.request_words.proofs.UseLaws.{first_more, first_none, first_some, rows_of_uses, same_bytes, with_use}

-- ---- tests that all hold

abbrev all_hold : List Bool → Bool
all_hold [] = true
all_hold (b ∷ bs) = b && all_hold bs

and_true : (b : Bool) → b && true ≡ b
and_true true = refl
and_true false = refl

and_false : (b : Bool) → b && false ≡ false
and_false true = refl
and_false false = refl

one_fails : (xs ys : List Bool) → all_hold (xs ++ false ∷ ys) ≡ false
one_fails [] ys = refl
one_fails (b ∷ xs) ys = ap (λ (t : Bool). b && t) (one_fails xs ys) ∙ and_false b

five : (m u l w n : Bool) → m && (u && (l && (w && n))) ≡ all_hold (m ∷ u ∷ l ∷ w ∷ n ∷ [])
five m u l w n = ap (λ (t : Bool). m && (u && (l && (w && t)))) (sym (and_true n))

nine : (f s c r t rest : Bool) → (f && (s && (c && (r && t)))) && rest ≡ f && (s && (c && (r && (t && rest))))
nine false s c r t rest = refl
nine true false c r t rest = refl
nine true true false r t rest = refl
nine true true true false t rest = refl
nine true true true true t rest = refl

abbrev tests : Texts → List Bool
tests t =
    is_good is_name_of t.first ∷ is_good is_name_of t.second ∷ is_good is_name_of t.cert ∷ is_good is_name_of t.run ∷ is_good is_name_of t.witness
    ∷ is_good (λ v. is_some (model_of v)) t.model ∷ is_good (λ v. is_some (number_of 10000000 v)) t.units ∷ is_good (λ v. is_some (number_of 100000000 v)) t.learn ∷ is_good (λ v. is_some (number_of 64 v)) t.workers ∷ is_good (λ v. is_some (number_of 1000000000 v)) t.turns ∷ []

good_is : (t : Texts) → has_good_texts t ≡ all_hold (tests t)
good_is t = ap (λ (b : Bool). has_names t && b) (five (is_good (λ v. is_some (model_of v)) t.model) (is_good (λ v. is_some (number_of 10000000 v)) t.units) (is_good (λ v. is_some (number_of 100000000 v)) t.learn) (is_good (λ v. is_some (number_of 64 v)) t.workers) (is_good (λ v. is_some (number_of 1000000000 v)) t.turns))
    ∙ nine (is_good is_name_of t.first) (is_good is_name_of t.second) (is_good is_name_of t.cert) (is_good is_name_of t.run) (is_good is_name_of t.witness)
    (all_hold (is_good (λ v. is_some (model_of v)) t.model ∷ is_good (λ v. is_some (number_of 10000000 v)) t.units ∷ is_good (λ v. is_some (number_of 100000000 v)) t.learn ∷ is_good (λ v. is_some (number_of 64 v)) t.workers ∷ is_good (λ v. is_some (number_of 1000000000 v)) t.turns ∷ []))

abbrev given_if : Bool → Given → Option Given
given_if b given = if b then Some given else None

given_is : (t : Texts) → given_by t ≡ given_if (all_hold (tests t)) (values_given t)
given_is t = ap (λ (b : Bool). given_if b (values_given t)) (good_is t)

-- ---- one more use

-- the text of a slot, which stands at most once
abbrev pub once : Option Text → Option Given → Option Given
once None next = next
once (Some text) next = None

abbrev pub named : Option Text → Text → Given → Option Given
named before text next = if is_name_of text then once before (Some next) else None

abbrev pub with_text : Slot → Text → Given → Option Given
with_text first text given = named given.first text (record given { first = Some text; awaited = None })
with_text second text given = named given.second text (record given { second = Some text; awaited = None })
with_text (of choice) text given = with_value given choice text

none_then : (b : Bool) (f : Given → Option Given) (given : Given) → f given ≡ None → option_and_then f (given_if b given) ≡ None
none_then true f given e = e
none_then false f given e = refl

some_then : (b : Bool) (f : Given → Option Given) (given next : Given) → f given ≡ Some next → option_and_then f (given_if b given) ≡ given_if b next
some_then true f given next e = e
some_then false f given next e = refl

module _ (f s c r t m u l w n : Option Text) (text : Text) where
  abbrev no_first : Texts
  no_first = record { first = None; second = s; model = m; units = u; learn = l; workers = w; turns = n; cert = c; run = r; witness = t }

  abbrev some_first : Texts
  some_first = record { first = Some text; second = s; model = m; units = u; learn = l; workers = w; turns = n; cert = c; run = r; witness = t }

  more_first : given_by some_first ≡ option_and_then (with_text (first) text) (given_by no_first)
  more_first = given_is some_first ∙ go (is_name_of text) refl ∙ ap (option_and_then (with_text (first) text)) (sym (given_is no_first))
    where
      go : (q : Bool) → is_name_of text ≡ q → given_if (all_hold (tests some_first)) (values_given some_first) ≡ option_and_then (with_text (first) text) (given_if (all_hold (tests no_first)) (values_given no_first))
      go true e = ap (λ (q : Bool). given_if (all_hold (([]) ++ q ∷ (is_good is_name_of s ∷ is_good is_name_of c ∷ is_good is_name_of r ∷ is_good is_name_of t ∷ is_good (λ v. is_some (model_of v)) m ∷ is_good (λ v. is_some (number_of 10000000 v)) u ∷ is_good (λ v. is_some (number_of 100000000 v)) l ∷ is_good (λ v. is_some (number_of 64 v)) w ∷ is_good (λ v. is_some (number_of 1000000000 v)) n ∷ []))) (values_given some_first)) e
          ∙ sym (some_then _ (with_text (first) text) (values_given no_first) (values_given some_first) (rw e refl))
      go false e = ap (λ (q : Bool). given_if (all_hold (([]) ++ q ∷ (is_good is_name_of s ∷ is_good is_name_of c ∷ is_good is_name_of r ∷ is_good is_name_of t ∷ is_good (λ v. is_some (model_of v)) m ∷ is_good (λ v. is_some (number_of 10000000 v)) u ∷ is_good (λ v. is_some (number_of 100000000 v)) l ∷ is_good (λ v. is_some (number_of 64 v)) w ∷ is_good (λ v. is_some (number_of 1000000000 v)) n ∷ []))) (values_given some_first)) e
          ∙ ap (λ (q : Bool). given_if q (values_given some_first)) (one_fails ([]) (is_good is_name_of s ∷ is_good is_name_of c ∷ is_good is_name_of r ∷ is_good is_name_of t ∷ is_good (λ v. is_some (model_of v)) m ∷ is_good (λ v. is_some (number_of 10000000 v)) u ∷ is_good (λ v. is_some (number_of 100000000 v)) l ∷ is_good (λ v. is_some (number_of 64 v)) w ∷ is_good (λ v. is_some (number_of 1000000000 v)) n ∷ []))
          ∙ sym (none_then _ (with_text (first) text) (values_given no_first) (rw e refl))

  abbrev no_second : Texts
  no_second = record { first = f; second = None; model = m; units = u; learn = l; workers = w; turns = n; cert = c; run = r; witness = t }

  abbrev some_second : Texts
  some_second = record { first = f; second = Some text; model = m; units = u; learn = l; workers = w; turns = n; cert = c; run = r; witness = t }

  more_second : given_by some_second ≡ option_and_then (with_text (second) text) (given_by no_second)
  more_second = given_is some_second ∙ go (is_name_of text) refl ∙ ap (option_and_then (with_text (second) text)) (sym (given_is no_second))
    where
      go : (q : Bool) → is_name_of text ≡ q → given_if (all_hold (tests some_second)) (values_given some_second) ≡ option_and_then (with_text (second) text) (given_if (all_hold (tests no_second)) (values_given no_second))
      go true e = ap (λ (q : Bool). given_if (all_hold ((is_good is_name_of f ∷ []) ++ q ∷ (is_good is_name_of c ∷ is_good is_name_of r ∷ is_good is_name_of t ∷ is_good (λ v. is_some (model_of v)) m ∷ is_good (λ v. is_some (number_of 10000000 v)) u ∷ is_good (λ v. is_some (number_of 100000000 v)) l ∷ is_good (λ v. is_some (number_of 64 v)) w ∷ is_good (λ v. is_some (number_of 1000000000 v)) n ∷ []))) (values_given some_second)) e
          ∙ sym (some_then _ (with_text (second) text) (values_given no_second) (values_given some_second) (rw e refl))
      go false e = ap (λ (q : Bool). given_if (all_hold ((is_good is_name_of f ∷ []) ++ q ∷ (is_good is_name_of c ∷ is_good is_name_of r ∷ is_good is_name_of t ∷ is_good (λ v. is_some (model_of v)) m ∷ is_good (λ v. is_some (number_of 10000000 v)) u ∷ is_good (λ v. is_some (number_of 100000000 v)) l ∷ is_good (λ v. is_some (number_of 64 v)) w ∷ is_good (λ v. is_some (number_of 1000000000 v)) n ∷ []))) (values_given some_second)) e
          ∙ ap (λ (q : Bool). given_if q (values_given some_second)) (one_fails (is_good is_name_of f ∷ []) (is_good is_name_of c ∷ is_good is_name_of r ∷ is_good is_name_of t ∷ is_good (λ v. is_some (model_of v)) m ∷ is_good (λ v. is_some (number_of 10000000 v)) u ∷ is_good (λ v. is_some (number_of 100000000 v)) l ∷ is_good (λ v. is_some (number_of 64 v)) w ∷ is_good (λ v. is_some (number_of 1000000000 v)) n ∷ []))
          ∙ sym (none_then _ (with_text (second) text) (values_given no_second) (rw e refl))

  abbrev no_cert : Texts
  no_cert = record { first = f; second = s; model = m; units = u; learn = l; workers = w; turns = n; cert = None; run = r; witness = t }

  abbrev some_cert : Texts
  some_cert = record { first = f; second = s; model = m; units = u; learn = l; workers = w; turns = n; cert = Some text; run = r; witness = t }

  more_cert : given_by some_cert ≡ option_and_then (with_text (of OfCert) text) (given_by no_cert)
  more_cert = given_is some_cert ∙ go (is_name_of text) refl ∙ ap (option_and_then (with_text (of OfCert) text)) (sym (given_is no_cert))
    where
      go : (q : Bool) → is_name_of text ≡ q → given_if (all_hold (tests some_cert)) (values_given some_cert) ≡ option_and_then (with_text (of OfCert) text) (given_if (all_hold (tests no_cert)) (values_given no_cert))
      go true e = ap (λ (q : Bool). given_if (all_hold ((is_good is_name_of f ∷ is_good is_name_of s ∷ []) ++ q ∷ (is_good is_name_of r ∷ is_good is_name_of t ∷ is_good (λ v. is_some (model_of v)) m ∷ is_good (λ v. is_some (number_of 10000000 v)) u ∷ is_good (λ v. is_some (number_of 100000000 v)) l ∷ is_good (λ v. is_some (number_of 64 v)) w ∷ is_good (λ v. is_some (number_of 1000000000 v)) n ∷ []))) (values_given some_cert)) e
          ∙ sym (some_then _ (with_text (of OfCert) text) (values_given no_cert) (values_given some_cert) (rw e refl))
      go false e = ap (λ (q : Bool). given_if (all_hold ((is_good is_name_of f ∷ is_good is_name_of s ∷ []) ++ q ∷ (is_good is_name_of r ∷ is_good is_name_of t ∷ is_good (λ v. is_some (model_of v)) m ∷ is_good (λ v. is_some (number_of 10000000 v)) u ∷ is_good (λ v. is_some (number_of 100000000 v)) l ∷ is_good (λ v. is_some (number_of 64 v)) w ∷ is_good (λ v. is_some (number_of 1000000000 v)) n ∷ []))) (values_given some_cert)) e
          ∙ ap (λ (q : Bool). given_if q (values_given some_cert)) (one_fails (is_good is_name_of f ∷ is_good is_name_of s ∷ []) (is_good is_name_of r ∷ is_good is_name_of t ∷ is_good (λ v. is_some (model_of v)) m ∷ is_good (λ v. is_some (number_of 10000000 v)) u ∷ is_good (λ v. is_some (number_of 100000000 v)) l ∷ is_good (λ v. is_some (number_of 64 v)) w ∷ is_good (λ v. is_some (number_of 1000000000 v)) n ∷ []))
          ∙ sym (none_then _ (with_text (of OfCert) text) (values_given no_cert) (rw e refl))

  abbrev no_run : Texts
  no_run = record { first = f; second = s; model = m; units = u; learn = l; workers = w; turns = n; cert = c; run = None; witness = t }

  abbrev some_run : Texts
  some_run = record { first = f; second = s; model = m; units = u; learn = l; workers = w; turns = n; cert = c; run = Some text; witness = t }

  more_run : given_by some_run ≡ option_and_then (with_text (of OfRun) text) (given_by no_run)
  more_run = given_is some_run ∙ go (is_name_of text) refl ∙ ap (option_and_then (with_text (of OfRun) text)) (sym (given_is no_run))
    where
      go : (q : Bool) → is_name_of text ≡ q → given_if (all_hold (tests some_run)) (values_given some_run) ≡ option_and_then (with_text (of OfRun) text) (given_if (all_hold (tests no_run)) (values_given no_run))
      go true e = ap (λ (q : Bool). given_if (all_hold ((is_good is_name_of f ∷ is_good is_name_of s ∷ is_good is_name_of c ∷ []) ++ q ∷ (is_good is_name_of t ∷ is_good (λ v. is_some (model_of v)) m ∷ is_good (λ v. is_some (number_of 10000000 v)) u ∷ is_good (λ v. is_some (number_of 100000000 v)) l ∷ is_good (λ v. is_some (number_of 64 v)) w ∷ is_good (λ v. is_some (number_of 1000000000 v)) n ∷ []))) (values_given some_run)) e
          ∙ sym (some_then _ (with_text (of OfRun) text) (values_given no_run) (values_given some_run) (rw e refl))
      go false e = ap (λ (q : Bool). given_if (all_hold ((is_good is_name_of f ∷ is_good is_name_of s ∷ is_good is_name_of c ∷ []) ++ q ∷ (is_good is_name_of t ∷ is_good (λ v. is_some (model_of v)) m ∷ is_good (λ v. is_some (number_of 10000000 v)) u ∷ is_good (λ v. is_some (number_of 100000000 v)) l ∷ is_good (λ v. is_some (number_of 64 v)) w ∷ is_good (λ v. is_some (number_of 1000000000 v)) n ∷ []))) (values_given some_run)) e
          ∙ ap (λ (q : Bool). given_if q (values_given some_run)) (one_fails (is_good is_name_of f ∷ is_good is_name_of s ∷ is_good is_name_of c ∷ []) (is_good is_name_of t ∷ is_good (λ v. is_some (model_of v)) m ∷ is_good (λ v. is_some (number_of 10000000 v)) u ∷ is_good (λ v. is_some (number_of 100000000 v)) l ∷ is_good (λ v. is_some (number_of 64 v)) w ∷ is_good (λ v. is_some (number_of 1000000000 v)) n ∷ []))
          ∙ sym (none_then _ (with_text (of OfRun) text) (values_given no_run) (rw e refl))

  abbrev no_witness : Texts
  no_witness = record { first = f; second = s; model = m; units = u; learn = l; workers = w; turns = n; cert = c; run = r; witness = None }

  abbrev some_witness : Texts
  some_witness = record { first = f; second = s; model = m; units = u; learn = l; workers = w; turns = n; cert = c; run = r; witness = Some text }

  more_witness : given_by some_witness ≡ option_and_then (with_text (of OfWitness) text) (given_by no_witness)
  more_witness = given_is some_witness ∙ go (is_name_of text) refl ∙ ap (option_and_then (with_text (of OfWitness) text)) (sym (given_is no_witness))
    where
      go : (q : Bool) → is_name_of text ≡ q → given_if (all_hold (tests some_witness)) (values_given some_witness) ≡ option_and_then (with_text (of OfWitness) text) (given_if (all_hold (tests no_witness)) (values_given no_witness))
      go true e = ap (λ (q : Bool). given_if (all_hold ((is_good is_name_of f ∷ is_good is_name_of s ∷ is_good is_name_of c ∷ is_good is_name_of r ∷ []) ++ q ∷ (is_good (λ v. is_some (model_of v)) m ∷ is_good (λ v. is_some (number_of 10000000 v)) u ∷ is_good (λ v. is_some (number_of 100000000 v)) l ∷ is_good (λ v. is_some (number_of 64 v)) w ∷ is_good (λ v. is_some (number_of 1000000000 v)) n ∷ []))) (values_given some_witness)) e
          ∙ sym (some_then _ (with_text (of OfWitness) text) (values_given no_witness) (values_given some_witness) (rw e refl))
      go false e = ap (λ (q : Bool). given_if (all_hold ((is_good is_name_of f ∷ is_good is_name_of s ∷ is_good is_name_of c ∷ is_good is_name_of r ∷ []) ++ q ∷ (is_good (λ v. is_some (model_of v)) m ∷ is_good (λ v. is_some (number_of 10000000 v)) u ∷ is_good (λ v. is_some (number_of 100000000 v)) l ∷ is_good (λ v. is_some (number_of 64 v)) w ∷ is_good (λ v. is_some (number_of 1000000000 v)) n ∷ []))) (values_given some_witness)) e
          ∙ ap (λ (q : Bool). given_if q (values_given some_witness)) (one_fails (is_good is_name_of f ∷ is_good is_name_of s ∷ is_good is_name_of c ∷ is_good is_name_of r ∷ []) (is_good (λ v. is_some (model_of v)) m ∷ is_good (λ v. is_some (number_of 10000000 v)) u ∷ is_good (λ v. is_some (number_of 100000000 v)) l ∷ is_good (λ v. is_some (number_of 64 v)) w ∷ is_good (λ v. is_some (number_of 1000000000 v)) n ∷ []))
          ∙ sym (none_then _ (with_text (of OfWitness) text) (values_given no_witness) (rw e refl))

  abbrev no_model : Texts
  no_model = record { first = f; second = s; model = None; units = u; learn = l; workers = w; turns = n; cert = c; run = r; witness = t }

  abbrev some_model : Texts
  some_model = record { first = f; second = s; model = Some text; units = u; learn = l; workers = w; turns = n; cert = c; run = r; witness = t }

  more_model : given_by some_model ≡ option_and_then (with_text (of OfModel) text) (given_by no_model)
  more_model = given_is some_model ∙ go (model_of text) refl ∙ ap (option_and_then (with_text (of OfModel) text)) (sym (given_is no_model))
    where
      go : (o : Option Model) → model_of text ≡ o → given_if (all_hold (tests some_model)) (values_given some_model) ≡ option_and_then (with_text (of OfModel) text) (given_if (all_hold (tests no_model)) (values_given no_model))
      go (Some value) e = ap (λ (o : Option Model). given_if (all_hold ((is_good is_name_of f ∷ is_good is_name_of s ∷ is_good is_name_of c ∷ is_good is_name_of r ∷ is_good is_name_of t ∷ []) ++ is_some o ∷ (is_good (λ v. is_some (number_of 10000000 v)) u ∷ is_good (λ v. is_some (number_of 100000000 v)) l ∷ is_good (λ v. is_some (number_of 64 v)) w ∷ is_good (λ v. is_some (number_of 1000000000 v)) n ∷ []))) (record (values_given some_model) { model = o })) e
          ∙ sym (some_then _ (with_text (of OfModel) text) (values_given no_model) (record (values_given some_model) { model = Some value }) (rw e refl))
      go None e = ap (λ (o : Option Model). given_if (all_hold ((is_good is_name_of f ∷ is_good is_name_of s ∷ is_good is_name_of c ∷ is_good is_name_of r ∷ is_good is_name_of t ∷ []) ++ is_some o ∷ (is_good (λ v. is_some (number_of 10000000 v)) u ∷ is_good (λ v. is_some (number_of 100000000 v)) l ∷ is_good (λ v. is_some (number_of 64 v)) w ∷ is_good (λ v. is_some (number_of 1000000000 v)) n ∷ []))) (record (values_given some_model) { model = o })) e
          ∙ ap (λ (q : Bool). given_if q (record (values_given some_model) { model = None })) (one_fails (is_good is_name_of f ∷ is_good is_name_of s ∷ is_good is_name_of c ∷ is_good is_name_of r ∷ is_good is_name_of t ∷ []) (is_good (λ v. is_some (number_of 10000000 v)) u ∷ is_good (λ v. is_some (number_of 100000000 v)) l ∷ is_good (λ v. is_some (number_of 64 v)) w ∷ is_good (λ v. is_some (number_of 1000000000 v)) n ∷ []))
          ∙ sym (none_then _ (with_text (of OfModel) text) (values_given no_model) (rw e refl))

  abbrev no_units : Texts
  no_units = record { first = f; second = s; model = m; units = None; learn = l; workers = w; turns = n; cert = c; run = r; witness = t }

  abbrev some_units : Texts
  some_units = record { first = f; second = s; model = m; units = Some text; learn = l; workers = w; turns = n; cert = c; run = r; witness = t }

  more_units : given_by some_units ≡ option_and_then (with_text (of OfUnits) text) (given_by no_units)
  more_units = given_is some_units ∙ go (number_of 10000000 text) refl ∙ ap (option_and_then (with_text (of OfUnits) text)) (sym (given_is no_units))
    where
      go : (o : Option ℕ) → number_of 10000000 text ≡ o → given_if (all_hold (tests some_units)) (values_given some_units) ≡ option_and_then (with_text (of OfUnits) text) (given_if (all_hold (tests no_units)) (values_given no_units))
      go (Some value) e = ap (λ (o : Option ℕ). given_if (all_hold ((is_good is_name_of f ∷ is_good is_name_of s ∷ is_good is_name_of c ∷ is_good is_name_of r ∷ is_good is_name_of t ∷ is_good (λ v. is_some (model_of v)) m ∷ []) ++ is_some o ∷ (is_good (λ v. is_some (number_of 100000000 v)) l ∷ is_good (λ v. is_some (number_of 64 v)) w ∷ is_good (λ v. is_some (number_of 1000000000 v)) n ∷ []))) (record (values_given some_units) { units = o })) e
          ∙ sym (some_then _ (with_text (of OfUnits) text) (values_given no_units) (record (values_given some_units) { units = Some value }) (rw e refl))
      go None e = ap (λ (o : Option ℕ). given_if (all_hold ((is_good is_name_of f ∷ is_good is_name_of s ∷ is_good is_name_of c ∷ is_good is_name_of r ∷ is_good is_name_of t ∷ is_good (λ v. is_some (model_of v)) m ∷ []) ++ is_some o ∷ (is_good (λ v. is_some (number_of 100000000 v)) l ∷ is_good (λ v. is_some (number_of 64 v)) w ∷ is_good (λ v. is_some (number_of 1000000000 v)) n ∷ []))) (record (values_given some_units) { units = o })) e
          ∙ ap (λ (q : Bool). given_if q (record (values_given some_units) { units = None })) (one_fails (is_good is_name_of f ∷ is_good is_name_of s ∷ is_good is_name_of c ∷ is_good is_name_of r ∷ is_good is_name_of t ∷ is_good (λ v. is_some (model_of v)) m ∷ []) (is_good (λ v. is_some (number_of 100000000 v)) l ∷ is_good (λ v. is_some (number_of 64 v)) w ∷ is_good (λ v. is_some (number_of 1000000000 v)) n ∷ []))
          ∙ sym (none_then _ (with_text (of OfUnits) text) (values_given no_units) (rw e refl))

  abbrev no_learn : Texts
  no_learn = record { first = f; second = s; model = m; units = u; learn = None; workers = w; turns = n; cert = c; run = r; witness = t }

  abbrev some_learn : Texts
  some_learn = record { first = f; second = s; model = m; units = u; learn = Some text; workers = w; turns = n; cert = c; run = r; witness = t }

  more_learn : given_by some_learn ≡ option_and_then (with_text (of OfLearn) text) (given_by no_learn)
  more_learn = given_is some_learn ∙ go (number_of 100000000 text) refl ∙ ap (option_and_then (with_text (of OfLearn) text)) (sym (given_is no_learn))
    where
      go : (o : Option ℕ) → number_of 100000000 text ≡ o → given_if (all_hold (tests some_learn)) (values_given some_learn) ≡ option_and_then (with_text (of OfLearn) text) (given_if (all_hold (tests no_learn)) (values_given no_learn))
      go (Some value) e = ap (λ (o : Option ℕ). given_if (all_hold ((is_good is_name_of f ∷ is_good is_name_of s ∷ is_good is_name_of c ∷ is_good is_name_of r ∷ is_good is_name_of t ∷ is_good (λ v. is_some (model_of v)) m ∷ is_good (λ v. is_some (number_of 10000000 v)) u ∷ []) ++ is_some o ∷ (is_good (λ v. is_some (number_of 64 v)) w ∷ is_good (λ v. is_some (number_of 1000000000 v)) n ∷ []))) (record (values_given some_learn) { learn = o })) e
          ∙ sym (some_then _ (with_text (of OfLearn) text) (values_given no_learn) (record (values_given some_learn) { learn = Some value }) (rw e refl))
      go None e = ap (λ (o : Option ℕ). given_if (all_hold ((is_good is_name_of f ∷ is_good is_name_of s ∷ is_good is_name_of c ∷ is_good is_name_of r ∷ is_good is_name_of t ∷ is_good (λ v. is_some (model_of v)) m ∷ is_good (λ v. is_some (number_of 10000000 v)) u ∷ []) ++ is_some o ∷ (is_good (λ v. is_some (number_of 64 v)) w ∷ is_good (λ v. is_some (number_of 1000000000 v)) n ∷ []))) (record (values_given some_learn) { learn = o })) e
          ∙ ap (λ (q : Bool). given_if q (record (values_given some_learn) { learn = None })) (one_fails (is_good is_name_of f ∷ is_good is_name_of s ∷ is_good is_name_of c ∷ is_good is_name_of r ∷ is_good is_name_of t ∷ is_good (λ v. is_some (model_of v)) m ∷ is_good (λ v. is_some (number_of 10000000 v)) u ∷ []) (is_good (λ v. is_some (number_of 64 v)) w ∷ is_good (λ v. is_some (number_of 1000000000 v)) n ∷ []))
          ∙ sym (none_then _ (with_text (of OfLearn) text) (values_given no_learn) (rw e refl))

  abbrev no_workers : Texts
  no_workers = record { first = f; second = s; model = m; units = u; learn = l; workers = None; turns = n; cert = c; run = r; witness = t }

  abbrev some_workers : Texts
  some_workers = record { first = f; second = s; model = m; units = u; learn = l; workers = Some text; turns = n; cert = c; run = r; witness = t }

  more_workers : given_by some_workers ≡ option_and_then (with_text (of OfWorkers) text) (given_by no_workers)
  more_workers = given_is some_workers ∙ go (number_of 64 text) refl ∙ ap (option_and_then (with_text (of OfWorkers) text)) (sym (given_is no_workers))
    where
      go : (o : Option ℕ) → number_of 64 text ≡ o → given_if (all_hold (tests some_workers)) (values_given some_workers) ≡ option_and_then (with_text (of OfWorkers) text) (given_if (all_hold (tests no_workers)) (values_given no_workers))
      go (Some value) e = ap (λ (o : Option ℕ). given_if (all_hold ((is_good is_name_of f ∷ is_good is_name_of s ∷ is_good is_name_of c ∷ is_good is_name_of r ∷ is_good is_name_of t ∷ is_good (λ v. is_some (model_of v)) m ∷ is_good (λ v. is_some (number_of 10000000 v)) u ∷ is_good (λ v. is_some (number_of 100000000 v)) l ∷ []) ++ is_some o ∷ (is_good (λ v. is_some (number_of 1000000000 v)) n ∷ []))) (record (values_given some_workers) { workers = o })) e
          ∙ sym (some_then _ (with_text (of OfWorkers) text) (values_given no_workers) (record (values_given some_workers) { workers = Some value }) (rw e refl))
      go None e = ap (λ (o : Option ℕ). given_if (all_hold ((is_good is_name_of f ∷ is_good is_name_of s ∷ is_good is_name_of c ∷ is_good is_name_of r ∷ is_good is_name_of t ∷ is_good (λ v. is_some (model_of v)) m ∷ is_good (λ v. is_some (number_of 10000000 v)) u ∷ is_good (λ v. is_some (number_of 100000000 v)) l ∷ []) ++ is_some o ∷ (is_good (λ v. is_some (number_of 1000000000 v)) n ∷ []))) (record (values_given some_workers) { workers = o })) e
          ∙ ap (λ (q : Bool). given_if q (record (values_given some_workers) { workers = None })) (one_fails (is_good is_name_of f ∷ is_good is_name_of s ∷ is_good is_name_of c ∷ is_good is_name_of r ∷ is_good is_name_of t ∷ is_good (λ v. is_some (model_of v)) m ∷ is_good (λ v. is_some (number_of 10000000 v)) u ∷ is_good (λ v. is_some (number_of 100000000 v)) l ∷ []) (is_good (λ v. is_some (number_of 1000000000 v)) n ∷ []))
          ∙ sym (none_then _ (with_text (of OfWorkers) text) (values_given no_workers) (rw e refl))

  abbrev no_turns : Texts
  no_turns = record { first = f; second = s; model = m; units = u; learn = l; workers = w; turns = None; cert = c; run = r; witness = t }

  abbrev some_turns : Texts
  some_turns = record { first = f; second = s; model = m; units = u; learn = l; workers = w; turns = Some text; cert = c; run = r; witness = t }

  more_turns : given_by some_turns ≡ option_and_then (with_text (of OfTurns) text) (given_by no_turns)
  more_turns = given_is some_turns ∙ go (number_of 1000000000 text) refl ∙ ap (option_and_then (with_text (of OfTurns) text)) (sym (given_is no_turns))
    where
      go : (o : Option ℕ) → number_of 1000000000 text ≡ o → given_if (all_hold (tests some_turns)) (values_given some_turns) ≡ option_and_then (with_text (of OfTurns) text) (given_if (all_hold (tests no_turns)) (values_given no_turns))
      go (Some value) e = ap (λ (o : Option ℕ). given_if (all_hold ((is_good is_name_of f ∷ is_good is_name_of s ∷ is_good is_name_of c ∷ is_good is_name_of r ∷ is_good is_name_of t ∷ is_good (λ v. is_some (model_of v)) m ∷ is_good (λ v. is_some (number_of 10000000 v)) u ∷ is_good (λ v. is_some (number_of 100000000 v)) l ∷ is_good (λ v. is_some (number_of 64 v)) w ∷ []) ++ is_some o ∷ ([]))) (record (values_given some_turns) { turns = o })) e
          ∙ sym (some_then _ (with_text (of OfTurns) text) (values_given no_turns) (record (values_given some_turns) { turns = Some value }) (rw e refl))
      go None e = ap (λ (o : Option ℕ). given_if (all_hold ((is_good is_name_of f ∷ is_good is_name_of s ∷ is_good is_name_of c ∷ is_good is_name_of r ∷ is_good is_name_of t ∷ is_good (λ v. is_some (model_of v)) m ∷ is_good (λ v. is_some (number_of 10000000 v)) u ∷ is_good (λ v. is_some (number_of 100000000 v)) l ∷ is_good (λ v. is_some (number_of 64 v)) w ∷ []) ++ is_some o ∷ ([]))) (record (values_given some_turns) { turns = o })) e
          ∙ ap (λ (q : Bool). given_if q (record (values_given some_turns) { turns = None })) (one_fails (is_good is_name_of f ∷ is_good is_name_of s ∷ is_good is_name_of c ∷ is_good is_name_of r ∷ is_good is_name_of t ∷ is_good (λ v. is_some (model_of v)) m ∷ is_good (λ v. is_some (number_of 10000000 v)) u ∷ is_good (λ v. is_some (number_of 100000000 v)) l ∷ is_good (λ v. is_some (number_of 64 v)) w ∷ []) ([]))
          ∙ sym (none_then _ (with_text (of OfTurns) text) (values_given no_turns) (rw e refl))

-- a second text of a slot gives none
module _ (f s c r t m u l w n : Option Text) (had text : Text) where
  twice_first : option_and_then (with_text (first) text) (given_by (record { first = Some had; second = s; model = m; units = u; learn = l; workers = w; turns = n; cert = c; run = r; witness = t })) ≡ None
  twice_first = none_then _ (with_text (first) text) _ (go (is_name_of text))
    where
      go : (q : Bool) → (if q then once (Some had) (Some (record (values_given (record { first = Some had; second = s; model = m; units = u; learn = l; workers = w; turns = n; cert = c; run = r; witness = t })) { first = Some text; awaited = None })) else None) ≡ None
      go true = refl
      go false = refl

  twice_second : option_and_then (with_text (second) text) (given_by (record { first = f; second = Some had; model = m; units = u; learn = l; workers = w; turns = n; cert = c; run = r; witness = t })) ≡ None
  twice_second = none_then _ (with_text (second) text) _ (go (is_name_of text))
    where
      go : (q : Bool) → (if q then once (Some had) (Some (record (values_given (record { first = f; second = Some had; model = m; units = u; learn = l; workers = w; turns = n; cert = c; run = r; witness = t })) { second = Some text; awaited = None })) else None) ≡ None
      go true = refl
      go false = refl

  twice_cert : option_and_then (with_text (of OfCert) text) (given_by (record { first = f; second = s; model = m; units = u; learn = l; workers = w; turns = n; cert = Some had; run = r; witness = t })) ≡ None
  twice_cert = none_then (has_good_texts (record { first = f; second = s; model = m; units = u; learn = l; workers = w; turns = n; cert = Some had; run = r; witness = t })) (with_text (of OfCert) text) (values_given (record { first = f; second = s; model = m; units = u; learn = l; workers = w; turns = n; cert = Some had; run = r; witness = t })) refl

  twice_run : option_and_then (with_text (of OfRun) text) (given_by (record { first = f; second = s; model = m; units = u; learn = l; workers = w; turns = n; cert = c; run = Some had; witness = t })) ≡ None
  twice_run = none_then (has_good_texts (record { first = f; second = s; model = m; units = u; learn = l; workers = w; turns = n; cert = c; run = Some had; witness = t })) (with_text (of OfRun) text) (values_given (record { first = f; second = s; model = m; units = u; learn = l; workers = w; turns = n; cert = c; run = Some had; witness = t })) refl

  twice_witness : option_and_then (with_text (of OfWitness) text) (given_by (record { first = f; second = s; model = m; units = u; learn = l; workers = w; turns = n; cert = c; run = r; witness = Some had })) ≡ None
  twice_witness = none_then (has_good_texts (record { first = f; second = s; model = m; units = u; learn = l; workers = w; turns = n; cert = c; run = r; witness = Some had })) (with_text (of OfWitness) text) (values_given (record { first = f; second = s; model = m; units = u; learn = l; workers = w; turns = n; cert = c; run = r; witness = Some had })) refl

  twice_model : option_and_then (with_text (of OfModel) text) (given_by (record { first = f; second = s; model = Some had; units = u; learn = l; workers = w; turns = n; cert = c; run = r; witness = t })) ≡ None
  twice_model = ap (option_and_then (with_text (of OfModel) text)) (given_is (record { first = f; second = s; model = Some had; units = u; learn = l; workers = w; turns = n; cert = c; run = r; witness = t })) ∙ go (model_of had) refl
    where
      go : (o : Option Model) → model_of had ≡ o → option_and_then (with_text (of OfModel) text) (given_if (all_hold (tests (record { first = f; second = s; model = Some had; units = u; learn = l; workers = w; turns = n; cert = c; run = r; witness = t }))) (values_given (record { first = f; second = s; model = Some had; units = u; learn = l; workers = w; turns = n; cert = c; run = r; witness = t }))) ≡ None
      go (Some value) e = none_then _ (with_text (of OfModel) text) (values_given (record { first = f; second = s; model = Some had; units = u; learn = l; workers = w; turns = n; cert = c; run = r; witness = t })) (rw e refl)
      go None e = ap (λ (o : Option Model). option_and_then (with_text (of OfModel) text) (given_if (all_hold ((is_good is_name_of f ∷ is_good is_name_of s ∷ is_good is_name_of c ∷ is_good is_name_of r ∷ is_good is_name_of t ∷ []) ++ is_some o ∷ (is_good (λ v. is_some (number_of 10000000 v)) u ∷ is_good (λ v. is_some (number_of 100000000 v)) l ∷ is_good (λ v. is_some (number_of 64 v)) w ∷ is_good (λ v. is_some (number_of 1000000000 v)) n ∷ []))) (record (values_given (record { first = f; second = s; model = Some had; units = u; learn = l; workers = w; turns = n; cert = c; run = r; witness = t })) { model = o }))) e
          ∙ ap (λ (q : Bool). option_and_then (with_text (of OfModel) text) (given_if q (record (values_given (record { first = f; second = s; model = Some had; units = u; learn = l; workers = w; turns = n; cert = c; run = r; witness = t })) { model = None }))) (one_fails (is_good is_name_of f ∷ is_good is_name_of s ∷ is_good is_name_of c ∷ is_good is_name_of r ∷ is_good is_name_of t ∷ []) (is_good (λ v. is_some (number_of 10000000 v)) u ∷ is_good (λ v. is_some (number_of 100000000 v)) l ∷ is_good (λ v. is_some (number_of 64 v)) w ∷ is_good (λ v. is_some (number_of 1000000000 v)) n ∷ []))

  twice_units : option_and_then (with_text (of OfUnits) text) (given_by (record { first = f; second = s; model = m; units = Some had; learn = l; workers = w; turns = n; cert = c; run = r; witness = t })) ≡ None
  twice_units = ap (option_and_then (with_text (of OfUnits) text)) (given_is (record { first = f; second = s; model = m; units = Some had; learn = l; workers = w; turns = n; cert = c; run = r; witness = t })) ∙ go (number_of 10000000 had) refl
    where
      go : (o : Option ℕ) → number_of 10000000 had ≡ o → option_and_then (with_text (of OfUnits) text) (given_if (all_hold (tests (record { first = f; second = s; model = m; units = Some had; learn = l; workers = w; turns = n; cert = c; run = r; witness = t }))) (values_given (record { first = f; second = s; model = m; units = Some had; learn = l; workers = w; turns = n; cert = c; run = r; witness = t }))) ≡ None
      go (Some value) e = none_then _ (with_text (of OfUnits) text) (values_given (record { first = f; second = s; model = m; units = Some had; learn = l; workers = w; turns = n; cert = c; run = r; witness = t })) (rw e refl)
      go None e = ap (λ (o : Option ℕ). option_and_then (with_text (of OfUnits) text) (given_if (all_hold ((is_good is_name_of f ∷ is_good is_name_of s ∷ is_good is_name_of c ∷ is_good is_name_of r ∷ is_good is_name_of t ∷ is_good (λ v. is_some (model_of v)) m ∷ []) ++ is_some o ∷ (is_good (λ v. is_some (number_of 100000000 v)) l ∷ is_good (λ v. is_some (number_of 64 v)) w ∷ is_good (λ v. is_some (number_of 1000000000 v)) n ∷ []))) (record (values_given (record { first = f; second = s; model = m; units = Some had; learn = l; workers = w; turns = n; cert = c; run = r; witness = t })) { units = o }))) e
          ∙ ap (λ (q : Bool). option_and_then (with_text (of OfUnits) text) (given_if q (record (values_given (record { first = f; second = s; model = m; units = Some had; learn = l; workers = w; turns = n; cert = c; run = r; witness = t })) { units = None }))) (one_fails (is_good is_name_of f ∷ is_good is_name_of s ∷ is_good is_name_of c ∷ is_good is_name_of r ∷ is_good is_name_of t ∷ is_good (λ v. is_some (model_of v)) m ∷ []) (is_good (λ v. is_some (number_of 100000000 v)) l ∷ is_good (λ v. is_some (number_of 64 v)) w ∷ is_good (λ v. is_some (number_of 1000000000 v)) n ∷ []))

  twice_learn : option_and_then (with_text (of OfLearn) text) (given_by (record { first = f; second = s; model = m; units = u; learn = Some had; workers = w; turns = n; cert = c; run = r; witness = t })) ≡ None
  twice_learn = ap (option_and_then (with_text (of OfLearn) text)) (given_is (record { first = f; second = s; model = m; units = u; learn = Some had; workers = w; turns = n; cert = c; run = r; witness = t })) ∙ go (number_of 100000000 had) refl
    where
      go : (o : Option ℕ) → number_of 100000000 had ≡ o → option_and_then (with_text (of OfLearn) text) (given_if (all_hold (tests (record { first = f; second = s; model = m; units = u; learn = Some had; workers = w; turns = n; cert = c; run = r; witness = t }))) (values_given (record { first = f; second = s; model = m; units = u; learn = Some had; workers = w; turns = n; cert = c; run = r; witness = t }))) ≡ None
      go (Some value) e = none_then _ (with_text (of OfLearn) text) (values_given (record { first = f; second = s; model = m; units = u; learn = Some had; workers = w; turns = n; cert = c; run = r; witness = t })) (rw e refl)
      go None e = ap (λ (o : Option ℕ). option_and_then (with_text (of OfLearn) text) (given_if (all_hold ((is_good is_name_of f ∷ is_good is_name_of s ∷ is_good is_name_of c ∷ is_good is_name_of r ∷ is_good is_name_of t ∷ is_good (λ v. is_some (model_of v)) m ∷ is_good (λ v. is_some (number_of 10000000 v)) u ∷ []) ++ is_some o ∷ (is_good (λ v. is_some (number_of 64 v)) w ∷ is_good (λ v. is_some (number_of 1000000000 v)) n ∷ []))) (record (values_given (record { first = f; second = s; model = m; units = u; learn = Some had; workers = w; turns = n; cert = c; run = r; witness = t })) { learn = o }))) e
          ∙ ap (λ (q : Bool). option_and_then (with_text (of OfLearn) text) (given_if q (record (values_given (record { first = f; second = s; model = m; units = u; learn = Some had; workers = w; turns = n; cert = c; run = r; witness = t })) { learn = None }))) (one_fails (is_good is_name_of f ∷ is_good is_name_of s ∷ is_good is_name_of c ∷ is_good is_name_of r ∷ is_good is_name_of t ∷ is_good (λ v. is_some (model_of v)) m ∷ is_good (λ v. is_some (number_of 10000000 v)) u ∷ []) (is_good (λ v. is_some (number_of 64 v)) w ∷ is_good (λ v. is_some (number_of 1000000000 v)) n ∷ []))

  twice_workers : option_and_then (with_text (of OfWorkers) text) (given_by (record { first = f; second = s; model = m; units = u; learn = l; workers = Some had; turns = n; cert = c; run = r; witness = t })) ≡ None
  twice_workers = ap (option_and_then (with_text (of OfWorkers) text)) (given_is (record { first = f; second = s; model = m; units = u; learn = l; workers = Some had; turns = n; cert = c; run = r; witness = t })) ∙ go (number_of 64 had) refl
    where
      go : (o : Option ℕ) → number_of 64 had ≡ o → option_and_then (with_text (of OfWorkers) text) (given_if (all_hold (tests (record { first = f; second = s; model = m; units = u; learn = l; workers = Some had; turns = n; cert = c; run = r; witness = t }))) (values_given (record { first = f; second = s; model = m; units = u; learn = l; workers = Some had; turns = n; cert = c; run = r; witness = t }))) ≡ None
      go (Some value) e = none_then _ (with_text (of OfWorkers) text) (values_given (record { first = f; second = s; model = m; units = u; learn = l; workers = Some had; turns = n; cert = c; run = r; witness = t })) (rw e refl)
      go None e = ap (λ (o : Option ℕ). option_and_then (with_text (of OfWorkers) text) (given_if (all_hold ((is_good is_name_of f ∷ is_good is_name_of s ∷ is_good is_name_of c ∷ is_good is_name_of r ∷ is_good is_name_of t ∷ is_good (λ v. is_some (model_of v)) m ∷ is_good (λ v. is_some (number_of 10000000 v)) u ∷ is_good (λ v. is_some (number_of 100000000 v)) l ∷ []) ++ is_some o ∷ (is_good (λ v. is_some (number_of 1000000000 v)) n ∷ []))) (record (values_given (record { first = f; second = s; model = m; units = u; learn = l; workers = Some had; turns = n; cert = c; run = r; witness = t })) { workers = o }))) e
          ∙ ap (λ (q : Bool). option_and_then (with_text (of OfWorkers) text) (given_if q (record (values_given (record { first = f; second = s; model = m; units = u; learn = l; workers = Some had; turns = n; cert = c; run = r; witness = t })) { workers = None }))) (one_fails (is_good is_name_of f ∷ is_good is_name_of s ∷ is_good is_name_of c ∷ is_good is_name_of r ∷ is_good is_name_of t ∷ is_good (λ v. is_some (model_of v)) m ∷ is_good (λ v. is_some (number_of 10000000 v)) u ∷ is_good (λ v. is_some (number_of 100000000 v)) l ∷ []) (is_good (λ v. is_some (number_of 1000000000 v)) n ∷ []))

  twice_turns : option_and_then (with_text (of OfTurns) text) (given_by (record { first = f; second = s; model = m; units = u; learn = l; workers = w; turns = Some had; cert = c; run = r; witness = t })) ≡ None
  twice_turns = ap (option_and_then (with_text (of OfTurns) text)) (given_is (record { first = f; second = s; model = m; units = u; learn = l; workers = w; turns = Some had; cert = c; run = r; witness = t })) ∙ go (number_of 1000000000 had) refl
    where
      go : (o : Option ℕ) → number_of 1000000000 had ≡ o → option_and_then (with_text (of OfTurns) text) (given_if (all_hold (tests (record { first = f; second = s; model = m; units = u; learn = l; workers = w; turns = Some had; cert = c; run = r; witness = t }))) (values_given (record { first = f; second = s; model = m; units = u; learn = l; workers = w; turns = Some had; cert = c; run = r; witness = t }))) ≡ None
      go (Some value) e = none_then _ (with_text (of OfTurns) text) (values_given (record { first = f; second = s; model = m; units = u; learn = l; workers = w; turns = Some had; cert = c; run = r; witness = t })) (rw e refl)
      go None e = ap (λ (o : Option ℕ). option_and_then (with_text (of OfTurns) text) (given_if (all_hold ((is_good is_name_of f ∷ is_good is_name_of s ∷ is_good is_name_of c ∷ is_good is_name_of r ∷ is_good is_name_of t ∷ is_good (λ v. is_some (model_of v)) m ∷ is_good (λ v. is_some (number_of 10000000 v)) u ∷ is_good (λ v. is_some (number_of 100000000 v)) l ∷ is_good (λ v. is_some (number_of 64 v)) w ∷ []) ++ is_some o ∷ ([]))) (record (values_given (record { first = f; second = s; model = m; units = u; learn = l; workers = w; turns = Some had; cert = c; run = r; witness = t })) { turns = o }))) e
          ∙ ap (λ (q : Bool). option_and_then (with_text (of OfTurns) text) (given_if q (record (values_given (record { first = f; second = s; model = m; units = u; learn = l; workers = w; turns = Some had; cert = c; run = r; witness = t })) { turns = None }))) (one_fails (is_good is_name_of f ∷ is_good is_name_of s ∷ is_good is_name_of c ∷ is_good is_name_of r ∷ is_good is_name_of t ∷ is_good (λ v. is_some (model_of v)) m ∷ is_good (λ v. is_some (number_of 10000000 v)) u ∷ is_good (λ v. is_some (number_of 100000000 v)) l ∷ is_good (λ v. is_some (number_of 64 v)) w ∷ []) ([]))

abbrev pub at_slot : Slot → Option Text → (Text → Option Text) → Text → Option Text
at_slot slot text t id = if bytes_eq (id_of slot) id then text else t id

added : (slot : Slot) (text : Text) (t : Text → Option Text) → given_by (texts_by (at_slot slot (Some text) t)) ≡ option_and_then (with_text slot text) (given_by (texts_by (at_slot slot None t)))
added (first) text t = more_first None (t (codes "second")) (t (codes "cert")) (t (codes "run")) (t (codes "witness")) (t (codes "model")) (t (codes "units")) (t (codes "learn")) (t (codes "workers")) (t (codes "turns")) text
added (second) text t = more_second (t (codes "source")) None (t (codes "cert")) (t (codes "run")) (t (codes "witness")) (t (codes "model")) (t (codes "units")) (t (codes "learn")) (t (codes "workers")) (t (codes "turns")) text
added (of OfModel) text t = more_model (t (codes "source")) (t (codes "second")) (t (codes "cert")) (t (codes "run")) (t (codes "witness")) None (t (codes "units")) (t (codes "learn")) (t (codes "workers")) (t (codes "turns")) text
added (of OfUnits) text t = more_units (t (codes "source")) (t (codes "second")) (t (codes "cert")) (t (codes "run")) (t (codes "witness")) (t (codes "model")) None (t (codes "learn")) (t (codes "workers")) (t (codes "turns")) text
added (of OfLearn) text t = more_learn (t (codes "source")) (t (codes "second")) (t (codes "cert")) (t (codes "run")) (t (codes "witness")) (t (codes "model")) (t (codes "units")) None (t (codes "workers")) (t (codes "turns")) text
added (of OfWorkers) text t = more_workers (t (codes "source")) (t (codes "second")) (t (codes "cert")) (t (codes "run")) (t (codes "witness")) (t (codes "model")) (t (codes "units")) (t (codes "learn")) None (t (codes "turns")) text
added (of OfTurns) text t = more_turns (t (codes "source")) (t (codes "second")) (t (codes "cert")) (t (codes "run")) (t (codes "witness")) (t (codes "model")) (t (codes "units")) (t (codes "learn")) (t (codes "workers")) None text
added (of OfCert) text t = more_cert (t (codes "source")) (t (codes "second")) None (t (codes "run")) (t (codes "witness")) (t (codes "model")) (t (codes "units")) (t (codes "learn")) (t (codes "workers")) (t (codes "turns")) text
added (of OfRun) text t = more_run (t (codes "source")) (t (codes "second")) (t (codes "cert")) None (t (codes "witness")) (t (codes "model")) (t (codes "units")) (t (codes "learn")) (t (codes "workers")) (t (codes "turns")) text
added (of OfWitness) text t = more_witness (t (codes "source")) (t (codes "second")) (t (codes "cert")) (t (codes "run")) None (t (codes "model")) (t (codes "units")) (t (codes "learn")) (t (codes "workers")) (t (codes "turns")) text

again : (slot : Slot) (had text : Text) (t : Text → Option Text) → option_and_then (with_text slot text) (given_by (texts_by (at_slot slot (Some had) t))) ≡ None
again (first) had text t = twice_first None (t (codes "second")) (t (codes "cert")) (t (codes "run")) (t (codes "witness")) (t (codes "model")) (t (codes "units")) (t (codes "learn")) (t (codes "workers")) (t (codes "turns")) had text
again (second) had text t = twice_second (t (codes "source")) None (t (codes "cert")) (t (codes "run")) (t (codes "witness")) (t (codes "model")) (t (codes "units")) (t (codes "learn")) (t (codes "workers")) (t (codes "turns")) had text
again (of OfModel) had text t = twice_model (t (codes "source")) (t (codes "second")) (t (codes "cert")) (t (codes "run")) (t (codes "witness")) None (t (codes "units")) (t (codes "learn")) (t (codes "workers")) (t (codes "turns")) had text
again (of OfUnits) had text t = twice_units (t (codes "source")) (t (codes "second")) (t (codes "cert")) (t (codes "run")) (t (codes "witness")) (t (codes "model")) None (t (codes "learn")) (t (codes "workers")) (t (codes "turns")) had text
again (of OfLearn) had text t = twice_learn (t (codes "source")) (t (codes "second")) (t (codes "cert")) (t (codes "run")) (t (codes "witness")) (t (codes "model")) (t (codes "units")) None (t (codes "workers")) (t (codes "turns")) had text
again (of OfWorkers) had text t = twice_workers (t (codes "source")) (t (codes "second")) (t (codes "cert")) (t (codes "run")) (t (codes "witness")) (t (codes "model")) (t (codes "units")) (t (codes "learn")) None (t (codes "turns")) had text
again (of OfTurns) had text t = twice_turns (t (codes "source")) (t (codes "second")) (t (codes "cert")) (t (codes "run")) (t (codes "witness")) (t (codes "model")) (t (codes "units")) (t (codes "learn")) (t (codes "workers")) None had text
again (of OfCert) had text t = twice_cert (t (codes "source")) (t (codes "second")) None (t (codes "run")) (t (codes "witness")) (t (codes "model")) (t (codes "units")) (t (codes "learn")) (t (codes "workers")) (t (codes "turns")) had text
again (of OfRun) had text t = twice_run (t (codes "source")) (t (codes "second")) (t (codes "cert")) None (t (codes "witness")) (t (codes "model")) (t (codes "units")) (t (codes "learn")) (t (codes "workers")) (t (codes "turns")) had text
again (of OfWitness) had text t = twice_witness (t (codes "source")) (t (codes "second")) (t (codes "cert")) (t (codes "run")) None (t (codes "model")) (t (codes "units")) (t (codes "learn")) (t (codes "workers")) (t (codes "turns")) had text

-- ---- the rows of uses

-- what the uses give
abbrev pub given_at : Uses → Option Given
given_at uses = given_by (texts_in (rows_of_uses uses))

texts_same : (t u : Text → Option Text) → ((id : Text) → t id ≡ u id) → texts_by t ≡ texts_by u
texts_same t u same = λ i. record {
  first = same (codes "source") i;
  second = same (codes "second") i;
  model = same (codes "model") i;
  units = same (codes "units") i;
  learn = same (codes "learn") i;
  workers = same (codes "workers") i;
  turns = same (codes "turns") i;
  cert = same (codes "cert") i;
  run = same (codes "run") i;
  witness = same (codes "witness") i;
}

slot_none : (uses : Uses) (slot : Slot) (text : Option Text) → first_of (id_of slot) (rows_of_uses uses) ≡ text → (id : Text)
    → first_of id (rows_of_uses uses) ≡ at_slot slot text (λ i. first_of i (rows_of_uses uses)) id
slot_none uses slot text e id = go (bytes_eq (id_of slot) id) refl
  where
    go : (q : Bool) → bytes_eq (id_of slot) id ≡ q → first_of id (rows_of_uses uses) ≡ (if q then text else first_of id (rows_of_uses uses))
    go true same = ap (λ (i : Text). first_of i (rows_of_uses uses)) (sym (same_bytes (id_of slot) id same)) ∙ e
    go false same = refl

pub given_more : (uses : Uses) (slot : Slot) (text : Text) → has_row (id_of slot) (rows_of_uses uses) ≡ false
    → given_at (with_use uses slot text) ≡ option_and_then (with_text slot text) (given_at uses)
given_more uses slot text e =
    let t = λ (i : Text). first_of i (rows_of_uses uses) in
    ap given_by (texts_same _ _ (λ id. first_more uses slot text id e))
    ∙ added slot text t
    ∙ ap (λ (x : Texts). option_and_then (with_text slot text) (given_by x)) (sym (texts_same t (at_slot slot None t) (slot_none uses slot None (first_none uses (id_of slot) e))))

pub given_twice : (uses : Uses) (slot : Slot) (text : Text) → has_row (id_of slot) (rows_of_uses uses) ≡ true
    → option_and_then (with_text slot text) (given_at uses) ≡ None
given_twice uses slot text e =
    let t = λ (i : Text). first_of i (rows_of_uses uses) in
    let had = first_some uses (id_of slot) e in
    ap (λ (x : Texts). option_and_then (with_text slot text) (given_by x)) (texts_same t (at_slot slot (Some had.text) t) (slot_none uses slot (Some had.text) had.is))
    ∙ again slot had.text text t
