use Rattle.std.proofs.Common.{refl}
use Rattle.source_verdicts.proofs.Holding.{no_text_found}
use Rattle.source_verdicts.proofs.Replays.{words_short}
use Rattle.source_verdicts.proofs.Writing.{meets_at, met_at_offset, run_unwritten, run_written}
use Rattle.source_verdicts.proofs.replaying.reached.Goals as goal

pub write_run-requires : goal.write_run-requires
write_run-requires c = words_short c.args.values.now c.requires.words

pub returns-in-Ok-write_run : goal.returns-in-Ok-write_run
returns-in-Ok-write_run c = λ p g model units learn ends. (
  run_written p g c.args.source.now model units learn c.args.kind c.place_in-place.result c.args.values.now c.in-Ok.copy c.in-Ok-write_run.text.items c.new.result
      (meets_at p c.args.source.now c.args.kind c.place_in-place.result c.args.at c.args._turns c.args.values.now c.place_in-place.ensures ends)
      c.in-Ok.ensures c.new.ensures c.in-Ok-write_run.ensures,
  (c.args.at, refl, met_at_offset p c.args.source.now c.args.kind c.place_in-place.result c.args.at c.args._turns c.args.values.now c.in-Ok.copy c.in-Ok.ensures c.place_in-place.ensures ends),
)

pub returns-in-Err-write_run : goal.returns-in-Err-write_run
returns-in-Err-write_run c = λ p g model units learn ends. (
  run_unwritten p g c.args.source.now model units learn c.args.kind c.place_in-place.result c.args.values.now
      (meets_at p c.args.source.now c.args.kind c.place_in-place.result c.args.at c.args._turns c.args.values.now c.place_in-place.ensures ends)
      c.in-Err-write_run.fail c.unwritten.result c.unwritten.ensures c.in-Err-write_run.ensures,
  no_text_found p g c.args.source.now model c.in-Err-write_run.fail c.unwritten.result c.unwritten.ensures,
)
