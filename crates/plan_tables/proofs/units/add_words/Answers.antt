use Rattle.std.proofs.Common.{◌∙◌, ◌<◌, refl, ap, length}
use Rattle.std.proofs.lemmas.List.{length-set}
use Rattle.plan_tables.proofs.Rowing.{added_turn, adds_turn}
use Rattle.plan_tables.proofs.units.add_words.Goals as goal

pub loop-word-preserved : goal.loop-word-preserved
loop-word-preserved c =
    let lt : c.loop-word.word < length c.args.scratch.now = c.loop-word-test.true in (
      ap length c.add_word-has_changed.ensures.made ∙ length-set _ _ _ ∙ c.loop-word.invariant.0,
      added_turn c.loop-word.row.items c.add_word-has_changed.new.row.items c.args.scratch.now _ c.loop-word.word _ 0 lt refl c.add_word-has_changed.ensures.made c.loop-word.invariant.1,
      adds_turn c.loop-word.row.items c.add_word-has_changed.new.row.items c.args.scratch.now _ _ _ c.loop-word.word _ 0 lt refl c.add_word-has_changed.ensures.made c.add_word-has_changed.ensures.grows c.loop-word.invariant.2,
    )
