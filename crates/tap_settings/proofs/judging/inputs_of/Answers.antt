use Rattle.tap_settings.specs.SettingText.{assignments_of}
use Rattle.tap_settings.proofs.Fit.{given_fit}
use Rattle.tap_settings.proofs.Given.{judged_table}
use Rattle.tap_settings.proofs.TableFacts.{holds_nothing, places_empty}
use Rattle.tap_settings.proofs.judging.inputs_of.Goals as goal

pub give_all-requires-clause-places : goal.give_all-requires-clause-places
give_all-requires-clause-places c = places_empty c.as_slice-processes.result.now c.in_ok-rows.rows c.in_ok-rows.ensures

pub give_all-requires-clause-empty : goal.give_all-requires-clause-empty
give_all-requires-clause-empty c = holds_nothing c.as_slice-processes.result.now c.in_ok-rows.rows c.in_ok-rows.ensures

pub returns-clause-judged : goal.returns-clause-judged
returns-clause-judged c =
    judged_table c.args.system.now (assignments_of c.args.settings.now) c.as_slice-processes.result.now c.give_all.new.rows c.as_slice.result.now c.in_ok-of.of
    c.as_slice-processes.ensures c.as_slice.ensures c.in_ok-give_all.ensures c.in_ok-of.ensures

pub returns-clause-fits : goal.returns-clause-fits
returns-clause-fits c =
    let judged =
    judged_table c.args.system.now (assignments_of c.args.settings.now) c.as_slice-processes.result.now c.give_all.new.rows c.as_slice.result.now c.in_ok-of.of
    c.as_slice-processes.ensures c.as_slice.ensures c.in_ok-give_all.ensures c.in_ok-of.ensures in
    given_fit c.args.system.now (assignments_of c.args.settings.now) _ judged.1
