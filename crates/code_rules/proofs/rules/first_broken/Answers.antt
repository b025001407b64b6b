use Rattle.std.proofs.Common.{◌∙◌}
use Rattle.code_rules.proofs.SameRules.{same_rules}
use Rattle.code_rules.proofs.rules.first_broken.Goals as goal

pub returns : goal.returns
returns c =
    c.first_rule.ensures
    ∙ same_rules c.names_exist.ensures c.result_fits.ensures c.index_fits.ensures c.has_options.ensures c.can_send.ensures c.jumps_well.ensures c.loops_well.ensures c.delay_fits.ensures
