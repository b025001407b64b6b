use Rattle.std.proofs.Common.{◌≡◌, drop}
use Rattle.std.specs.List.{list_all}
use Rattle.tapc_core.specs.Words.{is_input_setting}
use Rattle.tapc_core.proofs.settings.are_inputs.Given as goal

-- what is left has the answer of the whole
abbrev pub invariant-loop-word : goal.invariant-loop-word
invariant-loop-word l = list_all is_input_setting (drop l.word-index l.words) ≡ list_all is_input_setting l.words
