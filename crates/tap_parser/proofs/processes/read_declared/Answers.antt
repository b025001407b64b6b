use Rattle.std.proofs.Common.{ap, ◌∙◌, Ok, Err, ◌∷◌}
use Rattle.tap_base.specs.declared.token.Sign.TheVariants as sign
use Rattle.tap_lexer.specs.Lexeme.{lexemes}
use Rattle.tap_lexer.specs.inner.Reading.{Free}
use Rattle.tap_parser.proofs.TextBlocks.{same_kept}
use Rattle.tap_parser.proofs.TextBodies.{box_stops, end_stops, no_action_at_end}
use Rattle.tap_parser.proofs.TextParts.{after_answers, after_lacks, both_answers, both_stuck, joined, passed, valued}
use Rattle.tap_parser.proofs.TextProcesses.{ActionList, ConstBlock, ConstStops, FromBegin, FromInputs, FromTimers, FromVars, InputBlock, InputStops, Parts, TimerBlock, TimerStops, VarBlock, VarStops, consts_lead, inputs_lead, parts_answers, timers_lead, vars_lead}
use Rattle.tap_parser.specs.inner.Keeping.{both}
use Rattle.tap_parser.proofs.processes.read_declared.Goals as goal

pub returns-in_err-consts : goal.returns-in_err-consts
returns-in_err-consts c = let xs = lexemes c.args.source.now.text.now c.args.source.now.tokens.now in passed Parts Free xs c.args.at _ _ c.from_residual.ensures.1 (same_kept Parts Free xs c.args.at (Err _) (parts_answers xs c.args.at (Err _) (both_stuck ConstBlock FromInputs ConstStops Free consts_lead xs c.args.at _ c.in_err-consts.ensures)))

pub returns-in_err-inputs : goal.returns-in_err-inputs
returns-in_err-inputs c = let xs = lexemes c.args.source.now.text.now c.args.source.now.tokens.now in passed Parts Free xs c.args.at _ _ c.from_residual-in_err-inputs.ensures.1 (same_kept Parts Free xs c.args.at (Err _) (parts_answers xs c.args.at (Err _) (both_answers ConstBlock FromInputs ConstStops Free consts_lead xs c.args.at c.in_ok-consts.consts (Err _) c.in_ok-consts.ensures (both_stuck InputBlock FromVars InputStops Free inputs_lead xs c.in_ok-consts.consts.next _ c.in_err-inputs.ensures))))

pub returns-in_err-vars : goal.returns-in_err-vars
returns-in_err-vars c = let xs = lexemes c.args.source.now.text.now c.args.source.now.tokens.now in passed Parts Free xs c.args.at _ _ c.from_residual-in_err-vars.ensures.1 (same_kept Parts Free xs c.args.at (Err _) (parts_answers xs c.args.at (Err _) (both_answers ConstBlock FromInputs ConstStops Free consts_lead xs c.args.at c.in_ok-consts.consts (Err _) c.in_ok-consts.ensures (both_answers InputBlock FromVars InputStops Free inputs_lead xs c.in_ok-consts.consts.next c.in_ok-inputs.inputs (Err _) c.in_ok-inputs.ensures (both_stuck VarBlock FromTimers VarStops Free vars_lead xs c.in_ok-inputs.inputs.next _ c.in_err-vars.ensures)))))

pub returns-in_err-timers : goal.returns-in_err-timers
returns-in_err-timers c = let xs = lexemes c.args.source.now.text.now c.args.source.now.tokens.now in passed Parts Free xs c.args.at _ _ c.from_residual-in_err-timers.ensures.1 (same_kept Parts Free xs c.args.at (Err _) (parts_answers xs c.args.at (Err _) (both_answers ConstBlock FromInputs ConstStops Free consts_lead xs c.args.at c.in_ok-consts.consts (Err _) c.in_ok-consts.ensures (both_answers InputBlock FromVars InputStops Free inputs_lead xs c.in_ok-consts.consts.next c.in_ok-inputs.inputs (Err _) c.in_ok-inputs.ensures (both_answers VarBlock FromTimers VarStops Free vars_lead xs c.in_ok-inputs.inputs.next c.in_ok-vars.vars (Err _) c.in_ok-vars.ensures (both_stuck TimerBlock FromBegin TimerStops Free timers_lead xs c.in_ok-vars.vars.next _ c.in_err-timers.ensures))))))

pub returns-in_err-behind : goal.returns-in_err-behind
returns-in_err-behind c = let xs = lexemes c.args.source.now.text.now c.args.source.now.tokens.now in passed Parts Free xs c.args.at _ _ c.from_residual-in_err-behind.ensures.1 (same_kept Parts Free xs c.args.at (Err _) (parts_answers xs c.args.at (Err _) (both_answers ConstBlock FromInputs ConstStops Free consts_lead xs c.args.at c.in_ok-consts.consts (Err _) c.in_ok-consts.ensures (both_answers InputBlock FromVars InputStops Free inputs_lead xs c.in_ok-consts.consts.next c.in_ok-inputs.inputs (Err _) c.in_ok-inputs.ensures (both_answers VarBlock FromTimers VarStops Free vars_lead xs c.in_ok-inputs.inputs.next c.in_ok-vars.vars (Err _) c.in_ok-vars.ensures (both_answers TimerBlock FromBegin TimerStops Free timers_lead xs c.in_ok-vars.vars.next c.in_ok-timers.timers (Err _) c.in_ok-timers.ensures (after_lacks sign.Begin ActionList Free xs c.in_ok-timers.timers.next _ c.in_err-behind.ensures)))))))

pub returns-in_err-actions : goal.returns-in_err-actions
returns-in_err-actions c = let xs = lexemes c.args.source.now.text.now c.args.source.now.tokens.now in passed Parts Free xs c.args.at _ _ c.from_residual-in_err-actions.ensures.1 (same_kept Parts Free xs c.args.at (Err _) (parts_answers xs c.args.at (Err _) (both_answers ConstBlock FromInputs ConstStops Free consts_lead xs c.args.at c.in_ok-consts.consts (Err _) c.in_ok-consts.ensures (both_answers InputBlock FromVars InputStops Free inputs_lead xs c.in_ok-consts.consts.next c.in_ok-inputs.inputs (Err _) c.in_ok-inputs.ensures (both_answers VarBlock FromTimers VarStops Free vars_lead xs c.in_ok-inputs.inputs.next c.in_ok-vars.vars (Err _) c.in_ok-vars.ensures (both_answers TimerBlock FromBegin TimerStops Free timers_lead xs c.in_ok-vars.vars.next c.in_ok-timers.timers (Err _) c.in_ok-timers.ensures (after_answers sign.Begin ActionList Free xs c.in_ok-timers.timers.next c.in_ok-behind.behind (Err _) c.in_ok-behind.ensures c.in_err-actions.ensures)))))))

pub returns : goal.returns
returns c = let xs = lexemes c.args.source.now.text.now c.args.source.now.tokens.now in valued Parts Free xs c.args.at c.in_ok-actions.actions.next _ _ (c.and-3.ensures ∙ ap (λ k. both (λ a b. (a, b)) c.in_ok-consts.consts.value k) (c.and-2.ensures ∙ ap (λ k. both (λ a b. (a, b)) c.in_ok-inputs.inputs.value k) (c.and-value.ensures ∙ ap (λ k. both (λ a b. (a, b)) c.in_ok-vars.vars.value k) c.and.ensures))) (same_kept Parts Free xs c.args.at (joined (λ a b. (a, b)) c.in_ok-consts.consts.value (joined (λ a b. (a, b)) c.in_ok-inputs.inputs.value (joined (λ a b. (a, b)) c.in_ok-vars.vars.value (joined (λ a b. (a, b)) c.in_ok-timers.timers.value (Ok c.in_ok-actions.actions))))) (parts_answers xs c.args.at (joined (λ a b. (a, b)) c.in_ok-consts.consts.value (joined (λ a b. (a, b)) c.in_ok-inputs.inputs.value (joined (λ a b. (a, b)) c.in_ok-vars.vars.value (joined (λ a b. (a, b)) c.in_ok-timers.timers.value (Ok c.in_ok-actions.actions))))) (both_answers ConstBlock FromInputs ConstStops Free consts_lead xs c.args.at c.in_ok-consts.consts (joined (λ a b. (a, b)) c.in_ok-inputs.inputs.value (joined (λ a b. (a, b)) c.in_ok-vars.vars.value (joined (λ a b. (a, b)) c.in_ok-timers.timers.value (Ok c.in_ok-actions.actions)))) c.in_ok-consts.ensures (both_answers InputBlock FromVars InputStops Free inputs_lead xs c.in_ok-consts.consts.next c.in_ok-inputs.inputs (joined (λ a b. (a, b)) c.in_ok-vars.vars.value (joined (λ a b. (a, b)) c.in_ok-timers.timers.value (Ok c.in_ok-actions.actions))) c.in_ok-inputs.ensures (both_answers VarBlock FromTimers VarStops Free vars_lead xs c.in_ok-inputs.inputs.next c.in_ok-vars.vars (joined (λ a b. (a, b)) c.in_ok-timers.timers.value (Ok c.in_ok-actions.actions)) c.in_ok-vars.ensures (both_answers TimerBlock FromBegin TimerStops Free timers_lead xs c.in_ok-vars.vars.next c.in_ok-timers.timers (Ok c.in_ok-actions.actions) c.in_ok-timers.ensures (after_answers sign.Begin ActionList Free xs c.in_ok-timers.timers.next c.in_ok-behind.behind (Ok c.in_ok-actions.actions) c.in_ok-behind.ensures c.in_ok-actions.ensures)))))))

pub read_block-requires-3-clause-parted : goal.read_block-requires-3-clause-parted
read_block-requires-3-clause-parted c = λ x us e f. absurd cc

pub read_until-requires-clause-parted : goal.read_until-requires-clause-parted
read_until-requires-clause-parted c = λ x us e. box_stops (x ∷ us) e

pub read_until-requires-clause-closed : goal.read_until-requires-clause-closed
read_until-requires-clause-closed c = λ x us e. (end_stops x us e, λ f. absurd cc)

pub read_until-requires-clause-apart : goal.read_until-requires-clause-apart
read_until-requires-clause-apart c = λ n a x ts us e r. no_action_at_end n a x ts us e r
