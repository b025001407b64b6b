use Rattle.std.proofs.Common.{◌∙◌, Ok, Err}
use Rattle.tap_base.specs.declared.token.Sign.TheVariants as sign
use Rattle.tap_lexer.specs.Lexeme.{lexemes}
use Rattle.tap_lexer.specs.inner.Reading.{Free}
use Rattle.tap_parser.proofs.TextBounds.{Name, first_stuck, followed}
use Rattle.tap_parser.proofs.TextParts.{after_answers, after_lacks, joined, passed, sound, valued, Both}
use Rattle.tap_parser.proofs.TextProcesses.{Parts, Processes, process_answers, process_value}
use Rattle.tap_parser.specs.declared.kept.Kept.TheVariants.{Whole}
use Rattle.tap_parser.proofs.processes.read_process.Goals as goal

pub returns-in_err-behind : goal.returns-in_err-behind
returns-in_err-behind c = let xs = lexemes c.args.source.now.text.now c.args.source.now.tokens.now in passed Processes Free xs c.args.at _ _ c.from_residual.ensures.1 (process_answers xs c.args.at (Err _) (after_lacks sign.Process (Both Name Parts) Free xs c.args.at _ c.in_err-behind.ensures))

pub returns-in_err-name : goal.returns-in_err-name
returns-in_err-name c = let xs = lexemes c.args.source.now.text.now c.args.source.now.tokens.now in passed Processes Free xs c.args.at _ _ c.from_residual-in_err-name.ensures.1 (process_answers xs c.args.at (Err _) (after_answers sign.Process (Both Name Parts) Free xs c.args.at c.in_ok-behind.behind (Err _) c.in_ok-behind.ensures (first_stuck Name Parts Free xs c.in_ok-behind.behind _ c.in_err-name.ensures)))

pub returns-in_err-parts : goal.returns-in_err-parts
returns-in_err-parts c = let xs = lexemes c.args.source.now.text.now c.args.source.now.tokens.now in passed Processes Free xs c.args.at _ _ c.from_residual-in_err-parts.ensures.1 (process_answers xs c.args.at (Err _) (after_answers sign.Process (Both Name Parts) Free xs c.args.at c.in_ok-behind.behind (Err _) c.in_ok-behind.ensures (followed Name Parts Free xs c.in_ok-behind.behind (sound c.in_ok-name.name) (Err _) c.in_ok-name.ensures c.in_err-parts.ensures)))

pub returns : goal.returns
returns c = let xs = lexemes c.args.source.now.text.now c.args.source.now.tokens.now in valued Processes Free xs c.args.at c.in_ok-parts.parts.next _ _ (c.process.ensures ∙ process_value c.in_ok-name.name.value c.in_ok-parts.parts.value) (process_answers xs c.args.at (joined (λ a b. (a, b)) (Whole c.in_ok-name.name.value) (Ok c.in_ok-parts.parts)) (after_answers sign.Process (Both Name Parts) Free xs c.args.at c.in_ok-behind.behind (joined (λ a b. (a, b)) (Whole c.in_ok-name.name.value) (Ok c.in_ok-parts.parts)) c.in_ok-behind.ensures (followed Name Parts Free xs c.in_ok-behind.behind (sound c.in_ok-name.name) (Ok c.in_ok-parts.parts) c.in_ok-name.ensures c.in_ok-parts.ensures)))
