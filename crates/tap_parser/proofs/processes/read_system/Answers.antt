use Rattle.std.proofs.Common.{◌∙◌, Ok, Err}
use Rattle.tap_base.specs.declared.token.Sign.TheVariants as sign
use Rattle.tap_lexer.specs.Lexeme.{lexemes}
use Rattle.tap_lexer.specs.inner.Reading.{Lacks}
use Rattle.tap_parser.proofs.TextParts.{both_answers, both_stuck, joined, passed, valued}
use Rattle.tap_parser.proofs.TextProcesses.{MessageRows, ProcessRow, Systems, messages_lead, process_begins, process_longer, system_answers, tree_value}
use Rattle.tap_parser.proofs.processes.read_system.Goals as goal

pub returns-in_err-messages : goal.returns-in_err-messages
returns-in_err-messages c = let xs = lexemes c.args.source.now.text.now c.args.source.now.tokens.now in passed Systems (Lacks sign.Process) xs c.args.at _ _ c.from_residual.ensures.1 (system_answers xs c.args.at (Err _) (both_stuck MessageRows ProcessRow (Lacks sign.Message) (Lacks sign.Process) messages_lead xs c.args.at _ c.in_err-messages.ensures))

pub returns-in_err-processes : goal.returns-in_err-processes
returns-in_err-processes c = let xs = lexemes c.args.source.now.text.now c.args.source.now.tokens.now in passed Systems (Lacks sign.Process) xs c.args.at _ _ c.from_residual-in_err-processes.ensures.1 (system_answers xs c.args.at (Err _) (both_answers MessageRows ProcessRow (Lacks sign.Message) (Lacks sign.Process) messages_lead xs c.args.at c.in_ok-messages.messages (Err _) c.in_ok-messages.ensures c.in_err-processes.ensures))

pub returns : goal.returns
returns c = let xs = lexemes c.args.source.now.text.now c.args.source.now.tokens.now in valued Systems (Lacks sign.Process) xs c.args.at c.in_ok-processes.processes.next _ _ (c.tree.ensures ∙ tree_value c.in_ok-messages.messages.value c.in_ok-processes.processes.value) (system_answers xs c.args.at (joined (λ a b. (a, b)) c.in_ok-messages.messages.value (Ok c.in_ok-processes.processes)) (both_answers MessageRows ProcessRow (Lacks sign.Message) (Lacks sign.Process) messages_lead xs c.args.at c.in_ok-messages.messages (Ok c.in_ok-processes.processes) c.in_ok-messages.ensures c.in_ok-processes.ensures))

pub read_row-requires-clause-begun : goal.read_row-requires-clause-begun
read_row-requires-clause-begun c = λ n a ts us r. process_begins n a ts us r

pub read_row-requires-clause-longer : goal.read_row-requires-clause-longer
read_row-requires-clause-longer c = λ n a x us r. process_longer n a x us r
