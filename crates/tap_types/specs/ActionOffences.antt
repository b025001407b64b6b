-- The offences of actions: of their guards, and of their statements.
use Rattle.std.specs.Prelude.{ℕ, List, [], ◌++◌, flat_map, Option, Some, None}
use Rattle.tap_base.specs.declared.ast.Ast.{Ast}
use Rattle.tap_base.specs.declared.ast.AstAction.{AstAction}
use Rattle.tap_base.specs.declared.ast.AstGuard.{AstGuard}
use Rattle.tap_base.specs.declared.ast.AstGuard.TheVariants as guard
use Rattle.tap_base.specs.declared.ast.AstMessage.{AstMessage}
use Rattle.tap_base.specs.declared.ast.AstProcess.{AstProcess}
use Rattle.tap_base.specs.declared.refusal.Refusal.{Refusal}
use Rattle.tap_names.specs.declared.named.Kind.TheVariants.{Boolean}
use Rattle.tap_names.specs.declared.named.Named.{Named}
use Rattle.tap_names.specs.Declarations.{process_names}
use Rattle.tap_types.specs.ExprOffences.{value_offences}
use Rattle.tap_base.specs.ListWords.{by_number}
use Rattle.tap_names.specs.Names.{names_of}
use Rattle.tap_types.specs.Scopes.{Scope, message_in}
use Rattle.tap_types.specs.StmtOffences.{body_offences, message_name, peer_offences, timer_name}
use Rattle.tap_names.specs.Tables.{Entry}

abbrev pub guard_offences : Scope → AstGuard → List Refusal
guard_offences c (guard.Local e) = value_offences c Boolean e
guard_offences c (guard.Receive m q) = message_name c m ++ peer_offences c q
guard_offences c (guard.Timeout t) = timer_name c t

-- the message that an action receives
abbrev pub received_by : Scope → AstGuard → Option ℕ
received_by c (guard.Receive m q) = message_in c m.text
received_by c _ = None

-- what names stand for behind a guard
abbrev pub after_guard : Scope → AstGuard → Scope
after_guard c g = record c { received = received_by c g }

abbrev pub action_offences : Scope → AstAction → List Refusal
action_offences c a = guard_offences c a.guard ++ body_offences (after_guard c a.guard) a.body

abbrev pub actions_offences : Scope → List AstAction → List Refusal
actions_offences c actions = flat_map (action_offences c) actions

-- what names stand for in the guards of the process numbered n, among processes of these names
abbrev pub process_scope : List AstMessage → List (List ℕ) → ℕ → List (Entry Named) → Scope
process_scope messages processes n names = record { messages = messages; processes = processes; me = n; names = names; received = None }

-- the uses in a process; where a bound has no value, that is an offence of a declaration already
abbrev pub uses_with : List AstMessage → List (List ℕ) → ℕ → AstProcess → Option (List (Entry Named)) → List Refusal
uses_with messages processes n p None = []
uses_with messages processes n p (Some names) = actions_offences (process_scope messages processes n names) p.actions

abbrev pub process_uses : List AstMessage → List (List ℕ) → ℕ → AstProcess → List Refusal
process_uses messages processes n p = uses_with messages processes n p (names_of p)

-- the offences of all uses of names, by process, action, guard and statement
abbrev pub use_offences : Ast → List Refusal
use_offences tree = by_number 0 (process_uses tree.messages (process_names tree.processes)) tree.processes
