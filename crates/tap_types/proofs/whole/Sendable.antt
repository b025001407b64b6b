-- What the sends in an action may name.
use Rattle.std.proofs.Common.{◌≡◌, ℕ, ◌<◌, Bool, List, [], Some, slice_get, length}
use Rattle.tap_base.specs.declared.ast.AstMessage.{AstMessage}
use Rattle.tap_base.specs.declared.ast.Ident.{Ident}
use Rattle.tap_base.specs.declared.system.System.{System}
use Rattle.tap_names.specs.Names.{message_of}
use Rattle.tap_base.specs.Receivers.{HasReceiver}
use Rattle.tap_types.specs.Scopes.{Scope, message_in, process_in}
use Rattle.tap_types.specs.SendOffences.{unreceived}

-- the message of a number, in the tree and in the system
pub record IsMessageOf (c : Scope) (system : System) (k : ℕ) : Type 0 where
  pub message : AstMessage
  pub told : slice_get c.messages k ≡ Some message
  pub named : slice_get system.messages k ≡ Some (message_of message)

-- This is the process p, messages and processes are there, and a send that has a receiver in the tree has it in the system.
pub record Sendable (c : Scope) (system : System) (p : ℕ) (received : List ℕ → List ℕ → Bool) : Type 0 where
  pub me : c.me ≡ p
  pub messages : (m : List ℕ) (k : ℕ) → message_in c m ≡ Some k → IsMessageOf c system k
  pub peers : (q : List ℕ) (j : ℕ) → process_in c q ≡ Some j → j < length system.processes
  pub receivers : (m q : Ident) (k j : ℕ) → message_in c m.text ≡ Some k → process_in c q.text ≡ Some j → unreceived received m q ≡ [] → HasReceiver system j k p
