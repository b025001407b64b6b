-- What the bodies of actions ask for at most.
use Rattle.std.specs.Prelude.{◌≡◌, ℕ, ◌≤◌, true, List, slice_get, Some}
use Rattle.std.specs.List.{list_all}
use Rattle.register_code.specs.declared.code.Code.{Code}
use Rattle.register_code.specs.declared.code.CodeAction.{CodeAction}
use Rattle.register_code.specs.declared.code.CodeMessage.{CodeMessage}
use Rattle.register_code.specs.declared.code.CodeProcess.{CodeProcess}
use Rattle.register_code.specs.Declarations.{at_most}
use Rattle.register_code.specs.Jumping.{AreWhole}
use Rattle.register_code.specs.Loops.{cost}
use Rattle.action_code.specs.declared.uses.Uses.{Uses}
use Rattle.drawn_steps.specs.Boxes.{most_choices, most_sends, most_values}

-- The bodies keep the rules on loops and on the cost, and messages have few fields.
pub record AreBodies (messages : List CodeMessage) (actions : List CodeAction) : Type 0 where
  pub whole : (number : ℕ) (action : CodeAction) → slice_get actions number ≡ Some action → AreWhole action.body
  pub cheap : (number : ℕ) (action : CodeAction) → slice_get actions number ≡ Some action → cost action.body ≤ 16000000
  pub few : list_all (λ (m : CodeMessage). at_most 256 m.fields) messages ≡ true

pub record AreMost (messages : List CodeMessage) (actions : List CodeAction) (uses : Uses) : Type 0 where
  pub sends : uses.sends ≡ most_sends actions
  pub values : uses.values ≡ most_values messages actions
  pub choices : uses.choices ≡ most_choices actions

-- the same of a process
pub record AreMostOf (code : Code) (number : ℕ) (uses : Uses) : Type 0 where
  pub process : CodeProcess
  pub there : slice_get code.processes number ≡ Some process
  pub most : AreMost code.messages process.actions uses
