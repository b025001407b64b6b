-- Sends that nobody receives.
use Rattle.std.specs.Prelude.{ℕ, Bool, false, not, ◌&&◌, List, [], map, Option, Some, None, bytes_eq, slice_get}
use Rattle.std.specs.List.{list_any}
use Rattle.tap_base.specs.declared.ast.Ast.{Ast}
use Rattle.tap_base.specs.declared.ast.AstAction.{AstAction}
use Rattle.tap_base.specs.declared.ast.AstBranch.{AstBranch}
use Rattle.tap_base.specs.declared.ast.AstGuard.{AstGuard}
use Rattle.tap_base.specs.declared.ast.AstGuard.TheVariants as guard
use Rattle.tap_base.specs.declared.ast.AstProcess.{AstProcess}
use Rattle.tap_base.specs.declared.ast.AstStmt.{AstStmt}
use Rattle.tap_base.specs.declared.ast.AstStmt.TheFolds.{fold-AstStmt, fold-AstBranch}
use Rattle.tap_base.specs.declared.ast.AstStmt.TheOpen.{AstStmt-F, AstBranch-F}
use Rattle.tap_base.specs.declared.ast.Ident.{Ident}
use Rattle.tap_base.specs.declared.refusal.Refusal.{Refusal}
use Rattle.tap_base.specs.declared.refusal.RefusalCode.TheVariants.{M3}
use Rattle.tap_base.specs.Option.{◌>>=◌}
use Rattle.tap_names.specs.Declarations.{process_names}
use Rattle.tap_base.specs.ListWords.{joined}
use Rattle.tap_base.specs.Offences.{where_}
use Rattle.tap_types.specs.Scopes.{number_of}

-- ---- what is received

-- the guard receives the message from the sender
abbrev pub takes_from : List ℕ → List ℕ → AstGuard → Bool
takes_from sender message (guard.Receive m q) = bytes_eq m.text message && bytes_eq q.text sender
takes_from sender message _ = false

-- the process has an action that receives the message from the sender
abbrev pub receives_from : List ℕ → List ℕ → Option AstProcess → Bool
receives_from sender message None = false
receives_from sender message (Some p) = list_any (λ a. takes_from sender message a.guard) p.actions

-- the process of the name
abbrev pub process_called : List AstProcess → List ℕ → Option AstProcess
process_called processes name = number_of name (process_names processes) >>= λ n. slice_get processes n

-- the receiver, one of these processes, has an action that receives the message from the sender
abbrev pub is_received : List AstProcess → List ℕ → List ℕ → List ℕ → Bool
is_received processes sender message receiver = receives_from sender message (process_called processes receiver)

-- ---- sends, by which messages which receivers receive from their sender

abbrev pub unreceived : (List ℕ → List ℕ → Bool) → Ident → Ident → List Refusal
unreceived received m q = where_ (not (received m.text q.text)) M3 m.place

abbrev pub unreceived_level : (List ℕ → List ℕ → Bool) → AstStmt-F (List Refusal) (List Refusal) → List Refusal
unreceived_level received (AstStmt-F.Send m values q) = unreceived received m q
unreceived_level received (AstStmt-F.If branches) = joined branches
unreceived_level received (AstStmt-F.Loop count place branches) = joined branches
unreceived_level received _ = []

abbrev pub unreceived_branch : AstBranch-F (List Refusal) (List Refusal) → List Refusal
unreceived_branch b = joined b.body

-- the unreceived sends of a statement, and of a branch
abbrev pub unreceived_in : (List ℕ → List ℕ → Bool) → AstStmt → List Refusal
unreceived_in received = fold-AstStmt (List Refusal) (List Refusal) (unreceived_level received) unreceived_branch

abbrev pub unreceived_behind : (List ℕ → List ℕ → Bool) → AstBranch → List Refusal
unreceived_behind received = fold-AstBranch (List Refusal) (List Refusal) (unreceived_level received) unreceived_branch

-- of an action
abbrev pub unreceived_by : (List ℕ → List ℕ → Bool) → AstAction → List Refusal
unreceived_by received a = joined (map (unreceived_in received) a.body)

-- of a process, by which messages are received from which sender
abbrev pub unreceived_of : (List ℕ → List ℕ → List ℕ → Bool) → AstProcess → List Refusal
unreceived_of received p = joined (map (unreceived_by (received p.name.text)) p.actions)

-- the offences of all sends of a tree
abbrev pub unreceived_sends : Ast → List Refusal
unreceived_sends tree = joined (map (unreceived_of (is_received tree.processes)) tree.processes)
