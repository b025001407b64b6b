-- The offences of uses worked on small parts of trees.
use Rattle.std.specs.Prelude.{◌≡◌, ℕ, pos, true, List, [], ◌∷◌, ◌++◌, codes, Some, None}
use Rattle.tap_base.specs.declared.ast.Ast.{Ast}
use Rattle.tap_base.specs.declared.ast.AstAction.{AstAction}
use Rattle.tap_base.specs.declared.ast.AstExpr.{AstExpr}
use Rattle.tap_base.specs.declared.ast.AstGuard.{AstGuard}
use Rattle.tap_base.specs.declared.ast.AstGuard.TheVariants as guard
use Rattle.tap_base.specs.declared.ast.AstKind.{AstKind}
use Rattle.tap_base.specs.declared.ast.AstKind.TheVariants as kind
use Rattle.tap_base.specs.declared.ast.AstMessage.{AstMessage}
use Rattle.tap_base.specs.declared.ast.AstProcess.{AstProcess}
use Rattle.tap_base.specs.declared.ast.AstStmt.{AstStmt}
use Rattle.tap_base.specs.declared.ast.AstStmt.TheVariants as stmt
use Rattle.tap_base.specs.declared.ast.AstTarget.{AstTarget}
use Rattle.tap_base.specs.declared.ast.Ident.{Ident}
use Rattle.tap_base.specs.declared.place.Place.{Place}
use Rattle.tap_base.specs.declared.place.Range.{Range}
use Rattle.tap_base.specs.declared.refusal.RefusalCode.TheVariants.{K1, K2, M3, N1, N3}
use Rattle.tap_base.specs.declared.tree.Op.TheVariants as op
use Rattle.tap_names.specs.declared.named.Kind.TheVariants.{Number}
use Rattle.tap_names.specs.declared.named.Named.{Named}
use Rattle.tap_names.specs.declared.named.Named.TheVariants as named
use Rattle.tap_base.specs.Offences.{offence}
use Rattle.tap_names.specs.Tables.{Entry}
use Rattle.tap_types.specs.ActionOffences.{guard_offences}
use Rattle.tap_types.specs.ExprOffences.{value_offences}
use Rattle.tap_types.specs.Offences.{offences_of}
use Rattle.tap_types.specs.Scopes.{Scope}
use Rattle.tap_types.specs.StmtOffences.{assignment_offences, send_offences}

abbrev ident : List ℕ → Place → Ident
ident text place = record { text = text; place = place }

abbrev node : AstKind → Place → AstExpr
node k place = record { kind = k; place = place }

-- a message with one field
abbrev message : List ℕ → Place → AstMessage
message text place = record { name = ident text place; fields = record { name = ident (codes "f") place; width = pos 8; fixed = None } ∷ [] }

-- the names in the process p, alone with the message m
abbrev alone : List (Entry Named) → Place → Scope
alone names place = record { messages = message (codes "m") place ∷ []; processes = codes "p" ∷ []; me = 0; names = names; received = None }

-- of `send m(y, true) to p` in the process p: K2 at m, N1 at y, K1 at `true`, N3 at p
abbrev pub PartsOfASend : Type 0
PartsOfASend = (a b c d e : Place) →
    send_offences (alone [] a) (ident (codes "m") b) (node (kind.Name (codes "y")) c ∷ node (kind.Truth true) d ∷ []) (ident (codes "p") e)
    ≡ offence K2 b ++ offence N1 c ++ offence K1 d ++ offence N3 e

-- of the guard `rcv n from p` in the process p: N1 at n, N3 at p
abbrev pub PartsOfAReceive : Type 0
PartsOfAReceive = (a b c : Place) → guard_offences (alone [] a) (guard.Receive (ident (codes "n") b) (ident (codes "p") c)) ≡ offence N1 b ++ offence N3 c

-- of `true + y`: N1 at y, then K1 at `true`
abbrev pub OperandsFirst : Type 0
OperandsFirst = (a b c d : Place) →
    value_offences (alone [] a) Number (node (kind.Binary op.Add (node (kind.Truth true) b) (node (kind.Name (codes "y")) c)) d) ≡ offence N1 c ++ offence K1 b

-- of `1 = true`, where a number is due: K1 at `true`, then K1 at `=`
abbrev pub UnlikeOperands : Type 0
UnlikeOperands = (a b c d : Place) →
    value_offences (alone [] a) Number (node (kind.Binary op.Eq (node (kind.Number (pos 1)) b) (node (kind.Truth true) c)) d) ≡ offence K1 c ++ offence K1 d

-- of `m.f` where no message is received: K1 at m
abbrev pub NothingReceived : Type 0
NothingReceived = (a b : Place) → value_offences (alone [] a) Number (node (kind.Part (codes "m") (codes "f")) b) ≡ offence K1 b

-- of `x[true], x := y` with an array x: K1 at `true`, K1 at the second x, K2 at the first x, N1 at y
abbrev pub PartsOfAnAssignment : Type 0
PartsOfAnAssignment = (a b c d e : Place) (r : Range) →
    let first : AstTarget = record { name = ident (codes "x") b; index = Some (node (kind.Truth true) c) } in
    let second : AstTarget = record { name = ident (codes "x") d; index = None } in
    assignment_offences (alone ((codes "x", named.Array 0 4 Number r) ∷ []) a) (first ∷ second ∷ []) (node (kind.Name (codes "y")) e ∷ [])
    ≡ offence K1 c ++ offence K1 d ++ offence K2 b ++ offence N1 e

abbrev action : AstGuard → List AstStmt → Place → AstAction
action g body place = record { guard = g; body = body; place = place }

abbrev process : List ℕ → AstAction → Place → AstProcess
process text a place = record { name = ident text place; consts = []; inputs = []; vars = []; timers = []; actions = a ∷ [] }

-- A process p that sends m to q, and a process q whose one guard is the name y: N1 at y, and then M3 at m.
abbrev pub SendsAfterUses : Type 0
SendsAfterUses = (a b c d e : Place) →
    let send : AstStmt = stmt.Send (ident (codes "m") c) (node (kind.Number (pos 1)) d ∷ []) (ident (codes "q") d) in
    let p : AstProcess = process (codes "p") (action (guard.Local (node (kind.Truth true) b)) (send ∷ []) b) a in
    let q : AstProcess = process (codes "q") (action (guard.Local (node (kind.Name (codes "y")) e)) [] d) d in
    let tree : Ast = record { messages = message (codes "m") a ∷ []; processes = p ∷ q ∷ [] } in
    offences_of tree ≡ offence N1 e ++ offence M3 c
