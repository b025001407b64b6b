-- The offences of declarations worked on small trees.
use Rattle.std.specs.Prelude.{◌≡◌, ℕ, pos, List, [], ◌∷◌, ◌++◌, codes, Some, None, replicate}
use Rattle.tap_base.specs.declared.ast.Ast.{Ast}
use Rattle.tap_base.specs.declared.ast.AstConst.{AstConst}
use Rattle.tap_base.specs.declared.ast.AstField.{AstField}
use Rattle.tap_base.specs.declared.ast.AstMessage.{AstMessage}
use Rattle.tap_base.specs.declared.ast.AstProcess.{AstProcess}
use Rattle.tap_base.specs.declared.ast.AstScalar.TheVariants as scalar
use Rattle.tap_base.specs.declared.ast.AstType.{AstType}
use Rattle.tap_base.specs.declared.ast.AstType.TheVariants as type_of
use Rattle.tap_base.specs.declared.ast.AstVar.{AstVar}
use Rattle.tap_base.specs.declared.ast.Bound.{Bound}
use Rattle.tap_base.specs.declared.ast.Bound.TheVariants as bound
use Rattle.tap_base.specs.declared.ast.Ident.{Ident}
use Rattle.tap_base.specs.declared.place.Place.{Place}
use Rattle.tap_base.specs.declared.refusal.RefusalCode.TheVariants.{N1, N2, X1, X2}
use Rattle.tap_names.specs.Declarations.{declaration_offences, inner_offences}
use Rattle.tap_names.specs.MessageOffences.{fields_offences}
use Rattle.tap_names.specs.NameOffences.{name_offences}
use Rattle.tap_base.specs.Offences.{offence}
use Rattle.tap_names.specs.VariableOffences.{variable_offences}

abbrev ident : List ℕ → Place → Ident
ident text place = record { text = text; place = place }

abbrev numbers : Bound → Bound → AstType
numbers lo hi = type_of.Scalar (scalar.Between lo hi)

abbrev message : Ident → AstMessage
message name = record { name = name; fields = [] }

abbrev process : Ident → List AstVar → AstProcess
process name vars = record { name = name; consts = []; inputs = []; vars = vars; timers = []; actions = [] }

-- of `process p var x : 3..1` the only offence is X2 at x
abbrev pub ReversedRange : Type 0
ReversedRange = (a b : Place) →
    let x : AstVar = record { name = ident (codes "x") b; kind = numbers (bound.Number (pos 3)) (bound.Number (pos 1)); initial = None } in
    let tree : Ast = record { messages = []; processes = process (ident (codes "p") a) (x ∷ []) ∷ [] } in
    declaration_offences tree ≡ offence X2 b

-- a process that has the name of a message is N2 at the process, and a variable in it that has that name is none
abbrev pub TwiceDeclared : Type 0
TwiceDeclared = (a b c : Place) →
    let x : AstVar = record { name = ident (codes "m") c; kind = numbers (bound.Number (pos 0)) (bound.Number (pos 1)); initial = None } in
    let tree : Ast = record { messages = message (ident (codes "m") a) ∷ []; processes = process (ident (codes "m") b) (x ∷ []) ∷ [] } in
    declaration_offences tree ≡ offence N2 b

-- of `x : k..l = m` without constants: N1 at k, at l, and at m
abbrev pub BoundsInOrder : Type 0
BoundsInOrder = (a b c d : Place) →
    let x : AstVar = record { name = ident (codes "x") a; kind = numbers (bound.Name (ident (codes "k") b)) (bound.Name (ident (codes "l") c)); initial = Some (bound.Name (ident (codes "m") d)) } in
    variable_offences [] [] 0 x ≡ offence N1 b ++ offence N1 c ++ offence N1 d

-- of `x : array 0 of boolean`: X2
abbrev pub NoCells : Type 0
NoCells = (a : Place) →
    let x : AstVar = record { name = ident (codes "x") a; kind = type_of.Array (pos 0) scalar.Boolean; initial = None } in
    variable_offences [] [] 0 x ≡ offence X2 a

-- of `x : array 4097 of 3..1`: X2, then X1
abbrev pub CellsPassLast : Type 0
CellsPassLast = (a : Place) →
    let x : AstVar = record { name = ident (codes "x") a; kind = type_of.Array (pos 4097) (scalar.Between (bound.Number (pos 3)) (bound.Number (pos 1))); initial = None } in
    variable_offences [] [] 0 x ≡ offence X2 a ++ offence X1 a

-- of a name of 65 bytes that is declared before: X1, then N2
abbrev pub LengthBeforeTwice : Type 0
LengthBeforeTwice = (a : Place) → let long : List ℕ = replicate 65 97 in name_offences (long ∷ []) (ident long a) ≡ offence X1 a ++ offence N2 a

-- of the fields `f : 1 bits = 1; g : 1 bits = 2`: X2 at g
abbrev pub FixedValueTooLarge : Type 0
FixedValueTooLarge = (a b : Place) →
    let f : AstField = record { name = ident (codes "f") a; width = pos 1; fixed = Some (pos 1) } in
    let g : AstField = record { name = ident (codes "g") b; width = pos 1; fixed = Some (pos 2) } in
    fields_offences (f ∷ g ∷ []) ≡ offence X2 b

-- of `process p const k = 1 inp i : 0..k var x : 0..i`: N1 at the i of x, which is an input
abbrev pub InputIsNoBound : Type 0
InputIsNoBound = (a b c d e f : Place) →
    let k : AstConst = record { name = ident (codes "k") b; value = pos 1 } in
    let i : AstVar = record { name = ident (codes "i") c; kind = numbers (bound.Number (pos 0)) (bound.Name (ident (codes "k") d)); initial = None } in
    let x : AstVar = record { name = ident (codes "x") e; kind = numbers (bound.Number (pos 0)) (bound.Name (ident (codes "i") f)); initial = None } in
    let p : AstProcess = record { name = ident (codes "p") a; consts = k ∷ []; inputs = i ∷ []; vars = x ∷ []; timers = []; actions = [] } in
    inner_offences p ≡ offence N1 f
