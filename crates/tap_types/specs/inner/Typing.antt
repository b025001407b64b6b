-- What the code answers of expressions and of their parts.
use Rattle.std.specs.Prelude.{◌≡◌, List, [], ◌++◌, map, Option, Some, Result, Ok, Err, Bool, is_some}
use Rattle.tap_base.specs.declared.place.Place.{Place}
use Rattle.tap_base.specs.declared.refusal.Refusal.{Refusal}
use Rattle.tap_base.specs.declared.tree.Expr.{Expr}
use Rattle.tap_base.specs.declared.tree.ExprKind.TheVariants as expr
use Rattle.tap_base.specs.declared.tree.Target.{Target}
use Rattle.tap_names.specs.declared.fault.TypeFault.{TypeFault}
use Rattle.tap_names.specs.declared.named.Kind.{Kind}
use Rattle.tap_names.specs.declared.named.Named.{Named}
use Rattle.tap_base.specs.ListWords.{first}
use Rattle.tap_names.specs.Refusals.{Faults}
use Rattle.tap_names.specs.Tables.{entries_of, names_in}
use Rattle.tap_types.specs.declared.leaves.ArrayAt.{ArrayAt}
use Rattle.tap_types.specs.declared.scope.Names.{Names}
use Rattle.tap_types.specs.declared.scope.Typed.{Typed}
use Rattle.tap_types.specs.declared.targets.Aimed.{Aimed}
use Rattle.tap_types.specs.declared.targets.AimedAll.{AimedAll}
use Rattle.tap_types.specs.declared.targets.Base.{Base}
use Rattle.tap_types.specs.ExprOffences.{kind_of_element, name_with_index}
use Rattle.tap_types.specs.Scopes.{Scope}
use Rattle.tap_types.specs.StmtOffences.{kind_of_target, range_of_target, target_name}
use Rattle.tap_types.specs.Systems.{element_kind, target_at}
use Rattle.tap_types.specs.inner.Listed.{AreListed}

-- what the names that the code looks up may stand for
abbrev pub scope_of : Names → Scope
scope_of n = record { messages = n.messages.now; processes = names_in (entries_of n.process_table.now); me = n.me; names = entries_of n.constants.now ++ entries_of n.others.now; received = n.received }

-- the tables of messages and processes have their names
abbrev pub IsListed : Names → Type 0
IsListed n = AreListed n.messages.now n.message_table.now n.field_tables.now n.process_table.now

-- An expression with its kind, or the first offence in it.
abbrev pub Types : List Refusal → Option Kind → Option Expr → Result Typed TypeFault → Type 0
Types offences kind named (Ok t) = (offences ≡ []) × (kind ≡ Some t.kind) × (named ≡ Some t.expr)
Types offences kind named (Err e) = Faults offences e

-- the same where no memory is taken
abbrev pub Kinds : List Refusal → Option Kind → Option Expr → Result Typed Refusal → Type 0
Kinds offences kind named (Ok t) = (offences ≡ []) × (kind ≡ Some t.kind) × (named ≡ Some t.expr)
Kinds offences kind named (Err r) = first offences ≡ Some r

-- the array that a name stands for
abbrev pub Finds : Place → Option Named → Result ArrayAt Refusal → Type 0
Finds p n (Ok a) = (name_with_index p n ≡ []) × (kind_of_element n ≡ Some a.kind) × ((i : Expr) → element_kind n i ≡ Some (expr.Element a.first a.length i))
Finds p n (Err r) = first (name_with_index p n) ≡ Some r

-- ---- targets

-- what a target's name stands for, where an index is written or not
abbrev pub Bases : Place → Option Named → Bool → Result Base Refusal → Type 0
Bases p n indexed (Ok b) =
    (target_name p n indexed ≡ []) × (kind_of_target n ≡ Some b.kind) × (range_of_target n ≡ Some b.range)
    × ((i : Option Expr) → is_some i ≡ indexed → target_at p n i ≡ Some (record { first = b.first; length = b.length; index = i; range = b.range; place = p }))
Bases p n indexed (Err r) = first (target_name p n indexed) ≡ Some r

-- a target with its kind and its range, or the first offence in it
abbrev pub Aims : List Refusal → Option Named → Option Target → Result Aimed TypeFault → Type 0
Aims offences n named (Ok a) = (offences ≡ []) × (kind_of_target n ≡ Some a.kind) × (range_of_target n ≡ Some a.target.range) × (named ≡ Some a.target)
Aims offences n named (Err e) = Faults offences e

-- targets with the kinds of what is written there, or the first offence in them
abbrev pub AimsAll : List Refusal → List (Option Kind) → Option (List Target) → Result AimedAll TypeFault → Type 0
AimsAll offences kinds named (Ok a) = (offences ≡ []) × (kinds ≡ map Some a.kinds) × (named ≡ Some a.targets)
AimsAll offences kinds named (Err e) = Faults offences e
