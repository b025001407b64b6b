-- The kind of an expression, and its offences.
use Rattle.std.specs.Prelude.{ℕ, Bool, not, if◌then◌else◌, List, [], ◌++◌, Option, Some, None, is_none}
use Rattle.tap_base.specs.declared.place.Place.{Place}
use Rattle.tap_base.specs.declared.ast.AstExpr.{AstExpr}
use Rattle.tap_base.specs.declared.ast.AstKind.TheFolds.{fold-AstExpr}
use Rattle.tap_base.specs.declared.ast.AstKind.TheOpen.{AstKind-F, AstExpr-F}
use Rattle.tap_base.specs.declared.refusal.Refusal.{Refusal}
use Rattle.tap_base.specs.declared.refusal.RefusalCode.TheVariants.{N1, K1}
use Rattle.tap_names.specs.declared.named.Kind.{Kind}
use Rattle.tap_names.specs.declared.named.Kind.TheVariants.{Boolean, Number}
use Rattle.tap_names.specs.declared.named.Named.{Named}
use Rattle.tap_names.specs.declared.named.Named.TheVariants as named
use Rattle.tap_names.specs.Kinds.{same_kind, taken_by, given_by}
use Rattle.tap_base.specs.Offences.{offence, where_}
use Rattle.tap_types.specs.Scopes.{Scope, named_in, message_in, field_in, is_number}

-- An expression as it is judged: where its root stands, its kind where that is known, and its offences in text order.
pub record Judged : Type 0 where
  pub place : Place
  pub kind : Option Kind
  pub offences : List Refusal

-- the same of a root whose place is not told yet
pub record Verdict : Type 0 where
  pub kind : Option Kind
  pub offences : List Refusal

abbrev pub verdict : Option Kind → List Refusal → Verdict
verdict k offences = record { kind = k; offences = offences }

-- the place, where the kind that stands there is known and is another one
abbrev pub other_kind : Kind → Place → Option Kind → List Refusal
other_kind k p None = []
other_kind k p (Some l) = where_ (not (same_kind l k)) K1 p

-- the root of an expression of another kind
abbrev pub wrong_kind : Kind → Judged → List Refusal
wrong_kind k e = other_kind k e.place e.kind

-- the offences of an expression where one of a kind is due
abbrev pub due : Kind → Judged → List Refusal
due k e = e.offences ++ wrong_kind k e

-- ---- names

abbrev pub kind_of_name : Option Named → Option Kind
kind_of_name (Some (named.Constant v)) = Some Number
kind_of_name (Some (named.Input n k)) = Some k
kind_of_name (Some (named.Variable first k range)) = Some k
kind_of_name _ = None

-- a name that is not declared, or that has no value by itself
abbrev pub name_alone : Place → Option Named → List Refusal
name_alone p None = offence N1 p
name_alone p (Some n) = where_ (is_none (kind_of_name (Some n))) K1 p

abbrev pub kind_of_element : Option Named → Option Kind
kind_of_element (Some (named.Array first length k range)) = Some k
kind_of_element _ = None

-- a name that is not declared, or that is no array
abbrev pub name_with_index : Place → Option Named → List Refusal
name_with_index p None = offence N1 p
name_with_index p (Some n) = where_ (is_none (kind_of_element (Some n))) K1 p

-- ---- fields of what is received

-- a field of the message m, of which it is asked whether the action receives it
abbrev pub part_of : Place → Bool → Option ℕ → List Refusal
part_of p received f = if received then where_ (is_none f) N1 p else offence K1 p

abbrev pub part_offences : Scope → Place → List ℕ → Option ℕ → List Refusal
part_offences c p f None = offence N1 p
part_offences c p f (Some m) = part_of p (is_number m c.received) (field_in c m f)

-- ---- operations

-- two of one kind, judged at the second; or both of the kind that the operation takes, judged at the first that is not
abbrev pub two_alike : Option Kind → Place → Option Kind → List Refusal
two_alike None q l = []
two_alike (Some k) q l = other_kind k q l

abbrev pub operand_offences : Option Kind → Place → Option Kind → Place → Option Kind → List Refusal
operand_offences None p k q l = two_alike k q l
operand_offences (Some due) p k q l = other_kind due p k ++ other_kind due q l

-- ---- expressions

-- one level of an expression, by how its parts are judged
abbrev pub judged_level : Scope → AstKind-F (Place → Verdict) Judged → Place → Verdict
judged_level c (AstKind-F.Number n) p = verdict (Some Number) []
judged_level c (AstKind-F.Truth b) p = verdict (Some Boolean) []
judged_level c (AstKind-F.Name x) p = verdict (kind_of_name (named_in c x)) (name_alone p (named_in c x))
judged_level c (AstKind-F.Index x i) p = verdict (kind_of_element (named_in c x)) (name_with_index p (named_in c x) ++ due Number i)
judged_level c (AstKind-F.Part m f) p = verdict (Some Number) (part_offences c p f (message_in c m))
judged_level c (AstKind-F.Not e) p = verdict (Some Boolean) (due Boolean e)
judged_level c (AstKind-F.Neg e) p = verdict (Some Number) (due Number e)
judged_level c (AstKind-F.Binary o a b) p = verdict (Some (given_by o)) (a.offences ++ b.offences ++ operand_offences (taken_by o) a.place a.kind b.place b.kind)

abbrev pub judged_root : AstExpr-F (Place → Verdict) Judged → Judged
judged_root e = record { place = e.place; kind = (e.kind e.place).kind; offences = (e.kind e.place).offences }

-- how an expression is judged
abbrev pub judged_in : Scope → AstExpr → Judged
judged_in c = fold-AstExpr (Place → Verdict) Judged (judged_level c) judged_root

-- the offences of an expression where one of a kind is due
abbrev pub value_offences : Scope → Kind → AstExpr → List Refusal
value_offences c k e = due k (judged_in c e)
