-- The offences of statements.
use Rattle.std.specs.Prelude.{ℕ, zero, suc, ◌^◌, ℤ, pos, ◌-ℤ◌, Bool, true, false, not, ◌&&◌, ◌==◌, int_le, List, [], ◌∷◌, ◌++◌, map, flat_map, length, Option, Some, None, is_none, is_some, slice_get}
use Rattle.tap_base.specs.declared.place.Place.{Place}
use Rattle.tap_base.specs.declared.place.Range.{Range}
use Rattle.tap_base.specs.declared.ast.AstBranch.{AstBranch}
use Rattle.tap_base.specs.declared.ast.AstExpr.{AstExpr}
use Rattle.tap_base.specs.declared.ast.AstMessage.{AstMessage}
use Rattle.tap_base.specs.declared.ast.AstStmt.{AstStmt}
use Rattle.tap_base.specs.declared.ast.AstStmt.TheFolds.{fold-AstStmt, fold-AstBranch}
use Rattle.tap_base.specs.declared.ast.AstStmt.TheOpen.{AstStmt-F, AstBranch-F}
use Rattle.tap_base.specs.declared.ast.AstTarget.{AstTarget}
use Rattle.tap_base.specs.declared.ast.Ident.{Ident}
use Rattle.tap_base.specs.declared.refusal.Refusal.{Refusal}
use Rattle.tap_base.specs.declared.refusal.RefusalCode.TheVariants.{N1, N3, K1, K2, X1}
use Rattle.tap_names.specs.declared.named.Kind.{Kind}
use Rattle.tap_names.specs.declared.named.Kind.TheVariants.{Boolean, Number}
use Rattle.tap_names.specs.declared.named.Named.{Named}
use Rattle.tap_names.specs.declared.named.Named.TheVariants as named
use Rattle.tap_types.specs.ExprOffences.{Judged, due, judged_in, value_offences}
use Rattle.tap_base.specs.ListWords.{joined, by_number}
use Rattle.tap_base.specs.Offences.{offence, where_}
use Rattle.tap_types.specs.Scopes.{Scope, named_in, message_in, process_in, free_fields}

-- ---- targets

-- a name that is not declared; or that is no variable, is an array without an index, or no array with one
abbrev pub target_name : Place → Option Named → Bool → List Refusal
target_name p None indexed = offence N1 p
target_name p (Some (named.Variable first k range)) false = []
target_name p (Some (named.Array first length k range)) true = []
target_name p (Some n) indexed = offence K1 p

abbrev pub index_offences : Scope → Option AstExpr → List Refusal
index_offences c None = []
index_offences c (Some i) = value_offences c Number i

abbrev pub target_offences : Scope → AstTarget → List Refusal
target_offences c t = target_name t.name.place (named_in c t.name.text) (is_some t.index) ++ index_offences c t.index

-- what is written there
abbrev pub kind_of_target : Option Named → Option Kind
kind_of_target (Some (named.Variable first k range)) = Some k
kind_of_target (Some (named.Array first length k range)) = Some k
kind_of_target _ = None

abbrev pub range_of_target : Option Named → Option Range
range_of_target (Some (named.Variable first k range)) = Some range
range_of_target (Some (named.Array first length k range)) = Some range
range_of_target _ = None

-- ---- assignments and choices

-- the offences of a value that goes to a target
abbrev pub value_to : Option Kind → Judged → List Refusal
value_to None e = e.offences
value_to (Some k) e = due k e

-- the kind of what is written to each target, where it is known
abbrev pub kinds_of : Scope → List AstTarget → List (Option Kind)
kinds_of c targets = map (λ t. kind_of_target (named_in c t.name.text)) targets

abbrev pub kind_at : List (Option Kind) → ℕ → Option Kind
kind_at [] i = None
kind_at (k ∷ ks) zero = k
kind_at (k ∷ ks) (suc i) = kind_at ks i

-- each value goes to the target of its number
abbrev pub values_to : Scope → List (Option Kind) → List AstExpr → List Refusal
values_to c kinds values = by_number 0 (λ i e. value_to (kind_at kinds i) (judged_in c e)) values

-- the first target, where there are not as many values as targets; a text has no assignment without targets
abbrev pub unequal : List AstTarget → List AstExpr → List Refusal
unequal [] es = []
unequal (t ∷ ts) es = where_ (not (length (t ∷ ts) == length es)) K2 t.name.place

abbrev pub assignment_offences : Scope → List AstTarget → List AstExpr → List Refusal
assignment_offences c targets values = flat_map (target_offences c) targets ++ unequal targets values ++ values_to c (kinds_of c targets) values

-- how many values a choice may have
abbrev pub most_values : ℕ
most_values = 2 ^ 32

-- more values than that
abbrev pub is_wide : Range → Bool
is_wide range = int_le (pos most_values) (range.hi -ℤ range.lo)

abbrev pub choice_width : Place → Option Range → List Refusal
choice_width p None = []
choice_width p (Some range) = where_ (is_wide range) X1 p

abbrev pub choice_offences : Scope → AstTarget → List Refusal
choice_offences c t = target_offences c t ++ choice_width t.name.place (range_of_target (named_in c t.name.text))

-- ---- messages and timers

-- a name that names no message
abbrev pub message_name : Scope → Ident → List Refusal
message_name c m = where_ (is_none (message_in c m.text)) N1 m.place

-- a peer that is no process, or is the process itself
abbrev pub peer_at : Place → ℕ → Option ℕ → List Refusal
peer_at p me None = offence N3 p
peer_at p me (Some q) = where_ (q == me) N3 p

abbrev pub peer_offences : Scope → Ident → List Refusal
peer_offences c q = peer_at q.place c.me (process_in c q.text)

-- not as many values as the message has free fields
abbrev pub value_count : Place → Option AstMessage → List AstExpr → List Refusal
value_count p None values = []
value_count p (Some m) values = where_ (not (length values == free_fields m.fields)) K2 p

-- the message that a number names
abbrev pub message_at : Scope → Option ℕ → Option AstMessage
message_at c None = None
message_at c (Some k) = slice_get c.messages k

abbrev pub send_offences : Scope → Ident → List AstExpr → Ident → List Refusal
send_offences c m values q =
    message_name c m ++ value_count m.place (message_at c (message_in c m.text)) values
    ++ flat_map (value_offences c Number) values ++ peer_offences c q

abbrev pub timer_at : Place → Option Named → List Refusal
timer_at p None = offence N1 p
timer_at p (Some (named.Timer t)) = []
timer_at p (Some n) = offence K1 p

abbrev pub timer_name : Scope → Ident → List Refusal
timer_name c t = timer_at t.place (named_in c t.text)

-- ---- statements and branches

-- how many turns a loop may make
abbrev pub most_turns : ℕ
most_turns = 65536

-- one turn or more, and no more than that
abbrev pub is_count : ℤ → Bool
is_count n = int_le (pos 1) n && int_le n (pos most_turns)

abbrev pub stmt_level : Scope → AstStmt-F (List Refusal) (List Refusal) → List Refusal
stmt_level c AstStmt-F.Skip = []
stmt_level c (AstStmt-F.Assign targets values) = assignment_offences c targets values
stmt_level c (AstStmt-F.Choose target) = choice_offences c target
stmt_level c (AstStmt-F.Send m values q) = send_offences c m values q
stmt_level c (AstStmt-F.Start t delay) = timer_name c t ++ value_offences c Number delay
stmt_level c (AstStmt-F.Stop t) = timer_name c t
stmt_level c (AstStmt-F.If branches) = joined branches
stmt_level c (AstStmt-F.Loop count place branches) = where_ (not (is_count count)) X1 place ++ joined branches

abbrev pub branch_level : Scope → AstBranch-F (List Refusal) (List Refusal) → List Refusal
branch_level c b = value_offences c Boolean b.guard ++ joined b.body

-- the offences of a statement, and of a branch
abbrev pub stmt_offences : Scope → AstStmt → List Refusal
stmt_offences c = fold-AstStmt (List Refusal) (List Refusal) (stmt_level c) (branch_level c)

abbrev pub branch_offences : Scope → AstBranch → List Refusal
branch_offences c = fold-AstBranch (List Refusal) (List Refusal) (stmt_level c) (branch_level c)

-- of a list of statements, from left to right
abbrev pub body_offences : Scope → List AstStmt → List Refusal
body_offences c body = joined (map (stmt_offences c) body)
